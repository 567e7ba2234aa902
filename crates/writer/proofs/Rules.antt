-- Rules, with or without days: m of them stand between two positions as they are written, and what is copied is their count and they. Assumes nothing.
use mathlib.Core.List.{List, ◌∷◌, ◌++◌, append_assoc}
use mathlib.Core.Path.{◌≡◌, sym, ap, ap₂, ◌∙◌}
use Prim.Native.Nat.{ℕ, suc, ◌-◌, ◌*◌}
use native.Mathlib.Omega.{arith}
use lib.ListN.{length, take, length-append, take-append-drop}
use lib.Seq.{take_at}
use Rattle.paper.specs.Result.{refused, Reader, return, ◌>>=◌, repeat}
use Rattle.paper.specs.Bits.{to_bits, field}
use Rattle.paper.specs.Book.{Operator, Rule}
use Rattle.paper.specs.Reader.{read_rule}
use Rattle.paper.specs.Writer.{concat, write_side, write_rule}
use Rattle.paper.specs.Dated.{DatedRule}
use Rattle.paper.proofs.Readers.{refused_accepted, bind_accepted, bind_return}
use Rattle.bits.proofs.Reading.{Got, bits_left}
use Rattle.std.specs.Prelude.{Ok, Err}
use Rattle.refusal.specs.declared.Refusal.{Refusal}
use Rattle.refusal.specs.Numbers.{number}
use Rattle.side.specs.declared.RuleEnd.{RuleEnd}
use Rattle.side.specs.Promises.{bits_at, RuleAt, RuleRead}
use Rattle.strategy.proofs.Reading.{bind_refused}
use Rattle.writer.specs.Promises.{BitsPut, read_rule_at, write_rule_at, read_rules, RulesEnd, RulesWritten}
use Rattle.writer.proofs.Puts.{put_as, got_bits}
use Rattle.writer.proofs.Operators.{return_same, Split, split, repeat_none, repeat_long}

module _ (bytes : List ℕ) (at d n : ℕ) (operators : List ℕ) (k : ℕ) where
  pub rules_none : k ≡ 0 → RulesEnd bytes at d n operators k at
  unfolding concat
  rules_none h = record {
    are = λ ops t rules left e.
        let x = (repeat_none (read_rule_at d ops) (bits_at bytes at) rules left (ap (λ (i : ℕ). repeat i (read_rule_at d ops) (bits_at bytes at)) (sym h) ∙ e)).0 in
        ap (λ (rs : List DatedRule). concat (write_rule_at d) rs ++ bits_at bytes at) x;
  }

  module _ (k' : ℕ) (h : k ≡ suc k') where
    first : (ops : List Operator) (rules : List DatedRule) (left : List ℕ) → repeat k (read_rule_at d ops) (bits_at bytes at) ≡ return rules left →
        Split (read_rule_at d ops) k' (bits_at bytes at) rules left
    first ops rules left e =
        split (read_rule_at d ops) k' (bits_at bytes at) rules left (ap (λ (i : ℕ). repeat i (read_rule_at d ops) (bits_at bytes at)) (sym h) ∙ e)

    pub rules_out_of_bits : (end : ℕ) {r : ℕ} → field d (bits_at bytes at) ≡ refused r → RulesEnd bytes at d n operators k end
    unfolding read_rule_at return
    rules_out_of_bits end q = record {
      are = λ ops t rules left e.
          let s = first ops rules left e in
          absurd (refused_accepted (sym (bind_refused (field d) _ (bits_at bytes at) _ q) ∙ s.first_is));
    }

    module _ (v p : ℕ) (g : Got bytes at d v p) where
      dated : Rule → Reader DatedRule
      dated r = return (record { day = v; rule = r })

      -- the rule behind its day
      behind : (ops : List Operator) → read_rule_at d ops (bits_at bytes at) ≡ (read_rule ops >>= dated) (bits_at bytes p)
      unfolding read_rule_at dated
      behind ops = bind_return (field d) _ (bits_at bytes at) (bits_at bytes p) v g.is

      pub rules_refused : (r : Refusal) (end : ℕ) → RuleAt bytes p n operators (Err r) → RulesEnd bytes at d n operators k end
      unfolding return
      rules_refused r end q = record {
        are = λ ops t rules left e.
            let s = first ops rules left e in
            absurd (refused_accepted (sym (behind ops ∙ bind_refused (read_rule ops) dated (bits_at bytes p) (number r) (q.is ops t)) ∙ s.first_is));
      }

      -- a rule's bits, its day before them
      stands : (ops : List Operator) (x : RuleEnd) (r : RuleRead ops bytes p x) →
          bits_at bytes at ≡ write_rule_at d (record { day = v; rule = r.rule }) ++ bits_at bytes x.next
      unfolding write_rule_at write_rule
      stands ops x r =
          let one : Rule = r.rule in
          let next : List ℕ = bits_at bytes x.next in
          sym (take-append-drop d (bits_at bytes at))
          ∙ ap₂ (λ (xs ys : List ℕ). xs ++ ys) (sym (got_bits g).0)
          (sym (got_bits g).1
          ∙ r.left_written
          ∙ ap (λ (xs : List ℕ). write_side one.left ++ xs) r.right_written
          ∙ sym (append_assoc (write_side one.left) (write_side one.right) next))
          ∙ sym (append_assoc (to_bits d v) (write_rule one) next)

      pub rules_more : (x : RuleEnd) (end : ℕ) → RuleAt bytes p n operators (Ok x) → RulesEnd bytes x.next d n operators k' end →
          RulesEnd bytes at d n operators k end
      unfolding concat dated
      rules_more x end q w = record {
        are = λ ops t rules left e.
            let s = first ops rules left e in
            let r = q.is ops t in
            let one : DatedRule = record { day = v; rule = r.rule } in
            let (i, y) = return_same
            (sym (behind ops ∙ bind_return (read_rule ops) dated (bits_at bytes p) (bits_at bytes x.next) r.rule r.is) ∙ s.first_is) in
            let z = w.are ops t s.others left (ap (repeat k' (read_rule_at d ops)) y ∙ s.others_are) in
            stands ops x r
            ∙ ap (λ (xs : List ℕ). write_rule_at d one ++ xs) z
            ∙ sym (append_assoc (write_rule_at d one) (concat (write_rule_at d) s.others) (bits_at bytes end))
            ∙ ap (λ (u : DatedRule). concat (write_rule_at d) (u ∷ s.others) ++ bits_at bytes end) i
            ∙ ap (λ (rs : List DatedRule). concat (write_rule_at d) rs ++ bits_at bytes end) s.all;
      }

module _ (bytes : List ℕ) (at d n : ℕ) (operators : List ℕ) (to : ℕ) (out out' : List ℕ) (to' : ℕ) where
  pub rules_out : {k : ℕ} → field 8 (bits_at bytes at) ≡ refused k → RulesWritten bytes at d n operators to out out' to'
  unfolding read_rules return
  rules_out h = record { are = λ ops t rules left e. absurd (refused_accepted (sym (bind_refused (field 8) _ (bits_at bytes at) _ h) ∙ e)) }

  pub rules_copied : (v m p end k : ℕ) → Got bytes at 8 v p → m ≡ v → RulesEnd bytes p d n operators m end →
      k ≡ (8 * length bytes - at) - (8 * length bytes - end) → BitsPut to (take k (bits_at bytes at)) out out' to' →
      RulesWritten bytes at d n operators to out out' to'
  unfolding read_rules return
  rules_copied v m p end k g f w h u = record {
    are = λ ops t rules left e.
        let (a, q, e₁) = bind_accepted (field 8) (λ m. repeat m (read_rule_at d ops)) (bits_at bytes at) _ e in
        let (x, y) = return_same (sym g.is ∙ q) in
        let c : repeat m (read_rule_at d ops) (bits_at bytes p) ≡ return rules left =
        ap₂ (λ (i : ℕ) (xs : List ℕ). repeat i (read_rule_at d ops) xs) (f ∙ x) y ∙ e₁ in
        let l : length rules ≡ m = repeat_long (read_rule_at d ops) m (bits_at bytes p) rules left c in
        let (b₀, b₁) = got_bits g in
        let ws : List ℕ = concat (write_rule_at d) rules in
        let front : List ℕ = to_bits 8 v ++ ws in
        let all : bits_at bytes at ≡ front ++ bits_at bytes end =
        sym (take-append-drop 8 (bits_at bytes at))
        ∙ ap₂ (λ (xs ys : List ℕ). xs ++ ys) (sym b₀) (sym b₁ ∙ w.are ops t rules left c)
        ∙ sym (append_assoc (to_bits 8 v) ws (bits_at bytes end)) in
        let i : length front ≡ k = omega (arith, ap length all, length-append front (bits_at bytes end), bits_left bytes at, bits_left bytes end) in
        put_as (ap (take k) all ∙ take_at front (bits_at bytes end) k i ∙ ap (λ (j : ℕ). to_bits 8 j ++ ws) (sym f ∙ sym l)) u;
  }
