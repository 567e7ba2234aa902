-- Operators: what is read is what is written, one and n of them. Assumes nothing.
use mathlib.Core.List.{List, [], ◌∷◌, ◌++◌}
use mathlib.Core.Path.{◌≡◌, refl, sym, ap, ap₂, ◌∙◌}
use Prim.Native.Nat.{ℕ, zero, suc}
use lib.ListN.{length, take}
use Rattle.paper.specs.Result.{refused, Read, Reader, return, ◌>>=◌, repeat}
use Rattle.paper.specs.Bits.{to_bits, field}
use Rattle.paper.specs.Reader.{read_strategy, read_operator}
use Rattle.paper.specs.Writer.{concat, write_strategy, write_operator}
use Rattle.paper.proofs.Readers.{accepted_injective, refused_accepted, bind_accepted, bind_return}
use Rattle.bits.proofs.Reading.{Got}
use Rattle.std.specs.Prelude.{Ok, Err}
use Rattle.refusal.specs.declared.Refusal.{Refusal}
use Rattle.refusal.specs.Numbers.{number}
use Rattle.strategy.specs.declared.Listed.{Listed}
use Rattle.strategy.specs.Promises.{StrategyAt}
use Rattle.strategy.proofs.Reading.{bind_refused, strategy_refused, strategy_read}
use Rattle.book.proofs.Operators.{made, operator_strategy}
use Rattle.side.specs.Promises.{bits_at}
use Rattle.writer.specs.Promises.{BitsPut, list_bits, OperatorWritten, OperatorsWritten}
use Rattle.writer.proofs.Puts.{put_none, put_as, put_both}

-- Readings

pub return_same : {A : Type 0} {a b : A} {xs ys : List ℕ} → return a xs ≡ return b ys → (a ≡ b) × (xs ≡ ys)
unfolding return
return_same {A} e = let p = accepted_injective e in (ap (λ (r : Read A). r.value) p, ap (λ (r : Read A). r.left) p)

module _ {A : Type 0} where
  -- the first of several readings, and the others
  pub record Split (p : Reader A) (n : ℕ) (xs : List ℕ) (as' : List A) (left : List ℕ) : Type 0 where
    pub first : A
    pub others : List A
    pub mid : List ℕ
    pub first_is : p xs ≡ return first mid
    pub others_are : repeat n p mid ≡ return others left
    pub all : first ∷ others ≡ as'

  pub split : (p : Reader A) (n : ℕ) (xs : List ℕ) (as' : List A) (left : List ℕ) → repeat (suc n) p xs ≡ return as' left → Split p n xs as' left
  unfolding repeat return
  split p n xs as' left e =
      let (a, q, e₁) = bind_accepted p (λ a. repeat n p >>= (λ as'. return (a ∷ as'))) xs _ e in
      let (b, s, e₂) = bind_accepted (repeat n p) (λ as'. return (a.value ∷ as')) a.left _ e₁ in
      let (f, g) = return_same e₂ in
      record { first = a.value; others = b.value; mid = a.left; first_is = q; others_are = s ∙ ap (return b.value) g; all = f }

  pub repeat_none : (p : Reader A) (xs : List ℕ) (as' : List A) (left : List ℕ) → repeat 0 p xs ≡ return as' left → ([] ≡ as') × (xs ≡ left)
  unfolding repeat return
  repeat_none p xs as' left e = return_same e

  pub repeat_long : (p : Reader A) (n : ℕ) (xs : List ℕ) (as' : List A) (left : List ℕ) → repeat n p xs ≡ return as' left → length as' ≡ n
  repeat_long p zero xs as' left e = ap length (sym (repeat_none p xs as' left e).0)
  repeat_long p (suc n) xs as' left e =
      let s = split p n xs as' left e in
      ap length (sym s.all) ∙ ap suc (repeat_long p n s.mid s.others left s.others_are)

-- One operator

module _ (bytes : List ℕ) (at to : ℕ) (out out' : List ℕ) (at' to' : ℕ) where
  pub operator_out : {k : ℕ} → field 3 (bits_at bytes at) ≡ refused k → OperatorWritten bytes at to out out' at' to'
  unfolding read_operator return
  operator_out h = record { is = λ op left e. absurd (refused_accepted (sym (bind_refused (field 3) _ (bits_at bytes at) _ h) ∙ e)) }

  module _ (a p : ℕ) (g : Got bytes at 3 a p) (items : List ℕ) where
    pub operator_refused : (k : Refusal) → StrategyAt bytes p a items (Err k) → OperatorWritten bytes at to out out' at' to'
    unfolding return
    operator_refused k s = record {
      is = λ op left e.
          let f = bind_refused (field 1 >>= read_strategy a) (made a) (bits_at bytes p) (number k) (strategy_refused bytes p a items (Err k) s k refl) in
          absurd (refused_accepted (sym (operator_strategy g ∙ f) ∙ e));
    }

    pub operator_read : (l : Listed) (v : ℕ) → StrategyAt bytes p a items (Ok l) → l.next ≡ at' → a ≡ v →
        BitsPut to (to_bits 3 v ++ list_bits a (take l.len items)) out out' to' → OperatorWritten bytes at to out out' at' to'
    unfolding made write_operator write_strategy list_bits
    operator_read l v s q h w = record {
      is = λ op left e.
          let k = s.settled.1 in
          let f = bind_return (field 1 >>= read_strategy a) (made a) (bits_at bytes p) (bits_at bytes l.next) k.strategy
          (strategy_read bytes p a items (Ok l) s l refl k) in
          let (x, y) = return_same (sym (operator_strategy g ∙ f) ∙ e) in
          (ap (bits_at bytes) (sym q) ∙ y, put_as (ap₂ (λ (j : ℕ) (vs : List ℕ). to_bits 3 j ++ list_bits a vs) (sym h) k.are ∙ ap write_operator x) w);
    }

-- n operators

module _ (bytes : List ℕ) (at k to : ℕ) (out : List ℕ) where
  pub operators_none : k ≡ 0 → OperatorsWritten bytes at k to out out at to
  unfolding concat
  operators_none h = record {
    are = λ ops left e.
        let (x, y) = repeat_none read_operator (bits_at bytes at) ops left (ap (λ (i : ℕ). repeat i read_operator (bits_at bytes at)) (sym h) ∙ e) in
        (y, put_as (ap (concat write_operator) x) (put_none to out));
  }

  pub operators_more : (k' at₁ to₁ : ℕ) (out₁ : List ℕ) → k ≡ suc k' → OperatorWritten bytes at to out out₁ at₁ to₁ → {out' : List ℕ} {at' to' : ℕ} →
      OperatorsWritten bytes at₁ k' to₁ out₁ out' at' to' → OperatorsWritten bytes at k to out out' at' to'
  unfolding concat
  operators_more k' at₁ to₁ out₁ h p q = record {
    are = λ ops left e.
        let s = split read_operator k' (bits_at bytes at) ops left (ap (λ (i : ℕ). repeat i read_operator (bits_at bytes at)) (sym h) ∙ e) in
        let (x, w) = p.is s.first s.mid s.first_is in
        let (y, v) = q.are s.others left (ap (repeat k' read_operator) x ∙ s.others_are) in
        (y, put_as (ap (concat write_operator) s.all) (put_both w v));
  }
