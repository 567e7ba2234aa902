-- Rules: a rule that is read stands where it was read, the table grows by it, and m rules are read one by one. Assumes nothing.
use mathlib.Core.Bool.{Bool, true, false, true≢false}
use mathlib.Core.List.{List, [], ◌∷◌, ◌++◌, map}
use mathlib.Core.Path.{◌≡◌, refl, sym, ap, ◌∙◌, subst}
use Prim.Native.Nat.{ℕ, zero, suc, ◌+◌, ◌-◌, ◌*◌, ◌^◌, ◌≤◌, ◌<◌}
use native.Mathlib.Nat.{le_antisymm}
use native.Mathlib.Omega.{arith}
use lib.ListN.{length, get_or, set, replicate, length-append, length-map, length-set, length-replicate}
use lib.Seq.{get_or-set_same, get_or-set_other}
use Rattle.paper.specs.Result.{return, ◌>>=◌, repeat}
use Rattle.paper.specs.Book.{Operator, Rule, arity_at}
use Rattle.paper.specs.Dated.{DatedRule, read_dated_rule}
use Rattle.paper.specs.Writer.{write_side}
use Rattle.paper.proofs.Rules.{then_is}
use Rattle.tables.specs.Layout.{arity_in, left_in, right_in, with_sides, with_day}
use Rattle.tables.specs.Tables.{RuleIn, Sides}
use Rattle.tables.proofs.Laws.{stand_inside}
use Rattle.tables.proofs.Grow.{snoc_each, rules_grow, day_sides}
use Rattle.side.specs.Promises as S
use Rattle.side.specs.Promises.{bits_at}
use Rattle.side.specs.declared.RuleEnd.{RuleEnd}
use Rattle.side.proofs.Symbols.{then_refused}
use Rattle.standing.specs.Dates.{DatedIn, Dates}
use Rattle.book.specs.Promises.{read_rule_of, DayIs, DayPassed, undated_rules, RulesIn, RuleTaken, RulesTaken}
use Rattle.std.specs.Prelude.{Ok, Err}
use Rattle.refusal.specs.declared.Refusal.{Refusal}
use Rattle.refusal.specs.Numbers.{number}
use Rattle.book.proofs.Readers.{repeat_next, repeat_stops}

map_append : {A C : Type 0} (f : A → C) (xs ys : List A) → map f (xs ++ ys) ≡ map f xs ++ map f ys
map_append f [] ys = refl
map_append f (x ∷ xs) ys = ap (λ (zs : List _). f x ∷ zs) (map_append f xs ys)

-- A rule that is read stands where it was read

rule_stands : (ops : List Operator) (bytes : List ℕ) (at : ℕ) (e : RuleEnd) (q : S.RuleRead ops bytes at e) → RuleIn bytes q.rule at e.right
unfolding write_side
rule_stands ops bytes at e q = record {
  left_stands = record { rest = bits_at bytes e.right; is = q.left_written };
  right_stands = record { rest = bits_at bytes e.next; is = q.right_written };
}

-- some operators that have the arities of a table
with_arities : List ℕ → ℕ → ℕ → List Operator
with_arities operators k zero = []
with_arities operators k (suc n) = record { arity = arity_in operators k; strategy = [] } ∷ with_arities operators (suc k) n

with_length : (operators : List ℕ) (k n : ℕ) → length (with_arities operators k n) ≡ n
unfolding with_arities
with_length operators k zero = refl
with_length operators k (suc n) = ap suc (with_length operators (suc k) n)

with_says : (operators : List ℕ) (k n o i : ℕ) → o < n → i ≡ k + o → arity_in operators i ≡ arity_at (with_arities operators k n) o
unfolding with_arities
with_says operators k zero o i l e = absurd (omega arith)
with_says operators k (suc n) zero i l e = let j : i ≡ k = omega arith in ap (arity_in operators) j
with_says operators k (suc n) (suc o) i l e = with_says operators (suc k) n o i (omega arith) (omega arith)

-- a rule's days and sides, which the table takes behind those that it holds
module _ (bytes : List ℕ) (dated : Bool) (r : DatedRule) (i l e : ℕ) (rules : List ℕ) (b : i < 255) (here : RuleIn bytes r.rule l e)
    (day : dated ≡ true → DatedIn bytes r l e) where
  dates_grow : length rules ≡ 512 → (rs : List DatedRule) → length rs ≡ i → Dates bytes rs rules → dated ≡ true → Dates bytes (rs ++ (r ∷ [])) (with_sides rules i l e)
  dates_grow long rs count d f =
      let mid : List ℕ = set rules i l in
      let other : (k : ℕ) → (k ≡ i → ⊥) → (k ≡ 256 + i → ⊥) → get_or (with_sides rules i l e) k 0 ≡ get_or rules k 0 =
      λ k m n. get_or-set_other mid (256 + i) k e 0 n ∙ get_or-set_other rules i k l 0 m in
      record {
        each = snoc_each _ rs r i
            (λ j a. DatedIn bytes a (left_in rules j) (right_in rules j))
            (λ j a. DatedIn bytes a (left_in (with_sides rules i l e) j) (right_in (with_sides rules i l e) j))
            count d.each
            (λ j a c p. rw (other j (λ q. omega arith) (λ q. omega arith), other (256 + j) (λ q. omega arith) (λ q. omega arith)) p)
            (rw (
              get_or-set_other mid (256 + i) i e 0 (λ q. omega arith),
              get_or-set_same rules i l 0 (omega arith),
              get_or-set_same mid (256 + i) e 0 (omega (arith, length-set rules i l)),
            ) (day f));
      }

  all_grow : (rs : List DatedRule) → length rs ≡ i → RulesIn dated bytes rs rules → RulesIn dated bytes (rs ++ (r ∷ [])) (with_sides rules i l e)
  all_grow rs count u = record {
    sides =
        subst (λ (qs : List Rule). Sides bytes qs (with_sides rules i l e)) (sym (map_append (λ (r : DatedRule). r.rule) rs (r ∷ [])))
        (rules_grow bytes r.rule i l e rules b here (undated_rules rs) (length-map rs (λ r. r.rule) ∙ count) u.sides);
    dates = λ f. dates_grow u.sides.long rs count (u.dates f) f;
  }

-- the sides and days of at most 255 rules stay where the day of the table is put
pub day_put : {bytes : List ℕ} {dated : Bool} {rs : List DatedRule} {rules : List ℕ} (day : ℕ) → length rs < 256 → RulesIn dated bytes rs rules →
    RulesIn dated bytes rs (with_day rules day)
day_put {rs = rs} {rules = rules} day few u = record {
  sides = day_sides rules day (omega (arith, length-map rs (λ r. r.rule))) u.sides;
  dates = λ f. record {
    each = λ j l. rw (get_or-set_other rules 255 j day 0 (λ q. omega arith), get_or-set_other rules 255 (256 + j) day 0 (λ q. omega arith)) ((u.dates f).each j l);
  };
}

module _ {bytes : List ℕ} {at n : ℕ} {operators : List ℕ} {e : RuleEnd} (q : S.RuleAt bytes at n operators (Ok e)) where
  -- its positions are small
  pub rule_inside : length bytes ≤ 65536 → (at < 2 ^ 32) × (e.right < 2 ^ 32)
  rule_inside l =
      let ops : List Operator = with_arities operators 0 n in
      let s = q.is ops (record { count = with_length operators 0 n; says = λ o k. with_says operators 0 n o o k (omega arith) }) in
      let h = rule_stands ops bytes at e s in
      let a : at < 8 * length bytes = stand_inside bytes at s.rule.left h.left_stands in
      let b : e.right < 8 * length bytes = stand_inside bytes e.right s.rule.right h.right_stands in
      (omega arith, omega arith)

  -- behind its day, or with no day before it
  pub rule_read : {i before : ℕ} {rules rules' : List ℕ} {dated : Bool} → DayPassed bytes before dated (Ok at) → i < 255 →
      rules' ≡ with_sides rules i at e.right → RuleTaken bytes before dated n operators i rules rules' (Ok e.next)
  unfolding read_rule_of read_dated_rule ◌>>=◌ return
  rule_read {i} {before} {rules} {rules'} {dated} p l f = go dated p.is
    where
      go : (dated : Bool) → DayIs dated bytes before (Ok at) → RuleTaken bytes before dated n operators i rules rules' (Ok e.next)
      go true (day, is, ends) = record {
        is = λ ops t.
            let s = q.is ops t in
            let back : at - 16 ≡ before = omega arith in (
              record { day = day; rule = s.rule },
              then_is _ _ _ _ is (then_is _ _ _ _ s.is refl),
              rw f
                  (all_grow bytes true (record { day = day; rule = s.rule }) i at e.right rules l (rule_stands ops bytes at e s)
                  (λ g. record { early = omega arith; day_read = rw back is; left_ends = s.left_written })),
            );
      }
      go false ends = record {
        is = λ ops t.
            let s = q.is ops t in (
              record { day = 0; rule = s.rule },
              then_is _ _ _ _ (rw ends at s.is) refl,
              rw f
                  (all_grow bytes false (record { day = 0; rule = s.rule }) i at e.right rules l (rule_stands ops bytes at e s)
                  (λ g. absurd (true≢false (sym g)))),
            );
      }

pub day_refused : {bytes : List ℕ} {at n i : ℕ} {k : Refusal} {operators rules : List ℕ} {dated : Bool} → DayPassed bytes at dated (Err k) →
    RuleTaken bytes at dated n operators i rules rules (Err k)
unfolding read_rule_of read_dated_rule ◌>>=◌
day_refused {bytes} {at} {n} {i} {k} {operators} {rules} {dated} p = go dated p.is
  where
    go : (dated : Bool) → DayIs dated bytes at (Err k) → RuleTaken bytes at dated n operators i rules rules (Err k)
    go true e = record { is = λ ops t. then_refused _ _ (number k) e }
    go false e = absurd e

pub rule_refused : {bytes : List ℕ} {at left n i : ℕ} {k : Refusal} {operators rules : List ℕ} {dated : Bool} → DayPassed bytes at dated (Ok left) →
    S.RuleAt bytes left n operators (Err k) → RuleTaken bytes at dated n operators i rules rules (Err k)
unfolding read_rule_of read_dated_rule ◌>>=◌
rule_refused {bytes} {at} {left} {n} {i} {k} {operators} {rules} {dated} p q = go dated p.is
  where
    go : (dated : Bool) → DayIs dated bytes at (Ok left) → RuleTaken bytes at dated n operators i rules rules (Err k)
    go true (day, is, ends) = record { is = λ ops t. then_is _ _ _ _ is (then_refused _ _ (number k) (q.is ops t)) }
    go false ends = record { is = λ ops t. then_refused _ _ (number k) (rw ends at (q.is ops t)) }

-- One by one

module _ {bytes : List ℕ} {at n : ℕ} {dated : Bool} {operators rules : List ℕ} where
  pub rules_none : rules ≡ replicate 512 0 → RulesTaken bytes at dated n operators 0 rules (Ok at)
  unfolding repeat
  rules_none e = rw e (record {
    are = λ ops t. (
      [],
      refl,
      (
        refl,
        record {
          sides = record { each = λ i l. absurd (omega arith); long = length-replicate {A = ℕ} 512 0 };
          dates = λ f. record { each = λ i l. absurd (omega arith) };
        },
      ),
    );
  })

  pub rules_all : {i m p : ℕ} → i ≤ m → m ≤ i → RulesTaken bytes at dated n operators i rules (Ok p) → RulesTaken bytes at dated n operators m rules (Ok p)
  rules_all {p = p} h k = subst (λ (j : ℕ). RulesTaken bytes at dated n operators j rules (Ok p)) (le_antisymm h k)

  module _ {i p : ℕ} {rules' : List ℕ} (h : RulesTaken bytes at dated n operators i rules (Ok p)) where
    pub rules_next : {next : ℕ} → RuleTaken bytes p dated n operators i rules rules' (Ok next) →
        RulesTaken bytes at dated n operators (i + 1) rules' (Ok next)
    rules_next {next} q = record {
      are = λ ops t.
          let (rs, are, (count, u)) = h.are ops t in
          let (rule, is, grow) = q.is ops t in (
            rs ++ (rule ∷ []),
            repeat_next (read_rule_of dated ops) i (bits_at bytes at) (bits_at bytes p) rs are rule (bits_at bytes next) is,
            (length-append rs (rule ∷ []) ∙ ap (λ (k : ℕ). k + 1) count, grow rs count u),
          );
    }

    pub rules_stop : {m : ℕ} {k : Refusal} → i < m → RuleTaken bytes p dated n operators i rules rules' (Err k) →
        RulesTaken bytes at dated n operators m rules' (Err k)
    rules_stop {m} {k} l q = record {
      are = λ ops t. let (rs, are, u) = h.are ops t in repeat_stops (read_rule_of dated ops) i (bits_at bytes at) (bits_at bytes p) rs are m (number k) l (q.is ops t);
    }
