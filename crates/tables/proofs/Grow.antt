-- The rules' table: it grows by a rule at its end, and what the day and the count leave alone. Assumes nothing.
use mathlib.Core.List.{List, [], ◌∷◌, ◌++◌}
use mathlib.Core.Logic.{◌⊎◌, inl, inr}
use mathlib.Core.Path.{◌≡◌, refl, sym, ◌∙◌, subst}
use Prim.Native.Nat.{ℕ, ◌+◌, ◌≤◌, ◌<◌}
use native.Mathlib.Omega.{arith}
use lib.ListN.{length, get_or, set, length-append, length-set, get_or-append}
use lib.Seq.{get_or_at, get_or-set_same, get_or-set_other}
use borrow.Author.Count.{below_more}
use Rattle.paper.specs.Book.{Rule}
use Rattle.tables.specs.Layout.{day_in, count_in, left_in, right_in, with_sides, with_day, with_count}
use Rattle.tables.specs.Tables.{RuleIn, Sides}

-- what holds of each entry and of one more, where what is kept of an entry (Q) follows from what was known of it (P)
pub snoc_each : {A : Type 0} (d : A) (xs : List A) (x : A) (n : ℕ) (P Q : ℕ → A → Type 0) → length xs ≡ n →
    ((i : ℕ) → i < length xs → P i (get_or xs i d)) → ((i : ℕ) (a : A) → i < n → P i a → Q i a) → Q n x →
    (i : ℕ) → i < length (xs ++ (x ∷ [])) → Q i (get_or (xs ++ (x ∷ [])) i d)
snoc_each d xs x n P Q e each keep here i l =
    below_more (λ i. Q i (get_or (xs ++ (x ∷ [])) i d)) n
    (λ i l. subst (Q i) (sym (get_or-append xs (x ∷ []) d i (omega arith))) (keep i (get_or xs i d) l (each i (omega arith))))
    (subst (Q n) (sym (get_or_at xs x [] d n e)) here)
    i (omega (arith, length-append xs (x ∷ [])))

-- RULES

pub rules_grow : (bytes : List ℕ) (rule : Rule) (i l r : ℕ) (rules : List ℕ) → i < 255 → RuleIn bytes rule l r →
    (rs : List Rule) → length rs ≡ i → Sides bytes rs rules → Sides bytes (rs ++ (rule ∷ [])) (with_sides rules i l r)
rules_grow bytes rule i l r rules b here rs count t =
    let mid : List ℕ = set rules i l in
    let long : length mid ≡ 512 = length-set rules i l ∙ t.long in
    let other : (k : ℕ) → (k ≡ i → ⊥) → (k ≡ 256 + i → ⊥) → get_or (with_sides rules i l r) k 0 ≡ get_or rules k 0 =
    λ k m n. get_or-set_other mid (256 + i) k r 0 n ∙ get_or-set_other rules i k l 0 m in
    record {
      each = snoc_each _ rs rule i
          (λ j a. RuleIn bytes a (left_in rules j) (right_in rules j))
          (λ j a. RuleIn bytes a (left_in (with_sides rules i l r) j) (right_in (with_sides rules i l r) j))
          count t.each
          (λ j a c p. rw (other j (λ q. omega arith) (λ q. omega arith), other (256 + j) (λ q. omega arith) (λ q. omega arith)) p)
          (rw (
            get_or-set_other mid (256 + i) i r 0 (λ q. omega arith),
            get_or-set_same rules i l 0 (omega (arith, t.long)),
            get_or-set_same mid (256 + i) r 0 (omega arith),
          ) here);
      long = length-set mid (256 + i) r ∙ long;
    }

-- THE DAY

pub sides_day : (rules : List ℕ) (i l r : ℕ) → i < 255 → day_in (with_sides rules i l r) ≡ day_in rules
sides_day rules i l r b =
    get_or-set_other (set rules i l) (256 + i) 255 r 0 (λ e. omega arith) ∙ get_or-set_other rules i 255 l 0 (λ e. omega arith)

-- where an element behind a column is put, the sides of at most 255 rules stay
set_sides : (rules : List ℕ) (k v : ℕ) → (k ≡ 255) ⊎ (k ≡ 511) → {bytes : List ℕ} {rs : List Rule} → length rs ≤ 255 → Sides bytes rs rules →
    Sides bytes rs (set rules k v)
set_sides rules k v e {bytes} {rs} few t =
    let other : (j : ℕ) → (j ≡ k → ⊥) → get_or (set rules k v) j 0 ≡ get_or rules j 0 = λ j n. get_or-set_other rules k j v 0 n in
    record {
      each = λ i l. rw (other i (λ q. apart k i e l q), other (256 + i) (λ q. further k i e l q)) (t.each i l);
      long = length-set rules k v ∙ t.long;
    }
  where
    apart : (k i : ℕ) → (k ≡ 255) ⊎ (k ≡ 511) → i < length rs → i ≡ k → ⊥
    apart k i (inl e) l q = omega arith
    apart k i (inr e) l q = omega arith

    further : (k i : ℕ) → (k ≡ 255) ⊎ (k ≡ 511) → i < length rs → 256 + i ≡ k → ⊥
    further k i (inl e) l q = omega arith
    further k i (inr e) l q = omega arith

module _ (rules : List ℕ) (day : ℕ) where
  pub day_is : length rules ≡ 512 → day_in (with_day rules day) ≡ day
  day_is long = get_or-set_same rules 255 day 0 (omega arith)

  pub day_sides : {bytes : List ℕ} {rs : List Rule} → length rs ≤ 255 → Sides bytes rs rules → Sides bytes rs (with_day rules day)
  day_sides few t = set_sides rules 255 day (inl refl) few t

-- THE COUNT

module _ (rules : List ℕ) (count : ℕ) where
  pub count_is : length rules ≡ 512 → count_in (with_count rules count) ≡ count
  count_is long = get_or-set_same rules 511 count 0 (omega arith)

  pub count_day : day_in (with_count rules count) ≡ day_in rules
  count_day = get_or-set_other rules 511 255 count 0 (λ e. omega arith)

  pub count_sides : {bytes : List ℕ} {rs : List Rule} → length rs ≤ 255 → Sides bytes rs rules → Sides bytes rs (with_count rules count)
  count_sides few t = set_sides rules 511 count (inr refl) few t
