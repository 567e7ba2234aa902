-- The rules that stand on a day (document 02, Change 5), by their numbers in the book: a rule stands exactly if its day has come and no rule whose day
-- has come is later and agrees with it; those that stand are in book order; no two of them agree; each rule whose day has come agrees with one that
-- stands. Assumes nothing.
use mathlib.Core.Bool.{Bool, true, false, true≢false}
use mathlib.Core.List.{List, [], ◌∷◌, ◌++◌, map, append_assoc, append-nil}
use mathlib.Core.Logic.{◌⊎◌, inl, inr, ◌↔◌}
use mathlib.Core.Path.{◌≡◌, refl, sym, ap, ◌∙◌, subst}
use Prim.Native.Nat.{ℕ, zero, suc, ◌+◌, ◌-◌, ◌≤◌, ◌<◌}
use native.Mathlib.Omega.{arith}
use lib.Dec.{leb}
use lib.ListN.{length, get_or, take, drop, length-append, get_or-append}
use lib.Seq.{get_or-append_seam, take-suc, drop-cons}
use Rattle.paper.specs.Result.{accepted, if}
use Rattle.paper.specs.Tree.{node, nil, Correct}
use Rattle.paper.specs.Book.{Operator, Symbol, Side, Rule, symbol_arity}
use Rattle.paper.specs.Naming.{Alike, alike}
use Rattle.paper.specs.Dated.{DatedRule, DatedBook, AnyBook, read_any, replaces, replaced, stands, standing, on_day}
use Rattle.paper.specs.Sound.{In, All}
use Rattle.paper.specs.WellFormed.{GoodDatedRule, GoodDated}
use Rattle.paper.proofs.Lists.{all_map, all_split}
use Rattle.paper.proofs.Tests.{either, eqb_cases, leb_cases, ltb_cases}
use Rattle.paper.proofs.Naming.{alike_exact, alike_refl, alike_trans}
use Rattle.paper.proofs.Dated.{read_any_good}

-- the rule of a number; what stands behind the last one is of no weight
abbrev pub rule_at : List DatedRule → ℕ → DatedRule
rule_at rs i = get_or rs i (record { day = 0; rule = record { left = node (Symbol.operator 0) nil; right = node (Symbol.operator 0) nil } })

abbrev pub left_of : DatedRule → Side
left_of r = r.rule.left

-- WHAT IS SAID

-- the rule q, of number j, is later than r, of number i: of a later day, or of its day and behind it in the book
abbrev pub Later : ℕ → DatedRule → ℕ → DatedRule → Type 0
Later j q i r = (r.day < q.day) ⊎ ((r.day ≡ q.day) × (i < j))

-- its day has come too, and their left sides agree up to the naming of variables
abbrev pub Replaces : ℕ → ℕ → DatedRule → ℕ → DatedRule → Type 0
Replaces d j q i r = (q.day ≤ d) × Later j q i r × Alike (left_of q) (left_of r)

-- the day of r, of number i, has come, and no rule of the book replaces it
abbrev StandsAs : ℕ → List DatedRule → ℕ → DatedRule → Type 0
StandsAs d rs i r = (r.day ≤ d) × ((j : ℕ) → j < length rs → ¬ Replaces d j (rule_at rs j) i r)

abbrev pub Stands : ℕ → List DatedRule → ℕ → Type 0
Stands d rs i = StandsAs d rs i (rule_at rs i)

-- numbers that climb from n on
abbrev pub Climbing : ℕ → List ℕ → Type 0
Climbing n [] = Unit {0}
Climbing n (i ∷ is) = (n ≤ i) × Climbing (suc i) is

-- these are the numbers of the rules that stand, in book order
pub record Standing (d : ℕ) (rs : List DatedRule) (is : List ℕ) : Type 0 where
  pub rules : standing d [] rs ≡ map (λ i. (rule_at rs i).rule) is
  pub exact : (i : ℕ) → In i is ↔ ((i < length rs) × Stands d rs i)
  pub ordered : Climbing 0 is

-- THE TEST

module _ (ops : List Operator) where
  -- left sides have the right arities
  abbrev pub Spelt : DatedRule → Type 0
  Spelt r = Correct (symbol_arity ops) (left_of r)

  abbrev Replacing : ℕ → ℕ → Side → DatedRule → Type 0
  Replacing m d l r = (m ≤ r.day) × (r.day ≤ d) × Alike (left_of r) l

  -- one of some rules does, or none
  abbrev SomeOf : ℕ → ℕ → Side → List DatedRule → Type 0
  SomeOf m d l rs = (j : ℕ) × (j < length rs) × Replacing m d l (rule_at rs j)

  abbrev NoneOf : ℕ → ℕ → Side → List DatedRule → Type 0
  NoneOf m d l rs = (j : ℕ) → j < length rs → ¬ Replacing m d l (rule_at rs j)

  module _ (m d : ℕ) (l : Side) (c : Correct (symbol_arity ops) l) where
    replaces_cases : (r : DatedRule) → Spelt r → ((replaces m d l r ≡ true) × Replacing m d l r) ⊎ ((replaces m d l r ≡ false) × (¬ Replacing m d l r))
    unfolding replaces
    replaces_cases r s = go (leb_cases m r.day) (leb_cases r.day d) (either (alike (left_of r) l))
      where
        go : ((leb m r.day ≡ true) × (m ≤ r.day)) ⊎ ((leb m r.day ≡ false) × (r.day < m)) →
            ((leb r.day d ≡ true) × (r.day ≤ d)) ⊎ ((leb r.day d ≡ false) × (d < r.day)) → (alike (left_of r) l ≡ true) ⊎ (alike (left_of r) l ≡ false) →
            ((replaces m d l r ≡ true) × Replacing m d l r) ⊎ ((replaces m d l r ≡ false) × (¬ Replacing m d l r))
        go (inl p) (inl q) (inl e) = inl (rw (p.0, q.0) e, (p.1, q.1, (alike_exact ops (left_of r) l s c).0 e))
        go (inl p) (inl q) (inr e) = inr (rw (p.0, q.0) e, λ h. true≢false (sym ((alike_exact ops (left_of r) l s c).1 h.2) ∙ e))
        go (inl p) (inr q) e = inr (rw (p.0, q.0), λ h. absurd (omega (arith, q.1, h.1)))
        go (inr p) q e = inr (rw p.0, λ h. absurd (omega (arith, p.1, h.0)))

    replaced_cases : (rs : List DatedRule) → All Spelt rs → ((replaced m d l rs ≡ true) × SomeOf m d l rs) ⊎ ((replaced m d l rs ≡ false) × NoneOf m d l rs)
    unfolding replaced
    replaced_cases [] s = inr (refl, λ j h. absurd (omega arith))
    replaced_cases (r ∷ rs) (s, ss) = go (replaces_cases r s) (replaced_cases rs ss)
      where
        none : ¬ Replacing m d l r → NoneOf m d l rs → NoneOf m d l (r ∷ rs)
        none a b zero h = a
        none a b (suc j) h = b j (omega arith)

        go : ((replaces m d l r ≡ true) × Replacing m d l r) ⊎ ((replaces m d l r ≡ false) × (¬ Replacing m d l r)) →
            ((replaced m d l rs ≡ true) × SomeOf m d l rs) ⊎ ((replaced m d l rs ≡ false) × NoneOf m d l rs) →
            ((replaced m d l (r ∷ rs) ≡ true) × SomeOf m d l (r ∷ rs)) ⊎ ((replaced m d l (r ∷ rs) ≡ false) × NoneOf m d l (r ∷ rs))
        go (inl p) q = inl (rw (p.0, replaced), (0, omega arith, p.1))
        go (inr p) (inl q) = let (j, h, t) = q.1 in inl (rw (p.0, replaced) q.0, (suc j, omega arith, t))
        go (inr p) (inr q) = inr (rw (p.0, replaced) q.0, none p.1 q.1)

-- WHERE A NUMBER STANDS

at_behind : (xs ys : List DatedRule) (k : ℕ) → rule_at (xs ++ ys) (length xs + k) ≡ rule_at ys k
at_behind [] ys k = let e : 0 + k ≡ k = omega arith in ap (rule_at ys) e
at_behind (x ∷ xs) ys k = let e : suc (length xs) + k ≡ suc (length xs + k) = omega arith in ap (rule_at (x ∷ (xs ++ ys))) e ∙ at_behind xs ys k

module _ (before : List DatedRule) (r : DatedRule) (behind : List DatedRule) where
  abbrev whole : List DatedRule
  whole = before ++ (r ∷ behind)

  data Place (j : ℕ) : Type 0 where
    front : j < length before → rule_at whole j ≡ rule_at before j → Place j
    here : j ≡ length before → rule_at whole j ≡ r → Place j
    back : (k : ℕ) → k < length behind → j ≡ length before + suc k → rule_at whole j ≡ rule_at behind k → Place j

  at_here : rule_at whole (length before) ≡ r
  at_here = get_or-append_seam before r behind _

  at_front : (j : ℕ) → j < length before → rule_at whole j ≡ rule_at before j
  at_front j h = get_or-append before (r ∷ behind) _ j h

  at_back : (k : ℕ) → rule_at whole (length before + suc k) ≡ rule_at behind k
  at_back k = at_behind before (r ∷ behind) (suc k)

  place : (j : ℕ) → j < length whole → Place j
  place j h = elim (ltb_cases j (length before)) [
    | inl p ↦ front p.1 (at_front j p.1)
    | inr p ↦ elim (eqb_cases j (length before)) [
      | inl q ↦ here q.1 (ap (rule_at whole) q.1 ∙ at_here)
      | inr q ↦
          let k : ℕ = j - suc (length before) in
          let a = p.1 in
          let b = q.1 in
          let e : j ≡ length before + suc k = omega arith in
          back k (omega (arith, length-append before (r ∷ behind))) e (ap (rule_at whole) e ∙ at_back k)
    ]
  ]

-- THE TEST IS EXACT

module _ (ops : List Operator) (d : ℕ) (before : List DatedRule) (r : DatedRule) (behind : List DatedRule) where
  abbrev rules : List DatedRule
  rules = before ++ (r ∷ behind)

  abbrev NoneBefore : Type 0
  NoneBefore = NoneOf ops (suc r.day) d (left_of r) before

  abbrev NoneBehind : Type 0
  NoneBehind = NoneOf ops r.day d (left_of r) behind

  none_replaces : NoneBefore → NoneBehind → (j : ℕ) → j < length rules → ¬ Replaces d j (rule_at rules j) (length before) r
  none_replaces p q j h t = go (place before r behind j h)
    where
      go : Place before r behind j → ⊥
      go (front l e) = (
          let (c, i, a) = subst (λ (x : DatedRule). Replaces d j x (length before) r) e t in
          p j l (elim i [ inl y ↦ omega arith | inr y ↦ absurd (omega (arith, y.1)) ], c, a)
          )
      go (here n e) = (
          let (c, i, a) = subst (λ (x : DatedRule). Replaces d j x (length before) r) e t in
          elim i [ inl y ↦ omega arith | inr y ↦ omega (arith, y.1) ]
          )
      go (back k l n e) = (
          let (c, i, a) = subst (λ (x : DatedRule). Replaces d j x (length before) r) e t in
          q k l (elim i [ inl y ↦ omega arith | inr y ↦ omega (arith, y.0) ], c, a)
          )

  stands_exact : All (Spelt ops) rules → (stands d before r behind ≡ true) ↔ StandsAs d rules (length before) r
  unfolding stands
  stands_exact s =
      let (b, s') = all_split (Spelt ops) before (r ∷ behind) s in
      go (leb_cases r.day d) (replaced_cases ops (suc r.day) d (left_of r) s'.0 before b)
      (replaced_cases ops r.day d (left_of r) s'.0 behind s'.1)
    where
      later_behind : (k : ℕ) (q : DatedRule) → r.day ≤ q.day → Later (length before + suc k) q (length before) r
      later_behind k q h = elim (ltb_cases r.day q.day) [
        | inl p ↦ inl p.1
        | inr p ↦ inr (omega (arith, p.1), omega arith)
      ]

      go : ((leb r.day d ≡ true) × (r.day ≤ d)) ⊎ ((leb r.day d ≡ false) × (d < r.day)) →
          ((replaced (suc r.day) d (left_of r) before ≡ true) × SomeOf ops (suc r.day) d (left_of r) before)
          ⊎ ((replaced (suc r.day) d (left_of r) before ≡ false) × NoneBefore) →
          ((replaced r.day d (left_of r) behind ≡ true) × SomeOf ops r.day d (left_of r) behind)
          ⊎ ((replaced r.day d (left_of r) behind ≡ false) × NoneBehind) →
          (stands d before r behind ≡ true) ↔ StandsAs d rules (length before) r
      go (inr a) p q = (λ e. absurd (true≢false (sym e ∙ rw a.0)), λ h. absurd (omega (arith, a.1, h.0)))
      go (inl a) (inl p) q = (
        λ e. absurd (true≢false (sym e ∙ rw (a.0, p.0))),
        λ h.
            let (j, l, (m, c, g)) = p.1 in
            absurd (h.1 j (omega (arith, length-append before (r ∷ behind)))
            (subst (λ (x : DatedRule). Replaces d j x (length before) r) (sym (at_front before r behind j l)) (c, inl (omega arith), g))),
      )
      go (inl a) (inr p) (inl q) = (
        λ e. absurd (true≢false (sym e ∙ rw (a.0, p.0, q.0))),
        λ h.
            let (k, l, (m, c, g)) = q.1 in
            let j : ℕ = length before + suc k in
            absurd (h.1 j (omega (arith, length-append before (r ∷ behind)))
            (subst (λ (x : DatedRule). Replaces d j x (length before) r) (sym (at_back before r behind k)) (c, later_behind k (rule_at behind k) m, g))),
      )
      go (inl a) (inr p) (inr q) = (λ e. (a.1, none_replaces p.1 q.1), λ h. rw (a.0, p.0, q.0))

-- THE NUMBERS OF THOSE THAT STAND

climbing_down : (k n : ℕ) (is : List ℕ) → k ≤ n → Climbing n is → Climbing k is
climbing_down k n [] l c = tt
climbing_down k n (i ∷ is) l (a, c) = (omega arith, c)

module _ (ops : List Operator) (d : ℕ) where
  -- as `standing` goes, with numbers for rules
  numbers : List DatedRule → List DatedRule → List ℕ
  numbers before [] = []
  numbers before (r ∷ behind) = let is = numbers (before ++ (r ∷ [])) behind in if (stands d before r behind) (length before ∷ is) is

  -- of the rules rs, the first n apart
  record StandingFrom (rs : List DatedRule) (n : ℕ) (found : List Rule) (is : List ℕ) : Type 0 where
    rules : found ≡ map (λ i. (rule_at rs i).rule) is
    exact : (i : ℕ) → In i is ↔ ((n ≤ i) × (i < length rs) × Stands d rs i)
    ordered : Climbing n is

  module _ (rs : List DatedRule) (n : ℕ) (found : List Rule) (is : List ℕ) (l : n < length rs) (h : StandingFrom rs (suc n) found is) where
    -- the rule n stands
    more : Stands d rs n → StandingFrom rs n ((rule_at rs n).rule ∷ found) (n ∷ is)
    more s = record {
      rules = ap (λ (qs : List Rule). (rule_at rs n).rule ∷ qs) h.rules;
      exact = λ i. (
        λ m. elim m [
          | inl e ↦ (omega arith, omega arith, subst (Stands d rs) (sym e) s)
          | inr k ↦ (let (a, b, c) = (h.exact i).0 k in (omega arith, b, c))
        ],
        λ k. elim (eqb_cases i n) [ inl p ↦ inl p.1 | inr p ↦ (let a = k.0 in let b = p.1 in inr ((h.exact i).1 (omega arith, k.1, k.2))) ],
      );
      ordered = (omega arith, h.ordered);
    }

    -- it does not
    same : ¬ Stands d rs n → StandingFrom rs n found is
    same s = record {
      rules = h.rules;
      exact = λ i. (
        λ m. let (a, b, c) = (h.exact i).0 m in (omega arith, b, c),
        λ k. elim (eqb_cases i n) [
          | inl p ↦ absurd (s (subst (Stands d rs) p.1 k.2))
          | inr p ↦ (let a = k.0 in let b = p.1 in (h.exact i).1 (omega arith, k.1, k.2))
        ],
      );
      ordered = climbing_down n (suc n) is (omega arith) h.ordered;
    }

  standing_from : (before behind rs : List DatedRule) → before ++ behind ≡ rs → All (Spelt ops) rs →
      StandingFrom rs (length before) (standing d before behind) (numbers before behind)
  unfolding standing numbers
  standing_from before [] rs e s = record {
    rules = refl;
    exact = λ i. (λ m. absurd m, λ k. absurd (omega (arith, k.0, k.1, ap length (sym (append-nil before) ∙ e))));
    ordered = tt;
  }
  standing_from before (r ∷ behind) rs e s =
      let first = before ++ (r ∷ []) in
      let rest = standing_from first behind rs (append_assoc before (r ∷ []) behind ∙ e) s in
      let n : length first ≡ suc (length before) = omega (arith, length-append before (r ∷ [])) in
      let l : length before < length rs = omega (arith, ap length e, length-append before (r ∷ behind)) in
      let h₀ : rule_at rs (length before) ≡ r = ap (λ (ws : List DatedRule). rule_at ws (length before)) (sym e) ∙ at_here before r behind in
      let test : (stands d before r behind ≡ true) ↔ StandsAs d rs (length before) r =
      subst (λ (ws : List DatedRule). (stands d before r behind ≡ true) ↔ StandsAs d ws (length before) r) e
      (stands_exact ops d before r behind (subst (All (Spelt ops)) (sym e) s)) in
      go h₀ test l (subst (λ (k : ℕ). StandingFrom rs k (standing d first behind) (numbers first behind)) n rest)
    where
      go : rule_at rs (length before) ≡ r → (stands d before r behind ≡ true) ↔ StandsAs d rs (length before) r → length before < length rs →
          StandingFrom rs (suc (length before)) (standing d (before ++ (r ∷ [])) behind) (numbers (before ++ (r ∷ [])) behind) →
          StandingFrom rs (length before) (standing d before (r ∷ behind)) (numbers before (r ∷ behind))
      go h₀ test l rest = elim (either (stands d before r behind)) [
        | inl t ↦
            rw (t, standing, numbers)
            (subst (λ (q : DatedRule). StandingFrom rs (length before) (q.rule ∷ standing d (before ++ (r ∷ [])) behind) (length before ∷ numbers (before ++ (r ∷ [])) behind))
            h₀ (more rs (length before) _ _ l rest (subst (StandsAs d rs (length before)) (sym h₀) (test.0 t))))
        | inr t ↦
            rw (t, standing, numbers)
            (same rs (length before) _ _ l rest
            (λ h. true≢false (sym (test.1 (subst (StandsAs d rs (length before)) h₀ h)) ∙ t)))
      ]

  -- a rule of the book stands exactly if its day has come and no rule whose day has come is later and agrees
  pub standing_exact : (rs : List DatedRule) → All (Spelt ops) rs → (is : List ℕ) × Standing d rs is
  standing_exact rs s =
      let h = standing_from [] rs rs refl s in (
        numbers [] rs,
        record {
          rules = h.rules;
          exact = λ i. (λ m. let (a, b, c) = (h.exact i).0 m in (b, c), λ k. (h.exact i).1 (omega arith, k.0, k.1));
          ordered = h.ordered;
        },
      )

-- NO TWO AGREE

same_place : (i j : ℕ) (q r : DatedRule) → ¬ Later i q j r → ¬ Later j r i q → i ≡ j
same_place i j q r a b = elim (ltb_cases q.day r.day) [
  | inl x ↦ absurd (b (inl x.1))
  | inr x ↦ elim (ltb_cases r.day q.day) [
    | inl y ↦ absurd (a (inl y.1))
    | inr y ↦
        let e : q.day ≡ r.day = omega (arith, x.1, y.1) in
        elim (ltb_cases i j) [
          | inl z ↦ absurd (b (inr (e, z.1)))
          | inr z ↦ elim (ltb_cases j i) [ inl w ↦ absurd (a (inr (sym e, w.1))) | inr w ↦ omega (arith, z.1, w.1) ]
        ]
  ]
]

pub one_stands : (d : ℕ) (rs : List DatedRule) (is : List ℕ) → Standing d rs is → (i j : ℕ) → In i is → In j is →
    Alike (left_of (rule_at rs i)) (left_of (rule_at rs j)) → i ≡ j
one_stands d rs is h i j m n (ρ, σ, p, q) =
    let (a, s) = (h.exact i).0 m in
    let (b, t) = (h.exact j).0 n in
    same_place i j (rule_at rs i) (rule_at rs j) (λ l. t.1 i a (s.0, l, (ρ, σ, p, q))) (λ l. s.1 j b (t.0, l, (σ, ρ, q, p)))

-- EACH AGREES WITH ONE THAT STANDS: THE LATEST

later_cases : (j : ℕ) (q : DatedRule) (i : ℕ) (r : DatedRule) → Later j q i r ⊎ (¬ Later j q i r)
later_cases j q i r = elim (ltb_cases r.day q.day) [
  | inl x ↦ inl (inl x.1)
  | inr x ↦ elim (eqb_cases r.day q.day) [
    | inl y ↦ elim (ltb_cases i j) [
      | inl z ↦ inl (inr (y.1, z.1))
      | inr z ↦ inr (λ l. elim l [ inl u ↦ omega (arith, x.1) | inr u ↦ omega (arith, z.1, u.1) ])
    ]
    | inr y ↦ inr (λ l. elim l [ inl u ↦ omega (arith, x.1) | inr u ↦ y.1 u.0 ])
  ]
]

later_trans : (i j k : ℕ) (r q p : DatedRule) → Later j q i r → Later k p j q → Later k p i r
later_trans i j k r q p (inl a) (inl b) = inl (omega arith)
later_trans i j k r q p (inl a) (inr (b, c)) = inl (omega arith)
later_trans i j k r q p (inr (a, b)) (inl c) = inl (omega arith)
later_trans i j k r q p (inr (a, b)) (inr (c, e)) = inr (omega arith, omega arith)

spelt_at : (ops : List Operator) (rs : List DatedRule) (i : ℕ) → i < length rs → All (Spelt ops) rs → Spelt ops (rule_at rs i)
spelt_at ops [] i l s = absurd (omega arith)
spelt_at ops (r ∷ rs) zero l s = s.0
spelt_at ops (r ∷ rs) (suc i) l s = spelt_at ops rs i (omega arith) s.1

module _ (ops : List Operator) (d : ℕ) (rs : List DatedRule) (s : All (Spelt ops) rs) (i : ℕ) (l : i < length rs) where
  abbrev left : ℕ → Side
  left j = left_of (rule_at rs j)

  agrees : (j k : ℕ) → j < length rs → k < length rs → (alike (left j) (left k) ≡ true) ↔ Alike (left j) (left k)
  agrees j k a b = alike_exact ops (left j) (left k) (spelt_at ops rs j a s) (spelt_at ops rs k b s)

  -- a rule whose day has come and that agrees with the rule i
  abbrev Candidate : ℕ → Type 0
  Candidate j = (j < length rs) × ((rule_at rs j).day ≤ d) × (alike (left j) (left i) ≡ true)

  candidate_cases : (j : ℕ) → j < length rs → Candidate j ⊎ (¬ Candidate j)
  candidate_cases j h = elim (leb_cases (rule_at rs j).day d) [
    | inl a ↦ elim (either (alike (left j) (left i))) [ inl b ↦ inl (h, a.1, b) | inr b ↦ inr (λ c. true≢false (sym c.2 ∙ b)) ]
    | inr a ↦ inr (λ c. omega (arith, a.1, c.1))
  ]

  abbrev LaterAt : ℕ → ℕ → Type 0
  LaterAt j k = Later j (rule_at rs j) k (rule_at rs k)

  -- a candidate than which none of the first n is later
  abbrev Latest : ℕ → ℕ → Type 0
  Latest n k = Candidate k × ((j : ℕ) → j < n → Candidate j → ¬ LaterAt j k)

  one_more : (n k : ℕ) → (Candidate n → ¬ LaterAt n k) → Latest n k → Latest (suc n) k
  one_more n k a (c, h) = (
    c,
    λ j e. elim (eqb_cases j n) [
      | inl p ↦ subst (λ (x : ℕ). Candidate x → ¬ LaterAt x k) (sym p.1) a
      | inr p ↦ (let q = p.1 in h j (omega arith))
    ],
  )

  latest : (n : ℕ) → n ≤ length rs → Candidate i → (k : ℕ) × Latest n k
  latest zero h c = (i, (c, λ j e. absurd (omega arith)))
  latest (suc n) h c = go (latest n (omega arith) c) (candidate_cases n (omega arith))
    where
      go : (k : ℕ) × Latest n k → Candidate n ⊎ (¬ Candidate n) → (k : ℕ) × Latest (suc n) k
      go (k, t) (inr a) = (k, one_more n k (λ c. absurd (a c)) t)
      go (k, t) (inl a) = elim (later_cases n (rule_at rs n) k (rule_at rs k)) [
        | inr b ↦ (k, one_more n k (λ c. b) t)
        | inl b ↦ (
          n,
          one_more n n (λ c e. elim e [ inl x ↦ omega arith | inr x ↦ omega (arith, x.1) ])
              (a, λ j e c y. t.1 j e c (later_trans k n j (rule_at rs k) (rule_at rs n) (rule_at rs j) b y)),
        )
      ]

  pub some_stands : (rule_at rs i).day ≤ d → (is : List ℕ) → Standing d rs is → (j : ℕ) × In j is × Alike (left j) (left i)
  some_stands h is t =
      let (k, (c, f)) = latest (length rs) (omega arith) (l, h, alike_refl (left i)) in (
        k,
        (t.exact k).1 (
          c.0,
          (c.1, λ j e r. f j e (e, r.0, alike_trans (left j) (left k) (left i) ((agrees j k e c.0).1 r.2) c.2) r.1),
        ),
        (agrees k i c.0 l).0 c.2,
      )

-- A BOOK THAT IS READ

good_spelt : (D : DatedBook) → GoodDated D → All (Spelt D.operators) D.rules
good_spelt D g = all_map (GoodDatedRule D.operators) (Spelt D.operators) (λ r h. h.rule.left.correct) D.rules g.rules

module _ (bytes : List ℕ) (D : DatedBook) (e : read_any bytes ≡ accepted (AnyBook.dated D)) (d : ℕ) where
  -- the rules of the day are those that stand, in book order
  pub day_exact : (is : List ℕ) × ((on_day d (AnyBook.dated D)).rules ≡ map (λ i. (rule_at D.rules i).rule) is) × Standing d D.rules is
  unfolding on_day
  day_exact =
      let (is, h) = standing_exact D.operators d D.rules (good_spelt D (read_any_good bytes (AnyBook.dated D) e)) in (is, h.rules, h)

  -- a rule whose day has come agrees with one of them
  pub day_some : (is : List ℕ) → Standing d D.rules is → (i : ℕ) → i < length D.rules → (rule_at D.rules i).day ≤ d →
      (j : ℕ) × In j is × Alike (left_of (rule_at D.rules j)) (left_of (rule_at D.rules i))
  day_some is h i l c = some_stands D.operators d D.rules (good_spelt D (read_any_good bytes (AnyBook.dated D) e)) i l c is h

-- BY NUMBERS, AS A LOOP GOES

module _ (d : ℕ) (rs : List DatedRule) (i : ℕ) (h : i < length rs) where
  abbrev StandsAt : Bool → Type 0
  StandsAt b = stands d (take i rs) (rule_at rs i) (drop (i + 1) rs) ≡ b

  -- the rule i stands, or not
  standing_next : (b : Bool) → StandsAt b →
      standing d (take i rs) (drop i rs) ≡
      (let found = standing d (take (i + 1) rs) (drop (i + 1) rs) in if b ((rule_at rs i).rule ∷ found) found)
  unfolding standing
  standing_next b e =
      let r = rule_at rs i in
      let n : i + 1 ≡ suc i = omega arith in
      let t : take (i + 1) rs ≡ take i rs ++ (r ∷ []) = ap (λ (k : ℕ). take k rs) n ∙ take-suc rs i _ h in
      let s : drop i rs ≡ r ∷ drop (i + 1) rs = drop-cons rs i _ h ∙ ap (λ (k : ℕ). r ∷ drop k rs) (sym n) in
      rw (s, t, standing, e)

  pub standing_here : StandsAt true → standing d (take i rs) (drop i rs) ≡ (rule_at rs i).rule ∷ standing d (take (i + 1) rs) (drop (i + 1) rs)
  standing_here e = standing_next true e

  pub standing_not : StandsAt false → standing d (take i rs) (drop i rs) ≡ standing d (take (i + 1) rs) (drop (i + 1) rs)
  standing_not e = standing_next false e

module _ (m d : ℕ) (l : Side) (rs : List DatedRule) (j : ℕ) (h : j < length rs) where
  behind_here : drop j rs ≡ rule_at rs j ∷ drop (j + 1) rs
  behind_here = let n : suc j ≡ j + 1 = omega arith in drop-cons rs j _ h ∙ ap (λ (k : ℕ). rule_at rs j ∷ drop k rs) n

  -- the rule j replaces, or not
  pub replaced_here : replaces m d l (rule_at rs j) ≡ true → replaced m d l (drop j rs) ≡ true
  unfolding replaced
  replaced_here e = rw (behind_here, replaced, e)

  pub replaced_not : replaces m d l (rule_at rs j) ≡ false → replaced m d l (drop j rs) ≡ replaced m d l (drop (j + 1) rs)
  unfolding replaced
  replaced_not e = rw (behind_here, replaced, e)
