-- Laws of the strict profile (document 02, Change 13): 24 and 25 are given exactly where they are due, of a book and of a book's bytes; the two rules
-- told are the first in book order, and the term that is constructed of them is matched by both. Assumes nothing.
use mathlib.Core.Bool.{true, false, true≢false}
use mathlib.Core.List.{List, [], ◌∷◌}
use mathlib.Core.Logic.{◌⊎◌, inl, inr, ◌≢◌, ◌↔◌}
use mathlib.Core.Option.{Option, none, some, none-ne-some, some-injective}
use mathlib.Core.Path.{◌≡◌, refl, sym, ap, ap₂, ◌∙◌, subst}
use Prim.Native.Nat.{ℕ, zero, suc, ◌+◌, ◌≤◌, ◌<◌}
use native.Mathlib.Nat.{zero-add}
use native.Mathlib.Omega.{arith}
use lib.Dec.{eqb}
use lib.ListN.{length, get_elem?}
use Rattle.paper.specs.Result.{Result, refused, accepted}
use Rattle.paper.specs.Tree.{size, preorder}
use Rattle.paper.specs.Strategy.{has}
use Rattle.paper.specs.Book.{Operator, Term, Side, Rule, Book, arity_at}
use Rattle.paper.specs.Reader.{variables}
use Rattle.paper.specs.Dated.{DatedBook, AnyBook, read_any}
use Rattle.paper.specs.Line.{read_line}
use Rattle.paper.specs.Match.{Matches}
use Rattle.paper.specs.Sound.{In, All, SoundRule}
use Rattle.paper.specs.WellFormed.{GoodRule}
use Rattle.paper.specs.Strict.{once, linear, all_linear, has_constant, eligible, compatible, Pair, overlap_with, overlap_from, overlap_of}
use Rattle.paper.specs.Strict.{Verdict, told, strict_book, strict_any, strict_read, strict_of, strict_number, merge, first_constant, common, witness}
use Rattle.paper.specs.Strict.{Repeated, Unfit, Formed, MatchedBy, MatchedTwice, Overlaps}
use Rattle.paper.proofs.Lists.{all_in}
use Rattle.paper.proofs.Tests.{either, ltb_cases, eqb_cases, has_cases}
use Rattle.paper.proofs.Trees.{size_preorder}
use Rattle.paper.proofs.Line.{line_read}
use Rattle.paper.proofs.Lengths.{any_refused_by}
use Rattle.paper.proofs.Dated.{read_any_good, day_sound, undated_day}
use Rattle.paper.proofs.Compatible.{matches_compatible, covers_matches, covers_merged, ground_size, merge_size, common_formed}

-- PLACES

pub place_in : {A : Type 0} (x : A) (xs : List A) (i : ℕ) → get_elem? xs i ≡ some x → In x xs
place_in x [] i e = absurd (none-ne-some _ e)
place_in x (y ∷ xs) zero e = inl (some-injective _ _ (sym e))
place_in x (y ∷ xs) (suc i) e = inr (place_in x xs i e)

in_place : {A : Type 0} (x : A) (xs : List A) → In x xs → (i : ℕ) × (get_elem? xs i ≡ some x)
in_place x [] m = elim m [ ]
in_place x (y ∷ xs) (inl e) = (0, ap some (sym e))
in_place x (y ∷ xs) (inr m) = let (i, e) = in_place x xs m in (suc i, e)

-- WHICH BOOKS ARE REFUSED BY 24

once_cases : (vs : List ℕ) → ((once vs ≡ true) × (¬ Repeated vs)) ⊎ ((once vs ≡ false) × Repeated vs)
unfolding once
once_cases [] = inl (refl, λ h. none-ne-some _ h.4)
once_cases (v ∷ vs) = go (has_cases v vs) (once_cases vs)
  where
    only : ¬ In v vs → ¬ Repeated vs → ¬ Repeated (v ∷ vs)
    only n m (w, zero, zero, d, e, f) = d refl
    only n m (w, zero, suc j, d, e, f) = n (rw (some-injective _ _ e) (place_in w vs j f))
    only n m (w, suc i, zero, d, e, f) = n (rw (some-injective _ _ f) (place_in w vs i e))
    only n m (w, suc i, suc j, d, e, f) = m (w, i, j, (λ p. d (ap suc p)), e, f)

    go : ((has v vs ≡ true) × In v vs) ⊎ ((has v vs ≡ false) × (¬ In v vs)) → ((once vs ≡ true) × (¬ Repeated vs)) ⊎ ((once vs ≡ false) × Repeated vs) →
        ((once (v ∷ vs) ≡ true) × (¬ Repeated (v ∷ vs))) ⊎ ((once (v ∷ vs) ≡ false) × Repeated (v ∷ vs))
    go (inl p) q = let (j, e) = in_place v vs p.1 in inr (rw (p.0, once), (v, 0, suc j, (λ z. absurd (omega arith)), refl, e))
    go (inr p) (inl q) = inl (rw (p.0, once) q.0, only p.1 q.1)
    go (inr p) (inr q) = let (w, i, j, d, e, f) = q.1 in inr (rw (p.0, once) q.0, (w, suc i, suc j, (λ z. d (let y : i ≡ j = omega arith in y)), e, f))

-- some rule of the list has a repeated variable in its left side
abbrev SomeRepeated : List Rule → Type 0
SomeRepeated rs = (r : Rule) × In r rs × Repeated (variables (preorder r.left))

linear_cases : (rs : List Rule) → ((all_linear rs ≡ true) × (¬ SomeRepeated rs)) ⊎ ((all_linear rs ≡ false) × SomeRepeated rs)
unfolding all_linear linear
linear_cases [] = inl (refl, λ h. h.1)
linear_cases (r ∷ rs) = go (once_cases (variables (preorder r.left))) (linear_cases rs)
  where
    go : ((linear r ≡ true) × (¬ Repeated (variables (preorder r.left)))) ⊎ ((linear r ≡ false) × Repeated (variables (preorder r.left))) →
        ((all_linear rs ≡ true) × (¬ SomeRepeated rs)) ⊎ ((all_linear rs ≡ false) × SomeRepeated rs) →
        ((all_linear (r ∷ rs) ≡ true) × (¬ SomeRepeated (r ∷ rs))) ⊎ ((all_linear (r ∷ rs) ≡ false) × SomeRepeated (r ∷ rs))
    go (inr p) q = inr (rw (p.0, all_linear), (r, inl refl, p.1))
    go (inl p) (inr q) = inr (rw (p.0, all_linear) q.0, (q.1.0, inr q.1.1, q.1.2))
    go (inl p) (inl q) = inl (
      rw (p.0, all_linear) q.0,
      λ h. elim h.1 [ inl e ↦ p.1 (rw e at h.2) | inr i ↦ q.1 (h.0, i, h.2) ],
    )

abbrev IsConstant : List Operator → ℕ → Type 0
IsConstant ops c = (c < length ops) × (arity_at ops c ≡ 0)

abbrev NoConstant : List Operator → Type 0
NoConstant ops = All (λ o. o.arity ≢ 0) ops

constant_cases : (ops : List Operator) →
    ((has_constant ops ≡ true) × IsConstant ops (first_constant ops)) ⊎ ((has_constant ops ≡ false) × NoConstant ops)
unfolding has_constant first_constant
constant_cases [] = inr (refl, tt)
constant_cases (o ∷ ops) = go (eqb_cases o.arity 0) (constant_cases ops)
  where
    go : ((eqb o.arity 0 ≡ true) × (o.arity ≡ 0)) ⊎ ((eqb o.arity 0 ≡ false) × (o.arity ≢ 0)) →
        ((has_constant ops ≡ true) × IsConstant ops (first_constant ops)) ⊎ ((has_constant ops ≡ false) × NoConstant ops) →
        ((has_constant (o ∷ ops) ≡ true) × IsConstant (o ∷ ops) (first_constant (o ∷ ops))) ⊎ ((has_constant (o ∷ ops) ≡ false) × NoConstant (o ∷ ops))
    go (inl p) q = inl (rw (p.0, has_constant), rw (p.0, first_constant) (omega arith, p.1))
    go (inr p) (inl q) = let (l, z) = q.1 in inl (rw (p.0, has_constant) q.0, rw (p.0, first_constant) (omega arith, z))
    go (inr p) (inr q) = inr (rw (p.0, has_constant) q.0, (p.1, q.1))

eligible_cases : (B : Book) → ((eligible B ≡ true) × (¬ Unfit B)) ⊎ ((eligible B ≡ false) × Unfit B)
unfolding eligible
eligible_cases B = go (linear_cases B.rules) (constant_cases B.operators)
  where
    absent : (ops : List Operator) (c : ℕ) → IsConstant ops c → ¬ NoConstant ops
    absent [] c h n = let l = h.0 in omega arith
    absent (o ∷ ops) zero h n = n.0 h.1
    absent (o ∷ ops) (suc c) h n = let l = h.0 in absent ops c (omega arith, h.1) n.1

    go : ((all_linear B.rules ≡ true) × (¬ SomeRepeated B.rules)) ⊎ ((all_linear B.rules ≡ false) × SomeRepeated B.rules) →
        ((has_constant B.operators ≡ true) × IsConstant B.operators (first_constant B.operators)) ⊎ ((has_constant B.operators ≡ false) × NoConstant B.operators) →
        ((eligible B ≡ true) × (¬ Unfit B)) ⊎ ((eligible B ≡ false) × Unfit B)
    go (inr p) q = inr (rw p.0, inl p.1)
    go (inl p) (inr q) = inr (rw p.0 q.0, inr q.1)
    go (inl p) (inl q) = inl (rw p.0 q.0, λ h. elim h [ inl r ↦ p.1 r | inr n ↦ absent B.operators (first_constant B.operators) q.1 n ])

-- THE PAIR THAT IS FOUND

-- the left sides of two rules are not compatible
abbrev pub Clear : Rule → Rule → Type 0
Clear r q = compatible r.left q.left ≡ false

-- each rule and all that follow it
abbrev pub AllClear : List Rule → Type 0
AllClear [] = Unit {0}
AllClear (r ∷ rs) = All (Clear r) rs × AllClear rs

-- the rules a and b are compatible, and no two that come before them in book order are
pub record FirstPair (rs : List Rule) (a b : ℕ) : Type 0 where
  pub first : Rule
  pub second : Rule
  pub ordered : a < b
  pub first_place : get_elem? rs a ≡ some first
  pub second_place : get_elem? rs b ≡ some second
  pub agree : compatible first.left second.left ≡ true
  pub lowest : (i j : ℕ) (r q : Rule) → get_elem? rs i ≡ some r → get_elem? rs j ≡ some q → i < j → (i < a) ⊎ ((i ≡ a) × (j < b)) → Clear r q

-- the same of one side and the rules that follow
record FirstWith (l : Side) (rs : List Rule) (a : ℕ) : Type 0 where
  second : Rule
  place : get_elem? rs a ≡ some second
  agree : compatible l second.left ≡ true
  lowest : (i : ℕ) (q : Rule) → get_elem? rs i ≡ some q → i < a → compatible l q.left ≡ false

abbrev WithCases : Side → ℕ → List Rule → Type 0
WithCases l j rs = ((overlap_with l j rs ≡ none) × All (λ q. compatible l q.left ≡ false) rs) ⊎ ((a : ℕ) × (overlap_with l j rs ≡ some (j + a)) × FirstWith l rs a)

with_cases : (l : Side) (j : ℕ) (rs : List Rule) → WithCases l j rs
unfolding overlap_with
with_cases l j [] = inl (refl, tt)
with_cases l j (r ∷ rs) = go (either (compatible l r.left)) (with_cases l (suc j) rs)
  where
    at_once : compatible l r.left ≡ true → FirstWith l (r ∷ rs) 0
    at_once e = record { second = r; place = refl; agree = e; lowest = λ i q p h. absurd (omega arith) }

    later : compatible l r.left ≡ false → (a : ℕ) → FirstWith l rs a → FirstWith l (r ∷ rs) (suc a)
    later e a f = record { second = f.second; place = f.place; agree = f.agree; lowest = low }
      where
        low : (i : ℕ) (q : Rule) → get_elem? (r ∷ rs) i ≡ some q → i < suc a → compatible l q.left ≡ false
        low zero q p h = rw (some-injective _ _ (sym p)) e
        low (suc i) q p h = f.lowest i q p (omega arith)

    go : (compatible l r.left ≡ true) ⊎ (compatible l r.left ≡ false) → WithCases l (suc j) rs → WithCases l j (r ∷ rs)
    go (inl e) w = let z : j ≡ j + 0 = omega arith in inr (0, rw (e, overlap_with) (ap some z), at_once e)
    go (inr e) (inl w) = inl (rw (e, overlap_with) w.0, (e, w.1))
    go (inr e) (inr w) =
        let z : suc j + w.0 ≡ j + suc w.0 = omega arith in
        inr (suc w.0, rw (e, overlap_with) (w.1 ∙ ap some z), later e w.0 w.2)

abbrev pair : ℕ → ℕ → Pair
pair a b = record { first = a; second = b }

abbrev FromCases : ℕ → List Rule → Type 0
FromCases i rs = ((overlap_from i rs ≡ none) × AllClear rs) ⊎ ((a : ℕ) × (b : ℕ) × (overlap_from i rs ≡ some (pair (i + a) (i + b))) × FirstPair rs a b)

from_cases : (i : ℕ) (rs : List Rule) → FromCases i rs
unfolding overlap_from
from_cases i [] = inl (refl, tt)
from_cases i (r ∷ rs) = go (with_cases r.left (suc i) rs) (from_cases (suc i) rs)
  where
    here : (a : ℕ) → FirstWith r.left rs a → FirstPair (r ∷ rs) 0 (suc a)
    here a f = record {
      first = r;
      second = f.second;
      ordered = omega arith;
      first_place = refl;
      second_place = f.place;
      agree = f.agree;
      lowest = low;
    }
      where
        low : (i j : ℕ) (x q : Rule) → get_elem? (r ∷ rs) i ≡ some x → get_elem? (r ∷ rs) j ≡ some q → i < j → (i < 0) ⊎ ((i ≡ 0) × (j < suc a)) → Clear x q
        low zero (suc j) x q d e h k =
            rw (some-injective _ _ (sym d)) (f.lowest j q e (elim k [ inl z ↦ absurd (omega arith) | inr z ↦ let y = z.1 in omega arith ]))
        low (suc i) j x q d e h k = elim k [ inl z ↦ absurd (omega arith) | inr z ↦ let y = z.0 in absurd (omega arith) ]
        low zero zero x q d e h k = absurd (omega arith)

    below : All (Clear r) rs → (a b : ℕ) → FirstPair rs a b → FirstPair (r ∷ rs) (suc a) (suc b)
    below c a b f = let o = f.ordered in record {
      first = f.first;
      second = f.second;
      ordered = omega arith;
      first_place = f.first_place;
      second_place = f.second_place;
      agree = f.agree;
      lowest = low;
    }
      where
        low : (i j : ℕ) (x q : Rule) → get_elem? (r ∷ rs) i ≡ some x → get_elem? (r ∷ rs) j ≡ some q → i < j → (i < suc a) ⊎ ((i ≡ suc a) × (j < suc b)) → Clear x q
        low zero (suc j) x q d e h k = rw (some-injective _ _ (sym d)) (all_in (Clear r) q rs c (place_in q rs j e))
        low (suc i) (suc j) x q d e h k =
            f.lowest i j x q d e (omega arith)
            (elim k [ inl z ↦ inl (omega arith) | inr z ↦ let y = z.0 in let w = z.1 in inr (omega arith, omega arith) ])
        low i zero x q d e h k = absurd (omega arith)

    go : WithCases r.left (suc i) rs → FromCases (suc i) rs → FromCases i (r ∷ rs)
    go (inr w) f =
        let y : i ≡ i + 0 = omega arith in
        let z : suc i + w.0 ≡ i + suc w.0 = omega arith in
        inr (0, suc w.0, rw (w.1, overlap_from) (ap some (ap₂ pair y z)), here w.0 w.2)
    go (inl w) (inl f) = inl (rw (w.0, overlap_from) f.0, (w.1, f.1))
    go (inl w) (inr f) =
        let y : suc i + f.0 ≡ i + suc f.0 = omega arith in
        let z : suc i + f.1 ≡ i + suc f.1 = omega arith in
        inr (suc f.0, suc f.1, rw (w.0, overlap_from) (f.2 ∙ ap some (ap₂ pair y z)), below w.1 f.0 f.1 f.3)

-- rules that are clear of one another: no term at all is matched by two
pub clear_places : (rs : List Rule) → AllClear rs → (i j : ℕ) (r q : Rule) → get_elem? rs i ≡ some r → get_elem? rs j ≡ some q → i < j → Clear r q
clear_places [] c i j r q d e h = absurd (none-ne-some _ d)
clear_places (x ∷ rs) (c, cs) zero zero r q d e h = absurd (omega arith)
clear_places (x ∷ rs) (c, cs) zero (suc j) r q d e h = rw (some-injective _ _ (sym d)) (all_in (Clear x) q rs c (place_in q rs j e))
clear_places (x ∷ rs) (c, cs) (suc i) zero r q d e h = absurd (omega arith)
clear_places (x ∷ rs) (c, cs) (suc i) (suc j) r q d e h = clear_places rs cs i j r q d e (omega arith)

pub clear_not_twice : (rs : List Rule) (t : Term) → AllClear rs → ¬ MatchedTwice rs t
clear_not_twice rs t c (i, j, d, m, n) = elim (ltb_cases i j) [ inl p ↦ never i j m n p.1 | inr p ↦ let l = p.1 in never j i n m (omega arith) ]
  where
    never : (i j : ℕ) → MatchedBy rs t i → MatchedBy rs t j → i < j → ⊥
    never i j m n h =
        true≢false (sym (matches_compatible m.rule.left n.rule.left t m.matches n.matches)
        ∙ clear_places rs c i j m.rule n.rule m.place n.place h)

-- WHAT IS SAID OF A BOOK

pub data Says (B : Book) : Verdict → Type 0 where
  unfit : Unfit B → Says B (Verdict.faulty 24)
  overlap : {i j : ℕ} → ¬ Unfit B → FirstPair B.rules i j → Says B (Verdict.overlapping i j)
  free : ¬ Unfit B → AllClear B.rules → Says B Verdict.admitted

pub strict_says : (B : Book) → Says B (strict_book B)
unfolding strict_book overlap_of told
strict_says B = go (eligible_cases B) (from_cases 0 B.rules)
  where
    go : ((eligible B ≡ true) × (¬ Unfit B)) ⊎ ((eligible B ≡ false) × Unfit B) → FromCases 0 B.rules → Says B (strict_book B)
    go (inr e) f = rw (e.0, strict_book) (unfit e.1)
    go (inl e) (inl f) = rw (e.0, strict_book, f.0) (free e.1 f.1)
    go (inl e) (inr f) = rw (e.0, strict_book, f.2) (simp zero-add (overlap e.1 f.3))

-- two rules of a book that is not refused by 24
module _ (B : Book) (fit : ¬ Unfit B) where
  fit_linear : (r : Rule) → In r B.rules → once (variables (preorder r.left)) ≡ true
  fit_linear r i = elim (once_cases (variables (preorder r.left))) [ inl p ↦ p.0 | inr p ↦ absurd (fit (inl (r, i, p.1))) ]

  fit_constant : IsConstant B.operators (first_constant B.operators)
  fit_constant = elim (constant_cases B.operators) [ inl p ↦ p.1 | inr p ↦ absurd (fit (inr p.1)) ]

  module _ (sound : All (SoundRule B) B.rules) (r q : Rule) (i : In r B.rules) (j : In q B.rules) where
    -- if they are compatible, the term that is constructed can be formed, and both match it
    pub witnessed : compatible r.left q.left ≡ true → Formed B (witness B r q) × Matches r.left (witness B r q) × Matches q.left (witness B r q)
    unfolding witness common
    witnessed e =
        let c = first_constant B.operators in
        let (a, b) = covers_merged c r.left q.left e in (
          common_formed B c fit_constant.0 fit_constant.1 r q (all_in (SoundRule B) r B.rules sound i) (all_in (SoundRule B) q B.rules sound j) e,
          covers_matches r.left (witness B r q) (fit_linear r i) a,
          covers_matches q.left (witness B r q) (fit_linear q j) b,
        )

    -- they are compatible exactly if some term that the book can form is matched by both
    pub compatible_exact : (compatible r.left q.left ≡ true) ↔ ((t : Term) × Formed B t × Matches r.left t × Matches q.left t)
    compatible_exact = (λ e. let (f, m, n) = witnessed e in (witness B r q, f, m, n), λ h. matches_compatible r.left q.left h.0 h.2 h.3)

-- it has at most as many symbols as the two left sides, so it can stand in a line
pub witness_size : (B : Book) (r q : Rule) → size (witness B r q) ≤ size r.left + size q.left
unfolding witness common
witness_size B r q =
    let h = ground_size (first_constant B.operators) (merge r.left q.left) in
    let k = merge_size r.left q.left in
    omega arith

-- two rules that are told: the term that is constructed is matched by both
module _ (B : Book) (sound : All (SoundRule B) B.rules) (fit : ¬ Unfit B) {i j : ℕ} (p : FirstPair B.rules i j) where
  pair_witnessed : Formed B (witness B p.first p.second) × Matches p.first.left (witness B p.first p.second) ×
      Matches p.second.left (witness B p.first p.second)
  pair_witnessed =
      witnessed B fit sound p.first p.second (place_in p.first B.rules i p.first_place)
      (place_in p.second B.rules j p.second_place) p.agree

  pair_overlaps : Overlaps B
  pair_overlaps =
      let (f, m, n) = pair_witnessed in
      let o = p.ordered in (
        witness B p.first p.second,
        f,
        (
          i,
          j,
          (λ z. absurd (omega arith)),
          record { rule = p.first; place = p.first_place; matches = m },
          record { rule = p.second; place = p.second_place; matches = n },
        ),
      )

-- 24 exactly if a variable is repeated in a left side or there is no operator of arity 0
pub strict_24 : (B : Book) → (strict_number (strict_book B) ≡ some 24) ↔ Unfit B
unfolding strict_number
strict_24 B = go (strict_says B)
  where
    go : {x : Verdict} → Says B x → (strict_number x ≡ some 24) ↔ Unfit B
    go (unfit u) = (λ e. u, λ h. refl)
    go (overlap n p) = (λ e. let z : ◌≡◌ {A = ℕ} 25 24 = some-injective _ _ e in absurd (omega arith), λ h. absurd (n h))
    go (free n c) = (λ e. absurd (none-ne-some _ e), λ h. absurd (n h))

module _ (B : Book) (sound : All (SoundRule B) B.rules) where
  -- otherwise 25 exactly if some term that the book can form has two matching rules
  pub strict_25 : ¬ Unfit B → (strict_number (strict_book B) ≡ some 25) ↔ Overlaps B
  unfolding strict_number
  strict_25 fit = go (strict_says B)
    where
      go : {x : Verdict} → Says B x → (strict_number x ≡ some 25) ↔ Overlaps B
      go (unfit u) = absurd (fit u)
      go (overlap n p) = (λ e. pair_overlaps B sound n p, λ h. refl)
      go (free n c) = (λ e. absurd (none-ne-some _ e), λ h. absurd (clear_not_twice B.rules h.0 c h.2))

  -- admitted exactly if neither is so
  pub admitted_exact : (strict_book B ≡ Verdict.admitted) ↔ ((¬ Unfit B) × (¬ Overlaps B))
  admitted_exact = go (strict_says B)
    where
      go : {x : Verdict} → Says B x → (x ≡ Verdict.admitted) ↔ ((¬ Unfit B) × (¬ Overlaps B))
      go (unfit u) = (λ e. let z : ◌≡◌ {A = ℕ} 0 1 = cc in absurd (omega arith), λ h. absurd (h.0 u))
      go (overlap n p) = (λ e. let z : ◌≡◌ {A = ℕ} 0 1 = cc in absurd (omega arith), λ h. absurd (h.1 (pair_overlaps B sound n p)))
      go (free n c) = (λ e. (n, λ h. clear_not_twice B.rules h.0 c h.2), λ h. refl)

-- OF A BOOK'S BYTES

sound_rules : (bytes : List ℕ) (B : Book) → read_any bytes ≡ accepted (AnyBook.undated B) → All (SoundRule B) B.rules
sound_rules bytes B e = rw (undated_day 0 B) at (day_sound bytes (AnyBook.undated B) e 0).rules

module _ (bytes : List ℕ) where
  abbrev pub ReadsDated : Type 0
  ReadsDated = (D : DatedBook) × (read_any bytes ≡ accepted (AnyBook.dated D))

  abbrev pub Reads : Book → Type 0
  Reads B = read_any bytes ≡ accepted (AnyBook.undated B)

  read_said : {x : Result AnyBook} → read_any bytes ≡ x → strict_of bytes ≡ strict_read x
  unfolding strict_of
  read_said e = ap strict_read e

  pub strict_undated : (B : Book) → Reads B → strict_of bytes ≡ strict_book B
  unfolding strict_any strict_read
  strict_undated B e = read_said e

  -- the book's own numbers are told before
  pub strict_own : (k : ℕ) → read_any bytes ≡ refused k → strict_of bytes ≡ Verdict.faulty k
  unfolding strict_read
  strict_own k e = read_said e

  number_of : {x : Result AnyBook} → read_any bytes ≡ x → strict_number (strict_of bytes) ≡ strict_number (strict_read x)
  number_of e = ap strict_number (read_said e)

  own_below : (k n : ℕ) → 10 ≤ n → read_any bytes ≡ refused k → some k ≡ some n → ⊥
  own_below k n h e z = let l = any_refused_by bytes k e in let y : k ≡ n = some-injective _ _ z in absurd (omega arith)

  -- 24 exactly if the book is dated, or a variable is repeated in a left side, or there is no operator of arity 0
  pub bytes_24 : (strict_number (strict_of bytes) ≡ some 24) ↔ (ReadsDated ⊎ ((B : Book) × Reads B × Unfit B))
  unfolding strict_read strict_number
  bytes_24 = (λ e. due (read_any bytes) refl (sym (number_of refl) ∙ e), given)
    where
      due : (x : Result AnyBook) → read_any bytes ≡ x → strict_number (strict_read x) ≡ some 24 → ReadsDated ⊎ ((B : Book) × Reads B × Unfit B)
      due (refused k) e n = absurd (own_below k 24 (omega arith) e n)
      due (accepted (AnyBook.undated B)) e n = inr (B, e, (strict_24 B).0 n)
      due (accepted (AnyBook.dated D)) e n = inl (D, e)

      given : ReadsDated ⊎ ((B : Book) × Reads B × Unfit B) → strict_number (strict_of bytes) ≡ some 24
      given (inl (D, e)) = number_of e
      given (inr (B, e, u)) = number_of e ∙ (strict_24 B).1 u

  -- otherwise 25 exactly if some term that the book can form has two matching rules
  pub bytes_25 : (strict_number (strict_of bytes) ≡ some 25) ↔ ((B : Book) × Reads B × (¬ Unfit B) × Overlaps B)
  unfolding strict_read strict_number
  bytes_25 = (λ e. due (read_any bytes) refl (sym (number_of refl) ∙ e), λ h. number_of h.1 ∙ (strict_25 h.0 (sound_rules bytes h.0 h.1) h.2).1 h.3)
    where
      differ : ◌≡◌ {A = Option ℕ} (some 24) (some 25) → ⊥
      differ e = let z : ◌≡◌ {A = ℕ} 24 25 = some-injective _ _ e in absurd (omega arith)

      due : (x : Result AnyBook) → read_any bytes ≡ x → strict_number (strict_read x) ≡ some 25 → (B : Book) × Reads B × (¬ Unfit B) × Overlaps B
      due (refused k) e n = absurd (own_below k 25 (omega arith) e n)
      due (accepted (AnyBook.undated B)) e n =
          let fit : ¬ Unfit B = λ u. differ (sym ((strict_24 B).1 u) ∙ n) in
          (B, e, fit, (strict_25 B (sound_rules bytes B e) fit).0 n)
      due (accepted (AnyBook.dated D)) e n = absurd (differ n)

  -- admitted exactly if it is an undated book of which neither is so
  pub bytes_admitted : (strict_of bytes ≡ Verdict.admitted) ↔ ((B : Book) × Reads B × (¬ Unfit B) × (¬ Overlaps B))
  unfolding strict_read strict_any
  bytes_admitted = (λ e. due (read_any bytes) refl (sym (read_said refl) ∙ e), λ h. read_said h.1 ∙ (admitted_exact h.0 (sound_rules bytes h.0 h.1)).1 (h.2, h.3))
    where
      due : (x : Result AnyBook) → read_any bytes ≡ x → strict_read x ≡ Verdict.admitted → (B : Book) × Reads B × (¬ Unfit B) × (¬ Overlaps B)
      due (refused k) e n = let z : ◌≡◌ {A = ℕ} 0 1 = cc in absurd (omega arith)
      due (accepted (AnyBook.undated B)) e n = let (u, o) = (admitted_exact B (sound_rules bytes B e)).0 n in (B, e, u, o)
      due (accepted (AnyBook.dated D)) e n = let z : ◌≡◌ {A = ℕ} 0 1 = cc in absurd (omega arith)

  -- the two rules told: no pair stands before them, and the term that is constructed of their left sides is one that the book can form, short enough
  -- for a line, and matched by both
  pub record Witnessed (i j : ℕ) : Type 0 where
    pub book : Book
    pub reads : Reads book
    pub pair : FirstPair book.rules i j
    pub formed : Formed book (witness book pair.first pair.second)
    pub line : read_line book (preorder (witness book pair.first pair.second)) ≡ accepted (witness book pair.first pair.second)
    pub by_first : Matches pair.first.left (witness book pair.first pair.second)
    pub by_second : Matches pair.second.left (witness book pair.first pair.second)

  pub bytes_overlapping : (i j : ℕ) → strict_of bytes ≡ Verdict.overlapping i j → Witnessed i j
  unfolding strict_read strict_any
  bytes_overlapping i j e = due (read_any bytes) refl (sym (read_said refl) ∙ e)
    where
      short : (B : Book) → Reads B → (r : Rule) (k : ℕ) → get_elem? B.rules k ≡ some r → size r.left ≤ 64
      short B e r k p =
          let g = all_in (GoodRule B.operators) r B.rules (read_any_good bytes (AnyBook.undated B) e).rules (place_in r B.rules k p) in
          let l = g.left.short in
          let n = size_preorder r.left in
          omega arith

      of_pair : (B : Book) → Reads B → Says B (Verdict.overlapping i j) → Witnessed i j
      of_pair B e (overlap fit p) =
          let (f, m, n) = pair_witnessed B (sound_rules bytes B e) fit p in
          let a = short B e p.first i p.first_place in
          let b = short B e p.second j p.second_place in
          let s = witness_size B p.first p.second in
          record {
            book = B;
            reads = e;
            pair = p;
            formed = f;
            line = line_read B (witness B p.first p.second) f.correct (omega arith) f.known;
            by_first = m;
            by_second = n;
          }

      due : (x : Result AnyBook) → read_any bytes ≡ x → strict_read x ≡ Verdict.overlapping i j → Witnessed i j
      due (refused k) e n = let z : ◌≡◌ {A = ℕ} 0 1 = cc in absurd (omega arith)
      due (accepted (AnyBook.undated B)) e n = of_pair B e (subst (Says B) n (strict_says B))
      due (accepted (AnyBook.dated D)) e n = let z : ◌≡◌ {A = ℕ} 0 1 = cc in absurd (omega arith)
