-- Laws of sides without repeated variables (document 02, Change 13): sides that match one term are compatible, and compatible ones both match a term
-- that is constructed of them, which has the book's operators with their arities and is no longer than the two. Assumes nothing.
use mathlib.Core.Bool.{Bool, true, false, true≢false}
use mathlib.Core.List.{List, [], ◌∷◌, ◌++◌}
use mathlib.Core.Logic.{inl, inr}
use mathlib.Core.Option.{Option, none, some, none-ne-some}
use mathlib.Core.Path.{◌≡◌, refl, sym, ap, ◌∙◌, subst}
use Prim.Native.Nat.{ℕ, suc, ◌+◌, ◌≤◌, ◌<◌}
use native.Mathlib.Omega.{arith}
use lib.Dec.{eqb}
use lib.ListN.{length}
use Rattle.paper.specs.Tree.{Tree, node, Forest, nil, cons, count, size, sizes, preorder, preorders, Correct, Corrects}
use Rattle.paper.specs.Book.{Symbol, Term, Side, Rule, Book, arity, symbol_arity}
use Rattle.paper.specs.Reader.{variables}
use Rattle.paper.specs.Match.{Symbols, Bindings, blank, bind, and_then, meet, match_over, matches_over, operators, fill, fills_over, Matches, match}
use Rattle.paper.specs.Sound.{In, All, Known, SoundRule}
use Rattle.paper.specs.Strict.{once, compatible, compatibles, merge, merges, common, Formed}
use Rattle.paper.proofs.Lists.{all_of, all_append, all_split}
use Rattle.paper.proofs.Tests.{eqb_true, eqb_equal, has_cases}
use Rattle.paper.proofs.Matching.{variables_append, passed, both, bind_cases, match_exact, fill_correct}

-- SIDES THAT MATCH ONE TERM

-- two tests, the second only if the first holds
abbrev pub test_both : Bool → Bool → Bool
test_both b c = elim b as (λ z. Bool) [ true ↦ c | false ↦ false ]

both_true : (b c : Bool) → test_both b c ≡ true → (b ≡ true) × (c ≡ true)
both_true true c e = (refl, e)
both_true false c e = absurd (true≢false (sym e))

true_both : (b c : Bool) → b ≡ true → c ≡ true → test_both b c ≡ true
true_both b c p q = rw p q

module _ {A : Type 0} (S : Symbols A) where
  mutual
    unfolding match_over compatible

    -- they are compatible, over any symbols and whatever was bound before
    pub matched_compatible : (l q : Side) (t : Tree A) (f g h k : Bindings A) → match_over S l t f ≡ some h → match_over S q t g ≡ some k →
        compatible l q ≡ true
    matched_compatible (node (Symbol.operator o) ss) (node (Symbol.operator p) us) (node a ts) f g h k d e =
        let (x, x') = passed (eqb o (S.operator a)) (matches_over S ss ts f) h d in
        let (y, y') = passed (eqb p (S.operator a)) (matches_over S us ts g) k e in
        true_both (eqb o p) (compatibles ss us) (eqb_true o p (eqb_equal o _ x ∙ sym (eqb_equal p _ y))) (matched_compatibles ss us ts f g h k x' y')
    matched_compatible (node (Symbol.operator o) ss) (node (Symbol.variable w) us) t f g h k d e = refl
    matched_compatible (node (Symbol.variable v) ss) q t f g h k d e = refl

    matched_compatibles : (ls qs : Forest Symbol) (ts : Forest A) (f g h k : Bindings A) → matches_over S ls ts f ≡ some h → matches_over S qs ts g ≡ some k →
        compatibles ls qs ≡ true
    matched_compatibles nil nil ts f g h k d e = refl
    matched_compatibles nil (cons q qs) nil f g h k d e = absurd (none-ne-some _ e)
    matched_compatibles nil (cons q qs) (cons t ts) f g h k d e = absurd (none-ne-some _ d)
    matched_compatibles (cons l ls) nil nil f g h k d e = absurd (none-ne-some _ d)
    matched_compatibles (cons l ls) nil (cons t ts) f g h k d e = absurd (none-ne-some _ e)
    matched_compatibles (cons l ls) (cons q qs) nil f g h k d e = absurd (none-ne-some _ d)
    matched_compatibles (cons l ls) (cons q qs) (cons t ts) f g h k d e =
        let (x, a, b) = both (match_over S l t f) (matches_over S ls ts) h d in
        let (y, a', b') = both (match_over S q t g) (matches_over S qs ts) k e in
        true_both (compatible l q) (compatibles ls qs) (matched_compatible l q t f g x y a a') (matched_compatibles ls qs ts x y h k b b')

pub matches_compatible : (l q : Side) (t : Term) → Matches l t → Matches q t → compatible l q ≡ true
unfolding match
matches_compatible l q t m n =
    let (f, d) = (match_exact l t).1 m in
    let (g, e) = (match_exact q t).1 n in
    matched_compatible operators l q t blank blank f g d e

-- VARIABLES THAT STAND ONCE

once_split : (x : ℕ) (xs : List ℕ) → once (x ∷ xs) ≡ true → (¬ In x xs) × (once xs ≡ true)
unfolding once
once_split x xs e = elim (has_cases x xs) [ inl p ↦ absurd (true≢false (sym (rw (p.0, once) at e))) | inr p ↦ (p.1, rw (p.0, once) at e) ]

once_join : (x : ℕ) (xs : List ℕ) → ¬ In x xs → once xs ≡ true → once (x ∷ xs) ≡ true
unfolding once
once_join x xs n e = elim (has_cases x xs) [ inl p ↦ absurd (n p.1) | inr p ↦ rw (p.0, once) e ]

pub in_front : {A : Type 0} (x : A) (xs ys : List A) → In x xs → In x (xs ++ ys)
in_front x [] ys i = elim i [ ]
in_front x (z ∷ xs) ys (inl e) = inl e
in_front x (z ∷ xs) ys (inr i) = inr (in_front x xs ys i)

pub in_back : {A : Type 0} (x : A) (xs ys : List A) → In x ys → In x (xs ++ ys)
in_back x [] ys i = i
in_back x (z ∷ xs) ys i = inr (in_back x xs ys i)

once_append : (xs ys : List ℕ) → once (xs ++ ys) ≡ true → (once xs ≡ true) × (once ys ≡ true) × ((v : ℕ) → In v xs → In v ys → ⊥)
unfolding once
once_append [] ys e = (refl, e, λ v i j. i)
once_append (x ∷ xs) ys e =
    let (n, d) = once_split x (xs ++ ys) e in
    let (a, b, c) = once_append xs ys d in (
      once_join x xs (λ i. n (in_front x xs ys i)) a,
      b,
      λ v i j. elim i [ inl p ↦ n (in_back x xs ys (subst (λ (w : ℕ). In w ys) p j)) | inr i ↦ c v i j ],
    )

-- a side covers a term where the operators agree, whatever the variables are called
abbrev mutual
  Covers : Side → Term → Type 0
  Covers (node (Symbol.operator o) ss) (node p ts) = (o ≡ p) × CoversAll ss ts
  Covers (node (Symbol.variable v) ss) t = Unit {0}

  CoversAll : Forest Symbol → Forest ℕ → Type 0
  CoversAll nil nil = Unit {0}
  CoversAll nil (cons t ts) = ⊥
  CoversAll (cons s ss) nil = ⊥
  CoversAll (cons s ss) (cons t ts) = Covers s t × CoversAll ss ts

-- none of these variables is bound
abbrev Fresh : List ℕ → Bindings ℕ → Type 0
Fresh vs f = (v : ℕ) → In v vs → f v ≡ none

-- a match that binds no other variables than these
abbrev Binds : List ℕ → Option (Bindings ℕ) → Bindings ℕ → Type 0
Binds vs m g = (f : Bindings ℕ) × (m ≡ some f) × ((w : ℕ) → ¬ In w vs → f w ≡ g w)

mutual
  unfolding match preorder variables meet

  covers_binds : (s : Side) (t : Term) (g : Bindings ℕ) → Covers s t → once (variables (preorder s)) ≡ true → Fresh (variables (preorder s)) g →
      Binds (variables (preorder s)) (match s t g) g
  covers_binds (node (Symbol.operator o) ss) (node p ts) g (e, c) d n =
      let (f, q, k) = cover_binds ss ts g c d n in
      (f, ap (λ (b : Bool). elim b as (λ b. Option (Bindings ℕ)) [ true ↦ matches_over operators ss ts g | false ↦ none ]) (eqb_true o p e) ∙ q, k)
  covers_binds (node (Symbol.variable v) ss) t g c d n = (
    bind v t g,
    ap (λ (m : Option Term). meet operators m v t g) (n v (inl refl)),
    λ w i. elim (bind_cases v w t g) [ inl p ↦ absurd (i (inl (sym p.0))) | inr p ↦ p ],
  )

  cover_binds : (ss : Forest Symbol) (ts : Forest ℕ) (g : Bindings ℕ) → CoversAll ss ts → once (variables (preorders ss)) ≡ true →
      Fresh (variables (preorders ss)) g → Binds (variables (preorders ss)) (matches_over operators ss ts g) g
  cover_binds nil nil g c d n = (g, refl, λ w i. refl)
  cover_binds nil (cons t ts) g c d n = absurd c
  cover_binds (cons s ss) nil g c d n = absurd c
  cover_binds (cons s ss) (cons t ts) g (c, cs) d n =
      let xs = variables (preorder s) in
      let ys = variables (preorders ss) in
      let a : variables (preorder s ++ preorders ss) ≡ xs ++ ys = variables_append (preorder s) (preorders ss) in
      let n' : Fresh (xs ++ ys) g = rw a at n in
      let (x, y, z) = once_append xs ys (rw a at d) in
      let (f, p, k) = covers_binds s t g c x (λ v i. n' v (in_front v xs ys i)) in
      let (h, q, l) = cover_binds ss ts f cs y (λ v i. k v (λ j. z v j i) ∙ n' v (in_back v xs ys i)) in (
        h,
        ap (λ (m : Option (Bindings ℕ)). and_then m (matches_over operators ss ts)) p ∙ q,
        rw a (λ w m. l w (λ i. m (in_back w xs ys i)) ∙ k w (λ i. m (in_front w xs ys i))),
      )

-- so a side without repeated variables matches the terms that it covers
pub covers_matches : (s : Side) (t : Term) → once (variables (preorder s)) ≡ true → Covers s t → Matches s t
covers_matches s t d c = (match_exact s t).0 (let (f, e, k) = covers_binds s t blank c d (λ v i. refl) in (f, e))

-- THE TERM THAT IS CONSTRUCTED

module _ (c : ℕ) where
  abbrev ground : Side → Term
  ground = fill (λ v. node c nil)

  abbrev grounds : Forest Symbol → Forest ℕ
  grounds = fills_over operators (λ v. node c nil)

  mutual
    unfolding fill

    covers_ground : (s : Side) → Covers s (ground s)
    covers_ground (node (Symbol.operator o) ss) = (refl, covers_grounds ss)
    covers_ground (node (Symbol.variable v) ss) = tt

    covers_grounds : (ss : Forest Symbol) → CoversAll ss (grounds ss)
    covers_grounds nil = tt
    covers_grounds (cons s ss) = (covers_ground s, covers_grounds ss)

  mutual
    unfolding fill merge compatible

    -- compatible sides cover it
    pub covers_merged : (s u : Side) → compatible s u ≡ true → Covers s (ground (merge s u)) × Covers u (ground (merge s u))
    covers_merged (node (Symbol.operator o) ss) (node (Symbol.operator p) us) e =
        let (a, b) = both_true (eqb o p) (compatibles ss us) e in
        let (x, y) = cover_merged ss us b in
        ((refl, x), (sym (eqb_equal o p a), y))
    covers_merged (node (Symbol.operator o) ss) (node (Symbol.variable w) us) e = (covers_ground (node (Symbol.operator o) ss), tt)
    covers_merged (node (Symbol.variable v) ss) u e = (tt, covers_ground u)

    cover_merged : (ss us : Forest Symbol) → compatibles ss us ≡ true → CoversAll ss (grounds (merges ss us)) × CoversAll us (grounds (merges ss us))
    cover_merged nil nil e = (tt, tt)
    cover_merged nil (cons u us) e = absurd (true≢false (sym e))
    cover_merged (cons s ss) nil e = absurd (true≢false (sym e))
    cover_merged (cons s ss) (cons u us) e =
        let (a, b) = both_true (compatible s u) (compatibles ss us) e in
        let (x, y) = covers_merged s u a in
        let (x', y') = cover_merged ss us b in
        ((x, x'), (y, y'))

  -- it has no more symbols than the two together
  mutual
    unfolding fill size

    pub ground_size : (s : Side) → size (ground s) ≤ size s
    ground_size (node (Symbol.operator o) ss) = let h = grounds_size ss in omega arith
    ground_size (node (Symbol.variable v) ss) = omega arith

    grounds_size : (ss : Forest Symbol) → sizes (grounds ss) ≤ sizes ss
    grounds_size nil = omega arith
    grounds_size (cons s ss) = let h = ground_size s in let k = grounds_size ss in omega arith

mutual
  unfolding merge size

  pub merge_size : (s u : Side) → size (merge s u) ≤ size s + size u
  merge_size (node (Symbol.operator o) ss) (node (Symbol.operator p) us) = let h = merges_size ss us in omega arith
  merge_size (node (Symbol.operator o) ss) (node (Symbol.variable w) us) = omega arith
  merge_size (node (Symbol.variable v) ss) u = omega arith

  merges_size : (ss us : Forest Symbol) → sizes (merges ss us) ≤ sizes ss + sizes us
  merges_size nil us = omega arith
  merges_size (cons s ss) nil = omega arith
  merges_size (cons s ss) (cons u us) = let h = merge_size s u in let k = merges_size ss us in omega arith

mutual
  unfolding merge preorder

  merge_all : (P : Symbol → Type 0) (s u : Side) → All P (preorder s) → All P (preorder u) → All P (preorder (merge s u))
  merge_all P (node (Symbol.operator o) ss) (node (Symbol.operator p) us) (k, ks) (l, ls) = (k, merges_all P ss us ks ls)
  merge_all P (node (Symbol.operator o) ss) (node (Symbol.variable w) us) k l = k
  merge_all P (node (Symbol.variable v) ss) u k l = l

  merges_all : (P : Symbol → Type 0) (ss us : Forest Symbol) → All P (preorders ss) → All P (preorders us) → All P (preorders (merges ss us))
  merges_all P nil us k l = tt
  merges_all P (cons s ss) nil k l = tt
  merges_all P (cons s ss) (cons u us) k l =
      let (a, a') = all_split P (preorder s) (preorders ss) k in
      let (b, b') = all_split P (preorder u) (preorders us) l in
      all_append P (preorder (merge s u)) (preorders (merges ss us)) (merge_all P s u a b) (merges_all P ss us a' b')

module _ (B : Book) where
  abbrev Right : Side → Type 0
  Right = Correct (symbol_arity B.operators)

  abbrev Rights : Forest Symbol → Type 0
  Rights = Corrects (symbol_arity B.operators)

  mutual
    unfolding merge compatible count

    merge_correct : (s u : Side) → Right s → Right u → compatible s u ≡ true → Right (merge s u)
    merge_correct (node (Symbol.operator o) ss) (node (Symbol.operator p) us) (k, ks) (l, ls) e =
        let (a, b) = merges_correct ss us ks ls (both_true (eqb o p) (compatibles ss us) e).1 in (a ∙ k, b)
    merge_correct (node (Symbol.operator o) ss) (node (Symbol.variable w) us) k l e = k
    merge_correct (node (Symbol.variable v) ss) u k l e = l

    merges_correct : (ss us : Forest Symbol) → Rights ss → Rights us → compatibles ss us ≡ true →
        (count (merges ss us) ≡ count ss) × Rights (merges ss us)
    merges_correct nil nil k l e = (refl, tt)
    merges_correct nil (cons u us) k l e = absurd (true≢false (sym e))
    merges_correct (cons s ss) nil k l e = absurd (true≢false (sym e))
    merges_correct (cons s ss) (cons u us) (k, ks) (l, ls) e =
        let (a, b) = both_true (compatible s u) (compatibles ss us) e in
        let (n, d) = merges_correct ss us ks ls b in
        (ap suc n, (merge_correct s u k l a, d))

  module _ (c : ℕ) (there : c < length B.operators) (constant : arity B c ≡ 0) where
    abbrev Op : ℕ → Type 0
    Op o = o < length B.operators

    mutual
      unfolding fill preorder

      ground_known : (s : Side) → All (Known B) (preorder s) → All Op (preorder (ground c s))
      ground_known (node (Symbol.operator o) ss) (k, ks) = (k, grounds_known ss ks)
      ground_known (node (Symbol.variable v) ss) k = (there, tt)

      grounds_known : (ss : Forest Symbol) → All (Known B) (preorders ss) → All Op (preorders (grounds c ss))
      grounds_known nil k = tt
      grounds_known (cons s ss) k =
          let (a, b) = all_split (Known B) (preorder s) (preorders ss) k in
          all_append Op (preorder (ground c s)) (preorders (grounds c ss)) (ground_known s a) (grounds_known ss b)

    -- the book can form it
    pub common_formed : (r q : Rule) → SoundRule B r → SoundRule B q → compatible r.left q.left ≡ true → Formed B (common c r.left q.left)
    unfolding common count
    common_formed r q s u e = let m = merge r.left q.left in record {
      correct = fill_correct B.operators m (λ v. node c nil) (merge_correct r.left q.left s.left u.left e)
          (all_of (λ v. Correct (arity B) (node c nil)) (variables (preorder m)) (λ v i. (sym constant, tt)));
      known = ground_known m (merge_all (Known B) r.left q.left s.left_known u.left_known);
    }
