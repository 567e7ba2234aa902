-- Laws of sizes: each is what skip finds by arities, so hopping by sizes is skipping by arities; the sizes of a part, and of the whole where a part gives way
-- to another; those of a tree. Assumes nothing.
use mathlib.Core.Bool.{true, true≢false}
use mathlib.Core.List.{List, [], ◌∷◌, ◌++◌, append_assoc, append-nil}
use mathlib.Core.Logic.{◌⊎◌, inl, inr}
use mathlib.Core.Path.{◌≡◌, refl, sym, ◌∙◌, ap, ap₂}
use Prim.Native.Nat.{ℕ, zero, suc, ◌+◌, ◌-◌, ◌<◌, ◌≤◌}
use native.Mathlib.Omega.{arith}
use native.Mathlib.Nat.{zero-add, add-zero, suc-add, add_assoc}
use lib.ListN.{get_or, length, take, drop, length-take, length-drop, take-append-drop}
use lib.Seq.{take_at, drop-drop, drop-nil, drop-cons, drop-append_seam, drop-append-add, get_or-take, length-take-le}
use Rattle.paper.specs.Tree.{node, Forest, nil, cons, preorder, count, preorders, size, Complete, Correct, Corrects, Position, subterm, replace}
use Rattle.paper.specs.Book.{Term}
use Rattle.paper.specs.Sound.{All}
use Rattle.paper.proofs.Trees.{size_preorder, correct_complete}
use Rattle.paper.proofs.Tests.{ltb_true, ltb_false}
use Rattle.flat.specs.Symbols.{skip, argument}
use Rattle.flat.specs.Rules.{spells}
use Rattle.flat.specs.Sizes.{tree_sizes, forest_sizes, sizes, hop, Hops, grown, grow, resize}
use Rattle.flat.specs.Relation.{Valid, offset}
use Rattle.flat.proofs.Offsets.{skip_none, skip_one, cut_at, drop_offset, correct_subterm, correct_replace}

-- HOPPING

pub hop_least : (zs : List ℕ) (n p : ℕ) → p ≤ hop zs n p
unfolding hop
hop_least zs zero p = omega arith
hop_least zs (suc n) p = omega (arith, hop_least zs n (p + get_or zs p 0))

pub hop_inside : (zs : List ℕ) (n p : ℕ) → Hops zs (suc n) p → hop zs n p < length zs
unfolding hop
hop_inside zs zero p h = h.0
hop_inside zs (suc n) p h = hop_inside zs n (p + get_or zs p 0) h.1

-- what hops inside the first sizes does so by all of them
same_hop : (zs : List ℕ) (len p : ℕ) → p < length (take len zs) → (p < length zs) × (get_or (take len zs) p 0 ≡ get_or zs p 0)
same_hop zs len p l = (omega (arith, length-take len zs), get_or-take len zs p 0 (omega (arith, length-take len zs)))

pub inside_front : (zs : List ℕ) (len n p : ℕ) → Hops (take len zs) n p → Hops zs n p
inside_front zs len zero p h = tt
inside_front zs len (suc n) p h = let (l, e) = same_hop zs len p h.0 in (l, inside_front zs len n (p + get_or zs p 0) (rw e at h.1))

pub hop_front : (zs : List ℕ) (len n p : ℕ) → Hops (take len zs) n p → hop zs n p ≡ hop (take len zs) n p
unfolding hop
hop_front zs len zero p h = refl
hop_front zs len (suc n) p h =
    let e = (same_hop zs len p h.0).1 in rw e (hop_front zs len n (p + get_or zs p 0) (rw e at h.1))

-- SIZES BY ARITIES

one_more : (n : ℕ) → 1 + n ≡ suc n
one_more n = omega arith

module _ (ar : ℕ → ℕ) where
  pub sizes_length : (xs : List ℕ) → length (sizes ar xs) ≡ length xs
  unfolding sizes
  sizes_length [] = refl
  sizes_length (x ∷ xs) = ap suc (sizes_length xs)

  pub size_at : (xs : List ℕ) (i : ℕ) → get_or (sizes ar xs) i 0 ≡ skip ar 1 (drop i xs)
  unfolding sizes
  size_at [] i = rw drop-nil
  size_at (x ∷ xs) zero = refl
  size_at (x ∷ xs) (suc i) = size_at xs i

  pub sizes_drop : (xs : List ℕ) (i : ℕ) → sizes ar (drop i xs) ≡ drop i (sizes ar xs)
  unfolding sizes
  sizes_drop xs zero = refl
  sizes_drop [] (suc i) = refl
  sizes_drop (x ∷ xs) (suc i) = sizes_drop xs i

  -- m terms, then n more
  pub skip_plus : (m n : ℕ) (xs : List ℕ) → skip ar (m + n) xs ≡ skip ar m xs + skip ar n (drop (skip ar m xs) xs)
  unfolding skip
  skip_plus m n [] = refl
  skip_plus zero n (x ∷ xs) = rw (zero-add n) (omega arith)
  skip_plus (suc m) n (x ∷ xs) = rw (suc-add m n, ← (add_assoc (ar x) m n)) (omega (arith, skip_plus (ar x + m) n xs))

  -- hopping n terms by their sizes is skipping them by arities
  pub hop_skip : (xs : List ℕ) (n p : ℕ) → hop (sizes ar xs) n p ≡ p + skip ar n (drop p xs)
  unfolding hop
  hop_skip xs zero p = omega (arith, skip_none ar (drop p xs))
  hop_skip xs (suc n) p =
      let k = skip ar 1 (drop p xs) in
      let s : skip ar (suc n) (drop p xs) ≡ k + skip ar n (drop (p + k) xs) = rw (one_more n, drop-drop k p xs) at (skip_plus 1 n (drop p xs)) in
      rw (size_at xs p) (omega (arith, s, hop_skip xs n (p + k)))

  pub hop_argument : (xs : List ℕ) (a i : ℕ) → hop (sizes ar xs) i (suc a) ≡ argument ar xs a i
  unfolding argument
  hop_argument xs a i = hop_skip xs i (suc a)

  -- PARTS

  pub skip_most : (xs : List ℕ) (n : ℕ) → skip ar n xs ≤ length xs
  unfolding skip
  skip_most [] n = omega arith
  skip_most (x ∷ xs) zero = omega arith
  skip_most (x ∷ xs) (suc n) = omega (arith, skip_most xs (ar x + n))

  -- the term of a symbol among the first n terms ends with them or before
  skip_nested : (xs : List ℕ) (n a : ℕ) → a < skip ar n xs → a + skip ar 1 (drop a xs) ≤ skip ar n xs
  unfolding skip
  skip_nested [] n a l = absurd (omega arith)
  skip_nested (x ∷ xs) zero a l = absurd (omega arith)
  skip_nested (x ∷ xs) (suc n) zero l = rw add-zero (omega (arith, skip_plus (ar x) n xs))
  skip_nested (x ∷ xs) (suc n) (suc a) l = omega (arith, skip_nested xs (ar x + n) a (omega arith))

  pub nested : (xs : List ℕ) (i a : ℕ) → i ≤ a → a < i + skip ar 1 (drop i xs) → a + skip ar 1 (drop a xs) ≤ i + skip ar 1 (drop i xs)
  nested xs i a l h =
      let e : i + (a - i) ≡ a = omega arith in
      omega (arith, rw (drop-drop, e) at (skip_nested (drop i xs) 1 (a - i) (omega arith)))

  -- n terms and what follows
  pub spells_skips : (ys : List ℕ) (n : ℕ) → spells ar n ys ≡ true → (m : ℕ) (r : List ℕ) → skip ar (n + m) (ys ++ r) ≡ length ys + skip ar m r
  unfolding skip spells
  spells_skips [] zero e m r = rw (zero-add m) (omega arith)
  spells_skips [] (suc n) e m r = absurd (true≢false (sym e))
  spells_skips (y ∷ ys) zero e m r = absurd (true≢false (sym e))
  spells_skips (y ∷ ys) (suc n) e m r = rw (suc-add n m, ← (add_assoc (ar y) n m)) (omega (arith, spells_skips ys (ar y + n) e m r))

  pub spells_skip : (ys : List ℕ) (n : ℕ) → spells ar n ys ≡ true → (r : List ℕ) → skip ar n (ys ++ r) ≡ length ys
  spells_skip ys n e r = omega (arith, rw (add-zero n) at (spells_skips ys n e 0 r), skip_none ar r)

  pub spells_length : (ys : List ℕ) (n : ℕ) → spells ar n ys ≡ true → skip ar n ys ≡ length ys
  spells_length ys n e = rw append-nil at (spells_skip ys n e [])

  pub spells_append : (ys r : List ℕ) (n m : ℕ) → spells ar n ys ≡ true → spells ar m r ≡ true → spells ar (n + m) (ys ++ r) ≡ true
  unfolding spells
  spells_append [] r zero m e f = rw (zero-add m) f
  spells_append [] r (suc n) m e f = absurd (true≢false (sym e))
  spells_append (y ∷ ys) r zero m e f = absurd (true≢false (sym e))
  spells_append (y ∷ ys) r (suc n) m e f = rw suc-add (rw add_assoc at (spells_append ys r (ar y + n) m e f))

  -- the first m of m + n terms, and the others
  pub spells_split : (xs : List ℕ) (m n : ℕ) → spells ar (m + n) xs ≡ true →
      (spells ar m (take (skip ar m xs) xs) ≡ true) × (spells ar n (drop (skip ar m xs) xs) ≡ true)
  unfolding skip spells
  spells_split [] zero n e = (refl, rw zero-add at e)
  spells_split [] (suc m) n e = absurd (true≢false (sym (rw suc-add at e)))
  spells_split (x ∷ xs) zero n e = (refl, rw zero-add at e)
  spells_split (x ∷ xs) (suc m) n e = spells_split xs (ar x + m) n (rw (suc-add, spells, ← add_assoc) at e)

  -- what stands from a symbol on is its term and some more
  pub spells_drop : (xs : List ℕ) (n i : ℕ) → spells ar n xs ≡ true → i < length xs → (m : ℕ) × (spells ar (suc m) (drop i xs) ≡ true)
  unfolding spells
  spells_drop [] n i e l = absurd (omega arith)
  spells_drop (x ∷ xs) zero i e l = absurd (true≢false (sym e))
  spells_drop (x ∷ xs) (suc n) zero e l = (n, e)
  spells_drop (x ∷ xs) (suc n) (suc i) e l = spells_drop xs (ar x + n) i e (omega arith)

  -- the term of the symbol at offset i: it is one, and it ends inside
  pub spells_part : (xs : List ℕ) (i : ℕ) → spells ar 1 xs ≡ true → i < length xs → spells ar 1 (take (skip ar 1 (drop i xs)) (drop i xs)) ≡ true
  spells_part xs i e l = let (m, f) = spells_drop xs 1 i e l in (spells_split (drop i xs) 1 m (rw (← (one_more m)) at f)).0

  pub part_inside : (xs : List ℕ) (i : ℕ) → i ≤ length xs → i + skip ar 1 (drop i xs) ≤ length xs
  part_inside xs i l = omega (arith, skip_most (drop i xs) 1, length-drop i xs)

  -- fewer terms than some symbols spell don't need what follows
  skip_front : (ys : List ℕ) (n m : ℕ) → spells ar n ys ≡ true → m ≤ n → (r : List ℕ) → skip ar m (ys ++ r) ≡ skip ar m ys
  unfolding skip spells
  skip_front [] zero m e l r = let z : m ≡ 0 = omega arith in rw z (skip_none ar r)
  skip_front [] (suc n) m e l r = absurd (true≢false (sym e))
  skip_front (y ∷ ys) zero m e l r = absurd (true≢false (sym e))
  skip_front (y ∷ ys) (suc n) zero e l r = refl
  skip_front (y ∷ ys) (suc n) (suc m) e l r = ap suc (skip_front ys (ar y + n) (ar y + m) e (omega arith) r)

  pub sizes_append : (ys : List ℕ) (n : ℕ) → spells ar n ys ≡ true → (r : List ℕ) → sizes ar (ys ++ r) ≡ sizes ar ys ++ sizes ar r
  unfolding sizes spells
  sizes_append [] n e r = refl
  sizes_append (y ∷ ys) zero e r = absurd (true≢false (sym e))
  sizes_append (y ∷ ys) (suc n) e r =
      ap₂ (λ (z : ℕ) (zs : List ℕ). suc z ∷ zs) (skip_front ys (ar y + n) (ar y + 0) e (omega arith) r) (sizes_append ys (ar y + n) e r)

  pub part_sizes : (xs : List ℕ) (i : ℕ) → spells ar 1 xs ≡ true → i < length xs →
      sizes ar (take (skip ar 1 (drop i xs)) (drop i xs)) ≡ take (skip ar 1 (drop i xs)) (drop i (sizes ar xs))
  part_sizes xs i e l =
      let d = drop i xs in
      let k = skip ar 1 d in
      let w : sizes ar d ≡ sizes ar (take k d) ++ sizes ar (drop k d) =
      ap (sizes ar) (sym (take-append-drop k d)) ∙ sizes_append (take k d) 1 (spells_part xs i e l) (drop k d) in
      sym (ap (take k) (sym (sizes_drop xs i) ∙ w)
      ∙ take_at (sizes ar (take k d)) (sizes ar (drop k d)) k (sizes_length (take k d) ∙ length-take-le k d (skip_most d 1)))

  pub root_size : (xs : List ℕ) → spells ar 1 xs ≡ true → get_or (sizes ar xs) 0 0 ≡ length xs
  root_size xs e = size_at xs 0 ∙ spells_length xs 1 e

  -- ARGUMENTS

  pub spells_some : (xs : List ℕ) (n : ℕ) → spells ar (suc n) xs ≡ true → 0 < length xs
  unfolding spells
  spells_some [] n e = absurd (true≢false (sym e))
  spells_some (x ∷ xs) n e = omega arith

  inside_spells : (xs : List ℕ) (i n p : ℕ) → spells ar (i + n) (drop p xs) ≡ true → Hops (sizes ar xs) i p
  inside_spells xs zero n p e = tt
  inside_spells xs (suc i) n p e =
      let k = skip ar 1 (drop p xs) in
      let e' : spells ar (suc (i + n)) (drop p xs) ≡ true = rw (← (suc-add i n)) e in
      let s : spells ar (i + n) (drop (p + k) xs) ≡ true =
      rw (drop-drop k p xs) at (spells_split (drop p xs) 1 (i + n) (rw (one_more (i + n)) e')).1 in
      (omega (arith, spells_some (drop p xs) (i + n) e', length-drop p xs, sizes_length xs), rw (size_at xs p) (inside_spells xs i n (p + k) s))

  -- the arguments of the symbol at offset a are inside, and its term ends with the last
  pub inside_arguments : (xs : List ℕ) (a i : ℕ) → spells ar 1 xs ≡ true → a < length xs → i ≤ ar (get_or xs a 0) → Hops (sizes ar xs) i (suc a)
  unfolding spells
  inside_arguments xs a i e l h =
      let (m, f) = spells_drop xs 1 a e l in
      let k = ar (get_or xs a 0) in
      let g : spells ar (k + m) (drop (suc a) xs) ≡ true = rw (drop-cons xs a 0 l) at f in
      let q : i + (k - i + m) ≡ k + m = omega arith in
      inside_spells xs i (k - i + m) (suc a) (rw q g)

  pub arguments_inside : (xs : List ℕ) (a i : ℕ) → spells ar 1 xs ≡ true → a < length xs → i < ar (get_or xs a 0) → argument ar xs a i < length xs
  arguments_inside xs a i e l h =
      rw (← (hop_argument xs a i), ← (sizes_length xs)) (hop_inside (sizes ar xs) i (suc a) (inside_arguments xs a (suc i) e l (omega arith)))

  pub hop_end : (xs : List ℕ) (a : ℕ) → a < length xs → hop (sizes ar xs) (ar (get_or xs a 0)) (suc a) ≡ a + skip ar 1 (drop a xs)
  unfolding skip
  hop_end xs a l = rw (drop-cons xs a 0 l, add-zero (ar (get_or xs a 0))) (omega (arith, hop_skip xs (ar (get_or xs a 0)) (suc a)))

  -- A PART GIVES WAY

  -- n terms from ps on end inside it, or reach k terms and one more beyond it
  reach : (ps : List ℕ) (n : ℕ) → ((zs : List ℕ) → skip ar n (ps ++ zs) ≡ skip ar n ps) ⊎
      ((k : ℕ) × ((zs : List ℕ) → skip ar n (ps ++ zs) ≡ length ps + skip ar (1 + k) zs))
  unfolding skip
  reach [] zero = inl (skip_none ar)
  reach [] (suc n) = inr (n, λ zs. rw (one_more n) (omega arith))
  reach (x ∷ ps) zero = inl (λ zs. refl)
  reach (x ∷ ps) (suc n) = elim (reach ps (ar x + n)) [
    | inl f ↦ inl (λ zs. ap suc (f zs))
    | inr q ↦ inr (q.0, λ zs. omega (arith, q.1 zs))
  ]

pub grown_beside : (a e n i z : ℕ) → i + z ≤ a → grown a e n i z ≡ z
unfolding grown
grown_beside a e n i z h = rw (ltb_false a (i + z) h, grown)

pub grown_around : (a e n i z : ℕ) → a < i + z → grown a e n i z ≡ z + n - (e - a)
unfolding grown
grown_around a e n i z h = rw (ltb_true a (i + z) h, grown)

-- the term part gives way to the term ys, and r follows
module _ (ar : ℕ → ℕ) (part ys r : List ℕ) (one : spells ar 1 part ≡ true) (other : spells ar 1 ys ≡ true) where
  size_grown : (ps : List ℕ) (n i a e : ℕ) → i + length ps ≡ a → e ≡ a + length part →
      skip ar n (ps ++ (ys ++ r)) ≡ grown a e (length ys) i (skip ar n (ps ++ (part ++ r)))
  size_grown ps n i a e ea ee = elim (reach ar ps n) [
    | inl f ↦ rw (f (ys ++ r), f (part ++ r)) (sym (grown_beside a e (length ys) i (skip ar n ps) (omega (arith, skip_most ar ps n))))
    | inr q ↦
        let z = skip ar n (ps ++ (part ++ r)) in
        let s : z ≡ length ps + (length part + skip ar q.0 r) = q.1 (part ++ r) ∙ ap (λ (k : ℕ). length ps + k) (spells_skips ar part 1 one q.0 r) in
        let l = spells_some ar part 0 one in
        omega (arith, s, q.1 (ys ++ r), spells_skips ar ys 1 other q.0 r, grown_around a e (length ys) i z (omega arith))
  ]

  sizes_grown : (ps : List ℕ) (i a e : ℕ) → i + length ps ≡ a → e ≡ a + length part →
      take (length ps) (sizes ar (ps ++ (ys ++ r))) ≡ grow a e (length ys) i (take (length ps) (sizes ar (ps ++ (part ++ r))))
  unfolding sizes grow
  sizes_grown [] i a e ea ee = refl
  sizes_grown (x ∷ ps) i a e ea ee =
      ap₂ (λ (z : ℕ) (zs : List ℕ). z ∷ zs) (size_grown (x ∷ ps) 1 i a e ea ee) (sizes_grown ps (suc i) a e (omega arith) ee)

  pub sizes_replace : (ps : List ℕ) →
      sizes ar (ps ++ (ys ++ r)) ≡ resize (length ps) (length ps + length part) (sizes ar ys) (sizes ar (ps ++ (part ++ r)))
  unfolding resize
  sizes_replace ps =
      let n = length ps in
      let b : drop n (sizes ar (ps ++ (ys ++ r))) ≡ sizes ar ys ++ sizes ar r =
      sym (sizes_drop ar (ps ++ (ys ++ r)) n) ∙ ap (sizes ar) (drop-append_seam ps (ys ++ r)) ∙ sizes_append ar ys 1 other r in
      let d : drop (n + length part) (sizes ar (ps ++ (part ++ r))) ≡ sizes ar r =
      sym (sizes_drop ar (ps ++ (part ++ r)) (n + length part))
      ∙ ap (sizes ar) (drop-append-add ps (part ++ r) (length part) ∙ drop-append_seam part r) in
      sym (take-append-drop n (sizes ar (ps ++ (ys ++ r))))
      ∙ ap₂ (λ (us vs : List ℕ). us ++ vs) (sizes_grown ps 0 n (n + length part) (omega arith) refl) b
      ∙ rw (sizes_length ar ys, d)

-- SAME ARITIES

pub skip_same : (f g : ℕ → ℕ) (n : ℕ) (xs : List ℕ) → All (λ o. f o ≡ g o) xs → skip f n xs ≡ skip g n xs
unfolding skip
skip_same f g n [] h = refl
skip_same f g zero (x ∷ xs) h = refl
skip_same f g (suc n) (x ∷ xs) h = rw h.0 (ap suc (skip_same f g (g x + n) xs h.1))

pub sizes_same : (f g : ℕ → ℕ) (xs : List ℕ) → All (λ o. f o ≡ g o) xs → sizes f xs ≡ sizes g xs
unfolding sizes
sizes_same f g [] h = refl
sizes_same f g (x ∷ xs) h = ap₂ (λ (z : ℕ) (zs : List ℕ). z ∷ zs) (skip_same f g 1 (x ∷ xs) h) (sizes_same f g xs h.1)

pub spells_same : (f g : ℕ → ℕ) (n : ℕ) (xs : List ℕ) → All (λ o. f o ≡ g o) xs → spells f n xs ≡ spells g n xs
unfolding spells
spells_same f g zero [] h = refl
spells_same f g (suc n) [] h = refl
spells_same f g zero (x ∷ xs) h = refl
spells_same f g (suc n) (x ∷ xs) h = rw (h.0, spells) (spells_same f g (g x + n) xs h.1)

-- TREES

module _ (ar : ℕ → ℕ) where
  complete_spells : (n : ℕ) (xs : List ℕ) → Complete ar n xs → spells ar n xs ≡ true
  unfolding spells
  complete_spells zero [] h = refl
  complete_spells zero (x ∷ xs) h = absurd h
  complete_spells (suc n) [] h = absurd h
  complete_spells (suc n) (x ∷ xs) h = complete_spells (ar x + n) xs h

  pub correct_spells : (t : Term) → Correct ar t → spells ar 1 (preorder t) ≡ true
  unfolding preorder count
  correct_spells t c = complete_spells 1 (preorder t) (rw append-nil at (correct_complete ar (cons t nil) (c, tt)))

  mutual
    unfolding preorder sizes tree_sizes

    pub tree_sizes_are : (t : Term) → Correct ar t → (r : List ℕ) → sizes ar (preorder t ++ r) ≡ tree_sizes t ++ sizes ar r
    tree_sizes_are (node o ts) c r = ap₂ (λ (z : ℕ) (zs : List ℕ). z ∷ zs) (skip_one ar (node o ts) c r) (forest_sizes_are ts c.1 r)

    forest_sizes_are : (ts : Forest ℕ) → Corrects ar ts → (r : List ℕ) → sizes ar (preorders ts ++ r) ≡ forest_sizes ts ++ sizes ar r
    forest_sizes_are nil c r = refl
    forest_sizes_are (cons t ts) c r =
        rw (append_assoc (preorder t) (preorders ts) r, append_assoc (tree_sizes t) (forest_sizes ts) (sizes ar r))
        (tree_sizes_are t c.0 (preorders ts ++ r) ∙ ap (λ (zs : List ℕ). tree_sizes t ++ zs) (forest_sizes_are ts c.1 r))

  pub term_sizes : (t : Term) → Correct ar t → sizes ar (preorder t) ≡ tree_sizes t
  unfolding sizes
  term_sizes t c = simp append-nil at (tree_sizes_are t c [])

  -- each size is that of the tree that stands there
  pub size_of_tree : (p : Position) (t : Term) → Correct ar t → Valid p t → get_or (sizes ar (preorder t)) (offset p t) 0 ≡ size (subterm p t)
  size_of_tree p t c v =
      let (r, d) = drop_offset p t v in
      size_at ar (preorder t) (offset p t) ∙ ap (skip ar 1) d ∙ skip_one ar (subterm p t) (correct_subterm ar p t v c) r

  pub resize_replace : (p : Position) (y t : Term) → Correct ar t → Correct ar y → Valid p t →
      resize (offset p t) (offset p t + size (subterm p t)) (tree_sizes y) (tree_sizes t) ≡ tree_sizes (replace p y t)
  resize_replace p y t c k v =
      let x = subterm p t in
      let q = cut_at p t v in
      let s = sizes_replace ar (preorder x) (preorder y) q.behind (correct_spells x (correct_subterm ar p t v c)) (correct_spells y k) q.front in
      let w = term_sizes (replace p y t) (correct_replace ar p y k t c) in
      sym (rw (← (q.there y), ← q.here, q.is_front, ← (size_preorder x), term_sizes y k, term_sizes t c, w) at s)

pub tree_root : (t : Term) → get_or (tree_sizes t) 0 0 ≡ size t
unfolding tree_sizes
tree_root (node o ts) = refl
