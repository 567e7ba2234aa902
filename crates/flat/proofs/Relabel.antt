-- A tree with each label turned into another has the tree's shape: its symbols are the tree's turned, and its positions, offsets, sizes and parts are the tree's.
-- Assumes nothing.
use mathlib.Core.List.{List, [], ◌∷◌, ◌++◌, map, map-append}
use mathlib.Core.Path.{◌≡◌, refl, sym, ◌∙◌, ap, ap₂, subst}
use Prim.Native.Nat.{ℕ, zero, suc, ◌+◌, ◌<◌}
use lib.ListN.{take, drop}
use Rattle.paper.specs.Tree.{Tree, node, Forest, nil, cons, label, arguments, count, preorder, preorders, size, sizes, Correct, Corrects, relabel, relabels, Position, pick, subterm, change, replace}
use Rattle.flat.specs.Relation.{Valid, offsets, offset}

module _ {A C : Type 0} (f : A → C) where
  pub map_take : (n : ℕ) (xs : List A) → map f (take n xs) ≡ take n (map f xs)
  map_take zero xs = refl
  map_take (suc n) [] = refl
  map_take (suc n) (x ∷ xs) = ap (λ (z : List C). f x ∷ z) (map_take n xs)

  pub map_drop : (n : ℕ) (xs : List A) → map f (drop n xs) ≡ drop n (map f xs)
  map_drop zero xs = refl
  map_drop (suc n) [] = refl
  map_drop (suc n) (x ∷ xs) = map_drop n xs

  mutual
    unfolding relabel preorder

    pub relabel_preorder : (t : Tree A) → preorder (relabel f t) ≡ map f (preorder t)
    relabel_preorder (node a ts) = ap (λ (z : List C). f a ∷ z) (relabels_preorder ts)

    relabels_preorder : (ts : Forest A) → preorders (relabels f ts) ≡ map f (preorders ts)
    relabels_preorder nil = refl
    relabels_preorder (cons t ts) =
        ap₂ (λ (x y : List C). x ++ y) (relabel_preorder t) (relabels_preorder ts) ∙ sym (map-append f (preorder t) (preorders ts))

  mutual
    unfolding relabel size

    pub relabel_size : (t : Tree A) → size (relabel f t) ≡ size t
    relabel_size (node a ts) = ap suc (relabels_size ts)

    relabels_size : (ts : Forest A) → sizes (relabels f ts) ≡ sizes ts
    relabels_size nil = refl
    relabels_size (cons t ts) = ap₂ (λ (x y : ℕ). x + y) (relabel_size t) (relabels_size ts)

  relabels_count : (ts : Forest A) → count (relabels f ts) ≡ count ts
  unfolding relabel count
  relabels_count nil = refl
  relabels_count (cons t ts) = ap suc (relabels_count ts)

  mutual
    unfolding relabel

    pub relabel_correct : (arity : C → ℕ) (t : Tree A) → Correct (λ a. arity (f a)) t → Correct arity (relabel f t)
    relabel_correct arity (node a ts) c = (relabels_count ts ∙ c.0, relabels_correct arity ts c.1)

    relabels_correct : (arity : C → ℕ) (ts : Forest A) → Corrects (λ a. arity (f a)) ts → Corrects arity (relabels f ts)
    relabels_correct arity nil c = tt
    relabels_correct arity (cons t ts) c = (relabel_correct arity t c.0, relabels_correct arity ts c.1)

  -- PARTS

  pub relabel_label : (t : Tree A) → label (relabel f t) ≡ f (label t)
  unfolding relabel label
  relabel_label (node a ts) = refl

  relabel_arguments : (t : Tree A) → arguments (relabel f t) ≡ relabels f (arguments t)
  unfolding relabel arguments
  relabel_arguments (node a ts) = refl

  relabel_pick : (d : Tree A) (i : ℕ) (ts : Forest A) → relabel f (pick d i ts) ≡ pick (relabel f d) i (relabels f ts)
  unfolding relabel pick
  relabel_pick d i nil = refl
  relabel_pick d zero (cons t ts) = refl
  relabel_pick d (suc i) (cons t ts) = relabel_pick d i ts

  -- the argument of the turned tree
  picked : (i : ℕ) (t : Tree A) → relabel f (pick t i (arguments t)) ≡ pick (relabel f t) i (arguments (relabel f t))
  picked i t = relabel_pick t i (arguments t) ∙ ap (pick (relabel f t) i) (sym (relabel_arguments t))

  pub relabel_subterm : (p : Position) (t : Tree A) → relabel f (subterm p t) ≡ subterm p (relabel f t)
  unfolding subterm
  relabel_subterm [] t = refl
  relabel_subterm (i ∷ p) t = relabel_subterm p (pick t i (arguments t)) ∙ ap (subterm p) (picked i t)

  relabel_change : (i : ℕ) (g : Tree A → Tree A) (h : Tree C → Tree C) → ((t : Tree A) → relabel f (g t) ≡ h (relabel f t)) → (ts : Forest A) →
      relabels f (change i g ts) ≡ change i h (relabels f ts)
  unfolding relabel change
  relabel_change i g h e nil = refl
  relabel_change zero g h e (cons t ts) = ap (λ (z : Tree C). cons z (relabels f ts)) (e t)
  relabel_change (suc i) g h e (cons t ts) = ap (cons (relabel f t)) (relabel_change i g h e ts)

  pub relabel_replace : (p : Position) (x t : Tree A) → relabel f (replace p x t) ≡ replace p (relabel f x) (relabel f t)
  unfolding relabel replace label arguments
  relabel_replace [] x t = refl
  relabel_replace (i ∷ p) x (node a ts) =
      ap (node (f a)) (relabel_change i (replace p x) (replace p (relabel f x)) (relabel_replace p x) ts)

  -- POSITIONS

  pub relabel_valid : (p : Position) (t : Tree A) → Valid p (relabel f t) → Valid p t
  relabel_valid [] t v = tt
  relabel_valid (i ∷ p) t v = (
    subst (λ (n : ℕ). i < n) (ap count (relabel_arguments t) ∙ relabels_count (arguments t)) v.0,
    relabel_valid p (pick t i (arguments t)) (subst (Valid p) (sym (picked i t)) v.1),
  )

  relabel_offsets : (g : Tree A → ℕ) (h : Tree C → ℕ) → ((t : Tree A) → h (relabel f t) ≡ g t) → (i : ℕ) (ts : Forest A) → offsets h i (relabels f ts) ≡ offsets g i ts
  unfolding relabel offsets
  relabel_offsets g h e i nil = refl
  relabel_offsets g h e zero (cons t ts) = e t
  relabel_offsets g h e (suc i) (cons t ts) = ap₂ (λ (x y : ℕ). x + y) (relabel_size t) (relabel_offsets g h e i ts)

  pub relabel_offset : (p : Position) (t : Tree A) → offset p (relabel f t) ≡ offset p t
  unfolding relabel offset arguments
  relabel_offset [] t = refl
  relabel_offset (i ∷ p) (node a ts) = ap suc (relabel_offsets (offset p) (offset p) (relabel_offset p) i ts)
