-- Preorder writing of trees: what is written is rebuilt, and the lists that spell exactly n arity-correct trees; parts put in their places; labels
-- turned into others. Assumes nothing.
use mathlib.Core.List.{List, [], ◌∷◌, ◌++◌, map, map-append, append_assoc, append-nil}
use mathlib.Core.Logic.{◌≢◌}
use mathlib.Core.Path.{◌≡◌, refl, sym, ap, ap₂, ◌∙◌, subst}
use Prim.Native.Nat.{ℕ, zero, suc, ◌+◌, ◌-◌, ◌≤◌, ◌<◌}
use native.Mathlib.Omega.{arith}
use lib.ListN.{length, length-append, length-map}
use Rattle.paper.specs.Tree.{Tree, node, Forest, nil, cons, label, arguments, count, preorder, preorders, size, sizes, first_trees, other_trees, trees, Correct, Corrects, Complete, relabel, relabels, Position, pick, subterm, change, replace}

module _ {A : Type 0} where
  -- one forest before another
  beside : Forest A → Forest A → Forest A
  beside nil us = us
  beside (cons t ts) us = cons t (beside ts us)

  first_beside : (ts us : Forest A) → first_trees (count ts) (beside ts us) ≡ ts
  unfolding first_trees count beside
  first_beside nil nil = refl
  first_beside nil (cons u us) = refl
  first_beside (cons t ts) us = ap (cons t) (first_beside ts us)

  other_beside : (ts us : Forest A) → other_trees (count ts) (beside ts us) ≡ us
  unfolding other_trees count beside
  other_beside nil nil = refl
  other_beside nil (cons u us) = refl
  other_beside (cons t ts) us = other_beside ts us

  beside_nil : (ts : Forest A) → beside ts nil ≡ ts
  unfolding beside
  beside_nil nil = refl
  beside_nil (cons t ts) = ap (cons t) (beside_nil ts)

  preorders_split : (n : ℕ) (ts : Forest A) → preorders (first_trees n ts) ++ preorders (other_trees n ts) ≡ preorders ts
  unfolding first_trees other_trees preorders
  preorders_split zero nil = refl
  preorders_split (suc n) nil = refl
  preorders_split zero (cons t ts) = refl
  preorders_split (suc n) (cons t ts) =
      append_assoc (preorder t) (preorders (first_trees n ts)) (preorders (other_trees n ts))
      ∙ ap (λ (xs : List A). preorder t ++ xs) (preorders_split n ts)

  mutual
    unfolding size preorder

    pub size_preorder : (t : Tree A) → size t ≡ length (preorder t)
    size_preorder (node a ts) = ap suc (sizes_preorders ts)

    pub sizes_preorders : (ts : Forest A) → sizes ts ≡ length (preorders ts)
    sizes_preorders nil = refl
    sizes_preorders (cons t ts) = ap₂ ◌+◌ (size_preorder t) (sizes_preorders ts) ∙ sym (length-append (preorder t) (preorders ts))

module _ {A : Type 0} (arity : A → ℕ) where
  -- the symbols of the trees that some symbols spell are those symbols
  pub preorders_trees : (xs : List A) → preorders (trees arity xs) ≡ xs
  unfolding preorders trees
  preorders_trees [] = refl
  preorders_trees (x ∷ xs) = ap (λ (ys : List A). x ∷ ys) (preorders_split (arity x) (trees arity xs) ∙ preorders_trees xs)

  mutual
    unfolding preorder trees beside

    trees_preorder : (t : Tree A) → Correct arity t → (xs : List A) → trees arity (preorder t ++ xs) ≡ cons t (trees arity xs)
    trees_preorder (node a ts) h xs =
        let us = trees arity xs in
        rw (trees_beside ts h.1 xs, ← h.0, first_beside ts us, other_beside ts us)

    trees_beside : (ts : Forest A) → Corrects arity ts → (xs : List A) → trees arity (preorders ts ++ xs) ≡ beside ts (trees arity xs)
    trees_beside nil h xs = refl
    trees_beside (cons t ts) h xs =
        ap (trees arity) (append_assoc (preorder t) (preorders ts) xs)
        ∙ trees_preorder t h.0 (preorders ts ++ xs)
        ∙ ap (cons t) (trees_beside ts h.1 xs)

  -- the trees that the symbols of correct trees spell are those trees
  pub trees_preorders : (ts : Forest A) → Corrects arity ts → trees arity (preorders ts) ≡ ts
  unfolding trees
  trees_preorders ts h = ap (trees arity) (sym (append-nil (preorders ts))) ∙ trees_beside ts h [] ∙ beside_nil ts

  first_correct : (n : ℕ) (ts : Forest A) → Corrects arity ts → n ≤ count ts → Corrects arity (first_trees n ts) × (count (first_trees n ts) ≡ n)
  unfolding first_trees count
  first_correct zero nil h l = (tt, refl)
  first_correct (suc n) nil h l = absurd (omega arith)
  first_correct zero (cons t ts) h l = (tt, refl)
  first_correct (suc n) (cons t ts) h l = let (c, e) = first_correct n ts h.1 (omega arith) in ((h.0, c), ap suc e)

  other_correct : (n : ℕ) (ts : Forest A) → Corrects arity ts → Corrects arity (other_trees n ts) × (count (other_trees n ts) ≡ count ts - n)
  unfolding other_trees count
  other_correct zero nil h = (tt, refl)
  other_correct (suc n) nil h = (tt, omega arith)
  other_correct zero (cons t ts) h = (h, omega arith)
  other_correct (suc n) (cons t ts) h = let (c, e) = other_correct n ts h.1 in (c, omega arith)

  -- symbols that spell `due` terms make `due` correct trees
  pub complete_correct : (due : ℕ) (xs : List A) → Complete arity due xs → Corrects arity (trees arity xs) × (count (trees arity xs) ≡ due)
  unfolding trees count
  complete_correct zero [] h = (tt, refl)
  complete_correct zero (x ∷ xs) h = absurd h
  complete_correct (suc due) [] h = absurd h
  complete_correct (suc due) (x ∷ xs) h =
      let (c, e) = complete_correct (arity x + due) xs h in
      let (f, p) = first_correct (arity x) (trees arity xs) c (omega arith) in
      let (o, q) = other_correct (arity x) (trees arity xs) c in
      (((p, f), o), omega arith)

  mutual
    unfolding preorder count

    correct_before : (t : Tree A) → Correct arity t → (due : ℕ) (xs : List A) → Complete arity due xs → Complete arity (suc due) (preorder t ++ xs)
    correct_before (node a ts) h due xs c =
        subst (λ (n : ℕ). Complete arity (n + due) (preorders ts ++ xs)) h.0 (corrects_before ts h.1 due xs c)

    corrects_before : (ts : Forest A) → Corrects arity ts → (due : ℕ) (xs : List A) → Complete arity due xs →
        Complete arity (count ts + due) (preorders ts ++ xs)
    corrects_before nil h due xs c = let e : 0 + due ≡ due = omega arith in rw e c
    corrects_before (cons t ts) h due xs c =
        let e : suc (count ts) + due ≡ suc (count ts + due) = omega arith in
        rw (e, append_assoc (preorder t) (preorders ts) xs)
        (correct_before t h.0 (count ts + due) (preorders ts ++ xs) (corrects_before ts h.1 due xs c))

  -- the symbols of correct trees spell as many terms
  pub correct_complete : (ts : Forest A) → Corrects arity ts → Complete arity (count ts) (preorders ts)
  correct_complete ts h =
      let e : count ts + 0 ≡ count ts = omega arith in
      rw (e, append-nil (preorders ts)) at (corrects_before ts h 0 [] tt)

  -- a root and the symbols of its arguments
  pub spelt_correct : (a : A) (xs : List A) → Complete arity (arity a) xs →
      Correct arity (node a (trees arity xs)) × (preorder (node a (trees arity xs)) ≡ a ∷ xs)
  unfolding preorder
  spelt_correct a xs h = let (c, e) = complete_correct (arity a) xs h in ((e, c), ap (λ (ys : List A). a ∷ ys) (preorders_trees xs))

  pub correct_spelt : (a : A) (ts : Forest A) → Correct arity (node a ts) →
      Complete arity (arity a) (preorders ts) × (node a (trees arity (preorders ts)) ≡ node a ts)
  correct_spelt a ts h =
      (subst (λ (n : ℕ). Complete arity n (preorders ts)) h.0 (correct_complete ts h.1), ap (node a) (trees_preorders ts h.1))

  -- no correct tree's symbols begin with those of another: symbols that begin with both begin with one tree
  pub same_first : (t u : Tree A) → Correct arity t → Correct arity u → (xs ys : List A) → preorder t ++ xs ≡ preorder u ++ ys → t ≡ u
  same_first t u c d xs ys e =
      let p : cons t (trees arity xs) ≡ cons u (trees arity ys) =
      sym (trees_preorder t c xs) ∙ ap (trees arity) e ∙ trees_preorder u d ys in
      cc

-- ARGUMENTS, of which one is put in its place

module _ {A : Type 0} where
  pub count_change : (i : ℕ) (f : Tree A → Tree A) (ts : Forest A) → count (change i f ts) ≡ count ts
  unfolding count change
  count_change i f nil = refl
  count_change zero f (cons t ts) = refl
  count_change (suc i) f (cons t ts) = ap suc (count_change i f ts)

  -- an argument that is there
  pub pick_any : (d e : Tree A) (j : ℕ) (ts : Forest A) → j < count ts → pick d j ts ≡ pick e j ts
  unfolding count pick
  pick_any d e j nil h = absurd (omega arith)
  pick_any d e zero (cons t ts) h = refl
  pick_any d e (suc j) (cons t ts) h = pick_any d e j ts (omega arith)

  pub pick_changed : (d e : Tree A) (j : ℕ) (f : Tree A → Tree A) (ts : Forest A) → j < count ts → pick d j (change j f ts) ≡ f (pick e j ts)
  unfolding count pick change
  pick_changed d e j f nil h = absurd (omega arith)
  pick_changed d e zero f (cons t ts) h = refl
  pick_changed d e (suc j) f (cons t ts) h = pick_changed d e j f ts (omega arith)

  pub pick_other : (d e : Tree A) (i j : ℕ) (f : Tree A → Tree A) (ts : Forest A) → j ≢ i → j < count ts → pick d j (change i f ts) ≡ pick e j ts
  unfolding count pick change
  pick_other d e i j f nil ne h = absurd (omega arith)
  pick_other d e zero zero f (cons t ts) ne h = absurd (ne refl)
  pick_other d e zero (suc j) f (cons t ts) ne h = pick_any d e j ts (omega arith)
  pick_other d e (suc i) zero f (cons t ts) ne h = refl
  pick_other d e (suc i) (suc j) f (cons t ts) ne h = pick_other d e i j f ts (λ q. ne (ap suc q)) (omega arith)

  -- below a position
  pub subterm_append : (p r : Position) (t : Tree A) → subterm (p ++ r) t ≡ subterm r (subterm p t)
  unfolding subterm
  subterm_append [] r t = refl
  subterm_append (j ∷ p) r t = subterm_append p r (pick t j (arguments t))

  change_below : (d : Tree A) (j : ℕ) (f g : Tree A → Tree A) (ts : Forest A) → f (pick d j ts) ≡ g (pick d j ts) → change j f ts ≡ change j g ts
  unfolding pick change
  change_below d j f g nil e = refl
  change_below d zero f g (cons t ts) e = ap (λ (x : Tree A). cons x ts) e
  change_below d (suc j) f g (cons t ts) e = ap (cons t) (change_below d j f g ts e)

  change_same : (j : ℕ) (ts : Forest A) → change j (λ x. x) ts ≡ ts
  unfolding change
  change_same j nil = refl
  change_same zero (cons t ts) = refl
  change_same (suc j) (cons t ts) = ap (cons t) (change_same j ts)

  -- a part put in its own place
  pub replace_same : (p : Position) (t : Tree A) → replace p (subterm p t) t ≡ t
  unfolding subterm replace label arguments
  replace_same [] t = refl
  replace_same (j ∷ p) (node a ts) =
      let x = pick (node a ts) j ts in
      ap (node a) (change_below (node a ts) j (replace p (subterm p x)) (λ x. x) ts (replace_same p x) ∙ change_same j ts)

  pub replace_below : (p : Position) (i : ℕ) (x t : Tree A) → replace (p ++ (i ∷ [])) x t ≡ replace p (replace (i ∷ []) x (subterm p t)) t
  unfolding subterm replace
  replace_below [] i x t = refl
  replace_below (j ∷ p) i x t =
      ap (node (label t))
      (change_below t j (replace (p ++ (i ∷ [])) x) (replace p (replace (i ∷ []) x (subterm p (pick t j (arguments t))))) (arguments t)
      (replace_below p i x (pick t j (arguments t))))

  pub corrects_change : (arity : A → ℕ) (i : ℕ) (s : Tree A) (ts : Forest A) → Correct arity s → Corrects arity ts →
      Corrects arity (change i (replace [] s) ts)
  unfolding change replace
  corrects_change arity i s nil c cs = tt
  corrects_change arity zero s (cons t ts) c cs = (c, cs.1)
  corrects_change arity (suc i) s (cons t ts) c cs = (cs.0, corrects_change arity i s ts c cs.1)

-- LABELS TURNED INTO OTHERS

module _ {A B : Type 0} (f : A → B) where
  mutual
    unfolding relabel preorder

    pub relabel_preorder : (t : Tree A) → preorder (relabel f t) ≡ map f (preorder t)
    relabel_preorder (node a ts) = ap (λ (ys : List B). f a ∷ ys) (relabels_preorders ts)

    pub relabels_preorders : (ts : Forest A) → preorders (relabels f ts) ≡ map f (preorders ts)
    relabels_preorders nil = refl
    relabels_preorders (cons t ts) = ap₂ ◌++◌ (relabel_preorder t) (relabels_preorders ts) ∙ sym (map-append f (preorder t) (preorders ts))

  pub relabel_size : (t : Tree A) → size (relabel f t) ≡ size t
  relabel_size t = size_preorder (relabel f t) ∙ ap length (relabel_preorder t) ∙ length-map (preorder t) f ∙ sym (size_preorder t)

  pub relabels_count : (ts : Forest A) → count (relabels f ts) ≡ count ts
  unfolding relabel count
  relabels_count nil = refl
  relabels_count (cons t ts) = ap suc (relabels_count ts)

  relabel_pick : (d : Tree A) (i : ℕ) (ts : Forest A) → relabel f (pick d i ts) ≡ pick (relabel f d) i (relabels f ts)
  unfolding relabel pick
  relabel_pick d i nil = refl
  relabel_pick d zero (cons t ts) = refl
  relabel_pick d (suc i) (cons t ts) = relabel_pick d i ts

  pub relabel_subterm : (p : Position) (t : Tree A) → relabel f (subterm p t) ≡ subterm p (relabel f t)
  unfolding relabel subterm arguments
  relabel_subterm [] t = refl
  relabel_subterm (i ∷ p) (node a ts) = relabel_subterm p (pick (node a ts) i ts) ∙ ap (subterm p) (relabel_pick (node a ts) i ts)

  relabels_change : (i : ℕ) (g : Tree A → Tree A) (h : Tree B → Tree B) (ts : Forest A) → ((t : Tree A) → relabel f (g t) ≡ h (relabel f t)) →
      relabels f (change i g ts) ≡ change i h (relabels f ts)
  unfolding relabel change
  relabels_change i g h nil e = refl
  relabels_change zero g h (cons t ts) e = ap (λ (u : Tree B). cons u (relabels f ts)) (e t)
  relabels_change (suc i) g h (cons t ts) e = ap (cons (relabel f t)) (relabels_change i g h ts e)

  pub relabel_replace : (p : Position) (s t : Tree A) → relabel f (replace p s t) ≡ replace p (relabel f s) (relabel f t)
  unfolding relabel replace label arguments
  relabel_replace [] s t = refl
  relabel_replace (i ∷ p) s (node a ts) = ap (node (f a)) (relabels_change i (replace p s) (replace p (relabel f s)) ts (relabel_replace p s))

  -- where the arities stay
  module _ (a : A → ℕ) (b : B → ℕ) (e : (x : A) → a x ≡ b (f x)) where
    mutual
      unfolding relabel

      pub relabel_correct : (t : Tree A) → Correct a t → Correct b (relabel f t)
      relabel_correct (node x ts) (c, cs) = (relabels_count ts ∙ c ∙ e x, relabels_correct ts cs)

      relabels_correct : (ts : Forest A) → Corrects a ts → Corrects b (relabels f ts)
      relabels_correct nil c = tt
      relabels_correct (cons t ts) (c, cs) = (relabel_correct t c, relabels_correct ts cs)

    mutual
      unfolding relabel

      pub correct_relabel : (t : Tree A) → Correct b (relabel f t) → Correct a t
      correct_relabel (node x ts) (c, cs) = (sym (relabels_count ts) ∙ c ∙ sym (e x), corrects_relabels ts cs)

      corrects_relabels : (ts : Forest A) → Corrects b (relabels f ts) → Corrects a ts
      corrects_relabels nil c = tt
      corrects_relabels (cons t ts) (c, cs) = (correct_relabel t c, corrects_relabels ts cs)
