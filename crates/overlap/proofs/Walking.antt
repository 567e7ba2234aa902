-- A left side walked symbol by symbol, with the places of the terms that are due. Assumes nothing.
use mathlib.Core.List.{List, [], ◌∷◌, ◌++◌, append-nil, append_assoc}
use mathlib.Core.Logic.{◌⊎◌, inl, inr}
use mathlib.Core.Path.{◌≡◌, refl, sym, ap₂, ◌∙◌, subst}
use Prim.Native.Nat.{ℕ, zero, suc, ◌+◌, ◌-◌, ◌<◌, ◌≤◌}
use native.Mathlib.Numerals.{add-one}
use native.Mathlib.Omega.{arith}
use lib.ListN.{length, get_or, drop, set, length-set, length-drop, drop_of_length-le}
use lib.Seq.{drop-cons, get_or-set_same, get_or-set_other, drop-set-lt, drop-set-add, take-suc-set}
use Rattle.paper.specs.Tree.{preorder, Complete}
use Rattle.paper.specs.Book.{Symbol}
use Rattle.paper.specs.Sound.{All}
use Rattle.paper.proofs.Lists.{all_append}
use Rattle.side.specs.Promises.{StandingAt}
use Rattle.side.specs.declared.Standing as Sd
use Rattle.tables.specs.Layout.{arity_in}
use Rattle.rule.specs.Packed.{Stands}
use Rattle.rule.proofs.Sides.{goes_operator, goes_variable, none_left}
use Rattle.overlap.specs.Trie.{Trie, base_of, Linked, Based, Grows, upto, Walked, cells}
use Rattle.overlap.specs.Promises.{Entered, Walkable, SideWalked}

-- PLACES THAT ARE DUE

pub upto_none : (b n : ℕ) → n ≡ 0 → upto b n ≡ []
unfolding upto
upto_none b n e = rw e

pub upto_more : (b n : ℕ) → 0 < n → upto b n ≡ b ∷ upto (b + 1) (n - 1)
unfolding upto
upto_more b zero h = absurd (omega arith)
upto_more b (suc n) h = let e : suc n - 1 ≡ n = omega arith in let f : b + 1 ≡ suc b = omega arith in rw (e, f)

pub upto_below : (b n m : ℕ) → b + n ≤ m → All (λ c. c < m) (upto b n)
unfolding upto
upto_below b zero m h = tt
upto_below b (suc n) m h = (omega arith, upto_below (suc b) n m (omega arith))

-- one more place in front
pub pushed : (stack due : List ℕ) (at b n v : ℕ) → 0 < at → at ≤ length stack → 0 < b → v ≡ b - 1 → drop at stack ≡ upto b n ++ due →
    drop (at - 1) (set stack (at - 1) v) ≡ upto (b - 1) (n + 1) ++ due
pushed stack due at b n v h l k e f =
    let i = at - 1 in
    let s = set stack i v in
    let g : suc i ≡ at = omega arith in
    let m : i < length s = omega (arith, length-set stack i v) in
    let k' : b - 1 + 1 ≡ b = omega arith in
    let n' : n + 1 - 1 ≡ n = omega arith in
    drop-cons s i 0 m
    ∙ rw (get_or-set_same stack i v 0 (omega arith), g, drop-set-lt at stack i v (omega arith), f, upto_more (b - 1) (n + 1) (omega arith), k', n', e)

all_below : (m n : ℕ) (cs : List ℕ) → m ≤ n → All (λ c. c < m) cs → All (λ c. c < n) cs
all_below m n [] h a = tt
all_below m n (c ∷ cs) h a = (omega (arith, a.0), all_below m n cs h a.1)

-- WHAT IS NAMED STAYS SO

pub grows_none : (T : Trie) → Grows T T
grows_none T = record { named = λ z c o n. n; based = λ z c o n. refl }

pub grows_on : {T U W : Trie} → Grows T U → Grows U W → Grows T W
grows_on g h =
    record { named = λ z c o n. h.named z c o (g.named z c o n); based = λ z c o n. h.based z c o (g.named z c o n) ∙ g.based z c o n }

pub linked_wide : {T : Trie} {u : ℕ} (v : ℕ) → u ≤ v → Linked T u → Linked T v
linked_wide v h L = record { found = L.found; inside = λ z c o n. omega (arith, L.inside z c o n); leads = L.leads; long = L.long }

pub based_wide : {ar : ℕ → ℕ} {T : Trie} {b : ℕ} (m : ℕ) → b ≤ m → Based ar T b → Based ar T m
based_wide m h B = record { apart = B.apart; behind = B.behind; below = λ z c o n. omega (arith, B.below z c o n) }

-- THE WALK

complete_least : (f : Symbol → ℕ) (ss : List Symbol) (due : ℕ) → Complete f due ss → due ≤ length ss
complete_least f [] zero c = omega arith
complete_least f [] (suc due) c = absurd c
complete_least f (s ∷ ss) zero c = absurd c
complete_least f (s ∷ ss) (suc due) c = omega (arith, complete_least f ss (f s + due) c)

-- one more cell
cells_more : (nodes : List ℕ) (start k z : ℕ) → start + k < length nodes → cells (set nodes (start + k) z) start (k + 1) ≡ cells nodes start k ++ (z ∷ [])
cells_more nodes start k z h =
    rw (add-one k, drop-set-add start nodes k z) (take-suc-set (drop start nodes) k z (omega (arith, length-drop start nodes)))

-- n symbols were read, k of them operators, and the terms that are due have their places on the stack, from top on
pub record Walking (bytes : List ℕ) (at : ℕ) (operators : List ℕ) (first : ℕ) (T₀ T : Trie) (stack : List ℕ) (top p base n k : ℕ) : Type 0 where
  pub top_most : top ≤ 64
  pub read_most : n ≤ top
  pub cells_most : k ≤ n
  pub long : length stack ≡ 64
  pub base_is : base + top ≡ first + n + 64
  pub due_below : All (λ c. c < base) (drop top stack)
  pub linked : Linked T (first + 64 + k)
  pub based : Based (arity_in operators) T base
  pub grows : Grows T₀ T
  pub kept : (i : ℕ) → i < first + 64 → get_or T.nodes i 0 ≡ get_or T₀.nodes i 0
  pub rest : (ts : List Symbol) → Stands bytes at operators 1 64 ts → (ss : List Symbol) × Stands bytes p operators (64 - top) (64 - n) ss
      × ((U : Trie) → Grows T U → (zs : List ℕ) → Walked U (arity_in operators) ss (drop top stack) zs →
      Walked U (arity_in operators) ts (0 ∷ []) (cells T.nodes (first + 64) k ++ zs))

module _ {bytes operators : List ℕ} {at first : ℕ} {T₀ : Trie} (W : Walkable bytes at operators first T₀) where
  -- the root's place alone is due
  pub walking_starts : (stack : List ℕ) → length stack ≡ 64 → drop 63 stack ≡ 0 ∷ [] → Walking bytes at operators first T₀ T₀ stack 63 at (first + 1) 0 0
  walking_starts stack l e =
      record {
        top_most = omega arith;
        read_most = omega arith;
        cells_most = omega arith;
        long = l;
        base_is = omega arith;
        due_below = rw e (omega arith, tt);
        linked = linked_wide (first + 64 + 0) (omega arith) W.linked;
        based = W.based;
        grows = grows_none T₀;
        kept = λ i h. refl;
        rest = λ ts s. (ts, s, λ U g zs w. subst (λ (due : List ℕ). Walked U (arity_in operators) ts due zs) e w);
      }

  module _ {T : Trie} {stack : List ℕ} {top p base n k : ℕ} (I : Walking bytes at operators first T₀ T stack top p base n k) (more : top < 64) where
    first_due : drop top stack ≡ get_or stack top 0 ∷ drop (top + 1) stack
    first_due = rw (add-one top) (drop-cons stack top 0 (omega (arith, I.long)))

    -- what is met next has a cell and places of its own
    pub cell_inside : (first + 64 + k < 16384) × (base + n ≤ first + 64 + n)
    cell_inside = let j = W.few in let m = I.cells_most in let r = I.read_most in let b = I.base_is in (omega arith, omega arith)

    pub place_below : get_or stack top 0 < base
    place_below = (rw first_due at I.due_below).0

    -- a variable is passed
    pub walking_passed : (v next : ℕ) → StandingAt bytes p (Sd.Standing.Variable v next) →
        Walking bytes at operators first T₀ T stack (top + 1) next base (n + 1) k
    walking_passed v next h =
        record {
          top_most = omega arith;
          read_most = omega (arith, I.read_most);
          cells_most = omega (arith, I.cells_most);
          long = I.long;
          base_is = omega (arith, I.base_is);
          due_below = (rw first_due at I.due_below).1;
          linked = I.linked;
          based = I.based;
          grows = I.grows;
          kept = I.kept;
          rest = λ ts s.
              let (ss, t, f) = I.rest ts s in
              let (ss', t', e) = goes_variable bytes operators (λ l l'. l ≡ Symbol.variable v ∷ l') p v next h (λ l. refl) (64 - top) (64 - n) ss (omega arith) t in (
                ss',
                t' (64 - (top + 1)) (64 - (n + 1)) (omega arith) (omega arith),
                λ U g zs w. f U g zs (subst (λ (l : List Symbol). Walked U (arity_in operators) l (drop top stack) zs) (sym e)
                    (get_or stack top 0, drop (top + 1) stack, first_due, w)),
              );
        }

    -- an operator is entered
    module _ (o next : ℕ) (h : StandingAt bytes p (Sd.Standing.Operator o next)) where
      pub operator_fits : arity_in operators o + n ≤ top
      operator_fits =
          let (ss, t, f) = I.rest (preorder W.side) W.stands in
          let (ss', t', e) = goes_operator bytes operators (λ l l'. l ≡ Symbol.operator o ∷ l') p o next (arity_in operators o) h refl (λ l. refl) (64 - top) (64 - n) ss (omega arith) t in
          let u = t' (64 - top - 1 + arity_in operators o) (64 - n - 1) refl refl in
          let m = u.short in
          let j = I.read_most in
          omega (arith, complete_least _ ss' (64 - top - 1 + arity_in operators o) u.complete)

      module _ {T' : Trie} {z : ℕ} (E : Entered T (get_or stack top 0) o (first + 64 + k) base T' z) where
        pub entered_base : base_of T' z + arity_in operators o ≤ base + arity_in operators o
        entered_base = (E.based (arity_in operators) I.based place_below).below z (get_or stack top 0) o E.named

        pub walking_entered : (stack' : List ℕ) (a top' base' : ℕ) → a ≡ arity_in operators o → length stack' ≡ 64 → top' ≡ top + 1 - a → base' ≡ base + a →
            drop top' stack' ≡ upto (base_of T' z) a ++ drop (top + 1) stack →
            Walking bytes at operators first T₀ T' stack' top' next base' (n + 1) (k + 1)
        walking_entered stack' a top' base' ea l et eb ed =
            let r = operator_fits in
            let b = I.base_is in
            let m = I.read_most in
            let x = entered_base in
            record {
              top_most = omega arith;
              read_most = omega arith;
              cells_most = omega (arith, I.cells_most);
              long = l;
              base_is = omega arith;
              due_below = rw ed (all_append _ (upto (base_of T' z) a) (drop (top + 1) stack) (upto_below (base_of T' z) a base' (omega arith))
                  (all_below base base' (drop (top + 1) stack) (omega arith) (rw first_due at I.due_below).1));
              linked = linked_wide (first + 64 + (k + 1)) (omega arith) E.linked;
              based = based_wide base' (omega arith) (E.based (arity_in operators) I.based place_below);
              grows = grows_on I.grows E.grows;
              kept = λ i j. rw E.told (get_or-set_other T.nodes (first + 64 + k) i z 0 (λ q. omega arith) ∙ I.kept i j);
              rest = λ ts s.
                  let (ss, t, f) = I.rest ts s in
                  let (ss', t', e) = goes_operator bytes operators (λ y y'. y ≡ Symbol.operator o ∷ y') p o next a h ea (λ y. refl) (64 - top) (64 - n) ss (omega arith) t in (
                    ss',
                    t' (64 - top') (64 - (n + 1)) (omega arith) (omega arith),
                    λ U g zs w.
                        let i : base_of U z ≡ base_of T' z = g.based z (get_or stack top 0) o E.named in
                        let d : drop top' stack' ≡ upto (base_of U z) (arity_in operators o) ++ drop (top + 1) stack =
                        ed ∙ ap₂ (λ (c y : ℕ). upto c y ++ drop (top + 1) stack) (sym i) ea in
                        let j = subst (λ (due : List ℕ). Walked U (arity_in operators) ss' due zs) d w in
                        let q = f U (grows_on E.grows g) (z ∷ zs) (subst (λ (y : List Symbol). Walked U (arity_in operators) y (drop top stack) (z ∷ zs)) (sym e)
                        (get_or stack top 0, drop (top + 1) stack, z, zs, first_due, refl, g.named z (get_or stack top 0) o E.named, j)) in
                        let c : cells T'.nodes (first + 64) (k + 1) ++ zs ≡ cells T.nodes (first + 64) k ++ (z ∷ zs) =
                        rw (E.told, cells_more T.nodes (first + 64) k z (omega (arith, W.few, I.linked.long.nodes, I.cells_most)))
                        (append_assoc (cells T.nodes (first + 64) k) (z ∷ []) zs) in
                        subst (λ (ys : List ℕ). Walked U (arity_in operators) ts (0 ∷ []) ys) (sym c) q,
                  );
            }

  -- no term is due
  pub walking_ended : {T : Trie} {stack : List ℕ} {top p base n k : ℕ} → Walking bytes at operators first T₀ T stack top p base n k → (64 ≤ top) ⊎ (64 ≤ n) →
      SideWalked bytes at operators first T₀ T k
  walking_ended {T} {stack} {top} {p} {base} {n} {k} I e =
      let m = I.top_most in
      let r = I.read_most in
      let t : top ≡ 64 = elim e [ inl h ↦ omega arith | inr h ↦ omega arith ] in
      let b = I.base_is in
      record {
        walked = λ side s U g.
            let (ss, u, f) = I.rest (preorder side) s in
            let q = none_left bytes operators p (64 - top) (64 - n) ss u (inl (omega arith)) in
            let d : drop top stack ≡ [] = drop_of_length-le stack {i = top} (omega (arith, I.long)) in
            let w = f U g [] (subst (λ (y : List Symbol). Walked U (arity_in operators) y (drop top stack) []) (sym q) (d, refl)) in
            subst (λ (ys : List ℕ). Walked U (arity_in operators) (preorder side) (0 ∷ []) ys) (append-nil (cells T.nodes (first + 64) k)) w;
        few = omega (arith, I.cells_most);
        grows = I.grows;
        linked = linked_wide (first + 128) (omega (arith, I.cells_most)) I.linked;
        based = based_wide (first + 65) (omega arith) I.based;
        kept = I.kept;
      }
