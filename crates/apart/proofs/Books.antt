-- A book's left sides walked: which rules are parted says which left sides are apart. Assumes nothing.
use mathlib.Core.List.{List, [], ◌∷◌}
use mathlib.Core.Path.{◌≡◌, refl, sym, ◌∙◌}
use Prim.Native.Nat.{ℕ, ◌+◌, ◌*◌, ◌<◌}
use native.Mathlib.Omega.{arith}
use lib.ListN.{length, get_or}
use Rattle.paper.specs.Tree.{node, Forest, nil, cons, preorder, preorders, Correct, Corrects}
use Rattle.paper.specs.Book.{Symbol, Side, Book, symbol_arity}
use Rattle.paper.specs.Sound.{All}
use Rattle.paper.specs.WellFormed.{Fits}
use Rattle.paper.proofs.Lists.{all_map, all_split}
use Rattle.tables.specs.Layout.{arity_in}
use Rattle.tables.specs.Tables.{rule_at, Tables}
use Rattle.tables.proofs.Laws.{arity_at, rule_good}
use Rattle.rule.specs.Packed.{arity_of_symbol}
use Rattle.overlap.specs.Trie.{Trie, trie, Named, Walked, cells_of}
use Rattle.overlap.specs.Promises.{Built}
use Rattle.apart.specs.Rows.{Rows}
use Rattle.apart.specs.Promises.{CellsIn, AllCells, RowsFound}
use Rattle.apart.proofs.Parting.{parted_sides}

-- ARITIES

-- a side that has some arities has the same arities
mutual
  unfolding preorder

  correct_same : (f g : Symbol → ℕ) (s : Side) → All (λ x. f x ≡ g x) (preorder s) → Correct f s → Correct g s
  correct_same f g (node x ss) (e, a) (k, c) = (k ∙ e, corrects_same f g ss a c)

  corrects_same : (f g : Symbol → ℕ) (ss : Forest Symbol) → All (λ x. f x ≡ g x) (preorders ss) → Corrects f ss → Corrects g ss
  corrects_same f g nil a c = tt
  corrects_same f g (cons s ss) a (c, cs) =
      let (b, d) = all_split (λ x. f x ≡ g x) (preorder s) (preorders ss) a in
      (correct_same f g s b c, corrects_same f g ss d cs)

module _ {bytes operators rules : List ℕ} {B : Book} (T : Tables bytes operators rules B) where
  same_arity : (x : Symbol) → Fits B.operators x → symbol_arity B.operators x ≡ arity_of_symbol operators x
  same_arity (Symbol.operator o) h = sym (arity_at T o h)
  same_arity (Symbol.variable v) h = refl

  left_correct : (i : ℕ) → i < length B.rules → Correct (arity_of_symbol operators) (rule_at B.rules i).left
  left_correct i h =
      let g = (rule_good T i h).left in
      correct_same (symbol_arity B.operators) (arity_of_symbol operators) _ (all_map _ _ same_arity (preorder (rule_at B.rules i).left) g.fits) g.correct

  module _ {places nodes counts : List ℕ} (b : Built (arity_in operators) B.rules places nodes counts) where
    abbrev W : Trie
    W = trie b.links b.codes b.bases places nodes

    -- CELLS

    abbrev Inside : ℕ → Type 0
    Inside z = (z < 16384) × (get_or places z 0 < 16384)

    named_inside : (z c o : ℕ) → Named W z c o → Inside z
    named_inside z c o n =
        (b.linked.inside z c o n, rw n.place (omega (arith, b.based.behind z c o n, b.based.below z c o n)))

    walked_inside : (ss : List Symbol) (due zs : List ℕ) → Walked W (arity_in operators) ss due zs → All Inside zs
    walked_inside [] due zs (d, e) = rw e tt
    walked_inside (Symbol.operator o ∷ ss) due zs (c, due', z, zs', d, e, n, w) = rw e (named_inside z c o n, walked_inside ss _ zs' w)
    walked_inside (Symbol.variable v ∷ ss) due zs (c, due', d, w) = walked_inside ss due' zs w

    built_each : (i : ℕ) → i < length B.rules → CellsIn nodes places (64 * i + 64) (get_or counts i 0)
    built_each i h =
        record { fits = omega (arith, b.few i h, T.good.few_rules); long = b.linked.long.nodes; each = walked_inside (preorder (rule_at B.rules i).left) (0 ∷ []) (cells_of nodes counts i) (b.walked i h) }

    pub built_cells : {m : ℕ} → m ≡ length B.rules → AllCells nodes places counts m
    built_cells e = record { few = omega (arith, T.good.few_rules); each = λ i h. built_each i (omega arith) }

    -- ROWS

    pub built_rows : {m : ℕ} {rows : List ℕ} → m ≡ length B.rules → RowsFound nodes places counts m rows → Rows B.rules rows
    built_rows e f = record {
      each = λ i j h k. f.found i j (omega arith) (omega arith)
          ∙ parted_sides W operators 16384 16384 b.linked b.based (rule_at B.rules i).left (rule_at B.rules j).left (cells_of nodes counts i)
          (cells_of nodes counts j) (left_correct i h) (left_correct j k) (b.walked i h) (b.walked j k);
    }
