-- What the tables of a book tell a run: arities, steps, and where sides stand, inside the book. Assumes nothing.
use mathlib.Core.List.{List, [], ◌∷◌}
use mathlib.Core.Path.{◌≡◌, ap}
use Prim.Native.Nat.{ℕ, zero, suc, ◌*◌, ◌≤◌, ◌<◌}
use native.Mathlib.Omega.{arith}
use lib.ListN.{length, get_or, drop, length-append}
use Rattle.paper.specs.Bits.{to_bits}
use Rattle.paper.specs.Tree.{node, preorder, preorders}
use Rattle.paper.specs.Strategy.{Step}
use Rattle.paper.specs.Book.{Symbol, Side, Book, arity, operator_at, steps}
use Rattle.paper.specs.Sound.{All, Within}
use Rattle.paper.proofs.Operators.{good_within}
use Rattle.paper.specs.WellFormed.{GoodRule}
use Rattle.paper.specs.Writer.{concat, write_symbol}
use Rattle.bits.proofs.Reading.{bits_left}
use Rattle.flat.specs.Machine.{next_count}
use Rattle.flat.proofs.Lengths.{steps_most, counts_most}
use Rattle.tables.specs.Layout.{row, arity_in, row_in, steps_in, AllFew, Rowed, left_in, right_in}
use Rattle.tables.specs.Tables.{Stand, rule_at, Tables}
use Rattle.tables.proofs.Rows as rows

pub all_at : {A : Type 0} (Q : A → Type 0) (d : A) (xs : List A) (i : ℕ) → All Q xs → i < length xs → Q (get_or xs i d)
all_at Q d [] i h l = absurd (omega arith)
all_at Q d (x ∷ xs) zero h l = h.0
all_at Q d (x ∷ xs) (suc i) h l = all_at Q d xs i h.1 (omega arith)

few_steps : (m : ℕ) (ss : List Step) → m < 8 → Within m ss → ((k : ℕ) → next_count (drop k ss) ≤ 6) → AllFew ss
unfolding next_count
few_steps m [] l w c = tt
few_steps m (Step.visit i ∷ ss) l w c = (omega (arith, w.0), few_steps m ss l w.1 (λ k. c (suc k)))
few_steps m (Step.fork i ∷ ss) l w c = (omega (arith, w.0), few_steps m ss l w.1 (λ k. c (suc k)))
few_steps m (Step.join d ∷ ss) l w c = (omega (arith, c 0), few_steps m ss l w (λ k. c (suc k)))
few_steps m (Step.whole ∷ ss) l w c = (tt, few_steps m ss l w (λ k. c (suc k)))

module _ {bytes operators rules : List ℕ} {B : Book} (T : Tables bytes operators rules B) where
  -- OPERATORS

  pub arity_at : (o : ℕ) → o < length B.operators → arity_in operators o ≡ arity B o
  arity_at o l = (T.operators_in.each o l).arity_is

  module _ (o : ℕ) (l : o < length B.operators) where
    few : AllFew (steps B o)
    unfolding steps
    few =
        let g = all_at _ (operator_at [] o) B.operators o T.good.operators l in
        few_steps (operator_at B.operators o).arity (steps B o) g.arity (good_within (operator_at B.operators o) g) (counts_most B T.good o)

    row_is : row_in operators o ≡ row (steps B o)
    unfolding steps
    row_is = (T.operators_in.each o l).steps_are

    pub steps_at : steps_in operators o ≡ steps B o
    steps_at = rows.steps_are operators o (steps B o) row_is (steps_most B T.good o) few

    pub rowed_at : Rowed operators o
    rowed_at = rows.rowed operators o (steps B o) row_is (steps_most B T.good o) few

  -- RULES

  -- rule i: it is good, and where its sides stand
  module _ (i : ℕ) (l : i < length B.rules) where
    pub rule_good : GoodRule B.operators (rule_at B.rules i)
    rule_good = all_at _ _ B.rules i T.good.rules l

    pub left_at : Stand bytes (left_in rules i) (preorder (rule_at B.rules i).left)
    left_at = (T.rules_in.sides.each i l).left_stands

    pub right_at : Stand bytes (right_in rules i) (preorder (rule_at B.rules i).right)
    right_at = (T.rules_in.sides.each i l).right_stands

-- SIDES

symbol_long : (s : Symbol) → 0 < length (write_symbol s)
unfolding write_symbol to_bits
symbol_long (Symbol.operator o) = omega arith
symbol_long (Symbol.variable v) = omega arith

-- a side that stands at a position is inside the book
pub stand_inside : (bytes : List ℕ) (at : ℕ) (t : Side) → Stand bytes at (preorder t) → at < 8 * length bytes
unfolding preorder concat
stand_inside bytes at (node s ts) p =
    omega (
      arith,
      symbol_long s,
      bits_left bytes at,
      ap length p.is,
      length-append (concat write_symbol (preorder (node s ts))) p.rest,
      length-append (write_symbol s) (concat write_symbol (preorders ts)),
    )
