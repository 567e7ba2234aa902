-- The tables of a book that is read say where its rules' sides stand. Assumes nothing.
use mathlib.Core.List.{List, [], ◌∷◌, append-nil}
use mathlib.Core.Path.{◌≡◌, refl, sym}
use Prim.Native.Nat.{ℕ, zero, suc, ◌+◌, ◌<◌}
use native.Mathlib.Omega.{arith}
use lib.ListN.{length}
use Rattle.paper.specs.Tree.{nil, cons, count, preorder}
use Rattle.paper.specs.Book.{Operator, Symbol, Side, Book, symbol_arity}
use Rattle.paper.specs.Sound.{All}
use Rattle.paper.proofs.Lists.{all_map}
use Rattle.paper.specs.WellFormed.{Fits}
use Rattle.paper.specs.WellFormed.{GoodSide}
use Rattle.paper.specs.Tree.{Complete}
use Rattle.paper.proofs.Trees.{correct_complete}
use Rattle.side.specs.Promises.{NumberFits}
use Rattle.tables.specs.Layout.{left_in, right_in}
use Rattle.tables.specs.Tables.{Stand, rule_at, Tables}
use Rattle.tables.proofs.Laws.{arity_at, rule_good, left_at, right_at}
use Rattle.rule.specs.Packed.{arity_of_symbol, SideAt}
use Rattle.rule.specs.Promises.{Lefts}

-- symbols that spell terms by some arities do so by the same arities
complete_same : (f g : Symbol → ℕ) (due : ℕ) (ss : List Symbol) → All (λ s. f s ≡ g s) ss → Complete f due ss → Complete g due ss
complete_same f g zero [] a c = c
complete_same f g zero (s ∷ ss) a c = c
complete_same f g (suc due) [] a c = c
complete_same f g (suc due) (s ∷ ss) a c = rw a.0 at (complete_same f g (f s + due) ss a.1 c)

one_term : (ops : List Operator) (side : Side) → GoodSide ops side → Complete (symbol_arity ops) 1 (preorder side)
unfolding preorder count
one_term ops side g = rw (append-nil (preorder side)) at (correct_complete (symbol_arity ops) (cons side nil) (g.correct, tt))

module _ {bytes operators rules : List ℕ} {B : Book} (T : Tables bytes operators rules B) where
  held : (s : Symbol) → Fits B.operators s → NumberFits s
  held (Symbol.operator o) h = let f = T.good.few_operators in omega arith
  held (Symbol.variable v) h = h

  same_arity : (s : Symbol) → Fits B.operators s → symbol_arity B.operators s ≡ arity_of_symbol operators s
  same_arity (Symbol.operator o) h = sym (arity_at T o h)
  same_arity (Symbol.variable v) h = refl

  side_at : (at : ℕ) (side : Side) → GoodSide B.operators side → Stand bytes at (preorder side) → SideAt bytes at operators side
  side_at at side g s =
      record {
        stand = s;
        held = all_map _ _ held (preorder side) g.fits;
        complete = complete_same _ _ 1 (preorder side) (all_map _ _ same_arity (preorder side) g.fits) (one_term B.operators side g);
        short = g.short;
      }

  -- where the left sides stand
  pub lefts_stand : Lefts bytes operators rules B.rules
  lefts_stand =
      record {
        each = λ i l. record { stands = side_at (left_in rules i) _ (rule_good T i l).left (left_at T i l); root = (rule_good T i l).root };
        few = (let f = T.good.few_rules in omega arith);
      }

  -- where the right sides stand
  pub right_stands : (i : ℕ) → i < length B.rules → SideAt bytes (right_in rules i) operators (rule_at B.rules i).right
  right_stands i l = side_at (right_in rules i) _ (rule_good T i l).right (right_at T i l)
