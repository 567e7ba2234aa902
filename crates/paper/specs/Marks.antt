-- Marks (document 02, Change 10: "a part whose last WHOLE found no match, or whose strategy is empty, is marked, copies take the mark along, and VISIT of
-- a marked part is dropped"). A mark is kept at the part's root symbol, so whoever copies a part copies the marks in it. Assumes nothing.
use Rattle.std.specs.Prelude.{Bool, true, false, List, [], ℕ, zero, suc}
use Rattle.paper.specs.Tree.{Tree, node, label, relabel, Position, subterm, replace}
use Rattle.paper.specs.Strategy.{Step}
use Rattle.paper.specs.Book.{Term, Book, steps}
use Rattle.paper.specs.Match.{Symbols}

-- a symbol of the present term: its operator, and whether the part under it is marked
pub record Cell : Type 0 where
  pub operator : ℕ
  pub marked : Bool

abbrev pub cell : Bool → ℕ → Cell
cell m o = record { operator = o; marked = m }

-- a term with marks
abbrev pub Marked : Type 0
Marked = Tree Cell

-- the symbols that a right side brings have no mark
abbrev pub cells : Symbols Cell
cells = record { operator = λ c. c.operator; new = cell false }

-- the term without its marks; the term with none
unfoldable pub plain : Marked → Term
unfolding relabel
plain = relabel (λ c. c.operator)

unfoldable pub bare : Term → Marked
unfolding relabel
bare = relabel (cell false)

-- the steps that VISIT of a part gives: none if it is marked
unfoldable pub unless_marked : Bool → List Step → List Step
unless_marked true ss = []
unless_marked false ss = ss

unfoldable pub to_do : Book → Marked → List Step
unfolding label steps unless_marked
to_do B t = unless_marked (label t).marked (steps B (label t).operator)

-- the root symbol of a part of which n orders are left: with none left the part is marked
unfoldable pub mark_root : ℕ → Cell → Cell
mark_root zero c = cell true c.operator
mark_root (suc n) c = c

unfoldable pub mark_part : ℕ → Marked → Marked
unfolding mark_root
mark_part n (node c ts) = node (mark_root n c) ts

-- the same of the part at a position
unfoldable pub mark_at : ℕ → Position → Marked → Marked
unfolding mark_part subterm replace
mark_at n p t = replace p (mark_part n (subterm p t)) t
