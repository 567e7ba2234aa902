-- `apart::row` meets its contract: the cells from the k-th on are left to compare. Assumes nothing.
use mathlib.Core.Path.{◌≡◌}
use lib.ListN.{drop}
use Rattle.overlap.specs.Trie.{cells}
use Rattle.apart.specs.Rows.{differ_all}
use Rattle.apart.proofs.row.Given as goal

abbrev pub invariant-loop-node : goal.invariant-loop-node
invariant-loop-node l =
    (differ_all l.places l.holders l.sharers (cells l.nodes l.start l.n) 0 ≡ differ_all l.places l.holders l.sharers (drop l.node-index (cells l.nodes l.start l.n)) l.apart)
