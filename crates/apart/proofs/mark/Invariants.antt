-- `apart::mark` meets its contract: the cells from the k-th on are left to mark. Assumes nothing.
use mathlib.Core.Path.{◌≡◌}
use lib.ListN.{drop}
use Rattle.overlap.specs.Trie.{cells}
use Rattle.apart.specs.Rows.{places_of, mark_all}
use Rattle.apart.proofs.mark.Given as goal

abbrev pub invariant-loop-node : goal.invariant-loop-node
invariant-loop-node l =
    (mark_all l.bit (places_of l.places (cells l.nodes l.start l.n)) l.initial.holders ≡ mark_all l.bit (places_of l.places (drop l.node-index (cells l.nodes l.start l.n))) l.holders)
    × (mark_all l.bit (cells l.nodes l.start l.n) l.initial.sharers ≡ mark_all l.bit (drop l.node-index (cells l.nodes l.start l.n)) l.sharers)
