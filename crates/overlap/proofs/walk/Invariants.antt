-- `overlap::walk` meets its contract: what was read by then and what is to come is the whole left side. Assumes nothing.
use Rattle.overlap.specs.Trie.{trie}
use Rattle.overlap.proofs.Walking.{Walking}
use Rattle.overlap.proofs.walk.Given as goal

abbrev pub invariant-loop : goal.invariant-loop
invariant-loop l =
    Walking l.book l.at l.operators l.first (trie l.initial.links l.initial.codes l.initial.bases l.initial.places l.initial.nodes) (trie l.links l.codes l.bases l.places l.nodes) l.stack l.top l.p l.base l.counter l.k
