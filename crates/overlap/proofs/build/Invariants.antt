-- `overlap::build` meets its contract: the left sides of the rules so far were walked. Assumes nothing.
use Rattle.tables.specs.Tables.{book_of}
use Rattle.overlap.specs.Trie.{trie}
use Rattle.overlap.proofs.Building.{Building}
use Rattle.overlap.proofs.build.Given as goal

abbrev pub invariant-loop-i : goal.invariant-loop-i
invariant-loop-i l =
    Building l.operators (book_of l.book l.rules).rules (trie l.links l.codes l.bases l.places l.nodes) l.counts l.i
