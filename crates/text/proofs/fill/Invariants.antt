-- `text::fill` meets its contract: the text's squeezed classes are the symbols that are put, and those of the bytes to come. Assumes nothing.
use Rattle.text.proofs.Pass.{Passed}
use Rattle.text.proofs.fill.Given as goal

abbrev pub invariant-loop-b : goal.invariant-loop-b
invariant-loop-b l = Passed l.text l.initial.symbols l.symbols l.k l.gap l.b-index
