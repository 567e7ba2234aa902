-- `lookup::find` meets its contract: every rule is beaten by the best, or still to be found. Assumes nothing.
use Rattle.rule.specs.Packed.{binding}
use Rattle.lookup.proofs.Searching.{Search, ahead}
use Rattle.lookup.proofs.find.Given as goal

abbrev pub invariant-loop-height : goal.invariant-loop-height
invariant-loop-height l =
    Search l.book l.operators l.net l.symbols l.offset l.stack l.height l.best (binding l.bound)

abbrev pub decreases-loop-height : goal.decreases-loop-height
decreases-loop-height l = ahead l.stack l.height l.best.fresh
