-- Answers of `find_rows`. Assumes nothing.
use mathlib.Core.Path.{refl}
use native.Mathlib.Omega.{arith}
use Rattle.apart.proofs.Words.{found_none, found_next, found_all}
use Rattle.apart.proofs.find_rows.Goals as goal

pub loop-w-init : goal.loop-w-init
loop-w-init c = (refl, found_none)

pub find_word-requires : goal.find_word-requires
find_word-requires c = (c.requires, omega arith, c.loop-w.invariant.0)

pub loop-w-preserved : goal.loop-w-preserved
loop-w-preserved c =
    let f = c.find_word.ensures in
    (f.1, found_next c.loop-w.invariant.1 c.requires.few f.0)

pub returns : goal.returns
returns c = found_all c.loop-w.invariant.1 (omega arith)
