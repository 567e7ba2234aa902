-- `splice::regrown` meets its contract: the record takes the difference or stays. Assumes nothing.
use native.Mathlib.Omega.{arith}
use Rattle.splice.proofs.Growing.{takes, stays}
use Rattle.splice.proofs.regrown.Goals as goal

pub resized-requires : goal.resized-requires
resized-requires c = let h = c.requires.3 (omega arith) in (omega arith, omega arith, omega arith)

pub returns-then-a-at : goal.returns-then-a-at
returns-then-a-at c =
    let h = c.requires.3 (omega arith) in
    let r = c.resized.ensures in
    takes (omega arith) (omega arith) r.0 (omega arith) r.2

pub returns-else-a-at : goal.returns-else-a-at
returns-else-a-at c = stays (omega arith)
