-- `text::put` meets its contract. Assumes nothing.
use native.Mathlib.Numerals.{add-one}
use native.Mathlib.Omega.{arith}
use borrow.Author.Rules.{rules}
use Rattle.text.proofs.Pass.{put_over, put_fits}
use Rattle.text.proofs.put.Goals as goal

pub returns-then-k-gt1021 : goal.returns-then-k-gt1021
returns-then-k-gt1021 c = put_over _ _ _ (search rules) _ (rw c.if-gap.true (omega arith))

pub returns-then-k-gt1022 : goal.returns-then-k-gt1022
returns-then-k-gt1022 c = put_over _ _ _ (search rules) _ (rw c.if-gap.false (omega arith))

pub returns-else-k-gt1021 : goal.returns-else-k-gt1021
returns-else-k-gt1021 c =
    let gap = c.if-gap.true in
    put_fits _ _ _ (search rules) _ _ _ (omega arith) (rw gap) (rw (gap, add-one))

pub returns-else-k-gt1022 : goal.returns-else-k-gt1022
returns-else-k-gt1022 c =
    let gap = c.if-gap.false in
    put_fits _ _ _ (search rules) _ _ _ (omega arith) (rw gap) (rw gap)
