-- `checking::find` meets its contract. Assumes nothing.
use Rattle.std.proofs.lemmas.Result.{err_from_is_err_and}
use native.Mathlib.Omega.{arith}
use Rattle.checking.proofs.Answers.{ready, find_refused, has_slots, found_as}
use Rattle.checking.proofs.find.Goals as goal

pub returns-in_err-points_fault : goal.returns-in_err-points_fault
returns-in_err-points_fault c =
    let p = err_from_is_err_and c.from_residual.result c.from_residual.ensures.1 in
    rw (p.1, p.2) (find_refused _ _ _ c.points_fault.ensures c.in_err-points_fault.was)

pub find_from-requires : goal.find_from-requires
find_from-requires c = (has_slots _ _ (ready _ _ _ c.points_fault.ensures c.in_ok-points_fault.was), omega arith)

pub returns : goal.returns
returns c = found_as _ _ (ready _ _ _ c.points_fault.ensures c.in_ok-points_fault.was) _ c.find_from.ensures _ c.ok_or.ensures.value
