-- `checking::place` meets its contract. Assumes nothing.
use Rattle.std.proofs.Common.{rules}
use Rattle.std.proofs.lemmas.Result.{err_from_is_err_and}
use native.Mathlib.Omega.{arith}
use Rattle.checking.proofs.Answers.{ready, place_refused, has_slots, placed_as}
use Rattle.checking.proofs.place.Goals as goal

pub returns-in_err-points_fault : goal.returns-in_err-points_fault
returns-in_err-points_fault c =
    let p = err_from_is_err_and c.from_residual.result c.from_residual.ensures.1 in
    rw (p.1, p.2) (place_refused _ _ _ c.points_fault.ensures c.in_err-points_fault.was)

pub find_from-requires : goal.find_from-requires
find_from-requires c = (has_slots _ _ (ready _ _ _ c.points_fault.ensures c.in_ok-points_fault.was), omega arith)

pub or_else-requires : goal.or_else-requires
or_else-requires c = let h = has_slots _ _ (ready _ _ _ c.points_fault.ensures c.in_ok-points_fault.was) in search rules

pub returns : goal.returns
returns c = placed_as _ _ (ready _ _ _ c.points_fault.ensures c.in_ok-points_fault.was) _ _ c.find_from.ensures (search rules) _ c.ok_or.ensures.value
