-- `side::read_rest` meets its contract. The loop's invariant: what answers for the rest answers for the whole; the terms due stay small.
-- Assumes nothing.
use Rattle.side.specs.Promises.{RestAt}
use Rattle.std.specs.Prelude.{Result}
use Rattle.refusal.specs.declared.Refusal.{Refusal}
use Rattle.side.specs.declared.SideEnd.{SideEnd}
use Rattle.std.proofs.Common.{◌+◌, ◌*◌, ◌≤◌}
use Rattle.side.proofs.read_rest.Given as goal

abbrev pub invariant-loop-free : goal.invariant-loop-free
invariant-loop-free l =
    (l.owed + 255 * l._free ≤ 65280) × ((r : Result SideEnd Refusal) → RestAt l.book l.next l.n l.operators l.met l.left l.owed l._free r → RestAt l.book l.at l.n l.operators l.mask l.left l.due l.room r)
