-- `units::frames::moved` meets its contract: a job behind the symbols that give way, a job before them, another frame. Assumes nothing.
use mathlib.Core.Logic.{inl, inr}
use native.Mathlib.Omega.{arith}
use Rattle.units.proofs.Bytes.{moved_other, moved_before, moved_room, moved_behind}
use Rattle.units.proofs.frames.moved.Goals as goal

pub overflow_add-result : goal.overflow_add-result
overflow_add-result c = omega (arith, moved_room _ _ _ _ _ c.if-kind-lt32.true (omega arith) c.requires)

pub overflow_add-result-then-e-x : goal.overflow_add-result-then-e-x
overflow_add-result-then-e-x c = omega (arith, moved_room _ _ _ _ _ c.if-kind-lt32.true (omega arith) c.requires)

pub overflow_cast-result : goal.overflow_cast-result
overflow_cast-result c = omega (arith, moved_room _ _ _ _ _ c.if-kind-lt32.true (omega arith) c.requires)

pub overflow_add-result-then-e-x-2 : goal.overflow_add-result-then-e-x-2
overflow_add-result-then-e-x-2 c = omega (arith, moved_room _ _ _ _ _ c.if-kind-lt32.true (omega arith) c.requires)

pub returns-then-e-x : goal.returns-then-e-x
returns-then-e-x c = moved_behind _ _ _ _ _ c.if-kind-lt32.true (omega arith) c.requires

pub returns : goal.returns
returns c =
    elim c.else-kind-lt32.either [
      | inl h ↦ moved_before _ _ _ _ _ h.0 h.1
      | inr h ↦ moved_other _ _ _ _ _ h
    ]
