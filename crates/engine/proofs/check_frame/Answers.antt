-- `engine::check_frame` meets its contract. Assumes nothing.
use native.Mathlib.Omega.{arith}
use Rattle.engine.proofs.Frame.{fault_none, fault_many, fault_work, fault_net, fault_output, faultless, positive}
use Rattle.engine.proofs.check_frame.Goals as goal
use Rattle.engine.proofs.check_frame.Goals.{then-units-eq0-via-then-units-eq0, then-units-eq0-via-else-units-eq0+then-units-gt8, then-work-lt-WORK-via-then-work-lt-WORK, then-work-lt-WORK-via-else-work-lt-WORK+then-net-lt-NET}

pub returns-then-units-eq0 : goal.returns-then-units-eq0
returns-then-units-eq0 c =
    elim c.then-units-eq0.branch [
      | then-units-eq0-via-then-units-eq0 w ↦ fault_none _ _ _ _ w.if-units-eq0.true
      | then-units-eq0-via-else-units-eq0+then-units-gt8 w ↦ fault_many _ _ _ _ w.if-units-gt8.true
    ]

pub returns-then-work-lt-WORK : goal.returns-then-work-lt-WORK
returns-then-work-lt-WORK c =
    let some_units = positive _ c.if-units-eq0.false in
    elim c.then-work-lt-WORK.branch [
      | then-work-lt-WORK-via-then-work-lt-WORK w ↦ fault_work _ _ _ _ some_units (omega arith) w.if-work-lt-WORK.true
      | then-work-lt-WORK-via-else-work-lt-WORK+then-net-lt-NET w ↦
          fault_net _ _ _ _ some_units (omega arith) w.if-work-lt-WORK.false w.if-net-lt-NET.true
    ]

pub returns-then-output-lt-OUTPUT : goal.returns-then-output-lt-OUTPUT
returns-then-output-lt-OUTPUT c =
    let some_units = positive _ c.if-units-eq0.false in
    fault_output _ _ _ _ some_units (omega arith) (omega arith) (omega arith) (omega arith)

pub returns : goal.returns
returns c =
    let some_units = positive _ c.if-units-eq0.false in
    faultless _ _ _ _ some_units (omega arith) (omega arith) (omega arith) (omega arith)
