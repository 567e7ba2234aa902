-- `settlement::settle` meets its contract: the frame, then the run in areas of its own, then its posting. Assumes nothing.
use mathlib.Core.Path.{sym}
use Rattle.refusal.proofs.Some.{some_number}
use Rattle.refusal.proofs.Passing.{passed_up}
use Prim.Native.Nat.{ℕ}
use native.Mathlib.Omega.{arith}
use lib.ListN.{length-replicate, length-take}
use lib.Seq.{length-take-le}
use mir.Facts.{to_z-of_z}
use Rattle.engine.proofs.Frame.{faulty, frame_of}
use Rattle.engine.proofs.Answers.{by_frame}
use Rattle.settlement.proofs.Answers.{run_refused, run_fits, of_refused, of_ran}
use Rattle.settlement.proofs.settle.Goals as goal

pub returns-in_err-check_frame : goal.returns-in_err-check_frame
returns-in_err-check_frame c =
    rw (passed_up c.from_residual.result c.from_residual.ensures.1)
    (run_refused _ (by_frame _ _ _ (faulty _ _ c.in_err-check_frame.ensures (λ z. omega (arith, some_number c.in_err-check_frame.field-0.0)))))

pub slice_bounds-term-end : goal.slice_bounds-term-end
slice_bounds-term-end c =
    omega (
      arith,
      run_fits c.reduce_form.ensures c.in_ok-run.run' c.in_ok-run.was,
      c.reduce_form.auto.output,
      length-replicate {A = ℕ} 1024 0,
    )

pub slice_bounds-settle_run-end : goal.slice_bounds-settle_run-end
slice_bounds-settle_run-end c =
    let f = run_fits c.reduce_form.ensures c.in_ok-run.run' c.in_ok-run.was in
    let t = c.reduce_form.new.output in
    sym
    (length-take-le c.in_ok-run.run'.length t (omega (arith, f, c.reduce_form.auto.output, length-replicate {A = ℕ} 1024 0)))

pub settle_run-requires : goal.settle_run-requires
settle_run-requires c =
    let f = run_fits c.reduce_form.ensures c.in_ok-run.run' c.in_ok-run.was in
    let l = (frame_of (sym c.in_ok-check_frame.ensures)).output_long in
    omega (arith, f, l, length-take c.in_ok-run.run'.length c.reduce_form.new.output)

pub returns-in_err-run : goal.returns-in_err-run
returns-in_err-run c =
    rw (passed_up c.from_residual-in_err-run.result c.from_residual-in_err-run.ensures.1)
    (of_refused c.reduce_form.ensures (frame_of (sym c.in_ok-check_frame.ensures)).output_long (length-replicate {A = ℕ} 24624 0)
    (length-replicate {A = ℕ} 3840 0) (length-replicate {A = ℕ} 1024 0) _ c.in_err-run.was)

pub returns : goal.returns
returns c =
    of_ran c.reduce_form.ensures (frame_of (sym c.in_ok-check_frame.ensures)).output_long (length-replicate {A = ℕ} 24624 0)
    (length-replicate {A = ℕ} 3840 0) (length-replicate {A = ℕ} 1024 0) c.in_ok-run.run' c.in_ok-run.was
    (rw (to_z-of_z c.ranges.amount) at c.settle_run.ensures)
