-- `bound::bound_form` meets its contract: the run of one unit over zeros, then what it tells. Assumes nothing.
use Prim.Native.Nat.{ℕ}
use lib.ListN.{length-replicate}
use Rattle.refusal.proofs.Passing.{passed_up}
use Rattle.bound.proofs.Answers.{forks_few, of_refused, of_ran}
use Rattle.bound.proofs.bound_form.Goals as goal

pub tell-requires : goal.tell-requires
tell-requires c = forks_few c.args.form c.reduce_form.ensures _ c.in_ok-run.was

pub returns-in_err-run : goal.returns-in_err-run
returns-in_err-run c =
    rw (passed_up c.from_residual.result c.from_residual.ensures.1)
    (of_refused c.args.form c.reduce_form.ensures (length-replicate {A = ℕ} 1024 0) _ c.in_err-run.was)

pub returns : goal.returns
returns c =
    of_ran c.args.form c.reduce_form.ensures (length-replicate {A = ℕ} 1024 0) _ c.in_ok-run.was c.tell.ensures
