-- `page::run_page` meets its contract: the engine's answer is that of the request that was read. Assumes nothing.
use mathlib.Core.List.{List}
use Prim.Native.Nat.{ℕ, ◌-◌}
use native.Mathlib.Omega.{arith}
use lib.ListN.{length, drop, length-drop, length-replicate}
use lib.Seq.{take_all}
use Rattle.stream.proofs.Puts.{put_as}
use Rattle.page.proofs.Lines.{reduced_fits, reduced_lines}
use Rattle.page.proofs.run_page.Goals as goal

pub answer-requires : goal.answer-requires
answer-requires c =
    (reduced_fits c.reduce_form-a.ensures c.reduce_form-a.auto.output, c.requires.1)

pub returns : goal.returns
returns c =
    let n = c.args.parts.schedule in
    let l : List ℕ = c.args.input.now in
    put_as
    (reduced_lines c.reduce_form-a.ensures _ _ c.quad-budget.ensures (take_all (length l - n) (drop n l) (omega (arith, length-drop n l)))
    (length-replicate {A = ℕ} 24624 0) (length-replicate {A = ℕ} 3840 0) (length-replicate {A = ℕ} 1024 0))
    c.answer.ensures
