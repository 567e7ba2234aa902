-- Answers of `run_schedule`. Assumes nothing.
use mathlib.Core.Path.{◌≡◌, refl, ap, ◌∙◌}
use Prim.Native.Nat.{ℕ}
use lib.ListN.{length}
use native.Mathlib.Omega.{arith}
use borrow.Author.Rules.{rules}
use Rattle.entry.specs.declared.Ending.{Ending}
use Rattle.run.specs.Promises.{ended}
use Rattle.run.proofs.Entries.{along_start, along_turn, along_goes, along_ends, along_cut}
use Rattle.run.proofs.run_schedule.Goals as goal

pub loop-i-init : goal.loop-i-init
loop-i-init c = (along_start _ c.requires.arrays c.requires.runnable, refl)

pub enter-requires : goal.enter-requires
enter-requires c =
    let a = c.loop-i.invariant.0 in
    record { arrays = a.arrays; running = (a.running, along_turn a c.requires.runnable (omega arith) (omega arith) _ c.from.ensures) }

pub returns-in-Err : goal.returns-in-Err
returns-in-Err c =
    let e = rw c.in-Err.is at c.enter.ensures in
    along_ends c.loop-i.invariant.0 (omega arith) _ c.from.ensures c.in-Err.ending e.over e.l_after e.arrays_2 _ c.ended.ensures

pub loop-i-preserved : goal.loop-i-preserved
loop-i-preserved c =
    let e = rw c.in-Ok.is at c.enter.ensures in
    (along_goes c.loop-i.invariant.0 (omega arith) _ c.from.ensures _ e.l_after e.arrays_2, search rules)

pub returns : goal.returns
returns c =
    let a = c.loop-i.invariant.0 in
    let e : length c.args.schedule.now ≡ c.loop-i.i = omega arith in
    along_cut a (omega arith) _ (c.ended-2.ensures ∙ ap (λ (n : ℕ). ended Ending.Cut n c.loop-i.p c.loop-i.symbols) e)
