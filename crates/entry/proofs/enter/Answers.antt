-- `entry::enter` meets its contract: the top frame of a busy unit is looked at. Assumes nothing.
use native.Mathlib.Omega.{arith}
use borrow.Author.Rules.{rules}
use mathlib.Core.Path.{sym, ◌∙◌}
use Rattle.entry.proofs.Facts.{has_frame}
use Rattle.entry.proofs.Orders.{stayed, finished, slept, exit_asks, exited}
use Rattle.entry.proofs.enter.Goals as goal

pub returns-then-not-is_busy : goal.returns-then-not-is_busy
returns-then-not-is_busy c =
    let q = c.requires in
    let r = stayed q.arrays q.running.0 q.running.1 (sym c.is_busy.ensures ∙ c.if-not-is_busy.true) in
    record { l_after = r.0; arrays_2 = r.1; over = search rules }

pub top-requires : goal.top-requires
top-requires c =
    let q = c.requires in
    has_frame q.arrays q.running.0 q.running.1

pub operator_at-operator-requires : goal.operator_at-operator-requires
operator_at-operator-requires c =
    let h = (rw c.in-Job.is at c.top.ensures).fits.0 in
    omega (arith, c.from.ensures, h)

pub carry_out-requires : goal.carry_out-requires
carry_out-requires c =
    let q = c.requires in
    record {
      arrays = q.arrays;
      running = (
        q.running.0,
        q.running.1,
        record { busy = sym c.is_busy.ensures ∙ c.if-not-is_busy.false; top = rw c.in-Job.is at c.top.ensures },
        rw c.from.ensures at c.operator_at-operator.ensures,
      );
    }

pub exit-requires : goal.exit-requires
exit-requires c =
    let q = c.requires in
    exit_asks q.arrays q.running.0 q.running.1 (sym c.is_busy.ensures ∙ c.if-not-is_busy.false) (rw c.in-Exit.is at c.top.ensures)

pub returns-in-Exit : goal.returns-in-Exit
returns-in-Exit c =
    let q = c.requires in
    let r = exited q.arrays q.running.0 q.running.1 (sym c.is_busy.ensures ∙ c.if-not-is_busy.false) (rw c.in-Exit.is at c.top.ensures) c.exit.ensures c.take_out.ensures in
    record { l_after = r.0; arrays_2 = r.1; over = search rules }

pub returns-in-Sleep : goal.returns-in-Sleep
returns-in-Sleep c =
    let q = c.requires in
    let r = slept q.arrays q.running.0 q.running.1 (sym c.is_busy.ensures ∙ c.if-not-is_busy.false) (rw c.in-Sleep.is at c.top.ensures) c.sleep_unit.ensures in
    record { l_after = r.0; arrays_2 = r.1; over = search rules }

pub returns-in-Bingo : goal.returns-in-Bingo
returns-in-Bingo c =
    let q = c.requires in
    let r = finished q.arrays q.running.0 q.running.1 (sym c.is_busy.ensures ∙ c.if-not-is_busy.false) (rw c.in-Bingo.is at c.top.ensures) in
    record { l_after = r.0; arrays_2 = r.1; over = search rules }
