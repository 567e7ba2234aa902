-- `point_reader::read_counts` meets its contract, field by field. Assumes nothing.
use native.Mathlib.Omega.{arith}
use mathlib.Core.Path.{refl}
use Rattle.point_reader.proofs.Fields.{told, untold}
use Rattle.point_reader.proofs.Numbers.{rewrites_out, rewrites_large, entries_out, granted_out, kept_out, counts_read}
use Rattle.point_reader.proofs.read_counts.Goals as goal

pub returns-in_err-rewrites : goal.returns-in_err-rewrites
returns-in_err-rewrites c = rw c.from_residual.ensures (rewrites_out (untold c.field64.ensures c.in_err-rewrites.was))

pub returns-then-rewrites-gt4294967295 : goal.returns-then-rewrites-gt4294967295
returns-then-rewrites-gt4294967295 c =
    rewrites_large (told c.field64.ensures c.in_ok-rewrites.was) (omega (arith, c.if-rewrites-gt4294967295.true))

pub returns-in_err-entries : goal.returns-in_err-entries
returns-in_err-entries c =
    rw c.from_residual-in_err-entries.ensures
    (entries_out (told c.field64.ensures c.in_ok-rewrites.was) (untold c.field64-2.ensures c.in_err-entries.was))

pub returns-in_err-granted : goal.returns-in_err-granted
returns-in_err-granted c =
    rw c.from_residual-in_err-granted.ensures
    (granted_out (told c.field64.ensures c.in_ok-rewrites.was) (told c.field64-2.ensures c.in_ok-entries.was)
    (untold c.field64-3.ensures c.in_err-granted.was))

pub returns-in_err-kept : goal.returns-in_err-kept
returns-in_err-kept c =
    rw c.from_residual-in_err-kept.ensures
    (kept_out (told c.field64.ensures c.in_ok-rewrites.was) (told c.field64-2.ensures c.in_ok-entries.was)
    (told c.field64-3.ensures c.in_ok-granted.was) (untold c.field64-4.ensures c.in_err-kept.was))

pub returns : goal.returns
returns c =
    counts_read (told c.field64.ensures c.in_ok-rewrites.was) (told c.field64-2.ensures c.in_ok-entries.was)
    (told c.field64-3.ensures c.in_ok-granted.was) (told c.field64-4.ensures c.in_ok-kept.was) refl
