-- `names::again` meets its contract: the bytes lent are the name that slot k tells. Assumes nothing.
use mathlib.Core.Path.{◌≡◌}
use Prim.Native.Nat.{ℕ, ◌*◌}
use native.Mathlib.Omega.{arith}
use native.Mathlib.Numerals.{add-one}
use lib.ListN.{get_or}
use Rattle.names.proofs.Told.{told_lent}
use Rattle.names.proofs.again.Goals as goal

pub returns : goal.returns
returns c =
    let n : ℕ = c.from.result in
    let first : n ≡ get_or c.args.points.now (c.args.k * 65536) 0 = c.from.ensures in
    rw (← told_lent c.args.points.now c.args.k n first (let b = c.type_inv.points (c.args.k * 65536) in omega (arith, b)), ← add-one c.args.k) c.find_from.ensures
