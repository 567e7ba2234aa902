-- Answers of `bears`. Assumes nothing.
use mathlib.Core.Path.{◌≡◌}
use Prim.Native.Nat.{◌+◌, ◌-◌}
use native.Mathlib.Omega.{arith}
use lib.ListN.{get_or}
use Rattle.std.proofs.lemmas.Bool.Decides.{same_from_decides, Decides-eqb}
use Rattle.std.proofs.lemmas.Slice.Eq.{slice_eq-Decides}
use Rattle.names.specs.Promises.{told_name}
use Rattle.names.proofs.Told.{bears_decides}
use Rattle.names.proofs.bears.Goals as goal

pub returns : goal.returns
unfolding told_name
returns c =
    let bytes = c.args.slot.now in
    let z : c.from-n.result + 1 - 1 ≡ get_or bytes 0 0 = omega arith in
    same_from_decides _ _ (slice_eq-Decides Decides-eqb _ _ _ (rw z at c.eq.ensures)) (bears_decides c.args.name.now bytes)
