-- `point_frames::steps::prepended` meets its contract: by the step in front. Assumes nothing.
use mathlib.Core.Path.{refl}
use native.Mathlib.Omega.{arith}
use Rattle.flat.specs.Machine.{next_count}
use Rattle.flat.specs.Rules.{forks_left}
use Rattle.flat.specs.Meets.{named}
use Rattle.flat.specs.Tested.{is_some, in_group, at_join}
use Rattle.point_frames.proofs.steps.prepended.Goals as goal

pub returns-in-None : goal.returns-in-None
returns-in-None c ss t = rw c.in-None.is t

pub returns-in-Whole : goal.returns-in-Whole
unfolding is_some in_group at_join next_count forks_left named
returns-in-Whole c ss t =
    rw c.in-Whole.is (record { some = refl; joins = refl; group = refl; count = t.count; forks = t.forks; named = t.named })

pub returns-in-Visit : goal.returns-in-Visit
unfolding is_some in_group at_join next_count forks_left named
returns-in-Visit c ss t =
    rw c.in-Visit.is
    (record { some = refl; joins = refl; group = t.group; count = t.count; forks = t.forks; named = omega (arith, t.named) })

pub returns-in-Fork : goal.returns-in-Fork
unfolding is_some in_group at_join next_count forks_left named
returns-in-Fork c ss t =
    rw c.in-Fork.is
    (record { some = refl; joins = refl; group = t.group; count = t.count; forks = omega (arith, t.forks); named = omega (arith, t.named) })

pub returns-in-Join : goal.returns-in-Join
unfolding is_some in_group at_join next_count forks_left named
returns-in-Join c ss t =
    rw c.in-Join.is (record { some = refl; joins = refl; group = refl; count = refl; forks = refl; named = t.named })
