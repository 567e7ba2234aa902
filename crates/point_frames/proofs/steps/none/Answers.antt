-- `point_frames::steps::none` meets its contract. Assumes nothing.
use mathlib.Core.Path.{refl}
use Rattle.flat.specs.Machine.{next_count}
use Rattle.flat.specs.Rules.{forks_left}
use Rattle.flat.specs.Meets.{named}
use Rattle.flat.specs.Tested.{is_some, in_group, at_join}
use Rattle.point_frames.proofs.steps.none.Goals as goal

pub returns : goal.returns
unfolding is_some in_group at_join next_count forks_left named
returns c = record { some = refl; joins = refl; group = refl; count = refl; forks = refl; named = refl }
