-- What the functions on steps tell of them. Assumes nothing.
use Rattle.std.specs.Prelude.{List, ◌∷◌, ◌≡◌, ◌<◌}
use Rattle.std.proofs.Math.Option.{Option, none, some}
use Rattle.paper.specs.Strategy.{Step}
use Rattle.flat.specs.Machine.{next_count}
use Rattle.flat.specs.Rules.{forks_left}
use Rattle.flat.specs.Meets as M
use Rattle.flat.specs.Tested.{is_some, in_group, at_join}
use Rattle.point_frames.specs.declared.steps.Rest.{Rest}

-- a step in front, if there is one
abbrev pub prepend : Option Step → List Step → List Step
prepend none ss = ss
prepend (some s) ss = s ∷ ss

-- r is of the steps ss
pub record Told (ss : List Step) (r : Rest) : Type 0 where
  pub some : r.some ≡ is_some ss
  pub joins : r.joins ≡ at_join ss
  pub group : r.group ≡ in_group ss
  pub count : r.count ≡ next_count ss
  pub forks : r.forks ≡ forks_left ss
  pub named : r.named ≡ M.named ss

-- there is a number for one more
pub record Countable (r : Rest) : Type 0 where
  pub forks : r.forks < 255
  pub named : r.named < 255
