-- `engine::names_units` meets its contract: the largest so far stands for the entries before. Assumes nothing.
use mathlib.Core.List.{◌∷◌}
use mathlib.Core.Path.{◌≡◌}
use lib.ListN.{drop}
use Rattle.paper.specs.Page.{all_below}
use Rattle.engine.proofs.names_units.Given as goal

abbrev pub invariant-loop-u : goal.invariant-loop-u
invariant-loop-u l = all_below l.units l.schedule ≡ all_below l.units (l.most ∷ drop l.u-index l.schedule)
