-- `units::first_idle` meets its contract: the first unit whose rank is 1. Assumes nothing.
use Rattle.std.proofs.Common.{◌≡◌, rules, tests}
use Rattle.std.proofs.lemmas.Iterator.{first_from_Range}
use Rattle.units.specs.Stacks.{rank_in}
use Rattle.units.proofs.Loops.{first_idle_is}
use Rattle.units.proofs.first_idle.Goals as goal

pub returns : goal.returns
returns c =
    let cells = c.args.units.now in
    first_idle_is (first_from_Range _ _ _ _ (λ k. rank_in cells k ≡ 1) (λ k. rank_in cells k ≡ 1 → ⊥) c.find.ensures.ran
    (λ x q k. search (rules, tests)) (λ x q k. search (rules, tests)))
