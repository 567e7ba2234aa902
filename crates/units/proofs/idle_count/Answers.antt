-- `units::idle_count` meets its contract: so many cells have a rank above 0. Assumes nothing.
use Rattle.std.proofs.Common.{◌∙◌, nat_le, take, rules, tests, arith}
use Rattle.std.proofs.lemmas.Iterator.{YieldsList-from_slice}
use Rattle.std.proofs.lemmas.Iterator.Consumers.{YieldsList-from_filter, count_from_yields_List}
use Rattle.std.proofs.lemmas.List.Sums.{length-filter}
use Rattle.units.proofs.Loops.{idle_count_is}
use Rattle.units.proofs.idle_count.Goals as goal

pub returns : goal.returns
returns c =
    let cells = take c.args.count c.args.units.now in
    idle_count_is (omega arith)
    (count_from_yields_List c.filter.result _ c.count.ensures.ran
    (YieldsList-from_filter _ (nat_le 65536) (YieldsList-from_slice cells cc) c.filter.ensures.closure (λ x b q k. search (rules, tests)))
    ∙ length-filter (nat_le 65536) cells)
