-- `units::wait_unit` meets its contract: the cell of unit u alone has changed, to the rank behind all that are idle. Assumes nothing.
use mathlib.Core.Path.{◌∙◌}
use native.Mathlib.Omega.{arith}
use borrow.Author.Rules.{rules}
use Rattle.units.proofs.Changes.{joins}
use Rattle.units.proofs.wait_unit.Goals as goal

pub store-requires : goal.store-requires
store-requires c =
    let x = c.wait.ensures in
    let l = c.load.ensures in
    (search rules, record { rank = omega (arith, x.0, c.idle_count-n.ensures.few, c.requires); end = omega (arith, x.1, l.small.end) })

pub returns : goal.returns
returns c =
    let x = c.wait.ensures in
    let l = c.load.ensures in
    joins _ c.requires.1 (omega (arith, x.1, l.small.end)) c.idle_count-n.ensures x.0 c.store.ensures (x.1 ∙ l.end)
