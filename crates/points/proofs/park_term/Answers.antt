-- `points::park_term` meets its contract, by the laws of Named. Assumes nothing.
use Rattle.refusal.proofs.Passing.{passed_up}
use Rattle.points.proofs.Named.{unplaced}
use Rattle.points.proofs.park_term.Goals as goal

pub run_named-requires : goal.run_named-requires
run_named-requires c =
    let p = c.in_ok-k.ensures.is in
    let q = c.requires in
    record { framed = q.framed; loaded = q.loaded; budget_bound = q.budget_bound; placed = record { is = p.0; slot = p.1 } }

pub returns-in_err-k : goal.returns-in_err-k
returns-in_err-k c =
    let q = c.requires in
    rw (passed_up c.from_residual.result c.from_residual.ensures.1)
    (unplaced q.framed q.loaded.tables q.budget_bound.1 q.loaded.given _ c.in_err-k.ensures.is)

pub returns : goal.returns
returns c = c.run_named.ensures
