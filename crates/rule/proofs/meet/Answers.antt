-- `rule::meet` meets its contract. Assumes nothing.
use native.Mathlib.Omega.{arith}
use Rattle.rule.proofs.Parts.{operators_length}
use Rattle.rule.proofs.Matches.{met_first, met_same, met_other}
use Rattle.rule.proofs.meet.Goals as goal

pub returns-then-size-eq0 : goal.returns-then-size-eq0
returns-then-size-eq0 c =
    met_first c.requires.2 _ _ _ c.size_of-size.ensures.0 (omega arith) c.part_size-n.ensures c.requires.1.inside c.bind.ensures

pub same-requires : goal.same-requires
same-requires c =
    let w = c.requires.2.within c.args.v in
    let i = c.requires.1.inside in
    (c.requires.1.long, c.requires.1.most, omega (arith, c.start_of.ensures.0, c.size_of-size.ensures.0), omega arith)

pub returns-then-same : goal.returns-then-same
returns-then-same c =
    let i = c.requires.1.inside in
    let l = operators_length c.args.symbols.now c.args.len (omega arith) in
    met_same c.requires.2 c.start_of.ensures.0 c.size_of-size.ensures.0 (λ e. omega arith) l (omega arith) (rw c.if-same.true at c.same.ensures)

pub returns-else-same : goal.returns-else-same
returns-else-same c =
    met_other c.requires.2 c.start_of.ensures.0 c.size_of-size.ensures.0 (λ e. omega arith) (rw c.if-same.false at c.same.ensures)
