-- `point_frames::exit_good` meets its contract: another unit's frame in a group. Assumes nothing.
use mathlib.Core.Path.{subst}
use Rattle.units.specs.Frames.{flat}
use Rattle.units.specs.Stacks.{Below}
use Rattle.term.specs.Present.{length_in}
use Rattle.point_frames.proofs.Tests.{exit_own, exit_other}
use Rattle.point_frames.proofs.exit_good.Goals as goal

pub returns-then-w-v : goal.returns-then-w-v
returns-then-w-v c = exit_own _ _ _ _ c.index-w.ensures.0 c.if-w-v.true

pub left-requires : goal.left-requires
left-requires c =
    (c.requires.term, subst (Below (length_in c.args.symbols.now)) c.frame-f.ensures.0 (c.requires.inside.each _ _))

pub returns : goal.returns
returns c =
    exit_other _ _ _ _ c.index-w.ensures.0 c.if-w-v.false _ c.offset.ensures.0 (flat c.frame-f.result) c.frame-f.ensures.0 c.left.ensures
