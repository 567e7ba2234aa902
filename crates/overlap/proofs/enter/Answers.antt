-- `overlap::enter` meets its contract, as the laws of entering say. Assumes nothing.
use mathlib.Core.Path.{refl}
use Rattle.overlap.proofs.Entering.{seekable, entered}
use Rattle.overlap.proofs.enter.Goals as goal

pub node_of-z-requires : goal.node_of-z-requires
node_of-z-requires c =
    let p = c.requires in
    (seekable _ c.args.cell p.0 p.2 p.3, p.1, p.3, p.4)

pub returns : goal.returns
returns c =
    let p = c.requires in
    entered _ c.args.cell p.0 p.2 p.3 c.args.place c.args.o c.args.base _ _ _ _ _ _ p.1 c.node_of-z.ensures
    refl
