-- `splice::replace` meets its contract: in either case what stands behind is at its place, and the new part comes in front of it. Assumes nothing.
use Rattle.splice.proofs.Replacing.{Opened, opened, open_already, replaced}
use Rattle.splice.proofs.replace.Goals as goal
use Rattle.splice.proofs.replace.Goals.{then-a-n, else-a-n}

-- where the two ways meet
meet : (c : goal.After-copy) →
    Opened c.args.symbols.now c.args.len c.args.a c.args.e c.args.n c.if-a-n.symbols
meet c =
    elim c.if-a-n.branch [
      | then-a-n w ↦
          rw w.symbols-is (opened c.requires.0 w.grow.ensures w.copy_within.ensures.after)
      | else-a-n w ↦ rw w.symbols-is (open_already c.requires.0 w.if-a-n.false)
    ]

pub returns : goal.returns
returns c = replaced c.requires.0 c.requires.1 (meet c) c.copy.ensures
