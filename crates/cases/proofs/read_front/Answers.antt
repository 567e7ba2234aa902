-- `cases::read_front` meets its contract. Assumes nothing.
use Rattle.cases.proofs.Parts.{part}
use Rattle.cases.proofs.read_front.Goals as goal

pub slice_bounds-read_full-end-2 : goal.slice_bounds-read_full-end-2
slice_bounds-read_full-end-2 c = part _ _ c.requires
