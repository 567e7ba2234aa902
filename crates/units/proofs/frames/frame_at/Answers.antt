-- `units::frames::frame_at` meets its contract: the halves of the word are the frame's two bytes. Assumes nothing.
use Rattle.units.proofs.frames.frame_at.Goals as goal

pub returns : goal.returns
returns c =
    let word = c.word_at.ensures in
    rw (← word.0, ← word.1) c.frame_of.ensures
