-- `units::frames::lower_at` meets its contract: the frame is put back with its count lowered. Assumes nothing.
use Rattle.units.proofs.frames.lower_at.Goals as goal

pub returns : goal.returns
returns c =
    let put = c.put_word.ensures in
    let low = c.lowered.ensures in
    let word = c.word_at-word.ensures in
    rw (← word.0, ← word.1, ← low) put
