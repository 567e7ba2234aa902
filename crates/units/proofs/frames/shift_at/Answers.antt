-- `units::frames::shift_at` meets its contract: the frame is put back with its offset moved. Assumes nothing.
use Rattle.units.proofs.frames.shift_at.Goals as goal

pub moved-requires : goal.moved-requires
moved-requires c =
    let word = c.word_at-word.ensures in
    rw (word.0, word.1) c.requires.1

pub returns : goal.returns
returns c =
    let put = c.put_word.ensures in
    let move = c.moved.ensures in
    let word = c.word_at-word.ensures in
    rw (← word.0, ← word.1, ← move) put
