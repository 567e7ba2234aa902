-- `apart::find_word` meets its contract: the words differ in the bits of the rules that are parted. Assumes nothing.
use mathlib.Core.Path.{refl}
use native.Mathlib.Omega.{arith}
use Rattle.apart.proofs.Words.{word_found}
use Rattle.apart.proofs.find_word.Goals as goal

pub mark_word-requires : goal.mark_word-requires
mark_word-requires c = (c.requires.0, refl, refl, omega arith)

pub returns : goal.returns
returns c =
    let p = c.put_word.ensures in
    (word_found c.mark_word.ensures p.0, p.1)
