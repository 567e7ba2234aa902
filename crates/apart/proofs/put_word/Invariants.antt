-- `apart::put_word` meets its contract: the word is put in the rows before the i-th. Assumes nothing.
use mathlib.Core.Path.{◌≡◌}
use lib.ListN.{length}
use Rattle.apart.specs.Promises.{WordPut}
use Rattle.apart.proofs.put_word.Given as goal

abbrev pub invariant-loop-i : goal.invariant-loop-i
invariant-loop-i l =
    (length l.rows ≡ 1024) × WordPut l.nodes l.places l.counts l.i l.w l.holders l.sharers l.initial.rows l.rows
