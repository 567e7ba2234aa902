-- `entry::rewritten` meets its contract. Assumes nothing.
use borrow.Author.Rules.{rules}
use native.Mathlib.Numerals.{add-one}
use Rattle.entry.proofs.rewritten.Goals as goal

pub overflow_add-result : goal.overflow_add-result
overflow_add-result c = search rules

pub returns : goal.returns
returns c = rw add-one
