-- `rule_cases::try_book` meets its contract: a book that is read has its tables, and then its net. Assumes nothing.
use native.Mathlib.Omega.{arith}
use borrow.Author.Rules.{rules}
use Rattle.rule_cases.proofs.try_book.Goals as goal

pub build-requires : goal.build-requires
build-requires c =
    let x = rw c.in-Ok.is at c.read_book.ensures.is in
    (x.0, c.requires, search rules, omega (arith, x.1))

pub try_line-requires : goal.try_line-requires
try_line-requires c =
    let x = rw c.in-Ok.is at c.read_book.ensures.is in
    let e = c.build.ensures in
    (c.requires, e.of_book, rw e.same_book x.2)
