-- `batch::lines_book` meets its contract, by the laws of Books. Assumes nothing.
use mathlib.Core.Path.{ap, ◌∙◌}
use Prim.Native.Nat.{ℕ}
use native.Mathlib.Omega.{arith}
use lib.ListN.{replicate}
use Rattle.engine.proofs.Frame.{frame_of}
use Rattle.refusal.proofs.Passing.{passed_up}
use Rattle.batch.proofs.Books.{by_book, opened_by, lines_by}
use Rattle.batch.proofs.lines_book.Goals as goal

pub build-requires : goal.build-requires
build-requires c =
    let p = c.requires in
    let is = c.in_ok-n.ensures.is in
    (is.0, p.1, (frame_of p.0).net_long, omega (arith, is.1))

pub answer_lines-done-requires : goal.answer_lines-done-requires
answer_lines-done-requires c =
    let p = c.requires in
    let is = c.in_ok-n.ensures.is in
    opened_by c.from.ensures (omega arith) p.0 p.1 is.2 c.build.ensures

pub returns-in_err-n : goal.returns-in_err-n
returns-in_err-n c =
    rw (passed_up c.from_residual.result c.from_residual.ensures.1) (by_book _ c.requires.0 c.in_err-n.ensures.is)

pub returns : goal.returns
returns c =
    let p = c.requires in
    let is = c.in_ok-n.ensures.is in
    lines_by c.from.ensures p.0 is.0 is.1 c.build.ensures c.answer_lines-done.ensures
    (c.clear.ensures ∙ ap (λ (k : ℕ). replicate k 0) c.answer_lines-done.auto.work) c.clear-2.ensures
