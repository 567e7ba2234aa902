-- `writer::write_fitting` meets its contract, as the laws of the answers say. Assumes nothing.
use native.Mathlib.Omega.{arith}
use Rattle.writer.proofs.Laws.{answers_short, answers_written}
use Rattle.writer.proofs.write_fitting.Goals as goal

pub returns-then-output-size : goal.returns-then-output-size
returns-then-output-size c =
    answers_short _ _ _ c.requires.1.read _ c.write_accepted-size.ensures.sized c.if-output-size.true

pub returns : goal.returns
returns c =
    let w = c.write_accepted-length.ensures in
    let s = c.write_accepted-size.ensures.sized in
    let l = w.sized in
    let f = c.if-output-size.false in
    answers_written _ _ _ c.requires.1.read _ s _ _ l (omega arith)
    (w.written (omega arith) (λ i. omega (arith, c.slice_known-2-1.given i)) (λ i. omega (arith, c.slice_known-4-1.given i)))
