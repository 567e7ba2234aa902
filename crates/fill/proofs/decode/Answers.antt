-- Answers of `decode`. Assumes nothing.
use mathlib.Core.Logic.{inl, inr}
use mathlib.Core.Path.{◌≡◌, refl}
use native.Mathlib.Omega.{arith}
use borrow.Author.Rules.{rules}
use Rattle.fill.proofs.Decoding.{decoding_starts, decoding_went, decoding_ended}
use Rattle.fill.proofs.decode.Goals as goal

pub loop-n-init : goal.loop-n-init
loop-n-init c = (omega arith, search rules, decoding_starts)

pub overflow_add-due : goal.overflow_add-due
overflow_add-due c = let m = c.decode_one-coded.ensures.arity in omega arith

pub loop-n-preserved : goal.loop-n-preserved
loop-n-preserved c =
    let d = c.decode_one-coded.ensures in
    let i = c.loop-n.invariant in
    let m = d.arity in
    (omega arith, search rules, decoding_went i.2 (omega arith) (omega arith) d refl refl)

pub returns-then-due-eq0 : goal.returns-then-due-eq0
returns-then-due-eq0 c =
    let i = c.loop-n.invariant in
    decoding_ended i.2 (inl c.if-due-eq0.true) (omega arith) i.1

pub returns : goal.returns
returns c =
    let i = c.loop-n.invariant in
    let e : c.loop-n.n ≡ 64 = omega arith in
    rw e at (decoding_ended i.2 (inr (omega arith)) (omega arith) i.1)
