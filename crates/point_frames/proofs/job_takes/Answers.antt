-- Answers of `job_takes`. Assumes nothing.
use mathlib.Core.Bool.{Bool}
use mathlib.Core.List.{List}
use mathlib.Core.Path.{◌≡◌, refl, sym, ap, ◌∙◌}
use Prim.Native.Nat.{ℕ, ◌-◌}
use native.Mathlib.Omega.{arith}
use lib.Dec.{eqb}
use lib.ListN.{drop}
use Rattle.flat.specs.Symbols.{argument}
use Rattle.flat.specs.Tested.{and, some_below, unnamed}
use Rattle.tables.specs.Layout.{arity_in, steps_in}
use Rattle.term.specs.Present.{operators_in}
use Rattle.point_frames.proofs.Books.{rowed_here}
use Rattle.point_frames.proofs.Arguments.{some_none, some_past, some_here, free, argument_first, argument_in, argument_ends, argument_next, taken_some, taken_visit}
use Rattle.point_frames.proofs.job_takes.Goals as goal

-- whether argument x is free, as the code has it
here : (operators symbols : List ℕ) (a b o k x p : ℕ) (r : Bool) → p ≡ argument (arity_in operators) (operators_in symbols) b x →
    and (eqb a p) (unnamed x (drop k (steps_in operators o))) ≡ r → free operators symbols a b o k x ≡ r
here operators symbols a b o k x p r e f = ap (λ (q : ℕ). and (eqb a q) (unnamed x (drop k (steps_in operators o)))) (sym e) ∙ f

pub returns-then-job-eq0 : goal.returns-then-job-eq0
returns-then-job-eq0 c = taken_visit _ _ _ _ c.if-job-eq0.true

pub operator_at-o-requires : goal.operator_at-o-requires
operator_at-o-requires c =
    let p = c.requires in omega (arith, c.offset-b.ensures.0, p.1, p.0.sized.most)

pub loop-x-init : goal.loop-x-init
loop-x-init c =
    (omega arith, argument_first c.requires.0 c.offset-b.result c.operator_at-o.result (omega (arith, c.offset-b.ensures.0, c.requires.1)) c.operator_at-o.ensures, some_none _)

pub is_free-requires : goal.is_free-requires
is_free-requires c =
    rowed_here c.requires.0 c.offset-b.result c.operator_at-o.result (omega (arith, c.offset-b.ensures.0, c.requires.1)) c.operator_at-o.ensures

pub returns-then-is_free : goal.returns-then-is_free
returns-then-is_free c =
    taken_some c.requires.0 c.offset-b.result c.operator_at-o.result (omega (arith, c.offset-b.ensures.0, c.requires.1)) c.operator_at-o.ensures c.args.job.offset c.args.job.count
    c.args.a c.offset-b.ensures.0 c.args.job.next (c.args.job.next - 1) c.arity-n.result _ c.if-job-eq0.false refl c.arity-n.ensures.0
    (some_here _ c.loop-x.x c.arity-n.result c.loop-x-test.true (here c.args.operators.now c.args.symbols.now c.args.a c.offset-b.result c.operator_at-o.result (c.args.job.next - 1) c.loop-x.x c.loop-x.p c.is_free.result c.loop-x.invariant.1 c.is_free.ensures ∙ c.if-is_free.true))

pub size_at-p-requires : goal.size_at-p-requires
size_at-p-requires c =
    let p = argument_in c.requires.0 c.offset-b.result c.operator_at-o.result (omega (arith, c.offset-b.ensures.0, c.requires.1)) c.operator_at-o.ensures c.loop-x.x c.loop-x.p
    c.arity-n.result c.loop-x-test.true c.arity-n.ensures.0 c.loop-x.invariant.1 in
    omega (arith, p, c.requires.0.sized.most)

pub overflow_add-p-in-loop-x : goal.overflow_add-p-in-loop-x
overflow_add-p-in-loop-x c =
    let p = argument_ends c.requires.0 c.offset-b.result c.operator_at-o.result (omega (arith, c.offset-b.ensures.0, c.requires.1)) c.operator_at-o.ensures c.loop-x.x c.loop-x.p
    c.arity-n.result c.loop-x-test.true c.arity-n.ensures.0 c.loop-x.invariant.1 in
    omega (arith, p, c.requires.0.sized.most, c.size_at-p.ensures)

pub loop-x-preserved : goal.loop-x-preserved
loop-x-preserved c = (
  omega arith,
  argument_next c.requires.0 c.offset-b.result c.operator_at-o.result (omega (arith, c.offset-b.ensures.0, c.requires.1)) c.operator_at-o.ensures c.loop-x.x c.loop-x.p c.arity-n.result
      c.loop-x-test.true c.arity-n.ensures.0 c.loop-x.invariant.1 c.size_at-p.result c.size_at-p.ensures,
  some_past _ c.loop-x.x _ c.loop-x.invariant.2 (here c.args.operators.now c.args.symbols.now c.args.a c.offset-b.result c.operator_at-o.result (c.args.job.next - 1) c.loop-x.x c.loop-x.p c.is_free.result c.loop-x.invariant.1 c.is_free.ensures ∙ c.if-is_free.false) refl,
)

pub returns : goal.returns
returns c =
    let e : c.arity-n.result ≡ c.loop-x.x = omega (arith, c.loop-x.invariant.0, c.loop-x-test.false) in
    taken_some c.requires.0 c.offset-b.result c.operator_at-o.result (omega (arith, c.offset-b.ensures.0, c.requires.1)) c.operator_at-o.ensures c.args.job.offset c.args.job.count
    c.args.a c.offset-b.ensures.0 c.args.job.next (c.args.job.next - 1) c.arity-n.result _ c.if-job-eq0.false refl c.arity-n.ensures.0
    (ap (some_below _) e ∙ c.loop-x.invariant.2)
