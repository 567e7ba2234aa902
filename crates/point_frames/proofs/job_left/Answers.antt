-- `point_frames::job_left` meets its contract: none before the VISIT, else those from its next order on. Assumes nothing.
use mathlib.Core.List.{List}
use mathlib.Core.Path.{◌≡◌, refl, ap, ◌∙◌}
use Prim.Native.Nat.{ℕ}
use native.Mathlib.Omega.{arith}
use lib.ListN.{get_or}
use Rattle.symbol.specs.Record.{operator}
use Rattle.point_frames.proofs.Books.{rowed_here}
use Rattle.point_frames.proofs.Tests.{left_visit, left_steps}
use Rattle.point_frames.proofs.job_left.Goals as goal

-- the operator is that of the job's symbol
operator_is : (symbols : List ℕ) (o a b : ℕ) → o ≡ operator (get_or symbols a 0) → a ≡ b → o ≡ operator (get_or symbols b 0)
operator_is symbols o a b e f = e ∙ ap (λ (x : ℕ). operator (get_or symbols x 0)) f

pub returns-then-job-eq0 : goal.returns-then-job-eq0
returns-then-job-eq0 c = left_visit _ _ _ c.if-job-eq0.true c.none.ensures

pub operator_at-o-requires : goal.operator_at-o-requires
operator_at-o-requires c =
    let p = c.requires in omega (arith, c.offset.ensures.0, p.1, p.0.sized.most)

pub from-requires : goal.from-requires
from-requires c =
    rowed_here c.requires.0 c.args.job.offset c.operator_at-o.result c.requires.1 (operator_is _ _ _ _ c.operator_at-o.ensures c.offset.ensures.0)

pub returns : goal.returns
returns c =
    left_steps c.requires.0 c.args.job.offset c.args.job.next c.args.job.count c.operator_at-o.result _ c.requires.1 c.if-job-eq0.false (operator_is _ _ _ _ c.operator_at-o.ensures c.offset.ensures.0)
    refl c.from.ensures
