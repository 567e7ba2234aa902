-- `point_frames::is_free` meets its contract. Assumes nothing.
use mathlib.Core.Bool.{Bool}
use mathlib.Core.Path.{ap, ap₂}
use borrow.Author.Tests.{eq-eqb, ne_eqb}
use lib.ListN.{drop}
use Rattle.flat.specs.Tested.{and, unnamed}
use Rattle.tables.specs.Layout.{steps_in}
use Rattle.point_frames.proofs.is_free.Goals as goal

pub returns-then-a-p : goal.returns-then-a-p
unfolding and
returns-then-a-p c =
    ap (λ (b : Bool). and b (unnamed c.args.x (drop c.args.k (steps_in c.args.operators.now c.args.o))))
    (ne_eqb c.args.a c.args.p c.if-a-p.true)

pub returns : goal.returns
unfolding and
returns c =
    ap₂ and (eq-eqb c.args.a c.args.p c.if-a-p.false) c.is_unnamed.ensures
