-- `point_frames::steps::names` meets its contract: by the step. Assumes nothing.
use mathlib.Core.Bool.{not}
use mathlib.Core.List.{List}
use mathlib.Core.Path.{◌≡◌, refl, sym, ap}
use Prim.Native.Nat.{ℕ}
use lib.Dec.{eqb}
use Rattle.paper.specs.Strategy as P
use Rattle.flat.specs.Tested.{and, unnamed}
use Rattle.tables.specs.Layout.{step}
use Rattle.tables.specs.declared.Step as D
use Rattle.point_frames.specs.Steps.{prepend}
use Rattle.point_frames.proofs.steps.names.Goals as goal

-- any other step names none
other : (x : ℕ) (z : D.Step) → ((i : ℕ) → z ≡ D.Step.Visit i → ⊥) → ((i : ℕ) → z ≡ D.Step.Fork i → ⊥) → (ss : List P.Step) →
    unnamed x (prepend (step z) ss) ≡ unnamed x ss
unfolding unnamed
other x D.Step.None v w ss = refl
other x D.Step.Whole v w ss = refl
other x (D.Step.Visit i) v w ss = absurd (v i refl)
other x (D.Step.Fork i) v w ss = absurd (w i refl)
other x (D.Step.Join d) v w ss = refl

pub returns-in-Visit : goal.returns-in-Visit
unfolding unnamed and
returns-in-Visit c ss =
    rw c.in-Visit.is (ap (λ (i : ℕ). and (not (eqb c.args.x i)) (unnamed c.args.x ss)) (sym c.index.ensures.0))

pub returns-in-Fork : goal.returns-in-Fork
unfolding unnamed and
returns-in-Fork c ss =
    rw c.in-Fork.is (ap (λ (i : ℕ). and (not (eqb c.args.x i)) (unnamed c.args.x ss)) (sym c.index-in-Fork.ensures.0))

pub returns-in_default : goal.returns-in_default
unfolding and
returns-in_default c ss = other _ c.args.first c.in_default.not-Visit c.in_default.not-Fork ss
