-- `run_cases::try_run` meets its contract: the term lies within the output. Assumes nothing.
use Prim.Native.Nat.{ℕ, ◌+◌, ◌≤◌}
use mathlib.Core.List.{List}
use mathlib.Core.Path.{◌≡◌, refl, ◌∙◌, ap}
use native.Mathlib.Omega.{arith}
use lib.ListN.{length, drop, length-append}
use Rattle.paper.specs.Result.{Result, refused, accepted}
use Rattle.paper.specs.Tree.{preorder}
use Rattle.paper.specs.Run.{Answer}
use Rattle.engine.specs.Spec as R
use Rattle.run_cases.proofs.try_run.Goals as goal

abbrev length_of : Result R.Values → ℕ
length_of (refused k) = 0
length_of (accepted v) = v.length

module _ (book line : List ℕ) (units budget day : ℕ) (schedule work net output work' net' output' : List ℕ) (r : R.Reply) where
  within_known : R.Reduced book line units budget day schedule work net output work' net' output' r → (a : Result Answer) →
      R.answered book line units budget day schedule work net output ≡ a → length_of (R.values r) ≤ length output'
  within_known d (refused k) e = omega (arith, ap length_of (d.answer ∙ ap R.values_of e))
  within_known d (accepted A) e =
      let term = preorder A.term in
      let w : length output' ≡ length term + length (drop (length term) output) = ap length (d.written A e) ∙ length-append term _ in
      omega (arith, ap length_of (d.answer ∙ ap R.values_of e))

  within : R.Reduced book line units budget day schedule work net output work' net' output' r → length_of (R.values r) ≤ length output'
  within d = within_known d _ refl

pub say_run-requires : goal.say_run-requires
say_run-requires c =
    let e = c.reduce.ensures in
    within _ _ _ _ _ _ _ _ _ _ _ _ _ (rw c.in-Ok.is at e)
