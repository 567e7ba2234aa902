-- What the functions behind the entry point ask of each other. Assumes nothing.
use Rattle.std.specs.Prelude.{List, ◌++◌, ◌≡◌, ℕ, ℤ, length, drop}
use Rattle.std.proofs.Math.Option.{Option, none, some}
use Rattle.paper.specs.Result.{Result, refused, accepted}
use Rattle.run.specs.declared.Run.{Run}
use Rattle.fees.specs.Fees.{Charge}
use Rattle.settlement.specs.Spec.{with_parts, Reply, told}
use Rattle.settlement.specs.declared.Settled as D

-- the code's answer for a run whose posting is charged so
abbrev pub settled_as : Run → Result (Option Charge) → Result D.Settled
settled_as r (refused k) = refused k
settled_as r (accepted none) = accepted (D.Settled.Ended r)
settled_as r (accepted (some C)) = accepted (D.Settled.Posted r C.fee)

abbrev pub with_term : List ℕ → Result (Option Charge) → List ℕ → List ℕ
with_term term (refused k) output = output
with_term term (accepted c) output = term ++ drop (length term) output

abbrev pub with_charge : Result (Option Charge) → List ℤ → List ℤ
with_charge (refused k) parts = parts
with_charge (accepted c) parts = with_parts c parts

-- a run's term, which is charged so
pub record RunSettled (run : Run) (term : List ℕ) (c : Result (Option Charge)) (output output' : List ℕ) (parts parts' : List ℤ) (r : Reply) : Type 0 where
  pub is : told r ≡ settled_as run c
  pub output_is : output' ≡ with_term term c output
  pub parts_are : parts' ≡ with_charge c parts
