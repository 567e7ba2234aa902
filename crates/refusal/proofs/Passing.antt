-- A refusal that a `?` passes up is the one that it met. Assumes nothing.
use Rattle.std.proofs.Common.{◌≡◌, ap}
use Rattle.std.specs.Prelude.{Result, Ok, Err, IsErrAnd}
use Rattle.refusal.specs.declared.Refusal.{Refusal}

pub passed_up : {T : Type 0} (r : Result T Refusal) {e : Refusal} → IsErrAnd r (λ d. d ≡ e) → r ≡ Err e
passed_up (Ok x) h = absurd h
passed_up (Err d) h = ap Err h
