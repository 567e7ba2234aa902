-- The entry point for a term that was posted: which definition its answer equals, and what becomes of the lent array (document 02, Change 12). Assumes nothing.
use Rattle.std.specs.Prelude.{List, ◌++◌, ◌≡◌, ℕ, ℤ, length, drop, Result as Answer, Ok, Err}
use Rattle.paper.specs.Result.{Result, refused, accepted}
use Rattle.refusal.specs.Numbers.{number}
use Rattle.refusal.specs.declared.Refusal.{Refusal}
use Rattle.fees.specs.Fees.{Charge, charge}

-- the refusal's number or the fee, for each case of the code's answer
abbrev pub told : Answer ℤ Refusal → Result ℤ
told (Err e) = refused (number e)
told (Ok f) = accepted f

-- and of the definition's
abbrev pub fee_of : Result Charge → Result ℤ
fee_of (refused k) = refused k
fee_of (accepted C) = accepted C.fee

-- the answer to the definition's, and what becomes of the array
pub record ChargedAs (of : Result Charge) (parts parts' : List ℤ) (r : Answer ℤ Refusal) : Type 0 where
  -- the answer is the definition's
  pub answer : told r ≡ fee_of of
  -- on a refusal the array is unchanged
  pub unchanged : (k : ℕ) → of ≡ refused k → parts' ≡ parts
  -- otherwise it has the parts in front, and its other elements as they were
  pub written : (C : Charge) → of ≡ accepted C → parts' ≡ C.parts ++ drop (length C.parts) parts

-- Term, table and shares are lent to be read, so they are unchanged.
abbrev pub ChargedBy : List ℕ → List ℕ → ℤ → List ℕ → List ℤ → List ℤ → Answer ℤ Refusal → Type 0
ChargedBy term table amount shares parts parts' r = ChargedAs (charge term table amount shares) parts parts' r
