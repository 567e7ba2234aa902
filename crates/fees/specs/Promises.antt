-- What the functions behind the entry point ask of each other. Assumes nothing.
use Rattle.std.specs.Prelude.{List, ◌++◌, ◌≡◌, ℕ, ◌≤◌, ℤ, nat_abs, length, drop, Option, Some, None}
use Rattle.std.proofs.Math.Option.{Option as Maybe, none, some}
use Rattle.fees.specs.Fees.{left, rest_of, listed, total}

-- an amount in its range, with a rate or a share
pub record InRange (amount : ℤ) (k : ℕ) : Type 0 where
  pub size : nat_abs amount ≤ 1000000000000
  pub factor : k ≤ 10000

-- a net amount and the shares of its owners
pub record Splits (net : ℤ) (shares : List ℕ) : Type 0 where
  pub size : nat_abs net ≤ 1000000000000
  pub few : length shares ≤ 16
  pub whole : total shares ≡ 10000

-- what is left to be given is r cents, and the remainders are written in front
pub record Remaining (net : ℤ) (shares rests rests' : List ℕ) (r : ℕ) : Type 0 where
  pub cents : r ≡ left net shares
  pub written : rests' ≡ listed (rest_of net shares) (length shares) ++ drop (length shares) rests

abbrev pub rate : Option ℕ → Maybe ℕ
rate None = none
rate (Some n) = some n
