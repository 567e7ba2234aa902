-- What the reader answers, in the paper's terms. Assumes nothing.
use Rattle.std.specs.Prelude.{List, Ok, Err, ◌≡◌, ℕ, ◌+◌, drop}
use Rattle.std.specs.Prelude.{Result as Answer}
use Rattle.paper.specs.Result.{Result, refused, accepted, Read}
use Rattle.paper.specs.Bits.{bits_of, field}
use Rattle.refusal.specs.declared.Refusal.{Refusal}
use Rattle.refusal.specs.Numbers.{number}
use Rattle.bits.specs.declared.Bits.{Bits}

-- an answer about some bytes, as the paper's reader gives it: a position stands for the bits from there on
abbrev pub answer : List ℕ → Answer Bits Refusal → Result (Read ℕ)
answer bytes (Ok f) = accepted (record { value = f.value; left = drop f.next (bits_of bytes) })
answer bytes (Err e) = refused (number e)

-- the position behind the field, where there is one
abbrev pub Ends : ℕ → Answer Bits Refusal → Type 0
Ends end (Ok f) = f.next ≡ end
Ends end (Err e) = Unit

-- r answers for the n bits at position at: it is what the paper's reader of a field answers there, and ends behind them
pub record FieldAt (bytes : List ℕ) (at n : ℕ) (r : Answer Bits Refusal) : Type 0 where
  pub is : answer bytes r ≡ field n (drop at (bits_of bytes))
  pub ends : Ends (at + n) r
