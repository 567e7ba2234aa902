-- What a field that is read or written means, in the paper's terms. Assumes nothing.
use Rattle.std.specs.Prelude.{List, ◌++◌, Option, Some, None, ◌≡◌, ℕ, ◌+◌, ◌*◌, ◌<◌, length, get_or, take, drop, replicate}
use Rattle.paper.specs.Result.{Result, refused, accepted, Read}
use Rattle.paper.specs.Bits.{to_bits, bits_of, field}
use Rattle.bits.specs.declared.Bits.{Bits}

-- an answer about some bytes, as the paper's reader gives it: a position stands for the bits from there on
abbrev pub answer : List ℕ → Option Bits → Result (Read ℕ)
answer bytes (Some f) = accepted (record { value = f.value; left = drop f.next (bits_of bytes) })
answer bytes None = refused 1

-- the position behind the field, where there is one
abbrev pub Ends : ℕ → Option Bits → Type 0
Ends end (Some f) = f.next ≡ end
Ends end None = Unit

-- r answers for the n bits at position at: it is what the paper's reader of a field answers there, and ends behind them
pub record Answers (bytes : List ℕ) (at n : ℕ) (r : Option Bits) : Type 0 where
  pub is : answer bytes r ≡ field n (drop at (bits_of bytes))
  pub ends : Ends (at + n) r

-- r is the number of the two bytes from i on, where bytes past the end count as 0
pub record Pair (bytes : List ℕ) (i r : ℕ) : Type 0 where
  pub is : r ≡ get_or bytes i 0 * 256 + get_or bytes (i + 1) 0
  pub low : get_or bytes (i + 1) 0 < 256

-- r is the number of the nine bits at position at, where bits past the end count as 0
pub record Nine (bytes : List ℕ) (at r : ℕ) : Type 0 where
  pub is : to_bits 9 r ≡ take 9 (drop at (bits_of bytes) ++ replicate 9 0)
  pub small : r < 512

-- xs with ys in place of as many elements from position at on
unfoldable pub splice : List ℕ → ℕ → List ℕ → List ℕ
splice xs at ys = take at xs ++ (ys ++ drop (at + length ys) xs)

-- bytes' is bytes with the n low bits of v at position at
pub record Written (bytes : List ℕ) (at n v : ℕ) (bytes' : List ℕ) : Type 0 where
  pub is : bits_of bytes' ≡ splice (bits_of bytes) at (to_bits n v)
  pub long : length bytes' ≡ length bytes
