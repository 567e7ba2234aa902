-- A part at the front of an array has the length that is asked. Assumes nothing.
use Prim.Native.Nat.{ℕ, ◌<◌, ◌≤◌}
use mathlib.Core.List.{List}
use mathlib.Core.Path.{◌≡◌, sym}
use native.Mathlib.Omega.{arith}
use lib.ListN.{length, take}
use lib.Seq.{length-take-le}

pub part : (n : ℕ) (d : List ℕ) → n ≤ length d → n ≡ length (take n d)
part n d h = sym (length-take-le n d h)

pub part_below : (size n : ℕ) (d : List ℕ) → size ≡ length d → n < size → n ≡ length (take n d)
part_below size n d l h = part n d (omega arith)

pub part_most : (size n : ℕ) (d : List ℕ) → size ≡ length d → n < size → length (take n d) ≤ size
part_most size n d l h = omega (arith, part_below size n d l h)
