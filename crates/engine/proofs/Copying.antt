-- A list copied to the front of another, one element at a time. Assumes nothing.
use mathlib.Core.List.{List, ◌++◌}
use mathlib.Core.Path.{◌≡◌}
use Prim.Native.Nat.{ℕ, suc, ◌+◌, ◌<◌}
use native.Mathlib.Numerals.{add-one}
use native.Mathlib.Omega.{arith}
use lib.ListN.{length, get_or, take, drop, set}
use lib.Seq.{paste-suc}

pub copy_more : (s d : List ℕ) (j : ℕ) → j < length s → j < length d → set (take j s ++ drop j d) j (get_or s j 0) ≡ take (j + 1) s ++ drop (j + 1) d
copy_more s d j h k =
    let z : 0 + j ≡ j = omega arith in
    let y : 0 + suc j ≡ suc j = omega arith in
    rw add-one (rw (z, y) at (paste-suc d 0 s j 0 (omega arith) h))
