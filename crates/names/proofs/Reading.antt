-- A point is read from its slot: its name in front, and what stands behind it. Assumes nothing.
use mathlib.Core.List.{List, [], ◌∷◌}
use mathlib.Core.Path.{◌≡◌, ap, ◌∙◌}
use Prim.Native.Nat.{ℕ, ◌≤◌}
use native.Mathlib.Omega.{arith}
use lib.Dec.{leb}
use lib.ListN.{length, get_or, take, drop, length-drop}
use lib.Seq.{drop-drop, length-take-le}
use Rattle.paper.specs.Result.{Reader, return, ◌>>=◌}
use Rattle.paper.specs.Reader.{all_zero}
use Rattle.paper.specs.Page.{number, read_bytes, read_number}
use Rattle.paper.proofs.Readers.{bind_return}
use Rattle.paper.proofs.Tests.{eqb_true}
use Rattle.flat.specs.Tested.{and}
use Rattle.parking.specs.Form.{name_length, Point, read_fields, only_if, read_point}

bytes_there : (n : ℕ) (xs : List ℕ) → n ≤ length xs → read_bytes n xs ≡ return (take n xs) (drop n xs)
unfolding read_bytes
bytes_there n xs l = rw (eqb_true (length (take n xs)) n (length-take-le n xs l))

first_number : (xs : List ℕ) → 1 ≤ length xs → read_number 1 xs ≡ return (get_or xs 0 0) (drop 1 xs)
unfolding read_number
first_number xs l =
    bind_return (read_bytes 1) (λ bs. return (number 0 bs)) xs (drop 1 xs) (take 1 xs) (bytes_there 1 xs l)
    ∙ ap (λ (n : ℕ). return n (drop 1 xs)) (one xs l)
  where
    one : (xs : List ℕ) → 1 ≤ length xs → number 0 (take 1 xs) ≡ get_or xs 0 0
    one [] l = absurd (omega arith)
    one (x ∷ xs) l = unfold number in omega arith

-- what is read behind the name: n bytes long, and the first of the 16 bytes bs
abbrev pub behind_name : ℕ → List ℕ → Reader Point
behind_name n bs = do
  m ← read_number 2
  day ← read_number 2
  book ← read_bytes m
  saved ← read_fields book day
  only_if (and (leb n name_length) (all_zero (drop n bs))) (record { name = take n bs; book = book; day = day; saved = saved })

pub read_behind : (bytes : List ℕ) → 17 ≤ length bytes → read_point bytes ≡ behind_name (get_or bytes 0 0) (take name_length (drop 1 bytes)) (drop 17 bytes)
unfolding read_point
read_behind bytes l =
    let n : ℕ = get_or bytes 0 0 in
    let bs : List ℕ = take name_length (drop 1 bytes) in
    bind_return (read_number 1) (λ n. read_bytes name_length >>= behind_name n) bytes (drop 1 bytes) n (first_number bytes (omega arith))
    ∙ bind_return (read_bytes name_length) (behind_name n) (drop 1 bytes) (drop name_length (drop 1 bytes)) bs (bytes_there name_length (drop 1 bytes) (rw length-drop (omega arith)))
    ∙ ap (behind_name n bs) (drop-drop name_length 1 bytes)
