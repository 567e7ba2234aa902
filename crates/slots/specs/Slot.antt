-- A named point in bytes (document 02, Change 11: "saved under it: .. and a copy of book and day, in packed fields, with the writer filling the part of the buffer after
-- the name"). Assumes nothing.
use Rattle.std.specs.Prelude.{List, ◌∷◌, ◌++◌, ℕ, ◌-◌, length, replicate}
use Rattle.paper.specs.Bits.{bytes_of}
use Rattle.flat.specs.Form.{Saved, write_saved}
use Rattle.stream.specs.Promises.{bytes}

-- bytes with zeros behind them, n in all
unfoldable pub padded : ℕ → List ℕ → List ℕ
padded n xs = xs ++ replicate (n - length xs) 0

-- a name: its length, and its bytes, with zeros up to 16
unfoldable pub name_bytes : List ℕ → List ℕ
unfolding padded
name_bytes name = length name ∷ padded 16 name

-- what stands behind the name: the book's length and the day in two bytes each, the book, and the fields of the saved run, with zero bits up to a whole byte
unfoldable pub point_bytes : List ℕ → ℕ → Saved → List ℕ
unfolding bytes bytes_of write_saved
point_bytes book day S = bytes 2 (length book) ++ (bytes 2 day ++ (book ++ bytes_of (write_saved S)))

-- a slot of n bytes: the name, and this with zeros behind it
unfoldable pub slot_bytes : ℕ → List ℕ → List ℕ → ℕ → Saved → List ℕ
unfolding name_bytes point_bytes padded
slot_bytes n name book day S = name_bytes name ++ padded (n - 17) (point_bytes book day S)
