-- What the functions ask and ensure of cells, of words of bits and of rows. Promises of functions inside. Assumes nothing.
use Rattle.std.specs.Prelude.{List, ◌≢◌, ◌≡◌, ℕ, ◌+◌, ◌*◌, ◌/◌, ◌%◌, ◌<◌, ◌≤◌, length, get_or}
use Rattle.paper.specs.Strategy.{has}
use Rattle.paper.specs.Sound.{All}
use Rattle.overlap.specs.Trie.{cells, cells_of}
use Rattle.apart.specs.Rows.{has_bit, places_of, differ_all, parted, apart_in}

-- CELLS

-- n cells have nodes, and these have places
pub record CellsIn (nodes places : List ℕ) (start n : ℕ) : Type 0 where
  pub fits : start + n ≤ 16384
  pub long : length nodes ≡ 16384
  pub each : All (λ z. (z < 16384) × (get_or places z 0 < 16384)) (cells nodes start n)

-- so do the cells of m rules
pub record AllCells (nodes places counts : List ℕ) (m : ℕ) : Type 0 where
  pub few : m < 256
  pub each : (i : ℕ) → i < m → CellsIn nodes places (64 * i + 64) (get_or counts i 0)

-- WORDS

-- bit v of the words says which places, and which nodes, rule `first` + v has
pub record Marked (nodes places counts : List ℕ) (m first : ℕ) (holders sharers : List ℕ) : Type 0 where
  pub held : (v c : ℕ) → v < 64 → first + v < m → has_bit v (get_or holders c 0) ≡ has c (places_of places (cells_of nodes counts (first + v)))
  pub shared : (v z : ℕ) → v < 64 → first + v < m → has_bit v (get_or sharers z 0) ≡ has z (cells_of nodes counts (first + v))

-- ROWS

-- word w of m rules' rows is put, the others are kept
pub record WordPut (nodes places counts : List ℕ) (m w : ℕ) (holders sharers rows rows' : List ℕ) : Type 0 where
  pub put : (i : ℕ) → i < m → get_or rows' (4 * i + w) 0 ≡ differ_all places holders sharers (cells_of nodes counts i) 0
  pub kept : (k : ℕ) → k % 4 ≢ w → get_or rows' k 0 ≡ get_or rows k 0

-- the bits that stand in word w of m rules' rows say which rules are parted, the others are kept
pub record WordFound (nodes places counts : List ℕ) (m w : ℕ) (rows rows' : List ℕ) : Type 0 where
  pub found : (i j : ℕ) → i < m → j < m → j / 64 ≡ w → apart_in rows' i j ≡ parted places (cells_of nodes counts j) (cells_of nodes counts i)
  pub kept : (i j : ℕ) → j < 256 → j / 64 ≢ w → apart_in rows' i j ≡ apart_in rows i j

-- all rows do
pub record RowsFound (nodes places counts : List ℕ) (m : ℕ) (rows : List ℕ) : Type 0 where
  pub found : (i j : ℕ) → i < m → j < m → apart_in rows i j ≡ parted places (cells_of nodes counts j) (cells_of nodes counts i)
