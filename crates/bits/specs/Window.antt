-- The window: three bytes as one number of 24 bits, most significant first. Assumes nothing.
use Rattle.std.specs.Prelude.{List, ◌≡◌, ℕ, ◌+◌, ◌*◌, ◌/◌, ◌%◌, ◌^◌, ◌<◌, get_or, set}

-- w is the three bytes from i on, where a byte past the end counts as 0
pub record Window (bytes : List ℕ) (i w : ℕ) : Type 0 where
  pub is : w ≡ (get_or bytes i 0 * 256 + get_or bytes (i + 1) 0) * 256 + get_or bytes (i + 2) 0
  pub first : get_or bytes i 0 < 256
  pub second : get_or bytes (i + 1) 0 < 256
  pub third : get_or bytes (i + 2) 0 < 256

-- the bytes with the window x from i on, but for what falls past the end
abbrev pub set3 : List ℕ → ℕ → ℕ → List ℕ
set3 bytes i x = set (set (set bytes i (x / 65536)) (i + 1) (x / 256 % 256)) (i + 2) (x % 256)

-- the window w with v in the n bits above the lowest low
abbrev pub renewed : ℕ → ℕ → ℕ → ℕ → ℕ
renewed w low n v = (w / 2 ^ low / 2 ^ n * 2 ^ n + v) * 2 ^ low + w % 2 ^ low
