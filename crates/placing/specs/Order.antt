-- The order in which the pending parts were placed (document 02, Change 11), as it is kept: an array with their number in front, and behind it the unit of each part,
-- the earliest first. Assumes nothing.
use Rattle.std.specs.Prelude.{List, [], ◌∷◌, ◌≡◌, ℕ, zero, suc, ◌<◌, length, get_or}

-- how many parts are pending
abbrev pub pending_in : List ℕ → ℕ
pending_in order = get_or order 0 0

-- the units of the first n parts, the latest first
unfoldable pub latest_first : List ℕ → ℕ → List ℕ
latest_first order zero = []
latest_first order (suc n) = get_or order (suc n) 0 ∷ latest_first order n

-- the units of all pending parts, the latest first, as the machine on lists has them
abbrev pub placed_in : List ℕ → List ℕ
placed_in order = latest_first order (pending_in order)

-- there is room for 1,023 parts, which are as many as can be pending, and no more are counted
pub record OrderFits (order : List ℕ) : Type 0 where
  pub long : length order ≡ 1024
  pub few : pending_in order < 1024
