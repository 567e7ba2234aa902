-- Variables kept as a number: its bit v says whether v is among them. Assumes nothing.
use Rattle.std.specs.Prelude.{◌≡◌, ℕ, zero, suc, ◌/◌, ◌%◌, List, ◌==◌}
use Rattle.paper.specs.Strategy.{has}

unfoldable pub bit : ℕ → ℕ → ℕ
bit zero m = m % 2
bit (suc v) m = bit v (m / 2)

abbrev pub Masks : ℕ → List ℕ → Type 0
Masks m vs = (v : ℕ) → has v vs ≡ (bit v m == 1)
