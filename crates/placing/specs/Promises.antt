-- What the functions on the order of placing ask and ensure, by what the machine on lists does to it. Assumes nothing.
use Rattle.std.specs.Prelude.{true, false, List, [], ◌∷◌, ◌≡◌, ℕ, zero, suc, ◌≤◌, ◌<◌, eqb, get_or}
use Rattle.paper.specs.Machine.{take_out}
use Rattle.placing.specs.Order.{pending_in, latest_first, placed_in, OrderFits}

-- there is room for one part more, of unit v; it has been placed
pub record CanPlace (order : List ℕ) (v : ℕ) : Type 0 where
  pub fits : OrderFits order
  pub room : pending_in order < 1023
  pub small : v < 65536

pub record Placed (v : ℕ) (order order' : List ℕ) : Type 0 where
  pub fits : OrderFits order'
  pub is : placed_in order' ≡ v ∷ placed_in order

-- the units of the first n parts without part i, the latest first; with i = 0, of all n
unfoldable pub without : List ℕ → ℕ → ℕ → List ℕ
unfolding latest_first
without order i zero = []
without order i (suc n) = elim (eqb i (suc n)) [ true ↦ latest_first order n | false ↦ get_or order (suc n) 0 ∷ without order i n ]

-- part i is the one that goes when a part of unit u is taken out
pub record Latest (order : List ℕ) (u i : ℕ) : Type 0 where
  pub few : i ≤ pending_in order
  pub is : take_out u (placed_in order) ≡ without order i (pending_in order)

-- part i has gone
pub record Removed (i : ℕ) (order order' : List ℕ) : Type 0 where
  pub fits : OrderFits order'
  pub is : placed_in order' ≡ without order i (pending_in order)

-- the latest part of unit u, if it has one, has gone
pub record TakenOut (u : ℕ) (order order' : List ℕ) : Type 0 where
  pub fits : OrderFits order'
  pub is : placed_in order' ≡ take_out u (placed_in order)
