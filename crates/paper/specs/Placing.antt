-- The order in which pending parts were placed (document 02, Change 11: "every pending forked part placed later than the part that forked it"): what is said
-- of every state of a run. That it holds is proved in proofs/Placing. Assumes nothing.
use Rattle.std.specs.Prelude.{List, [], ◌∷◌, ◌++◌, ◌≡◌, ℕ, suc, ◌≤◌}
use Rattle.paper.specs.Tree.{Position}
use Rattle.paper.specs.Machine.{Order, State, unit}
use Rattle.paper.specs.Idle.{times}

-- a part is pending until its EXIT is carried out: how many of them a list of orders has
unfoldable pub exits_in : List Order → ℕ
exits_in [] = 0
exits_in (Order.visit p ∷ os) = exits_in os
exits_in (Order.fork p j ∷ os) = exits_in os
exits_in (Order.join j c ∷ os) = exits_in os
exits_in (Order.exit p j ∷ os) = suc (exits_in os)
exits_in (Order.whole p k ∷ os) = exits_in os
exits_in (Order.sleep ∷ os) = exits_in os
exits_in (Order.bingo ∷ os) = exits_in os

-- a pending part of the unit v, the units of those placed later being given
pub record PendingPart (s : State) (later : List ℕ) (v : ℕ) : Type 0 where
  -- its EXIT stands under those of v's parts that were placed later
  pub place : Position
  pub number : ℕ
  pub above : List Order
  pub below : List Order
  pub its_exit : (unit s.units v).list ≡ above ++ (Order.exit place number ∷ below)
  pub under : exits_in above ≡ times v later
  -- its JOIN is on the list of the part that forked it, under the EXITs of all parts of that unit that were placed with it or later
  pub forker : ℕ
  pub count : ℕ
  pub higher : List Order
  pub lower : List Order
  pub its_join : (unit s.units forker).list ≡ higher ++ (Order.join number count ∷ lower)
  pub earlier : times forker (v ∷ later) ≤ exits_in higher

pub record PlacedInOrder (s : State) : Type 0 where
  -- each unit stands in the order as often as EXITs are on its list
  pub many : (u : ℕ) → exits_in (unit s.units u).list ≡ times u s.placed
  pub in_order : (later : List ℕ) (v : ℕ) (before : List ℕ) → s.placed ≡ later ++ (v ∷ before) → PendingPart s later v
