-- Idle units, their queue, and the work that a FORK gives them (document 02, Change 3: "FORK now looks from unit 0 up", "work that unit 0 takes lies above
-- its own JOIN"; Change 9: "FORK now picks the unit that has been idle longest"): what is said of any grant rule that answers idle units only, beside
-- demand 3. That it holds of every run is proved in proofs/Queue, proofs/Longest and proofs/Above. Assumes nothing.
use Rattle.std.specs.Prelude.{true, false, List, [], ◌∷◌, ◌++◌, ◌⊎◌, ◌≡◌, ℕ, zero, suc, ◌<◌, ◌≤◌, eqb, length}
use Rattle.std.proofs.Math.Option.{none, some}
use Rattle.paper.specs.Tree.{Position}
use Rattle.paper.specs.Book.{Term, Book}
use Rattle.paper.specs.Machine.{Order, UnitState, State, Event, Ending, Limits, Grant, longest, unit, start}
use Rattle.paper.specs.Run.{run_by, Moment, moments_by}

-- v is one of the units, and idle
abbrev pub IsIdle : State → ℕ → Type 0
IsIdle s v = (v < length s.units) × ((unit s.units v).busy ≡ false)

-- how often v stands in a queue
unfoldable pub times : ℕ → List ℕ → ℕ
times v [] = 0
times v (w ∷ q) = elim (eqb v w) [ true ↦ suc (times v q) | false ↦ times v q ]

-- 1 for an idle unit, 0 for a busy one and for a number that is no unit's
unfoldable pub once_if_idle : ℕ → List UnitState → ℕ
once_if_idle v [] = 0
once_if_idle zero (x ∷ xs) = elim x.busy [ true ↦ 0 | false ↦ 1 ]
once_if_idle (suc v) (x ∷ xs) = once_if_idle v xs

-- a unit is idle exactly if it stands in the queue, and it stands there once
abbrev pub Queued : State → Type 0
Queued s = (v : ℕ) → times v s.queue ≡ once_if_idle v s.units

-- a grant rule answers idle units only, where the queue is right: all that demand 3 asks of it
abbrev pub OnlyIdle : Grant → Type 0
OnlyIdle G = (s : State) → Queued s → (v : ℕ) → G s ≡ some v → IsIdle s v

-- for how many of the states, the latest first, unit v has been idle up to now
unfoldable pub idle_for : ℕ → List State → ℕ
idle_for v [] = 0
idle_for v (s ∷ before) = elim (unit s.units v).busy [ true ↦ 0 | false ↦ suc (idle_for v before) ]

-- v goes before w: it has been idle longer, or as long, and its number isn't above w's
abbrev pub Before : List State → ℕ → ℕ → Type 0
Before past v w = (idle_for w past < idle_for v past) ⊎ ((idle_for w past ≡ idle_for v past) × (v ≤ w))

-- "FORK now picks the unit that has been idle longest": what the rule answers in the state s of a run, the states before it being given, the latest first
pub record PicksLongest (s : State) (before : List State) : Type 0 where
  -- an idle unit is found, if there is one
  pub finds : longest s ≡ none → (v : ℕ) → ¬ IsIdle s v
  -- and none goes before it
  pub first : (v w : ℕ) → longest s ≡ some v → IsIdle s w → Before (s ∷ before) v w

-- P holds of s, of the states that some entries leave, and of those before each
abbrev pub WithPast : (State → List State → Type 0) → State → List State → List Moment → Type 0
WithPast P s before [] = P s before
WithPast P s before (m ∷ ms) = P s before × WithPast P m.state (s ∷ before) ms

-- what an idle unit v has on its list: a JOIN with a count above 0 on top, or SLEEP alone, which unit 0 never has
abbrev pub Waits : ℕ → List Order → Type 0
Waits v os = ((j : ℕ) × (c : ℕ) × (below : List Order) × (os ≡ Order.join j (suc c) ∷ below)) ⊎ ((1 ≤ v) × (os ≡ Order.sleep ∷ []))

-- the same order, but for a JOIN's count, which EXITs lower
abbrev pub SameOrder : Order → Order → Type 0
SameOrder (Order.visit p) o = o ≡ Order.visit p
SameOrder (Order.fork p j) o = o ≡ Order.fork p j
SameOrder (Order.join j c) o = (d : ℕ) × (d ≤ c) × (o ≡ Order.join j d)
SameOrder (Order.exit p j) o = o ≡ Order.exit p j
SameOrder (Order.whole p k) o = o ≡ Order.whole p k
SameOrder Order.sleep o = o ≡ Order.sleep
SameOrder Order.bingo o = o ≡ Order.bingo

abbrev pub SameOrders : List Order → List Order → Type 0
SameOrders [] [] = Unit {0}
SameOrders [] (x ∷ xs) = ⊥
SameOrders (o ∷ os) [] = ⊥
SameOrders (o ∷ os) (x ∷ xs) = SameOrder o x × SameOrders os xs

-- the list now ends with the EXIT of the part at p, of the number j, and the orders os below it
abbrev pub StandsOn : List Order → Position → ℕ → List Order → Type 0
StandsOn os p j now = (above : List Order) × (below : List Order) × (now ≡ above ++ (Order.exit p j ∷ below)) × SameOrders os below

-- P holds of each state that an entry leaves, until the EXIT of the part at p, of the number j, has been carried out
abbrev pub UntilExited : Position → ℕ → (State → Type 0) → List Moment → Type 0
UntilExited p j P [] = Unit {0}
UntilExited p j P (m ∷ ms) = (m.event ≡ Event.exited p j) ⊎ (P m.state × UntilExited p j P ms)

-- The entry that leaves the moment m of the state s, the moments ms following: if it is a FORK that gives its part to a unit, that unit was idle, so it
-- waited at a JOIN or slept; it gets VISIT over EXIT on top of its list; and the orders below stay as they are until the part has exited.
abbrev pub Taken : State → Moment → List Moment → Type 0
Taken s m ms = (p : Position) (j : ℕ) → m.event ≡ Event.forked p j →
    (v : ℕ) × IsIdle s v × Waits v (unit s.units v).list × ((unit m.state.units v).list ≡ Order.visit p ∷ Order.exit p j ∷ (unit s.units v).list)
    × UntilExited p j (λ (z : State). StandsOn (unit s.units v).list p j (unit z.units v).list) ms

abbrev pub EachTaken : State → List Moment → Type 0
EachTaken s [] = Unit {0}
EachTaken s (m ∷ ms) = Taken s m ms × EachTaken m.state ms

-- the state that some entries leave
abbrev pub left_in : State → List Moment → State
left_in s [] = s
left_in s (m ∷ ms) = left_in m.state ms

-- nothing is left on any list but SLEEP, and BINGO on unit 0's
abbrev pub Done : State → Type 0
Done s = ((unit s.units 0).list ≡ Order.bingo ∷ []) × ((v : ℕ) → (unit s.units (suc v)).list ≡ Order.sleep ∷ [])

module _ (G : Grant) (B : Book) (L : Limits) (units : ℕ) (schedule : List ℕ) (t : Term) where
  pub record Helps : Type 0 where
    -- work that a unit takes lies above the JOIN or SLEEP that it waited at
    pub above : EachTaken (start units t) (moments_by G B L units schedule t)
    -- a run finishes only with all work done
    pub done : (run_by G B L units schedule t).ending ≡ Ending.finished → Done (left_in (start units t) (moments_by G B L units schedule t))
