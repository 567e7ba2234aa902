-- Change 10 (document 02: "Finished parts aren't walked again"): what it says of a run besides demand 3, whose `posting` says that a finished run's term
-- and rewrites remain those of the unmarked definition. That it holds of every run is proved in proofs/Change10. Assumes nothing.
use Rattle.std.specs.Prelude.{true, false, List, [], ◌∷◌, ◌++◌, ◌⊎◌, ◌≡◌, ℕ, ◌<◌}
use Rattle.std.proofs.Math.Option.{some}
use Rattle.paper.specs.Tree.{label, arguments, count, pick, Position, subterm, replace}
use Rattle.paper.specs.Book.{Term, Book}
use Rattle.paper.specs.Match.{rewrite_over}
use Rattle.paper.specs.Marks.{Marked, cells, plain}
use Rattle.paper.specs.Reduction.{Weight, rewrites, Reduces}
use Rattle.paper.specs.Machine.{Order, UnitState, unit_state, State, with_unit, Event, Ending, going, Limits, Grant, do_visit, start}
use Rattle.paper.specs.Run.{Moment}
use Rattle.paper.specs.OneUnit.{Accounted}
use Rattle.paper.specs.Sound.{All}
use Rattle.paper.specs.Demand3.{Throughout, answered, trace}

-- reducing a result of reduction makes no rewrite and leaves it alike
abbrev pub Alike : Book → Type 0
Alike B = (w : Weight) (t u : Term) (n : ℕ) → Reduces B w t n u → Reduces B rewrites u 0 u

-- the part of t at p is marked
abbrev pub MarkedAt : Position → Marked → Type 0
MarkedAt p t = (label (subterm p t)).marked ≡ true

-- reducing a marked part without marks makes no rewrite and leaves it alike
abbrev pub TrueMarks : Book → State → Type 0
TrueMarks B s = (p : Position) → let x = plain (subterm p s.term) in MarkedAt p s.term → Reduces B rewrites x 0 x

-- no part around the position is marked
abbrev pub Clear : Position → Marked → Type 0
Clear [] t = Unit {0}
Clear (i ∷ p) t = ((label t).marked ≡ false) × Clear p (pick t i (arguments t))

-- VISIT and FORK are not in a marked part, and WHOLE neither in one nor of one
abbrev pub OrderOutside : Marked → Order → Type 0
OrderOutside t (Order.visit p) = Clear p t
OrderOutside t (Order.fork p j) = Clear p t
OrderOutside t (Order.join j c) = Unit {0}
OrderOutside t (Order.exit p j) = Unit {0}
OrderOutside t (Order.whole p k) = Clear p t × ((label (subterm p t)).marked ≡ false)
OrderOutside t Order.sleep = Unit {0}
OrderOutside t Order.bingo = Unit {0}

abbrev pub Outside : State → Type 0
Outside s = All (λ (x : UnitState). All (OrderOutside s.term) x.list) s.units

-- the position is in the term
abbrev pub Inside : Position → Marked → Type 0
Inside [] t = Unit {0}
Inside (i ∷ p) t = (i < count (arguments t)) × Inside p (pick t i (arguments t))

-- t' is t with a rule applied to a part around the position p
abbrev pub Applied : Book → Position → Marked → Marked → Type 0
Applied B p t t' = (q : Position) × (i : ℕ) × (r : Position) × (x : Marked) × (p ≡ q ++ (i ∷ r))
    × (rewrite_over cells B.rules (subterm q t) ≡ some x) × (t' ≡ replace q x t)

-- a marked part stays as it is, marks included, unless a rule is applied around it, which copies it or drops it
abbrev pub Lasting : Book → State → State → Type 0
Lasting B s s' = (p : Position) → Inside p s.term → MarkedAt p s.term →
    (subterm p s'.term ≡ subterm p s.term) ⊎ Applied B p s.term s'.term

-- what holds from each state of a run to the next
abbrev pub Between : (State → State → Type 0) → State → List Moment → Type 0
Between P s [] = Unit {0}
Between P s (m ∷ ms) = P s m.state × Between P m.state ms

module _ (G : Grant) (B : Book) (L : Limits) (units : ℕ) (schedule : List ℕ) (t : Term) where
  pub record Change10 : Type 0 where
    -- "reducing the result of a finished reduction makes no rewrite and leaves it alike"
    pub alike : Alike B
    -- "VISIT of a marked part is dropped"
    pub dropped : (u : ℕ) (s : State) (os : List Order) (p : Position) → MarkedAt p s.term →
        do_visit B L u s os p ≡ going Event.visited (with_unit s u (unit_state true os))
    -- reducing a marked part makes no rewrite and leaves it alike, in every state of the run
    pub marks : Throughout (TrueMarks B) (start units t) (trace G B L units schedule t)
    -- no order works in a marked part
    pub outside : Throughout Outside (start units t) (trace G B L units schedule t)
    -- and it is never changed, but copied or dropped by a rule
    pub lasting : Between (Lasting B) (start units t) (trace G B L units schedule t)
    -- the account of Change 2: a finished run's FORKs are those of the one-unit run with marks and without symbol limit, which finishes if it has entries
    -- enough
    pub account : let A = answered G B L units schedule t in A.ending ≡ Ending.finished → Accounted B L.budget t A
