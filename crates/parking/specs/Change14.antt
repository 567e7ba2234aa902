-- Change 14 (document 02: "How long a schedule suffices") "for a resumed point that a run saved, counted from its first start": what is claimed of a resumption. That it holds
-- of every one that is accepted is proved in proofs/Enough. Assumes nothing.
use mathlib.Core.List.{List, [], ◌∷◌, ◌++◌, flatten}
use Rattle.std.specs.Prelude.{◌⊎◌, ◌≡◌, ℕ, ◌+◌, ◌*◌, ◌^◌, ◌≤◌, ◌<◌, length}
use Rattle.paper.specs.Result.{accepted}
use Rattle.paper.specs.Book.{Term, Book}
use Rattle.paper.specs.Dated.{AnyBook, read_any, on_day}
use Rattle.paper.specs.Machine.{Ending, in_force, start}
use Rattle.paper.specs.Run.{Answer}
use Rattle.paper.specs.OneUnit.{alone}
use Rattle.paper.specs.Enough.{carried_parts, Names, orders_alone, forks_alone, sufficient}
use Rattle.paper.specs.Page.{Request, Lengths, LineReader}
use Rattle.paper.specs.Sound.{All}
use Rattle.parking.specs.Form.{limits}
use Rattle.parking.specs.Points.{After, park_by}
use Rattle.parking.specs.Change11.{Reads, Onward}

-- the first start of the run that stands under a name in a buffer: it was accepted with that name, cut and saved, and then went on with one schedule after another
pub record FirstStart (published : Lengths) (name last : List ℕ) : Type 0 where
  pub read : LineReader
  pub reads : Reads read
  pub asked : Request
  pub small : asked.budget < 2 ^ 32
  pub points : List ℕ
  pub after : After Answer
  pub ran : park_by read published asked name points ≡ accepted after
  pub cut : after.answer.ending ≡ Ending.cut
  pub schedules : List (List ℕ)
  pub between : Onward published name after.points schedules last

-- a run by B from t, as it was asked at its first start
module _ (asked : Request) (B : Book) (t : Term) where
  -- the orders carried out in these parts of it
  abbrev pub carried_in : List (List ℕ) → ℕ
  carried_in parts = carried_parts in_force B (limits asked.budget) parts (start asked.units t)

  -- After the parts before it is resumed with a schedule, and ends so. S and F are those of n entries, over which the one-unit run without symbol limit finishes.
  pub record EnoughResumed (n : ℕ) (before : List (List ℕ)) (schedule : List ℕ) (ending : Ending) : Type 0 where
    -- the orders carried out in all parts, this one included, are at most S + 4 × F; the sharp bound is S + 3 × F
    pub most : carried_in (before ++ (schedule ∷ [])) ≤ sufficient B asked.budget t n
    pub sharp : carried_in (before ++ (schedule ∷ [])) ≤ orders_alone B asked.budget t n + 3 * forks_alone B asked.budget t n
    -- rounds, each naming every unit, that make up S + 4 × F with the orders carried out in the parts before never end cut: they finish, or end full
    pub rounds : (rs : List (List ℕ)) → schedule ≡ flatten rs → All (Names asked.units) rs → sufficient B asked.budget t n ≤ carried_in before + length rs →
        (ending ≡ Ending.finished) ⊎ (ending ≡ Ending.full)

-- by the book and the line of the first start, if its one-unit run without symbol limit finishes within the budget
pub record EnoughSince {published : Lengths} {name last : List ℕ} (first : FirstStart published name last) (schedule : List ℕ) (ending : Ending) : Type 0 where
  pub given : AnyBook
  pub term : Term
  pub book_read : read_any first.asked.book ≡ accepted given
  pub line_read : first.read (on_day first.asked.day given) first.asked.line ≡ accepted term
  pub enough : let q = first.asked in let B = on_day q.day given in
      (n : ℕ) → (alone B q.budget term n).ending ≡ Ending.finished → EnoughResumed q B term n (q.schedule ∷ first.schedules) schedule ending
