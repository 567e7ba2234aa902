-- What the functions of a resumption ask and ensure (document 02, Change 11: "A resumption takes only a name, buffers and the schedule"): a slot's run is loaded, and goes on
-- as in parking/specs/Points. Assumes nothing.
use Rattle.std.specs.Prelude.{true, List, ◌++◌, Option, Some, None, ◌≡◌, ℕ, ◌^◌, ◌≤◌, ◌<◌, length, take, drop, replicate}
use Rattle.paper.specs.Result.{accepted, Read}
use Rattle.paper.specs.Book.{Book}
use Rattle.paper.specs.Dated.{on_day}
use Rattle.paper.specs.Page.{all_below}
use Rattle.flat.specs.Meets.{PointRules}
use Rattle.flat.specs.Run.{FlatAnswer}
use Rattle.flat.specs.Parts as flat
use Rattle.tables.specs.Layout.{arity_in, day_in}
use Rattle.tables.specs.Tables.{any_book, book_of, TablesOf}
use Rattle.units.specs.Stacks.{Store}
use Rattle.units.specs.Promises.{EightRegions}
use Rattle.run.specs.declared.Run.{Run}
use Rattle.engine.specs.Spec.{run_values}
use Rattle.engine.specs.Promises.{fault}
use Rattle.point.specs.declared.Numbers.{Numbers}
use Rattle.point.specs.Saved.{Arrays, saved, Standing}
use Rattle.parking.specs.Form.{limits}
use Rattle.parking.specs.Points.{slot, Found, behind_resumption}
use Rattle.opening.specs.Promises.{Part, read_part, book_in, day_of, OpenedRun}
use Rattle.checking.specs.Promises.{Holds}
use Rattle.points.specs.Spec.{flat_values}
use Rattle.points.specs.Promises.{point}
use Rattle.resumption.specs.declared.Loaded.{Loaded}

-- A SLOT'S RUN

-- the bytes of slot k behind the name
abbrev pub part_in : ℕ → List ℕ → List ℕ
part_in k points = drop 17 (slot k points)

-- r is how many units the part's run has; of a part that is not read it says nothing
pub record CountsUnits (part : List ℕ) (r : Option ℕ) : Type 0 where
  pub is : (y : Read Part) → read_part part ≡ accepted y → let n = length y.value.saved.parked.state.units in (r ≡ Some n) × (1 ≤ n)

-- the bytes stand in front of the book's array
pub record Copied (bytes book : List ℕ) : Type 0 where
  pub long : length book ≡ 41473
  pub front : take (length bytes) book ≡ bytes

-- the arrays have their lengths; nothing depends on what they hold
pub record Room (book operators symbols order : List ℕ) (s : Store) : Type 0 where
  pub book_long : length book ≡ 41473
  pub operators_long : length operators ≡ 4352
  pub symbols_long : length symbols ≡ 1024
  pub order_long : length order ≡ 1024
  pub regions : EightRegions s

-- the part is opened, and its book of m bytes stands in front of the array
pub record LoadedRun (part book operators rules : List ℕ) (a : Arrays) (x : Numbers) (m day : ℕ) : Type 0 where
  pub opened : OpenedRun part operators rules a x m
  pub book_long : length book ≡ 41473
  pub short : m ≤ 41473
  pub book_is : take m book ≡ book_in part m
  pub day_is : day ≡ day_of part

abbrev pub LoadedIs : List ℕ → List ℕ → List ℕ → List ℕ → Arrays → Option Loaded → Type 0
LoadedIs part book operators rules a (Some o) = LoadedRun part book operators rules a o.numbers o.book o.day
LoadedIs part book operators rules a None = (y : Read Part) → read_part part ≡ accepted y → ⊥

-- r answers for the part; the rest is what the arrays hold at exit
pub record LoadedAs (part book operators rules : List ℕ) (a : Arrays) (r : Option Loaded) : Type 0 where
  pub is : LoadedIs part book operators rules a r

-- IT GOES ON

-- the run that stands in the arrays is a point's, and these are the tables of its book on its day
pub record PointIn (book operators rules : List ℕ) (day : ℕ) (x : Numbers) (a : Arrays) : Type 0 where
  pub tables : TablesOf book operators rules
  pub day_is : day_in rules ≡ day
  pub standing : Standing (arity_in operators) (length (book_of book rules).operators) x a
  pub keeps : PointRules (book_of book rules) (limits x.budget) (saved x a).parked.state
  pub small : x.budget < 2 ^ 32

-- the areas are long enough, and each entry names one of the units
pub record Asked (units : ℕ) (schedule work net output : List ℕ) : Type 0 where
  pub faultless : fault 1 (length work) (length net) (length output) ≡ 0
  pub named : all_below units schedule ≡ true

-- the point in slot k that the arrays hold
abbrev pub found : ℕ → List ℕ → List ℕ → ℕ → Numbers → Arrays → Found
found k name book day x a = record { at = k; point = point name book day (saved x a) }

-- r is the rest of a point's run, which leaves the buffers so
module _ (schedule : List ℕ) (f : Found) where
  -- by the point's book on its day
  abbrev pub its_book : Book
  its_book = on_day f.point.day (any_book f.point.book)

  abbrev pub goes_on : FlatAnswer
  goes_on = flat.resume its_book (limits f.point.saved.budget) schedule f.point.saved.parked

  pub record GoneOn (work net points output work' net' points' output' : List ℕ) (r : Run) : Type 0 where
    pub values_are : run_values r ≡ flat_values goes_on
    pub work_zero : work' ≡ replicate (length work) 0
    pub net_zero : net' ≡ replicate (length net) 0
    pub points_are : points' ≡ behind_resumption schedule points f its_book
    pub written : output' ≡ goes_on.symbols ++ drop (length goes_on.symbols) output

-- the point in slot k bears the name, and everything is checked
pub record Ready (name schedule : List ℕ) (k : ℕ) (work net points output : List ℕ) : Type 0 where
  pub holds : Holds name points k
  pub asked : Asked (length holds.point.saved.parked.state.units) schedule work net output
