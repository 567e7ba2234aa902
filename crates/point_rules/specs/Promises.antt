-- What deciding the rules of a saved point asks and ensures (document 02, Change 11: "20 if a point in it breaks a rule"): the answer is the test of
-- flat/specs/Tested, by the point's book and with its budget. Assumes nothing.
use Rattle.std.specs.Prelude.{Bool, List, ◌≡◌, ℕ, length}
use Rattle.paper.specs.Book.{Book}
use Rattle.flat.specs.Tested.{point_tested}
use Rattle.tables.specs.Layout.{arity_in}
use Rattle.tables.specs.Tables.{Tables}
use Rattle.point.specs.Saved.{Arrays, state, Standing}
use Rattle.point.specs.declared.Numbers.{Numbers}
use Rattle.parking.specs.Form.{limits}

-- the table is that of the book B, and the run stands in the arrays, with its operators
pub record OfBook (operators : List ℕ) (x : Numbers) (a : Arrays) (B : Book) : Type 0 where
  pub bytes : List ℕ
  pub rules : List ℕ
  pub tables : Tables bytes operators rules B
  pub standing : Standing (arity_in operators) (length B.operators) x a

-- of some book
pub record PointRead (operators : List ℕ) (x : Numbers) (a : Arrays) : Type 0 where
  pub book : Book
  pub is : OfBook operators x a book

-- r says whether the point meets all rules
pub record Decided (operators : List ℕ) (x : Numbers) (a : Arrays) (r : Bool) : Type 0 where
  pub is : (B : Book) → OfBook operators x a B → r ≡ point_tested B (limits x.budget) (state x a)
