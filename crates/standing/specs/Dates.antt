-- What the rules' table says of a dated book whose rules were read (document 02, Change 5): where each rule's sides stand, with its day in the 16 bits
-- before its left side, and its right side behind that. Assumes nothing.
use Rattle.std.specs.Prelude.{List, [], ◌++◌, map, ◌≡◌, ℕ, ◌-◌, ◌≤◌, ◌<◌, length, get_or}
use Rattle.paper.specs.Result.{return}
use Rattle.paper.specs.Bits.{field}
use Rattle.paper.specs.Tree.{node, nil}
use Rattle.paper.specs.Book.{Symbol, Side}
use Rattle.paper.specs.Dated.{DatedRule, DatedBook, AnyBook}
use Rattle.paper.specs.Writer.{write_side}
use Rattle.paper.specs.WellFormed.{GoodDated}
use Rattle.tables.specs.Layout.{left_in, right_in}
use Rattle.tables.specs.Tables.{any_book, Sides}
use Rattle.side.specs.Promises.{bits_at}

-- rule i; what stands for a missing rule is of no weight
abbrev pub dated_at : List DatedRule → ℕ → DatedRule
dated_at rs i = get_or rs i (record { day = 0; rule = record { left = node (Symbol.operator 0) nil; right = node (Symbol.operator 0) nil } })

abbrev pub left_at : List DatedRule → ℕ → Side
left_at rs i = (dated_at rs i).rule.left

pub record DatedIn (bytes : List ℕ) (r : DatedRule) (left right : ℕ) : Type 0 where
  pub early : 16 ≤ left
  pub day_read : field 16 (bits_at bytes (left - 16)) ≡ return r.day (bits_at bytes left)
  pub left_ends : bits_at bytes left ≡ write_side r.rule.left ++ bits_at bytes right

pub record Dates (bytes : List ℕ) (rs : List DatedRule) (rules : List ℕ) : Type 0 where
  pub each : (i : ℕ) → i < length rs → DatedIn bytes (dated_at rs i) (left_in rules i) (right_in rules i)

-- the dated book that some bytes are; what stands for another book is of no weight
abbrev pub dated_of : AnyBook → DatedBook
dated_of (AnyBook.undated B) = record { operators = []; rules = [] }
dated_of (AnyBook.dated D) = D

unfoldable pub dated_book : List ℕ → DatedBook
dated_book bytes = dated_of (any_book bytes)

abbrev pub rules_of : List ℕ → List DatedRule
rules_of bytes = (dated_book bytes).rules

-- the bytes are a dated book, and the table has all its rules
pub record AllDated (bytes rules : List ℕ) : Type 0 where
  pub short : length bytes ≤ 65536
  pub sides : Sides bytes (map (λ r. r.rule) (rules_of bytes)) rules
  pub dates : Dates bytes (rules_of bytes) rules
  pub good : GoodDated (dated_book bytes)
