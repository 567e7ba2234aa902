-- What the tables say of a book: its arities, its steps, how many rules it has, and where their sides stand in its bits. Assumes nothing.
use Rattle.std.specs.Prelude.{List, [], ◌++◌, ◌≡◌, ℕ, ◌<◌, length, get_or, drop}
use Rattle.paper.specs.Result.{Result, refused, accepted}
use Rattle.paper.specs.Bits.{bits_of}
use Rattle.paper.specs.Tree.{node, nil, label, preorder}
use Rattle.paper.specs.Strategy.{layout}
use Rattle.paper.specs.Book.{Operator, Symbol, Rule, Book, operator_at}
use Rattle.paper.specs.Dated.{AnyBook, read_any, on_day}
use Rattle.paper.specs.Writer.{concat, write_symbol}
use Rattle.paper.specs.WellFormed.{GoodBook}
use Rattle.tables.specs.Layout.{row, arity_in, row_in, count_in, day_in, left_in, right_in}

-- THE BOOK

-- the book that some bytes are, in its form; what stands for a book that is refused is of no weight
abbrev pub accepted_book : Result AnyBook → AnyBook
accepted_book (refused k) = AnyBook.undated (record { operators = []; rules = [] })
accepted_book (accepted A) = A

abbrev pub any_book : List ℕ → AnyBook
any_book bytes = accepted_book (read_any bytes)

-- and on the day that the rules' table is of: this is the book that a run goes by
abbrev pub book_of : List ℕ → List ℕ → Book
book_of bytes rules = on_day (day_in rules) (any_book bytes)

-- OPERATORS

-- what the table says of one operator: its arity, and its steps as a row
pub record OperatorIn (op : Operator) (arity : ℕ) (steps : List ℕ) : Type 0 where
  pub arity_is : arity ≡ op.arity
  pub steps_are : steps ≡ row (layout op.strategy)

pub record Operators (ops : List Operator) (operators : List ℕ) : Type 0 where
  pub each : (o : ℕ) → o < length ops → OperatorIn (operator_at ops o) (arity_in operators o) (row_in operators o)
  pub long : length operators ≡ 4352

-- RULES

-- the symbols ss stand at a position of the book's bits
pub record Stand (bytes : List ℕ) (at : ℕ) (ss : List Symbol) : Type 0 where
  pub rest : List ℕ
  pub is : drop at (bits_of bytes) ≡ concat write_symbol ss ++ rest

-- what the table says of one rule: where its sides stand
pub record RuleIn (bytes : List ℕ) (rule : Rule) (left right : ℕ) : Type 0 where
  pub left_stands : Stand bytes left (preorder rule.left)
  pub right_stands : Stand bytes right (preorder rule.right)

-- rule i; what stands for a missing rule is of no weight
abbrev pub rule_at : List Rule → ℕ → Rule
rule_at rs i = get_or rs i (record { left = node (Symbol.operator 0) nil; right = node (Symbol.operator 0) nil })

pub record Sides (bytes : List ℕ) (rs : List Rule) (rules : List ℕ) : Type 0 where
  pub each : (i : ℕ) → i < length rs → RuleIn bytes (rule_at rs i) (left_in rules i) (right_in rules i)
  pub long : length rules ≡ 512

-- the left side of rule i has the root o
abbrev pub Root : List Rule → ℕ → ℕ → Type 0
Root rs o i = label (rule_at rs i).left ≡ Symbol.operator o

pub record Rules (bytes : List ℕ) (rs : List Rule) (rules : List ℕ) : Type 0 where
  pub sides : Sides bytes rs rules
  pub counted : count_in rules ≡ length rs

-- TABLES

-- the tables of the book B, which is good, as every read book is
pub record Tables (bytes operators rules : List ℕ) (B : Book) : Type 0 where
  pub operators_in : Operators B.operators operators
  pub rules_in : Rules bytes B.rules rules
  pub good : GoodBook B

-- the bytes are a book, and these are its tables on the day that they name
pub record TablesOf (bytes operators rules : List ℕ) : Type 0 where
  pub read : read_any bytes ≡ accepted (any_book bytes)
  pub tables : Tables bytes operators rules (book_of bytes rules)
