-- What a book that is read has, field by field of the layout (document 01, 'The book, bit by bit' and 'Strategies, settled'; refusals 2 to 5, 7
-- and 8). `Sound` is what a run needs of it; this is all of it, so that such a book is written and read back as itself. Assumes nothing.
use Rattle.std.specs.Prelude.{List, [], ◌∷◌, ◌≡◌, ℕ, ◌^◌, ◌≤◌, ◌<◌, length}
use Rattle.paper.specs.Tree.{label, preorder, Correct}
use Rattle.paper.specs.Strategy.{Item, settle}
use Rattle.paper.specs.Book.{Operator, Symbol, Side, Rule, Book, symbol_arity}
use Rattle.paper.specs.Reader.{variables}
use Rattle.paper.specs.Writer.{numbers}
use Rattle.paper.specs.Sound.{In, All, EndsWhole, IsOperator}
use Rattle.paper.specs.Dated.{DatedRule, DatedBook, AnyBook}

-- every argument that is named, in a group or not, is one of n
abbrev pub ItemsWithin : ℕ → List Item → Type 0
ItemsWithin n [] = Unit {0}
ItemsWithin n (Item.whole ∷ is) = ItemsWithin n is
ItemsWithin n (Item.argument i ∷ is) = (i < n) × ItemsWithin n is
ItemsWithin n (Item.group js ∷ is) = All (λ j. j < n) js × ItemsWithin n is

-- an arity of 3 bits, and a settled strategy of at most 31 items within it that is empty or ends in 0
pub record GoodOperator (o : Operator) : Type 0 where
  pub arity : o.arity < 8
  pub settled : settle o.strategy ≡ o.strategy
  pub within : ItemsWithin o.arity o.strategy
  pub ends : EndsWhole o.strategy
  pub short : length (numbers o.strategy) < 32

-- an operator of the book, or a variable of 4 bits
abbrev pub Fits : List Operator → Symbol → Type 0
Fits ops (Symbol.operator o) = o < length ops
Fits ops (Symbol.variable v) = v < 16

-- one term of at most 64 such symbols
pub record GoodSide (ops : List Operator) (t : Side) : Type 0 where
  pub correct : Correct (symbol_arity ops) t
  pub short : length (preorder t) ≤ 64
  pub fits : All (Fits ops) (preorder t)

-- two sides: the left one no variable, the right one with no other variables than the left one's
pub record GoodRule (ops : List Operator) (r : Rule) : Type 0 where
  pub left : GoodSide ops r.left
  pub right : GoodSide ops r.right
  pub root : IsOperator (label r.left)
  pub bound : (v : ℕ) → In v (variables (preorder r.right)) → In v (variables (preorder r.left))

-- 1 to 255 operators, and at most 255 rules over them
pub record GoodBook (B : Book) : Type 0 where
  pub some_operators : 0 < length B.operators
  pub few_operators : length B.operators < 256
  pub operators : All GoodOperator B.operators
  pub few_rules : length B.rules < 256
  pub rules : All (GoodRule B.operators) B.rules

-- the same with a day of 16 bits before each rule (document 02, Change 5)
pub record GoodDatedRule (ops : List Operator) (r : DatedRule) : Type 0 where
  pub day : r.day < 2 ^ 16
  pub rule : GoodRule ops r.rule

pub record GoodDated (D : DatedBook) : Type 0 where
  pub some_operators : 0 < length D.operators
  pub few_operators : length D.operators < 256
  pub operators : All GoodOperator D.operators
  pub few_rules : length D.rules < 256
  pub rules : All (GoodDatedRule D.operators) D.rules

abbrev pub GoodAny : AnyBook → Type 0
GoodAny (AnyBook.undated B) = GoodBook B
GoodAny (AnyBook.dated D) = GoodDated D
