-- What the functions inside ask and ensure of each other. Promises of functions inside. Assumes nothing.
use Rattle.std.specs.Prelude.{Bool, true, false, List, [], ◌∷◌, ◌≡◌, ℕ, ◌+◌, ◌<◌, ◌≤◌, length, drop, Option, Some, None, Ok}
use Rattle.std.proofs.Math.Option.{Option as Maybe, none, some}
use Rattle.paper.specs.Tree.{preorder}
use Rattle.paper.specs.Strategy.{has}
use Rattle.paper.specs.Book.{Operator, Symbol, Side, Rule}
use Rattle.paper.specs.Reader.{variables}
use Rattle.paper.specs.Dated.{AnyBook}
use Rattle.paper.specs.Strict.{once, has_constant, overlap_with, overlap_of, told}
use Rattle.tables.specs.Tables.{any_book, book_of, rule_at, TablesOf}
use Rattle.side.specs.Mask.{Masks}
use Rattle.side.specs.Promises.{AritiesIn}
use Rattle.side.specs.declared.Taken as T
use Rattle.rule.specs.Packed.{Stands, SideAt, Goes, AllAt}
use Rattle.apart.specs.Rows.{Rows}
use Rattle.strict.specs.Spec.{verdict}

-- VARIABLES OF A LEFT SIDE

-- is none of the variables vs among those met before, and none there twice?
unfoldable pub fresh : List ℕ → List ℕ → Bool
unfolding has
fresh met [] = true
fresh met (v ∷ vs) = elim (has v met) [ true ↦ false | false ↦ fresh (v ∷ met) vs ]

-- a symbol that is no repeated variable, where those of mask were met
pub record SymbolTaken (bytes : List ℕ) (at : ℕ) (operators : List ℕ) (mask : ℕ) (t : T.Taken) : Type 0 where
  pub arity : t.arity < 256
  pub goes : (met : List ℕ) → Masks mask met → (met' : List ℕ) × Masks t.met met'
      × Goes bytes at operators (λ ss ss'. fresh met (variables ss) ≡ fresh met' (variables ss')) t.arity t.next

abbrev pub SymbolMet : List ℕ → ℕ → List ℕ → ℕ → Option T.Taken → Type 0
SymbolMet bytes at operators mask (Some t) = SymbolTaken bytes at operators mask t
SymbolMet bytes at operators mask None =
    (met : List ℕ) → Masks mask met → AllAt bytes at operators (λ ss. fresh met (variables ss) ≡ false)

-- r answers for the symbols at a position
pub record RestLinear (bytes : List ℕ) (at : ℕ) (operators : List ℕ) (mask due room : ℕ) (r : Bool) : Type 0 where
  pub is : (met : List ℕ) → Masks mask met → (ss : List Symbol) → Stands bytes at operators due room ss → r ≡ fresh met (variables ss)

-- r answers for the side at a position
pub record LinearAt (bytes : List ℕ) (at : ℕ) (operators : List ℕ) (r : Bool) : Type 0 where
  pub is : (side : Side) → SideAt bytes at operators side → r ≡ once (variables (preorder side))

-- OPERATORS

pub record ConstantAmong (operators : List ℕ) (n : ℕ) (r : Bool) : Type 0 where
  pub is : (ops : List Operator) → AritiesIn ops n operators → r ≡ has_constant ops

-- PAIRS OF RULES

abbrev pub found : Option ℕ → Maybe ℕ
found (Some j) = some j
found None = none

abbrev pub Below : ℕ → Option ℕ → Type 0
Below m (Some j) = j < m
Below m None = Unit {0}

-- of m rules, r is the first behind rule i that is not apart from it
pub record Second (rows : List ℕ) (i m : ℕ) (r : Option ℕ) : Type 0 where
  pub is : (rs : List Rule) → Rows rs rows → length rs ≡ m → found r ≡ overlap_with (rule_at rs i).left (i + 1) (drop (i + 1) rs)
  pub below : Below m r

-- r tells the first pair of m rules
pub record FirstPair (rows : List ℕ) (m : ℕ) (r : Option (ℕ × ℕ)) : Type 0 where
  pub is : (rs : List Rule) → Rows rs rows → length rs ≡ m → verdict (Ok r) ≡ told (overlap_of rs)

-- THE BOOK

-- an undated book of n operators, read
pub record Undated (bytes : List ℕ) (n : ℕ) (operators rules : List ℕ) : Type 0 where
  pub tables : TablesOf bytes operators rules
  pub undated : any_book bytes ≡ AnyBook.undated (book_of bytes rules)
  pub count : n ≡ length (book_of bytes rules).operators
  pub short : length bytes ≤ 65536
