-- What the answers mean, in the paper's terms: a position stands for the book's bits from there on. Promises of functions inside. Assumes nothing.
use Rattle.std.specs.Prelude.{Ok, Err, ◌≡◌, ℕ, ◌<◌, Bool, true, false, List, ◌++◌, length, drop}
use Rattle.paper.specs.Result.{Result, refused, accepted, Read, Reader, return, ◌>>=◌}
use Rattle.paper.specs.Bits.{bits_of}
use Rattle.paper.specs.Tree.{preorder}
use Rattle.paper.specs.Strategy.{has}
use Rattle.paper.specs.Book as B
use Rattle.paper.specs.Book.{Operator, arity_at, symbol_arity}
use Rattle.paper.specs.Reader.{read_symbol, read_symbols, read_side, left_root, left_symbol, right_symbol, variable_of, variables, read_rule}
use Rattle.paper.specs.Writer.{write_symbol, write_side}
use Rattle.tables.specs.Layout.{arity_in}
use Rattle.side.specs.Mask.{Masks}
use Rattle.std.specs.Prelude.{Result as Answer}
use Rattle.refusal.specs.declared.Refusal.{Refusal}
use Rattle.refusal.specs.Numbers.{number}
use Rattle.side.specs.declared.Standing as Sd
use Rattle.side.specs.declared.Taken.{Taken}
use Rattle.side.specs.declared.SideEnd.{SideEnd}
use Rattle.side.specs.declared.RuleEnd.{RuleEnd}

-- the table holds the arities of n operators
pub record AritiesIn (ops : List Operator) (n : ℕ) (operators : List ℕ) : Type 0 where
  pub count : length ops ≡ n
  pub says : (o : ℕ) → o < n → arity_in operators o ≡ arity_at ops o

abbrev pub bits_at : List ℕ → ℕ → List ℕ
bits_at bytes at = drop at (bits_of bytes)

-- SYMBOLS

-- an answer as the paper's reader gives it
abbrev pub symbol : List ℕ → Answer Sd.Standing Refusal → Result (Read B.Symbol)
symbol bytes (Ok (Sd.Standing.Operator o next)) = accepted (record { value = B.Symbol.operator o; left = bits_at bytes next })
symbol bytes (Ok (Sd.Standing.Variable v next)) = accepted (record { value = B.Symbol.variable v; left = bits_at bytes next })
symbol bytes (Err k) = refused (number k)

-- an operator is one of n, a variable one of 16
abbrev pub NumberBelow : ℕ → Answer Sd.Standing Refusal → Type 0
NumberBelow n (Ok (Sd.Standing.Operator o next)) = o < n
NumberBelow n (Ok (Sd.Standing.Variable v next)) = v < 16
NumberBelow n (Err k) = Unit

pub record SymbolAt (bytes : List ℕ) (at n : ℕ) (r : Answer Sd.Standing Refusal) : Type 0 where
  pub is : (ops : List Operator) → length ops ≡ n → symbol bytes r ≡ read_symbol ops (bits_at bytes at)
  pub small : NumberBelow n r

-- a symbol that stands there and what follows it
abbrev pub standing : List ℕ → Sd.Standing → Read B.Symbol
standing bytes (Sd.Standing.Operator o next) = record { value = B.Symbol.operator o; left = bits_at bytes next }
standing bytes (Sd.Standing.Variable v next) = record { value = B.Symbol.variable v; left = bits_at bytes next }

-- a symbol whose number fits its field
abbrev pub NumberFits : B.Symbol → Type 0
NumberFits (B.Symbol.operator o) = o < 256
NumberFits (B.Symbol.variable v) = v < 16

abbrev pub VariableFits : Sd.Standing → Type 0
VariableFits (Sd.Standing.Operator o next) = Unit
VariableFits (Sd.Standing.Variable v next) = v < 16

-- r is the symbol that is written at a position, whichever it is
pub record StandingAt (bytes : List ℕ) (at : ℕ) (r : Sd.Standing) : Type 0 where
  pub is : (s : B.Symbol) (rest : List ℕ) → NumberFits s → bits_at bytes at ≡ write_symbol s ++ rest → standing bytes r ≡ record { value = s; left = rest }
  pub small : VariableFits r

-- ONE SYMBOL OF A SIDE

-- the check of a symbol: of a left side's or a right side's
abbrev pub check : Bool → List ℕ → B.Symbol → Reader (List ℕ)
check true = left_symbol
check false = right_symbol

-- the check by vs takes s, and m stands for the variables that it hands on: those of s and of vs
pub record Meets (left : Bool) (vs : List ℕ) (s : B.Symbol) (m : ℕ) : Type 0 where
  pub on : List ℕ
  pub is : (xs : List ℕ) → check left vs s xs ≡ return on xs
  pub same : (v : ℕ) → has v on ≡ has v (variable_of s ++ vs)
  pub masks : Masks m on

-- r answers for the variable v, behind which the position next is, where those of mask were met
abbrev pub MetAt : ℕ → ℕ → Bool → ℕ → Answer Taken Refusal → Type 0
MetAt mask v left next (Ok t) =
    (t.arity ≡ 0) × (t.next ≡ next) × ((vs : List ℕ) → Masks mask vs → Meets left vs (B.Symbol.variable v) t.met)
MetAt mask v left next (Err k) = (vs : List ℕ) → Masks mask vs → (xs : List ℕ) → check left vs (B.Symbol.variable v) xs ≡ refused (number k)

-- r answers for the symbol at a position, by the variables vs
abbrev pub StepIs : List Operator → Bool → List ℕ → List ℕ → ℕ → Answer Taken Refusal → Type 0
StepIs ops left vs bytes at (Ok t) =
    (s : B.Symbol) × (read_symbol ops (bits_at bytes at) ≡ return s (bits_at bytes t.next)) × (t.arity ≡ symbol_arity ops s) × Meets left vs s t.met
StepIs ops left vs bytes at (Err k) = (read_symbol ops >>= check left vs) (bits_at bytes at) ≡ refused (number k)

abbrev pub ArityFits : Answer Taken Refusal → Type 0
ArityFits (Ok t) = t.arity < 256
ArityFits (Err k) = Unit

pub record StepAt (bytes : List ℕ) (at n : ℕ) (operators : List ℕ) (mask : ℕ) (left : Bool) (r : Answer Taken Refusal) : Type 0 where
  pub is : (ops : List Operator) → AritiesIn ops n operators → (vs : List ℕ) → Masks mask vs → StepIs ops left vs bytes at r
  pub small : ArityFits r

-- SIDES

-- r answers for the rest of a side: due terms are to come in up to room symbols
abbrev pub RestIs : List Operator → Bool → List ℕ → ℕ → ℕ → List ℕ → ℕ → Answer SideEnd Refusal → Type 0
RestIs ops left vs due room bytes at (Ok s) =
    (ss : List B.Symbol) × (read_symbols ops (check left) room due vs (bits_at bytes at) ≡ return ss (bits_at bytes s.next))
    × Masks s.met (variables ss ++ vs)
RestIs ops left vs due room bytes at (Err k) = read_symbols ops (check left) room due vs (bits_at bytes at) ≡ refused (number k)

pub record RestAt (bytes : List ℕ) (at n : ℕ) (operators : List ℕ) (mask : ℕ) (left : Bool) (due room : ℕ) (r : Answer SideEnd Refusal) : Type 0 where
  pub is : (ops : List Operator) → AritiesIn ops n operators → (vs : List ℕ) → Masks mask vs → RestIs ops left vs due room bytes at r

-- a left side, and the mask of its variables
abbrev pub LeftIs : List Operator → List ℕ → ℕ → Answer SideEnd Refusal → Type 0
LeftIs ops bytes at (Ok s) =
    (side : B.Side) × (read_side ops left_root left_symbol (bits_at bytes at) ≡ return side (bits_at bytes s.next)) × Masks s.met (variables (preorder side))
LeftIs ops bytes at (Err k) = read_side ops left_root left_symbol (bits_at bytes at) ≡ refused (number k)

pub record LeftSideAt (bytes : List ℕ) (at n : ℕ) (operators : List ℕ) (r : Answer SideEnd Refusal) : Type 0 where
  pub is : (ops : List Operator) → AritiesIn ops n operators → LeftIs ops bytes at r

-- a right side whose variables are among vs
abbrev pub RightIs : List Operator → List ℕ → List ℕ → ℕ → Answer SideEnd Refusal → Type 0
RightIs ops vs bytes at (Ok s) =
    (side : B.Side) × (read_side ops (right_symbol vs) right_symbol (bits_at bytes at) ≡ return side (bits_at bytes s.next))
RightIs ops vs bytes at (Err k) = read_side ops (right_symbol vs) right_symbol (bits_at bytes at) ≡ refused (number k)

pub record RightSideAt (bytes : List ℕ) (at n : ℕ) (operators : List ℕ) (mask : ℕ) (r : Answer SideEnd Refusal) : Type 0 where
  pub is : (ops : List Operator) → AritiesIn ops n operators → (vs : List ℕ) → Masks mask vs → RightIs ops vs bytes at r

-- RULES

-- the rule at a position: its left side stands there, its right side at `right`, each as it is written
pub record RuleRead (ops : List Operator) (bytes : List ℕ) (at : ℕ) (e : RuleEnd) : Type 0 where
  pub rule : B.Rule
  pub is : read_rule ops (bits_at bytes at) ≡ return rule (bits_at bytes e.next)
  pub left_written : bits_at bytes at ≡ write_side rule.left ++ bits_at bytes e.right
  pub right_written : bits_at bytes e.right ≡ write_side rule.right ++ bits_at bytes e.next

abbrev pub RuleIs : List Operator → List ℕ → ℕ → Answer RuleEnd Refusal → Type 0
RuleIs ops bytes at (Ok e) = RuleRead ops bytes at e
RuleIs ops bytes at (Err k) = read_rule ops (bits_at bytes at) ≡ refused (number k)

pub record RuleAt (bytes : List ℕ) (at n : ℕ) (operators : List ℕ) (r : Answer RuleEnd Refusal) : Type 0 where
  pub is : (ops : List Operator) → AritiesIn ops n operators → RuleIs ops bytes at r
