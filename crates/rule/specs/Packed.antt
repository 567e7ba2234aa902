-- Sides of rules as they stand in the book's bits, and a binding kept as an array. Assumes nothing.
use Rattle.std.specs.Prelude.{List, ◌≡◌, ℕ, ◌+◌, ◌-◌, ◌*◌, ◌≤◌, ◌<◌, length, get_or, drop}
use Rattle.paper.specs.Tree.{preorder}
use Rattle.paper.specs.Book.{Symbol, Side}
use Rattle.paper.specs.Sound.{All}
use Rattle.paper.specs.Tree.{Complete}
use Rattle.flat.specs.Symbols.{segment, Binding, skip}
use Rattle.side.specs.Promises.{NumberFits}
use Rattle.tables.specs.Layout.{arity_in}
use Rattle.tables.specs.Tables.{Stand}

-- SIDES

-- a variable has no arguments
abbrev pub arity_of_symbol : List ℕ → Symbol → ℕ
arity_of_symbol operators (Symbol.operator o) = arity_in operators o
arity_of_symbol operators (Symbol.variable v) = 0

-- the symbols ss stand at a position of the book's bits: `due` terms, in up to room symbols
pub record Stands (bytes : List ℕ) (at : ℕ) (operators : List ℕ) (due room : ℕ) (ss : List Symbol) : Type 0 where
  pub stand : Stand bytes at ss
  pub held : All NumberFits ss
  pub complete : Complete (arity_of_symbol operators) due ss
  pub short : length ss ≤ room

abbrev pub SideAt : List ℕ → ℕ → List ℕ → Side → Type 0
SideAt bytes at operators side = Stands bytes at operators 1 64 (preorder side)

-- one symbol read: P holds of the symbols that stand at a position and of those behind the first, which has this arity
abbrev pub Goes : List ℕ → ℕ → List ℕ → (List Symbol → List Symbol → Type 0) → ℕ → ℕ → Type 0
Goes bytes at operators P arity next =
    (due room : ℕ) (ss : List Symbol) → 0 < due → Stands bytes at operators due room ss →
    (ss' : List Symbol) × ((due' room' : ℕ) → due' ≡ due - 1 + arity → room' ≡ room - 1 → Stands bytes next operators due' room' ss') × P ss ss'

-- P holds of the symbols that stand at a position
abbrev pub AllAt : List ℕ → ℕ → List ℕ → (List Symbol → Type 0) → Type 0
AllAt bytes at operators P = (due room : ℕ) (ss : List Symbol) → 0 < due → Stands bytes at operators due room ss → P ss

-- BINDINGS

-- the binding that an array holds: variable v's start at 2 * v, its size behind it
abbrev pub binding : List ℕ → Binding
binding bound v = segment (get_or bound (2 * v) 0) (get_or bound (2 * v + 1) 0)

-- each variable is bound within the first len symbols
abbrev pub BindsWithin : Binding → ℕ → Type 0
BindsWithin b len = (v : ℕ) → (b v).start + (b v).size ≤ len

-- a variable of a side is bound to the term of the symbols xs that begins where its segment starts
abbrev pub BoundTerm : (ℕ → ℕ) → List ℕ → Binding → Symbol → Type 0
BoundTerm arity xs b (Symbol.operator o) = Unit {0}
BoundTerm arity xs b (Symbol.variable v) = ((b v).start < length xs) × ((b v).size ≡ skip arity 1 (drop (b v).start xs))
