-- What filling a right side asks and ensures, by the definitions on lists of symbols. Assumes nothing.
use Rattle.std.specs.Prelude.{Bool, true, Option, Some, None, List, [], ◌∷◌, ◌++◌, ◌≡◌, ℕ, ◌+◌, ◌-◌, ◌^◌, ◌≤◌, ◌<◌, length, take, drop}
use Rattle.paper.specs.Tree.{preorder}
use Rattle.paper.specs.Book.{Symbol, Side}
use Rattle.paper.specs.Sound.{All}
use Rattle.flat.specs.Rules.{spells}
use Rattle.flat.specs.Symbols as flat
use Rattle.flat.specs.Symbols.{Binding}
use Rattle.flat.specs.Sizes as sizes
use Rattle.symbol.specs.Record as R
use Rattle.side.specs.Promises.{NumberFits}
use Rattle.tables.specs.Layout.{arity_in}
use Rattle.rule.specs.Packed.{arity_of_symbol, SideAt, Goes, BoundTerm}
use Rattle.fill.specs.Sides.{codes}
use Rattle.fill.specs.declared.Code.{Code}
use Rattle.fill.specs.declared.Coded as C

-- a right side stands at a position, and each of its variables is bound to a term of the symbols xs
pub record Fillable (bytes : List ℕ) (at : ℕ) (operators xs : List ℕ) (b : Binding) : Type 0 where
  pub short : length bytes ≤ 2 ^ 60
  pub side : Side
  pub stands : SideAt bytes at operators side
  pub bound : All (BoundTerm (arity_in operators) xs b) (preorder side)

-- DECODING

-- the symbol at a position, decoded
pub record SymbolDecoded (bytes : List ℕ) (at : ℕ) (operators : List ℕ) (t : C.Coded) : Type 0 where
  pub arity : t.arity < 256
  pub goes : Goes bytes at operators (λ ss ss'. codes ss ≡ t.code ∷ codes ss') t.arity t.next

-- the n symbols of the side at a position, decoded
pub record Decoded (bytes : List ℕ) (at : ℕ) (operators : List ℕ) (n : ℕ) (codes_read : List Code) : Type 0 where
  pub is : (side : Side) → SideAt bytes at operators side → take n codes_read ≡ codes (preorder side)
  pub most : n ≤ 64
  pub long : length codes_read ≡ 64

-- FILLING

-- the last k symbols of scratch
abbrev pub last_symbols : ℕ → List ℕ → List ℕ
last_symbols k scratch = drop (1024 - k) scratch

-- they have true sizes
pub record SizedEnd (arity : ℕ → ℕ) (k : ℕ) (scratch : List ℕ) : Type 0 where
  pub true_sizes : R.sizes (last_symbols k scratch) ≡ sizes.sizes arity (R.operators (last_symbols k scratch))
  pub most : k ≤ 1024
  pub long : length scratch ≡ 1024

-- the symbol s can be filled in front of them: they begin with the terms that are its arguments
pub record Ready (operators xs : List ℕ) (b : Binding) (s : Symbol) (k : ℕ) (scratch : List ℕ) : Type 0 where
  pub fits : NumberFits s
  pub bound : BoundTerm (arity_in operators) xs b s
  pub sized : SizedEnd (arity_in operators) k scratch
  pub others : ℕ
  pub behind : spells (arity_in operators) (arity_of_symbol operators s + others) (R.operators (last_symbols k scratch)) ≡ true

-- the records zs are the symbols ss filled: their operators from xs, their marks from ms
pub record Filled (ss : List Symbol) (b : Binding) (xs : List ℕ) (ms : List Bool) (zs : List ℕ) : Type 0 where
  pub operators_are : R.operators zs ≡ flat.fill ss b xs
  pub marks_are : R.marks zs ≡ flat.fill_marks ss b ms

abbrev pub SymbolIs : List ℕ → List ℕ → List Bool → Binding → Symbol → ℕ → ℕ → List ℕ → List ℕ → Option ℕ → Type 0
SymbolIs operators xs ms b s limit k scratch scratch' (Some n) =
    (zs : List ℕ) × (last_symbols n scratch' ≡ zs ++ last_symbols k scratch) × Filled (s ∷ []) b xs ms zs × SizedEnd (arity_in operators) n scratch' × (n ≤ limit)
SymbolIs operators xs ms b s limit k scratch scratch' None = limit < length (flat.fill (s ∷ []) b xs) + k

-- the symbol s is filled in front of the last k symbols; or they would be more than the limit
pub record SymbolFilled (operators xs : List ℕ) (ms : List Bool) (b : Binding) (s : Symbol) (limit k : ℕ) (scratch scratch' : List ℕ) (r : Option ℕ) : Type 0 where
  pub is : SymbolIs operators xs ms b s limit k scratch scratch' r
  pub long : length scratch' ≡ 1024

-- the filled side is the last k symbols of scratch, with their sizes; or has more symbols than the limit
abbrev pub SideIs : List ℕ → ℕ → List ℕ → List ℕ → List Bool → Binding → ℕ → List ℕ → Option ℕ → Type 0
SideIs bytes at operators xs ms b limit scratch (Some k) =
    ((side : Side) → SideAt bytes at operators side → Filled (preorder side) b xs ms (drop (1024 - k) scratch))
    × (R.sizes (drop (1024 - k) scratch) ≡ sizes.sizes (arity_in operators) (R.operators (drop (1024 - k) scratch))) × (k ≤ limit)
SideIs bytes at operators xs ms b limit scratch None = (side : Side) → SideAt bytes at operators side → limit < length (flat.fill (preorder side) b xs)

pub record SideFilled (bytes : List ℕ) (at : ℕ) (operators xs : List ℕ) (ms : List Bool) (b : Binding) (limit : ℕ) (scratch : List ℕ) (r : Option ℕ) : Type 0 where
  pub is : SideIs bytes at operators xs ms b limit scratch r
  pub long : length scratch ≡ 1024
