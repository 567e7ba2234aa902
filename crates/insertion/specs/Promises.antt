-- What the functions that build a net ask and ensure. Assumes nothing.
use Rattle.std.specs.Prelude.{Bool, true, List, ◌∷◌, ◌≡◌, ℕ, suc, ◌≤◌, ◌<◌, eqb, length}
use Rattle.paper.specs.Result.{if}
use Rattle.paper.specs.Tree.{preorder}
use Rattle.paper.specs.Book.{Symbol, Side, Rule}
use Rattle.paper.specs.Sound.{All}
use Rattle.tables.specs.Tables.{rule_at, book_of}
use Rattle.rule.specs.Packed.{arity_of_symbol, Stands}
use Rattle.rule.specs.Promises.{LeftAt}
use Rattle.net.specs.Layout.{same_in, left_of, way_in}
use Rattle.net.specs.Net.{part, key, path, Same, Net, book_by, NetOf}
use Rattle.net.specs.Promises.{Kept, CellPut, WayPut}
use Rattle.insertion.specs.declared.Symbol as D
use Rattle.insertion.specs.declared.Place as Pl

-- SYMBOLS

-- how many bits a symbol takes
abbrev pub width : Symbol → ℕ
width (Symbol.operator o) = 9
width (Symbol.variable v) = 5

-- the symbol s is read
pub record IsRead (operators : List ℕ) (s : Symbol) (r : D.Symbol) : Type 0 where
  pub key_is : r.key ≡ key s
  pub width_is : r.width ≡ width s
  pub arity_is : r.arity ≡ arity_of_symbol operators s

-- the symbol that stands at a position is read, whichever it is
pub record SymbolRead (bytes : List ℕ) (at : ℕ) (operators : List ℕ) (r : D.Symbol) : Type 0 where
  pub is : (due room : ℕ) (s : Symbol) (ss : List Symbol) → Stands bytes at operators due room (s ∷ ss) → IsRead operators s r
  pub narrow : r.width ≤ 9
  pub few : r.arity < 256

-- LEFT SIDES

-- no operator has the variables' key
abbrev pub Keyed : Symbol → Type 0
Keyed (Symbol.operator o) = o < part
Keyed (Symbol.variable v) = Unit {0}

-- a left side at a position, whose symbols are told by their keys but for the names of variables
pub record KeyedAt (bytes operators : List ℕ) (at : ℕ) (side : Side) : Type 0 where
  pub left : LeftAt bytes operators at side
  pub keyed : All Keyed (preorder side)

-- the net of the first m of the rules rs, and where their left sides stand and that of rule m, which is the next
pub record Ready (bytes operators net : List ℕ) (rs : List Rule) (m : ℕ) : Type 0 where
  pub is : Net net (path rs) m
  pub few : m < 255
  pub lefts : (i : ℕ) → i ≤ m → KeyedAt bytes operators (left_of net i) (rule_at rs i).left

-- PLACES

-- the number of the rule by which the node at depth d of rule i's path goes on with the key k, where its own is `own`; 0 is none
abbrev pub branch : List ℕ → ℕ → ℕ → ℕ → ℕ → ℕ
branch net i d own k = if (eqb own k) (suc i) (way_in net i d k)

-- there is a choice between two keys if one is the variables'
unfoldable pub chosen : ℕ → ℕ → Bool
chosen a b = if (eqb a part) true (eqb b part)

-- rules with one path are told in their order, and the first m alone
abbrev pub Told : List ℕ → ℕ → Type 0
Told net m = (i s : ℕ) → i < 256 → same_in net i ≡ suc s → (i < s) × (s < m)

-- rule m is told behind the last one with the path of rule i
pub record Appended (net : List ℕ) (i m : ℕ) (net' : List ℕ) : Type 0 where
  pub after : ℕ
  pub same : Same net i after
  pub last : same_in net after ≡ 0
  pub put : CellPut net 3 after (suc m) net'

-- rule m put in its place makes the net one of the first m + 1 rules
abbrev pub PlaceIs : List ℕ → (ℕ → List ℕ) → ℕ → Pl.Place → Type 0
PlaceIs net P m (Pl.Place.Behind i) = (i < m) × ((net' : List ℕ) → Appended net i m net' → Net net' P (suc m))
PlaceIs net P m (Pl.Place.Off p) =
    (p.rule < m) × (p.depth < 255) × ((net' : List ℕ) → WayPut net p.rule p.depth p.key m p.choice net' → Net net' P (suc m))

-- the net has become one of the first m + 1 rules; where sides stand, and the day, stay
pub record Inserted (net : List ℕ) (P : ℕ → List ℕ) (m : ℕ) (net' : List ℕ) : Type 0 where
  pub is : Net net' P (suc m)
  pub long : length net' ≡ length net
  pub sides : Kept 9 15 net net'

-- THE BOOK

-- the area has become the net of a book's rules
pub record Built (bytes operators rules net net' : List ℕ) : Type 0 where
  pub of_book : NetOf bytes operators net'
  pub same_book : book_by bytes net' ≡ book_of bytes rules
  pub long : length net' ≡ length net
