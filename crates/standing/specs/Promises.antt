-- What the functions ask and ensure, by the definitions of document 02, Change 5. Promises of functions inside. Assumes nothing.
use Rattle.std.specs.Prelude.{Option, Some, None, true, false, List, [], ◌∷◌, ◌++◌, ◌≡◌, ℕ, suc, ◌-◌, ◌*◌, ◌<◌, length, get_or}
use Rattle.paper.specs.Result.{if, return}
use Rattle.paper.specs.Bits.{field}
use Rattle.paper.specs.Tree.{preorder}
use Rattle.paper.specs.Strategy.{has}
use Rattle.paper.specs.Book.{Symbol}
use Rattle.paper.specs.Sound.{All}
use Rattle.paper.specs.Writer.{concat, write_symbol}
use Rattle.paper.specs.Naming.{place, meeting, same_symbol}
use Rattle.paper.specs.Dated.{standing}
use Rattle.tables.specs.Layout.{day_in}
use Rattle.tables.specs.Tables.{Sides}
use Rattle.side.specs.Promises.{bits_at, NumberFits}
use Rattle.standing.specs.Keys.{second, key}
use Rattle.standing.specs.Dates.{left_at, rules_of}
use Rattle.standing.specs.declared.Same.{Same}

-- NAMES

-- the number of a variable among those met, plus 1; 0 if it was not met
unfoldable pub named : ℕ → List ℕ → ℕ
unfolding has place
named v vs = if (has v vs) (suc (place v vs)) 0

-- an array of 16 holds the numbers of the variables vs, which are met ones
pub record Names (names vs : List ℕ) (met : ℕ) : Type 0 where
  pub each : (v : ℕ) → v < 16 → get_or names v 0 ≡ named v vs
  pub long : length names ≡ 16
  pub count : length vs ≡ met

-- ONE SYMBOL OF EACH SIDE

-- a symbol with its variable numbered, and the variables met behind it
abbrev pub numbered : List ℕ → Symbol → Symbol
numbered vs (Symbol.operator o) = Symbol.operator o
numbered vs (Symbol.variable v) = Symbol.variable (place v vs)

abbrev pub met_by : List ℕ → Symbol → List ℕ
met_by vs (Symbol.operator o) = vs
met_by vs (Symbol.variable v) = meeting v vs

-- s where vs were met, and u where ws were: numbered, they are the same, take as many bits, and the arrays hold who is met behind them; or they differ
abbrev pub SymbolsAre : List ℕ → Symbol → List ℕ → Symbol → List ℕ → List ℕ → Option Same → Type 0
SymbolsAre vs s ws u names others (Some r) =
    (same_symbol (numbered vs s) (numbered ws u) ≡ true) × (length (write_symbol s) ≡ r.width) × (length (write_symbol u) ≡ r.width)
    × Names names (met_by vs s) r.met × Names others (met_by ws u) r.met
SymbolsAre vs s ws u names others None = same_symbol (numbered vs s) (numbered ws u) ≡ false

-- r answers for two variables
pub record NamesCompared (v w : ℕ) (names others : List ℕ) (met : ℕ) (names' others' : List ℕ) (r : Option Same) : Type 0 where
  pub is : (vs ws : List ℕ) → Names names vs met → Names others ws met → SymbolsAre vs (Symbol.variable v) ws (Symbol.variable w) names' others' r

-- r answers for the symbols at two positions
pub record SymbolsCompared (bytes : List ℕ) (at other : ℕ) (names others : List ℕ) (met : ℕ) (names' others' : List ℕ) (r : Option Same) : Type 0 where
  pub is : (s u : Symbol) (ys zs : List ℕ) → NumberFits s → NumberFits u → bits_at bytes at ≡ write_symbol s ++ ys → bits_at bytes other ≡ write_symbol u ++ zs →
      (vs ws : List ℕ) → Names names vs met → Names others ws met → SymbolsAre vs s ws u names' others' r

-- KEYS

-- the symbols ss stand from a position up to another, where the book goes on
pub record Spans (bytes : List ℕ) (at end : ℕ) (ss : List Symbol) : Type 0 where
  pub is : bits_at bytes at ≡ concat write_symbol ss ++ bits_at bytes end
  pub goes_on : end < 8 * length bytes
  pub fits : All NumberFits ss

pub record KeyOf (bytes : List ℕ) (left end r : ℕ) : Type 0 where
  pub is : (s : Symbol) (ss : List Symbol) → Spans bytes left end (s ∷ ss) → r ≡ key (s ∷ ss)

-- the second symbol's number
pub record SecondOf (bytes : List ℕ) (at end r : ℕ) : Type 0 where
  pub is : (ss : List Symbol) → Spans bytes at end ss → r ≡ second ss
  pub small : r < 512

-- the keys of the rules
pub record KeysIn (bytes keys : List ℕ) : Type 0 where
  pub each : (i : ℕ) → i < length (rules_of bytes) → get_or keys i 0 ≡ key (preorder (left_at (rules_of bytes) i))
  pub long : length keys ≡ 256

-- DAYS

-- r is the day before a left side
pub record DayBefore (bytes : List ℕ) (left r : ℕ) : Type 0 where
  pub is : (d : ℕ) (xs : List ℕ) → field 16 (bits_at bytes (left - 16)) ≡ return d xs → r ≡ d
  pub small : r < 65536

-- the table has the rules that stand on the day, m of them; the day that it names stays
pub record Kept (bytes : List ℕ) (day : ℕ) (rules rules' : List ℕ) (m : ℕ) : Type 0 where
  pub sides : Sides bytes (standing day [] (rules_of bytes)) rules'
  pub count : length (standing day [] (rules_of bytes)) ≡ m
  pub same_day : day_in rules' ≡ day_in rules
