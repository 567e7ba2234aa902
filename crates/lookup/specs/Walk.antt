-- The keys of a rule's path against the present term: an operator's key takes its symbol, a variable's the whole part that begins there. Assumes nothing.
use Rattle.std.specs.Prelude.{List, [], ◌∷◌, ◌⊎◌, ◌≡◌, ℕ, ◌+◌, ◌<◌, eqb, get_or}
use Rattle.paper.specs.Result.{if}
use Rattle.symbol.specs.Record.{operator, size}
use Rattle.net.specs.Net.{part}

-- how many bits a key's symbol has in the book
unfoldable pub wide : ℕ → ℕ
wide k = if (eqb k part) 5 9

unfoldable pub width : List ℕ → ℕ
unfolding wide
width [] = 0
width (k ∷ ks) = wide k + width ks

-- the symbol at an offset, and the size of the part that begins there
abbrev pub symbol_in : List ℕ → ℕ → ℕ
symbol_in symbols q = operator (get_or symbols q 0)

abbrev pub size_in : List ℕ → ℕ → ℕ
size_in symbols q = size (get_or symbols q 0)

-- how many symbols of the term a key takes at an offset
unfoldable pub takes : List ℕ → ℕ → ℕ → ℕ
takes symbols k q = if (eqb k part) (size_in symbols q) 1

-- the offset behind those that some keys take from offset q on
unfoldable pub behind : List ℕ → List ℕ → ℕ → ℕ
unfolding takes
behind symbols [] q = q
behind symbols (k ∷ ks) q = behind symbols ks (q + takes symbols k q)

-- a key agrees with the symbol at an offset
abbrev pub Bears : List ℕ → ℕ → ℕ → Type 0
Bears symbols k q = (k ≡ part) ⊎ (k ≡ symbol_in symbols q)

-- each of the keys agrees with its symbol, from offset q on, before offset e
abbrev pub Agree : List ℕ → ℕ → List ℕ → ℕ → Type 0
Agree symbols e [] q = Unit {0}
Agree symbols e (k ∷ ks) q = (q < e) × Bears symbols k q × Agree symbols e ks (q + takes symbols k q)
