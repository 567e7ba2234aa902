-- Keys of left sides: sides that agree up to the naming of variables have the same key, and most others another. It has a side's bits, its root and the
-- symbol behind it, any variable alike. Assumes nothing.
use Rattle.std.specs.Prelude.{List, [], ◌∷◌, ℕ, ◌+◌, ◌*◌, length}
use Rattle.paper.specs.Book.{Symbol}
use Rattle.paper.specs.Writer.{concat, write_symbol}

-- the symbol behind the root, as a number; 0 if there is none
unfoldable pub second : List Symbol → ℕ
second [] = 0
second (Symbol.operator o ∷ ss) = o
second (Symbol.variable v ∷ ss) = 256

-- how many bits symbols take
unfoldable pub size : List Symbol → ℕ
unfolding concat write_symbol
size ss = length (concat write_symbol ss)

-- no left side begins with a variable
unfoldable pub key : List Symbol → ℕ
unfolding second size
key [] = 0
key (Symbol.variable v ∷ ss) = 0
key (Symbol.operator o ∷ ss) = (size (Symbol.operator o ∷ ss) * 256 + o) * 512 + second ss
