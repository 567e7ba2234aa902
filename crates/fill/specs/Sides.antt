-- A side's symbols, decoded into an array. Assumes nothing.
use Rattle.std.specs.Prelude.{List, map}
use Rattle.paper.specs.Book.{Symbol}
use Rattle.fill.specs.declared.Code.{Code}

abbrev pub code : Symbol → Code
code (Symbol.operator o) = Code.Operator o
code (Symbol.variable v) = Code.Variable v

abbrev pub codes : List Symbol → List Code
codes ss = map code ss

-- the symbol of a code
abbrev pub symbol : Code → Symbol
symbol (Code.Operator o) = Symbol.operator o
symbol (Code.Variable v) = Symbol.variable v
