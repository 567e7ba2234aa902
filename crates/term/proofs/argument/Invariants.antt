-- `term::argument` meets its contract: what is left to pass leads to where all leads. Assumes nothing.
use mathlib.Core.Path.{◌≡◌}
use Prim.Native.Nat.{◌+◌, ◌-◌}
use Rattle.flat.specs.Sizes.{hop}
use Rattle.symbol.specs.Record.{sizes}
use Rattle.term.specs.Present.{Hops}
use Rattle.term.proofs.argument.Given as goal

abbrev pub invariant-loop : goal.invariant-loop
invariant-loop l = (hop (sizes l.symbols) l.i (l.at + 1) ≡ hop (sizes l.symbols) (l.i - l.counter) l.p) × Hops (sizes l.symbols) (l.i - l.counter) l.p
