-- `units::store` meets its contract. Assumes nothing.
use mathlib.Core.Path.{ap}
use Prim.Native.Nat.{ℕ}
use lib.ListN.{set}
use Rattle.units.proofs.store.Goals as goal

pub returns : goal.returns
returns c = let a = c.args in ap (λ (x : ℕ). set a.units.now a.u x) c.cell_of.ensures
