-- `overlap::seek` meets its contract: where the links lead from the slot at hand they lead from the place. Assumes nothing.
use Prim.Native.Nat.{◌-◌, ◌<◌, ℕ}
use Rattle.overlap.specs.Trie.{Leads}
use Rattle.std.specs.Prelude.{Result}
use Rattle.overlap.proofs.seek.Given as goal

abbrev pub invariant-loop-slot : goal.invariant-loop-slot
invariant-loop-slot l =
    (l.slot < 49152) × ((r : Result ℕ ℕ) → Leads l.links l.codes l.o l.slot l.turns r → Leads l.links l.codes l.o l.place l.o r)

abbrev pub decreases-loop-slot : goal.decreases-loop-slot
decreases-loop-slot l = 49152 - l.slot
