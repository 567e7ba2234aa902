-- Answers of `seek`. Assumes nothing.
use mathlib.Core.List.{List}
use mathlib.Core.Path.{◌≡◌, sym}
use Prim.Native.Nat.{ℕ, ◌+◌, ◌*◌, ◌<◌}
use native.Mathlib.Omega.{arith}
use lib.ListN.{get_or}
use Rattle.overlap.specs.Trie.{Leads}
use Rattle.overlap.specs.Promises.{Seekable}
use Rattle.overlap.proofs.seek.Goals as goal

-- where a link leads
down : {links codes : List ℕ} (slot y : ℕ) → Seekable links codes → y ≡ get_or links slot 0 → (get_or links slot 0 ≡ 0 → ⊥) → (0 < y) × (y < 16384) × (slot < 16384 + 2 * y)
down {links} slot y s e n =
    let h : 0 < get_or links slot 0 = omega arith in
    let (a, b) = s.later slot h in
    (omega arith, omega arith, omega arith)

pub loop-slot-init : goal.loop-slot-init
loop-slot-init c = (omega arith, λ r l. rw c.from-turns.ensures at l)

pub bounds-codes-y : goal.bounds-codes-y
bounds-codes-y c =
    (down c.loop-slot.slot c.from-y.result c.requires.0 c.from-y.ensures c.loop-slot-test.true).1

pub returns-then-codes-y : goal.returns-then-codes-y
returns-then-codes-y c =
    record {
      leads = c.loop-slot.invariant.1 _
          (Leads.node c.from-y.result (sym c.from-y.ensures) (down c.loop-slot.slot c.from-y.result c.requires.0 c.from-y.ensures c.loop-slot-test.true).0
          c.if-codes-y.true);
      inside = tt;
    }

pub loop-slot-smaller : goal.loop-slot-smaller
loop-slot-smaller c =
    let d = down c.loop-slot.slot c.from-y.result c.requires.0 c.from-y.ensures c.loop-slot-test.true in
    omega arith

pub loop-slot-preserved : goal.loop-slot-preserved
loop-slot-preserved c =
    let d = down c.loop-slot.slot c.from-y.result c.requires.0 c.from-y.ensures c.loop-slot-test.true in
    (omega arith, λ r k. c.loop-slot.invariant.1 r (Leads.on c.from-y.result (sym c.from-y.ensures) d.0 c.if-codes-y.false k))

pub returns : goal.returns
returns c = record { leads = c.loop-slot.invariant.1 _ (Leads.free c.loop-slot-test.false); inside = c.loop-slot.invariant.0 }
