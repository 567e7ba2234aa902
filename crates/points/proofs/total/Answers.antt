-- `points::total` meets its contract. Assumes nothing.
use mathlib.Core.Logic.{inl, inr}
use mathlib.Core.Path.{sym, ◌∙◌}
use Prim.Native.Nat.{◌+◌}
use native.Mathlib.Omega.{arith}
use Rattle.paper.proofs.Tests.{ltb_cases}
use Rattle.flat.specs.Parts.{highest}
use Rattle.flat.proofs.Parts.{kept_low, kept_high}
use Rattle.points.proofs.total.Goals as goal

pub returns : goal.returns
returns c =
    let n = c.args.a + c.args.b in
    elim (ltb_cases highest n) [
      | inl p ↦ (let l = p.1 in c.saturating_add.ensures ∙ omega (arith, l) ∙ sym (kept_high n (omega (arith, l))))
      | inr p ↦ (let l = p.1 in c.saturating_add.ensures ∙ omega (arith, l) ∙ sym (kept_low n (omega (arith, l))))
    ]
