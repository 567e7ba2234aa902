-- The units that hold the blocks, and a list without the first of a unit. Assumes nothing.
use mathlib.Core.List.{List, [], ◌∷◌, ◌++◌}
use mathlib.Core.Logic.{inl, inr, ◌≢◌}
use mathlib.Core.Path.{◌≡◌, refl, sym, ◌∙◌, ap}
use Prim.Native.Nat.{ℕ, ◌≤◌}
use native.Mathlib.Omega.{arith}
use Rattle.paper.specs.Machine.{take_out}
use Rattle.paper.specs.Idle.{times}
use Rattle.paper.proofs.Numbers.{if_same, other_is}
use Rattle.paper.proofs.Queue.{times_cons}
use Rattle.paper.proofs.Stack.{owners, Free}
use Rattle.paper.proofs.Tests.{eqb_cases}
use Rattle.paper.proofs.View.{Block, sum}

-- 1 for a block of the unit u
abbrev pub of_unit : ℕ → Block → ℕ
of_unit u b = if_same u b.label.owner 1

pub owners_times : (u : ℕ) (bs : List Block) → times u (owners bs) ≡ sum (of_unit u) bs
unfolding times sum
owners_times u [] = refl
owners_times u (b ∷ bs) = omega (arith, times_cons u b.label.owner (owners bs), owners_times u bs)

-- TAKING OUT

take_same : (u v : ℕ) (vs : List ℕ) → u ≡ v → take_out u (v ∷ vs) ≡ vs
unfolding take_out
take_same u v vs e = elim (eqb_cases u v) [ inl p ↦ rw (p.0, take_out) | inr p ↦ absurd (p.1 e) ]

take_other : (u v : ℕ) (vs : List ℕ) → u ≢ v → take_out u (v ∷ vs) ≡ v ∷ take_out u vs
unfolding take_out
take_other u v vs ne = elim (eqb_cases u v) [ inl p ↦ absurd (ne p.1) | inr p ↦ rw (p.0, take_out) ]

-- the first stands in the first list
pub take_append : (u : ℕ) (vs ws : List ℕ) → 1 ≤ times u vs → take_out u (vs ++ ws) ≡ take_out u vs ++ ws
unfolding times
take_append u [] ws h = absurd (omega arith)
take_append u (v ∷ vs) ws h =
    elim (eqb_cases u v) [
      | inl p ↦ take_same u v (vs ++ ws) p.1 ∙ ap (λ (z : List ℕ). z ++ ws) (sym (take_same u v vs p.1))
      | inr p ↦
          take_other u v (vs ++ ws) p.1
          ∙ ap (λ (z : List ℕ). v ∷ z) (take_append u vs ws (omega (arith, h, times_cons u v vs, other_is u v 1 p.1)))
          ∙ ap (λ (z : List ℕ). z ++ ws) (sym (take_other u v vs p.1))
    ]

-- the uppermost block of the unit u goes
pub owners_less : (u : ℕ) (a : List Block) (x : Block) (b : List Block) → u ≡ x.label.owner → Free u a → take_out u (owners (a ++ (x ∷ b))) ≡ owners (a ++ b)
owners_less u [] x b e f = take_same u x.label.owner (owners b) e
owners_less u (c ∷ a) x b e f =
    take_other u c.label.owner (owners (a ++ (x ∷ b))) f.0 ∙ ap (λ (z : List ℕ). c.label.owner ∷ z) (owners_less u a x b e f.1)
