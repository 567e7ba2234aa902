-- Laws of the units as they are kept, for callers: unit by unit, a change at one of them, changes in a row. Assumes nothing.
use mathlib.Core.Path.{◌≡◌, refl, sym, ap, ◌∙◌}
use mathlib.Core.Bool.{Bool, true, false}
use mathlib.Core.List.{List, [], ◌∷◌}
use mathlib.Core.Logic.{◌⊎◌, inl, inr}
use Prim.Native.Nat.{ℕ, zero, suc, ◌+◌, ◌-◌, ◌≤◌, ◌<◌}
use native.Mathlib.Omega.{arith}
use native.Mathlib.Decide.{ℕ_discrete}
use lib.Dec.{ltb}
use lib.ListN.{length, get_or, set, length-set}
use lib.Seq.{ext_get_or, get_or-set_same, get_or-set_other, set-set, set_comm, set_out}
use borrow.Author.Tests.{ltb-true, ltb-false}
use Rattle.paper.specs.Sound.{All}
use Rattle.flat.specs.Machine.{FlatUnit, unit, asleep}
use Rattle.units.specs.Stacks.{base, Offsets, rank_in, busy_in, height_in, unit_of, units_from, units_of, Store, units_in, unit_in}
use Rattle.units.specs.Promises.{StacksFit, at, Changed, Shiftable}
use Rattle.units.proofs.Stacks.{length_stack, shift_offsets}

pub length_units : (w c : List ℕ) (u m : ℕ) → length (units_from w c u m) ≡ m
unfolding units_from
length_units w c u zero = refl
length_units w c u (suc m) = ap suc (length_units w c (suc u) m)

-- the units one by one
unit_from : (w c : List ℕ) (u m j : ℕ) → j < m → unit (units_from w c u m) j ≡ unit_of w c (u + j)
unfolding units_from
unit_from w c u zero j l = absurd (omega arith)
unit_from w c u (suc m) zero l = let e : u ≡ u + 0 = omega arith in ap (λ (v : ℕ). unit_of w c v) e
unit_from w c u (suc m) (suc j) l =
    let e : suc u + j ≡ u + suc j = omega arith in
    unit_from w c (suc u) m j (omega arith) ∙ ap (λ (v : ℕ). unit_of w c v) e

pub unit_at : (w c : List ℕ) (n u : ℕ) → u < n → unit (units_of w c n) u ≡ unit_of w c u
unit_at w c n u l = let e : 0 + u ≡ u = omega arith in unit_from w c 0 n u l ∙ ap (λ (v : ℕ). unit_of w c v) e

pub height_at : (w c : List ℕ) (n u : ℕ) → u < n → length (unit (units_of w c n) u).stack ≡ height_in c u
height_at w c n u l = ap (λ (x : FlatUnit). length x.stack) (unit_at w c n u l) ∙ length_stack w (base u) (height_in c u)

pub units_are : (w c : List ℕ) (n : ℕ) (us : List FlatUnit) → length us ≡ n → ((u : ℕ) → u < n → unit_of w c u ≡ unit us u) → units_of w c n ≡ us
units_are w c n us e f =
    ext_get_or (asleep 1) (units_of w c n) us (length_units w c 0 n ∙ sym e)
    (λ u l. let l' : u < n = omega (arith, length_units w c 0 n) in unit_at w c n u l' ∙ f u l')

-- one unit changes, the others are as they were
pub units_changed : {s s' : Store} {u : ℕ} {g : FlatUnit → FlatUnit} → StacksFit s' → ((v : ℕ) → (v ≡ u → ⊥) → unit_in s' v ≡ unit_in s v) →
    unit_in s' u ≡ g (unit_in s u) → Changed u g s s'
units_changed {s} {s'} {u} {g} q f e = record { fit = q; units = is }
  where
    is : (n : ℕ) → units_in s' n ≡ at u g (units_in s n)
    is n =
        let w = s.work in
        let c = s.cells in
        let us = units_of w c n in
        units_are s'.work s'.cells n (at u g us) (length-set us u (g (unit us u)) ∙ length_units w c 0 n)
        (λ v l. elim (ℕ_discrete v u) [
          | yes d ↦
              ap (λ (i : ℕ). unit_in s' i) d ∙ e ∙ ap g (sym (unit_at w c n u (omega arith)))
              ∙ sym (get_or-set_same us u (g (unit us u)) (asleep 1) (omega (arith, length_units w c 0 n)))
              ∙ ap (λ (i : ℕ). unit (at u g us) i) (sym d)
          | no d ↦ f v d ∙ sym (unit_at w c n v l) ∙ sym (get_or-set_other us u v (g (unit us u)) (asleep 1) d)
        ])

-- nothing has changed
pub changed_none : {s : Store} {u : ℕ} {g : FlatUnit → FlatUnit} → StacksFit s → g (unit_in s u) ≡ unit_in s u → Changed u g s s
changed_none q e = units_changed q (λ v n. refl) (sym e)

-- what is done to unit u, if there is a unit u; u is below a number of units or not
module _ (u : ℕ) (us : List FlatUnit) where
  below : (u < length us) ⊎ (length us ≤ u)
  below = go (ltb u (length us)) refl
    where
      go : (b : Bool) → ltb u (length us) ≡ b → (u < length us) ⊎ (length us ≤ u)
      go true e = inl (ltb-true u (length us) e)
      go false e = inr (ltb-false u (length us) e)

  pub at_same : (g : FlatUnit → FlatUnit) → u < length us → unit (at u g us) u ≡ g (unit us u)
  at_same g l = get_or-set_same us u (g (unit us u)) (asleep 1) l

  pub at_else : (g : FlatUnit → FlatUnit) (v : ℕ) → (v ≡ u → ⊥) → unit (at u g us) v ≡ unit us v
  at_else g v n = get_or-set_other us u v (g (unit us u)) (asleep 1) n

  pub at_is : (g : FlatUnit → FlatUnit) (x : FlatUnit) → unit us u ≡ x → at u g us ≡ set us u (g x)
  at_is g x e = ap (λ (y : FlatUnit). set us u (g y)) e

  at_out : (g : FlatUnit → FlatUnit) → length us ≤ u → at u g us ≡ us
  at_out g l = set_out us u (g (unit us u)) l

  -- only unit u itself matters
  pub at_as : (f g : FlatUnit → FlatUnit) → (u < length us → f (unit us u) ≡ g (unit us u)) → at u f us ≡ at u g us
  at_as f g e = elim below [ inl l ↦ ap (λ (x : FlatUnit). set us u x) (e l) | inr l ↦ at_out f l ∙ sym (at_out g l) ]

-- changes in a row, at one unit and at two
pub at_at : (u : ℕ) (f g : FlatUnit → FlatUnit) (us : List FlatUnit) → at u g (at u f us) ≡ at u (λ (x : FlatUnit). g (f x)) us
at_at u f g us =
    at_as u (at u f us) g (λ (x : FlatUnit). g (f (unit us u))) (λ l. ap g (at_same u us f (omega (arith, length-set us u (f (unit us u))))))
    ∙ set-set us u (f (unit us u)) (g (f (unit us u)))

pub at_comm : (u v : ℕ) (f g : FlatUnit → FlatUnit) (us : List FlatUnit) → (u ≡ v → ⊥) → at v g (at u f us) ≡ at u f (at v g us)
at_comm u v f g us n =
    rw (at_else u us f v (λ e. n (sym e)), at_else v us g u n) (set_comm us u v (f (unit us u)) (g (unit us v)) n)

pub changed_then : {s s₁ s₂ : Store} {u : ℕ} {f g : FlatUnit → FlatUnit} → Changed u f s s₁ → Changed u g s₁ s₂ →
    Changed u (λ (x : FlatUnit). g (f x)) s s₂
changed_then {s} {u = u} {f = f} {g = g} c d = record {
  fit = d.fit;
  units = λ n. d.units n ∙ ap (at u g) (c.units n) ∙ at_at u f g (units_in s n);
}

-- the same change said in another way
pub changed_as : {s s' : Store} {u : ℕ} {f g : FlatUnit → FlatUnit} → Changed u f s s' → f (unit_in s u) ≡ g (unit_in s u) → Changed u g s s'
changed_as {s} {u = u} {f = f} {g = g} c e = record {
  fit = c.fit;
  units = λ n. c.units n
      ∙ at_as u (units_in s n) f g
      (λ l. let q = unit_at s.work s.cells n u (omega (arith, length_units s.work s.cells 0 n)) in ap f q ∙ e ∙ ap g (sym q));
}

-- unit u and the others after a change at unit u, and the heights of their stacks
pub height_is : (s : Store) (u : ℕ) → length (unit_in s u).stack ≡ height_in s.cells u
height_is s u = length_stack s.work (base u) (height_in s.cells u)

module _ {s s' : Store} {u : ℕ} {g : FlatUnit → FlatUnit} (c : Changed u g s s') where
  unit_is : (v : ℕ) → unit_in s' v ≡ unit (at u g (units_in s (v + 1))) v
  unit_is v = sym (unit_at s'.work s'.cells (v + 1) v (omega arith)) ∙ ap (λ (us : List FlatUnit). unit us v) (c.units (v + 1))

  pub unit_same : unit_in s' u ≡ g (unit_in s u)
  unit_same =
      unit_is u ∙ at_same u (units_in s (u + 1)) g (omega (arith, length_units s.work s.cells 0 (u + 1)))
      ∙ ap g (unit_at s.work s.cells (u + 1) u (omega arith))

  pub unit_other : (v : ℕ) → (v ≡ u → ⊥) → unit_in s' v ≡ unit_in s v
  unit_other v n = unit_is v ∙ at_else u (units_in s (v + 1)) g v n ∙ unit_at s.work s.cells (v + 1) v (omega arith)

  pub height_same : height_in s'.cells u ≡ length (g (unit_in s u)).stack
  height_same = sym (height_is s' u) ∙ ap (λ (x : FlatUnit). length x.stack) unit_same

  pub height_other : (v : ℕ) → (v ≡ u → ⊥) → height_in s'.cells v ≡ height_in s.cells v
  height_other v n = sym (height_is s' v) ∙ ap (λ (x : FlatUnit). length x.stack) (unit_other v n) ∙ height_is s v

-- the code's test of a rank
pub busy_rank : (c : List ℕ) (u : ℕ) → busy_in c u ≡ true → rank_in c u ≡ 0
busy_rank c u e = omega (arith, ltb-true (get_or c u 0) 65536 e)

pub idle_rank : (c : List ℕ) (u : ℕ) → busy_in c u ≡ false → 1 ≤ rank_in c u
idle_rank c u e = omega (arith, ltb-false (get_or c u 0) 65536 e)

-- what holds of all units holds of each
all_unit : (P : FlatUnit → Type 0) (us : List FlatUnit) (u : ℕ) → All P us → u < length us → P (unit us u)
all_unit P [] u q l = absurd (omega arith)
all_unit P (x ∷ us) zero (p, q) l = p
all_unit P (x ∷ us) (suc u) (p, q) l = all_unit P us u q (omega arith)

-- offsets below the length, moved, fit if the new length does
pub shiftable : {s : Store} {n a e k : ℕ} (len : ℕ) → StacksFit s → n ≤ 8 → len ≤ 1024 → a + k + (len - e) ≤ 1024 →
    All (λ (x : FlatUnit). Offsets len x.stack) (units_in s n) → Shiftable n a e k s
shiftable {s} {n} {a} {e} {k} len p f l m q = record {
  fit = p;
  few = f;
  offsets = λ u r.
      shift_offsets 1024 len a e k l m (unit_in s u).stack
      (rw (unit_at s.work s.cells n u r) at
      (all_unit (λ (x : FlatUnit). Offsets len x.stack) (units_in s n) u q (omega (arith, length_units s.work s.cells 0 n))));
}
