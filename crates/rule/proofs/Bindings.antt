-- Laws of a binding kept as an array. Assumes nothing.
use mathlib.Core.Bool.{Bool, true, false}
use mathlib.Core.List.{List}
use mathlib.Core.Logic.{inl, inr}
use mathlib.Core.Path.{◌≡◌, refl, sym, ap, ap₂, ◌∙◌, fun_ext}
use Prim.Native.Nat.{ℕ, ◌+◌, ◌*◌, ◌≤◌, ◌<◌}
use native.Mathlib.Omega.{arith}
use lib.Dec.{eqb}
use lib.ListN.{length, get_or, set, replicate, length-replicate, get_or-replicate, length-set, get_or-eq_default}
use lib.Seq.{get_or-set_same, get_or-set_other}
use borrow.Author.Tests.{eqb-true, eqb-false}
use Rattle.paper.proofs.Tests.{eqb_cases, ltb_cases}
use Rattle.flat.specs.Symbols.{segment, Binding, blank, bind}
use Rattle.rule.specs.Packed.{binding, BindsWithin}
use Rattle.rule.specs.Promises.{HoldsBinding}

zeros : (n v : ℕ) → ◌≡◌ {A = ℕ} (get_or (replicate n 0) v 0) 0
zeros n v = elim (ltb_cases v n) [
  | inl p ↦ get_or-replicate n v 0 0 p.1
  | inr p ↦ let h = p.1 in let l = length-replicate {A = ℕ} n 0 in get_or-eq_default (replicate n 0) 0 (omega arith)
]

pub holds_blank : {bound : List ℕ} → bound ≡ replicate 32 0 → HoldsBinding bound blank
holds_blank e = record { is = rw e (fun_ext (λ v. ap₂ segment (zeros 32 (2 * v)) (zeros 32 (2 * v + 1)))); long = ap length e }

pub within_blank : (len : ℕ) → BindsWithin blank len
within_blank len v = omega arith

-- the array with variable v's start and size put
module _ (bound : List ℕ) (v a k : ℕ) (h : length bound ≡ 32) (m : v < 16) where
  abbrev put : List ℕ
  put = set (set bound (2 * v) a) (2 * v + 1) k

  put_here : binding put v ≡ segment a k
  put_here =
      let l = length-set bound (2 * v) a in
      ap₂ segment
      (get_or-set_other (set bound (2 * v) a) (2 * v + 1) (2 * v) k 0 (λ e. omega arith) ∙ get_or-set_same bound (2 * v) a 0 (omega arith))
      (get_or-set_same (set bound (2 * v) a) (2 * v + 1) k 0 (omega arith))

  put_other : (w : ℕ) → (v ≡ w → ⊥) → binding put w ≡ binding bound w
  put_other w n =
      ap₂ segment (other (2 * w) (λ e. n (omega arith)) (λ e. omega arith)) (other (2 * w + 1) (λ e. omega arith) (λ e. n (omega arith)))
    where
      other : (i : ℕ) → (i ≡ 2 * v → ⊥) → (i ≡ 2 * v + 1 → ⊥) → get_or put i 0 ≡ get_or bound i 0
      other i p q = get_or-set_other (set bound (2 * v) a) (2 * v + 1) i k 0 q ∙ get_or-set_other bound (2 * v) i a 0 p

  pub holds_bind : (bound' : List ℕ) → bound' ≡ put → HoldsBinding bound' (bind v (segment a k) (binding bound))
  unfolding bind
  holds_bind bound' e =
      record {
        is = rw e (fun_ext (λ w. at w (eqb v w) refl));
        long = ap length e ∙ length-set (set bound (2 * v) a) (2 * v + 1) k ∙ length-set bound (2 * v) a ∙ h;
      }
    where
      at : (w : ℕ) (t : Bool) → eqb v w ≡ t → binding put w ≡ elim t [ true ↦ segment a k | false ↦ binding bound w ]
      at w true e = ap (binding put) (sym (eqb-true v w e)) ∙ put_here
      at w false e = put_other w (eqb-false v w e)

pub within_bind : (v a k len : ℕ) (b : Binding) → a + k ≤ len → BindsWithin b len → BindsWithin (bind v (segment a k) b) len
unfolding bind
within_bind v a k len b h g w = elim (eqb_cases v w) [ inl p ↦ rw (p.0, bind) h | inr p ↦ rw (p.0, bind) (g w) ]
