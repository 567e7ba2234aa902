-- The order of placing after a store, and after a part has gone. Assumes nothing.
use mathlib.Core.Path.{◌≡◌, refl, sym, ap, ◌∙◌}
use mathlib.Core.List.{List, ◌∷◌}
use mathlib.Core.Logic.{◌≢◌, ◌⊎◌, inl, inr}
use Prim.Native.Nat.{ℕ, zero, suc, ◌+◌, ◌-◌, ◌≤◌, ◌<◌}
use native.Mathlib.Omega.{arith}
use native.Mathlib.Numerals.{add-one}
use Rattle.std.specs.List.{CopiedTo, SameBelow, SameFrom}
use lib.ListN.{length, get_or, set, length-set}
use lib.Seq.{get_or-set_same, get_or-set_other}
use borrow.Author.Tests.{eq-eqb, ne_eqb}
use Rattle.paper.specs.Machine.{take_out}
use Rattle.paper.proofs.Tests.{eqb_cases}
use Rattle.placing.specs.Order.{pending_in, latest_first, placed_in, OrderFits}
use Rattle.placing.specs.Promises.{CanPlace, Placed, without, Latest, Removed, TakenOut}

-- only the first n parts count
latest_same : (order order' : List ℕ) (n : ℕ) → ((j : ℕ) → 1 ≤ j → j ≤ n → get_or order' j 0 ≡ get_or order j 0) → latest_first order' n ≡ latest_first order n
unfolding latest_first
latest_same order order' zero h = refl
latest_same order order' (suc n) h =
    rw (h (suc n) (omega arith) (omega arith), latest_same order order' n (λ j a b. h j a (omega arith)))

latest_length : (order : List ℕ) (n : ℕ) → length (latest_first order n) ≡ n
unfolding latest_first
latest_length order zero = refl
latest_length order (suc n) = ap suc (latest_length order n)

-- the list has as many parts as are pending
pub placed_length : (order : List ℕ) → length (placed_in order) ≡ pending_in order
placed_length order = latest_length order (pending_in order)

-- PLACING

pub placed : (order : List ℕ) (n v x y : ℕ) → CanPlace order v → n ≡ pending_in order + 1 → x ≡ v → y ≡ n → Placed v order (set (set order n x) 0 y)
unfolding latest_first
placed order n v x y c e a b =
    let l = c.fits.long in
    let r = c.room in
    let order' = set (set order n x) 0 y in
    let n₁ : length (set order n x) ≡ 1024 = length-set order n x ∙ l in
    let first : pending_in order' ≡ suc (pending_in order) = get_or-set_same (set order n x) 0 y 0 (omega arith) ∙ b ∙ e ∙ add-one _ in
    let latest : get_or order' (suc (pending_in order)) 0 ≡ v =
    get_or-set_other (set order n x) 0 (suc (pending_in order)) y 0 (λ z. absurd (omega arith))
    ∙ ap (λ (k : ℕ). get_or (set order n x) k 0) (sym (e ∙ add-one _)) ∙ get_or-set_same order n x 0 (omega arith) ∙ a in
    let rest : latest_first order' (pending_in order) ≡ latest_first order (pending_in order) =
    latest_same order order' (pending_in order) (λ j f g.
    get_or-set_other (set order n x) 0 j y 0 (λ z. absurd (omega arith)) ∙ get_or-set_other order n j x 0 (λ z. absurd (omega arith))) in
    record {
      fits = record { long = length-set (set order n x) 0 y ∙ n₁; few = omega arith };
      is = ap (latest_first order') first ∙ ap (λ (w : ℕ). w ∷ latest_first order' (pending_in order)) latest ∙ ap (λ (ws : List ℕ). v ∷ ws) rest;
    }

-- THE LATEST OF A UNIT

-- no part later than part i is of unit u
abbrev pub NoneLater : List ℕ → ℕ → ℕ → Type 0
NoneLater order u i = (j : ℕ) → i < j → j ≤ pending_in order → get_or order j 0 ≢ u

take_same : (u v : ℕ) (vs : List ℕ) → u ≡ v → take_out u (v ∷ vs) ≡ vs
unfolding take_out
take_same u v vs e = rw (eq-eqb u v e, take_out)

take_other : (u v : ℕ) (vs : List ℕ) → u ≢ v → take_out u (v ∷ vs) ≡ v ∷ take_out u vs
unfolding take_out
take_other u v vs ne = rw (ne_eqb u v ne, take_out)

without_same : (order : List ℕ) (i n : ℕ) → i ≡ suc n → without order i (suc n) ≡ latest_first order n
unfolding without
without_same order i n e = rw (eq-eqb i (suc n) e, without)

without_other : (order : List ℕ) (i n : ℕ) → i ≢ suc n → without order i (suc n) ≡ get_or order (suc n) 0 ∷ without order i n
unfolding without
without_other order i n ne = rw (ne_eqb i (suc n) ne, without)

later_found : (order : List ℕ) (u i n : ℕ) → i ≤ n → (i ≡ 0) ⊎ (get_or order i 0 ≡ u) → ((j : ℕ) → i < j → j ≤ n → get_or order j 0 ≢ u) →
    take_out u (latest_first order n) ≡ without order i n
unfolding latest_first take_out without
later_found order u i zero l f h = refl
later_found order u i (suc n) l f h =
    elim (eqb_cases i (suc n)) [
      | inl p ↦
          elim f [
            | inl z ↦ absurd (omega (arith, p.1))
            | inr z ↦ take_same u _ (latest_first order n) (sym z ∙ ap (λ (k : ℕ). get_or order k 0) p.1) ∙ sym (without_same order i n p.1)
          ]
      | inr p ↦
          let ne = h (suc n) (omega (arith, p.1)) (omega arith) in
          take_other u _ (latest_first order n) (λ z. ne (sym z))
          ∙ ap (λ (vs : List ℕ). get_or order (suc n) 0 ∷ vs) (later_found order u i n (omega (arith, p.1)) f (λ j a b. h j a (omega arith)))
          ∙ sym (without_other order i n p.1)
    ]

pub latest_is : (order : List ℕ) (u i : ℕ) → i ≤ pending_in order → (i ≡ 0) ⊎ (get_or order i 0 ≡ u) → NoneLater order u i → Latest order u i
latest_is order u i l f h = record { few = l; is = later_found order u i (pending_in order) l f h }

pub later_more : (order : List ℕ) (u i : ℕ) → NoneLater order u i → {k k' : ℕ} → get_or order k 0 ≢ u → (k ≡ i) × (i ≡ suc k') → NoneLater order u k'
later_more order u i h {k} ne e j a b z =
    elim (eqb_cases j k) [ inl p ↦ ne (ap (λ (m : ℕ). get_or order m 0) (sym p.1) ∙ z) | inr p ↦ h j (omega (arith, p.1)) b z ]

-- A PART GONE

-- of the parts behind part i those up to part k have moved down
pub record Moved (i k : ℕ) (order order' : List ℕ) : Type 0 where
  pub size : length order' ≡ length order
  pub below : (j : ℕ) → j < i → get_or order' j 0 ≡ get_or order j 0
  pub down : (j : ℕ) → i ≤ j → j < k → get_or order' j 0 ≡ get_or order (suc j) 0
  pub above : (j : ℕ) → k ≤ j → get_or order' j 0 ≡ get_or order j 0

pub moved_down : {i n from : ℕ} (to : ℕ) {order order' : List ℕ} → length order' ≡ length order → from ≡ i + 1 → to - from ≡ n - i →
    CopiedTo order order' from i (to - from) × SameBelow order order' i × SameFrom order order' (i + (to - from)) → i ≤ n → Moved i n order order'
moved_down to {order = order} s f t c l = record {
  size = s;
  below = λ j h. c.1 j 0 h;
  down = λ j a b. c.0 j 0 a (omega arith) ∙ ap (λ (k : ℕ). get_or order k 0) (omega arith);
  above = λ j h. c.2 j 0 (omega arith);
}

module _ (i n : ℕ) (order order' : List ℕ) (b : (j : ℕ) → 1 ≤ j → j < i → get_or order' j 0 ≡ get_or order j 0)
    (d : (j : ℕ) → i ≤ j → j < n → get_or order' j 0 ≡ get_or order (suc j) 0) (one : 1 ≤ i) where
  moved_latest : (m : ℕ) → i ≤ suc m → m < n → latest_first order' m ≡ without order i (suc m)
  unfolding latest_first
  moved_latest zero l h = sym (without_same order i 0 (omega arith))
  moved_latest (suc m) l h =
      elim (eqb_cases i (suc (suc m))) [
        | inl p ↦ latest_same order order' (suc m) (λ j f g. b j f (omega (arith, p.1))) ∙ sym (without_same order i (suc m) p.1)
        | inr p ↦
            ap (λ (v : ℕ). v ∷ latest_first order' m) (d (suc m) (omega (arith, p.1)) h)
            ∙ ap (λ (vs : List ℕ). get_or order (suc (suc m)) 0 ∷ vs) (moved_latest m (omega (arith, p.1)) (omega arith))
            ∙ sym (without_other order i (suc m) p.1)
      ]

pub removed : (order order₁ : List ℕ) (i n m : ℕ) → OrderFits order → 0 < i → i ≤ n → n ≡ pending_in order → Moved i n order order₁ → n ≡ suc m →
    Removed i order (set order₁ 0 m)
removed order order₁ i n m f one l e v q =
    let order' = set order₁ 0 m in
    let k : length order₁ ≡ 1024 = v.size ∙ f.long in
    let first : pending_in order' ≡ m = get_or-set_same order₁ 0 m 0 (omega arith) in
    let same : (j : ℕ) → 1 ≤ j → get_or order' j 0 ≡ get_or order₁ j 0 = λ j h. get_or-set_other order₁ 0 j m 0 (λ z. absurd (omega arith)) in
    record {
      fits = record { long = length-set order₁ 0 m ∙ k; few = omega (arith, f.few) };
      is =
          ap (latest_first order') first
          ∙ moved_latest i n order order' (λ j a b. same j a ∙ v.below j b) (λ j a b. same j (omega arith) ∙ v.down j a b) one m (omega arith) (omega arith)
          ∙ ap (without order i) (sym q ∙ e);
    }

-- part 0 is none
without_none : (order : List ℕ) (n : ℕ) → without order 0 n ≡ latest_first order n
unfolding latest_first without
without_none order zero = refl
without_none order (suc n) = without_other order 0 n (λ z. absurd (omega arith)) ∙ ap (λ (vs : List ℕ). get_or order (suc n) 0 ∷ vs) (without_none order n)

pub taken_out : {order order' : List ℕ} {u i : ℕ} → Latest order u i → Removed i order order' → TakenOut u order order'
taken_out l r = record { fits = r.fits; is = r.is ∙ sym l.is }

pub none_taken_out : {order : List ℕ} {u i : ℕ} → OrderFits order → Latest order u i → i ≡ 0 → TakenOut u order order
none_taken_out {order} f l e = record { fits = f; is = sym (l.is ∙ ap (λ (k : ℕ). without order k (pending_in order)) e ∙ without_none order (pending_in order)) }
