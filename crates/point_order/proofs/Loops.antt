-- The laws that the loops cite: heights read one after another, frames passed from the top down, units counted, tests one by one. Assumes nothing.
use mathlib.Core.Bool.{Bool, true, false, false≢true}
use mathlib.Core.List.{List, ◌∷◌}
use mathlib.Core.Path.{◌≡◌, refl, sym, ap, ap₂, ◌∙◌}
use Prim.Native.Nat.{ℕ, suc, ◌+◌, ◌*◌, ◌-◌, ◌≤◌, ◌<◌}
use native.Mathlib.Omega.{arith}
use native.Mathlib.Decide.{ℕ_discrete, dec_lt}
use lib.Dec.{eqb}
use lib.ListN.{length, get_or, set, length-set, get_or-eq_default}
use lib.Seq.{get_or-set_same, get_or-set_other}
use borrow.Author.Tests.{lt-ltb, le-ltb}
use Rattle.flat.specs.Machine as F
use Rattle.flat.specs.Tested.{and, or}
use Rattle.units.specs.Frames.{flat, frame_at, InThreeBytes}
use Rattle.units.specs.Stacks.{height, base, stack_of, height_in, Store}
use Rattle.units.specs.Promises.{StacksFit}
use Rattle.units.specs.declared.frames.Exit.{Exit}
use Rattle.units.specs.declared.frames.Frame as D
use Rattle.units.proofs.Stacks.{length_stack, top}
use Rattle.placing.specs.Order.{latest_first}
use Rattle.point_order.specs.Passing.{highest_exit, part_of, lowered, without, stands, holds, none_left, takes, passes}
use Rattle.point_order.specs.Promises.{FoundBelow, TopsFit, HeightsOf, PartTaken}
use Rattle.point_order.specs.declared.Held.{Held}
use Rattle.std.specs.Prelude.{Option, Some, None}

-- HEIGHTS

-- those of the units below u
pub record HeightsBelow (u : ℕ) (c tops : List ℕ) : Type 0 where
  pub eight : length tops ≡ 8
  pub are : (v : ℕ) → v < u → get_or tops v 0 ≡ height_in c v

pub heights_more : {c tops : List ℕ} {u x : ℕ} → HeightsBelow u c tops → u < 8 → x ≡ height_in c u → HeightsBelow (u + 1) c (set tops u x)
heights_more {c} {tops} {u} {x} p l e = record {
  eight = length-set tops u x ∙ p.eight;
  are = λ v m.
      elim (ℕ_discrete v u) [
        | yes d ↦ rw d (get_or-set_same tops u x 0 (omega (arith, p.eight)) ∙ e)
        | no d ↦ get_or-set_other tops u v x 0 d ∙ p.are v (omega arith)
      ];
}

-- FRAMES, FROM THE TOP DOWN

module _ (w : List ℕ) (from k m : ℕ) (e : m ≡ k + 1) (z : D.Frame) (d : flat z ≡ frame_at w (from + 3 * k)) where
  highest_next : highest_exit (stack_of w from m) ≡ highest_exit (flat z ∷ stack_of w from k)
  highest_next = ap highest_exit (top w from m k (from + 3 * k) e refl ∙ ap (λ (f : F.Frame). f ∷ stack_of w from k) (sym d))

  pub highest_here : (x : Exit) → z ≡ D.Frame.Exit x → highest_exit (stack_of w from m) ≡ Some (record { index = k; exit = x })
  unfolding highest_exit
  highest_here x q =
      highest_next ∙ ap (λ (y : D.Frame). highest_exit (flat y ∷ stack_of w from k)) q ∙ ap (λ (n : ℕ). Some (record { index = n; exit = x })) (length_stack w from k)

  pub highest_past : ((x : Exit) → z ≡ D.Frame.Exit x → ⊥) → highest_exit (stack_of w from m) ≡ highest_exit (stack_of w from k)
  unfolding highest_exit
  highest_past q = highest_next ∙ go z q
    where
      go : (y : D.Frame) → ((x : Exit) → y ≡ D.Frame.Exit x → ⊥) → highest_exit (flat y ∷ stack_of w from k) ≡ highest_exit (stack_of w from k)
      go (D.Frame.Job x) o = refl
      go (D.Frame.Exit x) o = absurd (o x refl)
      go D.Frame.Sleep o = refl
      go D.Frame.Bingo o = refl

-- an EXIT that was read names one of eight units
pub exit_unit : (z : D.Frame) (x : Exit) → InThreeBytes (flat z) → z ≡ D.Frame.Exit x → x.unit < 8
exit_unit z x l q = (rw q at l).0

pub highest_end : (w : List ℕ) (from k : ℕ) → k ≡ 0 → highest_exit (stack_of w from k) ≡ None
unfolding highest_exit stack_of
highest_end w from k e = rw e

-- A JOB THAT IS LEFT: its index is below the top; it is not, and the top is the height or not

module _ (cells tops : List ℕ) (u i v at : ℕ) (d : v ≡ u) (e : at ≡ i) where
  pub stands_below : at < get_or tops v 0 → true ≡ stands cells tops u i
  unfolding or
  stands_below l = sym (ap (λ (b : Bool). or b (eqb (get_or tops u 0) (height_in cells u))) (lt-ltb i (get_or tops u 0) (rw (d, e) at l)))

  pub stands_whole : get_or tops v 0 ≤ at → (h : ℕ) → h ≡ height_in cells v → eqb (get_or tops v 0) h ≡ stands cells tops u i
  unfolding or
  stands_whole l h k =
      ap₂ eqb (ap (λ (x : ℕ). get_or tops x 0) d) (k ∙ ap (height_in cells) d)
      ∙ sym (ap (λ (b : Bool). or b (eqb (get_or tops u 0) (height_in cells u))) (le-ltb i (get_or tops u 0) (rw (d, e) at l)))

-- THE LATEST PART

pub found_below : (h : ℕ) (y : Held) (r : Option Held) → FoundBelow h r → r ≡ Some y → (y.index < h) × (y.exit.unit < 8)
found_below h y r l q = rw q at l

-- the EXIT that was found is the part's
pub part_is : (w tops : List ℕ) (v from : ℕ) {r x : Option Held} → from ≡ base v → r ≡ highest_exit (stack_of w from (get_or tops v 0)) → r ≡ x → part_of w tops v ≡ x
part_is w tops v from d e q = ap (λ (k : ℕ). highest_exit (stack_of w k (get_or tops v 0))) (sym d) ∙ sym e ∙ q

module _ (s : Store) (n v : ℕ) (tops : List ℕ) (fit : TopsFit tops) where
  pub part_foreign : n ≤ v → PartTaken s n v tops tops false
  unfolding and
  part_foreign l = record {
    is = sym (ap (λ (b : Bool). and b (holds s.cells (without s.work tops v) (part_of s.work tops v))) (le-ltb v n l));
    left = λ e. absurd (false≢true e);
    fit = fit;
  }

  taken_if : (x : Option Held) → v < n → part_of s.work tops v ≡ x → takes s n tops v ≡ holds s.cells (lowered x v tops) x
  unfolding and
  taken_if x l q =
      ap (λ (b : Bool). and b (holds s.cells (without s.work tops v) (part_of s.work tops v))) (lt-ltb v n l)
      ∙ ap (λ (y : Option Held). holds s.cells (lowered y v tops) y) q

  pub part_missing : v < n → part_of s.work tops v ≡ None → PartTaken s n v tops tops false
  part_missing l q = record { is = sym (taken_if None l q); left = λ e. absurd (false≢true e); fit = fit }

  pub part_found : {r : Bool} (j : ℕ) (x : Exit) → v < n → v < 8 → j ≤ height → part_of s.work tops v ≡ Some (record { index = j; exit = x }) →
      r ≡ stands s.cells (set tops v j) x.unit x.index → PartTaken s n v tops (set tops v j) r
  part_found j x l m h q e = record {
    is = e ∙ sym (taken_if (Some (record { index = j; exit = x })) l q);
    left = λ d. ap (λ (y : Option Held). lowered y v tops) (sym q);
    fit = record {
      eight = length-set tops v j ∙ fit.eight;
      within = λ u.
          elim (ℕ_discrete u v) [
            | yes d ↦ rw (d, get_or-set_same tops v j 0 (omega (arith, fit.eight))) h
            | no d ↦ rw (get_or-set_other tops v u j 0 d) (fit.within u)
          ];
    };
  }

-- ALL PARTS

module _ (s : Store) (n : ℕ) (tops order : List ℕ) (k : ℕ) (v : ℕ) (d : v ≡ get_or order k 0) (l : 0 < k) where
  passes_one : passes s n tops (latest_first order k) ≡ and (takes s n tops v) (passes s n (without s.work tops v) (latest_first order (k - 1)))
  unfolding passes latest_first
  passes_one =
      let e : k ≡ suc (k - 1) = omega arith in
      ap (λ (i : ℕ). passes s n tops (latest_first order i)) e
      ∙ ap (λ (u : ℕ). and (takes s n tops u) (passes s n (without s.work tops u) (latest_first order (k - 1)))) (ap (λ (i : ℕ). get_or order i 0) (sym e) ∙ sym d)

  pub passes_stop : {tops' : List ℕ} {r : Bool} → PartTaken s n v tops tops' r → r ≡ false → passes s n tops (latest_first order k) ≡ false
  unfolding and
  passes_stop p e = passes_one ∙ ap (λ (b : Bool). and b (passes s n (without s.work tops v) (latest_first order (k - 1)))) (sym p.is ∙ e)

  pub passes_next : {tops' : List ℕ} {r : Bool} → PartTaken s n v tops tops' r → r ≡ true → passes s n tops (latest_first order k) ≡ passes s n tops' (latest_first order (k - 1))
  unfolding and
  passes_next p e =
      passes_one ∙ ap (λ (b : Bool). and b (passes s n (without s.work tops v) (latest_first order (k - 1)))) (sym p.is ∙ e)
      ∙ ap (λ (ts : List ℕ). passes s n ts (latest_first order (k - 1))) (sym (p.left e))

pub passes_end : (s : Store) (n : ℕ) (tops order : List ℕ) (k : ℕ) → k ≡ 0 → passes s n tops (latest_first order k) ≡ none_left s.work n tops
unfolding passes latest_first
passes_end s n tops order k e = ap (λ (i : ℕ). passes s n tops (latest_first order i)) e

pub tops_fit : {s : Store} {tops : List ℕ} → StacksFit s → HeightsOf s.cells tops → TopsFit tops
tops_fit {s} {tops} fit h = record {
  eight = h.eight;
  within = λ u.
      elim (dec_lt u 8) [
        | yes l ↦ omega (arith, h.are u l, fit.most u)
        | no l ↦ omega (arith, get_or-eq_default tops 0 {n = u} (omega (arith, h.eight)))
      ];
}
