-- Laws of stacks kept as frames: push, top, what another region's change leaves, and the machine's `fall`, `zero_in` and `shift_frame`. Assumes nothing.
use mathlib.Core.Path.{◌≡◌, refl, sym, ap, ap₂, ◌∙◌}
use mathlib.Core.Bool.{Bool, true, false}
use mathlib.Core.List.{List, [], ◌∷◌, map}
use mathlib.Core.Logic.{◌⊎◌, inl, inr}
use Prim.Native.Nat.{ℕ, zero, suc, ◌+◌, ◌*◌, ◌-◌, ◌≤◌, ◌<◌}
use native.Mathlib.Omega.{arith}
use native.Mathlib.Decide.{ℕ_discrete}
use native.Mathlib.Numerals.{add-one}
use lib.Dec.{leb}
use lib.ListN.{length}
use borrow.Author.Tests.{eq-eqb, ne_eqb, leb-true, leb-false}
use Rattle.paper.specs.Sound.{All}
use Rattle.flat.specs.Symbols.{shift}
use Rattle.flat.specs.Machine.{Frame, fall, lower, zero_in, is_zero, shift_frame}
use Rattle.units.specs.Frames.{frame_at}
use Rattle.units.specs.Stacks.{height, base, stack_of, Below, Offsets}
use Rattle.units.specs.Promises.{SameOutside, FramePut, StackShifted}
use Rattle.units.proofs.Areas.{outside_frame, outside_none, outside_then}

pub length_stack : (w : List ℕ) (from h : ℕ) → length (stack_of w from h) ≡ h
unfolding stack_of
length_stack w from zero = refl
length_stack w from (suc h) = ap suc (length_stack w from h)

-- stacks whose frames agree, as they are or after a function
pub stack_map : (g : Frame → Frame) (w w' : List ℕ) (from h : ℕ) → ((j : ℕ) → j < h → frame_at w' (from + 3 * j) ≡ g (frame_at w (from + 3 * j))) →
    stack_of w' from h ≡ map g (stack_of w from h)
unfolding stack_of
stack_map g w w' from zero e = refl
stack_map g w w' from (suc h) e = ap₂ (λ (f : Frame) (fs : List Frame). f ∷ fs) (e h (omega arith)) (stack_map g w w' from h (λ j l. e j (omega arith)))

stack_same : (w w' : List ℕ) (from h : ℕ) → ((j : ℕ) → j < h → frame_at w' (from + 3 * j) ≡ frame_at w (from + 3 * j)) → stack_of w' from h ≡ stack_of w from h
unfolding stack_of
stack_same w w' from zero e = refl
stack_same w w' from (suc h) e = ap₂ (λ (f : Frame) (fs : List Frame). f ∷ fs) (e h (omega arith)) (stack_same w w' from h (λ j l. e j (omega arith)))

-- the top frame, and the stack below it
pub top : (w : List ℕ) (from h h' k : ℕ) → h ≡ h' + 1 → k ≡ from + 3 * h' → stack_of w from h ≡ frame_at w k ∷ stack_of w from h'
unfolding stack_of
top w from h h' k e d = rw (e, d, add-one h')

-- a change outside a stack
pub outside_stack : {w w' : List ℕ} {k m : ℕ} → SameOutside k m w w' → (from h : ℕ) → (from + 3 * h ≤ k) ⊎ (m ≤ from) → stack_of w' from h ≡ stack_of w from h
outside_stack {w} {w'} q from h (inl b) = stack_same w w' from h (λ j l. outside_frame q (from + 3 * j) (inl (omega arith)))
outside_stack {w} {w'} q from h (inr b) = stack_same w w' from h (λ j l. outside_frame q (from + 3 * j) (inr (omega arith)))

-- a change in the region of another unit
pub outside_unit : {w w' : List ℕ} {k m : ℕ} → SameOutside k m w w' → (v u h : ℕ) → base v ≤ k → m ≤ base (v + 1) → (u ≡ v → ⊥) → h ≤ height →
    stack_of w' (base u) h ≡ stack_of w (base u) h
outside_unit {w} {w'} {k} {m} q v u h a b n l = outside_stack q (base u) h (go (leb u v) refl)
  where
    go : (b : Bool) → leb u v ≡ b → (base u + 3 * h ≤ k) ⊎ (m ≤ base u)
    go true e = let x = leb-true u v e in let y : u < v = lt_of x in inl (omega arith)
      where
        lt_of : u ≤ v → u < v
        lt_of x = elim (ℕ_discrete u v) [ yes z ↦ absurd (n z) | no z ↦ omega arith ]
    go false e = let x = leb-false u v e in inr (omega arith)

pub push : {w w' : List ℕ} {k : ℕ} {f : Frame} → FramePut k f w w' → (from h h' : ℕ) → k ≡ from + 3 * h → h' ≡ h + 1 →
    stack_of w' from h' ≡ f ∷ stack_of w from h
push {w} {w'} {k} p from h h' e d =
    top w' from h' h k d e ∙ ap₂ (λ (g : Frame) (fs : List Frame). g ∷ fs) p.frame (outside_stack p.outside from h (inl (omega arith)))

-- the machine's `fall` and `zero_in`, at the top of a list and below it
module _ (i : ℕ) (f : Frame) (fs : List Frame) where
  fall_top : i ≡ length fs → fall i (f ∷ fs) ≡ lower f ∷ fs
  unfolding fall
  fall_top e = rw (eq-eqb i (length fs) e, fall)

  fall_below : (i ≡ length fs → ⊥) → fall i (f ∷ fs) ≡ f ∷ fall i fs
  unfolding fall
  fall_below n = rw (ne_eqb i (length fs) n, fall)

  zero_top : i ≡ length fs → zero_in i (f ∷ fs) ≡ is_zero f
  unfolding zero_in
  zero_top e = rw (eq-eqb i (length fs) e, zero_in)

  zero_below : (i ≡ length fs → ⊥) → zero_in i (f ∷ fs) ≡ zero_in i fs
  unfolding zero_in
  zero_below n = rw (ne_eqb i (length fs) n, zero_in)

-- the count of the job at index i
pub fall_at : {w w' : List ℕ} {k : ℕ} (from i : ℕ) → k ≡ from + 3 * i → FramePut k (lower (frame_at w k)) w w' → (h : ℕ) → i < h →
    stack_of w' from h ≡ fall i (stack_of w from h)
unfolding stack_of
fall_at from i d p zero l = absurd (omega arith)
fall_at {w} {w'} {k} from i d p (suc h) l =
    elim (ℕ_discrete i h) [
      | yes e ↦
          let z : from + 3 * h ≡ k = omega arith in
          ap₂ (λ (f : Frame) (fs : List Frame). f ∷ fs) (ap (frame_at w') z ∙ p.frame ∙ ap (λ (j : ℕ). lower (frame_at w j)) (sym z))
          (outside_stack p.outside from h (inl (omega arith)))
          ∙ sym (fall_top i (frame_at w (from + 3 * h)) (stack_of w from h) (e ∙ sym (length_stack w from h)))
      | no n ↦
          ap₂ (λ (f : Frame) (fs : List Frame). f ∷ fs) (outside_frame p.outside (from + 3 * h) (inr (omega arith))) (fall_at from i d p h (omega arith))
          ∙ sym (fall_below i (frame_at w (from + 3 * h)) (stack_of w from h) (λ e. n (e ∙ length_stack w from h)))
    ]

pub zero_at : (w : List ℕ) (from i h : ℕ) → i < h → zero_in i (stack_of w from h) ≡ is_zero (frame_at w (from + 3 * i))
unfolding stack_of
zero_at w from i zero l = absurd (omega arith)
zero_at w from i (suc h) l =
    elim (ℕ_discrete i h) [
      | yes e ↦
          zero_top i (frame_at w (from + 3 * h)) (stack_of w from h) (e ∙ sym (length_stack w from h))
          ∙ ap (λ (j : ℕ). is_zero (frame_at w (from + 3 * j))) (sym e)
      | no n ↦
          zero_below i (frame_at w (from + 3 * h)) (stack_of w from h) (λ e. n (e ∙ length_stack w from h))
          ∙ zero_at w from i h (omega arith)
    ]

-- what holds of all frames of a stack, one by one
pub all_at : (P : Frame → Type 0) (g : Frame → Frame) (w : List ℕ) (from h j : ℕ) → All P (map g (stack_of w from h)) → j < h →
    P (g (frame_at w (from + 3 * j)))
unfolding stack_of
all_at P g w from zero j q l = absurd (omega arith)
all_at P g w from (suc h) j (p, q) l =
    elim (ℕ_discrete j h) [
      | yes e ↦ rw e p
      | no n ↦ all_at P g w from h j q (omega arith)
    ]

-- offsets below the length, moved, are below a limit that the new length meets
module _ (m len a e n : ℕ) (l : len ≤ m) (k : a + n + (len - e) ≤ m) where
  shift_below : (x : ℕ) → x < len → shift a e n x < m
  unfolding shift
  shift_below x h = go (leb e x) refl
    where
      go : (b : Bool) → leb e x ≡ b → shift a e n x < m
      go true z = let q = leb-true e x z in rw (z, shift) (omega arith)
      go false z = rw (z, shift) (omega arith)

  frame_below : (f : Frame) → Below len f → Below m (shift_frame a e n f)
  unfolding shift_frame
  frame_below (Frame.job x i c) h = shift_below x h
  frame_below (Frame.exit v i) h = tt
  frame_below Frame.sleep h = tt
  frame_below Frame.bingo h = tt

  pub shift_offsets : (fs : List Frame) → Offsets len fs → Offsets m (map (shift_frame a e n) fs)
  shift_offsets [] q = tt
  shift_offsets (f ∷ fs) (p, q) = (frame_below f p, shift_offsets fs q)

-- The loop that shifts, from the top down: the frames from place at on have gone along; none, one more, and all.
pub record ShiftedAbove (at from h a e n : ℕ) (w w' : List ℕ) : Type 0 where
  pub outside : SameOutside at (from + 3 * h) w w'
  pub frames : (j : ℕ) → j < h → at ≤ from + 3 * j → frame_at w' (from + 3 * j) ≡ shift_frame a e n (frame_at w (from + 3 * j))

module _ {from h a e n : ℕ} {w : List ℕ} where
  pub above_none : {at : ℕ} → at ≡ from + 3 * h → ShiftedAbove at from h a e n w w
  above_none d = record { outside = outside_none; frames = λ j l b. absurd (omega arith) }

  pub above_more : {at k : ℕ} {w₁ w₂ : List ℕ} (j : ℕ) → ShiftedAbove at from h a e n w w₁ → at ≡ k + 3 → k ≡ from + 3 * j → j < h →
      FramePut k (shift_frame a e n (frame_at w₁ k)) w₁ w₂ → ShiftedAbove k from h a e n w w₂
  above_more {at} {k} {w₁} {w₂} j s d z l p = record {
    outside = outside_then s.outside p.outside (omega arith) (omega arith) (omega arith) (omega arith);
    frames = λ i m b.
        elim (ℕ_discrete i j) [
          | yes q ↦
              let y : from + 3 * i ≡ k = omega arith in
              rw y (p.frame ∙ ap (shift_frame a e n) (outside_frame s.outside k (inl (omega arith))))
          | no q ↦ outside_frame p.outside (from + 3 * i) (inr (omega arith)) ∙ s.frames i m (omega arith)
        ];
  }

  pub above_all : {at : ℕ} {w' : List ℕ} → at ≡ from → ShiftedAbove at from h a e n w w' → StackShifted from h a e n w w'
  above_all {w' = w'} d s = record {
    outside = outside_then s.outside (outside_none {from = from} {end = from}) (omega arith) (omega arith) (omega arith) (omega arith);
    stack = stack_map (shift_frame a e n) w w' from h (λ j l. s.frames j l (omega arith));
  }
