-- Laws of the units' frames one by one: where the frame at an index stands, and the stacks from the top down. Assumes nothing.
use mathlib.Core.Bool.{Bool, true, false}
use mathlib.Core.List.{List, [], ◌∷◌}
use mathlib.Core.Path.{◌≡◌, refl, sym, ap, ◌∙◌}
use Prim.Native.Nat.{ℕ, zero, suc, ◌+◌, ◌*◌, ◌≤◌, ◌<◌}
use native.Mathlib.Decide.{ℕ_discrete}
use native.Mathlib.Numerals.{add-one}
use native.Mathlib.Omega.{arith}
use lib.ListN.{length, get_or-eq_default}
use Rattle.flat.specs.Machine.{Frame, FlatUnit, unit, asleep}
use Rattle.flat.specs.Rules.{nth_frame}
use Rattle.flat.specs.Tested.{and, each_below, each_frame}
use Rattle.flat.proofs.Chosen.{frame_here, frame_past, frame_none}
use Rattle.units.specs.Frames.{frame_at}
use Rattle.units.specs.Stacks.{base, stack_of, height_in, Store, units_in}
use Rattle.units.proofs.Stacks.{length_stack, top}
use Rattle.units.proofs.Units.{length_units, unit_at, height_at}
use Rattle.point_frames.specs.Counting.{Kept, Heights, stack_in, frame_in}

pub heights : {k : Store} {n : ℕ} → Kept k n → Heights k.cells n
heights p = record {
  few = p.few;
  most = p.fit.most;
  least = λ v l. let e = p.fit.placed v l in omega arith;
}

frame_of : (w : List ℕ) (from i h : ℕ) → i < h → nth_frame i (stack_of w from h) ≡ frame_at w (from + 3 * i)
unfolding stack_of
frame_of w from i zero l = absurd (omega arith)
frame_of w from i (suc h) l =
    elim (ℕ_discrete i h) [
      | yes e ↦ frame_here i (frame_at w (from + 3 * h)) (stack_of w from h) (e ∙ sym (length_stack w from h)) ∙ ap (λ (j : ℕ). frame_at w (from + 3 * j)) (sym e)
      | no d ↦ frame_past i (frame_at w (from + 3 * h)) (stack_of w from h) (λ e. d (e ∙ length_stack w from h)) ∙ frame_of w from i h (omega arith)
    ]

module _ (k : Store) (n v : ℕ) where
  -- a unit that there is
  module _ (l : v < n) where
    pub stack_is : stack_in k n v ≡ stack_of k.work (base v) (height_in k.cells v)
    stack_is = ap (λ (x : FlatUnit). x.stack) (unit_at k.work k.cells n v l)

    pub height_is : length (stack_in k n v) ≡ height_in k.cells v
    height_is = height_at k.work k.cells n v l

    pub frame_there : (i : ℕ) → i < height_in k.cells v → frame_in k n v i ≡ frame_at k.work (base v + 3 * i)
    frame_there i h = ap (nth_frame i) stack_is ∙ frame_of k.work (base v) i (height_in k.cells v) h

    pub frame_missing : (i : ℕ) → height_in k.cells v ≤ i → frame_in k n v i ≡ Frame.sleep
    frame_missing i h = frame_none i (stack_in k n v) (omega (arith, height_is))

    -- the stack of the lowest h + 1 frames
    pub lowest : (h j : ℕ) → j < height_in k.cells v → h ≡ j + 1 → stack_of k.work (base v) h ≡ frame_in k n v j ∷ stack_of k.work (base v) j
    lowest h j q e =
        top k.work (base v) h j (base v + 3 * j) e refl ∙ ap (λ (f : Frame). f ∷ stack_of k.work (base v) j) (sym (frame_there j q))

    pub stack_some : (h : ℕ) → height_in k.cells v ≡ h → stack_in k n v ≡ stack_of k.work (base v) h
    stack_some h e = stack_is ∙ ap (stack_of k.work (base v)) e

  -- one that there isn't
  pub no_unit : n ≤ v → (i : ℕ) → frame_in k n v i ≡ Frame.sleep
  no_unit l i =
      let e : unit (units_in k n) v ≡ asleep 1 = get_or-eq_default (units_in k n) (asleep 1) {n = v} (omega (arith, length_units k.work k.cells 0 n)) in
      ap (λ (x : FlatUnit). nth_frame i x.stack) e ∙ sleeps i
    where
      sleeps : (i : ℕ) → nth_frame i (Frame.sleep ∷ []) ≡ Frame.sleep
      sleeps i = elim (ℕ_discrete i 0) [ yes e ↦ frame_here i Frame.sleep [] e | no d ↦ frame_past i Frame.sleep [] d ∙ frame_none i [] (omega arith) ]

pub stack_none : (w : List ℕ) (from h : ℕ) → h ≡ 0 → stack_of w from h ≡ []
unfolding stack_of
stack_none w from h e = rw e

-- EACH FRAME, FROM THE TOP DOWN; EACH NUMBER, FROM THE LAST DOWN

module _ (f : ℕ → Frame → Bool) where
  pub frames_none : (w : List ℕ) (from h : ℕ) → h ≡ 0 → each_frame f (stack_of w from h) ≡ true
  unfolding each_frame
  frames_none w from h e = ap (each_frame f) (stack_none w from h e)

  module _ (k : Store) (n v : ℕ) (l : v < n) (h j : ℕ) (q : j < height_in k.cells v) (e : h ≡ j + 1) where
    frames_step : each_frame f (stack_of k.work (base v) h) ≡ and (f j (frame_in k n v j)) (each_frame f (stack_of k.work (base v) j))
    unfolding each_frame
    frames_step =
        ap (each_frame f) (lowest k n v l h j q e)
        ∙ ap (λ (i : ℕ). and (f i (frame_in k n v j)) (each_frame f (stack_of k.work (base v) j))) (length_stack k.work (base v) j)

    pub frames_pass : f j (frame_in k n v j) ≡ true → each_frame f (stack_of k.work (base v) h) ≡ each_frame f (stack_of k.work (base v) j)
    unfolding and
    frames_pass z = frames_step ∙ ap (λ (b : Bool). and b (each_frame f (stack_of k.work (base v) j))) z

    pub frames_fail : f j (frame_in k n v j) ≡ false → each_frame f (stack_of k.work (base v) h) ≡ false
    unfolding and
    frames_fail z = frames_step ∙ ap (λ (b : Bool). and b (each_frame f (stack_of k.work (base v) j))) z

module _ (f : ℕ → Bool) where
  pub below_none : (n : ℕ) → n ≡ 0 → each_below f n ≡ true
  unfolding each_below
  below_none n e = rw e

  module _ (n j : ℕ) (e : n ≡ j + 1) where
    below_step : each_below f n ≡ and (f j) (each_below f j)
    unfolding each_below
    below_step = rw (e, add-one j)

    pub below_pass : f j ≡ true → each_below f n ≡ each_below f j
    unfolding and
    below_pass z = below_step ∙ ap (λ (b : Bool). and b (each_below f j)) z

    pub below_fail : f j ≡ false → each_below f n ≡ false
    unfolding and
    below_fail z = below_step ∙ ap (λ (b : Bool). and b (each_below f j)) z
