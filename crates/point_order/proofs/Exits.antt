-- Laws of the EXITs of a stack that is kept as frames: how many are among its lowest frames, how many above a frame, and the highest. Assumes nothing.
use mathlib.Core.Bool.{Bool, true}
use mathlib.Core.List.{List, [], ◌∷◌}
use mathlib.Core.Path.{◌≡◌, refl, sym, ap, ap₂, ◌∙◌}
use Prim.Native.Nat.{ℕ, zero, suc, ◌+◌, ◌*◌, ◌-◌, ◌≤◌, ◌<◌}
use native.Mathlib.Omega.{arith}
use native.Mathlib.Decide.{ℕ_discrete}
use lib.ListN.{length, take}
use Rattle.flat.specs.Machine.{Frame}
use Rattle.flat.specs.Rules.{above, exits_in}
use Rattle.flat.specs.Tested.{and, each_frame}
use Rattle.units.specs.Frames.{frame_at}
use Rattle.units.specs.Stacks.{stack_of}
use Rattle.units.specs.declared.frames.Exit.{Exit}
use Rattle.units.proofs.Stacks.{length_stack}
use Rattle.point_order.specs.Passing.{highest_exit}
use Rattle.point_order.specs.declared.Held.{Held}
use Rattle.std.specs.Prelude.{Some, None}
use Rattle.point_order.proofs.Tests.{and_true}

exits_cons : (f : Frame) (fs : List Frame) → exits_in (f ∷ fs) ≡ exits_in (f ∷ []) + exits_in fs
unfolding exits_in
exits_cons (Frame.job a k c) fs = omega arith
exits_cons (Frame.exit v i) fs = omega arith
exits_cons Frame.sleep fs = omega arith
exits_cons Frame.bingo fs = omega arith

module _ (w : List ℕ) (from : ℕ) where
  -- the EXITs among the lowest k frames
  abbrev pub exits : ℕ → ℕ
  exits k = exits_in (stack_of w from k)

  abbrev pub frame : ℕ → Frame
  frame k = frame_at w (from + 3 * k)

  exits_step : (k : ℕ) → exits (suc k) ≡ exits_in (frame k ∷ []) + exits k
  unfolding stack_of
  exits_step k = exits_cons (frame k) (stack_of w from k)

  pub exits_exit : (k v i : ℕ) → frame k ≡ Frame.exit v i → exits (suc k) ≡ suc (exits k)
  unfolding exits_in
  exits_exit k v i e = omega (arith, exits_step k, ap (λ (f : Frame). exits_in (f ∷ [])) e)

  exits_more : (d k : ℕ) → exits k ≤ exits (d + k)
  exits_more zero k = let e : k ≡ 0 + k = omega arith in omega (arith, ap exits e)
  exits_more (suc d) k = let e : suc (d + k) ≡ suc d + k = omega arith in omega (arith, ap exits e, exits_step (d + k), exits_more d k)

  pub exits_upto : (k m : ℕ) → k ≤ m → exits k ≤ exits m
  exits_upto k m l = let e : m - k + k ≡ m = omega arith in rw e at (exits_more (m - k) k)

  -- EXITs above a frame, with it, and below
  pub exits_above : (i h : ℕ) → i < h → exits_in (above i (stack_of w from h)) + exits (suc i) ≡ exits h
  unfolding stack_of exits_in
  exits_above i zero l = absurd (omega arith)
  exits_above i (suc h) l =
      elim (ℕ_discrete i h) [
        | yes e ↦
            let z : suc (length (stack_of w from h)) - suc i ≡ 0 = omega (arith, length_stack w from h) in
            rw z (omega (arith, ap (λ (k : ℕ). exits (suc k)) e))
        | no n ↦
            let z : suc (length (stack_of w from h)) - suc i ≡ suc (length (stack_of w from h) - suc i) = omega (arith, length_stack w from h) in
            rw z
            (omega (
              arith,
              exits_cons (frame h) (take (length (stack_of w from h) - suc i) (stack_of w from h)),
              exits_cons (frame h) (stack_of w from h),
              exits_above i h (omega arith),
            ))
      ]

  pub none_above : (i h : ℕ) → h ≤ i → exits_in (above i (stack_of w from h)) ≡ 0
  unfolding exits_in
  none_above i h l =
      let z : length (stack_of w from h) - suc i ≡ 0 = omega (arith, length_stack w from h) in
      ap (λ (k : ℕ). exits_in (take k (stack_of w from h))) z

  -- the highest EXIT: there is none; it is the one with index j
  pub highest_none : (k : ℕ) → highest_exit (stack_of w from k) ≡ None → exits k ≡ 0
  unfolding stack_of exits_in highest_exit
  highest_none zero e = refl
  highest_none (suc k) e = go (highest_none k) (frame k) e
    where
      go : (highest_exit (stack_of w from k) ≡ None → exits k ≡ 0) → (f : Frame) → highest_exit (f ∷ stack_of w from k) ≡ None →
          exits_in (f ∷ stack_of w from k) ≡ 0
      go below (Frame.job a n c) z = below z
      go below (Frame.exit v i) z = let q : ◌≡◌ {A = ℕ} 0 1 = cc in absurd (omega arith)
      go below Frame.sleep z = below z
      go below Frame.bingo z = below z

  pub record HighestAt (k j : ℕ) (x : Exit) : Type 0 where
    pub below : j < k
    pub is : frame j ≡ Frame.exit x.unit x.index
    pub last : exits (suc j) ≡ exits k

  pub highest_at : (k j : ℕ) (x : Exit) → highest_exit (stack_of w from k) ≡ Some (record { index = j; exit = x }) → HighestAt k j x
  unfolding stack_of exits_in highest_exit
  highest_at zero j x e = let q : ◌≡◌ {A = ℕ} 0 1 = cc in absurd (omega arith)
  highest_at (suc k) j x e = go (λ d z. lower d (highest_at k j x z)) (frame k) refl e
    where
      lower : exits (suc k) ≡ exits k → HighestAt k j x → HighestAt (suc k) j x
      lower d h = record { below = omega (arith, h.below); is = h.is; last = h.last ∙ sym d }

      go : (exits (suc k) ≡ exits k → highest_exit (stack_of w from k) ≡ Some (record { index = j; exit = x }) → HighestAt (suc k) j x) → (f : Frame) → frame k ≡ f → highest_exit (f ∷ stack_of w from k) ≡ Some (record { index = j; exit = x }) → HighestAt (suc k) j x
      go below (Frame.job a n c) d z = below (ap (λ (g : Frame). exits_in (g ∷ stack_of w from k)) d) z
      go below (Frame.exit v i) d z =
          let y : ◌≡◌ {A = Held} (record { index = length (stack_of w from k); exit = record { unit = v; index = i } }) (record { index = j; exit = x }) = cc in
          let a : length (stack_of w from k) ≡ j = ap (λ (h : Held). h.index) y in
          let b : ◌≡◌ {A = Exit} (record { unit = v; index = i }) x = ap (λ (h : Held). h.exit) y in
          let c : k ≡ j = sym (length_stack w from k) ∙ a in
          record {
            below = omega arith;
            is = ap frame (sym c) ∙ d ∙ ap (λ (y : Exit). Frame.exit y.unit y.index) b;
            last = ap (λ (y : ℕ). exits (suc y)) (sym c);
          }
      go below Frame.sleep d z = below (ap (λ (g : Frame). exits_in (g ∷ stack_of w from k)) d) z
      go below Frame.bingo d z = below (ap (λ (g : Frame). exits_in (g ∷ stack_of w from k)) d) z

  -- a test of each frame, true of all; of all but one
  module _ (f : ℕ → Frame → Bool) where
    frames_step : (h : ℕ) → each_frame f (stack_of w from (suc h)) ≡ and (f h (frame h)) (each_frame f (stack_of w from h))
    unfolding stack_of each_frame
    frames_step h = ap (λ (k : ℕ). and (f k (frame h)) (each_frame f (stack_of w from h))) (length_stack w from h)

    all_frames : (h : ℕ) → ((i : ℕ) → i < h → f i (frame i) ≡ true) → each_frame f (stack_of w from h) ≡ true
    unfolding stack_of each_frame and
    all_frames zero t = refl
    all_frames (suc h) t = frames_step h ∙ ap₂ and (t h (omega arith)) (all_frames h (λ i l. t i (omega arith)))

    pub one_frame : (h j : ℕ) → j < h → ((i : ℕ) → i < h → (i ≡ j → ⊥) → f i (frame i) ≡ true) → each_frame f (stack_of w from h) ≡ f j (frame j)
    unfolding and
    one_frame zero j l t = absurd (omega arith)
    one_frame (suc h) j l t =
        elim (ℕ_discrete j h) [
          | yes e ↦
              frames_step h ∙ ap (and (f h (frame h))) (all_frames h (λ i m. t i (omega arith) (λ d. omega arith))) ∙ and_true (f h (frame h))
              ∙ ap (λ (k : ℕ). f k (frame k)) (sym e)
          | no n ↦
              frames_step h ∙ ap (λ (b : Bool). and b (each_frame f (stack_of w from h))) (t h (omega arith) (λ d. n (sym d)))
              ∙ one_frame h j (omega arith) (λ i m d. t i (omega arith) d)
        ]
