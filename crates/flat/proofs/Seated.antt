-- The stacks of a state that meets the rules, with positions for offsets: a job's position is that of its offset; an EXIT's is that of the job on it, or of the
-- argument that it is given. JOINs have their symbols' numbers. Assumes nothing.
use mathlib.Core.Bool.{true, false}
use mathlib.Core.List.{List, [], ◌∷◌, ◌++◌, map, map-append}
use mathlib.Core.Logic.{◌⊎◌, inl, inr, ◌≢◌}
use mathlib.Core.Option.{Option, none, some}
use mathlib.Core.Path.{◌≡◌, refl, sym, ◌∙◌, ap, ap₂, subst}
use Prim.Native.Nat.{ℕ, zero, suc, ◌+◌, ◌<◌, ◌≤◌}
use native.Mathlib.Omega.{arith}
use lib.Dec.{ltb}
use lib.ListN.{get_or, length, drop}
use Rattle.paper.specs.Tree.{label, preorder, size, Correct, Position, subterm}
use Rattle.paper.specs.Strategy.{Step}
use Rattle.paper.specs.Book.{Term, Book, arity, steps}
use Rattle.paper.specs.Machine.{Limits}
use Rattle.paper.specs.Idle.{times}
use Rattle.paper.specs.Sound.{In, Unnamed, Sound}
use Rattle.paper.proofs.Numbers.{same_is}
use Rattle.paper.proofs.Queue.{times_cons}
use Rattle.paper.proofs.Tests.{eqb_cases, ltb_cases}
use Rattle.paper.proofs.Trees.{size_preorder}
use Rattle.flat.specs.Symbols.{argument}
use Rattle.flat.specs.Machine.{Frame, FlatUnit, flat_unit, FlatState, unit, next_count}
use Rattle.flat.specs.Rules.{InGroup, AtJoin, forks_left, nth_frame, above, steps_left, jobs_at, exits_in, exits_to, same_pair, upto, stack}
use Rattle.flat.specs.Relation.{Valid, offset, Some, Placed, PlacedUnit, placed_unit, at, frame_of, stack_of, unit_of, JoinAt, GoodFrames, Rests, Under}
use Rattle.flat.specs.Relation as Placing
use Rattle.flat.specs.Meets.{Job, Taken, Carries, Holds, Stacked, frame, Meets}
use Rattle.flat.proofs.Bounds.{place_at, offset_unique}
use Rattle.flat.proofs.Chosen.{front, exit_here, argument_at, parent, one_frame, frame_inside, stacked_any, jobs_some, frame_here, frame_past, done, pick, pick_low, pick_unnamed, pick_free, pick_apart}
use Rattle.flat.proofs.Counts.{FrameAt, same_pair_is}
use Rattle.flat.proofs.Heights.{same_parent}
use Rattle.flat.proofs.Lengths.{named_at}
use Rattle.flat.proofs.Lists.{upto_same, upto_one}
use Rattle.flat.proofs.Numbered.{number, Numbered}
use Rattle.flat.proofs.Offsets.{symbol_at, offset_inside}
use Rattle.flat.proofs.Placing.{above_is}
use Rattle.flat.proofs.Sites.{Site, site_frame, site_top, in_frame, same_last}
use Rattle.flat.proofs.Stacks.{map_length, stack_length}
use Rattle.flat.proofs.Stamps.{times_append}
use Rattle.flat.proofs.Tables.{exits_of}
use Rattle.flat.proofs.Tabled.{exits, Ends, Seats}

-- THE POSITION OF AN OFFSET

module _ (t : Term) (a : ℕ) where
  unfoldable position_of : ((ltb a (size t) ≡ true) × (a < size t)) ⊎ ((ltb a (size t) ≡ false) × (size t ≤ a)) → Position
  position_of (inl e) = (place_at t a e.1).0
  position_of (inr e) = []

  unfoldable pub position_at : Position
  unfolding position_of
  position_at = position_of (ltb_cases a (size t))

  pub position_is : a < size t → Valid position_at t × (offset position_at t ≡ a)
  unfolding position_at
  position_is l = go (ltb_cases a (size t))
    where
      go : (z : ((ltb a (size t) ≡ true) × (a < size t)) ⊎ ((ltb a (size t) ≡ false) × (size t ≤ a))) → Valid (position_of z) t × (offset (position_of z) t ≡ a)
      go (inl e) = ((place_at t a e.1).1, (place_at t a e.1).2)
      go (inr e) = absurd (let z = e.1 in omega (arith, z, l))

-- named no more
unnamed_of : (x : ℕ) (ss : List Step) → named_at x ss ≡ 0 → Unnamed x ss
unfolding named_at
unnamed_of x [] e = tt
unnamed_of x (Step.visit i ∷ ss) e = (λ q. (let z = same_is i x 1 (sym q) in omega (arith, z, e)), unnamed_of x ss (omega (arith, e)))
unnamed_of x (Step.fork i ∷ ss) e = (λ q. (let z = same_is i x 1 (sym q) in omega (arith, z, e)), unnamed_of x ss (omega (arith, e)))
unnamed_of x (Step.join c ∷ ss) e = unnamed_of x ss e
unnamed_of x (Step.whole ∷ ss) e = unnamed_of x ss e

-- SEATS

module _ (B : Book) (t : Term) (join : ℕ → ℕ → ℕ) (rest : ℕ → ℕ → ℕ → ℕ) where
  -- the offset of the part of unit v's EXIT for the JOIN of unit w's job at stack index i, under a frame: that of the job, or one that is given
  unfoldable part : ℕ → Frame → ℕ → ℕ → ℕ
  part v (Frame.job a k c) w i = a
  part v (Frame.exit x y) w i = rest v w i
  part v Frame.sleep w i = rest v w i
  part v Frame.bingo w i = rest v w i

  -- a frame under another
  unfoldable seat_frame : ℕ → Frame → Frame → Placed
  unfolding part position_at number
  seat_frame v up (Frame.job a k c) = Placed.job (position_at t a) (label (subterm (position_at t a) t)) k c (number B (preorder t) a)
  seat_frame v up (Frame.exit w i) = Placed.exit w i (position_at t (part v up w i)) (join w i)
  seat_frame v up Frame.sleep = Placed.sleep
  seat_frame v up Frame.bingo = Placed.bingo

  unfoldable seat : ℕ → Frame → List Frame → List Placed
  unfolding seat_frame
  seat v up [] = []
  seat v up (f ∷ fs) = seat_frame v up f ∷ seat v f fs

  -- all units, numbered from v
  unfoldable seat_units : ℕ → List FlatUnit → List PlacedUnit
  unfolding seat
  seat_units v [] = []
  seat_units v (x ∷ xs) = placed_unit x.rank (seat v Frame.sleep x.stack) ∷ seat_units (suc v) xs

  seat_at : (v u : ℕ) (xs : List FlatUnit) → (at (seat_units v xs) u).frames ≡ seat (v + u) Frame.sleep (unit xs u).stack
  unfolding seat_units seat seat_frame
  seat_at v u [] = refl
  seat_at v zero (x ∷ xs) = ap (λ (z : ℕ). seat z Frame.sleep x.stack) (omega arith)
  seat_at v (suc u) (x ∷ xs) = seat_at (suc v) u xs ∙ ap (λ (z : ℕ). seat z Frame.sleep (unit xs u).stack) (omega arith)

  seat_length : (v : ℕ) (up : Frame) (fs : List Frame) → length (seat v up fs) ≡ length fs
  unfolding seat
  seat_length v up [] = refl
  seat_length v up (f ∷ fs) = ap suc (seat_length v f fs)

  -- each job is inside the term
  abbrev Inside : List Frame → Type 0
  Inside fs = (a k c : ℕ) → In (Frame.job a k c) fs → a < size t

  frame_seat : (v : ℕ) (up f : Frame) → ((a k c : ℕ) → f ≡ Frame.job a k c → a < size t) → frame_of t (seat_frame v up f) ≡ f
  unfolding seat_frame frame_of
  frame_seat v up (Frame.job a k c) h = ap (λ (x : ℕ). Frame.job x k c) (position_is t a (h a k c refl)).1
  frame_seat v up (Frame.exit w i) h = refl
  frame_seat v up Frame.sleep h = refl
  frame_seat v up Frame.bingo h = refl

  stack_seat : (v : ℕ) (up : Frame) (fs : List Frame) → Inside fs → stack_of t (seat v up fs) ≡ fs
  unfolding seat
  stack_seat v up [] h = refl
  stack_seat v up (f ∷ fs) h =
      ap₂ (λ (x : Frame) (y : List Frame). x ∷ y) (frame_seat v up f (λ a k c e. h a k c (inl (sym e)))) (stack_seat v f fs (λ a k c m. h a k c (inr m)))

  units_seat : (v : ℕ) (us : List FlatUnit) → ((u : ℕ) → Inside (unit us u).stack) → us ≡ map (unit_of t) (seat_units v us)
  unfolding seat_units
  units_seat v [] h = refl
  units_seat v (x ∷ us) h =
      ap₂ (λ (y : List Frame) (z : List FlatUnit). flat_unit x.rank y ∷ z) (sym (stack_seat v Frame.sleep x.stack (h 0))) (units_seat (suc v) us (λ u. h (suc u)))

  -- WHAT STANDS AT AN INDEX

  -- of a frame of seats: what it is made of, and what is above it
  abbrev Seat : ℕ → Frame → List Frame → ℕ → Placed → Type 0
  Seat v up fs j g =
      (f : Frame) × (h : Frame) × (g ≡ seat_frame v h f) × (j < length fs) × (nth_frame j fs ≡ f)
      × (((suc j ≡ length fs) × (h ≡ up)) ⊎ ((suc j < length fs) × (nth_frame (suc j) fs ≡ h)))

  seat_is : (v : ℕ) (up : Frame) (fs : List Frame) (j : ℕ) (g : Placed) → FrameAt (seat v up fs) j g → Seat v up fs j g
  unfolding seat
  seat_is v up [] j g h = absurd h
  seat_is v up (f ∷ fs) j g (inl h) =
      let e : j ≡ length fs = h.0 ∙ seat_length v f fs in
      (f, up, sym h.1, omega (arith, e), frame_here j f fs e, inl (omega (arith, e), refl))
  seat_is v up (f ∷ fs) j g (inr h) =
      let (f₂, up₂, e, l, q, r) = seat_is v f fs j g h in
      let ne : j ≢ length fs = λ z. omega (arith, z, l) in (
        f₂,
        up₂,
        e,
        omega (arith, l),
        frame_past j f fs ne ∙ q,
        elim r [
          | inl a ↦ (let z = a.0 in inr (omega (arith, z), frame_here (suc j) f fs a.0 ∙ sym a.1))
          | inr a ↦ (let z = a.0 in inr (omega (arith, z), frame_past (suc j) f fs (λ x. omega (arith, x, z)) ∙ a.1))
        ],
      )

-- OF A STATE THAT MEETS THE RULES

module _ (B : Book) (sound : Sound B) (L : Limits) (s : FlatState) (m : Meets B L s) (t : Term) (spelt : s.symbols ≡ preorder t) (correct : Correct (arity B) t) where
  abbrev xs : List ℕ
  xs = s.symbols

  abbrev operator : ℕ → ℕ
  operator b = get_or xs b 0

  abbrev arg : ℕ → ℕ → ℕ
  arg b x = argument (arity B) xs b x

  abbrev units : ℕ
  units = length s.units

  abbrev pos : ℕ → Position
  pos a = position_at t a

  long : length xs ≡ size t
  long = ap length spelt ∙ sym (size_preorder t)

  pos_valid : (a : ℕ) → a < length xs → Valid (pos a) t
  pos_valid a l = (position_is t a (omega (arith, l, long))).0

  pos_offset : (a : ℕ) → a < length xs → offset (pos a) t ≡ a
  pos_offset a l = (position_is t a (omega (arith, l, long))).1

  pos_same : (a b : ℕ) → a < length xs → b < length xs → pos a ≡ pos b → a ≡ b
  pos_same a b l k e = sym (pos_offset a l) ∙ ap (λ (p : Position). offset p t) e ∙ pos_offset b k

  pos_operator : (a : ℕ) → a < length xs → operator a ≡ label (subterm (pos a) t)
  pos_operator a l = ap₂ (λ (z : List ℕ) (y : ℕ). get_or z y 0) spelt (sym (pos_offset a l)) ∙ symbol_at (pos a) t (pos_valid a l)

  -- an argument's position
  pos_argument : (b x : ℕ) → b < length xs → x < arity B (operator b) → (arg b x < length xs) × (pos (arg b x) ≡ pos b ++ (x ∷ []))
  pos_argument b x l k =
      let (p, v, e, u, g) = argument_at B sound L s m t spelt correct b x l k in
      let n : arg b x < length xs = (let a = offset_inside (p ++ (x ∷ [])) t u in omega (arith, a, g, long)) in
      let q : pos b ≡ p = offset_unique (pos b) p t (pos_valid b l) v (pos_offset b l ∙ sym e) in
      (n, offset_unique (pos (arg b x)) (p ++ (x ∷ [])) t (pos_valid (arg b x) n) u (pos_offset (arg b x) n ∙ g) ∙ ap (λ (z : Position). z ++ (x ∷ [])) (sym q))

  -- WHERE A PART IS DONE

  abbrev Tried : ℕ → ℕ → Type 0
  Tried w i = ((ltb i (length (stack s w)) ≡ true) × (i < length (stack s w))) ⊎ ((ltb i (length (stack s w)) ≡ false) × (length (stack s w) ≤ i))

  unfoldable chosen : (v w i : ℕ) (f : Frame) → frame s w i ≡ f → Tried w i → ℕ
  unfolding argument
  chosen v w i (Frame.job b zero c) e z = 0
  chosen v w i (Frame.job b (suc k) c) e (inl l) = argument (arity B) xs b (pick B sound L s m t spelt correct w i b k c l.1 e v)
  chosen v w i (Frame.job b (suc k) c) e (inr l) = 0
  chosen v w i (Frame.exit x y) e z = 0
  chosen v w i Frame.sleep e z = 0
  chosen v w i Frame.bingo e z = 0

  rest : ℕ → ℕ → ℕ → ℕ
  rest v w i = chosen v w i (frame s w i) refl (ltb_cases i (length (stack s w)))

  -- an EXIT on top
  abbrev OnTop : ℕ → ℕ → ℕ → Type 0
  OnTop v w i = (v < units) × (1 ≤ front (exit_here w i) (stack s v)) × (i < length (stack s w)) × InGroup (steps_left B xs (frame s w i))

  rest_taken : (v w i : ℕ) → OnTop v w i → Taken B xs (frame s w i) (rest v w i)
  unfolding rest steps_left
  rest_taken v w i (lv, h, l, g) = go (frame s w i) refl (ltb_cases i (length (stack s w))) g
    where
      go : (f : Frame) (e : frame s w i ≡ f) (z : Tried w i) → InGroup (steps_left B xs f) → Taken B xs f (chosen v w i f e z)
      go (Frame.job b zero c) e z g = absurd g
      go (Frame.job b (suc k) c) e (inl y) g =
          let x : ℕ = pick B sound L s m t spelt correct w i b k c y.1 e v in
          let h₂ : 1 ≤ done B sound L s m t spelt correct w i b k c y.1 e v = unfold done in h in
          unfold chosen in (
            x,
            pick_low B sound L s m t spelt correct w i b k c y.1 e v lv h₂,
            refl,
            unnamed_of x (drop k (steps B (operator b))) (pick_unnamed B sound L s m t spelt correct w i b k c y.1 e v lv h₂),
          )
      go (Frame.job b (suc k) c) e (inr y) g = absurd (let a = y.1 in omega (arith, a, l))
      go (Frame.exit x y) e z g = absurd g
      go Frame.sleep e z g = absurd g
      go Frame.bingo e z g = absurd g

  rest_free : (v w i : ℕ) → OnTop v w i → upto (λ u. jobs_at (rest v w i) (stack s u)) units ≡ 0
  unfolding rest steps_left
  rest_free v w i (lv, h, l, g) = go (frame s w i) refl (ltb_cases i (length (stack s w))) g
    where
      go : (f : Frame) (e : frame s w i ≡ f) (z : Tried w i) → InGroup (steps_left B xs f) → upto (λ u. jobs_at (chosen v w i f e z) (stack s u)) units ≡ 0
      go (Frame.job b zero c) e z g = absurd g
      go (Frame.job b (suc k) c) e (inl y) g =
          let h₂ : 1 ≤ done B sound L s m t spelt correct w i b k c y.1 e v = unfold done in h in
          unfold chosen in pick_free B sound L s m t spelt correct w i b k c y.1 e v lv h₂
      go (Frame.job b (suc k) c) e (inr y) g = absurd (let a = y.1 in omega (arith, a, l))
      go (Frame.exit x y) e z g = absurd g
      go Frame.sleep e z g = absurd g
      go Frame.bingo e z g = absurd g

  rest_apart : (v u w i : ℕ) → OnTop v w i → OnTop u w i → rest v w i ≡ rest u w i → v ≡ u
  unfolding rest steps_left
  rest_apart v u w i (lv, h, l, g) (lu, h', l', g') = go (frame s w i) refl (ltb_cases i (length (stack s w))) g
    where
      go : (f : Frame) (e : frame s w i ≡ f) (z : Tried w i) → InGroup (steps_left B xs f) → chosen v w i f e z ≡ chosen u w i f e z → v ≡ u
      go (Frame.job b zero c) e z g q = absurd g
      go (Frame.job b (suc k) c) e (inl y) g q =
          let hv : 1 ≤ done B sound L s m t spelt correct w i b k c y.1 e v = unfold done in h in
          let hu : 1 ≤ done B sound L s m t spelt correct w i b k c y.1 e u = unfold done in h' in
          let p : ℕ → ℕ = λ z. pick B sound L s m t spelt correct w i b k c y.1 e z in
          let q₂ : arg b (p v) ≡ arg b (p u) = unfold chosen in q in
          let lb = frame_inside B sound L s m t spelt correct w i b (suc k) c y.1 e in
          let r = parent B sound L s m t spelt correct b b (p v) (p u) lb lb (pick_low B sound L s m t spelt correct w i b k c y.1 e v lv hv)
          (pick_low B sound L s m t spelt correct w i b k c y.1 e u lu hu) q₂ in
          pick_apart B sound L s m t spelt correct w i b k c y.1 e v u lv lu hv hu r.1
      go (Frame.job b (suc k) c) e (inr y) g q = absurd (let a = y.1 in omega (arith, a, l))
      go (Frame.exit x y) e z g q = absurd g
      go Frame.sleep e z g q = absurd g
      go Frame.bingo e z g q = absurd g

  -- THE SEATS

  unfoldable join_of : Frame → ℕ
  unfolding number
  join_of (Frame.job a k c) = number B (preorder t) a
  join_of (Frame.exit w i) = 0
  join_of Frame.sleep = 0
  join_of Frame.bingo = 0

  join : ℕ → ℕ → ℕ
  join w i = join_of (frame s w i)

  abbrev sits : ℕ → Frame → List Frame → List Placed
  sits = seat B t join rest

  pub U : List PlacedUnit
  U = seat_units B t join rest 0 s.units

  abbrev fr : ℕ → List Placed
  fr v = (at U v).frames

  fr_is : (v : ℕ) → fr v ≡ sits v Frame.sleep (stack s v)
  unfolding U
  fr_is v = seat_at B t join rest 0 v s.units ∙ ap (λ (z : ℕ). sits z Frame.sleep (stack s v)) (let e : 0 + v ≡ v = omega arith in e)

  job_low : (a k c : ℕ) → Job B xs a k c → a < length xs
  job_low a zero c h = h.0
  job_low a (suc k) c h = h.0

  inside : (v : ℕ) → Inside B t join rest (stack s v)
  inside v a k c h = (let l = job_low a k c (m.job v a k c h) in omega (arith, l, long))

  pub units_are : s.units ≡ map (unit_of t) U
  unfolding U
  units_are = units_seat B t join rest 0 s.units (λ u. inside u)

  stack_is : (v : ℕ) → stack_of t (fr v) ≡ stack s v
  stack_is v = ap (stack_of t) (fr_is v) ∙ stack_seat B t join rest v Frame.sleep (stack s v) (inside v)

  fr_length : (v : ℕ) → length (fr v) ≡ length (stack s v)
  fr_length v = ap length (fr_is v) ∙ seat_length B t join rest v Frame.sleep (stack s v)

  many_units : length U ≡ units
  many_units = sym (map_length (unit_of t) U) ∙ ap length (sym units_are)

  frame_seat_at : (v j : ℕ) (g : Placed) → FrameAt (fr v) j g → Seat B t join rest v Frame.sleep (stack s v) j g
  frame_seat_at v j g h = seat_is B t join rest v Frame.sleep (stack s v) j g (subst (λ (z : List Placed). FrameAt z j g) (fr_is v) h)

  -- A JOB'S SEAT

  job_seat : (v j : ℕ) (p : Position) (o k c r : ℕ) → FrameAt (fr v) j (Placed.job p o k c r) →
      (a : ℕ) × (a < length xs) × (p ≡ pos a) × (o ≡ operator a) × (r ≡ number B (preorder t) a) × (j < length (stack s v)) × (frame s v j ≡ Frame.job a k c)
  unfolding seat_frame
  job_seat v j p o k c r h =
      let (f, up, e, l, q, z) = frame_seat_at v j (Placed.job p o k c r) h in go f up e l q
    where
      go : (f up : Frame) → Placed.job p o k c r ≡ seat_frame B t join rest v up f → j < length (stack s v) → frame s v j ≡ f →
          (a : ℕ) × (a < length xs) × (p ≡ pos a) × (o ≡ operator a) × (r ≡ number B (preorder t) a) × (j < length (stack s v)) × (frame s v j ≡ Frame.job a k c)
      go (Frame.job a k' c') up e l q =
          let e₁ : p ≡ pos a = cc in
          let e₂ : o ≡ label (subterm (pos a) t) = cc in
          let e₃ : k' ≡ k = cc in
          let e₄ : c' ≡ c = cc in
          let e₅ : r ≡ number B (preorder t) a = cc in
          let q₂ : frame s v j ≡ Frame.job a k c = q ∙ ap₂ (λ (x y : ℕ). Frame.job a x y) e₃ e₄ in
          let n = frame_inside B sound L s m t spelt correct v j a k c l q₂ in
          (a, n, e₁, e₂ ∙ sym (pos_operator a n), e₅, l, q₂)
      go (Frame.exit w i) up e l q = absurd (let z : ◌≡◌ {A = ℕ} 0 1 = cc in omega arith)
      go Frame.sleep up e l q = absurd (let z : ◌≡◌ {A = ℕ} 0 1 = cc in omega arith)
      go Frame.bingo up e l q = absurd (let z : ◌≡◌ {A = ℕ} 0 1 = cc in omega arith)

  -- AN EXIT'S SEAT

  -- what is above an EXIT: a job that is the part's, or nothing
  above_exit : (v j w i : ℕ) (fs : List Frame) → Stacked B xs (frame s) v fs → suc j < length fs → nth_frame j fs ≡ Frame.exit w i →
      (a : ℕ) × (k : ℕ) × (c : ℕ) × (nth_frame (suc j) fs ≡ Frame.job a k c) × Taken B xs (frame s w i) a
  above_exit v j w i [] st l e = absurd (omega (arith, l))
  above_exit v j w i (f ∷ []) st l e = absurd (omega (arith, l))
  above_exit v j w i (f ∷ g ∷ fs) st l e =
      elim (eqb_cases (suc j) (length (g ∷ fs))) [
        | inl p ↦
            (let d = p.1 in
            let e₂ : g ≡ Frame.exit w i =
            sym (frame_past j f (g ∷ fs) (λ z. omega (arith, z, d)) ∙ frame_here j g fs (omega (arith, d))) ∙ e in
            direct f g (frame_here (suc j) f (g ∷ fs) p.1) e₂ st)
        | inr p ↦
            (let d = p.1 in
            let l₂ : suc j < length (g ∷ fs) = omega (arith, d, l) in
            let (a, k, c, x, y) = above_exit v j w i (g ∷ fs) (tail f st) l₂ (sym (frame_past j f (g ∷ fs) (λ z. omega (arith, z, l₂))) ∙ e) in
            (a, k, c, frame_past (suc j) f (g ∷ fs) p.1 ∙ x, y))
      ]
    where
      tail : (f : Frame) → Stacked B xs (frame s) v (f ∷ g ∷ fs) → Stacked B xs (frame s) v (g ∷ fs)
      tail (Frame.job a k c) st = st.1
      tail (Frame.exit x y) st = st.1
      tail Frame.sleep st = absurd (let z = ap length st.0 in omega (arith, z))
      tail Frame.bingo st = absurd (let z = ap length st.0 in omega (arith, z))

      direct : (f g' : Frame) → nth_frame (suc j) (f ∷ g ∷ fs) ≡ f → g' ≡ Frame.exit w i → Stacked B xs (frame s) v (f ∷ g' ∷ fs) →
          (a : ℕ) × (k : ℕ) × (c : ℕ) × (nth_frame (suc j) (f ∷ g ∷ fs) ≡ Frame.job a k c) × Taken B xs (frame s w i) a
      direct f g' x q st = on f x (subst (λ (z : Frame). Stacked B xs (frame s) v (f ∷ z ∷ fs)) q st)
        where
          on : (f' : Frame) → nth_frame (suc j) (f ∷ g ∷ fs) ≡ f' → Stacked B xs (frame s) v (f' ∷ Frame.exit w i ∷ fs) →
              (a : ℕ) × (k : ℕ) × (c : ℕ) × (nth_frame (suc j) (f ∷ g ∷ fs) ≡ Frame.job a k c) × Taken B xs (frame s w i) a
          on (Frame.job a k c) x st = (a, k, c, x, st.0)
          on (Frame.exit x₂ y) x st = absurd st.0
          on Frame.sleep x st = absurd (let z = ap length st.0 in omega (arith, z))
          on Frame.bingo x st = absurd (let z = ap length st.0 in omega (arith, z))

  -- the offset a of an EXIT's part, by what is on it
  abbrev Part : ℕ → ℕ → ℕ → ℕ → ℕ → Type 0
  Part v j w i a =
      ((k : ℕ) × (c : ℕ) × (suc j < length (stack s v)) × (frame s v (suc j) ≡ Frame.job a k c) × Taken B xs (frame s w i) a)
      ⊎ ((suc j ≡ length (stack s v)) × OnTop v w i × (a ≡ rest v w i))

  front_top : (w i j : ℕ) (fs : List Frame) → suc j ≡ length fs → nth_frame j fs ≡ Frame.exit w i → 1 ≤ front (exit_here w i) fs
  unfolding front exit_here
  front_top w i j [] e q = absurd (omega (arith, e))
  front_top w i j (f ∷ fs) e q =
      let r : f ≡ Frame.exit w i = sym (frame_here j f fs (omega (arith, e))) ∙ q in
      let x : exit_here w i f ≡ same_pair w i w i = ap (exit_here w i) r in
      omega (arith, x, same_pair_is w i w i refl refl)

  unit_low : (v j : ℕ) → j < length (stack s v) → (w i : ℕ) → frame s v j ≡ Frame.exit w i → v < units
  unit_low v j l w i e = go s.units v l e
    where
      go : (us : List FlatUnit) (v : ℕ) → j < length (unit us v).stack → nth_frame j (unit us v).stack ≡ Frame.exit w i → v < length us
      go [] v l e =
          absurd (
          let z : nth_frame j (Frame.sleep ∷ []) ≡ Frame.sleep = frame_here j Frame.sleep [] (omega (arith, l)) in
          let q : Frame.sleep ≡ Frame.exit w i = sym z ∙ e in
          let y : ◌≡◌ {A = ℕ} 0 1 = cc in omega arith
          )
      go (x ∷ us) zero l e = omega arith
      go (x ∷ us) (suc v) l e = omega (arith, go us v l e)

  frame_there : (v j : ℕ) (f : Frame) → j < length (stack s v) → frame s v j ≡ f → In f (stack s v)
  frame_there v j f l e = go (stack s v) l e
    where
      go : (fs : List Frame) → j < length fs → nth_frame j fs ≡ f → In f fs
      go [] l e = absurd (omega (arith, l))
      go (g ∷ fs) l e =
          elim (eqb_cases j (length fs)) [
            | inl p ↦ inl (sym e ∙ frame_here j g fs p.1)
            | inr p ↦ (let d = p.1 in inr (go fs (omega (arith, d, l)) (sym (frame_past j g fs p.1) ∙ e)))
          ]

  exit_seat : (v j w i : ℕ) (q : Position) (r : ℕ) → FrameAt (fr v) j (Placed.exit w i q r) →
      (a : ℕ) × (q ≡ pos a) × (r ≡ join w i) × (j < length (stack s v)) × (frame s v j ≡ Frame.exit w i) × Part v j w i a
  unfolding seat_frame part
  exit_seat v j w i q r h =
      let (f, up, e, l, x, z) = frame_seat_at v j (Placed.exit w i q r) h in go f up e l x z
    where
      Result : Type 0
      Result = (a : ℕ) × (q ≡ pos a) × (r ≡ join w i) × (j < length (stack s v)) × (frame s v j ≡ Frame.exit w i) × Part v j w i a

      on_job : (a k c : ℕ) → q ≡ pos a → r ≡ join w i → j < length (stack s v) → frame s v j ≡ Frame.exit w i → suc j < length (stack s v) → frame s v (suc j) ≡ Frame.job a k c → Result
      on_job a k c e₁ e₂ l x lj y =
          let (a₂, k₂, c₂, y₂, tk) = above_exit v j w i (stack s v) (stacked_any B sound L s m t spelt correct v) lj x in
          let eq : Frame.job a₂ k₂ c₂ ≡ Frame.job a k c = sym y₂ ∙ y in
          let ea : a₂ ≡ a = cc in
          (a, e₁, e₂, l, x, inl (k, c, lj, y, subst (λ (z : ℕ). Taken B xs (frame s w i) z) ea tk))

      on_top : q ≡ pos (rest v w i) → r ≡ join w i → j < length (stack s v) → frame s v j ≡ Frame.exit w i → suc j ≡ length (stack s v) → Result
      on_top e₁ e₂ l x lj =
          let ex = m.exits v w i (frame_there v j (Frame.exit w i) l x) in
          (rest v w i, e₁, e₂, l, x, inr (lj, (unit_low v j l w i x, front_top w i j (stack s v) lj x, ex.1, ex.2), refl))

      wrong : (up : Frame) → ((a k c : ℕ) → up ≡ Frame.job a k c → ⊥) → frame s v j ≡ Frame.exit w i → suc j < length (stack s v) → frame s v (suc j) ≡ up → Result
      wrong up n x lj y =
          let (a₂, k₂, c₂, y₂, tk) = above_exit v j w i (stack s v) (stacked_any B sound L s m t spelt correct v) lj x in
          absurd (n a₂ k₂ c₂ (sym y ∙ y₂))

      by_up : (up : Frame) → q ≡ pos (part B t join rest v up w i) → r ≡ join w i → j < length (stack s v) → frame s v j ≡ Frame.exit w i →
          ((suc j ≡ length (stack s v)) × (up ≡ Frame.sleep)) ⊎ ((suc j < length (stack s v)) × (frame s v (suc j) ≡ up)) → Result
      by_up (Frame.job a k c) e₁ e₂ l x (inl z) = absurd (let b = z.1 in let y : ◌≡◌ {A = ℕ} 0 1 = cc in omega arith)
      by_up (Frame.job a k c) e₁ e₂ l x (inr z) = on_job a k c e₁ e₂ l x z.0 z.1
      by_up (Frame.exit a b) e₁ e₂ l x (inl z) = on_top e₁ e₂ l x z.0
      by_up (Frame.exit a b) e₁ e₂ l x (inr z) = wrong (Frame.exit a b) (λ y k c d. (let u : ◌≡◌ {A = ℕ} 0 1 = cc in omega arith)) x z.0 z.1
      by_up Frame.sleep e₁ e₂ l x (inl z) = on_top e₁ e₂ l x z.0
      by_up Frame.sleep e₁ e₂ l x (inr z) = wrong Frame.sleep (λ y k c d. (let u : ◌≡◌ {A = ℕ} 0 1 = cc in omega arith)) x z.0 z.1
      by_up Frame.bingo e₁ e₂ l x (inl z) = on_top e₁ e₂ l x z.0
      by_up Frame.bingo e₁ e₂ l x (inr z) = wrong Frame.bingo (λ y k c d. (let u : ◌≡◌ {A = ℕ} 0 1 = cc in omega arith)) x z.0 z.1

      go : (f up : Frame) → Placed.exit w i q r ≡ seat_frame B t join rest v up f → j < length (stack s v) → frame s v j ≡ f →
          ((suc j ≡ length (stack s v)) × (up ≡ Frame.sleep)) ⊎ ((suc j < length (stack s v)) × (frame s v (suc j) ≡ up)) → Result
      go (Frame.job a k c) up e l x z = absurd (let y : ◌≡◌ {A = ℕ} 0 1 = cc in omega arith)
      go (Frame.exit w' i') up e l x z =
          let e₁ : w ≡ w' = cc in
          let e₂ : i ≡ i' = cc in
          let e₃ : q ≡ pos (part B t join rest v up w' i') = cc in
          let e₄ : r ≡ join w' i' = cc in
          by_up up (e₃ ∙ ap₂ (λ (y d : ℕ). pos (part B t join rest v up y d)) (sym e₁) (sym e₂)) (e₄ ∙ ap₂ join (sym e₁) (sym e₂)) l
          (x ∙ ap₂ (λ (y d : ℕ). Frame.exit y d) (sym e₁) (sym e₂)) z
      go Frame.sleep up e l x z = absurd (let y : ◌≡◌ {A = ℕ} 0 1 = cc in omega arith)
      go Frame.bingo up e l x z = absurd (let y : ◌≡◌ {A = ℕ} 0 1 = cc in omega arith)

  part_taken : (v j w i a : ℕ) → Part v j w i a → Taken B xs (frame s w i) a
  part_taken v j w i a (inl h) = h.4
  part_taken v j w i a (inr h) = subst (λ (z : ℕ). Taken B xs (frame s w i) z) (sym h.2) (rest_taken v w i h.1)

  -- an EXIT's part is an argument of its JOIN's job
  exit_argument : (v j w i : ℕ) (q : Position) (r : ℕ) → FrameAt (fr v) j (Placed.exit w i q r) →
      (b : ℕ) × (k : ℕ) × (c : ℕ) × (x : ℕ) × (a : ℕ) × (frame s w i ≡ Frame.job b (suc k) c) × (i < length (stack s w)) × (b < length xs) × (a < length xs) × (q ≡ pos a)
      × (q ≡ pos b ++ (x ∷ [])) × Unnamed x (drop k (steps B (operator b))) × InGroup (drop k (steps B (operator b))) × Part v j w i a
  unfolding steps_left
  exit_argument v j w i q r h =
      let (a, e, er, l, x, p) = exit_seat v j w i q r h in
      let ex = m.exits v w i (frame_there v j (Frame.exit w i) l x) in
      go a e (frame s w i) refl ex.1 (part_taken v j w i a p) ex.2 p
    where
      go : (a : ℕ) → q ≡ pos a → (f : Frame) → frame s w i ≡ f → i < length (stack s w) → Taken B xs f a → InGroup (steps_left B xs f) → Part v j w i a →
          (b : ℕ) × (k : ℕ) × (c : ℕ) × (x : ℕ) × (a : ℕ) × (frame s w i ≡ Frame.job b (suc k) c) × (i < length (stack s w)) × (b < length xs) × (a < length xs) × (q ≡ pos a)
          × (q ≡ pos b ++ (x ∷ [])) × Unnamed x (drop k (steps B (operator b))) × InGroup (drop k (steps B (operator b))) × Part v j w i a
      go a e (Frame.job b zero c) f l h g p = absurd g
      go a e (Frame.job b (suc k) c) f l (x, k', d, un) g p =
          let n = frame_inside B sound L s m t spelt correct w i b (suc k) c l f in
          let (n₂, y) = pos_argument b x n k' in
          (b, k, c, x, a, f, l, n, subst (λ (z : ℕ). z < length xs) (sym d) n₂, e, e ∙ ap (λ (z : ℕ). pos z) d ∙ y, un, g, p)
      go a e (Frame.exit y z) f l h g p = absurd g
      go a e Frame.sleep f l h g p = absurd g
      go a e Frame.bingo f l h g p = absurd g

  in_at : (v : ℕ) (g : Placed) → In g (fr v) → (j : ℕ) × FrameAt (fr v) j g
  in_at v g h = in_frame (fr v) g h

  valid : (v w i : ℕ) (q : Position) (r : ℕ) → In (Placed.exit w i q r) (fr v) → Valid q t
  valid v w i q r h =
      let (j, f) = in_at v (Placed.exit w i q r) h in
      let (b, k, c, x, a, y, l, lb, la, e, d, un, g, p) = exit_argument v j w i q r f in
      subst (λ (z : Position). Valid z t) (sym e) (pos_valid a la)

  unnamed : (v w i : ℕ) (p : Position) (x r o k c : ℕ) → In (Placed.exit w i (p ++ (x ∷ [])) r) (fr v) → FrameAt (fr w) i (Placed.job p o (suc k) c r) → Unnamed x (drop k (steps B o))
  unnamed v w i p x r o k c h f =
      let (j, fj) = in_at v (Placed.exit w i (p ++ (x ∷ [])) r) h in
      let (b, k', c', x', a, y, l, lb, la, e, d, un, g, pt) = exit_argument v j w i (p ++ (x ∷ [])) r fj in
      let (b₂, lb₂, ep, eo, er, l₂, y₂) = job_seat w i p o (suc k) c r f in
      let q : Frame.job b (suc k') c' ≡ Frame.job b₂ (suc k) c = sym y ∙ y₂ in
      let eb : b ≡ b₂ = cc in
      let ek : k' ≡ k = cc in
      let ex : x ≡ x' = same_last p (pos b) x x' d in
      subst (λ (z : ℕ). Unnamed z (drop k (steps B o))) (sym ex)
      (subst (λ (z : ℕ). Unnamed x' (drop k (steps B z))) (ap (λ (z : ℕ). operator z) eb ∙ sym eo)
      (subst (λ (z : ℕ). Unnamed x' (drop z (steps B (operator b)))) ek un))

  counts : (v i : ℕ) (p : Position) (o k c r : ℕ) → FrameAt (fr v) i (Placed.job p o (suc k) c r) → InGroup (drop k (steps B o)) →
      c ≡ forks_left (drop k (steps B o)) + upto (λ u. exits_to v i (stack_of t (fr u))) (length U)
  unfolding steps_left
  counts v i p o k c r f g =
      let (a, la, ep, eo, er, l, y) = job_seat v i p o (suc k) c r f in
      let e : drop k (steps B o) ≡ drop k (steps B (operator a)) = ap (λ (z : ℕ). drop k (steps B z)) eo in
      let x = m.counts v i a (suc k) c l y (subst (λ (z : List Step). InGroup z) e g) in
      let n = upto_same (λ u. exits_to v i (stack_of t (fr u))) (λ u. exits_to v i (stack s u)) (length U) (λ u. ap (exits_to v i) (stack_is u)) in
      let n₂ = ap (upto (λ u. exits_to v i (stack s u))) many_units in
      let n₃ = ap forks_left e in
      omega (arith, x, n, n₂, n₃)

  distinct : (x n : ℕ) → upto (λ v. jobs_at x (stack_of t (fr v))) n ≤ 1
  distinct x n =
      let a = upto_same (λ v. jobs_at x (stack_of t (fr v))) (λ v. jobs_at x (stack s v)) n (λ v. ap (jobs_at x) (stack_is v)) in
      let b = m.distinct x n in omega (arith, a, b)

  -- NO TWO AT ONE POSITION

  job_unit : (u j a k c : ℕ) → j < length (stack s u) → frame s u j ≡ Frame.job a k c → u < units
  job_unit u j a k c l e = go s.units u l e
    where
      go : (us : List FlatUnit) (u : ℕ) → j < length (unit us u).stack → nth_frame j (unit us u).stack ≡ Frame.job a k c → u < length us
      go [] u l e =
          absurd (
          let z : nth_frame j (Frame.sleep ∷ []) ≡ Frame.sleep = frame_here j Frame.sleep [] (omega (arith, l)) in
          let q : Frame.sleep ≡ Frame.job a k c = sym z ∙ e in
          let y : ◌≡◌ {A = ℕ} 0 1 = cc in omega arith
          )
      go (x ∷ us) zero l e = omega arith
      go (x ∷ us) (suc u) l e = omega (arith, go us u l e)

  no_job : (v w i u j a k c : ℕ) → OnTop v w i → a ≡ rest v w i → j < length (stack s u) → frame s u j ≡ Frame.job a k c → ⊥
  no_job v w i u j a k c on e l y =
      let x : upto (λ u. jobs_at a (stack s u)) units ≡ 0 = ap (λ (z : ℕ). upto (λ u. jobs_at z (stack s u)) units) e ∙ rest_free v w i on in
      let b = jobs_some a j k c (stack s u) l y in
      let z = upto_one (λ u. jobs_at a (stack s u)) u units (job_unit u j a k c l y) in
      omega (arith, x, b, z)

  apart : (v j w x : ℕ) (q : Position) (r v' j' w' x' r' : ℕ) → FrameAt (fr v) j (Placed.exit w x q r) → FrameAt (fr v') j' (Placed.exit w' x' q r') → (v ≡ v') × (j ≡ j')
  apart v j w x q r v' j' w' x' r' f f' =
      let (b, k, c, y, a, e, l, lb, la, ea, eb, un, g, p) = exit_argument v j w x q r f in
      let (b', k', c', y', a', e', l', lb', la', ea', eb', un', g', p') = exit_argument v' j' w' x' q r' f' in
      let same : a ≡ a' = pos_same a a' la la' (sym ea ∙ ea') in
      let parents : b ≡ b' = pos_same b b' lb lb' (same_parent (pos b) (pos b') y y' (sym eb ∙ eb')) in
      let (ew, ex) = one_frame B sound L s m t spelt correct w x w' x' b' (suc k) c (suc k') c' l l' (e ∙ ap (λ (z : ℕ). Frame.job z (suc k) c) parents) e' in
      by p p' same ew ex
    where
      by : {a a' : ℕ} → Part v j w x a → Part v' j' w' x' a' → a ≡ a' → w ≡ w' → x ≡ x' → (v ≡ v') × (j ≡ j')
      by {a} {a'} (inl (k, c, lj, y, tk)) (inl (k', c', lj', y', tk')) same ew ex =
          let (ev, ej) = one_frame B sound L s m t spelt correct v (suc j) v' (suc j') a' k c k' c' lj lj' (y ∙ ap (λ (z : ℕ). Frame.job z k c) same) y' in
          (ev, omega (arith, ej))
      by {a} {a'} (inl (k, c, lj, y, tk)) (inr (lj', on, ea)) same ew ex = absurd (no_job v' w' x' v (suc j) a k c on (same ∙ ea) lj y)
      by {a} {a'} (inr (lj, on, ea)) (inl (k, c, lj', y, tk)) same ew ex = absurd (no_job v w x v' (suc j') a' k c on (sym same ∙ ea) lj' y)
      by {a} {a'} (inr (lj, on, ea)) (inr (lj', on', ea')) same ew ex =
          let on₂ : OnTop v' w x = subst (λ (z : ℕ). OnTop v' z x) (sym ew) (subst (λ (z : ℕ). OnTop v' w' z) (sym ex) on') in
          let er : rest v w x ≡ rest v' w x = sym ea ∙ same ∙ ea' ∙ ap₂ (λ (z y : ℕ). rest v' z y) (sym ew) (sym ex) in
          let ev : v ≡ v' = rest_apart v v' w x on on₂ er in
          (ev, (let n = ap (λ (z : ℕ). length (stack s z)) ev in omega (arith, lj, lj', n)))

  free : (v w i : ℕ) (q : Position) (r : ℕ) (lo : List Placed) → Site none (fr v) none (Placed.exit w i q r) lo → (v' i' o k c r' : ℕ) →
      FrameAt (fr v') i' (Placed.job q o k c r') → ⊥
  free v w i q r lo st v' i' o k c r' f' =
      let f = site_frame none (fr v) none (Placed.exit w i q r) lo st in
      let (b, k₂, c₂, y, a, e, l, lb, la, ea, eb, un, g, p) = exit_argument v (length lo) w i q r f in
      let (a', la', ep, eo, er, l', y') = job_seat v' i' q o k c r' f' in
      let same : a' ≡ a = pos_same a' a la' la (sym ep ∙ ea) in
      let top : suc (length lo) ≡ length (stack s v) = sym (ap length (site_top (fr v) (Placed.exit w i q r) lo st)) ∙ fr_length v in
      by p same top l' y'
    where
      by : {a a' : ℕ} → Part v (length lo) w i a → a' ≡ a → suc (length lo) ≡ length (stack s v) → i' < length (stack s v') → frame s v' i' ≡ Frame.job a' k c → ⊥
      by {a} {a'} (inl (k₂, c₂, lj, y, tk)) same top l y' = omega (arith, lj, top)
      by {a} {a'} (inr (lj, on, ea)) same top l y' = no_job v w i v' i' a' k c on (same ∙ ea) l y'

  -- THE FRAMES' OWN RULES

  good_seat : (v : ℕ) (up : Frame) (fs : List Frame) → ((a k c : ℕ) → In (Frame.job a k c) fs → Job B xs a k c) → GoodFrames B t (sits v up fs)
  unfolding seat seat_frame
  good_seat v up [] h = tt
  good_seat v up (Frame.job a zero c ∷ fs) h =
      let j = h a zero c (inl refl) in
      (((pos_valid a j.0, refl), j.1), good_seat v (Frame.job a zero c) fs (λ x y z q. h x y z (inr q)))
  good_seat v up (Frame.job a (suc k) c ∷ fs) h =
      let j = h a (suc k) c (inl refl) in
      let P : ℕ → Type 0 = λ z. let ss = drop k (steps B z) in Some ss × (c ≤ next_count ss) × (InGroup ss ⊎ (c ≡ next_count ss)) in
      let r : P (label (subterm (pos a) t)) = subst P (pos_operator a j.0) (j.1, j.2, j.3) in
      (((pos_valid a j.0, refl), r.0, r.1, r.2), good_seat v (Frame.job a (suc k) c) fs (λ x y z q. h x y z (inr q)))
  good_seat v up (Frame.exit w i ∷ fs) h = (tt, good_seat v (Frame.exit w i) fs (λ x y z q. h x y z (inr q)))
  good_seat v up (Frame.sleep ∷ fs) h = (tt, good_seat v Frame.sleep fs (λ x y z q. h x y z (inr q)))
  good_seat v up (Frame.bingo ∷ fs) h = (tt, good_seat v Frame.bingo fs (λ x y z q. h x y z (inr q)))

  numbered_seat : (v : ℕ) (up : Frame) (fs : List Frame) → ((a k c : ℕ) → In (Frame.job a k c) fs → a < length xs) → Numbered B t (sits v up fs)
  unfolding seat seat_frame
  numbered_seat v up [] h = tt
  numbered_seat v up (Frame.job a k c ∷ fs) h =
      (ap (number B (preorder t)) (sym (pos_offset a (h a k c (inl refl)))), numbered_seat v (Frame.job a k c) fs (λ x y z q. h x y z (inr q)))
  numbered_seat v up (Frame.exit w i ∷ fs) h = numbered_seat v (Frame.exit w i) fs (λ x y z q. h x y z (inr q))
  numbered_seat v up (Frame.sleep ∷ fs) h = numbered_seat v Frame.sleep fs (λ x y z q. h x y z (inr q))
  numbered_seat v up (Frame.bingo ∷ fs) h = numbered_seat v Frame.bingo fs (λ x y z q. h x y z (inr q))

  -- THE JOB OF A JOIN

  joined : (w i b k c r : ℕ) (q : Position) (up : Frame) (fs : List Frame) → i < length fs → nth_frame i fs ≡ Frame.job b (suc k) c → InGroup (drop k (steps B (label (subterm (pos b) t)))) →
      r ≡ number B (preorder t) b → (x : ℕ) → q ≡ pos b ++ (x ∷ []) → JoinAt B (sits w up fs) i r q
  unfolding seat
  joined w i b k c r q up [] l e g n x d = absurd (omega (arith, l))
  joined w i b k c r q up (f ∷ fs) l e g n x d =
      elim (eqb_cases i (length fs)) [
        | inl p ↦
            (let f₂ : f ≡ Frame.job b (suc k) c = sym (frame_here i f fs p.1) ∙ e in
            inl (p.1 ∙ sym (seat_length B t join rest w f fs), subst (λ (z : Frame). Placing.Holds B (seat_frame B t join rest w up z) r q) (sym f₂) (unfold seat_frame in (g, n, (x, d)))))
        | inr p ↦ (let y = p.1 in inr (joined w i b k c r q f fs (omega (arith, y, l)) (sym (frame_past i f fs p.1) ∙ e) g n x d))
      ]

  exits_seat : (u w i : ℕ) (q : Position) (r : ℕ) → In (Placed.exit w i q r) (fr u) → (w ≢ u) × JoinAt B (fr w) i r q
  unfolding join join_of
  exits_seat u w i q r h =
      let (j, f) = in_at u (Placed.exit w i q r) h in
      let (a₂, e₂, er, l₂, y, p₂) = exit_seat u j w i q r f in
      let (b, k, c, x, a, e, l, lb, la, ea, eb, un, g, p) = exit_argument u j w i q r f in
      let ex = m.exits u w i (frame_there u j (Frame.exit w i) l₂ y) in (
        ex.0,
        subst (λ (z : List Placed). JoinAt B z i r q) (sym (fr_is w))
            (joined w i b k c r q Frame.sleep (stack s w) l e (subst (λ (z : ℕ). InGroup (drop k (steps B z))) (pos_operator b lb) g) (er ∙ ap join_of e) x eb),
      )

  -- THE STACKS

  under_seat : (v a k c : ℕ) (fs : List Frame) → a < length xs → ((x y z : ℕ) → In (Frame.job x y z) fs → x < length xs) → Carries B xs (frame s) a fs →
      Under B (pos a) (sits v (Frame.job a k c) fs)
  unfolding seat seat_frame part offset
  under_seat v a k c [] l sub h = absurd h
  under_seat v a k c (Frame.job b zero d ∷ fs) l sub h = absurd h
  under_seat v a k c (Frame.job b (suc k') d ∷ fs) l sub (x, lx, e, un) =
      let lb = sub b (suc k') d (inl refl) in
      let (n, q) = pos_argument b x lb lx in
      (x, ap (λ (z : ℕ). pos z) e ∙ q, subst (λ (z : ℕ). Unnamed x (drop k' (steps B z))) (pos_operator b lb) un)
  under_seat v a k c (Frame.exit w i ∷ fs) l sub h = refl
  under_seat v a k c (Frame.sleep ∷ fs) l sub h = absurd h
  under_seat v a k c (Frame.bingo ∷ fs) l sub h = offset_unique (pos a) [] t (pos_valid a l) tt (pos_offset a l ∙ h)

  rests_seat : (v : ℕ) (up : Frame) (fs : List Frame) → ((x y z : ℕ) → In (Frame.job x y z) fs → x < length xs) → Holds B xs fs → Rests B (sits v up fs)
  unfolding seat seat_frame
  rests_seat v up [] sub h = absurd h
  rests_seat v up (Frame.job a zero c ∷ fs) sub h = absurd h
  rests_seat v up (Frame.job a (suc k) c ∷ fs) sub h =
      let e = pos_operator a (sub a (suc k) c (inl refl)) in
      (subst (λ (z : ℕ). AtJoin (drop k (steps B z))) e h.0, subst (λ (z : ℕ). 1 ≤ next_count (drop k (steps B z))) e h.1)
  rests_seat v up (Frame.exit w i ∷ fs) sub h = absurd h
  rests_seat v up (Frame.sleep ∷ fs) sub h = tt
  rests_seat v up (Frame.bingo ∷ fs) sub h = absurd h

  stacked_seat : (v : ℕ) (up : Frame) (fs : List Frame) → ((x y z : ℕ) → In (Frame.job x y z) fs → x < length xs) → Stacked B xs (frame s) v fs → Placing.Stacked B (sits v up fs)
  unfolding seat seat_frame
  stacked_seat v up [] sub h = absurd h
  stacked_seat v up (Frame.job a k c ∷ fs) sub h =
      (under_seat v a k c fs (sub a k c (inl refl)) (λ x y z q. sub x y z (inr q)) h.0, stacked_seat v (Frame.job a k c) fs (λ x y z q. sub x y z (inr q)) h.1)
  stacked_seat v up (Frame.exit w i ∷ fs) sub h =
      (rests_seat v (Frame.exit w i) fs (λ x y z q. sub x y z (inr q)) h.0, stacked_seat v (Frame.exit w i) fs (λ x y z q. sub x y z (inr q)) h.1)
  stacked_seat v up (Frame.sleep ∷ fs) sub h = ap (λ (z : List Frame). sits v Frame.sleep z) h.0
  stacked_seat v up (Frame.bingo ∷ fs) sub h = ap (λ (z : List Frame). sits v Frame.bingo z) h.0

  ends_seat : (v : ℕ) (up : Frame) (fs : List Frame) → Stacked B xs (frame s) v fs → Ends v (sits v up fs)
  unfolding seat seat_frame
  ends_seat v up [] h = absurd h
  ends_seat v up (Frame.job a k c ∷ fs) h = let r = ends_seat v (Frame.job a k c) fs h.1 in (λ l. inr (r.0 l), λ l. inr (r.1 l))
  ends_seat v up (Frame.exit w i ∷ fs) h = let r = ends_seat v (Frame.exit w i) fs h.1 in (λ l. inr (r.0 l), λ l. inr (r.1 l))
  ends_seat v up (Frame.sleep ∷ fs) h = (λ l. inl refl, λ e. absurd (let z = h.1 in omega (arith, z, e)))
  ends_seat v up (Frame.bingo ∷ fs) h = (λ l. absurd (let z = h.1 in omega (arith, z, l)), λ e. inl refl)

  -- THE ORDER OF PLACING

  site_split : (up₀ : Option Placed) (gs : List Placed) (up : Option Placed) (g : Placed) (lo : List Placed) → Site up₀ gs up g lo → (high : List Placed) × (gs ≡ high ++ (g ∷ lo))
  site_split up₀ [] up g lo st = absurd st
  site_split up₀ (x ∷ gs) up g lo (inl st) = ([], ap₂ (λ (y : Placed) (z : List Placed). y ∷ z) st.1 st.2)
  site_split up₀ (x ∷ gs) up g lo (inr st) = let (high, e) = site_split (some x) gs up g lo st in (x ∷ high, ap (λ (z : List Placed). x ∷ z) e)

  exits_append : (fs gs : List Frame) → exits_in (fs ++ gs) ≡ exits_in fs + exits_in gs
  unfolding exits_in
  exits_append [] gs = omega arith
  exits_append (Frame.job a k c ∷ fs) gs = exits_append fs gs
  exits_append (Frame.exit w i ∷ fs) gs = omega (arith, exits_append fs gs)
  exits_append (Frame.sleep ∷ fs) gs = exits_append fs gs
  exits_append (Frame.bingo ∷ fs) gs = exits_append fs gs

  exits_are : (gs : List Placed) → exits_in (stack_of t gs) ≡ exits gs
  unfolding exits_in exits_of frame_of
  exits_are [] = refl
  exits_are (Placed.job p o k c r ∷ gs) = exits_are gs
  exits_are (Placed.exit w i q r ∷ gs) = ap suc (exits_are gs)
  exits_are (Placed.sleep ∷ gs) = exits_are gs
  exits_are (Placed.bingo ∷ gs) = exits_are gs

  -- the EXITs above a frame, and those from it down
  exits_over : (v : ℕ) (up : Option Placed) (g : Placed) (lo : List Placed) → Site none (fr v) up g lo →
      times v s.placed ≡ exits_in (above (length lo) (stack s v)) + exits (g ∷ lo)
  exits_over v up g lo st =
      let (high, e) = site_split none (fr v) up g lo st in
      let whole : stack s v ≡ stack_of t high ++ (frame_of t g ∷ stack_of t lo) = sym (stack_is v) ∙ ap (stack_of t) e ∙ map-append (frame_of t) high (g ∷ lo) in
      let a : above (length lo) (stack s v) ≡ stack_of t high =
      ap₂ (λ (n : ℕ) (z : List Frame). above n z) (sym (stack_length t lo)) whole ∙ above_is (stack_of t high) (frame_of t g) (stack_of t lo) in
      let b = m.placing.many v in
      let c = ap exits_in whole in
      let d = exits_append (stack_of t high) (frame_of t g ∷ stack_of t lo) in
      let f = exits_are (g ∷ lo) in
      let h = ap exits_in a in
      omega (arith, b, c, d, f, h)

  many : (v : ℕ) → exits (fr v) ≡ times v s.placed
  many v = sym (exits_are (fr v)) ∙ ap exits_in (stack_is v) ∙ m.placing.many v

  earlier : (v : ℕ) (up : Option Placed) (w : ℕ) (q : Position) (r : ℕ) (lo : List Placed) (up' : Option Placed) (p : Position) (o k c : ℕ) (lo' : List Placed) (later before : List ℕ) →
      Site none (fr v) up (Placed.exit w (length lo') q r) lo → Site none (fr w) up' (Placed.job p o (suc k) c r) lo' → s.placed ≡ later ++ (v ∷ before) →
      times v before ≡ exits lo → exits lo' ≤ times w before
  unfolding exits_of
  earlier v up w q r lo up' p o k c lo' later before st st' e f =
      let (a, ea, er, l, y, pt) = exit_seat v (length lo) w (length lo') q r (site_frame none (fr v) up (Placed.exit w (length lo') q r) lo st) in
      let x = exits_over v up (Placed.exit w (length lo') q r) lo st in
      let x' = exits_over w up' (Placed.job p o (suc k) c r) lo' st' in
      let n = ap (times v) e ∙ times_append v later (v ∷ before) in
      let n₂ = times_cons v v before in
      let n₃ = same_is v v 1 refl in
      let n' = ap (times w) e ∙ times_append w later (v ∷ before) in
      let n₄ = times_cons w v before in
      let n₅ = times_cons w v later in
      let g = m.placing.earlier later v before (length lo) w (length lo') e l y (omega (arith, x, n, n₂, n₃, f)) in
      omega (arith, g, x', n', n₄, n₅)

  pub seats : Seats B t U s.placed
  seats = record {
    good = record {
      correct = correct;
      jobs = λ v. subst (GoodFrames B t) (sym (fr_is v)) (good_seat v Frame.sleep (stack s v) (λ a k c h. m.job v a k c h));
      exits = exits_seat;
      stacked = λ v. subst (λ (z : List Placed). Placing.Stacked B z) (sym (fr_is v))
          (stacked_seat v Frame.sleep (stack s v) (λ a k c h. job_low a k c (m.job v a k c h)) (stacked_any B sound L s m t spelt correct v));
    };
    numbered = λ v. subst (Numbered B t) (sym (fr_is v)) (numbered_seat v Frame.sleep (stack s v) (λ a k c h. job_low a k c (m.job v a k c h)));
    distinct = distinct;
    valid = valid;
    apart = apart;
    unnamed = unnamed;
    free = free;
    counts = counts;
    ends = λ v. subst (Ends v) (sym (fr_is v)) (ends_seat v Frame.sleep (stack s v) (stacked_any B sound L s m t spelt correct v));
    many = many;
    earlier = earlier;
  }
