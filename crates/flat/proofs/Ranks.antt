-- The idle queue as ranks: a unit's place in the queue, when another joins at the end and when one leaves; the machine on lists finds the queue's first,
-- and counts how long it is. Assumes nothing.
use mathlib.Core.Bool.{Bool, true, false}
use mathlib.Core.List.{List, [], ◌∷◌, ◌++◌, map}
use mathlib.Core.Logic.{inl, inr, ◌≢◌}
use mathlib.Core.Option.{none, some, none-ne-some, some-injective}
use mathlib.Core.Path.{◌≡◌, refl, sym, ◌∙◌, ap, ap₂, subst}
use Prim.Native.Nat.{ℕ, zero, suc, ◌+◌, pred, ◌<◌, ◌≤◌}
use native.Mathlib.Omega.{arith}
use lib.Dec.{eqb}
use lib.ListN.{length, get_elem?, length-set}
use lib.ListN.{set as put}
use lib.Seq.{get_or-set_same, get_or-set_other, set-set}
use Rattle.paper.specs.Book.{Term, Book}
use Rattle.paper.specs.Machine
use Rattle.paper.specs.Machine.{UnitState, unit_state, still_idle}
use Rattle.paper.specs.Idle.{times, once_if_idle}
use Rattle.paper.specs.Sound.{In}
use Rattle.paper.proofs.Idle.{counted_idle}
use Rattle.paper.proofs.Numbers.{if_same, same_is, other_is}
use Rattle.paper.proofs.Queue.{times_cons}
use Rattle.paper.proofs.Tests.{eqb_cases, ltb_cases, eqb_true, eqb_false, ltb_true, ltb_false}
use Rattle.flat.specs.Machine as Flat
use Rattle.flat.specs.Machine.{FlatUnit, left, idle_count, first_from, first_idle}
use Rattle.flat.specs.Rules.{of_rank, upto}
use Rattle.flat.specs.Relation.{Placed, PlacedUnit, placed_unit, asleep, at, busy, behind, place, Ranked, list_of, unit_state_of, unit_of, JoinAt, GoodFrames, Stacked}
use Rattle.flat.proofs.Stacks.{wake, map_length, map_put, unit_state_at, put_all, put_same}
use Rattle.flat.proofs.Lists.{upto_same, upto_zero, upto_add}
use Rattle.flat.proofs.Relation.{Good}
use Rattle.flat.proofs.Bounds.{sum_one}

-- WHAT BECOMES OF A RANK

pub left_below : (r k : ℕ) → k < r → left r k ≡ k
unfolding left
left_below zero k l = refl
left_below (suc r) k l = rw (ltb_true k (suc r) l, left)

pub left_here : (r k : ℕ) → 1 ≤ r → k ≡ r → left r k ≡ 0
unfolding left
left_here zero k l e = absurd (omega arith)
left_here (suc r) k l e = rw (ltb_false k (suc r) (omega arith), eqb_true k (suc r) e, left)

pub left_above : (r k : ℕ) → 1 ≤ r → r < k → left r k ≡ pred k
unfolding left
left_above zero k l h = absurd (omega arith)
left_above (suc r) k l h = rw (ltb_false k (suc r) (omega arith), eqb_false k (suc r) (λ e. omega arith), left)

-- one place further back, all is the same
behind_left : (r k : ℕ) → behind (left r k) ≡ left (behind r) (behind k)
unfolding left behind
behind_left zero k = refl
behind_left (suc r) zero = ap behind (left_below (suc r) 0 (omega arith)) ∙ sym (left_below (suc (suc r)) 0 (omega arith))
behind_left (suc r) (suc k) =
    elim (ltb_cases (suc k) (suc r)) [
      | inl p ↦ ap behind (left_below (suc r) (suc k) p.1) ∙ sym (left_below (suc (suc r)) (suc (suc k)) (omega (arith, p.1)))
      | inr p ↦
          elim (eqb_cases (suc k) (suc r)) [
            | inl e ↦ ap behind (left_here (suc r) (suc k) (omega arith) e.1) ∙ sym (left_here (suc (suc r)) (suc (suc k)) (omega arith) (ap suc e.1))
            | inr e ↦ past k (omega (arith, p.1, e.1))
          ]
    ]
  where
    past : (k : ℕ) → r < k → behind (left (suc r) (suc k)) ≡ left (suc (suc r)) (suc (suc k))
    past zero h = absurd (omega arith)
    past (suc k) h = ap behind (left_above (suc r) (suc (suc k)) (omega arith) (omega arith)) ∙ sym (left_above (suc (suc r)) (suc (suc (suc k))) (omega arith) (omega arith))

pub idle_rank : (r : ℕ) → 1 ≤ r → busy r ≡ false
idle_rank zero l = absurd (omega arith)
idle_rank (suc r) l = refl

-- a unit stays busy or idle, unless it is the one that leaves
busy_left : (r k : ℕ) → (1 ≤ r → k ≢ r) → busy (left r k) ≡ busy k
unfolding left
busy_left zero k h = refl
busy_left (suc r) k h =
    elim (ltb_cases k (suc r)) [
      | inl p ↦ ap busy (left_below (suc r) k p.1)
      | inr p ↦ above k (omega (arith, p.1, h (omega arith)))
    ]
  where
    above : (k : ℕ) → suc r < k → busy (left (suc r) k) ≡ busy k
    above zero h = absurd (omega arith)
    above (suc zero) h = absurd (omega arith)
    above (suc (suc k)) h = ap busy (left_above (suc r) (suc (suc k)) (omega arith) h)

-- PLACES IN A QUEUE

pub place_here : (v w : ℕ) (q : List ℕ) → v ≡ w → place v (w ∷ q) ≡ 1
unfolding place
place_here v w q e = rw (eqb_true v w e, place)

pub place_past : (v w : ℕ) (q : List ℕ) → v ≢ w → place v (w ∷ q) ≡ behind (place v q)
unfolding place
place_past v w q e = rw (eqb_false v w e, place)

pub times_here : (v w : ℕ) (q : List ℕ) → v ≡ w → times v (w ∷ q) ≡ suc (times v q)
times_here v w q e = omega (arith, times_cons v w q, same_is v w 1 e)

pub times_past : (v w : ℕ) (q : List ℕ) → v ≢ w → times v (w ∷ q) ≡ times v q
times_past v w q e = omega (arith, times_cons v w q, other_is v w 1 e)

behind_back : (r : ℕ) → 1 ≤ behind r → 1 ≤ r
unfolding behind
behind_back zero l = l
behind_back (suc r) l = omega arith

pub behind_some : (r : ℕ) → 1 ≤ r → behind r ≡ suc r
unfolding behind
behind_some zero l = absurd (omega arith)
behind_some (suc r) l = refl

behind_same : (r k : ℕ) → behind r ≡ behind k → r ≡ k
unfolding behind
behind_same zero zero e = refl
behind_same zero (suc k) e = absurd (omega arith)
behind_same (suc r) zero e = absurd (omega arith)
behind_same (suc r) (suc k) e = omega arith

behind_most : (r n : ℕ) → r ≤ n → behind r ≤ suc n
unfolding behind
behind_most zero n l = omega arith
behind_most (suc r) n l = omega arith

behind_not_1 : (r : ℕ) → behind r ≢ 1
unfolding behind
behind_not_1 zero e = omega arith
behind_not_1 (suc r) e = omega arith

pub place_none : (v : ℕ) (q : List ℕ) → times v q ≡ 0 → place v q ≡ 0
unfolding place
place_none v [] e = refl
place_none v (w ∷ q) e =
    elim (eqb_cases v w) [
      | inl p ↦ absurd (omega (arith, times_here v w q p.1, e))
      | inr p ↦ place_past v w q p.1 ∙ unfold behind in ap behind (place_none v q (omega (arith, times_past v w q p.1, e)))
    ]

pub place_some : (v : ℕ) (q : List ℕ) → 1 ≤ times v q → 1 ≤ place v q
unfolding times
place_some v [] l = absurd (omega arith)
place_some v (w ∷ q) l =
    elim (eqb_cases v w) [
      | inl p ↦ omega (arith, place_here v w q p.1)
      | inr p ↦
          (let r = place_some v q (omega (arith, l, times_past v w q p.1)) in omega (arith, r, place_past v w q p.1, behind_some (place v q) r))
    ]

pub times_some : (v : ℕ) (q : List ℕ) → 1 ≤ place v q → 1 ≤ times v q
times_some v q l =
    elim (ltb_cases 0 (times v q)) [ inl p ↦ p.1 | inr p ↦ absurd (let e = place_none v q (omega (arith, p.1)) in omega (arith, e, l)) ]

pub place_most : (v : ℕ) (q : List ℕ) → place v q ≤ length q
unfolding place
place_most v [] = omega arith
place_most v (w ∷ q) =
    elim (eqb_cases v w) [
      | inl p ↦ omega (arith, place_here v w q p.1)
      | inr p ↦ omega (arith, place_past v w q p.1, behind_most (place v q) (length q) (place_most v q))
    ]

-- no two stand in one place
pub place_only : (v w : ℕ) (q : List ℕ) → 1 ≤ place v q → place v q ≡ place w q → v ≡ w
unfolding place
place_only v w [] l e = absurd (omega arith)
place_only v w (x ∷ q) l e =
    elim (eqb_cases v x) [
      | inl p ↦
          elim (eqb_cases w x) [
            | inl k ↦ p.1 ∙ sym k.1
            | inr k ↦ absurd (behind_not_1 (place w q) (sym (place_past w x q k.1) ∙ sym e ∙ place_here v x q p.1))
          ]
      | inr p ↦
          elim (eqb_cases w x) [
            | inl k ↦ absurd (behind_not_1 (place v q) (sym (place_past v x q p.1) ∙ e ∙ place_here w x q k.1))
            | inr k ↦
                place_only v w q (behind_back (place v q) (omega (arith, l, place_past v x q p.1)))
                (behind_same (place v q) (place w q) (sym (place_past v x q p.1) ∙ e ∙ place_past w x q k.1))
          ]
    ]

-- each place is somebody's
pub place_of : (q : List ℕ) → ((v : ℕ) → times v q ≤ 1) → (r : ℕ) → 1 ≤ r → r ≤ length q → (v : ℕ) × (place v q ≡ r)
place_of [] h r l m = absurd (omega arith)
place_of (w ∷ q) h zero l m = absurd (omega arith)
place_of (w ∷ q) h (suc zero) l m = (w, place_here w w q refl)
place_of (w ∷ q) h (suc (suc r)) l m =
    let (v, e) = place_of q (λ x. omega (arith, h x, times_cons x w q)) (suc r) (omega arith) (omega arith) in
    (v, place_past v w q (λ z. let a = h v in let b = times_here v w q z in let c = times_some v q (omega (arith, e)) in omega (arith, a, b, c)) ∙ behind_some (place v q) (omega (arith, e)) ∙ ap suc e)

-- one joins at the end
pub place_joined : (u : ℕ) (q : List ℕ) → place u q ≡ 0 → place u (q ++ (u ∷ [])) ≡ suc (length q)
unfolding place
place_joined u [] e = place_here u u [] refl
place_joined u (w ∷ q) e =
    elim (eqb_cases u w) [
      | inl p ↦ absurd (omega (arith, e, place_here u w q p.1))
      | inr p ↦
          place_past u w (q ++ (u ∷ [])) p.1
          ∙ unfold behind in ap behind (place_joined u q (behind_same (place u q) 0 (sym (place_past u w q p.1) ∙ e)))
    ]

pub place_kept : (w u : ℕ) (q : List ℕ) → w ≢ u → place w (q ++ (u ∷ [])) ≡ place w q
unfolding place
place_kept w u [] ne = place_past w u [] ne
place_kept w u (x ∷ q) ne =
    elim (eqb_cases w x) [
      | inl p ↦ place_here w x (q ++ (u ∷ [])) p.1 ∙ sym (place_here w x q p.1)
      | inr p ↦ place_past w x (q ++ (u ∷ [])) p.1 ∙ ap behind (place_kept w u q ne) ∙ sym (place_past w x q p.1)
    ]

-- none leaves; only v leaves, if it stands there
pub still_all : (xs : List UnitState) (q : List ℕ) → ((w : ℕ) → 1 ≤ times w q → (Machine.unit xs w).busy ≡ false) → still_idle xs q ≡ q
unfolding still_idle
still_all xs [] h = refl
still_all xs (w ∷ q) h =
    rw (h w (omega (arith, times_here w w q refl)), still_idle) (ap (λ (z : List ℕ). w ∷ z) (still_all xs q (λ x l. h x (omega (arith, l, times_cons x w q)))))

pub still_one : (xs : List UnitState) (v : ℕ) → (Machine.unit xs v).busy ≡ true → (q : List ℕ) → ((w : ℕ) → w ≢ v → 1 ≤ times w q → (Machine.unit xs w).busy ≡ false) →
    times v q ≤ 1 → (w : ℕ) → place w (still_idle xs q) ≡ left (place v q) (place w q)
unfolding still_idle place left
still_one xs v b [] h o w = refl
still_one xs v b (x ∷ q) h o w =
    elim (eqb_cases v x) [
      | inl p ↦
          let z : times v q ≡ 0 = omega (arith, o, times_here v x q p.1) in
          let gone : still_idle xs (x ∷ q) ≡ q =
          rw (ap (λ (y : ℕ). (Machine.unit xs y).busy) (sym p.1) ∙ b, still_idle)
          (still_all xs q (λ y l. h y (λ e. let a = ap (λ (i : ℕ). times i q) e in omega (arith, a, z, l)) (omega (arith, l, times_cons y x q)))) in
          ap (place w) gone ∙ first p.1 z ∙ ap (λ (r : ℕ). left r (place w (x ∷ q))) (sym (place_here v x q p.1))
      | inr p ↦
          let kept : still_idle xs (x ∷ q) ≡ x ∷ still_idle xs q = rw (h x (λ e. p.1 (sym e)) (omega (arith, times_here x x q refl)), still_idle) refl in
          ap (place w) kept ∙ further p.1 (still_one xs v b q (λ y ne l. h y ne (omega (arith, l, times_cons y x q))) (omega (arith, o, times_past v x q p.1)) w)
          ∙ ap (λ (r : ℕ). left r (place w (x ∷ q))) (sym (place_past v x q p.1))
    ]
  where
    moves_up : (k : ℕ) → k ≡ left 1 (behind k)
    moves_up zero = unfold behind in sym (left_below 1 0 (omega arith))
    moves_up (suc k) = unfold behind in sym (left_above 1 (suc (suc k)) (omega arith) (omega arith))

    first : v ≡ x → times v q ≡ 0 → place w q ≡ left 1 (place w (x ∷ q))
    first e z =
        elim (eqb_cases w x) [
          | inl p ↦
              place_none w q (ap (λ (y : ℕ). times y q) (p.1 ∙ sym e) ∙ z) ∙ sym (left_here 1 1 (omega arith) refl)
              ∙ ap (left 1) (sym (place_here w x q p.1))
          | inr p ↦ moves_up (place w q) ∙ ap (left 1) (sym (place_past w x q p.1))
        ]

    stays : (r : ℕ) → 1 ≡ left (behind r) 1
    stays zero = unfold behind left in refl
    stays (suc r) = unfold behind in sym (left_below (suc (suc r)) 1 (omega arith))

    further : v ≢ x → place w (still_idle xs q) ≡ left (place v q) (place w q) → place w (x ∷ still_idle xs q) ≡ left (behind (place v q)) (place w (x ∷ q))
    further ne e =
        elim (eqb_cases w x) [
          | inl p ↦
              place_here w x (still_idle xs q) p.1 ∙ stays (place v q) ∙ ap (left (behind (place v q))) (sym (place_here w x q p.1))
          | inr p ↦
              place_past w x (still_idle xs q) p.1 ∙ ap behind e ∙ behind_left (place v q) (place w q)
              ∙ ap (left (behind (place v q))) (sym (place_past w x q p.1))
        ]

pub first_place : (v : ℕ) (q : List ℕ) → get_elem? q 0 ≡ some v → place v q ≡ 1
first_place v [] e = absurd (none-ne-some _ e)
first_place v (w ∷ q) e = place_here v w q (sym (some-injective _ _ e))

-- HOW LONG THE QUEUE IS

upto_first : (f : ℕ → ℕ) (n : ℕ) → upto f (suc n) ≡ f 0 + upto (λ v. f (suc v)) n
unfolding upto
upto_first f zero = refl
upto_first f (suc n) = omega (arith, upto_first f n)

times_turned : (v w : ℕ) (q : List ℕ) → times v (w ∷ q) ≡ if_same w v 1 + times v q
times_turned v w q =
    elim (eqb_cases w v) [
      | inl p ↦ omega (arith, times_here v w q (sym p.1), same_is w v 1 p.1)
      | inr p ↦ omega (arith, times_past v w q (λ e. p.1 (sym e)), other_is w v 1 p.1)
    ]

times_all : (q : List ℕ) (n : ℕ) → ((v : ℕ) → 1 ≤ times v q → v < n) → upto (λ v. times v q) n ≡ length q
unfolding times
times_all [] n h = upto_zero (λ v. 0) n (λ v. refl)
times_all (w ∷ q) n h =
    omega (
      arith,
      upto_same (λ v. times v (w ∷ q)) (λ v. if_same w v 1 + times v q) n (λ v. times_turned v w q),
      upto_add (λ v. if_same w v 1) (λ v. times v q) n,
      sum_one w n (h w (omega (arith, times_here w w q refl))),
      times_all q n (λ v l. h v (omega (arith, l, times_cons v w q))),
    )

module _ (B : Book) (t : Term) where
  counted_all : (U : List PlacedUnit) → upto (λ v. once_if_idle v (map (unit_state_of B) U)) (length U) ≡ idle_count (map (unit_of t) U)
  unfolding once_if_idle idle_count upto
  counted_all [] = refl
  counted_all (x ∷ U) =
      upto_first (λ v. once_if_idle v (map (unit_state_of B) (x ∷ U))) (length U) ∙ go x.rank _ (idle_count (map (unit_of t) U)) (counted_all U)
    where
      go : (r m n : ℕ) → m ≡ n → elim (busy r) as (λ z. ℕ) [ true ↦ 0 | false ↦ 1 ] + m ≡ elim (eqb r 0) as (λ z. ℕ) [ true ↦ n | false ↦ suc n ]
      go zero m n e = omega arith
      go (suc r) m n e = rw (eqb_false (suc r) 0 (λ z. omega arith)) (omega arith)

once_most : (v : ℕ) (xs : List UnitState) → once_if_idle v xs ≤ 1
unfolding once_if_idle
once_most v [] = omega arith
once_most zero (x ∷ xs) = go x.busy
  where
    go : (b : Bool) → elim b as (λ z. ℕ) [ true ↦ 0 | false ↦ 1 ] ≤ 1
    go true = omega arith
    go false = omega arith
once_most (suc v) (x ∷ xs) = once_most v xs

-- who stands in the queue is one of the units, and stands there once; the queue is as long as the machine on lists counts
module _ (B : Book) (U : List PlacedUnit) (q : List ℕ) (qd : (v : ℕ) → times v q ≡ once_if_idle v (map (unit_state_of B) U)) where
  pub queued_inside : (w : ℕ) → 1 ≤ times w q → w < length U
  queued_inside w l = omega (arith, (counted_idle w (map (unit_state_of B) U) (omega (arith, l, qd w))).0, map_length (unit_state_of B) U)

  pub queued_once : (w : ℕ) → times w q ≤ 1
  queued_once w = omega (arith, qd w, once_most w (map (unit_state_of B) U))

  pub queue_length : (t : Term) → length q ≡ idle_count (map (unit_of t) U)
  queue_length t =
      sym (times_all q (length U) queued_inside)
      ∙ upto_same (λ v. times v q) (λ v. once_if_idle v (map (unit_state_of B) U)) (length U) qd ∙ counted_all B t U

-- UNITS WITH RANKS

-- the unit of rank r leaves
abbrev pub leave_at : ℕ → List PlacedUnit → List PlacedUnit
leave_at r U = map (λ (x : PlacedUnit). placed_unit (left r x.rank) x.frames) U

pub left_frames : (r : ℕ) (U : List PlacedUnit) (v : ℕ) → (at (leave_at r U) v).frames ≡ (at U v).frames
left_frames r [] v = refl
left_frames r (x ∷ U) zero = refl
left_frames r (x ∷ U) (suc v) = left_frames r U v

left_rank : (r : ℕ) (U : List PlacedUnit) (v : ℕ) → v < length U → (at (leave_at r U) v).rank ≡ left r (at U v).rank
left_rank r [] v l = absurd (omega arith)
left_rank r (x ∷ U) zero l = refl
left_rank r (x ∷ U) (suc v) l = left_rank r U v (omega arith)

pub left_flat : (t : Term) (r : ℕ) (U : List PlacedUnit) → Flat.leave r (map (unit_of t) U) ≡ map (unit_of t) (leave_at r U)
left_flat t r [] = refl
left_flat t r (x ∷ U) = ap (λ (z : List FlatUnit). Flat.flat_unit (left r x.rank) (unit_of t x).stack ∷ z) (left_flat t r U)

pub left_none : (U : List PlacedUnit) → leave_at 0 U ≡ U
unfolding left
left_none [] = refl
left_none (x ∷ U) = ap (λ (z : List PlacedUnit). x ∷ z) (left_none U)

module _ (B : Book) where
  -- no stack changes
  pub good_left : {t : Term} {U : List PlacedUnit} (r : ℕ) → Good B t U → Good B t (leave_at r U)
  good_left {t} {U} r k = record {
    correct = k.correct;
    jobs = λ v. subst (λ (gs : List Placed). GoodFrames B t gs) (sym (left_frames r U v)) (k.jobs v);
    exits = λ v w i p j m.
        (let e = k.exits v w i p j (subst (λ (gs : List Placed). In (Placed.exit w i p j) gs) (left_frames r U v) m) in
        (e.0, subst (λ (gs : List Placed). JoinAt B gs i j p) (sym (left_frames r U w)) e.1));
    stacked = λ v. subst (λ (gs : List Placed). Stacked B gs) (sym (left_frames r U v)) (k.stacked v);
  }

  -- the paper's units: all are as busy as before; but for v, the one that leaves
  abbrev states : List PlacedUnit → List UnitState
  states U = map (unit_state_of B) U

  left_others : (r : ℕ) (U : List PlacedUnit) → 1 ≤ r → ((w : ℕ) → w < length U → (at U w).rank ≢ r) → states (leave_at r U) ≡ states U
  left_others r [] l h = refl
  left_others r (x ∷ U) l h =
      ap₂ (λ (b : Bool) (z : List UnitState). unit_state b (list_of B x.frames) ∷ z) (busy_left r x.rank (λ k. h 0 (omega arith)))
      (left_others r U l (λ w k. h (suc w) (omega arith)))

  left_one : (r : ℕ) (U : List PlacedUnit) (v : ℕ) → 1 ≤ r → v < length U → (at U v).rank ≡ r → ((w : ℕ) → w < length U → (at U w).rank ≡ r → w ≡ v) →
      states (leave_at r U) ≡ put (states U) v (unit_state true (list_of B (at U v).frames))
  left_one r [] v l k e h = absurd (omega arith)
  left_one r (x ∷ U) zero l k e h =
      ap₂ (λ (b : Bool) (z : List UnitState). unit_state b (list_of B x.frames) ∷ z) (ap busy (left_here r x.rank l e))
      (left_others r U l (λ w m c. let a = h (suc w) (omega arith) c in omega (arith, a)))
  left_one r (x ∷ U) (suc v) l k e h =
      ap₂ (λ (b : Bool) (z : List UnitState). unit_state b (list_of B x.frames) ∷ z) (busy_left r x.rank (λ m c. let a = h 0 (omega arith) c in omega (arith, a)))
      (left_one r U v l (omega arith) e (λ w m c. let a = h (suc w) (omega arith) c in let z : w ≡ v = omega (arith, a) in z))

  put_busy : (U : List PlacedUnit) (v : ℕ) → (at U v).rank ≡ 0 → put (states U) v (unit_state true (list_of B (at U v).frames)) ≡ states U
  put_busy [] v e = refl
  put_busy (x ∷ U) zero e = ap (λ (b : Bool). unit_state b (list_of B x.frames) ∷ states U) (sym (ap busy e))
  put_busy (x ∷ U) (suc v) e = ap (λ (z : List UnitState). unit_state_of B x ∷ z) (put_busy U v e)

  pub left_states : (U : List PlacedUnit) (q : List ℕ) (v : ℕ) → Ranked U q → v < length U →
      states (leave_at (at U v).rank U) ≡ put (states U) v (unit_state true (list_of B (at U v).frames))
  left_states U q v h l = go (at U v).rank refl
    where
      go : (r : ℕ) → (at U v).rank ≡ r → states (leave_at r U) ≡ put (states U) v (unit_state true (list_of B (at U v).frames))
      go zero e = ap states (left_none U) ∙ sym (put_busy U v e)
      go (suc r) e =
          left_one (suc r) U v (omega arith) l e
          (λ w k c. sym (place_only v w q (omega (arith, e, h v l)) (sym (h v l) ∙ e ∙ sym c ∙ h w k)))

-- a unit has another stack; a busy one joins the queue; one leaves it
module _ (U : List PlacedUnit) (q : List ℕ) (h : Ranked U q) where
  pub ranked_put : (u r : ℕ) (gs : List Placed) → (at U u).rank ≡ r → Ranked (put U u (placed_unit r gs)) q
  ranked_put u r gs e v l =
      let k = length-set U u (placed_unit r gs) in
      put_all (λ (z : PlacedUnit). z.rank ≡ place v q) U u v (placed_unit r gs)
      (λ c. sym e ∙ ap (λ (w : ℕ). (at U w).rank) (sym c) ∙ h v (omega (arith, l, k))) (h v (omega (arith, l, k)))

  pub ranked_join : (u : ℕ) (gs : List Placed) → (at U u).rank ≡ 0 → Ranked (put U u (placed_unit (suc (length q)) gs)) (q ++ (u ∷ []))
  ranked_join u gs e v l =
      let x = placed_unit (suc (length q)) gs in
      let k : v < length U = omega (arith, l, length-set U u x) in
      elim (eqb_cases v u) [
        | inl p ↦
            ap (λ (w : ℕ). (at (put U u x) w).rank) p.1 ∙ ap (λ (z : PlacedUnit). z.rank) (put_same U u x e)
            ∙ sym (place_joined u q (sym (h u (subst (λ (w : ℕ). w < length U) p.1 k)) ∙ e)) ∙ ap (λ (w : ℕ). place w (q ++ (u ∷ []))) (sym p.1)
        | inr p ↦ ap (λ (z : PlacedUnit). z.rank) (get_or-set_other U u v x (asleep 1) p.1) ∙ h v k ∙ sym (place_kept v u q p.1)
      ]

module _ (B : Book) (q : List ℕ) (m : ℕ) (inside : (w : ℕ) → 1 ≤ times w q → w < m) where
  -- who stands in the queue is idle
  queued_idle : (U : List PlacedUnit) → Ranked U q → m ≤ length U → (w : ℕ) → 1 ≤ times w q → (Machine.unit (states B U) w).busy ≡ false
  queued_idle U h k w l =
      ap (λ (x : UnitState). x.busy) (unit_state_at B U w) ∙ idle_rank (at U w).rank (omega (arith, h w (omega (arith, inside w l, k)), place_some w q l))

  stays_ranked : (U : List PlacedUnit) → Ranked U q → m ≤ length U → Ranked U (still_idle (states B U) q)
  stays_ranked U h k = subst (Ranked U) (sym (still_all (states B U) q (queued_idle U h k))) h

  -- unit v has become x and leaves
  module _ (U : List PlacedUnit) (v : ℕ) (x : PlacedUnit) (h : Ranked (put U v x) q) (k : m ≤ length U) (l : v < length U) (once : times v q ≤ 1) where
    pub left_put : states B (leave_at x.rank (put U v x)) ≡ put (states B U) v (unit_state true (list_of B x.frames))
    left_put =
        let e : at (put U v x) v ≡ x = get_or-set_same U v x (asleep 1) l in
        ap (λ (y : PlacedUnit). states B (leave_at y.rank (put U v x))) (sym e)
        ∙ left_states B (put U v x) q v h (omega (arith, l, length-set U v x))
        ∙ ap (λ (y : PlacedUnit). put (states B (put U v x)) v (unit_state true (list_of B y.frames))) e
        ∙ ap (λ (xs : List UnitState). put xs v (unit_state true (list_of B x.frames))) (sym (map_put (unit_state_of B) U v x))
        ∙ set-set (states B U) v (unit_state_of B x) (unit_state true (list_of B x.frames))

    pub leaves_ranked : Ranked (leave_at x.rank (put U v x)) (still_idle (states B (leave_at x.rank (put U v x))) q)
    leaves_ranked w d =
        let r : ℕ = x.rank in
        let W : List PlacedUnit = put U v x in
        let y : UnitState = unit_state true (list_of B x.frames) in
        let n = length-set U v x in
        let c : w < length W = omega (arith, d, map_length (λ (z : PlacedUnit). placed_unit (left r z.rank) z.frames) W) in
        let e : r ≡ place v q = ap (λ (z : PlacedUnit). z.rank) (sym (get_or-set_same U v x (asleep 1) l)) ∙ h v (omega (arith, l, n)) in
        let b : Machine.unit (put (states B U) v y) v ≡ y = get_or-set_same (states B U) v y Machine.asleep (omega (arith, l, map_length (unit_state_of B) U)) in
        left_rank r W w c ∙ ap₂ left e (h w c)
        ∙ sym (still_one (put (states B U) v y) v (ap (λ (z : UnitState). z.busy) b) q
        (λ j ne z. ap (λ (i : UnitState). i.busy) (get_or-set_other (states B U) v j y Machine.asleep ne
        ∙ sym (get_or-set_other (states B U) v j (unit_state_of B x) Machine.asleep ne)
        ∙ ap (λ (xs : List UnitState). Machine.unit xs j) (map_put (unit_state_of B) U v x))
        ∙ queued_idle W h (omega (arith, k, n)) j z) once w)
        ∙ ap (λ (xs : List UnitState). place w (still_idle xs q)) (sym left_put)

    -- EXIT: it leaves if the count is now 0
    abbrev pub woken_at : Bool → List PlacedUnit
    woken_at z = leave_at (elim z as (λ b. ℕ) [ true ↦ x.rank | false ↦ 0 ]) (put U v x)

    pub woken_put : (z : Bool) → states B (woken_at z) ≡ put (states B U) v (unit_state (wake B z (busy x.rank)) (list_of B x.frames))
    unfolding wake
    woken_put true = left_put
    woken_put false = ap (states B) (left_none (put U v x)) ∙ sym (map_put (unit_state_of B) U v x)

    pub woken_ranked : (z : Bool) → Ranked (woken_at z) (still_idle (states B (woken_at z)) q)
    woken_ranked true = leaves_ranked
    woken_ranked false =
        subst (λ (W : List PlacedUnit). Ranked W (still_idle (states B W) q)) (sym (left_none (put U v x)))
        (stays_ranked (put U v x) h (omega (arith, k, length-set U v x)))

-- EACH RANK IS ONE UNIT'S

none_of : (t : Term) (r : ℕ) (W : List PlacedUnit) → ((w : ℕ) → w < length W → (at W w).rank ≢ r) → of_rank r (map (unit_of t) W) ≡ 0
unfolding of_rank
none_of t r [] o = refl
none_of t r (x ∷ W) o = rw (eqb_false x.rank r (o 0 (omega arith)), of_rank) (none_of t r W (λ w m. o (suc w) (omega arith)))

pub one_of : (t : Term) (r v : ℕ) (W : List PlacedUnit) → v < length W → (at W v).rank ≡ r → ((w : ℕ) → w < length W → (at W w).rank ≡ r → w ≡ v) →
    of_rank r (map (unit_of t) W) ≡ 1
unfolding of_rank
one_of t r v [] l e o = absurd (omega arith)
one_of t r zero (x ∷ W) l e o =
    rw (eqb_true x.rank r e, of_rank) (ap suc (none_of t r W (λ w m c. let a = o (suc w) (omega arith) c in omega (arith, a))))
one_of t r (suc v) (x ∷ W) l e o =
    rw (eqb_false x.rank r (λ c. let a = o 0 (omega arith) c in omega (arith, a)), of_rank)
    (one_of t r v W (omega arith) e (λ w m c. let a = o (suc w) (omega arith) c in let z : w ≡ v = omega (arith, a) in z))

-- the first of the queue is the unit of rank 1
first_is : (t : Term) (k v : ℕ) (W : List PlacedUnit) → v < length W → (at W v).rank ≡ 1 → ((w : ℕ) → w < length W → (at W w).rank ≡ 1 → w ≡ v) →
    first_from k (map (unit_of t) W) ≡ some (k + v)
unfolding first_from
first_is t k v [] l e o = absurd (omega arith)
first_is t k zero (x ∷ W) l e o = rw (e, first_from) (ap some (omega arith))
first_is t k (suc v) (x ∷ W) l e o =
    rw (eqb_false x.rank 1 (λ c. let a = o 0 (omega arith) c in omega (arith, a)), first_from)
    (first_is t (suc k) v W (omega arith) e (λ w m c. let a = o (suc w) (omega arith) c in let z : w ≡ v = omega (arith, a) in z) ∙ ap some (omega arith))

first_none : (t : Term) (k : ℕ) (W : List PlacedUnit) → ((w : ℕ) → w < length W → (at W w).rank ≢ 1) → first_from k (map (unit_of t) W) ≡ none
unfolding first_from
first_none t k [] o = refl
first_none t k (x ∷ W) o = rw (eqb_false x.rank 1 (o 0 (omega arith)), first_from) (first_none t (suc k) W (λ w m. o (suc w) (omega arith)))

pub first_same : (t : Term) (U : List PlacedUnit) (q : List ℕ) → Ranked U q → ((w : ℕ) → 1 ≤ times w q → w < length U) → get_elem? q 0 ≡ first_idle (map (unit_of t) U)
unfolding first_idle
first_same t U [] h k = sym (first_none t 0 U (λ w l e. let a = h w l in let b = place_most w [] in omega (arith, a, b, e)))
first_same t U (v ∷ q) h k =
    let l : v < length U = k v (omega (arith, times_here v v q refl)) in
    let p : place v (v ∷ q) ≡ 1 = place_here v v q refl in
    sym (first_is t 0 v U l (h v l ∙ p) (λ w m e. sym (place_only v w (v ∷ q) (omega (arith, p)) (p ∙ sym e ∙ h w m))) ∙ ap some (omega arith))
