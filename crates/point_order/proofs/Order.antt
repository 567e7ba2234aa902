-- The parts taken off one after another decide the order of placing. A part's EXIT is the one under as many EXITs as parts of its unit were placed later, which is
-- the highest one when those are taken off; and a job is under the EXITs of all parts of its unit that were taken off exactly if it is left. Assumes nothing.
use mathlib.Core.Bool.{Bool, true, not}
use mathlib.Core.List.{List, [], ◌∷◌, ◌++◌, append_assoc, append-nil}
use mathlib.Core.Logic.{inl, inr}
use mathlib.Core.Path.{◌≡◌, refl, sym, ap, ap₂, ◌∙◌}
use Prim.Native.Nat.{ℕ, suc, ◌+◌, ◌≤◌, ◌<◌}
use native.Mathlib.Omega.{arith}
use native.Mathlib.Decide.{ℕ_discrete, dec_lt}
use lib.Dec.{eqb, ltb, leb}
use lib.ListN.{length, get_or, set, length-set, get_or-eq_default}
use lib.Seq.{get_or-set_same, get_or-set_other}
use borrow.Author.Tests.{eq-eqb, ne_eqb, le-leb, lt-leb}
use Rattle.paper.specs.Book.{Book}
use Rattle.paper.specs.Idle.{times}
use Rattle.paper.proofs.Queue.{times_append}
use Rattle.paper.proofs.Tests.{ltb_cases, eqb_cases}
use Rattle.flat.specs.Machine.{Frame, FlatUnit, FlatState, unit}
use Rattle.flat.specs.Rules.{above, exits_in, stack}
use Rattle.flat.specs.Tested.{and, or, each_below, each_of, each_frame, part_good, order_good}
use Rattle.flat.proofs.Ranks.{times_here, times_past}
use Rattle.units.specs.Stacks.{base, stack_of, height_in, Store, units_in}
use Rattle.units.specs.Promises.{StacksFit}
use Rattle.units.specs.declared.frames.Exit.{Exit}
use Rattle.units.proofs.Units.{unit_at}
use Rattle.placing.specs.Order.{placed_in}
use Rattle.point_order.specs.Passing.{part_of, lowered, stands, holds, is_none, none_left, passes}
use Rattle.point_order.specs.Promises.{HeightsOf, OrderDecided}
use Rattle.point_order.specs.declared.Held.{Held}
use Rattle.std.specs.Prelude.{Option, Some, None}
use Rattle.point_order.proofs.Tests.{and_true, and_false, or_true, and_later, below_same, below_false}
use Rattle.point_order.proofs.Exits.{exits, frame, exits_exit, exits_upto, exits_above, none_above, highest_none, highest_at, HighestAt, one_frame}

module _ (B : Book) (z : FlatState) (s : Store) (n : ℕ) (e : z.units ≡ units_in s n) (few : n ≤ 8) where
  abbrev w : List ℕ
  w = s.work

  abbrev h : ℕ → ℕ
  h v = height_in s.cells v

  -- EXITs among the lowest k frames of unit v
  abbrev E : ℕ → ℕ → ℕ
  E v k = exits w (base v) k

  stack_is : (v : ℕ) → v < n → stack z v ≡ stack_of w (base v) (h v)
  stack_is v l = ap (λ (us : List FlatUnit). (unit us v).stack) e ∙ ap (λ (x : FlatUnit). x.stack) (unit_at w s.cells n v l)

  -- The parts of the units `later` were taken off: for each of a unit's parts one EXIT is, the lowest one is the last, and all are of the n units.
  pub record Off (later tops : List ℕ) : Type 0 where
    pub eight : length tops ≡ 8
    pub within : (v : ℕ) → get_or tops v 0 ≤ h v
    pub counted : (v : ℕ) → times v later + E v (get_or tops v 0) ≡ E v (h v)
    pub tight : (v m : ℕ) → get_or tops v 0 < m → m ≤ h v → E v (get_or tops v 0) < E v m
    pub known : (v : ℕ) → n ≤ v → times v later ≡ 0

  heights_all : {tops : List ℕ} → StacksFit s → HeightsOf s.cells tops → (v : ℕ) → get_or tops v 0 ≡ h v
  heights_all {tops} fit t v =
      elim (dec_lt v 8) [
        | yes l ↦ t.are v l
        | no l ↦
            let a = get_or-eq_default tops 0 {n = v} (omega (arith, t.eight)) in
            let b = get_or-eq_default s.cells 0 {n = v} (omega (arith, fit.regions.eight)) in
            omega arith
      ]

  pub off_none : {tops : List ℕ} → StacksFit s → HeightsOf s.cells tops → Off [] tops
  unfolding times
  off_none {tops} fit t = record {
    eight = t.eight;
    within = λ v. omega (arith, heights_all fit t v);
    counted = λ v. omega (arith, ap (E v) (heights_all fit t v));
    tight = λ v m l k. absurd (omega (arith, heights_all fit t v));
    known = λ v l. refl;
  }

  -- A JOB THAT IS LEFT

  module _ {later tops : List ℕ} (p : Off later tops) (u i : ℕ) where
    abbrev top : ℕ
    top = get_or tops u 0

    all_left : times u later ≡ 0 → top ≡ h u
    all_left d =
        elim (dec_lt top (h u)) [
          | yes l ↦ absurd (omega (arith, d, p.counted u, p.tight u (h u) l (omega arith)))
          | no l ↦ omega (arith, p.within u)
        ]

    left_high : top ≡ h u → or (ltb i top) (eqb top (h u)) ≡ true
    unfolding or
    left_high d = ap (or (ltb i top)) (eq-eqb top (h u) d) ∙ or_true (ltb i top)

    abbrev over : ℕ
    over = exits_in (above i (stack_of w (base u) (h u)))

    left_is : leb (times u later) over ≡ or (ltb i top) (eqb top (h u))
    unfolding or
    left_is =
        elim (ltb_cases i top) [
          | inl a ↦
              let c = a.1 in
              le-leb (times u later) over
              (omega (arith, p.within u, p.counted u, exits_above w (base u) i (h u) (omega (arith, p.within u)), exits_upto w (base u) (suc i) top (omega arith)))
              ∙ sym (ap (λ (b : Bool). or b (eqb top (h u))) a.0)
          | inr a ↦
              elim (eqb_cases top (h u)) [
                | inl b ↦ le-leb (times u later) over (omega (arith, p.counted u, ap (E u) b.1)) ∙ sym (left_high b.1)
                | inr b ↦ (let c = a.1 in let d = b.1 in lt-leb (times u later) over (above_less (omega (arith, p.within u)) c) ∙ sym (ap₂ or a.0 b.0))
              ]
        ]
      where
        above_less : top < h u → top ≤ i → over < times u later
        above_less a b =
            elim (dec_lt i (h u)) [
              | yes c ↦ omega (arith, p.counted u, exits_above w (base u) i (h u) c, p.tight u (suc i) (omega arith) (omega arith))
              | no c ↦ omega (arith, p.counted u, none_above w (base u) i (h u) (omega arith), p.tight u (h u) a (omega arith))
            ]

    pub stands_is : leb (times u later) (exits_in (above i (stack z u))) ≡ stands s.cells tops u i
    stands_is =
        elim (dec_lt u n) [
          | yes l ↦ ap (λ (fs : List Frame). leb (times u later) (exits_in (above i fs))) (stack_is u l) ∙ left_is
          | no l ↦ (let k = p.known u (omega arith) in le-leb (times u later) (exits_in (above i (stack z u))) (omega arith) ∙ sym (left_high (all_left k)))
        ]

  -- A PART

  module _ {later tops : List ℕ} (p : Off later tops) (v j : ℕ) (x : Exit) (l : v < n) (q : part_of w tops v ≡ Some (record { index = j; exit = x })) where
    abbrev T : ℕ
    T = get_or tops v 0

    at : HighestAt w (base v) T j x
    at = highest_at w (base v) T j x q

    one_less : E v T ≡ suc (E v j)
    one_less = sym at.last ∙ exits_exit w (base v) j x.unit x.index at.is

    -- the tops, unit v's and another's
    top_here : get_or (set tops v j) v 0 ≡ j
    top_here = get_or-set_same tops v j 0 (omega (arith, p.eight))

    top_else : (u : ℕ) → (u ≡ v → ⊥) → get_or (set tops v j) u 0 ≡ get_or tops u 0
    top_else u d = get_or-set_other tops v u j 0 d

    times_more : (u : ℕ) → times u (later ++ (v ∷ [])) ≡ times u (v ∷ later)
    unfolding times
    times_more u =
        elim (ℕ_discrete u v) [
          | yes d ↦ omega (arith, times_append u later (v ∷ []), times_here u v [] d, times_here u v later d)
          | no d ↦ omega (arith, times_append u later (v ∷ []), times_past u v [] d, times_past u v later d)
        ]

    pub off_more : Off (later ++ (v ∷ [])) (set tops v j)
    off_more = record {
      eight = length-set tops v j ∙ p.eight;
      within = λ u.
          elim (ℕ_discrete u v) [
            | yes d ↦ rw (d, top_here) (omega (arith, at.below, p.within v))
            | no d ↦ rw (top_else u d) (p.within u)
          ];
      counted = λ u.
          elim (ℕ_discrete u v) [
            | yes d ↦ rw (d, top_here) (omega (arith, times_more v, times_here v v later refl, one_less, p.counted v))
            | no d ↦ rw (top_else u d) (omega (arith, times_more u, times_past u v later d, p.counted u))
          ];
      tight = λ u m.
          elim (ℕ_discrete u v) [
            | yes d ↦ rw (d, top_here) (λ a b. omega (arith, one_less, at.last, exits_upto w (base v) (suc j) m (omega arith)))
            | no d ↦ rw (top_else u d) (p.tight u m)
          ];
      known = λ u a. omega (arith, times_more u, times_past u v later (λ d. omega arith), p.known u a);
    }

    count_above : (i : ℕ) → i < h v → exits_in (above i (stack z v)) + E v (suc i) ≡ times v later + E v T
    count_above i m =
        ap (λ (fs : List Frame). exits_in (above i fs) + E v (suc i)) (stack_is v l) ∙ exits_above w (base v) i (h v) m ∙ sym (p.counted v)

    -- no other EXIT has just as many above it
    other : (i : ℕ) → i < h v → (i ≡ j → ⊥) → (f : Frame) → frame w (base v) i ≡ f → part_good B z later v i f ≡ true
    unfolding part_good or
    other i m d (Frame.job a k c) g = refl
    other i m d (Frame.exit u k) g =
        ap (λ (b : Bool). or (not b) (leb (times u (v ∷ later)) (exits_in (above k (stack z u))))) (ne_eqb _ _ (λ y. absurd (differ y)))
      where
        differ : exits_in (above i (stack z v)) ≡ times v later → ⊥
        differ y =
            elim (dec_lt i j) [
              | yes a ↦ omega (arith, count_above i m, one_less, exits_upto w (base v) (suc i) j (omega arith))
              | no a ↦
                  let b : j < i = ne_lt a in
                  omega (arith, count_above i m, at.last, exits_exit w (base v) i u k g, exits_upto w (base v) (suc j) i (omega arith))
            ]
          where
            ne_lt : (i < j → ⊥) → j < i
            ne_lt a = elim (ℕ_discrete i j) [ yes b ↦ absurd (d b) | no b ↦ omega arith ]
    other i m d Frame.sleep g = refl
    other i m d Frame.bingo g = refl

    here : part_good B z later v j (frame w (base v) j) ≡ leb (times x.unit (v ∷ later)) (exits_in (above x.index (stack z x.unit)))
    unfolding part_good or
    here =
        ap (part_good B z later v j) at.is
        ∙ ap (λ (b : Bool). or (not b) (leb (times x.unit (v ∷ later)) (exits_in (above x.index (stack z x.unit)))))
        (eq-eqb (exits_in (above j (stack z v))) (times v later) (omega (arith, count_above j (omega (arith, at.below, p.within v)), at.last)))

    pub part_is : each_frame (part_good B z later v) (stack z v) ≡ stands s.cells (set tops v j) x.unit x.index
    part_is =
        ap (each_frame (part_good B z later v)) (stack_is v l)
        ∙ one_frame w (base v) (part_good B z later v) (h v) j (omega (arith, at.below, p.within v)) (λ i m d. other i m d (frame w (base v) i) refl)
        ∙ here
        ∙ ap (λ (k : ℕ). leb k (exits_in (above x.index (stack z x.unit)))) (sym (times_more x.unit))
        ∙ stands_is off_more x.unit x.index

  -- ALL PARTS

  abbrev Counts : List ℕ → Bool
  Counts all = each_below (λ v. eqb (exits_in (stack z v)) (times v all)) n

  exits_all : (v : ℕ) → v < n → exits_in (stack z v) ≡ E v (h v)
  exits_all v l = ap exits_in (stack_is v l)

  none_is : {later tops : List ℕ} → Off later tops → none_left w n tops ≡ Counts later
  none_is {later} {tops} p = below_same _ _ n (λ v l. go v l (part_of w tops v) refl)
    where
      go : (v : ℕ) → v < n → (x : Option Held) → part_of w tops v ≡ x → is_none x ≡ eqb (exits_in (stack z v)) (times v later)
      go v l (Some y) q = sym (ne_eqb (exits_in (stack z v)) (times v later) (λ d. omega (arith, d, exits_all v l, p.counted v, one_less p v y.index y.exit l q)))
      go v l None q = sym (eq-eqb (exits_in (stack z v)) (times v later) (omega (arith, exits_all v l, p.counted v, highest_none w (base v) (get_or tops v 0) q)))

  pub passes_is : (later before tops all : List ℕ) → Off later tops → all ≡ later ++ before →
      passes s n tops before ≡ and (each_of (λ v. ltb v n) before) (and (Counts all) (order_good B z later before))
  unfolding passes each_of order_good and
  passes_is later [] tops all p d = none_is p ∙ ap Counts (sym (append-nil later) ∙ sym d) ∙ sym (and_true (Counts all))
  passes_is later (v ∷ before) tops all p d =
      elim (ltb_cases v n) [
        | inl a ↦ rw a.0 (go (λ j x q. passes_is (later ++ (v ∷ [])) before (set tops v j) all (off_more p v j x a.1 q) (d ∙ sym (append_assoc later (v ∷ []) before))) a.1 (part_of w tops v) refl)
        | inr a ↦ rw a.0
      ]
    where
      go : ((j : ℕ) (x : Exit) → part_of w tops v ≡ Some (record { index = j; exit = x }) →
          passes s n (set tops v j) before ≡ and (each_of (λ v. ltb v n) before) (and (Counts all) (order_good B z (later ++ (v ∷ [])) before))) →
          v < n → (y : Option Held) → part_of w tops v ≡ y →
          and (holds s.cells (lowered (part_of w tops v) v tops) (part_of w tops v)) (passes s n (lowered (part_of w tops v) v tops) before)
          ≡ and (each_of (λ v. ltb v n) before)
          (and (Counts all) (and (each_frame (part_good B z later v) (stack z v)) (order_good B z (later ++ (v ∷ [])) before)))
      go next l (Some e) q =
          ap (λ (y : Option Held). and (holds s.cells (lowered y v tops) y) (passes s n (lowered y v tops) before)) q
          ∙ ap₂ and (sym (part_is p v e.index e.exit l q)) (next e.index e.exit q)
          ∙ and_later (each_frame (part_good B z later v) (stack z v)) (each_of (λ v. ltb v n) before) (Counts all) (order_good B z (later ++ (v ∷ [])) before)
      go next l None q =
          ap (λ (y : Option Held). and (holds s.cells (lowered y v tops) y) (passes s n (lowered y v tops) before)) q
          ∙ sym (and_false (each_of (λ v. ltb v n) before))
          ∙ ap (λ (b : Bool). and (each_of (λ v. ltb v n) before) (and b (and (each_frame (part_good B z later v) (stack z v)) (order_good B z (later ++ (v ∷ [])) before))))
          (sym (below_false (λ u. eqb (exits_in (stack z u)) (times u all)) n v l
          (ne_eqb (exits_in (stack z v)) (times v all) (λ y. omega (
            arith,
            y,
            exits_all v l,
            p.counted v,
            highest_none w (base v) (get_or tops v 0) q,
            ap (times v) d,
            times_append v later (v ∷ before),
            times_here v v before refl,
          )))))

-- the order is decided by all parts, the heights being the tops
pub order_decided : {s : Store} {n : ℕ} {order tops : List ℕ} {r : Bool} → StacksFit s → n ≤ 8 → HeightsOf s.cells tops → r ≡ passes s n tops (placed_in order) →
    OrderDecided s n order r
order_decided {s} {n} {order} {tops} fit few t d = record {
  is = λ B z e f.
      d ∙ ap (passes s n tops) (sym f) ∙ passes_is B z s n e few [] z.placed tops z.placed (off_none B z s n e few fit t) refl;
}
