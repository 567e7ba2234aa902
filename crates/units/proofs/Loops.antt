-- The laws that the loops cite: the search for an idle unit, how many are idle, the offsets of unit after unit, all units put to sleep; and the start.
-- Assumes nothing.
use mathlib.Core.Path.{◌≡◌, refl, sym, ap, ap₂, ◌∙◌}
use mathlib.Core.Bool.{Bool, true, false}
use mathlib.Core.List.{List, [], ◌∷◌, map}
use mathlib.Core.Logic.{inl, inr}
use mathlib.Core.Option.{none, some}
use Rattle.std.proofs.Common.{Option, Some, None, MatchOption, nat_le, cond, count_by, take, drop}
use Rattle.std.proofs.lemmas.List.Sums.{sum_by-cons, count_by-le-length}
use Prim.Native.Nat.{ℕ, zero, suc, ◌+◌, ◌*◌, ◌-◌, ◌/◌, ◌%◌, ◌≤◌, ◌<◌}
use native.Mathlib.Omega.{arith}
use native.Mathlib.Decide.{ℕ_discrete}
use native.Mathlib.Numerals.{add-one}
use lib.Dec.{ltb}
use lib.ListN.{length, get_or, set, length-set, length-map, length-take, get_or-map, get_or-eq_default}
use lib.Seq.{get_or-set_same, get_or-set_other, drop-cons}
use borrow.Author.Tests.{eq-eqb, ne_eqb, lt-leb, le-leb, ltb-true, ltb-false}
use Rattle.paper.specs.Machine.{numbers_from}
use Rattle.flat.specs.Machine.{Frame, FlatUnit, flat_unit, asleep, idle_count, first_from, first_idle, shift_frame, shift_unit, start_units}
use Rattle.units.specs.Stacks.{height, base, stack_of, cell, rank_in, end_in, height_in, units_from, units_of, Store, store, unit_in}
use Rattle.units.specs.Promises.{
  SameOutside,
  FramePut,
  frames,
  StackShifted,
  EightRegions,
  StacksFit,
  pushed,
  topped,
  at,
  Changed,
  answer,
  OneOf,
  FirstIdle,
  IdleCount,
  UnitsShifted,
  AsleepBelow,
  Started,
}
use Rattle.units.proofs.Areas.{outside_none, outside_then}
use Rattle.units.proofs.Stacks.{outside_stack, push}
use Rattle.units.proofs.Units.{length_units, unit_at, units_are, changed_then}
use Rattle.units.proofs.Changes.{cell_rank, store_same, store_other}

module _ (w c : List ℕ) where
  pub units_all : (u n : ℕ) → u ≡ 0 → units_of w c n ≡ units_from w c u (n - u)
  units_all u n e = let z : n - 0 ≡ n = omega arith in rw (e, z)

  -- the search for the first of the queue: what is left of it at unit u with m units to go
  first_start : (n : ℕ) → first_idle (units_of w c n) ≡ first_from 0 (units_from w c 0 (n - 0))
  unfolding first_idle
  first_start n = ap (first_from 0) (units_all 0 n refl)

  first_next : (u v m k : ℕ) → (rank_in c u ≡ 1 → ⊥) → v ≡ u + 1 → m ≡ k + 1 → first_from u (units_from w c u m) ≡ first_from v (units_from w c v k)
  unfolding first_from units_from
  first_next u v m k e f g = rw (f, g, add-one u, add-one k) (rw (ne_eqb (rank_in c u) 1 e, first_from))

  first_here : (u m : ℕ) → rank_in c u ≡ 1 → 0 < m → first_from u (units_from w c u m) ≡ some u
  unfolding first_from units_from
  first_here u zero n l = absurd (omega arith)
  first_here u (suc m) n l = rw (eq-eqb (rank_in c u) 1 n, first_from)

  first_none : (u m : ℕ) → m ≡ 0 → first_from u (units_from w c u m) ≡ none
  unfolding first_from units_from
  first_none u m e = rw e

  -- the search, where the numbers are known that it passes, and the one that it gives
  first_reached : (n v : ℕ) → v ≤ n → ((k : ℕ) → k < v → rank_in c k ≡ 1 → ⊥) → first_idle (units_of w c n) ≡ first_from v (units_from w c v (n - v))
  first_reached n zero l h = first_start n
  first_reached n (suc v) l h =
      first_reached n v (omega arith) (λ k b. h k (omega arith)) ∙ first_next v (suc v) (n - v) (n - suc v) (h v (omega arith)) (sym (add-one v)) (omega arith)

  first_answer : (n : ℕ) (r : Option ℕ) →
      MatchOption r ((k : ℕ) → 0 ≤ k → k < n → rank_in c k ≡ 1 → ⊥) (λ i. (0 ≤ i) × (i < n) × (rank_in c i ≡ 1) × ((k : ℕ) → 0 ≤ k → k < i → rank_in c k ≡ 1 → ⊥)) →
      first_idle (units_of w c n) ≡ answer r
  first_answer n None h = first_reached n n (omega arith) (λ k b. h k (omega arith) b) ∙ first_none n (n - n) (omega arith)
  first_answer n (Some i) h = first_reached n i (omega arith) (λ k b. h.3 k (omega arith) b) ∙ first_here i (n - i) h.2 (omega arith)

  -- how many of m units from u up are idle: so many of their cells have a rank above 0
  idle_cells : (u m : ℕ) → u + m ≤ length c → idle_count (units_from w c u m) ≡ count_by (nat_le 65536) (take m (drop u c))
  unfolding idle_count units_from
  idle_cells u zero l = refl
  idle_cells u (suc m) l =
      rw (drop-cons c u 0 (omega arith), sum_by-cons (λ (x : ℕ). cond (nat_le 65536 x) 1 0) (get_or c u 0) (take m (drop (suc u) c)))
      (go (ltb (get_or c u 0) 65536) refl (idle_cells (suc u) m (omega arith)))
    where
      go : (t : Bool) → ltb (get_or c u 0) 65536 ≡ t → idle_count (units_from w c (suc u) m) ≡ count_by (nat_le 65536) (take m (drop (suc u) c)) →
          idle_count (units_from w c u (suc m))
          ≡ cond (nat_le 65536 (get_or c u 0)) 1 0 + count_by (nat_le 65536) (take m (drop (suc u) c))
      go true e r = let h : get_or c u 0 < 65536 = ltb-true _ _ e in rw (lt-leb 65536 (get_or c u 0) h, eq-eqb (rank_in c u) 0 (omega arith), idle_count) (omega (arith, r))
      go false e r =
          let h : 65536 ≤ get_or c u 0 = ltb-false _ _ e in rw (le-leb 65536 (get_or c u 0) h, ne_eqb (rank_in c u) 0 (λ z. omega arith), idle_count) (omega (arith, r))

pub first_idle_is : {c : List ℕ} {n : ℕ} {r : Option ℕ} →
    MatchOption r ((k : ℕ) → 0 ≤ k → k < n → rank_in c k ≡ 1 → ⊥) (λ i. (0 ≤ i) × (i < n) × (rank_in c i ≡ 1) × ((k : ℕ) → 0 ≤ k → k < i → rank_in c k ≡ 1 → ⊥)) →
    FirstIdle c n r
first_idle_is {c} {n} {r} h = record { units = λ w. first_answer w c n r h; one = below r h }
  where
    below : (r : Option ℕ) →
        MatchOption r ((k : ℕ) → 0 ≤ k → k < n → rank_in c k ≡ 1 → ⊥) (λ i. (0 ≤ i) × (i < n) × (rank_in c i ≡ 1) × ((k : ℕ) → 0 ≤ k → k < i → rank_in c k ≡ 1 → ⊥)) → OneOf n r
    below None h = tt
    below (Some i) h = h.1

pub idle_count_is : {c : List ℕ} {n r : ℕ} → n ≤ length c → r ≡ count_by (nat_le 65536) (take n c) → IdleCount c n r
idle_count_is {c} {n} {r} l e =
    record { units = λ w. idle_cells w c 0 n (omega arith) ∙ sym e; few = omega (arith, e, count_by-le-length (nat_le 65536) (take n c), length-take n c) }

-- the offsets of the jobs of units 0 to u - 1 have gone along
pub record ShiftedBelow (u a e k : ℕ) (s : Store) (w' : List ℕ) : Type 0 where
  pub outside : SameOutside 0 (base u) s.work w'
  pub stacks : (v : ℕ) → v < u → (unit_in (store w' s.cells) v).stack ≡ map (shift_frame a e k) (unit_in s v).stack

-- the frames from a unit's base to their end
pub frames_of : {s : Store} {u from end : ℕ} → StacksFit s → u < 8 → from ≡ base u → end ≡ end_in s.cells u →
    (frames from end ≡ height_in s.cells u) × (end ≡ from + 3 * height_in s.cells u)
frames_of {u = u} q l d e = let p = q.placed u l in (omega arith, omega arith)

module _ {s : Store} {a e k : ℕ} where
  pub below_none : ShiftedBelow 0 a e k s s.work
  below_none = record { outside = outside_none; stacks = λ v l. absurd (omega arith) }

  pub below_rest : {u : ℕ} {w₁ : List ℕ} → ShiftedBelow u a e k s w₁ → (unit_in (store w₁ s.cells) u).stack ≡ (unit_in s u).stack
  below_rest {u} p = outside_stack p.outside (base u) (height_in s.cells u) (inr (omega arith))

  pub below_more : {u : ℕ} {w₁ w₂ : List ℕ} {from h : ℕ} → ShiftedBelow u a e k s w₁ → from ≡ base u → h ≡ height_in s.cells u →
      ((v : ℕ) → height_in s.cells v ≤ height) → StackShifted from h a e k w₁ w₂ → ShiftedBelow (u + 1) a e k s w₂
  below_more {u} {w₁} {w₂} p eb ey m q = record {
    outside = outside_then p.outside q.outside (omega arith) (omega arith) (omega arith) (omega (arith, m u));
    stacks = λ v l.
        elim (ℕ_discrete v u) [
          | yes d ↦ rw d (here ∙ ap (map (shift_frame a e k)) (below_rest p))
          | no d ↦ outside_stack q.outside (base v) (height_in s.cells v) (inl (omega (arith, m v))) ∙ p.stacks v (omega arith)
        ];
  }
    where
      here : (unit_in (store w₂ s.cells) u).stack ≡ map (shift_frame a e k) (unit_in (store w₁ s.cells) u).stack
      here = rw (← eb, ← ey) q.stack

  pub below_all : {n u : ℕ} {w' : List ℕ} → StacksFit s → u ≡ n → ShiftedBelow u a e k s w' → UnitsShifted n a e k s (store w' s.cells)
  unfolding shift_frame
  below_all {n} {w' = w'} q en p = record {
    fit = record {
      regions = record { bytes = omega (arith, p.outside.size, q.regions.bytes); eight = q.regions.eight };
      most = q.most;
      placed = q.placed;
    };
    units =
        let w = s.work in
        let c = s.cells in
        let us = units_of w c n in
        units_are w' c n (map (shift_unit a e k) us) (length-map us (shift_unit a e k) ∙ length_units w c 0 n)
        (λ v l. ap (flat_unit (rank_in c v)) (p.stacks v (omega arith)) ∙ ap (shift_unit a e k) (sym (unit_at w c n v l))
        ∙ sym (get_or-map (shift_unit a e k) us v (asleep 1)));
  }

-- one more unit is put to sleep; the units of the start
pub asleep_none : {s : Store} → EightRegions s → AsleepBelow 0 s
asleep_none q = record { regions = q; ends = λ v l. absurd (omega arith); units = λ v l. absurd (omega arith) }

pub asleep_more : {s s' : Store} {u from : ℕ} → AsleepBelow u s → u < 8 → from ≡ base u → FramePut from Frame.sleep s.work s'.work →
    s'.cells ≡ set s.cells u (cell u (from + 3)) → AsleepBelow (u + 1) s'
unfolding stack_of
asleep_more {s} {s'} {u} {from} q l e p ec = record {
  regions = record { bytes = omega (arith, p.outside.size, q.regions.bytes); eight = rw (ec, length-set) q.regions.eight };
  ends = end;
  units = λ v k.
      elim (ℕ_discrete v u) [
        | yes d ↦
            rw d (store_same s s' u x u 1 ec ranks_as ends_at lc ∙ ap (flat_unit u) (push p (base u) 0 1 (omega arith) refl))
        | no d ↦
            store_other s s' u x u 1 ec ranks_as ends_at from (from + 3) p.outside (omega arith) (omega arith) v d
            (omega (arith, q.ends v (omega arith)))
            ∙ q.units v (omega arith)
      ];
}
  where
    x : ℕ
    x = cell u (from + 3)

    lc : u < length s.cells
    lc = omega (arith, q.regions.eight)

    ranks_as : x / 65536 ≡ u
    ranks_as = cell_rank u (from + 3) (omega arith)

    ends_at : x % 65536 ≡ base u + 3 * 1
    ends_at = omega arith

    end : (v : ℕ) → v < u + 1 → end_in s'.cells v ≡ base v + 3
    end v k =
        elim (ℕ_discrete v u) [
          | yes d ↦ rw (d, ec, get_or-set_same s.cells u x 0 lc) ends_at
          | no d ↦ rw (ec, get_or-set_other s.cells u v x 0 d) (q.ends v (omega arith))
        ]

pub asleep_fit : {s : Store} → AsleepBelow 8 s → StacksFit s
asleep_fit {s} q = record { regions = q.regions; most = λ u. go u (ltb u 8) refl; placed = λ u l. omega (arith, q.ends u l) }
  where
    go : (u : ℕ) (t : Bool) → ltb u 8 ≡ t → height_in s.cells u ≤ height
    go u true e = omega (arith, q.ends u (ltb-true u 8 e))
    go u false e = omega (arith, get_or-eq_default s.cells 0 {n = u} (omega (arith, ltb-false u 8 e, q.regions.eight)))

asleep_units : (s : Store) → AsleepBelow 8 s → (u m : ℕ) → u + m ≤ 8 → units_from s.work s.cells u m ≡ map asleep (numbers_from u m)
unfolding units_from numbers_from
asleep_units s q u zero l = refl
asleep_units s q u (suc m) l =
    ap₂ (λ (x : FlatUnit) (us : List FlatUnit). x ∷ us) (q.units u (omega arith)) (asleep_units s q (suc u) m (omega arith))

pub started : {s s₁ s₂ : Store} → AsleepBelow 8 s → Changed 0 (topped Frame.bingo) s s₁ → Changed 0 (pushed (Frame.job 0 0 0)) s₁ s₂ → Started s₂
unfolding start_units numbers_from
started {s} q p d = record { fit = d.fit; units = λ n l m. (changed_then p d).units n ∙ ap (at 0 first) (asleep_units s q 0 n (omega arith)) ∙ from n l }
  where
    first : FlatUnit → FlatUnit
    first x = pushed (Frame.job 0 0 0) (topped Frame.bingo x)

    from : (n : ℕ) → 1 ≤ n → at 0 first (map asleep (numbers_from 0 n)) ≡ flat_unit 0 (Frame.job 0 0 0 ∷ Frame.bingo ∷ []) ∷ map asleep (numbers_from 1 (n - 1))
    from zero l = absurd (omega arith)
    from (suc n) l = let e : suc n - 1 ≡ n = omega arith in rw e
