-- What the functions that store a unit, its frames or both have done to the units. Assumes nothing.
use mathlib.Core.Path.{◌≡◌, refl, sym, ap, ap₂, subst, ◌∙◌}
use mathlib.Core.Bool.{Bool, true, false}
use mathlib.Core.List.{List, [], ◌∷◌}
use Prim.Native.Nat.{ℕ, zero, suc, ◌+◌, ◌*◌, ◌-◌, ◌/◌, ◌%◌, ◌≤◌, ◌<◌}
use native.Mathlib.Omega.{arith}
use native.Mathlib.Decide.{ℕ_discrete}
use native.Mathlib.Numerals.{add-one}
use lib.Dec.{ltb}
use lib.ListN.{length, get_or, set, drop, length-set, get_or-eq_default}
use lib.Seq.{get_or-set_same, get_or-set_other, set-get_or}
use borrow.Author.Tests.{ltb-true, ltb-false}
use Rattle.flat.specs.Machine.{Frame, FlatUnit, flat_unit, unit, idle_count, left, leave, lowered, woken, arrive, lower, is_zero, fall, zero_in}
use Rattle.flat.proofs.Ranks.{left_below}
use Rattle.units.specs.Frames.{frame_at, InThreeBytes}
use Rattle.units.specs.Stacks.{height, base, stack_of, cell, rank_in, end_in, height_in, units_from, units_of, Store, store, units_in, unit_in}
use Rattle.units.specs.Promises.{
  SameOutside,
  FramePut,
  StacksFit,
  HasFrame,
  HasRoom,
  dropped,
  pushed,
  topped,
  at,
  Changed,
  CellChanged,
  CellIdled,
  CellsLeft,
  Arrived,
  TopIs,
  IdleCount,
}
use Rattle.units.proofs.Areas.{outside_none}
use Rattle.units.proofs.Stacks.{top, push, fall_at, zero_at, outside_unit}
use Rattle.units.proofs.Units.{unit_at, units_changed}

-- a cell, read as it was made
pub cell_rank : (rank end : ℕ) → end < 65536 → cell rank end / 65536 ≡ rank
cell_rank rank end l = omega arith

pub cell_end : (rank end : ℕ) → end < 65536 → cell rank end % 65536 ≡ end
cell_end rank end l = omega arith

-- a cell with a frame more says the same rank
next_rank : (x : ℕ) → x % 65536 < 65533 → (x + 3) / 65536 ≡ x / 65536
next_rank x l = omega arith

-- unit u's cell is x, which says rank t and y frames, and frames of its region are written; the others are as they were
module _ (s s' : Store) (u x t y : ℕ) (ec : s'.cells ≡ set s.cells u x) (et : x / 65536 ≡ t) (ey : x % 65536 ≡ base u + 3 * y) where
  at_u : u < length s.cells → get_or s'.cells u 0 ≡ x
  at_u l = rw (ec, get_or-set_same s.cells u x 0 l)

  at_v : (v : ℕ) → (v ≡ u → ⊥) → get_or s'.cells v 0 ≡ get_or s.cells v 0
  at_v v n = rw (ec, get_or-set_other s.cells u v x 0 n)

  high : x % 65536 / 3 - u * height ≡ y
  high = omega arith

  pub store_same : u < length s.cells → unit_in s' u ≡ flat_unit t (stack_of s'.work (base u) y)
  store_same l = rw (at_u l, et, high)

  pub store_other : (k m : ℕ) → SameOutside k m s.work s'.work → base u ≤ k → m ≤ base (u + 1) → (v : ℕ) → (v ≡ u → ⊥) →
      height_in s.cells v ≤ height → unit_in s' v ≡ unit_in s v
  store_other k m q p r v n l = rw (at_v v n, outside_unit q u v (height_in s.cells v) p r n l)

  pub set_fit : StacksFit s → u < 8 → length s'.work ≡ length s.work → y ≤ height → StacksFit s'
  set_fit a l e ly =
      let lc : u < length s.cells = omega (arith, a.regions.eight) in
      record {
        regions = record { bytes = omega (arith, e, a.regions.bytes); eight = rw (ec, length-set) a.regions.eight };
        most = λ v. elim (ℕ_discrete v u) [ yes d ↦ rw (d, at_u lc, high) ly | no d ↦ rw (at_v v d) (a.most v) ];
        placed = λ v k. elim (ℕ_discrete v u) [ yes d ↦ rw (d, at_u lc, high) ey | no d ↦ rw (at_v v d) (a.placed v k) ];
      }

  stored : {g : FlatUnit → FlatUnit} → StacksFit s → u < 8 → (k m : ℕ) → SameOutside k m s.work s'.work → base u ≤ k →
      m ≤ base (u + 1) → y ≤ height → flat_unit t (stack_of s'.work (base u) y) ≡ g (unit_in s u) → Changed u g s s'
  stored a l k m q p r ly e =
      units_changed (set_fit a l q.size ly) (λ v n. store_other k m q p r v n (a.most v)) (store_same (omega (arith, a.regions.eight)) ∙ e)

-- the stack alone, to height y: unit u's rank is as it was
restacked : (s s' : Store) (u x y k m : ℕ) (g : List Frame → List Frame) → StacksFit s → u < 8 → s'.cells ≡ set s.cells u x →
    x / 65536 ≡ rank_in s.cells u → x % 65536 ≡ base u + 3 * y → SameOutside k m s.work s'.work → base u ≤ k → m ≤ base (u + 1) → y ≤ height →
    stack_of s'.work (base u) y ≡ g (unit_in s u).stack → Changed u (λ (x : FlatUnit). flat_unit x.rank (g x.stack)) s s'
restacked s s' u x y k m g a l ec et ey q p r ly e =
    stored s s' u x (rank_in s.cells u) y ec et ey a l k m q p r ly (ap (flat_unit (rank_in s.cells u)) e)

-- the cell alone: unit u becomes idle, of the rank behind all that are
pub joins : {c c' : List ℕ} {n u k rank : ℕ} (end : ℕ) → u < 8 → end < 65536 → IdleCount c n k → rank ≡ k + 1 → c' ≡ set c u (cell rank end) → end ≡ end_in c u →
    CellIdled n u c c'
joins {c} {c'} {n} {u} {k} {rank} end l le q er ec ee = record {
  change = λ w a.
      let e : rank ≡ suc (idle_count (units_of w c n)) = er ∙ add-one k ∙ ap suc (sym (q.units w)) in
      stored (store w c) (store w c') u (cell rank end) rank (height_in c u) ec (cell_rank rank end le) (cell_end rank end le ∙ ee ∙ a.placed u l) a l (base u)
      (base u) outside_none (omega arith) (omega arith) (a.most u) (ap (λ (r : ℕ). flat_unit r (stack_of w (base u) (height_in c u))) e);
}

-- a busy unit leaves no queue
leave_none : (us : List FlatUnit) → leave 0 us ≡ us
unfolding left
leave_none [] = refl
leave_none (x ∷ us) = ap (λ (z : List FlatUnit). x ∷ z) (leave_none us)

pub left_none : {c : List ℕ} (r : ℕ) → r ≡ 0 → CellsLeft r c c
left_none {c} r e = record { change = λ w a. record { fit = a; units = λ n. sym (ap (λ (k : ℕ). leave k (units_of w c n)) e ∙ leave_none (units_of w c n)) } }

pub left_as : {c c' : List ℕ} {r k : ℕ} → r ≡ k → CellsLeft r c c' → CellsLeft k c c'
left_as {c} {c'} e q = subst (λ (k : ℕ). CellsLeft k c c') e q

-- the cells one by one: those of units 0 to v - 1 are as the unit of rank r has left them
pub record LeftBelow (r v : ℕ) (c c' : List ℕ) : Type 0 where
  pub size : length c' ≡ length c
  pub below : (u : ℕ) → u < v → u < length c → get_or c' u 0 ≡ cell (left r (rank_in c u)) (end_in c u)
  pub above : (u : ℕ) → v ≤ u → get_or c' u 0 ≡ get_or c u 0

pub left_start : {r : ℕ} {c : List ℕ} → LeftBelow r 0 c c
left_start = record { size = refl; below = λ u l k. absurd (omega arith); above = λ u l. refl }

pub left_more : {r v : ℕ} {c c₁ c₂ : List ℕ} (rank end : ℕ) → LeftBelow r v c c₁ → rank ≡ left r (rank_in c₁ v) → end ≡ end_in c₁ v → c₂ ≡ set c₁ v (cell rank end) →
    LeftBelow r (v + 1) c c₂
left_more {r} {v} {c} {c₁} rank end q er ee ec = record {
  size = rw (ec, length-set) q.size;
  below = λ u l k.
      elim (ℕ_discrete u v) [
        | yes d ↦
            ap (λ (z : List ℕ). get_or z u 0) ec ∙ ap (λ (j : ℕ). get_or (set c₁ v (cell rank end)) j 0) d
            ∙ get_or-set_same c₁ v (cell rank end) 0 (omega (arith, k, d, q.size)) ∙ ap₂ cell er ee
            ∙ ap (λ (x : ℕ). cell (left r (x / 65536)) (x % 65536)) (q.above v (omega arith) ∙ ap (λ (j : ℕ). get_or c j 0) (sym d))
        | no d ↦ ap (λ (z : List ℕ). get_or z u 0) ec ∙ get_or-set_other c₁ v u (cell rank end) 0 d ∙ q.below u (omega (arith, l, d)) k
      ];
  above = λ u l. ap (λ (z : List ℕ). get_or z u 0) ec ∙ get_or-set_other c₁ v u (cell rank end) 0 (λ d. omega (arith, d, l)) ∙ q.above u (omega (arith, l));
}

pub left_all : {r v : ℕ} {c c' : List ℕ} → 0 < r → v ≡ 8 → LeftBelow r v c c' → CellsLeft r c c'
unfolding units_from
left_all {r} {v} {c} {c'} l ev q = record { change = λ w a. record { fit = fit w a; units = λ n. from w a 0 n } }
  where
    busy_stays : left r 0 ≡ 0
    busy_stays = left_below r 0 l

    is : length c ≡ 8 → (u : ℕ) → get_or c' u 0 ≡ cell (left r (rank_in c u)) (end_in c u)
    is e u = go (ltb u 8) refl
      where
        go : (t : Bool) → ltb u 8 ≡ t → get_or c' u 0 ≡ cell (left r (rank_in c u)) (end_in c u)
        go true z = q.below u (omega (arith, ltb-true u 8 z, ev)) (omega (arith, ltb-true u 8 z, e))
        go false z =
            let d = get_or-eq_default c 0 {n = u} (omega (arith, ltb-false u 8 z, e)) in
            q.above u (omega (arith, ltb-false u 8 z, ev)) ∙ d ∙ sym (ap (λ (x : ℕ). cell (left r (x / 65536)) (x % 65536)) d ∙ ap (λ (k : ℕ). cell k 0) busy_stays)

    end_is : length c ≡ 8 → (u : ℕ) → end_in c' u ≡ end_in c u
    end_is e u = ap (λ (x : ℕ). x % 65536) (is e u) ∙ cell_end (left r (rank_in c u)) (end_in c u) (omega arith)

    unit_is : (w : List ℕ) → length c ≡ 8 → (u : ℕ) → unit_in (store w c') u ≡ flat_unit (left r (rank_in c u)) (stack_of w (base u) (height_in c u))
    unit_is w e u =
        ap₂ (λ (k z : ℕ). flat_unit k (stack_of w (base u) (z / 3 - u * height)))
        (ap (λ (x : ℕ). x / 65536) (is e u) ∙ cell_rank (left r (rank_in c u)) (end_in c u) (omega arith)) (end_is e u)

    from : (w : List ℕ) → StacksFit (store w c) → (u m : ℕ) → units_from w c' u m ≡ leave r (units_from w c u m)
    from w a u zero = refl
    from w a u (suc m) = ap₂ (λ (x : FlatUnit) (us : List FlatUnit). x ∷ us) (unit_is w a.regions.eight u) (from w a (suc u) m)

    fit : (w : List ℕ) → StacksFit (store w c) → StacksFit (store w c')
    fit w a = record {
      regions = record { bytes = a.regions.bytes; eight = q.size ∙ a.regions.eight };
      most = λ u. omega (arith, a.most u, end_is a.regions.eight u);
      placed = λ u k. omega (arith, a.placed u k, end_is a.regions.eight u);
    }

-- the top frame, and the stack below it, of height y
under : (w : List ℕ) (from h y : ℕ) → h ≡ y + 1 → stack_of w from y ≡ drop 1 (stack_of w from h)
under w from h y e = sym (ap (λ (fs : List Frame). drop 1 fs) (top w from h y (from + 3 * y) e refl))

-- where the top frame stands: there are frames below it, and it is before the end
top_place : {s : Store} {u : ℕ} → HasFrame s u 0 → (k : ℕ) → k + 3 ≡ end_in s.cells u →
    (height_in s.cells u ≡ height_in s.cells u - 1 + 1) × (k ≡ base u + 3 * (height_in s.cells u - 1))
top_place {s} {u} q k e = let p = q.fit.placed u q.unit in let i = q.index in (omega arith, omega arith)

pub topmost : {s : Store} {u : ℕ} {f : Frame} (k : ℕ) → HasFrame s u 0 → f ≡ frame_at s.work k → InThreeBytes f → k + 3 ≡ end_in s.cells u → TopIs u f s
topmost {s} {u} {f} k p ef q e = record {
  stack = λ n l.
      let w = s.work in
      let h = height_in s.cells u in
      let z = top_place p k e in
      let i = ap (λ (x : FlatUnit). x.stack) (unit_at w s.cells n u l) in
      i ∙ top w (base u) h (h - 1) k z.0 z.1 ∙ ap₂ (λ (g : Frame) (fs : List Frame). g ∷ fs) (sym ef) (under w (base u) h (h - 1) z.0)
      ∙ ap (λ (fs : List Frame). f ∷ drop 1 fs) (sym i);
  fits = q;
}

-- a cell with a frame less ends before it
end_less : (z x : ℕ) → z + 3 ≡ x → 3 ≤ x % 65536 → z % 65536 + 3 ≡ x % 65536
end_less z x e l = omega arith

pub drops : {c c' : List ℕ} {u : ℕ} (z : ℕ) → u < 8 → 0 < height_in c u → z + 3 ≡ get_or c u 0 → c' ≡ set c u z → CellChanged u dropped c c'
drops {c} {c'} {u} z l p e ec = record {
  change = λ w a.
      let h = height_in c u in
      let b = a.placed u l in
      let m = a.most u in
      let r = end_less z (get_or c u 0) e (omega arith) in
      restacked (store w c) (store w c') u z (h - 1) (base u) (base u) (λ (fs : List Frame). drop 1 fs) a l ec
      (sym (next_rank z (omega arith)) ∙ ap (λ (x : ℕ). x / 65536) e) (omega arith) outside_none (omega arith) (omega arith)
      (omega arith) (under w (base u) h (h - 1) (omega arith));
}

-- a frame is put at place k: in place of the top one; above it
module _ {s : Store} {u k : ℕ} {f : Frame} {w' : List ℕ} (p : FramePut k f s.work w') where
  pub tops : HasFrame s u 0 → k + 3 ≡ end_in s.cells u → Changed u (topped f) s (store w' s.cells)
  tops q e =
      let h = height_in s.cells u in
      let m = q.fit.most u in
      let z = top_place q k e in
      restacked s (store w' s.cells) u (get_or s.cells u 0) h k (k + 3) (λ (fs : List Frame). f ∷ drop 1 fs) q.fit q.unit
      (sym (set-get_or s.cells u 0)) refl (q.fit.placed u q.unit) p.outside (omega (arith, z.1)) (omega (arith, z.0, z.1)) m
      (push p (base u) (h - 1) h z.1 z.0 ∙ ap (λ (fs : List Frame). f ∷ fs) (under s.work (base u) h (h - 1) z.0))

  pub pushes : {c' : List ℕ} → HasRoom s u 1 → k ≡ end_in s.cells u → c' ≡ set s.cells u (get_or s.cells u 0 + 3) → Changed u (pushed f) s (store w' c')
  pushes {c'} q ek ec =
      let h = height_in s.cells u in
      let b = q.fit.placed u q.unit in
      let r = q.room in
      let l = q.unit in
      restacked s (store w' c') u (get_or s.cells u 0 + 3) (h + 1) k (k + 3) (λ (fs : List Frame). f ∷ fs) q.fit l ec
      (next_rank (get_or s.cells u 0) (omega arith)) (omega arith) p.outside (omega arith) (omega arith) r (push p (base u) h (h + 1) (ek ∙ b) refl)

-- EXIT arrives: the count is now 0, or it isn't
module _ {s : Store} {v i k : ℕ} {w' : List ℕ} (h : HasFrame s v i) (ek : k ≡ base v + 3 * i) (q : FramePut k (lower (frame_at s.work k)) s.work w') where
  fallen : Changed v (lowered i) s (store w' s.cells)
  fallen =
      let y = height_in s.cells v in
      let m = h.fit.most v in
      restacked s (store w' s.cells) v (get_or s.cells v 0) y k (k + 3) (fall i) h.fit h.unit (sym (set-get_or s.cells v 0)) refl
      (h.fit.placed v h.unit) q.outside (omega arith) (omega (arith, h.index)) m (fall_at (base v) i ek q y h.index)

  zero_is : (t : Bool) → is_zero (frame_at w' k) ≡ t → zero_in i (fall i (unit_in s v).stack) ≡ t
  zero_is t z =
      let y = height_in s.cells v in
      ap (zero_in i) (sym (fall_at (base v) i ek q y h.index)) ∙ zero_at w' (base v) i y h.index ∙ ap (λ (j : ℕ). is_zero (frame_at w' j)) (sym ek) ∙ z

  -- the rank that leaves
  woken_is : (t : Bool) (r : ℕ) → is_zero (frame_at w' k) ≡ t → elim t as (λ z. ℕ) [ true ↦ rank_in s.cells v | false ↦ 0 ] ≡ r → (n : ℕ) → v < n →
      woken i (lowered i (unit (units_in s n) v)) ≡ r
  unfolding woken
  woken_is t r z e n l =
      ap (λ (x : FlatUnit). woken i (lowered i x)) (unit_at s.work s.cells n v l)
      ∙ ap (λ (b : Bool). elim b as (λ z. ℕ) [ true ↦ rank_in s.cells v | false ↦ 0 ]) (zero_is t z) ∙ e

  pub arrive_last : is_zero (frame_at w' k) ≡ true → {c' : List ℕ} → CellsLeft (rank_in s.cells v) s.cells c' → Arrived v i s (store w' c')
  unfolding arrive
  arrive_last z t =
      let a = t.change w' fallen.fit in
      record {
        fit = a.fit;
        units = λ n l.
            a.units n ∙ ap (leave (rank_in s.cells v)) (fallen.units n)
            ∙ ap (λ (r : ℕ). leave r (at v (lowered i) (units_in s n))) (sym (woken_is true (rank_in s.cells v) z refl n l));
      }

  pub arrive_more : is_zero (frame_at w' k) ≡ false → Arrived v i s (store w' s.cells)
  unfolding arrive
  arrive_more z = record {
    fit = fallen.fit;
    units = λ n l.
        fallen.units n ∙ sym (leave_none (at v (lowered i) (units_in s n)))
        ∙ ap (λ (r : ℕ). leave r (at v (lowered i) (units_in s n))) (sym (woken_is false 0 z refl n l));
  }
