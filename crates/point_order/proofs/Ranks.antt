-- Laws of ranks: how many units have one, the units that are idle, and what the test of a unit's rank comes to. Assumes nothing.
use mathlib.Core.Bool.{Bool, true, false}
use mathlib.Core.List.{List, [], ◌∷◌}
use mathlib.Core.Path.{◌≡◌, refl, sym, ap, ap₂, ◌∙◌}
use Prim.Native.Nat.{ℕ, suc, ◌+◌, ◌-◌, ◌≤◌, ◌<◌}
use native.Mathlib.Omega.{arith}
use native.Mathlib.Decide.{ℕ_discrete}
use native.Mathlib.Numerals.{add-one}
use lib.Dec.{eqb, leb}
use lib.ListN.{length}
use borrow.Author.Tests.{eq-eqb, ne_eqb, le-leb, lt-leb}
use Rattle.paper.specs.Book.{Book}
use Rattle.flat.specs.Machine.{FlatUnit, FlatState, unit, idle_count}
use Rattle.flat.specs.Rules.{of_rank}
use Rattle.flat.specs.Tested.{and, or, each_below, waits, rank_good}
use Rattle.units.specs.Stacks.{rank_in, units_from, units_of, Store, units_in, unit_in}
use Rattle.units.proofs.Units.{length_units, unit_at}
use Rattle.point_order.specs.Promises.{RankCounted, EachOnce, IdleAre, Kept, UnitWaits, RankDecided, EachRankDecided, RanksDecided}
use Rattle.point_order.proofs.Tests.{below_next, below_stop, below_end}

-- how many of m units from u up have rank r: none of none; one more or as many with the unit before
module _ (w c : List ℕ) (r : ℕ) where
  pub rank_none : (u m : ℕ) → m ≡ 0 → of_rank r (units_from w c u m) ≡ 0
  unfolding of_rank units_from
  rank_none u m e = rw e

  pub rank_here : (u v m k : ℕ) → rank_in c u ≡ r → v ≡ u + 1 → k ≡ m + 1 → of_rank r (units_from w c u k) ≡ of_rank r (units_from w c v m) + 1
  unfolding of_rank units_from
  rank_here u v m k e f g = rw (f, g, add-one u, add-one m, add-one (of_rank r (units_from w c (suc u) m))) (rw (eq-eqb (rank_in c u) r e, of_rank))

  pub rank_past : (u v m k : ℕ) → (rank_in c u ≡ r → ⊥) → v ≡ u + 1 → k ≡ m + 1 → of_rank r (units_from w c u k) ≡ of_rank r (units_from w c v m)
  unfolding of_rank units_from
  rank_past u v m k n f g = rw (f, g, add-one u, add-one m) (rw (ne_eqb (rank_in c u) r n, of_rank))

-- a unit is idle or of rank 0
idle_or_busy : (us : List FlatUnit) → idle_count us + of_rank 0 us ≡ length us
unfolding idle_count of_rank
idle_or_busy [] = refl
idle_or_busy (x ∷ us) =
    elim (ℕ_discrete x.rank 0) [
      | yes e ↦ rw (eq-eqb x.rank 0 e, idle_count, of_rank) (omega (arith, idle_or_busy us))
      | no n ↦ rw (ne_eqb x.rank 0 n, idle_count, of_rank) (omega (arith, idle_or_busy us))
    ]

pub idle_are : {c : List ℕ} {n k : ℕ} (r : ℕ) → RankCounted c n 0 r → k ≡ n - r → IdleAre c n k
idle_are {c} {n} r p e = record { units = λ w. omega (arith, p.units w, idle_or_busy (units_of w c n), length_units w c 0 n) }

-- THE TEST OF A UNIT'S RANK

module _ (operators symbols : List ℕ) (s : Store) (n u k : ℕ) (l : u < n) (idle : IdleAre s.cells n k) where
  abbrev rank : ℕ
  rank = rank_in s.cells u

  rank_test : (B : Book) (z : FlatState) → Kept operators symbols s n B z → rank_good B z u ≡ and (leb rank k) (or (eqb rank 0) (waits B z (unit_in s u).stack))
  unfolding rank_good
  rank_test B z t =
      let f : FlatUnit → ℕ → Bool = λ x m. and (leb x.rank m) (or (eqb x.rank 0) (waits B z x.stack)) in
      ap (λ (us : List FlatUnit). f (unit us u) (idle_count us)) t.units_are
      ∙ ap₂ f (unit_at s.work s.cells n u l) (idle.units s.work)

  pub rank_busy : rank ≡ 0 → RankDecided operators symbols s n u true
  unfolding and or
  rank_busy e = record {
    is = λ B z t. sym (rank_test B z t ∙ ap₂ and (le-leb rank k (omega arith)) (ap (λ (b : Bool). or b (waits B z (unit_in s u).stack)) (eq-eqb rank 0 e)));
  }

  pub rank_high : k < rank → RankDecided operators symbols s n u false
  unfolding and
  rank_high e = record {
    is = λ B z t. sym (rank_test B z t ∙ ap (λ (b : Bool). and b (or (eqb rank 0) (waits B z (unit_in s u).stack))) (lt-leb rank k e));
  }

  pub rank_idle : {r : Bool} → (rank ≡ 0 → ⊥) → rank ≤ k → UnitWaits operators symbols s u r → RankDecided operators symbols s n u r
  unfolding and or
  rank_idle d e q = record {
    is = λ B z t.
        q.is B z t.told
        ∙ sym (rank_test B z t ∙ ap₂ and (le-leb rank k e) (ap (λ (b : Bool). or b (waits B z (unit_in s u).stack)) (ne_eqb rank 0 d)));
  }

-- RANKS ONE BY ONE: there is one unit of rank r or not; none is left

module _ (w : List ℕ) {c : List ℕ} {n r k : ℕ} (p : RankCounted c n r k) (l : 0 < r) where
  once_at : eqb (of_rank (suc (r - 1)) (units_of w c n)) 1 ≡ eqb k 1
  once_at = let e : suc (r - 1) ≡ r = omega arith in ap (λ (i : ℕ). eqb (of_rank i (units_of w c n)) 1) e ∙ ap (λ (i : ℕ). eqb i 1) (p.units w)

  pub once_stop : (k ≡ 1 → ⊥) → each_below (λ i. eqb (of_rank (suc i) (units_of w c n)) 1) r ≡ false
  once_stop d = below_stop (λ i. eqb (of_rank (suc i) (units_of w c n)) 1) r (r - 1) (omega arith) (once_at ∙ ne_eqb k 1 d)

  pub once_next : k ≡ 1 →
      each_below (λ i. eqb (of_rank (suc i) (units_of w c n)) 1) r ≡ each_below (λ i. eqb (of_rank (suc i) (units_of w c n)) 1) (r - 1)
  once_next d = below_next (λ i. eqb (of_rank (suc i) (units_of w c n)) 1) r (r - 1) (omega arith) (once_at ∙ eq-eqb k 1 d)

pub once_end : (w c : List ℕ) (n r : ℕ) → r ≡ 0 → each_below (λ i. eqb (of_rank (suc i) (units_of w c n)) 1) r ≡ true
once_end w c n r e = below_end (λ i. eqb (of_rank (suc i) (units_of w c n)) 1) r e

-- ALL RANKS: a unit's is not good; all are, and each rank is that of one unit or not

module _ {operators symbols : List ℕ} {s : Store} {n : ℕ} where
  pub ranks_stop : {r : Bool} → EachRankDecided operators symbols s n r → r ≡ false → RanksDecided operators symbols s n false
  unfolding and
  ranks_stop p e = record {
    is = λ B z t. sym (ap (λ (b : Bool). and b (each_below (λ i. eqb (of_rank (suc i) z.units) 1) (idle_count z.units))) (sym (p.is B z t) ∙ e));
  }

  pub ranks_rest : {r q : Bool} {k : ℕ} → EachRankDecided operators symbols s n r → r ≡ true → IdleAre s.cells n k → EachOnce s.cells n k q →
      RanksDecided operators symbols s n q
  unfolding and
  ranks_rest {k = k} p e d o = record {
    is = λ B z t.
        let f : List FlatUnit → ℕ → Bool = λ us m. each_below (λ i. eqb (of_rank (suc i) us) 1) m in
        o.is s.work ∙ ap (f (units_in s n)) (sym (d.units s.work)) ∙ ap (λ (us : List FlatUnit). f us (idle_count us)) (sym t.units_are)
        ∙ sym (ap (λ (b : Bool). and b (f z.units (idle_count z.units))) (sym (p.is B z t) ∙ e));
  }
