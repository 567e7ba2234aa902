-- Points, all of them computed: one that a run is parked at, others that meet the rules, and for each rule one that breaks it; a run in parts whose counts stay at the
-- highest value. Assumes nothing.
use mathlib.Core.Bool.{Bool, true, false}
use mathlib.Core.List.{List, [], ◌∷◌, ◌++◌, map}
use mathlib.Core.Option.{Option, none, some}
use mathlib.Core.Path.{◌≡◌, refl}
use Prim.Native.Nat.{ℕ}
use lib.ListN.{replicate}
use Rattle.paper.specs.Book.{arity}
use Rattle.paper.proofs.Starred.{P, PLine, limits}
use Rattle.flat.specs.Machine.{Frame, flat_unit, FlatUnit, FlatState, flat_start}
use Rattle.flat.specs.Run.{FlatAnswer, flat_run, flat_states}
use Rattle.flat.specs.Parts.{flat_parked, highest, parts, resume}
use Rattle.flat.specs.Tested.{tested}

abbrev state : List ℕ → List ℕ → List Bool → List FlatUnit → ℕ → List ℕ → FlatState
state xs zs ms us r vs = record { symbols = xs; sizes = zs; marks = ms; units = us; rewrites = r; granted = 2; kept = 0; placed = vs }

-- both(end, both(end, end)), the first arguments of both lent to units 1 and 2, and unit 0 waiting at the inner JOIN
abbrev symbols : List ℕ
symbols = 2 ∷ 0 ∷ 2 ∷ 0 ∷ 0 ∷ []

abbrev sizes : List ℕ
sizes = 5 ∷ 1 ∷ 3 ∷ 1 ∷ 1 ∷ []

abbrev marks : List Bool
marks = false ∷ false ∷ false ∷ false ∷ true ∷ []

abbrev unit_0 : FlatUnit
unit_0 = flat_unit 1 (Frame.job 2 3 1 ∷ Frame.job 0 3 1 ∷ Frame.bingo ∷ [])

abbrev unit_1 : FlatUnit
unit_1 = flat_unit 0 (Frame.job 1 0 0 ∷ Frame.exit 0 1 ∷ Frame.sleep ∷ [])

abbrev unit_2 : FlatUnit
unit_2 = flat_unit 0 (Frame.job 3 0 0 ∷ Frame.exit 0 2 ∷ Frame.sleep ∷ [])

abbrev with_units : List FlatUnit → List ℕ → FlatState
with_units us vs = state symbols sizes marks us 0 vs

abbrev try : FlatState → Bool
try s = tested P (limits 9) s

pub record Samples : Type 0 where
  -- a run is parked there
  pub parked : flat_parked P (limits 9) (replicate 7 0) (flat_start (arity P) 3 symbols) ≡ some (with_units (unit_0 ∷ unit_1 ∷ unit_2 ∷ []) (2 ∷ 1 ∷ []))
  -- the states of a run of four units, in which units wait, help and sleep, meet the rules
  pub run_meets : map try (flat_states P (limits 9) (replicate 7 0 ++ (1 ∷ 1 ∷ 1 ∷ 0 ∷ 1 ∷ 2 ∷ 2 ∷ 2 ∷ [])) (flat_start (arity P) 4 symbols)) ≡ replicate 16 true
  -- so do false marks; another order of placing that fits; a part that is done
  pub foreign : map try (
      state symbols sizes (replicate 5 true) (unit_0 ∷ unit_1 ∷ unit_2 ∷ []) 0 (2 ∷ 1 ∷ [])
      ∷ with_units (unit_0 ∷ unit_1 ∷ unit_2 ∷ []) (1 ∷ 2 ∷ [])
      ∷ with_units (unit_0 ∷ flat_unit 0 (Frame.exit 0 1 ∷ Frame.sleep ∷ []) ∷ unit_2 ∷ []) (2 ∷ 1 ∷ [])
      ∷ []
      ) ≡ replicate 3 true
  -- the term: a symbol missing; a size or the number of marks wrong; the budget passed; no unit
  pub term_refused : map try (
      state (2 ∷ 0 ∷ 2 ∷ 0 ∷ []) (5 ∷ 1 ∷ 3 ∷ 1 ∷ []) (replicate 4 false) (unit_0 ∷ unit_1 ∷ unit_2 ∷ []) 0 (2 ∷ 1 ∷ [])
      ∷ state symbols (5 ∷ 1 ∷ 2 ∷ 1 ∷ 1 ∷ []) marks (unit_0 ∷ unit_1 ∷ unit_2 ∷ []) 0 (2 ∷ 1 ∷ [])
      ∷ state symbols sizes (true ∷ marks) (unit_0 ∷ unit_1 ∷ unit_2 ∷ []) 0 (2 ∷ 1 ∷ [])
      ∷ state symbols sizes marks (unit_0 ∷ unit_1 ∷ unit_2 ∷ []) 1025 (2 ∷ 1 ∷ [])
      ∷ with_units [] []
      ∷ []
      ) ≡ replicate 5 false
  -- a job: outside the term; beyond its strategy; a count before its VISIT; at another's offset
  pub jobs_refused : map (λ (x : FlatUnit). try (with_units (unit_0 ∷ x ∷ unit_2 ∷ []) (2 ∷ 1 ∷ []))) (
      flat_unit 0 (Frame.job 5 0 0 ∷ Frame.exit 0 1 ∷ Frame.sleep ∷ [])
      ∷ flat_unit 0 (Frame.job 1 9 0 ∷ Frame.exit 0 1 ∷ Frame.sleep ∷ [])
      ∷ flat_unit 0 (Frame.job 1 0 1 ∷ Frame.exit 0 1 ∷ Frame.sleep ∷ [])
      ∷ flat_unit 0 (Frame.job 3 0 0 ∷ Frame.exit 0 1 ∷ Frame.sleep ∷ [])
      ∷ []
      ) ≡ replicate 4 false
  -- a JOIN's count one short, and one over
  pub counts_refused : map (λ (c : ℕ). try (with_units (flat_unit 1 (Frame.job 2 3 1 ∷ Frame.job 0 3 c ∷ Frame.bingo ∷ []) ∷ unit_1 ∷ unit_2 ∷ []) (2 ∷ 1 ∷ []))) (0 ∷ 2 ∷ []) ≡
      false ∷ false ∷ []
  -- an EXIT: for its own unit; for BINGO; for no frame; under another EXIT; over BINGO
  pub exits_refused : map (λ (x : FlatUnit). try (with_units (unit_0 ∷ x ∷ unit_2 ∷ []) (2 ∷ 1 ∷ []))) (
      flat_unit 0 (Frame.job 1 0 0 ∷ Frame.exit 1 2 ∷ Frame.sleep ∷ [])
      ∷ flat_unit 0 (Frame.job 1 0 0 ∷ Frame.exit 0 0 ∷ Frame.sleep ∷ [])
      ∷ flat_unit 0 (Frame.job 1 0 0 ∷ Frame.exit 0 3 ∷ Frame.sleep ∷ [])
      ∷ flat_unit 0 (Frame.exit 0 2 ∷ Frame.exit 0 1 ∷ Frame.sleep ∷ [])
      ∷ flat_unit 0 (Frame.job 1 0 0 ∷ Frame.exit 0 1 ∷ Frame.bingo ∷ [])
      ∷ []
      ) ≡ replicate 5 false
  -- the order of placing: a part missing, one too many, one of no unit
  pub order_refused : map (λ (vs : List ℕ). try (with_units (unit_0 ∷ unit_1 ∷ unit_2 ∷ []) vs)) ((2 ∷ []) ∷ (2 ∷ 1 ∷ 1 ∷ []) ∷ (3 ∷ 2 ∷ 1 ∷ []) ∷ []) ≡ replicate 3 false
  -- a part placed before the part that forked it: unit 1's part lends to unit 2
  pub forker_first : map (λ (vs : List ℕ).
      try (state (2 ∷ 2 ∷ 0 ∷ 0 ∷ 0 ∷ []) (5 ∷ 3 ∷ 1 ∷ 1 ∷ 1 ∷ []) (replicate 5 false) (
      flat_unit 1 (Frame.job 0 3 1 ∷ Frame.bingo ∷ [])
      ∷ flat_unit 0 (Frame.job 1 2 1 ∷ Frame.exit 0 1 ∷ Frame.sleep ∷ [])
      ∷ flat_unit 0 (Frame.job 2 0 0 ∷ Frame.exit 1 2 ∷ Frame.sleep ∷ [])
      ∷ []
      ) 0 vs)) ((2 ∷ 1 ∷ []) ∷ (1 ∷ 2 ∷ []) ∷ []) ≡ true ∷ false ∷ []
  -- the idle queue: a rank that leaves a gap, a rank twice, a busy unit's order on top of an idle unit
  pub queue_refused : map (λ (us : List FlatUnit). try (with_units us (2 ∷ 1 ∷ []))) (
      (flat_unit 2 (Frame.job 2 3 1 ∷ Frame.job 0 3 1 ∷ Frame.bingo ∷ []) ∷ unit_1 ∷ unit_2 ∷ [])
      ∷ (unit_0 ∷ unit_1 ∷ unit_2 ∷ flat_unit 1 (Frame.sleep ∷ []) ∷ [])
      ∷ (unit_0 ∷ flat_unit 2 (Frame.job 1 0 0 ∷ Frame.exit 0 1 ∷ Frame.sleep ∷ []) ∷ unit_2 ∷ [])
      ∷ []
      ) ≡ replicate 3 false
  -- the page's run in three parts, its counts near the highest value: it ends as the page, and they stay there
  pub resumed : elim (parts P (limits 1024) (replicate 5 0 ∷ replicate 9 0 ∷ []) (record { entries = 0; state = flat_start (arity P) 1 PLine })) as (λ z. Option FlatAnswer) [
    | none ↦ none
    | some Q ↦ some (resume P (limits 1024) (replicate 15 0) Q)
  ] ≡ some (flat_run P (limits 1024) 1 (replicate 29 0) PLine)
  pub stays : (resume P (limits 1024) (replicate 29 0) (record { entries = highest; state = flat_start (arity P) 1 PLine })).entries ≡ highest

pub samples : Samples
unfolding flat_start flat_parked flat_states flat_run tested parts resume
samples = record {
  parked = refl;
  run_meets = refl;
  foreign = refl;
  term_refused = refl;
  jobs_refused = refl;
  counts_refused = refl;
  exits_refused = refl;
  order_refused = refl;
  forker_first = refl;
  queue_refused = refl;
  resumed = refl;
  stays = refl;
}
