-- What holds of a state that runs reach, as it is kept: its rules, the order on top of a busy unit's stack, and that stacks have room after the entry too.
-- Assumes nothing.
use mathlib.Core.Path.{◌≡◌, refl, sym, ap, ap₂, subst, ◌∙◌}
use mathlib.Core.Bool.{true, false}
use mathlib.Core.List.{List, [], ◌∷◌}
use mathlib.Core.Logic.{inl}
use mathlib.Core.Option.{none, some}
use Prim.Native.Nat.{ℕ, zero, suc, ◌-◌, ◌≤◌, ◌<◌}
use native.Mathlib.Omega.{arith}
use lib.ListN.{length, get_or, drop, length-drop}
use Rattle.paper.specs.Strategy.{Step}
use Rattle.paper.specs.Book.{Book, steps}
use Rattle.paper.specs.Machine as paper
use Rattle.paper.specs.Sound.{In, Sound}
use Rattle.paper.proofs.Books.{good_book_sound}
use Rattle.flat.specs.Machine.{Frame, FlatUnit, flat_unit, unit, FlatState, going, proceed, carry_out, turn, flat_entry}
use Rattle.flat.specs.Run.{Reached}
use Rattle.flat.specs.Rules.{stack, Rules, Numbers}
use Rattle.flat.proofs.Steps.{Shape, Settled, good_settled, shape_drop}
use Rattle.flat.proofs.Rules as reached
use Rattle.flat.proofs.Inside.{room_next}
use Rattle.flat.proofs.Run.{reached_inv}
use Rattle.flat.proofs.Tops.{stack_some}
use Rattle.flat.proofs.Points.{reached_meets, placed_few}
use Rattle.symbol.specs.Record.{operator}
use Rattle.symbol.proofs.Record.{front_length, operator_front}
use Rattle.tables.specs.Layout.{step, step_of, code_in, arity_in, steps_in, Rowed}
use Rattle.tables.specs.declared.Step as D
use Rattle.tables.proofs.Rows.{here_is}
use Rattle.tables.proofs.Laws.{all_at, steps_at, rowed_at}
use Rattle.term.specs.Present.{length_in, Sized}
use Rattle.term.proofs.Skipping.{sizes_book, spells_book}
use Rattle.net.specs.Net.{book_by}
use Rattle.net.proofs.Laws.{tables_by}
use Rattle.units.specs.Stacks.{store, rank_in, busy_in, height_in, unit_in}
use Rattle.units.specs.Promises.{TopIs, HasFrame}
use Rattle.units.specs.declared.frames.Job.{Job}
use Rattle.units.proofs.Units.{length_units, unit_at, height_at, busy_rank, idle_rank}
use Rattle.orders.specs.Promises.{is_some, CanProceed}
use Rattle.orders.proofs.Steps.{proceed_some}
use Rattle.whole.specs.declared.Progress.{Progress}
use Rattle.whole.specs.declared.Limits.{Limits}
use Rattle.entry.specs.State.{limited, state, Arrays}
use Rattle.entry.specs.Promises.{Running, Turn, Working}

-- VISIT, FORK or JOIN: since steps end in WHOLE, one is left behind it
abbrev pub Inner : Step → Type 0
Inner (Step.visit i) = Unit {0}
Inner (Step.fork i) = Unit {0}
Inner (Step.join c) = Unit {0}
Inner Step.whole = ⊥

some_behind : (y : Step) (ss : List Step) → Inner y → Shape (y ∷ ss) → is_some ss ≡ true
some_behind (Step.visit i) [] q h = absurd h.0
some_behind (Step.fork i) [] q h = absurd h.0
some_behind (Step.join c) [] q h = absurd h.0
some_behind Step.whole [] q h = absurd q
some_behind y (s ∷ ss) q h = refl

-- a state of a run, and unit u whose turn it is
module _ {bytes operators net symbols scratch work units order : List ℕ} {u : ℕ} {p : Progress} {l : Limits} (z : Arrays symbols scratch work units order l)
    (r : Running bytes operators net l (state symbols work units order p l)) (t : Turn l u (state symbols work units order p l)) where
  abbrev pub B : Book
  B = book_by bytes net

  abbrev pub L : paper.Limits
  L = limited l.budget

  abbrev pub s : FlatState
  s = state symbols work units order p l

  -- THE STATE

  pub is_sound : Sound B
  is_sound = good_book_sound B (tables_by r.netted).good

  pub is_settled : Settled B
  is_settled = good_settled B (tables_by r.netted).good

  pub rules_hold : Rules B L s
  rules_hold = reached.rules B is_sound is_settled L s r.reached

  pub numbers_hold : Numbers s
  numbers_hold = reached.numbers B (tables_by r.netted).good L s rules_hold

  pub length_is : length s.symbols ≡ length_in symbols
  length_is = front_length operator (length_in symbols) symbols (omega (arith, z.most, z.symbols_long))

  -- the present term has true sizes by the table's arities too
  pub sized : Sized (arity_in operators) symbols
  sized =
      let t = (tables_by r.netted).operators_in in
      record {
        long = z.symbols_long;
        most = z.most;
        term = spells_book B t 1 s.symbols r.known ∙ rules_hold.term;
        true_sizes = rules_hold.sizes ∙ sym (sizes_book B t s.symbols r.known);
      }

  pub unit_small : u < 8
  unit_small = omega (arith, z.few, t.one)

  pub units_count : length s.units ≡ l.units
  units_count = length_units work units 0 l.units

  -- the heights kept are those of the stacks
  pub height_is : (v : ℕ) → v < l.units → height_in units v ≡ length (stack s v)
  height_is v h = sym (height_at work units l.units v h)

  pub stack_kept : (v : ℕ) → v < l.units → (unit_in (store work units) v).stack ≡ stack s v
  stack_kept v h = sym (ap (λ (x : FlatUnit). x.stack) (unit_at work units l.units v h))

  pub stack_there : (v : ℕ) → 0 < length (stack s v)
  stack_there v = stack_some (reached_inv B L is_sound is_settled r.reached) v

  -- after the entry every stack has room
  pub room_after : (s' : FlatState) → flat_entry B L u s ≡ going s' → (v : ℕ) → length (stack s' v) ≤ 1026
  room_after s' e = room_next B is_sound is_settled L s s' u r.reached e refl

  -- and fewer parts are pending than there are symbols
  pub placed_after : (s' : FlatState) → flat_entry B L u s ≡ going s' → suc (length s'.placed) ≤ length s'.symbols
  placed_after s' e = placed_few B is_sound is_settled L s' (reached_meets B is_sound is_settled L s' (Reached.next r.reached u e))

  pub has_frame : HasFrame (store work units) u 0
  has_frame = record { fit = z.fit; unit = unit_small; index = omega (arith, height_is u t.one, stack_there u) }

  rank_kept : (unit s.units u).rank ≡ rank_in units u
  rank_kept = ap (λ (x : FlatUnit). x.rank) (unit_at work units l.units u t.one)

  -- AN IDLE UNIT

  pub idle_entry : busy_in units u ≡ false → flat_entry B L u s ≡ going s
  unfolding flat_entry turn
  idle_entry e = go (unit s.units u).rank (omega (arith, rank_kept, idle_rank units u e))
    where
      go : (k : ℕ) → 1 ≤ k → turn B L u s k (stack s u) ≡ going s
      go zero h = absurd (omega arith)
      go (suc k) h = refl

  -- A BUSY UNIT with the frame f on top

  module _ {f : Frame} (b : busy_in units u ≡ true) (top : TopIs u f (store work units)) where
    abbrev pub below : List Frame
    below = drop 1 (stack s u)

    pub stack_is : stack s u ≡ f ∷ below
    stack_is = top.stack l.units t.one

    pub unit_is : unit s.units u ≡ flat_unit 0 (f ∷ below)
    unit_is = ap₂ flat_unit (rank_kept ∙ busy_rank units u b) stack_is

    pub entry_is : flat_entry B L u s ≡ carry_out B L u s below f
    unfolding flat_entry turn
    entry_is = ap₂ (turn B L u s) (rank_kept ∙ busy_rank units u b) stack_is

    pub top_in : In f (stack s u)
    top_in = subst (λ (fs : List Frame). In f fs) (sym stack_is) (inl refl)

  -- A JOB: its numbers, its operator and what the tables say of that

  module _ {x : Job} (w : Working work units u x) where
    abbrev pub o : ℕ
    o = operator (get_or symbols x.offset 0)

    pub job_in : In (Frame.job x.offset x.next x.count) (stack s u)
    job_in = top_in w.busy w.top

    pub offset_inside : x.offset < length_in symbols
    offset_inside = omega (arith, rules_hold.offsets u x.offset x.next x.count job_in, length_is)

    pub next_most : x.next ≤ 15
    next_most = numbers_hold.next_most u x.offset x.next x.count job_in

    pub count_most : x.count ≤ 6
    count_most = numbers_hold.count_most u x.offset x.next x.count job_in

    pub operator_is : get_or s.symbols x.offset 0 ≡ o
    operator_is = operator_front (length_in symbols) symbols x.offset offset_inside

    pub operator_known : o < length B.operators
    operator_known =
        subst (λ (q : ℕ). q < length B.operators) operator_is
        (all_at (λ q. q < length B.operators) 0 s.symbols x.offset r.known (omega (arith, length_is, offset_inside)))

    pub rowed : Rowed operators o
    rowed = rowed_at (tables_by r.netted) o operator_known

    pub steps_are : steps_in operators o ≡ steps B o
    steps_are = steps_at (tables_by r.netted) o operator_known

    pub can_proceed : CanProceed x u (store work units)
    can_proceed = record {
      top = has_frame;
      offset = omega (arith, offset_inside, z.most);
      next = next_most;
      count = omega (arith, count_most);
    }

    -- there is a step for its next order
    step_there : 1 ≤ x.next → none ≡ step_of (code_in operators o (x.next - 1)) → ⊥
    step_there one e =
        let d = here_is rowed (x.next - 1) (omega (arith, next_most)) none e in
        let n = subst (λ (q : ℕ). x.next ≤ length (steps B q)) operator_is (rules_hold.nexts u x.offset x.next x.count job_in) in
        omega (arith, ap length d, length-drop (x.next - 1) (steps_in operators o), ap length steps_are)

    -- where the answer is none of VISIT, FORK and JOIN, it is WHOLE
    pub whole_there : 1 ≤ x.next → (y : D.Step) → step y ≡ step_of (code_in operators o (x.next - 1)) → ((i : ℕ) → y ≡ D.Step.Visit i → ⊥) →
        ((i : ℕ) → y ≡ D.Step.Fork i → ⊥) → ((i : ℕ) → y ≡ D.Step.Join i → ⊥) → some Step.whole ≡ step_of (code_in operators o (x.next - 1))
    whole_there one D.Step.None e v f j = absurd (step_there one e)
    whole_there one D.Step.Whole e v f j = e
    whole_there one (D.Step.Visit i) e v f j = absurd (v i refl)
    whole_there one (D.Step.Fork i) e v f j = absurd (f i refl)
    whole_there one (D.Step.Join i) e v f j = absurd (j i refl)

    -- its next order, if that is a step: the one that the table has there
    module _ {y : Step} (one : 1 ≤ x.next) (e : some y ≡ step_of (code_in operators o (x.next - 1))) where
      pub step_is : drop (x.next - 1) (steps B o) ≡ y ∷ drop x.next (steps B o)
      step_is =
          let k : suc (x.next - 1) ≡ x.next = omega arith in
          ap (drop (x.next - 1)) (sym steps_are) ∙ (here_is rowed (x.next - 1) (omega (arith, next_most)) (some y) e).0
          ∙ ap₂ (λ (j : ℕ) (ss : List Step). y ∷ drop j ss) k steps_are

      -- where it is VISIT, FORK or JOIN, the job goes on with the step behind it
      module _ (q : Inner y) where
        pub more : is_some (drop x.next (steps_in operators o)) ≡ true
        more =
            ap (λ (ss : List Step). is_some (drop x.next ss)) steps_are
            ∙ some_behind y (drop x.next (steps B o)) q (subst Shape step_is (shape_drop (x.next - 1) (steps B o) (is_settled o)))

        pub goes_on : (c : ℕ) (fs : List Frame) →
            proceed x.offset (suc x.next) c (drop x.next (steps_in operators o)) fs ≡ Frame.job x.offset (suc x.next) c ∷ fs
        goes_on = proceed_some (drop x.next (steps_in operators o)) more x.offset (suc x.next)
