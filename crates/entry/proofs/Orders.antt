-- Entries that leave the term, but for marks, and the counts as they are: an idle unit's, BINGO's, VISIT's, JOIN's, EXIT's and SLEEP's. What the code asks
-- holds of each state that runs reach, and what it leaves is the machine's outcome. Assumes nothing.
use mathlib.Core.Path.{◌≡◌, refl, sym, ap, ap₂, subst, subst₂, ◌∙◌}
use mathlib.Core.Bool.{Bool, true, false}
use mathlib.Core.List.{List, ◌∷◌}
use mathlib.Core.Option.{some}
use Prim.Native.Nat.{ℕ, ◌-◌, ◌≤◌, ◌<◌}
use native.Mathlib.Omega.{arith}
use lib.ListN.{length, get_or, drop}
use lib.Seq.{get_or-set_same}
use Rattle.paper.specs.Strategy.{Step}
use Rattle.paper.specs.Book.{arity, steps}
use Rattle.paper.specs.Machine.{Ending}
use Rattle.flat.specs.Machine.{Frame, FlatUnit, flat_unit, asleep, FlatState, going, ended, with_unit, with_units, with_marks, with_placed, carry_out, flat_entry, mark, do_step, do_visit, visit}
use Rattle.flat.specs.Rules.{stack}
use Rattle.flat.proofs.Inside.{visit_within, exit_unit}
use Rattle.flat.proofs.Sizes.{arguments_inside}
use Rattle.tables.specs.Layout.{step_of, code_in, steps_in, Rowed}
use Rattle.net.proofs.Laws.{tables_by}
use Rattle.term.specs.Present.{length_in, marks_in}
use Rattle.units.specs.Stacks.{store, busy_in, units_in}
use Rattle.units.specs.Promises.{TopIs, StacksFit, HasFrame, CellIdled}
use Rattle.units.specs.declared.frames.Job.{Job}
use Rattle.units.specs.declared.frames.Exit.{Exit}
use Rattle.placing.specs.Order.{placed_in, OrderFits}
use Rattle.placing.specs.Promises.{TakenOut}
use Rattle.orders.specs.Promises as O
use Rattle.orders.proofs.Tables.{argument_by, visit_by, argument_place, visit_said}
use Rattle.orders.proofs.Entries as entries
use Rattle.whole.specs.declared.Progress.{Progress}
use Rattle.whole.specs.declared.Limits.{Limits}
use Rattle.entry.specs.State.{state, Arrays}
use Rattle.entry.specs.Promises.{Running, Turn, Working, MarkedLeft, Visited, visit_of, ArgumentVisited}
use Rattle.entry.proofs.Facts as F

module _ {bytes operators net symbols scratch work units order : List ℕ} {u : ℕ} {p : Progress} {l : Limits} (z : Arrays symbols scratch work units order l)
    (r : Running bytes operators net l (state symbols work units order p l)) (t : Turn l u (state symbols work units order p l)) where
  abbrev s : FlatState
  s = state symbols work units order p l

  -- the run goes on from other units, from the symbols symbols' and the order of placing order'
  abbrev pub GoesOn : List ℕ → List ℕ → List ℕ → List ℕ → Type 0
  GoesOn symbols' work' units' order' =
      (going (state symbols' work' units' order' p l) ≡ flat_entry (F.B z r t) (F.L z r t) u s) × Arrays symbols' scratch work' units' order' l

  went_placed : {work' units' order' : List ℕ} → StacksFit (store work' units') → OrderFits order' →
      flat_entry (F.B z r t) (F.L z r t) u s ≡ going (with_placed (with_units s (units_in (store work' units') l.units)) (placed_in order')) →
      GoesOn symbols work' units' order'
  went_placed fit q e =
      (sym e, record { symbols_long = z.symbols_long; scratch_long = z.scratch_long; most = z.most; fit = fit; order_fits = q; few = z.few })

  -- the order stays
  pub went_on : {work' units' : List ℕ} → StacksFit (store work' units') →
      flat_entry (F.B z r t) (F.L z r t) u s ≡ going (with_units s (units_in (store work' units') l.units)) → GoesOn symbols work' units' order
  went_on fit e = went_placed fit z.order_fits e

  -- the same with a term marked that has no orders left
  module _ {n a : ℕ} {symbols' : List ℕ} (m : MarkedLeft n a symbols symbols') where
    pub marked_state : (work' units' : List ℕ) → state symbols' work' units' order p l ≡ with_marks (with_units s (units_in (store work' units') l.units)) (mark n a s.marks)
    marked_state work' units' =
        let go : List ℕ → List ℕ → List Bool → FlatState = λ xs zs ms. record {
          symbols = xs;
          sizes = zs;
          marks = ms;
          units = units_in (store work' units') l.units;
          rewrites = p.rewrites;
          granted = p.granted;
          kept = p.kept;
          placed = placed_in order;
        } in
        ap₂ (λ (xs zs : List ℕ). go xs zs (marks_in symbols')) m.operators_are m.sizes_are ∙ ap (go s.symbols s.sizes) m.marks_are

    pub marked_most : length_in symbols' ≤ 1024
    marked_most = omega (arith, m.length_is, z.most)

    went_marked : {work' units' : List ℕ} → StacksFit (store work' units') →
        flat_entry (F.B z r t) (F.L z r t) u s ≡ going (with_marks (with_units s (units_in (store work' units') l.units)) (mark n a s.marks)) →
        GoesOn symbols' work' units' order
    went_marked fit e = (
      ap (λ (y : FlatState). going y) (marked_state _ _) ∙ sym e,
      record { symbols_long = m.long ∙ z.symbols_long; scratch_long = z.scratch_long; most = marked_most; fit = fit; order_fits = z.order_fits; few = z.few },
    )

  -- an idle unit
  pub stayed : busy_in units u ≡ false → GoesOn symbols work units order
  stayed e = (sym (F.idle_entry z r t e), z)

  -- BINGO
  pub finished : busy_in units u ≡ true → TopIs u Frame.bingo (store work units) →
      (ended Ending.finished s ≡ flat_entry (F.B z r t) (F.L z r t) u s) × Arrays symbols scratch work units order l
  unfolding carry_out
  finished b top = (sym (F.entry_is z r t b top), z)

  -- SLEEP
  pub slept : busy_in units u ≡ true → TopIs u Frame.sleep (store work units) → {units' : List ℕ} → CellIdled l.units u units units' → GoesOn symbols work units' order
  slept b top d =
      went_on (d.change work z.fit).fit
      (F.entry_is z r t b top
      ∙ entries.sleep_entry (F.B z r t) (F.L z r t) u l.units s (store work units) refl t.one Frame.sleep (F.below z r t b top) (F.unit_is z r t b top) refl
      z.fit d)

  -- EXIT
  module _ {x : Exit} (b : busy_in units u ≡ true) (top : TopIs u (Frame.exit x.unit x.index) (store work units)) where
    joins_there : x.unit < l.units
    joins_there = omega (arith, exit_unit (F.rules_hold z r t) u x.unit x.index (F.top_in z r t b top), F.units_count z r t)

    pub exit_asks : O.CanExit x u (store work units)
    exit_asks =
        let e = (F.rules_hold z r t).exits u x.unit x.index (F.top_in z r t b top) in
        record {
          top = F.has_frame z r t;
          join = record { fit = z.fit; unit = omega (arith, joins_there, z.few); index = omega (arith, e.1, F.height_is z r t x.unit joins_there) };
          other = e.0;
        }

    pub exited : {work' units' order' : List ℕ} → O.Exited x u (store work units) (store work' units') → TakenOut u order order' → GoesOn symbols work' units' order'
    exited {work'} {units'} d k =
        went_placed d.fit k.fits
        (F.entry_is z r t b top
        ∙ entries.exit_entry (F.B z r t) (F.L z r t) u l.units s (store work units) refl t.one _ (F.below z r t b top) (F.unit_is z r t b top) {x = x} joins_there
        d ∙ ap (λ (vs : List ℕ). going (with_placed (with_units s (units_in (store work' units') l.units)) vs)) (sym k.is))

  -- A JOB

  module _ {x : Job} (w : Working work units u x) where
    abbrev o : ℕ
    o = F.o z r t w

    abbrev fs : List Frame
    fs = F.below z r t w.busy w.top

    inside : x.offset < length s.symbols
    inside = omega (arith, F.offset_inside z r t w, F.length_is z r t)

    -- what is known of the table at the job's operator, read in the symbols as they are kept
    by_operator : (P : ℕ → Type 0) → P o → P (get_or s.symbols x.offset 0)
    by_operator P h = subst P (sym (F.operator_is z r t w)) h

    -- VISIT of its own term
    pub visit_asks : Rowed operators o × HasFrame (store work units) u 0 × (x.offset < length_in symbols) × (length_in symbols ≤ 1024)
    visit_asks = (F.rowed z r t w, F.has_frame z r t, F.offset_inside z r t w, z.most)

    pub visited : x.next ≡ 0 → {symbols' work' units' : List ℕ} →
        Visited operators x.offset u symbols symbols' (store work units) (store work' units') → GoesOn symbols' work' units' order
    visited none d =
        went_marked d.marks d.stack.change.fit
        (F.entry_is z r t w.busy w.top
        ∙ ap (λ (k : ℕ). carry_out (F.B z r t) (F.L z r t) u s fs (Frame.job x.offset k x.count)) none
        ∙ entries.visit_entry (F.B z r t) (F.L z r t) u l.units s (store work units) refl t.one _ fs (F.unit_is z r t w.busy w.top) (tables_by r.netted)
        r.known x.offset x.count inside d.stack)

    -- its next step, as the table has it
    module _ (one : 1 ≤ x.next) where
      pub step_entry : {y : Step} → some y ≡ step_of (code_in operators o (x.next - 1)) →
          flat_entry (F.B z r t) (F.L z r t) u s ≡
          do_step (F.B z r t) (F.L z r t) u s x.offset x.next x.count (y ∷ drop x.next (steps_in operators o)) fs
      step_entry {y} e =
          F.entry_is z r t w.busy w.top
          ∙ entries.step_entry (F.B z r t) (F.L z r t) u l.units s (store work units) refl t.one _ fs (F.unit_is z r t w.busy w.top) (tables_by r.netted)
          r.known x inside one (omega (arith, F.next_most z r t w)) y (by_operator (λ (q : ℕ). some y ≡ step_of (code_in operators q (x.next - 1))) e)
          ∙ ap (λ (q : ℕ). do_step (F.B z r t) (F.L z r t) u s x.offset x.next x.count (y ∷ drop x.next (steps_in operators q)) fs)
          (F.operator_is z r t w)

      -- a step behind it is left
      pub more : {y : Step} → some y ≡ step_of (code_in operators o (x.next - 1)) → F.Inner y →
          O.is_some (drop x.next (steps_in operators (get_or s.symbols x.offset 0))) ≡ true
      more e q = by_operator (λ (j : ℕ). O.is_some (drop x.next (steps_in operators j)) ≡ true) (F.more z r t w one e q)

      -- a stack that the machine gives unit u fits
      pub next_fits : (k : ℕ) (gs : List Frame) (ms : List Bool) → flat_entry (F.B z r t) (F.L z r t) u s ≡ going (with_marks (with_unit s u k gs) ms) → length gs ≤ 1026
      next_fits k gs ms e =
          omega (
            arith,
            F.room_after z r t (with_marks (with_unit s u k gs) ms) e u,
            ap (λ (y : FlatUnit). length y.stack)
                (get_or-set_same s.units u (flat_unit k gs) (asleep 1) (omega (arith, F.units_count z r t, t.one))),
          )

      -- argument i of its term, if it has one
      module _ {i : ℕ} (there : i < arity (F.B z r t) o) where
        pub argument_there : (argument_by (F.B z r t) s.symbols x i).offset < length s.symbols
        argument_there =
            arguments_inside (arity (F.B z r t)) s.symbols x.offset i (F.rules_hold z r t).term inside (by_operator (λ (q : ℕ). i < arity (F.B z r t) q) there)

        pub argument_asks : O.ArgumentRowed operators symbols x i
        argument_asks =
            argument_place (tables_by r.netted) symbols x i r.known (F.sized z r t) (F.offset_inside z r t w)
            (by_operator (λ (q : ℕ). i < arity (F.B z r t) q) there)

      -- VISIT of argument i
      module _ {i : ℕ} (e : some (Step.visit i) ≡ step_of (code_in operators o (x.next - 1))) where
        visit_there : i < arity (F.B z r t) o
        visit_there =
            visit_within (F.B z r t) (tables_by r.netted).good o (x.next - 1) i (drop x.next (steps (F.B z r t) o)) (F.operator_known z r t w)
            (F.step_is z r t w one e)

        pub visit_place : O.ArgumentRowed operators symbols x i
        visit_place = argument_asks visit_there

        abbrev a : O.Argument
        a = visit_of operators symbols x i

        -- the stack after the entry fits
        visit_fits : O.RoomFor (O.visits x a) u (store work units)
        unfolding do_step do_visit visit
        visit_fits =
            let said = visit_said (tables_by r.netted) s.symbols r.known s.marks x i (argument_there visit_there) in
            let b = visit_by (F.B z r t) s.symbols s.marks x i in
            subst₂ (λ (b : O.Argument) (gs : List Frame). length (O.visits x b gs) ≤ 1026) (sym said)
            (sym (F.stack_kept z r t u t.one))
            (next_fits 0 (O.visits x b (stack s u)) (mark (length b.steps) b.offset s.marks)
            (step_entry e ∙ ap (do_visit (F.B z r t) (F.L z r t) u s b.offset) (F.goes_on z r t w one e tt x.count fs)))

        pub visit_argument_asks : O.CanVisit x a u (store work units)
        visit_argument_asks = record { job = F.can_proceed z r t w; room = visit_fits }

        pub visited_argument : {symbols' work' units' : List ℕ} →
            ArgumentVisited operators x i u symbols symbols' (store work units) (store work' units') → GoesOn symbols' work' units' order
        visited_argument d =
            went_marked d.marks d.stack.change.fit
            (F.entry_is z r t w.busy w.top
            ∙ entries.visit_argument_entry (F.B z r t) (F.L z r t) u l.units s (store work units) refl t.one _ fs (F.unit_is z r t w.busy w.top)
            (tables_by r.netted) r.known x inside one (omega (arith, F.next_most z r t w)) (more e tt) i
            (by_operator (λ (q : ℕ). some (Step.visit i) ≡ step_of (code_in operators q (x.next - 1))) e) (argument_there visit_there) d.stack)

      -- JOIN
      pub joined : {c : ℕ} → some (Step.join c) ≡ step_of (code_in operators o (x.next - 1)) → {work' units' : List ℕ} →
          O.Joined (steps_in operators o) x l.units u (store work units) (store work' units') → GoesOn symbols work' units' order
      joined {c} e {work'} {units'} d =
          went_on d.change.fit
          (F.entry_is z r t w.busy w.top
          ∙ entries.join_entry (F.B z r t) (F.L z r t) u l.units s (store work units) refl t.one _ fs (F.unit_is z r t w.busy w.top) (tables_by r.netted)
          r.known x inside one (omega (arith, F.next_most z r t w)) (more e tt) c
          (by_operator (λ (q : ℕ). some (Step.join c) ≡ step_of (code_in operators q (x.next - 1))) e) refl
          (by_operator (λ (q : ℕ). O.Joined (steps_in operators q) x l.units u (store work units) (store work' units')) d))
