-- WHOLE of the job on top of a busy unit's stack: what the code asks holds of each state that runs reach, and its answers are the machine's outcomes.
-- Assumes nothing.
use mathlib.Core.Path.{◌≡◌, sym, ap, ap₂, subst, subst₂, ◌∙◌}
use mathlib.Core.List.{List, [], ◌∷◌}
use Prim.Native.Nat.{ℕ, suc, ◌+◌, ◌≤◌, ◌<◌}
use native.Mathlib.Nat.{le_trans}
use native.Mathlib.Omega.{arith}
use lib.ListN.{length, get_or, drop}
use Rattle.paper.specs.Strategy.{Step}
use Rattle.paper.specs.Book.{Book, arity}
use Rattle.paper.specs.Machine as paper
use Rattle.paper.specs.Machine.{Ending}
use Rattle.paper.specs.Sound.{In, All}
use Rattle.paper.proofs.Lists.{all_of}
use Rattle.flat.specs.Symbols.{rewrite}
use Rattle.flat.specs.Machine.{Frame, FlatUnit, unit, FlatState, going, ended, with_unit, with_units, with_marks, proceed, mark, do_step, do_whole, flat_entry}
use Rattle.flat.specs.Rules.{stack, Rules}
use Rattle.flat.proofs.Tallies.{tallied_next}
use Rattle.symbol.specs.Record.{operator}
use Rattle.tables.specs.Layout.{steps_in, Rowed}
use Rattle.term.specs.Present.{length_in}
use Rattle.lookup.specs.Promises.{Present}
use Rattle.units.specs.Stacks.{store, Below, Offsets, units_in}
use Rattle.units.proofs.Units.{at_is}
use Rattle.units.specs.declared.frames.Job.{Job}
use Rattle.placing.specs.Order.{placed_in}
use Rattle.orders.specs.Promises as O
use Rattle.whole.specs.State as whole
use Rattle.whole.specs.Promises as W
use Rattle.whole.specs.declared.Whole as D
use Rattle.whole.specs.declared.Place.{Place}
use Rattle.whole.specs.declared.Progress.{Progress}
use Rattle.whole.specs.declared.Limits.{Limits}
use Rattle.entry.specs.State.{state, Arrays}
use Rattle.entry.specs.Promises.{Running, Turn, Working, Next, MarkedLeft}
use Rattle.entry.proofs.Facts as F
use Rattle.entry.proofs.Orders as orders

-- what holds of each unit holds of all
all_units : (P : FlatUnit → Type 0) (us : List FlatUnit) → ((v : ℕ) → P (unit us v)) → All P us
all_units P [] p = tt
all_units P (x ∷ us) p = (p 0, all_units P us (λ v. p (suc v)))

-- offsets of a stack, by those of its jobs
offsets_of : (m : ℕ) (fs : List Frame) → ((a k c : ℕ) → In (Frame.job a k c) fs → a < m) → Offsets m fs
offsets_of m fs h = all_of _ fs below
  where
    below : (f : Frame) → In f fs → Below m f
    below (Frame.job a k c) i = h a k c i
    below (Frame.exit w i) _ = tt
    below Frame.sleep _ = tt
    below Frame.bingo _ = tt

-- the jobs of all units are inside the term
offsets_inside : {B : Book} {L : paper.Limits} {s : FlatState} → Rules B L s → All (λ (x : FlatUnit). Offsets (length s.symbols) x.stack) s.units
offsets_inside {s = s} r = all_units _ s.units (λ v. offsets_of (length s.symbols) (stack s v) (r.offsets v))

module _ {bytes operators net symbols scratch work units order : List ℕ} {u : ℕ} {p : Progress} {l : Limits} (z : Arrays symbols scratch work units order l)
    (r : Running bytes operators net l (state symbols work units order p l)) (t : Turn l u (state symbols work units order p l)) {x : Job}
    (w : Working work units u x) (n : Next operators symbols x Step.whole) {y : Place} (at : y.unit ≡ u) (off : y.offset ≡ x.offset)
    (named : y.operator ≡ operator (get_or symbols x.offset 0)) where
  abbrev s : FlatState
  s = state symbols work units order p l

  -- WHAT IS ASKED

  pub whole_present : Present bytes operators net symbols y.offset
  whole_present = record {
    netted = r.netted;
    short = le_trans r.short (omega arith);
    sized = F.sized z r t;
    inside = omega (arith, off, F.offset_inside z r t w);
    known = r.known;
  }

  pub whole_operator : y.operator ≡ operator (get_or symbols y.offset 0)
  whole_operator = rw off named

  -- with one unit the jobs below stand before the one on top
  before : l.units ≡ 1 → Offsets y.offset (drop 1 (stack s y.unit))
  before one =
      let e : u ≡ 0 = omega (arith, t.one) in
      let top = subst (λ (v : ℕ). stack s v ≡ Frame.job x.offset x.next x.count ∷ drop 1 (stack s v)) e (F.stack_is z r t w.busy w.top) in
      subst₂ (λ (a v : ℕ). Offsets a (drop 1 (stack s v))) (sym off) (sym (at ∙ e))
      (offsets_of x.offset (drop 1 (stack s 0)) ((F.rules_hold z r t).alone (F.units_count z r t ∙ one) x.offset x.next x.count (drop 1 (stack s 0)) top))

  pub units_due : W.UnitsDue (store work units) l.units y (length_in symbols)
  units_due = record {
    few = z.few;
    one = omega (arith, at, t.one);
    top = rw at (F.has_frame z r t);
    offsets = subst (λ (k : ℕ). All (λ (q : FlatUnit). Offsets k q.stack) s.units) (F.length_is z r t) (offsets_inside (F.rules_hold z r t));
    alone = before;
  }

  -- WHAT IS ANSWERED

  module _ {symbols' work' : List ℕ} where
    -- the machine's outcome is the answer's
    outcome_is : (a : D.Whole) → W.CarriedOut (F.B z r t) y p l (whole.arrays symbols work units) (whole.arrays symbols' work' units) a →
        flat_entry (F.B z r t) (F.L z r t) u s ≡
        W.outcome y x.next x.count (drop x.next (steps_in operators (F.o z r t w))) (F.below z r t w.busy w.top) s
        (whole.state (whole.arrays symbols' work' units) (whole.progress p a) l (placed_in order)) a
    unfolding do_step
    outcome_is a d =
        let ss = drop x.next (steps_in operators (F.o z r t w)) in
        let fs = F.below z r t w.busy w.top in
        let s' = whole.state (whole.arrays symbols' work' units) (whole.progress p a) l (placed_in order) in
        orders.step_entry z r t w n.one n.is
        ∙ subst₂ (λ (v q : ℕ).
        do_whole (F.B z r t) (F.L z r t) v s q x.next x.count ss fs (rewrite (arity (F.B z r t)) (F.B z r t).rules q s.symbols) ≡
        W.outcome y x.next x.count ss fs s s' a) at off
        (d.is (placed_in order) x.next x.count ss (Frame.job x.offset x.next x.count) fs (rw at (F.unit_is z r t w.busy w.top)))

    -- the budget is used up; the term would be too long: nothing has changed
    module _ (scratch' : List ℕ) (long : length scratch' ≡ 1024) where
      pub whole_spent : W.CarriedOut (F.B z r t) y p l (whole.arrays symbols work units) (whole.arrays symbols' work' units) D.Whole.Spent →
          (ended Ending.spent (state symbols' work' units order p l) ≡ flat_entry (F.B z r t) (F.L z r t) u s) × Arrays symbols' scratch' work' units order l
      whole_spent d = (
        ap (λ (q : whole.Arrays). ended Ending.spent (whole.state q p l (placed_in order))) d.stays ∙ sym (outcome_is D.Whole.Spent d),
        record { symbols_long = d.long; scratch_long = long; most = d.most; fit = d.fit; order_fits = z.order_fits; few = z.few },
      )

      pub whole_full : W.CarriedOut (F.B z r t) y p l (whole.arrays symbols work units) (whole.arrays symbols' work' units) D.Whole.Full →
          (ended Ending.full (state symbols' work' units order p l) ≡ flat_entry (F.B z r t) (F.L z r t) u s) × Arrays symbols' scratch' work' units order l
      whole_full d = (
        ap (λ (q : whole.Arrays). ended Ending.full (whole.state q p l (placed_in order))) d.stays ∙ sym (outcome_is D.Whole.Full d),
        record { symbols_long = d.long; scratch_long = long; most = d.most; fit = d.fit; order_fits = z.order_fits; few = z.few },
      )

    -- a rule rewrote the term
    module _ (d : W.CarriedOut (F.B z r t) y p l (whole.arrays symbols work units) (whole.arrays symbols' work' units) D.Whole.Rewrote) where
      -- the budget was not used up
      pub rewrites_left : p.rewrites < l.budget
      rewrites_left =
          (tallied_next (F.B z r t) (F.L z r t) u s {n = s.granted + s.kept} (record { allowed = t.allowed; forks = omega arith })
          (outcome_is D.Whole.Rewrote d)).allowed

      pub whole_rewrote : (scratch' : List ℕ) → length scratch' ≡ 1024 → (p' : Progress) → p' ≡ whole.progress p D.Whole.Rewrote →
          (going (state symbols' work' units order p' l) ≡ flat_entry (F.B z r t) (F.L z r t) u s) × Arrays symbols' scratch' work' units order l
      whole_rewrote scratch' long p' e =
          subst (λ (q : Progress). (going (state symbols' work' units order q l) ≡ flat_entry (F.B z r t) (F.L z r t) u s) × Arrays symbols' scratch' work' units order l) (sym e) (
            sym (outcome_is D.Whole.Rewrote d),
            record { symbols_long = d.long; scratch_long = long; most = d.most; fit = d.fit; order_fits = z.order_fits; few = z.few },
          )

    -- no rule matches: nothing has changed yet, and the job goes on
    module _ (d : W.CarriedOut (F.B z r t) y p l (whole.arrays symbols work units) (whole.arrays symbols' work' units) D.Whole.Missed) where
      same_symbols : symbols' ≡ symbols
      same_symbols = ap (λ (q : whole.Arrays). q.symbols) d.stays

      same_work : work' ≡ work
      same_work = ap (λ (q : whole.Arrays). q.store.work) d.stays

      pub proceed_asks : Rowed operators (F.o z r t w) × O.CanProceed x u (store work' units)
      proceed_asks = (F.rowed z r t w, subst (λ (k : List ℕ). O.CanProceed x u (store k units)) (sym same_work) (F.can_proceed z r t w))

      pub mark_asks : (x.next < 16) × Rowed operators (F.o z r t w) × (y.offset < length_in symbols') × (length_in symbols' ≤ 1024)
      mark_asks =
          let h : y.offset < length_in symbols = omega (arith, off, F.offset_inside z r t w) in (
            omega (arith, F.next_most z r t w),
            F.rowed z r t w,
            subst (λ (xs : List ℕ). y.offset < length_in xs) (sym same_symbols) h,
            d.most,
          )

      pub whole_missed : (scratch' : List ℕ) → length scratch' ≡ 1024 → {symbols'' work'' units'' : List ℕ} →
          O.Proceeded (steps_in operators (F.o z r t w)) x u (store work' units) (store work'' units'') →
          MarkedLeft (length (drop x.next (steps_in operators (F.o z r t w)))) y.offset symbols' symbols'' →
          (going (state symbols'' work'' units'' order p l) ≡ flat_entry (F.B z r t) (F.L z r t) u s) × Arrays symbols'' scratch' work'' units'' order l
      whole_missed scratch' long {symbols''} {work''} {units''} q k =
          let ss = steps_in operators (F.o z r t w) in
          let fs = F.below z r t w.busy w.top in
          let n = length (drop x.next ss) in
          let c : O.Proceeded ss x u (store work units) (store work'' units'') = subst (λ (k : List ℕ). O.Proceeded ss x u (store k units) (store work'' units'')) same_work q in
          let m : MarkedLeft n y.offset symbols symbols'' = subst (λ (xs : List ℕ). MarkedLeft n y.offset xs symbols'') same_symbols k in
          let e : flat_entry (F.B z r t) (F.L z r t) u s ≡ going (with_marks (with_units s (units_in (store work'' units'') l.units)) (mark n y.offset s.marks)) =
          outcome_is D.Whole.Missed d
          ∙ ap₂ (λ (v k : ℕ).
          going (with_marks (with_unit s v 0 (proceed k (suc x.next) x.count (drop x.next ss) fs)) (mark n y.offset s.marks))) at off
          ∙ ap (λ (us : List FlatUnit). going (with_marks (with_units s us) (mark n y.offset s.marks)))
          (sym (at_is u s.units (O.restack (O.goes_on ss x x.count)) _ (F.unit_is z r t w.busy w.top)) ∙ sym (c.change.units l.units)) in (
            ap (λ (y : FlatState). going y) (orders.marked_state z r t m work'' units'') ∙ sym e,
            record {
              symbols_long = m.long ∙ z.symbols_long;
              scratch_long = long;
              most = orders.marked_most z r t m;
              fit = c.change.fit;
              order_fits = z.order_fits;
              few = z.few;
            },
          )
