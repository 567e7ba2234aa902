-- FORK as an entry. Assumes nothing.
use mathlib.Core.Path.{◌≡◌, refl, sym, ap, subst, ◌∙◌}
use mathlib.Core.List.{List, ◌∷◌}
use mathlib.Core.Logic.{◌≢◌}
use mathlib.Core.Option.{Option, none, some}
use Prim.Native.Nat.{ℕ, ◌+◌, ◌-◌, ◌≤◌, ◌<◌, pred}
use native.Mathlib.Omega.{arith}
use lib.ListN.{length, drop, length-set}
use lib.ListN.{set as put}
use lib.Seq.{get_or-set_same}
use Rattle.paper.specs.Strategy.{Step}
use Rattle.paper.specs.Book.{arity, steps}
use Rattle.flat.specs.Sizes.{hop}
use Rattle.flat.specs.Machine.{Frame, FlatUnit, flat_unit, asleep, FlatState, unit, going, with_placed, first_idle, do_fork, do_step, flat_entry}
use Rattle.flat.specs.Rules.{stack}
use Rattle.flat.proofs.Idle.{idle_is, idle_other, leave_stack}
use Rattle.flat.proofs.Inside.{fork_within}
use Rattle.symbol.specs.Record.{sizes}
use Rattle.tables.specs.Layout.{step_of, code_in, steps_in}
use Rattle.net.proofs.Laws.{tables_by}
use Rattle.units.specs.Stacks.{store, height_in, units_in}
use Rattle.units.specs.Promises.{answer}
use Rattle.std.specs.Prelude.{Option as Answer, Some, None}
use Rattle.units.specs.declared.frames.Job.{Job}
use Rattle.placing.specs.Promises.{CanPlace}
use Rattle.placing.proofs.Order.{placed_length}
use Rattle.orders.specs.Promises as O
use Rattle.orders.proofs.Tables.{argument_by, argument_said}
use Rattle.orders.proofs.Changes.{argument_found}
use Rattle.orders.proofs.Entries as entries
use Rattle.whole.specs.declared.Progress.{Progress}
use Rattle.whole.specs.declared.Limits.{Limits}
use Rattle.entry.specs.State.{state, Arrays}
use Rattle.entry.specs.Promises.{Running, Turn, Working, forked}
use Rattle.entry.specs.Promises as E
use Rattle.entry.proofs.Facts as F
use Rattle.entry.proofs.Orders as orders

module _ {bytes operators net symbols scratch work units order : List ℕ} {u : ℕ} {p : Progress} {l : Limits} (z : Arrays symbols scratch work units order l)
    (r : Running bytes operators net l (state symbols work units order p l)) (t : Turn l u (state symbols work units order p l)) {x : Job}
    (w : Working work units u x) (one : 1 ≤ x.next) {i : ℕ} (e : some (Step.fork i) ≡ step_of (code_in operators (F.o z r t w) (x.next - 1))) where
  abbrev s : FlatState
  s = state symbols work units order p l

  abbrev ss : List Step
  ss = steps_in operators (F.o z r t w)

  abbrev fs : List Frame
  fs = F.below z r t w.busy w.top

  abbrev a : O.Argument
  a = O.argument_of operators s.symbols x i

  fork_there : i < arity (F.B z r t) (F.o z r t w)
  fork_there =
      fork_within (F.B z r t) (tables_by r.netted).good (F.o z r t w) (x.next - 1) i (drop x.next (steps (F.B z r t) (F.o z r t w)))
      (F.operator_known z r t w) (F.step_is z r t w one e)

  pub fork_place : O.ArgumentRowed operators symbols x i
  fork_place = orders.argument_asks z r t w one fork_there

  there : (argument_by (F.B z r t) s.symbols x i).offset < length s.symbols
  there = orders.argument_there z r t w one fork_there

  said : a ≡ argument_by (F.B z r t) s.symbols x i
  said = argument_said (tables_by r.netted) s.symbols r.known x i there

  -- by the answer of the search for an idle unit
  by_idle : (v : Option ℕ) → first_idle s.units ≡ v →
      flat_entry (F.B z r t) (F.L z r t) u s ≡ do_fork (F.B z r t) (F.L z r t) u s x.offset a.offset x.next x.count (drop x.next ss) fs v
  unfolding do_step
  by_idle v q =
      orders.step_entry z r t w one e
      ∙ ap (λ (b : O.Argument). do_fork (F.B z r t) (F.L z r t) u s x.offset b.offset x.next x.count (drop x.next ss) fs (first_idle s.units)) (sym said)
      ∙ ap (do_fork (F.B z r t) (F.L z r t) u s x.offset a.offset x.next x.count (drop x.next ss) fs) q

  inside : u < length s.units
  inside = omega (arith, F.units_count z r t, t.one)

  -- a unit's stack after the entry
  stack_fits : (s' : FlatState) (us : List FlatUnit) (v : ℕ) (y : FlatUnit) → flat_entry (F.B z r t) (F.L z r t) u s ≡ going s' → stack s' v ≡ (unit (put us v y) v).stack →
      v < length us → length y.stack ≤ 1026
  stack_fits s' us v y q h m =
      omega (arith, F.room_after z r t s' q v, ap length h, ap (λ (y : FlatUnit). length y.stack) (get_or-set_same us v y (asleep 1) m))

  -- kept: the stack after the entry fits
  kept_fits : first_idle s.units ≡ none → O.RoomFor (O.keeps x a.offset) u (store work units)
  unfolding do_fork
  kept_fits q =
      subst (λ (gs : List Frame). length (O.keeps x a.offset gs) ≤ 1026) (sym (F.stack_kept z r t u t.one))
      (subst (λ (gs : List Frame). length (Frame.job a.offset 0 0 ∷ gs) ≤ 1026) (F.goes_on z r t w one e tt (pred x.count) fs)
      (stack_fits _ s.units u (flat_unit 0 (Frame.job a.offset 0 0 ∷ O.goes_on ss x (pred x.count) (stack s u))) (by_idle none q) refl inside))

  -- granted: two frames more fit on the idle unit's stack
  granted_fits : (v : ℕ) → first_idle s.units ≡ some v → (v ≢ u) × (height_in units v + 2 ≤ 1026)
  unfolding do_fork
  granted_fits v q =
      let m = (idle_is s.units v q).0 in
      let us = put s.units u (flat_unit 0 (O.goes_on ss x x.count (stack s u))) in
      let y = flat_unit (unit s.units v).rank (Frame.job a.offset 0 0 ∷ Frame.exit u (length fs) ∷ stack s v) in
      let h = stack_fits _ us v y (by_idle (some v) q) (leave_stack 1 (put us v y) v)
      (omega (arith, m, length-set s.units u (flat_unit 0 (O.goes_on ss x x.count (stack s u))))) in (
        idle_other s.units u v q (ap (λ (b : FlatUnit). b.rank) (F.unit_is z r t w.busy w.top)),
        omega (arith, h, F.height_is z r t v (omega (arith, m, F.units_count z r t))),
      )

  -- and a part more has room in the order of placing
  granted_room : (v : ℕ) → first_idle s.units ≡ some v → CanPlace order v
  unfolding do_fork
  granted_room v q = record {
    fits = z.order_fits;
    room = omega (arith, F.placed_after z r t _ (by_idle (some v) q), placed_length order, F.length_is z r t, z.most);
    small = omega (arith, (idle_is s.units v q).0, F.units_count z r t, z.few);
  }

  -- by the answer
  pub fork_places : {b : ℕ} {work' units' : List ℕ} (g : Answer ℕ) → O.Forked x b l.units u (store work units) (store work' units') g → E.CanPlace g order
  fork_places (Some v) d = record { fits = z.order_fits; room = granted_room v d.found }
  fork_places None d = record { fits = z.order_fits; room = tt }

  -- the state behind a FORK is that of the counts and of the order behind it
  counted : (work' units' order' : List ℕ) (g : Answer ℕ) → E.Placed g order order' →
      entries.counted_fork s (units_in (store work' units') l.units) (answer g) ≡ state symbols work' units' order' (forked p g) l
  counted work' units' order' (Some v) k =
      ap (with_placed (state symbols work' units' order' (forked p (Some v)) l)) (sym k.is)
  counted work' units' order' None k =
      ap (with_placed (state symbols work' units' order' (forked p None) l)) (sym k.is)

  -- found at offset b
  module _ {b : ℕ} (eb : b ≡ hop (sizes symbols) i (x.offset + 1)) where
    at : b ≡ a.offset
    at = argument_found fork_place.place eb

    pub fork_asks : b < 1024 → O.CanFork x b l.units u (store work units)
    fork_asks h = record {
      job = F.can_proceed z r t w;
      offset = h;
      few = z.few;
      keep = λ q. subst (λ (k : ℕ). O.RoomFor (O.keeps x k) u (store work units)) (sym at) (kept_fits q);
      grant = granted_fits;
    }

    pub fork_entered : {work' units' order' : List ℕ} {g : Answer ℕ} → O.Forked x b l.units u (store work units) (store work' units') g → (p' : Progress) →
        (p' ≡ forked p g) × E.Placed g order order' →
        (going (state symbols work' units' order' p' l) ≡ flat_entry (F.B z r t) (F.L z r t) u s) × Arrays symbols scratch work' units' order' l
    fork_entered {work'} {units'} {order'} {g} d p' h =
        subst (λ (q : Progress). (going (state symbols work' units' order' q l) ≡ flat_entry (F.B z r t) (F.L z r t) u s) × Arrays symbols scratch work' units' order' l)
        (sym h.0) (
          sym (
              F.entry_is z r t w.busy w.top
              ∙ entries.fork_entry (F.B z r t) (F.L z r t) u l.units s (store work units) refl t.one _ fs (F.unit_is z r t w.busy w.top) (tables_by r.netted)
              r.known x (omega (arith, F.offset_inside z r t w, F.length_is z r t)) one (omega (arith, F.next_most z r t w)) (orders.more z r t w one e tt) i
              (subst (λ (q : ℕ). some (Step.fork i) ≡ step_of (code_in operators q (x.next - 1))) (sym (F.operator_is z r t w)) e) there
              (subst (λ (k : ℕ). O.Forked x k l.units u (store work units) (store work' units') g) at d)
              ∙ ap (λ (y : FlatState). going y) (counted work' units' order' g h.1)
              ),
          record { symbols_long = z.symbols_long; scratch_long = z.scratch_long; most = z.most; fit = d.fit; order_fits = h.1.fits; few = z.few },
        )
