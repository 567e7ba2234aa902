-- How long a schedule suffices. What is left of a run is measured by
--     orders left + 3 × FORKs left + 2 × EXITs pending + busy units:
-- every order that an entry carries out lowers it, and it never falls to 0, since some unit is busy. At the start it is S + 3 × F. Assumes nothing.
use mathlib.Core.Bool.{Bool, true, false, true≢false}
use mathlib.Core.List.{List, [], ◌∷◌, ◌++◌, flatten}
use mathlib.Core.Logic.{◌⊎◌, inl, inr}
use mathlib.Core.Option.{Option, none, some, none-ne-some, some-injective}
use mathlib.Core.Path.{◌≡◌, refl, sym, ◌∙◌, ap, subst}
use Prim.Native.Nat.{ℕ, zero, suc, ◌+◌, ◌-◌, ◌*◌, ◌≤◌}
use native.Mathlib.Omega.{arith}
use lib.ListN.{length, replicate, length-replicate}
use Rattle.paper.specs.Result.{accepted}
use Rattle.paper.specs.Tree.{Correct}
use Rattle.paper.specs.Book.{Term, Book, arity}
use Rattle.paper.specs.Dated.{AnyBook, read_any, on_day}
use Rattle.paper.specs.Line.{read_line}
use Rattle.paper.specs.Marks.{Marked, bare}
use Rattle.paper.specs.Reduction.{forks, orders}
use Rattle.paper.specs.Walk.{ReducesMarked}
use Rattle.paper.specs.Machine.{asleep, unit, State, Event, Ending, Outcome, going, ended, Limits, Grant, in_force, turn_by, entry_by, start}
use Rattle.paper.specs.Run.{Answer, after, run_from_by, run_by, run, weigh}
use Rattle.paper.specs.OneUnit.{unlimited, alone}
use Rattle.paper.specs.Parts.{unless_ended, from_point, parked_by, parked_parts_by}
use Rattle.paper.specs.Page.{ending_number}
use Rattle.paper.specs.Enough.{order_of, onward, carried_from, carried, carried_parts, Names, orders_alone, forks_alone, sufficient, Enough}
use Rattle.paper.specs.Sound.{In, All, Sound}
use Rattle.paper.specs.Demand3.{Demand3}
use Rattle.paper.specs.Idle.{Queued, OnlyIdle}
use Rattle.paper.proofs.Busy.{over_units, awake, busy_counts, at_most_one, some_awake, rests, WakesAfter, entry_wakes}
use Rattle.paper.proofs.Dated.{day_sound}
use Rattle.paper.proofs.Demand3.{first, start_inv, walks_left, counted, forks_counted, demand_3_of, forks_agree}
use Rattle.paper.proofs.Entry.{entry_next_by}
use Rattle.paper.proofs.Ghost.{Ghost, todo, Left, still_only}
use Rattle.paper.proofs.Idle.{longest_idle}
use Rattle.paper.proofs.Invariant.{Inv, left_by, placed_by, pending, Shows, Next, n_going, n_finished, n_spent, n_full}
use Rattle.paper.proofs.Line.{line_correct}
use Rattle.paper.proofs.OneUnit.{one, alone_busy, alone_none, alone_counts, start_pending, one_unit}
use Rattle.paper.proofs.Parts.{parked_run_by, parts_parked_by, parked_inv_by}
use Rattle.paper.proofs.Progress.{can_act}
use Rattle.paper.proofs.Queue.{QueuedAfter, entry_queued, start_queued}
use Rattle.paper.proofs.View.{Block}

-- AN ENTRY

-- a run that is cut has not ended
unfoldable pub uncut : Ending → ℕ
uncut Ending.finished = 0
uncut Ending.spent = 0
uncut Ending.full = 0
uncut Ending.cut = 1

-- an entry for an idle unit
idle_entry : (G : Grant) (B : Book) (L : Limits) (u : ℕ) (s : State) → (unit s.units u).busy ≡ false → entry_by G B L u s ≡ going Event.idled s
unfolding entry_by turn_by
idle_entry G B L u s e = rw (e, entry_by, turn_by)

-- whether an event is an order carried out
unfoldable acts : Event → ℕ
acts Event.idled = 0
acts Event.visited = 1
acts (Event.forked p j) = 1
acts Event.kept = 1
acts (Event.passed j) = 1
acts Event.waited = 1
acts (Event.exited p j) = 1
acts Event.missed = 1
acts Event.rewrote = 1
acts Event.slept = 1

-- an entry that counts is an order carried out: a busy unit has one
order_acts : (ev : Event) (u : ℕ) (s s' : State) → Shows ev u s s' → order_of (unit s.units u) ≤ acts ev
unfolding acts order_of
order_acts Event.idled u s s' sw = rw (sw, order_of) (omega arith)
order_acts Event.visited u s s' sw = at_most_one (unit s.units u)
order_acts (Event.forked p j) u s s' sw = at_most_one (unit s.units u)
order_acts Event.kept u s s' sw = at_most_one (unit s.units u)
order_acts (Event.passed j) u s s' sw = at_most_one (unit s.units u)
order_acts Event.waited u s s' sw = at_most_one (unit s.units u)
order_acts (Event.exited p j) u s s' sw = at_most_one (unit s.units u)
order_acts Event.missed u s s' sw = at_most_one (unit s.units u)
order_acts Event.rewrote u s s' sw = at_most_one (unit s.units u)
order_acts Event.slept u s s' sw = at_most_one (unit s.units u)

-- what an event pays for: the order carried out, and three for each EXIT that it places
pays : (ev : Event) → acts ev + 3 * placed_by one ev ≤ weigh orders ev + 3 * weigh forks ev + left_by one ev + rests ev
unfolding acts placed_by left_by rests weigh
pays Event.idled = omega arith
pays Event.visited = omega arith
pays (Event.forked p j) = omega arith
pays Event.kept = omega arith
pays (Event.passed j) = omega arith
pays Event.waited = omega arith
pays (Event.exited p j) = omega arith
pays Event.missed = omega arith
pays Event.rewrote = omega arith
pays Event.slept = omega arith

awake_one : {B : Book} {L : Limits} {s : State} {D : Ghost} {bs : List Block} → Inv B L s D bs → 1 ≤ awake s.units
awake_one {B} {L} {s} {D} {bs} inv = let (u, h, b) = can_act B L s D bs inv in some_awake s.units u b

-- A SCHEDULE, by any grant rule that answers idle units only
module _ (G : Grant) (only : OnlyIdle G) (B : Book) (L : Limits) (sound : Sound B) where
  -- every order carried out lowers the measure; a run that is cut has carried out one less than it was
  abbrev Bound : ℕ → List ℕ → Type 0
  Bound n us = (s : State) (D : Ghost) (bs : List Block) → Inv B L s D bs → Queued s → (k f : ℕ) (t v : Marked) → Left B orders D k t → Left B forks D f v →
      carried_from G B L us s + uncut (run_from_by G B L n us s).ending ≤ k + 3 * f + 2 * pending one bs + awake s.units

  bound : (n : ℕ) (us : List ℕ) → Bound n us
  unfolding carried_from run_from_by uncut
  bound n [] s D bs inv qd k f t v l m = omega (arith, awake_one inv)
  bound n (u ∷ us) s D bs inv qd k f t v l m =
      go (entry_by G B L u s) (entry_next_by G only B L sound s qd u D bs inv) (entry_queued G B L u s qd) (entry_wakes G B L u s D bs inv) (bound (suc n) us)
    where
      go : (x : Outcome) → Next B L u s D bs x → QueuedAfter x → WakesAfter s x → Bound (suc n) us →
          order_of (unit s.units u) + onward (carried_from G B L us) x + uncut (after n (run_from_by G B L (suc n) us) x).ending
          ≤ k + 3 * f + 2 * pending one bs + awake s.units
      go (going ev s₁) (n_going D₁ bs₁ inv₁ hn sh cn mv ln sw) q w ih =
          let (k₁, p, l₁) = (sh orders).forth k t l in
          let (f₁, r, m₁) = (sh forks).forth f v m in
          unfold onward after in omega (arith, ih s₁ D₁ bs₁ inv₁ q k₁ f₁ t v l₁ m₁, mv one, order_acts ev u s s₁ sw, pays ev)
      go (ended e s₁) (n_finished h) q w ih = unfold onward after in omega (arith, awake_one inv, at_most_one (unit s.units u))
      go (ended e s₁) (n_spent c h) q w ih = unfold onward after in omega (arith, awake_one inv, at_most_one (unit s.units u))
      go (ended e s₁) (n_full j c) q w ih = unfold onward after in omega (arith, awake_one inv, at_most_one (unit s.units u))

  -- ROUNDS: of a run that is cut, with the entries us to come, m orders or more are carried out
  module _ (units : ℕ) where
    abbrev Carries : ℕ → List ℕ → Type 0
    Carries m us = (n : ℕ) (s : State) (D : Ghost) (bs : List Block) → Inv B L s D bs → Queued s → length s.units ≡ units →
        (run_from_by G B L n us s).ending ≡ Ending.cut → m ≤ carried_from G B L us s

    -- an entry in front does no harm, and is an order where its unit is busy
    before : (u : ℕ) (us : List ℕ) (m : ℕ) → Carries m us → (n : ℕ) (s : State) (D : Ghost) (bs : List Block) → Inv B L s D bs → Queued s → length s.units ≡ units →
        (run_from_by G B L n (u ∷ us) s).ending ≡ Ending.cut → order_of (unit s.units u) + m ≤ carried_from G B L (u ∷ us) s
    unfolding carried_from run_from_by onward after uncut
    before u us m h n s D bs inv qd ln e = go (entry_by G B L u s) (entry_next_by G only B L sound s qd u D bs inv) (entry_queued G B L u s qd) e
      where
        go : (x : Outcome) → Next B L u s D bs x → QueuedAfter x → (after n (run_from_by G B L (suc n) us) x).ending ≡ Ending.cut →
            order_of (unit s.units u) + m ≤ order_of (unit s.units u) + onward (carried_from G B L us) x
        go (going ev s₁) (n_going D₁ bs₁ inv₁ hn sh cn mv le sw) q e = omega (arith, h (suc n) s₁ D₁ bs₁ inv₁ q (le ∙ ln) e)
        go (ended _ s₁) (n_finished h) q e = absurd (omega (arith, ap uncut e))
        go (ended _ s₁) (n_spent c h) q e = absurd (omega (arith, ap uncut e))
        go (ended _ s₁) (n_full j c) q e = absurd (omega (arith, ap uncut e))

    all_before : (r rest : List ℕ) (m : ℕ) → Carries m rest → Carries m (r ++ rest)
    all_before [] rest m h n s D bs inv qd ln e = h n s D bs inv qd ln e
    all_before (u ∷ r) rest m h n s D bs inv qd ln e = omega (arith, before u (r ++ rest) m (all_before r rest m h) n s D bs inv qd ln e)

    -- a unit that is busy and named: it acts, or one did before it, since an entry for an idle unit leaves the very state
    round : (r rest : List ℕ) (m w : ℕ) → In w r → Carries m rest → (n : ℕ) (s : State) (D : Ghost) (bs : List Block) → Inv B L s D bs → Queued s →
        length s.units ≡ units → (run_from_by G B L n (r ++ rest) s).ending ≡ Ending.cut → (unit s.units w).busy ≡ true →
        suc m ≤ carried_from G B L (r ++ rest) s
    round [] rest m w i h n s D bs inv qd ln e b = absurd i
    round (u ∷ r) rest m w i h n s D bs inv qd ln e b = go (unit s.units u).busy refl i (λ j e₁. round r rest m w j h (suc n) s D bs inv qd ln e₁ b)
      where
        go : (z : Bool) → (unit s.units u).busy ≡ z → In w (u ∷ r) →
            (In w r → (run_from_by G B L (suc n) (r ++ rest) s).ending ≡ Ending.cut → suc m ≤ carried_from G B L (r ++ rest) s) →
            suc m ≤ carried_from G B L (u ∷ (r ++ rest)) s
        go true q i k =
            omega (arith, before u (r ++ rest) m (all_before r rest m h) n s D bs inv qd ln e, busy_counts (unit s.units u) q)
        go false q (inl p) k = absurd (true≢false (sym b ∙ ap (λ (z : ℕ). (unit s.units z).busy) p ∙ q))
        go false q (inr j) k =
            let same = idle_entry G B L u s q in
            unfold carried_from run_from_by in
            rw same (unfold onward order_of in omega (arith, k j (sym (ap (λ (x : Outcome). (after n (run_from_by G B L (suc n) (r ++ rest)) x).ending) same) ∙ e)))

    in_rounds : (rs : List (List ℕ)) → All (Names units) rs → Carries (length rs) (flatten rs)
    unfolding flatten
    in_rounds [] a n s D bs inv qd ln e = omega arith
    in_rounds (r ∷ rs) a n s D bs inv qd ln e =
        let (w, h, b) = can_act B L s D bs inv in
        round r (flatten rs) (length rs) w (a.0 w (omega arith)) (in_rounds rs a.1) n s D bs inv qd ln e b

-- IN A RUN OF ONE UNIT every entry is an order, so that S is what is left to do at its start, and BINGO
module _ (B : Book) (L : Limits) (sound : Sound B) where
  abbrev AloneCarries : ℕ → Type 0
  AloneCarries n = (m : ℕ) (s : State) (D : Ghost) (bs : List Block) → Inv B L s D bs → Queued s → length s.units ≡ 1 → pending one bs ≡ 0 →
      (run_from_by in_force B L m (replicate n 0) s).ending ≡ Ending.finished → (k : ℕ) (t : Marked) → Left B orders D k t →
      carried_from in_force B L (replicate n 0) s ≡ suc k

  alone_one : (s : State) (D : Ghost) (bs : List Block) → Inv B L s D bs → length s.units ≡ 1 → order_of (unit s.units 0) ≡ 1
  alone_one s D bs inv ln = go (unit s.units 0).busy refl
    where
      go : (z : Bool) → (unit s.units 0).busy ≡ z → order_of (unit s.units 0) ≡ 1
      go true e = busy_counts (unit s.units 0) e
      go false e = absurd (alone_busy B L s D bs inv ln e)

  alone_carries : (n : ℕ) → AloneCarries n
  unfolding carried_from run_from_by onward after uncut
  alone_carries zero m s D bs inv qd ln p e k t l = absurd (omega (arith, ap uncut e))
  alone_carries (suc n) m s D bs inv qd ln p e k t l =
      go (entry_by in_force B L 0 s) (entry_next_by in_force longest_idle B L sound s qd 0 D bs inv) (entry_queued in_force B L 0 s qd) e (alone_carries n)
    where
      go : (x : Outcome) → Next B L 0 s D bs x → QueuedAfter x → (after m (run_from_by in_force B L (suc m) (replicate n 0)) x).ending ≡ Ending.finished →
          AloneCarries n → order_of (unit s.units 0) + onward (carried_from in_force B L (replicate n 0)) x ≡ suc k
      go (going ev s₁) (n_going D₁ bs₁ inv₁ hn sh cn mv le sw) q e ih =
          let z = alone_none B L s s₁ D bs 0 ev inv ln sw in
          let r : left_by one ev + pending one bs₁ ≡ 0 = omega (arith, mv one) in
          let a = alone_counts B L s s₁ D D₁ bs bs₁ ev inv inv₁ ln (le ∙ ln) r sw in
          let (k₁, c, l₁) = (sh orders).forth k t l in
          omega (arith, alone_one s D bs inv ln, ih (suc m) s₁ D₁ bs₁ inv₁ q (le ∙ ln) (omega arith) e k₁ t l₁)
      go (ended _ s₁) (n_finished h) q e ih = omega (arith, alone_one s D bs inv ln, (still_only h l).0)
      go (ended _ s₁) (n_spent c h) q e ih = absurd (omega (arith, ap ending_number e))
      go (ended _ s₁) (n_full j c) q e ih = absurd (omega (arith, ap ending_number e))

  -- each entry used is an order carried out
  abbrev AloneEntries : ℕ → Type 0
  AloneEntries n = (m : ℕ) (s : State) (D : Ghost) (bs : List Block) → Inv B L s D bs → Queued s → length s.units ≡ 1 →
      (run_from_by in_force B L m (replicate n 0) s).entries ≡ m + carried_from in_force B L (replicate n 0) s

  alone_entries : (n : ℕ) → AloneEntries n
  unfolding carried_from run_from_by onward after
  alone_entries zero m s D bs inv qd ln = omega arith
  alone_entries (suc n) m s D bs inv qd ln =
      go (entry_by in_force B L 0 s) (entry_next_by in_force longest_idle B L sound s qd 0 D bs inv) (entry_queued in_force B L 0 s qd) (alone_entries n)
    where
      go : (x : Outcome) → Next B L 0 s D bs x → QueuedAfter x → AloneEntries n →
          (after m (run_from_by in_force B L (suc m) (replicate n 0)) x).entries
          ≡ m + (order_of (unit s.units 0) + onward (carried_from in_force B L (replicate n 0)) x)
      go (going ev s₁) (n_going D₁ bs₁ inv₁ hn sh cn mv le sw) q ih = omega (arith, alone_one s D bs inv ln, ih (suc m) s₁ D₁ bs₁ inv₁ q (le ∙ ln))
      go (ended _ s₁) (n_finished h) q ih = omega (arith, alone_one s D bs inv ln)
      go (ended _ s₁) (n_spent c h) q ih = omega (arith, alone_one s D bs inv ln)
      go (ended _ s₁) (n_full j c) q ih = omega (arith, alone_one s D bs inv ln)

-- A RUN IN PARTS

-- the units stay as many
units_parked : (G : Grant) (only : OnlyIdle G) (B : Book) (L : Limits) (sound : Sound B) (us : List ℕ) (s s' : State) (D : Ghost) (bs : List Block) → Inv B L s D bs →
    Queued s → parked_by G B L us s ≡ some s' → length s'.units ≡ length s.units
unfolding parked_by unless_ended
units_parked G only B L sound [] s s' D bs inv qd e = ap (λ (x : State). length x.units) (sym (some-injective _ _ e))
units_parked G only B L sound (u ∷ us) s s' D bs inv qd e =
    go (entry_by G B L u s) (entry_next_by G only B L sound s qd u D bs inv) (entry_queued G B L u s qd) e (units_parked G only B L sound us)
  where
    go : (x : Outcome) → Next B L u s D bs x → QueuedAfter x → unless_ended (parked_by G B L us) x ≡ some s' →
        ((s₁ s₂ : State) (D₁ : Ghost) (bs₁ : List Block) → Inv B L s₁ D₁ bs₁ → Queued s₁ → parked_by G B L us s₁ ≡ some s₂ → length s₂.units ≡ length s₁.units) →
        length s'.units ≡ length s.units
    go (going ev s₁) (n_going D₁ bs₁ inv₁ hn sh cn mv ln sw) q e ih = ih s₁ s' D₁ bs₁ inv₁ q e ∙ ln
    go (ended en s₁) x q e ih = absurd (none-ne-some _ e)

module _ (G : Grant) (B : Book) (L : Limits) where
  carried_append : (us vs : List ℕ) (s : State) →
      carried_from G B L (us ++ vs) s ≡ carried_from G B L us s + from_point 0 (carried_from G B L vs) (parked_by G B L us s)
  unfolding carried_from parked_by from_point onward unless_ended
  carried_append [] vs s = omega arith
  carried_append (u ∷ us) vs s = go (entry_by G B L u s) (carried_append us vs)
    where
      go : (x : Outcome) → ((s : State) → carried_from G B L (us ++ vs) s ≡ carried_from G B L us s + from_point 0 (carried_from G B L vs) (parked_by G B L us s)) →
          order_of (unit s.units u) + onward (carried_from G B L (us ++ vs)) x
          ≡ order_of (unit s.units u) + onward (carried_from G B L us) x + from_point 0 (carried_from G B L vs) (unless_ended (parked_by G B L us) x)
      go (going ev s₁) h = omega (arith, h s₁)
      go (ended e s₁) h = omega arith

  -- as of the schedule that the parts make one after the other
  parts_carried : (parts : List (List ℕ)) (s : State) → carried_parts G B L parts s ≡ carried_from G B L (flatten parts) s
  unfolding carried_parts carried_from flatten from_point
  parts_carried [] s = refl
  parts_carried (us ∷ parts) s = go (parked_by G B L us s) (parts_carried parts) ∙ sym (carried_append us (flatten parts) s)
    where
      go : (x : Option State) → ((s : State) → carried_parts G B L parts s ≡ carried_from G B L (flatten parts) s) →
          carried_from G B L us s + from_point 0 (carried_parts G B L parts) x ≡ carried_from G B L us s + from_point 0 (carried_from G B L (flatten parts)) x
      go none h = refl
      go (some s₁) h = ap (λ (n : ℕ). carried_from G B L us s + n) (h s₁)

-- THE CLAIM
start_awake : (units : ℕ) (t : Term) → awake (start units t).units ≡ 1
unfolding start over_units order_of
start_awake units t = omega (arith, sleepers (units - 1))
  where
    sleepers : (n : ℕ) → awake (replicate n asleep) ≡ 0
    sleepers zero = refl
    sleepers (suc n) = omega (arith, sleepers n)

start_length : (units : ℕ) (t : Term) → 1 ≤ units → length (start units t).units ≡ units
unfolding start
start_length units t h = omega (arith, length-replicate (units - 1) asleep)

module _ (B : Book) (sound : Sound B) (t : Term) (c : Correct (arity B) t) (budget n : ℕ) (fin : (alone B budget t n).ending ≡ Ending.finished) where
  -- what is left at the start, by orders and by FORKs
  left_orders : (k : ℕ) × (u : Marked) × Left B orders (todo (bare t)) k u × (orders_alone B budget t n ≡ suc k)
  unfolding run run_by carried
  left_orders =
      let (u, w, p) = counted in_force longest_idle B sound t c (unlimited budget) 1 (replicate n 0) fin orders in
      let l = walks_left w in (
        _,
        u,
        l,
        alone_carries B (unlimited budget) sound n 0 (start 1 t) (todo (bare t)) first (start_inv B (unlimited budget) 1 t c) (start_queued 1 t) (start_length 1 t (omega arith))
            start_pending fin _ u l,
      )

  left_forks : (u : Marked) × Left B forks (todo (bare t)) (forks_alone B budget t n) u
  unfolding run
  left_forks =
      let (u, w, p) = forks_counted in_force longest_idle B sound t c (unlimited budget) 1 (replicate n 0) fin in (u, walks_left w)

  module _ (G : Grant) (only : OnlyIdle G) (symbols : Option ℕ) (units : ℕ) where
    abbrev L : Limits
    L = record { budget = budget; symbols = symbols }

    -- the sharp bound, and one less for a run that is cut
    pub most_orders : (schedule : List ℕ) →
        carried G B L units schedule t + uncut (run_by G B L units schedule t).ending ≤ orders_alone B budget t n + 3 * forks_alone B budget t n
    unfolding carried run_by
    most_orders schedule =
        let (k, u, l, e) = left_orders in
        let (v, m) = left_forks in
        omega (
          arith,
          bound G only B L sound 0 schedule (start units t) (todo (bare t)) first (start_inv B L units t c) (start_queued units t) k _ u v l m,
          start_pending,
          start_awake units t,
        )

    -- of a run in parts: that over their entries one after the other
    pub most_over_parts : (parts : List (List ℕ)) →
        carried_parts G B L parts (start units t) + uncut (run_by G B L units (flatten parts) t).ending ≤ orders_alone B budget t n + 3 * forks_alone B budget t n
    unfolding carried
    most_over_parts parts = omega (arith, parts_carried G B L parts (start units t), most_orders (flatten parts))

    -- spent is shut out: the one-unit run's rewrites are within the budget, and those of every finished run are the same
    not_spent : (schedule : List ℕ) → (run_by G B L units schedule t).ending ≡ Ending.spent → ⊥
    unfolding run
    not_spent schedule e =
        let d = demand_3_of in_force longest_idle B sound t c (unlimited budget) 1 (replicate n 0) in
        omega (arith, (demand_3_of G only B sound t c L units schedule).spent e _ _ (d.posting fin), d.finished fin)

    abbrev Uncut : Ending → Type 0
    Uncut e = (e ≡ Ending.finished) ⊎ (e ≡ Ending.full)

    point_resumed : 1 ≤ units → (parts : List (List ℕ)) (s : State) → parked_parts_by G B L parts (start units t) ≡ some s → (rs : List (List ℕ)) →
        All (Names units) rs → sufficient B budget t n ≤ carried_parts G B L parts (start units t) + length rs →
        Uncut (run_from_by G B L (length (flatten parts)) (flatten rs) s).ending
    unfolding run_by uncut carried from_point
    point_resumed h parts s e rs a le = go (run_from_by G B L (length (flatten parts)) (flatten rs) s).ending refl
      where
        at : parked_by G B L (flatten parts) (start units t) ≡ some s
        at = sym (parts_parked_by G B L parts (start units t)) ∙ e

        unbroken : run_from_by G B L (length (flatten parts)) (flatten rs) s ≡ run_by G B L units (flatten parts ++ flatten rs) t
        unbroken =
            let z : 0 + length (flatten parts) ≡ length (flatten parts) = omega arith in
            ap (λ (m : ℕ). run_from_by G B L m (flatten rs) s) (sym z) ∙ parked_run_by G B L (flatten parts) (flatten rs) 0 (start units t) s at

        go : (x : Ending) → (run_from_by G B L (length (flatten parts)) (flatten rs) s).ending ≡ x → Uncut x
        go Ending.finished q = inl refl
        go Ending.full q = inr refl
        go Ending.spent q = absurd (not_spent (flatten parts ++ flatten rs) (ap (λ (A : Answer). A.ending) (sym unbroken) ∙ q))
        go Ending.cut q =
            let (D, bs, inv, qd, hn) = parked_inv_by G only B L sound (flatten parts) (start units t) s (todo (bare t)) first (start_inv B L units t c) (start_queued units t) at in
            let ln = units_parked G only B L sound (flatten parts) (start units t) s (todo (bare t)) first (start_inv B L units t c) (start_queued units t) at in
            absurd
            (omega (
              arith,
              most_orders (flatten parts ++ flatten rs),
              ap uncut (ap (λ (A : Answer). A.ending) (sym unbroken) ∙ q),
              carried_append G B L (flatten parts) (flatten rs) (start units t),
              ap (from_point 0 (carried_from G B L (flatten rs))) at,
              parts_carried G B L parts (start units t),
              in_rounds G only B L sound units rs a (length (flatten parts)) s D bs inv qd (ln ∙ start_length units t h) q,
            ))

    rounded : 1 ≤ units → (rs : List (List ℕ)) → All (Names units) rs → sufficient B budget t n ≤ length rs → Uncut (run_by G B L units (flatten rs) t).ending
    unfolding run_by flatten parked_parts_by carried_parts
    rounded h rs a le = point_resumed h [] (start units t) refl rs a (omega arith)

    pub enough : Enough B budget t n G symbols units
    enough = record {
      most = λ schedule. omega (arith, most_orders schedule);
      most_parts = λ parts. omega (arith, most_over_parts parts);
      rounds = rounded;
      resumed = point_resumed;
    }

-- of bytes that are a book and a line on a day, with marks and the idle queue in force
pub enough_of : (bytes line : List ℕ) (A : AnyBook) (d : ℕ) (t : Term) → read_any bytes ≡ accepted A → read_line (on_day d A) line ≡ accepted t → (budget n : ℕ) →
    (alone (on_day d A) budget t n).ending ≡ Ending.finished → (symbols : Option ℕ) (units : ℕ) → Enough (on_day d A) budget t n in_force symbols units
enough_of bytes line A d t e q budget n fin = enough (on_day d A) (day_sound bytes A e d) t (line_correct (on_day d A) line t q).0 budget n fin in_force longest_idle

-- A run of one unit with a symbol limit, where it finishes, tells S and F: its entries, and its FORKs, of which none is granted. So a caller learns both from an answer.
pub told_alone : (B : Book) → Sound B → (t : Term) → Correct (arity B) t → (L : Limits) (n : ℕ) → let A = run B L 1 (replicate n 0) t in A.ending ≡ Ending.finished →
    ((alone B L.budget t A.entries).ending ≡ Ending.finished) × (orders_alone B L.budget t A.entries ≡ A.entries)
    × (forks_alone B L.budget t A.entries ≡ A.granted + A.kept)
unfolding run run_by carried
told_alone B sound t c L n fin = (ends, same, forks_agree in_force in_force longest_idle longest_idle B sound t c (unlimited L.budget) L 1 1 (replicate A.entries 0) (replicate n 0) ends fin)
  where
    A : Answer
    A = run B L 1 (replicate n 0) t

    d : Demand3 in_force B L 1 (replicate n 0) t
    d = demand_3_of in_force longest_idle B sound t c L 1 (replicate n 0)

    orders_left : (k : ℕ) × ReducesMarked B orders t k A.term × (A.entries ≡ suc k)
    orders_left =
        let (u, w, p) = counted in_force longest_idle B sound t c L 1 (replicate n 0) fin orders in
        let s = start 1 t in
        let i = start_inv B L 1 t c in
        let q = start_queued 1 t in
        let ln = start_length 1 t (omega arith) in (
          _,
          (u, w, p),
          alone_entries B L sound n 0 s (todo (bare t)) first i q ln
              ∙ (let z = alone_carries B L sound n 0 s (todo (bare t)) first i q ln start_pending fin _ u (walks_left w) in omega (arith, z)),
        )

    ends : (alone B L.budget t A.entries).ending ≡ Ending.finished
    ends =
        let (k, r, e) = orders_left in
        subst (λ (m : ℕ). (alone B L.budget t m).ending ≡ Ending.finished) (sym e)
        (one_unit B sound t c k A.rewrites L.budget A.term r (d.posting fin) (d.finished fin)).0

    same : orders_alone B L.budget t A.entries ≡ A.entries
    same =
        let (k, r, e) = orders_left in
        let x = one_unit B sound t c k A.rewrites L.budget A.term r (d.posting fin) (d.finished fin) in
        let y = alone_entries B (unlimited L.budget) sound (suc k) 0 (start 1 t) (todo (bare t)) first (start_inv B (unlimited L.budget) 1 t c) (start_queued 1 t) (start_length 1 t (omega arith)) in
        subst (λ (m : ℕ). orders_alone B L.budget t m ≡ m) (sym e) (omega (arith, x.3, y))
