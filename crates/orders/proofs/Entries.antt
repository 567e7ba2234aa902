-- The orders as entries of the machine on lists: what each function ensures is the state that the machine goes on with, by the book whose tables the
-- code has. Assumes nothing.
use mathlib.Core.Path.{◌≡◌, refl, sym, ap, ap₂, ◌∙◌}
use mathlib.Core.Bool.{Bool, true}
use mathlib.Core.List.{List, ◌∷◌}
use mathlib.Core.Logic.{◌≢◌}
use mathlib.Core.Option.{Option, none, some}
use Prim.Native.Nat.{ℕ, zero, suc, ◌-◌, ◌≤◌, ◌<◌, pred}
use native.Mathlib.Omega.{arith}
use lib.ListN.{length, get_or, drop}
use lib.ListN.{set as put}
use Rattle.paper.specs.Strategy.{Step}
use Rattle.paper.specs.Book.{Book}
use Rattle.paper.specs.Machine.{Limits, take_out}
use Rattle.paper.specs.Sound.{All}
use Rattle.flat.specs.Machine.{Frame, FlatUnit, flat_unit, unit, FlatState, FlatOutcome, going, with_units, with_marks, with_placed, next_count, proceed, mark, visit, idle_count, first_idle, leave, arrive, do_visit, do_fork, do_join, do_step, carry_out}
use Rattle.tables.specs.Layout.{step_of, code_in, steps_in}
use Rattle.tables.specs.Tables.{Tables}
use Rattle.tables.proofs.Rows.{here_is}
use Rattle.flat.proofs.Idle.{idle_other}
use Rattle.units.specs.Stacks.{height_in, Store, units_in}
use Rattle.units.specs.Promises.{StacksFit, dropped, at, Changed, CellIdled, answer}
use Rattle.std.specs.Prelude.{Option as Answer}
use Rattle.units.specs.declared.frames.Job.{Job}
use Rattle.units.specs.declared.frames.Exit.{Exit}
use Rattle.units.proofs.Units.{height_at, at_is, at_else}
use Rattle.orders.specs.Promises.{
  is_some,
  to_do_in,
  Argument,
  argument_of,
  visit_of,
  restack,
  advances,
  enters,
  Visited,
  visits,
  ArgumentVisited,
  joins,
  Joined,
  Exited,
  keeps,
  given,
  forks,
  Forked,
}
use Rattle.orders.proofs.Steps.{proceed_some}
use Rattle.orders.proofs.Tables.{rowed_said, steps_said, argument_by, argument_said, to_do_said, visit_said}

-- the state with other units, after a FORK that unit v got, or that was kept
abbrev pub counted_fork : FlatState → List FlatUnit → Option ℕ → FlatState
counted_fork s us (some v) = record {
  symbols = s.symbols;
  sizes = s.sizes;
  marks = s.marks;
  units = us;
  rewrites = s.rewrites;
  granted = suc s.granted;
  kept = s.kept;
  placed = v ∷ s.placed;
}
counted_fork s us none = record {
  symbols = s.symbols;
  sizes = s.sizes;
  marks = s.marks;
  units = us;
  rewrites = s.rewrites;
  granted = s.granted;
  kept = suc s.kept;
  placed = s.placed;
}

-- unit u, one of n, is busy with the frame f on top of fs; t is how the units are kept
module _ (B : Book) (L : Limits) (u n : ℕ) (s : FlatState) (t : Store) (us : s.units ≡ units_in t n) (l : u < n) (f : Frame) (fs : List Frame)
    (e : unit s.units u ≡ flat_unit 0 (f ∷ fs)) where
  abbrev busy : FlatUnit
  busy = flat_unit 0 (f ∷ fs)

  at_here : (g : FlatUnit → FlatUnit) → put s.units u (g busy) ≡ at u g (units_in t n)
  at_here g = sym (at_is u s.units g busy e) ∙ ap (at u g) us

  -- the unit has changed, and ms are the marks
  changed_with : (ms : List Bool) {g : FlatUnit → FlatUnit} {t' : Store} (y : FlatUnit) → Changed u g t t' → y ≡ g busy →
      ◌≡◌ {A = FlatOutcome} (going (with_marks (with_units s (put s.units u y)) ms)) (going (with_marks (with_units s (units_in t' n)) ms))
  changed_with ms {g} y c q = ap (λ (v : List FlatUnit). going (with_marks (with_units s v) ms)) (ap (put s.units u) q ∙ at_here g ∙ sym (c.units n))

  changed : {g : FlatUnit → FlatUnit} {t' : Store} (y : FlatUnit) → Changed u g t t' → y ≡ g busy →
      ◌≡◌ {A = FlatOutcome} (going (with_units s (put s.units u y))) (going (with_units s (units_in t' n)))
  changed = changed_with s.marks

  -- the rank of a unit that becomes idle
  abbrev last : ℕ
  last = suc (idle_count s.units)

  last_is : last ≡ suc (idle_count (units_in t n))
  last_is = ap (λ (us : List FlatUnit). suc (idle_count us)) us

  pub sleep_entry : {c' : List ℕ} → f ≡ Frame.sleep → StacksFit t → CellIdled n u t.cells c' →
      carry_out B L u s fs Frame.sleep ≡ going (with_units s (units_in (record { work = t.work; cells = c' }) n))
  unfolding carry_out
  sleep_entry q z d = changed (flat_unit last (Frame.sleep ∷ fs)) (d.change t.work z) (ap₂ (λ (r : ℕ) (y : Frame). flat_unit r (y ∷ fs)) last_is (sym q))

  pub exit_entry : {x : Exit} {t' : Store} → x.unit < n → Exited x u t t' →
      carry_out B L u s fs (Frame.exit x.unit x.index) ≡ going (with_placed (with_units s (units_in t' n)) (take_out u s.placed))
  unfolding carry_out
  exit_entry {x} k d = ap (λ (y : List FlatUnit). going (with_placed (with_units s y) (take_out u s.placed))) (ap (arrive x.unit x.index) (at_here dropped) ∙ sym (d.units n k))

  -- a job: the operator of its term is the book's
  module _ {bytes operators rules : List ℕ} (T : Tables bytes operators rules B) (known : All (λ o. o < length B.operators) s.symbols) where
    abbrev operator : ℕ → ℕ
    operator a = get_or s.symbols a 0

    -- VISIT of the job's own term
    pub visit_entry : (a c : ℕ) {t' : Store} → a < length s.symbols →
        let ss = to_do_in operators s.symbols s.marks a in
        Visited ss a u t t' → carry_out B L u s fs (Frame.job a zero c) ≡ going (with_marks (with_units s (units_in t' n)) (mark (length ss) a s.marks))
    unfolding carry_out do_visit visit
    visit_entry a c la d =
        let ss = to_do_in operators s.symbols s.marks a in
        ap (λ (ss : List Step). going (with_marks (with_units s (put s.units u (flat_unit 0 (enters ss a fs)))) (mark (length ss) a s.marks)))
        (sym (to_do_said T s.symbols known s.marks a la))
        ∙ changed_with (mark (length ss) a s.marks) (flat_unit 0 (enters ss a fs)) d.change refl

    -- its next step, which is one more than its place in the operator's steps
    module _ (x : Job) (lx : x.offset < length s.symbols) (p : 1 ≤ x.next) (m : x.next ≤ 16) where
      abbrev ss : List Step
      ss = steps_in operators (operator x.offset)

      -- the machine carries out the step that the table has there
      pub step_entry : (st : Step) → some st ≡ step_of (code_in operators (operator x.offset) (x.next - 1)) →
          carry_out B L u s fs (Frame.job x.offset x.next x.count) ≡ do_step B L u s x.offset x.next x.count (st ∷ drop x.next ss) fs
      unfolding carry_out
      step_entry st q = go x.next p m q
        where
          go : (k : ℕ) → 1 ≤ k → k ≤ 16 → some st ≡ step_of (code_in operators (operator x.offset) (k - 1)) →
              carry_out B L u s fs (Frame.job x.offset k x.count) ≡ do_step B L u s x.offset k x.count (st ∷ drop k ss) fs
          go zero h m q = absurd (omega arith)
          go (suc k) h m q =
              let j : suc k - 1 ≡ k = omega arith in
              ap (λ (ts : List Step). do_step B L u s x.offset (suc k) x.count ts fs)
              (ap (drop k) (sym (steps_said T s.symbols known x.offset lx))
              ∙ (here_is (rowed_said T s.symbols known x.offset lx) k (omega arith) (some st) (rw j at q)).0)

      -- one that has another behind it
      module _ (more : is_some (drop x.next ss) ≡ true) where
        goes : (c : ℕ) → proceed x.offset (suc x.next) c (drop x.next ss) fs ≡ advances x c (f ∷ fs)
        goes c = proceed_some (drop x.next ss) more x.offset (suc x.next) c fs

        pub visit_argument_entry : (i : ℕ) {t' : Store} → some (Step.visit i) ≡ step_of (code_in operators (operator x.offset) (x.next - 1)) →
            (argument_by B s.symbols x i).offset < length s.symbols →
            let a = visit_of operators s.symbols s.marks x i in
            ArgumentVisited x a u t t' →
            carry_out B L u s fs (Frame.job x.offset x.next x.count) ≡
            going (with_marks (with_units s (units_in t' n)) (mark (length a.steps) a.offset s.marks))
        unfolding do_step do_visit visit
        visit_argument_entry i q la d =
            let a = visit_of operators s.symbols s.marks x i in
            step_entry (Step.visit i) q ∙ ap (do_visit B L u s (argument_by B s.symbols x i).offset) (goes x.count)
            ∙ ap (λ (a : Argument).
            going (with_marks (with_units s (put s.units u (flat_unit 0 (visits x a (f ∷ fs))))) (mark (length a.steps) a.offset s.marks)))
            (sym (visit_said T s.symbols known s.marks x i la))
            ∙ changed_with (mark (length a.steps) a.offset s.marks) (flat_unit 0 (visits x a (f ∷ fs))) d.change refl

        pub join_entry : (c : ℕ) {t' : Store} → some (Step.join c) ≡ step_of (code_in operators (operator x.offset) (x.next - 1)) →
            f ≡ Frame.job x.offset x.next x.count → Joined ss x n u t t' →
            carry_out B L u s fs (Frame.job x.offset x.next x.count) ≡ going (with_units s (units_in t' n))
        unfolding do_step do_join
        join_entry c {t'} q h d = step_entry (Step.join c) q ∙ go x.count h d.change
          where
            go : (k : ℕ) → f ≡ Frame.job x.offset x.next k → Changed u (joins ss x (suc (idle_count (units_in t n))) k) t t' →
                do_join B L u s x.offset x.next k (drop x.next ss) fs ≡ going (with_units s (units_in t' n))
            go zero z y = let c = next_count (drop x.next ss) in changed (flat_unit 0 (proceed x.offset (suc x.next) c (drop x.next ss) fs)) y (ap (flat_unit 0) (goes c))
            go (suc k) z y =
                changed (flat_unit last (Frame.job x.offset x.next (suc k) ∷ fs)) y (ap₂ (λ (r : ℕ) (b : Frame). flat_unit r (b ∷ fs)) last_is (sym z))

        -- FORK, by the unit that is idle
        height_here : height_in t.cells u - 1 ≡ length fs
        height_here =
            let q = height_at t.work t.cells n u l in
            let p = ap (λ (y : List FlatUnit). length (unit y u).stack) us in
            let r = ap (λ (y : FlatUnit). length y.stack) e in
            omega arith

        by_idle : (b : ℕ) (r : Option ℕ) → ((v : ℕ) → r ≡ some v → v ≢ u) →
            do_fork B L u s x.offset b x.next x.count (drop x.next ss) fs r
            ≡ going (counted_fork s (forks x b u (height_in t.cells u) (units_in t n) r) r)
        unfolding do_fork
        by_idle b none q =
            ap (λ (y : List FlatUnit). going (counted_fork s y none))
            (ap (λ (gs : List Frame). put s.units u (flat_unit 0 (Frame.job b 0 0 ∷ gs))) (goes (pred x.count)) ∙ at_here (restack (keeps x b)))
        by_idle b (some v) q =
            let g : FlatUnit → FlatUnit = restack (advances x x.count) in
            let m : unit s.units v ≡ unit (at u g (units_in t n)) v =
            ap (λ (y : List FlatUnit). unit y v) us ∙ sym (at_else u (units_in t n) g v (q v refl)) in
            ap (λ (y : List FlatUnit). going (counted_fork s y (some v)))
            (ap₂ (λ (y : List FlatUnit) (z : FlatUnit). leave 1 (put y v z)) (ap (λ (gs : List Frame). put s.units u (flat_unit 0 gs)) (goes x.count) ∙ at_here g)
            (ap₂ (λ (z : FlatUnit) (j : ℕ). given u j b z) m (sym height_here)))

        pub fork_entry : (i : ℕ) {t' : Store} {r : Answer ℕ} → some (Step.fork i) ≡ step_of (code_in operators (operator x.offset) (x.next - 1)) →
            (argument_by B s.symbols x i).offset < length s.symbols → Forked x (argument_of operators s.symbols x i).offset n u t t' r →
            carry_out B L u s fs (Frame.job x.offset x.next x.count) ≡ going (counted_fork s (units_in t' n) (answer r))
        unfolding do_step
        fork_entry i q la d =
            let h = height_in t.cells u in
            step_entry (Step.fork i) q
            ∙ by_idle (argument_by B s.symbols x i).offset (first_idle s.units)
            (λ v z. idle_other s.units u v z (ap (λ (y : FlatUnit). y.rank) e))
            ∙ ap₂ (λ (y : List FlatUnit) (a : Argument). going (counted_fork s (forks x a.offset u h (units_in t n) (first_idle y)) (first_idle y))) us
            (sym (argument_said T s.symbols known x i la))
            ∙ ap₂ (λ (y : List FlatUnit) (z : Option ℕ). going (counted_fork s y z)) (sym d.units) d.found
