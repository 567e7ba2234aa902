-- Laws of a waiting unit: the operator of a symbol, whether its step is a JOIN, the frame on top. Assumes nothing.
use mathlib.Core.Bool.{Bool, true, false}
use mathlib.Core.List.{List, ◌∷◌}
use mathlib.Core.Path.{◌≡◌, refl, sym, ap, ap₂, ◌∙◌}
use Prim.Native.Nat.{ℕ, zero, suc, ◌+◌, ◌-◌, ◌*◌, ◌≤◌, ◌<◌}
use native.Mathlib.Omega.{arith}
use lib.ListN.{length, get_or, drop, drop_of_length-le, get_or-eq_default}
use borrow.Author.Tests.{lt-ltb}
use Rattle.paper.specs.Book.{Book, steps}
use Rattle.paper.specs.Strategy.{Step}
use Rattle.flat.specs.Machine as F
use Rattle.flat.specs.Tested.{and, at_join, waits}
use Rattle.symbol.specs.Record.{operator}
use Rattle.symbol.proofs.Record.{front_length, operator_front}
use Rattle.tables.specs.Layout.{step, step_of, code_in, steps_in, Rowed}
use Rattle.tables.specs.declared.Step as D
use Rattle.tables.proofs.Rows.{here_is}
use Rattle.term.specs.Present.{length_in, operators_in}
use Rattle.units.specs.Frames.{flat, frame_at}
use Rattle.units.specs.Stacks.{base, stack_of, height_in, Store, unit_in}
use Rattle.units.specs.declared.frames.Job.{Job}
use Rattle.units.specs.declared.frames.Frame as G
use Rattle.units.proofs.Stacks.{top}
use Rattle.point_order.specs.Promises.{Told, JobWaits, UnitWaits}
use Rattle.point_order.proofs.Tests.{and_true, and_false}

-- the operator at an offset, in the term and behind it
module _ (symbols : List ℕ) (a : ℕ) (n : length symbols ≡ 1024) (m : length_in symbols ≤ 1024) where
  pub operator_in : (r : ℕ) → a < length_in symbols → r ≡ operator (get_or symbols a 0) → r ≡ get_or (operators_in symbols) a 0
  operator_in r l e = e ∙ sym (operator_front (length_in symbols) symbols a l)

  pub operator_behind : length_in symbols ≤ a → 0 ≡ get_or (operators_in symbols) a 0
  operator_behind l =
      sym (get_or-eq_default (operators_in symbols) 0 {n = a} (omega (arith, front_length operator (length_in symbols) symbols (omega arith))))

-- a JOIN at place k of an operator's steps
module _ {operators : List ℕ} {o : ℕ} (r : Rowed operators o) (k : ℕ) where
  pub join_end : 16 ≤ k → false ≡ at_join (drop k (steps_in operators o))
  unfolding at_join
  join_end l =
      let p : length (steps_in operators o) ≤ k = omega (arith, r.short) in sym (ap at_join (drop_of_length-le (steps_in operators o) p))

  module _ (l : k < 16) (z : D.Step) (e : step z ≡ step_of (code_in operators o k)) where
    pub join_here : (c : ℕ) → z ≡ D.Step.Join c → true ≡ at_join (drop k (steps_in operators o))
    unfolding at_join
    join_here c d = sym (ap at_join (rw d at (here_is r k l (step z) e)).0)

    pub join_other : ((c : ℕ) → z ≡ D.Step.Join c → ⊥) → false ≡ at_join (drop k (steps_in operators o))
    unfolding at_join
    join_other q = go z e q
      where
        go : (y : D.Step) → step y ≡ step_of (code_in operators o k) → ((c : ℕ) → y ≡ D.Step.Join c → ⊥) → false ≡ at_join (drop k (steps_in operators o))
        go D.Step.None d q = sym (ap at_join (here_is r k l _ d))
        go D.Step.Whole d q = sym (ap at_join (here_is r k l _ d).0)
        go (D.Step.Visit i) d q = sym (ap at_join (here_is r k l _ d).0)
        go (D.Step.Fork i) d q = sym (ap at_join (here_is r k l _ d).0)
        go (D.Step.Join c) d q = absurd (q c refl)

-- A JOB

module _ {operators symbols : List ℕ} {x : Job} where
  pub job_new : x.next ≡ 0 → JobWaits operators symbols x false
  unfolding waits
  job_new e = record { is = λ B z t fs. sym (ap (λ (k : ℕ). waits B z (F.Frame.job x.offset k x.count ∷ fs)) e) }

  pub job_free : x.count ≡ 0 → JobWaits operators symbols x false
  unfolding waits
  job_free e = record { is = λ B z t fs. sym (ap (λ (c : ℕ). waits B z (F.Frame.job x.offset x.next c ∷ fs)) e ∙ free B z x.offset x.next fs) }
    where
      free : (B : Book) (z : F.FlatState) (a k : ℕ) (fs : List F.Frame) → waits B z (F.Frame.job a k 0 ∷ fs) ≡ false
      free B z a zero fs = refl
      free B z a (suc k) fs = and_false (at_join (drop k (steps B (get_or z.symbols a 0))))

  pub job_joins : {r : Bool} (o y : ℕ) → y ≡ x.offset → o ≡ get_or (operators_in symbols) y 0 → (x.next ≡ 0 → ⊥) → (x.count ≡ 0 → ⊥) →
      r ≡ at_join (drop (x.next - 1) (steps_in operators o)) → JobWaits operators symbols x r
  unfolding waits
  job_joins o y b c l m e = record {
    is = λ B z t fs.
        let k = x.next - 1 in
        let n : x.next ≡ suc (x.next - 1) = omega arith in
        let d : o ≡ get_or (operators_in symbols) x.offset 0 = c ∙ ap (λ (i : ℕ). get_or (operators_in symbols) i 0) b in
        let a : List ℕ → Bool = λ xs. at_join (drop k (steps B (get_or xs x.offset 0))) in
        e ∙ ap (λ (p : ℕ). at_join (drop k (steps_in operators p))) d ∙ ap (λ (ss : List Step). at_join (drop k ss)) (sym (t.steps_are x.offset))
        ∙ ap a (sym t.symbols_are) ∙ sym (and_true (a z.symbols)) ∙ ap (and (a z.symbols)) (sym (lt-ltb 0 x.count (omega arith)))
        ∙ sym (ap (λ (j : ℕ). waits B z (F.Frame.job x.offset j x.count ∷ fs)) n);
  }

-- A UNIT: its stack is empty; the frame on top is z

pub unit_empty : {operators symbols : List ℕ} {s : Store} {u h : ℕ} → h ≡ height_in s.cells u → h ≡ 0 → UnitWaits operators symbols s u false
unfolding waits stack_of
unit_empty {s = s} {u = u} d e = record { is = λ B z t. sym (ap (λ (k : ℕ). waits B z (stack_of s.work (base u) k)) (sym d ∙ e)) }

module _ (operators symbols : List ℕ) (s : Store) (u h from : ℕ) (d : h ≡ height_in s.cells u) (l : h ≡ 0 → ⊥) (b : from ≡ base u) (f : G.Frame)
    (g : flat f ≡ frame_at s.work (from + 3 * (h - 1))) where
  abbrev below : List F.Frame
  below = stack_of s.work from (h - 1)

  stack_is : (unit_in s u).stack ≡ flat f ∷ below
  stack_is =
      ap₂ (stack_of s.work) (sym b) (sym d) ∙ top s.work from h (h - 1) (from + 3 * (h - 1)) (omega arith) refl ∙ ap (λ (x : F.Frame). x ∷ below) (sym g)

  pub unit_waits : (r : Bool) → ((B : Book) (z : F.FlatState) → Told operators symbols B z → r ≡ waits B z (flat f ∷ below)) → UnitWaits operators symbols s u r
  unit_waits r y = record { is = λ B z t. y B z t ∙ ap (waits B z) (sym stack_is) }

  pub unit_job : (x : Job) (r : Bool) → f ≡ G.Frame.Job x → JobWaits operators symbols x r → UnitWaits operators symbols s u r
  unit_job x r q j = unit_waits r (λ B z t. j.is B z t below ∙ ap (λ (y : G.Frame). waits B z (flat y ∷ below)) (sym q))

  pub unit_sleep : f ≡ G.Frame.Sleep → UnitWaits operators symbols s u true
  unfolding waits
  unit_sleep q = unit_waits true (λ B z t. ap (λ (y : G.Frame). waits B z (flat y ∷ below)) (sym q))

  pub unit_other : ((x : Job) → f ≡ G.Frame.Job x → ⊥) → (f ≡ G.Frame.Sleep → ⊥) → UnitWaits operators symbols s u false
  unfolding waits
  unit_other o q = unit_waits false (λ B z t. go B z f o q)
    where
      go : (B : Book) (z : F.FlatState) (y : G.Frame) → ((x : Job) → y ≡ G.Frame.Job x → ⊥) → (y ≡ G.Frame.Sleep → ⊥) → false ≡ waits B z (flat y ∷ below)
      go B z (G.Frame.Job x) o q = absurd (o x refl)
      go B z (G.Frame.Exit x) o q = refl
      go B z G.Frame.Sleep o q = absurd (q refl)
      go B z G.Frame.Bingo o q = refl
