-- The mark: a term with no orders left has it, and VISIT of one that has it is dropped. Assumes nothing.
use mathlib.Core.Path.{◌≡◌, refl, sym, ap, ap₂, subst, ◌∙◌}
use mathlib.Core.Bool.{Bool, true, false}
use mathlib.Core.List.{List, [], ◌∷◌}
use Prim.Native.Nat.{ℕ, ◌+◌, ◌<◌}
use native.Mathlib.Omega.{arith}
use lib.ListN.{length, get_or}
use lib.ListN.{set as put}
use lib.Seq.{set-get_or}
use Rattle.paper.specs.Strategy.{Step}
use Rattle.paper.specs.Marks.{unless_marked}
use Rattle.flat.specs.Sizes.{hop}
use Rattle.flat.specs.Machine.{proceed, mark}
use Rattle.symbol.specs.Record.{operator, marked, sizes}
use Rattle.symbol.proofs.Record.{operator_front, marked_front}
use Rattle.tables.specs.Layout.{arity_in, steps_in}
use Rattle.term.specs.Present.{length_in, operators_in, marks_in}
use Rattle.term.specs.Promises.{MarkedAt}
use Rattle.term.proofs.Marks.{mark_length, mark_operators, mark_sizes, mark_marks}
use Rattle.term.proofs.Sized.{argument_inside}
use Rattle.units.specs.Stacks.{Store}
use Rattle.units.specs.Promises.{dropped, Changed}
use Rattle.units.specs.declared.frames.Job.{Job}
use Rattle.orders.specs.Promises as O
use Rattle.orders.proofs.Changes.{argument_found}
use Rattle.entry.specs.Promises.{MarkedLeft, to_do, Visited, visit_of, ArgumentVisited}

-- A TERM WITH THE STEPS ss LEFT

module _ {a : ℕ} {symbols : List ℕ} where
  -- nothing is marked anew
  unmoved : {n : ℕ} → marks_in symbols ≡ mark n a (marks_in symbols) → MarkedLeft n a symbols symbols
  unmoved e = record { operators_are = refl; sizes_are = refl; marks_are = e; length_is = refl; long = refl }

  pub left_some : (ss : List Step) → O.is_some ss ≡ true → MarkedLeft (length ss) a symbols symbols
  unfolding mark
  left_some [] e = let z : ◌≡◌ {A = ℕ} 0 1 = cc in absurd (omega arith)
  left_some (s ∷ ss) e = unmoved refl

  pub left_none : (ss : List Step) → O.is_some ss ≡ false → a < length_in symbols → {symbols' : List ℕ} → MarkedAt a symbols symbols' →
      MarkedLeft (length ss) a symbols symbols'
  unfolding mark
  left_none [] e h m = record {
    operators_are = mark_operators m;
    sizes_are = mark_sizes m;
    marks_are = mark_marks m h;
    length_is = mark_length m;
    long = m.long;
  }
  left_none (s ∷ ss) e h m = let z : ◌≡◌ {A = ℕ} 0 1 = cc in absurd (omega arith)

-- VISIT OF THE TERM at offset a, inside

module _ (operators symbols : List ℕ) {a : ℕ} (inside : a < length_in symbols) where
  mark_read : get_or (marks_in symbols) a false ≡ marked (get_or symbols a 0)
  mark_read = marked_front (length_in symbols) symbols a inside

  -- by the steps ss, which are those that it gives
  pub visited_by : {ss : List Step} → to_do operators symbols a ≡ ss → {u : ℕ} {symbols' : List ℕ} {s s' : Store} → O.Visited ss a u s s' →
      MarkedLeft (length ss) a symbols symbols' → Visited operators a u symbols symbols' s s'
  visited_by e {u} {symbols'} {s} {s'} d m = record {
    stack = subst (λ (ss : List Step). O.Visited ss a u s s') (sym e) d;
    marks = subst (λ (ss : List Step). MarkedLeft (length ss) a symbols symbols') (sym e) m;
  }

  -- it is marked: none
  module _ (m : marked (get_or symbols a 0) ≡ true) where
    pub to_do_none : to_do operators symbols a ≡ []
    unfolding unless_marked
    to_do_none = ap (λ (q : Bool). unless_marked q (steps_in operators (get_or (operators_in symbols) a 0))) (mark_read ∙ m)

    pub stays_marked : MarkedLeft 0 a symbols symbols
    unfolding mark
    stays_marked = unmoved {symbols = symbols} (sym (set-get_or (marks_in symbols) a false) ∙ ap (put (marks_in symbols) a) (mark_read ∙ m))

    pub visit_dropped : {u : ℕ} {s s' : Store} → Changed u dropped s s' → Visited operators a u symbols symbols s s'
    unfolding proceed
    visit_dropped d = visited_by to_do_none (record { change = d }) stays_marked

  -- it isn't: the steps of its operator o
  pub to_do_all : marked (get_or symbols a 0) ≡ false → {o : ℕ} → o ≡ operator (get_or symbols a 0) → to_do operators symbols a ≡ steps_in operators o
  unfolding unless_marked
  to_do_all m e =
      ap₂ (λ (q : Bool) (o : ℕ). unless_marked q (steps_in operators o)) (mark_read ∙ m) (operator_front (length_in symbols) symbols a inside ∙ sym e)

  pub visit_entered : marked (get_or symbols a 0) ≡ false → {o : ℕ} → o ≡ operator (get_or symbols a 0) → {u : ℕ} {symbols' : List ℕ} {s s' : Store} →
      O.Visited (steps_in operators o) a u s s' → MarkedLeft (length (steps_in operators o)) a symbols symbols' → Visited operators a u symbols symbols' s s'
  visit_entered m e d n = visited_by (to_do_all m e) d n

-- VISIT OF AN ARGUMENT, found at offset b and read at k

module _ {operators symbols : List ℕ} {x : Job} {i : ℕ} (q : O.ArgumentInside operators symbols x i) {b k : ℕ}
    (eb : b ≡ hop (sizes symbols) i (x.offset + 1)) (ek : k ≡ b) where
  found : k ≡ (visit_of operators symbols x i).offset
  found = ek ∙ argument_found q eb

  pub argument_there : k < length_in symbols
  argument_there = omega (arith, found, argument_inside (arity_in operators) symbols q.sized x.offset i q.offset q.few)

  -- by the steps ss, which are those that it gives
  module _ {ss : List Step} (e : to_do operators symbols k ≡ ss) where
    visit_is : visit_of operators symbols x i ≡ record { offset = b; steps = ss }
    visit_is =
        ap (λ (j : ℕ). record { offset = j; steps = to_do operators symbols j }) (sym found)
        ∙ ap₂ (λ (j : ℕ) (ts : List Step). record { offset = j; steps = ts }) ek e

    argument_visited_by : {u : ℕ} {symbols' : List ℕ} {s s' : Store} → O.ArgumentVisited x (record { offset = b; steps = ss }) u s s' →
        MarkedLeft (length ss) k symbols symbols' → ArgumentVisited operators x i u symbols symbols' s s'
    argument_visited_by {u} {symbols'} {s} {s'} d m = record {
      stack = subst (λ (p : O.Argument). O.ArgumentVisited x p u s s') (sym visit_is) d;
      marks = subst (λ (p : O.Argument). MarkedLeft (length p.steps) p.offset symbols symbols') (sym visit_is)
          (subst (λ (j : ℕ). MarkedLeft (length ss) j symbols symbols') ek m);
    }

  -- it is marked: the job goes on alone
  pub argument_dropped : marked (get_or symbols k 0) ≡ true → {u : ℕ} {s s' : Store} → O.Advanced x u s s' →
      ArgumentVisited operators x i u symbols symbols s s'
  unfolding proceed
  argument_dropped m d =
      argument_visited_by (to_do_none operators symbols argument_there m) (record { change = d.change }) (stays_marked operators symbols argument_there m)

  -- it isn't: it has the steps of its operator o
  module _ (m : marked (get_or symbols k 0) ≡ false) {o : ℕ} (eo : o ≡ operator (get_or symbols k 0)) where
    its_steps : to_do operators symbols k ≡ steps_in operators o
    its_steps = to_do_all operators symbols argument_there m eo

    pub can_visit : {u : ℕ} {s : Store} → O.CanVisit x (visit_of operators symbols x i) u s → O.CanVisit x (O.argument_at operators b o) u s
    can_visit {u} {s} c = subst (λ (p : O.Argument). O.CanVisit x p u s) (visit_is its_steps) c

    pub argument_entered : {u : ℕ} {symbols' : List ℕ} {s s' : Store} → O.ArgumentVisited x (O.argument_at operators b o) u s s' →
        MarkedLeft (length (steps_in operators o)) k symbols symbols' → ArgumentVisited operators x i u symbols symbols' s s'
    argument_entered d n = argument_visited_by its_steps d n
