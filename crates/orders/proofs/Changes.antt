-- Laws of what orders do to the units: to the stack of one unit, after another, and at two units. Assumes nothing.
use mathlib.Core.Path.{◌≡◌, refl, sym, ap, ap₂, subst, ◌∙◌}
use mathlib.Core.Bool.{true, false}
use mathlib.Core.List.{List, ◌∷◌}
use mathlib.Core.Logic.{◌≢◌}
use Prim.Native.Nat.{ℕ, zero, suc, ◌+◌, ◌<◌}
use native.Mathlib.Omega.{arith}
use native.Mathlib.Numerals.{add-one}
use lib.ListN.{length, get_or, drop}
use Rattle.paper.specs.Strategy.{Step}
use Rattle.flat.specs.Sizes.{hop}
use Rattle.flat.specs.Machine.{Frame, FlatUnit, flat_unit, next_count, proceed, idle_count, arrive}
use Rattle.tables.specs.Layout.{arity_in, Rowed}
use Rattle.symbol.specs.Record.{operator, sizes}
use Rattle.term.specs.Present.{length_in, operators_in, Hops}
use Rattle.term.proofs.Sized.{operator_is, argument_hops, argument_is, argument_inside}
use Rattle.units.specs.Stacks.{height_in, Store, store, units_in, unit_in}
use Rattle.units.specs.Promises.{StacksFit, HasFrame, HasRoom, dropped, pushed, topped, Changed, CellIdled, Arrived}
use Rattle.units.specs.declared.frames.Job.{Job}
use Rattle.units.specs.declared.frames.Exit.{Exit}
use Rattle.units.proofs.Units.{changed_none, changed_then, changed_as, height_is, unit_same, height_other}
use Rattle.orders.specs.Promises.{
  is_some,
  Counted,
  Argument,
  argument_of,
  ArgumentInside,
  Restacked,
  advances,
  Advanced,
  Proceeded,
  enters,
  CanEnter,
  Entered,
  Visited,
  CanVisit,
  ArgumentVisited,
  joins,
  Joined,
  CanExit,
  Exited,
}
use Rattle.orders.proofs.Steps.{proceed_some, proceed_none}

-- the job goes on
pub advanced : {x : Job} {u : ℕ} {s s' : Store} → Changed u (topped (Frame.job x.offset (x.next + 1) x.count)) s s' → Advanced x u s s'
advanced {x} {u} {s} p = record {
  change = changed_as p
      (ap (λ (j : ℕ). flat_unit (unit_in s u).rank (Frame.job x.offset j x.count ∷ drop 1 (unit_in s u).stack)) (add-one x.next));
}

-- by its steps: there is one, or none
module _ {ss : List Step} {x : Job} {u : ℕ} {s s' : Store} where
  pub proceeds_some : is_some (drop x.next ss) ≡ true → Advanced x u s s' → Proceeded ss x u s s'
  proceeds_some n p = record {
    change = changed_as p.change
        (ap (flat_unit (unit_in s u).rank)
        (sym (proceed_some (drop x.next ss) n x.offset (suc x.next) x.count (drop 1 (unit_in s u).stack))));
  }

  pub proceeds_none : is_some (drop x.next ss) ≡ false → Changed u dropped s s' → Proceeded ss x u s s'
  proceeds_none n p = record {
    change = changed_as p
        (ap (flat_unit (unit_in s u).rank)
        (sym (proceed_none (drop x.next ss) n x.offset (suc x.next) x.count (drop 1 (unit_in s u).stack))));
  }

-- the orders of a term are put: it has a first step, or none
module _ {ss : List Step} {a u : ℕ} {s : Store} where
  pub enter_room : is_some ss ≡ true → CanEnter ss a u s → HasRoom s u 1
  enter_room n q = record {
    fit = q.fit;
    unit = q.unit;
    room = omega (arith, q.room, ap length (proceed_some ss n a 1 (next_count ss) (unit_in s u).stack), height_is s u);
  }

  pub enters_some : {s' : Store} {c : ℕ} → is_some ss ≡ true → Counted ss c → Changed u (pushed (Frame.job a 1 c)) s s' → Entered ss a u s s'
  enters_some n q p =
      let fs = (unit_in s u).stack in
      record {
        change = changed_as p
            (ap (flat_unit (unit_in s u).rank)
            (ap (λ (j : ℕ). Frame.job a 1 j ∷ fs) q.is ∙ sym (proceed_some ss n a 1 (next_count ss) fs)));
      }

  pub enters_none : is_some ss ≡ false → CanEnter ss a u s → Entered ss a u s s
  enters_none n q = record {
    change = changed_none q.fit (ap (flat_unit (unit_in s u).rank) (proceed_none ss n a 1 (next_count ss) (unit_in s u).stack));
  }

-- the job goes on with a count that is that of the next JOIN of the steps left: VISIT, from the first step; JOIN at count 0, from the one behind it
pub visited : {ss : List Step} {a u c : ℕ} {s s' : Store} → Counted ss c → Proceeded ss (record { offset = a; next = 0; count = c }) u s s' →
    Visited ss a u s s'
visited {ss} {a} {u} {s = s} {s' = s'} q p = record {
  change = subst (λ (c : ℕ). Restacked (λ (fs : List Frame). proceed a 1 c ss (drop 1 fs)) u s s') q.is p.change;
}

pub join_passes : {ss : List Step} {x : Job} {n u c : ℕ} {s s' : Store} → x.count ≡ 0 → Counted (drop x.next ss) c →
    Advanced (record { offset = x.offset; next = x.next; count = c }) u s s' → Joined ss x n u s s'
join_passes {ss} {x} {n} {u} {s = s} {s' = s'} e q p = record {
  change =
      let y : Restacked (advances x (next_count (drop x.next ss))) u s s' = subst (λ (c : ℕ). Restacked (advances x c) u s s') q.is p.change in
      subst (λ (c : ℕ). Changed u (joins ss x (suc (idle_count (units_in s n))) c) s s') (sym e) y;
}

pub join_waits : {ss : List Step} {x : Job} {n u : ℕ} {w c c' : List ℕ} → StacksFit (store w c) → x.count ≢ 0 → CellIdled n u c c' →
    Joined ss x n u (store w c) (store w c')
join_waits {ss} {x} {n} {u} {w} {c} {c'} f ne t = record { change = go x.count ne }
  where
    go : (k : ℕ) → k ≢ 0 → Changed u (joins ss x (suc (idle_count (units_in (store w c) n))) k) (store w c) (store w c')
    go zero z = absurd (z refl)
    go (suc k) z = t.change w f

-- VISIT of the argument p: the job goes on first
module _ {x : Job} {p : Argument} {u : ℕ} {s s₁ : Store} (d : Advanced x u s s₁) where
  pub can_enter : CanVisit x p u s → p.offset < 1024 → CanEnter p.steps p.offset u s₁
  can_enter v l = record {
    fit = d.change.fit;
    unit = v.job.top.unit;
    offset = l;
    room = omega (arith, v.room, ap (λ (y : FlatUnit). length (enters p.steps p.offset y.stack)) (unit_same d.change));
  }

  pub argument_visited : {s₂ : Store} → Entered p.steps p.offset u s₁ s₂ → ArgumentVisited x p u s s₂
  argument_visited e = record { change = changed_then d.change e.change }

-- argument i of the job's term
module _ {operators symbols : List ℕ} {x : Job} {i : ℕ} (q : ArgumentInside operators symbols x i) where
  abbrev xs : List ℕ
  xs = operators_in symbols

  -- hopping by the sizes leads to it, inside
  hop_is : hop (sizes symbols) i (x.offset + 1) ≡ (argument_of operators xs x i).offset
  hop_is = argument_is (arity_in operators) symbols q.sized x.offset i q.offset (omega (arith, q.few))

  inside : (argument_of operators xs x i).offset < length_in symbols
  inside = argument_inside (arity_in operators) symbols q.sized x.offset i q.offset q.few

  pub argument_asks : (x.offset < 1024) × Hops (sizes symbols) i (x.offset + 1)
      × (hop (sizes symbols) i (x.offset + 1) < 1024)
  argument_asks = (
    omega (arith, q.offset, q.sized.most),
    argument_hops (arity_in operators) symbols q.sized x.offset i q.offset (omega (arith, q.few)),
    omega (arith, hop_is, inside, q.sized.most),
  )

  pub argument_found : {b : ℕ} → b ≡ hop (sizes symbols) i (x.offset + 1) → b ≡ (argument_of operators xs x i).offset
  argument_found e = e ∙ hop_is

  -- its operator p, read at k, which is its offset b
  module _ {b k p : ℕ} (eb : b ≡ hop (sizes symbols) i (x.offset + 1)) (ek : k ≡ b) (ep : p ≡ operator (get_or symbols k 0)) where
    operator_found : p ≡ get_or xs (argument_of operators xs x i).offset 0
    operator_found =
        ep ∙ ap (λ (j : ℕ). operator (get_or symbols j 0)) (ek ∙ argument_found eb) ∙ operator_is (arity_in operators) symbols q.sized _ inside

    pub argument_row : Rowed operators (get_or xs (argument_of operators xs x i).offset 0) → Rowed operators p
    argument_row r = rw operator_found r

-- EXIT
pub exit_join : {x : Exit} {u : ℕ} {s s₁ : Store} → CanExit x u s → Changed u dropped s s₁ → (v i : ℕ) → v ≡ x.unit → i ≡ x.index → HasFrame s₁ v i
exit_join {x} {s₁ = s₁} q p v i ev ei = record {
  fit = p.fit;
  unit = omega (arith, q.join.unit);
  index = omega (arith, q.join.index, height_other p x.unit q.other, ap (λ (j : ℕ). height_in s₁.cells j) ev);
}

pub exited : {x : Exit} {u v i : ℕ} {s s₁ s₂ : Store} → Changed u dropped s s₁ → v ≡ x.unit → i ≡ x.index → Arrived v i s₁ s₂ → Exited x u s s₂
exited {x} {s₁ = s₁} p ev ei q = record {
  fit = q.fit;
  units = λ n l.
      q.units n (omega arith) ∙ ap₂ (λ (y z : ℕ). arrive y z (units_in s₁ n)) ev ei ∙ ap (arrive x.unit x.index) (p.units n);
}
