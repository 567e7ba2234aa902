-- Laws of FORK: the argument is kept, or an idle unit gets it. Assumes nothing.
use mathlib.Core.Path.{◌≡◌, refl, sym, ap, ap₂, subst, ◌∙◌}
use mathlib.Core.List.{List}
use mathlib.Core.Option.{none, some}
use Prim.Native.Nat.{ℕ, zero, suc, ◌-◌, pred}
use native.Mathlib.Omega.{arith}
use Rattle.flat.specs.Machine.{Frame, FlatUnit, first_idle, leave}
use Rattle.units.specs.Stacks.{height_in, Store, store, units_in}
use Rattle.units.specs.Promises.{HasRoom, pushed, at, Changed, CellsLeft}
use Rattle.std.proofs.Common.{Some, None}
use Rattle.units.specs.declared.frames.Job.{Job}
use Rattle.units.proofs.Units.{changed_then, height_is, height_same, height_other}
use Rattle.orders.specs.Promises.{
  restack,
  Restacked,
  advances,
  Advanced,
  CanKeep,
  ArgumentKept,
  given,
  Given,
  forks,
  CanGrant,
  Granted,
  Forked,
}

one_less : (n : ℕ) → n - 1 ≡ pred n
one_less zero = refl
one_less (suc n) = omega arith

-- kept: the job goes on with a count c that is one less, and another is pushed
module _ (x : Job) {u c : ℕ} {s s₁ : Store} (e : c ≡ x.count - 1)
    (p : Advanced (record { offset = x.offset; next = x.next; count = c }) u s s₁) where
  lowered : Restacked (advances x (pred x.count)) u s s₁
  lowered = subst (λ (y : ℕ). Restacked (advances x y) u s s₁) (e ∙ one_less x.count) p.change

  pub keep_room : {b : ℕ} → CanKeep x b u s → HasRoom s₁ u 1
  keep_room q = record { fit = p.change.fit; unit = q.job.top.unit; room = omega (arith, q.room, height_same lowered) }

  pub argument_kept : {b : ℕ} {s₂ : Store} → Changed u (pushed (Frame.job b 0 0)) s₁ s₂ → ArgumentKept x b u s s₂
  argument_kept q = record { change = changed_then lowered q }

-- given: two frames are pushed, and the first of the idle queue leaves it
pub second_room : {v : ℕ} {f : Frame} {s s₁ : Store} → HasRoom s v 2 → Changed v (pushed f) s s₁ → HasRoom s₁ v 1
second_room {v} {s = s} r p = record { fit = p.fit; unit = r.unit; room = omega (arith, r.room, height_same p, height_is s v) }

pub gave : {v u i b : ℕ} {s s₁ : Store} {w c c' : List ℕ} → Changed v (pushed (Frame.exit u i)) s s₁ → Changed v (pushed (Frame.job b 0 0)) s₁ (store w c) →
    CellsLeft 1 c c' → Given v u i b s (store w c')
gave {w = w} p q t =
    let a = t.change w q.fit in
    record { fit = a.fit; units = λ n. a.units n ∙ ap (leave 1) ((changed_then p q).units n) }

-- granted: the job goes on, and unit v gets the argument
module _ {x : Job} {u : ℕ} {s s₁ : Store} (p : Advanced x u s s₁) where
  pub grant_room : {b v : ℕ} → CanGrant x b v u s → HasRoom s₁ v 2
  grant_room {v = v} q = record { fit = p.change.fit; unit = q.idle_unit; room = omega (arith, q.room, height_other p.change v q.other) }

  pub granted : {b v j i : ℕ} {s₂ : Store} → j ≡ u → i ≡ height_in s.cells u - 1 → Given v j i b s₁ s₂ → Granted x b v u s s₂
  granted {b} {v} {j} {i} ej ei q = record {
    fit = q.fit;
    units = λ n.
        q.units n ∙ ap (λ (us : List FlatUnit). leave 1 (at v (given j i b) us)) (p.change.units n)
        ∙ ap₂ (λ (y z : ℕ). leave 1 (at v (given y z b) (at u (restack (advances x x.count)) (units_in s n)))) ej ei;
  }

-- by the search
module _ {x : Job} {b n u : ℕ} {s s' : Store} where
  pub fork_grants : {v : ℕ} → first_idle (units_in s n) ≡ some v → Granted x b v u s s' → Forked x b n u s s' (Some v)
  fork_grants z g = record {
    fit = g.fit;
    units = g.units n ∙ ap (forks x b u (height_in s.cells u) (units_in s n)) (sym z);
    found = z;
  }

  pub fork_keeps : first_idle (units_in s n) ≡ none → ArgumentKept x b u s s' → Forked x b n u s s' None
  fork_keeps z d = record {
    fit = d.change.fit;
    units = d.change.units n ∙ ap (forks x b u (height_in s.cells u) (units_in s n)) (sym z);
    found = z;
  }
