-- Answers of `grow`. Assumes nothing.
use mathlib.Core.List.{List}
use mathlib.Core.Path.{◌≡◌, refl, ◌∙◌}
use Prim.Native.Nat.{ℕ, ◌+◌, ◌-◌, ◌<◌}
use native.Mathlib.Decide.{ℕ_discrete}
use native.Mathlib.Omega.{arith}
use lib.ListN.{length, get_or, set, length-set}
use lib.Seq.{get_or-set_same, get_or-set_other}
use Rattle.splice.specs.Promises.{Regrown, GrownBefore}
use Rattle.splice.proofs.grow.Invariants.{Passed}
use Rattle.splice.proofs.grow.Goals as goal

none_passed : {a e n i : ℕ} {xs : List ℕ} → i ≡ 0 → Passed a e n i xs xs
none_passed z = record { before = λ j l. absurd (omega arith); behind = λ j l. refl; long = refl }

passed_next : {a e e' n at i x : ℕ} {xs ys : List ℕ} → i < length xs → Passed a e n i xs ys → at ≡ i → e' ≡ e → Regrown a e' n at (get_or ys i 0) x →
    Passed a e n (i + 1) xs (set ys i x)
passed_next {a} {e} {n = n} {i = i} {x} {xs} {ys} h p f g r =
    let l = p.long in
    record {
      before = λ j k. go j k (ℕ_discrete j i);
      behind = λ j k. get_or-set_other ys i j x 0 (λ z. omega arith) ∙ p.behind j (omega arith);
      long = length-set ys i x ∙ p.long;
    }
  where
    go : (j : ℕ) → j < i + 1 → Dec (j ≡ i) → Regrown a e n j (get_or xs j 0) (get_or (set ys i x) j 0)
    go j k (yes z) = rw (z, get_or-set_same ys i x 0 (let l = p.long in omega arith), ← p.behind i (omega arith)) (rw (f, g) at r)
    go j k (no z) = rw (get_or-set_other ys i j x 0 z) (p.before j (omega arith))

all_passed : {a e n i : ℕ} {xs ys : List ℕ} → i ≡ a → Passed a e n i xs ys → GrownBefore a e n xs ys
all_passed z p = record { before = λ j l. p.before j (omega arith); behind = λ j l. p.behind j (omega arith); long = p.long }

pub loop-i-init : goal.loop-i-init
loop-i-init c = none_passed refl

pub regrown-requires : goal.regrown-requires
regrown-requires c =
    let l = c.loop-i in
    let a = c.args in
    let end : a.a + (a.e - a.a) ≡ a.e = omega arith in (
      omega arith,
      omega arith,
      omega arith,
      rw (l.invariant.behind l.i (omega arith), end) (c.requires.nested l.i (omega arith)),
    )

pub loop-i-preserved : goal.loop-i-preserved
loop-i-preserved c =
    let l = c.loop-i in
    passed_next (omega arith) l.invariant refl (omega arith) c.regrown.ensures

pub returns : goal.returns
returns c = all_passed (omega arith) c.loop-i.invariant
