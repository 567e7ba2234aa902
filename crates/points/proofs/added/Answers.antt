-- `points::added` meets its contract. Assumes nothing.
use mathlib.Core.Path.{ap, ap₂, ◌∙◌}
use Prim.Native.Nat.{ℕ}
use Rattle.run.specs.declared.Run.{Run}
use Rattle.points.proofs.added.Goals as goal

pub returns : goal.returns
returns c =
    let r : Run = c.args.run in
    let run : ℕ → ℕ → ℕ → Run = λ (i j k : ℕ). record { ending = r.ending; rewrites = r.rewrites; entries = i; granted = j; kept = k; length = r.length } in
    ap₂ (λ (i j : ℕ). run i j c.total-3.result) c.total.ensures c.total-2.ensures ∙ ap (run _ _) c.total-3.ensures
