-- `page::answer` meets its contract for each case of the answer. Assumes nothing.
use mathlib.Core.List.{[], ◌∷◌}
use mathlib.Core.Path.{sym, ap, ◌∙◌}
use Prim.Native.Nat.{ℕ}
use native.Mathlib.Omega.{arith}
use lib.Seq.{length-take-le}
use Rattle.paper.specs.Page.{line, refused_word}
use Rattle.engine.specs.Spec.{Reply}
use Rattle.page.specs.Promises.{lines}
use Rattle.stream.proofs.Puts.{put_as}
use Rattle.page.proofs.answer.Goals as goal

pub slice_bounds-run_lines-end : goal.slice_bounds-run_lines-end
slice_bounds-run_lines-end c =
    sym (length-take-le c.in-Ok.r.length c.args.output.now (rw c.in-Ok.is at c.requires.0).0)

pub run_lines-requires : goal.run_lines-requires
run_lines-requires c =
    let f = rw c.in-Ok.is at c.requires.0 in
    (omega (arith, length-take-le c.in-Ok.r.length c.args.output.now f.0, f.0, f.1), c.requires.1)

pub returns-in-Err : goal.returns-in-Err
returns-in-Err c =
    put_as
    (ap (λ (k : ℕ). line refused_word (k ∷ [])) (c.from.ensures ∙ c.number.ensures.value)
    ∙ ap (λ (x : Reply). lines x c.args.output.now) (sym c.in-Err.is))
    c.line.ensures.0

pub returns-in-Ok : goal.returns-in-Ok
returns-in-Ok c =
    put_as (ap (λ (x : Reply). lines x c.args.output.now) (sym c.in-Ok.is)) c.run_lines.ensures
