-- `page::run_lines` meets its contract: the lines stand one after another, with the numbers that are asked. Assumes nothing.
use mathlib.Core.List.{[], ◌∷◌}
use mathlib.Core.Path.{ap}
use Prim.Native.Nat.{ℕ}
use Rattle.paper.specs.Page.{line, end_word}
use Rattle.stream.proofs.Puts.{put_as, put_both}
use Rattle.page.proofs.run_lines.Goals as goal

pub returns : goal.returns
returns c =
    put_both (put_as (ap (λ (v : ℕ). line end_word (v ∷ [])) c.ending_number.ensures.0) c.line-a.ensures.0)
    (put_both c.line-b.ensures.0
    (put_both c.line-c.ensures.0 (put_both c.line-d.ensures.0 (put_both c.line-e.ensures.0 c.term_line.ensures))))
