-- `page::day_at` meets its contract, by a law of the day for each way out. Assumes nothing.
use mathlib.Core.Path.{refl}
use native.Mathlib.Omega.{arith}
use Rattle.page.proofs.Input.{day_undated, day_cut, day_there}
use Rattle.page.proofs.day_at.Goals as goal

pub returns-then-not-dated : goal.returns-then-not-dated
returns-then-not-dated c = day_undated _ _ c.if-not-dated.true (omega arith)

pub returns-then-input-at-lt2 : goal.returns-then-input-at-lt2
returns-then-input-at-lt2 c = day_cut _ _ c.if-not-dated.false (omega arith)

pub returns : goal.returns
returns c =
    day_there _ _ c.if-not-dated.false (omega arith) _ _ c.pair.ensures.0 refl
