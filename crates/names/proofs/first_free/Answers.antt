-- Answers of `first_free`. Assumes nothing.
use mathlib.Core.Bool.{true, false}
use mathlib.Core.Path.{◌≡◌}
use Rattle.std.proofs.Common.{rules, tests}
use Rattle.std.proofs.lemmas.Iterator.{first_from_Range}
use Rattle.parking.specs.Points.{slot}
use Rattle.names.specs.Promises.{free_slot}
use Rattle.names.proofs.Told.{found, is_free, not_free}
use Rattle.names.proofs.first_free.Goals as goal

pub returns : goal.returns
returns c =
    let p = c.args.points.now in
    found free_slot p 0 c.find.result
    (first_from_Range _ _ _ _ (λ k. free_slot (slot k p) ≡ true) (λ k. free_slot (slot k p) ≡ false) c.find.ensures.ran (λ k q r. is_free p k (search (rules, tests))) (λ k q r. (search rules, not_free p k (search (rules, tests)))))
