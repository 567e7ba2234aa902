-- Answers of `find_from`. Assumes nothing.
use mathlib.Core.Bool.{true, false}
use mathlib.Core.Path.{◌≡◌}
use Rattle.std.proofs.Common.{rules}
use Rattle.std.proofs.lemmas.Iterator.{first_from_Range}
use Rattle.parking.specs.Points.{slot}
use Rattle.names.specs.Promises.{bears}
use Rattle.names.proofs.Told.{found}
use Rattle.names.proofs.find_from.Goals as goal

pub returns : goal.returns
returns c =
    let p = c.args.points.now in
    let f = bears c.args.name.now in
    found f p c.args.from c.find.result
    (first_from_Range _ _ _ _ (λ k. f (slot k p) ≡ true) (λ k. f (slot k p) ≡ false) c.find.ensures.ran (λ k q r. search rules) (λ k q r. search rules))
