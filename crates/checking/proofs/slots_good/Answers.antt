-- Answers of `slots_good`. Assumes nothing.
use mathlib.Core.Bool.{true, false}
use mathlib.Core.Path.{◌≡◌, refl}
use Rattle.std.proofs.Common.{rules}
use Rattle.std.proofs.lemmas.Iterator.{cases_from_all, YieldsList-from_range}
use Rattle.parking.specs.Form.{read_slot}
use Rattle.parking.specs.Points.{slot}
use Rattle.parking.proofs.Below.{all_below}
use Rattle.checking.specs.Promises.{whole}
use Rattle.checking.proofs.Kept.{judged}
use Rattle.checking.proofs.slots_good.Goals as goal

pub returns : goal.returns
returns c =
    let p = c.args.points.now in
    judged p c.all.result
    (all_below 8 (λ k. whole (read_slot (slot k p)) ≡ true) (λ k. whole (read_slot (slot k p)) ≡ false) c.all.result
    (cases_from_all _ _ _ (λ k. whole (read_slot (slot k p)) ≡ true) (λ k. whole (read_slot (slot k p)) ≡ false) c.all.ensures.ran (YieldsList-from_range 0 8 8 refl refl) (λ k q r. search rules) (λ k q r. search rules)))
