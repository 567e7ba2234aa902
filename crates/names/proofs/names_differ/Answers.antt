-- Answers of `names_differ`. Assumes nothing.
use mathlib.Core.Bool.{true, false}
use mathlib.Core.Path.{refl}
use Rattle.std.proofs.Common.{rules}
use Rattle.std.proofs.lemmas.Iterator.{cases_from_all, YieldsList-from_range}
use Rattle.parking.proofs.Below.{all_below}
use Rattle.names.specs.Promises.{IsAlone}
use Rattle.names.proofs.Told.{names_differ}
use Rattle.names.proofs.names_differ.Goals as goal

pub returns : goal.returns
returns c =
    let p = c.args.points.now in
    names_differ p c.all.result
    (all_below 8 (λ k. IsAlone p k true) (λ k. IsAlone p k false) c.all.result
    (cases_from_all _ _ _ (λ k. IsAlone p k true) (λ k. IsAlone p k false) c.all.ensures.ran (YieldsList-from_range 0 8 8 refl refl) (λ k q r. search rules) (λ k q r. search rules)))
