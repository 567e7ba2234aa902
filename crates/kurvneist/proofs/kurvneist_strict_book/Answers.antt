-- `kurvneist::kurvneist_strict_book` meets its contract for each case of the answer, as the law of the answer says. Assumes nothing.
use mathlib.Core.Path.{refl}
use Rattle.paper.specs.Strict.{strict_number}
use Rattle.kurvneist.proofs.Laws.{judged}
use Rattle.kurvneist.proofs.kurvneist_strict_book.Goals as goal

pub returns-in-Err : goal.returns-in-Err
unfolding strict_number
returns-in-Err c = judged _ (rw c.in-Err.is at c.strict_book.ensures) c.number.ensures.value refl

pub returns-in-Ok-Some : goal.returns-in-Ok-Some
unfolding strict_number
returns-in-Ok-Some c =
    judged _ (rw c.in-Ok-Some.field-0-is at c.in-Ok-Some.ensures) c.number-in-Ok-Some.ensures.value refl

pub returns-in-Ok-None : goal.returns-in-Ok-None
unfolding strict_number
returns-in-Ok-None c =
    judged _ (rw c.in-Ok-None.field-0-is at c.in-Ok-None.ensures) refl refl
