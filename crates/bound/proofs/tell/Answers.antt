-- `bound::tell` meets its contract, by the ending. Assumes nothing.
use Rattle.bound.proofs.Answers.{other, finished}
use Rattle.bound.proofs.tell.Goals as goal

pub returns-in-Finished : goal.returns-in-Finished
returns-in-Finished c = finished _ _ _ c.in-Finished.is

pub returns-in_default : goal.returns-in_default
returns-in_default c = other _ _ _ c.in_default.not-Finished
