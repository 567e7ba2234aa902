-- `lookup::push` meets its contract. Assumes nothing.
use mathlib.Core.Path.{refl}
use native.Mathlib.Omega.{arith}
use Rattle.lookup.proofs.push.Goals as goal

pub put-requires : goal.put-requires
put-requires c = rw c.in-Some.is at c.requires

pub overflow_add-result : goal.overflow_add-result
overflow_add-result c = let h = (rw c.in-Some.is at c.requires).1 in omega arith

pub returns-in-None : goal.returns-in-None
returns-in-None c = rw c.in-None.is (refl, refl)

pub returns-in-Some : goal.returns-in-Some
returns-in-Some c = rw c.in-Some.is (c.put.ensures, refl)
