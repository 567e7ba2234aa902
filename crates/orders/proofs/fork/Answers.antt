-- `orders::fork` meets its contract: an idle unit gets the argument, or it is kept. Assumes nothing.
use native.Mathlib.Omega.{arith}
use Rattle.orders.proofs.Forks.{fork_grants, fork_keeps}
use Rattle.orders.proofs.fork.Goals as goal

pub grant-requires : goal.grant-requires
grant-requires c =
    let q = rw c.in-Some.is at c.first_idle-idle.ensures in
    let f = c.requires in
    let r = f.grant _ (q.units _) in
    record { job = f.job; offset = f.offset; idle_unit = omega (arith, q.one, f.few); other = r.0; room = r.1 }

pub keep-requires : goal.keep-requires
keep-requires c =
    let q = rw c.in-None.is at c.first_idle-idle.ensures in
    let f = c.requires in
    record { job = f.job; offset = f.offset; room = f.keep (q.units _) }

pub returns-in-Some : goal.returns-in-Some
returns-in-Some c =
    let q = rw c.in-Some.is at c.first_idle-idle.ensures in
    fork_grants (q.units _) c.grant.ensures

pub returns-in-None : goal.returns-in-None
returns-in-None c =
    let q = rw c.in-None.is at c.first_idle-idle.ensures in
    rw c.in-None.is (fork_keeps (q.units _) c.keep.ensures)
