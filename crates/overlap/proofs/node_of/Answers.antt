-- `overlap::node_of` meets its contract, by what the links lead to. Assumes nothing.
use mathlib.Core.List.{List}
use mathlib.Core.Path.{refl, subst}
use Prim.Native.Nat.{ℕ, ◌<◌}
use native.Mathlib.Omega.{arith}
use Rattle.overlap.specs.Trie.{Leads}
use Rattle.overlap.specs.Promises.{Seekable}
use Rattle.std.specs.Prelude.{Ok, Err}
use Rattle.overlap.proofs.node_of.Goals as goal

few : {links codes : List ℕ} {o slot h z : ℕ} → Seekable links codes → Leads links codes o slot h (Ok z) → z < 16384
few {slot = slot} s (Leads.node y f l d) = subst (λ (x : ℕ). x < 16384) f (s.later slot (rw f l)).0
few s (Leads.on y f l d k) = few s k

pub put_node-requires : goal.put_node-requires
put_node-requires c =
    let p = c.requires in
    let i = (rw c.in-Err.is at c.seek.ensures).inside in
    (i, omega arith, omega arith, omega arith)

pub returns-in-Ok : goal.returns-in-Ok
returns-in-Ok c =
    let s = rw c.in-Ok.is at c.seek.ensures in
    record { seek = Ok _; sought = s; is = (refl, refl, refl, refl, refl); inside = few c.requires.0 s.leads }

pub returns-in-Err : goal.returns-in-Err
returns-in-Err c =
    let e = c.put_node.ensures in
    record {
      seek = Err _;
      sought = rw c.in-Err.is at c.seek.ensures;
      is = (refl, e.0, e.1, e.2, e.3);
      inside = c.requires.2;
    }
