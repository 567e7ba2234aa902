-- `fees::are_shares` meets its contract, test by test. Assumes nothing.
use mathlib.Core.Bool.{true, false}
use mathlib.Core.Logic.{inl, inr}
use mathlib.Core.Path.{◌≡◌, sym, ◌∙◌}
use lib.Dec.{eqb}
use lib.ListN.{length}
use Rattle.paper.proofs.Tests.{ltb_true, ltb_false}
use Rattle.fees.specs.Fees.{are_shares}
use Rattle.fees.proofs.Loops.{total_sum}
use Rattle.fees.proofs.are_shares.Goals as goal

pub returns-then-is_empty : goal.returns-then-is_empty
unfolding are_shares
returns-then-is_empty c =
    elim c.then-is_empty.either [
      | inl w ↦
          let e : eqb (length c.args.shares.now) 0 ≡ true = sym c.is_empty.ensures ∙ w in
          rw e
      | inr w ↦
          let e : eqb (length c.args.shares.now) 0 ≡ false = sym c.is_empty.ensures ∙ w.0 in
          rw (e, ltb_true 16 _ w.1)
    ]

pub returns : goal.returns
unfolding are_shares
returns c =
    let e : eqb (length c.args.shares.now) 0 ≡ false = sym c.is_empty.ensures ∙ c.if-is_empty.false in
    rw (e, ltb_false 16 _ c.if-shares-gt16.false, total_sum, c.total.ensures)
