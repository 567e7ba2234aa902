-- Answers of `read_numbers`. Assumes nothing.
use mathlib.Core.Path.{sym, ◌∙◌}
use Prim.Native.Nat.{◌+◌, ◌-◌}
use native.Mathlib.Omega.{arith}
use lib.ListN.{length-set}
use Rattle.paper.specs.Result.{return}
use Rattle.bits.proofs.Reading.{got_as}
use Rattle.refusal.proofs.Passing.{passed_up}
use Rattle.reader.proofs.Reading.{got, ran_out}
use Rattle.strategy.proofs.Reading.{numbers_start, numbers_out, numbers_fault, numbers_go, numbers_more, numbers_end}
use Rattle.strategy.proofs.read_numbers.Goals as goal

pub loop-k-init : goal.loop-k-init
loop-k-init c =
    let a = c.args in
    (c.requires.2, numbers_start _ _ a.count (a.count - 0) (omega arith))

pub returns-in_err-field : goal.returns-in_err-field
returns-in_err-field c =
    let n = c.args.count in
    let e = ran_out c.field.ensures c.in_err-field.was in
    rw (passed_up c.from_residual.result c.from_residual.ensures.1) (record {
      is = sym (c.loop-k.invariant.1 ∙ numbers_out _ _ _ _ (n - c.loop-k.k) (n - (c.loop-k.k + 1)) _ (omega arith) e);
      long = c.loop-k.invariant.0;
    })

pub low_byte-v-requires : goal.low_byte-v-requires
low_byte-v-requires c = omega (arith, (got c.field.ensures c.in_ok-field.was).small)

pub returns-in_err-grouped : goal.returns-in_err-grouped
returns-in_err-grouped c =
    let n = c.args.count in
    let k = c.loop-k.k in
    let e = (got_as (got c.field.ensures c.in_ok-field.was) c.low_byte-v.ensures).is in
    rw (passed_up c.from_residual-in_err-grouped.result c.from_residual-in_err-grouped.ensures.1) (record {
      is = sym (c.loop-k.invariant.1
          ∙ numbers_fault _ _ _ _ (n - k) (n - k - 1) _ _ (omega arith) e _ (sym c.item.ensures ∙ c.in_err-grouped.was));
      long = c.loop-k.invariant.0;
    })

pub loop-k-preserved : goal.loop-k-preserved
loop-k-preserved c =
    let n = c.args.count in
    let k = c.loop-k.k in
    let e = (got_as (got c.field.ensures c.in_ok-field.was) c.low_byte-v.ensures).is in (
      simp length-set c.loop-k.invariant.0,
      c.loop-k.invariant.1
          ∙ numbers_go _ _ _ _ (n - k) (n - k - 1) _ _ (omega arith) e _ (sym c.item.ensures ∙ c.in_ok-grouped.was)
          ∙ numbers_more _ _ k (n - k - 1) (n - (k + 1)) _ _ _ (omega arith) c.loop-k.invariant.0 (omega arith),
    )

pub returns : goal.returns
unfolding return
returns c =
    let n = c.args.count in
    let k = c.loop-k.k in
    record { is = sym (c.loop-k.invariant.1 ∙ numbers_end _ _ _ _ k n (n - k) (omega arith) (omega arith)); long = c.loop-k.invariant.0 }
