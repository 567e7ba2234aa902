-- Answers of `shift_units`. Assumes nothing.
use native.Mathlib.Omega.{arith}
use Rattle.units.proofs.Loops.{frames_of, below_none, below_rest, below_more, below_all}
use Rattle.units.proofs.shift_units.Goals as goal

pub loop-u-init : goal.loop-u-init
loop-u-init c = below_none

pub shift_stack-requires : goal.shift_stack-requires
shift_stack-requires c =
    let u = c.loop-u.u in
    let p = c.loop-u.invariant in
    let b = c.base_of.ensures in
    let h = frames_of c.requires.fit (omega (arith, c.requires.few)) b c.end_of.ensures.0 in record {
      end_value = (omega (arith, h), omega (arith, h.1, c.requires.fit.most u, c.requires.fit.regions.bytes, p.outside.size));
      offsets = rw (h.0, b, below_rest p) (c.requires.offsets u (omega arith));
    }

pub loop-u-preserved : goal.loop-u-preserved
loop-u-preserved c =
    let f = c.requires.fit in
    let b = c.base_of.ensures in
    let t = frames_of f (omega (arith, c.requires.few)) b c.end_of.ensures.0 in
    below_more c.loop-u.invariant b t.0 f.most c.shift_stack.ensures

pub shape_of-work : goal.shape_of-work
shape_of-work c = c.loop-u.invariant.outside.size

pub returns : goal.returns
returns c = below_all c.requires.fit (omega arith) c.loop-u.invariant
