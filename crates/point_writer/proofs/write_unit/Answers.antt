-- `point_writer::write_unit` meets its contract. Assumes nothing.
use mathlib.Core.Path.{◌∙◌}
use native.Mathlib.Omega.{arith}
use Rattle.units.proofs.Loops.{frames_of}
use Rattle.point_writer.proofs.Puts.{put_as, put_both}
use Rattle.point_writer.proofs.Fields.{unit_bits}
use Rattle.point_writer.proofs.write_unit.Goals as goal

pub overflow_sub-h : goal.overflow_sub-h
overflow_sub-h c =
    let h = frames_of c.requires.1 c.requires.0 c.base_of-from.ensures c.load-unit.ensures.end in
    omega (arith, h.1)

pub emit-b-requires : goal.emit-b-requires
emit-b-requires c =
    let h = frames_of c.requires.1 c.requires.0 c.base_of-from.ensures c.load-unit.ensures.end in
    let m = c.requires.1.most c.args.u in
    let e = c.short-2.ensures in
    let r = c.requires.3 in
    (omega arith, omega (arith, h.0), record { bits = omega (arith, c.emit-a.ensures.1, c.emit-a.ensures.0.long); short = omega (arith, c.emit-a.ensures.0.long) })

pub write_stack-requires : goal.write_stack-requires
write_stack-requires c =
    let b = c.base_of-from.ensures in
    let h = frames_of c.requires.1 c.requires.0 b c.load-unit.ensures.end in
    let m = c.requires.1.most c.args.u in
    let r = c.requires.3 in
    let e₁ = c.emit-a.ensures in
    let e₂ = c.emit-b.ensures in
    let i = c.requires.0 in (
      omega (arith, h.0),
      omega (arith, h.0, c.requires.1.regions.bytes),
      rw (h.0, b) c.requires.2.frames,
      record { bits = omega (arith, h.0, e₁.1, e₂.1, e₁.0.long, e₂.0.long); short = omega (arith, e₁.0.long, e₂.0.long) },
    )

pub returns : goal.returns
returns c =
    let b = c.base_of-from.ensures in
    let h = frames_of c.requires.1 c.requires.0 b c.load-unit.ensures.end in
    let m = c.requires.1.most c.args.u in (
      put_as (unit_bits c.args.work.now c.args.cells.now c.args.u (c.short.ensures ∙ c.load-unit.ensures.rank) (c.short-2.ensures ∙ h.0) h.0 b)
          (put_both c.emit-a.ensures.0 (put_both c.emit-b.ensures.0 c.write_stack.ensures.0)),
      omega (arith, h.0, c.emit-a.ensures.1, c.emit-b.ensures.1, c.write_stack.ensures.1),
    )
