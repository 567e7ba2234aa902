-- `writer::write_accepted` meets its contract, by the laws of Books. Assumes nothing.
use mathlib.Core.Path.{refl}
use native.Mathlib.Omega.{arith}
use lib.Pow.{pow_pos}
use Rattle.writer.proofs.Books.{book_put}
use Rattle.writer.proofs.Laws.{few}
use Rattle.writer.proofs.write_accepted.Goals as goal

pub emit-start-requires : goal.emit-start-requires
emit-start-requires c = let f = c.form_of-form.ensures in (omega (arith, f.low), omega (arith, pow_pos c.form_of-form.result.count), omega arith)

pub short-requires : goal.short-requires
short-requires c =
    omega (arith, few c.requires.1)

pub emit-at-requires : goal.emit-at-requires
emit-at-requires c =
    omega (arith, few c.requires.1, c.emit-start.ensures.1, c.form_of-form.ensures.low)

pub write_operators-places-requires : goal.write_operators-places-requires
write_operators-places-requires c =
    omega (arith, few c.requires.1, c.emit-at.ensures.1, c.emit-start.ensures.1, c.form_of-form.ensures.low)

pub emit-all-requires : goal.emit-all-requires
emit-all-requires c =
    let h = c.write_rules-end.ensures.1 in
    let k = c.write_operators-places.ensures.1 in
    (omega arith, pow_pos _, omega (arith, c.emit-at.ensures.1, c.emit-start.ensures.1, c.form_of-form.ensures.low))

pub returns : goal.returns
returns c =
    book_put c.requires.1 c.form_of-form.ensures c.short.ensures c.emit-start.ensures.0 c.emit-at.ensures.0
    c.write_operators-places.ensures.0 c.write_rules-end.ensures.0 c.emit-all.ensures.0 refl refl
