-- `points::run_named` meets its contract, by the laws of Named. Assumes nothing.
use mathlib.Core.Path.{refl, sym, ap, ◌∙◌, subst}
use Prim.Native.Nat.{ℕ}
use native.Mathlib.Omega.{arith}
use lib.ListN.{take, replicate}
use Rattle.paper.specs.Book.{Book}
use Rattle.paper.proofs.BookBytes.{longest_book}
use Rattle.tables.specs.Tables.{any_book}
use Rattle.engine.specs.Promises.{Given}
use Rattle.engine.proofs.Frame.{frame_of, asked}
use Rattle.points.proofs.Named.{Counts, placed_short, unnamed, first_savable, named}
use Rattle.points.proofs.run_named.Goals as goal

pub names_units-requires : goal.names_units-requires
names_units-requires c = (frame_of c.requires.framed.faultless).some_units

pub returns-then-not-names_units : goal.returns-then-not-names_units
returns-then-not-names_units c =
    let p = c.requires in
    unnamed p.framed p.loaded.tables p.budget_bound.1 p.loaded.given p.placed (sym c.names_units.ensures ∙ c.if-not-names_units.true)

pub build-requires : goal.build-requires
build-requires c =
    let p = c.requires in
    (p.loaded.tables, p.framed.short, (frame_of p.framed.faultless).net_long, p.loaded.day)

pub post_into-run-requires : goal.post_into-run-requires
post_into-run-requires c =
    let p = c.requires in
    let g = subst (λ (B : Book). Given B c.args.line.now c.args.length) (sym c.build.ensures.same_book) p.loaded.given in
    let q = asked (frame_of p.framed.faultless) (sym c.names_units.ensures ∙ c.if-not-names_units.false) p.budget_bound.0 in
    record {
      opened = record { netted = c.build.ensures.of_book; short = p.framed.short };
      given = g;
      asked = q;
      lent = record { symbols_long = refl; scratch_long = refl; cells_long = refl; order_long = refl };
    }

pub keep-requires : goal.keep-requires
keep-requires c =
    let p = c.requires in
    let f = frame_of p.framed.faultless in
    let o = c.post_into-run.ensures.posted in
    let k = c.post_into-run.type_inv in
    -- what a run counts has 64 bits
    let n : Counts c.post_into-run.result = record { entries = omega (arith, k); granted = omega (arith, k); kept = omega (arith, k) } in
    let t = p.loaded.tables in (
      first_savable c.build.ensures.of_book (take c.args.length c.args.line.now) o.term o.term_read f.few n c.post_into-run.ensures.ran p.budget_bound.0 f.some_units,
      record { slot = p.placed.slot; named = placed_short c.args.name.now c.args.points.now c.args.k p.placed.is; short = longest_book c.args.book.now (any_book c.args.book.now) t.read },
    )

pub leave-requires : goal.leave-requires
leave-requires c =
    let o = c.post_into-run.ensures.posted in
    (o.long, o.most, (frame_of c.requires.framed.faultless).output_long)

pub shape_of-net : goal.shape_of-net
shape_of-net c = c.leave.auto.net ∙ c.build.auto.net

pub returns : goal.returns
returns c =
    let p = c.requires in
    let k = c.post_into-run.type_inv in
    -- what a run counts has 64 bits
    let n : Counts c.post_into-run.result = record { entries = omega (arith, k); granted = omega (arith, k); kept = omega (arith, k) } in
    let z = c.leave.ensures in
    named {line = take c.args.length c.args.line.now} p.framed (frame_of p.framed.faultless).few p.loaded.tables p.budget_bound.1
    (sym c.names_units.ensures ∙ c.if-not-names_units.false) c.build.ensures c.post_into-run.ensures.posted c.post_into-run.ensures.ran n p.placed
    c.keep.ensures (z.work_zero ∙ ap (λ (k : ℕ). replicate k 0) c.post_into-run.auto.work) z
