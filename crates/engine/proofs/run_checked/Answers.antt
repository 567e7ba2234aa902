-- `engine::run_checked` meets its contract, by the laws of Answers and Runs. Assumes nothing.
use mathlib.Core.Path.{refl, sym, ap, ◌∙◌, subst}
use Prim.Native.Nat.{ℕ}
use lib.ListN.{take, replicate}
use Rattle.paper.specs.Book.{Book}
use Rattle.engine.specs.Promises.{Given}
use Rattle.engine.proofs.Frame.{framed, frame_of, asked}
use Rattle.engine.proofs.Answers.{by_schedule, refuses}
use Rattle.engine.proofs.Runs.{reduced}
use Rattle.engine.proofs.run_checked.Goals as goal

pub names_units-requires : goal.names_units-requires
names_units-requires c = (frame_of c.requires.framed.faultless).some_units

pub returns-then-not-names_units : goal.returns-then-not-names_units
returns-then-not-names_units c =
    let p = c.requires in
    let g = p.loaded.given in
    let n = sym c.names_units.ensures ∙ c.if-not-names_units.true in
    refuses _ (by_schedule _ _ (framed _ p.framed.faultless) _ p.loaded.tables.read g.term g.term_read n)

pub build-requires : goal.build-requires
build-requires c =
    let p = c.requires in
    (p.loaded.tables, p.framed.short, (frame_of p.framed.faultless).net_long, p.loaded.day)

pub post-run-requires : goal.post-run-requires
post-run-requires c =
    let p = c.requires in
    let g = subst (λ (B : Book). Given B c.args.line.now c.args.length) (sym c.build.ensures.same_book) p.loaded.given in
    let q = asked (frame_of p.framed.faultless) (sym c.names_units.ensures ∙ c.if-not-names_units.false) p.budget_bound in
    record {
      opened = record { netted = c.build.ensures.of_book; short = p.framed.short };
      given = g;
      asked = q;
      symbols_len = (refl, refl);
    }

pub hand_out-requires : goal.hand_out-requires
hand_out-requires c =
    let q = c.post-run.ensures.posted in
    (q.long, q.most, (frame_of c.requires.framed.faultless).output_long)

pub returns : goal.returns
returns c =
    let p = c.requires in
    reduced {line = take c.args.length c.args.line.now} p.framed p.loaded.tables
    (sym c.names_units.ensures ∙ c.if-not-names_units.false) c.build.ensures c.post-run.ensures.posted
    (c.clear.ensures ∙ ap (λ (k : ℕ). replicate k 0) c.post-run.auto.work)
    c.clear-2.ensures c.hand_out.ensures
