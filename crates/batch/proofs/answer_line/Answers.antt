-- `batch::answer_line` meets its contract, by the laws of Answers. Assumes nothing.
use mathlib.Core.Path.{sym, ◌∙◌}
use native.Mathlib.Omega.{arith}
use Rattle.batch.proofs.Answers.{asks, read_by, not_read, not_named, posted}
use Rattle.batch.proofs.answer_line.Goals as goal

pub returns-then-not-named : goal.returns-then-not-named
returns-then-not-named c =
    let p = c.requires in
    let t = read_by p.fact c.in-Ok.is c.read_term.ensures in
    let a = p.arrays in
    record {
      line_done = not_named _ p.fact _ _ t (sym p.named_value.0 ∙ c.if-not-named.true) (rw c.number-k.ensures.value at c.put_refusal-then-not-named.ensures);
      arrays_after = record { line_long = t.given.long; symbols_long = a.symbols_long; scratch_long = a.scratch_long };
    }

pub post-run-requires : goal.post-run-requires
post-run-requires c =
    let p = c.requires in
    let t = read_by p.fact c.in-Ok.is c.read_term.ensures in
    record {
      opened = p.fact.opened;
      given = t.given;
      asked = asks p.fact (sym p.named_value.0 ∙ c.if-not-named.false);
      symbols_len = (p.arrays.symbols_long, p.arrays.scratch_long);
    }

pub put_run-requires : goal.put_run-requires
put_run-requires c =
    (c.post-run.ensures.posted.most, omega arith)

pub returns-in-Err : goal.returns-in-Err
returns-in-Err c =
    let p = c.requires in
    let e = read_by p.fact c.in-Err.is c.read_term.ensures in
    let a = p.arrays in
    record {
      line_done = not_read _ p.fact _ _ _ e (rw c.number.ensures.value at c.put_refusal.ensures);
      arrays_after = record { line_long = c.read_term.ensures.long; symbols_long = a.symbols_long; scratch_long = a.scratch_long };
    }

pub returns-else-not-named : goal.returns-else-not-named
returns-else-not-named c =
    let p = c.requires in
    let t = read_by p.fact c.in-Ok.is c.read_term.ensures in
    let r = c.post-run.ensures.posted in
    record {
      line_done = posted _ p.fact _ _ t r (sym p.named_value.0 ∙ c.if-not-named.false) r.present c.put_run.ensures;
      arrays_after = record { line_long = t.given.long; symbols_long = r.long; scratch_long = c.post-run.ensures.scratch_long };
    }
