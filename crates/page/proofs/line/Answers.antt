-- `page::line` meets its contract: its three parts stand one after another. Assumes nothing.
use native.Mathlib.Omega.{arith}
use Rattle.stream.proofs.Puts.{put_as, put_both}
use Rattle.page.proofs.Decimals.{one_field}
use Rattle.page.proofs.line.Goals as goal

pub returns : goal.returns
returns c =
    let p = c.put-p.ensures in
    let f = c.decimal_field-q.ensures in
    let q = c.put.ensures in
    (put_as (one_field _ _) (put_both p (put_both f.0 q)), omega (arith, p.ends, f.1, q.ends))
