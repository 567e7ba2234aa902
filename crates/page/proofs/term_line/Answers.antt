-- `page::term_line` meets its contract: its three parts stand one after another. Assumes nothing.
use Rattle.stream.proofs.Puts.{put_as, put_both}
use Rattle.page.proofs.Decimals.{all_fields}
use Rattle.page.proofs.term_line.Goals as goal

pub returns : goal.returns
returns c =
    let p = c.put-p.ensures in
    let f = c.symbols-q.ensures in
    put_as (all_fields _ _) (put_both p (put_both f.0 c.put.ensures))
