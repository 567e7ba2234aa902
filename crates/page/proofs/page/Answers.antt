-- `page::page` meets its contract: the fixed line, then the refusal by 17 or the lines of the answer. Assumes nothing.
use native.Mathlib.Omega.{arith}
use Rattle.paper.specs.Page.{line}
use Rattle.stream.proofs.Puts.{put_as, put_both}
use Rattle.page.proofs.Lines.{page_cut, page_whole, paged}
use Rattle.page.proofs.page.Goals as goal

pub run_page-requires : goal.run_page-requires
run_page-requires c =
    let f = rw c.in-Some.is at c.parts_of.ensures in
    (f.within, omega (arith, c.put-at.ensures.ends))

pub returns-in-None : goal.returns-in-None
unfolding line
returns-in-None c =
    let f = rw c.in-None.is at c.parts_of.ensures in
    paged (put_as (page_cut _ c.args.input.now f.is) (put_both c.put-at.ensures c.line.ensures.0))

pub returns-in-Some : goal.returns-in-Some
unfolding line
returns-in-Some c =
    let f = rw c.in-Some.is at c.parts_of.ensures in
    paged (put_as (page_whole _ c.args.input.now _ f.is) (put_both c.put-at.ensures c.run_page.ensures))
