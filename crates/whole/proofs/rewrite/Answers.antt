-- `whole::rewrite` meets its contract. Assumes nothing.
use Rattle.whole.proofs.Machine.{missed, spends, fills, rewrote}
use Rattle.whole.proofs.Terms.{end_behind}
use Rattle.whole.proofs.rewrite.Goals as goal

pub apply-requires : goal.apply-requires
apply-requires c =
    let p = c.requires in
    let h = rw c.in-Fits.is at c.choose.ensures in
    (h.is.replaceable, p.0.inside, end_behind p.0 h.is.hit, h.long, p.2)

pub returns-in-Missed : goal.returns-in-Missed
returns-in-Missed c =
    let h = rw c.in-Missed.is at c.choose.ensures in
    (missed _ c.args.p c.args.l _ c.requires.0 c.requires.2.top.fit h.is, h.long)

pub returns-in-Spent : goal.returns-in-Spent
returns-in-Spent c =
    let h = rw c.in-Spent.is at c.choose.ensures in
    (spends _ c.args.p c.args.l _ c.requires.0 c.requires.2.top.fit h.is, h.long)

pub returns-in-Full : goal.returns-in-Full
returns-in-Full c =
    let h = rw c.in-Full.is at c.choose.ensures in
    (fills _ c.args.p c.args.l _ c.requires.0 c.requires.2.top.fit h.is, h.long)

pub returns-in-Fits : goal.returns-in-Fits
returns-in-Fits c =
    let h = rw c.in-Fits.is at c.choose.ensures in
    (rewrote _ c.args.p c.args.l _ c.requires.0 h.long h.is c.apply.ensures, h.long)
