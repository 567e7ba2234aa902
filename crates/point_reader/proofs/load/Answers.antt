-- `point_reader::load` meets its contract: part after part, by the laws of Loading. Assumes nothing.
use Rattle.point_reader.proofs.Loading.{no_head, no_term, no_units, no_order, all_read}
use borrow.Author.Rules.{rules}
use Rattle.point_reader.proofs.load.Goals as goal

pub returns-in_err-head : goal.returns-in_err-head
returns-in_err-head c = rw c.from_residual.ensures (no_head (rw c.in_err-head.was at c.read_numbers.ensures))

pub read_term-requires : goal.read_term-requires
read_term-requires c = (search rules, (rw c.in_ok-head.was at c.read_numbers.ensures).is.1.few_symbols, search rules)

pub returns-in_err-p : goal.returns-in_err-p
returns-in_err-p c =
    rw c.from_residual-in_err-p.ensures (no_term (rw c.in_ok-head.was at c.read_numbers.ensures) (rw c.in_err-p.was at c.read_term.ensures))

pub read_units-requires : goal.read_units-requires
read_units-requires c = (search rules, (rw c.in_ok-head.was at c.read_numbers.ensures).is.1.few_units, c.requires.eight_regions)

pub shape_of-work-in_err-q : goal.shape_of-work-in_err-q
shape_of-work-in_err-q c = c.read_units.auto.work

pub returns-in_err-q : goal.returns-in_err-q
returns-in_err-q c =
    rw c.from_residual-in_err-q.ensures
    (no_units (rw c.in_ok-head.was at c.read_numbers.ensures) (rw c.in_ok-p.was at c.read_term.ensures)
    (rw c.in_err-q.was at c.read_units.ensures))

pub read_order-requires : goal.read_order-requires
read_order-requires c = (c.requires.bytes_len_bound.0, c.requires.bytes_len_bound.2)

pub shape_of-work-in_err-next : goal.shape_of-work-in_err-next
shape_of-work-in_err-next c = c.read_units.auto.work

pub returns-in_err-next : goal.returns-in_err-next
returns-in_err-next c =
    rw c.from_residual-in_err-next.ensures
    (no_order (rw c.in_ok-head.was at c.read_numbers.ensures) (rw c.in_ok-p.was at c.read_term.ensures)
    (rw c.in_ok-q.was at c.read_units.ensures)
    (rw c.in_err-next.was at c.read_order.ensures))

pub shape_of-work : goal.shape_of-work
shape_of-work c = c.read_units.auto.work

pub returns : goal.returns
returns c =
    all_read (rw c.in_ok-head.was at c.read_numbers.ensures) (rw c.in_ok-p.was at c.read_term.ensures)
    (rw c.in_ok-q.was at c.read_units.ensures)
    (rw c.in_ok-next.was at c.read_order.ensures)
