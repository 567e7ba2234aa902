-- `lookup::visit` meets its contract. Assumes nothing.
use Rattle.lookup.proofs.Stacks.{top_below, top_node, visit_lost, visit_leaf, choice_small, choice_part, choice_puts, choice_puts_again, visit_choice}
use Rattle.lookup.proofs.visit.Goals as goal

pub popped-requires : goal.popped-requires
popped-requires c = let p = c.requires in top_below p.0 p.1

pub descend-requires : goal.descend-requires
descend-requires c = let p = c.requires in (p.0, top_node p.0 p.1 c.popped.ensures 0)

pub key-own-requires : goal.key-own-requires
key-own-requires c =
    let d = rw c.in-Choice.is at c.descend.ensures in
    let is = c.popped.ensures in
    let p = c.requires in
    (p.0.short, choice_small p.0 p.1 is 0 d)

pub by_part-requires : goal.by_part-requires
by_part-requires c =
    let d = rw c.in-Choice.is at c.descend.ensures in
    let is = c.popped.ensures in
    let p = c.requires in
    (choice_small p.0 p.1 is 0 d, choice_part p.0 p.1 is 0 d)

pub push-h-requires : goal.push-h-requires
push-h-requires c =
    let d = rw c.in-Choice.is at c.descend.ensures in
    let is = c.popped.ensures in
    let p = c.requires in
    choice_puts p.0 p.1 is 0 d c.key-own.ensures c.by_part.result c.by_part.ensures

pub by_symbol-requires : goal.by_symbol-requires
by_symbol-requires c =
    let d = rw c.in-Choice.is at c.descend.ensures in
    let is = c.popped.ensures in
    let p = c.requires in
    choice_small p.0 p.1 is 0 d

pub push-requires : goal.push-requires
push-requires c =
    let d = rw c.in-Choice.is at c.descend.ensures in
    let is = c.popped.ensures in
    let p = c.requires in
    choice_puts_again p.0 p.1 is 0 d c.key-own.ensures c.by_part.result c.by_part.ensures _ _ c.push-h.ensures c.by_symbol.result c.by_symbol.ensures

pub returns-in-Lost : goal.returns-in-Lost
returns-in-Lost c =
    let p = c.requires in
    visit_lost p.0 p.1 c.popped.ensures _ (rw c.in-Lost.is at c.descend.ensures)

pub returns-in-Leaf : goal.returns-in-Leaf
returns-in-Leaf c =
    let p = c.requires in
    visit_leaf p.0 p.1 c.popped.ensures _ _ (rw c.in-Leaf.is at c.descend.ensures)

pub returns-in-Choice : goal.returns-in-Choice
returns-in-Choice c =
    let d = rw c.in-Choice.is at c.descend.ensures in
    let is = c.popped.ensures in
    let p = c.requires in
    visit_choice p.0 p.1 is _ d c.key-own.ensures c.by_part.result c.by_part.ensures _ _ c.push-h.ensures c.by_symbol.result c.by_symbol.ensures _ _ c.push.ensures
