-- `apart::find` meets its contract: left sides are apart where their cells are parted. Assumes nothing.
use Rattle.apart.proofs.Books.{built_cells, built_rows}
use Rattle.apart.proofs.find.Goals as goal

pub find_rows-requires : goal.find_rows-requires
find_rows-requires c =
    let p = c.requires in
    built_cells p.0.tables c.build.ensures p.2

pub returns : goal.returns
returns c =
    let p = c.requires in
    built_rows p.0.tables c.build.ensures p.2 c.find_rows.ensures
