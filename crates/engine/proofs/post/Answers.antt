-- `engine::post` meets its contract. Assumes nothing.
use mathlib.Core.Path.{refl}
use Rattle.engine.proofs.post.Goals as goal

pub post_into-requires : goal.post_into-requires
post_into-requires c =
    let p = c.requires in
    record {
      opened = p.opened;
      given = p.given;
      asked = p.asked;
      lent = record { symbols_long = p.symbols_len.0; scratch_long = p.symbols_len.1; cells_long = refl; order_long = refl };
    }

pub returns : goal.returns
returns c = let e = c.post_into.ensures in record { posted = e.posted; scratch_long = e.ran.arrays.scratch_long }
