-- `net::start` meets its contract: the columns in front are filled with 0. Assumes nothing.
use mathlib.Core.Path.{◌≡◌, sym, ap, ◌∙◌}
use Prim.Native.Nat.{ℕ}
use native.Mathlib.Omega.{arith}
use lib.ListN.{length, take, replicate}
use Rattle.std.proofs.lemmas.List.{length-take-le}
use Rattle.net.proofs.Cells.{emptied}
use Rattle.net.proofs.start.Goals as goal

pub slice_bounds-fill-end-2 : goal.slice_bounds-fill-end-2
slice_bounds-fill-end-2 c = sym (length-take-le 1536 c.args.net.now (omega arith))

pub returns : goal.returns
returns c =
    let l : length (take 1536 c.args.net.now) ≡ 1536 = length-take-le 1536 c.args.net.now (omega arith) in
    emptied c.args.net.now c.fill.new.self (omega arith) (c.fill.ensures.after (λ y e. e) ∙ ap (λ (n : ℕ). replicate n 0) l)
