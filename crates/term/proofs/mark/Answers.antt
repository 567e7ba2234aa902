-- `term::mark` meets its contract. Assumes nothing.
use mathlib.Core.Bool.{true}
use mathlib.Core.List.{List}
use mathlib.Core.Path.{◌≡◌, ap, ◌∙◌}
use Prim.Native.Nat.{ℕ}
use lib.ListN.{get_or, set, length-set}
use lib.Seq.{map-set_same}
use Rattle.symbol.specs.Record.{operator, marked, size, marks}
use Rattle.symbol.proofs.Record.{map_set}
use Rattle.term.specs.Promises.{MarkedAt}
use Rattle.term.proofs.mark.Goals as goal

-- the record x, with the operator and the size of the one at offset at, and a mark, is put in its place
put : (symbols : List ℕ) (at x : ℕ) → (operator x ≡ operator (get_or symbols at 0)) × (size x ≡ size (get_or symbols at 0)) × (marked x ≡ true) →
    MarkedAt at symbols (set symbols at x)
put symbols at x (o, z, m) =
    record {
      operators_are = map-set_same operator symbols at x 0 o;
      marks_are = map_set marked symbols at x ∙ ap (set (marks symbols) at) m;
      sizes_are = map-set_same size symbols at x 0 z;
      long = length-set symbols at x;
    }

pub returns : goal.returns
returns c = put _ _ _ c.mark.ensures
