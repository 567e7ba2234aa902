-- A state that meets the rules of a saved point has the invariant. Assumes nothing.
use mathlib.Core.Path.{◌≡◌}
use Rattle.paper.specs.Tree.{preorder, Correct}
use Rattle.paper.specs.Book.{Term, Book, arity}
use Rattle.paper.specs.Machine.{Limits}
use Rattle.paper.specs.Sound.{Sound}
use Rattle.flat.specs.Machine.{FlatState}
use Rattle.flat.specs.Meets.{Meets}
use Rattle.flat.proofs.Course.{FlatInv}
use Rattle.flat.proofs.Invariant.{tabled_inv}
use Rattle.flat.proofs.Seated.{U, units_are, seats}
use Rattle.flat.proofs.Spelt.{spelt_term}
use Rattle.flat.proofs.Steps.{Settled}
use Rattle.flat.proofs.Tabled.{tabled}

pub meets_inv : (B : Book) → Sound B → Settled B → (L : Limits) (s : FlatState) → Meets B L s → FlatInv B L s
meets_inv B sound settled L s m = go (spelt_term (arity B) s.symbols m.complete)
  where
    go : (t : Term) × (s.symbols ≡ preorder t) × Correct (arity B) t → FlatInv B L s
    go (t, e, c) =
        let w = seats B sound L s m t e c in
        tabled_inv B sound settled L s m t e (U B sound L s m t e c) (units_are B sound L s m t e c) w.good
        (tabled B sound settled t (U B sound L s m t e c) s.placed w)
