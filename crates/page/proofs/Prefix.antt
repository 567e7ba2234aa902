-- A line compared with the front of some bytes, byte by byte. Assumes nothing.
use mathlib.Core.Bool.{Bool, true, false, ◌&&◌}
use mathlib.Core.List.{List, [], ◌∷◌, ◌++◌}
use mathlib.Core.Path.{◌≡◌, refl}
use Prim.Native.Nat.{ℕ}
use borrow.Author.Tests.{eq-eqb}
use lib.Dec.{eqb}
use lib.ListN.{length, take}
use lib.Pointwise.{pointwise}
use Rattle.page.specs.Spec.{begins}

-- as the library compares them
pub begins_is : (xs bs : List ℕ) → pointwise eqb xs (take (length xs) bs) ≡ begins xs bs
unfolding begins
begins_is [] bs = refl
begins_is (x ∷ xs) [] = refl
begins_is (x ∷ xs) (b ∷ bs) = go (eqb x b) (begins_is xs bs)
  where
    go : (t : Bool) → pointwise eqb xs (take (length xs) bs) ≡ begins xs bs →
        t && pointwise eqb xs (take (length xs) bs) ≡ (elim t [ true ↦ begins xs bs | false ↦ false ])
    go true e = e
    go false e = refl

-- what is written first is what the bytes begin with
pub begins_front : (xs bs : List ℕ) → begins xs (xs ++ bs) ≡ true
unfolding begins
begins_front [] bs = refl
begins_front (x ∷ xs) bs = rw (eq-eqb x x refl, begins) (begins_front xs bs)
