-- What two parts compared say: the answer is whether they are equal. Assumes nothing.
use mathlib.Core.Bool.{Bool, true}
use mathlib.Core.List.{List}
use mathlib.Core.Path.{◌≡◌, refl, sym, ap, ◌∙◌}
use Prim.Native.Nat.{ℕ, ◌+◌, ◌≤◌}
use native.Mathlib.Omega.{arith}
use lib.ListN.{length, take, drop, length-take, length-drop}
use Rattle.paper.proofs.Operators.{same_equal, same_true}
use Rattle.term.specs.Promises.{Compared}

-- the answer is that both parts are equal exactly if they are
pub compared_exact : {xs : List ℕ} {a b n : ℕ} {r : Bool} → Compared xs a b n r →
    (r ≡ true → take n (drop a xs) ≡ take n (drop b xs)) × (take n (drop a xs) ≡ take n (drop b xs) → r ≡ true)
compared_exact h = (λ e. same_equal _ _ (sym h.is ∙ e), λ e. h.is ∙ same_true _ _ e)

-- equal parts are equally long
pub compared_within : {xs : List ℕ} {a b n : ℕ} → Compared xs a b n true → a + n ≤ length xs → b ≤ length xs → b + n ≤ length xs
compared_within {xs} {a} {b} {n} h l m =
    let z = ap length ((compared_exact h).0 refl) in omega (arith, simp (length-take, length-drop) at z)
