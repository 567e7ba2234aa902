-- The code's table is the definition's, by one test over the whole table; then at each byte. Assumes nothing.
use mathlib.Core.List.{List, map}
use mathlib.Core.Path.{◌≡◌, ap, ◌∙◌}
use Prim.Native.Nat.{ℕ, zero, suc, ◌+◌, ◌<◌}
use native.Mathlib.Omega.{arith}
use lib.ListN.{get_or, get_or-map}
use Rattle.paper.specs.Text.{class}
use Rattle.paper.proofs.Classes.{from}
use Rattle.text.specs.Promises.{Classed}

get_or_from : (b n k : ℕ) → k < n → get_or (from b n) k 0 ≡ b + k
get_or_from b zero k h = absurd (omega arith)
get_or_from b (suc n) zero h = omega arith
get_or_from b (suc n) (suc k) h = get_or_from (suc b) n k (omega arith) ∙ omega arith

class_in : (b : ℕ) → get_or (map class (from 0 256)) b 0 ≡ class (get_or (from 0 256) b 0)
unfolding class
class_in b = get_or-map class (from 0 256) b 0

pub classed : (classes : List ℕ) → classes ≡ map class (from 0 256) → Classed classes
classed classes e = record { at = λ b h. ap (λ (l : List ℕ). get_or l b 0) e ∙ class_in b ∙ ap class (get_or_from 0 256 b h ∙ omega arith) }
