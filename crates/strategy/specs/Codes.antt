-- From the numbers of a settled list to the codes of its steps, one number after another. Assumes nothing.
use Rattle.std.specs.Prelude.{Option, Some, None, Bool, true, false, List, [], ◌∷◌, ◌++◌, ℕ, zero, suc, ◌+◌, ◌-◌, eqb, ltb, get_or}
use Rattle.paper.specs.Result.{if}
use Rattle.paper.specs.Strategy.{Step}
use Rattle.tables.specs.Layout.{code}
use Rattle.strategy.specs.declared.Placed.{Placed}

abbrev pub placed : Option ℕ → Bool → ℕ → Placed
placed c grouped forks = record { code = c; grouped = grouped; forks = forks }

-- the number v, where `next` follows and a group is open or not, with its FORKs so far: the code, if there is one, and the group behind it
unfoldable pub placing : ℕ → ℕ → Bool → ℕ → Placed
unfolding code
placing v next grouped forks =
    if (eqb v 0) (placed (Some (code Step.whole)) grouped forks)
    (if (ltb v 8)
    (if (if grouped (eqb next 9) true) (placed (Some (code (Step.visit (v - 1)))) grouped forks) (placed (Some (code (Step.fork (v - 1)))) grouped (forks + 1)))
    (if (eqb v 8) (placed None true 0) (placed (Some (code (Step.join forks))) false 0)))

-- a code as a list
abbrev pub listed : Option ℕ → List ℕ
listed None = []
listed (Some c) = c ∷ []

-- the codes of the first n numbers
unfoldable pub codes : Bool → ℕ → ℕ → List ℕ → List ℕ
unfolding placing
codes grouped forks zero vs = []
codes grouped forks (suc n) [] = []
codes grouped forks (suc n) (v ∷ vs) = let p = placing v (get_or vs 0 0) grouped forks in listed p.code ++ codes p.grouped p.forks n vs
