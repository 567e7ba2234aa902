-- What loading a saved run from its fields ensures (document 02, Change 11): the run that the fields are stands in the arrays, or the fields are no run that can
-- keep the rules. Assumes nothing.
use Rattle.std.specs.Prelude.{true, List, Option, Some, None, ◌≡◌, ℕ, ◌^◌, ◌≤◌, ◌<◌, length}
use Rattle.paper.specs.Result.{Result, accepted, Read, return}
use Rattle.paper.specs.Sound.{All}
use Rattle.flat.specs.Machine.{FlatUnit}
use Rattle.flat.specs.Rules.{spells}
use Rattle.flat.specs.Form.{Saved, read_saved}
use Rattle.units.specs.Stacks.{height}
use Rattle.point.specs.Saved.{Arrays, saved, Standing}
use Rattle.side.specs.Promises.{bits_at}
use Rattle.point.specs.declared.Numbers.{Numbers}
use Rattle.point_reader.specs.declared.Taken.{Taken}

-- what is read, if anything is, doesn't have P
abbrev pub Lacks : {A : Type 0} → (A → Type 0) → Result (Read A) → Type 0
Lacks {A} P x = (r : Read A) → x ≡ accepted r → P r.value → ⊥

-- a unit's stack has room in its region
abbrev pub Low : FlatUnit → Type 0
Low x = length x.stack ≤ height

-- what arrays and numbers hold: one term of the first n operators, stacks that fit their regions, rewrites in 32 bits; every point that keeps the rules of a book
-- with these operators is such a run
pub record Loadable (arity : ℕ → ℕ) (n : ℕ) (S : Saved) : Type 0 where
  pub complete : spells arity 1 S.parked.state.symbols ≡ true
  pub known : All (λ o. o < n) S.parked.state.symbols
  pub low : All Low S.parked.state.units
  pub few_rewrites : S.parked.state.rewrites < 2 ^ 32

abbrev pub LoadedIs : (ℕ → ℕ) → ℕ → List ℕ → ℕ → Arrays → Option (Taken Numbers) → Type 0
LoadedIs arity n bytes at a (Some t) =
    (read_saved arity (bits_at bytes at) ≡ return (saved t.value a) (bits_at bytes t.next)) × Standing arity n t.value a
LoadedIs arity n bytes at a None = Lacks (Loadable arity n) (read_saved arity (bits_at bytes at))

-- r answers for the fields at bit position at, by the arities of n operators; a is in the arrays
pub record LoadedAt (arity : ℕ → ℕ) (n : ℕ) (bytes : List ℕ) (at : ℕ) (a : Arrays) (r : Option (Taken Numbers)) : Type 0 where
  pub is : LoadedIs arity n bytes at a r
