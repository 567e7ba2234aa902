-- How the order of placing is tried (document 02, Change 11: "20 if a point in it breaks a rule"): the pending parts are taken off their units' stacks, the latest
-- first. Of unit v's stack as many frames are left as `tops` says; a part's EXIT is the highest one that is left, and the job that it names must be left too. That
-- this decides the rules of flat/specs/Tested is proved in proofs/Order. Assumes nothing.
use Rattle.std.specs.Prelude.{Bool, true, false, Option, Some, None, List, [], ◌∷◌, ℕ, eqb, ltb, length, get_or, set}
use Rattle.flat.specs.Machine.{Frame}
use Rattle.flat.specs.Tested.{and, or, each_below}
use Rattle.units.specs.Stacks.{base, stack_of, height_in, Store}
use Rattle.point_order.specs.declared.Held.{Held}

-- the highest EXIT of a stack, with its index
unfoldable pub highest_exit : List Frame → Option Held
highest_exit [] = None
highest_exit (Frame.job a k c ∷ fs) = highest_exit fs
highest_exit (Frame.exit w i ∷ fs) = Some (record { index = length fs; exit = record { unit = w; index = i } })
highest_exit (Frame.sleep ∷ fs) = highest_exit fs
highest_exit (Frame.bingo ∷ fs) = highest_exit fs

-- the highest EXIT that is left of unit v's stack
abbrev pub part_of : List ℕ → List ℕ → ℕ → Option Held
part_of work tops v = highest_exit (stack_of work (base v) (get_or tops v 0))

-- the tops when unit v's part with that EXIT is taken off
abbrev pub lowered : Option Held → ℕ → List ℕ → List ℕ
lowered (Some y) v tops = set tops v y.index
lowered None v tops = tops

abbrev pub without : List ℕ → List ℕ → ℕ → List ℕ
without work tops v = lowered (part_of work tops v) v tops

-- the job with index i of unit w is left; as it is of a stack of which nothing was taken off, whatever the index
abbrev pub stands : List ℕ → List ℕ → ℕ → ℕ → Bool
stands cells tops w i = or (ltb i (get_or tops w 0)) (eqb (get_or tops w 0) (height_in cells w))

-- there is an EXIT, and the job that it names is left
abbrev pub holds : List ℕ → List ℕ → Option Held → Bool
holds cells tops (Some y) = stands cells tops y.exit.unit y.exit.index
holds cells tops None = false

abbrev pub is_none : Option Held → Bool
is_none (Some y) = false
is_none None = true

-- no EXIT is left on the stacks of n units
abbrev pub none_left : List ℕ → ℕ → List ℕ → Bool
none_left work n tops = each_below (λ v. is_none (part_of work tops v)) n

-- the latest part, of unit v, of n units
abbrev pub takes : Store → ℕ → List ℕ → ℕ → Bool
takes s n tops v = and (ltb v n) (holds s.cells (without s.work tops v) (part_of s.work tops v))

-- all parts, the latest first
unfoldable pub passes : Store → ℕ → List ℕ → List ℕ → Bool
unfolding and or each_below highest_exit stack_of
passes s n tops [] = none_left s.work n tops
passes s n tops (v ∷ before) = and (takes s n tops v) (passes s n (without s.work tops v) before)
