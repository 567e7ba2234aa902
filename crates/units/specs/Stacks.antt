-- The units of the machine on lists, as they are kept (document 01, 'Orders of a unit'): a work area with their stacks, each in a region of its own, and
-- a cell for each unit, which is the place where its frames end and 65,536 times its rank; rank 0 is busy, above 0 the place in the idle queue.
-- Assumes nothing.
use Rattle.std.specs.Prelude.{Bool, List, [], ◌∷◌, ℕ, zero, suc, ◌+◌, ◌*◌, ◌-◌, ◌/◌, ◌%◌, ◌<◌, ltb, get_or}
use Rattle.paper.specs.Sound.{All}
use Rattle.flat.specs.Machine.{Frame, FlatUnit, flat_unit}
use Rattle.units.specs.Frames.{frame_at}

-- how many frames a unit's region has, and where unit u's starts
abbrev pub height : ℕ
height = 1026

abbrev pub base : ℕ → ℕ
base u = 3 * (u * height)

-- the stack of the h frames from a place on, the last one on top
unfoldable pub stack_of : List ℕ → ℕ → ℕ → List Frame
stack_of w from zero = []
stack_of w from (suc h) = frame_at w (from + 3 * h) ∷ stack_of w from h

-- a job's offset is below m
abbrev pub Below : ℕ → Frame → Type 0
Below m (Frame.job a k c) = a < m
Below m (Frame.exit v i) = Unit {0}
Below m Frame.sleep = Unit {0}
Below m Frame.bingo = Unit {0}

abbrev pub Offsets : ℕ → List Frame → Type 0
Offsets m fs = All (Below m) fs

-- the cell of a unit with a rank, whose frames end at a place
abbrev pub cell : ℕ → ℕ → ℕ
cell rank end = rank * 65536 + end

-- unit u's rank, whether it is busy, where its frames end, and how many they are
abbrev pub rank_in : List ℕ → ℕ → ℕ
rank_in c u = get_or c u 0 / 65536

abbrev pub busy_in : List ℕ → ℕ → Bool
busy_in c u = ltb (get_or c u 0) 65536

abbrev pub end_in : List ℕ → ℕ → ℕ
end_in c u = get_or c u 0 % 65536

abbrev pub height_in : List ℕ → ℕ → ℕ
height_in c u = end_in c u / 3 - u * height

-- unit u of the work area w and the cells c
abbrev pub unit_of : List ℕ → List ℕ → ℕ → FlatUnit
unit_of w c u = flat_unit (rank_in c u) (stack_of w (base u) (height_in c u))

-- the m units from u up; the first n units
unfoldable pub units_from : List ℕ → List ℕ → ℕ → ℕ → List FlatUnit
units_from w c u zero = []
units_from w c u (suc m) = unit_of w c u ∷ units_from w c (suc u) m

abbrev pub units_of : List ℕ → List ℕ → ℕ → List FlatUnit
units_of w c n = units_from w c 0 n

-- the work area and the cells as one value
pub record Store : Type 0 where
  pub work : List ℕ
  pub cells : List ℕ

abbrev pub store : List ℕ → List ℕ → Store
store w c = record { work = w; cells = c }

-- the first n units, and unit u
abbrev pub units_in : Store → ℕ → List FlatUnit
units_in s n = units_of s.work s.cells n

abbrev pub unit_in : Store → ℕ → FlatUnit
unit_in s u = unit_of s.work s.cells u
