-- What the functions on frames, stacks and units ask and ensure. Assumes nothing.
use Rattle.std.specs.Prelude.{◌≡◌, List, ◌∷◌, map, Option, Some, None, ◌⊎◌, ℕ, suc, ◌+◌, ◌*◌, ◌-◌, ◌/◌, ◌≤◌, ◌<◌, length, get_or, drop, set as put}
use Rattle.std.proofs.Math.Option as M
use Rattle.flat.specs.Machine.{Frame, FlatUnit, flat_unit, unit, asleep, idle_count, first_idle, leave, arrive, shift_frame, shift_unit, start_units}
use Rattle.units.specs.Frames.{frame_at, InThreeBytes}
use Rattle.units.specs.Stacks.{height, base, stack_of, Offsets, rank_in, end_in, height_in, units_of, Store, store, units_in, unit_in}
use Rattle.units.specs.declared.Unit as S
use Rattle.units.specs.declared.frames.Job as J

-- FRAMES OF A WORK AREA

-- the job of a term that is to be visited
abbrev pub fresh_job : ℕ → J.Job
fresh_job a = record { offset = a; next = 0; count = 0 }

-- the bytes outside those from one place to another are as they were
pub record SameOutside (from end : ℕ) (w w' : List ℕ) : Type 0 where
  pub size : length w' ≡ length w
  pub rest : (i : ℕ) → (i < from) ⊎ (end ≤ i) → get_or w' i 0 ≡ get_or w i 0

-- the frame at a place is f, and nothing else has changed
pub record FramePut (at : ℕ) (f : Frame) (w w' : List ℕ) : Type 0 where
  pub outside : SameOutside at (at + 3) w w'
  pub frame : frame_at w' at ≡ f

-- how many frames stand from one place to another
abbrev pub frames : ℕ → ℕ → ℕ
frames from end = (end - from) / 3

-- the symbols from offset a to offset e give way to k others: the offset of each job of a stack of h frames has gone along
pub record StackShifted (from h a e k : ℕ) (w w' : List ℕ) : Type 0 where
  pub outside : SameOutside from (from + 3 * h) w w'
  pub stack : stack_of w' from h ≡ map (shift_frame a e k) (stack_of w from h)

-- UNITS

-- there are regions and cells for eight units; what always holds: each stack is whole frames of its region
pub record EightRegions (s : Store) : Type 0 where
  pub bytes : 3 * (8 * height) ≤ length s.work
  pub eight : length s.cells ≡ 8

pub record StacksFit (s : Store) : Type 0 where
  pub regions : EightRegions s
  pub most : (u : ℕ) → height_in s.cells u ≤ height
  pub placed : (u : ℕ) → u < 8 → end_in s.cells u ≡ base u + 3 * height_in s.cells u

-- the stack of unit u, one of eight, has a frame at index i; it has room for k frames more
pub record HasFrame (s : Store) (u i : ℕ) : Type 0 where
  pub fit : StacksFit s
  pub unit : u < 8
  pub index : i < height_in s.cells u

pub record HasRoom (s : Store) (u k : ℕ) : Type 0 where
  pub fit : StacksFit s
  pub unit : u < 8
  pub room : height_in s.cells u + k ≤ height

-- a cell has room for the state x; x is unit u's
pub record Small (x : S.Unit) : Type 0 where
  pub rank : x.rank < 65536
  pub end : x.end < 65536

pub record StateOf (c : List ℕ) (u : ℕ) (x : S.Unit) : Type 0 where
  pub rank : x.rank ≡ rank_in c u
  pub end : x.end ≡ end_in c u
  pub small : Small x

-- what is done to a unit
abbrev pub idled : ℕ → FlatUnit → FlatUnit
idled r x = flat_unit r x.stack

abbrev pub dropped : FlatUnit → FlatUnit
dropped x = flat_unit x.rank (drop 1 x.stack)

abbrev pub pushed : Frame → FlatUnit → FlatUnit
pushed f x = flat_unit x.rank (f ∷ x.stack)

abbrev pub topped : Frame → FlatUnit → FlatUnit
topped f x = flat_unit x.rank (f ∷ drop 1 x.stack)

-- the units, of which unit u has become another
abbrev pub at : ℕ → (FlatUnit → FlatUnit) → List FlatUnit → List FlatUnit
at u g us = put us u (g (unit us u))

-- g has been done to unit u, and nothing else has changed
pub record Changed (u : ℕ) (g : FlatUnit → FlatUnit) (s s' : Store) : Type 0 where
  pub fit : StacksFit s'
  pub units : (n : ℕ) → units_in s' n ≡ at u g (units_in s n)

-- the same, of the cells alone
pub record CellChanged (u : ℕ) (g : FlatUnit → FlatUnit) (c c' : List ℕ) : Type 0 where
  pub change : (w : List ℕ) → StacksFit (store w c) → Changed u g (store w c) (store w c')

-- unit u, of n, has become idle: it has joined the idle queue at the end
pub record CellIdled (n u : ℕ) (c c' : List ℕ) : Type 0 where
  pub change : (w : List ℕ) → StacksFit (store w c) → Changed u (idled (suc (idle_count (units_of w c n)))) (store w c) (store w c')

-- the unit of rank r has left the idle queue, and no stack has changed; the same, of the cells alone
pub record Left (r : ℕ) (s s' : Store) : Type 0 where
  pub fit : StacksFit s'
  pub units : (n : ℕ) → units_in s' n ≡ leave r (units_in s n)

pub record CellsLeft (r : ℕ) (c c' : List ℕ) : Type 0 where
  pub change : (w : List ℕ) → StacksFit (store w c) → Left r (store w c) (store w c')

-- an EXIT has arrived at the job with stack index i of unit v
pub record Arrived (v i : ℕ) (s s' : Store) : Type 0 where
  pub fit : StacksFit s'
  pub units : (n : ℕ) → v < n → units_in s' n ≡ arrive v i (units_in s n)

-- the top frame of unit u's stack is f
pub record TopIs (u : ℕ) (f : Frame) (s : Store) : Type 0 where
  pub stack : (n : ℕ) → u < n → (unit (units_in s n) u).stack ≡ f ∷ drop 1 (unit (units_in s n) u).stack
  pub fits : InThreeBytes f

-- an answer of the search for an idle unit, as the machine on lists has it, and that it is one of the n
abbrev pub answer : Option ℕ → M.Option ℕ
answer (Some u) = M.some u
answer None = M.none

abbrev pub OneOf : ℕ → Option ℕ → Type 0
OneOf n (Some u) = u < n
OneOf n None = Unit {0}

pub record FirstIdle (c : List ℕ) (n : ℕ) (r : Option ℕ) : Type 0 where
  pub units : (w : List ℕ) → first_idle (units_of w c n) ≡ answer r
  pub one : OneOf n r

-- how many of n units are idle
pub record IdleCount (c : List ℕ) (n r : ℕ) : Type 0 where
  pub units : (w : List ℕ) → idle_count (units_of w c n) ≡ r
  pub few : r ≤ n

-- The symbols from offset a to offset e give way to k others: the offsets of the jobs of n units go along, and ten bits hold the new ones.
pub record Shiftable (n a e k : ℕ) (s : Store) : Type 0 where
  pub fit : StacksFit s
  pub few : n ≤ 8
  pub offsets : (u : ℕ) → u < n → Offsets 1024 (map (shift_frame a e k) (unit_in s u).stack)

pub record UnitsShifted (n a e k : ℕ) (s s' : Store) : Type 0 where
  pub fit : StacksFit s'
  pub units : units_in s' n ≡ map (shift_unit a e k) (units_in s n)

-- units 0 to u - 1 have SLEEP alone, and their number as rank
pub record AsleepBelow (u : ℕ) (s : Store) : Type 0 where
  pub regions : EightRegions s
  pub ends : (v : ℕ) → v < u → end_in s.cells v ≡ base v + 3
  pub units : (v : ℕ) → v < u → unit_in s v ≡ asleep v

-- the units of the machine's start, however many they are
pub record Started (s : Store) : Type 0 where
  pub fit : StacksFit s
  pub units : (n : ℕ) → 1 ≤ n → n ≤ 8 → units_in s n ≡ start_units n
