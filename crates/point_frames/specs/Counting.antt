-- Jobs counted by their offsets, EXITs by the frames that they name: the EXITs for index i of unit v's stack stand at v * 1,026 + i. Assumes nothing.
use Rattle.std.specs.Prelude.{List, ◌≡◌, ℕ, ◌+◌, ◌*◌, ◌/◌, ◌≤◌, ◌<◌, length, get_or}
use Rattle.flat.specs.Machine.{Frame, unit}
use Rattle.flat.specs.Rules.{nth_frame, exits_to, jobs_at, upto}
use Rattle.units.specs.Stacks.{height, end_in, height_in, Store, units_in}
use Rattle.units.specs.Promises.{StacksFit}

-- n of the units, eight at most; the same, of the cells alone
pub record Kept (k : Store) (n : ℕ) : Type 0 where
  pub fit : StacksFit k
  pub few : n ≤ 8

pub record Heights (cells : List ℕ) (n : ℕ) : Type 0 where
  pub few : n ≤ 8
  pub most : (v : ℕ) → height_in cells v ≤ height
  pub least : (v : ℕ) → v < 8 → v * height ≤ end_in cells v / 3

-- the stack of unit v, of n, and the frame at index i; a number that is no unit's is as that of a unit asleep
abbrev pub stack_in : Store → ℕ → ℕ → List Frame
stack_in k n v = (unit (units_in k n) v).stack

abbrev pub frame_in : Store → ℕ → ℕ → ℕ → Frame
frame_in k n v i = nth_frame i (stack_in k n v)

-- where the EXITs for index i of unit v's stack are counted
abbrev pub place : ℕ → ℕ → ℕ
place v i = v * height + i

-- the jobs and EXITs of some frames, and of all n units
abbrev pub jobs_of : List Frame → ℕ → ℕ
jobs_of fs x = jobs_at x fs

abbrev pub exits_of : List Frame → ℕ → ℕ → ℕ
exits_of fs v i = exits_to v i fs

abbrev pub all_jobs : Store → ℕ → ℕ → ℕ
all_jobs k n x = upto (λ v. jobs_at x (stack_in k n v)) n

abbrev pub all_exits : Store → ℕ → ℕ → ℕ → ℕ
all_exits k n v i = upto (λ w. exits_to v i (stack_in k n w)) n

-- There is room for f x jobs more at each offset x; so many are counted more. For g v i EXITs more at each frame; so many are counted more.
pub record JobsRoom (f : ℕ → ℕ) (jobs : List ℕ) : Type 0 where
  pub long : length jobs ≡ 1024
  pub room : (x : ℕ) → x < 1024 → get_or jobs x 0 + f x < 65536

pub record JobsAdded (f : ℕ → ℕ) (jobs jobs' : List ℕ) : Type 0 where
  pub long : length jobs' ≡ 1024
  pub is : (x : ℕ) → x < 1024 → get_or jobs' x 0 ≡ get_or jobs x 0 + f x

pub record ExitsRoom (cells : List ℕ) (n : ℕ) (g : ℕ → ℕ → ℕ) (exits : List ℕ) : Type 0 where
  pub long : length exits ≡ 8208
  pub room : (v i : ℕ) → v < n → i < height_in cells v → get_or exits (place v i) 0 + g v i < 65536

pub record ExitsAdded (cells : List ℕ) (n : ℕ) (g : ℕ → ℕ → ℕ) (exits exits' : List ℕ) : Type 0 where
  pub long : length exits' ≡ 8208
  pub is : (v i : ℕ) → v < n → i < height_in cells v → get_or exits' (place v i) 0 ≡ get_or exits (place v i) 0 + g v i

-- the jobs at each offset, the EXITs for each frame
pub record JobsTallied (k : Store) (n : ℕ) (jobs : List ℕ) : Type 0 where
  pub long : length jobs ≡ 1024
  pub is : (x : ℕ) → x < 1024 → get_or jobs x 0 ≡ all_jobs k n x

pub record ExitsTallied (k : Store) (n : ℕ) (exits : List ℕ) : Type 0 where
  pub long : length exits ≡ 8208
  pub is : (v i : ℕ) → v < n → i < height_in k.cells v → get_or exits (place v i) 0 ≡ all_exits k n v i
