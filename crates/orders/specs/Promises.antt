-- What the orders of a unit ask and do, on the units as they are kept, by the machine on lists: ss are the steps of the term's operator, as the table
-- has them, x is the job on top of unit u's stack, and s the work area with the cells, before and after. Assumes nothing.
use Rattle.std.specs.Prelude.{◌≡◌, Bool, true, false, List, [], ◌∷◌, ◌≢◌, ℕ, zero, suc, ◌+◌, ◌-◌, ◌≤◌, ◌<◌, pred, length, get_or, drop}
use Rattle.std.specs.Prelude.{Option as Answer}
use Rattle.std.proofs.Math.Option.{Option, none, some}
use Rattle.paper.specs.Strategy.{Step}
use Rattle.paper.specs.Marks.{unless_marked}
use Rattle.flat.specs.Symbols.{argument}
use Rattle.flat.specs.Machine.{Frame, FlatUnit, flat_unit, next_count, proceed, idle_count, first_idle, leave, arrive}
use Rattle.tables.specs.Layout.{arity_in, steps_in, Rowed}
use Rattle.term.specs.Present.{length_in, operators_in, Sized}
use Rattle.units.specs.Stacks.{height, height_in, Store, units_in, unit_in}
use Rattle.units.specs.Promises.{StacksFit, HasFrame, dropped, idled, at, Changed, answer}
use Rattle.units.specs.declared.frames.Job.{Job}
use Rattle.units.specs.declared.frames.Exit.{Exit}

-- STEPS

-- whether there is a step
abbrev pub is_some : List Step → Bool
is_some [] = false
is_some (s ∷ ss) = true

-- the steps that VISIT of the term at offset a gives, of the symbols xs with the marks ms: none if it is marked
abbrev pub to_do_in : List ℕ → List ℕ → List Bool → ℕ → List Step
to_do_in operators xs ms a = unless_marked (get_or ms a false) (steps_in operators (get_or xs a 0))

-- r is the count of the next JOIN of the steps left
pub record Counted (ss : List Step) (r : ℕ) : Type 0 where
  pub is : r ≡ next_count ss
  pub few : r < 8

-- ARGUMENTS

-- an argument: its offset, and the steps of its operator
pub record Argument : Type 0 where
  pub offset : ℕ
  pub steps : List Step

-- the argument at offset b, of operator p
abbrev pub argument_at : List ℕ → ℕ → ℕ → Argument
argument_at operators b p = record { offset = b; steps = steps_in operators p }

-- argument i of the job's term, of the symbols xs
abbrev pub argument_of : List ℕ → List ℕ → Job → ℕ → Argument
argument_of operators xs x i = let b = argument (arity_in operators) xs x.offset i in argument_at operators b (get_or xs b 0)

-- the same with the steps that its VISIT gives, ms being the marks
abbrev pub visit_of : List ℕ → List ℕ → List Bool → Job → ℕ → Argument
visit_of operators xs ms x i = let b = argument (arity_in operators) xs x.offset i in record { offset = b; steps = to_do_in operators xs ms b }

-- the job's term has such an argument, in a term with true sizes
pub record ArgumentInside (operators symbols : List ℕ) (x : Job) (i : ℕ) : Type 0 where
  pub sized : Sized (arity_in operators) symbols
  pub offset : x.offset < length_in symbols
  pub few : i < arity_in operators (get_or (operators_in symbols) x.offset 0)

-- and its operator has a row
pub record ArgumentRowed (operators symbols : List ℕ) (x : Job) (i : ℕ) : Type 0 where
  pub place : ArgumentInside operators symbols x i
  pub rowed : Rowed operators (get_or (operators_in symbols) (argument_of operators (operators_in symbols) x i).offset 0)

-- ONE STACK

-- unit u's stack has been changed by f, and its rank is as it was; there is room for what f makes of it
abbrev pub restack : (List Frame → List Frame) → FlatUnit → FlatUnit
restack f y = flat_unit y.rank (f y.stack)

abbrev pub Restacked : (List Frame → List Frame) → ℕ → Store → Store → Type 0
Restacked f u s s' = Changed u (restack f) s s'

abbrev pub RoomFor : (List Frame → List Frame) → ℕ → Store → Type 0
RoomFor f u s = length (f (unit_in s u).stack) ≤ height

-- the job on top goes on with the order behind its next, with count c
abbrev pub advances : Job → ℕ → List Frame → List Frame
advances x c fs = Frame.job x.offset (suc x.next) c ∷ drop 1 fs

-- the same by the steps: with none left, it goes
abbrev pub goes_on : List Step → Job → ℕ → List Frame → List Frame
goes_on ss x c fs = proceed x.offset (suc x.next) c (drop x.next ss) (drop 1 fs)

-- a job's numbers, with the order behind its next, are kept in three bytes; there is a frame that it takes the place of
pub record CanProceed (x : Job) (u : ℕ) (s : Store) : Type 0 where
  pub top : HasFrame s u 0
  pub offset : x.offset < 1024
  pub next : x.next ≤ 15
  pub count : x.count < 64

pub record Advanced (x : Job) (u : ℕ) (s s' : Store) : Type 0 where
  pub change : Restacked (advances x x.count) u s s'

pub record Proceeded (ss : List Step) (x : Job) (u : ℕ) (s s' : Store) : Type 0 where
  pub change : Restacked (goes_on ss x x.count) u s s'

-- the orders of the term at offset a are put: over the stack; in place of the top job (VISIT)
abbrev pub enters : List Step → ℕ → List Frame → List Frame
enters ss a fs = proceed a 1 (next_count ss) ss fs

pub record CanEnter (ss : List Step) (a u : ℕ) (s : Store) : Type 0 where
  pub fit : StacksFit s
  pub unit : u < 8
  pub offset : a < 1024
  pub room : RoomFor (enters ss a) u s

pub record Entered (ss : List Step) (a u : ℕ) (s s' : Store) : Type 0 where
  pub change : Restacked (enters ss a) u s s'

pub record Visited (ss : List Step) (a u : ℕ) (s s' : Store) : Type 0 where
  pub change : Restacked (λ (fs : List Frame). enters ss a (drop 1 fs)) u s s'

-- VISIT of the argument p
abbrev pub visits : Job → Argument → List Frame → List Frame
visits x p fs = enters p.steps p.offset (advances x x.count fs)

pub record CanVisit (x : Job) (p : Argument) (u : ℕ) (s : Store) : Type 0 where
  pub job : CanProceed x u s
  pub room : RoomFor (visits x p) u s

pub record ArgumentVisited (x : Job) (p : Argument) (u : ℕ) (s s' : Store) : Type 0 where
  pub change : Restacked (visits x p) u s s'

-- FORK of the term at offset b that is kept
abbrev pub keeps : Job → ℕ → List Frame → List Frame
keeps x b fs = Frame.job b 0 0 ∷ advances x (pred x.count) fs

pub record CanKeep (x : Job) (b u : ℕ) (s : Store) : Type 0 where
  pub job : CanProceed x u s
  pub offset : b < 1024
  pub room : RoomFor (keeps x b) u s

pub record ArgumentKept (x : Job) (b u : ℕ) (s s' : Store) : Type 0 where
  pub change : Restacked (keeps x b) u s s'

-- UNITS

-- JOIN by its count c; r is the rank of a unit that becomes idle, behind all that are of n
abbrev pub joins : List Step → Job → ℕ → ℕ → FlatUnit → FlatUnit
joins ss x r zero = restack (advances x (next_count (drop x.next ss)))
joins ss x r (suc c) = idled r

pub record Joined (ss : List Step) (x : Job) (n u : ℕ) (s s' : Store) : Type 0 where
  pub change : Changed u (joins ss x (suc (idle_count (units_in s n))) x.count) s s'

-- EXIT: the top frame goes, and it arrives at its JOIN's unit, which is another and has a frame with the index
pub record CanExit (x : Exit) (u : ℕ) (s : Store) : Type 0 where
  pub top : HasFrame s u 0
  pub join : HasFrame s x.unit x.index
  pub other : x.unit ≢ u

pub record Exited (x : Exit) (u : ℕ) (s s' : Store) : Type 0 where
  pub fit : StacksFit s'
  pub units : (n : ℕ) → x.unit < n → units_in s' n ≡ arrive x.unit x.index (at u dropped (units_in s n))

-- FORK of the term at offset b that unit v gets, over an EXIT for the job at index i of unit u: it leaves the idle queue, whose first it is
abbrev pub given : ℕ → ℕ → ℕ → FlatUnit → FlatUnit
given u i b = restack (λ (fs : List Frame). Frame.job b 0 0 ∷ Frame.exit u i ∷ fs)

pub record Given (v u i b : ℕ) (s s' : Store) : Type 0 where
  pub fit : StacksFit s'
  pub units : (n : ℕ) → units_in s' n ≡ leave 1 (at v (given u i b) (units_in s n))

-- by the answer of the search for an idle unit; h is the height of unit u's stack
abbrev pub forks : Job → ℕ → ℕ → ℕ → List FlatUnit → Option ℕ → List FlatUnit
forks x b u h us none = at u (restack (keeps x b)) us
forks x b u h us (some v) = leave 1 (at v (given u (h - 1) b) (at u (restack (advances x x.count)) us))

-- unit v is another, and has room for two frames
pub record CanGrant (x : Job) (b v u : ℕ) (s : Store) : Type 0 where
  pub job : CanProceed x u s
  pub offset : b < 1024
  pub idle_unit : v < 8
  pub other : v ≢ u
  pub room : height_in s.cells v + 2 ≤ height

pub record Granted (x : Job) (b v u : ℕ) (s s' : Store) : Type 0 where
  pub fit : StacksFit s'
  pub units : (n : ℕ) → units_in s' n ≡ forks x b u (height_in s.cells u) (units_in s n) (some v)

-- there is room on unit u's stack if no unit of n is idle, and for two frames on the idle unit's, which is another; the answer is the unit that got the term
pub record CanFork (x : Job) (b n u : ℕ) (s : Store) : Type 0 where
  pub job : CanProceed x u s
  pub offset : b < 1024
  pub few : n ≤ 8
  pub keep : first_idle (units_in s n) ≡ none → RoomFor (keeps x b) u s
  pub grant : (v : ℕ) → first_idle (units_in s n) ≡ some v → (v ≢ u) × (height_in s.cells v + 2 ≤ height)

pub record Forked (x : Job) (b n u : ℕ) (s s' : Store) (r : Answer ℕ) : Type 0 where
  pub fit : StacksFit s'
  pub units : units_in s' n ≡ forks x b u (height_in s.cells u) (units_in s n) (first_idle (units_in s n))
  pub found : first_idle (units_in s n) ≡ answer r
