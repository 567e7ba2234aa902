-- What the functions ask and ensure: tests of flat/specs/Tested, for every state and book that the arrays are of. Assumes nothing.
use Rattle.std.specs.Prelude.{Option, Some, None, Bool, true, List, [], ◌∷◌, ◌≡◌, ℕ, suc, ◌≤◌, ◌<◌, eqb, ltb, length, get_or}
use Rattle.paper.specs.Book.{Book, steps}
use Rattle.paper.specs.Idle.{times}
use Rattle.flat.specs.Machine.{Frame, FlatState, idle_count}
use Rattle.flat.specs.Rules.{exits_in, of_rank, stack}
use Rattle.flat.specs.Tested.{and, each_below, each_of, order_good, waits, rank_good}
use Rattle.tables.specs.Layout.{steps_in, Rowed}
use Rattle.term.specs.Present.{length_in, operators_in}
use Rattle.units.specs.Stacks.{height, height_in, units_of, Store, units_in, unit_in}
use Rattle.units.specs.declared.frames.Job.{Job}
use Rattle.placing.specs.Order.{placed_in}
use Rattle.point_order.specs.Passing.{without, takes}
use Rattle.point_order.specs.declared.Held.{Held}

-- THE ORDER OF PLACING

-- how many frames of each stack are left: no more than a region has
pub record TopsFit (tops : List ℕ) : Type 0 where
  pub eight : length tops ≡ 8
  pub within : (u : ℕ) → get_or tops u 0 ≤ height

-- all frames
pub record HeightsOf (c tops : List ℕ) : Type 0 where
  pub eight : length tops ≡ 8
  pub are : (u : ℕ) → u < 8 → get_or tops u 0 ≡ height_in c u

-- an EXIT that was found of h frames: its index is below h, its unit one of eight
abbrev pub FoundBelow : ℕ → Option Held → Type 0
FoundBelow h (Some y) = (y.index < h) × (y.exit.unit < 8)
FoundBelow h None = Unit {0}

-- the latest part, of unit v, of n units, was taken off: r says whether it may be, and if so, what is left
pub record PartTaken (s : Store) (n v : ℕ) (tops tops' : List ℕ) (r : Bool) : Type 0 where
  pub is : r ≡ takes s n tops v
  pub left : r ≡ true → tops' ≡ without s.work tops v
  pub fit : TopsFit tops'

-- each pending part is one of the n units', each unit stands in the order as often as EXITs are on its stack, each part is later than the one that forked it
pub record OrderDecided (s : Store) (n : ℕ) (order : List ℕ) (r : Bool) : Type 0 where
  pub is : (B : Book) (z : FlatState) → z.units ≡ units_in s n → z.placed ≡ placed_in order →
      r ≡ and (each_of (λ v. ltb v n) z.placed)
      (and (each_below (λ v. eqb (exits_in (stack z v)) (times v z.placed)) n) (order_good B z [] z.placed))

-- THE IDLE QUEUE

-- r of n units have the rank k
pub record RankCounted (c : List ℕ) (n k r : ℕ) : Type 0 where
  pub units : (w : List ℕ) → of_rank k (units_of w c n) ≡ r
  pub few : r ≤ n

-- r says whether each of the ranks from 1 to k is that of one of n units
pub record EachOnce (c : List ℕ) (n k : ℕ) (r : Bool) : Type 0 where
  pub is : (w : List ℕ) → r ≡ each_below (λ i. eqb (of_rank (suc i) (units_of w c n)) 1) k

-- every symbol is one of the table's operators, and so is what stands for a symbol behind the last
pub record Readable (operators symbols : List ℕ) : Type 0 where
  pub long : length symbols ≡ 1024
  pub most : length_in symbols ≤ 1024
  pub rowed : (a : ℕ) → Rowed operators (get_or (operators_in symbols) a 0)

-- the symbols of the state z and their steps by the book B are those of the arrays; and the units are
pub record Told (operators symbols : List ℕ) (B : Book) (z : FlatState) : Type 0 where
  pub symbols_are : z.symbols ≡ operators_in symbols
  pub steps_are : (a : ℕ) → steps B (get_or (operators_in symbols) a 0) ≡ steps_in operators (get_or (operators_in symbols) a 0)

pub record Kept (operators symbols : List ℕ) (s : Store) (n : ℕ) (B : Book) (z : FlatState) : Type 0 where
  pub told : Told operators symbols B z
  pub units_are : z.units ≡ units_in s n

-- the job may be on top of an idle unit's stack; so may what is on top of unit u's
pub record JobWaits (operators symbols : List ℕ) (x : Job) (r : Bool) : Type 0 where
  pub is : (B : Book) (z : FlatState) → Told operators symbols B z → (fs : List Frame) → r ≡ waits B z (Frame.job x.offset x.next x.count ∷ fs)

pub record UnitWaits (operators symbols : List ℕ) (s : Store) (u : ℕ) (r : Bool) : Type 0 where
  pub is : (B : Book) (z : FlatState) → Told operators symbols B z → r ≡ waits B z (unit_in s u).stack

-- so many of n units are idle
pub record IdleAre (c : List ℕ) (n k : ℕ) : Type 0 where
  pub units : (w : List ℕ) → idle_count (units_of w c n) ≡ k

-- unit u of n, k of them being idle
pub record RankDecided (operators symbols : List ℕ) (s : Store) (n u : ℕ) (r : Bool) : Type 0 where
  pub is : (B : Book) (z : FlatState) → Kept operators symbols s n B z → r ≡ rank_good B z u

-- each of the n units
pub record EachRankDecided (operators symbols : List ℕ) (s : Store) (n : ℕ) (r : Bool) : Type 0 where
  pub is : (B : Book) (z : FlatState) → Kept operators symbols s n B z → r ≡ each_below (rank_good B z) n

-- the ranks of the idle units are 1 up to how many they are, each once, and only a unit that waits is idle
pub record RanksDecided (operators symbols : List ℕ) (s : Store) (n : ℕ) (r : Bool) : Type 0 where
  pub is : (B : Book) (z : FlatState) → Kept operators symbols s n B z →
      r ≡ and (each_below (rank_good B z) n) (each_below (λ i. eqb (of_rank (suc i) z.units) 1) (idle_count z.units))
