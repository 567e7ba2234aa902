-- What reading a part of a saved run ensures: a position stands for the bits from there on, and what is read stands in arrays. Promises of functions inside. Assumes nothing.
use Rattle.std.specs.Prelude.{true, false, List, Option, Some, None, ◌≡◌, ℕ, ◌+◌, ◌*◌, ◌^◌, ◌≤◌, ◌<◌, length, get_or, take}
use Rattle.paper.specs.Result.{Result, refused, accepted, Read, return, repeat}
use Rattle.paper.specs.Bits.{field}
use Rattle.paper.specs.Sound.{All}
use Rattle.flat.specs.Machine as F
use Rattle.flat.specs.Rules.{spells}
use Rattle.flat.specs.Form.{read_job, read_exit, read_frame, read_unit, read_mark}
use Rattle.symbol.specs.Record.{marked, operators, marks, sizes}
use Rattle.term.specs.Present.{operators_in, marks_in, Sized}
use Rattle.units.specs.declared.frames.Frame.{Frame}
use Rattle.units.specs.Frames.{flat, InThreeBytes}
use Rattle.units.specs.Stacks.{base, stack_of, end_in, Store, units_in, unit_in}
use Rattle.units.specs.Promises.{SameOutside, StacksFit}
use Rattle.placing.specs.Order.{latest_first, placed_in, OrderFits}
use Rattle.side.specs.Promises.{bits_at}
use Rattle.point_reader.specs.Readers.{read_counts, Headed, headed, read_head, Marked, read_term, read_order}
use Rattle.point_reader.specs.Loading.{Lacks, Low}
use Rattle.point_reader.specs.declared.Counts.{Counts}
use Rattle.point_reader.specs.declared.Head.{Head}
use Rattle.point_reader.specs.declared.Taken.{Taken}

abbrev pub Any : {A : Type 0} → A → Type 0
Any a = Unit {0}

-- the reader's answer x is the value a and the bits from a position on; or it is none with P
abbrev pub PartIs : {A : Type 0} → List ℕ → Result (Read A) → (A → Type 0) → A → Option ℕ → Type 0
PartIs bytes x P a (Some next) = x ≡ return a (bits_at bytes next)
PartIs bytes x P a None = Lacks P x

-- Q holds, if the part is read
abbrev pub IfRead : Option ℕ → Type 0 → Type 0
IfRead (Some next) Q = Q
IfRead None Q = Unit {0}

-- NUMBERS

-- an answer as the reader of a field gives it
abbrev pub number : List ℕ → Option (Taken ℕ) → Result (Read ℕ)
number bytes (Some t) = accepted (record { value = t.value; left = bits_at bytes t.next })
number bytes None = refused 1

-- r answers for the n bits at position at
pub record NumberAt (bytes : List ℕ) (at n : ℕ) (r : Option (Taken ℕ)) : Type 0 where
  pub is : number bytes r ≡ field n (bits_at bytes at)

abbrev pub CountsAre : List ℕ → Result (Read Counts) → Option (Taken Counts) → Type 0
CountsAre bytes x (Some t) = x ≡ return t.value (bits_at bytes t.next)
CountsAre bytes x None = Lacks (λ (c : Counts). c.rewrites < 2 ^ 32) x

pub record CountsTaken (bytes : List ℕ) (at : ℕ) (r : Option (Taken Counts)) : Type 0 where
  pub are : CountsAre bytes (read_counts (bits_at bytes at)) r

-- there are one to eight units and at most 1,024 symbols
pub record Few (h : Headed) : Type 0 where
  pub some_units : 1 ≤ h.numbers.units
  pub few_units : h.numbers.units ≤ 8
  pub few_symbols : h.symbols ≤ 1024

abbrev pub HeadIs : List ℕ → Result (Read Headed) → Option (Taken Head) → Type 0
HeadIs bytes x (Some t) = let h = headed t.value.numbers t.value.symbols in (x ≡ return h (bits_at bytes t.next)) × Few h
HeadIs bytes x None = Lacks (λ (h : Headed). h.numbers.rewrites < 2 ^ 32) x

pub record HeadTaken (bytes : List ℕ) (at : ℕ) (r : Option (Taken Head)) : Type 0 where
  pub is : HeadIs bytes (read_head (bits_at bytes at)) r

-- THE PRESENT TERM

pub record SymbolsTaken (bytes : List ℕ) (at m : ℕ) (line : List ℕ) (r : Option ℕ) : Type 0 where
  pub are : PartIs bytes (repeat m (field 8) (bits_at bytes at)) Any (take m line) r
  pub long : length line ≡ 1024

-- none of the first m symbols is marked
abbrev pub Unmarked : ℕ → List ℕ → Type 0
Unmarked m symbols = (i : ℕ) → i < m → marked (get_or symbols i 0) ≡ false

-- the marks are put, and all else is as it was
pub record MarksTaken (bytes : List ℕ) (at m : ℕ) (symbols symbols' : List ℕ) (r : Option ℕ) : Type 0 where
  pub are : PartIs bytes (repeat m read_mark (bits_at bytes at)) Any (marks (take m symbols')) r
  pub operators_are : operators symbols' ≡ operators symbols
  pub sizes_are : sizes symbols' ≡ sizes symbols
  pub long : length symbols' ≡ length symbols

-- symbols that are one term of the first n operators
pub record OneTerm (arity : ℕ → ℕ) (n : ℕ) (t : Marked) : Type 0 where
  pub complete : spells arity 1 t.symbols ≡ true
  pub known : All (λ o. o < n) t.symbols

-- the present term in the array
abbrev pub marked_in : List ℕ → Marked
marked_in symbols = record { symbols = operators_in symbols; marks = marks_in symbols }

pub record TermTaken (arity : ℕ → ℕ) (n : ℕ) (bytes : List ℕ) (at m : ℕ) (symbols : List ℕ) (r : Option ℕ) : Type 0 where
  pub is : PartIs bytes (read_term m (bits_at bytes at)) (OneTerm arity n) (marked_in symbols) r
  pub sized : IfRead r (Sized arity symbols)
  pub known : IfRead r (All (λ o. o < n) (operators_in symbols))

-- UNITS

abbrev pub FrameIs : List ℕ → Result (Read F.Frame) → Option (Taken Frame) → Type 0
FrameIs bytes x (Some t) = (x ≡ return (flat t.value) (bits_at bytes t.next)) × InThreeBytes (flat t.value)
FrameIs bytes x None = Lacks Any x

pub record JobTaken (bytes : List ℕ) (at : ℕ) (r : Option (Taken Frame)) : Type 0 where
  pub is : FrameIs bytes (read_job (bits_at bytes at)) r

pub record ExitTaken (bytes : List ℕ) (at : ℕ) (r : Option (Taken Frame)) : Type 0 where
  pub is : FrameIs bytes (read_exit (bits_at bytes at)) r

pub record FrameTaken (bytes : List ℕ) (at : ℕ) (r : Option (Taken Frame)) : Type 0 where
  pub is : FrameIs bytes (read_frame (bits_at bytes at)) r

-- h frames, from the top of a stack whose lowest is at a place
pub record StackTaken (bytes : List ℕ) (at h from : ℕ) (w w' : List ℕ) (r : Option ℕ) : Type 0 where
  pub is : PartIs bytes (repeat h read_frame (bits_at bytes at)) Any (stack_of w' from h) r
  pub outside : SameOutside from (from + 3 * h) w w'

-- unit u, and the others are as they were
pub record UnitTaken (bytes : List ℕ) (at u : ℕ) (s s' : Store) (r : Option ℕ) : Type 0 where
  pub is : PartIs bytes (read_unit (bits_at bytes at)) Low (unit_in s' u) r
  pub fit : StacksFit s'
  pub others : (v : ℕ) → (v ≡ u → ⊥) → unit_in s' v ≡ unit_in s v

-- units 0 to u - 1 have no frames
pub record EmptyBelow (u : ℕ) (cells : List ℕ) : Type 0 where
  pub eight : length cells ≡ 8
  pub ends : (v : ℕ) → v < u → end_in cells v ≡ base v

pub record UnitsTaken (bytes : List ℕ) (at n : ℕ) (s : Store) (r : Option ℕ) : Type 0 where
  pub are : PartIs bytes (repeat n read_unit (bits_at bytes at)) (All Low) (units_in s n) r
  pub fit : StacksFit s

-- THE ORDER OF PLACING

-- the units of k parts; what is in front of them is as it was
pub record PlacedTaken (bytes : List ℕ) (at k : ℕ) (order order' : List ℕ) (r : Option ℕ) : Type 0 where
  pub are : PartIs bytes (repeat k (field 3) (bits_at bytes at)) Any (latest_first order' k) r
  pub front : get_or order' 0 0 ≡ get_or order 0 0
  pub long : length order' ≡ 1024

pub record OrderTaken (bytes : List ℕ) (at : ℕ) (order : List ℕ) (r : Option ℕ) : Type 0 where
  pub is : PartIs bytes (read_order (bits_at bytes at)) Any (placed_in order) r
  pub fits : IfRead r (OrderFits order)
