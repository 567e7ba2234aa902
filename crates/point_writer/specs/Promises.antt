-- What the functions that write a saved run ask and ensure. Assumes nothing.
use Rattle.std.specs.Prelude.{List, ◌++◌, ◌≡◌, ℕ, pred, ◌+◌, ◌*◌, ◌≤◌, ◌<◌, length}
use Rattle.paper.specs.Bits.{to_bits, bits_of}
use Rattle.paper.specs.Writer.{concat}
use Rattle.paper.specs.Sound.{All}
use Rattle.flat.specs.Machine.{Frame, FlatUnit}
use Rattle.flat.specs.Form.{write_mark}
use Rattle.bits.specs.Field.{splice}
use Rattle.term.specs.Present.{length_in, operators_in, marks_in}
use Rattle.units.specs.Stacks.{units_in}
use Rattle.units.specs.Promises.{StacksFit}
use Rattle.placing.specs.Order.{pending_in, placed_in, OrderFits}
use Rattle.point.specs.declared.Numbers.{Numbers}
use Rattle.point.specs.Saved.{Arrays}

-- BITS

-- there is room for n bits at position at; the bytes are so few that positions fit their type
pub record Room (at n : ℕ) (out : List ℕ) : Type 0 where
  pub bits : at + n ≤ 8 * length out
  pub short : length out ≤ 65536

-- the bits xs at position at: all before them and behind them stays
pub record Put (at : ℕ) (xs out out' : List ℕ) (next : ℕ) : Type 0 where
  pub ends : next ≡ at + length xs
  pub fits : next ≤ 8 * length out
  pub long : length out' ≡ length out
  pub is : bits_of out' ≡ splice (bits_of out) at xs

-- PARTS OF THE FIELDS

abbrev pub write_numbers : Numbers → List ℕ
write_numbers x =
    to_bits 3 (pred x.units) ++ (to_bits 32 x.budget ++ (to_bits 64 x.rewrites ++ (to_bits 64 x.entries ++ (to_bits 64 x.granted ++ to_bits 64 x.kept))))

abbrev pub write_term : List ℕ → List ℕ
write_term symbols = to_bits 10 (pred (length_in symbols)) ++ (concat (to_bits 8) (operators_in symbols) ++ concat write_mark (marks_in symbols))

abbrev pub write_order : List ℕ → List ℕ
write_order order = to_bits 10 (pending_in order) ++ concat (to_bits 3) (placed_in order)

-- WIDTHS

-- a frame's numbers fit their fields
abbrev pub FrameFitsFields : Frame → Type 0
FrameFitsFields (Frame.job a k c) = (a < 1024) × (k < 16) × (c < 8)
FrameFitsFields (Frame.exit w i) = (w < 8) × (i < 2048)
FrameFitsFields Frame.sleep = Unit {0}
FrameFitsFields Frame.bingo = Unit {0}

pub record UnitFitsFields (x : FlatUnit) : Type 0 where
  pub rank : x.rank < 8
  pub frames : All FrameFitsFields x.stack

-- there is a term in the array
pub record SomeTerm (symbols : List ℕ) : Type 0 where
  pub long : length symbols ≡ 1024
  pub some : 1 ≤ length_in symbols
  pub most : length_in symbols ≤ 1024

-- an order whose units are some of eight
pub record SomeOrder (order : List ℕ) : Type 0 where
  pub fits : OrderFits order
  pub units : All (λ v. v < 8) (placed_in order)

-- A SAVED RUN

-- every field is wide enough
pub record Savable (x : Numbers) (a : Arrays) : Type 0 where
  pub term : SomeTerm a.symbols
  pub some_units : 1 ≤ x.units
  pub few_units : x.units ≤ 8
  pub fit : StacksFit a.store
  pub units : All UnitFitsFields (units_in a.store x.units)
  pub order : SomeOrder a.order

-- the bits of the longest: each unit's stack as high as its region
abbrev pub longest : ℕ
longest = 168660
