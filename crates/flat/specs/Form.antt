-- The packed fields of a point behind its book and day (document 02, Change 11: "term, marks, each unit's orders and state, idle queue, the order in which
-- pending parts were placed, unit count, budget, counts, .. in packed fields"), written and read. A unit's state and its place in the idle queue are its rank. Sizes
-- are not written: they are those of the symbols. Assumes nothing.
use Rattle.std.specs.Prelude.{Bool, true, false, List, ◌++◌, ℕ, zero, suc, pred, length}
use Rattle.paper.specs.Result.{Reader, return, ◌>>=◌, repeat}
use Rattle.paper.specs.Bits.{to_bits, field}
use Rattle.paper.specs.Writer.{concat}
use Rattle.flat.specs.Sizes.{sizes}
use Rattle.flat.specs.Machine.{Frame, FlatUnit, flat_unit}
use Rattle.flat.specs.Parts.{Parked}

-- a frame: its kind, and what it bears
unfoldable pub write_frame : Frame → List ℕ
unfolding to_bits
write_frame (Frame.job a k c) = to_bits 2 0 ++ (to_bits 10 a ++ (to_bits 4 k ++ to_bits 3 c))
write_frame (Frame.exit w i) = to_bits 2 1 ++ (to_bits 3 w ++ to_bits 11 i)
write_frame Frame.sleep = to_bits 2 2
write_frame Frame.bingo = to_bits 2 3

unfoldable pub read_job : Reader Frame
read_job = do
  a ← field 10
  k ← field 4
  c ← field 3
  return (Frame.job a k c)

unfoldable pub read_exit : Reader Frame
read_exit = do
  w ← field 3
  i ← field 11
  return (Frame.exit w i)

unfoldable pub read_kind : ℕ → Reader Frame
unfolding read_job read_exit
read_kind zero = read_job
read_kind (suc zero) = read_exit
read_kind (suc (suc zero)) = return Frame.sleep
read_kind (suc (suc (suc n))) = return Frame.bingo

unfoldable pub read_frame : Reader Frame
unfolding read_kind
read_frame = field 2 >>= read_kind

-- a unit: its rank (below 8, since one unit at least of 8 is not idle), how many frames are on its stack, and they from the top
unfoldable pub write_unit : FlatUnit → List ℕ
unfolding to_bits concat write_frame
write_unit x = to_bits 3 x.rank ++ (to_bits 11 (length x.stack) ++ concat write_frame x.stack)

unfoldable pub read_unit : Reader FlatUnit
unfolding read_frame
read_unit = do
  r ← field 3
  n ← field 11
  fs ← repeat n read_frame
  return (flat_unit r fs)

unfoldable pub write_mark : Bool → List ℕ
unfolding to_bits
write_mark false = to_bits 1 0
write_mark true = to_bits 1 1

unfoldable pub is_marked : ℕ → Bool
is_marked zero = false
is_marked (suc n) = true

unfoldable pub read_mark : Reader Bool
unfolding is_marked
read_mark = do
  n ← field 1
  return (is_marked n)

-- a run that is parked, with its budget
pub record Saved : Type 0 where
  pub budget : ℕ
  pub parked : Parked

-- how many units and how many symbols are written less 1, since there is one at least
unfoldable pub write_saved : Saved → List ℕ
unfolding to_bits concat write_mark write_unit
write_saved S =
    let s = S.parked.state in
    to_bits 3 (pred (length s.units)) ++ (to_bits 32 S.budget ++ (to_bits 64 s.rewrites ++ (to_bits 64 S.parked.entries
    ++ (to_bits 64 s.granted ++ (to_bits 64 s.kept ++ (to_bits 10 (pred (length s.symbols)) ++ (concat (to_bits 8) s.symbols
    ++ (concat write_mark s.marks ++ (concat write_unit s.units ++ (to_bits 10 (length s.placed) ++ concat (to_bits 3) s.placed))))))))))

unfoldable pub read_saved : (ℕ → ℕ) → Reader Saved
unfolding read_mark read_unit sizes
read_saved arity = do
  n ← field 3
  budget ← field 32
  rewrites ← field 64
  entries ← field 64
  granted ← field 64
  kept ← field 64
  m ← field 10
  xs ← repeat (suc m) (field 8)
  ms ← repeat (suc m) read_mark
  us ← repeat (suc n) read_unit
  k ← field 10
  vs ← repeat k (field 3)
  return (record {
    budget = budget;
    parked = record {
      entries = entries;
      state = record { symbols = xs; sizes = sizes arity xs; marks = ms; units = us; rewrites = rewrites; granted = granted; kept = kept; placed = vs };
    };
  })
