-- The readers of a saved run's fields (flat/specs/Form; document 02, Change 11), in the parts in which the code reads them. One after another they are `read_saved`
-- (proofs/Parts). Assumes nothing.
use Rattle.std.specs.Prelude.{Bool, List, ℕ, suc}
use Rattle.paper.specs.Result.{Reader, return, ◌>>=◌, repeat}
use Rattle.paper.specs.Bits.{field}
use Rattle.flat.specs.Machine.{FlatUnit}
use Rattle.flat.specs.Sizes.{sizes}
use Rattle.flat.specs.Form.{Saved, read_mark, read_unit}
use Rattle.point.specs.declared.Numbers.{Numbers}
use Rattle.point_reader.specs.declared.Counts.{Counts}

-- what is counted
unfoldable pub read_counts : Reader Counts
read_counts = do
  rewrites ← field 64
  entries ← field 64
  granted ← field 64
  kept ← field 64
  return (record { rewrites = rewrites; entries = entries; granted = granted; kept = kept })

-- the numbers, and how many symbols follow
pub record Headed : Type 0 where
  pub numbers : Numbers
  pub symbols : ℕ

abbrev pub headed : Numbers → ℕ → Headed
headed x m = record { numbers = x; symbols = m }

unfoldable pub read_head : Reader Headed
read_head = do
  n ← field 3
  budget ← field 32
  c ← read_counts
  m ← field 10
  return (record {
    numbers = record { units = suc n; budget = budget; rewrites = c.rewrites; entries = c.entries; granted = c.granted; kept = c.kept };
    symbols = suc m;
  })

-- m symbols and their marks
pub record Marked : Type 0 where
  pub symbols : List ℕ
  pub marks : List Bool

unfoldable pub read_term : ℕ → Reader Marked
read_term m = do
  xs ← repeat m (field 8)
  ms ← repeat m read_mark
  return (record { symbols = xs; marks = ms })

-- the order of placing
unfoldable pub read_order : Reader (List ℕ)
read_order = do
  k ← field 10
  repeat k (field 3)

-- the saved run of all parts
abbrev pub together : (ℕ → ℕ) → Headed → Marked → List FlatUnit → List ℕ → Saved
together arity h t us vs = record {
  budget = h.numbers.budget;
  parked = record {
    entries = h.numbers.entries;
    state = record {
      symbols = t.symbols;
      sizes = sizes arity t.symbols;
      marks = t.marks;
      units = us;
      rewrites = h.numbers.rewrites;
      granted = h.numbers.granted;
      kept = h.numbers.kept;
      placed = vs;
    };
  };
}

unfoldable pub read_parts : (ℕ → ℕ) → Reader Saved
read_parts arity = do
  h ← read_head
  t ← read_term h.symbols
  us ← repeat h.numbers.units read_unit
  vs ← read_order
  return (together arity h t us vs)
