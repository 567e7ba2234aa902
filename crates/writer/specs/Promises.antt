-- What the parts of the writer do, in the paper's terms: which bits they write where, given what the paper's readers read. Promises of functions inside.
-- Assumes nothing.
use Rattle.std.specs.Prelude.{List, ◌++◌, ◌≡◌, ℕ, ◌+◌, ◌*◌, ◌≤◌, ◌<◌, length, get_or, take, drop}
use Rattle.paper.specs.Result.{accepted, Reader, if, return, ◌>>=◌, repeat}
use Rattle.paper.specs.Bits.{to_bits, bits_of, field}
use Rattle.paper.specs.Strategy.{default}
use Rattle.paper.specs.Book.{Operator}
use Rattle.paper.specs.Reader.{read_operator, read_rule}
use Rattle.paper.specs.Writer.{concat, numbers, same, write_operator, write_rule}
use Rattle.paper.specs.Dated.{DatedRule, AnyBook, is_dated, read_any, write_any}
use Rattle.tables.specs.Tables.{any_book}
use Rattle.side.specs.Promises.{AritiesIn, bits_at}
use Rattle.writer.specs.declared.Form.{Form}

-- the bits xs at position at, where they fit: all before them and behind them stays
pub record BitsPut (at : ℕ) (xs : List ℕ) (out out' : List ℕ) (next : ℕ) : Type 0 where
  pub ends : next ≡ at + length xs
  pub long : length out' ≡ length out
  pub front : next ≤ 8 * length out → take next (bits_of out') ≡ take at (bits_of out) ++ xs
  pub behind : next ≤ 8 * length out → drop next (bits_of out') ≡ drop next (bits_of out)

-- a settled list by its numbers, as it is written
unfoldable pub list_bits : ℕ → List ℕ → List ℕ
unfolding to_bits numbers same default concat
list_bits arity vs = if (same vs (numbers (default arity))) (to_bits 1 0) (to_bits 1 1 ++ (to_bits 5 (length vs) ++ concat (to_bits 4) vs))

-- the operator that is read at position at is written at position to
pub record OperatorWritten (bytes : List ℕ) (at to : ℕ) (out out' : List ℕ) (at' to' : ℕ) : Type 0 where
  pub is : (op : Operator) (left : List ℕ) → read_operator (bits_at bytes at) ≡ return op left →
      (bits_at bytes at' ≡ left) × BitsPut to (write_operator op) out out' to'

-- and so are n operators
pub record OperatorsWritten (bytes : List ℕ) (at n to : ℕ) (out out' : List ℕ) (at' to' : ℕ) : Type 0 where
  pub are : (ops : List Operator) (left : List ℕ) → repeat n read_operator (bits_at bytes at) ≡ return ops left →
      (bits_at bytes at' ≡ left) × BitsPut to (concat write_operator ops) out out' to'

-- THE BOOK'S FORM (document 02, Change 5)

-- where the count stands in a book's bits, and how many bits of a day stand before each of its rules
abbrev pub count_at : List ℕ → ℕ
count_at bytes = if (is_dated bytes) 8 0

abbrev pub day_bits : List ℕ → ℕ
day_bits bytes = if (is_dated bytes) 16 0

pub record FormIs (bytes : List ℕ) (r : Form) : Type 0 where
  pub count : r.count ≡ count_at bytes
  pub day : r.day ≡ day_bits bytes
  pub low : r.count ≤ 8
  pub short : r.day ≤ 16

-- RULES, with d bits of a day before each

unfoldable pub read_rule_at : ℕ → List Operator → Reader DatedRule
unfolding field return ◌>>=◌ read_rule
read_rule_at d ops = do
  day ← field d
  rule ← read_rule ops
  return (record { day = day; rule = rule })

unfoldable pub write_rule_at : ℕ → DatedRule → List ℕ
unfolding to_bits write_rule
write_rule_at d r = to_bits d r.day ++ write_rule r.rule

-- their count, and they
unfoldable pub read_rules : ℕ → List Operator → Reader (List DatedRule)
unfolding field ◌>>=◌ repeat read_rule_at
read_rules d ops = do
  m ← field 8
  repeat m (read_rule_at d ops)

-- m rules are read between two positions, as they are written
pub record RulesEnd (bytes : List ℕ) (at d n : ℕ) (operators : List ℕ) (m end : ℕ) : Type 0 where
  pub are : (ops : List Operator) → AritiesIn ops n operators → (rules : List DatedRule) (left : List ℕ) →
      repeat m (read_rule_at d ops) (bits_at bytes at) ≡ return rules left → bits_at bytes at ≡ concat (write_rule_at d) rules ++ bits_at bytes end

-- the rules that are read at position at are written at position to
pub record RulesWritten (bytes : List ℕ) (at d n : ℕ) (operators : List ℕ) (to : ℕ) (out out' : List ℕ) (to' : ℕ) : Type 0 where
  pub are : (ops : List Operator) → AritiesIn ops n operators → (rules : List DatedRule) (left : List ℕ) → read_rules d ops (bits_at bytes at) ≡ return rules left →
      BitsPut to (to_bits 8 (length rules) ++ concat (write_rule_at d) rules) out out' to'

-- THE WHOLE BOOK

-- elements are bytes
abbrev pub AllBytes : List ℕ → Type 0
AllBytes xs = (i : ℕ) → get_or xs i 0 < 256

abbrev pub operators_of : AnyBook → List Operator
operators_of (AnyBook.undated B) = B.operators
operators_of (AnyBook.dated D) = D.operators

-- the bytes are a book of n operators, whose arities the table holds
pub record AcceptedBook (bytes : List ℕ) (n : ℕ) (operators : List ℕ) : Type 0 where
  pub read : read_any bytes ≡ accepted (any_book bytes)
  pub arities : AritiesIn (operators_of (any_book bytes)) n operators

-- the written book takes size bytes, and they stand at the front of the output where they fit
pub record BookWritten (bytes out out' : List ℕ) (size : ℕ) : Type 0 where
  pub sized : size ≡ length (write_any (any_book bytes))
  pub long : length out' ≡ length out
  pub written : size ≤ length out → AllBytes out → AllBytes out' → out' ≡ write_any (any_book bytes) ++ drop size out
