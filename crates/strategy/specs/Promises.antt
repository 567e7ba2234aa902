-- What reading a strategy answers, in the paper's terms, and what laying one out leaves: contracts inside. Assumes nothing.
use Rattle.std.specs.Prelude.{Ok, Err, Bool, false, List, ◌≡◌, ℕ, ◌≤◌, ◌<◌, eqb, length, take, drop}
use Rattle.paper.specs.Result.{Result, refused, accepted, Read, if, ◌>>=◌}
use Rattle.paper.specs.Bits.{bits_of, field}
use Rattle.paper.specs.Strategy.{Item, layout}
use Rattle.paper.specs.Reader.{allowed, grouped_after, read_numbers, items, read_strategy}
use Rattle.paper.specs.Writer.{numbers}
use Rattle.paper.specs.WellFormed.{GoodOperator}
use Rattle.tables.specs.Layout.{row, set_row}
use Rattle.std.specs.Prelude.{Result as Answer}
use Rattle.refusal.specs.declared.Refusal.{Refusal}
use Rattle.refusal.specs.Numbers.{number}
use Rattle.strategy.specs.declared.Listed.{Listed}

-- whether a group is open behind the item v of an operator of arity a, with a group open or not, where `left` more follow
abbrev pub turn : ℕ → Bool → ℕ → ℕ → Answer Bool Refusal
turn a grouped left v = if (allowed a grouped (eqb left 0) v) (Ok (grouped_after grouped v)) (Err Refusal.BadStrategy)

-- n numbers read into an array: a position stands for the bits from there on
abbrev pub numbers_answer : List ℕ → ℕ → List ℕ → Answer ℕ Refusal → Result (Read (List ℕ))
numbers_answer bytes n raw (Ok next) = accepted (record { value = take n raw; left = drop next (bits_of bytes) })
numbers_answer bytes n raw (Err e) = refused (number e)

-- a strategy read into an array, as the numbers of its settled list
abbrev pub strategy_answer : List ℕ → List ℕ → Answer Listed Refusal → Result (Read (List ℕ))
strategy_answer bytes items (Ok s) = accepted (record { value = take s.len items; left = drop s.next (bits_of bytes) })
strategy_answer bytes items (Err e) = refused (number e)

-- the same answer, with items as their numbers
abbrev pub spelt : Result (Read (List Item)) → Result (Read (List ℕ))
spelt (refused e) = refused e
spelt (accepted r) = accepted (record { value = numbers r.value; left = r.left })

-- vs are the numbers of a settled list of an operator of arity a
pub record SettledList (a : ℕ) (vs : List ℕ) : Type 0 where
  pub strategy : List Item
  pub are : vs ≡ numbers strategy
  pub good : GoodOperator (record { arity = a; strategy = strategy })

-- what a list that is read has
abbrev pub SettledIn : ℕ → List ℕ → Answer Listed Refusal → Type 0
SettledIn a items (Ok s) = (s.len ≤ 31) × SettledList a (take s.len items)
SettledIn a items (Err e) = Unit

-- r answers for the n numbers at position at of an operator of arity a: it is what the paper's reader answers there
pub record NumbersAt (bytes : List ℕ) (at a n : ℕ) (raw : List ℕ) (r : Answer ℕ Refusal) : Type 0 where
  pub is : numbers_answer bytes n raw r ≡ read_numbers a false n (drop at (bits_of bytes))
  pub long : length raw ≡ 32

-- r answers for the list that is given at position at
pub record GivenAt (bytes : List ℕ) (at a : ℕ) (items : List ℕ) (r : Answer Listed Refusal) : Type 0 where
  pub is : strategy_answer bytes items r ≡ spelt (read_strategy a 1 (drop at (bits_of bytes)))
  pub settled : SettledIn a items r
  pub long : length items ≡ 32

-- r answers for the strategy at position at, behind the arity a: it is what the paper's reader answers there
pub record StrategyAt (bytes : List ℕ) (at a : ℕ) (items : List ℕ) (r : Answer Listed Refusal) : Type 0 where
  pub is : strategy_answer bytes items r ≡ spelt ((field 1 >>= read_strategy a) (drop at (bits_of bytes)))
  pub settled : SettledIn a items r
  pub long : length items ≡ 32

-- what laying out the first len numbers for operator o asks
pub record Layable (its : List ℕ) (len : ℕ) (operators : List ℕ) (o : ℕ) : Type 0 where
  pub arity : ℕ
  pub settled : SettledList arity (take len its)
  pub short : len ≤ 31
  pub long : length its ≡ 32
  pub table : length operators ≡ 4352
  pub operator : o < 255

-- operators' is operators with the row of the first len numbers for operator o
pub record LaidOut (its : List ℕ) (len : ℕ) (operators : List ℕ) (o : ℕ) (operators' : List ℕ) : Type 0 where
  pub is : operators' ≡ set_row operators o (row (layout (items (take len its))))
  pub table : length operators' ≡ 4352
