-- Dated books (document 02, Change 5): "A dated book starts with a byte 0, then the known layout, with a 16-bit day before each rule"; a book in either
-- form, read and written in the form it has; the rules that stand on a day. Assumes nothing.
use Rattle.std.specs.Prelude.{Bool, true, false, not, List, [], ◌∷◌, ◌++◌, ℕ, suc, eqb, leb, length, drop}
use Rattle.paper.specs.Result.{Result, accepted, Reader, if, return, then, ◌>>=◌, repeat}
use Rattle.paper.specs.Bits.{to_bits, bits_of, bytes_of, field}
use Rattle.paper.specs.Book.{Operator, Side, Rule, Book}
use Rattle.paper.specs.Reader.{read_operator, read_rule, read_count, read_end, read_book}
use Rattle.paper.specs.Writer.{concat, write_operator, write_rule, write_book}
use Rattle.paper.specs.Naming.{alike}

pub record DatedRule : Type 0 where
  pub day : ℕ
  pub rule : Rule

pub record DatedBook : Type 0 where
  pub operators : List Operator
  pub rules : List DatedRule

-- a book in either form
pub data AnyBook : Type 0 where
  undated : Book → AnyBook
  dated : DatedBook → AnyBook

-- Read

-- is the first byte 0?
unfoldable pub is_dated : List ℕ → Bool
is_dated [] = false
is_dated (b ∷ bs) = eqb b 0

unfoldable pub read_dated_rule : List Operator → Reader DatedRule
unfolding field return ◌>>=◌ read_rule
read_dated_rule ops = do
  day ← field 16
  rule ← read_rule ops
  return (record { day = day; rule = rule })

-- the bits behind the byte 0
unfoldable pub read_dated_bits : Reader DatedBook
unfolding field ◌>>=◌ repeat read_count read_operator read_dated_rule read_end
read_dated_bits = do
  n ← read_count
  ops ← repeat n read_operator
  m ← field 8
  rules ← repeat m (read_dated_rule ops)
  read_end (record { operators = ops; rules = rules })

-- the bytes behind the byte 0
unfoldable pub read_dated : List ℕ → Result DatedBook
unfolding then bits_of read_dated_bits
read_dated bytes = then (read_dated_bits (bits_of bytes)) (λ r. accepted r.value)

unfoldable pub read_any : List ℕ → Result AnyBook
unfolding then is_dated read_book read_dated
read_any bytes = elim (is_dated bytes) [
  | true ↦ then (read_dated (drop 1 bytes)) (λ D. accepted (AnyBook.dated D))
  | false ↦ then (read_book bytes) (λ B. accepted (AnyBook.undated B))
]

-- Written: "The writer keeps the form it read, days included"

unfoldable pub write_dated_rule : DatedRule → List ℕ
unfolding to_bits write_rule
write_dated_rule r = to_bits 16 r.day ++ write_rule r.rule

unfoldable pub write_dated : DatedBook → List ℕ
unfolding to_bits bytes_of concat write_operator write_dated_rule
write_dated D =
    bytes_of (to_bits 8 (length D.operators) ++ (concat write_operator D.operators ++ (to_bits 8 (length D.rules) ++ concat write_dated_rule D.rules)))

unfoldable pub write_any : AnyBook → List ℕ
unfolding write_book write_dated
write_any (AnyBook.undated B) = write_book B
write_any (AnyBook.dated D) = 0 ∷ write_dated D

-- The rules that stand on a day: "Rules of later days are absent. Of rules whose left sides agree up to the naming of variables, only the latest day
-- stands, and within a day the last in the book; those that stand are tried in book order."

-- is the rule's day one of m to d, and does its left side agree with l?
unfoldable pub replaces : ℕ → ℕ → Side → DatedRule → Bool
unfolding alike
replaces m d l r = if (leb m r.day) (if (leb r.day d) (alike r.rule.left l) false) false

-- is it so for one of these rules?
unfoldable pub replaced : ℕ → ℕ → Side → List DatedRule → Bool
unfolding replaces
replaced m d l [] = false
replaced m d l (r ∷ rs) = elim (replaces m d l r) [ true ↦ true | false ↦ replaced m d l rs ]

-- does a rule stand on day d? Its day has come, and its place is not taken, by a rule of a later day that has come too, or, behind it in the book, by one
-- of its own day
unfoldable pub stands : ℕ → List DatedRule → DatedRule → List DatedRule → Bool
unfolding replaced
stands d before r behind =
    if (leb r.day d) (if (replaced (suc r.day) d r.rule.left before) false (not (replaced r.day d r.rule.left behind))) false

-- the rules that stand of the last ones of a book, those before them given
unfoldable pub standing : ℕ → List DatedRule → List DatedRule → List Rule
unfolding stands
standing d before [] = []
standing d before (r ∷ behind) = let rs = standing d (before ++ (r ∷ [])) behind in if (stands d before r behind) (r.rule ∷ rs) rs

-- the book of a day; "An undated book ignores the day"
unfoldable pub on_day : ℕ → AnyBook → Book
unfolding standing
on_day d (AnyBook.undated B) = B
on_day d (AnyBook.dated D) = record { operators = D.operators; rules = standing d [] D.rules }
