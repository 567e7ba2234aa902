-- The starred cases of document 01 ('The program and its page') in one statement, all of them computed, with the page's line `kept` of document 02,
-- Change 2, the number of the bytes 00 of Change 5, and the entries of Change 10; proofs/Examples has more. Assumes nothing.
use mathlib.Core.List.{List, [], ◌∷◌, ◌++◌}
use mathlib.Core.Option.{some}
use mathlib.Core.Path.{◌≡◌, refl}
use Prim.Native.Char.{code}
use Prim.Native.Nat.{ℕ, zero, suc, ◌/◌, ◌%◌}
use Prim.Native.String.{String, [] as empty, ◌∷◌ as ◌before◌}
use lib.ListN.{length, drop, replicate}
use Rattle.paper.specs.Result.{refused, accepted}
use Rattle.paper.specs.Tree.{Tree, node, nil, cons}
use Rattle.paper.specs.Strategy.{Item, settle}
use Rattle.paper.specs.Book.{Operator, Symbol, Term, Side, Book}
use Rattle.paper.specs.Reader.{items, read_book}
use Rattle.paper.specs.Dated.{AnyBook, read_any}
use Rattle.paper.specs.Writer.{numbers}
use Rattle.paper.specs.Line.{read_line}
use Rattle.paper.specs.Machine.{Event, Limits}
use Rattle.paper.specs.Run.{moments, events}
use Rattle.paper.specs.Page.{page_of, written_of}

-- Bytes

-- a text's bytes in ASCII
unfoldable pub ascii : String → List ℕ
ascii empty = []
ascii (c before cs) = code c ∷ ascii cs

-- book P: 3 operators; `end` and `tick`, no strategy given; `both` with the 5 items 8 1 2 9 0; 2 rules, X being variable 0 and Y variable 1
abbrev pub PBytes : List ℕ
PBytes =
    0x03 ∷ 0x02 ∷ 0x52 ∷ 0xc0 ∷ 0x94 ∷ 0x80 ∷ 0x10 ∷ 0x08 ∷ 0x01 ∷ 0x18 ∷ 0x80 ∷ 0x80 ∷ 0x30 ∷ 0x88 ∷ 0x04 ∷ 0x05 ∷ 0x08 ∷ 0x80 ∷ []

-- the page's line
abbrev pub PLine : List ℕ
PLine = 2 ∷ 1 ∷ 0 ∷ 1 ∷ 0 ∷ []

-- some bytes behind their length in two bytes
unfoldable pub counted : List ℕ → List ℕ
counted bs = length bs / 256 ∷ length bs % 256 ∷ bs

-- the standard input of a run: the book, the line, U, a budget below 256, the schedule
unfoldable pub input_on : List ℕ → List ℕ → ℕ → ℕ → List ℕ → List ℕ
unfolding counted
input_on book line units budget schedule = counted book ++ (counted line ++ (units ∷ 0 ∷ 0 ∷ 0 ∷ budget ∷ schedule))

-- that of a run on P
unfoldable pub input : List ℕ → ℕ → ℕ → List ℕ → List ℕ
unfolding input_on
input = input_on PBytes

-- n entries, 0 1 0 1 ..
unfoldable pub turns : ℕ → List ℕ
turns zero = []
turns (suc zero) = 0 ∷ []
turns (suc (suc n)) = 0 ∷ 1 ∷ turns n

-- Terms and books

-- a symbol over no argument, over one, over two
module _ {A : Type 0} where
  abbrev pub none_of : A → Tree A
  none_of a = node a nil

  abbrev pub one_of : A → Tree A → Tree A
  one_of a t = node a (cons t nil)

  abbrev pub two_of : A → Tree A → Tree A → Tree A
  two_of a t u = node a (cons t (cons u nil))

-- the variables of the rules below
abbrev pub x : Side
x = none_of (Symbol.variable 0)

abbrev pub y : Side
y = none_of (Symbol.variable 1)

-- 0 `end` and 1 `tick` with the default, 2 `both` with ({1 2} 0)
abbrev pub POperators : List Operator
POperators =
    record { arity = 0; strategy = Item.whole ∷ [] }
    ∷ record { arity = 1; strategy = Item.argument 0 ∷ Item.whole ∷ [] }
    ∷ record { arity = 2; strategy = Item.group (0 ∷ 1 ∷ []) ∷ Item.whole ∷ [] }
    ∷ []

-- both(end, Y) gives Y; both(tick(X), Y) gives tick(both(X, Y))
abbrev pub P : Book
P = record {
  operators = POperators;
  rules =
      record { left = two_of (Symbol.operator 2) (none_of (Symbol.operator 0)) y; right = y }
      ∷ record {
        left = two_of (Symbol.operator 2) (one_of (Symbol.operator 1) x) y;
        right = one_of (Symbol.operator 1) (two_of (Symbol.operator 2) x y);
      }
      ∷ [];
}

abbrev pub end : Term
end = none_of 0

abbrev pub tick : Term → Term
tick t = one_of 1 t

abbrev pub both : Term → Term → Term
both t u = two_of 2 t u

-- 3 `dup` with (0 1 0): dup(X) gives both(X, X)
abbrev pub Q : Book
Q = record {
  operators = POperators ++ (record { arity = 1; strategy = Item.whole ∷ Item.argument 0 ∷ Item.whole ∷ [] } ∷ []);
  rules = record { left = one_of (Symbol.operator 3) x; right = two_of (Symbol.operator 2) x x } ∷ [];
}

abbrev pub dup : Term → Term
dup t = one_of 3 t

-- budget 9 and a limit of n symbols
abbrev pub limits : ℕ → Limits
limits n = record { budget = 9; symbols = some n }

pub record Starred : Type 0 where
  -- the page, which "ends at entry 22" (document 02, Change 10); with 28 entries, which are enough now, and with 21; with budget 1
  pub page : page_of (input PLine 1 9 (replicate 29 0)) ≡ ascii "REDUCE 1\nend 0\nrewrites 2\nentries 22\ngranted 0\nkept 2\nterm 1 1 0\n"
  pub enough : page_of (input PLine 1 9 (replicate 28 0)) ≡ ascii "REDUCE 1\nend 0\nrewrites 2\nentries 22\ngranted 0\nkept 2\nterm 1 1 0\n"
  pub cut : page_of (input PLine 1 9 (replicate 21 0)) ≡ ascii "REDUCE 1\nend 3\nrewrites 2\nentries 21\ngranted 0\nkept 2\nterm 1 1 0\n"
  pub spent : page_of (input PLine 1 1 (replicate 29 0)) ≡ ascii "REDUCE 1\nend 1\nrewrites 1\nentries 19\ngranted 0\nkept 2\nterm 1 2 0 1 0\n"
  -- U = 2, 100 entries of 0
  pub waits : page_of (input PLine 2 9 (replicate 100 0)) ≡ ascii "REDUCE 1\nend 3\nrewrites 0\nentries 100\ngranted 1\nkept 0\nterm 2 1 0 1 0\n"
  -- U = 2, 13 entries 0 1 0 1 ..: the page, and what the last entry did, P and its line being what is read
  pub turned : page_of (input PLine 2 9 (turns 13)) ≡ ascii "REDUCE 1\nend 3\nrewrites 0\nentries 13\ngranted 1\nkept 0\nterm 2 1 0 1 0\n"
  pub book_read : read_any PBytes ≡ accepted (AnyBook.undated P)
  pub line_read : read_line P PLine ≡ accepted (both (tick end) (tick end))
  pub passed : drop 12 (events (moments P (limits 1024) 2 (turns 13) (both (tick end) (tick end)))) ≡ Event.passed 0 ∷ []
  -- the two settled lists
  pub settled_wholes : numbers (settle (items (1 ∷ 0 ∷ 1 ∷ 0 ∷ []))) ≡ 1 ∷ 0 ∷ []
  pub settled_groups : numbers (settle (items (8 ∷ 1 ∷ 1 ∷ 9 ∷ 8 ∷ 9 ∷ 2 ∷ 0 ∷ []))) ≡ 1 ∷ 2 ∷ 0 ∷ []
  -- the three books: one constant; settled when written back; a dated book that is cut short, and what a service that is not yet updated says of it
  pub constant : read_any (0x01 ∷ 0x00 ∷ 0x00 ∷ []) ≡
      accepted (AnyBook.undated (record { operators = record { arity = 0; strategy = Item.whole ∷ [] } ∷ []; rules = [] }))
  pub written : written_of (0x02 ∷ 0x03 ∷ 0x10 ∷ 0x80 ∷ 0x00 ∷ []) ≡ accepted (0x02 ∷ 0x02 ∷ 0x00 ∷ [])
  pub cut_short : read_any (0x00 ∷ []) ≡ refused 1
  pub not_updated : read_book (0x00 ∷ []) ≡ refused 2

pub starred : Starred
unfolding ascii input turns page_of read_book read_any read_line moments events numbers settle items written_of
starred = record {
  page = refl;
  enough = refl;
  cut = refl;
  spent = refl;
  waits = refl;
  turned = refl;
  book_read = refl;
  line_read = refl;
  passed = refl;
  settled_wholes = refl;
  settled_groups = refl;
  constant = refl;
  written = refl;
  cut_short = refl;
  not_updated = refl;
}
