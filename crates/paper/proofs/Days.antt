-- Document 02, Change 5, on inputs that show it, all computed, and from bytes: left sides that agree and that don't, dated books run on days, the rules
-- that stand tried in book order, the day of an input, refusals, and books written back. Assumes nothing.
use mathlib.Core.Bool.{true, false}
use mathlib.Core.List.{List, [], ◌∷◌, ◌++◌}
use mathlib.Core.Path.{◌≡◌, refl}
use Prim.Native.Nat.{ℕ}
use lib.ListN.{take, replicate}
use Rattle.paper.specs.Result.{Result, refused, accepted}
use Rattle.paper.specs.Book.{Symbol, Side}
use Rattle.paper.specs.Reader.{read_book}
use Rattle.paper.specs.Naming.{alike}
use Rattle.paper.specs.Run.{Answer}
use Rattle.paper.specs.Page.{answer_by, answer_of, page_of, payee_page_of, written_of}
use Rattle.paper.proofs.Starred.{ascii, PBytes, PLine, input_on, none_of, two_of, x, y}
use Rattle.paper.proofs.Examples.{refusal, dated_page, published}

-- Sides and books

-- an operator of two arguments, and another
abbrev pub f : Side → Side → Side
f s u = two_of (Symbol.operator 3) s u

abbrev pub g : Side → Side → Side
g s u = two_of (Symbol.operator 4) s u

abbrev pub z : Side
z = none_of (Symbol.variable 15)

-- 0 `end`, 1 `red`, 2 `blue` of arity 0, 3 `code` of arity 2, no list given. Day 300: code(X, Y) gives blue; day 5: code(X, X) gives end; day 10:
-- code(Y, X) gives red
abbrev pub three_days : List ℕ
three_days =
    0x00 ∷ 0x04 ∷ 0x00 ∷ 0x04 ∷ 0x03 ∷ 0x01 ∷ 0x2c ∷ 0x01 ∷ 0xc2 ∷ 0x20 ∷ 0x20 ∷ 0x00 ∷ 0x50 ∷ 0x1c ∷ 0x20 ∷ 0x00 ∷ 0x00 ∷ 0x0a ∷ 0x01 ∷ 0xc6 ∷ 0x00 ∷ 0x10 ∷ []

-- on the same operators, both of day 7: code(X, Y) gives red; code(Y, X) gives blue
abbrev pub one_day : List ℕ
one_day = 0x00 ∷ 0x04 ∷ 0x00 ∷ 0x04 ∷ 0x02 ∷ 0x00 ∷ 0x07 ∷ 0x01 ∷ 0xc2 ∷ 0x20 ∷ 0x10 ∷ 0x00 ∷ 0x70 ∷ 0x1c ∷ 0x60 ∷ 0x02 ∷ []

-- the page for code(end, end) on a day, and for code(end, red)
unfoldable pub equal_page : List ℕ → ℕ → List ℕ
unfolding dated_page
equal_page book day = dated_page book (3 ∷ 0 ∷ 0 ∷ []) day (replicate 9 0)

unfoldable pub other_page : List ℕ → ℕ → List ℕ
unfolding dated_page
other_page book day = dated_page book (3 ∷ 0 ∷ 1 ∷ []) day (replicate 9 0)

-- no rule has matched; one has, with what it gives
unfoldable pub no_match : List ℕ → List ℕ
unfolding ascii
no_match term = ascii "REDUCE 1\nend 0\nrewrites 0\nentries 7\ngranted 0\nkept 0\nterm" ++ (term ++ (10 ∷ []))

unfoldable pub match_gives : List ℕ → List ℕ
unfolding ascii
match_gives term = ascii "REDUCE 1\nend 0\nrewrites 1\nentries 9\ngranted 0\nkept 0\nterm" ++ (term ++ (10 ∷ []))

-- the library's answer for P and its line on a day
unfoldable pub POn : ℕ → Result Answer
unfolding answer_by
POn day =
    answer_of published (record {
      book = PBytes;
      line = PLine;
      units = 1;
      budget = 9;
      day = day;
      schedule = replicate 99 0;
      work = published.work;
      net = published.net;
      output = 1024;
    })

-- LEFT SIDES

pub record Agreement : Type 0 where
  pub renamed : alike (f x x) (f y y) ≡ true
  pub exchanged : alike (f x y) (f y x) ≡ true
  pub any_names : alike (f (f x z) (f z x)) (f (f z y) (f y z)) ≡ true
  -- a variable stands twice on one side only, on either
  pub twice_right : alike (f x y) (f x x) ≡ false
  pub twice_left : alike (f x x) (f x y) ≡ false
  pub other_places : alike (f (f x y) (f x y)) (f (f x y) (f y x)) ≡ false
  -- an operator, a variable
  pub operators : alike (f x y) (g x y) ≡ false
  pub operator_variable : alike (f x (none_of (Symbol.operator 0))) (f x y) ≡ false

pub agreement : Agreement
unfolding alike
agreement = record {
  renamed = refl;
  exchanged = refl;
  any_names = refl;
  twice_right = refl;
  twice_left = refl;
  other_places = refl;
  operators = refl;
  operator_variable = refl;
}

-- RUNS ON A DAY

pub record Runs : Type 0 where
  -- before the first day no rule is there
  pub none_yet : equal_page three_days 4 ≡ no_match (ascii " 3 0 0")
  -- a rule is in force on its own day, and no rule of a later one
  pub own_day : equal_page three_days 5 ≡ match_gives (ascii " 0")
  pub not_yet : other_page three_days 9 ≡ no_match (ascii " 3 0 1")
  pub second_day : other_page three_days 10 ≡ match_gives (ascii " 1")
  -- the last day before the third, and the third: the rule that stands first in the book takes the place of the last one
  pub still_second : other_page three_days 299 ≡ match_gives (ascii " 1")
  pub third_day : other_page three_days 300 ≡ match_gives (ascii " 2")
  pub ever_after : other_page three_days 65535 ≡ match_gives (ascii " 2")
  -- tried in book order: the rule of day 5 before that of day 10; that of day 300 before that of day 5
  pub earlier_first : equal_page three_days 10 ≡ match_gives (ascii " 0")
  pub later_first : equal_page three_days 300 ≡ match_gives (ascii " 2")
  -- within a day the last in the book stands
  pub last_of_day : other_page one_day 7 ≡ match_gives (ascii " 2")
  pub day_before : other_page one_day 6 ≡ no_match (ascii " 3 0 1")
  -- an undated book ignores the day
  pub ignored : POn 65535 ≡ POn 0

pub runs : Runs
unfolding ascii equal_page other_page no_match match_gives POn
runs = record {
  none_yet = refl;
  own_day = refl;
  not_yet = refl;
  second_day = refl;
  still_second = refl;
  third_day = refl;
  ever_after = refl;
  earlier_first = refl;
  later_first = refl;
  last_of_day = refl;
  day_before = refl;
  ignored = refl;
}

-- REFUSALS, AND BOOKS WRITTEN

pub record Numbers : Type 0 where
  -- 17: no byte of the day, one, in either program; told before 13, U being 9
  pub no_day : page_of (input_on three_days (3 ∷ 0 ∷ 0 ∷ []) 1 9 []) ≡ refusal "17"
  pub day_cut : page_of (input_on three_days (3 ∷ 0 ∷ 0 ∷ []) 1 9 (0 ∷ [])) ≡ refusal "17"
  pub text_day_cut : payee_page_of (input_on three_days [] 1 9 (0 ∷ [])) ≡ refusal "17"
  pub day_units : page_of (input_on three_days (3 ∷ 0 ∷ 0 ∷ []) 9 9 (0 ∷ [])) ≡ refusal "17"
  -- the day is there with no entry behind it; with 32,769 entries behind it, and with 32,768, one of them naming unit 1
  pub no_entry : page_of (input_on three_days (0 ∷ []) 1 9 (0 ∷ 0 ∷ [])) ≡ ascii "REDUCE 1\nend 3\nrewrites 0\nentries 0\ngranted 0\nkept 0\nterm 0\n"
  pub too_many : page_of (input_on three_days (0 ∷ []) 1 9 (0 ∷ 0 ∷ replicate 32769 1)) ≡ refusal "17"
  pub just_enough : page_of (input_on three_days (0 ∷ []) 1 9 (0 ∷ 0 ∷ replicate 32768 1)) ≡ refusal "14"
  -- 1: nothing behind the byte 0; a day cut short, the symbols after it. 2: count 0. 9: a further byte
  pub alone : dated_page (0x00 ∷ []) (0 ∷ []) 0 [] ≡ refusal "1"
  pub day_field_cut : dated_page (take 6 three_days) (0 ∷ []) 0 [] ≡ refusal "1"
  pub symbols_cut : dated_page (take 7 three_days) (0 ∷ []) 0 [] ≡ refusal "1"
  pub count_zero : dated_page (0x00 ∷ 0x00 ∷ 0x01 ∷ []) (0 ∷ []) 0 [] ≡ refusal "2"
  pub further_byte : dated_page (three_days ++ (0x00 ∷ [])) (0 ∷ []) 0 [] ≡ refusal "9"
  -- a service that is not yet updated: 2, whatever follows
  pub not_updated : read_book three_days ≡ refused 2
  -- written in the form it was read, all days and all rules included; lists settled as in an undated book
  pub written : written_of three_days ≡ accepted three_days
  pub written_one_day : written_of one_day ≡ accepted one_day
  pub settled : written_of (0x00 ∷ 0x02 ∷ 0x03 ∷ 0x10 ∷ 0x80 ∷ 0x00 ∷ []) ≡ accepted (0x00 ∷ 0x02 ∷ 0x02 ∷ 0x00 ∷ [])

pub numbers : Numbers
unfolding ascii input_on refusal dated_page page_of payee_page_of read_book written_of
numbers = record {
  no_day = refl;
  day_cut = refl;
  text_day_cut = refl;
  day_units = refl;
  no_entry = refl;
  too_many = refl;
  just_enough = refl;
  alone = refl;
  day_field_cut = refl;
  symbols_cut = refl;
  count_zero = refl;
  further_byte = refl;
  not_updated = refl;
  written = refl;
  written_one_day = refl;
  settled = refl;
}

-- All of them

pub record Days : Type 0 where
  pub agreement : Agreement
  pub runs : Runs
  pub numbers : Numbers

pub days : Days
days = record { agreement = agreement; runs = runs; numbers = numbers }
