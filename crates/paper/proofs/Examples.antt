-- Document 01's rules on inputs that show each of them, all computed, and from bytes where the input is bytes: every refusal's number, which of
-- two faults is told ('What is checked where'), the exact bounds, variables that stand twice (document 02, Change 4), finished parts (Change 10),
-- and runs. No theorem says that a number, a bound or the order of two checks is document 01's; what is computed here does. Assumes nothing.
use mathlib.Core.Bool.{true, false}
use mathlib.Core.List.{List, [], ◌∷◌, ◌++◌, map}
use mathlib.Core.Option.{none, some}
use mathlib.Core.Path.{◌≡◌, refl}
use Prim.Native.Nat.{ℕ, zero, suc, ◌/◌, ◌%◌}
use Prim.Native.String.{String}
use lib.ListN.{take, drop, replicate}
use Rattle.paper.specs.Result.{Result, refused, accepted, then}
use Rattle.paper.specs.Tree.{Tree, node, nil, cons}
use Rattle.paper.specs.Strategy.{Item}
use Rattle.paper.specs.Book.{Operator, Symbol, Term, Rule, Book}
use Rattle.paper.specs.Reader.{read_book}
use Rattle.paper.specs.Writer.{write_book}
use Rattle.paper.specs.Line.{read_line}
use Rattle.paper.specs.Match.{rewrite_over, rewrite}
use Rattle.paper.specs.Marks.{cell, Marked, cells}
use Rattle.paper.specs.Machine.{Order, unit_state, Event, Ending, lowest, longest, in_force, start}
use Rattle.paper.specs.Run.{Answer, run, run_by, run_from, Moment, moments, events}
use Rattle.paper.specs.Parts.{from_point, parked, parked_parts}
use Rattle.paper.specs.Enough.{carried, orders_alone, forks_alone}
use Rattle.paper.specs.Page.{Lengths, answer_by, answer_of, page_of, written_of}
use Rattle.paper.proofs.Starred.{ascii, PBytes, input_on, input, turns, none_of, one_of, two_of, x, y, POperators, P, end, tick, both, Q, dup, limits}

-- Pages and answers

-- the page of a refusal
unfoldable pub refusal : String → List ℕ
unfolding ascii
refusal n = ascii "REDUCE 1\nrefused " ++ (ascii n ++ (10 ∷ []))

-- the page for a book, asked with the line 0, one unit and no entry
unfoldable pub book_page : List ℕ → List ℕ
unfolding input_on page_of
book_page book = page_of (input_on book (0 ∷ []) 1 9 [])

-- the page for a book whose first byte is 0, asked with one unit and a day
unfoldable pub dated_page : List ℕ → List ℕ → ℕ → List ℕ → List ℕ
unfolding input_on page_of
dated_page book line day schedule = page_of (input_on book line 1 9 (day / 256 ∷ day % 256 ∷ schedule))

-- the page for a line on P, asked with one unit and no entry
unfoldable pub line_page : List ℕ → List ℕ
unfolding input page_of
line_page line = page_of (input line 1 9 [])

-- the page for the line 0 on P, of 3 entries (VISIT, WHOLE, BINGO), by its units and schedule
unfoldable pub end_page : ℕ → List ℕ → List ℕ
unfolding input page_of
end_page units schedule = page_of (input (0 ∷ []) units 9 schedule)

-- the page of that run, finished
unfoldable pub end_finished : List ℕ
unfolding ascii
end_finished = ascii "REDUCE 1\nend 0\nrewrites 0\nentries 3\ngranted 0\nkept 0\nterm 0\n"

-- the lengths that the engine publishes
abbrev pub published : Lengths
published = record { work = 24624; net = 3840 }

-- the library's answer for the line 0 and no entry, by book, units, and the lengths of work area, net and output
unfoldable pub library : List ℕ → ℕ → ℕ → ℕ → ℕ → Result Answer
unfolding answer_by
library book units work net output =
    answer_of published (record { book = book; line = 0 ∷ []; units = units; budget = 9; day = 0; schedule = []; work = work; net = net; output = output })

-- what it answers if nothing is refused
abbrev pub cut_at_once : Result Answer
cut_at_once = accepted (record { ending = Ending.cut; rewrites = 0; entries = 0; granted = 0; kept = 0; term = end })

-- an accepted list; for a refusal the empty one
unfoldable pub listed : {A : Type 0} → Result (List A) → List A
listed (refused n) = []
listed (accepted xs) = xs

-- what each entry of a run did, by the bytes of book and line, units and schedule
unfoldable pub done : List ℕ → List ℕ → ℕ → List ℕ → List Event
unfolding then read_book read_line moments events listed
done book line units schedule =
    listed (then (read_book book) (λ B. then (read_line B line) (λ t. accepted (events (moments B (limits 1024) units schedule t)))))

-- the strategies of a book's operators
unfoldable pub strategies : List ℕ → List (List Item)
unfolding then read_book listed
strategies book = listed (then (read_book book) (λ B. accepted (map (λ (o : Operator). o.strategy) B.operators)))

-- Bytes

-- some bytes n times
unfoldable pub times : ℕ → List ℕ → List ℕ
times zero bs = []
times (suc n) bs = bs ++ times n bs

-- a book of 0 `end` and 1 `tick`, no list given, with what follows: rule count and rules begin at a whole byte
abbrev pub ticks : List ℕ → List ℕ
ticks rules = 0x02 ∷ 0x02 ∷ rules

-- eight symbols `tick` of a rule's side, nine bits each
abbrev pub eight_ticks : List ℕ
eight_ticks = 0x00 ∷ 0x80 ∷ 0x40 ∷ 0x20 ∷ 0x10 ∷ 0x08 ∷ 0x04 ∷ 0x02 ∷ 0x01 ∷ []

-- a book whose only rule has a left side of 64 symbols `tick` and no end, and no bit after
unfoldable pub endless : List ℕ
unfolding times
endless = ticks (0x01 ∷ times 8 eight_ticks)

-- the symbols of a full binary tree of depth n in preorder, by what is written for an inner symbol and for an end: 2 ^ (n + 1) - 1 symbols
unfoldable pub full_tree : List ℕ → List ℕ → ℕ → List ℕ
full_tree inner leaf zero = leaf
full_tree inner leaf (suc n) = inner ++ (full_tree inner leaf n ++ full_tree inner leaf n)

-- 0 `end`, 1 `tick`, 2 `pair`, no list given; 3 `same` and 4 `grow` with (0): same(X) gives tick(X); grow(X) gives tick(tick(X)), one symbol more
abbrev pub grow_bytes : List ℕ
grow_bytes = 0x05 ∷ 0x02 ∷ 0x43 ∷ 0x08 ∷ 0x18 ∷ 0x40 ∷ 0x08 ∷ 0x07 ∷ 0x00 ∷ 0x0c ∷ 0x00 ∷ 0x90 ∷ 0x00 ∷ 0x80 ∷ 0x60 ∷ []

-- the page for an operator over a tree of 1,023 symbols, two entries (VISIT, WHOLE)
unfoldable pub grow_page : ℕ → ℕ → List ℕ
unfolding input_on full_tree page_of
grow_page operator budget = page_of (input_on grow_bytes (operator ∷ full_tree (2 ∷ []) (0 ∷ []) 9) 1 budget (0 ∷ 0 ∷ []))

-- a page that ends with that tree
unfoldable pub tree_after : String → List ℕ
unfolding ascii full_tree
tree_after text = ascii text ++ (full_tree (ascii " 2") (ascii " 0") 9 ++ (10 ∷ []))

-- 0 `end`, 1 `tick`, 2 `pair` of arity 2, no list given; 3 `shut` of arity 2 with the empty list. tick(X) gives X; pair(end, end) gives end
abbrev pub lists_bytes : List ℕ
lists_bytes = 0x04 ∷ 0x02 ∷ 0x45 ∷ 0x00 ∷ 0x10 ∷ 0x06 ∷ 0x10 ∷ 0x01 ∷ 0x00 ∷ 0x00 ∷ 0x00 ∷ 0x00 ∷ []

-- the page for a line on it
unfoldable pub lists_page : List ℕ → ℕ → List ℕ
unfolding input_on page_of
lists_page line budget = page_of (input_on lists_bytes line 1 budget (replicate 99 0))

-- 0 `end`, 1 `three` of arity 3 with ({1 2 3} 0); no rule
abbrev pub three_bytes : List ℕ
three_bytes = 0x02 ∷ 0x07 ∷ 0x34 ∷ 0x09 ∷ 0x1c ∷ 0x80 ∷ 0x00 ∷ []

-- unit 0 forks; unit 1 takes the part, exits and sleeps; unit 0 forks again; unit 2 has the entries of a part
abbrev pub rested : List ℕ
rested = 0 ∷ 0 ∷ 1 ∷ 1 ∷ 1 ∷ 1 ∷ 0 ∷ 0 ∷ 2 ∷ 2 ∷ 2 ∷ replicate 20 0

-- the page for three(three(end, end, end), end, three(end, end, end)) on five units
unfoldable pub three_page : List ℕ → List ℕ
unfolding input_on page_of
three_page schedule = page_of (input_on three_bytes (1 ∷ 1 ∷ 0 ∷ 0 ∷ 0 ∷ 0 ∷ 1 ∷ 0 ∷ 0 ∷ 0 ∷ []) 5 9 schedule)

-- 0 `end`, 1 `pair` of arity 2, no list given: pair(X, X) gives X
abbrev pub repeat_bytes : List ℕ
repeat_bytes = 0x02 ∷ 0x04 ∷ 0x01 ∷ 0x00 ∷ 0xc2 ∷ 0x10 ∷ []

-- the page for a line on it
unfoldable pub repeat_page : List ℕ → List ℕ
unfolding input_on page_of
repeat_page line = page_of (input_on repeat_bytes line 1 9 (replicate 99 0))

-- Terms and books

-- n symbols of one argument over a term or a side
unfoldable pub chain : {A : Type 0} → ℕ → A → Tree A → Tree A
chain zero a t = t
chain (suc n) a t = one_of a (chain n a t)

-- the rule tick(tick(.. X)), with n ticks, gives X
unfoldable pub long : ℕ → Book
unfolding chain
long n = record { operators = POperators; rules = record { left = chain n (Symbol.operator 1) x; right = x } ∷ [] }

-- both(X, Y) gives X; longer and more special: both(tick(X), Y) gives Y
abbrev pub general : Rule
general = record { left = two_of (Symbol.operator 2) x y; right = x }

abbrev pub special : Rule
special = record { left = two_of (Symbol.operator 2) (one_of (Symbol.operator 1) x) y; right = y }

-- both(X, X) gives X; three(X, X, X) gives X, `three` being operator 4; both(X, tick(X)) gives X
abbrev pub twice : List Rule
twice = record { left = two_of (Symbol.operator 2) x x; right = x } ∷ []

abbrev pub three_of : {A : Type 0} → A → Tree A → Tree A → Tree A → Tree A
three_of a t u w = node a (cons t (cons u (cons w nil)))

abbrev pub thrice : List Rule
thrice = record { left = three_of (Symbol.operator 4) x x x; right = x } ∷ []

abbrev pub deeper : List Rule
deeper = record { left = two_of (Symbol.operator 2) x (one_of (Symbol.operator 1) x); right = x } ∷ []

-- 3 `copy` with the default and 4 `quote` with the empty list: copy(X) gives both(X, X)
abbrev pub R : Book
R = record {
  operators = POperators ++ (record { arity = 1; strategy = Item.argument 0 ∷ Item.whole ∷ [] } ∷ record { arity = 1; strategy = [] } ∷ []);
  rules = record { left = one_of (Symbol.operator 3) x; right = two_of (Symbol.operator 2) x x } ∷ [];
}

abbrev pub copy : Term → Term
copy t = one_of 3 t

abbrev pub quote : Term → Term
quote t = one_of 4 t

-- 3 `equal` with some list: equal(X, X) gives tick(X)
abbrev pub E : List Item → Book
E items = record {
  operators = POperators ++ (record { arity = 2; strategy = items } ∷ []);
  rules = record { left = two_of (Symbol.operator 3) x x; right = one_of (Symbol.operator 1) x } ∷ [];
}

-- the terms that the entries of a one-unit run leave
unfoldable pub terms : Book → ℕ → Term → List Marked
unfolding moments
terms B n t = map (λ (m : Moment). m.state.term) (moments B (limits 9) 1 (replicate n 0) t)

-- Each refusal's number

pub record Refusals : Type 0 where
  -- 1: the bits of a field run out: the operator count, an arity, the rule count, a symbol, a strategy's last item
  pub no_byte : book_page [] ≡ refusal "1"
  pub no_arity : book_page (0x01 ∷ []) ≡ refusal "1"
  pub no_rule_count : book_page (ticks []) ≡ refusal "1"
  pub symbol_cut : book_page (ticks (0x01 ∷ 0x00 ∷ [])) ≡ refusal "1"
  pub item_cut : book_page (0x01 ∷ 0x31 ∷ 0x08 ∷ []) ≡ refusal "1"
  -- 2: count 0
  pub no_operator : dated_page (0x00 ∷ 0x00 ∷ []) (0 ∷ []) 0 [] ≡ refusal "2"
  -- 3, at an operator of arity 1: (10 0); ({{}} 0); (9 0); ({1 0} 0); (2 0); (1 1)
  pub item_10 : book_page (0x01 ∷ 0x31 ∷ 0x50 ∷ 0x00 ∷ 0x00 ∷ []) ≡ refusal "3"
  pub group_in_group : book_page (0x01 ∷ 0x32 ∷ 0xc4 ∷ 0x4c ∷ 0x80 ∷ 0x00 ∷ []) ≡ refusal "3"
  pub not_opened : book_page (0x01 ∷ 0x31 ∷ 0x48 ∷ 0x00 ∷ 0x00 ∷ []) ≡ refusal "3"
  pub whole_in_group : book_page (0x01 ∷ 0x32 ∷ 0xc0 ∷ 0x84 ∷ 0x80 ∷ 0x00 ∷ []) ≡ refusal "3"
  pub above_arity : book_page (0x01 ∷ 0x31 ∷ 0x10 ∷ 0x00 ∷ 0x00 ∷ []) ≡ refusal "3"
  pub last_not_0 : book_page (0x01 ∷ 0x31 ∷ 0x08 ∷ 0x80 ∷ 0x00 ∷ []) ≡ refusal "3"
  -- 4: operator 2 of two, on the left, on the right
  pub left_operator : book_page (ticks (0x01 ∷ 0x01 ∷ 0x00 ∷ 0x00 ∷ [])) ≡ refusal "4"
  pub right_operator : book_page (ticks (0x01 ∷ 0x00 ∷ 0x00 ∷ 0x80 ∷ [])) ≡ refusal "4"
  -- 5: X gives end
  pub left_variable : book_page (ticks (0x01 ∷ 0x80 ∷ 0x00 ∷ [])) ≡ refusal "5"
  -- 7: tick(X) gives Y
  pub right_variable : book_page (ticks (0x01 ∷ 0x00 ∷ 0xc2 ∷ 0x20 ∷ [])) ≡ refusal "7"
  -- 8: a left side of 72 ticks
  pub side_incomplete : book_page (ticks (0x01 ∷ times 9 eight_ticks)) ≡ refusal "8"
  -- 9: a padding bit of 1; a further byte, with no padding before it
  pub padding : book_page (0x01 ∷ 0x00 ∷ 0x01 ∷ []) ≡ refusal "9"
  pub further_byte : book_page (ticks (0x00 ∷ 0x00 ∷ [])) ≡ refusal "9"
  -- 10: empty; tick of nothing; a byte left over
  pub line_empty : line_page [] ≡ refusal "10"
  pub line_incomplete : line_page (1 ∷ []) ≡ refusal "10"
  pub line_left_over : line_page (0 ∷ 0 ∷ []) ≡ refusal "10"
  -- 11: operator 3 of three
  pub line_operator : line_page (1 ∷ 3 ∷ []) ≡ refusal "11"
  -- 12: 1,025 bytes
  pub line_long : line_page (replicate 1024 1 ++ (0 ∷ [])) ≡ refusal "12"
  -- 13: U = 0
  pub no_unit : end_page 0 [] ≡ refusal "13"
  -- 14: U = 2 and an entry 2, behind the entry that would finish the run
  pub entry_2 : end_page 2 (0 ∷ 0 ∷ 0 ∷ 2 ∷ []) ≡ refusal "14"
  -- 15 and 16, of the library
  pub no_work : library PBytes 1 0 3840 1024 ≡ refused 15
  pub no_net : library PBytes 1 24624 0 1024 ≡ refused 15
  pub no_output : library PBytes 1 24624 3840 0 ≡ refused 16
  -- 17: no book length; a book length of one byte; the book, the line's length, the line, U, the budget cut short
  pub no_input : page_of [] ≡ refusal "17"
  pub book_length_cut : page_of (0 ∷ []) ≡ refusal "17"
  pub book_cut : page_of (0 ∷ 3 ∷ 0x01 ∷ 0x00 ∷ []) ≡ refusal "17"
  pub line_length_cut : page_of (0 ∷ 3 ∷ 0x01 ∷ 0x00 ∷ 0x00 ∷ 0 ∷ []) ≡ refusal "17"
  pub line_cut : page_of (0 ∷ 3 ∷ 0x01 ∷ 0x00 ∷ 0x00 ∷ 0 ∷ 1 ∷ []) ≡ refusal "17"
  pub units_cut : page_of (0 ∷ 3 ∷ 0x01 ∷ 0x00 ∷ 0x00 ∷ 0 ∷ 1 ∷ 0 ∷ []) ≡ refusal "17"
  pub budget_cut : page_of (0 ∷ 3 ∷ 0x01 ∷ 0x00 ∷ 0x00 ∷ 0 ∷ 1 ∷ 0 ∷ 1 ∷ 0 ∷ 0 ∷ 0 ∷ []) ≡ refusal "17"
  -- the writer tells the book's own
  pub written_no_operator : written_of (0x00 ∷ 0x00 ∷ []) ≡ refused 2
  pub written_left_variable : written_of (ticks (0x01 ∷ 0x80 ∷ 0x00 ∷ [])) ≡ refused 5

pub refusals : Refusals
unfolding refusal book_page dated_page line_page end_page library times page_of written_of
refusals = record {
  no_byte = refl;
  no_arity = refl;
  no_rule_count = refl;
  symbol_cut = refl;
  item_cut = refl;
  no_operator = refl;
  item_10 = refl;
  group_in_group = refl;
  not_opened = refl;
  whole_in_group = refl;
  above_arity = refl;
  last_not_0 = refl;
  left_operator = refl;
  right_operator = refl;
  left_variable = refl;
  right_variable = refl;
  side_incomplete = refl;
  padding = refl;
  further_byte = refl;
  line_empty = refl;
  line_incomplete = refl;
  line_left_over = refl;
  line_operator = refl;
  line_long = refl;
  no_unit = refl;
  entry_2 = refl;
  no_work = refl;
  no_net = refl;
  no_output = refl;
  no_input = refl;
  book_length_cut = refl;
  book_cut = refl;
  line_length_cut = refl;
  line_cut = refl;
  units_cut = refl;
  budget_cut = refl;
  written_no_operator = refl;
  written_left_variable = refl;
}

-- Which of two faults is told

pub record Precedence : Type 0 where
  -- places from top to bottom. 17 before 13: U = 9 and no budget; U = 0 and 32,769 entries
  pub input_units : page_of (0 ∷ 3 ∷ 0x01 ∷ 0x00 ∷ 0x00 ∷ 0 ∷ 1 ∷ 0 ∷ 9 ∷ []) ≡ refusal "17"
  pub schedule_units : end_page 0 (replicate 32769 0) ≡ refusal "17"
  -- 13 before 15; 15, of the work area and of the net's, before 16; 16 before a fault of the book
  pub no_units_work : library PBytes 0 0 3840 1024 ≡ refused 13
  pub units_work : library PBytes 9 0 3840 1024 ≡ refused 13
  pub units_net : library PBytes 9 24624 0 1024 ≡ refused 13
  pub work_output : library PBytes 1 0 3840 0 ≡ refused 15
  pub net_output : library PBytes 1 24624 0 0 ≡ refused 15
  pub output_book : library (0x00 ∷ []) 1 24624 3840 0 ≡ refused 16
  -- 13 before a fault of the book, on the program's page
  pub units_book : page_of (input_on (0x01 ∷ []) (0 ∷ []) 9 9 []) ≡ refusal "13"
  -- 9, the book's last, before 12, the line's first
  pub book_line : page_of (input_on (0x01 ∷ 0x00 ∷ 0x01 ∷ []) (replicate 1025 0) 1 9 []) ≡ refusal "9"
  -- the line's 12, 11 and 10 before 14
  pub long_entry : page_of (input (replicate 1025 0) 1 9 (1 ∷ [])) ≡ refusal "12"
  pub operator_entry : page_of (input (3 ∷ []) 1 9 (1 ∷ [])) ≡ refusal "11"
  pub incomplete_entry : page_of (input (1 ∷ []) 1 9 (1 ∷ [])) ≡ refusal "10"
  -- inside the book, reading order. 3 before 4: an operator with (1 1), a rule with operator 2 of two
  pub item_operator : book_page (0x02 ∷ 0x03 ∷ 0x10 ∷ 0x88 ∷ 0x08 ∷ 0x08 ∷ 0x00 ∷ []) ≡ refusal "3"
  -- 4 in a rule and 5 in the next; 5 and then 4
  pub operator_variable : book_page (ticks (0x02 ∷ 0x01 ∷ 0x00 ∷ 0x20 ∷ 0x00 ∷ [])) ≡ refusal "4"
  pub variable_operator : book_page (ticks (0x02 ∷ 0x80 ∷ 0x00 ∷ 0x04 ∷ 0x00 ∷ [])) ≡ refusal "5"
  -- a variable twice on the left is no fault before 7 on the right: pair(X, X) gives Y
  pub left_right : book_page (0x02 ∷ 0x04 ∷ 0x01 ∷ 0x00 ∷ 0xc2 ∷ 0x11 ∷ []) ≡ refusal "7"
  -- 7 before 9: tick(X) gives Y, and a padding bit of 1
  pub rule_padding : book_page (ticks (0x01 ∷ 0x00 ∷ 0xc2 ∷ 0x30 ∷ [])) ≡ refusal "7"
  -- 3 before 1: item 10, and no bit after it
  pub item_bits : book_page (0x01 ∷ 0x31 ∷ 0x50 ∷ []) ≡ refusal "3"
  -- 8 before 1: a side incomplete after 64 symbols with no bit left; with the 64th symbol cut short it is 1
  pub side_bits : book_page endless ≡ refusal "8"
  pub bits_side : book_page (take 74 endless) ≡ refusal "1"
  -- the 64th symbol's own number before 8: operator 3 of two
  pub symbol_side : book_page (take 74 endless ++ (0x03 ∷ [])) ≡ refusal "4"
  -- inside the line: 12 before 11 and before 10; then reading order, 11 before 10, and 10 before 11
  pub long_operator : line_page (replicate 1025 3) ≡ refusal "12"
  pub long_left_over : line_page (replicate 1025 0) ≡ refusal "12"
  pub operator_incomplete : line_page (2 ∷ 3 ∷ []) ≡ refusal "11"
  pub left_over_operator : line_page (0 ∷ 3 ∷ []) ≡ refusal "10"

pub precedence : Precedence
unfolding refusal book_page dated_page line_page end_page library endless input_on input page_of
precedence = record {
  input_units = refl;
  schedule_units = refl;
  no_units_work = refl;
  units_work = refl;
  units_net = refl;
  work_output = refl;
  net_output = refl;
  output_book = refl;
  units_book = refl;
  book_line = refl;
  long_entry = refl;
  operator_entry = refl;
  incomplete_entry = refl;
  item_operator = refl;
  operator_variable = refl;
  variable_operator = refl;
  left_right = refl;
  rule_padding = refl;
  item_bits = refl;
  side_bits = refl;
  bits_side = refl;
  symbol_side = refl;
  long_operator = refl;
  long_left_over = refl;
  operator_incomplete = refl;
  left_over_operator = refl;
}

-- The exact bounds

pub record Bounds : Type 0 where
  -- U of 1 and 8, of 9
  pub one_unit : end_page 1 (0 ∷ 0 ∷ 0 ∷ []) ≡ end_finished
  pub eight_units : end_page 8 (0 ∷ 0 ∷ 0 ∷ []) ≡ end_finished
  pub nine_units : end_page 9 (0 ∷ 0 ∷ 0 ∷ []) ≡ refusal "13"
  -- U = 8: an entry 7, an entry 8
  pub entry_7 : end_page 8 (0 ∷ 0 ∷ 0 ∷ 7 ∷ []) ≡ end_finished
  pub entry_8 : end_page 8 (0 ∷ 0 ∷ 0 ∷ 8 ∷ []) ≡ refusal "14"
  -- 32,768 schedule bytes, 32,769
  pub schedule_32768 : end_page 1 (replicate 32768 0) ≡ end_finished
  pub schedule_32769 : end_page 1 (replicate 32769 0) ≡ refusal "17"
  -- a work area and a net of the published lengths, one byte less; an output of 1,024 bytes, of 1,023
  pub lent_enough : library PBytes 1 24624 3840 1024 ≡ cut_at_once
  pub work_short : library PBytes 1 24623 3840 1024 ≡ refused 15
  pub net_short : library PBytes 1 24624 3839 1024 ≡ refused 15
  pub output_short : library PBytes 1 24624 3840 1023 ≡ refused 16
  -- a line of 1,024 symbols, of 1,025
  pub line_1024 : read_line P (replicate 1023 1 ++ (0 ∷ [])) ≡ accepted (chain 1023 1 end)
  pub line_1025 : read_line P (replicate 1024 1 ++ (0 ∷ [])) ≡ refused 12
  -- a side of 64 symbols, of 65
  pub side_64 : read_book (write_book (long 63)) ≡ accepted (long 63)
  pub side_65 : read_book (write_book (long 64)) ≡ refused 8
  -- a rewrite that leaves 1,024 symbols; one that would leave 1,025
  pub symbols_1024 : grow_page 3 1 ≡ tree_after "REDUCE 1\nend 3\nrewrites 1\nentries 2\ngranted 0\nkept 0\nterm 1"
  pub symbols_1025 : grow_page 4 1 ≡ tree_after "REDUCE 1\nend 2\nrewrites 0\nentries 2\ngranted 0\nkept 0\nterm 4"

pub bounds : Bounds
unfolding refusal end_page end_finished library chain long read_line read_book write_book grow_page tree_after
bounds = record {
  one_unit = refl;
  eight_units = refl;
  nine_units = refl;
  entry_7 = refl;
  entry_8 = refl;
  schedule_32768 = refl;
  schedule_32769 = refl;
  lent_enough = refl;
  work_short = refl;
  net_short = refl;
  output_short = refl;
  line_1024 = refl;
  line_1025 = refl;
  side_64 = refl;
  side_65 = refl;
  symbols_1024 = refl;
  symbols_1025 = refl;
}

-- A variable that stands twice

pub record Repeated : Type 0 where
  -- equal parts; parts that differ in the last symbol, in the first, in length, in the number of arguments
  pub equal : rewrite twice (both (tick (tick end)) (tick (tick end))) ≡ some (tick (tick end))
  pub last_differs : rewrite twice (both (tick (none_of 0)) (tick (none_of 5))) ≡ none
  pub first_differs : rewrite twice (both (one_of 1 end) (one_of 3 end)) ≡ none
  pub second_longer : rewrite twice (both (tick end) (tick (tick end))) ≡ none
  pub first_longer : rewrite twice (both (tick (tick end)) (tick end)) ≡ none
  pub fewer_arguments : rewrite twice (both (two_of 1 end end) (one_of 1 end)) ≡ none
  -- three occurrences: all are equal, the second differs, the third
  pub all_equal : rewrite thrice (three_of 4 (tick end) (tick end) (tick end)) ≡ some (tick end)
  pub second_differs : rewrite thrice (three_of 4 (tick end) end (tick end)) ≡ none
  pub third_differs : rewrite thrice (three_of 4 (tick end) (tick end) end) ≡ none
  -- one of two occurrences further down
  pub below : rewrite deeper (both end (tick end)) ≡ some end
  pub not_below : rewrite deeper (both end (tick (tick end))) ≡ none
  -- a rule that does not match leaves the term to the next
  pub next_rule : rewrite (twice ++ (general ∷ [])) (both end (tick end)) ≡ some end
  -- of two parts with the same operators and different marks the first is copied
  pub first_kept : rewrite_over cells twice (two_of (cell false 2) (none_of (cell true 0)) (none_of (cell false 0))) ≡ some (none_of (cell true 0))
  pub first_kept_bare : rewrite_over cells twice (two_of (cell false 2) (none_of (cell false 0)) (none_of (cell true 0))) ≡ some (none_of (cell false 0))
  -- from bytes: the book is accepted and written back; pair(pair(end, end), end) is end after two rewrites
  pub accepted_book : written_of repeat_bytes ≡ accepted repeat_bytes
  pub two_rewrites : repeat_page (1 ∷ 1 ∷ 0 ∷ 0 ∷ 0 ∷ []) ≡ ascii "REDUCE 1\nend 0\nrewrites 2\nentries 13\ngranted 0\nkept 0\nterm 0\n"

pub repeated : Repeated
unfolding ascii rewrite rewrite_over written_of repeat_page
repeated = record {
  equal = refl;
  last_differs = refl;
  first_differs = refl;
  second_longer = refl;
  first_longer = refl;
  fewer_arguments = refl;
  all_equal = refl;
  second_differs = refl;
  third_differs = refl;
  below = refl;
  not_below = refl;
  next_rule = refl;
  first_kept = refl;
  first_kept_bare = refl;
  accepted_book = refl;
  two_rewrites = refl;
}

-- Finished parts (document 02, Change 10)

pub record Finished : Type 0 where
  -- copies take their marks along: of both(X, X), where X is both(end, end) and was reduced before it was copied, neither X is walked, so that 2 FORKs are
  -- carried out and not 4; FORK of the first X, which is marked, is one of them
  pub copied : run R (limits 9) 1 (replicate 99 0) (copy (both end end)) ≡
      record { ending = Ending.finished; rewrites = 1; entries = 17; granted = 0; kept = 2; term = both (both end end) (both end end) }
  -- a part with the empty strategy is marked by its VISIT, and nothing in it is reduced
  pub quoted : run R (limits 9) 1 (replicate 99 0) (copy (quote (copy end))) ≡
      record { ending = Ending.finished; rewrites = 1; entries = 10; granted = 0; kept = 1; term = both (quote (copy end)) (quote (copy end)) }
  pub empty_marks : drop 1 (terms R 2 (copy (quote end))) ≡ one_of (cell false 3) (one_of (cell true 4) (none_of (cell false 0))) ∷ []
  -- VISIT of a marked part is an entry and does nothing else: the two copies of end, behind the rewrite
  pub dropped : drop 3 (events (moments R (limits 9) 1 (replicate 99 0) (copy end))) ≡
      Event.rewrote ∷ Event.visited ∷ Event.kept ∷ Event.visited ∷ Event.visited ∷ Event.passed 0 ∷ Event.missed ∷ []
  -- a symbol that a right side brings is not marked, until its last WHOLE
  pub new_unmarked : drop 3 (terms R 10 (copy end)) ≡
      replicate 6 (two_of (cell false 2) (none_of (cell true 0)) (none_of (cell true 0)))
      ++ (two_of (cell true 2) (none_of (cell true 0)) (none_of (cell true 0)) ∷ [])
  -- with (0 1 0) and no rule that matches, the last WHOLE marks, and the first doesn't
  pub last_marks : terms (record { operators = Q.operators; rules = [] }) 5 (dup end) ≡
      replicate 3 (one_of (cell false 3) (none_of (cell false 0)))
      ++ (one_of (cell false 3) (none_of (cell true 0)) ∷ one_of (cell true 3) (none_of (cell true 0)) ∷ [])
  -- of a variable that stands twice the first part is copied: with (1 0) it is marked, with (2 0) it is not and is walked
  pub first_marked : run (E (Item.argument 0 ∷ Item.whole ∷ [])) (limits 9) 1 (replicate 99 0) (two_of 3 end end) ≡
      record { ending = Ending.finished; rewrites = 1; entries = 8; granted = 0; kept = 0; term = tick end }
  pub second_marked : run (E (Item.argument 1 ∷ Item.whole ∷ [])) (limits 9) 1 (replicate 99 0) (two_of 3 end end) ≡
      record { ending = Ending.finished; rewrites = 1; entries = 9; granted = 0; kept = 0; term = tick end }

pub finished : Finished
unfolding run moments events terms
finished = record { copied = refl; quoted = refl; empty_marks = refl; dropped = refl; new_unmarked = refl; last_marks = refl; first_marked = refl; second_marked = refl }

-- Runs

pub record Runs : Type 0 where
  -- the first rule in book order is applied, also where the second is more special
  pub first_general : rewrite (general ∷ special ∷ []) (both (tick end) end) ≡ some (tick end)
  pub first_special : rewrite (special ∷ general ∷ []) (both (tick end) end) ≡ some end
  -- a variable's copies are all counted: both(X, X) with 3 symbols for X has 7
  pub too_long : run Q (limits 6) 1 (replicate 99 0) (dup (tick (tick end))) ≡
      record { ending = Ending.full; rewrites = 0; entries = 2; granted = 0; kept = 0; term = dup (tick (tick end)) }
  pub just_fits : run Q (limits 7) 1 (replicate 99 0) (dup (tick (tick end))) ≡
      record { ending = Ending.finished; rewrites = 1; entries = 19; granted = 0; kept = 1; term = both (tick (tick end)) (tick (tick end)) }
  -- a WHOLE that is both spent and full is spent: the rewrite of `symbols_1025`, with budget 0
  pub spent_and_full : grow_page 4 0 ≡ tree_after "REDUCE 1\nend 1\nrewrites 0\nentries 2\ngranted 0\nkept 0\nterm 4"
  -- a rewrite forgets its own term's orders, here VISIT and WHOLE of the part dup(end), and no other
  pub forgotten : map (λ (m : Moment). m.state.units) (drop 2 (moments Q (limits 9) 1 (replicate 3 0) (tick (dup end)))) ≡
      (unit_state true (Order.visit (0 ∷ []) ∷ Order.whole [] 0 ∷ Order.bingo ∷ []) ∷ []) ∷ []
  -- no list given means (0), (1 0), (1 2 0); the empty list stays empty, and is written back as given
  pub lists_read : strategies lists_bytes ≡
      (Item.whole ∷ [])
      ∷ (Item.argument 0 ∷ Item.whole ∷ [])
      ∷ (Item.argument 0 ∷ Item.argument 1 ∷ Item.whole ∷ [])
      ∷ []
      ∷ []
  pub lists_written : written_of lists_bytes ≡ accepted lists_bytes
  -- pair(tick(end), tick(end)) is reduced, first the first argument (as a budget of 1 shows) and last the whole term
  pub none_given : lists_page (2 ∷ 1 ∷ 0 ∷ 1 ∷ 0 ∷ []) 9 ≡ ascii "REDUCE 1\nend 0\nrewrites 3\nentries 15\ngranted 0\nkept 0\nterm 0\n"
  pub first_argument : lists_page (2 ∷ 1 ∷ 0 ∷ 1 ∷ 0 ∷ []) 1 ≡ ascii "REDUCE 1\nend 1\nrewrites 1\nentries 10\ngranted 0\nkept 0\nterm 2 0 1 0\n"
  -- in shut(tick(end), tick(end)) nothing is
  pub empty_given : lists_page (3 ∷ 1 ∷ 0 ∷ 1 ∷ 0 ∷ []) 9 ≡ ascii "REDUCE 1\nend 0\nrewrites 0\nentries 2\ngranted 0\nkept 0\nterm 3 1 0 1 0\n"
  -- the idle units are 1, 2 and up at the start: the part is unit 1's, and unit 2 has nothing to do
  pub from_1_up : page_of (input (2 ∷ 0 ∷ 0 ∷ []) 3 9 (0 ∷ 0 ∷ 1 ∷ 1 ∷ 1 ∷ replicate 7 0)) ≡
      ascii "REDUCE 1\nend 0\nrewrites 1\nentries 11\ngranted 1\nkept 0\nterm 0\n"
  -- unit 1 has had a part and sleeps, so that unit 2 has been idle longer, and the next part is unit 2's
  pub longest_idle : page_of (input (2 ∷ 0 ∷ 2 ∷ 0 ∷ 0 ∷ []) 3 9 rested) ≡
      ascii "REDUCE 1\nend 0\nrewrites 2\nentries 20\ngranted 2\nkept 0\nterm 0\n"
  -- by the rule of Change 3 it was unit 1's, which has no entry left: the ending differs
  pub lowest_idle : run_by lowest P (limits 1024) 3 rested (both end (both end end)) ≡
      record { ending = Ending.cut; rewrites = 0; entries = 31; granted = 2; kept = 0; term = both end (both end end) }
  -- the queue after each entry: units 1 and 2 take a part each; unit 0 waits; it wakes and leaves its place; unit 1 sleeps; unit 0 waits again, at the end
  pub queues : map (λ (m : Moment). m.state.queue) (moments P (limits 9) 3 (replicate 7 0 ++ (1 ∷ 1 ∷ 1 ∷ 1 ∷ 0 ∷ [])) (both end (both end end))) ≡
      (1 ∷ 2 ∷ [])
      ∷ (2 ∷ [])
      ∷ (2 ∷ [])
      ∷ []
      ∷ []
      ∷ []
      ∷ (0 ∷ [])
      ∷ (0 ∷ [])
      ∷ (0 ∷ [])
      ∷ []
      ∷ (1 ∷ [])
      ∷ (1 ∷ 0 ∷ [])
      ∷ []
  -- the parts pending after each entry of that run, by their units, the latest first: unit 1's was placed before unit 2's, and exits before it
  pub placings : map (λ (m : Moment). m.state.placed) (moments P (limits 9) 3 (replicate 7 0 ++ (1 ∷ 1 ∷ 1 ∷ 1 ∷ 0 ∷ [])) (both end (both end end))) ≡
      []
      ∷ (1 ∷ [])
      ∷ (1 ∷ [])
      ∷ (2 ∷ 1 ∷ [])
      ∷ (2 ∷ 1 ∷ [])
      ∷ (2 ∷ 1 ∷ [])
      ∷ (2 ∷ 1 ∷ [])
      ∷ (2 ∷ 1 ∷ [])
      ∷ (2 ∷ 1 ∷ [])
      ∷ (2 ∷ [])
      ∷ (2 ∷ [])
      ∷ (2 ∷ [])
      ∷ []
  -- the page's run, parked after 10 entries, after 8 more, and resumed: it ends at entry 22 as the unbroken one does
  pub resumed : from_point none (λ s. some (run_from P (limits 9) 18 (replicate 9 0) s))
      (parked_parts P (limits 9) (replicate 10 0 ∷ replicate 8 0 ∷ []) (start 1 (both (tick end) (tick end)))) ≡
      some (record { ending = Ending.finished; rewrites = 2; entries = 22; granted = 0; kept = 2; term = tick (tick end) })
  -- at its end it isn't cut, so it isn't parked
  pub not_parked : parked P (limits 9) (replicate 22 0) (start 1 (both (tick end) (tick end))) ≡ none
  -- Change 14: S is 10 and F is 1; two units carry out S + 3 × F orders: unit 0 forks, does its own part and waits; unit 1 does the other, exits and sleeps; unit 0 goes
  -- on to BINGO
  pub orders_of_one : (orders_alone P 9 (both end end) 10 ≡ 10) × (forks_alone P 9 (both end end) 10 ≡ 1)
  pub most_orders_of_two : carried in_force P (limits 9) 2 (replicate 5 0 ++ (replicate 4 1 ++ replicate 4 0)) (both end end) ≡ 13
  -- unit 0 waits at its JOIN, and takes the FORK of unit 1
  pub unit_0_helps : page_of (input (2 ∷ 2 ∷ 0 ∷ 0 ∷ 0 ∷ []) 2 9 (0 ∷ 0 ∷ 0 ∷ 0 ∷ 0 ∷ 1 ∷ 1 ∷ [])) ≡
      ascii "REDUCE 1\nend 3\nrewrites 0\nentries 7\ngranted 2\nkept 0\nterm 2 2 0 0 0\n"
  -- every FORK accounted for: of the two, two units grant one and keep one, and one unit keeps both
  pub forks_of_two : page_of (input (2 ∷ 2 ∷ 0 ∷ 0 ∷ 0 ∷ []) 2 9 (turns 99)) ≡
      ascii "REDUCE 1\nend 0\nrewrites 2\nentries 29\ngranted 1\nkept 1\nterm 0\n"
  pub forks_of_one : page_of (input (2 ∷ 2 ∷ 0 ∷ 0 ∷ 0 ∷ []) 1 9 (replicate 99 0)) ≡
      ascii "REDUCE 1\nend 0\nrewrites 2\nentries 17\ngranted 0\nkept 2\nterm 0\n"
  -- a group of three: the first EXIT takes the JOIN's count from 2 to 1, and its unit stays idle; the second takes it to 0, and the JOIN passes
  pub three_parts : drop 5 (done three_bytes (1 ∷ 0 ∷ 0 ∷ 0 ∷ []) 3 (0 ∷ 0 ∷ 0 ∷ 0 ∷ 0 ∷ 0 ∷ 1 ∷ 1 ∷ 1 ∷ 0 ∷ 2 ∷ 2 ∷ 2 ∷ 0 ∷ [])) ≡
      Event.waited
      ∷ Event.visited
      ∷ Event.missed
      ∷ Event.exited (0 ∷ []) 0
      ∷ Event.idled
      ∷ Event.visited
      ∷ Event.missed
      ∷ Event.exited (1 ∷ []) 0
      ∷ Event.passed 0
      ∷ []
  -- so on the page: unit 1 waits for units 3 and 4. Unit 3 has exited: unit 1 is idle, and takes the FORK of unit 0's last entry
  pub still_idle : three_page (0 ∷ 0 ∷ 0 ∷ 1 ∷ 1 ∷ 1 ∷ 1 ∷ 1 ∷ 1 ∷ 3 ∷ 3 ∷ 3 ∷ 0 ∷ 0 ∷ []) ≡
      ascii "REDUCE 1\nend 3\nrewrites 0\nentries 14\ngranted 5\nkept 0\nterm 1 1 0 0 0 0 1 0 0 0\n"
  -- both have: unit 1 is busy, and nobody takes it
  pub awake : three_page (0 ∷ 0 ∷ 0 ∷ 1 ∷ 1 ∷ 1 ∷ 1 ∷ 1 ∷ 1 ∷ 3 ∷ 3 ∷ 3 ∷ 4 ∷ 4 ∷ 4 ∷ 0 ∷ 0 ∷ []) ≡
      ascii "REDUCE 1\nend 3\nrewrites 0\nentries 17\ngranted 4\nkept 1\nterm 1 1 0 0 0 0 1 0 0 0\n"
  -- the outer JOIN's part exits and its unit wakes; on top of that unit is the inner JOIN, whose part has not exited
  pub woken : drop 9 (events (moments P (limits 9) 3 (0 ∷ 0 ∷ 0 ∷ 0 ∷ 0 ∷ 0 ∷ 0 ∷ 1 ∷ 1 ∷ 1 ∷ 0 ∷ []) (both end (both end end)))) ≡
      Event.exited (0 ∷ []) 0 ∷ Event.waited ∷ []

pub runs : Runs
unfolding carried longest ascii input turns page_of read_book written_of rewrite run run_by run_from lowest moments events parked parked_parts from_point start strategies grow_page tree_after lists_page done three_page
runs = record {
  first_general = refl;
  first_special = refl;
  too_long = refl;
  just_fits = refl;
  spent_and_full = refl;
  forgotten = refl;
  lists_read = refl;
  lists_written = refl;
  none_given = refl;
  first_argument = refl;
  empty_given = refl;
  from_1_up = refl;
  longest_idle = refl;
  lowest_idle = refl;
  queues = refl;
  placings = refl;
  resumed = refl;
  not_parked = refl;
  orders_of_one = (refl, refl);
  most_orders_of_two = refl;
  unit_0_helps = refl;
  forks_of_two = refl;
  forks_of_one = refl;
  three_parts = refl;
  still_idle = refl;
  awake = refl;
  woken = refl;
}

-- All of them

pub record Examples : Type 0 where
  pub numbers : Refusals
  pub order : Precedence
  pub bounds : Bounds
  pub repeated : Repeated
  pub finished : Finished
  pub runs : Runs

pub examples : Examples
examples = record { numbers = refusals; order = precedence; bounds = bounds; repeated = repeated; finished = finished; runs = runs }
