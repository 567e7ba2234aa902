-- Document 02, Change 13, on books that show it, all computed, and from bytes: books that are admitted, pairs that are told with the term that both
-- rules match, the numbers 24 and 25 and what is told before them, and a run by rearranged rules. Assumes nothing.
use mathlib.Core.List.{List, [], ◌∷◌, ◌++◌, map}
use mathlib.Core.Option.{some}
use mathlib.Core.Path.{◌≡◌, refl}
use lib.ListN.{take, drop, replicate}
use Rattle.paper.specs.Book.{Symbol, Side, Rule, Book}
use Rattle.paper.specs.Writer.{write_book}
use Rattle.paper.specs.Page.{page_of}
use Rattle.paper.specs.Strict.{Verdict, strict_of, strict_number, witness}
use Rattle.paper.proofs.Starred.{PBytes, PLine, input_on, none_of, one_of, two_of, x, y, POperators, P, end, tick, both}
use Rattle.paper.proofs.Days.{three_days}

-- P's operators in sides
abbrev pub end' : Side
end' = none_of (Symbol.operator 0)

abbrev pub tick' : Side → Side
tick' s = one_of (Symbol.operator 1) s

abbrev pub both' : Side → Side → Side
both' s u = two_of (Symbol.operator 2) s u

-- a rule that gives `end`
abbrev pub ends : Side → Rule
ends l = record { left = l; right = end' }

-- what is said of the bytes of a book on P's operators whose rules have these left sides
unfoldable pub said : List Side → Verdict
unfolding strict_of write_book
said ls = strict_of (write_book (record { operators = POperators; rules = map ends ls }))

-- P with its rules in the other order
abbrev pub PExchanged : Book
PExchanged = record { operators = POperators; rules = drop 1 P.rules ++ take 1 P.rules }

pub record StrictCases : Type 0 where
  -- admitted: P; no rule; other roots; roots alike and other operators below
  pub book_P : strict_of PBytes ≡ Verdict.admitted
  pub no_rule : said [] ≡ Verdict.admitted
  pub other_roots : said (tick' x ∷ both' x y ∷ end' ∷ []) ≡ Verdict.admitted
  pub other_below : said (tick' end' ∷ tick' (tick' x) ∷ tick' (both' x y) ∷ []) ≡ Verdict.admitted
  -- a special rule beside a general one, whichever stands first
  pub general_first : said (both' x y ∷ both' end' y ∷ []) ≡ Verdict.overlapping 0 1
  pub special_first : said (both' end' y ∷ both' x y ∷ []) ≡ Verdict.overlapping 0 1
  pub its_number : strict_number (said (both' end' y ∷ both' x y ∷ [])) ≡ some 25
  pub its_term : witness P (ends (both' end' y)) (ends (both' x y)) ≡ both end end
  -- two rules of which neither is more special
  pub crossing : said (both' (tick' x) y ∷ both' x (tick' y) ∷ []) ≡ Verdict.overlapping 0 1
  pub crossing_term : witness P (ends (both' (tick' x) y)) (ends (both' x (tick' y))) ≡ both (tick end) (tick end)
  -- the same left side twice, and with other names
  pub same_side : said (tick' end' ∷ tick' end' ∷ []) ≡ Verdict.overlapping 0 1
  pub same_renamed : said (both' x y ∷ both' y x ∷ []) ≡ Verdict.overlapping 0 1
  -- not neighbours; of several pairs the one with the lowest first rule, and to it the lowest second
  pub not_neighbours : said (both' end' y ∷ tick' x ∷ both' x end' ∷ []) ≡ Verdict.overlapping 0 2
  pub lowest_pair : said (end' ∷ tick' x ∷ both' x y ∷ both' x end' ∷ tick' end' ∷ tick' y ∷ []) ≡ Verdict.overlapping 1 4
  -- 24: a variable repeated, in whichever rule, and before 25; no operator of arity 0; a dated book
  pub repeated : said (both' x x ∷ []) ≡ Verdict.faulty 24
  pub repeated_later : said (tick' x ∷ tick' x ∷ both' (tick' y) (tick' y) ∷ []) ≡ Verdict.faulty 24
  pub no_constant : strict_of (0x01 ∷ 0x20 ∷ 0x00 ∷ []) ≡ Verdict.faulty 24
  pub dated : strict_of three_days ≡ Verdict.faulty 24
  -- the book's own numbers before
  pub own_number : strict_of (0x00 ∷ []) ≡ Verdict.faulty 1
  pub own_number_dated : strict_of (three_days ++ (0x00 ∷ [])) ≡ Verdict.faulty 9
  pub own_number_no_constant : strict_of (0x01 ∷ 0x20 ∷ 0x00 ∷ 0x00 ∷ []) ≡ Verdict.faulty 9
  -- P's page with two units, its rules exchanged
  pub exchanged_admitted : strict_of (write_book PExchanged) ≡ Verdict.admitted
  pub exchanged_page : page_of (input_on (write_book PExchanged) PLine 2 9 (replicate 30 0 ++ replicate 60 1))
      ≡ page_of (input_on PBytes PLine 2 9 (replicate 30 0 ++ replicate 60 1))

pub strict_cases : StrictCases
unfolding said strict_of strict_number witness write_book input_on page_of
strict_cases = record {
  book_P = refl;
  no_rule = refl;
  other_roots = refl;
  other_below = refl;
  general_first = refl;
  special_first = refl;
  its_number = refl;
  its_term = refl;
  crossing = refl;
  crossing_term = refl;
  same_side = refl;
  same_renamed = refl;
  not_neighbours = refl;
  lowest_pair = refl;
  repeated = refl;
  repeated_later = refl;
  no_constant = refl;
  dated = refl;
  own_number = refl;
  own_number_dated = refl;
  own_number_no_constant = refl;
  exchanged_admitted = refl;
  exchanged_page = refl;
}
