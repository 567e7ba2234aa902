-- Document 02, Change 1, on inputs that show it, all computed, and from bytes: each of the 256 bytes' classes, squeezed texts and their terms, exactly
-- when 19 and 18 are told, which of two faults is, and the second program's pages. Assumes nothing.
use mathlib.Core.List.{List, [], ◌∷◌, ◌++◌, map}
use mathlib.Core.Path.{◌≡◌, refl}
use Prim.Native.Nat.{ℕ}
use lib.ListN.{replicate}
use Rattle.paper.specs.Result.{Result, refused}
use Rattle.paper.specs.Text.{class, squeezed}
use Rattle.paper.specs.Run.{Answer}
use Rattle.paper.specs.Page.{answer_by, payee_of, payee_page_of}
use Rattle.paper.proofs.Classes.{from}
use Rattle.paper.proofs.Starred.{ascii, PBytes, input_on}
use Rattle.paper.proofs.Examples.{refusal, published, cut_at_once, end_finished, times}

-- Books and pages

-- 43 operators, no list given, no rule: of four bits each, 0 and 1 in the byte `first`, 2 to 41 two a byte, 42 in the high half of the byte `last`, whose
-- other half is the rule count's. `end` is 0 in hexadecimal, a class 2.
unfoldable pub classes : ℕ → ℕ → List ℕ
classes first last = 0x2b ∷ first ∷ (replicate 20 0x22 ++ (last ∷ 0x00 ∷ []))

unfoldable pub class_book : List ℕ
unfolding classes
class_book = classes 0x02 0x20

-- with the rule c(X) gives X
unfoldable pub rule_book : List ℕ
rule_book = 0x2b ∷ 0x02 ∷ (replicate 20 0x22 ++ (0x20 ∷ 0x10 ∷ 0x1c ∷ 0x20 ∷ []))

-- 44 operators, the last one of arity 2; 42 operators
unfoldable pub more_book : List ℕ
more_book = 0x2c ∷ 0x02 ∷ (replicate 20 0x22 ++ (0x24 ∷ 0x00 ∷ []))

unfoldable pub less_book : List ℕ
less_book = 0x2a ∷ 0x02 ∷ (replicate 20 0x22 ++ (0x00 ∷ []))

-- the page for a book and a text, asked with one unit and some entries
unfoldable pub text_page : List ℕ → List ℕ → ℕ → List ℕ
unfolding input_on payee_page_of
text_page book text entries = payee_page_of (input_on book text 1 9 (replicate entries 0))

-- the page of a text's term with no entry, by what it writes of the classes
unfoldable pub not_run : List ℕ → List ℕ
unfolding ascii
not_run symbols = ascii "REDUCE 1\nend 3\nrewrites 0\nentries 0\ngranted 0\nkept 0\nterm" ++ (symbols ++ ascii " 0\n")

-- the library's answer for no entry, by book, text, units, and the lengths of work area, net and output
unfoldable pub payee : List ℕ → List ℕ → ℕ → ℕ → ℕ → ℕ → Result Answer
unfolding answer_by
payee book text units work net output =
    payee_of published (record { book = book; line = text; units = units; budget = 9; day = 0; schedule = []; work = work; net = net; output = output })

-- CLASSES, by the letters themselves: a character's code is its byte in ISO 8859-1

pub record Table : Type 0 where
  pub capitals : map class (ascii "ABCDEFGHIJKLMNOPQRSTUVWXYZ") ≡ from 1 26
  pub small : map class (ascii "abcdefghijklmnopqrstuvwxyz") ≡ from 1 26
  pub digits : map class (ascii "0123456789") ≡ from 32 10
  pub a : map class (ascii "ÀÁÂÃÄÅàáâãäå") ≡ replicate 12 1
  pub c : map class (ascii "Çç") ≡ replicate 2 3
  pub e : map class (ascii "ÈÉÊËèéêë") ≡ replicate 8 5
  pub i : map class (ascii "ÌÍÎÏìíîï") ≡ replicate 8 9
  pub n : map class (ascii "Ññ") ≡ replicate 2 14
  pub o : map class (ascii "ÒÓÔÕÖòóôõö") ≡ replicate 10 15
  pub u : map class (ascii "ÙÚÛÜùúûü") ≡ replicate 8 21
  pub y : map class (ascii "Ýýÿ") ≡ replicate 3 25
  pub others : map class (ascii "ÆÐØÞæðøþß") ≡ from 27 4 ++ (from 27 4 ++ (31 ∷ []))
  -- times and divided by, and all bytes that are left
  pub signs : map class (ascii "×÷") ≡ 0 ∷ 0 ∷ []
  pub separators : map class (from 0x00 0x30 ++ (from 0x3a 7 ++ (from 0x5b 6 ++ from 0x7b 0x45))) ≡ replicate 130 0

pub table : Table
unfolding ascii class
table = record {
  capitals = refl;
  small = refl;
  digits = refl;
  a = refl;
  c = refl;
  e = refl;
  i = refl;
  n = refl;
  o = refl;
  u = refl;
  y = refl;
  others = refl;
  signs = refl;
  separators = refl;
}

-- TERMS

pub record Terms : Type 0 where
  -- c a f e, a gap, b a r
  pub accents : squeezed (ascii "Café-Bar ") ≡ 3 ∷ 1 ∷ 6 ∷ 5 ∷ 42 ∷ 2 ∷ 1 ∷ 18 ∷ []
  pub accents_page : text_page class_book (ascii "Café-Bar ") 0 ≡ not_run (ascii " 3 1 6 5 42 2 1 18")
  -- no byte, separators alone: `end`
  pub no_byte : text_page class_book [] 3 ≡ end_finished
  pub separators_alone : text_page class_book (ascii " -×÷- ") 3 ≡ end_finished
  -- a run of separators is one gap, and none is at the ends
  pub one_gap : squeezed (0x00 ∷ (ascii "...Fa. Meier & Söhne, 8001 Zürich!\r\n")) ≡ squeezed (ascii "FA MEIER SOHNE 8001 ZURICH")
  pub long_gap : squeezed (0x41 ∷ (replicate 30000 0x20 ++ (0x42 ∷ []))) ≡ 1 ∷ 42 ∷ 2 ∷ []
  -- a run from a text: c(a(b(end))) becomes a(b(end))
  pub rewritten : text_page rule_book (ascii "Çab") 99 ≡ ascii "REDUCE 1\nend 0\nrewrites 1\nentries 10\ngranted 0\nkept 0\nterm 1 2 0\n"

pub terms : Terms
unfolding ascii squeezed text_page not_run class_book rule_book end_finished
terms = record { accents = refl; accents_page = refl; no_byte = refl; separators_alone = refl; one_gap = refl; long_gap = refl; rewritten = refl }

-- REFUSALS

pub record Numbers : Type 0 where
  -- 19: 42 operators; `end` of arity 1; class 1 of arity 0, of 2; class 42 of arity 0, of 2
  pub operators_42 : text_page less_book [] 0 ≡ refusal "19"
  pub end_1 : text_page (classes 0x22 0x20) [] 0 ≡ refusal "19"
  pub first_0 : text_page (classes 0x00 0x20) [] 0 ≡ refusal "19"
  pub first_2 : text_page (classes 0x04 0x20) [] 0 ≡ refusal "19"
  pub last_0 : text_page (classes 0x02 0x00) [] 0 ≡ refusal "19"
  pub last_2 : text_page (classes 0x02 0x40) [] 0 ≡ refusal "19"
  -- an operator after 42 may have any arity
  pub operators_44 : text_page more_book [] 3 ≡ end_finished
  -- 18: 1,024 letters; 513 letters with gaps between
  pub letters_1024 : text_page class_book (replicate 1024 0x41) 0 ≡ refusal "18"
  pub words_513 : text_page class_book (times 513 (0x41 ∷ 0x20 ∷ [])) 0 ≡ refusal "18"
  -- 1,023 letters fit, as they do in a text of 11,023 bytes; so do 512 with gaps between
  pub letters_1023 : text_page class_book (replicate 1023 0x41) 0 ≡ not_run (times 1023 (ascii " 1"))
  pub padded_1023 : text_page class_book (replicate 5000 0x20 ++ (replicate 1023 0x41 ++ replicate 5000 0x20)) 0 ≡ not_run (times 1023 (ascii " 1"))
  pub words_512 : text_page class_book (times 512 (0x41 ∷ 0x20 ∷ [])) 0 ≡ not_run (ascii " 1" ++ times 511 (ascii " 42 1"))
  -- 14: one unit and an entry 1; 17: no book length
  pub entry_1 : payee_page_of (input_on class_book [] 1 9 (1 ∷ [])) ≡ refusal "14"
  pub no_input : payee_page_of [] ≡ refusal "17"

pub numbers : Numbers
unfolding ascii times classes class_book more_book less_book input_on text_page not_run refusal end_finished payee_page_of
numbers = record {
  operators_42 = refl;
  end_1 = refl;
  first_0 = refl;
  first_2 = refl;
  last_0 = refl;
  last_2 = refl;
  operators_44 = refl;
  letters_1024 = refl;
  words_513 = refl;
  letters_1023 = refl;
  padded_1023 = refl;
  words_512 = refl;
  entry_1 = refl;
  no_input = refl;
}

-- Which of two faults is told: 13 before 15; 15, of the work area and of the net's, before 16; 16 before the book's 2; the book's 9 before 19; 19
-- before 18; 19 and 18 before 14
pub record Precedence : Type 0 where
  pub units_work : payee class_book [] 9 0 0 1024 ≡ refused 13
  pub work_output : payee class_book [] 1 0 3840 0 ≡ refused 15
  pub net_output : payee class_book [] 1 24624 0 0 ≡ refused 15
  pub output_book : payee (0x00 ∷ []) [] 1 24624 3840 0 ≡ refused 16
  pub book_classes : text_page (0x01 ∷ 0x00 ∷ 0x01 ∷ []) [] 0 ≡ refusal "9"
  pub classes_long : text_page PBytes (replicate 1024 0x41) 0 ≡ refusal "19"
  pub classes_entry : payee_page_of (input_on PBytes [] 1 9 (1 ∷ [])) ≡ refusal "19"
  pub long_entry : payee_page_of (input_on class_book (replicate 1024 0x41) 1 9 (1 ∷ [])) ≡ refusal "18"
  -- and none of them
  pub faultless : payee class_book [] 1 24624 3840 1024 ≡ cut_at_once

pub precedence : Precedence
unfolding class_book input_on text_page payee refusal payee_page_of
precedence = record {
  units_work = refl;
  work_output = refl;
  net_output = refl;
  output_book = refl;
  book_classes = refl;
  classes_long = refl;
  classes_entry = refl;
  long_entry = refl;
  faultless = refl;
}

-- All of them

pub record Payees : Type 0 where
  pub classes : Table
  pub terms : Terms
  pub numbers : Numbers
  pub order : Precedence

pub payees : Payees
payees = record { classes = table; terms = terms; numbers = numbers; order = precedence }
