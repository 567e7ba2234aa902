-- A payee's text as a term (document 02, Change 1): each byte's class, the classes squeezed, and the reader that takes a text where a line's term
-- stands. Assumes nothing.
use Rattle.std.specs.Prelude.{Bool, true, false, List, [], ◌∷◌, ◌++◌, map, ℕ, zero, suc, ◌+◌, ◌-◌, eqb, ltb, leb, length}
use Rattle.std.proofs.Math.Option.{Option, none, some}
use Rattle.paper.specs.Result.{Result, if}
use Rattle.paper.specs.Tree.{node, nil, cons}
use Rattle.paper.specs.Book.{Term, Book, arity}
use Rattle.paper.specs.Line.{symbol_limit, unless_fault}

-- CLASSES

-- bytes from a first to a last one, all of one class, or each of its own, counted up from the first one's
pub data Range : Type 0 where
  alike : ℕ → ℕ → ℕ → Range
  apart : ℕ → ℕ → ℕ → Range

-- the capital letters: A to Z, accented ones with their base letter, then the four that have none
abbrev pub capitals : List Range
capitals =
    Range.apart 0x41 0x5A 1
    ∷ Range.alike 0xC0 0xC5 1
    ∷ Range.alike 0xC7 0xC7 3
    ∷ Range.alike 0xC8 0xCB 5
    ∷ Range.alike 0xCC 0xCF 9
    ∷ Range.alike 0xD1 0xD1 14
    ∷ Range.alike 0xD2 0xD6 15
    ∷ Range.alike 0xD9 0xDC 21
    ∷ Range.alike 0xDD 0xDD 25
    ∷ Range.alike 0xC6 0xC6 27
    ∷ Range.alike 0xD0 0xD0 28
    ∷ Range.alike 0xD8 0xD8 29
    ∷ Range.alike 0xDE 0xDE 30
    ∷ []

-- the small ones, 20 (hexadecimal) higher
abbrev pub small : Range → Range
small (Range.alike first last c) = Range.alike (first + 0x20) (last + 0x20) c
small (Range.apart first last c) = Range.apart (first + 0x20) (last + 0x20) c

-- y with two dots and sharp s have no capital; then the digits 0 to 9
abbrev pub others : List Range
others = Range.alike 0xFF 0xFF 25 ∷ Range.alike 0xDF 0xDF 31 ∷ Range.apart 0x30 0x39 32 ∷ []

abbrev pub ranges : List Range
ranges = capitals ++ (map small capitals ++ others)

abbrev pub within : ℕ → ℕ → ℕ → Bool
within first last b = if (leb first b) (leb b last) false

-- the class of a byte by ranges of which at most one has it; 0 if none has: it separates
unfoldable pub class_by : List Range → ℕ → ℕ
class_by [] b = 0
class_by (Range.alike first last c ∷ rs) b = if (within first last b) c (class_by rs b)
class_by (Range.apart first last c ∷ rs) b = if (within first last b) (c + (b - first)) (class_by rs b)

unfoldable pub class : ℕ → ℕ
unfolding class_by
class b = class_by ranges b

-- SQUEEZING

-- the class of a run of separators between letters or digits
abbrev pub gap : ℕ
gap = 42

-- what stands before a byte: no letter or digit yet; one just before it; one, and separators behind it
pub data Before : Type 0 where
  nothing : Before
  letter : Before
  separators : Before

-- with one separator more
abbrev pub separated : Before → Before
separated Before.nothing = Before.nothing
separated Before.letter = Before.separators
separated Before.separators = Before.separators

-- what a letter or digit puts in front of itself
abbrev pub parted : Before → List ℕ → List ℕ
parted Before.nothing cs = cs
parted Before.letter cs = cs
parted Before.separators cs = gap ∷ cs

-- separators at the ends are dropped, each run between letters or digits becomes one gap
unfoldable pub squeeze : Before → List ℕ → List ℕ
squeeze b [] = []
squeeze b (zero ∷ cs) = squeeze (separated b) cs
squeeze b (suc c ∷ cs) = parted b (suc c ∷ squeeze Before.letter cs)

unfoldable pub squeezed : List ℕ → List ℕ
unfolding squeeze class
squeezed text = squeeze Before.nothing (map class text)

-- THE TERM

-- an operator of one argument for each class, and 0 (`end`) last
unfoldable pub chain : List ℕ → Term
chain [] = node 0 nil
chain (c ∷ cs) = node c (cons (chain cs) nil)

-- do the n operators from o on have one argument each?
unfoldable pub one_argument : (ℕ → ℕ) → ℕ → ℕ → Bool
one_argument arity' zero o = true
one_argument arity' (suc n) o = if (eqb (arity' o) 1) (one_argument arity' n (suc o)) false

-- are there operators 0 to 42, `end` without argument, the classes with one?
unfoldable pub has_classes : ℕ → (ℕ → ℕ) → Bool
unfolding one_argument
has_classes n arity' = if (ltb n 43) false (if (eqb (arity' 0) 0) (one_argument arity' 42 1) false)

-- by how many operators there are, and their arities. 19: operators 0 to 42 lack these arities; then 18: the term would pass 1,024 symbols
unfoldable pub text_fault : ℕ → (ℕ → ℕ) → List ℕ → Option ℕ
unfolding has_classes squeezed
text_fault n arity' text = if (has_classes n arity') (if (ltb symbol_limit (suc (length (squeezed text)))) (some 18) none) (some 19)

unfoldable pub read_text : Book → List ℕ → Result Term
unfolding text_fault unless_fault chain squeezed
read_text B text = unless_fault (text_fault (length B.operators) (arity B) text) (chain (squeezed text))
