-- Strict books (document 02, Change 13: "A strict profile admits a book only if no term is matched by two rules, decided for left sides without
-- repeated variables and over terms the book can form"): the check with 24 and 25, the pair of rules that it finds and a term that both match;
-- terms that a book can form, terms that two rules match, rules rearranged. Assumes nothing.
use Rattle.std.specs.Prelude.{Bool, true, false, List, [], ◌∷◌, ◌⊎◌, ◌≢◌, ◌≡◌, ℕ, suc, ◌<◌, eqb, length}
use Rattle.std.proofs.Math.Option.{Option, none, some}
use Rattle.std.proofs.Math.ListN.{get_elem?}
use Rattle.paper.specs.Result.{Result, refused, accepted, if}
use Rattle.paper.specs.Tree.{node, Forest, nil, cons, preorder, Correct}
use Rattle.paper.specs.Strategy.{has}
use Rattle.paper.specs.Book.{Operator, Symbol, Term, Side, Rule, Book, arity}
use Rattle.paper.specs.Reader.{variables}
use Rattle.paper.specs.Dated.{AnyBook, read_any}
use Rattle.paper.specs.Match.{fill, Matches}
use Rattle.paper.specs.Sound.{In, All}

-- WHAT IS DECIDED FOR WHICH BOOKS

-- does no number stand twice?
unfoldable pub once : List ℕ → Bool
unfolding has
once [] = true
once (v ∷ vs) = elim (has v vs) [ true ↦ false | false ↦ once vs ]

-- has the rule no variable repeated in its left side?
unfoldable pub linear : Rule → Bool
unfolding once variables preorder
linear r = once (variables (preorder r.left))

unfoldable pub all_linear : List Rule → Bool
unfolding linear
all_linear [] = true
all_linear (r ∷ rs) = elim (linear r) [ true ↦ all_linear rs | false ↦ false ]

-- is there an operator of arity 0?
unfoldable pub has_constant : List Operator → Bool
has_constant [] = false
has_constant (o ∷ ops) = elim (eqb o.arity 0) [ true ↦ true | false ↦ has_constant ops ]

-- can the profile decide of the book?
unfoldable pub eligible : Book → Bool
unfolding all_linear has_constant
eligible B = if (all_linear B.rules) (has_constant B.operators) false

-- THE CHECK

-- do two sides agree position by position, a variable agreeing with every part?
unfoldable mutual
  pub compatible : Side → Side → Bool
  compatible (node (Symbol.operator o) ss) (node (Symbol.operator p) us) = elim (eqb o p) [ true ↦ compatibles ss us | false ↦ false ]
  compatible (node (Symbol.operator o) ss) (node (Symbol.variable w) us) = true
  compatible (node (Symbol.variable v) ss) u = true

  pub compatibles : Forest Symbol → Forest Symbol → Bool
  compatibles nil nil = true
  compatibles nil (cons u us) = false
  compatibles (cons s ss) nil = false
  compatibles (cons s ss) (cons u us) = elim (compatible s u) [ true ↦ compatibles ss us | false ↦ false ]

-- the numbers of two rules, counted from 0 in book order
pub record Pair : Type 0 where
  pub first : ℕ
  pub second : ℕ

-- the first of the rules numbered from j on whose left side is compatible with l
unfoldable pub overlap_with : Side → ℕ → List Rule → Option ℕ
unfolding compatible
overlap_with l j [] = none
overlap_with l j (r ∷ rs) = elim (compatible l r.left) [ true ↦ some j | false ↦ overlap_with l (suc j) rs ]

-- of the rules numbered from i on, the first two that are compatible: the lowest first rule, and to it the lowest second
unfoldable pub overlap_from : ℕ → List Rule → Option Pair
unfolding overlap_with
overlap_from i [] = none
overlap_from i (r ∷ rs) =
    elim (overlap_with r.left (suc i) rs) [ none ↦ overlap_from (suc i) rs | some j ↦ some (record { first = i; second = j }) ]

unfoldable pub overlap_of : List Rule → Option Pair
unfolding overlap_from
overlap_of rs = overlap_from 0 rs

-- what the profile says of a book: refused by a number, or two rules that match one term, or admitted
pub data Verdict : Type 0 where
  faulty : ℕ → Verdict
  overlapping : ℕ → ℕ → Verdict
  admitted : Verdict

unfoldable pub told : Option Pair → Verdict
told none = Verdict.admitted
told (some p) = Verdict.overlapping p.first p.second

-- 24: a variable repeated in a left side, or no operator of arity 0
unfoldable pub strict_book : Book → Verdict
unfolding eligible overlap_of told
strict_book B = elim (eligible B) [ true ↦ told (overlap_of B.rules) | false ↦ Verdict.faulty 24 ]

-- 24: a dated book
unfoldable pub strict_any : AnyBook → Verdict
unfolding strict_book
strict_any (AnyBook.undated B) = strict_book B
strict_any (AnyBook.dated D) = Verdict.faulty 24

-- "both after the book's own numbers"
unfoldable pub strict_read : Result AnyBook → Verdict
unfolding strict_any
strict_read (refused k) = Verdict.faulty k
strict_read (accepted A) = strict_any A

-- of a book's bytes
unfoldable pub strict_of : List ℕ → Verdict
unfolding strict_read read_any
strict_of bytes = strict_read (read_any bytes)

-- the number by which a book is refused; 25: some term has two matching rules
unfoldable pub strict_number : Verdict → Option ℕ
strict_number (Verdict.faulty k) = some k
strict_number (Verdict.overlapping i j) = some 25
strict_number Verdict.admitted = none

-- A TERM THAT BOTH MATCH

-- two compatible sides put together: where one has a variable the other decides
unfoldable mutual
  pub merge : Side → Side → Side
  merge (node (Symbol.operator o) ss) (node (Symbol.operator p) us) = node (Symbol.operator o) (merges ss us)
  merge (node (Symbol.operator o) ss) (node (Symbol.variable w) us) = node (Symbol.operator o) ss
  merge (node (Symbol.variable v) ss) u = u

  pub merges : Forest Symbol → Forest Symbol → Forest Symbol
  merges nil us = nil
  merges (cons s ss) nil = nil
  merges (cons s ss) (cons u us) = cons (merge s u) (merges ss us)

-- the first operator of arity 0, where there is one
unfoldable pub first_constant : List Operator → ℕ
first_constant [] = 0
first_constant (o ∷ ops) = elim (eqb o.arity 0) [ true ↦ 0 | false ↦ suc (first_constant ops) ]

-- the term with c for each variable that is left
unfoldable pub common : ℕ → Side → Side → Term
unfolding merge fill
common c s u = fill (λ v. node c nil) (merge s u)

unfoldable pub witness : Book → Rule → Rule → Term
unfolding first_constant common
witness B r q = common (first_constant B.operators) r.left q.left

-- WHAT IS CLAIMED

-- some number stands at two places
abbrev pub Repeated : List ℕ → Type 0
Repeated vs = (v : ℕ) × (i : ℕ) × (j : ℕ) × (i ≢ j) × (get_elem? vs i ≡ some v) × (get_elem? vs j ≡ some v)

-- what an undated book is refused by 24 for: a variable repeated in a left side, or no operator of arity 0
abbrev pub Unfit : Book → Type 0
Unfit B = ((r : Rule) × In r B.rules × Repeated (variables (preorder r.left))) ⊎ All (λ o. o.arity ≢ 0) B.operators

-- a term that the book can form: its operators are the book's, and have their arities
pub record Formed (B : Book) (t : Term) : Type 0 where
  pub correct : Correct (arity B) t
  pub known : All (λ o. o < length B.operators) (preorder t)

-- rule i matches the term
pub record MatchedBy (rs : List Rule) (t : Term) (i : ℕ) : Type 0 where
  pub rule : Rule
  pub place : get_elem? rs i ≡ some rule
  pub matches : Matches rule.left t

-- two rules match the term; two with the same left side are two
abbrev pub MatchedTwice : List Rule → Term → Type 0
MatchedTwice rs t = (i : ℕ) × (j : ℕ) × (i ≢ j) × MatchedBy rs t i × MatchedBy rs t j

-- some term that the book can form has two matching rules
abbrev pub Overlaps : Book → Type 0
Overlaps B = (t : Term) × Formed B t × MatchedTwice B.rules t

-- one list is the other rearranged
pub data Rearranged {A : Type 0} : List A → List A → Type 0 where
  nothing : Rearranged [] []
  behind : {xs ys : List A} (x : A) → Rearranged xs ys → Rearranged (x ∷ xs) (x ∷ ys)
  swapped : (x y : A) (xs : List A) → Rearranged (x ∷ y ∷ xs) (y ∷ x ∷ xs)
  through : {xs ys zs : List A} → Rearranged xs ys → Rearranged ys zs → Rearranged xs zs

-- one book is the other with its rules rearranged
pub record SameRules (B C : Book) : Type 0 where
  pub operators : B.operators ≡ C.operators
  pub rules : Rearranged B.rules C.rules

-- bytes that read as two such books
pub record SameBooks (bytes bytes' : List ℕ) : Type 0 where
  pub book : Book
  pub book' : Book
  pub read : read_any bytes ≡ accepted (AnyBook.undated book)
  pub read' : read_any bytes' ≡ accepted (AnyBook.undated book')
  pub same : SameRules book book'
