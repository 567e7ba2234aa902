-- A strict book's rules rearranged (document 02, Change 13: "For a strict book any rearrangement of its rules gives the same term, rewrites, entries and
-- grants under the same schedule"): the same rewrite of every term, over any symbols; hence the same run, entry by entry, by any grant rule, the same
-- reduction, and the same answer to every request. Assumes nothing.
use mathlib.Core.Bool.{Bool, true, false, true≢false}
use mathlib.Core.List.{List, [], ◌∷◌}
use mathlib.Core.Logic.{inl, inr, ◌↔◌}
use mathlib.Core.Option.{Option, none, some}
use mathlib.Core.Path.{◌≡◌, refl, sym, ap, ap₂, ◌∙◌, subst, fun_ext}
use Prim.Native.Nat.{ℕ, zero, suc, ◌+◌}
use lib.Dec.{eqb, ltb}
use lib.ListN.{length}
use Rattle.paper.specs.Result.{Result, refused, accepted, then}
use Rattle.paper.specs.Tree.{Tree, node, Forest, nil, cons, size, preorder, Position, subterm, replace}
use Rattle.paper.specs.Strategy.{Step}
use Rattle.paper.specs.Book.{Operator, Symbol, Term, Side, Rule, Book, arity_at}
use Rattle.paper.specs.Reader.{variables}
use Rattle.paper.specs.Dated.{AnyBook, read_any, write_any, on_day}
use Rattle.paper.specs.Writer.{write_book}
use Rattle.paper.specs.WellFormed.{GoodRule, GoodBook}
use Rattle.paper.specs.Line.{symbol_limit, line_fault, read_line}
use Rattle.paper.specs.Text.{read_text}
use Rattle.paper.specs.Match.{Symbols, Bindings, blank, fill_over, match_over, bound, rewrite_over, operators, rewrite}
use Rattle.paper.specs.Marks.{Marked, cells, to_do}
use Rattle.paper.specs.Reduction.{Weight, Task, Figure, visited, done, argument, fork, last, join, hit, miss, Reduces}
use Rattle.paper.specs.Walk.{Walk}
use Rattle.paper.specs.Machine.{Order, State, Limits, exceeds, Grant, in_force, unit, do_fork, do_join, do_rewrite, do_whole, carry_out_by, turn_by, entry_by, start}
use Rattle.paper.specs.Run.{Answer, run, after, run_from_by, run_by, on, moments_from_by, moments_by}
use Rattle.paper.specs.Sound.{All}
use Rattle.paper.specs.Page.{Request, Lengths, all_below, frame_fault, unless, run_checked, LineReader, answer_by, answer_of, payee_of}
use Rattle.paper.specs.Strict.{compatible, compatibles, Verdict, strict_book, strict_of, Repeated, Unfit, Rearranged, nothing, behind, swapped, through, SameRules, SameBooks}
use Rattle.paper.proofs.Lists.{all_in, all_of}
use Rattle.paper.proofs.Tests.{eqb_cases, eqb_true, eqb_false}
use Rattle.paper.proofs.Dated.{read_any_good, write_any_read}
use Rattle.paper.proofs.Compatible.{test_both, matched_compatible}
use Rattle.paper.proofs.Strict.{Clear, AllClear, Says, unfit, overlap, free, strict_says, clear_places, strict_undated}

-- RULES THAT ARE CLEAR OF ONE ANOTHER STAY SO

eqb_sym : (m n : ℕ) → eqb m n ≡ eqb n m
eqb_sym m n = elim (eqb_cases m n) [
  | inl p ↦ p.0 ∙ sym (eqb_true n m (sym p.1))
  | inr p ↦ p.0 ∙ sym (eqb_false n m (λ e. p.1 (sym e)))
]

mutual
  unfolding compatible

  compatible_sym : (s u : Side) → compatible s u ≡ compatible u s
  compatible_sym (node (Symbol.operator o) ss) (node (Symbol.operator p) us) = ap₂ test_both (eqb_sym o p) (compatibles_sym ss us)
  compatible_sym (node (Symbol.operator o) ss) (node (Symbol.variable w) us) = refl
  compatible_sym (node (Symbol.variable v) ss) (node (Symbol.operator p) us) = refl
  compatible_sym (node (Symbol.variable v) ss) (node (Symbol.variable w) us) = refl

  compatibles_sym : (ss us : Forest Symbol) → compatibles ss us ≡ compatibles us ss
  compatibles_sym nil nil = refl
  compatibles_sym nil (cons u us) = refl
  compatibles_sym (cons s ss) nil = refl
  compatibles_sym (cons s ss) (cons u us) = ap₂ test_both (compatible_sym s u) (compatibles_sym ss us)

all_rearranged : {A : Type 0} (P : A → Type 0) {xs ys : List A} → Rearranged xs ys → All P xs → All P ys
all_rearranged P nothing a = a
all_rearranged P (behind x r) (p, a) = (p, all_rearranged P r a)
all_rearranged P (swapped x y xs) (p, (q, a)) = (q, (p, a))
all_rearranged P (through r s) a = all_rearranged P s (all_rearranged P r a)

clear_rearranged : {rs qs : List Rule} → Rearranged rs qs → AllClear rs → AllClear qs
clear_rearranged nothing a = a
clear_rearranged (behind x r) (p, a) = (all_rearranged (Clear x) r p, clear_rearranged r a)
clear_rearranged (swapped x y xs) ((c, p), (q, a)) = ((compatible_sym y.left x.left ∙ c, q), (p, a))
clear_rearranged (through r s) a = clear_rearranged s (clear_rearranged r a)

-- THE SAME REWRITE

module _ {A : Type 0} (S : Symbols A) where
  -- what the rule r gives with a match, the others giving o
  abbrev chosen : Rule → Option (Bindings A) → Option (Tree A) → Option (Tree A)
  chosen r m o = elim m as (λ m. Option (Tree A)) [ none ↦ o | some f ↦ some (fill_over S (λ v. bound S (f v)) r.right) ]

  rewrite_rearranged : {rs qs : List Rule} → Rearranged rs qs → AllClear rs → (t : Tree A) → rewrite_over S rs t ≡ rewrite_over S qs t
  unfolding rewrite_over
  rewrite_rearranged nothing a t = refl
  rewrite_rearranged (behind x r) (p, a) t = ap (chosen x (match_over S x.left t blank)) (rewrite_rearranged r a t)
  rewrite_rearranged (swapped x y xs) ((c, p), (q, a)) t = go (match_over S x.left t blank) (match_over S y.left t blank) refl refl
    where
      go : (m n : Option (Bindings A)) → match_over S x.left t blank ≡ m → match_over S y.left t blank ≡ n →
          chosen x m (chosen y n (rewrite_over S xs t)) ≡ chosen y n (chosen x m (rewrite_over S xs t))
      go none n d e = refl
      go (some f) none d e = refl
      go (some f) (some g) d e = absurd (true≢false (sym (matched_compatible S x.left y.left t blank blank f g d e) ∙ c))
  rewrite_rearranged (through r s) a t = rewrite_rearranged r a t ∙ rewrite_rearranged s (clear_rearranged r a) t

-- THE SAME RUN

-- two lists of rules that rewrite every term alike
module _ (ops : List Operator) (rs qs : List Rule) (same : (t : Marked) → rewrite_over cells rs t ≡ rewrite_over cells qs t) where
  abbrev B : Book
  B = record { operators = ops; rules = rs }

  abbrev C : Book
  C = record { operators = ops; rules = qs }

  module _ (L : Limits) (u : ℕ) (s : State) (os : List Order) where
    whole_same : (p : Position) (k : ℕ) (x : Option Marked) → do_whole B L u s os p k x ≡ do_whole C L u s os p k x
    unfolding do_whole
    whole_same p k none = refl
    whole_same p k (some r) = go (eqb s.rewrites L.budget) (exceeds L.symbols (size (replace p r s.term)))
      where
        go : (spent over : Bool) → do_rewrite B L u s os p k r spent over ≡ do_rewrite C L u s os p k r spent over
        go true over = refl
        go false true = refl
        go false false = refl

    fork_same : (p : Position) (j : ℕ) (x : Option ℕ) → do_fork B L u s os p j x ≡ do_fork C L u s os p j x
    unfolding do_fork
    fork_same p j none = refl
    fork_same p j (some v) = refl

    join_same : (j c : ℕ) → do_join B L u s os j c ≡ do_join C L u s os j c
    unfolding do_join
    join_same j zero = refl
    join_same j (suc c) = refl

  module _ (G : Grant) (L : Limits) where
    carry_same : (u : ℕ) (s : State) (os : List Order) (o : Order) → carry_out_by G B L u s os o ≡ carry_out_by G C L u s os o
    unfolding carry_out_by
    carry_same u s os (Order.visit p) = refl
    carry_same u s os (Order.fork p j) = fork_same L u s os p j (G s)
    carry_same u s os (Order.join j c) = join_same L u s os j c
    carry_same u s os (Order.exit p j) = refl
    carry_same u s os (Order.whole p k) =
        ap (do_whole B L u s os p k) (same (subterm p s.term)) ∙ whole_same L u s os p k (rewrite_over cells qs (subterm p s.term))
    carry_same u s os Order.sleep = refl
    carry_same u s os Order.bingo = refl

    entry_same : (u : ℕ) (s : State) → entry_by G B L u s ≡ entry_by G C L u s
    unfolding entry_by
    entry_same u s = go (unit s.units u).busy (unit s.units u).list
      where
        go : (b : Bool) (os : List Order) → turn_by G B L u s b os ≡ turn_by G C L u s b os
        go false os = refl
        go true [] = refl
        go true (o ∷ os) = carry_same u s os o

    run_from_same : (n : ℕ) (us : List ℕ) (s : State) → run_from_by G B L n us s ≡ run_from_by G C L n us s
    unfolding run_from_by
    run_from_same n [] s = refl
    run_from_same n (u ∷ us) s = ap₂ (after n) (fun_ext (λ s. run_from_same (suc n) us s)) (entry_same u s)

    moments_from_same : (us : List ℕ) (s : State) → moments_from_by G B L us s ≡ moments_from_by G C L us s
    unfolding moments_from_by
    moments_from_same [] s = refl
    moments_from_same (u ∷ us) s = ap₂ on (fun_ext (λ s. moments_from_same us s)) (entry_same u s)

-- THE SAME REDUCTION

figure_same : (ops : List Operator) (rs qs : List Rule) → ((t : Term) → rewrite rs t ≡ rewrite qs t) → {w : Weight} {t u : Term} {k : Task} {n : ℕ} →
    Figure (record { operators = ops; rules = rs }) w t k n u → Figure (record { operators = ops; rules = qs }) w t k n u
figure_same ops rs qs same (visited r) = visited (figure_same ops rs qs same r)
figure_same ops rs qs same done = done
figure_same ops rs qs same (argument a q r) = argument a (figure_same ops rs qs same q) (figure_same ops rs qs same r)
figure_same ops rs qs same (fork r) = fork (figure_same ops rs qs same r)
figure_same ops rs qs same (last r) = last (figure_same ops rs qs same r)
figure_same ops rs qs same (join r) = join (figure_same ops rs qs same r)
figure_same ops rs qs same (hit {t = t} e r) = hit (sym (same t) ∙ e) (figure_same ops rs qs same r)
figure_same ops rs qs same (miss {t = t} e r) = miss (sym (same t) ∙ e) (figure_same ops rs qs same r)

walk_same : (ops : List Operator) (rs qs : List Rule) → ((t : Marked) → rewrite_over cells rs t ≡ rewrite_over cells qs t) →
    {w : Weight} {t u : Marked} {ss : List Step} {n : ℕ} →
    Walk (record { operators = ops; rules = rs }) w t ss n u → Walk (record { operators = ops; rules = qs }) w t ss n u
unfolding to_do
walk_same ops rs qs same Walk.stop = Walk.stop
walk_same ops rs qs same (Walk.visit a q r) = Walk.visit a (walk_same ops rs qs same q) (walk_same ops rs qs same r)
walk_same ops rs qs same (Walk.fork r) = Walk.fork (walk_same ops rs qs same r)
walk_same ops rs qs same (Walk.join r) = Walk.join (walk_same ops rs qs same r)
walk_same ops rs qs same (Walk.hit {t = t} e r) = Walk.hit (sym (same t) ∙ e) (walk_same ops rs qs same r)
walk_same ops rs qs same (Walk.miss {t = t} e r) = Walk.miss (sym (same t) ∙ e) (walk_same ops rs qs same r)

-- OF TWO BOOKS

-- the second book is the first with other rules
same_book : (B C : Book) → SameRules B C → C ≡ record { operators = B.operators; rules = C.rules }
same_book B C s = ap (λ (ops : List Operator). record { operators = ops; rules = C.rules }) (sym s.operators)

module _ (B C : Book) (strict : strict_book B ≡ Verdict.admitted) (s : SameRules B C) where
  says : Says B Verdict.admitted
  says = subst (Says B) strict (strict_says B)

  clear : AllClear B.rules
  clear = go says
    where
      go : Says B Verdict.admitted → AllClear B.rules
      go (free n c) = c

  -- the same rewrite of every term, with marks or without
  pub strict_rewrite : {A : Type 0} (S : Symbols A) (t : Tree A) → rewrite_over S B.rules t ≡ rewrite_over S C.rules t
  strict_rewrite S t = rewrite_rearranged S s.rules clear t

  -- the answer of a run: ending, rewrites, entries, grants, FORKs kept, term
  pub strict_run : (G : Grant) (L : Limits) (units : ℕ) (schedule : List ℕ) (t : Term) → run_by G B L units schedule t ≡ run_by G C L units schedule t
  unfolding run_by
  strict_run G L units schedule t =
      rw (same_book B C s) (run_from_same B.operators B.rules C.rules (strict_rewrite cells) G L 0 schedule (start units t))

  -- what each entry did, and the state that it left
  pub strict_moments : (G : Grant) (L : Limits) (units : ℕ) (schedule : List ℕ) (t : Term) →
      moments_by G B L units schedule t ≡ moments_by G C L units schedule t
  unfolding moments_by
  strict_moments G L units schedule t =
      rw (same_book B C s) (moments_from_same B.operators B.rules C.rules (strict_rewrite cells) G L schedule (start units t))

  -- reduction one after the other, and with marks
  pub strict_reduces : (w : Weight) (t u : Term) (n : ℕ) → Reduces B w t n u ↔ Reduces C w t n u
  unfolding rewrite
  strict_reduces w t u n = rw (same_book B C s) (
    figure_same B.operators B.rules C.rules (strict_rewrite operators),
    figure_same B.operators C.rules B.rules (λ t. sym (strict_rewrite operators t)),
  )

  pub strict_walks : (w : Weight) (t u : Marked) (ss : List Step) (n : ℕ) → Walk B w t ss n u ↔ Walk C w t ss n u
  strict_walks w t u ss n = rw (same_book B C s) (
    walk_same B.operators B.rules C.rules (strict_rewrite cells),
    walk_same B.operators C.rules B.rules (λ t. sym (strict_rewrite cells t)),
  )

  -- the rearranged book is strict again
  pub strict_again : strict_book C ≡ Verdict.admitted
  strict_again = go says (strict_says C)
    where
      Unrepeated : Rule → Type 0
      Unrepeated r = ¬ Repeated (variables (preorder r.left))

      fits : ¬ Unfit B → ¬ Unfit C
      fits n (inl (r, i, h)) =
          all_in Unrepeated r C.rules (all_rearranged Unrepeated s.rules (all_of Unrepeated B.rules (λ r i h. n (inl (r, i, h))))) i h
      fits n (inr a) = n (inr (rw s.operators a))

      go : {x : Verdict} → Says B Verdict.admitted → Says C x → x ≡ Verdict.admitted
      go (free n c) (unfit u) = absurd (fits n u)
      go (free n c) (overlap {i = i} {j = j} m p) =
          absurd (true≢false (sym p.agree
          ∙ clear_places C.rules (clear_rearranged s.rules c) i j p.first p.second p.first_place p.second_place p.ordered))
      go (free n c) (free m d) = refl

-- THE SAME ANSWER

-- a reader of lines that goes by the operators alone
abbrev pub ByOperators : LineReader → Type 0
ByOperators read = (ops : List Operator) (rs qs : List Rule) (line : List ℕ) →
    read (record { operators = ops; rules = rs }) line ≡ read (record { operators = ops; rules = qs }) line

pub line_by_operators : ByOperators read_line
unfolding read_line
line_by_operators ops rs qs [] = refl
line_by_operators ops rs qs (o ∷ os) = rw (fault_same 1 (o ∷ os))
  where
    B : Book
    B = record { operators = ops; rules = rs }

    C : Book
    C = record { operators = ops; rules = qs }

    fault_same : (due : ℕ) (line : List ℕ) → line_fault B due line ≡ line_fault C due line
    fault_same zero [] = refl
    fault_same zero (o ∷ os) = refl
    fault_same (suc due) [] = refl
    fault_same (suc due) (o ∷ os) =
        ap (λ (f : Option ℕ). elim (ltb o (length ops)) as (λ b. Option ℕ) [ true ↦ f | false ↦ some 11 ]) (fault_same (arity_at ops o + due) os)

pub text_by_operators : ByOperators read_text
unfolding read_text
text_by_operators ops rs qs line = refl

-- a request with another book
abbrev pub with_book : Request → List ℕ → Request
with_book q book = record {
  book = book;
  line = q.line;
  units = q.units;
  budget = q.budget;
  day = q.day;
  schedule = q.schedule;
  work = q.work;
  net = q.net;
  output = q.output;
}

-- whatever is asked, by either form of line, the answers for a strict book and for the book rearranged are the same, refusals included
module _ (bytes bytes' : List ℕ) (strict : strict_of bytes ≡ Verdict.admitted) (s : SameBooks bytes bytes') where
  abbrev by_book : LineReader → Request → Book → Result Answer
  by_book read q B = then (read B q.line) (run_checked q B)

  books_strict : strict_book s.book ≡ Verdict.admitted
  books_strict = sym (strict_undated bytes s.book s.read) ∙ strict

  module _ (read : LineReader) (by : ByOperators read) (q : Request) where
    checked_same : (t : Term) → run_checked q s.book t ≡ run_checked q s.book' t
    unfolding run_checked run
    checked_same t =
        ap (λ (a : Answer). elim (all_below q.units q.schedule) as (λ b. Result Answer) [ true ↦ accepted a | false ↦ refused 14 ])
        (strict_run s.book s.book' books_strict s.same in_force (record { budget = q.budget; symbols = some symbol_limit }) q.units q.schedule t)

    read_same : read s.book q.line ≡ read s.book' q.line
    read_same = rw (same_book s.book s.book' s.same) (by s.book.operators s.book.rules s.book'.rules q.line)

    by_book_same : by_book read q s.book ≡ by_book read q s.book'
    by_book_same = ap₂ then read_same (fun_ext checked_same)

    pub answers_same : (published : Lengths) → answer_by read published (with_book q bytes) ≡ answer_by read published (with_book q bytes')
    unfolding answer_by
    answers_same published =
        let rest : Result AnyBook → Result Answer = λ x. unless (frame_fault published q) (then x (λ A. by_book read q (on_day q.day A))) in
        ap rest s.read ∙ ap (unless (frame_fault published q)) by_book_same ∙ sym (ap rest s.read')

  pub line_answers : (published : Lengths) (q : Request) → answer_of published (with_book q bytes) ≡ answer_of published (with_book q bytes')
  line_answers published q = answers_same read_line line_by_operators q published

  pub payee_answers : (published : Lengths) (q : Request) → payee_of published (with_book q bytes) ≡ payee_of published (with_book q bytes')
  payee_answers published q = answers_same read_text text_by_operators q published

  -- the rearranged book's bytes are admitted too
  pub bytes_again : strict_of bytes' ≡ Verdict.admitted
  bytes_again = strict_undated bytes' s.book' s.read' ∙ strict_again s.book s.book' books_strict s.same

-- every rearrangement of a book that is read has bytes: those that the writer writes of it
length_rearranged : {A : Type 0} {xs ys : List A} → Rearranged xs ys → length xs ≡ length ys
length_rearranged nothing = refl
length_rearranged (behind x r) = ap suc (length_rearranged r)
length_rearranged (swapped x y xs) = refl
length_rearranged (through r s) = length_rearranged r ∙ length_rearranged s

pub rearranged_bytes : (bytes : List ℕ) (B C : Book) → read_any bytes ≡ accepted (AnyBook.undated B) → SameRules B C → SameBooks bytes (write_book C)
unfolding write_any
rearranged_bytes bytes B C e s = record {
  book = B;
  book' = C;
  read = e;
  read' = write_any_read (AnyBook.undated C) (rw (same_book B C s) good);
  same = s;
}
  where
    g : GoodBook B
    g = read_any_good bytes (AnyBook.undated B) e

    good : GoodBook (record { operators = B.operators; rules = C.rules })
    good = record {
      some_operators = g.some_operators;
      few_operators = g.few_operators;
      operators = g.operators;
      few_rules = rw (sym (length_rearranged s.rules)) g.few_rules;
      rules = all_rearranged (GoodRule B.operators) s.rules g.rules;
    }
