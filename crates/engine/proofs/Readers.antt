-- A line or a text, once it is checked, is a term in front of the symbols, and the run of that term answers it. Assumes nothing.
use mathlib.Core.List.{List, ◌++◌}
use mathlib.Core.Path.{◌≡◌, refl, sym, ap, ◌∙◌, subst, subst₂}
use Prim.Native.Nat.{ℕ, ◌≤◌}
use native.Mathlib.Omega.{arith}
use lib.ListN.{length, take, drop, length-append, length-drop}
use lib.Seq.{take_at}
use Rattle.paper.specs.Result.{refused, accepted}
use Rattle.paper.specs.Book.{Term, Book}
use Rattle.paper.specs.Dated.{on_day}
use Rattle.paper.specs.Line.{read_line}
use Rattle.paper.specs.Text.{squeezed, chain, read_text}
use Rattle.paper.specs.Page.{LineReader, run_checked}
use Rattle.paper.proofs.Readers.{accepted_injective}
use Rattle.paper.proofs.Text.{length_chain, text_correct, text_line}
use Rattle.tables.specs.Layout.{arity_in, day_in}
use Rattle.tables.specs.Tables.{any_book, book_of, Operators, TablesOf}
use Rattle.line.specs.Line.{judgement}
use mathlib.Core.Option.{none, some}
use Rattle.std.specs.Prelude.{Ok, Err}
use Rattle.std.specs.Prelude.{Result as Checked}
use Rattle.refusal.specs.declared.Refusal.{Refusal}
use Rattle.line.proofs.Checking as Lines
use Rattle.text.specs.Promises.{TextRead}
use Rattle.text.proofs.Laws as Texts
use Rattle.engine.specs.Spec.{Reply, request, answered_by, ReducedBy, answered, Reduced}
use Rattle.engine.specs.Promises.{Framed, Taken, ReadAs, TermRead}
use Rattle.engine.proofs.Frame.{framed}
use Rattle.engine.proofs.Answers.{of_run, run_as, reduced_as}

-- behind load the array is as long as before
pub loaded_long : (line base symbols : List ℕ) → length base ≡ 1024 → length line ≤ 1024 → symbols ≡ line ++ drop (length line) base → length symbols ≡ 1024
loaded_long line base symbols b short s = ap length s ∙ length-append line (drop (length line) base) ∙ rw length-drop (omega (arith, b, short))

module _ (B : Book) {operators : List ℕ} {n : ℕ} (count : length B.operators ≡ n) (t : Operators B.operators operators) where
  -- THE LINE, by the check's judgement, and behind load

  module _ (line : List ℕ) where
    pub line_refused : (k : ℕ) → judgement n (arity_in operators) line ≡ some k → read_line B line ≡ refused k
    line_refused k e = Lines.refused_refused B count t line k e

    module _ (e : judgement n (arity_in operators) line ≡ none) where
      line_accepted : (t : Term) × (read_line B line ≡ accepted t)
      line_accepted = Lines.sound_accepted B count t line e

      short : length line ≤ 1024
      short = (Lines.sound_known n (arity_in operators) line e).1

      pub line_taken : (base : List ℕ) {symbols : List ℕ} → length base ≡ 1024 → symbols ≡ line ++ drop (length line) base →
          Taken read_line B line symbols (length line)
      line_taken base {symbols} b s = record {
        given = record {
          long = loaded_long line base symbols b short s;
          most = short;
          term = line_accepted.0;
          term_read =
              ap (λ (xs : List ℕ). read_line B xs)
              (ap (take (length line)) s ∙ take_at line (drop (length line) base) (length line) refl)
              ∙ line_accepted.1;
        };
        line_read = line_accepted.1;
      }

  -- THE TEXT, by what the code reads of it

  module _ {text symbols symbols' : List ℕ} where
    text_taken : {m : ℕ} → TextRead n (arity_in operators) text symbols symbols' (Ok m) → Taken read_text B text symbols' m
    text_taken q =
        let (e, l, p) = Texts.text_accepted B count t q refl in
        let u : Term = chain (squeezed text) in
        let (c, o, h, a) = text_correct B text u e in
        record {
          given = record {
            long = q.long;
            most = omega (arith, l, length_chain (squeezed text));
            term = u;
            term_read = ap (λ (xs : List ℕ). read_line B xs) p ∙ text_line B text u e;
          };
          line_read = e;
        }

    pub text_read : (r : Checked ℕ Refusal) → TextRead n (arity_in operators) text symbols symbols' r → ReadAs read_text B text symbols' r
    text_read (Ok m) q = text_taken q
    text_read (Err e) q = Texts.text_refused B count t q refl

-- by the book that was read
pub by_tables : {read : LineReader} {book operators rules line symbols : List ℕ} {n : ℕ} {r : Checked ℕ Refusal} → TablesOf book operators rules →
    n ≡ length (book_of book rules).operators → TermRead read n operators line symbols r → ReadAs read (book_of book rules) line symbols r
by_tables {book = book} {rules = rules} tables e q = q.is (book_of book rules) (sym e) tables.tables.operators_in

-- THE RUN of the term answers what it is read from

module _ {read : LineReader} {line symbols : List ℕ} {m : ℕ} (budget : ℕ) (schedule : List ℕ) {book operators rules work net output : List ℕ} {units : ℕ}
    (f : Framed book units work net output) (tables : TablesOf book operators rules) (t : Taken read (book_of book rules) line symbols m) where
  abbrev front : List ℕ
  front = take m symbols

  same_term : answered_by read book line units budget (day_in rules) schedule work net output ≡ answered book front units budget (day_in rules) schedule work net output
  unfolding run_checked
  same_term =
      let b = tables.read in
      let g = t.given in
      of_run read (request book line units budget (day_in rules) schedule work net output) (framed _ f.faultless) (any_book book) b g.term t.line_read
      ∙ sym (of_run read_line (request book front units budget (day_in rules) schedule work net output) (framed _ f.faultless) (any_book book) b g.term g.term_read)

  pub reduced_alike : {work' net' output' : List ℕ} {r : Reply} → Reduced book front units budget (day_in rules) schedule work net output work' net' output' r →
      ReducedBy read book line units budget (day_in rules) schedule work net output work' net' output' r
  reduced_alike = reduced_as (sym same_term) (λ A r.
      let e : book_of book rules ≡ r.rules = ap (on_day (day_in rules)) (accepted_injective (sym tables.read ∙ r.book_read)) ∙ sym r.of_day in
      run_as r r.book_read
      (ap (λ (B : Book). read B line) (sym e) ∙ t.line_read ∙ sym t.given.term_read ∙ ap (λ (B : Book). read_line B front) e ∙ r.line_read))

-- with as many units
pub framed_as : {book work net output : List ℕ} {units few : ℕ} → few ≡ units → Framed book units work net output → Framed book few work net output
framed_as {book} {work} {net} {output} e = subst (λ (u : ℕ). Framed book u work net output) (sym e)

-- on the day that was asked for, if the tables are of it, and with as many units
pub as_asked : {read : LineReader} {book line : List ℕ} {units few budget day table : ℕ} {schedule work net output work' net' output' : List ℕ} {r : Reply} →
    few ≡ units → table ≡ day → ReducedBy read book line few budget table schedule work net output work' net' output' r →
    ReducedBy read book line units budget day schedule work net output work' net' output' r
as_asked {read} {book} {line} {budget = budget} {schedule = schedule} {work} {net} {output} {work'} {net'} {output'} {r} =
    subst₂ (λ (u d : ℕ). ReducedBy read book line u budget d schedule work net output work' net' output' r)
