-- Lines by one book, from its reading to the cleared areas: what a refusal leaves, and what the lines done; and that only the book's rules on the day count, so
-- that neither the day of the net nor what stands behind a book's first 65,536 bytes makes a difference. Assumes nothing.
use mathlib.Core.List.{List, [], ◌++◌}
use mathlib.Core.Option.{Option, none, some}
use mathlib.Core.Path.{◌≡◌, refl, sym, ap, ap₂, ◌∙◌, subst}
use Prim.Native.Nat.{ℕ, ◌≤◌, ◌<◌, ◌^◌}
use native.Mathlib.Omega.{arith}
use lib.ListN.{length, take, drop, replicate, length-take}
use Rattle.paper.specs.Result.{Result, refused, accepted, then}
use Rattle.paper.specs.Book.{Book}
use Rattle.paper.specs.Dated.{AnyBook, read_any, on_day}
use Rattle.paper.specs.Line.{symbol_limit}
use Rattle.paper.specs.Run.{Answer}
use Rattle.paper.specs.Sound.{All}
use Rattle.paper.specs.Page.{Request, LineReader, frame_fault, unless, run_checked, answer_by}
use Rattle.paper.specs.Writer.{concat}
use Rattle.paper.proofs.Lists.{all_map}
use Rattle.paper.proofs.Readers.{accepted_injective, refused_accepted, then_accepted}
use Rattle.paper.proofs.Prefix.{read_any_prefix}
use Rattle.tables.specs.Layout.{day_in}
use Rattle.tables.specs.Tables.{any_book, book_of, TablesOf}
use Rattle.net.specs.Layout.{day_of}
use Rattle.net.specs.Net.{book_by}
use Rattle.insertion.specs.Promises.{Built}
use Rattle.whole.specs.declared.Limits.{Limits}
use Rattle.engine.specs.Spec.{published, RunBy}
use Rattle.engine.specs.Promises.{fault}
use Rattle.engine.proofs.Frame.{framed, faulty}
use Rattle.records.specs.Record.{record_of}
use Rattle.batch.specs.Lines.{lines_of, taken, stop_of, done}
use Rattle.batch.specs.Spec.{Answered as Told, Values, values, asked, answer, line_record, done_by, values_of, lines_done, Ran, LinesBy}
use Rattle.batch.specs.Promises.{Open, those, AllDone}
use Rattle.std.proofs.Common.{Ok, Err}
use Rattle.refusal.specs.Numbers.{number}
use Rattle.refusal.specs.declared.Refusal.{Refusal}
use Rattle.refusal.proofs.Some.{some_number}
use Rattle.batch.specs.declared.Done.{Done}

-- WHAT COUNTS OF A BOOK

-- the book that a run of the day goes by, or the refusal
abbrev rules_on : ℕ → Result AnyBook → Result Book
rules_on day x = then x (λ A. accepted (on_day day A))

module _ (read : LineReader) (units budget : ℕ) (schedule : List ℕ) (work net : ℕ) where
  -- what is looked at beside book and line
  abbrev beside : Request
  beside = asked read [] units budget 0 schedule work net []

  abbrev answer_by_book : Result Book → List ℕ → Result Answer
  answer_by_book x line = unless (frame_fault published beside) (then x (λ B. then (read B line) (λ t. run_checked beside B t)))

  abbrev done_by_book : List ℕ → ℕ → Result Book → Result (List (List ℕ))
  done_by_book lines room x =
      unless (frame_fault published beside) (then x (λ B. accepted (done (λ line. record_of (answer_by_book x line)) room (lines_of lines))))

  module _ (book : List ℕ) (day : ℕ) where
    answer_is : answer read book units budget day schedule work net ≡ answer_by_book (rules_on day (read_any book))
    unfolding answer_by frame_fault run_checked then
    answer_is = go (read_any book)
      where
        go : (x : Result AnyBook) →
            (λ (line : List ℕ). unless (frame_fault published beside)
            (then x (λ A. let B = on_day day A in then (read B line) (λ t. run_checked beside B t)))) ≡ answer_by_book (rules_on day x)
        go (refused k) = refl
        go (accepted A) = refl

    done_is : (lines : List ℕ) (room : ℕ) →
        done_by read book units budget day schedule work net lines room ≡ done_by_book lines room (rules_on day (read_any book))
    unfolding done_by frame_fault then
    done_is lines room =
        ap (λ (f : List ℕ → Result Answer).
        unless (frame_fault published beside) (then (read_any book) (λ A. accepted (done (λ line. record_of (f line)) room (lines_of lines))))) answer_is
        ∙ go (answer_by_book (rules_on day (read_any book))) (read_any book)
      where
        go : (f : List ℕ → Result Answer) (x : Result AnyBook) →
            unless (frame_fault published beside) (then x (λ A. accepted (done (λ line. record_of (f line)) room (lines_of lines)))) ≡
            unless (frame_fault published beside) (then (rules_on day x) (λ B. accepted (done (λ line. record_of (f line)) room (lines_of lines))))
        go f (refused k) = refl
        go f (accepted A) = refl

-- two books with the same rules, each on its day
module _ {book book₂ : List ℕ} {day day₂ : ℕ} (e : rules_on day (read_any book) ≡ rules_on day₂ (read_any book₂)) where
  run_as : {read : LineReader} {line : List ℕ} {units budget : ℕ} {schedule work net answers : List ℕ} {A : Answer} →
      RunBy read book line units budget day schedule work net answers A → RunBy read book₂ line units budget day₂ schedule work net answers A
  unfolding then
  run_as r =
      let (G, b, g) = then_accepted (read_any book₂) (λ A. accepted (on_day day₂ A)) _ (sym e ∙ ap (rules_on day) r.book_read) in
      record {
        given = G;
        rules = r.rules;
        term = r.term;
        book_read = b;
        of_day = r.of_day ∙ sym (accepted_injective g);
        line_read = r.line_read;
        units_named = r.units_named;
        holds = r.holds;
      }

  -- do the same lines, and give them the same records
  pub lines_as : {read : LineReader} {lines : List ℕ} {units budget : ℕ} {schedule work net answers work' net' answers' : List ℕ} {r : Told} →
      LinesBy read book lines units budget day schedule work net answers work' net' answers' r →
      LinesBy read book₂ lines units budget day₂ schedule work net answers work' net' answers' r
  lines_as {read} {lines} {units} {budget} {schedule} {work} {net} {answers} {answers' = answers'} h =
      let w : ℕ = length work in
      let n : ℕ = length net in
      let same : answer read book units budget day schedule w n ≡ answer read book₂ units budget day₂ schedule w n =
      answer_is read units budget schedule w n book day ∙ ap (answer_by_book read units budget schedule w n) e
      ∙ sym (answer_is read units budget schedule w n book₂ day₂) in
      let alike : lines_done read book lines units budget day schedule work net answers ≡
      lines_done read book₂ lines units budget day₂ schedule work net answers =
      done_is read units budget schedule w n book day lines (length answers)
      ∙ ap (done_by_book read units budget schedule w n lines (length answers)) e
      ∙ sym (done_is read units budget schedule w n book₂ day₂ lines (length answers)) in
      record {
        told =
            h.told ∙ ap (values_of read book units budget day schedule w n lines) alike
            ∙ same_values read book book₂ units budget day day₂ schedule w n lines same
            (lines_done read book₂ lines units budget day₂ schedule work net answers);
        unchanged = λ k x. h.unchanged k (alike ∙ x);
        cleared = λ ls x. h.cleared ls (alike ∙ x);
        written = λ ls x.
            h.written ls (alike ∙ x)
            ∙ ap (λ (f : List ℕ → Result Answer). let xs = concat (λ line. record_of (f line)) ls in xs ++ drop (length xs) answers) same;
        runs = λ ls x.
            all_map (Ran read book lines units budget day schedule work net answers) (Ran read book₂ lines units budget day₂ schedule work net answers)
            (λ line f A y. run_as (f A (ap (λ (g : List ℕ → Result Answer). g line) same ∙ y))) ls (h.runs ls (alike ∙ x));
      }
    where
      same_values : (read : LineReader) (book book₂ : List ℕ) (units budget day day₂ : ℕ) (schedule : List ℕ) (work net : ℕ) (lines : List ℕ) →
          answer read book units budget day schedule work net ≡ answer read book₂ units budget day₂ schedule work net → (x : Result (List (List ℕ))) →
          values_of read book units budget day schedule work net lines x ≡ values_of read book₂ units budget day₂ schedule work net lines x
      same_values read book book₂ units budget day day₂ schedule work net lines same (refused k) = refl
      same_values read book book₂ units budget day day₂ schedule work net lines same (accepted ls) =
          ap (λ (f : List ℕ → Result Answer).
          let v : Result Values = accepted (record {
            lines = length ls;
            read = taken ls;
            written = length (concat (λ line. record_of (f line)) ls);
            stop = stop_of lines ls;
          }) in v) same

pub prefix_short : (book : List ℕ) → length (take 65536 book) ≤ 65536
prefix_short book = omega (arith, length-take 65536 book)

-- what stands behind a book's first 65,536 bytes is not looked at
pub lines_prefix : {read : LineReader} {book lines : List ℕ} {units budget day : ℕ} {schedule work net answers work' net' answers' : List ℕ} {r : Told} →
    65536 ≤ length book → LinesBy read (take 65536 book) lines units budget day schedule work net answers work' net' answers' r →
    LinesBy read book lines units budget day schedule work net answers work' net' answers' r
lines_prefix {book = book} {day = day} long = lines_as (ap (rules_on day) (sym (read_any_prefix book long)))

-- THE LINES DONE, by frame and book

module _ (read : LineReader) (book lines : List ℕ) (units budget day : ℕ) (schedule work net answers : List ℕ) where
  abbrev all_done : List (List ℕ)
  all_done = done (line_record read book units budget day schedule (length work) (length net)) (length answers) (lines_of lines)

  abbrev for_book : Result AnyBook → Result (List (List ℕ))
  for_book x = then x (λ A. accepted all_done)

  of_frame : (f : Option ℕ) → frame_fault published (asked read book units budget day schedule (length work) (length net) lines) ≡ f →
      lines_done read book lines units budget day schedule work net answers ≡ unless f (for_book (read_any book))
  unfolding done_by
  of_frame f e = ap (λ (g : Option ℕ). unless g (for_book (read_any book))) e

  of_book : fault units (length work) (length net) symbol_limit ≡ 0 → (x : Result AnyBook) → read_any book ≡ x →
      lines_done read book lines units budget day schedule work net answers ≡ for_book x
  unfolding unless
  of_book f x e = of_frame none (framed (asked read book units budget day schedule (length work) (length net) lines) f) ∙ ap for_book e

-- a refusal of frame or book, with the buffers as they were
module _ {read : LineReader} {book lines : List ℕ} {units budget day : ℕ} {schedule work net answers : List ℕ} (k : Refusal) where
  refuses : lines_done read book lines units budget day schedule work net answers ≡ refused (number k) →
      LinesBy read book lines units budget day schedule work net answers work net answers (Err k)
  refuses e = record {
    told = ap (values_of read book units budget day schedule (length work) (length net) lines) (sym e);
    unchanged = λ j h. (refl, refl, refl);
    cleared = λ ls h. absurd (refused_accepted (sym e ∙ h));
    written = λ ls h. absurd (refused_accepted (sym e ∙ h));
    runs = λ ls h. absurd (refused_accepted (sym e ∙ h));
  }

  pub by_frame : number k ≡ fault units (length work) (length net) symbol_limit →
      LinesBy read book lines units budget day schedule work net answers work net answers (Err k)
  unfolding unless
  by_frame e =
      refuses
      (of_frame read book lines units budget day schedule work net answers (some (number k))
      (faulty (asked read book units budget day schedule (length work) (length net) lines) (number k) e (λ z. omega (arith, some_number k))))

  pub by_book : fault units (length work) (length net) symbol_limit ≡ 0 → read_any book ≡ refused (number k) →
      LinesBy read book lines units budget day schedule work net answers work net answers (Err k)
  unfolding then
  by_book f e = refuses (of_book read book lines units budget day schedule work net answers f (refused (number k)) e)

-- BY THE NET that was built

-- the book is open
pub opened_by : {book table rules net ways : List ℕ} {n units work : ℕ} {l : Limits} → l.units ≡ units → l.budget < 2 ^ 32 →
    fault units work (length net) symbol_limit ≡ 0 → length book ≤ 65536 → n ≡ length (book_of book rules).operators → Built book table rules net ways →
    Open book n table ways l work
opened_by {work = work} u small f short e b = record {
  opened = record { netted = b.of_book; short = short };
  count = ap (λ (B : Book). length B.operators) b.same_book ∙ sym e;
  faultless = ap₂ (λ (k m : ℕ). fault k work m symbol_limit) u b.long ∙ f;
  small = small;
}

module _ (read : LineReader) (book lines schedule work net ways answers : List ℕ) (l : Limits) where
  -- what is told, written and run where the net's area is so long
  abbrev Answered : List ℕ → Done → ℕ → Type 0
  Answered answers' r k =
      let f = line_record read book l.units l.budget (day_of ways) schedule (length work) k in
      let ls = done f (length answers) (lines_of lines) in
      (values (Ok r) ≡ values_of read book l.units l.budget (day_of ways) schedule (length work) k lines (accepted ls))
      × (answers' ≡ concat f ls ++ drop (length (concat f ls)) answers)
      × All (λ line. (A : Answer) → answer read book l.units l.budget (day_of ways) schedule (length work) k line ≡ accepted A →
      RunBy read book line l.units l.budget (day_of ways) schedule work net answers A) ls

  answered_by : {answers' : List ℕ} {r : Done} → read_any book ≡ accepted (any_book book) → length ways ≡ length net →
      AllDone read book ways l schedule (length work) lines answers answers' r → Answered answers' r (length net)
  answered_by {answers'} {r} b e a =
      subst (Answered answers' r) e (
        a.told,
        a.written,
        all_map _ _ (λ line f A h.
            let (t, read_as, named, holds) = f A h in
            record {
              given = any_book book;
              rules = book_by book ways;
              term = t;
              book_read = b;
              of_day = refl;
              line_read = read_as;
              units_named = named;
              holds = holds;
            }) (those read book ways l schedule (length work) lines (length answers)) a.ran,
      )

  -- on the net's day
  on_net : {answers' work' net' : List ℕ} {r : Done} → fault l.units (length work) (length net) symbol_limit ≡ 0 →
      read_any book ≡ accepted (any_book book) → Answered answers' r (length net) → work' ≡ replicate (length work) 0 → net' ≡ replicate (length net) 0 →
      LinesBy read book lines l.units l.budget (day_of ways) schedule work net answers work' net' answers' (Ok r)
  unfolding then
  on_net {answers'} f b a z y =
      let e = of_book read book lines l.units l.budget (day_of ways) schedule work net answers f (accepted (any_book book)) b in
      let rec : List ℕ → List ℕ = line_record read book l.units l.budget (day_of ways) schedule (length work) (length net) in
      record {
        told = a.0 ∙ ap (values_of read book l.units l.budget (day_of ways) schedule (length work) (length net) lines) (sym e);
        unchanged = λ k h. absurd (refused_accepted (sym h ∙ e));
        cleared = λ ls h. (z, y);
        written = λ ls h.
            subst (λ (ks : List (List ℕ)). answers' ≡ concat rec ks ++ drop (length (concat rec ks)) answers) (accepted_injective (sym e ∙ h)) a.1;
        runs = λ ls h.
            subst (All (Ran read book lines l.units l.budget (day_of ways) schedule work net answers)) (accepted_injective (sym e ∙ h)) a.2;
      }

-- on the day that was asked for, with as many units, and both areas cleared behind the lines
pub lines_by : {read : LineReader} {book table rules ways lines schedule work net answers work' net' answers' : List ℕ} {units day : ℕ} {l : Limits}
    {r : Done} → l.units ≡ units → fault units (length work) (length net) symbol_limit ≡ 0 → TablesOf book table rules → day_in rules ≡ day →
    Built book table rules net ways → AllDone read book ways l schedule (length work) lines answers answers' r → work' ≡ replicate (length work) 0 →
    net' ≡ replicate (length ways) 0 →
    LinesBy read book lines units l.budget day schedule work net answers work' net' answers' (Ok r)
unfolding then
lines_by {read} {book} {ways = ways} {lines} {schedule} {work} {net} {answers} {work'} {net'} {answers'} {day = day} {l} {r} u f t d b a z y =
    let e : rules_on (day_of ways) (read_any book) ≡ rules_on day (read_any book) =
    ap (rules_on (day_of ways)) t.read
    ∙ ap accepted (b.same_book ∙ ap (λ (k : ℕ). on_day k (any_book book)) d)
    ∙ sym (ap (rules_on day) t.read) in
    subst (λ (k : ℕ). LinesBy read book lines k l.budget day schedule work net answers work' net' answers' (Ok r)) u
    (lines_as e
    (on_net read book lines schedule work net ways answers l (ap (λ (k : ℕ). fault k (length work) (length net) symbol_limit) u ∙ f) t.read
    (answered_by read book lines schedule work net ways answers l t.read b.long a) z (y ∙ ap (λ (k : ℕ). replicate k 0) b.long)))
