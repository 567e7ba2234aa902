-- A line by an open book: its answer by itself, for each way through the code, and its record. Assumes nothing.
use mathlib.Core.Bool.{true, false}
use mathlib.Core.List.{List, [], ◌∷◌}
use mathlib.Core.Path.{◌≡◌, sym, ap, ap₂, ◌∙◌, subst}
use Prim.Native.Nat.{ℕ}
use lib.ListN.{length, take}
use Rattle.paper.specs.Result.{refused, accepted}
use Rattle.paper.specs.Tree.{preorder}
use Rattle.paper.specs.Book.{Book}
use Rattle.paper.specs.Dated.{on_day}
use Rattle.paper.specs.Line.{symbol_limit}
use Rattle.paper.specs.Page.{Request, LineReader, all_below}
use Rattle.paper.proofs.Readers.{accepted_injective, refused_accepted}
use Rattle.tables.specs.Tables.{any_book, Operators}
use Rattle.std.specs.Prelude.{Result as Outcome}
use Rattle.refusal.specs.declared.Refusal.{Refusal}
use Rattle.stream.specs.Promises.{WrittenAt}
use Rattle.net.specs.Layout.{day_of}
use Rattle.net.specs.Net.{book_by}
use Rattle.whole.specs.declared.Limits.{Limits}
use Rattle.run.specs.declared.Run.{Run}
use Rattle.engine.specs.Spec.{values, RunHolds}
use Rattle.engine.specs.Promises.{Taken, ReadAs, TermRead, Asked, Posted}
use Rattle.std.specs.Prelude.{Ok}
use Rattle.engine.proofs.Frame.{framed, frame_of}
use Rattle.engine.proofs.Answers.{by_line, by_schedule, by_run}
use Rattle.records.specs.Record.{value_bytes, record_of}
use Rattle.batch.specs.Spec as B
use Rattle.batch.specs.Promises.{Open, answered, LineDone}
use Rattle.stream.proofs.Puts.{put_as}

-- what a run asks for
pub asks : {book table net schedule : List ℕ} {n work : ℕ} {l : Limits} → Open book n table net l work → all_below l.units schedule ≡ true →
    Asked l schedule work
asks o named =
    let f = frame_of {output = symbol_limit} o.faultless in
    record { some_units = f.some_units; few = f.few; named = named; small = o.small; long = f.work_long }

-- what is read of a line by the operators' table is read by the book
pub read_by : {read : LineReader} {book table net line symbols : List ℕ} {n work : ℕ} {l : Limits} {r r' : Outcome ℕ Refusal} → Open book n table net l work → r ≡ r' →
    TermRead read n table line symbols r → ReadAs read (book_by book net) line symbols r'
read_by {read} {book} {table} {net} {line} {symbols} o e q =
    let b = o.opened.netted in
    let t = subst (λ (d : ℕ). Operators (on_day d (any_book book)).operators table) (sym b.same_day) b.tables.tables.operators_in in
    subst (ReadAs read (book_by book net) line symbols) e (q.is (book_by book net) o.count t)

module _ (read : LineReader) {book table net : List ℕ} {n work : ℕ} {l : Limits} (o : Open book n table net l work) (schedule line : List ℕ) where
  abbrev rules : Book
  rules = book_by book net

  abbrev asked : Request
  asked = B.asked read book l.units l.budget (day_of net) schedule work (length net) line

  -- a refusal and its record
  refused_done : {answers answers' : List ℕ} {at next : ℕ} (k : ℕ) → answered read book net l schedule work line ≡ refused k →
      WrittenAt at (k ∷ []) answers answers' next → LineDone read book net l schedule work line answers answers' at next
  unfolding record_of
  refused_done k e w = record { written = put_as (ap record_of (sym e)) w; ran = λ A h. absurd (refused_accepted (sym e ∙ h)) }

  pub not_read : {answers answers' : List ℕ} {at next : ℕ} (k : ℕ) → read rules line ≡ refused k → WrittenAt at (k ∷ []) answers answers' next →
      LineDone read book net l schedule work line answers answers' at next
  not_read k e = refused_done k (by_line read asked (framed asked o.faultless) (any_book book) o.opened.netted.tables.read k e)

  module _ {symbols : List ℕ} {m : ℕ} (t : Taken read rules line symbols m) where
    pub not_named : {answers answers' : List ℕ} {at next : ℕ} → all_below l.units schedule ≡ false → WrittenAt at (14 ∷ []) answers answers' next →
        LineDone read book net l schedule work line answers answers' at next
    not_named e =
        refused_done 14
        (by_schedule read asked (framed asked o.faultless) (any_book book) o.opened.netted.tables.read t.given.term t.line_read e)

    -- a run and its record, whose symbols are the present term's
    module _ {present : List ℕ} {r : Run} (p : Posted rules (take m symbols) l schedule present r) (named : all_below l.units schedule ≡ true) where
      line_read : read rules line ≡ accepted p.term
      line_read = t.line_read ∙ sym t.given.term_read ∙ p.term_read

      told : answered read book net l schedule work line ≡ accepted p.answer
      told =
          by_run read asked (framed asked o.faultless) (any_book book) o.opened.netted.tables.read p.term line_read named
          ∙ ap accepted (sym p.holds.is)

      record_is : {xs : List ℕ} → xs ≡ preorder p.answer.term → value_bytes (values (Ok r)) xs ≡ record_of (accepted p.answer)
      unfolding record_of
      record_is e = ap₂ value_bytes p.values_are e

      pub posted : {xs answers answers' : List ℕ} {at next : ℕ} → xs ≡ preorder p.answer.term →
          WrittenAt at (value_bytes (values (Ok r)) xs) answers answers' next →
          LineDone read book net l schedule work line answers answers' at next
      posted e w = record {
        written = put_as (record_is e ∙ ap record_of (sym told)) w;
        ran = λ A h. (
          p.term,
          line_read,
          named,
          subst (RunHolds rules p.term l.units l.budget schedule) (accepted_injective (sym told ∙ h)) p.holds,
        );
      }
