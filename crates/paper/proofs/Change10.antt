-- Change 10 holds of every run of a book and a line, or a book and a text, that are accepted, by the rules that stand on the run's day. Assumes nothing.
use mathlib.Core.List.{List}
use mathlib.Core.Option.{some}
use mathlib.Core.Path.{◌≡◌}
use Prim.Native.Nat.{ℕ}
use Rattle.paper.specs.Result.{accepted}
use Rattle.paper.specs.Tree.{preorder, Correct}
use Rattle.paper.specs.Book.{Term, Book, arity}
use Rattle.paper.specs.Dated.{AnyBook, read_any, on_day}
use Rattle.paper.specs.Line.{symbol_limit, read_line}
use Rattle.paper.specs.Text.{read_text}
use Rattle.paper.specs.Machine.{Limits, Grant, in_force, start}
use Rattle.paper.specs.Run.{moments_by}
use Rattle.paper.specs.Sound.{Sound}
use Rattle.paper.specs.Demand3.{Throughout, trace}
use Rattle.paper.specs.Idle.{OnlyIdle}
use Rattle.paper.specs.Change10.{TrueMarks, Outside, Lasting, Between, Change10}
use Rattle.paper.proofs.Again.{reduced_again}
use Rattle.paper.proofs.Course.{course_honest}
use Rattle.paper.proofs.Dated.{day_sound}
use Rattle.paper.proofs.Demand3.{whole_course}
use Rattle.paper.proofs.Honest.{bare_honest}
use Rattle.paper.proofs.Idle.{longest_idle}
use Rattle.paper.proofs.Lasting.{visit_dropped, marks_last}
use Rattle.paper.proofs.Line.{line_correct}
use Rattle.paper.proofs.OneUnit.{accounted_by}
use Rattle.paper.proofs.Outside.{marks_true, orders_clear}
use Rattle.paper.proofs.Text.{text_line}

-- EVERY RUN, by any grant rule that answers idle units only
module _ (G : Grant) (only_idle : OnlyIdle G) (B : Book) (sound : Sound B) (t : Term) (c : Correct (arity B) t) (L : Limits) (units : ℕ) (schedule : List ℕ) where
  outside : Throughout Outside (start units t) (trace G B L units schedule t)
  outside = course_honest Outside (orders_clear B L) (bare_honest B t) (whole_course G only_idle B sound t c L units schedule)

  lasting : Between (Lasting B) (start units t) (trace G B L units schedule t)
  unfolding moments_by
  lasting = marks_last G B L schedule (start units t) outside

  pub change_10_of : Change10 G B L units schedule t
  change_10_of = record {
    alike = reduced_again B sound;
    dropped = visit_dropped B L;
    marks = course_honest (TrueMarks B) (marks_true B L) (bare_honest B t) (whole_course G only_idle B sound t c L units schedule);
    outside = outside;
    lasting = lasting;
    account = accounted_by B sound t c G only_idle L units schedule;
  }

-- CHANGE 10, of accepted bytes and a line
pub change_10 : (bytes line : List ℕ) (A : AnyBook) (d : ℕ) (t : Term) → read_any bytes ≡ accepted A → read_line (on_day d A) line ≡ accepted t →
    (units budget : ℕ) (schedule : List ℕ) → let L : Limits = record { budget = budget; symbols = some symbol_limit } in
    Change10 in_force (on_day d A) L units schedule t
change_10 bytes line A d t e q units budget schedule =
    let B = on_day d A in
    change_10_of in_force longest_idle B (day_sound bytes A e d) t (line_correct B line t q).0 (record { budget = budget; symbols = some symbol_limit }) units
    schedule

-- and of accepted texts
pub change_10_text : (bytes text : List ℕ) (A : AnyBook) (d : ℕ) (t : Term) → read_any bytes ≡ accepted A → read_text (on_day d A) text ≡ accepted t →
    (units budget : ℕ) (schedule : List ℕ) → let L : Limits = record { budget = budget; symbols = some symbol_limit } in
    Change10 in_force (on_day d A) L units schedule t
change_10_text bytes text A d t e q = change_10 bytes (preorder t) A d t e (text_line (on_day d A) text t q)
