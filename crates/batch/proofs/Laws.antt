-- What a caller has of many lines, by either reader: each record is its own line's; nothing in it depends on the lines around it, nor on what work area, net
-- and answers held; who goes on behind the bytes read is asked with exactly the lines that were not done, and gets further. Assumes nothing.
use mathlib.Core.Bool.{Bool, true, false}
use mathlib.Core.List.{List, [], ◌∷◌, ◌++◌, append_assoc}
use mathlib.Core.Logic.{inl, inr}
use mathlib.Core.Option.{Option, none, some}
use mathlib.Core.Path.{◌≡◌, refl, sym, ap, ap₂, ◌∙◌, subst}
use Prim.Native.Nat.{ℕ, zero, suc, ◌+◌, ◌-◌, ◌≤◌, ◌<◌}
use native.Mathlib.Omega.{arith}
use borrow.Author.Tests.{le-leb}
use lib.Dec.{leb}
use lib.ListN.{length, take, drop, replicate}
use lib.Seq.{drop-drop, take-append_seam, drop-append_seam}
use Rattle.paper.specs.Result.{Result, refused, accepted, Read, if, then}
use Rattle.paper.specs.Dated.{AnyBook, read_any}
use Rattle.paper.specs.Line.{read_line}
use Rattle.paper.specs.Text.{read_text}
use Rattle.paper.specs.Page.{LineReader, frame_fault, unless}
use Rattle.paper.specs.Writer.{concat}
use Rattle.paper.proofs.Readers.{accepted_injective, refused_accepted, then_accepted}
use Rattle.paper.proofs.Refusals.{request_refused_by, payee_numbers}
use Rattle.engine.specs.Spec.{published}
use Rattle.stream.specs.Promises.{read_counted}
use Rattle.records.specs.Record.{longest}
use Rattle.batch.specs.Lines.{lines_of, taken, done}
use Rattle.batch.specs.Spec.{Answered, asked, answer, line_record, done_by, values, values_of, record_by, lines_done, LinesBy}
use Rattle.batch.proofs.Splitting.{counted_left, counted_long, lines_none, lines_next}

-- LINES BEHIND THE FIRST ONES

pub lines_behind : (k : ℕ) (xs : List ℕ) → lines_of (drop (taken (take k (lines_of xs))) xs) ≡ drop k (lines_of xs)
unfolding taken
lines_behind zero xs = refl
lines_behind (suc k) xs = go (lines_behind k) (read_counted xs) refl
  where
    go : ((ys : List ℕ) → lines_of (drop (taken (take k (lines_of ys))) ys) ≡ drop k (lines_of ys)) → (x : Result (Read (List ℕ))) → read_counted xs ≡ x →
        lines_of (drop (taken (take (suc k) (lines_of xs))) xs) ≡ drop (suc k) (lines_of xs)
    go rest (refused n) e =
        let f = lines_none xs n e in
        ap (λ (ls : List (List ℕ)). lines_of (drop (taken (take (suc k) ls)) xs)) f ∙ f ∙ sym (ap (drop (suc k)) f)
    go rest (accepted r) e =
        let f = lines_next xs r e (omega (arith, counted_long xs r e)) in
        let n : ℕ = taken (take k (lines_of r.left)) in
        ap (λ (ls : List (List ℕ)). lines_of (drop (taken (take (suc k) ls)) xs)) f
        ∙ ap lines_of (sym (drop-drop n (2 + length r.value) xs) ∙ ap (drop n) (sym (counted_left xs r e)))
        ∙ rest r.left
        ∙ sym (ap (drop (suc k)) f)

-- THE LINES DONE

module _ (line_record : List ℕ → List ℕ) where
  pub done_front : (left : ℕ) (ls : List (List ℕ)) → done line_record left ls ≡ take (length (done line_record left ls)) ls
  unfolding done
  done_front left [] = refl
  done_front left (l ∷ ls) = go (done_front (left - length (line_record l)) ls) (leb longest left)
    where
      go : done line_record (left - length (line_record l)) ls ≡ take (length (done line_record (left - length (line_record l)) ls)) ls → (b : Bool) →
          if b (l ∷ done line_record (left - length (line_record l)) ls) [] ≡
          take (length (if b (l ∷ done line_record (left - length (line_record l)) ls) [])) (l ∷ ls)
      go rest true = ap (λ (ks : List (List ℕ)). l ∷ ks) rest
      go rest false = refl

  done_first : (left : ℕ) (ls : List (List ℕ)) → longest ≤ left → 0 < length ls → 0 < length (done line_record left ls)
  unfolding done
  done_first left [] h j = absurd (omega arith)
  done_first left (l ∷ ls) h j = rw (le-leb longest left h) (omega arith)

-- frame and book are sound, and these are the lines done
module _ (read : LineReader) (book : List ℕ) (units budget day : ℕ) (schedule : List ℕ) (work net : ℕ) (lines : List ℕ) (room : ℕ) (ls : List (List ℕ))
    (e : done_by read book units budget day schedule work net lines room ≡ accepted ls) where
  abbrev those : List (List ℕ)
  those = done (line_record read book units budget day schedule work net) room (lines_of lines)

  done_are : ls ≡ those
  unfolding done_by unless
  done_are = go (frame_fault published (asked read book units budget day schedule work net lines)) e
    where
      go : (f : Option ℕ) → unless f (then (read_any book) (λ (A : AnyBook). accepted those)) ≡ accepted ls → ls ≡ those
      go none f = let (A, _, g) = then_accepted (read_any book) _ ls f in sym (accepted_injective g)
      go (some k) f = absurd (refused_accepted f)

  -- the lines done are the first ones, so record i is that of line i
  pub own_record : ls ≡ take (length ls) (lines_of lines)
  own_record = done_are ∙ done_front _ room (lines_of lines) ∙ ap (λ (ks : List (List ℕ)). take (length ks) (lines_of lines)) (sym done_are)

  -- behind the bytes read stand exactly the lines that were not done
  pub goes_on : lines_of (drop (taken ls) lines) ≡ drop (length ls) (lines_of lines)
  goes_on = ap (λ (ks : List (List ℕ)). lines_of (drop (taken ks) lines)) own_record ∙ lines_behind (length ls) lines

  -- where the longest record fits, one line more is done, if there is one
  pub moves : longest ≤ room → 0 < length (lines_of lines) → 0 < length ls
  moves h j = subst (λ (ks : List (List ℕ)). 0 < length ks) (sym done_are) (done_first _ room (lines_of lines) h j)

-- WHERE A RECORD STANDS

concat_both : (f : List ℕ → List ℕ) (ls ks : List (List ℕ)) → concat f (ls ++ ks) ≡ concat f ls ++ concat f ks
unfolding concat
concat_both f [] ks = refl
concat_both f (l ∷ ls) ks = ap (λ (xs : List ℕ). f l ++ xs) (concat_both f ls ks) ∙ sym (append_assoc (f l) (concat f ls) (concat f ks))

-- the bytes that a line's record takes behind those of the lines before it
abbrev pub record_at : (List ℕ → List ℕ) → List (List ℕ) → List ℕ → List ℕ → List ℕ
record_at f before line answers = take (length (f line)) (drop (length (concat f before)) answers)

stands_at : (f : List ℕ → List ℕ) (before behind : List (List ℕ)) (line rest : List ℕ) →
    record_at f before line (concat f (before ++ line ∷ behind) ++ rest) ≡ f line
unfolding concat
stands_at f before behind line rest =
    ap (record_at f before line)
    (ap (λ (xs : List ℕ). xs ++ rest) (concat_both f before (line ∷ behind)) ∙ append_assoc (concat f before) (f line ++ concat f behind) rest)
    ∙ ap (take (length (f line))) (drop-append_seam (concat f before) _ ∙ append_assoc (f line) (concat f behind) rest)
    ∙ take-append_seam (f line) (concat f behind ++ rest)

-- it is the line's own
module _ {read : LineReader} {book lines : List ℕ} {units budget day : ℕ} {schedule work net answers work' net' answers' : List ℕ} {r : Answered}
    (call : LinesBy read book lines units budget day schedule work net answers work' net' answers' r) where
  abbrev own : List ℕ → List ℕ
  own = line_record read book units budget day schedule (length work) (length net)

  pub stands : (before behind : List (List ℕ)) (line : List ℕ) →
      lines_done read book lines units budget day schedule work net answers ≡ accepted (before ++ line ∷ behind) → record_at own before line answers' ≡ own line
  stands before behind line e = ap (record_at own before line) (call.written (before ++ line ∷ behind) e) ∙ stands_at own before behind line _

-- a refusal's record is not 0, with which a run's begins
module _ (book : List ℕ) (units budget day : ℕ) (schedule : List ℕ) (work net : ℕ) (line : List ℕ) (k : ℕ) where
  pub line_not_zero : answer read_line book units budget day schedule work net line ≡ refused k → 0 < k
  line_not_zero e = (request_refused_by published (asked read_line book units budget day schedule work net line) k e).some_number

  pub payee_not_zero : answer read_text book units budget day schedule work net line ≡ refused k → 0 < k
  payee_not_zero e = elim (payee_numbers published (asked read_text book units budget day schedule work net line) k e) [
    | inl h ↦ h.0
    | inr h ↦ elim h [ inl i ↦ (let j = i.0 in omega arith) | inr i ↦ (let j = i.0 in omega arith) ]
  ]

-- TWO CALLS by the same book, units, budget, day and schedule, with areas of the same lengths

module _ {read : LineReader} {book lines lines₂ : List ℕ} {units budget day : ℕ} {schedule work work₂ net net₂ answers answers₂ : List ℕ}
    {work' work₂' net' net₂' answers' answers₂' : List ℕ} {r r₂ : Answered} (long : length work ≡ length work₂) (net_long : length net ≡ length net₂)
    (one : LinesBy read book lines units budget day schedule work net answers work' net' answers' r)
    (two : LinesBy read book lines₂ units budget day schedule work₂ net₂ answers₂ work₂' net₂' answers₂' r₂) where
  -- a line's record is the same, whatever lines stand before it and behind it, and whatever work area, net and answers held
  pub independent : (before before₂ behind behind₂ : List (List ℕ)) (line : List ℕ) →
      lines_done read book lines units budget day schedule work net answers ≡ accepted (before ++ line ∷ behind) →
      lines_done read book lines₂ units budget day schedule work₂ net₂ answers₂ ≡ accepted (before₂ ++ line ∷ behind₂) →
      record_at (record_by read book lines units budget day schedule work net answers) before line answers' ≡
      record_at (record_by read book lines₂ units budget day schedule work₂ net₂ answers₂) before₂ line answers₂'
  independent before before₂ behind behind₂ line e f =
      stands one before behind line e
      ∙ ap₂ (λ (n m : ℕ). line_record read book units budget day schedule n m line) long net_long
      ∙ sym (stands two before₂ behind₂ line f)

-- and of the same lines, into the same answers

module _ {read : LineReader} {book lines : List ℕ} {units budget day : ℕ} {schedule work work₂ net net₂ answers work' work₂' net' net₂' : List ℕ}
    {answers' answers₂' : List ℕ} {r r₂ : Answered} (long : length work ≡ length work₂) (net_long : length net ≡ length net₂)
    (one : LinesBy read book lines units budget day schedule work net answers work' net' answers' r)
    (two : LinesBy read book lines units budget day schedule work₂ net₂ answers work₂' net₂' answers₂' r₂) where
  -- only the lengths of work area and net are asked with
  abbrev done_with : ℕ → ℕ → Result (List (List ℕ))
  done_with n m = done_by read book units budget day schedule n m lines (length answers)

  abbrev same : done_with (length work) (length net) ≡ done_with (length work₂) (length net₂)
  same = ap₂ done_with long net_long

  same_answers : answers' ≡ answers₂'
  same_answers = go (done_with (length work) (length net)) refl
    where
      go : (x : Result (List (List ℕ))) → done_with (length work) (length net) ≡ x → answers' ≡ answers₂'
      go (refused k) e = (one.unchanged k e).2 ∙ sym (two.unchanged k (sym same ∙ e)).2
      go (accepted ls) e =
          one.written ls e
          ∙ ap₂ (λ (n m : ℕ). let xs = concat (line_record read book units budget day schedule n m) ls in xs ++ drop (length xs) answers) long net_long
          ∙ sym (two.written ls (sym same ∙ e))

  -- two work areas and two nets of the same lengths: the same values, and the same answers
  pub forgets : (values r ≡ values r₂) × (answers' ≡ answers₂')
  forgets =
      let told = ap₂ (λ (n m : ℕ). values_of read book units budget day schedule n m lines (done_with n m)) long net_long in
      (one.told ∙ told ∙ sym two.told, same_answers)

  -- and, unless frame or book are refused, the same work area and net
  pub forgets_areas : (ls : List (List ℕ)) → done_with (length work) (length net) ≡ accepted ls → (work' ≡ work₂') × (net' ≡ net₂')
  forgets_areas ls e =
      let p = one.cleared ls e in
      let q = two.cleared ls (sym same ∙ e) in
      (p.0 ∙ ap (λ (n : ℕ). replicate n 0) long ∙ sym q.0, p.1 ∙ ap (λ (n : ℕ). replicate n 0) net_long ∙ sym q.1)
