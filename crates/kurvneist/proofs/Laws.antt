-- What is handed out of an answer; 6 never is (document 02, Change 4). Assumes nothing.
use mathlib.Core.List.{List}
use mathlib.Core.Logic.{inl, inr, ◌≢◌}
use mathlib.Core.Option.{Option, none, some}
use mathlib.Core.Path.{◌≡◌, refl, sym, ap, ◌∙◌, subst}
use Prim.Native.Nat.{ℕ}
use native.Mathlib.Omega.{arith}
use lib.IntN.{ℤ}
use lib.ListN.{length}
use Rattle.paper.specs.Result.{Result, refused, accepted, then}
use Rattle.paper.specs.Dated.{read_any}
use Rattle.paper.specs.Line.{read_line}
use Rattle.paper.specs.Text.{read_text}
use Rattle.paper.specs.Run.{Answer}
use Rattle.paper.specs.Page.{LineReader, frame_fault, unless, answer_by}
use Rattle.paper.specs.Strict.{Verdict, strict_number, strict_of}
use Rattle.paper.proofs.Refusals.{answer_not_six, payee_not_six}
use Rattle.strict.proofs.Laws.{numbers}
use Rattle.engine.specs.Spec as R
use Rattle.std.specs.Prelude.{Result as Outcome, Ok, Err}
use Rattle.refusal.specs.Numbers.{number}
use Rattle.refusal.specs.declared.Refusal.{Refusal}
use Rattle.writer.specs.Spec.{told}
use Rattle.batch.specs.Spec as B
use Rattle.batch.specs.Spec.{done_by}
use Rattle.bound.specs.Spec as N
use Rattle.points.specs.Spec as P
use Rattle.settlement.specs.Spec as S
use Rattle.writer.proofs.Laws.{write_not_six}
use Rattle.settlement.proofs.Laws.{line_not_six, payee_settled_not_six as payee_not_six_settled}
use Rattle.bound.proofs.Laws.{line_not_six as line_bound_not_six, text_not_six as text_bound_not_six}
use Rattle.kurvneist.specs.Spec as X

-- a run's answer as numbers
pub reduced : {read : LineReader} {book line : List ℕ} {units budget day : ℕ} {schedule work net output work' net' output' answer' : List ℕ} {n : ℕ}
    {r : R.Reply} →
    R.ReducedBy read book line units budget day schedule work net output work' net' output' r →
    (n ≡ X.refusal (R.values r)) × (answer' ≡ X.value_numbers (R.values r)) →
    X.ReducedInNumbersBy read book line units budget day schedule work net output work' net' output' answer' n
reduced {r = r} q e =
    record { number = e.0 ∙ ap X.refusal q.answer; values = e.1 ∙ ap X.value_numbers q.answer; answer = r; buffers = q }

-- of a run with a name, and of a resumption
pub parked : {read : LineReader} {book line : List ℕ} {units budget day : ℕ} {schedule name work net points output work' net' points' output' answer' : List ℕ} {n : ℕ}
    {r : R.Reply} →
    P.ParkedBy read book line units budget day schedule name work net points output work' net' points' output' r →
    (n ≡ X.refusal (R.values r)) × (answer' ≡ X.value_numbers (R.values r)) →
    X.ParkedInNumbersBy read book line units budget day schedule name work net points output work' net' points' output' answer' n
parked {r = r} q e =
    record { number = e.0 ∙ ap X.refusal q.answer; values = e.1 ∙ ap X.value_numbers q.answer; answer = r; buffers = q }

pub resumed : {name schedule work net points output work' net' points' output' answer' : List ℕ} {n : ℕ} {r : R.Reply} →
    P.ResumedBy name schedule work net points output work' net' points' output' r →
    (n ≡ X.refusal (R.values r)) × (answer' ≡ X.value_numbers (R.values r)) →
    X.ResumedInNumbers name schedule work net points output work' net' points' output' answer' n
resumed {r = r} q e =
    record { number = e.0 ∙ ap X.refusal q.answer; values = e.1 ∙ ap X.value_numbers q.answer; answer = r; buffers = q }

-- the answer of many lines as numbers
pub lines_told : {read : LineReader} {book lines : List ℕ} {units budget day : ℕ} {schedule work net answers work' net' answers' done' : List ℕ} {n : ℕ}
    {r : B.Answered} →
    B.LinesBy read book lines units budget day schedule work net answers work' net' answers' r →
    (n ≡ X.refusal (B.values r)) × (done' ≡ X.done_numbers (B.values r)) →
    X.LinesInNumbersBy read book lines units budget day schedule work net answers work' net' answers' done' n
lines_told {r = r} q e =
    record { number = e.0 ∙ ap X.refusal q.told; values = e.1 ∙ ap X.done_numbers q.told; answer = r; buffers = q }

-- what is told of a schedule's length as numbers
pub bound_told : {read : LineReader} {book line : List ℕ} {budget day : ℕ} {work net work' net' answer' : List ℕ} {n : ℕ} {r : N.Reply} →
    N.BoundBy read book line budget day work net work' net' r → (n ≡ X.refusal (N.values r)) × (answer' ≡ X.bound_numbers (N.values r)) →
    X.BoundInNumbersBy read book line budget day work net work' net' answer' n
bound_told {r = r} q e =
    record { number = e.0 ∙ ap X.refusal q.answer; values = e.1 ∙ ap X.bound_numbers q.answer; answer = r; buffers = q }

-- a run and its charge as numbers
pub settled_told : {read : LineReader} {book line : List ℕ} {units budget day : ℕ} {schedule rates : List ℕ} {amount : ℤ} {ss output : List ℕ} {parts : List ℤ}
    {output' : List ℕ} {parts' : List ℤ} {answer' : List ℕ} {fee' : List ℤ} {charged' : List ℕ} {n : ℕ} {r : S.Reply} →
    S.SettledBy read book line units budget day schedule rates amount ss output parts output' parts' r →
    X.SettledNumbers (S.values (S.told r)) answer' fee' charged' n →
    X.SettledInNumbersBy read book line units budget day schedule rates amount ss output parts output' parts' answer' fee' charged' n
settled_told {answer' = answer'} {fee' = fee'} {charged' = charged'} {n = n} {r = r} q s =
    record { numbers = subst (λ (t : Result S.Told). X.SettledNumbers t answer' fee' charged' n) q.answer s; answer = r; buffers = q }

-- the strict profile's
module _ {book pair' : List ℕ} {r : ℕ} where
  pub judged : (v : Verdict) → v ≡ strict_of book → r ≡ X.number_or_0 (strict_number v) → pair' ≡ X.pair_numbers v → X.StrictInNumbers book pair' r
  judged v q e f = record { number = e ∙ ap (λ (x : Verdict). X.number_or_0 (strict_number x)) q; pair = f ∙ ap X.pair_numbers q }

-- NEVER 6

never : {A : Type 0} (number : Result A → ℕ) → ((k : ℕ) → number (refused k) ≡ k) → ((a : A) → number (accepted a) ≡ 0) →
    (x : Result A) → x ≢ refused 6 → number x ≢ 6
never number f g (refused k) n e = n (ap refused (sym (f k) ∙ e))
never number f g (accepted a) n e = omega (arith, g a)

module _ {book line : List ℕ} {units budget day : ℕ} {schedule work net output work' net' output' answer' : List ℕ} {r : ℕ} where
  one_not_six : (read : LineReader) → R.answered_by read book line units budget day schedule work net output ≢ refused 6 →
      X.ReducedInNumbersBy read book line units budget day schedule work net output work' net' output' answer' r → r ≢ 6
  one_not_six read n h e = never (λ (x : Result Answer). X.refusal (R.values_of x)) (λ k. refl) (λ a. refl) _ n (sym h.number ∙ e)

  pub reduced_not_six : X.ReducedInNumbers book line units budget day schedule work net output work' net' output' answer' r → r ≢ 6
  reduced_not_six = one_not_six read_line (answer_not_six R.published (R.request book line units budget day schedule work net output))

  pub payee_reduced_not_six : X.PayeeInNumbers book line units budget day schedule work net output work' net' output' answer' r → r ≢ 6
  payee_reduced_not_six = one_not_six read_text (payee_not_six R.published (R.request book line units budget day schedule work net output))

-- frame and book refuse many lines as they would refuse one
alike : {A C D : Type 0} (f : Option ℕ) (x : Result A) (g : A → Result C) (h : A → D) (k : ℕ) →
    unless f (then x (λ a. accepted (h a))) ≡ refused k → unless f (then x g) ≡ refused k
unfolding unless then
alike none (refused n) g h k e = let i : n ≡ k = cc in ap refused i
alike none (accepted a) g h k e = let z : ◌≡◌ {A = ℕ} 0 1 = cc in absurd (omega arith)
alike (some n) x g h k e = let i : n ≡ k = cc in ap refused i

module _ {book lines : List ℕ} {units budget day : ℕ} {schedule work net answers work' net' answers' done' : List ℕ} {r : ℕ} where
  -- many lines are refused as one of the same bytes would be
  many_not_six : (read : LineReader) → B.answer read book units budget day schedule (length work) (length net) lines ≢ refused 6 →
      X.LinesInNumbersBy read book lines units budget day schedule work net answers work' net' answers' done' r → r ≢ 6
  unfolding done_by answer_by
  many_not_six read n h e =
      never
      (λ (x : Result (List (List ℕ))). X.refusal (B.values_of read book units budget day schedule (length work) (length net) lines x)) (λ k. refl)
      (λ a. refl) (B.lines_done read book lines units budget day schedule work net answers)
      (λ f. n (alike (frame_fault R.published (B.asked read book units budget day schedule (length work) (length net) lines)) (read_any book) _ _ 6 f))
      (sym h.number ∙ e)

  pub lines_not_six : X.LinesInNumbers book lines units budget day schedule work net answers work' net' answers' done' r → r ≢ 6
  lines_not_six = many_not_six read_line (answer_not_six R.published _)

  pub payees_not_six : X.PayeesInNumbers book lines units budget day schedule work net answers work' net' answers' done' r → r ≢ 6
  payees_not_six = many_not_six read_text (payee_not_six R.published _)

module _ {book line : List ℕ} {budget day : ℕ} {work net work' net' answer' : List ℕ} {r : ℕ} where
  told_not_six : (read : LineReader) → N.bound_of read book line budget day work net ≢ refused 6 →
      X.BoundInNumbersBy read book line budget day work net work' net' answer' r → r ≢ 6
  told_not_six read n h e = never (λ (x : Result N.Bound). X.refusal x) (λ k. refl) (λ a. refl) _ n (sym h.number ∙ e)

  pub bound_not_six : X.BoundInNumbers book line budget day work net work' net' answer' r → r ≢ 6
  bound_not_six = told_not_six read_line (line_bound_not_six book line budget day work net)

  pub payee_bound_not_six : X.PayeeBoundInNumbers book line budget day work net work' net' answer' r → r ≢ 6
  payee_bound_not_six = told_not_six read_text (text_bound_not_six book line budget day work net)

pub wrote_not_six : {book output output' length' : List ℕ} {r : ℕ} → X.WroteInNumbers book output output' length' r → r ≢ 6
wrote_not_six {r = r} h e = go h.answer refl
  where
    go : (w : Outcome ℕ Refusal) → h.answer ≡ w → ⊥
    go (Err k) f =
        let i : r ≡ number k = h.number ∙ ap X.written_refusal f in
        write_not_six h.is (ap told f ∙ ap refused (sym i ∙ e))
    go (Ok n) f =
        let i : r ≡ 0 = h.number ∙ ap X.written_refusal f in
        omega arith

module _ {book line : List ℕ} {units budget day : ℕ} {schedule rates : List ℕ} {amount : ℤ} {ss output : List ℕ} {parts : List ℤ} {output' : List ℕ}
    {parts' : List ℤ} {answer' : List ℕ} {fee' : List ℤ} {charged' : List ℕ} {r : ℕ} where
  settle_not_six : (read : LineReader) → S.answered read book line units budget day schedule rates amount ss output parts ≢ refused 6 →
      X.SettledInNumbersBy read book line units budget day schedule rates amount ss output parts output' parts' answer' fee' charged' r → r ≢ 6
  settle_not_six read n h e = never (λ (x : Result S.Settlement). X.refusal (S.values_of x)) (λ k. refl) (λ a. refl) _ n (sym h.numbers.number ∙ e)

  pub settled_not_six : X.LineSettled book line units budget day schedule rates amount ss output parts output' parts' answer' fee' charged' r → r ≢ 6
  settled_not_six = settle_not_six read_line (line_not_six book line units budget day schedule output rates amount ss)

  pub payee_settled_not_six : X.PayeeSettled book line units budget day schedule rates amount ss output parts output' parts' answer' fee' charged' r → r ≢ 6
  payee_settled_not_six = settle_not_six read_text (payee_not_six_settled book line units budget day schedule output rates amount ss)

pub strict_not_six : {book pair' : List ℕ} {r : ℕ} → X.StrictInNumbers book pair' r → r ≢ 6
unfolding strict_number
strict_not_six {book} {r = r} h e = go (strict_of book) refl (sym e ∙ h.number)
  where
    go : (v : Verdict) → strict_of book ≡ v → 6 ≡ X.number_or_0 (strict_number v) → ⊥
    go (Verdict.faulty k) f z = elim (numbers book k (sym f)) [ inl n ↦ n.2 (sym z) | inr n ↦ omega arith ]
    go (Verdict.overlapping i j) f z = omega arith
    go Verdict.admitted f z = omega arith
