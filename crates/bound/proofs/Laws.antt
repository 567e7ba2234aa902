-- What a caller has of S and F (document 02, Change 14): how many orders any run by the same book, line, budget and day carries out, and that S + 4 × F rounds, each
-- naming every unit, suffice; by what a question is refused, of which 6 is none (Change 4). Assumes nothing.
use mathlib.Core.Bool.{true}
use mathlib.Core.List.{List, flatten}
use mathlib.Core.Logic.{◌⊎◌, inl, inr, ◌≢◌}
use mathlib.Core.Option.{none}
use mathlib.Core.Path.{◌≡◌, refl, sym, ap, ◌∙◌}
use Prim.Native.Nat.{ℕ, zero, suc, ◌+◌, ◌*◌, ◌≤◌, ◌<◌}
use native.Mathlib.Omega.{arith}
use lib.ListN.{length, replicate}
use Rattle.paper.specs.Result.{Result, refused, accepted, then}
use Rattle.paper.specs.Book.{Term, Book}
use Rattle.paper.specs.Dated.{AnyBook, read_any, on_day}
use Rattle.paper.specs.Machine.{Ending, in_force}
use Rattle.paper.specs.Line.{read_line}
use Rattle.paper.specs.Text.{read_text}
use Rattle.paper.specs.Run.{Answer, run}
use Rattle.paper.specs.OneUnit.{alone}
use Rattle.paper.specs.Enough.{carried, orders_alone, forks_alone, Names}
use Rattle.paper.specs.Page.{Request, LineReader, all_below, frame_fault}
use Rattle.paper.specs.Sound.{All}
use Rattle.paper.proofs.Readers.{accepted_injective, refused_injective, refused_accepted}
use Rattle.paper.proofs.Refusals.{answer_not_six, payee_not_six}
use Rattle.paper.proofs.Tests.{ltb_cases}
use Rattle.entry.specs.State.{limited}
use Rattle.run.specs.declared.Run.{Run}
use Rattle.run.specs.Promises.{ending}
use Rattle.engine.specs.Spec as R
use Rattle.std.specs.Prelude.{Ok}
use Rattle.engine.specs.Promises.{fault}
use Rattle.engine.proofs.Answers.{by_frame, by_book, by_line, by_run}
use Rattle.engine.proofs.Frame.{fault_none, fault_work, fault_net, faultless, positive, framed, faulty}
use Rattle.bound.specs.Spec.{Bound, tells, asked, ran, bound_of, ToldBy}
use Rattle.bound.proofs.Answers.{made}

module _ {read : LineReader} {book line : List ℕ} {budget day S F : ℕ} (t : ToldBy read book line budget day S F) where
  -- any run by the same book and line, with any number of units, any schedule
  module _ {units : ℕ} {schedule work net output : List ℕ} {A : Answer} (r : R.RunBy read book line units budget day schedule work net output A) where
    same_rules : t.rules ≡ r.rules
    same_rules = t.of_day ∙ ap (on_day day) (accepted_injective (sym t.book_read ∙ r.book_read)) ∙ sym r.of_day

    same_term : t.term ≡ r.term
    same_term = accepted_injective (sym t.line_read ∙ ap (λ (B : Book). read B line) same_rules ∙ r.line_read)

    -- its one-unit run is the one that told the two
    pub finishes : (alone r.rules budget r.term S).ending ≡ Ending.finished
    finishes = rw (← same_rules, ← same_term) t.finishes

    orders_told : orders_alone r.rules budget r.term S ≡ S
    orders_told = rw (← same_rules, ← same_term) t.orders

    forks_told : forks_alone r.rules budget r.term S ≡ F
    forks_told = rw (← same_rules, ← same_term) t.forks

    -- at most S + 4 × F orders are carried out; at most S + 3 × F
    pub most : carried in_force r.rules (limited budget) units schedule r.term ≤ S + 4 * F
    most = omega (arith, (r.holds.enough S finishes).most schedule, orders_told, forks_told)

    pub sharp : carried in_force r.rules (limited budget) units schedule r.term ≤ S + 3 * F
    sharp = omega (arith, r.holds.sharp S finishes, orders_told, forks_told)

    pub uncut : 1 ≤ units → (rs : List (List ℕ)) → schedule ≡ flatten rs → All (Names units) rs → S + 4 * F ≤ length rs →
        (A.ending ≡ Ending.finished) ⊎ (A.ending ≡ Ending.full)
    unfolding run
    uncut u rs e names long = rw (r.holds.is, e) ((r.holds.enough S finishes).rounds u rs names (omega (arith, orders_told, forks_told)))

  -- S + 4 × F rounds or more, each naming every unit, finish or end full
  pub suffices : {units : ℕ} {schedule work net output work' net' output' : List ℕ} {a : R.Reply} →
      R.ReducedBy read book line units budget day schedule work net output work' net' output' a → (run : Run) → a ≡ Ok run →
      (rs : List (List ℕ)) → schedule ≡ flatten rs → All (Names units) rs → S + 4 * F ≤ length rs →
      (ending run.ending ≡ Ending.finished) ⊎ (ending run.ending ≡ Ending.full)
  suffices {units} {schedule} {work} {net} {output} d run e rs s names long =
      let m = made d run e in
      let q : Request = R.request book line units budget day schedule work net output in
      let u : 1 ≤ units = positive units (λ z.
      refused_accepted (sym (by_frame read q 13 (faulty q 13 (fault_none units (length work) (length net) (length output) z) (λ z. omega arith))) ∙ m.is)) in
      rw (ap (λ (v : R.Values). v.ending) m.values) (uncut (d.run_of m.answer m.is) u rs s names long)

-- REFUSALS: by an area, the book or the line. 13, 14 and 16 never come: there is one unit, every entry names it, and the output is the run's own.

every_zero : (n : ℕ) → all_below 1 (replicate n 0) ≡ true
unfolding all_below
every_zero zero = refl
every_zero (suc n) = every_zero n

module _ (read : LineReader) (book line : List ℕ) (budget day : ℕ) (work net : List ℕ) where
  abbrev q : Request
  q = asked read book line budget day work net

  abbrev AnswerIs : Result Bound → Type 0
  AnswerIs x = bound_of read book line budget day work net ≡ x

  abbrev pub Refusal : ℕ → Type 0
  Refusal k =
      ((k ≡ 15) × ((length work < (R.published).work) ⊎ (length net < (R.published).net)))
      ⊎ ((read_any book ≡ refused k) ⊎ ((A : AnyBook) × (read_any book ≡ accepted A) × (read (on_day day A) line ≡ refused k)))

  run_refused : (j : ℕ) → ran read book line budget day work net ≡ refused j → AnswerIs (refused j)
  unfolding bound_of then
  run_refused j e = rw e

  run_accepted : (A : Answer) → ran read book line budget day work net ≡ accepted A → (k : ℕ) → ¬ AnswerIs (refused k)
  unfolding bound_of then
  run_accepted A e k h = let b : AnswerIs (accepted (tells A.ending A.entries (A.granted + A.kept))) = rw e refl in refused_accepted (sym h ∙ b)

  -- as the run is
  pub as_run : (k : ℕ) → AnswerIs (refused k) → ran read book line budget day work net ≡ refused k
  as_run k h = go (ran read book line budget day work net) refl
    where
      go : (x : Result Answer) → ran read book line budget day work net ≡ x → ran read book line budget day work net ≡ refused k
      go (refused j) e = e ∙ ap refused (refused_injective (sym (run_refused j e) ∙ h))
      go (accepted A) e = absurd (run_accepted A e k h)

  module _ (k : ℕ) (h : AnswerIs (refused k)) where
    same : (j : ℕ) → ran read book line budget day work net ≡ refused j → j ≡ k
    same j e = refused_injective (sym e ∙ as_run k h)

    faulted : 15 ≡ fault 1 (length work) (length net) 1024 → k ≡ 15
    faulted e = sym (same 15 (by_frame read q 15 (faulty q 15 e (λ z. omega arith))))

    module _ (f : frame_fault R.published q ≡ none) where
      of_line : (A : AnyBook) → read_any book ≡ accepted A → (x : Result Term) → read (on_day day A) line ≡ x → Refusal k
      of_line A b (refused j) l = inr (inr (A, b, l ∙ ap refused (same j (by_line read q f A b j l))))
      of_line A b (accepted t) l = absurd (run_accepted _ (by_run read q f A b t l (every_zero 65536)) k h)

      of_book : (x : Result AnyBook) → read_any book ≡ x → Refusal k
      of_book (refused j) b = inr (inl (b ∙ ap refused (same j (by_book read q f j b))))
      of_book (accepted A) b = of_line A b (read (on_day day A) line) refl

    pub refused_by : Refusal k
    refused_by = elim (ltb_cases (length work) (R.published).work) [
      | inl w ↦ inl (faulted (fault_work 1 (length work) (length net) 1024 (omega arith) (omega arith) w.1), inl w.1)
      | inr w ↦ elim (ltb_cases (length net) (R.published).net) [
        | inl n ↦ inl (faulted (fault_net 1 (length work) (length net) 1024 (omega arith) (omega arith) w.1 n.1), inr n.1)
        | inr n ↦ of_book (framed q (sym (faultless 1 (length work) (length net) 1024 (omega arith) (omega arith) w.1 n.1 (omega arith)))) (read_any book) refl
      ]
    ]

-- NEVER 6

module _ (book line : List ℕ) (budget day : ℕ) (work net : List ℕ) where
  pub line_not_six : bound_of read_line book line budget day work net ≢ refused 6
  line_not_six h = answer_not_six R.published (asked read_line book line budget day work net) (as_run read_line book line budget day work net 6 h)

  pub text_not_six : bound_of read_text book line budget day work net ≢ refused 6
  text_not_six h = payee_not_six R.published (asked read_text book line budget day work net) (as_run read_text book line budget day work net 6 h)
