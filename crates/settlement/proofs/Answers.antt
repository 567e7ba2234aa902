-- The code's answers against the definition's: of a run's posting, then of the whole. Assumes nothing.
use mathlib.Core.List.{List, [], ◌++◌}
use mathlib.Core.Option.{Option, none, some}
use mathlib.Core.Path.{◌≡◌, refl, sym, ap, ◌∙◌}
use Prim.Native.Nat.{ℕ, ◌≤◌}
use native.Mathlib.Omega.{arith}
use lib.IntN.{ℤ}
use lib.ListN.{length, take, drop}
use lib.Seq.{take_at}
use Rattle.paper.specs.Result.{Result, refused, accepted, then}
use Rattle.paper.specs.Tree.{preorder}
use Rattle.paper.specs.Run.{Answer}
use Rattle.paper.specs.Page.{LineReader, frame_fault, run_checked, answer_by}
use Rattle.paper.proofs.Tests.{ltb_false}
use Rattle.run.specs.declared.Run.{Run}
use Rattle.run.specs.Promises.{Ending, ending}
use Rattle.engine.specs.Spec as R
use Rattle.fees.specs.Fees.{Charge, charge}
use Rattle.fees.specs.Spec.{ChargedAs}
use Rattle.refusal.specs.Numbers.{number}
use Rattle.refusal.specs.declared.Refusal.{Refusal}
use Rattle.std.proofs.Common.{Ok, Err}
use Rattle.settlement.specs.Spec.{Reply, told, charged, ran, settled, values, with_fee, values_of, SettledBy}
use Rattle.settlement.specs.Promises.{RunSettled}
use Rattle.settlement.specs.declared.Settled as D

-- THE POSTING OF A RUN

-- by its ending
module _ (term rates : List ℕ) (amount : ℤ) (ss : List ℕ) where
  by_other : (e : Ending) → (e ≡ Ending.Finished → ⊥) → charged (ending e) term rates amount ss ≡ accepted none
  unfolding charged
  by_other Ending.Finished n = absurd (n refl)
  by_other Ending.Spent n = refl
  by_other Ending.Full n = refl
  by_other Ending.Cut n = refl

  module _ (run : Run) where
    pub ended_so : (run.ending ≡ Ending.Finished → ⊥) → {output output' : List ℕ} {parts : List ℤ} → output' ≡ term ++ drop (length term) output →
        RunSettled run term (charged (ending run.ending) term rates amount ss) output output' parts parts (Ok (D.Settled.Ended run))
    ended_so h w = rw (by_other run.ending h) (record { is = refl; output_is = w; parts_are = refl })

    finished : run.ending ≡ Ending.Finished → charged (ending run.ending) term rates amount ss ≡ then (charge term rates amount ss) (λ C. accepted (some C))
    unfolding charged
    finished h = rw h

    pub refused_so : run.ending ≡ Ending.Finished → (r : Refusal) {output : List ℕ} {parts parts' : List ℤ} → ChargedAs (charge term rates amount ss) parts parts' (Err r) →
        RunSettled run term (charged (ending run.ending) term rates amount ss) output output parts parts' (Err r)
    unfolding then
    refused_so h r {output} {parts} {parts'} q = rw (finished h) (go (charge term rates amount ss) q)
      where
        go : (x : Result Charge) → ChargedAs x parts parts' (Err r) →
            RunSettled run term (then x (λ C. accepted (some C))) output output parts parts' (Err r)
        go (refused j) q =
            let a = q.answer in
            let i : number r ≡ j = cc in
            record { is = ap refused i; output_is = refl; parts_are = q.unchanged j refl }
        go (accepted C) q = let a = q.answer in let z : ◌≡◌ {A = ℕ} 0 1 = cc in absurd (omega arith)

    pub posted_so : run.ending ≡ Ending.Finished → (f : ℤ) {output output' : List ℕ} {parts parts' : List ℤ} → ChargedAs (charge term rates amount ss) parts parts' (Ok f) →
        output' ≡ term ++ drop (length term) output →
        RunSettled run term (charged (ending run.ending) term rates amount ss) output output' parts parts' (Ok (D.Settled.Posted run f))
    unfolding then
    posted_so h f {output} {output'} {parts} {parts'} q w = rw (finished h) (go (charge term rates amount ss) q)
      where
        go : (x : Result Charge) → ChargedAs x parts parts' (Ok f) →
            RunSettled run term (then x (λ C. accepted (some C))) output output' parts parts' (Ok (D.Settled.Posted run f))
        go (refused j) q = let a = q.answer in let z : ◌≡◌ {A = ℕ} 0 1 = cc in absurd (omega arith)
        go (accepted C) q =
            let a = q.answer in
            let i : f ≡ C.fee = cc in
            record { is = ap (λ (x : ℤ). accepted (D.Settled.Posted run x)) i; output_is = w; parts_are = q.written C refl }

-- THE RUN

-- the definition's answer that the code's is
pub record Accepted (x : Result Answer) (run : Run) : Type 0 where
  pub answer : Answer
  pub is : x ≡ accepted answer
  pub values : accepted (R.run_values run) ≡ R.values_of (accepted answer)

accepted_as : (x : Result Answer) (run : Run) → accepted (R.run_values run) ≡ R.values_of x → Accepted x run
accepted_as (refused k) run e = let z : ◌≡◌ {A = ℕ} 0 1 = cc in absurd (omega arith)
accepted_as (accepted A) run e = record { answer = A; is = refl; values = e }

refused_by : (x : Result Answer) (k : ℕ) → refused k ≡ R.values_of x → x ≡ refused k
refused_by (refused j) k e = let i : k ≡ j = cc in ap refused (sym i)
refused_by (accepted A) k e = let z : ◌≡◌ {A = ℕ} 0 1 = cc in absurd (omega arith)

same_values : {v w : R.Values} → ◌≡◌ {A = Result R.Values} (accepted v) (accepted w) → v ≡ w
same_values e = cc

module _ (run : Run) (A : Answer) (e : accepted (R.run_values run) ≡ R.values_of (accepted A)) where
  length_told : run.length ≡ length (preorder A.term)
  length_told = ap (λ (v : R.Values). v.length) (same_values e)

  ending_told : ending run.ending ≡ A.ending
  ending_told = ap (λ (v : R.Values). v.ending) (same_values e)

module _ (read : LineReader) (book line : List ℕ) (units budget day : ℕ) (schedule output : List ℕ) where
  -- asked with areas of the published lengths, and any output that is long enough, it is the same run
  same_run : (work net term : List ℕ) → 1024 ≤ length output → length work ≡ (R.published).work → length net ≡ (R.published).net → length term ≡ 1024 →
      R.answered_by read book line units budget day schedule work net term ≡ ran read book line units budget day schedule output
  unfolding answer_by frame_fault run_checked
  same_run work net term h w n t = rw (w, n, t, ltb_false (length output) 1024 h)

-- THE WHOLE

module _ {read : LineReader} {book line : List ℕ} {units budget day : ℕ} {schedule rates : List ℕ} {amount : ℤ} {ss output : List ℕ} {parts : List ℤ} where
  -- the run is refused
  pub run_refused : (k : Refusal) → ran read book line units budget day schedule output ≡ refused (number k) →
      SettledBy read book line units budget day schedule rates amount ss output parts output parts (Err k)
  unfolding settled then
  run_refused k e =
      let f : settled read book line units budget day schedule output rates amount ss ≡ refused (number k) = rw e refl in
      record {
        answer = rw f refl;
        unchanged = λ j h. (refl, refl);
        written = λ S h. let z : ◌≡◌ {A = ℕ} 0 1 = cc in absurd (omega arith);
        run_of = λ S h. let z : ◌≡◌ {A = ℕ} 0 1 = cc in absurd (omega arith);
      }

  -- the run is made, and its posting charged so
  module _ (A : Answer) (run : Run) (v : accepted (R.run_values run) ≡ R.values_of (accepted A))
      (e : ran read book line units budget day schedule output ≡ accepted A)
      (b : R.RunBy read book line units budget day schedule [] [] output A) {output' : List ℕ} {parts' : List ℤ} {r : Reply} where
    whole : (x : Result (Option Charge)) →
        settled read book line units budget day schedule output rates amount ss ≡ then x (λ c. accepted (record { run = A; charge = c })) →
        RunSettled run (preorder A.term) x output output' parts parts' r →
        SettledBy read book line units budget day schedule rates amount ss output parts output' parts' r
    unfolding then
    whole (refused k) f q = record {
      answer = ap values q.is ∙ sym (ap values_of f);
      unchanged = λ j h. (q.output_is, q.parts_are);
      written = λ S h. let z : ◌≡◌ {A = ℕ} 0 1 = cc in absurd (omega arith);
      run_of = λ S h. let z : ◌≡◌ {A = ℕ} 0 1 = cc in absurd (omega arith);
    }
    whole (accepted none) f q = record {
      answer = ap values q.is ∙ ap (λ (x : Result R.Values). with_fee x none) v ∙ sym (ap values_of f);
      unchanged = λ j h. let z : ◌≡◌ {A = ℕ} 0 1 = cc in absurd (omega arith);
      written = λ S h. let s : record { run = A; charge = none } ≡ S = cc in rw (← s) (q.output_is, q.parts_are);
      run_of = λ S h. let s : record { run = A; charge = none } ≡ S = cc in rw (← s) b;
    }
    whole (accepted (some C)) f q = record {
      answer = ap values q.is ∙ ap (λ (x : Result R.Values). with_fee x (some C.fee)) v ∙ sym (ap values_of f);
      unchanged = λ j h. let z : ◌≡◌ {A = ℕ} 0 1 = cc in absurd (omega arith);
      written = λ S h. let s : record { run = A; charge = some C } ≡ S = cc in rw (← s) (q.output_is, q.parts_are);
      run_of = λ S h. let s : record { run = A; charge = some C } ≡ S = cc in rw (← s) b;
    }

    pub run_charged : (term : List ℕ) → term ≡ preorder A.term →
        RunSettled run term (charged (ending run.ending) term rates amount ss) output output' parts parts' r →
        SettledBy read book line units budget day schedule rates amount ss output parts output' parts' r
    unfolding settled then
    run_charged term t q =
        whole (charged A.ending (preorder A.term) rates amount ss) (rw e refl) (rw (t, ending_told run A v) at q)

-- a run that was made in areas of its own
module _ {read : LineReader} {book line : List ℕ} {units budget day : ℕ} {schedule work net term work' net' term' : List ℕ} {a : R.Reply}
    (d : R.ReducedBy read book line units budget day schedule work net term work' net' term' a) where
  module _ (run : Run) (e : a ≡ Ok run) where
    made : Accepted (R.answered_by read book line units budget day schedule work net term) run
    made = accepted_as _ run (sym (ap R.values e) ∙ d.answer)

    -- its term stands in front
    pub run_fits : run.length ≤ 1024
    run_fits = omega (arith, length_told run made.answer made.values, (d.run_of made.answer made.is).holds.fits)

    front : take run.length term' ≡ preorder made.answer.term
    front =
        ap (λ (n : ℕ). take n term') (length_told run made.answer made.values)
        ∙ ap (take (length (preorder made.answer.term))) (d.written made.answer made.is)
        ∙ take_at (preorder made.answer.term) _ _ refl

  module _ {rates : List ℕ} {amount : ℤ} {ss output : List ℕ} {parts : List ℤ} (long : 1024 ≤ length output) (w : length work ≡ (R.published).work)
      (n : length net ≡ (R.published).net) (t : length term ≡ 1024) where
    pub of_refused : (k : Refusal) → a ≡ Err k →
        SettledBy read book line units budget day schedule rates amount ss output parts output parts (Err k)
    of_refused k e =
        run_refused k
        (sym (same_run read book line units budget day schedule output work net term long w n t) ∙ refused_by _ (number k) (sym (ap R.values e) ∙ d.answer))

    pub of_ran : (run : Run) → a ≡ Ok run → {output' : List ℕ} {parts' : List ℤ} {r : Reply} →
        RunSettled run (take run.length term') (charged (ending run.ending) (take run.length term') rates amount ss) output output' parts parts' r →
        SettledBy read book line units budget day schedule rates amount ss output parts output' parts' r
    of_ran run e q =
        let m = made run e in
        let b = d.run_of m.answer m.is in
        run_charged m.answer run m.values
        (sym (same_run read book line units budget day schedule output work net term long w n t) ∙ m.is)
        (record {
          given = b.given;
          rules = b.rules;
          term = b.term;
          book_read = b.book_read;
          of_day = b.of_day;
          line_read = b.line_read;
          units_named = b.units_named;
          holds = b.holds;
        })
        (take run.length term') (front run e) q
