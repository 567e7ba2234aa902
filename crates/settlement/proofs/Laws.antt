-- What holds of every run and its charge (document 02, Change 12): the run's own refusals come first, only a finished run is charged, 15 and 6 never come, and
-- fee and parts of a posting add up to the amount. Assumes nothing.
use mathlib.Core.List.{List}
use mathlib.Core.Logic.{◌⊎◌, inl, inr, ◌≢◌}
use mathlib.Core.Option.{Option, none, some}
use mathlib.Core.Path.{◌≡◌, refl, sym, ap, ◌∙◌}
use Prim.Native.Nat.{ℕ}
use native.Mathlib.Omega.{arith}
use lib.IntN.{ℤ, ◌+ℤ◌}
use Rattle.paper.specs.Result.{Result, refused, accepted, then}
use Rattle.paper.specs.Tree.{preorder}
use Rattle.paper.specs.Machine.{Ending}
use Rattle.paper.specs.Line.{read_line}
use Rattle.paper.specs.Text.{read_text}
use Rattle.paper.specs.Run.{Answer}
use Rattle.paper.specs.Page.{LineReader}
use Rattle.paper.proofs.Refusals.{answer_not_six, payee_not_six, request_refused_by, Refusal, OfText, payee_refused_by}
use Rattle.engine.specs.Spec as R
use Rattle.fees.specs.Fees.{sum, Charge, charge}
use Rattle.fees.proofs.Laws.{adds_up, refused_by_number}
use Rattle.settlement.specs.Spec.{Settlement, charged, asked, ran, settled}

-- a refusal by k is the run's, or 22 or 23 of its posting
charge_number : (e : Ending) (term rates : List ℕ) (amount : ℤ) (ss : List ℕ) (k : ℕ) → charged e term rates amount ss ≡ refused k → (k ≡ 22) ⊎ (k ≡ 23)
unfolding charged then
charge_number Ending.finished term rates amount ss k h = go (charge term rates amount ss) refl h
  where
    go : (x : Result Charge) → charge term rates amount ss ≡ x → then x (λ C. accepted (some C)) ≡ refused k → (k ≡ 22) ⊎ (k ≡ 23)
    go (refused j) e h = let i : j ≡ k = cc in refused_by_number term rates amount ss k (e ∙ ap refused i)
    go (accepted C) e h = let z : ◌≡◌ {A = ℕ} 0 1 = cc in absurd (omega arith)
charge_number Ending.spent term rates amount ss k h = let z : ◌≡◌ {A = ℕ} 0 1 = cc in absurd (omega arith)
charge_number Ending.full term rates amount ss k h = let z : ◌≡◌ {A = ℕ} 0 1 = cc in absurd (omega arith)
charge_number Ending.cut term rates amount ss k h = let z : ◌≡◌ {A = ℕ} 0 1 = cc in absurd (omega arith)

some_same : {C D : Charge} → ◌≡◌ {A = Option Charge} (some C) (some D) → C ≡ D
some_same e = cc

none_some : {C : Charge} → ◌≡◌ {A = Option Charge} none (some C) → ⊥
none_some e = let z : ◌≡◌ {A = ℕ} 0 1 = cc in omega arith

module _ (read : LineReader) (book line : List ℕ) (units budget day : ℕ) (schedule output rates : List ℕ) (amount : ℤ) (ss : List ℕ) where
  abbrev run_is : Result Answer
  run_is = ran read book line units budget day schedule output

  abbrev answer_is : Result Settlement
  answer_is = settled read book line units budget day schedule output rates amount ss

  -- the run's own refusals come first
  pub run_first : (k : ℕ) → run_is ≡ refused k → answer_is ≡ refused k
  unfolding settled then
  run_first k e = rw e

  -- an unfinished run has no posting: rates, amount and shares are not looked at
  pub not_charged : (A : Answer) → run_is ≡ accepted A → A.ending ≢ Ending.finished → answer_is ≡ accepted (record { run = A; charge = none })
  unfolding settled then charged
  not_charged A e n = rw e (go A.ending n)
    where
      go : (x : Ending) → x ≢ Ending.finished →
          then {B = Settlement} (charged x (preorder A.term) rates amount ss) (λ c. accepted (record { run = A; charge = c })) ≡ accepted (record { run = A; charge = none })
      go Ending.finished n = absurd (n refl)
      go Ending.spent n = refl
      go Ending.full n = refl
      go Ending.cut n = refl

  -- whatever is refused is refused by the run's number, or by 22 or 23
  pub settled_refused_by : (k : ℕ) → answer_is ≡ refused k → (run_is ≡ refused k) ⊎ ((k ≡ 22) ⊎ (k ≡ 23))
  unfolding settled then
  settled_refused_by k h = go run_is refl h
    where
      posting : (A : Answer) (x : Result (Option Charge)) → charged A.ending (preorder A.term) rates amount ss ≡ x →
          then {B = Settlement} x (λ c. accepted (record { run = A; charge = c })) ≡ refused k → (k ≡ 22) ⊎ (k ≡ 23)
      posting A (refused j) e h = let i : j ≡ k = cc in charge_number A.ending (preorder A.term) rates amount ss k (e ∙ ap refused i)
      posting A (accepted c) e h = let z : ◌≡◌ {A = ℕ} 0 1 = cc in absurd (omega arith)

      go : (x : Result Answer) → run_is ≡ x →
          then {B = Settlement} x (λ A. then (charged A.ending (preorder A.term) rates amount ss) (λ c. accepted (record { run = A; charge = c }))) ≡ refused k →
          (run_is ≡ refused k) ⊎ ((k ≡ 22) ⊎ (k ≡ 23))
      go (refused j) e h = let i : j ≡ k = cc in inl (e ∙ ap refused i)
      go (accepted A) e h = inr (posting A (charged A.ending (preorder A.term) rates amount ss) refl h)

  not_by : (k : ℕ) → run_is ≢ refused k → k ≢ 22 → k ≢ 23 → answer_is ≢ refused k
  not_by k n p q h = elim (settled_refused_by k h) [ inl e ↦ n e | inr e ↦ elim e [ inl f ↦ p f | inr f ↦ q f ] ]

  -- the charge of a posting is the definition's, of the bytes of the term that the finished run left
  pub posting_charged : (S : Settlement) (C : Charge) → answer_is ≡ accepted S → S.charge ≡ some C →
      (S.run.ending ≡ Ending.finished) × (charge (preorder S.run.term) rates amount ss ≡ accepted C)
  unfolding settled then charged
  posting_charged S C h c = go run_is refl h
    where
      of_charge : (A : Answer) (x : Result Charge) → A.ending ≡ Ending.finished → charge (preorder A.term) rates amount ss ≡ x →
          then {B = Settlement} (then x (λ C. accepted (some C))) (λ c. accepted (record { run = A; charge = c })) ≡ accepted S →
          (S.run.ending ≡ Ending.finished) × (charge (preorder S.run.term) rates amount ss ≡ accepted C)
      of_charge A (refused j) f e h = let z : ◌≡◌ {A = ℕ} 0 1 = cc in absurd (omega arith)
      of_charge A (accepted D) f e h =
          let s : record { run = A; charge = some D } ≡ S = cc in
          let d : D ≡ C = some_same (ap (λ (T : Settlement). T.charge) s ∙ c) in
          let r : A ≡ S.run = ap (λ (T : Settlement). T.run) s in (
            sym (ap (λ (B : Answer). B.ending) r) ∙ f,
            sym (ap (λ (B : Answer). charge (preorder B.term) rates amount ss) r) ∙ e ∙ ap accepted d,
          )

      nothing : (A : Answer) → ◌≡◌ {A = Result Settlement} (accepted (record { run = A; charge = none })) (accepted S) →
          (S.run.ending ≡ Ending.finished) × (charge (preorder S.run.term) rates amount ss ≡ accepted C)
      nothing A h =
          let s : record { run = A; charge = none } ≡ S = cc in
          absurd (none_some (ap (λ (T : Settlement). T.charge) s ∙ c))

      by_ending : (A : Answer) (x : Ending) → A.ending ≡ x →
          then {B = Settlement} (charged x (preorder A.term) rates amount ss) (λ c. accepted (record { run = A; charge = c })) ≡ accepted S →
          (S.run.ending ≡ Ending.finished) × (charge (preorder S.run.term) rates amount ss ≡ accepted C)
      by_ending A Ending.finished f h = of_charge A (charge (preorder A.term) rates amount ss) f refl h
      by_ending A Ending.spent f h = nothing A h
      by_ending A Ending.full f h = nothing A h
      by_ending A Ending.cut f h = nothing A h

      go : (x : Result Answer) → run_is ≡ x →
          then {B = Settlement} x (λ A. then (charged A.ending (preorder A.term) rates amount ss) (λ c. accepted (record { run = A; charge = c }))) ≡ accepted S →
          (S.run.ending ≡ Ending.finished) × (charge (preorder S.run.term) rates amount ss ≡ accepted C)
      go (refused j) e h = let z : ◌≡◌ {A = ℕ} 0 1 = cc in absurd (omega arith)
      go (accepted A) e h = by_ending A A.ending refl h

  -- so its fee and parts add up to the amount
  pub posting_adds_up : (S : Settlement) (C : Charge) → answer_is ≡ accepted S → S.charge ≡ some C → sum C.parts +ℤ C.fee ≡ amount
  posting_adds_up S C h c = adds_up (preorder S.run.term) rates amount ss C (posting_charged S C h c).1

-- NEVER 15, NEVER 6

module _ (book line : List ℕ) (units budget day : ℕ) (schedule output rates : List ℕ) (amount : ℤ) (ss : List ℕ) where
  pub line_not_fifteen : settled read_line book line units budget day schedule output rates amount ss ≢ refused 15
  line_not_fifteen =
      not_by read_line book line units budget day schedule output rates amount ss 15
      (λ e. elim ((request_refused_by R.published (asked read_line book line units budget day schedule output) 15 e).short_area refl) [
        | inl w ↦ omega (arith, w)
        | inr w ↦ omega (arith, w)
      ])
      (λ e. omega arith) (λ e. omega arith)

  pub payee_not_fifteen : settled read_text book line units budget day schedule output rates amount ss ≢ refused 15
  payee_not_fifteen =
      not_by read_text book line units budget day schedule output rates amount ss 15
      (λ e. go (payee_refused_by R.published (asked read_text book line units budget day schedule output) 15 e) refl) (λ e. omega arith) (λ e. omega arith)
    where
      go : {k : ℕ} → Refusal R.published (asked read_text book line units budget day schedule output) OfText k → k ≡ 15 → ⊥
      go Refusal.units e = omega arith
      go (Refusal.work w) e = omega (arith, w)
      go (Refusal.net n) e = omega (arith, n)
      go (Refusal.output o) e = omega arith
      go (Refusal.book h) e = omega (arith, h.1)
      go (Refusal.own h) e = elim h [ inl f ↦ omega arith | inr f ↦ omega arith ]
      go Refusal.schedule e = omega arith

  pub line_not_six : settled read_line book line units budget day schedule output rates amount ss ≢ refused 6
  line_not_six =
      not_by read_line book line units budget day schedule output rates amount ss 6
      (answer_not_six R.published (asked read_line book line units budget day schedule output)) (λ e. omega arith) (λ e. omega arith)

  pub payee_settled_not_six : settled read_text book line units budget day schedule output rates amount ss ≢ refused 6
  payee_settled_not_six =
      not_by read_text book line units budget day schedule output rates amount ss 6
      (payee_not_six R.published (asked read_text book line units budget day schedule output)) (λ e. omega arith) (λ e. omega arith)
