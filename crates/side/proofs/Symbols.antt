-- One symbol: what the code answers is what the paper's reader and its checks answer. Assumes nothing.
use Rattle.std.proofs.Common.{◌≡◌, ℕ, ◌+◌, ◌-◌, ◌*◌, ◌/◌, ◌%◌, ◌^◌, ◌<◌, ◌≤◌, Bool, true, false, eqb, List, ◌∷◌, ◌++◌, length, sym, refl, ap, ◌∙◌, inl, inr, append_assoc, arith}
use Rattle.paper.specs.Result.{Result, refused, return, refuse, then, ◌>>=◌}
use Rattle.paper.specs.Bits.{to_bits, field}
use Rattle.paper.specs.Book as B
use Rattle.paper.specs.Book.{Operator}
use Rattle.paper.specs.Reader.{read_symbol, left_symbol, right_symbol, variable_of}
use Rattle.paper.proofs.Bits.{field_to_bits}
use Rattle.paper.proofs.Tests.{ltb_true, ltb_false, ltb_cases}
use Rattle.bits.specs.Field.{Nine}
use Rattle.bits.proofs.Ahead.{stand_first}
use Rattle.bits.proofs.Bytes.{two}
use Rattle.bits.proofs.Reading.{answers_out, ran_out}
use Rattle.tables.specs.Layout.{arity_in}
use Rattle.side.specs.Mask.{bit, Masks}
use Rattle.side.specs.Promises.{bits_at, SymbolAt, Meets, MetAt, StepAt}
use Rattle.std.specs.Prelude.{Ok, Err}
use Rattle.std.specs.Prelude.{Result as Answer}
use Rattle.refusal.specs.declared.Refusal.{Refusal}
use Rattle.refusal.specs.Numbers as N
use Rattle.side.specs.declared.Standing as Sd
use Rattle.side.specs.declared.Taken.{Taken}
use Rattle.side.proofs.Mask.{bit_clear, masks_with, has_known}

pub then_refused : {A C : Type 0} (x : Result A) (k : A → Result C) (n : ℕ) → x ≡ refused n → then x k ≡ refused n
unfolding then
then_refused x k n e = ap (λ (z : Result _). then z k) e

-- Reading one, by the nine bits ahead

module _ (bytes : List ℕ) (at n w : ℕ) (N : Nine bytes at w) where
  -- its kind is known, if a bit is left, and then nothing is read if a field behind it runs out
  kind : 0 < 8 * length bytes - at → field 1 (bits_at bytes at) ≡ return (w / 256) (bits_at bytes (at + 1))
  kind h = ap (field 1) (stand_first N 1 8 (omega arith) (omega arith)) ∙ field_to_bits 1 (w / 256) (bits_at bytes (at + 1)) (omega (arith, N.small))

  out : (k m : ℕ) → 8 * length bytes - k < m → field m (bits_at bytes k) ≡ refused 1
  out k m h = ran_out (answers_out bytes k m h) refl

  short : (ops : List Operator) → (0 < 8 * length bytes - at → read_symbol ops (bits_at bytes at) ≡ refused 1) → read_symbol ops (bits_at bytes at) ≡ refused 1
  unfolding read_symbol
  short ops f = elim (ltb_cases 0 (8 * length bytes - at)) [
    | inl p ↦ f p.1
    | inr p ↦ let h = p.1 in then_refused _ _ 1 (out at 1 (omega arith))
  ]

  module _ (l : w < 256) where
    pub operator_short : 8 * length bytes - at < 9 → SymbolAt bytes at n (Err Refusal.BookRunsOut)
    unfolding read_symbol return
    operator_short h =
        let z : w / 256 ≡ 0 = omega arith in
        record { is = λ ops e. sym (short ops (λ k. rw (kind k, z) (then_refused _ _ 1 (out (at + 1) 8 (omega arith))))); small = tt }

    module _ (h : 9 ≤ 8 * length bytes - at) where
      operator_kind : field 1 (bits_at bytes at) ≡ return 0 (to_bits 8 w ++ bits_at bytes (at + 9))
      operator_kind =
          let e : w / 2 ^ 0 ≡ 0 * 2 ^ 8 + w = omega arith in
          ap (field 1) (stand_first N 9 0 (omega arith) h ∙ ap (λ (ys : List ℕ). ys ++ bits_at bytes (at + 9)) (ap (to_bits 9) e ∙ two 1 8 0 w (omega arith))
          ∙ append_assoc (to_bits 1 0) (to_bits 8 w) (bits_at bytes (at + 9)))
          ∙ field_to_bits 1 0 (to_bits 8 w ++ bits_at bytes (at + 9)) (omega arith)

      pub operator_unknown : n ≤ w → SymbolAt bytes at n (Err Refusal.UnknownOperatorInRule)
      unfolding read_symbol return
      operator_unknown k = record {
        is = λ ops e. sym (rw (operator_kind, field_to_bits 8 w (bits_at bytes (at + 9)) (omega arith), ltb_false w (length ops) (omega arith)));
        small = tt;
      }

      pub operator_known : (o next : ℕ) → w < n → o ≡ w → next ≡ at + 9 → SymbolAt bytes at n (Ok (Sd.Standing.Operator o next))
      unfolding read_symbol return
      operator_known o next k p q = rw (p, q) (record {
        is = λ ops e. sym (rw (operator_kind, field_to_bits 8 w (bits_at bytes (at + 9)) (omega arith), ltb_true w (length ops) (omega arith)));
        small = k;
      })

  module _ (l : 256 ≤ w) where
    abbrev number : ℕ
    number = w / 16 % 16

    pub variable_short : 8 * length bytes - at < 5 → SymbolAt bytes at n (Err Refusal.BookRunsOut)
    unfolding read_symbol return
    variable_short h =
        let z : w / 256 ≡ 1 = omega (arith, N.small) in
        record { is = λ ops e. sym (short ops (λ k. rw (kind k, z) (then_refused _ _ 1 (out (at + 1) 4 (omega arith))))); small = tt }

    module _ (h : 5 ≤ 8 * length bytes - at) where
      variable_kind : field 1 (bits_at bytes at) ≡ return 1 (to_bits 4 number ++ bits_at bytes (at + 5))
      variable_kind =
          let e : w / 2 ^ 4 ≡ 1 * 2 ^ 4 + number = omega (arith, N.small) in
          ap (field 1) (stand_first N 5 4 (omega arith) h ∙ ap (λ (ys : List ℕ). ys ++ bits_at bytes (at + 5)) (ap (to_bits 5) e ∙ two 1 4 1 number (omega arith))
          ∙ append_assoc (to_bits 1 1) (to_bits 4 number) (bits_at bytes (at + 5)))
          ∙ field_to_bits 1 1 (to_bits 4 number ++ bits_at bytes (at + 5)) (omega arith)

      pub variable_known : (v next : ℕ) → v ≡ number → next ≡ at + 5 → SymbolAt bytes at n (Ok (Sd.Standing.Variable v next))
      unfolding read_symbol return
      variable_known v next p q = rw (p, q) (record {
        is = λ ops e. sym (rw (variable_kind, field_to_bits 4 number (bits_at bytes (at + 5)) (omega arith)));
        small = omega arith;
      })

-- Checking one

module _ (mask v next : ℕ) where
  pub met_known : (left : Bool) → eqb (bit v mask) 1 ≡ true → MetAt mask v left next (Ok (record { arity = 0; met = mask; next = next }))
  unfolding left_symbol right_symbol variable_of
  met_known true e =
      (refl, refl, λ vs h. record { on = v ∷ vs; is = λ xs. refl; same = λ u. refl; masks = λ u. sym (has_known v vs (h v ∙ e) u) ∙ h u })
  met_known false e =
      (refl, refl, λ vs h. record { on = vs; is = λ xs. rw (h v ∙ e); same = has_known v vs (h v ∙ e); masks = h })

  pub met_new : (m : ℕ) → eqb (bit v mask) 1 ≡ false → m ≡ mask + 2 ^ v → MetAt mask v true next (Ok (record { arity = 0; met = m; next = next }))
  unfolding left_symbol variable_of
  met_new m e f =
      (refl, refl, λ vs h. record { on = v ∷ vs; is = λ xs. refl; same = λ u. refl; masks = rw f (masks_with mask v vs (bit_clear v mask e) h) })

  pub met_unknown : eqb (bit v mask) 1 ≡ false → MetAt mask v false next (Err Refusal.RightSideAddsVariable)
  unfolding right_symbol refuse
  met_unknown e vs h xs = rw (h v ∙ e)

-- Both

operator_meets : (left : Bool) (vs : List ℕ) (o m : ℕ) → Masks m vs → Meets left vs (B.Symbol.operator o) m
unfolding left_symbol right_symbol variable_of
operator_meets true vs o m h = record { on = vs; is = λ xs. refl; same = λ v. refl; masks = h }
operator_meets false vs o m h = record { on = vs; is = λ xs. refl; same = λ v. refl; masks = h }

module _ (bytes : List ℕ) (at n : ℕ) (operators : List ℕ) (mask : ℕ) (left : Bool) where
  pub step_refused : (k : Refusal) → SymbolAt bytes at n (Err k) → StepAt bytes at n operators mask left (Err k)
  unfolding ◌>>=◌
  step_refused k s = record { is = λ ops t vs h. then_refused _ _ (N.number k) (sym (s.is ops t.count)); small = tt }

  pub step_operator : (o next a : ℕ) → SymbolAt bytes at n (Ok (Sd.Standing.Operator o next)) → a ≡ arity_in operators o → a < 256 →
      StepAt bytes at n operators mask left (Ok (record { arity = a; met = mask; next = next }))
  unfolding return
  step_operator o next a s e l =
      record {
        is = λ ops t vs h. (B.Symbol.operator o, sym (s.is ops t.count), e ∙ t.says o s.small, operator_meets left vs o mask h);
        small = l;
      }

  pub step_variable : (v next : ℕ) (r : Answer Taken Refusal) → SymbolAt bytes at n (Ok (Sd.Standing.Variable v next)) → MetAt mask v left next r →
      StepAt bytes at n operators mask left r
  unfolding ◌>>=◌ return then
  step_variable v next (Ok t) s (z, e, f) =
      record {
        is = λ ops a vs h. (B.Symbol.variable v, rw e (sym (s.is ops a.count)), z, f vs h);
        small = omega arith;
      }
  step_variable v next (Err k) s f = record { is = λ ops t vs h. rw (sym (s.is ops t.count)) (f vs h (bits_at bytes next)); small = tt }
