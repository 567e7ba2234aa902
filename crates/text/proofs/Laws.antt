-- What the code answers of a text is what the paper's reader answers, for any book with these operators and arities. Assumes nothing.
use mathlib.Core.List.{List, ◌++◌}
use mathlib.Core.Logic.{inl, inr}
use mathlib.Core.Path.{◌≡◌, refl, sym, ap, ◌∙◌, subst}
use Prim.Native.Nat.{ℕ, zero, suc, ◌+◌, ◌≤◌, ◌<◌}
use native.Mathlib.Omega.{arith}
use lib.ListN.{length, take, drop}
use lib.Seq.{take_at}
use Rattle.paper.specs.Result.{refused, accepted}
use Rattle.paper.specs.Tree.{preorder}
use Rattle.paper.specs.Book.{Book, arity}
use Rattle.paper.specs.Text.{squeezed, chain, one_argument, has_classes, text_fault, read_text}
use Rattle.paper.proofs.Tests.{ltb_cases, eqb_cases}
use Rattle.paper.proofs.Text.{preorder_chain, length_chain}
use Rattle.tables.specs.Layout.{arity_in}
use Rattle.tables.specs.Tables.{Operators}
use Rattle.std.specs.Prelude.{Result, Ok, Err}
use Rattle.refusal.specs.declared.Refusal.{Refusal}
use Rattle.refusal.specs.Numbers.{number}
use Rattle.text.specs.Promises.{Answered, TextRead}
use Rattle.text.proofs.Operators.{few, end_other, end_none}

-- the fault depends on the book only through the number of operators and their arities
module _ (n : ℕ) (f g : ℕ → ℕ) (alike : (o : ℕ) → o < n → f o ≡ g o) where
  one_argument_alike : (m o : ℕ) → o + m ≤ n → one_argument f m o ≡ one_argument g m o
  unfolding one_argument
  one_argument_alike zero o h = refl
  one_argument_alike (suc m) o h = rw (alike o (omega arith), one_argument_alike m (suc o) (omega arith))

  has_classes_alike : has_classes n f ≡ has_classes n g
  has_classes_alike = elim (ltb_cases n 43) [
    | inl p ↦ few n f p.1 ∙ sym (few n g p.1)
    | inr p ↦
        let l = p.1 in
        let e = alike 0 (omega arith) in
        elim (eqb_cases (f 0) 0) [
          | inl q ↦ end_none n f l q.1 ∙ one_argument_alike 42 1 (omega arith) ∙ sym (end_none n g l (sym e ∙ q.1))
          | inr q ↦ end_other n f l q.1 ∙ sym (end_other n g l (λ z. q.1 (e ∙ z)))
        ]
  ]

  text_fault_alike : (text : List ℕ) → text_fault n f text ≡ text_fault n g text
  unfolding text_fault
  text_fault_alike text = rw has_classes_alike

module _ (B : Book) {n : ℕ} {operators : List ℕ} (count : length B.operators ≡ n) (t : Operators B.operators operators) where
  pub text_fault_paper : (text : List ℕ) → text_fault n (arity_in operators) text ≡ text_fault (length B.operators) (arity B) text
  text_fault_paper text =
      text_fault_alike n (arity_in operators) (arity B) (λ o h. (t.each o (omega arith)).arity_is) text
      ∙ ap (λ (m : ℕ). text_fault m (arity B) text) (sym count)

  module _ {text symbols symbols' : List ℕ} {r : Result ℕ Refusal} (told : TextRead n (arity_in operators) text symbols symbols' r) where
    pub text_refused : {e : Refusal} → r ≡ Err e → read_text B text ≡ refused (number e)
    unfolding read_text
    text_refused e =
        let f = subst (Answered n (arity_in operators) text symbols symbols') e told.answered in
        rw (sym (text_fault_paper text) ∙ f)

    pub text_accepted : {m : ℕ} → r ≡ Ok m →
        (read_text B text ≡ accepted (chain (squeezed text)))
        × (m ≡ length (preorder (chain (squeezed text))))
        × (take m symbols' ≡ preorder (chain (squeezed text)))
    unfolding read_text
    text_accepted {m} e =
        let a = subst (Answered n (arity_in operators) text symbols symbols') e told.answered in
        let l : m ≡ length (preorder (chain (squeezed text))) = a.count ∙ sym (length_chain (squeezed text)) in (
          rw (sym (text_fault_paper text) ∙ a.sound),
          l,
          ap (take m) (a.symbols_are ∙ ap (λ (s : List ℕ). s ++ drop m symbols) (sym (preorder_chain (squeezed text))))
              ∙ take_at (preorder (chain (squeezed text))) (drop m symbols) m (sym l),
        )
