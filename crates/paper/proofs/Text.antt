-- Laws of a text's term and of the text's reader (document 02, Change 1): two texts give one term exactly if their squeezed classes agree; the line's
-- reader accepts the term; exactly when 19 and 18 are told. Assumes nothing.
use mathlib.Core.Bool.{true, false, true≢false}
use mathlib.Core.List.{List, [], ◌∷◌, ◌++◌, append-nil, append_cancel_right}
use mathlib.Core.Logic.{◌⊎◌, inl, inr, ◌≢◌, ◌↔◌}
use mathlib.Core.Path.{◌≡◌, refl, sym, ap, ◌∙◌, subst}
use Prim.Native.Nat.{ℕ, zero, suc, ◌+◌, ◌≤◌, ◌<◌}
use native.Mathlib.Omega.{arith}
use lib.ListN.{length, length-append}
use Rattle.paper.specs.Result.{refused, accepted}
use Rattle.paper.specs.Tree.{node, nil, count, preorder, size, Correct}
use Rattle.paper.specs.Book.{Term, Book, arity}
use Rattle.paper.specs.Line.{symbol_limit, read_line}
use Rattle.paper.specs.Text.{class, squeezed, chain, one_argument, has_classes, read_text}
use Rattle.paper.specs.Sound.{All}
use Rattle.paper.proofs.Tests.{ltb_cases, eqb_cases, ltb_true, ltb_false}
use Rattle.paper.proofs.Lists.{all_map, all_append}
use Rattle.paper.proofs.Readers.{accepted_injective, refused_injective, refused_accepted}
use Rattle.paper.proofs.Trees.{size_preorder}
use Rattle.paper.proofs.Line.{line_read}
use Rattle.paper.proofs.Squeezed.{squeezed_symbols, separators_empty}

-- THE TERM

pub separators_end : (text : List ℕ) → All (λ b. class b ≡ 0) text → chain (squeezed text) ≡ node 0 nil
unfolding chain
separators_end text a = ap chain (separators_empty text a)

pub preorder_chain : (cs : List ℕ) → preorder (chain cs) ≡ cs ++ (0 ∷ [])
unfolding preorder chain
preorder_chain [] = refl
preorder_chain (c ∷ cs) = ap (λ (os : List ℕ). c ∷ os) (append-nil (preorder (chain cs)) ∙ preorder_chain cs)

pub length_chain : (cs : List ℕ) → length (preorder (chain cs)) ≡ suc (length cs)
length_chain cs = ap length (preorder_chain cs) ∙ length-append cs (0 ∷ []) ∙ omega arith

pub chain_injective : (cs ds : List ℕ) → chain cs ≡ chain ds → cs ≡ ds
chain_injective cs ds e = append_cancel_right cs ds (0 ∷ []) (sym (preorder_chain cs) ∙ ap preorder e ∙ preorder_chain ds)

-- two texts give one term exactly if their squeezed classes agree
pub one_term : (text text' : List ℕ) → (chain (squeezed text) ≡ chain (squeezed text')) ↔ (squeezed text ≡ squeezed text')
one_term text text' = (chain_injective (squeezed text) (squeezed text'), ap chain)

-- a chain of symbols of one argument each over an `end` without
pub chain_correct : (arity' : ℕ → ℕ) → arity' 0 ≡ 0 → (cs : List ℕ) → All (λ c. arity' c ≡ 1) cs → Correct arity' (chain cs)
unfolding chain count
chain_correct arity' z [] a = (sym z, tt)
chain_correct arity' z (c ∷ cs) (h, a) = (sym h, (chain_correct arity' z cs a, tt))

-- THE BOOK'S OPERATORS

module _ (n : ℕ) (arity' : ℕ → ℕ) where
  -- operators 0 to 42 have a text's arities
  pub record Classes : Type 0 where
    pub enough : 43 ≤ n
    pub end_none : arity' 0 ≡ 0
    pub class_one : (o : ℕ) → 0 < o → o ≤ 42 → arity' o ≡ 1

  -- they lack them: fewer than 43, or `end` with an argument, or a class with none or several
  abbrev pub Lack : Type 0
  Lack = (n < 43) ⊎ ((arity' 0 ≢ 0) ⊎ ((o : ℕ) × (0 < o) × (o ≤ 42) × (arity' o ≢ 1)))

  one_argument_cases : (m o : ℕ) → ((one_argument arity' m o ≡ true) × ((k : ℕ) → o ≤ k → k < o + m → arity' k ≡ 1))
      ⊎ ((one_argument arity' m o ≡ false) × ((k : ℕ) × (o ≤ k) × (k < o + m) × (arity' k ≢ 1)))
  unfolding one_argument
  one_argument_cases zero o = inl (refl, λ k l h. absurd (omega arith))
  one_argument_cases (suc m) o = elim (eqb_cases (arity' o) 1) [
    | inr p ↦ inr (rw (p.0, one_argument), (o, omega arith, omega arith, p.1))
    | inl p ↦ elim (one_argument_cases m (suc o)) [
      | inr q ↦ let (e, (k, l, h, d)) = q in inr (rw (p.0, one_argument) e, (k, omega arith, omega arith, d))
      | inl q ↦ inl (
        rw (p.0, one_argument) q.0,
        λ k l h. elim (eqb_cases k o) [
          | inl r ↦ ap arity' r.1 ∙ p.1
          | inr r ↦ let d = r.1 in q.1 k (omega arith) (omega arith)
        ],
      )
    ]
  ]

  pub classes_cases : ((has_classes n arity' ≡ true) × Classes) ⊎ ((has_classes n arity' ≡ false) × Lack)
  unfolding has_classes
  classes_cases = elim (ltb_cases n 43) [
    | inl p ↦ inr (rw p.0, inl p.1)
    | inr p ↦ elim (eqb_cases (arity' 0) 0) [
      | inr q ↦ inr (rw (p.0, q.0), inr (inl q.1))
      | inl q ↦ elim (one_argument_cases 42 1) [
        | inr r ↦ let (e, (k, l, h, d)) = r in inr (rw (p.0, q.0) e, inr (inr (k, omega arith, omega arith, d)))
        | inl r ↦ inl (rw (p.0, q.0) r.0, record { enough = p.1; end_none = q.1; class_one = λ o l h. r.1 o (omega arith) (omega arith) })
      ]
    ]
  ]

  classes_lack : Classes → Lack → ⊥
  classes_lack c (inl h) = let e = c.enough in absurd (omega arith)
  classes_lack c (inr (inl d)) = d c.end_none
  classes_lack c (inr (inr (o, l, h, d))) = d (c.class_one o l h)

  -- 19's own test
  pub lacks_classes : (has_classes n arity' ≡ false) ↔ Lack
  lacks_classes = elim classes_cases [
    | inl p ↦ (λ e. absurd (true≢false (sym p.0 ∙ e)), λ l. absurd (classes_lack p.1 l))
    | inr p ↦ (λ e. p.1, λ l. p.0)
  ]

-- THE READER

module _ (B : Book) (text : List ℕ) where
  abbrev n : ℕ
  n = length B.operators

  text_19 : has_classes n (arity B) ≡ false → read_text B text ≡ refused 19
  unfolding read_text
  text_19 e = rw e

  text_18 : has_classes n (arity B) ≡ true → symbol_limit < suc (length (squeezed text)) → read_text B text ≡ refused 18
  unfolding read_text
  text_18 e h = rw (e, ltb_true symbol_limit (suc (length (squeezed text))) h)

  text_read : has_classes n (arity B) ≡ true → suc (length (squeezed text)) ≤ symbol_limit → read_text B text ≡ accepted (chain (squeezed text))
  unfolding read_text
  text_read e h = rw (e, ltb_false symbol_limit (suc (length (squeezed text))) h)

  -- what is told, and why
  text_cases : ((read_text B text ≡ refused 19) × (has_classes n (arity B) ≡ false))
      ⊎ (((read_text B text ≡ refused 18) × (has_classes n (arity B) ≡ true) × (1024 < suc (length (squeezed text))))
      ⊎ ((read_text B text ≡ accepted (chain (squeezed text))) × Classes n (arity B) × (suc (length (squeezed text)) ≤ 1024)))
  text_cases = elim (classes_cases n (arity B)) [
    | inr p ↦ inl (text_19 p.0, p.0)
    | inl p ↦ elim (ltb_cases symbol_limit (suc (length (squeezed text)))) [
      | inl q ↦ inr (inl (text_18 p.0 q.1, p.0, q.1))
      | inr q ↦ inr (inr (text_read p.0 q.1, p.1, q.1))
    ]
  ]

  -- an accepted text's term is the chain of its squeezed classes
  text_chain : (t : Term) → read_text B text ≡ accepted t → (chain (squeezed text) ≡ t) × Classes n (arity B) × (suc (length (squeezed text)) ≤ 1024)
  text_chain t e = elim text_cases [
    | inl p ↦ absurd (refused_accepted (sym p.0 ∙ e))
    | inr (inl p) ↦ absurd (refused_accepted (sym p.0 ∙ e))
    | inr (inr p) ↦ (accepted_injective (sym p.0 ∙ e), p.1, p.2)
  ]

  pub text_correct : (t : Term) → read_text B text ≡ accepted t →
      Correct (arity B) t
      × (preorder t ≡ squeezed text ++ (0 ∷ []))
      × (suc (length (squeezed text)) ≤ 1024)
      × All (λ o. o < length B.operators) (squeezed text ++ (0 ∷ []))
  text_correct t e =
      let (q, c, l) = text_chain t e in
      let s = squeezed_symbols text in
      let one = all_map _ (λ (o : ℕ). arity B o ≡ 1) (λ o h. c.class_one o h.0 h.1) (squeezed text) s in
      let known = all_map _ (λ (o : ℕ). o < n) (λ o h. omega (arith, c.enough)) (squeezed text) s in (
        subst (Correct (arity B)) q (chain_correct (arity B) c.end_none (squeezed text) one),
        ap preorder (sym q) ∙ preorder_chain (squeezed text),
        l,
        all_append (λ (o : ℕ). o < n) (squeezed text) (0 ∷ []) known (omega (arith, c.enough), tt),
      )

  -- the line's reader takes the term, too
  pub text_line : (t : Term) → read_text B text ≡ accepted t → read_line B (preorder t) ≡ accepted t
  text_line t e =
      let (c, p, l, a) = text_correct t e in
      let q = ap length p ∙ length-append (squeezed text) (0 ∷ []) in
      let k : size t ≤ 1024 = omega (arith, size_preorder t) in
      line_read B t c k (rw p a)

  -- REFUSALS

  pub refused_19 : (read_text B text ≡ refused 19) ↔ (has_classes n (arity B) ≡ false)
  refused_19 = (
    λ e. elim text_cases [
      | inl p ↦ p.1
      | inr (inl p) ↦ let d = refused_injective (sym e ∙ p.0) in absurd (omega arith)
      | inr (inr p) ↦ absurd (refused_accepted (sym e ∙ p.0))
    ],
    text_19,
  )

  pub refused_18 : (read_text B text ≡ refused 18) ↔ ((has_classes n (arity B) ≡ true) × (1024 < suc (length (squeezed text))))
  refused_18 = (
    λ e. elim text_cases [
      | inl p ↦ let d = refused_injective (sym e ∙ p.0) in absurd (omega arith)
      | inr (inl p) ↦ (p.1, p.2)
      | inr (inr p) ↦ absurd (refused_accepted (sym e ∙ p.0))
    ],
    λ p. text_18 p.0 p.1,
  )

  pub text_refused_by : (k : ℕ) → read_text B text ≡ refused k → (k ≡ 18) ⊎ (k ≡ 19)
  text_refused_by k e = elim text_cases [
    | inl p ↦ inr (refused_injective (sym e ∙ p.0))
    | inr (inl p) ↦ inl (refused_injective (sym e ∙ p.0))
    | inr (inr p) ↦ absurd (refused_accepted (sym e ∙ p.0))
  ]

-- a text gives what an accepted one gives exactly if their squeezed classes agree
pub read_alike : (B : Book) (text text' : List ℕ) (t : Term) → read_text B text ≡ accepted t →
    (read_text B text ≡ read_text B text') ↔ (squeezed text ≡ squeezed text')
unfolding read_text
read_alike B text text' t e = (
  λ p. chain_injective (squeezed text) (squeezed text') ((text_chain B text t e).0 ∙ sym (text_chain B text' t (sym p ∙ e)).0),
  λ p. rw p,
)
