-- What a match binds: each variable of a rule's right side to the term that begins where its segment starts. Assumes nothing.
use mathlib.Core.Bool.{true, true≢false}
use mathlib.Core.List.{List, [], ◌∷◌, ◌++◌}
use mathlib.Core.Option.{Option, some}
use mathlib.Core.Path.{◌≡◌, refl, sym, ap, ◌∙◌, subst}
use Prim.Native.Nat.{ℕ, zero, suc, ◌+◌, ◌<◌}
use native.Mathlib.Omega.{arith}
use lib.ListN.{length, drop, length-take, length-drop, take-append-drop}
use Rattle.paper.specs.Tree.{node, size, preorder, preorders, first_trees, other_trees, trees, Correct, Complete}
use Rattle.paper.specs.Book.{Operator, Symbol, Term, Rule, Book, arity_at, arity}
use Rattle.paper.specs.Match
use Rattle.paper.specs.Match.{Bindings}
use Rattle.paper.specs.Reader.{variables}
use Rattle.paper.specs.Sound.{All, SoundRule}
use Rattle.paper.proofs.Lists.{all_in, all_of}
use Rattle.paper.proofs.Matching.{Has, found_has}
use Rattle.paper.proofs.Rules.{good_sound}
use Rattle.paper.proofs.Trees.{size_preorder, preorders_trees, complete_correct}
use Rattle.flat.specs.Symbols as flat
use Rattle.flat.specs.Symbols.{Segment, Binding, skip}
use Rattle.flat.specs.Rules.{spells}
use Rattle.flat.proofs.Offsets.{size_positive, skip_one}
use Rattle.flat.proofs.Sizes.{spells_drop}
use Rattle.flat.proofs.Matching.{ReadsAt, Reads, Agree, a_no, a_yes}
use Rattle.tables.specs.Layout.{arity_in}
use Rattle.tables.specs.Tables.{rule_at, Tables}
use Rattle.tables.proofs.Laws.{rule_good}
use Rattle.term.proofs.Skipping.{skip_book, spells_book}
use Rattle.rule.specs.Packed.{BoundTerm}
use Rattle.rule.specs.Promises.{tries}
use Rattle.rule.proofs.Arities.{all_drop}
use Rattle.rule.proofs.Laws.{tried}

-- A TERM AT EACH OFFSET

spells_complete : (ar : ℕ → ℕ) (n : ℕ) (xs : List ℕ) → spells ar n xs ≡ true → Complete ar n xs
unfolding spells
spells_complete ar zero [] e = tt
spells_complete ar zero (x ∷ xs) e = absurd (true≢false (sym e))
spells_complete ar (suc n) [] e = absurd (true≢false (sym e))
spells_complete ar (suc n) (x ∷ xs) e = spells_complete ar (ar x + n) xs e

-- the symbols xs begin with a term
abbrev pub Begins : (ℕ → ℕ) → List ℕ → Type 0
Begins ar xs = (t : Term) × Correct ar t × (r : List ℕ) × (xs ≡ preorder t ++ r)

first_term : (ar : ℕ → ℕ) (n : ℕ) (xs : List ℕ) → Complete ar (suc n) xs → Begins ar xs
unfolding trees preorders
first_term ar n [] c = absurd c
first_term ar n (x ∷ xs) c =
    let ts = trees ar xs in
    (node x (first_trees (ar x) ts), (complete_correct ar (suc n) (x ∷ xs) c).0.0, preorders (other_trees (ar x) ts), sym (preorders_trees ar (x ∷ xs)))

-- where symbols are one term, one begins at each offset
pub term_at : (ar : ℕ → ℕ) (xs : List ℕ) (a : ℕ) → spells ar 1 xs ≡ true → a < length xs → Begins ar (drop a xs)
term_at ar xs a e l = let (n, f) = spells_drop ar xs 1 a e l in first_term ar n (drop a xs) (spells_complete ar (suc n) (drop a xs) f)

-- a segment that reads a term is that term, where it starts
read_term : (ops : List Operator) (xs : List ℕ) (t : Term) (s : Segment) → ReadsAt ops xs (some t) s →
    (s.start < length xs) × (s.size ≡ skip (arity_at ops) 1 (drop s.start xs))
read_term ops xs t s (c, n, e) =
    let d = drop s.start xs in
    let z = ap length e in
    let l : skip (arity_at ops) 1 d ≡ size t =
    ap (skip (arity_at ops) 1) (sym (take-append-drop s.size d) ∙ ap (λ (l : List ℕ). l ++ drop s.size d) e) ∙ skip_one (arity_at ops) t c (drop s.size d) in
    (omega (arith, simp (length-take, length-drop) at z, size_positive t, size_preorder t), n ∙ sym l)

-- ALL VARIABLES

over_variables : (ar : ℕ → ℕ) (xs : List ℕ) (b : Binding) (ss : List Symbol) → All (λ v. BoundTerm ar xs b (Symbol.variable v)) (variables ss) → All (BoundTerm ar xs b) ss
unfolding variables
over_variables ar xs b [] h = tt
over_variables ar xs b (Symbol.operator o ∷ ss) h = (tt, over_variables ar xs b ss h)
over_variables ar xs b (Symbol.variable v ∷ ss) h = (h.0, over_variables ar xs b ss h.1)

module _ {bytes operators rules : List ℕ} {B : Book} (T : Tables bytes operators rules B) (xs : List ℕ)
    (known : All (λ o. o < length B.operators) xs) (a : ℕ) where
  bound_term : (f : Bindings ℕ) (b : Binding) (v : ℕ) → Reads B.operators xs f b → Has f v → BoundTerm (arity_in operators) xs b (Symbol.variable v)
  bound_term f b v g (t, e) =
      let (l, n) = read_term B.operators xs t (b v) (subst (λ (m : Option Term). ReadsAt B.operators xs m (b v)) e (g v)) in
      (l, n ∙ sym (skip_book B T.operators_in 1 (drop (b v).start xs) (all_drop _ (b v).start xs known)))

  abbrev rule : ℕ → Rule
  rule i = rule_at B.rules i

  -- a rule that matches where the symbols are one term binds each variable of its right side to a term
  pub bound_terms : (i e : ℕ) (b : Binding) → spells (arity_in operators) 1 xs ≡ true → a < length xs → i < length B.rules →
      tries operators B.rules i a xs ≡ flat.Match.agrees b e → All (BoundTerm (arity_in operators) xs b) (preorder (rule i).right)
  bound_terms i e b s l h q =
      let (t, c, r, d) = term_at (arity B) xs a (sym (spells_book B T.operators_in 1 xs known) ∙ s) l in
      go t refl (tried T xs known a t c r d i h)
    where
      k : SoundRule B (rule i)
      k = good_sound B (rule i) (rule_good T i h)

      go : (t : Term) {o : Option (Bindings ℕ)} → Match.match (rule i).left t Match.blank ≡ o →
          Agree B.operators xs (λ b. flat.Match.agrees b (a + size t)) (tries operators B.rules i a xs) o →
          All (BoundTerm (arity_in operators) xs b) (preorder (rule i).right)
      go t p (a_no x) = let z : ◌≡◌ {A = ℕ} 0 1 = cc in absurd (omega arith)
      go t p (a_yes f b' x g) =
          let y : b ≡ b' = cc in
          let m = found_has B.operators (rule i).left k.left t f p in
          over_variables (arity_in operators) xs b (preorder (rule i).right)
          (all_of _ (variables (preorder (rule i).right)) (λ v n. bound_term f b v (rw y g) (all_in (Has f) v (variables (preorder (rule i).left)) m (k.bound v n))))
