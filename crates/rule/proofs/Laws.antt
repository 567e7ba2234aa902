-- What is found, in the paper's terms: an agreement is a match, and the rule that is found is the first in book order. Assumes nothing.
use mathlib.Core.List.{List, [], ◌++◌, append-nil}
use mathlib.Core.Option.{Option, none, some}
use mathlib.Core.Path.{◌≡◌, refl, sym, ◌∙◌}
use Prim.Native.Nat.{ℕ, ◌+◌, ◌≤◌, ◌<◌}
use native.Mathlib.Omega.{arith}
use lib.ListN.{length, drop}
use Rattle.paper.specs.Tree.{size, preorder, Correct}
use Rattle.paper.specs.Book.{Term, Side, Book, arity}
use Rattle.paper.specs.Match
use Rattle.paper.specs.Match.{Bindings, Matches, filling}
use Rattle.paper.specs.Sound.{All, SoundRule}
use Rattle.paper.proofs.Lists.{all_map}
use Rattle.paper.proofs.Matching as matching
use Rattle.paper.proofs.Rules.{good_sound}
use Rattle.flat.specs.Symbols as flat
use Rattle.flat.specs.Symbols.{Binding, blank, match, fill, rewrite}
use Rattle.flat.proofs.Matching.{Agree, a_no, a_yes, match_side, Hits, h_miss, h_hit, rewrite_hits}
use Rattle.tables.specs.Layout.{arity_in}
use Rattle.tables.specs.Tables.{rule_at, Tables}
use Rattle.tables.proofs.Laws.{rule_good}
use Rattle.term.proofs.Skipping.{known_arities}
use Rattle.rule.specs.Promises as C
use Rattle.rule.specs.Promises.{tries, Passed}
use Rattle.rule.specs.declared.Match as M
use Rattle.rule.proofs.Arities.{all_drop, match_same}

nothing : (f : ℕ → ℕ) (line : List ℕ) (a : ℕ) (xs : List ℕ) (b : Binding) → match f line [] a xs b ≡ flat.Match.agrees b a
unfolding match
nothing f line a xs b = refl

-- On the terms of a book

module _ {bytes operators rules : List ℕ} {B : Book} (T : Tables bytes operators rules B) (xs : List ℕ)
    (known : All (λ o. o < length B.operators) xs) (a : ℕ) (t : Term) (correct : Correct (arity B) t) (rest : List ℕ) (there : drop a xs ≡ preorder t ++ rest) where
  sound : All (SoundRule B) B.rules
  sound = all_map _ _ (good_sound B) B.rules T.good.rules

  abbrev left : ℕ → Side
  left i = (rule_at B.rules i).left

  -- a match of rule i's left side is that on the tree
  abbrev Tries : ℕ → Option (Bindings ℕ) → Type 0
  Tries i o = Agree B.operators xs (λ b. flat.Match.agrees b (a + size t)) (tries operators B.rules i a xs) o

  pub tried : (i : ℕ) → i < length B.rules → Tries i (Match.match (left i) t Match.blank)
  tried i l =
      let h = match_side B.operators (left i) (rule_good T i l).left.correct t correct Match.blank blank [] a rest xs there (λ v. refl) in
      let e : match (arity B) xs (preorder (left i) ++ []) a (preorder t ++ rest) blank ≡ tries operators B.rules i a xs =
      rw (append-nil (preorder (left i)), ← there) (sym (match_same (arity_in operators) (arity B) xs (preorder (left i)) a (drop a xs) blank (all_drop _ a xs (known_arities B T.operators_in xs known)))) in
      ended e h
    where
      ended : {m' : flat.Match} {o : Option (Bindings ℕ)} → m' ≡ tries operators B.rules i a xs →
          Agree B.operators xs (λ b. match (arity B) xs [] (a + size t) rest b) m' o → Tries i o
      ended e (a_no q) = a_no (sym e ∙ q)
      ended e (a_yes f b q g) = a_yes f b (sym e ∙ q ∙ nothing (arity B) xs (a + size t) rest b) g

  -- rule i matches exactly if some filling of its left side gives the term
  pub agrees_matches : (i e : ℕ) (b : Binding) → i < length B.rules → tries operators B.rules i a xs ≡ flat.Match.agrees b e → Matches (left i) t × (e ≡ a + size t)
  agrees_matches i e b l h = go refl (tried i l)
    where
      go : {o : Option (Bindings ℕ)} → Match.match (left i) t Match.blank ≡ o → Tries i o → Matches (left i) t × (e ≡ a + size t)
      go p (a_no q) = let z : ◌≡◌ {A = ℕ} 0 1 = cc in absurd (omega arith)
      go p (a_yes f b' q g) = ((filling f, matching.found (left i) t f p), cc)

  pub differs_matches : (i : ℕ) → i < length B.rules → tries operators B.rules i a xs ≡ flat.Match.differs → Matches (left i) t → ⊥
  differs_matches i l h = go refl (tried i l)
    where
      go : {o : Option (Bindings ℕ)} → Match.match (left i) t Match.blank ≡ o → Tries i o → Matches (left i) t → ⊥
      go p (a_no q) = matching.not_found (left i) t p
      go p (a_yes f b q g) = let z : ◌≡◌ {A = ℕ} 0 1 = cc in absurd (omega arith)

  -- of the rules that are passed, none matches
  pub passed_matches : (i : ℕ) → i ≤ length B.rules → Passed operators B.rules i a xs → (j : ℕ) → j < i → Matches (left j) t → ⊥
  passed_matches i l p j k = differs_matches j (omega arith) (p j k)

  hits : Hits xs (a + size t) (rewrite (arity B) B.rules a xs) (Match.rewrite B.rules t)
  hits = rewrite_hits B B.rules sound t correct a rest xs there

  -- the paper's new term is the right side of the rule that is found, filled
  pub first_rewrites : {len : ℕ} (m : M.Match) (b : Binding) → C.RuleFound B operators a xs len b m →
      (y : Term) × (Match.rewrite B.rules t ≡ some y) × (fill (preorder (rule_at B.rules m.rule).right) b xs ≡ preorder y) × (m.end ≡ a + size t)
  first_rewrites m b f = go refl hits
    where
      go : {o : Option Term} → Match.rewrite B.rules t ≡ o → Hits xs (a + size t) (rewrite (arity B) B.rules a xs) o →
          (y : Term) × (Match.rewrite B.rules t ≡ some y) × (fill (preorder (rule_at B.rules m.rule).right) b xs ≡ preorder y) × (m.end ≡ a + size t)
      go p (h_miss q) = let s = f.is in let z : ◌≡◌ {A = ℕ} 0 1 = cc in absurd (omega arith)
      go p (h_hit y right b' q z) = let s = f.is in (y, p, cc, cc)

  pub missed_rewrites : C.NoneFound B operators a xs → Match.rewrite B.rules t ≡ none
  missed_rewrites f = go refl hits
    where
      go : {o : Option Term} → Match.rewrite B.rules t ≡ o → Hits xs (a + size t) (rewrite (arity B) B.rules a xs) o → Match.rewrite B.rules t ≡ none
      go p (h_miss q) = p
      go p (h_hit y right b q e) = let s = f.is in let z : ◌≡◌ {A = ℕ} 0 1 = cc in absurd (omega arith)
