-- The first rule that matches: rules of another root differ, one of the term's root is tried, and the first in book order that agrees is found. Assumes nothing.
use mathlib.Core.Bool.{true}
use mathlib.Core.List.{List, [], ◌∷◌}
use mathlib.Core.Path.{◌≡◌, refl, sym, ap, ◌∙◌}
use Prim.Native.Nat.{ℕ, zero, suc, ◌+◌, ◌<◌}
use native.Mathlib.Omega.{arith}
use borrow.Author.Tests.{eq-eqb, ne_eqb}
use lib.ListN.{length, get_or, drop}
use Rattle.paper.specs.Tree.{node, label, preorder, preorders}
use Rattle.paper.specs.Book.{Symbol, Side, Rule, Book, arity}
use Rattle.paper.specs.Sound.{All, IsOperator}
use Rattle.flat.specs.Symbols as flat
use Rattle.flat.specs.Symbols.{Binding, blank, match, rewrite}
use Rattle.flat.specs.Rules.{spells}
use Rattle.tables.specs.Layout.{arity_in, left_in}
use Rattle.tables.specs.Tables.{rule_at, Root, Tables}
use Rattle.term.proofs.Skipping.{known_arities}
use Rattle.rule.specs.Packed.{Stands, SideAt}
use Rattle.rule.specs.Promises.{found, AgreesWithin, OtherStands, RestMatched, UnderRoot, LeftTried, tries, Passed, NoneFound, RuleFound}
use Rattle.std.specs.Prelude.{Option, Some, None}
use Rattle.rule.proofs.Sides.{under_root}
use Rattle.rule.proofs.Matches.{match_same, match_other, head_at, other_differs, stopped}
use Rattle.rule.proofs.Arities.{rewrite_same}
use Rattle.rule.proofs.Tables.{lefts_stand}
use Rattle.rule.proofs.Terms.{bound_terms}

-- ONE RULE

module _ {bytes operators xs : List ℕ} {left a x due len : ℕ} {b : Binding} (u : UnderRoot operators xs a x due) where
  -- under a root that agrees, its arguments answer
  pub tried_rest : {b₀ : Binding} {r : Option ℕ} → b₀ ≡ blank → RestMatched bytes (left + 9) operators due 63 xs (a + 1) b₀ b r → AgreesWithin len b r →
      LeftTried bytes left operators xs a len b r
  unfolding label preorder
  tried_rest {b₀} {r} z k m = record { is = go; within = m }
    where
      go : (side : Side) → SideAt bytes left operators side → label side ≡ Symbol.operator (get_or xs a 0) →
          match (arity_in operators) xs (preorder side) a (drop a xs) blank ≡ found r b
      go (node s ts) l q =
          let o : ℕ = get_or xs a 0 in
          let w : Stands bytes left operators 1 64 (Symbol.operator o ∷ preorders ts) = rw (← q) l in
          rw q (match_same (arity_in operators) o (preorders ts) a xs blank (head_at a xs o o u.inside refl ∙ eq-eqb o o refl)
          ∙ rw z at (k.is (preorders ts) (under_root bytes operators left o due (preorders ts) w u.arguments)))

  -- behind the root stands another operator than in the term
  pub tried_other : 0 < due → OtherStands bytes (left + 9) x true → LeftTried bytes left operators xs a len b None
  tried_other d h = tried_rest refl (stopped d (other_differs operators xs (a + 1) blank (rw u.second at h))) tt

-- OF A BOOK

-- a side with another root differs
root_other : (arity : ℕ → ℕ) (side : Side) (a : ℕ) (xs : List ℕ) (b : Binding) → IsOperator (label side) → (label side ≡ Symbol.operator (get_or xs a 0) → ⊥) →
    a < length xs → match arity xs (preorder side) a (drop a xs) b ≡ flat.Match.differs
unfolding label preorder
root_other arity (node (Symbol.operator p) ts) a xs b r other l =
    match_other arity xs p (preorders ts) a (drop a xs) b (head_at a xs p (get_or xs a 0) l refl ∙ ne_eqb p (get_or xs a 0) (λ q. other (ap Symbol.operator q)))
root_other arity (node (Symbol.variable v) ts) a xs b r other l = absurd r

module _ {bytes operators rules : List ℕ} {B : Book} (T : Tables bytes operators rules B) (xs : List ℕ) (a : ℕ) where
  -- what is answered for the left side of a rule of the term's root is answered for the rule
  tried : (i len : ℕ) (b : Binding) (r : Option ℕ) → i < length B.rules → Root B.rules (get_or xs a 0) i →
      LeftTried bytes (left_in rules i) operators xs a len b r → tries operators B.rules i a xs ≡ found r b
  tried i len b r l root d = d.is (rule_at B.rules i).left ((lefts_stand T).each i l).stands root

  pub tried_differs : (i len : ℕ) (b : Binding) → i < length B.rules → Root B.rules (get_or xs a 0) i →
      LeftTried bytes (left_in rules i) operators xs a len b None → tries operators B.rules i a xs ≡ flat.Match.differs
  tried_differs i len b l root d = tried i len b None l root d

  pub tried_agrees : (i e len : ℕ) (b : Binding) → i < length B.rules → Root B.rules (get_or xs a 0) i →
      LeftTried bytes (left_in rules i) operators xs a len b (Some e) → tries operators B.rules i a xs ≡ flat.Match.agrees b e
  tried_agrees i e len b l root d = tried i len b (Some e) l root d

  -- a rule of another root differs
  pub root_differs : a < length xs → (i : ℕ) → i < length B.rules → (Root B.rules (get_or xs a 0) i → ⊥) → tries operators B.rules i a xs ≡ flat.Match.differs
  root_differs inside i l other = root_other (arity_in operators) (rule_at B.rules i).left a xs blank ((lefts_stand T).each i l).root other inside

-- IN BOOK ORDER

module _ (operators xs : List ℕ) (a : ℕ) where
  rewrite_later : (r : Rule) (rs : List Rule) → match (arity_in operators) xs (preorder r.left) a (drop a xs) blank ≡ flat.Match.differs →
      rewrite (arity_in operators) (r ∷ rs) a xs ≡ rewrite (arity_in operators) rs a xs
  unfolding rewrite
  rewrite_later r rs e = rw (e, rewrite)

  rewrite_here : (r : Rule) (rs : List Rule) (b : Binding) (e : ℕ) → match (arity_in operators) xs (preorder r.left) a (drop a xs) blank ≡ flat.Match.agrees b e →
      rewrite (arity_in operators) (r ∷ rs) a xs ≡ flat.Hit.hit (preorder r.right) b e
  unfolding rewrite
  rewrite_here r rs b e h = rw (h, rewrite)

  rewrite_miss : (rs : List Rule) → Passed operators rs (length rs) a xs → rewrite (arity_in operators) rs a xs ≡ flat.Hit.miss
  unfolding rewrite
  rewrite_miss [] p = refl
  rewrite_miss (r ∷ rs) p = rewrite_later r rs (p 0 (omega arith)) ∙ rewrite_miss rs (λ j l. p (suc j) (omega arith))

  rewrite_first : (rs : List Rule) (i e : ℕ) (b : Binding) → i < length rs → Passed operators rs i a xs → tries operators rs i a xs ≡ flat.Match.agrees b e →
      rewrite (arity_in operators) rs a xs ≡ flat.Hit.hit (preorder (rule_at rs i).right) b e
  rewrite_first [] i e b l p h = absurd (omega arith)
  rewrite_first (r ∷ rs) zero e b l p h = rewrite_here r rs b e h
  rewrite_first (r ∷ rs) (suc i) e b l p h =
      rewrite_later r rs (p 0 (omega arith)) ∙ rewrite_first rs i e b (omega arith) (λ j k. p (suc j) (omega arith)) h

module _ {bytes operators rules : List ℕ} {B : Book} (T : Tables bytes operators rules B) (xs : List ℕ) (a : ℕ)
    (known : All (λ o. o < length B.operators) xs) where
  abbrev rs : List Rule
  rs = B.rules

  by_book : rewrite (arity_in operators) rs a xs ≡ rewrite (arity B) rs a xs
  by_book = rewrite_same (arity_in operators) (arity B) rs a xs (known_arities B T.operators_in xs known)

  -- no rule is found where all differ
  pub none_found : Passed operators rs (length rs) a xs → NoneFound B operators a xs
  none_found p = record { passed = p; is = sym by_book ∙ rewrite_miss operators xs a rs p }

  -- the one is found that agrees, behind those that differ
  pub rule_found : a < length xs → spells (arity_in operators) 1 xs ≡ true → (i e len : ℕ) (b : Binding) → i < length rs → Root rs (get_or xs a 0) i →
      Passed operators rs i a xs → LeftTried bytes (left_in rules i) operators xs a len b (Some e) →
      RuleFound B operators a xs len b (record { rule = i; end = e })
  rule_found inside w i e len b l root p d =
      let q = tried_agrees T xs a i e len b l root d in
      record {
        below = l;
        passed = p;
        agrees = q;
        is = sym by_book ∙ rewrite_first operators xs a rs i e b l p q;
        within = d.within.0;
        end = d.within.1;
        terms = bound_terms T xs known a i e b w inside l q;
      }
