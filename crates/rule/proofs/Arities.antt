-- A match and a rewrite depend on the arities of the symbols only. Assumes nothing.
use mathlib.Core.Bool.{true, false}
use mathlib.Core.List.{List, [], ◌∷◌}
use mathlib.Core.Path.{◌≡◌, refl, ap, ap₂}
use Prim.Native.Nat.{ℕ, zero, suc, ◌+◌}
use lib.Dec.{eqb}
use lib.ListN.{take, drop, take-append-drop}
use Rattle.paper.specs.Tree.{preorder}
use Rattle.paper.specs.Book.{Symbol, Rule}
use Rattle.paper.specs.Sound.{All}
use Rattle.paper.proofs.Lists.{all_split}
use Rattle.flat.specs.Symbols as flat
use Rattle.flat.specs.Symbols.{segment, Binding, blank, bind, meet, match, rewrite}
use Rattle.flat.proofs.Sizes.{skip_same}

pub all_drop : (P : ℕ → Type 0) (k : ℕ) (xs : List ℕ) → All P xs → All P (drop k xs)
all_drop P k xs a = (all_split P (take k xs) (drop k xs) (rw (take-append-drop k xs) a)).1

meet_same : (f g : ℕ → ℕ) (line : List ℕ) (n v a : ℕ) (xs : List ℕ) (b : Binding) → All (λ o. f o ≡ g o) xs → meet f line n v a xs b ≡ meet g line n v a xs b
unfolding meet
meet_same f g line zero v a xs b h = ap (λ (k : ℕ). flat.Meeting.part k (bind v (segment a k) b)) (skip_same f g 1 xs h)
meet_same f g line (suc n) v a xs b h = refl

through : (k l : ℕ → Binding → flat.Match) (m m' : flat.Meeting) → m ≡ m' → ((n : ℕ) (c : Binding) → k n c ≡ l n c) →
    ◌≡◌ {A = flat.Match} (elim m [ flat.Meeting.other ↦ flat.Match.differs | flat.Meeting.part n c ↦ k n c ])
    (elim m' [ flat.Meeting.other ↦ flat.Match.differs | flat.Meeting.part n c ↦ l n c ])
through k l flat.Meeting.other m' e h = rw (← e)
through k l (flat.Meeting.part n c) m' e h = rw (← e) (h n c)

-- a match depends on the operators of the symbols only
pub match_same : (f g : ℕ → ℕ) (line : List ℕ) (ss : List Symbol) (a : ℕ) (xs : List ℕ) (b : Binding) → All (λ o. f o ≡ g o) xs →
    match f line ss a xs b ≡ match g line ss a xs b
unfolding match
match_same f g line [] a xs b h = refl
match_same f g line (Symbol.operator o ∷ ss) a [] b h = refl
match_same f g line (Symbol.operator o ∷ ss) a (x ∷ xs) b h =
    ap (λ (m : flat.Match). elim (eqb o x) as (λ z. flat.Match) [ true ↦ m | false ↦ flat.Match.differs ]) (match_same f g line ss (suc a) xs b h.1)
match_same f g line (Symbol.variable v ∷ ss) a xs b h =
    through _ _ _ _ (meet_same f g line (b v).size v a xs b h) (λ n c. match_same f g line ss (a + n) (drop n xs) c (all_drop _ n xs h))

pub rewrite_same : (f g : ℕ → ℕ) (rs : List Rule) (a : ℕ) (xs : List ℕ) → All (λ o. f o ≡ g o) xs → rewrite f rs a xs ≡ rewrite g rs a xs
unfolding rewrite
rewrite_same f g [] a xs h = refl
rewrite_same f g (r ∷ rs) a xs h =
    ap₂ (λ (m : flat.Match) (k : flat.Hit). elim m as (λ z. flat.Hit) [ flat.Match.differs ↦ k | flat.Match.agrees b e ↦ flat.Hit.hit (preorder r.right) b e ])
    (match_same f g xs (preorder r.left) a (drop a xs) blank (all_drop _ a xs h)) (rewrite_same f g rs a xs h)
