-- Laws of naming (document 02, Change 5): the test tells exactly whether two sides agree up to the naming of variables, this is an equivalence, and
-- sides that agree match the same terms. Assumes nothing.
use mathlib.Core.Bool.{Bool, true, false, true≢false}
use mathlib.Core.List.{List, [], ◌∷◌, ◌++◌, map, map-append, append_assoc, append-nil}
use mathlib.Core.Logic.{◌⊎◌, inl, inr, ◌≢◌, ◌↔◌}
use mathlib.Core.Path.{◌≡◌, refl, sym, ap, ap₂, ◌∙◌, subst}
use Prim.Native.Nat.{ℕ, suc}
use native.Mathlib.Omega.{arith}
use lib.Dec.{eqb}
use lib.ListN.{get_or}
use Rattle.paper.specs.Result.{if}
use Rattle.paper.specs.Tree.{node, Forest, nil, cons, preorder, Correct, relabels}
use Rattle.paper.specs.Strategy.{has}
use Rattle.paper.specs.Book.{Operator, Symbol, Term, Side, symbol_arity}
use Rattle.paper.specs.Reader.{variables}
use Rattle.paper.specs.Match.{fills_over, operators, Filling, fill, Matches}
use Rattle.paper.specs.Sound.{In, All}
use Rattle.paper.specs.Naming.{rename_symbol, rename, Alike, place, meeting, canonical, same_symbol, same_symbols, alike}
use Rattle.paper.proofs.Lists.{all_append}
use Rattle.paper.proofs.Tests.{eqb_cases, eqb_true, eqb_false, has_cases}
use Rattle.paper.proofs.Trees.{same_first, relabel_preorder, relabel_correct}

-- Renaming, on trees and on their symbols

rename_preorder : (ρ : ℕ → ℕ) (s : Side) → preorder (rename ρ s) ≡ map (rename_symbol ρ) (preorder s)
unfolding rename
rename_preorder ρ s = relabel_preorder (rename_symbol ρ) s

arity_of_symbol : (ops : List Operator) (ρ : ℕ → ℕ) (s : Symbol) → symbol_arity ops s ≡ symbol_arity ops (rename_symbol ρ s)
arity_of_symbol ops ρ (Symbol.operator o) = refl
arity_of_symbol ops ρ (Symbol.variable v) = refl

rename_correct : (ops : List Operator) (ρ : ℕ → ℕ) (s : Side) → Correct (symbol_arity ops) s → Correct (symbol_arity ops) (rename ρ s)
unfolding rename
rename_correct ops ρ s c = relabel_correct (rename_symbol ρ) (symbol_arity ops) (symbol_arity ops) (arity_of_symbol ops ρ) s c

-- lists of symbols that agree up to naming
abbrev Renamed : List Symbol → List Symbol → Type 0
Renamed ss us = (ρ : ℕ → ℕ) × (σ : ℕ → ℕ) × (map (rename_symbol ρ) ss ≡ us) × (map (rename_symbol σ) us ≡ ss)

rename_twice : (ρ τ : ℕ → ℕ) (ss : List Symbol) → map (rename_symbol τ) (map (rename_symbol ρ) ss) ≡ map (rename_symbol (λ v. τ (ρ v))) ss
rename_twice ρ τ [] = refl
rename_twice ρ τ (Symbol.operator o ∷ ss) = ap (λ (zs : List Symbol). Symbol.operator o ∷ zs) (rename_twice ρ τ ss)
rename_twice ρ τ (Symbol.variable v ∷ ss) = ap (λ (zs : List Symbol). Symbol.variable (τ (ρ v)) ∷ zs) (rename_twice ρ τ ss)

renamed_sym : (ss us : List Symbol) → Renamed ss us → Renamed us ss
renamed_sym ss us (ρ, σ, p, q) = (σ, ρ, q, p)

renamed_trans : (ss us ts : List Symbol) → Renamed ss us → Renamed us ts → Renamed ss ts
renamed_trans ss us ts (ρ, σ, p, q) (ρ', σ', p', q') = (
  λ v. ρ' (ρ v),
  λ v. σ (σ' v),
  sym (rename_twice ρ ρ' ss) ∙ ap (map (rename_symbol ρ')) p ∙ p',
  sym (rename_twice σ' σ ts) ∙ ap (map (rename_symbol σ)) q' ∙ q,
)

-- the trees agree exactly if their symbols do
alike_renamed : (ops : List Operator) (s u : Side) → Correct (symbol_arity ops) s → Correct (symbol_arity ops) u → Alike s u ↔ Renamed (preorder s) (preorder u)
alike_renamed ops s u c d = (
  λ h. (h.0, h.1, sym (rename_preorder h.0 s) ∙ ap preorder h.2, sym (rename_preorder h.1 u) ∙ ap preorder h.3),
  λ h. (h.0, h.1, tree h.0 s u c d h.2, tree h.1 u s d c h.3),
)
  where
    tree : (ρ : ℕ → ℕ) (s u : Side) → Correct (symbol_arity ops) s → Correct (symbol_arity ops) u → map (rename_symbol ρ) (preorder s) ≡ preorder u → rename ρ s ≡ u
    tree ρ s u c d e =
        same_first (symbol_arity ops) (rename ρ s) u (rename_correct ops ρ s c) d [] [] (ap (λ (zs : List Symbol). zs ++ []) (rename_preorder ρ s ∙ e))

-- Places

place_head : (v : ℕ) (ws : List ℕ) → place v (v ∷ ws) ≡ 0
unfolding place
place_head v ws = rw (eqb_true v v refl)

place_empty : (v : ℕ) → 0 ≡ place v []
unfolding place
place_empty v = refl

place_tail : (v w : ℕ) (ws : List ℕ) → v ≢ w → place v (w ∷ ws) ≡ suc (place v ws)
unfolding place
place_tail v w ws d = rw (eqb_false v w d)

-- what stands at the place of v is v
place_there : (v : ℕ) (vs : List ℕ) → In v vs → get_or vs (place v vs) 0 ≡ v
unfolding place
place_there v [] m = absurd m
place_there v (w ∷ ws) m = go (eqb_cases v w) m (place_there v ws)
  where
    go : ((eqb v w ≡ true) × (v ≡ w)) ⊎ ((eqb v w ≡ false) × (v ≢ w)) → In v (w ∷ ws) → (In v ws → get_or ws (place v ws) 0 ≡ v) → get_or (w ∷ ws) (place v (w ∷ ws)) 0 ≡ v
    go (inl p) m h = rw p.0 (sym p.1)
    go (inr p) (inl e) h = absurd (p.1 e)
    go (inr p) (inr m) h = rw p.0 (h m)

-- the place of a variable that was met stays where more are met
place_front : (v : ℕ) (vs ws : List ℕ) → In v vs → place v (vs ++ ws) ≡ place v vs
unfolding place
place_front v [] ws m = absurd m
place_front v (w ∷ vs) ws m = go (eqb_cases v w) m (place_front v vs ws)
  where
    go : ((eqb v w ≡ true) × (v ≡ w)) ⊎ ((eqb v w ≡ false) × (v ≢ w)) → In v (w ∷ vs) → (In v vs → place v (vs ++ ws) ≡ place v vs) →
        place v ((w ∷ vs) ++ ws) ≡ place v (w ∷ vs)
    go (inl p) m h = rw p.0
    go (inr p) (inl e) h = absurd (p.1 e)
    go (inr p) (inr m) h = rw p.0 (ap suc (h m))

place_new : (v : ℕ) (vs ws : List ℕ) → ¬ In v vs → place v (vs ++ (v ∷ ws)) ≡ place v vs
place_new v [] ws n = place_head v ws ∙ place_empty v
place_new v (w ∷ vs) ws n =
    let d : v ≢ w = λ e. n (inl e) in
    place_tail v w (vs ++ (v ∷ ws)) d ∙ ap suc (place_new v vs ws (λ i. n (inr i))) ∙ sym (place_tail v w vs d)

-- v being met
meeting_cases : (v : ℕ) (vs : List ℕ) → (In v vs × (meeting v vs ≡ vs)) ⊎ ((¬ In v vs) × (meeting v vs ≡ vs ++ (v ∷ [])))
unfolding meeting
meeting_cases v vs = elim (has_cases v vs) [ inl p ↦ inl (p.1, rw p.0) | inr p ↦ inr (p.1, rw p.0) ]

in_last : (v : ℕ) (vs : List ℕ) → In v (vs ++ (v ∷ []))
in_last v [] = inl refl
in_last v (w ∷ vs) = inr (in_last v vs)

in_front : (v : ℕ) (vs ws : List ℕ) → In v vs → In v (vs ++ ws)
in_front v [] ws m = elim m [ ]
in_front v (w ∷ vs) ws (inl e) = inl e
in_front v (w ∷ vs) ws (inr m) = inr (in_front v vs ws m)

meeting_in : (v : ℕ) (vs : List ℕ) → In v (meeting v vs)
meeting_in v vs = elim (meeting_cases v vs) [
  | inl p ↦ subst (In v) (sym p.1) p.0
  | inr p ↦ subst (In v) (sym p.1) (in_last v vs)
]

meeting_place : (v : ℕ) (vs : List ℕ) → place v (meeting v vs) ≡ place v vs
meeting_place v vs = elim (meeting_cases v vs) [ inl p ↦ ap (place v) p.1 | inr p ↦ ap (place v) p.1 ∙ place_new v vs [] p.0 ]

meeting_front : (v : ℕ) (vs : List ℕ) → (ws : List ℕ) × (meeting v vs ≡ vs ++ ws)
meeting_front v vs = elim (meeting_cases v vs) [ inl p ↦ ([], p.1 ∙ sym (append-nil vs)) | inr p ↦ (v ∷ [], p.1) ]

-- The canonical naming is a renaming, and so is the way back

-- all variables, in the order in which they are met
table : List ℕ → List Symbol → List ℕ
table vs [] = vs
table vs (Symbol.operator o ∷ ss) = table vs ss
table vs (Symbol.variable v ∷ ss) = table (meeting v vs) ss

table_front : (vs : List ℕ) (ss : List Symbol) → (ws : List ℕ) × (table vs ss ≡ vs ++ ws)
unfolding table
table_front vs [] = ([], sym (append-nil vs))
table_front vs (Symbol.operator o ∷ ss) = table_front vs ss
table_front vs (Symbol.variable v ∷ ss) =
    let (ws, e) = table_front (meeting v vs) ss in
    let (us, d) = meeting_front v vs in
    (us ++ ws, e ∙ ap (λ (zs : List ℕ). zs ++ ws) d ∙ append_assoc vs us ws)

table_in : (v : ℕ) (vs : List ℕ) (ss : List Symbol) → In v vs → In v (table vs ss)
table_in v vs ss m = let (ws, e) = table_front vs ss in subst (In v) (sym e) (in_front v vs ws m)

table_place : (v : ℕ) (vs : List ℕ) (ss : List Symbol) → In v vs → place v (table vs ss) ≡ place v vs
table_place v vs ss m = let (ws, e) = table_front vs ss in ap (place v) e ∙ place_front v vs ws m

-- the number that a variable gets
named : (v : ℕ) (vs : List ℕ) (ss : List Symbol) → place v (table (meeting v vs) ss) ≡ place v vs
named v vs ss = table_place v (meeting v vs) ss (meeting_in v vs) ∙ meeting_place v vs

canonical_renamed : (vs : List ℕ) (ss : List Symbol) → map (rename_symbol (λ v. place v (table vs ss))) ss ≡ canonical vs ss
unfolding canonical table
canonical_renamed vs [] = refl
canonical_renamed vs (Symbol.operator o ∷ ss) = ap (λ (zs : List Symbol). Symbol.operator o ∷ zs) (canonical_renamed vs ss)
canonical_renamed vs (Symbol.variable v ∷ ss) =
    ap₂ (λ (n : ℕ) (zs : List Symbol). Symbol.variable n ∷ zs) (named v vs ss) (canonical_renamed (meeting v vs) ss)

renamed_canonical : (vs : List ℕ) (ss : List Symbol) → map (rename_symbol (λ n. get_or (table vs ss) n 0)) (canonical vs ss) ≡ ss
unfolding canonical table
renamed_canonical vs [] = refl
renamed_canonical vs (Symbol.operator o ∷ ss) = ap (λ (zs : List Symbol). Symbol.operator o ∷ zs) (renamed_canonical vs ss)
renamed_canonical vs (Symbol.variable v ∷ ss) =
    let t = table (meeting v vs) ss in
    ap₂ (λ (n : ℕ) (zs : List Symbol). Symbol.variable n ∷ zs)
    (ap (λ (n : ℕ). get_or t n 0) (sym (named v vs ss)) ∙ place_there v t (table_in v (meeting v vs) ss (meeting_in v vs))) (renamed_canonical (meeting v vs) ss)

canonical_alike : (ss : List Symbol) → Renamed ss (canonical [] ss)
canonical_alike ss = (λ v. place v (table [] ss), λ n. get_or (table [] ss) n 0, canonical_renamed [] ss, renamed_canonical [] ss)

-- Renamed lists have one canonical naming

module _ (ρ σ : ℕ → ℕ) where
  -- σ takes the name back
  abbrev Back : ℕ → Type 0
  Back v = σ (ρ v) ≡ v

  eqb_renamed : (v w : ℕ) → Back v → Back w → eqb (ρ v) (ρ w) ≡ eqb v w
  eqb_renamed v w a b = elim (eqb_cases v w) [
    | inl p ↦ eqb_true (ρ v) (ρ w) (ap ρ p.1) ∙ sym p.0
    | inr p ↦ eqb_false (ρ v) (ρ w) (λ e. p.1 (sym a ∙ ap σ e ∙ b)) ∙ sym p.0
  ]

  place_renamed : (v : ℕ) (vs : List ℕ) → Back v → All Back vs → place (ρ v) (map ρ vs) ≡ place v vs
  unfolding place
  place_renamed v [] a h = refl
  place_renamed v (w ∷ ws) a (b, h) = rw (eqb_renamed v w a b, place_renamed v ws a h)

  has_renamed : (v : ℕ) (vs : List ℕ) → Back v → All Back vs → has (ρ v) (map ρ vs) ≡ has v vs
  unfolding has
  has_renamed v [] a h = refl
  has_renamed v (w ∷ ws) a (b, h) = go (eqb v w) (eqb_renamed v w a b) (has_renamed v ws a h)
    where
      go : (t : Bool) → eqb (ρ v) (ρ w) ≡ t → has (ρ v) (map ρ ws) ≡ has v ws →
          has (ρ v) (map ρ (w ∷ ws)) ≡ elim t as (λ t. Bool) [ true ↦ true | false ↦ has v ws ]
      go true e k = rw (e, has)
      go false e k = rw (e, has) k

  meeting_renamed : (v : ℕ) (vs : List ℕ) → Back v → All Back vs → meeting (ρ v) (map ρ vs) ≡ map ρ (meeting v vs)
  unfolding meeting
  meeting_renamed v vs a h = go (has v vs) (has_renamed v vs a h)
    where
      go : (t : Bool) → has (ρ v) (map ρ vs) ≡ t → meeting (ρ v) (map ρ vs) ≡ map ρ (if t vs (vs ++ (v ∷ [])))
      go true e = rw e
      go false e = rw e (sym (map-append ρ vs (v ∷ [])))

  meeting_back : (v : ℕ) (vs : List ℕ) → Back v → All Back vs → All Back (meeting v vs)
  meeting_back v vs a h = elim (meeting_cases v vs) [
    | inl p ↦ subst (All Back) (sym p.1) h
    | inr p ↦ subst (All Back) (sym p.1) (all_append Back vs (v ∷ []) h (a, tt))
  ]

  canonical_same : (vs : List ℕ) (ss : List Symbol) → All Back vs → All Back (variables ss) → canonical (map ρ vs) (map (rename_symbol ρ) ss) ≡ canonical vs ss
  unfolding canonical variables
  canonical_same vs [] h k = refl
  canonical_same vs (Symbol.operator o ∷ ss) h k = ap (λ (zs : List Symbol). Symbol.operator o ∷ zs) (canonical_same vs ss h k)
  canonical_same vs (Symbol.variable v ∷ ss) h (a, k) =
      ap₂ (λ (n : ℕ) (zs : List Symbol). Symbol.variable n ∷ zs) (place_renamed v vs a h)
      (ap (λ (ws : List ℕ). canonical ws (map (rename_symbol ρ) ss)) (meeting_renamed v vs a h) ∙ canonical_same (meeting v vs) ss (meeting_back v vs a h) k)

  back_all : (ss : List Symbol) → map (rename_symbol (λ v. σ (ρ v))) ss ≡ ss → All Back (variables ss)
  unfolding variables
  back_all [] e = tt
  back_all (Symbol.operator o ∷ ss) e = back_all ss (let z : map (rename_symbol (λ v. σ (ρ v))) ss ≡ ss = cc in z)
  back_all (Symbol.variable v ∷ ss) e = (
    let y : Symbol.variable (σ (ρ v)) ≡ Symbol.variable v = cc in let z : σ (ρ v) ≡ v = cc in z,
    back_all ss (let z : map (rename_symbol (λ v. σ (ρ v))) ss ≡ ss = cc in z),
  )

pub canonical_exact : (ss us : List Symbol) → (canonical [] ss ≡ canonical [] us) ↔ Renamed ss us
canonical_exact ss us = (
  λ e. renamed_trans ss (canonical [] ss) us (canonical_alike ss) (subst (λ (z : List Symbol). Renamed z us) (sym e) (renamed_sym us (canonical [] us) (canonical_alike us))),
  λ h. let (ρ, σ, p, q) = h in
      sym (canonical_same ρ σ [] ss tt (back_all ρ σ ss (sym (rename_twice ρ σ ss) ∙ ap (map (rename_symbol σ)) p ∙ q)))
      ∙ ap (canonical []) p,
)

-- The test

symbol_exact : (s u : Symbol) → ((same_symbol s u ≡ true) × (s ≡ u)) ⊎ ((same_symbol s u ≡ false) × (s ≢ u))
unfolding same_symbol
symbol_exact (Symbol.operator o) (Symbol.operator p) = elim (eqb_cases o p) [
  | inl e ↦ inl (e.0, ap Symbol.operator e.1)
  | inr e ↦ inr (e.0, λ q. e.1 (let z : o ≡ p = cc in z))
]
symbol_exact (Symbol.operator o) (Symbol.variable w) = inr (refl, λ q. let z : ◌≡◌ {A = ℕ} 0 1 = cc in absurd (omega arith))
symbol_exact (Symbol.variable v) (Symbol.operator p) = inr (refl, λ q. let z : ◌≡◌ {A = ℕ} 0 1 = cc in absurd (omega arith))
symbol_exact (Symbol.variable v) (Symbol.variable w) = elim (eqb_cases v w) [
  | inl e ↦ inl (e.0, ap Symbol.variable e.1)
  | inr e ↦ inr (e.0, λ q. e.1 (let z : v ≡ w = cc in z))
]

symbols_exact : (ss us : List Symbol) → ((same_symbols ss us ≡ true) × (ss ≡ us)) ⊎ ((same_symbols ss us ≡ false) × (ss ≢ us))
unfolding same_symbols
symbols_exact [] [] = inl (refl, refl)
symbols_exact [] (u ∷ us) = inr (refl, λ q. let z : ◌≡◌ {A = ℕ} 0 1 = cc in absurd (omega arith))
symbols_exact (s ∷ ss) [] = inr (refl, λ q. let z : ◌≡◌ {A = ℕ} 0 1 = cc in absurd (omega arith))
symbols_exact (s ∷ ss) (u ∷ us) = go (symbol_exact s u) (symbols_exact ss us)
  where
    go : ((same_symbol s u ≡ true) × (s ≡ u)) ⊎ ((same_symbol s u ≡ false) × (s ≢ u)) → ((same_symbols ss us ≡ true) × (ss ≡ us)) ⊎ ((same_symbols ss us ≡ false) × (ss ≢ us)) →
        ((same_symbols (s ∷ ss) (u ∷ us) ≡ true) × (s ∷ ss ≡ u ∷ us)) ⊎ ((same_symbols (s ∷ ss) (u ∷ us) ≡ false) × (s ∷ ss ≢ u ∷ us))
    go (inl p) (inl q) = inl (rw (p.0, same_symbols) q.0, ap₂ (λ (x : Symbol) (xs : List Symbol). x ∷ xs) p.1 q.1)
    go (inl p) (inr q) = inr (rw (p.0, same_symbols) q.0, λ e. q.1 (let z : ss ≡ us = cc in z))
    go (inr p) q = inr (rw (p.0, same_symbols), λ e. p.1 (let z : s ≡ u = cc in z))

-- the test compares canonical namings
pub alike_canonical : (s u : Side) → (alike s u ≡ true) ↔ (canonical [] (preorder s) ≡ canonical [] (preorder u))
unfolding alike
alike_canonical s u = elim (symbols_exact (canonical [] (preorder s)) (canonical [] (preorder u))) [
  | inl p ↦ (λ e. p.1, λ h. p.0)
  | inr p ↦ (λ e. absurd (true≢false (sym e ∙ p.0)), λ h. absurd (p.1 h))
]

-- the test tells exactly whether two sides agree up to the naming of variables
pub alike_exact : (ops : List Operator) (s u : Side) → Correct (symbol_arity ops) s → Correct (symbol_arity ops) u → (alike s u ≡ true) ↔ Alike s u
alike_exact ops s u c d = (
  λ e. (alike_renamed ops s u c d).1 ((canonical_exact (preorder s) (preorder u)).0 ((alike_canonical s u).0 e)),
  λ h. (alike_canonical s u).1 ((canonical_exact (preorder s) (preorder u)).1 ((alike_renamed ops s u c d).0 h)),
)

-- it is an equivalence

pub alike_refl : (s : Side) → alike s s ≡ true
alike_refl s = (alike_canonical s s).1 refl

pub alike_sym : (s u : Side) → alike s u ≡ true → alike u s ≡ true
alike_sym s u e = (alike_canonical u s).1 (sym ((alike_canonical s u).0 e))

pub alike_trans : (s u t : Side) → alike s u ≡ true → alike u t ≡ true → alike s t ≡ true
alike_trans s u t e f = (alike_canonical s t).1 ((alike_canonical s u).0 e ∙ (alike_canonical u t).0 f)

-- Fillings

mutual
  unfolding rename fill

  fill_rename : (ρ : ℕ → ℕ) (f : Filling) (s : Side) → fill f (rename ρ s) ≡ fill (λ v. f (ρ v)) s
  fill_rename ρ f (node (Symbol.operator o) ss) = ap (λ (ts : Forest ℕ). node o ts) (fills_rename ρ f ss)
  fill_rename ρ f (node (Symbol.variable v) ss) = refl

  fills_rename : (ρ : ℕ → ℕ) (f : Filling) (ss : Forest Symbol) → fills_over operators f (relabels (rename_symbol ρ) ss) ≡ fills_over operators (λ v. f (ρ v)) ss
  fills_rename ρ f nil = refl
  fills_rename ρ f (cons s ss) = ap₂ cons (fill_rename ρ f s) (fills_rename ρ f ss)

-- sides that agree match the same terms: a filling of the one is a renamed filling of the other
pub alike_matches : (s u : Side) → Alike s u → (t : Term) → Matches s t ↔ Matches u t
alike_matches s u (ρ, σ, p, q) t = (
  λ m. (λ v. m.0 (σ v), sym (ap (fill m.0) (sym q) ∙ fill_rename σ m.0 u) ∙ m.1),
  λ m. (λ v. m.0 (ρ v), sym (ap (fill m.0) (sym p) ∙ fill_rename ρ m.0 s) ∙ m.1),
)
