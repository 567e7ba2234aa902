-- Laws of matching: the function finds a filling exactly if there is one, fillings agree on the left side's variables, the first rule in book
-- order that matches is applied, and what it gives has the right arities. Assumes nothing.
use mathlib.Core.Bool.{Bool, true, false, false≢true}
use mathlib.Core.List.{List, [], ◌∷◌, ◌++◌}
use mathlib.Core.Logic.{◌⊎◌, inl, inr, ◌↔◌}
use mathlib.Core.Option.{Option, none, some, none-ne-some, some-injective}
use mathlib.Core.Path.{◌≡◌, refl, sym, ap, ap₂, ◌∙◌, subst}
use Prim.Native.Nat.{ℕ, suc}
use native.Mathlib.Omega.{arith}
use lib.Dec.{eqb}
use Rattle.paper.specs.Tree.{Tree, node, Forest, nil, cons, count, preorder, preorders, Correct, Corrects}
use Rattle.paper.specs.Book.{Operator, Symbol, Term, Side, Rule, Book, arity_at, arity, symbol_arity}
use Rattle.paper.specs.Match.{Symbols, Bindings, blank, bind, and_then, fills_over, same, sames, meet, match_over, matches_over, bound}
use Rattle.paper.specs.Match.{operators, Filling, fill, Matches, match, filling, rewrite}
use Rattle.paper.specs.Reader.{variables}
use Rattle.paper.specs.Sound.{All, SoundRule}
use Rattle.paper.proofs.Lists.{all_map, all_in, all_of, all_append, all_split}
use Rattle.paper.proofs.Tests.{eqb_cases, eqb_true, eqb_equal}

pub variables_append : (xs ys : List Symbol) → variables (xs ++ ys) ≡ variables xs ++ variables ys
unfolding variables
variables_append [] ys = refl
variables_append (Symbol.operator o ∷ xs) ys = variables_append xs ys
variables_append (Symbol.variable v ∷ xs) ys = ap (λ (vs : List ℕ). v ∷ vs) (variables_append xs ys)

-- the variables of a tree and of those after it
split_variables : (P : ℕ → Type 0) (xs ys : List Symbol) → All P (variables (xs ++ ys)) → All P (variables xs) × All P (variables ys)
split_variables P xs ys a = all_split P (variables xs) (variables ys) (subst (All P) (variables_append xs ys) a)

join_variables : (P : ℕ → Type 0) (xs ys : List Symbol) → All P (variables xs) → All P (variables ys) → All P (variables (xs ++ ys))
join_variables P xs ys a b = subst (All P) (sym (variables_append xs ys)) (all_append P (variables xs) (variables ys) a b)

-- Fillings that agree on a side's variables fill it alike

mutual
  unfolding fill preorder variables

  pub fill_agree : (s : Side) (f g : Filling) → All (λ v. f v ≡ g v) (variables (preorder s)) → fill f s ≡ fill g s
  fill_agree (node (Symbol.operator o) ss) f g a = ap (λ (ts : Forest ℕ). node o ts) (fills_agree ss f g a)
  fill_agree (node (Symbol.variable v) ss) f g a = a.0

  pub fills_agree : (ss : Forest Symbol) (f g : Filling) → All (λ v. f v ≡ g v) (variables (preorders ss)) → fills_over operators f ss ≡ fills_over operators g ss
  fills_agree nil f g a = refl
  fills_agree (cons s ss) f g a =
      let (b, c) = split_variables (λ (v : ℕ). f v ≡ g v) (preorder s) (preorders ss) a in
      ap₂ cons (fill_agree s f g b) (fills_agree ss f g c)

-- A variable that is bound stays bound to its first part, over any symbols

pub passed : {X : Type 0} (b : Bool) (m : Option X) (x : X) → elim b as (λ z. Option X) [ true ↦ m | false ↦ none ] ≡ some x → (b ≡ true) × (m ≡ some x)
passed true m x e = (refl, e)
passed false m x e = absurd (none-ne-some _ e)

module _ {A : Type 0} where
  abbrev pub Keeps : Bindings A → Bindings A → Type 0
  Keeps g f = (v : ℕ) (u : Tree A) → g v ≡ some u → f v ≡ some u

  keeps_same : (g f : Bindings A) → some g ≡ some f → Keeps g f
  keeps_same g f e v u z = ap (λ (h : Bindings A). h v) (sym (some-injective _ _ e)) ∙ z

  pub both : (m : Option (Bindings A)) (k : Bindings A → Option (Bindings A)) (f : Bindings A) → and_then m k ≡ some f →
      (h : Bindings A) × (m ≡ some h) × (k h ≡ some f)
  unfolding and_then
  both none k f e = absurd (none-ne-some _ e)
  both (some h) k f e = (h, refl, e)

  bind_same : (v : ℕ) (t : Tree A) (f : Bindings A) → bind v t f v ≡ some t
  unfolding bind
  bind_same v t f = rw (eqb_true v v refl, bind)

  pub bind_cases : (v w : ℕ) (t : Tree A) (f : Bindings A) → ((v ≡ w) × (bind v t f w ≡ some t)) ⊎ (bind v t f w ≡ f w)
  unfolding bind
  bind_cases v w t f = elim (eqb_cases v w) [ inl p ↦ inl (p.1, rw (p.0, bind)) | inr p ↦ inr (rw (p.0, bind)) ]

  keeps_bind : (v : ℕ) (t : Tree A) (g : Bindings A) → g v ≡ none → Keeps g (bind v t g)
  keeps_bind v t g q w u z = elim (bind_cases v w t g) [ inl p ↦ absurd (none-ne-some _ (sym q ∙ ap g p.0 ∙ z)) | inr p ↦ p ∙ z ]

module _ {A : Type 0} (S : Symbols A) where
  meet_keeps : (x : Option (Tree A)) (v : ℕ) (t : Tree A) (g f : Bindings A) → g v ≡ x → meet S x v t g ≡ some f → Keeps g f
  unfolding meet
  meet_keeps none v t g f q e w u z = keeps_same (bind v t g) f e w u (keeps_bind v t g q w u z)
  meet_keeps (some y) v t g f q e w u z = keeps_same g f (passed (same S y t) (some g) f e).1 w u z

  mutual
    unfolding match_over

    pub match_keeps : (l : Side) (t : Tree A) (g f : Bindings A) → match_over S l t g ≡ some f → Keeps g f
    match_keeps (node (Symbol.operator o) ss) (node a ts) g f e =
        matches_keep ss ts g f (passed (eqb o (S.operator a)) (matches_over S ss ts g) f e).1
    match_keeps (node (Symbol.variable v) ss) t g f e = meet_keeps (g v) v t g f refl e

    pub matches_keep : (ls : Forest Symbol) (ts : Forest A) (g f : Bindings A) → matches_over S ls ts g ≡ some f → Keeps g f
    matches_keep nil nil g f e = keeps_same g f e
    matches_keep nil (cons t ts) g f e = absurd (none-ne-some _ e)
    matches_keep (cons s ss) nil g f e = absurd (none-ne-some _ e)
    matches_keep (cons s ss) (cons t ts) g f e =
        let (h, p, q) = both (match_over S s t g) (matches_over S ss ts) f e in
        λ v u z. matches_keep ss ts h f q v u (match_keeps s t g h p v u z)

-- Equal symbol by symbol, or not

alike : (b c : Bool) → elim b as (λ z. Bool) [ true ↦ c | false ↦ false ] ≡ true → (b ≡ true) × (c ≡ true)
alike true c e = (refl, e)
alike false c e = absurd (false≢true e)

mutual
  unfolding same

  pub same_equal : (t u : Term) → same operators t u ≡ true → t ≡ u
  same_equal (node o ts) (node q us) e = let (a, b) = alike (eqb o q) (sames operators ts us) e in ap₂ node (eqb_equal o q a) (sames_equal ts us b)

  sames_equal : (ts us : Forest ℕ) → sames operators ts us ≡ true → ts ≡ us
  sames_equal nil nil e = refl
  sames_equal nil (cons u us) e = absurd (false≢true e)
  sames_equal (cons t ts) nil e = absurd (false≢true e)
  sames_equal (cons t ts) (cons u us) e =
      let (a, b) = alike (same operators t u) (sames operators ts us) e in ap₂ cons (same_equal t u a) (sames_equal ts us b)

mutual
  unfolding same

  pub same_itself : (t : Term) → same operators t t ≡ true
  same_itself (node o ts) = ap (λ (b : Bool). elim b as (λ z. Bool) [ true ↦ sames operators ts ts | false ↦ false ]) (eqb_true o o refl) ∙ sames_itself ts

  sames_itself : (ts : Forest ℕ) → sames operators ts ts ≡ true
  sames_itself nil = refl
  sames_itself (cons t ts) =
      ap (λ (b : Bool). elim b as (λ z. Bool) [ true ↦ sames operators ts ts | false ↦ false ]) (same_itself t) ∙ sames_itself ts

-- A match that is found

-- the variable v is bound
abbrev pub Has : Bindings ℕ → ℕ → Type 0
Has f v = (u : Term) × (f v ≡ some u)

meets : (x : Option Term) (v : ℕ) (t : Term) (g f : Bindings ℕ) → g v ≡ x → meet operators x v t g ≡ some f → f v ≡ some t
unfolding meet
meets none v t g f q e = keeps_same (bind v t g) f e v t (bind_same v t g)
meets (some u) v t g f q e =
    let (a, b) = passed (same operators u t) (some g) f e in
    keeps_same g f b v t (q ∙ ap some (same_equal u t a))

mutual
  unfolding match fill bound

  -- the filling gives the term, and so does any that keeps it
  found_from : (l : Side) (t : Term) (g f h : Bindings ℕ) → match l t g ≡ some f → Keeps f h → fill (filling h) l ≡ t
  found_from (node (Symbol.operator o) ss) (node o' ts) g f h e k =
      let (p, q) = passed (eqb o o') (matches_over operators ss ts g) f e in
      ap₂ node (eqb_equal o o' p) (founds_from ss ts g f h q k)
  found_from (node (Symbol.variable v) ss) t g f h e k = ap (bound operators) (k v t (meets (g v) v t g f refl e))

  founds_from : (ls : Forest Symbol) (ts : Forest ℕ) (g f h : Bindings ℕ) → matches_over operators ls ts g ≡ some f → Keeps f h →
      fills_over operators (filling h) ls ≡ ts
  founds_from nil nil g f h e k = refl
  founds_from nil (cons t ts) g f h e k = absurd (none-ne-some _ e)
  founds_from (cons s ss) nil g f h e k = absurd (none-ne-some _ e)
  founds_from (cons s ss) (cons t ts) g f h e k =
      let (m, p, q) = both (match s t g) (matches_over operators ss ts) f e in
      ap₂ cons (found_from s t g m h p (λ v u z. k v u (matches_keep operators ss ts m f q v u z))) (founds_from ss ts m f h q k)

-- a filling that is found gives the term
pub found : (l : Side) (t : Term) (f : Bindings ℕ) → match l t blank ≡ some f → fill (filling f) l ≡ t
found l t f e = found_from l t blank f f e (λ v u z. z)

mutual
  unfolding match preorder variables count

  has_from : (ops : List Operator) (l : Side) → Correct (symbol_arity ops) l → (t : Term) (g f : Bindings ℕ) → match l t g ≡ some f →
      All (Has f) (variables (preorder l))
  has_from ops (node (Symbol.operator o) ss) (c, cs) (node o' ts) g f e = have_from ops ss cs ts g f (passed (eqb o o') (matches_over operators ss ts g) f e).1
  has_from ops (node (Symbol.variable v) nil) c t g f e = ((t, meets (g v) v t g f refl e), tt)
  has_from ops (node (Symbol.variable v) (cons s ss)) (c, cs) t g f e = absurd (omega arith)

  have_from : (ops : List Operator) (ls : Forest Symbol) → Corrects (symbol_arity ops) ls → (ts : Forest ℕ) (g f : Bindings ℕ) →
      matches_over operators ls ts g ≡ some f → All (Has f) (variables (preorders ls))
  have_from ops nil c ts g f e = tt
  have_from ops (cons s ss) c nil g f e = absurd (none-ne-some _ e)
  have_from ops (cons s ss) (c, cs) (cons t ts) g f e =
      let (m, p, q) = both (match s t g) (matches_over operators ss ts) f e in
      let k = matches_keep operators ss ts m f q in
      join_variables (Has f) (preorder s) (preorders ss)
      (all_map (Has m) (Has f) (λ v i. (i.0, k v i.0 i.1)) (variables (preorder s)) (has_from ops s c t g m p)) (have_from ops ss cs ts m f q)

-- it binds every variable of the side
pub found_has : (ops : List Operator) (l : Side) → Correct (symbol_arity ops) l → (t : Term) (f : Bindings ℕ) → match l t blank ≡ some f →
    All (Has f) (variables (preorder l))
found_has ops l c t f e = has_from ops l c t blank f e

-- A filling that there is: one is found

-- what is bound is what the filling gives
abbrev Follows : Bindings ℕ → Filling → Type 0
Follows g f = (v : ℕ) (u : Term) → g v ≡ some u → u ≡ f v

meet_finds : (x : Option Term) (v : ℕ) (f : Filling) (g : Bindings ℕ) → Follows g f → g v ≡ x →
    (h : Bindings ℕ) × (meet operators x v (f v) g ≡ some h) × Follows h f
unfolding meet
meet_finds none v f g k q = (bind v (f v) g, refl, follows)
  where
    follows : Follows (bind v (f v) g) f
    follows w u z = elim (bind_cases v w (f v) g) [ inl p ↦ some-injective _ _ (sym z ∙ p.1) ∙ ap f p.0 | inr p ↦ k w u (sym p ∙ z) ]
meet_finds (some u) v f g k q =
    let e : same operators u (f v) ≡ true = ap (λ (x : Term). same operators x (f v)) (k v u q) ∙ same_itself (f v) in
    (g, ap (λ (b : Bool). elim b as (λ z. Option (Bindings ℕ)) [ true ↦ some g | false ↦ none ]) e, k)

mutual
  unfolding match fill and_then

  finds : (l : Side) (f : Filling) (g : Bindings ℕ) → Follows g f → (h : Bindings ℕ) × (match l (fill f l) g ≡ some h) × Follows h f
  finds (node (Symbol.operator o) ss) f g k =
      let (h, e, j) = finds_all ss f g k in
      let m = matches_over operators ss (fills_over operators f ss) g in
      (h, ap (λ (b : Bool). elim b as (λ z. Option (Bindings ℕ)) [ true ↦ m | false ↦ none ]) (eqb_true o o refl) ∙ e, j)
  finds (node (Symbol.variable v) ss) f g k = meet_finds (g v) v f g k refl

  finds_all : (ls : Forest Symbol) (f : Filling) (g : Bindings ℕ) → Follows g f →
      (h : Bindings ℕ) × (matches_over operators ls (fills_over operators f ls) g ≡ some h) × Follows h f
  finds_all nil f g k = (g, refl, k)
  finds_all (cons s ss) f g k =
      let (h, e, j) = finds s f g k in
      let (h', e', j') = finds_all ss f h j in
      (h', ap (λ (m : Option (Bindings ℕ)). and_then m (matches_over operators ss (fills_over operators f ss))) e ∙ e', j')

pub not_found : (l : Side) (t : Term) → match l t blank ≡ none → Matches l t → ⊥
not_found l t e (f, p) =
    let (h, q, k) = finds l f blank (λ v u z. absurd (none-ne-some _ z)) in
    none-ne-some h (sym e ∙ ap (λ (x : Term). match l x blank) (sym p) ∙ q)

-- a match is found exactly if a filling exists
pub match_exact : (l : Side) (t : Term) → ((f : Bindings ℕ) × (match l t blank ≡ some f)) ↔ Matches l t
match_exact l t = (λ h. (filling h.0, found l t h.0 h.1), λ m. go m (match l t blank) refl)
  where
    go : Matches l t → (x : Option (Bindings ℕ)) → match l t blank ≡ x → (f : Bindings ℕ) × (match l t blank ≡ some f)
    go m none e = absurd (not_found l t e m)
    go m (some f) e = (f, e)

-- Fillings of a left side

-- a relation that two trees' arguments inherit holds between what two fillings give the variables, where it holds between the filled sides
module _ (ops : List Operator) (R : Term → Term → Type 0) (Rs : Forest ℕ → Forest ℕ → Type 0)
    (below : (o : ℕ) (ts us : Forest ℕ) → R (node o ts) (node o us) → Rs ts us)
    (along : (t u : Term) (ts us : Forest ℕ) → Rs (cons t ts) (cons u us) → R t u × Rs ts us) (f g : Filling) where
  mutual
    unfolding fill preorder variables count

    inherited : (l : Side) → Correct (symbol_arity ops) l → R (fill f l) (fill g l) → All (λ v. R (f v) (g v)) (variables (preorder l))
    inherited (node (Symbol.operator o) ss) (c, cs) r = inherited_all ss cs (below o (fills_over operators f ss) (fills_over operators g ss) r)
    inherited (node (Symbol.variable v) nil) c r = (r, tt)
    inherited (node (Symbol.variable v) (cons s ss)) (c, cs) r = absurd (omega arith)

    inherited_all : (ls : Forest Symbol) → Corrects (symbol_arity ops) ls → Rs (fills_over operators f ls) (fills_over operators g ls) → All (λ v. R (f v) (g v)) (variables (preorders ls))
    inherited_all nil c r = tt
    inherited_all (cons s ss) (c, cs) r =
        let (p, q) = along (fill f s) (fill g s) (fills_over operators f ss) (fills_over operators g ss) r in
        join_variables (λ (v : ℕ). R (f v) (g v)) (preorder s) (preorders ss) (inherited s c p) (inherited_all ss cs q)

-- two fillings that give the same term agree on the left side's variables
pub agree : (ops : List Operator) (l : Side) (f g : Filling) → Correct (symbol_arity ops) l → fill f l ≡ fill g l →
    All (λ v. f v ≡ g v) (variables (preorder l))
agree ops l f g = inherited ops (λ (t u : Term). t ≡ u) (λ (ts us : Forest ℕ). ts ≡ us) (λ o ts us e. cc) (λ t u ts us e. (cc, cc)) f g l

-- so any filling of a left side that gives the term agrees with the one that is found
pub found_unique : (ops : List Operator) (l : Side) (t : Term) (f : Bindings ℕ) (g : Filling) → Correct (symbol_arity ops) l →
    match l t blank ≡ some f → fill g l ≡ t → All (λ v. filling f v ≡ g v) (variables (preorder l))
found_unique ops l t f g c e p = agree ops l (filling f) g c (found l t f e ∙ sym p)

-- Rules in book order

matched : (r : Rule) (rs : List Rule) (t : Term) (m : Option (Bindings ℕ)) → match r.left t blank ≡ m →
    rewrite (r ∷ rs) t ≡ elim m as (λ m. Option Term) [ none ↦ rewrite rs t | some f ↦ some (fill (filling f) r.right) ]
unfolding rewrite match fill
matched r rs t m e = ap (λ (m : Option (Bindings ℕ)). elim m as (λ m. Option Term) [ none ↦ rewrite rs t | some f ↦ some (fill (filling f) r.right) ]) e

-- no rewrite: no rule matches
pub rewrite_none : (rs : List Rule) (t : Term) → rewrite rs t ≡ none → All (λ r. Matches r.left t → ⊥) rs
rewrite_none [] t e = tt
rewrite_none (r ∷ rs) t e = go (match r.left t blank) refl (rewrite_none rs t)
  where
    go : (m : Option (Bindings ℕ)) → match r.left t blank ≡ m → (rewrite rs t ≡ none → All (λ r. Matches r.left t → ⊥) rs) →
        All (λ r. Matches r.left t → ⊥) (r ∷ rs)
    go none p rest = (not_found r.left t p, rest (sym (matched r rs t none p) ∙ e))
    go (some f) p rest = absurd (none-ne-some _ (sym e ∙ matched r rs t (some f) p))

-- `First rs t u`: the first rule of rs that matches t gives u
abbrev pub First : List Rule → Term → Term → Type 0
First rs t u = (before : List Rule) × (r : Rule) × (after : List Rule) × (f : Filling) × (rs ≡ before ++ (r ∷ after)) ×
    All (λ q. Matches q.left t → ⊥) before × (fill f r.left ≡ t) × (u ≡ fill f r.right)

-- the first rule in book order that matches is applied
pub rewrite_first : (rs : List Rule) (t u : Term) → rewrite rs t ≡ some u → First rs t u
unfolding rewrite
rewrite_first [] t u e = absurd (none-ne-some _ e)
rewrite_first (r ∷ rs) t u e = go (match r.left t blank) refl (rewrite_first rs t u)
  where
    go : (m : Option (Bindings ℕ)) → match r.left t blank ≡ m → (rewrite rs t ≡ some u → First rs t u) → First (r ∷ rs) t u
    go none p rest =
        let (before, q, after, f, a, b, c, e') = rest (sym (matched r rs t none p) ∙ e) in
        (r ∷ before, q, after, f, ap (λ (xs : List Rule). r ∷ xs) a, (not_found r.left t p, b), c, e')
    go (some f) p rest = ([], r, rs, filling f, refl, tt, found r.left t f p, some-injective _ _ (sym e ∙ matched r rs t (some f) p))

-- Arities

-- a filled side has the right arities if it has them and so have its variables' terms
mutual
  unfolding fill preorder variables count

  pub fill_correct : (ops : List Operator) (s : Side) (f : Filling) → Correct (symbol_arity ops) s →
      All (λ v. Correct (arity_at ops) (f v)) (variables (preorder s)) → Correct (arity_at ops) (fill f s)
  fill_correct ops (node (Symbol.operator o) ss) f (c, cs) a = let (d, ds) = fills_correct ops ss f cs a in (d ∙ c, ds)
  fill_correct ops (node (Symbol.variable v) ss) f c a = a.0

  fills_correct : (ops : List Operator) (ss : Forest Symbol) (f : Filling) → Corrects (symbol_arity ops) ss →
      All (λ v. Correct (arity_at ops) (f v)) (variables (preorders ss)) → (count (fills_over operators f ss) ≡ count ss) × Corrects (arity_at ops) (fills_over operators f ss)
  fills_correct ops nil f c a = (refl, tt)
  fills_correct ops (cons s ss) f (c, cs) a =
      let (b, bs) = split_variables (λ (v : ℕ). Correct (arity_at ops) (f v)) (preorder s) (preorders ss) a in
      let (d, ds) = fills_correct ops ss f cs bs in
      (ap suc d, (fill_correct ops s f c b, ds))

-- the term that a rule gives has the right arities
pub applied_correct : (B : Book) (r : Rule) (f : Filling) → SoundRule B r → Correct (arity B) (fill f r.left) → Correct (arity B) (fill f r.right)
applied_correct B r f s c =
    let P : ℕ → Type 0 = λ v. Correct (arity B) (f v) in
    let a : All P (variables (preorder r.left)) =
    inherited B.operators (λ (t u : Term). Correct (arity B) t) (λ (ts us : Forest ℕ). Corrects (arity B) ts) (λ o ts us h. h.1) (λ t u ts us h. h)
    f f r.left s.left c in
    fill_correct B.operators r.right f s.right
    (all_of P (variables (preorder r.right)) (λ v i. all_in P v (variables (preorder r.left)) a (s.bound v i)))

pub rewrite_correct : (B : Book) → All (SoundRule B) B.rules → (t r : Term) → Correct (arity B) t → rewrite B.rules t ≡ some r →
    Correct (arity B) r
rewrite_correct B ss t u c e =
    let (before, r, after, f, a, b, p, q) = rewrite_first B.rules t u e in
    let s : SoundRule B r = (all_split (SoundRule B) before (r ∷ after) (subst (All (SoundRule B)) a ss)).1.0 in
    subst (Correct (arity B)) (sym q) (applied_correct B r f s (subst (Correct (arity B)) (sym p) c))
