-- Two left sides walked in one trie have different nodes at one place exactly if they are not compatible. Assumes nothing.
use mathlib.Core.Bool.{Bool, true, false, not, true≢false}
use mathlib.Core.List.{List, [], ◌∷◌, ◌++◌, append_assoc, append-nil}
use mathlib.Core.Logic.{◌⊎◌, inl, inr, ◌≢◌}
use mathlib.Core.Path.{◌≡◌, refl, sym, ap, ◌∙◌, subst}
use Prim.Native.Nat.{ℕ, suc, ◌+◌, ◌<◌, ◌≤◌}
use native.Mathlib.Omega.{arith}
use lib.Dec.{eqb}
use lib.ListN.{get_or}
use Rattle.paper.specs.Tree.{node, Forest, nil, cons, count, preorder, preorders, Correct, Corrects}
use Rattle.paper.specs.Book.{Symbol, Side}
use Rattle.paper.specs.Sound.{In}
use Rattle.paper.specs.Strict.{compatible, compatibles}
use Rattle.paper.proofs.Lists.{in_append}
use Rattle.paper.proofs.Compatible.{test_both, in_front, in_back}
use Rattle.paper.proofs.Tests.{eqb_cases, eqb_true, has_cases, ltb_cases}
use Rattle.tables.specs.Layout.{arity_in}
use Rattle.rule.specs.Packed.{arity_of_symbol}
use Rattle.overlap.specs.Trie.{Trie, base_of, place_of, Named, Linked, Based, upto, Walked}
use Rattle.overlap.proofs.Leading.{one_answer}
use Rattle.apart.specs.Rows.{places_of, other, parted}

-- the place p is c or lies below it, by the arguments of nodes
data Under (T : Trie) (arity : ℕ → ℕ) (c : ℕ) : ℕ → Type 0 where
  here : Under T arity c c
  argument : {p : ℕ} (z d o : ℕ) → Named T z d o → Under T arity c d → base_of T z ≤ p → p < base_of T z + arity o → Under T arity c p

-- a test that says whether something is not so
abbrev pub Denies : Bool → Type 0 → Type 0
Denies true P = ¬ P
Denies false P = P

denies_both : (b c : Bool) {P Q R : Type 0} → Denies b P → Denies c Q → (P → R) → (Q → R) → (R → P ⊎ Q) →
    Denies (test_both b c) R
denies_both true true p q f g h = λ r. elim (h r) [ inl x ↦ p x | inr y ↦ q y ]
denies_both true false p q f g h = g q
denies_both false c p q f g h = f p

denies_passed : (b c : Bool) {P R : Type 0} → b ≡ true → Denies c P → (P → R) → (R → P) → Denies (test_both b c) R
denies_passed true true e d f g = λ r. d (g r)
denies_passed true false e d f g = f d
denies_passed false c e d f g = absurd (true≢false (sym e))

denies_failed : (b c : Bool) {R : Type 0} → b ≡ false → R → Denies (test_both b c) R
denies_failed true c e r = absurd (true≢false e)
denies_failed false c e r = r

true_both : (b c : Bool) → b ≡ true → c ≡ true → test_both b c ≡ true
true_both b c p q = rw p q

mutual
  unfolding compatible

  compatible_self : (s : Side) → compatible s s ≡ true
  compatible_self (node (Symbol.operator o) ss) = true_both (eqb o o) (compatibles ss ss) (eqb_true o o refl) (compatibles_self ss)
  compatible_self (node (Symbol.variable v) ss) = refl

  compatibles_self : (ss : Forest Symbol) → compatibles ss ss ≡ true
  compatibles_self nil = refl
  compatibles_self (cons s ss) = true_both (compatible s s) (compatibles ss ss) (compatible_self s) (compatibles_self ss)

denies_still : (b : Bool) {P R : Type 0} → Denies b P → (P → R) → (R → P) → Denies b R
denies_still true p f g = λ r. p (g r)
denies_still false p f g = f p

denies_not : (b c : Bool) {P Q : Type 0} → Denies b P → Denies (not c) Q → (P → Q) → (Q → P) → c ≡ not b
denies_not true true p q f g = absurd (p (g q))
denies_not true false p q f g = refl
denies_not false true p q f g = refl
denies_not false false p q f g = absurd (q (f p))

-- a node's place is among those of nodes
pub place_in : (places : List ℕ) (y : ℕ) (ys : List ℕ) → In y ys → In (get_or places y 0) (places_of places ys)
place_in places y [] x' = elim x' [ ]
place_in places y (x ∷ ys) (inl e) = inl (ap (λ (z : ℕ). get_or places z 0) e)
place_in places y (x ∷ ys) (inr i) = inr (place_in places y ys i)

module _ (T : Trie) (operators : List ℕ) where
  abbrev arity : ℕ → ℕ
  arity = arity_in operators

  -- SIDES WALKED, as trees

  abbrev mutual
    -- the side's nodes are zs, where it stands at the place c
    pub At : Side → ℕ → List ℕ → Type 0
    At (node (Symbol.operator o) ss) c zs = (z : ℕ) × (zs' : List ℕ) × (zs ≡ z ∷ zs') × Named T z c o × AtAll ss (base_of T z) zs'
    At (node (Symbol.variable v) ss) c zs = zs ≡ []

    -- the same for sides that stand at the places from b on
    AtAll : Forest Symbol → ℕ → List ℕ → Type 0
    AtAll nil b zs = zs ≡ []
    AtAll (cons s ss) b zs = (xs : List ℕ) × (ys : List ℕ) × (zs ≡ xs ++ ys) × At s b xs × AtAll ss (suc b) ys

  abbrev pub Right : Side → Type 0
  Right = Correct (arity_of_symbol operators)

  abbrev Rights : Forest Symbol → Type 0
  Rights = Corrects (arity_of_symbol operators)

  -- P holds of the first of some nodes, and the symbols ss have the others
  abbrev Split : (List ℕ → Type 0) → List Symbol → List ℕ → List ℕ → Type 0
  Split P ss due zs = (xs : List ℕ) × (ys : List ℕ) × (zs ≡ xs ++ ys) × P xs × Walked T arity ss due ys

  split_node : (o c z : ℕ) (fs : Forest Symbol) (ss : List Symbol) (due zs zs' : List ℕ) → zs ≡ z ∷ zs' → Named T z c o →
      Split (AtAll fs (base_of T z)) ss due zs' → Split (At (node (Symbol.operator o) fs) c) ss due zs
  split_node o c z fs ss due zs zs' f n (xs, ys, g, x, y) = (z ∷ xs, ys, f ∙ ap (λ (l : List ℕ). z ∷ l) g, (z, xs, refl, n, x), y)

  split_cons : (s : Side) (fs : Forest Symbol) (b : ℕ) (ss : List Symbol) (due zs xs ys : List ℕ) → zs ≡ xs ++ ys → At s b xs →
      Split (AtAll fs (suc b)) ss due ys → Split (AtAll (cons s fs) b) ss due zs
  split_cons s fs b ss due zs xs ys f a (xs', ys', g, x, y) =
      (xs ++ xs', ys', f ∙ ap (λ (l : List ℕ). xs ++ l) g ∙ sym (append_assoc xs xs' ys'), (xs, xs', refl, a, x), y)

  mutual
    unfolding preorder count upto

    walked_at : (s : Side) (ss : List Symbol) (c : ℕ) (due zs : List ℕ) → Right s → Walked T arity (preorder s ++ ss) (c ∷ due) zs → Split (At s c) ss due zs
    walked_at (node (Symbol.operator o) fs) ss c due zs (k, r) (d, due', z, zs', e, f, n, w) =
        let a : c ≡ d = cc in
        let b : due ≡ due' = cc in
        split_node o c z fs ss due zs zs' f (rw a n) (walked_all fs ss (base_of T z) due zs' r (rw (k, b) w))
    walked_at (node (Symbol.variable v) nil) ss c due zs (k, r) (d, due', e, w) = let b : due ≡ due' = cc in ([], zs, refl, refl, rw b w)
    walked_at (node (Symbol.variable v) (cons f fs)) ss c due zs (k, r) w = absurd (omega arith)

    walked_all : (fs : Forest Symbol) (ss : List Symbol) (b : ℕ) (due zs : List ℕ) → Rights fs →
        Walked T arity (preorders fs ++ ss) (upto b (count fs) ++ due) zs → Split (AtAll fs b) ss due zs
    walked_all nil ss b due zs r w = ([], zs, refl, refl, w)
    walked_all (cons s fs) ss b due zs (r, rs) w =
        let (xs, ys, g, x, y) = walked_at s (preorders fs ++ ss) b (upto (suc b) (count fs) ++ due) zs r (rw append_assoc at w) in
        split_cons s fs b ss due zs xs ys g x (walked_all fs ss (suc b) due ys rs y)

  -- PLACES

  module _ (n m : ℕ) (L : Linked T n) (B : Based arity T m) where
    one_node : (y z c o : ℕ) → Named T y c o → Named T z c o → y ≡ z
    one_node y z c o a b = let e = one_answer (L.found y c o a) (L.found z c o b) in cc

    -- two nodes with one argument's place are the same
    one_owner : (y c o z d p a : ℕ) → Named T y c o → Named T z d p → base_of T y ≤ a → a < base_of T y + arity o → base_of T z ≤ a →
        a < base_of T z + arity p → y ≡ z
    one_owner y c o z d p a i j e f g h = elim (ltb_cases y z) [
      | inl k ↦ absurd (omega (arith, B.apart y c o z d p i j k.1))
      | inr k ↦ elim (ltb_cases z y) [ inl l ↦ absurd (omega (arith, B.apart z d p y c o j i l.1)) | inr l ↦ omega (arith, k.1, l.1) ]
    ]

    under_after : (c p : ℕ) → Under T arity c p → c ≤ p
    under_after c p Under.here = omega arith
    under_after c p (Under.argument z d o i u e f) = let h = under_after c d u in omega (arith, B.behind z d o i)

    -- of two places with one below both, one is below the other
    under_both : (c d p : ℕ) → Under T arity c p → Under T arity d p → Under T arity c d ⊎ Under T arity d c
    under_both c d p Under.here v = inr v
    under_both c d p (Under.argument z q o i u e f) Under.here = inl (Under.argument z q o i u e f)
    under_both c d p (Under.argument z q o i u e f) (Under.argument w r x j v g h) =
        let k : z ≡ w = one_owner z q o w r x p i j e f g h in
        let l : r ≡ q = sym j.place ∙ rw (← k) i.place in
        under_both c d q u (rw l at v)

    -- the arguments of one node are not below one another
    module _ (w q o : ℕ) (i : Named T w q o) where
      abbrev Argument : ℕ → Type 0
      Argument p = (base_of T w ≤ p) × (p < base_of T w + arity o)

      beside : (c d : ℕ) → Argument c → Argument d → Under T arity c d → c ≡ d
      beside c d a b Under.here = refl
      beside c d a b (Under.argument z r x j u g h) =
          let k : w ≡ z = one_owner w q o z r x d i j b.0 b.1 g h in
          let l : r ≡ q = sym j.place ∙ rw (← k) i.place in
          absurd (omega (arith, under_after c r u, B.behind w q o i))

      one_argument : (c d p : ℕ) → Argument c → Argument d → Under T arity c p → Under T arity d p → c ≡ d
      one_argument c d p a b u v = elim (under_both c d p u v) [ inl x ↦ beside c d a b x | inr x ↦ sym (beside d c b a x) ]

      under_node : (d p : ℕ) → Argument d → Under T arity d p → Under T arity q p
      under_node d p a Under.here = Under.argument w q o i Under.here a.0 a.1
      under_node d p a (Under.argument z r x j u g h) = Under.argument z r x j (under_node d r a u) g h

    -- where the nodes of sides are
    mutual
      unfolding count

      at_under : (s : Side) (c : ℕ) (zs : List ℕ) → Right s → At s c zs → (z : ℕ) → In z zs → Under T arity c (place_of T z)
      at_under (node (Symbol.operator o) ss) c zs (k, r) (y, ys, e, i, x) z j = let h : In z (y ∷ ys) = rw e at j in elim h [
        | inl f ↦ rw (f, i.place) Under.here
        | inr l ↦ let (d, a, b, u) = all_under ss (base_of T y) ys r x z l in under_node y c o i d (place_of T z) (a, omega arith) u
      ]
      at_under (node (Symbol.variable v) ss) c zs r e z j = absurd (rw e at j)

      all_under : (ss : Forest Symbol) (b : ℕ) (zs : List ℕ) → Rights ss → AtAll ss b zs → (z : ℕ) → In z zs →
          (d : ℕ) × (b ≤ d) × (d < b + count ss) × Under T arity d (place_of T z)
      all_under nil b zs r e z j = absurd (rw e at j)
      all_under (cons s ss) b zs (r, rs) (xs, ys, e, x, y) z j = elim (in_append z xs ys (rw e at j)) [
        | inl l ↦ (b, omega arith, omega arith, at_under s b xs r x z l)
        | inr l ↦ let (d, a, c, u) = all_under ss (suc b) ys rs y z l in (d, omega arith, omega arith, u)
      ]

    above_node : (s : Forest Symbol) (y c o : ℕ) (zs : List ℕ) → Named T y c o → Rights s → AtAll s (base_of T y) zs → (z : ℕ) → In z zs → c < place_of T z
    above_node s y c o zs i r x z j = let (d, a, b, u) = all_under s (base_of T y) zs r x z j in omega (arith, B.behind y c o i, under_after d (place_of T z) u)

    -- two sides have different nodes at one place
    abbrev pub Clash : List ℕ → List ℕ → Type 0
    Clash ys zs = (y : ℕ) × (z : ℕ) × In y ys × In z zs × (place_of T y ≡ place_of T z) × (y ≢ z)

    clash_behind : (y z : ℕ) (ys zs : List ℕ) → Clash ys zs → Clash (y ∷ ys) (z ∷ zs)
    clash_behind y z ys zs (v, w, i, j, e, d) = (v, w, inr i, inr j, e, d)

    behind_clash : (y z : ℕ) (ys zs : List ℕ) → y ≡ z → ((w : ℕ) → In w ys → place_of T y < place_of T w) → ((w : ℕ) → In w zs → place_of T y < place_of T w) →
        Clash (y ∷ ys) (z ∷ zs) → Clash ys zs
    behind_clash y z ys zs f a b (v, w, inl i, inl j, e, d) = absurd (d (i ∙ f ∙ sym j))
    behind_clash y z ys zs f a b (v, w, inl i, inr j, e, d) = absurd (omega (arith, b w j, ap (place_of T) i))
    behind_clash y z ys zs f a b (v, w, inr i, inl j, e, d) = absurd (omega (arith, a v i, ap (place_of T) j, ap (place_of T) f))
    behind_clash y z ys zs f a b (v, w, inr i, inr j, e, d) = (v, w, i, j, e, d)

    clash_front : (as₁ as₂ bs₁ bs₂ : List ℕ) → Clash as₁ bs₁ → Clash (as₁ ++ as₂) (bs₁ ++ bs₂)
    clash_front as₁ as₂ bs₁ bs₂ (v, w, i, j, e, d) = (v, w, in_front v as₁ as₂ i, in_front w bs₁ bs₂ j, e, d)

    clash_back : (as₁ as₂ bs₁ bs₂ : List ℕ) → Clash as₂ bs₂ → Clash (as₁ ++ as₂) (bs₁ ++ bs₂)
    clash_back as₁ as₂ bs₁ bs₂ (v, w, i, j, e, d) = (v, w, in_back v as₁ as₂ i, in_back w bs₁ bs₂ j, e, d)

    abbrev Distant : List ℕ → List ℕ → Type 0
    Distant ys zs = (y z : ℕ) → In y ys → In z zs → place_of T y ≢ place_of T z

    clash_parts : (as₁ as₂ bs₁ bs₂ : List ℕ) → Distant as₁ bs₂ → Distant as₂ bs₁ → Clash (as₁ ++ as₂) (bs₁ ++ bs₂) → Clash as₁ bs₁ ⊎ Clash as₂ bs₂
    clash_parts as₁ as₂ bs₁ bs₂ m n (v, w, i, j, e, d) = go (in_append v as₁ as₂ i) (in_append w bs₁ bs₂ j)
      where
        go : In v as₁ ⊎ In v as₂ → In w bs₁ ⊎ In w bs₂ → Clash as₁ bs₁ ⊎ Clash as₂ bs₂
        go (inl i) (inl j) = inl (v, w, i, j, e, d)
        go (inl i) (inr j) = absurd (m v w i j e)
        go (inr i) (inl j) = absurd (n v w i j e)
        go (inr i) (inr j) = inr (v, w, i, j, e, d)

    -- a node's first argument and those behind it
    distant : (w q o : ℕ) → Named T w q o → (s : Side) (us : Forest Symbol) (b : ℕ) (ys zs : List ℕ) → base_of T w ≤ b → suc b + count us ≤ base_of T w + arity o →
        Right s → Rights us → At s b ys → AtAll us (suc b) zs → Distant ys zs
    distant w q o n s us b ys zs l h r rs x xs y z i j e =
        let (d, a, c, u) = all_under us (suc b) zs rs xs z j in
        let v = at_under s b ys r x y i in
        let f : b ≡ d = one_argument w q o n b d (place_of T z) (l, omega arith) (omega arith, omega arith) (rw e at v) u in
        absurd (omega arith)

    mutual
      unfolding compatible count

      -- exactly if they are not compatible
      pub clash_sides : (s u : Side) (c : ℕ) (ys zs : List ℕ) → Right s → Right u → At s c ys → At u c zs → Denies (compatible s u) (Clash ys zs)
      clash_sides (node (Symbol.operator o) ss) (node (Symbol.operator p) us) c ys zs (k, r) (l, q) (y, ys', e, i, x) (z, zs', f, j, x') =
          rw (e, f) (elim (eqb_cases o p) [
            | inl t ↦
                let g : y ≡ z = one_node y z c o i (rw (← t.1) at j) in
                let x'' : AtAll us (base_of T y) zs' = rw g x' in
                let h : Denies (compatibles ss us) (Clash ys' zs') =
                clash_all y c o i ss us (base_of T y) ys' zs' (omega arith) (omega arith) (k ∙ ap arity t.1 ∙ sym l) r q x x'' in
                denies_passed (eqb o p) (compatibles ss us) t.0 h (clash_behind y z ys' zs')
                (behind_clash y z ys' zs' g (rw i.place (above_node ss y c o ys' i r x)) (rw i.place (above_node us y c o zs' i q x'')))
            | inr t ↦ denies_failed (eqb o p) (compatibles ss us) t.0 (y, z, inl refl, inl refl, i.place ∙ sym j.place, λ g. t.1 (sym i.code ∙ rw g j.code))
          ])
      clash_sides (node (Symbol.operator o) ss) (node (Symbol.variable w) us) c ys zs r q x e = λ h. let (y, z, i, j, k, d) = h in absurd (rw e at j)
      clash_sides (node (Symbol.variable v) ss) u c ys zs r q e x = λ h. let (y, z, i, j, k, d) = h in absurd (rw e at i)

      clash_all : (w q o : ℕ) → Named T w q o → (ss us : Forest Symbol) (b : ℕ) (ys zs : List ℕ) → base_of T w ≤ b → b + count ss ≤ base_of T w + arity o →
          count ss ≡ count us → Rights ss → Rights us → AtAll ss b ys → AtAll us b zs → Denies (compatibles ss us) (Clash ys zs)
      clash_all w q o i nil nil b ys zs l h e r r' f g = λ x. let (y, z, i, j, k, d) = x in absurd (rw f at i)
      clash_all w q o i nil (cons u us) b ys zs l h e r r' x y = absurd (omega arith)
      clash_all w q o i (cons s ss) nil b ys zs l h e r r' x y = absurd (omega arith)
      clash_all w q o i (cons s ss) (cons u us) b ys zs l h e (r, rs) (r', rs') (as₁, as₂, f, x, xs) (bs₁, bs₂, g, y, ys') =
          rw (f, g) (denies_both (compatible s u) (compatibles ss us)
          (clash_sides s u b as₁ bs₁ r r' x y)
          (clash_all w q o i ss us (suc b) as₂ bs₂ (omega arith) (omega arith) (omega arith) rs rs' xs ys')
          (clash_front as₁ as₂ bs₁ bs₂)
          (clash_back as₁ as₂ bs₁ bs₂)
          (clash_parts as₁ as₂ bs₁ bs₂
          (distant w q o i s us b as₁ bs₂ l (omega arith) r rs' x ys')
          (λ v z a c d. distant w q o i u ss b bs₁ as₂ l (omega arith) r' rs y xs z v c a (sym d))))

    clash_none : (s : Side) (c : ℕ) (zs : List ℕ) → Right s → At s c zs → ¬ Clash zs zs
    clash_none s c zs r x = subst (λ (b : Bool). Denies b (Clash zs zs)) (compatible_self s) (clash_sides s s c zs zs r r x x)

    -- the same for the test
    abbrev Other : List ℕ → ℕ → Type 0
    Other ys z = (¬ In z ys) × In (place_of T z) (places_of T.places ys)

    other_cases : (ys : List ℕ) (z : ℕ) → ((other T.places ys z ≡ true) × Other ys z) ⊎ ((other T.places ys z ≡ false) × (¬ Other ys z))
    unfolding other
    other_cases ys z = elim (has_cases z ys) [
      | inl p ↦ inr (rw (p.0, other), λ h. h.0 p.1)
      | inr p ↦ elim (has_cases (place_of T z) (places_of T.places ys)) [
        | inl q ↦ inl (rw (p.0, other) q.0, (p.1, q.1))
        | inr q ↦ inr (rw (p.0, other) q.0, λ h. q.1 h.1)
      ]
    ]

    parted_is : (ys zs : List ℕ) → Denies (not (parted T.places ys zs)) ((z : ℕ) × In z zs × Other ys z)
    unfolding parted
    parted_is ys [] = λ h. let (z, i, o) = h in i
    parted_is ys (z ∷ zs) = elim (other_cases ys z) [
      | inl p ↦ rw (p.0, parted) (z, inl refl, p.1)
      | inr p ↦ rw (p.0, parted) (denies_still (not (parted T.places ys zs)) (parted_is ys zs)
          (λ h. let (w, i, o) = h in (w, inr i, o))
          (λ h. let (w, i, o) = h in elim i [ inl e ↦ absurd (p.1 (rw e at o)) | inr j ↦ (w, j, o) ]))
    ]

    in_place : (c : ℕ) (ys : List ℕ) → In c (places_of T.places ys) → (y : ℕ) × In y ys × (c ≡ place_of T y)
    in_place c [] x' = elim x' [ ]
    in_place c (x ∷ ys) (inl e) = (x, inl refl, e)
    in_place c (x ∷ ys) (inr i) = let (y, j, e) = in_place c ys i in (y, inr j, e)

    clash_other : (ys zs : List ℕ) → ¬ Clash zs zs → Clash ys zs → (y : ℕ) × In y ys × Other zs y
    clash_other ys zs n (y, z, i, j, e, d) = (y, i, (λ k. n (y, z, k, j, e, d), rw e (place_in T.places z zs j)))

    other_clash : (ys zs : List ℕ) → ((y : ℕ) × In y ys × Other zs y) → Clash ys zs
    other_clash ys zs (y, i, (n, k)) = let (z, j, e) = in_place (place_of T y) zs k in (y, z, i, j, e, λ f. n (rw f j))

    walked_all_at : (s : Side) (zs : List ℕ) → Right s → Walked T arity (preorder s) (0 ∷ []) zs → At s 0 zs
    walked_all_at s zs r w =
        let (xs, ys, e, x, y) = walked_at s [] 0 [] zs r (rw append-nil w) in
        rw (e, y.1, append-nil) x

    -- a left side has a node that is not the other's, at one place of the other's, exactly if the two are not compatible
    pub parted_sides : (s u : Side) (ys zs : List ℕ) → Right s → Right u → Walked T arity (preorder s) (0 ∷ []) ys → Walked T arity (preorder u) (0 ∷ []) zs →
        parted T.places zs ys ≡ not (compatible s u)
    parted_sides s u ys zs r q w v =
        let x = walked_all_at s ys r w in
        let y = walked_all_at u zs q v in
        denies_not (compatible s u) (parted T.places zs ys) (clash_sides s u 0 ys zs r q x y) (parted_is zs ys)
        (clash_other ys zs (clash_none u 0 zs q y)) (other_clash ys zs)
