-- Frames where they stand: under the frame above, over the frames below. Tables by offset that are read off them. Assumes nothing.
use mathlib.Core.List.{List, [], ◌∷◌, ◌++◌}
use mathlib.Core.Logic.{◌⊎◌, inl, inr, ◌≢◌}
use mathlib.Core.Option.{Option, none, some, none-ne-some, some-injective}
use mathlib.Core.Path.{◌≡◌, refl, sym, ◌∙◌, ap, ap₂, subst}
use Prim.Native.Nat.{ℕ, zero, suc, ◌+◌, ◌<◌, ◌≤◌}
use native.Mathlib.Omega.{arith}
use lib.ListN.{length, length-append, drop}
use Rattle.paper.specs.Tree.{arguments, count, Position, subterm}
use Rattle.paper.specs.Book.{Term, Book, steps}
use Rattle.paper.specs.Sound.{In}
use Rattle.paper.proofs.Numbers.{if_same, same_is, other_is}
use Rattle.paper.proofs.Tests.{eqb_cases, ltb_cases}
use Rattle.flat.specs.Rules.{InGroup, upto}
use Rattle.flat.specs.Relation.{Valid, Placed, PlacedUnit, at, Holds, JoinAt, GoodFrame, GoodFrames, Under, Stacked}
use Rattle.flat.proofs.Counts.{FrameAt, frame_low}
use Rattle.flat.proofs.Relation.{stacked_tail}

-- in the frames gs, on which up₀ stands, g stands under up and over lo
abbrev pub Site : Option Placed → List Placed → Option Placed → Placed → List Placed → Type 0
Site up₀ [] up g lo = ⊥
Site up₀ (x ∷ gs) up g lo = ((up₀ ≡ up) × (x ≡ g) × (gs ≡ lo)) ⊎ Site (some x) gs up g lo

pub site_frame : (up₀ : Option Placed) (gs : List Placed) (up : Option Placed) (g : Placed) (lo : List Placed) → Site up₀ gs up g lo → FrameAt gs (length lo) g
site_frame up₀ [] up g lo s = absurd s
site_frame up₀ (x ∷ gs) up g lo (inl s) = inl (ap length (sym s.2), s.1)
site_frame up₀ (x ∷ gs) up g lo (inr s) = inr (site_frame (some x) gs up g lo s)

pub frame_site : (up₀ : Option Placed) (gs : List Placed) (i : ℕ) (g : Placed) → FrameAt gs i g → (up : Option Placed) × (lo : List Placed) × Site up₀ gs up g lo × (i ≡ length lo)
frame_site up₀ [] i g h = absurd h
frame_site up₀ (x ∷ gs) i g (inl h) = (up₀, gs, inl (refl, h.1, refl), h.0)
frame_site up₀ (x ∷ gs) i g (inr h) = let (up, lo, s, e) = frame_site (some x) gs i g h in (up, lo, inr s, e)

pub in_frame : (gs : List Placed) (g : Placed) → In g gs → (i : ℕ) × FrameAt gs i g
in_frame [] g h = absurd h
in_frame (x ∷ gs) g (inl e) = (length gs, inl (refl, sym e))
in_frame (x ∷ gs) g (inr h) = let (i, f) = in_frame gs g h in (i, inr f)

-- below a frame are frames
pub site_below : (up₀ : Option Placed) (gs : List Placed) (up : Option Placed) (g x : Placed) (lo : List Placed) → Site up₀ gs up g (x ∷ lo) → Site up₀ gs (some g) x lo
site_below up₀ [] up g x lo s = absurd s
site_below up₀ (y ∷ gs) up g x lo (inl s) =
    inr (subst (λ (z : List Placed). Site (some y) z (some g) x lo) (sym s.2) (inl (ap some s.1, refl, refl)))
site_below up₀ (y ∷ gs) up g x lo (inr s) = inr (site_below (some y) gs up g x lo s)

-- POSITIONS

unfoldable pub last : Position → ℕ
last [] = 0
last (x ∷ []) = x
last (x ∷ y ∷ q) = last (y ∷ q)

pub last_append : (p : Position) (x : ℕ) → last (p ++ (x ∷ [])) ≡ x
unfolding last
last_append [] x = refl
last_append (i ∷ []) x = refl
last_append (i ∷ k ∷ p) x = last_append (k ∷ p) x

pub same_last : (p q : Position) (x y : ℕ) → p ++ (x ∷ []) ≡ q ++ (y ∷ []) → x ≡ y
same_last p q x y e = sym (last_append p x) ∙ ap last e ∙ last_append q y

pub no_root : (p : Position) (x : ℕ) → p ++ (x ∷ []) ≡ [] → ⊥
no_root [] x e = let z : ◌≡◌ {A = ℕ} 0 1 = cc in omega arith
no_root (i ∷ p) x e = let z : ◌≡◌ {A = ℕ} 0 1 = cc in omega arith

pub no_longer : (p : Position) (x : ℕ) → p ≡ p ++ (x ∷ []) → ⊥
no_longer p x e = let a = ap length e in let b = length-append p (x ∷ []) in omega (arith, a, b)

pub valid_last : (p : Position) (x : ℕ) (t : Term) → Valid (p ++ (x ∷ [])) t → x < count (arguments (subterm p t))
unfolding subterm
valid_last [] x t v = v.0
valid_last (i ∷ p) x t v = valid_last p x _ v.1

-- FRAMES

pub frame_unique : (gs : List Placed) (i : ℕ) (g g' : Placed) → FrameAt gs i g → FrameAt gs i g' → g ≡ g'
frame_unique [] i g g' h k = absurd h
frame_unique (x ∷ gs) i g g' (inl h) (inl k) = sym h.1 ∙ k.1
frame_unique (x ∷ gs) i g g' (inl h) (inr k) = absurd (let a = h.0 in let b = frame_low gs i g' k in omega (arith, a, b))
frame_unique (x ∷ gs) i g g' (inr h) (inl k) = absurd (let a = k.0 in let b = frame_low gs i g h in omega (arith, a, b))
frame_unique (x ∷ gs) i g g' (inr h) (inr k) = frame_unique gs i g g' h k

-- the frame above a frame
pub site_above : (up₀ : Option Placed) (gs : List Placed) (g x : Placed) (lo : List Placed) → Site up₀ gs (some g) x lo →
    ((up₀ ≡ some g) × (gs ≡ x ∷ lo)) ⊎ ((up : Option Placed) × Site up₀ gs up g (x ∷ lo))
site_above up₀ [] g x lo s = absurd s
site_above up₀ (y ∷ gs) g x lo (inl s) = inl (s.0, ap₂ (λ (z : Placed) (zs : List Placed). z ∷ zs) s.1 s.2)
site_above up₀ (y ∷ gs) g x lo (inr s) =
    elim (site_above (some y) gs g x lo s) [
      | inl e ↦ inr (up₀, inl (refl, some-injective _ _ e.0, e.1))
      | inr r ↦ inr (r.0, inr r.1)
    ]

-- the frame on top
pub site_top : (gs : List Placed) (g : Placed) (lo : List Placed) → Site none gs none g lo → gs ≡ g ∷ lo
site_top [] g lo s = absurd s
site_top (x ∷ gs) g lo (inl s) = ap₂ (λ (z : Placed) (zs : List Placed). z ∷ zs) s.1 s.2
site_top (x ∷ gs) g lo (inr s) = absurd (deep x gs s)
  where
    deep : (x : Placed) (gs : List Placed) → Site (some x) gs none g lo → ⊥
    deep x [] s = s
    deep x (y ∷ gs) (inl s) = none-ne-some _ (sym s.0)
    deep x (y ∷ gs) (inr s) = deep y gs s

pub stacked_site : (B : Book) (up₀ : Option Placed) (gs : List Placed) (up : Option Placed) (g : Placed) (lo : List Placed) → Site up₀ gs up g lo → Stacked B gs → Stacked B (g ∷ lo)
stacked_site B up₀ [] up g lo s h = absurd s
stacked_site B up₀ (x ∷ gs) up g lo (inl s) h = subst (λ (z : Placed). Stacked B (z ∷ lo)) s.1 (subst (λ (z : List Placed). Stacked B (x ∷ z)) s.2 h)
stacked_site B up₀ (x ∷ gs) up g lo (inr s) h = stacked_site B (some x) gs up g lo s (stacked_tail B x gs h)

pub good_frame : (B : Book) (t : Term) (gs : List Placed) (i : ℕ) (g : Placed) → GoodFrames B t gs → FrameAt gs i g → GoodFrame B t g
good_frame B t [] i g h m = absurd m
good_frame B t (x ∷ gs) i g h (inl e) = subst (λ (z : Placed). GoodFrame B t z) e.1 h.0
good_frame B t (x ∷ gs) i g h (inr m) = good_frame B t gs i g h.1 m

-- the job that holds an EXIT's JOIN
abbrev pub Holder : Book → List Placed → ℕ → ℕ → Position → Type 0
Holder B gs i m q =
    (p : Position) × (o : ℕ) × (k : ℕ) × (c : ℕ) × (x : ℕ) × FrameAt gs i (Placed.job p o (suc k) c m) × InGroup (drop k (steps B o)) × (q ≡ p ++ (x ∷ []))

holder_frame : (B : Book) (g : Placed) (m : ℕ) (q : Position) → Holds B g m q →
    (p : Position) × (o : ℕ) × (k : ℕ) × (c : ℕ) × (x : ℕ) × (g ≡ Placed.job p o (suc k) c m) × InGroup (drop k (steps B o)) × (q ≡ p ++ (x ∷ []))
holder_frame B (Placed.job p o zero c j) m q h = absurd h
holder_frame B (Placed.job p o (suc k) c j) m q h = (p, o, k, c, h.2.0, ap (λ (z : ℕ). Placed.job p o (suc k) c z) (sym h.1), h.0, h.2.1)
holder_frame B (Placed.exit w i r j) m q h = absurd h
holder_frame B Placed.sleep m q h = absurd h
holder_frame B Placed.bingo m q h = absurd h

pub holder_of : (B : Book) (gs : List Placed) (i m : ℕ) (q : Position) → JoinAt B gs i m q → Holder B gs i m q
holder_of B [] i m q h = absurd h
holder_of B (g ∷ gs) i m q (inl h) = let (p, o, k, c, x, e, gr, eq) = holder_frame B g m q h.1 in (p, o, k, c, x, inl (h.0, e), gr, eq)
holder_of B (g ∷ gs) i m q (inr h) = let (p, o, k, c, x, f, gr, eq) = holder_of B gs i m q h in (p, o, k, c, x, inr f, gr, eq)

-- TABLES BY OFFSET

pub upto_some : (f : ℕ → ℕ) (n : ℕ) → 1 ≤ upto f n → (v : ℕ) × (1 ≤ f v)
unfolding upto
upto_some f zero l = absurd (omega (arith, l))
upto_some f (suc n) l =
    elim (ltb_cases 0 (f n)) [ inl p ↦ (n, (let a = p.1 in omega (arith, a))) | inr p ↦ upto_some f n (let a = p.1 in omega (arith, a, l)) ]

-- a sum of which one term counts
pub upto_only : (f : ℕ → ℕ) (v n : ℕ) → v < n → ((w : ℕ) → w ≢ v → f w ≡ 0) → upto f n ≡ f v
unfolding upto
upto_only f v zero l h = absurd (omega (arith, l))
upto_only f v (suc n) l h =
    elim (eqb_cases n v) [
      | inl p ↦ (let z = before n (λ w k. h w (λ e. (let a = p.1 in omega (arith, e, k, a)))) in let x = ap f p.1 in omega (arith, z, x))
      | inr p ↦ (let a = p.1 in omega (arith, h n p.1, upto_only f v n (omega (arith, l, a)) h))
    ]
  where
    before : (m : ℕ) → ((w : ℕ) → w < m → f w ≡ 0) → upto f m ≡ 0
    before zero h = refl
    before (suc m) h = omega (arith, h m (omega arith), before m (λ w l. h w (omega (arith, l))))

-- what a frame with what is above and below it weighs
abbrev pub Weight : Type 0
Weight = Option Placed → Placed → List Placed → ℕ

-- frames are entered at their keys
module _ (key : Placed → Option ℕ) where
  unfoldable pub at_key : ℕ → Option ℕ → ℕ → ℕ
  unfolding if_same
  at_key a none y = 0
  at_key a (some b) y = if_same b a y

  unfoldable pub walk : Weight → ℕ → Option Placed → List Placed → ℕ
  unfolding at_key
  walk ω a up [] = 0
  walk ω a up (g ∷ gs) = at_key a (key g) (ω up g gs) + walk ω a (some g) gs

  key_none : (a y : ℕ) (k : Option ℕ) → k ≢ some a → at_key a k y ≡ 0
  unfolding at_key
  key_none a y none ne = refl
  key_none a y (some b) ne = other_is b a y (λ e. ne (ap some e))

  key_some : (a y : ℕ) (k : Option ℕ) → k ≡ some a → at_key a k y ≡ y
  unfolding at_key
  key_some a y none e = absurd (none-ne-some _ e)
  key_some a y (some b) e = same_is b a y (some-injective _ _ e)

  walk_none : (ω : Weight) (a : ℕ) (up : Option Placed) (gs : List Placed) → ((i : ℕ) (g : Placed) → FrameAt gs i g → key g ≢ some a) → walk ω a up gs ≡ 0
  unfolding walk
  walk_none ω a up [] h = refl
  walk_none ω a up (g ∷ gs) h =
      omega (arith, key_none a (ω up g gs) (key g) (h (length gs) g (inl (refl, refl))), walk_none ω a (some g) gs (λ i x f. h i x (inr f)))

  walk_is : (ω : Weight) (a : ℕ) (up₀ : Option Placed) (gs : List Placed) (up : Option Placed) (g : Placed) (lo : List Placed) → Site up₀ gs up g lo → key g ≡ some a →
      ((i : ℕ) (x : Placed) → FrameAt gs i x → key x ≡ some a → i ≡ length lo) → walk ω a up₀ gs ≡ ω up g lo
  unfolding walk
  walk_is ω a up₀ [] up g lo s e h = absurd s
  walk_is ω a up₀ (x ∷ gs) up g lo (inl s) e h =
      let k : key x ≡ some a = ap key s.1 ∙ e in
      let z = walk_none ω a (some x) gs (λ i y f q. (let l = frame_low gs i y f in let r = h i y (inr f) q in let n = ap length s.2 in omega (arith, l, r, n))) in
      let y : at_key a (key x) (ω up₀ x gs) + walk ω a (some x) gs ≡ ω up₀ x gs = omega (arith, z, key_some a (ω up₀ x gs) (key x) k) in
      y ∙ ap (λ (z : Option Placed). ω z x gs) s.0 ∙ ap₂ (λ (z : Placed) (zs : List Placed). ω up z zs) s.1 s.2
  walk_is ω a up₀ (x ∷ gs) up g lo (inr s) e h =
      let l = frame_low gs (length lo) g (site_frame (some x) gs up g lo s) in
      let ne : key x ≢ some a = λ q. (let r = h (length gs) x (inl (refl, refl)) q in omega (arith, l, r)) in
      omega (arith, key_none a (ω up₀ x gs) (key x) ne, walk_is ω a (some x) gs up g lo s e (λ i y f q. h i y (inr f) q))

  walk_some : (ω : Weight) (a : ℕ) (up₀ : Option Placed) (gs : List Placed) → 1 ≤ walk ω a up₀ gs →
      (up : Option Placed) × (g : Placed) × (lo : List Placed) × Site up₀ gs up g lo × (key g ≡ some a)
  unfolding walk at_key
  walk_some ω a up₀ [] l = absurd (omega (arith, l))
  walk_some ω a up₀ (g ∷ gs) l = go (key g) refl (walk_some ω a (some g) gs)
    where
      rest : (up : Option Placed) × (x : Placed) × (lo : List Placed) × Site (some g) gs up x lo × (key x ≡ some a) →
          (up : Option Placed) × (x : Placed) × (lo : List Placed) × Site up₀ (g ∷ gs) up x lo × (key x ≡ some a)
      rest (up, x, lo, s, e) = (up, x, lo, inr s, e)

      more : (k : Option ℕ) → key g ≡ k → at_key a k (ω up₀ g gs) ≡ 0 → 1 ≤ walk ω a (some g) gs
      more k e z = let y = ap (λ (q : Option ℕ). at_key a q (ω up₀ g gs)) e in omega (arith, l, y, z)

      go : (k : Option ℕ) → key g ≡ k →
          (1 ≤ walk ω a (some g) gs → (up : Option Placed) × (x : Placed) × (lo : List Placed) × Site (some g) gs up x lo × (key x ≡ some a)) →
          (up : Option Placed) × (x : Placed) × (lo : List Placed) × Site up₀ (g ∷ gs) up x lo × (key x ≡ some a)
      go none e ih = rest (ih (more none e refl))
      go (some b) e ih =
          elim (eqb_cases b a) [
            | inl q ↦ (up₀, g, gs, inl (refl, refl, refl), e ∙ ap some q.1)
            | inr q ↦ rest (ih (more (some b) e (other_is b a (ω up₀ g gs) q.1)))
          ]

  -- over all units
  module _ (U : List PlacedUnit) (none_asleep : key Placed.sleep ≡ none)
      (once : (a v i v' i' : ℕ) (g g' : Placed) → FrameAt (at U v).frames i g → FrameAt (at U v').frames i' g' → key g ≡ some a → key g' ≡ some a → (v ≡ v') × (i ≡ i')) where
    key_unit : (W : List PlacedUnit) (v i a : ℕ) (g : Placed) → FrameAt (at W v).frames i g → key g ≡ some a → v < length W
    key_unit [] v i a g (inl f) e = absurd (none-ne-some _ (sym none_asleep ∙ ap key f.1 ∙ e))
    key_unit [] v i a g (inr f) e = absurd f
    key_unit (x ∷ W) zero i a g f e = omega arith
    key_unit (x ∷ W) (suc v) i a g f e = omega (arith, key_unit W v i a g f e)

    unfoldable pub table : (ℕ → Weight) → ℕ → ℕ
    unfolding walk
    table ω a = upto (λ v. walk (ω v) a none (at U v).frames) (length U)

    -- the table at a frame's key
    pub table_is : (ω : ℕ → Weight) (a v : ℕ) (up : Option Placed) (g : Placed) (lo : List Placed) → Site none (at U v).frames up g lo → key g ≡ some a → table ω a ≡ ω v up g lo
    unfolding table
    table_is ω a v up g lo s e =
        let f = site_frame none (at U v).frames up g lo s in
        upto_only (λ w. walk (ω w) a none (at U w).frames) v (length U) (key_unit U v (length lo) a g f e)
        (λ w ne. walk_none (ω w) a none (at U w).frames (λ i x h q. ne (once a w i v (length lo) x g h f q e).0))
        ∙ walk_is (ω v) a none (at U v).frames up g lo s e (λ i x h q. (once a v i v (length lo) x g h f q e).1)

    pub table_some : (ω : ℕ → Weight) (a : ℕ) → 1 ≤ table ω a → (v : ℕ) × (up : Option Placed) × (g : Placed) × (lo : List Placed) × Site none (at U v).frames up g lo × (key g ≡ some a)
    unfolding table
    table_some ω a l =
        let (v, m) = upto_some (λ w. walk (ω w) a none (at U w).frames) (length U) l in
        let (up, g, lo, s, e) = walk_some (ω v) a none (at U v).frames m in (v, up, g, lo, s, e)

-- AN EXIT is on top, or the job of its part is on it
abbrev pub OnExit : List Placed → ℕ → ℕ → Position → ℕ → Type 0
OnExit gs w i q m =
    ((lo : List Placed) × Site none gs none (Placed.exit w i q m) lo)
    ⊎ ((up : Option Placed) × (o : ℕ) × (k : ℕ) × (c : ℕ) × (r : ℕ) × (lo : List Placed) × Site none gs up (Placed.job q o k c r) (Placed.exit w i q m ∷ lo))

pub on_exit : (B : Book) (gs : List Placed) → Stacked B gs → (w i : ℕ) (q : Position) (m : ℕ) → In (Placed.exit w i q m) gs → OnExit gs w i q m
on_exit B gs stacked w i q m h =
    let (x, f) = in_frame gs (Placed.exit w i q m) h in
    let (up, lo, s, e) = frame_site none gs x (Placed.exit w i q m) f in
    go up lo s
  where
    above : (g : Placed) (lo : List Placed) (up : Option Placed) → Site none gs up g (Placed.exit w i q m ∷ lo) → Stacked B (g ∷ Placed.exit w i q m ∷ lo) → OnExit gs w i q m
    above (Placed.job p o k c r) lo up s st =
        inr (up, o, k, c, r, lo, subst (λ (z : Position). Site none gs up (Placed.job z o k c r) (Placed.exit w i q m ∷ lo)) st.0 s)
    above (Placed.exit w' i' q' m') lo up s st = absurd st.0
    above Placed.sleep lo up s st = absurd (let z : ◌≡◌ {A = ℕ} 0 1 = cc in omega arith)
    above Placed.bingo lo up s st = absurd (let z : ◌≡◌ {A = ℕ} 0 1 = cc in omega arith)

    go : (up : Option Placed) (lo : List Placed) → Site none gs up (Placed.exit w i q m) lo → OnExit gs w i q m
    go none lo s = inl (lo, s)
    go (some g) lo s =
        elim (site_above none gs g (Placed.exit w i q m) lo s) [
          | inl e ↦ absurd (none-ne-some _ e.0)
          | inr r ↦ above g lo r.0 r.1 (stacked_site B none gs r.0 g (Placed.exit w i q m ∷ lo) r.1 stacked)
        ]

-- the job on a frame
pub under_at : (B : Book) (gs : List Placed) → Stacked B gs → (i : ℕ) (q : Position) (o k c r : ℕ) (g : Placed) → FrameAt gs (suc i) (Placed.job q o k c r) → FrameAt gs i g →
    (lo : List Placed) × Under B q (g ∷ lo)
under_at B gs stacked i q o k c r g f h =
    let (up, lo, s, e) = frame_site none gs (suc i) (Placed.job q o k c r) f in
    go up lo s e (stacked_site B none gs up (Placed.job q o k c r) lo s stacked).0
  where
    go : (up : Option Placed) (lo : List Placed) → Site none gs up (Placed.job q o k c r) lo → suc i ≡ length lo → Under B q lo → (lo : List Placed) × Under B q (g ∷ lo)
    go up [] s e u = absurd u
    go up (x ∷ lo) s e u =
        let n : length lo ≡ i = omega (arith, e) in
        let f₂ : FrameAt gs i x = subst (λ (z : ℕ). FrameAt gs z x) n (site_frame none gs (some (Placed.job q o k c r)) x lo (site_below none gs up (Placed.job q o k c r) x lo s)) in
        (lo, subst (λ (z : Placed). Under B q (z ∷ lo)) (frame_unique gs i x g f₂ h) u)
