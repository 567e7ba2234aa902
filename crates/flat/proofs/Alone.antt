-- With one unit there are no EXITs: a job stands on the job of the term around it, and so each job below another has the smaller offset. Assumes nothing.
use mathlib.Core.List.{List, [], ◌∷◌}
use mathlib.Core.Logic.{inl, inr, ◌≢◌}
use mathlib.Core.Path.{◌≡◌, refl, ap, subst}
use Prim.Native.Nat.{ℕ, zero, suc, ◌<◌}
use native.Mathlib.Omega.{arith}
use lib.ListN.{length}
use Rattle.paper.specs.Tree.{Position}
use Rattle.paper.specs.Book.{Term, Book}
use Rattle.paper.specs.Sound.{In}
use Rattle.flat.specs.Machine.{Frame}
use Rattle.flat.specs.Relation.{Valid, offset, Rooted, Placed, PlacedUnit, at, frame_of, stack_of, Child, JoinAt, GoodFrame, GoodFrames, Under, Stacked}
use Rattle.flat.proofs.Offsets.{offset_append}
use Rattle.flat.proofs.Relation.{Good}

-- a term stands before its arguments
child_behind : (p q : Position) (t : Term) → Valid p t → Child p q → offset p t < offset q t
unfolding offset
child_behind p q t v (i, e) = omega (arith, ap (λ (z : Position). offset z t) e, offset_append p i t v)

module _ (B : Book) where
  -- another unit would hold an EXIT's JOIN
  no_join : (U : List PlacedUnit) (w i j : ℕ) (p : Position) → length U ≡ 1 → w ≢ 0 → JoinAt B (at U w).frames i j p → ⊥
  no_join [] w i j p l n h = absurd (omega arith)
  no_join (x ∷ []) zero i j p l n h = n refl
  no_join (x ∷ []) (suc w) i j p l n (inl h) = h.1
  no_join (x ∷ []) (suc w) i j p l n (inr h) = h
  no_join (x ∷ y ∷ U) w i j p l n h = absurd (omega arith)

  module _ (t : Term) where
    pub rooted_of : (p : Position) (o k c m : ℕ) → GoodFrame B t (Placed.job p o k c m) → Rooted o p t
    rooted_of p o zero c m h = h.0
    rooted_of p o (suc k) c m h = h.0

    abbrev NoExits : List Placed → Type 0
    NoExits gs = (w i : ℕ) (p : Position) (j : ℕ) → In (Placed.exit w i p j) gs → ⊥

    around : (p q : Position) (o k c m : ℕ) (gs : List Placed) → Under B p (Placed.job q o k c m ∷ gs) → Child q p
    around p q o zero c m gs u = absurd u
    around p q o (suc k) c m gs u = (u.0, u.1)

    -- the jobs of a stack on which the job of the term at p stands are before it
    before : (p : Position) (gs : List Placed) → Under B p gs → Stacked B gs → GoodFrames B t gs → NoExits gs → (x j d : ℕ) →
        In (Frame.job x j d) (stack_of t gs) → x < offset p t
    unfolding frame_of
    before p [] u s g n x j d h = absurd u
    before p (Placed.job q o k c m ∷ gs) u s g n x j d (inl e) =
        let e₁ : x ≡ offset q t = cc in omega (arith, e₁, child_behind q p t (rooted_of q o k c m g.0).0 (around p q o k c m gs u))
    before p (Placed.job q o k c m ∷ gs) u s g n x j d (inr h) =
        omega (
          arith,
          before q gs s.0 s.1 g.1 (λ w i r z a. n w i r z (inr a)) x j d h,
          child_behind q p t (rooted_of q o k c m g.0).0 (around p q o k c m gs u),
        )
    before p (Placed.exit w i q m ∷ gs) u s g n x j d h = absurd (n w i q m (inl refl))
    before p (Placed.sleep ∷ gs) u s g n x j d h = absurd u
    before p (Placed.bingo ∷ gs) u s g n x j d (inl e) = absurd (let z : ◌≡◌ {A = ℕ} 0 1 = cc in omega arith)
    before p (Placed.bingo ∷ gs) u s g n x j d (inr h) = absurd (subst (λ (z : List Placed). In (Frame.job x j d) (stack_of t z)) s h)

    below_top : (gs : List Placed) → Stacked B gs → GoodFrames B t gs → NoExits gs → (a k c : ℕ) (fs : List Frame) → stack_of t gs ≡ Frame.job a k c ∷ fs →
        (x j d : ℕ) → In (Frame.job x j d) fs → x < a
    unfolding frame_of
    below_top [] s g n a k c fs e x j d h = absurd (let z = ap length e in omega (arith, z))
    below_top (Placed.job p o k' c' m ∷ gs) s g n a k c fs e x j d h =
        let e₁ : offset p t ≡ a = cc in
        let e₂ : fs ≡ stack_of t gs = cc in
        let l = before p gs s.0 s.1 g.1 (λ w i r z b. n w i r z (inr b)) x j d (subst (λ (z : List Frame). In (Frame.job x j d) z) e₂ h) in
        omega (arith, e₁, l)
    below_top (Placed.exit w i q m ∷ gs) s g n a k c fs e x j d h = absurd (n w i q m (inl refl))
    below_top (Placed.sleep ∷ gs) s g n a k c fs e x j d h = absurd (let z : ◌≡◌ {A = ℕ} 0 1 = cc in omega arith)
    below_top (Placed.bingo ∷ gs) s g n a k c fs e x j d h = absurd (let z : ◌≡◌ {A = ℕ} 0 1 = cc in omega arith)

  pub alone_before : {t : Term} {U : List PlacedUnit} → Good B t U → length U ≡ 1 → (a k c : ℕ) (fs : List Frame) →
      stack_of t (at U 0).frames ≡ Frame.job a k c ∷ fs → (x j d : ℕ) → In (Frame.job x j d) fs → x < a
  alone_before {t} {U} good l =
      below_top t (at U 0).frames (good.stacked 0) (good.jobs 0) (λ w i p j h. (let r = good.exits 0 w i p j h in no_join U w i j p l r.0 r.1))
