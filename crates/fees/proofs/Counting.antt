-- Counting below a number: of n that are put in order, exactly k have fewer than k before them. Assumes nothing.
use mathlib.Core.Bool.{Bool, true, false, true≢false}
use mathlib.Core.Logic.{◌⊎◌, inl, inr, ◌≢◌}
use mathlib.Core.Path.{◌≡◌, refl, sym, ap, ◌∙◌}
use Prim.Native.Nat.{ℕ, zero, suc, ◌+◌, ◌-◌, ◌≤◌, ◌<◌}
use native.Mathlib.Omega.{arith}
use lib.Dec.{eqb, ltb}
use Rattle.paper.specs.Result.{if}
use Rattle.paper.proofs.Tests.{either, ltb_cases, eqb_cases, ltb_true, ltb_false, ltb_less, eqb_true, eqb_false}
use Rattle.fees.specs.Fees.{how_many, comes_before}

abbrev pub bit : Bool → ℕ
bit b = if b 1 0

-- the same test below n
pub same_count : (p q : ℕ → Bool) (n : ℕ) → ((i : ℕ) → i < n → p i ≡ q i) → how_many p n ≡ how_many q n
unfolding how_many
same_count p q zero h = refl
same_count p q (suc n) h =
    let e : how_many p n ≡ how_many q n = same_count p q n (λ i l. h i (omega arith)) in
    let f : p n ≡ q n = h n (omega arith) in
    cc

pub at_most : (p : ℕ → Bool) (n : ℕ) → how_many p n ≤ n
unfolding how_many
at_most p zero = omega arith
at_most p (suc n) = go (p n) (at_most p n)
  where
    go : (b : Bool) → how_many p n ≤ n → how_many p n + bit b ≤ suc n
    go true h = omega arith
    go false h = omega arith

-- a test that passes where another does
pub fewer : (p q : ℕ → Bool) (n : ℕ) → ((i : ℕ) → p i ≡ true → q i ≡ true) → how_many p n ≤ how_many q n
unfolding how_many
fewer p q zero h = omega arith
fewer p q (suc n) h = go (p n) (q n) (h n) (fewer p q n h)
  where
    go : (b c : Bool) → (b ≡ true → c ≡ true) → how_many p n ≤ how_many q n → how_many p n + bit b ≤ how_many q n + bit c
    go true true f l = omega arith
    go true false f l = absurd (true≢false (sym (f refl)))
    go false true f l = omega arith
    go false false f l = omega arith

-- and somewhere alone
pub truly_fewer : (p q : ℕ → Bool) (n i : ℕ) → ((j : ℕ) → p j ≡ true → q j ≡ true) → i < n → p i ≡ false → q i ≡ true → how_many p n < how_many q n
unfolding how_many
truly_fewer p q zero i h l u v = absurd (omega arith)
truly_fewer p q (suc n) i h l u v = go (eqb_cases i n) (λ m. truly_fewer p q n i h m u v)
  where
    step : (b c : Bool) → (b ≡ true → c ≡ true) → how_many p n < how_many q n → how_many p n + bit b < how_many q n + bit c
    step true true f m = omega arith
    step true false f m = absurd (true≢false (sym (f refl)))
    step false true f m = omega arith
    step false false f m = omega arith

    go : ((eqb i n ≡ true) × (i ≡ n)) ⊎ ((eqb i n ≡ false) × (i ≢ n)) → (i < n → how_many p n < how_many q n) → how_many p n + bit (p n) < how_many q n + bit (q n)
    go (inl e) r =
        let f : p n ≡ false = ap p (sym e.1) ∙ u in
        let g : q n ≡ true = ap q (sym e.1) ∙ v in
        rw (f, g) (omega (arith, fewer p q n h))
    go (inr e) r = step (p n) (q n) (h n) (r (omega (arith, e.1)))

-- RANKS

pub record Order (before : ℕ → ℕ → Bool) : Type 0 where
  pub never_self : (i : ℕ) → before i i ≡ false
  pub through : (i j k : ℕ) → before i j ≡ true → before j k ≡ true → before i k ≡ true
  pub one_of : (i j : ℕ) → i ≢ j → (before i j ≡ true) ⊎ (before j i ≡ true)

module _ (before : ℕ → ℕ → Bool) (o : Order before) where
  -- how many below n come before i
  abbrev rank : ℕ → ℕ → ℕ
  rank n i = how_many (λ j. before j i) n

  not_both : (i j : ℕ) → before i j ≡ true → before j i ≡ false
  not_both i j h = go (either (before j i))
    where
      go : (before j i ≡ true) ⊎ (before j i ≡ false) → before j i ≡ false
      go (inl e) = absurd (true≢false (sym (o.through i j i h e) ∙ o.never_self i))
      go (inr e) = e

  -- all that come before n come before whoever n comes before
  later : (n i : ℕ) → before n i ≡ true → rank n n ≤ rank n i
  later n i h = fewer _ _ n (λ j e. o.through j n i e h)

  earlier : (n i : ℕ) → i < n → before i n ≡ true → rank n i < rank n n
  earlier n i l h = truly_fewer _ _ n i (λ j e. o.through j i n e h) l (o.never_self i) h

  -- one more, n: who had fewer than k before, and now has fewer than k'
  moved : (n k k' i : ℕ) → i < n → (rank n n < k' → k' ≡ suc k) → (k' ≤ rank n n → k' ≡ k) →
      ltb (rank n i + bit (before n i)) k' ≡ ltb (rank n i) k
  moved n k k' i l f g = go (o.one_of n i (omega arith)) (ltb_cases (rank n n) k')
    where
      both : (a b : ℕ) → ((a < k') → b < k) → (k' ≤ a → k ≤ b) → ltb a k' ≡ ltb b k
      both a b s t =
          elim (ltb_cases a k') [
            | inl p ↦ p.0 ∙ sym (ltb_true b k (s p.1))
            | inr p ↦ p.0 ∙ sym (ltb_false b k (t p.1))
          ]

      go : (before n i ≡ true) ⊎ (before i n ≡ true) → ((ltb (rank n n) k' ≡ true) × (rank n n < k')) ⊎ ((ltb (rank n n) k' ≡ false) × (k' ≤ rank n n)) →
          ltb (rank n i + bit (before n i)) k' ≡ ltb (rank n i) k
      go (inl h) (inl p) = rw h (both (rank n i + 1) (rank n i) (λ a. omega (arith, f p.1)) (λ a. omega (arith, f p.1)))
      go (inl h) (inr p) = rw h (both (rank n i + 1) (rank n i) (λ a. omega (arith, g p.1, later n i h)) (λ a. omega (arith, g p.1, later n i h)))
      go (inr h) (inl p) =
          rw (not_both i n h) (both (rank n i + 0) (rank n i) (λ a. omega (arith, f p.1, earlier n i l h)) (λ a. omega (arith, f p.1, earlier n i l h)))
      go (inr h) (inr p) =
          rw (not_both i n h) (both (rank n i + 0) (rank n i) (λ a. omega (arith, g p.1)) (λ a. omega (arith, g p.1)))

  -- exactly k of n have fewer than k before them
  pub first_ones : (n k : ℕ) → k ≤ n → how_many (λ i. ltb (rank n i) k) n ≡ k
  unfolding how_many
  first_ones zero k h = omega arith
  first_ones (suc n) k h = go (ltb_cases (rank n n) k) (first_ones n)
    where
      go : ((ltb (rank n n) k ≡ true) × (rank n n < k)) ⊎ ((ltb (rank n n) k ≡ false) × (k ≤ rank n n)) →
          ((j : ℕ) → j ≤ n → how_many (λ i. ltb (rank n i) j) n ≡ j) →
          how_many (λ i. ltb (rank (suc n) i) k) n + bit (ltb (rank (suc n) n) k) ≡ k
      go (inl p) r =
          let e : how_many (λ i. ltb (rank (suc n) i) k) n ≡ how_many (λ i. ltb (rank n i) (k - 1)) n =
          same_count _ _ n (λ i l. moved n (k - 1) k i l (λ a. omega arith) (λ a. omega (arith, p.1))) in
          let u : rank n n + bit (before n n) ≡ rank n n = rw (o.never_self n) (omega arith) in
          let t : ltb (rank (suc n) n) k ≡ true = ap (λ (x : ℕ). ltb x k) u ∙ p.0 in
          rw t (omega (arith, e, r (k - 1) (omega arith), p.1))
      go (inr p) r =
          let e : how_many (λ i. ltb (rank (suc n) i) k) n ≡ how_many (λ i. ltb (rank n i) k) n =
          same_count _ _ n (λ i l. moved n k k i l (λ a. absurd (omega (arith, p.1))) (λ a. refl)) in
          let u : rank n n + bit (before n n) ≡ rank n n = rw (o.never_self n) (omega arith) in
          let t : ltb (rank (suc n) n) k ≡ false = ap (λ (x : ℕ). ltb x k) u ∙ p.0 in
          rw t (omega (arith, e, r k (omega (arith, p.1, at_most (λ j. before j n) n))))

-- THE ORDER OF OWNERS

module _ (rests : ℕ → ℕ) where
  abbrev pub Before : ℕ → ℕ → Type 0
  Before j i = (rests i < rests j) ⊎ ((rests j ≡ rests i) × (j < i))

  pub comes : (j i : ℕ) → Before j i → comes_before rests j i ≡ true
  unfolding comes_before
  comes j i (inl h) = rw (eqb_false (rests j) (rests i) (omega arith)) (ltb_true (rests i) (rests j) h)
  comes j i (inr h) = rw (eqb_true (rests j) (rests i) h.0) (ltb_true j i h.1)

  pub came : (j i : ℕ) → comes_before rests j i ≡ true → Before j i
  unfolding comes_before
  came j i h = go (eqb_cases (rests j) (rests i))
    where
      go : ((eqb (rests j) (rests i) ≡ true) × (rests j ≡ rests i)) ⊎ ((eqb (rests j) (rests i) ≡ false) × (rests j ≢ rests i)) → Before j i
      go (inl e) = inr (e.1, ltb_less j i (rw e.0 at h))
      go (inr e) = inl (ltb_less (rests i) (rests j) (rw e.0 at h))

  join : (i j k : ℕ) → Before i j → Before j k → Before i k
  join i j k (inl h) (inl g) = inl (omega arith)
  join i j k (inl h) (inr g) = inl (omega (arith, g.0))
  join i j k (inr h) (inl g) = inl (omega (arith, h.0))
  join i j k (inr h) (inr g) = inr (omega (arith, h.0, g.0), omega (arith, h.1, g.1))

  pub owners_order : Order (comes_before rests)
  unfolding comes_before
  owners_order = record {
    never_self = λ i. self i;
    through = λ i j k h g. comes i k (join i j k (came i j h) (came j k g));
    one_of = λ i j d. one i j d (ltb_cases (rests i) (rests j)) (ltb_cases (rests j) (rests i)) (ltb_cases i j);
  }
    where
      self : (i : ℕ) → comes_before rests i i ≡ false
      self i = rw (eqb_true (rests i) (rests i) refl) (ltb_false i i (omega arith))

      one : (i j : ℕ) → i ≢ j → ((ltb (rests i) (rests j) ≡ true) × (rests i < rests j)) ⊎ ((ltb (rests i) (rests j) ≡ false) × (rests j ≤ rests i)) →
          ((ltb (rests j) (rests i) ≡ true) × (rests j < rests i)) ⊎ ((ltb (rests j) (rests i) ≡ false) × (rests i ≤ rests j)) →
          ((ltb i j ≡ true) × (i < j)) ⊎ ((ltb i j ≡ false) × (j ≤ i)) → (comes_before rests i j ≡ true) ⊎ (comes_before rests j i ≡ true)
      one i j d (inl p) q r = inr (comes j i (inl p.1))
      one i j d (inr p) (inl q) r = inl (comes i j (inl q.1))
      one i j d (inr p) (inr q) (inl r) = inl (comes i j (inr (omega (arith, p.1, q.1), r.1)))
      one i j d (inr p) (inr q) (inr r) = inr (comes j i (inr (omega (arith, p.1, q.1), omega (arith, r.1, d))))
