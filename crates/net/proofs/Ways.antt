-- Ways: whatever fuel is enough finds the same where chains go down, and what is found hangs on the heads of buckets and on the columns 5 to 8 of the rules
-- in them alone. Assumes nothing.
use mathlib.Core.List.{List}
use mathlib.Core.Bool.{Bool, true, false}
use mathlib.Core.Path.{◌≡◌, refl, sym, ap, ◌∙◌, subst}
use Prim.Native.Nat.{ℕ, zero, suc, ◌+◌, ◌-◌, ◌*◌, ◌≤◌, ◌<◌}
use native.Mathlib.Omega.{arith}
use lib.Dec.{eqb}
use lib.ListN.{get_or}
use borrow.Author.Tests.{eq-eqb, ne_eqb}
use Rattle.net.specs.Promises.{Kept}
use Rattle.net.specs.Layout.{cell, head_in, chain_in, host_in, depth_in, key_in, bucket, leaves, seek, way_in, Chained, Descends}

-- ONE RULE

-- another host, another depth, or the key decides
module _ (net : List ℕ) (j i d k h : ℕ) (host : h ≡ host_in net j) where
  pub other_host : (h ≡ i → ⊥) → false ≡ leaves net j i d k
  unfolding leaves
  other_host n = rw (ne_eqb (host_in net j) i (λ q. n (host ∙ q))) refl

  module _ (same : h ≡ i) (x : ℕ) (depth : x ≡ depth_in net j) where
    pub other_depth : (x ≡ d → ⊥) → false ≡ leaves net j i d k
    unfolding leaves
    other_depth n = rw (eq-eqb (host_in net j) i (sym host ∙ same), ne_eqb (depth_in net j) d (λ q. n (depth ∙ q))) refl

    pub by_key : x ≡ d → (y z : ℕ) → y ≡ key_in net j → z ≡ k → eqb y z ≡ leaves net j i d k
    unfolding leaves
    by_key e y z f g =
        rw (eq-eqb (host_in net j) i (sym host ∙ same), eq-eqb (depth_in net j) d (sym depth ∙ e))
        (ap (λ (a : ℕ). eqb a z) f ∙ ap (eqb (key_in net j)) g)

-- ONE STEP

abbrev pub pick : Bool → ℕ → ℕ → ℕ
pick b x y = elim b [ true ↦ x | false ↦ y ]

pub seek_step : (net : List ℕ) (n j i d k : ℕ) →
    seek net (suc n) (suc j) i d k ≡ pick (leaves net j i d k) (suc j) (seek net n (chain_in net j) i d k)
unfolding seek
seek_step net n j i d k = refl

pub seek_none : (net : List ℕ) (n i d k : ℕ) → seek net n 0 i d k ≡ 0
unfolding seek
seek_none net zero i d k = refl
seek_none net (suc n) i d k = refl

pub way_is : (net : List ℕ) (i d k : ℕ) → way_in net i d k ≡ seek net 256 (head_in net (bucket i d k)) i d k
unfolding way_in
way_is net i d k = refl

pub bucket_below : (i d k : ℕ) → bucket i d k < 256
bucket_below i d k = omega arith

-- FUEL

module _ (net : List ℕ) (m : ℕ) (down : (j : ℕ) → j < m → chain_in net j ≤ j) (i d k : ℕ) where
  pub enough : (n n' c : ℕ) → c ≤ m → c ≤ n → c ≤ n' → seek net n c i d k ≡ seek net n' c i d k
  enough zero n' zero b l l' = seek_none net 0 i d k ∙ sym (seek_none net n' i d k)
  enough zero n' (suc j) b l l' = absurd (omega arith)
  enough (suc n) zero zero b l l' = seek_none net (suc n) i d k ∙ sym (seek_none net 0 i d k)
  enough (suc n) zero (suc j) b l l' = absurd (omega arith)
  enough (suc n) (suc n') zero b l l' = seek_none net (suc n) i d k ∙ sym (seek_none net (suc n') i d k)
  enough (suc n) (suc n') (suc j) b l l' =
      let e : chain_in net j ≤ j = down j (omega arith) in
      seek_step net n j i d k
      ∙ ap (pick (leaves net j i d k) (suc j)) (enough n n' (chain_in net j) (omega arith) (omega arith) (omega arith))
      ∙ sym (seek_step net n' j i d k)

-- ALONG A CHAIN

-- from number c on, where the fuel is that number
module _ (net : List ℕ) (i d k : ℕ) (down : Chained net) where
  pub from_head : (c : ℕ) → c < 256 → c ≡ head_in net (bucket i d k) → way_in net i d k ≡ seek net c c i d k
  from_head c l e =
      way_is net i d k ∙ ap (λ (x : ℕ). seek net 256 x i d k) (sym e)
      ∙ enough net 256 down i d k 256 c c (omega arith) (omega arith) (omega arith)

  number : (c : ℕ) → 0 < c → (j : ℕ) → j ≡ c - 1 → c ≡ suc j
  number c l j e = omega arith

  step : (w c j : ℕ) → 0 < c → j ≡ c - 1 → w ≡ seek net c c i d k →
      w ≡ pick (leaves net j i d k) (suc j) (seek net j (chain_in net j) i d k)
  step w c j l e h = h ∙ ap (λ (x : ℕ). seek net x x i d k) (number c l j e) ∙ seek_step net j j i d k

  pub found : (w c j : ℕ) (t : Bool) → 0 < c → j ≡ c - 1 → t ≡ leaves net j i d k → t ≡ true → w ≡ seek net c c i d k → c ≡ w
  found w c j t l e r s h =
      number c l j e ∙ sym (step w c j l e h ∙ ap (λ (b : Bool). pick b (suc j) (seek net j (chain_in net j) i d k)) (sym r ∙ s))

  pub further : (w c j c' : ℕ) (t : Bool) → 0 < c → c < 256 → j ≡ c - 1 → t ≡ leaves net j i d k → t ≡ false → c' ≡ chain_in net j →
      w ≡ seek net c c i d k → w ≡ seek net c' c' i d k
  further w c j c' t l b e r s f h =
      let o : c' ≤ j = subst (λ (x : ℕ). x ≤ j) (sym f) (down j (omega arith)) in
      step w c j l e h ∙ ap (λ (b : Bool). pick b (suc j) (seek net j (chain_in net j) i d k)) (sym r ∙ s)
      ∙ ap (λ (x : ℕ). seek net j x i d k) (sym f) ∙ enough net 256 down i d k j c' c' (omega arith) o (omega arith)

-- THE SAME WAYS

-- two areas that are alike at the rules of some numbers, R, which chains do not leave
module _ (net net' : List ℕ) (R : ℕ → Type 0) (kept : (c j : ℕ) → 5 ≤ c → c < 9 → R (suc j) → cell net' c j ≡ cell net c j)
    (down : (j : ℕ) → R (suc j) → R (chain_in net j)) (i d k : ℕ) where
  leaves_same : (j : ℕ) → R (suc j) → leaves net' j i d k ≡ leaves net j i d k
  unfolding leaves
  leaves_same j r =
      rw (kept 6 j (omega arith) (omega arith) r, kept 7 j (omega arith) (omega arith) r, kept 8 j (omega arith) (omega arith) r) refl

  pub seek_same : (n c : ℕ) → R c → seek net' n c i d k ≡ seek net n c i d k
  unfolding seek
  seek_same zero c r = refl
  seek_same (suc n) zero r = refl
  seek_same (suc n) (suc j) r =
      seek_step net' n j i d k
      ∙ ap (λ (t : Bool). pick t (suc j) (seek net' n (chain_in net' j) i d k)) (leaves_same j r)
      ∙ ap (pick (leaves net j i d k) (suc j))
      (ap (λ (c : ℕ). seek net' n c i d k) (kept 5 j (omega arith) (omega arith) r) ∙ seek_same n (chain_in net j) (down j r))
      ∙ sym (seek_step net n j i d k)

  pub way_same : head_in net' (bucket i d k) ≡ head_in net (bucket i d k) → R (head_in net (bucket i d k)) → way_in net' i d k ≡ way_in net i d k
  way_same e r =
      way_is net' i d k ∙ ap (λ (c : ℕ). seek net' 256 c i d k) e ∙ seek_same 256 (head_in net (bucket i d k)) r ∙ sym (way_is net i d k)

-- ways do not read columns 0 to 3
pub front_ways : (net net' : List ℕ) → ((x : ℕ) → 1024 ≤ x → get_or net' x 0 ≡ get_or net x 0) → (i d k : ℕ) → way_in net' i d k ≡ way_in net i d k
front_ways net net' kept i d k =
    way_same net net' (λ c. Unit {0}) (λ c j l l' r. kept (256 * c + j) (omega arith)) (λ j r. tt) i d k
    (kept (1024 + bucket i d k) (omega arith)) tt

-- nor columns 9 to 14
pub kept_ways : (net net' : List ℕ) (m : ℕ) → m ≤ 256 → Descends net m → Kept 4 9 net net' → (i d k : ℕ) → way_in net' i d k ≡ way_in net i d k
kept_ways net net' m few down kept i d k =
    way_same net net' (λ c. c ≤ m)
    (λ c j l l' r. kept c j (omega arith) l' (omega arith))
    (λ j r. let e : chain_in net j ≤ j = down.chains j (omega arith) in omega arith) i d k
    (kept 4 (bucket i d k) (omega arith) (omega arith) (bucket_below i d k)) (down.heads (bucket i d k) (bucket_below i d k))
