-- A net grows by one rule at a time: as the first of its root, behind a rule with its path, or by a way out of the path that it has gone along. Assumes
-- nothing.
use mathlib.Core.Bool.{Bool, true, false, true≢false}
use mathlib.Core.List.{List, [], ◌∷◌, ◌++◌}
use mathlib.Core.Logic.{◌⊎◌}
use mathlib.Core.Path.{◌≡◌, refl, sym, ap, ◌∙◌, subst}
use Prim.Native.Nat.{ℕ, suc, ◌≤◌, ◌<◌}
use native.Mathlib.Omega.{arith}
use native.Mathlib.Decide.{ℕ_discrete}
use lib.Dec.{ltb}
use lib.ListN.{length, get_or, take}
use lib.Seq.{take-suc}
use borrow.Author.Tests.{ltb-true, ltb-false}
use Rattle.net.specs.Layout.{published, cell, root_in, last_in, choice_in, same_in, head_in, bucket, seek, way_in}
use Rattle.net.specs.Net.{part, Same, Leads, Way, Net}
use Rattle.net.specs.Promises.{larger, Empty, CellPut, SidesPut, WayPut}
use Rattle.net.proofs.Leading.{earlier, same_inside, same_path}

-- WHAT STAYS

-- what one net says, the other says too
pub record Extends (net net' : List ℕ) : Type 0 where
  pub roots : (o f : ℕ) → o < 256 → root_in net o ≡ suc f → root_in net' o ≡ suc f
  pub ways : (i d k c : ℕ) → way_in net i d k ≡ suc c → way_in net' i d k ≡ suc c
  pub sames : (i s : ℕ) → i < 256 → same_in net i ≡ suc s → same_in net' i ≡ suc s

module _ {net net' : List ℕ} {P : ℕ → List ℕ} {m : ℕ} (n : Net net P m) (few : m ≤ 255) (x : Extends net net') where
  pub same_still : {i j : ℕ} → i < m → Same net i j → Same net' i j
  same_still l (Same.self i) = Same.self i
  same_still l (Same.next i s j e r) = Same.next i s j (x.sames i s (omega arith) e) (same_still (n.sames i s (omega arith) e).1 r)

  pub leads_still : {i d j : ℕ} → i < m → Leads net i d j → Leads net' i d j
  leads_still l (Leads.on i d j s) = Leads.on i d j (same_still l s)
  leads_still l (Leads.off i d e k c j h w r) = Leads.off i d e k c j h (x.ways i e k c w) (leads_still (n.ways i e k c w).below r)

  -- with roots below 256 it leads to each rule as before
  rooted_still : (j : ℕ) → j < m → get_or (P j) 0 0 < 256 → (f : ℕ) × (root_in net' (get_or (P j) 0 0) ≡ suc f) × Leads net' f 1 j
  rooted_still j l s =
      let (f, e, r) = n.rooted j l in
      (f, x.roots (get_or (P j) 0 0) f s e, leads_still (n.roots (get_or (P j) 0 0) f s e).0 r)

way_still : {net net' : List ℕ} {P : ℕ → List ℕ} {m m' i d k c : ℕ} → Way net P m i d k c → m ≤ m' → last_in net i ≤ last_in net' i →
    choice_in net i ≤ choice_in net' i →
    Way net' P m' i d k c
way_still {net = net} {net' = net'} {P = P} {i = i} {d = d} {k = k} w l a b =
    let below = w.below in
    let last = w.last in
    record {
      before = w.before;
      below = omega arith;
      inside = w.inside;
      within = w.within;
      agree = w.agree;
      keyed = w.keyed;
      apart = w.apart;
      last = omega arith;
      choice = λ h. let g = w.choice h in omega arith;
    }

larger_left : (a b : ℕ) → a ≤ larger a b
unfolding larger
larger_left a b = go (ltb a b) refl
  where
    go : (t : Bool) → ltb a b ≡ t → a ≤ elim t as (λ (_ : Bool). ℕ) [ true ↦ b | false ↦ a ]
    go true h = let l = ltb-true a b h in omega arith
    go false h = omega arith

larger_right : (a b : ℕ) → b ≤ larger a b
unfolding larger
larger_right a b = go (ltb a b) refl
  where
    go : (t : Bool) → ltb a b ≡ t → b ≤ elim t as (λ (_ : Bool). ℕ) [ true ↦ b | false ↦ a ]
    go true h = omega arith
    go false h = ltb-false a b h

-- THE EMPTY NET, AND WHAT CHANGES NOTHING

no_way : (net : List ℕ) (i d k : ℕ) → ((b : ℕ) → b < 256 → head_in net b ≡ 0) → way_in net i d k ≡ 0
unfolding way_in seek
no_way net i d k h = let b : bucket i d k < 256 = omega arith in rw (h (bucket i d k) b)

-- nothing is in an empty area
pub empty_net : {net net' : List ℕ} (P : ℕ → List ℕ) → Empty net net' → published ≤ length net → Net net' P 0
empty_net {net = net} {net' = net'} P h l =
    let z = h.zero in
    let t = h.long in
    record {
      rooted = λ j k. absurd (omega arith);
      roots = λ o f k e. (let q = z 0 o (omega arith) k in absurd (omega arith));
      ways = λ i d k c e. (let q = no_way net' i d k (λ b s. z 4 b (omega arith) s) in absurd (omega arith));
      sames = λ i s k e. (let q = z 3 i (omega arith) k in absurd (omega arith));
      descends = record { heads = λ b s. (let q = z 4 b (omega arith) s in omega arith); chains = λ c s. (let q = z 5 c (omega arith) s in omega arith) };
      long = omega arith;
    }

-- the sides that an area holds have no part in the net
pub sides_net : {net net' : List ℕ} {P : ℕ → List ℕ} {m i left right : ℕ} → Net net P m → m ≤ 255 → ((j : ℕ) → j < m → get_or (P j) 0 0 < 256) →
    SidesPut net i left right net' → Net net' P m
sides_net {net = net} {net' = net'} {P = P} {m = m} n few small h =
    let same = h.kept in
    let way : (i d k : ℕ) → way_in net' i d k ≡ way_in net i d k = h.ways m (omega arith) n.descends in
    let e : Extends net net' =
    record {
      roots = λ o f l q. same 0 o (omega arith) (omega arith) l ∙ q;
      ways = λ i d k c q. way i d k ∙ q;
      sames = λ i s l q. same 3 i (omega arith) (omega arith) l ∙ q;
    }
    in
    record {
      rooted = λ j l. rooted_still n few e j l (small j l);
      roots = λ o f l q. n.roots o f l (sym (same 0 o (omega arith) (omega arith) l) ∙ q);
      ways = λ i d k c q.
          let w = n.ways i d k c (sym (way i d k) ∙ q) in
          let a = w.before in
          let b = w.below in
          let s = same 1 i (omega arith) (omega arith) (omega arith) in
          let t = same 2 i (omega arith) (omega arith) (omega arith) in
          way_still w (omega arith) (omega arith) (omega arith);
      sames = λ i s l q. n.sames i s l (sym (same 3 i (omega arith) (omega arith) l) ∙ q);
      descends = record {
        heads = λ b l. (let s = same 4 b (omega arith) (omega arith) l in let t = n.descends.heads b l in omega arith);
        chains = λ c l. (let s = same 5 c (omega arith) (omega arith) l in let t = n.descends.chains c l in omega arith);
      };
      long = (let s = h.long in let t = n.long in omega arith);
    }

-- THE WALK

-- rule m has gone along the net as far as depth d of rule i's path: where a net that grows from this one leads to it from there, it does from the root
pub record Gone (net : List ℕ) (P : ℕ → List ℕ) (m i d : ℕ) : Type 0 where
  pub first : ℕ
  pub root : root_in net (get_or (P m) 0 0) ≡ suc first
  pub below : i < m
  pub agree : take d (P m) ≡ take d (P i)
  pub leads : (net' : List ℕ) → Extends net net' → Leads net' i d m → Leads net' first 1 m

-- one rule more behind the last
pub same_snoc : {net : List ℕ} {i s m : ℕ} → Same net i s → same_in net s ≡ suc m → Same net i m
same_snoc {m = m} (Same.self i) e = Same.next i m m e (Same.self m)
same_snoc {m = m} (Same.next i t s q r) e = Same.next i t m q (same_snoc r e)

-- one key further along two paths
pub agree_more : (xs ys : List ℕ) (d : ℕ) → d < length xs → d < length ys → take d xs ≡ take d ys → get_or xs d 0 ≡ get_or ys d 0 → take (suc d) xs ≡ take (suc d) ys
agree_more xs ys d a b h e = take-suc xs d 0 a ∙ ap (λ (l : List ℕ). l ++ (get_or xs d 0 ∷ [])) h ∙ ap (λ (k : ℕ). take d ys ++ (k ∷ [])) e ∙ sym (take-suc ys d 0 b)

agree_first : (xs ys : List ℕ) → 0 < length xs → 0 < length ys → get_or xs 0 0 ≡ get_or ys 0 0 → take 1 xs ≡ take 1 ys
agree_first xs ys a b e = agree_more xs ys 0 a b refl e

module _ {net : List ℕ} {P : ℕ → List ℕ} {m : ℕ} (n : Net net P m) where
  -- from the first rule of the root
  pub gone_first : (f : ℕ) → get_or (P m) 0 0 < 256 → root_in net (get_or (P m) 0 0) ≡ suc f → 0 < length (P m) → 0 < length (P f) → Gone net P m f 1
  gone_first f s e a b =
      let (l, h) = n.roots (get_or (P m) 0 0) f s e in
      record { first = f; root = e; below = l; agree = agree_first (P m) (P f) a b (sym h); leads = λ net' x r. r }

  -- along a path with the same key
  pub gone_along : {i d : ℕ} → Gone net P m i d → d < length (P m) → d < length (P i) → get_or (P m) d 0 ≡ get_or (P i) d 0 → Gone net P m i (suc d)
  gone_along {i = i} {d = d} g a b e =
      record {
        first = g.first;
        root = g.root;
        below = g.below;
        agree = agree_more (P m) (P i) d a b g.agree e;
        leads = λ net' x r. g.leads net' x (earlier d (omega arith) r);
      }

  -- by a way out of it that bears the key
  pub gone_over : {i d : ℕ} (k c : ℕ) → Gone net P m i d → d < length (P m) → k ≡ get_or (P m) d 0 → way_in net i d k ≡ suc c → Gone net P m c (suc d)
  gone_over {i = i} {d = d} k c g a e w =
      let v = n.ways i d k c w in
      record {
        first = g.first;
        root = g.root;
        below = v.below;
        agree = agree_more (P m) (P c) d a v.inside (g.agree ∙ sym v.agree) (sym e ∙ v.keyed);
        leads = λ net' x r. g.leads net' x (Leads.off i d d k c m (omega arith) (x.ways i d k c w) r);
      }

  -- ONE RULE MORE

  module _ (few : m < 255) (small : (j : ℕ) → j ≤ m → get_or (P j) 0 0 < 256) where
    -- how the first m rules and the new one are led to
    rooted_more : (net' : List ℕ) → Extends net net' → (f : ℕ) → root_in net' (get_or (P m) 0 0) ≡ suc f → Leads net' f 1 m → (j : ℕ) → j < suc m →
        (f : ℕ) × (root_in net' (get_or (P j) 0 0) ≡ suc f) × Leads net' f 1 j
    rooted_more net' x f e r j l = go (ℕ_discrete j m)
      where
        go : Dec (j ≡ m) → (f : ℕ) × (root_in net' (get_or (P j) 0 0) ≡ suc f) × Leads net' f 1 j
        go (yes q) = subst (λ (y : ℕ). (f : ℕ) × (root_in net' (get_or (P y) 0 0) ≡ suc f) × Leads net' f 1 y) (sym q) (f, e, r)
        go (no q) = rooted_still n (omega arith) x j (omega arith) (small j (omega arith))

    -- the first of its root
    pub grow_root : {net' : List ℕ} → root_in net (get_or (P m) 0 0) ≡ 0 → CellPut net 0 (get_or (P m) 0 0) (suc m) net' → Net net' P (suc m)
    grow_root {net' = net'} none h =
        let o = get_or (P m) 0 0 in
        let s = small m (omega arith) in
        let other : (c i : ℕ) → c < 15 → i < 256 → 0 < c → cell net' c i ≡ cell net c i = λ c i a b z. h.others c i a b (λ q. let p = q.0 in absurd (omega arith)) in
        let other_root : (o' : ℕ) → o' < 256 → (o' ≡ o → ⊥) → root_in net' o' ≡ root_in net o' = λ o' b z. h.others 0 o' (omega arith) b (λ q. z q.1) in
        let way : (i d k : ℕ) → way_in net' i d k ≡ way_in net i d k = h.ways (omega arith) in
        let e : Extends net net' =
        record {
          roots = λ o' f l q. other_root o' l (λ p. let t = ap (root_in net) p in absurd (omega arith)) ∙ q;
          ways = λ i d k c q. way i d k ∙ q;
          sames = λ i s l q. other 3 i (omega arith) l (omega arith) ∙ q;
        }
        in
        record {
          rooted = rooted_more net' e m h.here (Leads.on m 1 m (Same.self m));
          roots = λ o' f l q. root_of o' f l q (ℕ_discrete o' o);
          ways = λ i d k c q.
              let w = n.ways i d k c (sym (way i d k) ∙ q) in
              let a = w.before in
              let b = w.below in
              let s = other 1 i (omega arith) (omega arith) (omega arith) in
              let t = other 2 i (omega arith) (omega arith) (omega arith) in
              way_still w (omega arith) (omega arith) (omega arith);
          sames = λ i s l q. (let (a, b, p) = n.sames i s l (sym (other 3 i (omega arith) l (omega arith)) ∙ q) in (a, omega arith, p));
          descends = record {
            heads = λ b l. (let s = other 4 b (omega arith) l (omega arith) in let t = n.descends.heads b l in omega arith);
            chains = λ c l. (let s = other 5 c (omega arith) l (omega arith) in let t = n.descends.chains c l in omega arith);
          };
          long = (let s = h.long in let t = n.long in omega arith);
        }
      where
        root_of : (o' f : ℕ) → o' < 256 → root_in net' o' ≡ suc f → Dec (o' ≡ get_or (P m) 0 0) → (f < suc m) × (get_or (P f) 0 0 ≡ o')
        root_of o' f l q (yes p) =
            let t : f ≡ m = (let z = ap (root_in net') p in let y = h.here in omega arith) in
            (omega arith, ap (λ (x : ℕ). get_or (P x) 0 0) t ∙ sym p)
        root_of o' f l q (no p) =
            let (a, b) = n.roots o' f l (sym (h.others 0 o' (omega arith) l (λ z. p z.1)) ∙ q) in (omega arith, b)

    -- behind the last rule with its path
    pub grow_same : {net' : List ℕ} {i d s : ℕ} → Gone net P m i d → P m ≡ P i → Same net i s → same_in net s ≡ 0 → CellPut net 3 s (suc m) net' →
        Net net' P (suc m)
    grow_same {net' = net'} {i = i} {d = d} {s = s} g same r none h =
        let gm = g.below in
        let s_below : s < m = same_inside n (omega arith) gm r in
        let s_path : P m ≡ P s = same ∙ sym (same_path n (omega arith) gm r) in
        let other : (c i' : ℕ) → c < 15 → i' < 256 → (c ≡ 3 → ⊥) → cell net' c i' ≡ cell net c i' = λ c i' a b z. h.others c i' a b (λ q. z q.0) in
        let way : (i d k : ℕ) → way_in net' i d k ≡ way_in net i d k = h.ways (omega arith) in
        let e : Extends net net' =
        record {
          roots = λ o f l q. other 0 o (omega arith) l (λ z. absurd (omega arith)) ∙ q;
          ways = λ i d k c q. way i d k ∙ q;
          sames = λ i' t l q. h.others 3 i' (omega arith) l (λ z. let y = ap (same_in net) z.1 in absurd (omega arith)) ∙ q;
        }
        in
        let s_same : Same net' i m = same_snoc (same_still n (omega arith) e gm r) h.here in
        record {
          rooted = rooted_more net' e g.first (e.roots (get_or (P m) 0 0) g.first (small m (omega arith)) g.root) (g.leads net' e (Leads.on i d m s_same));
          roots = λ o f l q. (let (a, b) = n.roots o f l (sym (other 0 o (omega arith) l (λ z. absurd (omega arith))) ∙ q) in (omega arith, b));
          ways = λ i d k c q.
              let w = n.ways i d k c (sym (way i d k) ∙ q) in
              let a = w.before in
              let b = w.below in
              let s = other 1 i (omega arith) (omega arith) (λ z. absurd (omega arith)) in
              let t = other 2 i (omega arith) (omega arith) (λ z. absurd (omega arith)) in
              way_still w (omega arith) (omega arith) (omega arith);
          sames = λ i' t l q. same_of s_below s_path i' t l q (ℕ_discrete i' s);
          descends = record {
            heads = λ b l. (let s = other 4 b (omega arith) l (λ z. absurd (omega arith)) in let t = n.descends.heads b l in omega arith);
            chains = λ c l. (let s = other 5 c (omega arith) l (λ z. absurd (omega arith)) in let t = n.descends.chains c l in omega arith);
          };
          long = (let s = h.long in let t = n.long in omega arith);
        }
      where
        same_of : s < m → P m ≡ P s → (i' t : ℕ) → i' < 256 → same_in net' i' ≡ suc t → Dec (i' ≡ s) → (i' < t) × (t < suc m) × (P t ≡ P i')
        same_of b p i' t l q (yes z) =
            let y : t ≡ m = (let w = ap (same_in net') z in let v = h.here in omega arith) in
            (omega arith, omega arith, ap P y ∙ p ∙ ap P (sym z))
        same_of b p i' t l q (no z) =
            let (a, c, f) = n.sames i' t l (sym (h.others 3 i' (omega arith) l (λ w. z w.1)) ∙ q) in (a, omega arith, f)

    -- by a way of its own out of the path that it has gone along
    pub grow_way : {net' : List ℕ} {i d : ℕ} (k : ℕ) (c : Bool) → Gone net P m i d → d < length (P m) → d < length (P i) → k ≡ get_or (P m) d 0 →
        (k ≡ get_or (P i) d 0 → ⊥) → way_in net i d k ≡ 0 → ((k ≡ part) ⊎ (get_or (P i) d 0 ≡ part) → c ≡ true) → WayPut net i d k m c net' →
        Net net' P (suc m)
    grow_way {net' = net'} {i = i} {d = d} k c g a b keyed apart none chosen h =
        let gm = g.below in
        let e : Extends net net' =
        record {
          roots = λ o f l q. h.roots o l ∙ q;
          ways = λ i' d' k' c' q.
              h.others i' d' k' (λ z. let y : way_in net i' d' k' ≡ 0 = rw (← z.0, ← z.1, ← z.2) at none in absurd (omega arith)) ∙ q;
          sames = λ i' s l q. h.sames i' l ∙ q;
        }
        in
        record {
          rooted =
              rooted_more net' e g.first (e.roots (get_or (P m) 0 0) g.first (small m (omega arith)) g.root)
              (g.leads net' e (Leads.off i d d k m m (omega arith) h.here (Leads.on m (suc d) m (Same.self m))));
          roots = λ o f l q. (let (x, y) = n.roots o f l (sym (h.roots o l) ∙ q) in (omega arith, y));
          ways = λ i' d' k' c' q. way_of i' d' k' c' q (ℕ_discrete i' i) (ℕ_discrete d' d) (ℕ_discrete k' k);
          sames = λ i' s l q. (let (x, y, z) = n.sames i' s l (sym (h.sames i' l) ∙ q) in (x, omega arith, z));
          descends = h.descends;
          long = (let s = h.long in let t = n.long in omega arith);
        }
      where
        raised : (t : Bool) → t ≡ true →
            choice_in net' i ≡ elim t as (λ (_ : Bool). ℕ) [ true ↦ larger (choice_in net i) (suc d) | false ↦ choice_in net i ] → d < choice_in net' i
        raised true z y = let x = larger_right (choice_in net i) (suc d) in omega arith
        raised false z y = absurd (true≢false (sym z))

        kept : (t : Bool) → choice_in net' i ≡ elim t as (λ (_ : Bool). ℕ) [ true ↦ larger (choice_in net i) (suc d) | false ↦ choice_in net i ] →
            choice_in net i ≤ choice_in net' i
        kept true y = let x = larger_left (choice_in net i) (suc d) in omega arith
        kept false y = omega arith

        still : (i' d' k' c' : ℕ) → way_in net' i' d' k' ≡ suc c' → ((i' ≡ i) × (d' ≡ d) × (k' ≡ k) → ⊥) → Dec (i' ≡ i) → Way net' P (suc m) i' d' k' c'
        still i' d' k' c' q z (yes y) =
            let w = n.ways i' d' k' c' (sym (h.others i' d' k' z) ∙ q) in
            let x = larger_left (last_in net i) (suc d) in
            let l = h.last_here in
            let t = kept c h.choice_here in
            let y₁ = ap (last_in net) y in
            let y₂ = ap (last_in net') y in
            let y₃ = ap (choice_in net) y in
            let y₄ = ap (choice_in net') y in
            way_still w (omega arith) (omega arith) (omega arith)
        still i' d' k' c' q z (no y) =
            let w = n.ways i' d' k' c' (sym (h.others i' d' k' z) ∙ q) in
            let p = w.before in
            let r = w.below in
            let l = h.lasts i' (omega arith) y in
            let t = h.choices i' (omega arith) y in
            way_still w (omega arith) (omega arith) (omega arith)

        new : (c' : ℕ) → way_in net' i d k ≡ suc c' → Way net' P (suc m) i d k c'
        new c' q =
            let z : m ≡ c' = (let y = h.here in omega arith) in
            let x = larger_right (last_in net i) (suc d) in
            let l = h.last_here in
            subst (Way net' P (suc m) i d k) z (
            record {
              before = g.below;
              below = omega arith;
              inside = a;
              within = b;
              agree = g.agree;
              keyed = keyed;
              apart = apart;
              last = omega arith;
              choice = λ v. raised c (chosen v) h.choice_here;
            }
            )

        way_of : (i' d' k' c' : ℕ) → way_in net' i' d' k' ≡ suc c' → Dec (i' ≡ i) → Dec (d' ≡ d) → Dec (k' ≡ k) → Way net' P (suc m) i' d' k' c'
        way_of i' d' k' c' q (yes x) (yes y) (yes z) =
            subst (λ (t : ℕ). Way net' P (suc m) t d' k' c') (sym x)
            (subst (λ (t : ℕ). Way net' P (suc m) i t k' c') (sym y)
            (subst (λ (t : ℕ). Way net' P (suc m) i d t c') (sym z) (new c' (rw (x, y, z) at q))))
        way_of i' d' k' c' q x (no y) z = still i' d' k' c' q (λ t. y t.1) x
        way_of i' d' k' c' q x (yes y) (no z) = still i' d' k' c' q (λ t. z t.2) x
        way_of i' d' k' c' q (no x) (yes y) (yes z) = still i' d' k' c' q (λ t. x t.0) (no x)
