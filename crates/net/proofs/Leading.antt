-- Where a net leads: never to an earlier rule, and only to rules whose paths agree as far as it has gone. Assumes nothing.
use mathlib.Core.List.{List}
use mathlib.Core.Path.{◌≡◌, refl, sym, ap, ◌∙◌, subst}
use Prim.Native.Nat.{ℕ, suc, ◌≤◌, ◌<◌}
use native.Mathlib.Omega.{arith}
use native.Mathlib.Decide.{ℕ_discrete}
use lib.ListN.{get_or, take}
use lib.Seq.{take-take, get_or-take}
use Rattle.net.specs.Layout.{last_in, way_in}
use Rattle.net.specs.Net.{Same, Leads, Net}

-- paths that agree so far agree on less
pub agree_less : (d e : ℕ) (xs ys : List ℕ) → d ≤ e → take e xs ≡ take e ys → take d xs ≡ take d ys
agree_less d e xs ys l h = sym (take-take d e xs l) ∙ ap (take d) h ∙ take-take d e ys l

-- and have one key at the last depth
pub agree_at : (d : ℕ) (xs ys : List ℕ) → take (suc d) xs ≡ take (suc d) ys → get_or xs d 0 ≡ get_or ys d 0
agree_at d xs ys h = sym (get_or-take (suc d) xs d 0 (omega arith)) ∙ ap (λ (l : List ℕ). get_or l d 0) h ∙ get_or-take (suc d) ys d 0 (omega arith)

-- what the net leads to from a depth on, it leads to from each depth before
pub earlier : {net : List ℕ} (d : ℕ) {i e j : ℕ} → d ≤ e → Leads net i e j → Leads net i d j
earlier d l (Leads.on i e j s) = Leads.on i d j s
earlier d l (Leads.off i e e' k c j m w r) = Leads.off i d e' k c j (omega arith) w r

-- behind the node at depth d of rule i's path lies what is met further along it, and what leaves it there by a key
pub data Next (net : List ℕ) (i d j : ℕ) : Type 0 where
  along : Leads net i (suc d) j → Next net i d j
  leave : (k c : ℕ) → way_in net i d k ≡ suc c → Leads net c (suc d) j → Next net i d j

pub next : {net : List ℕ} {i d j : ℕ} → Leads net i d j → Next net i d j
next (Leads.on i d j s) = Next.along (Leads.on i (suc d) j s)
next {net = net} (Leads.off i d e k c j l w r) = go (ℕ_discrete d e)
  where
    go : Dec (d ≡ e) → Next net i d j
    go (yes q) = Next.leave k c (subst (λ (x : ℕ). way_in net i x k ≡ suc c) (sym q) w) (subst (λ (x : ℕ). Leads net c (suc x) j) (sym q) r)
    go (no q) = Next.along (Leads.off i (suc d) e k c j (omega arith) w r)

module _ {net : List ℕ} {P : ℕ → List ℕ} {m : ℕ} (n : Net net P m) (few : m ≤ 255) where
  -- rules with one path are told in their order
  same_below : {i j : ℕ} → i < m → Same net i j → (i ≤ j) × (j < m) × (P j ≡ P i)
  same_below l (Same.self i) = (omega arith, l, refl)
  same_below l (Same.next i s j e r) =
      let (a, b, p) = n.sames i s (omega arith) e in
      let (a', b', p') = same_below b r in
      (omega arith, b', p' ∙ p)

  pub same_least : {i j : ℕ} → i < m → Same net i j → i ≤ j
  same_least l s = (same_below l s).0

  pub same_inside : {i j : ℕ} → i < m → Same net i j → j < m
  same_inside l s = (same_below l s).1

  pub same_path : {i j : ℕ} → i < m → Same net i j → P j ≡ P i
  same_path l s = (same_below l s).2

  leads_below : {i d j : ℕ} → i < m → Leads net i d j → (i ≤ j) × (j < m) × (take d (P j) ≡ take d (P i))
  leads_below l (Leads.on i d j s) = let (a, b, p) = same_below l s in (a, b, ap (take d) p)
  leads_below l (Leads.off i d e k c j h w r) =
      let v = n.ways i e k c w in
      let (a, b, p) = leads_below v.below r in
      let f = v.before in
      (omega arith, b, agree_less d (suc e) (P j) (P c) (omega arith) p ∙ agree_less d e (P c) (P i) h v.agree)

  -- a rule that the net leads to from rule i is not before it
  pub least : {i d j : ℕ} → i < m → Leads net i d j → i ≤ j
  least l r = (leads_below l r).0

  pub inside : {i d j : ℕ} → i < m → Leads net i d j → j < m
  inside l r = (leads_below l r).1

  -- and has its path so far
  pub agrees : {i d j : ℕ} → i < m → Leads net i d j → take d (P j) ≡ take d (P i)
  agrees l r = (leads_below l r).2

  -- behind the last way out of a path there are only rules that have it
  pub ended : {i d j : ℕ} → last_in net i ≤ d → Leads net i d j → Same net i j
  ended h (Leads.on i d j s) = s
  ended h (Leads.off i d e k c j l w r) = let v = (n.ways i e k c w).last in absurd (omega arith)
