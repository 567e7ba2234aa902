-- The paths of a net are exactly those of its rules, and the branches of a node bear different keys. Assumes nothing.
use mathlib.Core.List.{List, [], ◌∷◌, ◌++◌}
use mathlib.Core.Logic.{inl, inr}
use mathlib.Core.Path.{◌≡◌, sym, ap, ◌∙◌}
use Prim.Native.Nat.{ℕ, zero, suc, ◌+◌, ◌-◌, ◌≤◌, ◌<◌}
use native.Mathlib.Omega.{arith}
use lib.ListN.{length, get_or, take, drop, length-take, take-append-drop}
use lib.Seq.{take-nil, drop-cons, drop-drop, length-take-le}
use Rattle.net.specs.Net.{Leads, Spells, Path, Branch, Way, Net}
use Rattle.net.proofs.Leading.{agree_less, agree_at, same_path, agrees, inside}

-- LISTS

take_drop : (d n e : ℕ) (xs : List ℕ) → e ≡ d + n → take n (drop d xs) ≡ drop d (take e xs)
take_drop zero n e xs q = let p : n ≡ e = omega arith in ap (λ (x : ℕ). take x xs) p
take_drop (suc d) n e [] q = take-nil n ∙ sym (ap (drop (suc d)) (take-nil e))
take_drop (suc d) n zero (x ∷ xs) q = absurd (omega arith)
take_drop (suc d) n (suc e) (x ∷ xs) q = take_drop d n e xs (omega arith)

-- what lists that agree so far have between two depths
between : (d e : ℕ) (xs ys : List ℕ) → d ≤ e → take e xs ≡ take e ys → take (e - d) (drop d xs) ≡ take (e - d) (drop d ys)
between d e xs ys l h = take_drop d (e - d) e xs (omega arith) ∙ ap (drop d) h ∙ sym (take_drop d (e - d) e ys (omega arith))

-- a list from depth d on: up to depth e, there, and behind it
parts : (d e : ℕ) (xs : List ℕ) → d ≤ e → e < length xs → take (e - d) (drop d xs) ++ (get_or xs e 0 ∷ drop (suc e) xs) ≡ drop d xs
parts d e xs l h =
    let q : d + (e - d) ≡ e = omega arith in
    ap (λ (ys : List ℕ). take (e - d) (drop d xs) ++ ys) (sym (drop-cons xs e 0 h) ∙ sym (drop-drop (e - d) d xs ∙ ap (λ (n : ℕ). drop n xs) q))
    ∙ take-append-drop (e - d) (drop d xs)

-- lists that agree so far are both as long as that, or neither is
as_long : (d : ℕ) (xs ys : List ℕ) → take d xs ≡ take d ys → d ≤ length ys → d ≤ length xs
as_long d xs ys h l =
    let a = ap length h in
    let b = length-take d xs in
    let c = length-take-le d ys l in
    omega arith

-- PATHS

module _ {net : List ℕ} {P : ℕ → List ℕ} {m : ℕ} (n : Net net P m) (few : m ≤ 255) where
  -- the path of a rule that goes along that of rule i and leaves it by a way
  split : (j : ℕ) {i d e k c : ℕ} → d ≤ e → Way net P m i e k c → take (suc e) (P j) ≡ take (suc e) (P c) →
      take (e - d) (drop d (P i)) ++ (k ∷ drop (suc e) (P j)) ≡ drop d (P j)
  split j {i = i} {d = d} {e = e} {k = k} {c = c} l w h =
      let same : take e (P i) ≡ take e (P j) = sym (agree_less e (suc e) (P j) (P c) (omega arith) h ∙ w.agree) in
      let key : k ≡ get_or (P j) e 0 = w.keyed ∙ sym (agree_at e (P j) (P c) h) in
      let w_inside = w.inside in
      let j_inside : suc e ≤ length (P j) = as_long (suc e) (P j) (P c) h w_inside in
      ap (λ (ys : List ℕ). ys ++ (k ∷ drop (suc e) (P j))) (between d e (P i) (P j) l same)
      ∙ ap (λ (x : ℕ). take (e - d) (drop d (P j)) ++ (x ∷ drop (suc e) (P j))) key
      ∙ parts d e (P j) l j_inside

  -- what is spelled on the way to a rule is the rest of its path
  spelled : {i d : ℕ} {ks : List ℕ} {j : ℕ} → i < m → Spells net P i d ks j → (ks ≡ drop d (P j)) × Leads net i d j
  spelled l (Spells.on i d ks j e s) = (e ∙ ap (drop d) (sym (same_path n few l s)), Leads.on i d j s)
  spelled l (Spells.off i d e k c ks ks' j h w q r) =
      let v = n.ways i e k c w in
      let (p, t) = spelled v.below r in
      (q ∙ ap (λ (ys : List ℕ). take (e - d) (drop d (P i)) ++ (k ∷ ys)) p ∙ split j h v (agrees n few v.below t), Leads.off i d e k c j h w t)

  -- and it is spelled
  spells : {i d j : ℕ} → i < m → Leads net i d j → Spells net P i d (drop d (P j)) j
  spells l (Leads.on i d j s) = Spells.on i d (drop d (P j)) j (ap (drop d) (same_path n few l s)) s
  spells l (Leads.off i d e k c j h w r) =
      let v = n.ways i e k c w in
      Spells.off i d e k c (drop d (P j)) (drop (suc e) (P j)) j h w (sym (split j h v (agrees n few v.below r))) (spells v.below r)

  module _ (long : (j : ℕ) → j < m → 0 < length (P j)) (small : (j : ℕ) → j < m → get_or (P j) 0 0 < 256) where
    path_rule : (ks : List ℕ) (j : ℕ) → Path net P ks j → (j < m) × (ks ≡ P j)
    path_rule ks j (o, f, ks', l, e, q, s) =
        let (b, h) = n.roots o f l e in
        let (p, r) = spelled b s in
        let j_below = inside n few b r in (
          j_below,
          q ∙ ap (λ (ys : List ℕ). o ∷ ys) p ∙ ap (λ (x : ℕ). x ∷ drop 1 (P j)) (sym (agree_at 0 (P j) (P f) (agrees n few b r) ∙ h))
              ∙ sym (drop-cons (P j) 0 0 (long j j_below)),
        )

    rule_path : (ks : List ℕ) (j : ℕ) → (j < m) × (ks ≡ P j) → Path net P ks j
    rule_path ks j (l, q) =
        let (f, e, r) = n.rooted j l in
        let s = small j l in
        (get_or (P j) 0 0, f, drop 1 (P j), s, e, q ∙ drop-cons (P j) 0 0 (long j l), spells (n.roots (get_or (P j) 0 0) f s e).0 r)

    -- from its root a net has the path of each of its rules, and no other
    pub paths_exactly : (ks : List ℕ) (j : ℕ) → (Path net P ks j → (j < m) × (ks ≡ P j)) × ((j < m) × (ks ≡ P j) → Path net P ks j)
    paths_exactly ks j = (path_rule ks j, rule_path ks j)

  -- no two branches of a node bear one key
  pub distinct : (i d k r r' : ℕ) → Branch net P i d k r → Branch net P i d k r' → r ≡ r'
  distinct i d k r r' (inl a) (inl b) = a.0 ∙ sym b.0
  distinct i d k r r' (inl a) (inr b) = absurd ((n.ways i d k r' b).apart a.1)
  distinct i d k r r' (inr a) (inl b) = absurd ((n.ways i d k r a).apart b.1)
  distinct i d k r r' (inr a) (inr b) = omega arith
