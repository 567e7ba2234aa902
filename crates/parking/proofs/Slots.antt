-- Slots by their names: which slot bears a name, which one a new name takes, and that a slot put there keeps the rules of the others. Assumes nothing.
use mathlib.Core.Bool.{true, false, false≢true}
use mathlib.Core.List.{List, [], ◌∷◌}
use mathlib.Core.Logic.{◌⊎◌, ◌≢◌, inl, inr}
use mathlib.Core.Option.{none, some, none-ne-some, some-injective}
use mathlib.Core.Path.{◌≡◌, refl, sym, ◌∙◌, ap, ap₂, subst}
use Prim.Native.Nat.{ℕ, zero, suc, ◌+◌, ◌<◌}
use native.Mathlib.Nat.{suc_inj}
use native.Mathlib.Omega.{arith}
use lib.Dec.{eqb}
use lib.ListN.{length, get_or, set}
use lib.Seq.{get_or-set_same, get_or-set_other}
use Rattle.paper.specs.Writer.{same}
use Rattle.paper.proofs.Operators.{same_equal, same_true, same_false}
use Rattle.paper.proofs.Tests.{either, eqb_cases}
use Rattle.parking.specs.Form.{Point, Slot}
use Rattle.parking.specs.Points.{Found, find, first_free, place, all_good}

abbrev pub Bears : List ℕ → Slot → Type 0
Bears name Slot.free = ⊥
Bears name Slot.broken = ⊥
Bears name (Slot.holds P) = name ≡ P.name

abbrev pub Whole : Slot → Type 0
Whole Slot.free = Unit {0}
Whole Slot.broken = ⊥
Whole (Slot.holds P) = Unit {0}

-- free, or bearing the name
abbrev pub Open : List ℕ → Slot → Type 0
Open name Slot.free = Unit {0}
Open name Slot.broken = ⊥
Open name (Slot.holds P) = name ≡ P.name

-- the slot with a number; behind the last there is none that bears a name
abbrev pub at : List Slot → ℕ → Slot
at ss i = get_or ss i Slot.free

pub record Good (ss : List Slot) : Type 0 where
  pub whole : (i : ℕ) → Whole (at ss i)
  pub once : (name : List ℕ) (i j : ℕ) → Bears name (at ss i) → Bears name (at ss j) → i ≡ j

-- THE SLOT OF A NAME

abbrev Nowhere : List ℕ → List Slot → Type 0
Nowhere name ss = (j : ℕ) → Bears name (at ss j) → ⊥

record Here (k : ℕ) (name : List ℕ) (ss : List Slot) : Type 0 where
  pub index : ℕ
  pub point : Point
  pub is : find k name ss ≡ some (record { at = k + index; point = point })
  pub there : at ss index ≡ Slot.holds point
  pub bears : name ≡ point.name

abbrev Sought : ℕ → List ℕ → List Slot → Type 0
Sought k name ss = Here k name ss ⊎ ((find k name ss ≡ none) × Nowhere name ss)

further : (k : ℕ) (name : List ℕ) (s : Slot) (ss : List Slot) → (Bears name s → ⊥) → find k name (s ∷ ss) ≡ find (suc k) name ss → Sought (suc k) name ss → Sought k name (s ∷ ss)
further k name s ss other e (inl h) =
    inl (record {
      index = suc h.index;
      point = h.point;
      is = e ∙ h.is ∙ (let z : suc k + h.index ≡ k + suc h.index = omega arith in ap (λ (n : ℕ). some (record { at = n; point = h.point })) z);
      there = h.there;
      bears = h.bears;
    })
further k name s ss other e (inr h) = inr (e ∙ h.0, nowhere)
  where
    nowhere : Nowhere name (s ∷ ss)
    nowhere zero b = other b
    nowhere (suc j) b = h.1 j b

find_cases : (k : ℕ) (name : List ℕ) (ss : List Slot) → Sought k name ss
unfolding find
find_cases k name [] = inr (refl, λ j b. b)
find_cases k name (Slot.free ∷ ss) = further k name Slot.free ss (λ b. b) refl (find_cases (suc k) name ss)
find_cases k name (Slot.broken ∷ ss) = further k name Slot.broken ss (λ b. b) refl (find_cases (suc k) name ss)
find_cases k name (Slot.holds P ∷ ss) = elim (either (same name P.name)) [
  | inl p ↦
      inl (record {
        index = 0;
        point = P;
        is = rw (p, find) (let z : k ≡ k + 0 = omega arith in ap (λ (n : ℕ). some (record { at = n; point = P })) z);
        there = refl;
        bears = same_equal name P.name p;
      })
  | inr p ↦
      further k name (Slot.holds P) ss (λ b. false≢true (sym p ∙ same_true name P.name b)) (rw (p, find) refl) (find_cases (suc k) name ss)
]

holds_injective : {P Q : Point} → Slot.holds P ≡ Slot.holds Q → P ≡ Q
holds_injective e = cc

-- among good slots: the one that bears it
pub find_is : (name : List ℕ) (ss : List Slot) (i : ℕ) (P : Point) → Good ss → at ss i ≡ Slot.holds P → name ≡ P.name → find 0 name ss ≡ some (record { at = i; point = P })
find_is name ss i P g e n = elim (find_cases 0 name ss) [
  | inl h ↦
      (let z : 0 + h.index ≡ i = (let q = g.once name h.index i (subst (Bears name) (sym h.there) h.bears) (subst (Bears name) (sym e) n) in omega (arith, q)) in
      let y : h.index ≡ i = omega (arith, z) in
      h.is ∙ ap₂ (λ (k : ℕ) (Q : Point). some (record { at = k; point = Q })) z (holds_injective (sym h.there ∙ ap (at ss) y ∙ e)))
  | inr h ↦ absurd (h.1 i (subst (Bears name) (sym e) n))
]

-- what was found
pub find_at : (name : List ℕ) (ss : List Slot) (x : Found) → find 0 name ss ≡ some x → (at ss x.at ≡ Slot.holds x.point) × (name ≡ x.point.name)
find_at name ss x e = elim (find_cases 0 name ss) [
  | inl h ↦
      (let y : record { at = 0 + h.index; point = h.point } ≡ x = some-injective _ _ (sym h.is ∙ e) in
      let z : 0 + h.index ≡ h.index = omega arith in (
        ap (at ss) (sym (ap (λ (f : Found). f.at) y) ∙ z) ∙ h.there ∙ ap (λ (f : Found). Slot.holds f.point) y,
        h.bears ∙ ap (λ (f : Found). f.point.name) y,
      ))
  | inr h ↦ absurd (none-ne-some _ (sym h.0 ∙ e))
]

-- a slot that holds a point is one of them
pub holds_inside : (ss : List Slot) (i : ℕ) (P : Point) → at ss i ≡ Slot.holds P → i < length ss
holds_inside [] i P e = absurd (subst (Bears P.name) (sym e) refl)
holds_inside (s ∷ ss) zero P e = omega arith
holds_inside (s ∷ ss) (suc i) P e = let l = holds_inside ss i P e in omega (arith, l)

-- GOOD SLOTS

good_tail : (s : Slot) (ss : List Slot) → Good (s ∷ ss) → Good ss
good_tail s ss g = record {
  whole = λ i. g.whole (suc i);
  once = λ name i j a b. suc_inj (g.once name (suc i) (suc j) a b);
}

good_cons : (s : Slot) (ss : List Slot) → Whole s → ((name : List ℕ) → Bears name s → Nowhere name ss) → Good ss → Good (s ∷ ss)
good_cons s ss w other g = record { whole = whole; once = once }
  where
    whole : (i : ℕ) → Whole (at (s ∷ ss) i)
    whole zero = w
    whole (suc i) = g.whole i

    once : (name : List ℕ) (i j : ℕ) → Bears name (at (s ∷ ss) i) → Bears name (at (s ∷ ss) j) → i ≡ j
    once name zero zero a b = refl
    once name zero (suc j) a b = absurd (other name a j b)
    once name (suc i) zero a b = absurd (other name b i a)
    once name (suc i) (suc j) a b = ap suc (g.once name i j a b)

pub good_slots : (ss : List Slot) → all_good ss ≡ true → Good ss
unfolding all_good
good_slots [] e = record { whole = λ i. tt; once = λ name i j a b. absurd a }
good_slots (Slot.free ∷ ss) e = good_cons Slot.free ss tt (λ name b. absurd b) (good_slots ss e)
good_slots (Slot.broken ∷ ss) e = absurd (false≢true e)
good_slots (Slot.holds P ∷ ss) e = elim (find_cases 0 P.name ss) [
  | inl h ↦ absurd (false≢true (rw (h.is, all_good) at e))
  | inr h ↦ good_cons (Slot.holds P) ss tt (λ name b j c. h.1 j (subst (λ (n : List ℕ). Bears n (at ss j)) b c)) (good_slots ss (rw (h.0, all_good) at e))
]

pub slots_good : (ss : List Slot) → Good ss → all_good ss ≡ true
unfolding all_good
slots_good [] g = refl
slots_good (Slot.free ∷ ss) g = slots_good ss (good_tail Slot.free ss g)
slots_good (Slot.broken ∷ ss) g = absurd (g.whole 0)
slots_good (Slot.holds P ∷ ss) g = elim (find_cases 0 P.name ss) [
  | inl h ↦ absurd (let z = g.once P.name 0 (suc h.index) refl (subst (Bears P.name) (sym h.there) h.bears) in omega (arith, z))
  | inr h ↦ rw (h.0, all_good) (slots_good ss (good_tail (Slot.holds P) ss g))
]

-- ONE SLOT CHANGED

open_whole : (name : List ℕ) (z : Slot) → Open name z → Whole z
open_whole name Slot.free h = tt
open_whole name Slot.broken h = h
open_whole name (Slot.holds P) h = tt

pub open_bears : (name : List ℕ) (z : Slot) (n : List ℕ) → Open name z → Bears n z → n ≡ name
open_bears name Slot.free n h b = absurd b
open_bears name Slot.broken n h b = absurd b
open_bears name (Slot.holds P) n h b = b ∙ sym h

abbrev Compared : ℕ → ℕ → Type 0
Compared i k = ((eqb i k ≡ true) × (i ≡ k)) ⊎ ((eqb i k ≡ false) × (i ≢ k))

-- k is the only slot that bears the name, if one does
abbrev pub Alone : List ℕ → ℕ → List Slot → Type 0
Alone name k ss = (j : ℕ) → Bears name (at ss j) → j ≡ k

pub set_good : (name : List ℕ) (ss : List Slot) (k : ℕ) (s : Slot) → Good ss → k < length ss → Alone name k ss → Open name s → Good (set ss k s)
set_good name ss k s g l alone o = record { whole = λ i. whole i (eqb_cases i k); once = λ n i j a b. once n i j (eqb_cases i k) (eqb_cases j k) a b }
  where
    here : at (set ss k s) k ≡ s
    here = get_or-set_same ss k s Slot.free l

    there : (i : ℕ) → i ≢ k → at (set ss k s) i ≡ at ss i
    there i d = get_or-set_other ss k i s Slot.free d

    -- another slot that bears what is put there would be slot k
    clash : (n : List ℕ) (i : ℕ) → i ≢ k → Bears n s → Bears n (at ss i) → ⊥
    clash n i d b c = d (alone i (subst (λ (m : List ℕ). Bears m (at ss i)) (open_bears name s n o b) c))

    whole : (i : ℕ) → Compared i k → Whole (at (set ss k s) i)
    whole i (inl p) = subst Whole (sym (ap (at (set ss k s)) p.1 ∙ here)) (open_whole name s o)
    whole i (inr p) = subst Whole (sym (there i p.1)) (g.whole i)

    once : (n : List ℕ) (i j : ℕ) → Compared i k → Compared j k → Bears n (at (set ss k s) i) → Bears n (at (set ss k s) j) → i ≡ j
    once n i j (inl p) (inl q) a b = p.1 ∙ sym q.1
    once n i j (inl p) (inr q) a b =
        absurd (clash n j q.1 (subst (Bears n) (ap (at (set ss k s)) p.1 ∙ here) a) (subst (Bears n) (there j q.1) b))
    once n i j (inr p) (inl q) a b =
        absurd (clash n i p.1 (subst (Bears n) (ap (at (set ss k s)) q.1 ∙ here) b) (subst (Bears n) (there i p.1) a))
    once n i j (inr p) (inr q) a b = g.once n i j (subst (Bears n) (there i p.1) a) (subst (Bears n) (there j q.1) b)

-- its slot freed, a name is not found
pub set_gone : (name : List ℕ) (ss : List Slot) (k : ℕ) → k < length ss → Alone name k ss → find 0 name (set ss k Slot.free) ≡ none
set_gone name ss k l alone = elim (find_cases 0 name (set ss k Slot.free)) [
  | inl h ↦ absurd (nowhere h.index (eqb_cases h.index k) (subst (Bears name) (sym h.there) h.bears))
  | inr h ↦ h.0
]
  where
    nowhere : (j : ℕ) → Compared j k → Bears name (at (set ss k Slot.free) j) → ⊥
    nowhere j (inl p) b = subst (Bears name) (ap (at (set ss k Slot.free)) p.1 ∙ get_or-set_same ss k Slot.free Slot.free l) b
    nowhere j (inr p) b = p.1 (alone j (subst (Bears name) (get_or-set_other ss k j Slot.free Slot.free p.1) b))

-- another name's point is where it was
pub find_other : (k i : ℕ) (name : List ℕ) (ss : List Slot) (s : Slot) → (Bears name (at ss i) → ⊥) → (Bears name s → ⊥) → find k name (set ss i s) ≡ find k name ss
unfolding find
find_other k i name [] s a b = refl
find_other k zero name (x ∷ ss) s a b = skip s b ∙ sym (skip x a)
  where
    skip : (z : Slot) → (Bears name z → ⊥) → find k name (z ∷ ss) ≡ find (suc k) name ss
    skip Slot.free h = refl
    skip Slot.broken h = refl
    skip (Slot.holds P) h = rw (same_false name P.name h, find) refl
find_other k (suc i) name (Slot.free ∷ ss) s a b = find_other (suc k) i name ss s a b
find_other k (suc i) name (Slot.broken ∷ ss) s a b = find_other (suc k) i name ss s a b
find_other k (suc i) name (Slot.holds P ∷ ss) s a b = elim (either (same name P.name)) [
  | inl p ↦ rw (p, find) refl
  | inr p ↦ rw (p, find) (find_other (suc k) i name ss s a b)
]

-- WHERE A NAME IS PLACED

record Free (k : ℕ) (ss : List Slot) (j : ℕ) : Type 0 where
  pub index : ℕ
  pub is : j ≡ k + index
  pub inside : index < length ss
  pub there : at ss index ≡ Slot.free

first_free_at : (k : ℕ) (ss : List Slot) (j : ℕ) → first_free k ss ≡ some j → Free k ss j
unfolding first_free
first_free_at k [] j e = absurd (none-ne-some _ e)
first_free_at k (Slot.free ∷ ss) j e =
    record { index = 0; is = (let z = some-injective _ _ e in omega (arith, z)); inside = omega arith; there = refl }
first_free_at k (Slot.broken ∷ ss) j e = let f = first_free_at (suc k) ss j e in
    record { index = suc f.index; is = (let a = f.is in omega (arith, a)); inside = (let a = f.inside in omega (arith, a)); there = f.there }
first_free_at k (Slot.holds P ∷ ss) j e = let f = first_free_at (suc k) ss j e in
    record { index = suc f.index; is = (let a = f.is in omega (arith, a)); inside = (let a = f.inside in omega (arith, a)); there = f.there }

-- a slot that a name may take: it is there, it is free or bears the name, and no other bears it
pub record Place (name : List ℕ) (ss : List Slot) (k : ℕ) : Type 0 where
  pub inside : k < length ss
  pub opened : Open name (at ss k)
  pub alone : Alone name k ss

pub find_place : (name : List ℕ) (ss : List Slot) (x : Found) → Good ss → find 0 name ss ≡ some x → Place name ss x.at
find_place name ss x g e =
    let (p, q) = find_at name ss x e in
    record {
      inside = holds_inside ss x.at x.point p;
      opened = subst (Open name) (sym p) q;
      alone = λ j b. g.once name j x.at b (subst (Bears name) (sym p) q);
    }

pub place_at : (name : List ℕ) (ss : List Slot) (k : ℕ) → Good ss → place name ss ≡ some k → Place name ss k
unfolding place
place_at name ss k g e = elim (find_cases 0 name ss) [
  | inl h ↦
      (let z : 0 + h.index ≡ k = some-injective _ _ (rw (h.is, place) at e) in
      subst (Place name ss) z (find_place name ss (record { at = 0 + h.index; point = h.point }) g h.is))
  | inr h ↦
      (let f = first_free_at 0 ss k (rw (h.0, place) at e) in
      let z : f.index ≡ k = (let a = f.is in omega (arith, a)) in
      record {
        inside = (let a = f.inside in omega (arith, a, z));
        opened = subst (Open name) (sym (ap (at ss) (sym z) ∙ f.there)) tt;
        alone = λ j b. absurd (h.1 j b);
      })
]

-- a name that has no place: every slot holds a point of another name
first_free_none : (k : ℕ) (ss : List Slot) → first_free k ss ≡ none → (j : ℕ) → j < length ss → at ss j ≡ Slot.free → ⊥
unfolding first_free
first_free_none k [] e j l f = omega (arith, l)
first_free_none k (Slot.free ∷ ss) e j l f = none-ne-some _ (sym e)
first_free_none k (Slot.broken ∷ ss) e zero l f = subst (λ (z : Slot). Whole z → ⊥) f (λ h. h) tt
first_free_none k (Slot.broken ∷ ss) e (suc j) l f = first_free_none (suc k) ss e j (omega (arith, l)) f
first_free_none k (Slot.holds P ∷ ss) e zero l f = subst (Bears P.name) f refl
first_free_none k (Slot.holds P ∷ ss) e (suc j) l f = first_free_none (suc k) ss e j (omega (arith, l)) f

pub place_none : (name : List ℕ) (ss : List Slot) → Good ss → place name ss ≡ none → (j : ℕ) → j < length ss → (P : Point) × (at ss j ≡ Slot.holds P) × (name ≢ P.name)
unfolding place
place_none name ss g e j l = elim (find_cases 0 name ss) [
  | inl h ↦ absurd (none-ne-some _ (sym (rw (h.is, place) at e)))
  | inr h ↦ go (at ss j) refl (g.whole j) (first_free_none 0 ss (rw (h.0, place) at e) j l) (h.1 j)
]
  where
    go : (s : Slot) → at ss j ≡ s → Whole (at ss j) → (at ss j ≡ Slot.free → ⊥) → (Bears name (at ss j) → ⊥) → (P : Point) × (at ss j ≡ Slot.holds P) × (name ≢ P.name)
    go Slot.free e w f b = absurd (f e)
    go Slot.broken e w f b = absurd (subst Whole e w)
    go (Slot.holds P) e w f b = (P, e, λ n. b (subst (Bears name) (sym e) n))
