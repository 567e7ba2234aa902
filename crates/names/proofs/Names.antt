-- The names that the slots' first bytes tell are those of their points, in a buffer none of whose slots is broken: which slot `find` finds, which one is free, where a name is
-- placed, and whether a name stands twice. Assumes nothing.
use mathlib.Core.Bool.{Bool, true, false, false≢true}
use mathlib.Core.List.{List, [], ◌∷◌}
use mathlib.Core.Logic.{inl, inr}
use mathlib.Core.Option.{none, some}
use mathlib.Core.Path.{◌≡◌, refl, sym, ap, ◌∙◌, subst}
use Prim.Native.Nat.{ℕ, zero, suc, ◌+◌, ◌≤◌, ◌<◌}
use native.Mathlib.Omega.{arith}
use lib.Dec.{leb}
use lib.ListN.{length, get_or, take, drop, get_or-eq_default}
use lib.Seq.{take-take}
use Rattle.paper.specs.Result.{Result, refused, accepted, Read, Reader, return, refuse, ◌>>=◌}
use Rattle.paper.specs.Reader.{all_zero}
use Rattle.paper.specs.Page.{read_bytes, read_number}
use Rattle.paper.specs.Writer.{same}
use Rattle.paper.proofs.Operators.{same_equal, same_true, same_false}
use Rattle.paper.proofs.Readers.{accepted_injective, refused_accepted, bind_accepted}
use Rattle.paper.proofs.Tests.{either, eqb_cases, ltb_cases, leb_cases}
use Rattle.flat.specs.Tested.{and}
use Rattle.parking.specs.Form.{name_length, Point, read_fields, only_if, read_point, Slot, slot_of, read_slot}
use Rattle.parking.specs.Points.{slot, read_slots, find, first_free, place, all_good}
use Rattle.parking.proofs.Buffer.{eight, slot_at}
use Rattle.parking.proofs.Form.{read_held}
use Rattle.parking.proofs.Slots.{Bears, Whole, at, Good, good_slots, slots_good}
use Rattle.names.specs.Promises.{HasSlots, free_slot, told_name, bears, First, NamesDiffer}
use Rattle.names.proofs.Told.{slot_long}
use Rattle.names.proofs.Reading.{behind_name, read_behind}

-- A SLOT'S NAME

kept : (b : Bool) (P : Point) (xs : List ℕ) (r : Read Point) → only_if b P xs ≡ accepted r → (b ≡ true) × (P ≡ r.value)
unfolding only_if return refuse
kept true P xs r e = (refl, ap (λ (y : Read Point). y.value) (accepted_injective e))
kept false P xs r e = absurd (refused_accepted e)

both : (a b : Bool) → and a b ≡ true → a ≡ true
unfolding and
both true b e = refl
both false b e = e

leb_less : (m n : ℕ) → leb m n ≡ true → m ≤ n
leb_less m n e = elim (leb_cases m n) [ inl p ↦ p.1 | inr p ↦ absurd (false≢true (sym p.0 ∙ e)) ]

-- what a reader's point has
record Gives (Q : Point → Type 0) (p : Reader Point) : Type 0 where
  pub gives : (xs : List ℕ) (r : Read Point) → p xs ≡ accepted r → Q r.value

any : {C : Type 0} {Q : Point → Type 0} (p : Reader C) (k : C → Reader Point) → ((v : C) → Gives Q (k v)) → Gives Q (p >>= k)
any p k h = record { gives = λ xs r e. let (a, _, q) = bind_accepted p k xs r e in (h a.value).gives a.left r q }

named : (n : ℕ) (bs : List ℕ) → Gives (λ P. (P.name ≡ take n bs) × (n ≤ name_length)) (behind_name n bs)
named n bs =
    any (read_number 2) _ λ m. any (read_number 2) _ λ day. any (read_bytes m) _ λ book. any (read_fields book day) _ λ saved.
    record {
      gives = λ xs r e. let (t, p) = kept (and (leb n name_length) (all_zero (drop n bs))) (record { name = take n bs; book = book; day = day; saved = saved }) xs r e in
          (ap (λ (P : Point). P.name) (sym p), leb_less n name_length (both (leb n name_length) (all_zero (drop n bs)) t));
    }

-- a point's name is told by the first bytes
read_told : (bytes : List ℕ) (r : Read Point) → 17 ≤ length bytes → read_point bytes ≡ accepted r → r.value.name ≡ told_name bytes
unfolding told_name
read_told bytes r l e =
    let n : ℕ = get_or bytes 0 0 in
    let (is, few) = (named n (take name_length (drop 1 bytes))).gives (drop 17 bytes) r (sym (read_behind bytes l) ∙ e) in
    is ∙ take-take n name_length (drop 1 bytes) few

-- what a slot's first bytes tell of what stands in it, if it isn't broken
abbrev pub Told : List ℕ → Slot → Type 0
Told bytes Slot.free = (free_slot bytes ≡ true) × (told_name bytes ≡ [])
Told bytes Slot.broken = Unit {0}
Told bytes (Slot.holds P) = (free_slot bytes ≡ false) × (told_name bytes ≡ P.name)

pub slot_told : (bytes : List ℕ) → 17 ≤ length bytes → Told bytes (read_slot bytes)
unfolding read_slot told_name
slot_told bytes l = elim (eqb_cases (get_or bytes 0 0) 0) [
  | inl p ↦ rw (p.0, read_slot) (p.0, ap (λ (n : ℕ). take n (drop 1 bytes)) p.1)
  | inr p ↦ rw (p.0, read_slot) (go (read_point bytes) refl p.0)
]
  where
    go : (x : Result (Read Point)) → read_point bytes ≡ x → free_slot bytes ≡ false → Told bytes (slot_of x)
    go (refused n) q f = unfold slot_of in tt
    go (accepted r) q f = unfold slot_of in (f, sym (read_told bytes r l q))

module _ (bytes : List ℕ) where
  free_true : (z : Slot) → Whole z → Told bytes z → free_slot bytes ≡ true → z ≡ Slot.free
  free_true Slot.free w t e = refl
  free_true Slot.broken w t e = absurd w
  free_true (Slot.holds P) w t e = absurd (false≢true (sym t.0 ∙ e))

  free_false : (z : Slot) → Told bytes z → free_slot bytes ≡ false → z ≡ Slot.free → ⊥
  free_false Slot.free t e q = false≢true (sym e ∙ t.0)
  free_false Slot.broken t e q = subst (λ (z : Slot). Whole z → ⊥) q (λ h. h) tt
  free_false (Slot.holds P) t e q = subst (Bears P.name) q refl

  -- one that is not free has a name, which is told
  own_name : (z : Slot) → Whole z → Told bytes z → free_slot bytes ≡ false → read_slot bytes ≡ z → Bears (told_name bytes) z × (1 ≤ length (told_name bytes))
  own_name Slot.free w t e q = absurd (false≢true (sym e ∙ t.0))
  own_name Slot.broken w t e q = absurd w
  own_name (Slot.holds P) w t e q = (t.1, let h = (read_held bytes P q).some_name in let l = ap length t.1 in omega (arith, h, l))

  module _ (name : List ℕ) where
    bears_true : (z : Slot) → 1 ≤ length name → Whole z → Told bytes z → bears name bytes ≡ true → (P : Point) × (z ≡ Slot.holds P) × (name ≡ P.name)
    bears_true Slot.free l w t e = absurd (let z = ap length (same_equal name (told_name bytes) e ∙ t.1) in omega (arith, z))
    bears_true Slot.broken l w t e = absurd w
    bears_true (Slot.holds P) l w t e = (P, refl, same_equal name (told_name bytes) e ∙ t.1)

    bears_false : (z : Slot) → Told bytes z → bears name bytes ≡ false → Bears name z → ⊥
    bears_false Slot.free t e b = b
    bears_false Slot.broken t e b = b
    bears_false (Slot.holds P) t e b = false≢true (sym e ∙ same_true name (told_name bytes) (b ∙ sym t.1))

    bears_told : (z : Slot) → Told bytes z → Bears name z → (free_slot bytes ≡ false) × (told_name bytes ≡ name)
    bears_told Slot.free t b = absurd b
    bears_told Slot.broken t b = absurd b
    bears_told (Slot.holds P) t b = (t.0, t.1 ∙ sym b)

    -- so a slot bears the name of its point, and none if it is free
    module _ (l : 17 ≤ length bytes) where
      pub bears_holds : (P : Point) → read_slot bytes ≡ Slot.holds P → bears name bytes ≡ same name P.name
      bears_holds P e = ap (same name) (subst (Told bytes) e (slot_told bytes l)).1

      pub bears_free : 1 ≤ length name → read_slot bytes ≡ Slot.free → bears name bytes ≡ false
      bears_free h e = same_false name (told_name bytes) (λ q. let z = ap length (q ∙ (subst (Told bytes) e (slot_told bytes l)).1) in omega (arith, z))

-- AMONG SLOTS

skip : (k : ℕ) (name : List ℕ) (s : Slot) (ss : List Slot) → (Bears name s → ⊥) → find k name (s ∷ ss) ≡ find (suc k) name ss
unfolding find
skip k name Slot.free ss h = refl
skip k name Slot.broken ss h = refl
skip k name (Slot.holds P) ss h = rw (same_false name P.name h, find) refl

-- the slot that bears a name, if none before it does
find_first : (k : ℕ) (name : List ℕ) (ss : List Slot) (r : ℕ) (P : Point) → ((j : ℕ) → j < r → Bears name (at ss j) → ⊥) → at ss r ≡ Slot.holds P → name ≡ P.name →
    find k name ss ≡ some (record { at = k + r; point = P })
unfolding find
find_first k name [] r P h e n = absurd (subst (Bears name) (sym e) n)
find_first k name (s ∷ ss) zero P h e n =
    ap (λ (z : Slot). find k name (z ∷ ss)) e
    ∙ rw (same_true name P.name n, find) (let z : k ≡ k + 0 = omega arith in ap (λ (i : ℕ). some (record { at = i; point = P })) z)
find_first k name (s ∷ ss) (suc r) P h e n =
    skip k name s ss (h 0 (omega arith))
    ∙ find_first (suc k) name ss r P (λ j l. h (suc j) (omega (arith, l))) e n
    ∙ (let z : suc k + r ≡ k + suc r = omega arith in ap (λ (i : ℕ). some (record { at = i; point = P })) z)

find_nowhere : (k : ℕ) (name : List ℕ) (ss : List Slot) → ((j : ℕ) → j < length ss → Bears name (at ss j) → ⊥) → find k name ss ≡ none
find_nowhere k name [] h = unfold find in refl
find_nowhere k name (s ∷ ss) h = skip k name s ss (h 0 (omega arith)) ∙ find_nowhere (suc k) name ss (λ j l. h (suc j) (omega (arith, l)))

pass : (k : ℕ) (s : Slot) (ss : List Slot) → (s ≡ Slot.free → ⊥) → first_free k (s ∷ ss) ≡ first_free (suc k) ss
unfolding first_free
pass k Slot.free ss h = absurd (h refl)
pass k Slot.broken ss h = refl
pass k (Slot.holds P) ss h = refl

-- the lowest free slot
free_first : (k : ℕ) (ss : List Slot) (r : ℕ) → r < length ss → ((j : ℕ) → j < r → at ss j ≡ Slot.free → ⊥) → at ss r ≡ Slot.free → first_free k ss ≡ some (k + r)
free_first k [] r l h e = absurd (omega (arith, l))
free_first k (s ∷ ss) zero l h e = ap (λ (z : Slot). first_free k (z ∷ ss)) e ∙ here
  where
    here : first_free k (Slot.free ∷ ss) ≡ some (k + 0)
    here = unfold first_free in (let z : k ≡ k + 0 = omega arith in ap (λ (i : ℕ). some i) z)
free_first k (s ∷ ss) (suc r) l h e =
    pass k s ss (h 0 (omega arith))
    ∙ free_first (suc k) ss r (omega (arith, l)) (λ j b. h (suc j) (omega (arith, b))) e
    ∙ (let z : suc k + r ≡ k + suc r = omega arith in ap some z)

free_nowhere : (k : ℕ) (ss : List Slot) → ((j : ℕ) → j < length ss → at ss j ≡ Slot.free → ⊥) → first_free k ss ≡ none
free_nowhere k [] h = unfold first_free in refl
free_nowhere k (s ∷ ss) h = pass k s ss (h 0 (omega arith)) ∙ free_nowhere (suc k) ss (λ j l. h (suc j) (omega (arith, l)))

-- IN A BUFFER

abbrev pub Unbroken : List ℕ → Type 0
Unbroken points = (k : ℕ) → k < 8 → Whole (read_slot (slot k points))

pub broken_bad : (points : List ℕ) (k : ℕ) → k < 8 → read_slot (slot k points) ≡ Slot.broken → all_good (read_slots points) ≡ false
broken_bad points k l e = elim (either (all_good (read_slots points))) [
  | inl g ↦ absurd (subst Whole (slot_at points k l ∙ e) ((good_slots (read_slots points) g).whole k))
  | inr g ↦ g
]

module _ (points : List ℕ) (h : HasSlots points) (whole : Unbroken points) where
  long : (k : ℕ) → k < 8 → 17 ≤ length (slot k points)
  long k l = omega (arith, slot_long points h k l)

  -- what the slots' first bytes tell, of the slots in a row
  told : (k : ℕ) → k < 8 → Told (slot k points) (at (read_slots points) k)
  told k l = subst (Told (slot k points)) (sym (slot_at points k l)) (slot_told (slot k points) (long k l))

  entire : (k : ℕ) → k < 8 → Whole (at (read_slots points) k)
  entire k l = subst Whole (sym (slot_at points k l)) (whole k l)

  many : length (read_slots points) ≡ 8
  many = eight points

  -- THE SLOT OF A NAME
  module _ (name : List ℕ) (some_name : 1 ≤ length name) (r : ℕ) (f : First (bears name) points 0 r) where
    before : (j : ℕ) → j < r → Bears name (at (read_slots points) j) → ⊥
    before j l b =
        let m = f.most in
        let i : j < 8 = omega arith in
        bears_false (slot j points) name (at (read_slots points) j) (told j i) (f.before j (omega arith) l) b

    pub found : r < 8 → (P : Point) × (read_slot (slot r points) ≡ Slot.holds P) × (find 0 name (read_slots points) ≡ some (record { at = r; point = P }))
    found l =
        let (P, e, n) = bears_true (slot r points) name (at (read_slots points) r) some_name (entire r l) (told r l) (f.here l) in
        let z : 0 + r ≡ r = omega arith in
        (P, sym (slot_at points r l) ∙ e, find_first 0 name (read_slots points) r P before e n ∙ ap (λ (i : ℕ). some (record { at = i; point = P })) z)

    pub not_found : 8 ≤ r → find 0 name (read_slots points) ≡ none
    not_found l = find_nowhere 0 name (read_slots points) (λ j b. before j (let m = many in omega arith))

  -- THE LOWEST FREE SLOT
  module _ (r : ℕ) (f : First free_slot points 0 r) where
    taken : (j : ℕ) → j < r → at (read_slots points) j ≡ Slot.free → ⊥
    taken j l e =
        let m = f.most in
        let i : j < 8 = omega arith in
        free_false (slot j points) (at (read_slots points) j) (told j i) (f.before j (omega arith) l) e

    pub free_found : r < 8 → first_free 0 (read_slots points) ≡ some r
    free_found l =
        let z : 0 + r ≡ r = omega arith in
        let m = many in
        free_first 0 (read_slots points) r (omega arith) taken (free_true (slot r points) (at (read_slots points) r) (entire r l) (told r l) (f.here l)) ∙ ap some z

    pub none_free : 8 ≤ r → first_free 0 (read_slots points) ≡ none
    none_free l = free_nowhere 0 (read_slots points) (λ j b. taken j (let m = many in omega arith))

  -- WHERE A NAME IS PLACED
  module _ (name : List ℕ) (some_name : 1 ≤ length name) (r : ℕ) (f : First (bears name) points 0 r) where
    pub placed_there : r < 8 → place name (read_slots points) ≡ some r
    unfolding place
    placed_there l = let (P, _, e) = found name some_name r f l in rw (e, place) refl

    pub placed_new : 8 ≤ r → place name (read_slots points) ≡ first_free 0 (read_slots points)
    unfolding place
    placed_new l = rw (not_found name some_name r f l, place) refl

  -- NAMES THAT DIFFER
  inside : (name : List ℕ) (i : ℕ) → Bears name (at (read_slots points) i) → i < 8
  inside name i b = elim (ltb_cases i 8) [
    | inl p ↦ p.1
    | inr p ↦ absurd (subst (Bears name) (get_or-eq_default (read_slots points) Slot.free (let l = p.1 in let m = many in omega arith)) b)
  ]

  -- no name stands twice
  module _ (d : NamesDiffer points true) where
    never : (name : List ℕ) (i j : ℕ) → i < j → Bears name (at (read_slots points) i) → Bears name (at (read_slots points) j) → ⊥
    never name i j l a b =
        let k = inside name j b in
        let (f, e) = bears_told (slot i points) name (at (read_slots points) i) (told i (omega arith)) a in
        bears_false (slot j points) (told_name (slot i points)) (at (read_slots points) j) (told j k) (d.is i j l k f)
        (subst (λ (n : List ℕ). Bears n (at (read_slots points) j)) (sym e) b)

    good : Good (read_slots points)
    good = record {
      whole = λ i.
          elim (ltb_cases i 8) [
            | inl p ↦ entire i p.1
            | inr p ↦ subst Whole (sym (get_or-eq_default (read_slots points) Slot.free (let l = p.1 in let m = many in omega arith))) tt
          ];
      once = λ name i j a b.
          elim (ltb_cases i j) [
            | inl p ↦ absurd (never name i j p.1 a b)
            | inr p ↦ elim (ltb_cases j i) [ inl q ↦ absurd (never name j i q.1 b a) | inr q ↦ (let x = p.1 in let y = q.1 in omega arith) ]
          ];
    }

  -- a name stands twice
  twice : NamesDiffer points false → Good (read_slots points) → ⊥
  twice d g =
      let (k, m, l, i, f, b) = d.is in
      let j : k < 8 = omega arith in
      let (own, l₁) = own_name (slot k points) (read_slot (slot k points)) (whole k j) (slot_told (slot k points) (long k j)) f refl in
      let (P, e, n) = bears_true (slot m points) (told_name (slot k points)) (at (read_slots points) m) l₁ (entire m i) (told m i) b in
      let z = g.once (told_name (slot k points)) k m (subst (Bears (told_name (slot k points))) (sym (slot_at points k j)) own) (subst (Bears (told_name (slot k points))) (sym e) n) in
      omega arith

  pub differ_good : (r : Bool) → NamesDiffer points r → all_good (read_slots points) ≡ r
  differ_good true d = slots_good (read_slots points) (good d)
  differ_good false d = elim (either (all_good (read_slots points))) [ inl g ↦ absurd (twice d (good_slots (read_slots points) g)) | inr g ↦ g ]
