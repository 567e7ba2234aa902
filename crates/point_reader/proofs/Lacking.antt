-- Readers that accept nothing with a property: one after another, and repeated; and what was read by those before. Assumes nothing.
use mathlib.Core.List.{List, [], ◌∷◌, ◌++◌}
use mathlib.Core.Path.{◌≡◌, refl, sym, ap, ◌∙◌, subst}
use Prim.Native.Nat.{ℕ, zero, suc, ◌+◌, ◌-◌, ◌<◌}
use native.Mathlib.Omega.{arith}
use lib.ListN.{length}
use Rattle.paper.specs.Result.{Result, refused, accepted, Read, Reader, return, ◌>>=◌, repeat}
use Rattle.paper.specs.Sound.{All}
use Rattle.paper.proofs.Readers.{accepted_injective, refused_accepted, return_accepted, bind_accepted, bind_return}
use Rattle.strategy.proofs.Reading.{prepend}
use Rattle.book.proofs.Readers.{repeat_more}
use Rattle.point_reader.specs.Loading.{Lacks}
use Rattle.point_reader.specs.Promises.{Any}

module _ {A : Type 0} where
  pub refused_lacks : (P : A → Type 0) {x : Result (Read A)} {k : ℕ} → x ≡ refused k → Lacks P x
  refused_lacks P e r f p = refused_accepted (sym e ∙ f)

  -- what returns a value without P
  pub return_lacks : (P : A → Type 0) {x : Result (Read A)} {a : A} (ys : List ℕ) → x ≡ return a ys → (P a → ⊥) → Lacks P x
  unfolding return
  return_lacks P ys e n r f p = n (subst (λ (z : Read A). P z.value) (sym (accepted_injective (sym e ∙ f))) p)

module _ {A C : Type 0} (p : Reader A) (k : A → Reader C) (xs : List ℕ) where
  -- the first lacks P, which the value of both asks for
  pub first_lacks : (P : A → Type 0) (Q : C → Type 0) → Lacks P (p xs) →
      ((a : A) (ys : List ℕ) (r : Read C) → k a ys ≡ accepted r → Q r.value → P a) → Lacks Q ((p >>= k) xs)
  first_lacks P Q n h r e q = let (a, f, g) = bind_accepted p k xs r e in n a f (h a.value a.left r g q)

  -- the first accepts nothing
  pub first_none : (Q : C → Type 0) → Lacks Any (p xs) → Lacks Q ((p >>= k) xs)
  first_none Q n = first_lacks Any Q n (λ a ys r e q. tt)

  -- the second lacks Q
  pub second_lacks : (Q : C → Type 0) (a : A) (ys : List ℕ) → p xs ≡ return a ys → Lacks Q (k a ys) → Lacks Q ((p >>= k) xs)
  second_lacks Q a ys e n r f q = n r (sym (bind_return p k xs ys a e) ∙ f) q

-- REPEATED

module _ {A : Type 0} where
  prepend_accepted : (us : List A) (x : Result (Read (List A))) (r : Read (List A)) → prepend us x ≡ accepted r →
      (s : Read (List A)) × (x ≡ accepted s) × (r.value ≡ us ++ s.value)
  prepend_accepted us (refused e) r f = absurd (refused_accepted f)
  prepend_accepted us (accepted s) r f = (s, refl, ap (λ (z : Read (List A)). z.value) (sym (accepted_injective f)))

  -- of n + 1 that are read, the first
  repeat_first : (p : Reader A) (n : ℕ) (xs : List ℕ) (r : Read (List A)) → repeat (suc n) p xs ≡ accepted r →
      (a : Read A) × (as' : List A) × (p xs ≡ accepted a) × (r.value ≡ a.value ∷ as')
  unfolding repeat
  repeat_first p n xs r e =
      let (a, f, g) = bind_accepted p (λ a. repeat n p >>= (λ as'. return (a ∷ as'))) xs r e in
      let (b, s, t) = bind_accepted (repeat n p) (λ as'. return (a.value ∷ as')) a.left r g in
      (a, b.value, f, return_accepted (a.value ∷ b.value) b.left r (λ z. z.value ≡ a.value ∷ b.value) t refl)

  -- n are read and the next lacks P, which the values of m ask for
  pub repeat_lacks : (p : Reader A) (P : A → Type 0) (Q : List A → Type 0) (n m : ℕ) (xs ys : List ℕ) (as' : List A) →
      repeat n p xs ≡ return as' ys → n < m → Lacks P (p ys) → ((us vs : List A) (a : A) → Q (us ++ (a ∷ vs)) → P a) → Lacks Q (repeat m p xs)
  unfolding return
  repeat_lacks p P Q n m xs ys as' e l k h r f q =
      let i : m ≡ n + suc (m - n - 1) = omega arith in
      let g : prepend as' (repeat (suc (m - n - 1)) p ys) ≡ accepted r =
      sym (repeat_more p n (suc (m - n - 1)) xs (record { value = as'; left = ys }) e) ∙ ap (λ (j : ℕ). repeat j p xs) (sym i) ∙ f in
      let (s, t, u) = prepend_accepted as' (repeat (suc (m - n - 1)) p ys) r g in
      let (a, bs, v, w) = repeat_first p (m - n - 1) ys s t in
      k a v (h as' bs a.value (subst Q (u ∙ ap (λ (zs : List A). as' ++ zs) w) q))

  -- how many are read
  pub repeat_length : (p : Reader A) (n : ℕ) (xs : List ℕ) (r : Read (List A)) → repeat n p xs ≡ accepted r → length r.value ≡ n
  unfolding repeat
  repeat_length p zero xs r e = return_accepted [] xs r (λ z. length z.value ≡ 0) e refl
  repeat_length p (suc n) xs r e =
      let (a, f, g) = bind_accepted p (λ a. repeat n p >>= (λ as'. return (a ∷ as'))) xs r e in
      let (b, s, t) = bind_accepted (repeat n p) (λ as'. return (a.value ∷ as')) a.left r g in
      return_accepted (a.value ∷ b.value) b.left r (λ z. length z.value ≡ suc n) t (ap suc (repeat_length p n a.left b s))

-- one of all
pub all_one : {A : Type 0} (P : A → Type 0) (us vs : List A) (a : A) → All P (us ++ (a ∷ vs)) → P a
all_one P [] vs a h = h.0
all_one P (u ∷ us) vs a h = all_one P us vs a h.1
