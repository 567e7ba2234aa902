-- Laws of readers: sequences, and repeated reading from its end (what n readings answered, and one more). Assumes nothing.
use mathlib.Core.List.{List, [], ◌∷◌, ◌++◌}
use mathlib.Core.Path.{◌≡◌, refl, sym, ap, ◌∙◌}
use Prim.Native.Nat.{ℕ, zero, suc, ◌+◌, ◌-◌, ◌<◌}
use native.Mathlib.Nat.{zero-add, suc-add}
use native.Mathlib.Omega.{arith}
use Rattle.paper.specs.Result.{Result, refused, accepted, Read, Reader, return, then, ◌>>=◌, repeat}
use Rattle.strategy.proofs.Reading.{bind_refused, prepend, prepend_none}
use Rattle.paper.proofs.Readers.{return_accepted, bind_accepted, bind_return}

pub bind_assoc : {A B C : Type 0} (p : Reader A) (f : A → Reader B) (g : B → Reader C) (xs : List ℕ) → ((p >>= f) >>= g) xs ≡ (p >>= (λ a. f a >>= g)) xs
unfolding ◌>>=◌ then
bind_assoc p f g xs = go (p xs)
  where
    go : (x : Result (Read _)) → then (then x (λ r. f r.value r.left)) (λ r. g r.value r.left) ≡
        then x (λ r. then (f r.value r.left) (λ s. g s.value s.left))
    go (refused k) = refl
    go (accepted r) = refl

module _ {A : Type 0} where
  prepend_one : (a : A) (as' : List A) (x : Result (Read (List A))) →
      then (prepend as' x) (λ r. return (a ∷ r.value) r.left) ≡ prepend (a ∷ as') x
  unfolding then return
  prepend_one a as' (refused e) = refl
  prepend_one a as' (accepted r) = refl

  module _ (p : Reader A) where
    -- k readings behind n
    pub repeat_more : (n k : ℕ) (xs : List ℕ) (r : Read (List A)) → repeat n p xs ≡ accepted r → repeat (n + k) p xs ≡ prepend r.value (repeat k p r.left)
    unfolding repeat
    repeat_more zero k xs r e =
        ap (λ (i : ℕ). repeat i p xs) (zero-add k)
        ∙ return_accepted [] xs r (λ z. repeat k p xs ≡ prepend z.value (repeat k p z.left)) e (sym (prepend_none (repeat k p xs)))
    repeat_more (suc n) k xs r e =
        let (a, q, e₁) = bind_accepted p (λ a. repeat n p >>= (λ as'. return (a ∷ as'))) xs r e in
        let (b, s, e₂) = bind_accepted (repeat n p) (λ as'. return (a.value ∷ as')) a.left r e₁ in
        return_accepted (a.value ∷ b.value) b.left r (λ z. repeat (suc n + k) p xs ≡ prepend z.value (repeat k p z.left)) e₂
        (ap (λ (i : ℕ). repeat i p xs) (suc-add n k)
        ∙ bind_return p (λ a. repeat (n + k) p >>= (λ as'. return (a ∷ as'))) xs a.left a.value q
        ∙ ap (λ (x : Result (Read (List A))). then x (λ z. return (a.value ∷ z.value) z.left)) (repeat_more n k a.left b s)
        ∙ prepend_one a.value b.value (repeat k p b.left))

    module _ (n : ℕ) (xs ys : List ℕ) (as' : List A) (e : repeat n p xs ≡ return as' ys) where
      -- one more that is read, and one that is refused
      pub repeat_next : (a : A) (zs : List ℕ) → p ys ≡ return a zs → repeat (n + 1) p xs ≡ return (as' ++ (a ∷ [])) zs
      unfolding return repeat
      repeat_next a zs h =
          repeat_more n 1 xs (record { value = as'; left = ys }) e
          ∙ ap (prepend as') (bind_return p (λ a. repeat 0 p >>= (λ as'. return (a ∷ as'))) ys zs a h)

      pub repeat_stops : (m k : ℕ) → n < m → p ys ≡ refused k → repeat m p xs ≡ refused k
      unfolding return repeat
      repeat_stops m k l h =
          let f : m ≡ n + suc (m - n - 1) = omega arith in
          ap (λ (i : ℕ). repeat i p xs) f
          ∙ repeat_more n (suc (m - n - 1)) xs (record { value = as'; left = ys }) e
          ∙ ap (prepend as') (bind_refused p (λ a. repeat (m - n - 1) p >>= (λ as'. return (a ∷ as'))) ys k h)
