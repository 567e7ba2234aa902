-- Lists with a part replaced: what stands there, before it and behind it. Assumes nothing.
use mathlib.Core.List.{List, ◌++◌, append_assoc}
use mathlib.Core.Path.{◌≡◌, refl, sym, ap, ap₂, ◌∙◌}
use Prim.Native.Nat.{ℕ, ◌+◌, ◌-◌, ◌≤◌}
use native.Mathlib.Omega.{arith}
use lib.ListN.{length, take, drop, length-append, length-drop, take-append-drop}
use lib.Seq.{take_at, drop_at, drop-drop, take-append-le, drop-append-le, length-take-le}
use Rattle.bits.specs.Field.{splice}

-- a list in three parts, of which the middle one is replaced
pub splice_middle : (xs ys zs us : List ℕ) (at : ℕ) → length xs ≡ at → length us ≡ length ys →
    splice (xs ++ (ys ++ zs)) at us ≡ xs ++ (us ++ zs)
unfolding splice
splice_middle xs ys zs us at e f =
    let h : length (xs ++ ys) ≡ at + length us = length-append xs ys ∙ ap₂ (λ (i j : ℕ). i + j) e (sym f) in
    ap₂ (λ (k l : List ℕ). k ++ (us ++ l)) (take_at xs (ys ++ zs) at e)
    (ap (λ (l : List ℕ). drop (at + length us) l) (sym (append_assoc xs ys zs)) ∙ drop_at (xs ++ ys) zs (at + length us) h)

-- a part of the front does not see what follows
within : (a m : ℕ) (xs ys : List ℕ) → a + m ≤ length xs → take m (drop a (xs ++ ys)) ≡ take m (drop a xs)
within a m xs ys h = rw (drop-append-le a xs ys (omega arith), take-append-le m (drop a xs) ys (simp length-drop (omega arith)))

module _ (xs : List ℕ) (at : ℕ) (ys : List ℕ) (h : at + length ys ≤ length xs) where
  fits : length (take at xs) ≡ at
  fits = length-take-le at xs (omega arith)

  pub splice_here : drop at (splice xs at ys) ≡ ys ++ drop (at + length ys) xs
  unfolding splice
  splice_here = drop_at (take at xs) (ys ++ drop (at + length ys) xs) at fits

  pub splice_up_to : take (at + length ys) (splice xs at ys) ≡ take at xs ++ ys
  unfolding splice
  splice_up_to =
      ap (take (at + length ys)) (sym (append_assoc (take at xs) ys (drop (at + length ys) xs)))
      ∙ take_at (take at xs ++ ys) (drop (at + length ys) xs) (at + length ys) (length-append (take at xs) ys ∙ ap (λ (k : ℕ). k + length ys) fits)

  pub splice_before : (a m : ℕ) → a + m ≤ at → take m (drop a (splice xs at ys)) ≡ take m (drop a xs)
  unfolding splice
  splice_before a m k =
      within a m (take at xs) (ys ++ drop (at + length ys) xs) (rw fits k)
      ∙ sym (within a m (take at xs) (drop at xs) (rw fits k))
      ∙ ap (λ (l : List ℕ). take m (drop a l)) (take-append-drop at xs)

  pub splice_behind : (a : ℕ) → at + length ys ≤ a → drop a (splice xs at ys) ≡ drop a xs
  splice_behind a k =
      let e : a ≡ at + (length ys + (a - (at + length ys))) = omega arith in
      let f : at + length ys + (a - (at + length ys)) ≡ a = omega arith in
      ap (λ (i : ℕ). drop i (splice xs at ys)) e
      ∙ sym (drop-drop (length ys + (a - (at + length ys))) at (splice xs at ys))
      ∙ ap (drop (length ys + (a - (at + length ys)))) splice_here
      ∙ sym (drop-drop (a - (at + length ys)) (length ys) (ys ++ drop (at + length ys) xs))
      ∙ ap (drop (a - (at + length ys))) (drop_at ys (drop (at + length ys) xs) (length ys) refl)
      ∙ drop-drop (a - (at + length ys)) (at + length ys) xs
      ∙ ap (λ (i : ℕ). drop i xs) f
