-- Laws of a symbol's record: its mark by the bit for it, and what is read of a list of them. Assumes nothing.
use mathlib.Core.Bool.{true, false}
use mathlib.Core.List.{List, [], ◌∷◌, map}
use mathlib.Core.Path.{◌≡◌, refl, ap, ◌∙◌}
use Prim.Native.Nat.{ℕ, zero, suc, ◌/◌, ◌%◌, ◌≤◌, ◌<◌}
use native.Mathlib.Omega.{arith}
use borrow.Author.Tests.{eq-eqb, ne_eqb, eqb-false}
use lib.ListN.{length, get_or, take, drop, set, length-map, get_or-map}
use lib.Seq.{length-take-le, get_or-take}
use Rattle.symbol.specs.Record.{operator, marked, size, operators, marks, sizes}

pub operator_small : (x : ℕ) → operator x < 256
unfolding operator
operator_small x = omega arith

-- the mark by its bit
pub marked_bit : (x : ℕ) → x / 256 % 2 ≡ 1 → marked x ≡ true
unfolding marked
marked_bit x e = eq-eqb (x / 256 % 2) 1 e

pub unmarked_bit : (x : ℕ) → x / 256 % 2 ≡ 0 → marked x ≡ false
unfolding marked
unmarked_bit x e = ne_eqb (x / 256 % 2) 1 (λ f. omega arith)

pub bit_unmarked : (x : ℕ) → marked x ≡ false → x / 256 % 2 ≡ 0
unfolding marked
bit_unmarked x m = omega (arith, eqb-false (x / 256 % 2) 1 m)

pub same_bit : (x y : ℕ) → x / 256 % 2 ≡ y / 256 % 2 → marked x ≡ marked y
unfolding marked
same_bit x y e = rw e

-- of each symbol of a list one thing f: its operator, its mark or its size
module _ {A : Type 0} (f : ℕ → A) where
  -- of a part of a list, and of one with another symbol
  pub map_take : (n : ℕ) (xs : List ℕ) → map f (take n xs) ≡ take n (map f xs)
  map_take zero xs = refl
  map_take (suc n) [] = refl
  map_take (suc n) (x ∷ xs) = ap (λ (ys : List A). f x ∷ ys) (map_take n xs)

  pub map_drop : (n : ℕ) (xs : List ℕ) → map f (drop n xs) ≡ drop n (map f xs)
  map_drop zero xs = refl
  map_drop (suc n) [] = refl
  map_drop (suc n) (x ∷ xs) = map_drop n xs

  pub map_set : (xs : List ℕ) (i x : ℕ) → map f (set xs i x) ≡ set (map f xs) i (f x)
  map_set [] i x = refl
  map_set (y ∷ xs) zero x = refl
  map_set (y ∷ xs) (suc i) x = ap (λ (ys : List A). f y ∷ ys) (map_set xs i x)

  -- of the first n of a list: how many they are, and each
  pub front_length : (n : ℕ) (xs : List ℕ) → n ≤ length xs → length (map f (take n xs)) ≡ n
  front_length n xs h = length-map (take n xs) f ∙ length-take-le n xs h

  pub front_at : (n : ℕ) (xs : List ℕ) (i : ℕ) → i < n → get_or (map f (take n xs)) i (f 0) ≡ f (get_or xs i 0)
  front_at n xs i h = get_or-map f (take n xs) i 0 ∙ ap f (get_or-take n xs i 0 h)

-- one of a list's operators, of its marks, of its sizes
pub operator_at : (xs : List ℕ) (i : ℕ) → get_or (operators xs) i 0 ≡ operator (get_or xs i 0)
unfolding operator
operator_at xs i = get_or-map operator xs i 0

pub marked_at : (xs : List ℕ) (i : ℕ) → get_or (marks xs) i false ≡ marked (get_or xs i 0)
unfolding marked
marked_at xs i = get_or-map marked xs i 0

pub size_at : (xs : List ℕ) (i : ℕ) → get_or (sizes xs) i 0 ≡ size (get_or xs i 0)
unfolding size
size_at xs i = get_or-map size xs i 0

-- and of those of the first n
pub operator_front : (n : ℕ) (xs : List ℕ) (i : ℕ) → i < n → get_or (operators (take n xs)) i 0 ≡ operator (get_or xs i 0)
unfolding operator
operator_front = front_at operator

pub marked_front : (n : ℕ) (xs : List ℕ) (i : ℕ) → i < n → get_or (marks (take n xs)) i false ≡ marked (get_or xs i 0)
unfolding marked
marked_front = front_at marked

pub size_front : (n : ℕ) (xs : List ℕ) (i : ℕ) → i < n → get_or (sizes (take n xs)) i 0 ≡ size (get_or xs i 0)
unfolding size
size_front = front_at size
