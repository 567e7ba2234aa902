-- How lines that stand one after another are split: the next one, or none. Assumes nothing.
use mathlib.Core.Bool.{Bool, true, false}
use mathlib.Core.List.{List, [], ◌∷◌}
use mathlib.Core.Path.{◌≡◌, refl, sym, ap, ap₂, ◌∙◌}
use Prim.Native.Nat.{ℕ, zero, suc, ◌+◌, ◌≤◌, ◌<◌}
use native.Mathlib.Omega.{arith}
use lib.Dec.{eqb}
use lib.ListN.{length, take, drop, length-take, length-drop}
use lib.Seq.{drop-drop}
use borrow.Author.Tests.{eqb-true}
use Rattle.paper.specs.Result.{Result, refused, accepted, Read, if, return, refuse}
use Rattle.paper.specs.Page.{number, read_bytes, read_number}
use Rattle.paper.proofs.Readers.{accepted_injective, refused_accepted, bind_accepted}
use Rattle.stream.specs.Promises.{read_counted}
use Rattle.batch.specs.Lines.{whole_lines, lines_of}

-- WHAT WAS READ

bytes_read : (n : ℕ) (xs : List ℕ) (r : Read (List ℕ)) → read_bytes n xs ≡ accepted r → (length r.value ≡ n) × (r.left ≡ drop n xs) × (n ≤ length xs)
unfolding read_bytes return refuse
bytes_read n xs r e = go (eqb (length (take n xs)) n) refl e
  where
    go : (b : Bool) → eqb (length (take n xs)) n ≡ b → if b (accepted (record { value = take n xs; left = drop n xs })) (refused 17) ≡ accepted r →
        (length r.value ≡ n) × (r.left ≡ drop n xs) × (n ≤ length xs)
    go true t f =
        let p : length (take n xs) ≡ n = eqb-true _ _ t in
        let q = accepted_injective f in
        (sym (ap (λ (s : Read (List ℕ)). length s.value) q) ∙ p, sym (ap (λ (s : Read (List ℕ)). s.left) q), omega (arith, p, length-take n xs))
    go false t f = absurd (refused_accepted f)

number_read : (n : ℕ) (xs : List ℕ) (r : Read ℕ) → read_number n xs ≡ accepted r → (r.left ≡ drop n xs) × (n ≤ length xs)
unfolding read_number return
number_read n xs r e =
    let (bs, f, g) = bind_accepted (read_bytes n) (λ bs. return (number 0 bs)) xs r e in
    let (_, l, h) = bytes_read n xs bs f in
    (sym (ap (λ (s : Read ℕ). s.left) (accepted_injective g)) ∙ l, h)

-- a line takes its own bytes and two more, and what is left stands behind them
module _ (xs : List ℕ) (r : Read (List ℕ)) (e : read_counted xs ≡ accepted r) where
  counted_read : (r.left ≡ drop (2 + length r.value) xs) × (2 + length r.value ≤ length xs)
  unfolding read_counted
  counted_read =
      let (n, f, g) = bind_accepted (read_number 2) read_bytes xs r e in
      let (l, h) = number_read 2 xs n f in
      let (v, m, j) = bytes_read n.value n.left r g in
      (m ∙ ap₂ (λ (k : ℕ) (ys : List ℕ). drop k ys) (sym v) l ∙ drop-drop (length r.value) 2 xs, omega (arith, v, h, j, ap length l, length-drop 2 xs))

  pub counted_left : r.left ≡ drop (2 + length r.value) xs
  counted_left = counted_read.0

  pub counted_long : length r.left + 2 + length r.value ≡ length xs
  counted_long = omega (arith, ap length counted_left, counted_read.1, length-drop (2 + length r.value) xs)

-- MORE FUEL THAN BYTES

lines_cut : (k n : ℕ) (xs : List ℕ) → read_counted xs ≡ refused n → whole_lines k xs ≡ []
unfolding whole_lines
lines_cut zero n xs e = refl
lines_cut (suc k) n xs e = rw (e, whole_lines)

lines_more : (k : ℕ) (xs : List ℕ) (r : Read (List ℕ)) → read_counted xs ≡ accepted r → whole_lines (suc k) xs ≡ r.value ∷ whole_lines k r.left
unfolding whole_lines
lines_more k xs r e = rw (e, whole_lines)

nothing_read : read_counted [] ≡ refused 17
unfolding read_counted
nothing_read = refl

no_bytes : (k : ℕ) (xs : List ℕ) → length xs ≤ 0 → whole_lines k xs ≡ []
no_bytes k [] h = lines_cut k 17 [] nothing_read
no_bytes k (x ∷ xs) h = absurd (omega arith)

enough : (k m : ℕ) (xs : List ℕ) → length xs ≤ k → length xs ≤ m → whole_lines k xs ≡ whole_lines m xs
enough zero m xs h j = no_bytes zero xs h ∙ sym (no_bytes m xs h)
enough (suc k) zero xs h j = no_bytes (suc k) xs j ∙ sym (no_bytes zero xs j)
enough (suc k) (suc m) xs h j = go (enough k m) (read_counted xs) refl
  where
    go : ((ys : List ℕ) → length ys ≤ k → length ys ≤ m → whole_lines k ys ≡ whole_lines m ys) → (x : Result (Read (List ℕ))) → read_counted xs ≡ x →
        whole_lines (suc k) xs ≡ whole_lines (suc m) xs
    go rest (refused n) e = lines_cut (suc k) n xs e ∙ sym (lines_cut (suc m) n xs e)
    go rest (accepted r) e =
        let l = counted_long xs r e in
        lines_more k xs r e
        ∙ ap (λ (ls : List (List ℕ)). r.value ∷ ls) (rest r.left (omega arith) (omega arith))
        ∙ sym (lines_more m xs r e)

-- THE NEXT LINE, OR NONE

pub lines_none : (xs : List ℕ) (k : ℕ) → read_counted xs ≡ refused k → lines_of xs ≡ []
lines_none xs k e = lines_cut (length xs) k xs e

pub lines_next : (xs : List ℕ) (r : Read (List ℕ)) → read_counted xs ≡ accepted r → length r.left < length xs → lines_of xs ≡ r.value ∷ lines_of r.left
lines_next xs r e h = go (length xs) refl
  where
    go : (n : ℕ) → length xs ≡ n → whole_lines n xs ≡ r.value ∷ lines_of r.left
    go zero f = absurd (omega arith)
    go (suc n) f = lines_more n xs r e ∙ ap (λ (ls : List (List ℕ)). r.value ∷ ls) (enough n (length r.left) r.left (omega arith) (omega arith))

pub lines_empty : lines_of [] ≡ []
unfolding whole_lines
lines_empty = refl
