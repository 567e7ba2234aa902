-- Bytes and numbers as they are read, and parts behind their length: there, or cut short. Assumes nothing.
use mathlib.Core.List.{List}
use mathlib.Core.Path.{◌≡◌, sym, ap, ap₂, ◌∙◌}
use Prim.Native.Nat.{ℕ, ◌+◌, ◌-◌, ◌≤◌, ◌<◌}
use native.Mathlib.Omega.{arith}
use borrow.Author.Tests.{eq-eqb, ne_eqb}
use lib.ListN.{length, take, drop, length-drop}
use lib.Seq.{drop-drop, take_all, length-take-le}
use Rattle.paper.specs.Result.{refused, accepted, return, refuse, then, ◌>>=◌}
use Rattle.paper.specs.Page.{number, read_bytes, read_number}
use Rattle.stream.specs.Promises.{read_counted}

module _ (n : ℕ) (xs : List ℕ) where
  bytes_there : n ≤ length xs → read_bytes n xs ≡ accepted (record { value = take n xs; left = drop n xs })
  unfolding read_bytes return
  bytes_there h = rw (eq-eqb _ _ (length-take-le n xs h))

  bytes_cut : length xs < n → read_bytes n xs ≡ refused 17
  unfolding read_bytes refuse
  bytes_cut h =
      let short : length (take n xs) ≡ n → ⊥ = λ e. omega (arith, ap length (take_all n xs (omega arith))) in
      rw (ne_eqb _ _ short)

  pub number_there : n ≤ length xs → read_number n xs ≡ accepted (record { value = number 0 (take n xs); left = drop n xs })
  unfolding read_number ◌>>=◌ then return
  number_there h = rw (bytes_there h)

  pub number_cut : length xs < n → read_number n xs ≡ refused 17
  unfolding read_number ◌>>=◌ then
  number_cut h = rw (bytes_cut h)

module _ (xs : List ℕ) where
  counted_short : length xs < 2 → read_counted xs ≡ refused 17
  unfolding read_counted ◌>>=◌ then
  counted_short h = rw (number_cut 2 xs h)

  module _ (h : 2 ≤ length xs) where
    counted_cut : length xs - 2 < number 0 (take 2 xs) → read_counted xs ≡ refused 17
    unfolding read_counted ◌>>=◌ then
    counted_cut k = rw (number_there 2 xs h) (bytes_cut (number 0 (take 2 xs)) (drop 2 xs) (omega (arith, length-drop 2 xs)))

    counted_there : (n : ℕ) → n ≡ number 0 (take 2 xs) → n ≤ length xs - 2 →
        read_counted xs ≡ accepted (record { value = take n (drop 2 xs); left = drop n (drop 2 xs) })
    unfolding read_counted ◌>>=◌ then
    counted_there n e k =
        rw (number_there 2 xs h, ← e) (bytes_there n (drop 2 xs) (omega (arith, length-drop 2 xs)))

-- the same at a position of the input
pub counted_none : (input : List ℕ) (at : ℕ) → length input - at < 2 → read_counted (drop at input) ≡ refused 17
counted_none input at h = counted_short (drop at input) (omega (arith, length-drop at input))

module _ (input : List ℕ) (at : ℕ) (h : at + 2 ≤ length input) where
  pub counted_few : (n : ℕ) → n ≡ number 0 (take 2 (drop at input)) → length input - (at + 2) < n → read_counted (drop at input) ≡ refused 17
  counted_few n e k =
      counted_cut (drop at input) (omega (arith, length-drop at input)) (omega (arith, length-drop at input))

  pub counted_at : (n e : ℕ) → n ≡ number 0 (take 2 (drop at input)) → e ≡ at + 2 + n → e ≤ length input →
      read_counted (drop at input) ≡ accepted (record { value = take (e - (at + 2)) (drop (at + 2) input); left = drop e input })
  counted_at n e f g k =
      let s : n ≡ e - (at + 2) = omega arith in
      counted_there (drop at input) (omega (arith, length-drop at input)) n f (omega (arith, length-drop at input))
      ∙ ap (λ (l : List ℕ). accepted (record { value = take n l; left = drop n l })) (drop-drop 2 at input)
      ∙ ap₂ (λ (a b : List ℕ). accepted (record { value = a; left = b })) (ap (λ (k : ℕ). take k (drop (at + 2) input)) s)
      (drop-drop n (at + 2) input ∙ ap (λ (k : ℕ). drop k input) (sym g))
