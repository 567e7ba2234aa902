-- The sizes of fee, cuts, remainders and parts, which are those of amounts without a sign: the net amount is a sign and m cents. Assumes nothing.
use mathlib.Core.Bool.{Bool, true, false}
use mathlib.Core.List.{List, [], ◌∷◌, map}
use mathlib.Core.Logic.{◌⊎◌, inl, inr, ◌≢◌}
use mathlib.Core.Path.{◌≡◌, refl, sym, ap, ◌∙◌}
use Prim.Native.Nat.{ℕ, zero, suc, ◌+◌, ◌*◌, ◌-◌, ◌/◌, ◌%◌, ◌≤◌, ◌<◌}
use native.Mathlib.Nat.{mul-zero, mul-add, mul-le-mul_left, div-add-mod', mod-lt}
use native.Mathlib.Omega.{arith}
use lib.Dec.{eqb, ltb}
use lib.IntN.{ℤ, pos, negsuc, nat_abs, ◌+ℤ◌, ◌-ℤ◌}
use lib.Signed.{quot_z, rem_z}
use lib.ListN.{length, get_or}
use Rattle.paper.proofs.Tests.{ltb_cases, ltb_less, eqb_cases}
use Rattle.fees.specs.Fees.{with_sign, fee, net_of, sum, cut, rest, left, rest_of, how_many, comes_before, gets_one, part, listed, parts, total}
use Rattle.fees.proofs.Signs.{size_of, sign_size, times, quotient, remainder, plus, minus, sum_snoc}
use Rattle.fees.proofs.Counting.{bit, same_count, fewer, first_ones, comes, owners_order}

-- THE FEE

pub fee_size : ℕ → ℕ → ℕ
fee_size n rate = (n * rate + 5000) / 10000

pub fee_size_is : (n rate : ℕ) → (n * rate + 5000) / 10000 ≡ fee_size n rate
unfolding fee_size
fee_size_is n rate = refl

-- nearest, halves up
pub fee_near : (n rate : ℕ) → (fee_size n rate * 10000 ≤ n * rate + 5000) × (n * rate + 5000 < fee_size n rate * 10000 + 10000)
unfolding fee_size
fee_near n rate =
    let e : (n * rate + 5000) / 10000 * 10000 + (n * rate + 5000) % 10000 ≡ n * rate + 5000 = div-add-mod' (n * rate + 5000) 10000 in
    let l : (n * rate + 5000) % 10000 < 10000 = mod-lt (n * rate + 5000) (omega arith) in
    (omega arith, omega arith)

pub fee_small : (n rate : ℕ) → rate ≤ 10000 → fee_size n rate ≤ n
fee_small n rate h =
    let p : n * rate ≤ n * 10000 = mul-le-mul_left n h in
    omega (arith, fee_near n rate)

pub fee_is : (amount : ℤ) (rate : ℕ) → fee amount rate ≡ with_sign amount (fee_size (nat_abs amount) rate)
unfolding fee fee_size
fee_is amount rate = refl

pub net_is : (amount : ℤ) (rate : ℕ) → rate ≤ 10000 → net_of amount rate ≡ with_sign amount (nat_abs amount - fee_size (nat_abs amount) rate)
net_is amount rate h =
    ap (λ (z : ℤ). z -ℤ fee amount rate) (sym (size_of amount))
    ∙ ap (λ (z : ℤ). with_sign amount (nat_abs amount) -ℤ z) (fee_is amount rate)
    ∙ minus amount (nat_abs amount) (fee_size (nat_abs amount) rate) (fee_small (nat_abs amount) rate h)

-- CUTS AND REMAINDERS

pub cut_is : (a : ℤ) (m s : ℕ) → cut (with_sign a m) s ≡ with_sign a (m * s / 10000)
unfolding cut
cut_is a m s = ap (λ (z : ℤ). quot_z z (pos 10000)) (times a m s) ∙ quotient a (m * s) 10000

pub rest_is : (a : ℤ) (m s : ℕ) → rest (with_sign a m) s ≡ m * s % 10000
unfolding rest
rest_is a m s = ap (λ (z : ℤ). nat_abs (rem_z z (pos 10000))) (times a m s) ∙ ap nat_abs (remainder a (m * s) 9999) ∙ sign_size a (m * s % 10000)

pub cuts : ℕ → List ℕ → ℕ
cuts m [] = 0
cuts m (s ∷ ss) = m * s / 10000 + cuts m ss

rests : ℕ → List ℕ → ℕ
rests m [] = 0
rests m (s ∷ ss) = m * s % 10000 + rests m ss

pub cuts_are : (a : ℤ) (m : ℕ) (ss : List ℕ) → sum (map (cut (with_sign a m)) ss) ≡ with_sign a (cuts m ss)
unfolding sum cuts with_sign
cuts_are (pos k) m [] = refl
cuts_are (negsuc k) m [] = refl
cuts_are a m (s ∷ ss) =
    ap (λ (z : ℤ). z +ℤ sum (map (cut (with_sign a m)) ss)) (cut_is a m s)
    ∙ ap (λ (z : ℤ). with_sign a (m * s / 10000) +ℤ z) (cuts_are a m ss)
    ∙ plus a (m * s / 10000) (cuts m ss)

-- a net amount of m, cut and what is left of it
split : (m : ℕ) (ss : List ℕ) → cuts m ss * 10000 + rests m ss ≡ m * total ss
unfolding cuts rests total
split m [] = sym (mul-zero m)
split m (s ∷ ss) =
    let e : m * s / 10000 * 10000 + m * s % 10000 ≡ m * s = div-add-mod' (m * s) 10000 in
    let d : m * (s + total ss) ≡ m * s + m * total ss = mul-add m s (total ss) in
    omega (arith, split m ss)

rests_few : (m : ℕ) (ss : List ℕ) → rests m ss ≤ 9999 * length ss
unfolding rests
rests_few m [] = omega arith
rests_few m (s ∷ ss) = omega (arith, rests_few m ss, mod-lt (m * s) {m = 10000} (omega arith))

pub cuts_small : (m : ℕ) (ss : List ℕ) → total ss ≤ 10000 → cuts m ss ≤ m
cuts_small m ss h =
    let p : m * total ss ≤ m * 10000 = mul-le-mul_left m h in
    omega (arith, split m ss)

pub left_is : (a : ℤ) (m : ℕ) (ss : List ℕ) → total ss ≤ 10000 → left (with_sign a m) ss ≡ m - cuts m ss
unfolding left
left_is a m ss h =
    ap (λ (z : ℤ). nat_abs (with_sign a m -ℤ z)) (cuts_are a m ss)
    ∙ ap nat_abs (minus a m (cuts m ss) (cuts_small m ss h))
    ∙ sign_size a (m - cuts m ss)

-- fewer cents are left than there are owners
pub left_few : (m : ℕ) (ss : List ℕ) → total ss ≡ 10000 → m - cuts m ss < length ss
unfolding total
left_few m [] h = absurd (omega arith)
left_few m (s ∷ ss) h =
    let p : m * total (s ∷ ss) ≡ m * 10000 = ap (λ (t : ℕ). m * t) h in
    omega (arith, split m (s ∷ ss), rests_few m (s ∷ ss))

-- PARTS

pub gets : ℕ → List ℕ → ℕ → Bool
gets m ss i = ltb (how_many (λ j. comes_before (λ k. m * get_or ss k 0 % 10000) j i) (length ss)) (m - cuts m ss)

pub part_size : ℕ → List ℕ → ℕ → ℕ
part_size m ss i = m * get_or ss i 0 / 10000 + bit (gets m ss i)

before_same : (f g : ℕ → ℕ) → ((k : ℕ) → f k ≡ g k) → (j i : ℕ) → comes_before f j i ≡ comes_before g j i
unfolding comes_before
before_same f g h j i = rw (h j, h i)

module _ (a : ℤ) (m : ℕ) (ss : List ℕ) (h : total ss ≤ 10000) where
  pub gets_is : (i : ℕ) → gets_one (with_sign a m) ss i ≡ gets m ss i
  unfolding gets_one gets rest_of
  gets_is i =
      ap (λ (n : ℕ). ltb n (left (with_sign a m) ss))
      (same_count _ _ (length ss) (λ j l. before_same (rest_of (with_sign a m) ss) (λ k. m * get_or ss k 0 % 10000) (λ k. rest_is a m (get_or ss k 0)) j i))
      ∙ ap (λ (n : ℕ). ltb (how_many (λ j. comes_before (λ k. m * get_or ss k 0 % 10000) j i) (length ss)) n) (left_is a m ss h)

  pub part_is : (i : ℕ) → part a (with_sign a m) ss i ≡ with_sign a (part_size m ss i)
  unfolding part part_size
  part_is i =
      ap (λ (z : ℤ). z +ℤ with_sign a (bit (gets_one (with_sign a m) ss i))) (cut_is a m (get_or ss i 0))
      ∙ ap (λ (b : Bool). with_sign a (m * get_or ss i 0 / 10000) +ℤ with_sign a (bit b)) (gets_is i)
      ∙ plus a (m * get_or ss i 0 / 10000) (bit (gets m ss i))

pub listed_same : (f g : ℕ → ℤ) (n : ℕ) → ((i : ℕ) → i < n → f i ≡ g i) → listed f n ≡ listed g n
unfolding listed
listed_same f g zero h = refl
listed_same f g (suc n) h =
    let e : listed f n ≡ listed g n = listed_same f g n (λ i l. h i (omega arith)) in
    let d : f n ≡ g n = h n (omega arith) in
    cc

pub parts_are : (a : ℤ) (m : ℕ) (ss : List ℕ) → total ss ≤ 10000 →
    parts a (with_sign a m) ss ≡ listed (λ i. with_sign a (part_size m ss i)) (length ss)
unfolding parts
parts_are a m ss h = listed_same _ _ (length ss) (λ i l. part_is a m ss h i)

-- SUMS OF PARTS

pub sum_below : (ℕ → ℕ) → ℕ → ℕ
sum_below f zero = 0
sum_below f (suc n) = sum_below f n + f n

-- from the front
sum_front : (f : ℕ → ℕ) (n : ℕ) → sum_below f (suc n) ≡ f 0 + sum_below (λ i. f (suc i)) n
unfolding sum_below
sum_front f zero = omega arith
sum_front f (suc n) = omega (arith, sum_front f n)

one_of_sum : (f : ℕ → ℕ) (n i : ℕ) → i < n → f i ≤ sum_below f n
unfolding sum_below
one_of_sum f zero i l = absurd (omega arith)
one_of_sum f (suc n) i l = go (eqb_cases i n) (one_of_sum f n i)
  where
    go : ((eqb i n ≡ true) × (i ≡ n)) ⊎ ((eqb i n ≡ false) × (i ≢ n)) → (i < n → f i ≤ sum_below f n) → f i ≤ sum_below f n + f n
    go (inl e) r = rw e.1 (omega arith)
    go (inr e) r = omega (arith, r (omega (arith, e.1)))

cuts_below : (m : ℕ) (ss : List ℕ) → sum_below (λ i. m * get_or ss i 0 / 10000) (length ss) ≡ cuts m ss
unfolding cuts sum_below
cuts_below m [] = refl
cuts_below m (s ∷ ss) = sum_front (λ i. m * get_or (s ∷ ss) i 0 / 10000) (length ss) ∙ ap (λ (n : ℕ). m * s / 10000 + n) (cuts_below m ss)

rests_below : (m : ℕ) (ss : List ℕ) → sum_below (λ i. m * get_or ss i 0 % 10000) (length ss) ≡ rests m ss
unfolding rests sum_below
rests_below m [] = refl
rests_below m (s ∷ ss) = sum_front (λ i. m * get_or (s ∷ ss) i 0 % 10000) (length ss) ∙ ap (λ (n : ℕ). m * s % 10000 + n) (rests_below m ss)

-- the remainders together are at most 9,999 for each that is not 0
rests_some : (f : ℕ → ℕ) (n : ℕ) → ((i : ℕ) → f i ≤ 9999) → sum_below f n ≤ 9999 * how_many (λ i. ltb 0 (f i)) n
unfolding sum_below how_many
rests_some f zero h = omega arith
rests_some f (suc n) h = go (ltb_cases 0 (f n)) (rests_some f n h)
  where
    go : ((ltb 0 (f n) ≡ true) × (0 < f n)) ⊎ ((ltb 0 (f n) ≡ false) × (f n ≤ 0)) → sum_below f n ≤ 9999 * how_many (λ i. ltb 0 (f i)) n →
        sum_below f n + f n ≤ 9999 * (how_many (λ i. ltb 0 (f i)) n + bit (ltb 0 (f n)))
    go (inl p) r = rw p.0 (omega (arith, h n))
    go (inr p) r = rw p.0 (omega (arith, p.1))

-- so the cents left go to remainders that are not 0
pub gets_some : (m : ℕ) (ss : List ℕ) (i : ℕ) → total ss ≡ 10000 → gets m ss i ≡ true → 0 < m * get_or ss i 0 % 10000
unfolding gets
gets_some m ss i t g = go (ltb_cases 0 (f i))
  where
    f : ℕ → ℕ
    f k = m * get_or ss k 0 % 10000

    go : ((ltb 0 (f i) ≡ true) × (0 < f i)) ⊎ ((ltb 0 (f i) ≡ false) × (f i ≤ 0)) → 0 < f i
    go (inl p) = p.1
    go (inr p) =
        let all : m * total ss ≡ m * 10000 = ap (λ (x : ℕ). m * x) t in
        let some_first : how_many (λ j. ltb 0 (f j)) (length ss) ≤ how_many (λ j. comes_before f j i) (length ss) =
        fewer _ _ (length ss) (λ j e. comes f j i (inl (omega (arith, p.1, ltb_less 0 (f j) e)))) in
        let low : sum_below f (length ss) ≤ 9999 * how_many (λ j. ltb 0 (f j)) (length ss) =
        rests_some f (length ss) (λ k. omega (arith, mod-lt (m * get_or ss k 0) {m = 10000} (omega arith))) in
        let r : how_many (λ j. comes_before f j i) (length ss) < m - cuts m ss = ltb_less _ _ g in
        omega (arith, split m ss, rests_below m ss)

-- less than a cent off, either way
pub size_near : (m : ℕ) (ss : List ℕ) (i : ℕ) → total ss ≡ 10000 →
    part_size m ss i * 10000 - m * get_or ss i 0 + (m * get_or ss i 0 - part_size m ss i * 10000) < 10000
unfolding part_size
size_near m ss i t = go (gets m ss i) (gets_some m ss i t)
  where
    go : (b : Bool) → (b ≡ true → 0 < m * get_or ss i 0 % 10000) →
        (m * get_or ss i 0 / 10000 + bit b) * 10000 - m * get_or ss i 0 + (m * get_or ss i 0 - (m * get_or ss i 0 / 10000 + bit b) * 10000) < 10000
    go true f =
        let e : m * get_or ss i 0 / 10000 * 10000 + m * get_or ss i 0 % 10000 ≡ m * get_or ss i 0 = div-add-mod' (m * get_or ss i 0) 10000 in
        omega (arith, f refl)
    go false f =
        let e : m * get_or ss i 0 / 10000 * 10000 + m * get_or ss i 0 % 10000 ≡ m * get_or ss i 0 = div-add-mod' (m * get_or ss i 0) 10000 in
        omega (arith, mod-lt (m * get_or ss i 0) {m = 10000} (omega arith))

sums_apart : (f : ℕ → ℕ) (p : ℕ → Bool) (n : ℕ) → sum_below (λ i. f i + bit (p i)) n ≡ sum_below f n + how_many p n
unfolding sum_below how_many
sums_apart f p zero = refl
sums_apart f p (suc n) = omega (arith, sums_apart f p n)

-- the parts of m cents are m cents
pub sizes_add_up : (m : ℕ) (ss : List ℕ) → total ss ≡ 10000 → sum_below (part_size m ss) (length ss) ≡ m
unfolding part_size gets
sizes_add_up m ss h =
    let few : m - cuts m ss < length ss = left_few m ss h in
    let e : how_many (gets m ss) (length ss) ≡ m - cuts m ss =
    first_ones (comes_before (λ k. m * get_or ss k 0 % 10000)) (owners_order (λ k. m * get_or ss k 0 % 10000)) (length ss) (m - cuts m ss) (omega arith) in
    let s : cuts m ss ≤ m = cuts_small m ss (omega arith) in
    omega (arith, sums_apart (λ i. m * get_or ss i 0 / 10000) (gets m ss) (length ss), cuts_below m ss)

pub part_small : (m : ℕ) (ss : List ℕ) → total ss ≡ 10000 → (i : ℕ) → i < length ss → part_size m ss i ≤ m
part_small m ss h i l = omega (arith, one_of_sum (part_size m ss) (length ss) i l, sizes_add_up m ss h)

pub signed_sum : (a : ℤ) (f : ℕ → ℕ) (n : ℕ) → sum (listed (λ i. with_sign a (f i)) n) ≡ with_sign a (sum_below f n)
unfolding sum listed sum_below with_sign
signed_sum (pos k) f zero = refl
signed_sum (negsuc k) f zero = refl
signed_sum a f (suc n) =
    sum_snoc (listed (λ i. with_sign a (f i)) n) (with_sign a (f n))
    ∙ ap (λ (z : ℤ). z +ℤ with_sign a (f n)) (signed_sum a f n)
    ∙ plus a (sum_below f n) (f n)
