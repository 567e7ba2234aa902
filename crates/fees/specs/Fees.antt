-- Fees and owners' shares (document 02, Change 12): the fee of an amount by the rate of the root's operator, the net amount split among owners, and what is
-- refused before. Amounts are cents, integers; rates and shares are ten-thousandths. Assumes nothing.
use Rattle.std.specs.Prelude.{Bool, false, List, [], ◌∷◌, ◌++◌, map, ℕ, zero, suc, ◌+◌, ◌*◌, ◌/◌, eqb, ltb, ℤ, pos, negsuc, neg_ℤ, nat_abs, ◌+ℤ◌, ◌-ℤ◌, ◌*ℤ◌, length, get_or, take, drop}
use Rattle.std.proofs.Math.Option.{Option, none, some}
use Rattle.std.specs.Int.Signed.{quot_z, rem_z}
use Rattle.paper.specs.Result.{Result, refused, accepted, if}
use Rattle.paper.specs.Page.{number}

-- THE FEE

-- n with the sign of z
unfoldable pub with_sign : ℤ → ℕ → ℤ
with_sign (pos m) n = pos n
with_sign (negsuc m) n = neg_ℤ (pos n)

-- amount × rate / 10,000 in whole cents, halves away from zero
unfoldable pub fee : ℤ → ℕ → ℤ
unfolding with_sign
fee amount rate = with_sign amount ((nat_abs amount * rate + 5000) / 10000)

abbrev pub net_of : ℤ → ℕ → ℤ
net_of amount rate = amount -ℤ fee amount rate

-- PARTS

unfoldable pub sum : List ℤ → ℤ
sum [] = pos 0
sum (z ∷ zs) = z +ℤ sum zs

-- of a net amount and an owner's share: the part, cut toward zero, and the size of the remainder
unfoldable pub cut : ℤ → ℕ → ℤ
cut net share = quot_z (net *ℤ pos share) (pos 10000)

unfoldable pub rest : ℤ → ℕ → ℕ
rest net share = nat_abs (rem_z (net *ℤ pos share) (pos 10000))

-- how many cents are left
unfoldable pub left : ℤ → List ℕ → ℕ
unfolding sum cut
left net shares = nat_abs (net -ℤ sum (map (cut net) shares))

-- of owner i
unfoldable pub rest_of : ℤ → List ℕ → ℕ → ℕ
unfolding rest
rest_of net shares i = rest net (get_or shares i 0)

-- how many of the numbers below n pass a test
unfoldable pub how_many : (ℕ → Bool) → ℕ → ℕ
how_many test zero = 0
how_many test (suc n) = how_many test n + if (test n) 1 0

-- does owner j come before owner i? Its remainder is larger in size, or equal and it is the lower owner
unfoldable pub comes_before : (ℕ → ℕ) → ℕ → ℕ → Bool
comes_before rests j i = if (eqb (rests j) (rests i)) (ltb j i) (ltb (rests i) (rests j))

-- the cents left go one each, to those who come first
unfoldable pub gets_one : ℤ → List ℕ → ℕ → Bool
unfolding how_many comes_before rest_of left
gets_one net shares i = ltb (how_many (λ j. comes_before (rest_of net shares) j i) (length shares)) (left net shares)

-- with the amount's sign
unfoldable pub part : ℤ → ℤ → List ℕ → ℕ → ℤ
unfolding cut gets_one with_sign
part amount net shares i = cut net (get_or shares i 0) +ℤ with_sign amount (if (gets_one net shares i) 1 0)

-- f 0, f 1, .. f (n - 1)
unfoldable pub listed : {A : Type 0} → (ℕ → A) → ℕ → List A
listed f zero = []
listed f (suc n) = listed f n ++ (f n ∷ [])

unfoldable pub parts : ℤ → ℤ → List ℕ → List ℤ
unfolding part listed
parts amount net shares = listed (part amount net shares) (length shares)

-- THE CHECKS

-- the table has two bytes for each operator from 0 up, the high one first
unfoldable pub rate_of : List ℕ → ℕ → Option ℕ
unfolding number
rate_of table operator = if (ltb (length table) (2 * operator + 2)) none (some (number 0 (take 2 (drop (2 * operator) table))))

-- a term's first byte is its root
unfoldable pub root_rate : List ℕ → List ℕ → Option ℕ
unfolding rate_of
root_rate [] table = none
root_rate (operator ∷ symbols) table = rate_of table operator

unfoldable pub total : List ℕ → ℕ
total [] = 0
total (s ∷ ss) = s + total ss

-- 1 to 16 owners whose shares total 10,000
unfoldable pub are_shares : List ℕ → Bool
unfolding total
are_shares shares = if (eqb (length shares) 0) false (if (ltb 16 (length shares)) false (eqb (total shares) 10000))

-- THE CHARGE

pub record Charge : Type 0 where
  pub fee : ℤ
  pub parts : List ℤ

-- by the root's rate, 23: it is missing or above 10,000, or the shares are not as they must be
unfoldable pub charge_by : Option ℕ → ℤ → List ℕ → Result Charge
unfolding are_shares fee parts
charge_by none amount shares = refused 23
charge_by (some rate) amount shares =
    if (ltb 10000 rate) (refused 23)
    (if (are_shares shares) (accepted (record { fee = fee amount rate; parts = parts amount (net_of amount rate) shares })) (refused 23))

-- first of all 22: the amount is outside minus 10^12 to 10^12
unfoldable pub charge : List ℕ → List ℕ → ℤ → List ℕ → Result Charge
unfolding charge_by root_rate
charge term table amount shares = if (ltb 1000000000000 (nat_abs amount)) (refused 22) (charge_by (root_rate term table) amount shares)
