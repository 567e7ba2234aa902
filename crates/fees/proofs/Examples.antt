-- Fees and parts, computed (document 02, Change 12). Assumes nothing.
use mathlib.Core.List.{List, [], ◌∷◌}
use mathlib.Core.Path.{◌≡◌, refl}
use Prim.Native.Nat.{ℕ}
use lib.IntN.{ℤ, pos, negsuc}
use Rattle.paper.specs.Result.{Result, refused, accepted}
use Rattle.fees.specs.Fees.{Charge, charge}

-- operator 0 has no fee, 1 half a percent, 2 one half, 3 all, 4 more than that; of the rate of 5 one byte is there
pub table : List ℕ
table = 0 ∷ 0 ∷ 0 ∷ 50 ∷ 0x13 ∷ 0x88 ∷ 0x27 ∷ 0x10 ∷ 0x27 ∷ 0x11 ∷ 1 ∷ []

pub charged : ℤ → List ℤ → Result Charge
charged f ps = accepted (record { fee = f; parts = ps })

-- THE FEE

-- halves go away from zero, whatever the sign: 2.5 cents, and half a cent
pub half : charge (2 ∷ 0 ∷ []) table (pos 5) (10000 ∷ []) ≡ charged (pos 3) (pos 2 ∷ [])
unfolding charge table charged
half = refl

pub half_refunded : charge (2 ∷ 0 ∷ []) table (negsuc 4) (10000 ∷ []) ≡ charged (negsuc 2) (negsuc 1 ∷ [])
unfolding charge table charged
half_refunded = refl

pub half_a_cent : charge (1 ∷ []) table (pos 100) (10000 ∷ []) ≡ charged (pos 1) (pos 99 ∷ [])
unfolding charge table charged
half_a_cent = refl

pub half_a_cent_refunded : charge (1 ∷ []) table (negsuc 99) (10000 ∷ []) ≡ charged (negsuc 0) (negsuc 98 ∷ [])
unfolding charge table charged
half_a_cent_refunded = refl

-- 0.495 cents
pub below_half : charge (1 ∷ []) table (pos 99) (10000 ∷ []) ≡ charged (pos 0) (pos 99 ∷ [])
unfolding charge table charged
below_half = refl

-- an amount of 0, and an amount that is all fee
pub nothing : charge (3 ∷ []) table (pos 0) (9999 ∷ 1 ∷ []) ≡ charged (pos 0) (pos 0 ∷ pos 0 ∷ [])
unfolding charge table charged
nothing = refl

pub all_fee : charge (3 ∷ []) table (negsuc 6) (1 ∷ 9999 ∷ []) ≡ charged (negsuc 6) (pos 0 ∷ pos 0 ∷ [])
unfolding charge table charged
all_fee = refl

-- PARTS

-- remainders that are equal: the lower owners get the cents left, with the amount's sign
pub equal_remainders : charge (0 ∷ []) table (pos 2) (2500 ∷ 2500 ∷ 2500 ∷ 2500 ∷ []) ≡ charged (pos 0) (pos 1 ∷ pos 1 ∷ pos 0 ∷ pos 0 ∷ [])
unfolding charge table charged
equal_remainders = refl

pub equal_refunded : charge (0 ∷ []) table (negsuc 1) (2500 ∷ 2500 ∷ 2500 ∷ 2500 ∷ []) ≡ charged (pos 0) (negsuc 0 ∷ negsuc 0 ∷ pos 0 ∷ pos 0 ∷ [])
unfolding charge table charged
equal_refunded = refl

-- 0.5, 0.7 and 0.8 cents are cut off: the third owner gets the first of the cents left, the second the other
pub largest_first : charge (0 ∷ []) table (pos 10) (1500 ∷ 6700 ∷ 1800 ∷ []) ≡ charged (pos 0) (pos 1 ∷ pos 7 ∷ pos 2 ∷ [])
unfolding charge table charged
largest_first = refl

pub largest_refunded : charge (0 ∷ []) table (negsuc 9) (1500 ∷ 6700 ∷ 1800 ∷ []) ≡ charged (pos 0) (negsuc 0 ∷ negsuc 6 ∷ negsuc 1 ∷ [])
unfolding charge table charged
largest_refunded = refl

-- a share of 0 gets nothing; one owner gets all
pub share_of_zero : charge (0 ∷ []) table (pos 101) (5000 ∷ 0 ∷ 5000 ∷ []) ≡ charged (pos 0) (pos 51 ∷ pos 0 ∷ pos 50 ∷ [])
unfolding charge table charged
share_of_zero = refl

pub one_owner : charge (2 ∷ []) table (pos 101) (10000 ∷ []) ≡ charged (pos 51) (pos 50 ∷ [])
unfolding charge table charged
one_owner = refl

-- THE LIMITS

pub highest :
    charge (1 ∷ []) table (pos 1000000000000) (3333 ∷ 3333 ∷ 3334 ∷ [])
    ≡ charged (pos 5000000000) (pos 331633500000 ∷ pos 331633500000 ∷ pos 331733000000 ∷ [])
unfolding charge table charged
highest = refl

pub lowest :
    charge (1 ∷ []) table (negsuc 999999999999) (625 ∷ 625 ∷ 625 ∷ 625 ∷ 625 ∷ 625 ∷ 625 ∷ 625 ∷ 625 ∷ 625 ∷ 625 ∷ 625 ∷ 625 ∷ 625 ∷ 625 ∷ 625 ∷ [])
    ≡ charged (negsuc 4999999999) (negsuc 62187499999 ∷ negsuc 62187499999 ∷ negsuc 62187499999 ∷ negsuc 62187499999 ∷ negsuc 62187499999 ∷ negsuc 62187499999 ∷ negsuc 62187499999 ∷ negsuc 62187499999 ∷ negsuc 62187499999 ∷ negsuc 62187499999 ∷ negsuc 62187499999 ∷ negsuc 62187499999 ∷ negsuc 62187499999 ∷ negsuc 62187499999 ∷ negsuc 62187499999 ∷ negsuc 62187499999 ∷ [])
unfolding charge table charged
lowest = refl

-- 22 is told before 23
pub above : charge (5 ∷ []) table (pos 1000000000001) [] ≡ refused 22
unfolding charge table charged
above = refl

pub below : charge (5 ∷ []) table (negsuc 1000000000000) [] ≡ refused 22
unfolding charge table charged
below = refl

-- 23

-- no root; no rate, or half of one; a rate above 10,000
pub no_root : charge [] table (pos 1) (10000 ∷ []) ≡ refused 23
unfolding charge table charged
no_root = refl

pub no_rate : charge (6 ∷ []) table (pos 1) (10000 ∷ []) ≡ refused 23
unfolding charge table charged
no_rate = refl

pub half_a_rate : charge (5 ∷ 0 ∷ []) table (pos 1) (10000 ∷ []) ≡ refused 23
unfolding charge table charged
half_a_rate = refl

pub rate_above : charge (4 ∷ []) table (pos 1) (10000 ∷ []) ≡ refused 23
unfolding charge table charged
rate_above = refl

-- no owner, 17 of them; shares of 9,999 and of 10,001
pub no_owner : charge (0 ∷ []) table (pos 1) [] ≡ refused 23
unfolding charge table charged
no_owner = refl

pub seventeen : charge (0 ∷ []) table (pos 1) (0 ∷ 0 ∷ 0 ∷ 0 ∷ 0 ∷ 0 ∷ 0 ∷ 0 ∷ 0 ∷ 0 ∷ 0 ∷ 0 ∷ 0 ∷ 0 ∷ 0 ∷ 0 ∷ 10000 ∷ []) ≡ refused 23
unfolding charge table charged
seventeen = refl

pub shares_short : charge (0 ∷ []) table (pos 1) (9999 ∷ []) ≡ refused 23
unfolding charge table charged
shares_short = refl

pub shares_over : charge (0 ∷ []) table (pos 1) (9999 ∷ 2 ∷ []) ≡ refused 23
unfolding charge table charged
shares_over = refl
