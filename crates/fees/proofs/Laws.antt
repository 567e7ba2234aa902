-- What holds of every charge (document 02, Change 12): fee and parts add up to the amount, a refund is the payment with the signs turned, the fee is the
-- nearest with halves away from zero, each part is within a cent of its exact share, the cents left are fewer than the owners, and no product passes an i64.
-- Assumes nothing.
use mathlib.Core.Bool.{Bool, true, false, true≢false}
use mathlib.Core.List.{List, [], ◌∷◌, ◌++◌, map, map-append}
use mathlib.Core.Logic.{◌⊎◌, inl, inr, ◌≢◌}
use mathlib.Core.Option.{Option, none, some}
use mathlib.Core.Path.{◌≡◌, refl, sym, ap, ◌∙◌}
use Prim.Native.Nat.{ℕ, zero, suc, ◌+◌, ◌*◌, ◌-◌, ◌≤◌, ◌<◌}
use native.Mathlib.Nat.{mul-le-mul}
use native.Mathlib.Omega.{arith}
use lib.Dec.{eqb, ltb}
use lib.IntN.{ℤ, pos, neg_ℤ, nat_abs, ◌+ℤ◌, ◌-ℤ◌, ◌*ℤ◌, neg_ℤ-neg_ℤ, neg_ℤ-+ℤ, +ℤ_comm, -ℤ-+ℤ_cancel}
use lib.ListN.{length, get_or, length-append, get_or-append}
use lib.Seq.{get_or_at}
use mir.Syntax.{w64}
use mir.Val.{SFits}
use Rattle.paper.specs.Result.{Result, refused, accepted, if}
use Rattle.paper.proofs.Tests.{either, ltb_cases, ltb_less, eqb_cases, eqb_equal}
use Rattle.fees.specs.Fees.{with_sign, fee, net_of, sum, left, rest_of, how_many, comes_before, gets_one, part, listed, parts, root_rate, total, are_shares, Charge, charge_by, charge}
use Rattle.fees.proofs.Signs.{size_of, sign_size, times, minus, turned, size_turned, fits}
use Rattle.fees.proofs.Counting.{truly_fewer, first_ones, Before, came, owners_order}
use Rattle.fees.proofs.Sizes.{fee_size, fee_near, fee_small, fee_is, net_is, part_size, size_near, part_is, part_small, parts_are, listed_same, sizes_add_up, signed_sum, left_is, left_few}

-- THE CHECKS

pub record Shared (ss : List ℕ) : Type 0 where
  pub some_owners : 0 < length ss
  pub few : length ss ≤ 16
  pub whole : total ss ≡ 10000

pub shared : (ss : List ℕ) → are_shares ss ≡ true → Shared ss
unfolding are_shares
shared ss h = go (eqb_cases (length ss) 0) (ltb_cases 16 (length ss))
  where
    go : ((eqb (length ss) 0 ≡ true) × (length ss ≡ 0)) ⊎ ((eqb (length ss) 0 ≡ false) × (length ss ≢ 0)) →
        ((ltb 16 (length ss) ≡ true) × (16 < length ss)) ⊎ ((ltb 16 (length ss) ≡ false) × (length ss ≤ 16)) → Shared ss
    go (inl e) q = absurd (true≢false (sym (rw e.0 at h)))
    go (inr e) (inl q) = absurd (true≢false (sym (rw (e.0, q.0) at h)))
    go (inr e) (inr q) =
        record { some_owners = omega (arith, e.1); few = q.1; whole = eqb_equal (total ss) 10000 (rw (e.0, q.0) at h) }

-- an accepted charge, by its rate
pub record OfRate (term table : List ℕ) (amount : ℤ) (ss : List ℕ) (C : Charge) : Type 0 where
  pub within : nat_abs amount ≤ 1000000000000
  pub rate : ℕ
  pub rate_is : root_rate term table ≡ some rate
  pub at_most : rate ≤ 10000
  pub shares : Shared ss
  pub is : C ≡ record { fee = fee amount rate; parts = parts amount (net_of amount rate) ss }

by_rate : (term table : List ℕ) (amount : ℤ) (ss : List ℕ) (C : Charge) (o : Option ℕ) → root_rate term table ≡ o → nat_abs amount ≤ 1000000000000 →
    charge_by o amount ss ≡ accepted C → OfRate term table amount ss C
unfolding charge_by
by_rate term table amount ss C none e w h = let z : ◌≡◌ {A = ℕ} 0 1 = cc in absurd (omega arith)
by_rate term table amount ss C (some rate) e w h = go (ltb_cases 10000 rate) (either (are_shares ss))
  where
    go : ((ltb 10000 rate ≡ true) × (10000 < rate)) ⊎ ((ltb 10000 rate ≡ false) × (rate ≤ 10000)) → (are_shares ss ≡ true) ⊎ (are_shares ss ≡ false) →
        OfRate term table amount ss C
    go (inl p) q = let x = rw p.0 at h in let z : ◌≡◌ {A = ℕ} 0 1 = cc in absurd (omega arith)
    go (inr p) (inl q) =
        let x = rw (p.0, q) at h in
        record { within = w; rate = rate; rate_is = e; at_most = p.1; shares = shared ss q; is = cc }
    go (inr p) (inr q) = let x = rw (p.0, q) at h in let z : ◌≡◌ {A = ℕ} 0 1 = cc in absurd (omega arith)

pub of_rate : {term table : List ℕ} {amount : ℤ} {ss : List ℕ} {C : Charge} → charge term table amount ss ≡ accepted C → OfRate term table amount ss C
unfolding charge
of_rate {term} {table} {amount} {ss} {C} h = go (ltb_cases 1000000000000 (nat_abs amount))
  where
    go : ((ltb 1000000000000 (nat_abs amount) ≡ true) × (1000000000000 < nat_abs amount))
        ⊎ ((ltb 1000000000000 (nat_abs amount) ≡ false) × (nat_abs amount ≤ 1000000000000)) → OfRate term table amount ss C
    go (inl p) = let x = rw p.0 at h in let z : ◌≡◌ {A = ℕ} 0 1 = cc in absurd (omega arith)
    go (inr p) = by_rate term table amount ss C (root_rate term table) refl p.1 (rw p.0 at h)

by_23 : (o : Option ℕ) (amount : ℤ) (ss : List ℕ) (k : ℕ) → charge_by o amount ss ≡ refused k → k ≡ 23
unfolding charge_by
by_23 none amount ss k h = let i : 23 ≡ k = cc in sym i
by_23 (some rate) amount ss k h = go (ltb 10000 rate) (are_shares ss) h
  where
    go : (b c : Bool) →
        if {A = Result Charge} b (refused 23) (if c (accepted (record { fee = fee amount rate; parts = parts amount (net_of amount rate) ss })) (refused 23))
        ≡ refused k → k ≡ 23
    go true c h = let i : 23 ≡ k = cc in sym i
    go false true h = let z : ◌≡◌ {A = ℕ} 0 1 = cc in absurd (omega arith)
    go false false h = let i : 23 ≡ k = cc in sym i

-- by no other number than 22 and 23
pub refused_by_number : (term table : List ℕ) (amount : ℤ) (ss : List ℕ) (k : ℕ) → charge term table amount ss ≡ refused k → (k ≡ 22) ⊎ (k ≡ 23)
unfolding charge
refused_by_number term table amount ss k h = go (ltb 1000000000000 (nat_abs amount)) h
  where
    go : (b : Bool) → if b (refused 22) (charge_by (root_rate term table) amount ss) ≡ refused k → (k ≡ 22) ⊎ (k ≡ 23)
    go true h = let i : 22 ≡ k = cc in inl (sym i)
    go false h = inr (by_23 (root_rate term table) amount ss k h)

-- THE AMOUNT

module _ (term table : List ℕ) (amount : ℤ) (ss : List ℕ) (C : Charge) (h : charge term table amount ss ≡ accepted C) where
  -- the cents that are split
  abbrev split_cents : ℕ
  split_cents = nat_abs amount - fee_size (nat_abs amount) (of_rate h).rate

  net_signed : net_of amount (of_rate h).rate ≡ with_sign amount split_cents
  net_signed = net_is amount (of_rate h).rate (of_rate h).at_most

  parts_signed : C.parts ≡ listed (λ i. with_sign amount (part_size split_cents ss i)) (length ss)
  parts_signed =
      ap (λ (c : Charge). c.parts) (of_rate h).is
      ∙ ap (λ (z : ℤ). parts amount z ss) net_signed
      ∙ parts_are amount split_cents ss (omega (arith, (of_rate h).shares.whole))

  -- the parts add up to the net amount
  pub parts_add_up : sum C.parts ≡ net_of amount (of_rate h).rate
  parts_add_up =
      ap sum parts_signed
      ∙ signed_sum amount (part_size split_cents ss) (length ss)
      ∙ ap (with_sign amount) (sizes_add_up split_cents ss (of_rate h).shares.whole)
      ∙ sym net_signed

  -- parts and fee add up to the amount exactly
  pub adds_up : sum C.parts +ℤ C.fee ≡ amount
  adds_up =
      ap (λ (z : ℤ). z +ℤ C.fee) parts_add_up
      ∙ ap (λ (z : ℤ). net_of amount (of_rate h).rate +ℤ z) (ap (λ (c : Charge). c.fee) (of_rate h).is)
      ∙ -ℤ-+ℤ_cancel amount (fee amount (of_rate h).rate)

-- A REFUND

-- the signs turned
pub turned_charge : Charge → Charge
turned_charge C = record { fee = neg_ℤ C.fee; parts = map neg_ℤ C.parts }

pub turned_answer : Result Charge → Result Charge
turned_answer (refused k) = refused k
turned_answer (accepted C) = accepted (turned_charge C)

-- a refund's fee is the payment's with the sign turned, by every rate of the table's range
pub refund_fee : (amount : ℤ) (rate : ℕ) → rate ≤ 10000 → fee (neg_ℤ amount) rate ≡ neg_ℤ (fee amount rate)
refund_fee amount rate h =
    fee_is (neg_ℤ amount) rate
    ∙ ap (λ (n : ℕ). with_sign (neg_ℤ amount) (fee_size n rate)) (size_turned amount)
    ∙ turned amount (fee_size (nat_abs amount) rate) (fee_small (nat_abs amount) rate h)
    ∙ ap neg_ℤ (sym (fee_is amount rate))

map_listed : (f : ℕ → ℤ) (n : ℕ) → map neg_ℤ (listed f n) ≡ listed (λ i. neg_ℤ (f i)) n
unfolding listed
map_listed f zero = refl
map_listed f (suc n) = map-append neg_ℤ (listed f n) (f n ∷ []) ∙ ap (λ (zs : List ℤ). zs ++ (neg_ℤ (f n) ∷ [])) (map_listed f n)

-- and so are its parts
pub refund_parts : (amount : ℤ) (rate : ℕ) (ss : List ℕ) → rate ≤ 10000 → total ss ≡ 10000 →
    parts (neg_ℤ amount) (net_of (neg_ℤ amount) rate) ss ≡ map neg_ℤ (parts amount (net_of amount rate) ss)
refund_parts amount rate ss h t =
    let m = nat_abs amount - fee_size (nat_abs amount) rate in
    let e : net_of (neg_ℤ amount) rate ≡ with_sign (neg_ℤ amount) m =
    net_is (neg_ℤ amount) rate h ∙ ap (λ (n : ℕ). with_sign (neg_ℤ amount) (n - fee_size n rate)) (size_turned amount) in
    ap (λ (z : ℤ). parts (neg_ℤ amount) z ss) e
    ∙ parts_are (neg_ℤ amount) m ss (omega arith)
    ∙ listed_same _ _ (length ss) (λ i l. turned amount (part_size m ss i) (omega (arith, part_small m ss t i l)))
    ∙ sym (map_listed (λ i. with_sign amount (part_size m ss i)) (length ss))
    ∙ ap (map neg_ℤ) (sym (parts_are amount m ss (omega arith)))
    ∙ ap (λ (z : ℤ). map neg_ℤ (parts amount z ss)) (sym (net_is amount rate h))

refund_by : (o : Option ℕ) (amount : ℤ) (ss : List ℕ) → charge_by o (neg_ℤ amount) ss ≡ turned_answer (charge_by o amount ss)
unfolding charge_by turned_answer turned_charge
refund_by none amount ss = refl
refund_by (some rate) amount ss = go (ltb_cases 10000 rate) (either (are_shares ss))
  where
    go : ((ltb 10000 rate ≡ true) × (10000 < rate)) ⊎ ((ltb 10000 rate ≡ false) × (rate ≤ 10000)) → (are_shares ss ≡ true) ⊎ (are_shares ss ≡ false) →
        charge_by (some rate) (neg_ℤ amount) ss ≡ turned_answer (charge_by (some rate) amount ss)
    go (inl p) q = rw p.0
    go (inr p) (inl q) =
        let e = refund_fee amount rate p.1 in
        let d = refund_parts amount rate ss p.1 (shared ss q).whole in
        rw (p.0, q) (ap accepted cc)
    go (inr p) (inr q) = rw (p.0, q)

-- a refund is answered as the payment is, with the signs turned, and refused by the same number
pub refund : (term table : List ℕ) (amount : ℤ) (ss : List ℕ) → charge term table (neg_ℤ amount) ss ≡ turned_answer (charge term table amount ss)
unfolding charge turned_answer
refund term table amount ss = rw (size_turned amount) (go (ltb_cases 1000000000000 (nat_abs amount)))
  where
    go : ((ltb 1000000000000 (nat_abs amount) ≡ true) × (1000000000000 < nat_abs amount))
        ⊎ ((ltb 1000000000000 (nat_abs amount) ≡ false) × (nat_abs amount ≤ 1000000000000)) →
        if (ltb 1000000000000 (nat_abs amount)) (refused 22) (charge_by (root_rate term table) (neg_ℤ amount) ss)
        ≡ turned_answer (if (ltb 1000000000000 (nat_abs amount)) (refused 22) (charge_by (root_rate term table) amount ss))
    go (inl p) = rw p.0
    go (inr p) = rw p.0 (refund_by (root_rate term table) amount ss)

-- NEAREST

-- the distance of two amounts of one sign
apart : (a : ℤ) (x y : ℕ) → nat_abs (with_sign a x -ℤ with_sign a y) ≡ x - y + (y - x)
apart a x y = go (ltb_cases x y)
  where
    swapped : (z w : ℤ) → nat_abs (z -ℤ w) ≡ nat_abs (w -ℤ z)
    swapped z w =
        sym (size_turned (z -ℤ w))
        ∙ ap nat_abs (neg_ℤ-+ℤ z (neg_ℤ w) ∙ ap (λ (v : ℤ). neg_ℤ z +ℤ v) (neg_ℤ-neg_ℤ w) ∙ +ℤ_comm (neg_ℤ z) w)

    go : ((ltb x y ≡ true) × (x < y)) ⊎ ((ltb x y ≡ false) × (y ≤ x)) → nat_abs (with_sign a x -ℤ with_sign a y) ≡ x - y + (y - x)
    go (inl p) =
        let e : nat_abs (with_sign a y -ℤ with_sign a x) ≡ y - x = ap nat_abs (minus a y x (omega (arith, p.1))) ∙ sign_size a (y - x) in
        swapped (with_sign a x) (with_sign a y) ∙ omega (arith, p.1)
    go (inr p) =
        let e : nat_abs (with_sign a x -ℤ with_sign a y) ≡ x - y = ap nat_abs (minus a x y p.1) ∙ sign_size a (x - y) in
        omega (arith, p.1)

-- how far 10,000 fees are from amount × rate
pub fee_distance : ℤ → ℕ → ℕ
fee_distance amount rate = nat_abs (fee amount rate *ℤ pos 10000 -ℤ amount *ℤ pos rate)

fee_distance_is : (amount : ℤ) (rate : ℕ) →
    fee_distance amount rate
    ≡ fee_size (nat_abs amount) rate * 10000 - nat_abs amount * rate + (nat_abs amount * rate - fee_size (nat_abs amount) rate * 10000)
unfolding fee_distance
fee_distance_is amount rate =
    ap (λ (z : ℤ). nat_abs (z *ℤ pos 10000 -ℤ amount *ℤ pos rate)) (fee_is amount rate)
    ∙ ap (λ (z : ℤ). nat_abs (z -ℤ amount *ℤ pos rate)) (times amount (fee_size (nat_abs amount) rate) 10000)
    ∙ ap (λ (z : ℤ). nat_abs (with_sign amount (fee_size (nat_abs amount) rate * 10000) -ℤ z)) (exact amount rate)
    ∙ apart amount (fee_size (nat_abs amount) rate * 10000) (nat_abs amount * rate)
  where
    exact : (amount : ℤ) (rate : ℕ) → amount *ℤ pos rate ≡ with_sign amount (nat_abs amount * rate)
    exact amount rate = ap (λ (z : ℤ). z *ℤ pos rate) (sym (size_of amount)) ∙ times amount (nat_abs amount) rate

-- the fee is within half a cent of amount × rate / 10,000
pub fee_nearest : (amount : ℤ) (rate : ℕ) → fee_distance amount rate ≤ 5000
fee_nearest amount rate = omega (arith, fee_distance_is amount rate, fee_near (nat_abs amount) rate)

-- and where it is half a cent off, it is the one farther from zero
pub halves_away : (amount : ℤ) (rate : ℕ) → fee_distance amount rate ≡ 5000 → nat_abs amount * rate < nat_abs (fee amount rate) * 10000
halves_away amount rate h =
    let e : nat_abs (fee amount rate) ≡ fee_size (nat_abs amount) rate = ap nat_abs (fee_is amount rate) ∙ sign_size amount (fee_size (nat_abs amount) rate) in
    rw e (omega (arith, fee_distance_is amount rate, fee_near (nat_abs amount) rate))

-- EACH PART

pub length_listed : {A : Type 0} (f : ℕ → A) (n : ℕ) → length (listed f n) ≡ n
unfolding listed
length_listed f zero = refl
length_listed f (suc n) = length-append (listed f n) (f n ∷ []) ∙ omega (arith, length_listed f n)

pub get_or_listed : {A : Type 0} (f : ℕ → A) (d : A) (n i : ℕ) → i < n → get_or (listed f n) i d ≡ f i
unfolding listed
get_or_listed f d zero i l = absurd (omega arith)
get_or_listed f d (suc n) i l = go (eqb_cases i n) (get_or_listed f d n i)
  where
    go : ((eqb i n ≡ true) × (i ≡ n)) ⊎ ((eqb i n ≡ false) × (i ≢ n)) → (i < n → get_or (listed f n) i d ≡ f i) → get_or (listed f n ++ (f n ∷ [])) i d ≡ f i
    go (inl e) r = get_or_at (listed f n) (f n) [] d i (length_listed f n ∙ sym e.1) ∙ ap f (sym e.1)
    go (inr e) r =
        let k : i < n = omega (arith, e.1) in
        get_or-append (listed f n) (f n ∷ []) d i (rw (length_listed f n) k) ∙ r k

module _ (amount : ℤ) (rate : ℕ) (ss : List ℕ) (h : rate ≤ 10000) (t : total ss ≡ 10000) where
  abbrev cents : ℕ
  cents = nat_abs amount - fee_size (nat_abs amount) rate

  -- 10,000 times a part is less than 10,000 off net × share
  pub part_near : (i : ℕ) → nat_abs (part amount (net_of amount rate) ss i *ℤ pos 10000 -ℤ net_of amount rate *ℤ pos (get_or ss i 0)) < 10000
  part_near i =
      let s = get_or ss i 0 in
      let e : nat_abs (part amount (with_sign amount cents) ss i *ℤ pos 10000 -ℤ with_sign amount cents *ℤ pos s)
      ≡ part_size cents ss i * 10000 - cents * s + (cents * s - part_size cents ss i * 10000) =
      ap (λ (z : ℤ). nat_abs (z *ℤ pos 10000 -ℤ with_sign amount cents *ℤ pos s)) (part_is amount cents ss (omega arith) i)
      ∙ ap (λ (z : ℤ). nat_abs (z -ℤ with_sign amount cents *ℤ pos s)) (times amount (part_size cents ss i) 10000)
      ∙ ap (λ (z : ℤ). nat_abs (with_sign amount (part_size cents ss i * 10000) -ℤ z)) (times amount cents s)
      ∙ apart amount (part_size cents ss i * 10000) (cents * s) in
      rw (net_is amount rate h, e) (size_near cents ss i t)

  -- the cents left are fewer than the owners
  pub left_fewer : left (net_of amount rate) ss < length ss
  left_fewer = rw (net_is amount rate h, left_is amount cents ss (omega arith)) (left_few cents ss t)

  -- so one each is enough: as many owners get one as cents are left
  pub one_each : how_many (gets_one (net_of amount rate) ss) (length ss) ≡ left (net_of amount rate) ss
  unfolding gets_one
  one_each =
      first_ones (comes_before (rest_of (net_of amount rate) ss)) (owners_order (rest_of (net_of amount rate) ss)) (length ss) (left (net_of amount rate) ss)
      (omega (arith, left_fewer))

pub ltb_not_less : (m n : ℕ) → ltb m n ≡ false → n ≤ m
ltb_not_less m n e = elim (ltb_cases m n) [ inl p ↦ absurd (true≢false (sym p.0 ∙ e)) | inr p ↦ p.1 ]

-- who gets one comes before who gets none: its remainder is larger, or equal and it is the lower owner
pub largest_first : (net : ℤ) (ss : List ℕ) (i j : ℕ) → j < length ss → gets_one net ss i ≡ true → gets_one net ss j ≡ false →
    Before (rest_of net ss) i j
unfolding gets_one
largest_first net ss i j l g f = go (eqb_cases i j)
  where
    r : ℕ → ℕ
    r = rest_of net ss

    a : how_many (λ k. comes_before r k i) (length ss) < left net ss
    a = ltb_less _ _ g

    b : left net ss ≤ how_many (λ k. comes_before r k j) (length ss)
    b = ltb_not_less _ _ f

    other : (comes_before r i j ≡ true) ⊎ (comes_before r j i ≡ true) → Before r i j
    other (inl e) = came r i j e
    other (inr e) =
        absurd (omega (
          arith,
          a,
          b,
          truly_fewer (λ k. comes_before r k j) (λ k. comes_before r k i) (length ss) j
              (λ k d. (owners_order r).through k j i d e) l ((owners_order r).never_self j) e,
        ))

    go : ((eqb i j ≡ true) × (i ≡ j)) ⊎ ((eqb i j ≡ false) × (i ≢ j)) → Before r i j
    go (inl e) = absurd (true≢false (sym (rw e.1 at g) ∙ f))
    go (inr e) = other ((owners_order r).one_of i j e.1)

-- NUMBERS FIT

-- an amount times a rate or share, and half of 10,000 more
pub product_small : (n k : ℕ) → n ≤ 1000000000000 → k ≤ 10000 → n * k ≤ 10000000000000000
product_small n k h l = mul-le-mul h l

pub products_fit : (amount : ℤ) (k : ℕ) → nat_abs amount ≤ 1000000000000 → k ≤ 10000 →
    SFits w64 (amount *ℤ pos k) × SFits w64 (with_sign amount (nat_abs amount * k + 5000))
products_fit amount k h l =
    let e : amount *ℤ pos k ≡ with_sign amount (nat_abs amount * k) = ap (λ (z : ℤ). z *ℤ pos k) (sym (size_of amount)) ∙ times amount (nat_abs amount) k in (
      rw e (fits amount (nat_abs amount * k) (omega (arith, product_small (nat_abs amount) k h l))),
      fits amount (nat_abs amount * k + 5000) (omega (arith, product_small (nat_abs amount) k h l)),
    )
