-- One turn of each loop: sums of shares, counts of owners, lists written element by element. Assumes nothing.
use mathlib.Core.Bool.{Bool}
use mathlib.Core.List.{List, [], ◌∷◌, ◌++◌, map, map-append}
use mathlib.Core.Logic.{◌≢◌}
use mathlib.Core.Option.{none, some}
use mathlib.Core.Path.{◌≡◌, refl, sym, ap, ◌∙◌}
use Prim.Native.Nat.{ℕ, zero, suc, ◌+◌, ◌*◌, ◌-◌, ◌≤◌, ◌<◌}
use native.Mathlib.Numerals.{add-one}
use native.Mathlib.Omega.{arith}
use lib.Dec.{eqb, ltb}
use lib.IntN.{ℤ, neg_ℤ, nat_abs, ◌+ℤ◌, ◌-ℤ◌, neg_ℤ-+ℤ, +ℤ_assoc, +ℤ_idr}
use lib.ListN.{length, get_or, take, drop, set, get_or-append}
use mir.Facts.{to_z-of_z}
use mir.Syntax.{w64}
use mir.Val.{SFits}
use lib.Seq.{take-suc, take_all, drop-cons, set_at, append_snoc}
use Rattle.std.specs.List.{sum as sum_of}
use Rattle.std.proofs.lemmas.Grind.{common_steps}
use Rattle.paper.specs.Result.{if}
use Rattle.paper.specs.Page.{number}
use Rattle.paper.proofs.Tests.{ltb_true, ltb_false}
use Rattle.fees.specs.Fees.{with_sign, sum, cut, left, rest_of, how_many, comes_before, gets_one, part, listed, rate_of, root_rate, total}
use Rattle.fees.specs.Promises.{InRange, Splits}
use Rattle.fees.proofs.Signs.{size_of, sign_size, minus, sum_snoc}
use Rattle.fees.proofs.Counting.{bit, same_count}
use Rattle.fees.proofs.Sizes.{cuts, cuts_are, cuts_small}
use Rattle.fees.proofs.Laws.{length_listed, get_or_listed}
use Rattle.fees.proofs.Values.{kept, kept_as, fits_size, cut_back, cents_fit}

-- SHARES

pub total_sum : (ss : List ℕ) → total ss ≡ sum_of ss
unfolding total
total_sum [] = refl
total_sum (s ∷ ss) = grind (arith, common_steps, total_sum ss)

total_front : (ss : List ℕ) (i : ℕ) → total (take i ss) ≤ total ss
unfolding total
total_front [] zero = omega arith
total_front [] (suc i) = omega arith
total_front (s ∷ ss) zero = omega arith
total_front (s ∷ ss) (suc i) = omega (arith, total_front ss i)

pub share_small : (ss : List ℕ) (i : ℕ) → get_or ss i 0 ≤ total ss
unfolding total
share_small [] zero = omega arith
share_small [] (suc i) = omega arith
share_small (s ∷ ss) zero = omega arith
share_small (s ∷ ss) (suc i) = omega (arith, share_small ss i)

-- the parameter as it is kept
pub splits : {n : ℤ} {ss : List ℕ} → SFits w64 n → Splits n ss → Splits (kept n) ss
splits f s = rw (to_z-of_z f) s

pub in_range : (net : ℤ) (ss : List ℕ) (i : ℕ) → Splits net ss → InRange net (get_or ss i 0)
in_range net ss i s = record { size = s.size; factor = omega (arith, share_small ss i, s.whole) }

-- THE RATE

pub no_root : (term table : List ℕ) → length term ≡ 0 → none ≡ root_rate term table
unfolding root_rate
no_root [] table e = refl
no_root (o ∷ term) table e = absurd (omega arith)

module _ (term table : List ℕ) (o : ℕ) (some_root : length term ≢ 0) (e : o ≡ get_or term 0 0) where
  rate_at : root_rate term table ≡ rate_of table o
  unfolding root_rate
  rate_at = go term some_root e
    where
      go : (term : List ℕ) → length term ≢ 0 → o ≡ get_or term 0 0 → root_rate term table ≡ rate_of table o
      go [] n e = absurd (n refl)
      go (x ∷ term) n e = ap (rate_of table) (sym e)

  pub rate_missing : length table < 2 * o + 2 → none ≡ root_rate term table
  unfolding rate_of
  rate_missing h = sym (rate_at ∙ rw (ltb_true (length table) (2 * o + 2) h))

  pub rate_read : 2 * o + 2 ≤ length table → (n : ℕ) → n ≡ number 0 (take 2 (drop (2 * o) table)) → some n ≡ root_rate term table
  unfolding rate_of
  rate_read h n f = sym (rate_at ∙ rw (ltb_false (length table) (2 * o + 2) h, f))

-- WRITING

-- one more element
pub set_next : {A : Type 0} (f : ℕ → A) (l : List A) (i : ℕ) (v : A) → i < length l → v ≡ f i →
    set (listed f i ++ drop i l) i v ≡ listed f (i + 1) ++ drop (i + 1) l
unfolding listed
set_next f l i v h e =
    ap (λ r. set (listed f i ++ r) i v) (drop-cons l i v h)
    ∙ set_at (listed f i) (get_or l i v) (drop (suc i) l) v i (length_listed f i)
    ∙ rw (add-one i, e) (sym (append_snoc (listed f i) (f i) (drop (suc i) l)))

pub nothing_yet : {A : Type 0} (f : ℕ → A) (l : List A) → l ≡ listed f 0 ++ drop 0 l
unfolding listed
nothing_yet f l = refl

-- CENTS LEFT

-- after i owners
pub still : ℤ → List ℕ → ℕ → ℤ
still net ss i = net -ℤ sum (map (cut net) (take i ss))

pub still_first : (net : ℤ) (ss : List ℕ) → net ≡ still net ss 0
unfolding still sum
still_first net [] = sym (+ℤ_idr net)
still_first net (s ∷ ss) = sym (+ℤ_idr net)

pub still_next : (net : ℤ) (ss : List ℕ) (i : ℕ) → i < length ss → still net ss i -ℤ cut net (get_or ss i 0) ≡ still net ss (i + 1)
unfolding still
still_next net ss i l =
    let c = cut net (get_or ss i 0) in
    let s = sum (map (cut net) (take i ss)) in
    let e : sum (map (cut net) (take (suc i) ss)) ≡ s +ℤ c =
    ap (λ (xs : List ℕ). sum (map (cut net) xs)) (take-suc ss i 0 l)
    ∙ ap sum (map-append (cut net) (take i ss) (get_or ss i 0 ∷ []))
    ∙ sum_snoc (map (cut net) (take i ss)) c in
    +ℤ_assoc net (neg_ℤ s) (neg_ℤ c)
    ∙ ap (λ (z : ℤ). net +ℤ z) (sym (neg_ℤ-+ℤ s c))
    ∙ ap (λ (z : ℤ). net -ℤ z) (sym e)
    ∙ ap (λ (n : ℕ). net -ℤ sum (map (cut net) (take n ss))) (sym (add-one i))

pub still_small : (net : ℤ) (ss : List ℕ) (i : ℕ) → Splits net ss → nat_abs (still net ss i) ≤ 1000000000000
unfolding still
still_small net ss i s =
    let m = nat_abs net in
    let e : net -ℤ sum (map (cut net) (take i ss)) ≡ with_sign net (m - cuts m (take i ss)) =
    ap (λ (z : ℤ). z -ℤ sum (map (cut z) (take i ss))) (sym (size_of net))
    ∙ ap (λ (z : ℤ). with_sign net m -ℤ z) (cuts_are net m (take i ss))
    ∙ minus net m (cuts m (take i ss)) (cuts_small m (take i ss) (omega (arith, total_front ss i, s.whole))) in
    rw (e, sign_size) (omega (arith, s.size))

module _ (net : ℤ) (ss : List ℕ) (i : ℕ) (s : Splits net ss) (l : i < length ss) {x c : ℤ} (p : x ≡ still net ss i) (q : c ≡ cut net (get_or ss i 0)) where
  next_is : x -ℤ kept c ≡ still net ss (i + 1)
  next_is =
      ap (λ (z : ℤ). z -ℤ kept c) p
      ∙ ap (λ (z : ℤ). still net ss i -ℤ z) (cut_back net (get_or ss i 0) (in_range net ss i s) q)
      ∙ still_next net ss i l

  pub next_fits : SFits w64 (x -ℤ kept c)
  next_fits = rw next_is (fits_size (still net ss (i + 1)) (omega (arith, still_small net ss (i + 1) s)))

  pub next_kept : kept (x -ℤ kept c) ≡ still net ss (i + 1)
  next_kept = kept_as next_is (fits_size (still net ss (i + 1)) (omega (arith, still_small net ss (i + 1) s)))

pub still_last : (net : ℤ) (ss : List ℕ) (i : ℕ) → length ss ≤ i → nat_abs (still net ss i) ≡ left net ss
unfolding still left
still_last net ss i h = ap (λ (xs : List ℕ). nat_abs (net -ℤ sum (map (cut net) xs))) (take_all i ss h)

-- OWNERS BEFORE AN OWNER

pub count_none : (p : ℕ → Bool) → 0 ≡ how_many p 0
unfolding how_many
count_none p = refl

-- one more: r says whether owner j, with remainder a, comes before owner i, with remainder b
pub count_next : (rests : List ℕ) (i j n n' : ℕ) {a b : ℕ} {r : Bool} → n ≡ how_many (λ k. comes_before (λ x. get_or rests x 0) k i) j →
    a ≡ get_or rests j 0 → b ≡ get_or rests i 0 → r ≡ if (eqb a b) (ltb j i) (ltb b a) → n' ≡ n + bit r →
    n' ≡ how_many (λ k. comes_before (λ x. get_or rests x 0) k i) (j + 1)
unfolding how_many comes_before
count_next rests i j n n' {a} {b} {r} e p q f g =
    let h : r ≡ if (eqb (get_or rests j 0) (get_or rests i 0)) (ltb j i) (ltb (get_or rests i 0) (get_or rests j 0)) = rw (p, q) at f in
    rw (add-one j) (g ∙ ap (λ (k : ℕ). k + bit r) e ∙ ap (λ (x : Bool). how_many (λ k. comes_before (λ x. get_or rests x 0) k i) j + bit x) h)

-- what owner i gets, by the remainders that were written
module _ (amount net : ℤ) (ss : List ℕ) (rests tail : List ℕ) (w : rests ≡ listed (rest_of net ss) (length ss) ++ tail) where
  rest_at : (k : ℕ) → k < length ss → get_or rests k 0 ≡ rest_of net ss k
  rest_at k l =
      ap (λ (r : List ℕ). get_or r k 0) w
      ∙ get_or-append (listed (rest_of net ss) (length ss)) tail 0 k (rw (length_listed (rest_of net ss) (length ss)) l)
      ∙ get_or_listed (rest_of net ss) 0 (length ss) k l

  before_at : (i : ℕ) → i < length ss →
      how_many (λ j. comes_before (λ k. get_or rests k 0) j i) (length ss) ≡ how_many (λ j. comes_before (rest_of net ss) j i) (length ss)
  unfolding comes_before
  before_at i l = same_count _ _ (length ss) (λ j m. rw (rest_at j m, rest_at i l))

  pub gets_at : (i n b : ℕ) → i < length ss → n ≡ left net ss → b ≡ how_many (λ j. comes_before (λ k. get_or rests k 0) j i) (length ss) →
      ltb b n ≡ gets_one net ss i
  unfolding gets_one
  gets_at i n b l e f = rw (e, f, before_at i l)

  pub part_at : (i n b : ℕ) (g : Bool) → i < length ss → n ≡ left net ss → b ≡ how_many (λ j. comes_before (λ k. get_or rests k 0) j i) (length ss) →
      g ≡ ltb b n → cut net (get_or ss i 0) +ℤ with_sign amount (bit g) ≡ part amount net ss i
  unfolding part
  part_at i n b g l e f h = rw (h ∙ gets_at i n b l e f)

-- a part fits: it is a cut part, with a cent more at most
pub part_kept : (amount net : ℤ) (ss : List ℕ) (i : ℕ) → Splits net ss → {x : ℤ} → x ≡ part amount net ss i → kept x ≡ part amount net ss i
unfolding part
part_kept amount net ss i s e = kept_as e (cents_fit amount net (get_or ss i 0) (in_range net ss i s) (gets_one net ss i))
