-- The order of placing, put from the latest part down. Assumes nothing.
use mathlib.Core.List.{List, [], ◌∷◌, ◌++◌}
use mathlib.Core.Path.{◌≡◌, refl, sym, ap, ap₂, ◌∙◌, subst}
use Prim.Native.Nat.{ℕ, zero, suc, ◌+◌, ◌-◌, ◌≤◌, ◌<◌}
use native.Mathlib.Numerals.{add-one}
use native.Mathlib.Omega.{arith}
use lib.ListN.{length, get_or, drop, set, length-set}
use lib.Seq.{get_or-drop, drop-drop, get_or-set_same, get_or-set_other}
use Rattle.std.specs.Prelude.{Option, Some, None}
use Rattle.paper.specs.Result.{refused, return, ◌>>=◌, repeat}
use Rattle.paper.specs.Bits.{field}
use Rattle.paper.proofs.Readers.{bind_return}
use Rattle.book.proofs.Readers.{repeat_next}
use Rattle.bits.proofs.Reading.{Got}
use Rattle.placing.specs.Order.{latest_first}
use Rattle.side.specs.Promises.{bits_at}
use Rattle.point_reader.specs.Readers.{read_order}
use Rattle.point_reader.specs.Promises.{Any, PlacedTaken, OrderTaken}
use Rattle.point_reader.proofs.Lacking.{refused_lacks, first_none, repeat_lacks}
use Rattle.point_reader.proofs.Term.{repeat_start}

-- the earliest part, and those behind it
latest_earliest : (xs : List ℕ) (d : ℕ) → latest_first xs (suc d) ≡ latest_first (drop 1 xs) d ++ (get_or xs 1 0 ∷ [])
unfolding latest_first
latest_earliest xs zero = refl
latest_earliest xs (suc d) =
    let z : 1 + suc d ≡ suc (suc d) = omega arith in
    ap₂ (λ (v : ℕ) (vs : List ℕ). v ∷ vs) (sym (get_or-drop 1 xs (suc d) 0 ∙ ap (λ (i : ℕ). get_or xs i 0) z)) (latest_earliest xs d)

latest_same : (xs ys : List ℕ) (d : ℕ) → ((j : ℕ) → get_or xs (suc j) 0 ≡ get_or ys (suc j) 0) → latest_first xs d ≡ latest_first ys d
unfolding latest_first
latest_same xs ys zero e = refl
latest_same xs ys (suc d) e = ap₂ (λ (v : ℕ) (vs : List ℕ). v ∷ vs) (e d) (latest_same xs ys d e)

-- all but the earliest i parts of k are read
pub record Ordering (bytes : List ℕ) (at k i q : ℕ) (order₀ order : List ℕ) : Type 0 where
  pub few : i ≤ k
  pub long : length order ≡ 1024
  pub front : get_or order 0 0 ≡ get_or order₀ 0 0
  pub read : repeat (k - i) (field 3) (bits_at bytes at) ≡ return (latest_first (drop i order) (k - i)) (bits_at bytes q)

module _ {bytes : List ℕ} {at k : ℕ} {order₀ : List ℕ} where
  pub ordering_start : length order₀ ≡ 1024 → Ordering bytes at k k at order₀ order₀
  unfolding latest_first
  ordering_start l =
      let z : k - k ≡ 0 = omega arith in
      record { few = omega arith; long = l; front = refl; read = rw z (repeat_start (field 3) (bits_at bytes at)) }

  module _ {i q : ℕ} {order : List ℕ} (h : Ordering bytes at k i q order₀ order) where
    ordering_at : (v next low : ℕ) → field 3 (bits_at bytes q) ≡ return v (bits_at bytes next) → i ≡ low + 1 → k < 1024 →
        Ordering bytes at k low next order₀ (set order i v)
    ordering_at v next low e z l =
        let few = h.few in
        let long = h.long in
        let d : k - low ≡ suc (k - i) = omega arith in
        let one : get_or (drop low (set order i v)) 1 0 ≡ v =
        get_or-drop low (set order i v) 1 0 ∙ ap (λ (j : ℕ). get_or (set order i v) j 0) (sym z) ∙ get_or-set_same order i v 0 (omega arith) in
        let rest : latest_first (drop 1 (drop low (set order i v))) (k - i) ≡ latest_first (drop i order) (k - i) =
        ap (λ (xs : List ℕ). latest_first xs (k - i)) (drop-drop 1 low (set order i v) ∙ ap (λ (j : ℕ). drop j (set order i v)) (sym z))
        ∙ latest_same (drop i (set order i v)) (drop i order) (k - i)
        (λ j. get_or-drop i (set order i v) (suc j) 0 ∙ get_or-set_other order i (i + suc j) v 0 (λ y. omega arith) ∙ sym (get_or-drop i order (suc j) 0)) in
        let vs : latest_first (drop i order) (k - i) ++ (v ∷ []) ≡ latest_first (drop low (set order i v)) (k - low) =
        sym (ap (latest_first (drop low (set order i v))) d ∙ latest_earliest (drop low (set order i v)) (k - i)
        ∙ ap₂ (λ (us : List ℕ) (x : ℕ). us ++ (x ∷ [])) rest one) in
        record {
          few = omega arith;
          long = length-set order i v ∙ h.long;
          front = get_or-set_other order i 0 v 0 (λ y. omega arith) ∙ h.front;
          read = ap (λ (j : ℕ). repeat j (field 3) (bits_at bytes at)) (d ∙ sym (add-one (k - i)))
              ∙ repeat_next (field 3) (k - i) (bits_at bytes at) (bits_at bytes q) (latest_first (drop i order) (k - i)) h.read v (bits_at bytes next) e
              ∙ ap (λ (us : List ℕ). return us (bits_at bytes next)) vs;
        }

    pub ordering_more : (v next low : ℕ) → field 3 (bits_at bytes q) ≡ return v (bits_at bytes next) → i ≡ low + 1 → k < 1024 →
        Ordering bytes at k low next order₀ (set order (low + 1) v)
    ordering_more v next low e z l = subst (λ (j : ℕ). Ordering bytes at k low next order₀ (set order j v)) z (ordering_at v next low e z l)

    pub ordering_out : 0 < i → field 3 (bits_at bytes q) ≡ refused 1 → PlacedTaken bytes at k order₀ order None
    ordering_out l e =
        let few = h.few in
        record {
          are = repeat_lacks (field 3) Any Any (k - i) k (bits_at bytes at) (bits_at bytes q) (latest_first (drop i order) (k - i)) h.read (omega arith)
              (refused_lacks Any e) (λ us vs a z. tt);
          front = h.front;
          long = h.long;
        }

    pub ordering_all : i ≡ 0 → PlacedTaken bytes at k order₀ order (Some q)
    ordering_all z =
        let d : k - i ≡ k = omega arith in
        record { are = rw (d, z) at h.read; front = h.front; long = h.long }

order_is : (xs : List ℕ) → read_order xs ≡ (field 10 >>= (λ k. repeat k (field 3))) xs
unfolding read_order
order_is xs = refl

module _ {bytes : List ℕ} {at : ℕ} where
  pub order_out : {order : List ℕ} → field 10 (bits_at bytes at) ≡ refused 1 → OrderTaken bytes at order None
  order_out e = record {
    is = λ r f. first_none (field 10) (λ k. repeat k (field 3)) (bits_at bytes at) Any (refused_lacks Any e) r (sym (order_is (bits_at bytes at)) ∙ f);
    fits = tt;
  }

  pub order_taken : {k p j : ℕ} {order' : List ℕ} {r : Option ℕ} (order : List ℕ) → Got bytes at 10 k p → length order ≡ 1024 → j ≡ k →
      PlacedTaken bytes p j (set order 0 k) order' r → OrderTaken bytes at order' r
  order_taken {k} {p} {j} {order'} {r} order e l z t = go r t
    where
      front : get_or order' 0 0 ≡ k
      front = t.front ∙ get_or-set_same order 0 k 0 (omega (arith, l))

      all : read_order (bits_at bytes at) ≡ repeat j (field 3) (bits_at bytes p)
      all =
          order_is (bits_at bytes at) ∙ bind_return (field 10) (λ k. repeat k (field 3)) (bits_at bytes at) (bits_at bytes p) k e.is
          ∙ ap (λ (i : ℕ). repeat i (field 3) (bits_at bytes p)) (sym z)

      go : (r : Option ℕ) → PlacedTaken bytes p j (set order 0 k) order' r → OrderTaken bytes at order' r
      go (Some next) t = record {
        is = all ∙ t.are ∙ ap (λ (i : ℕ). return (latest_first order' i) (bits_at bytes next)) (z ∙ sym front);
        fits = record { long = t.long; few = (let s = e.small in let f = front in omega (arith, s, f)) };
      }
      go None t = record { is = λ x f. t.are x (sym all ∙ f); fits = tt }
