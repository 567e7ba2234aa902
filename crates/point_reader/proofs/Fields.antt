-- A field in two parts, as numbers of more than 16 bits are read, and what a caller knows of such a number. Assumes nothing.
use mathlib.Core.List.{List, [], ◌∷◌, ◌++◌}
use mathlib.Core.Logic.{inl, inr}
use mathlib.Core.Path.{◌≡◌, sym, ap, ap₂, ◌∙◌}
use Prim.Native.Nat.{ℕ, ◌+◌, ◌*◌, ◌^◌, ◌≤◌, ◌<◌}
use native.Mathlib.Nat.{mul_assoc, add-mul, min-le_right}
use native.Mathlib.Omega.{arith}
use borrow.Author.Tests.{ne_eqb}
use lib.ListN.{length, take, drop, length-append, length-take, length-drop}
use lib.Pow.{pow-add}
use lib.Seq.{take-add, drop-drop, length-take-le}
use Rattle.std.specs.Prelude.{Option, Some, None}
use Rattle.point_reader.specs.declared.Taken.{Taken}
use Rattle.paper.specs.Result.{refused, Read, return, refuse}
use Rattle.paper.specs.Bits.{value, bits_of, field}
use Rattle.paper.proofs.Bits.{field_there, field_read, field_bounded, all_drop}
use Rattle.paper.proofs.Bytes.{bits_below}
use Rattle.paper.proofs.Readers.{refused_accepted}
use Rattle.paper.proofs.Tests.{ltb_cases}
use Rattle.bits.proofs.Reading.{Got}
use Rattle.side.specs.Promises.{bits_at}
use Rattle.point_reader.specs.Promises.{NumberAt}

-- TWO PARTS

value_append : (xs ys : List ℕ) → value (xs ++ ys) ≡ value xs * 2 ^ length ys + value ys
unfolding value
value_append [] ys = omega arith
value_append (x ∷ xs) ys =
    let p = 2 ^ length ys in
    let a = mul_assoc x (2 ^ length xs) p in
    let b = add-mul (x * 2 ^ length xs) (value xs) p in
    ap₂ (λ (k v : ℕ). x * 2 ^ k + v) (length-append xs ys) (value_append xs ys) ∙ rw (pow-add 2 (length xs) (length ys)) (omega (arith, a, b))

-- a field is refused exactly if its bits run out
pub field_none : (n : ℕ) (xs : List ℕ) → length xs < n → field n xs ≡ refused 1
unfolding field refuse
field_none n xs h =
    let short : length (take n xs) ≤ length xs = rw length-take (min-le_right n (length xs)) in
    simp (ne_eqb (length (take n xs)) n (λ e. omega arith))

pub none_field : (n : ℕ) (xs : List ℕ) → field n xs ≡ refused 1 → length xs < n
unfolding return
none_field n xs e =
    elim (ltb_cases (length xs) n) [
      | inl p ↦ p.1
      | inr p ↦ absurd (refused_accepted (sym e ∙ field_there n xs (length-take-le n xs p.1)))
    ]

module _ (n m : ℕ) (xs : List ℕ) where
  pub field_both : (a b : ℕ) (ys zs : List ℕ) → field n xs ≡ return a ys → field m ys ≡ return b zs → field (n + m) xs ≡ return (a * 2 ^ m + b) zs
  unfolding return
  field_both a b ys zs e f =
      let (p, q) = field_read n xs (record { value = a; left = ys }) e in
      let (r, s) = field_read m ys (record { value = b; left = zs }) f in
      let y : ys ≡ drop n xs = ap (λ (z : Read ℕ). z.left) q in
      let t : take (n + m) xs ≡ take n xs ++ take m ys = take-add n m xs ∙ ap (λ (l : List ℕ). take n xs ++ take m l) (sym y) in
      let l : length (take (n + m) xs) ≡ n + m = ap length t ∙ length-append (take n xs) (take m ys) ∙ ap₂ (λ (i j : ℕ). i + j) p r in
      let v : value (take (n + m) xs) ≡ a * 2 ^ m + b =
      ap value t ∙ value_append (take n xs) (take m ys)
      ∙ ap₂ (λ (u w : ℕ). u * 2 ^ length (take m ys) + w) (sym (ap (λ (z : Read ℕ). z.value) q)) (sym (ap (λ (z : Read ℕ). z.value) s))
      ∙ ap (λ (k : ℕ). a * 2 ^ k + b) r in
      let d : drop (n + m) xs ≡ zs = sym (drop-drop m n xs) ∙ ap (drop m) (sym y) ∙ sym (ap (λ (z : Read ℕ). z.left) s) in
      field_there (n + m) xs l ∙ ap₂ return v d

  pub field_first_out : field n xs ≡ refused 1 → field (n + m) xs ≡ refused 1
  field_first_out e = field_none (n + m) xs (let a = none_field n xs e in omega arith)

  pub field_second_out : (a : ℕ) (ys : List ℕ) → field n xs ≡ return a ys → field m ys ≡ refused 1 → field (n + m) xs ≡ refused 1
  unfolding return
  field_second_out a ys e f =
      let (p, q) = field_read n xs (record { value = a; left = ys }) e in
      let y : ys ≡ drop n xs = ap (λ (z : Read ℕ). z.left) q in
      let k = none_field m ys f in
      let l = ap length y ∙ length-drop n xs in
      let t = length-take n xs in
      field_none (n + m) xs (omega (arith, k, l))

-- WHAT A CALLER KNOWS

pub record Told (bytes : List ℕ) (at n v next : ℕ) : Type 0 where
  pub is : field n (bits_at bytes at) ≡ return v (bits_at bytes next)
  pub small : v < 2 ^ n

module _ {bytes : List ℕ} {at n : ℕ} {r : Option (Taken ℕ)} (a : NumberAt bytes at n r) where
  pub told : {t : Taken ℕ} → r ≡ Some t → Told bytes at n t.value t.next
  unfolding return
  told e =
      let is = sym (rw e at a.is) in
      record { is = is; small = (field_bounded n (bits_at bytes at) _ (all_drop at (bits_of bytes) (bits_below bytes)) is).0 }

  pub untold : r ≡ None → field n (bits_at bytes at) ≡ refused 1
  untold e = sym (rw e at a.is)

pub got_told : {bytes : List ℕ} {at n v next : ℕ} → Got bytes at n v next → Told bytes at n v next
got_told g = record { is = g.is; small = g.small }

-- what two fields tell of one
module _ {bytes : List ℕ} {at : ℕ} (n m : ℕ) where
  pub number_both : {a b p next : ℕ} → Told bytes at n a p → Told bytes p m b next → (v : ℕ) → v ≡ a * 2 ^ m + b → NumberAt bytes at (n + m) (Some (record { value = v; next = next }))
  unfolding return
  number_both {a} {b} {p} {next} e f v z = record {
    is = ap (λ (k : ℕ). return k (bits_at bytes next)) z
        ∙ sym (field_both n m (bits_at bytes at) a b (bits_at bytes p) (bits_at bytes next) e.is f.is);
  }

  pub number_first : field n (bits_at bytes at) ≡ refused 1 → NumberAt bytes at (n + m) None
  number_first e = record { is = sym (field_first_out n m (bits_at bytes at) e) }

  pub number_second : {a p : ℕ} → Told bytes at n a p → field m (bits_at bytes p) ≡ refused 1 → NumberAt bytes at (n + m) None
  number_second {a} {p} e f = record { is = sym (field_second_out n m (bits_at bytes at) a (bits_at bytes p) e.is f) }
