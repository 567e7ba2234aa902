-- Bits that are written: none, a field, one part after another, and bits of the book as they stand. Assumes nothing.
use mathlib.Core.List.{List, [], ◌++◌, append-nil, append_assoc}
use mathlib.Core.Path.{◌≡◌, refl, sym, ap, ap₂, ◌∙◌, subst}
use Prim.Native.Nat.{ℕ, ◌+◌, ◌-◌, ◌*◌, ◌%◌, ◌^◌, ◌≤◌, ◌<◌}
use native.Mathlib.Nat.{add-zero, le_refl}
use native.Mathlib.Omega.{arith}
use lib.ListN.{length, take, drop, length-append}
use lib.Seq.{drop-drop, take-add, length-take-le}
use Rattle.paper.specs.Result.{refused, Read, return}
use Rattle.paper.specs.Bits.{to_bits, value, bits_of, field}
use Rattle.paper.proofs.Readers.{refused_accepted}
use Rattle.paper.proofs.Bits.{length_to_bits, value_to_bits, field_there, field_read, all_take, all_drop}
use Rattle.paper.proofs.Bytes.{to_bits_below, bits_below, to_bits_value}
use Rattle.bits.specs.Field.{Written}
use Rattle.bits.proofs.Reading.{Got, bits_left}
use Rattle.bits.proofs.Writing.{written, read_behind}
use Rattle.side.specs.Promises.{bits_at}
use Rattle.writer.specs.Promises.{BitsPut}

pub put_none : (at : ℕ) (out : List ℕ) → BitsPut at [] out out at
put_none at out = record { ends = sym (add-zero at); long = refl; front = λ _. sym (append-nil (take at (bits_of out))); behind = λ _. refl }

pub put_as : {at : ℕ} {xs ys out out' : List ℕ} {next : ℕ} → xs ≡ ys → BitsPut at xs out out' next → BitsPut at ys out out' next
put_as {at} {out = out} {out' = out'} {next = next} e = subst (λ (zs : List ℕ). BitsPut at zs out out' next) e

pub put_no_bits : (at : ℕ) (out xs : List ℕ) (k : ℕ) → k ≡ 0 → BitsPut at (take k xs) out out at
put_no_bits at out xs k e = put_as (ap (λ (i : ℕ). take i xs) (sym e)) (put_none at out)

drop_more : (m n : ℕ) (xs ys : List ℕ) → m ≤ n → drop m xs ≡ drop m ys → drop n xs ≡ drop n ys
drop_more m n xs ys h e =
    let f : m + (n - m) ≡ n = omega arith in
    ap (λ (k : ℕ). drop k xs) (sym f)
    ∙ sym (drop-drop (n - m) m xs)
    ∙ ap (drop (n - m)) e
    ∙ drop-drop (n - m) m ys
    ∙ ap (λ (k : ℕ). drop k ys) f

-- one part after another
pub put_both : {at : ℕ} {xs ys out out₁ out₂ : List ℕ} {n₁ n₂ : ℕ} → BitsPut at xs out out₁ n₁ → BitsPut n₁ ys out₁ out₂ n₂ → BitsPut at (xs ++ ys) out out₂ n₂
put_both {at} {xs} {ys} {out} {out₁} {out₂} {n₁} {n₂} p q =
    let e = p.ends in
    let f = q.ends in
    let l = p.long in
    record {
      ends = omega (arith, length-append xs ys);
      long = q.long ∙ l;
      front = λ h.
          q.front (omega arith)
          ∙ ap (λ (zs : List ℕ). zs ++ ys) (p.front (omega arith))
          ∙ append_assoc (take at (bits_of out)) xs ys;
      behind = λ h. q.behind (omega arith) ∙ drop_more n₁ n₂ (bits_of out₁) (bits_of out) (omega arith) (p.behind (omega arith));
    }

-- a field, where it fits and where it does not
pub put_field : (at n v : ℕ) {out out' : List ℕ} → Written out at n v out' → at + n ≤ 8 * length out → BitsPut at (to_bits n v) out out' (at + n)
put_field at n v w h = record {
  ends = ap (λ (k : ℕ). at + k) (sym (length_to_bits n v));
  long = w.long;
  front = λ _. written w h refl;
  behind = λ _. read_behind w h (at + n) (le_refl (at + n));
}

pub put_out : (at n v : ℕ) (out : List ℕ) → 8 * length out < at + n → BitsPut at (to_bits n v) out out (at + n)
put_out at n v out h = record {
  ends = ap (λ (k : ℕ). at + k) (sym (length_to_bits n v));
  long = refl;
  front = λ k. absurd (omega arith);
  behind = λ _. refl;
}

-- a number's n low bits do not see what stands above them
pub to_bits_low : (n v : ℕ) → to_bits n (v % 2 ^ n) ≡ to_bits n v
to_bits_low n v =
    ap₂ (λ (k x : ℕ). to_bits k x) (sym (length_to_bits n v)) (sym (value_to_bits n v)) ∙ to_bits_value (to_bits n v) (to_bits_below n v)

-- Bits of the book

module _ {bytes : List ℕ} {at n v next : ℕ} (g : Got bytes at n v next) where
  -- a field's bits stand before what follows it
  pub got_bits : (to_bits n v ≡ take n (bits_at bytes at)) × (bits_at bytes next ≡ drop n (bits_at bytes at))
  unfolding return
  got_bits =
      let xs : List ℕ = bits_at bytes at in
      let (l, e) = field_read n xs (record { value = v; left = bits_at bytes next }) g.is in
      let w : v ≡ value (take n xs) = ap (λ (r : Read ℕ). r.value) e in (
        ap₂ (λ (k x : ℕ). to_bits k x) (sym l) w ∙ to_bits_value (take n xs) (all_take n xs (all_drop at (bits_of bytes) (bits_below bytes))),
        ap (λ (r : Read ℕ). r.left) e,
      )

  -- k bits of which this field is the front
  pub copy_more : (k k' : ℕ) → k ≡ n + k' → to_bits n v ++ take k' (bits_at bytes next) ≡ take k (bits_at bytes at)
  copy_more k k' e =
      ap₂ (λ (xs ys : List ℕ). xs ++ take k' ys) got_bits.0 got_bits.1
      ∙ sym (take-add n k' (bits_at bytes at))
      ∙ ap (λ (i : ℕ). take i (bits_at bytes at)) (sym e)

-- bits that are there do not run out
pub there : (bytes : List ℕ) (at n : ℕ) {k : ℕ} → n ≤ 8 * length bytes - at → field n (bits_at bytes at) ≡ refused k → ⊥
unfolding return
there bytes at n h e =
    refused_accepted (sym e ∙ field_there n (bits_at bytes at) (length-take-le n (bits_at bytes at) (omega (arith, bits_left bytes at))))
