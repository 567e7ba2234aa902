-- Bits that are written: none, a field, one part after another, a number in two parts. Assumes nothing.
use mathlib.Core.List.{List, [], ◌++◌, append_assoc}
use mathlib.Core.Path.{◌≡◌, refl, sym, ap, ap₂, ◌∙◌, subst}
use Prim.Native.Nat.{ℕ, ◌+◌, ◌*◌, ◌/◌, ◌%◌, ◌^◌, ◌≤◌}
use native.Mathlib.Nat.{add-zero, mod-lt}
use native.Mathlib.Omega.{arith}
use lib.ListN.{length, take, drop, length-append, take-append-drop}
use lib.Pow as pow
use Rattle.paper.specs.Bits.{to_bits, bits_of}
use Rattle.paper.proofs.Bits.{length_to_bits}
use Rattle.paper.proofs.Bytes.{length_bits_of}
use Rattle.bits.specs.Field.{splice, Written}
use Rattle.bits.proofs.Bytes.{two}
use Rattle.bits.proofs.Splice.{splice_up_to, splice_behind}
use Rattle.point_writer.specs.Promises.{Put}

pub put_none : (at : ℕ) (out : List ℕ) → at ≤ 8 * length out → Put at [] out out at
unfolding splice
put_none at out h = record {
  ends = sym (add-zero at);
  fits = h;
  long = refl;
  is = sym (ap (λ (k : ℕ). take at (bits_of out) ++ drop k (bits_of out)) (add-zero at) ∙ take-append-drop at (bits_of out));
}

pub put_as : {at : ℕ} {xs ys out out' : List ℕ} {next : ℕ} → xs ≡ ys → Put at xs out out' next → Put at ys out out' next
put_as {at} {out = out} {out' = out'} {next = next} e = subst (λ (zs : List ℕ). Put at zs out out' next) e

-- two parts, the second behind the first, are one
splice_both : (l : List ℕ) (at : ℕ) (xs ys : List ℕ) → at + length xs ≤ length l → splice (splice l at xs) (at + length xs) ys ≡ splice l at (xs ++ ys)
unfolding splice
splice_both l at xs ys h =
    let e : at + length xs + length ys ≡ at + length (xs ++ ys) = omega (arith, length-append xs ys) in
    ap₂ (λ (a b : List ℕ). a ++ (ys ++ b)) (splice_up_to l at xs h) (splice_behind l at xs h (at + length xs + length ys) (omega arith))
    ∙ append_assoc (take at l) xs (ys ++ drop (at + length xs + length ys) l)
    ∙ ap (λ (k : List ℕ). take at l ++ k)
    (sym (append_assoc xs ys (drop (at + length xs + length ys) l)) ∙ ap (λ (i : ℕ). (xs ++ ys) ++ drop i l) e)

-- one part after another
pub put_both : {at : ℕ} {xs ys out out₁ out₂ : List ℕ} {n₁ n₂ : ℕ} → Put at xs out out₁ n₁ → Put n₁ ys out₁ out₂ n₂ → Put at (xs ++ ys) out out₂ n₂
put_both {at} {xs} {ys} {out} {out₁} {out₂} {n₁} {n₂} p q =
    let e = p.ends in
    let f = q.ends in
    let l = p.long in
    let h = q.fits in
    record {
      ends = omega (arith, length-append xs ys);
      fits = omega arith;
      long = q.long ∙ l;
      is =
          q.is
          ∙ ap₂ (λ (bs : List ℕ) (i : ℕ). splice bs i ys) p.is e
          ∙ splice_both (bits_of out) at xs ys (let g = p.fits in omega (arith, length_bits_of out));
    }

pub put_field : (at n v : ℕ) {out out' : List ℕ} → Written out at n v out' → at + n ≤ 8 * length out → Put at (to_bits n v) out out' (at + n)
put_field at n v w h = record { ends = ap (λ (k : ℕ). at + k) (sym (length_to_bits n v)); fits = h; long = w.long; is = w.is }

-- a number's bits are those of its high part and those of its low part
pub in_two : (m n v h l : ℕ) → h ≡ v / 2 ^ n → l ≡ v % 2 ^ n → to_bits m h ++ to_bits n l ≡ to_bits (m + n) v
in_two m n v h l e f =
    ap₂ (λ (x y : ℕ). to_bits m x ++ to_bits n y) e f
    ∙ sym (two m n (v / 2 ^ n) (v % 2 ^ n) (mod-lt v (pow.pow_pos n)))
    ∙ ap (to_bits (m + n)) (pow.split v n)
