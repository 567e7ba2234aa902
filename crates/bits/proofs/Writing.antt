-- Reading after writing: what was written is read back, and a field before it or behind it reads as it did. Assumes nothing.
use mathlib.Core.Bool.{Bool, true, false}
use mathlib.Core.List.{List, ◌++◌}
use mathlib.Core.Path.{◌≡◌, refl, sym, ap, ap₂, ◌∙◌}
use Prim.Native.Nat.{ℕ, ◌+◌, ◌*◌, ◌^◌, ◌≤◌, ◌<◌}
use lib.Dec.{eqb}
use lib.ListN.{length, take, drop}
use lib.Seq.{drop-drop}
use Rattle.paper.specs.Result.{if, return, refuse, then}
use Rattle.paper.specs.Bits.{to_bits, value, bits_of, field}
use Rattle.paper.proofs.Bits.{length_to_bits, field_to_bits}
use Rattle.paper.proofs.Bytes.{length_bits_of}
use Rattle.bits.specs.Field.{Written}
use Rattle.bits.proofs.Splice.{splice_here, splice_up_to, splice_before, splice_behind}

-- a field's value depends on its own bits alone
field_same : (m : ℕ) (xs ys : List ℕ) → take m xs ≡ take m ys → field m xs ≡ then (field m ys) (λ r. return r.value (drop m xs))
unfolding field then return refuse
field_same m xs ys e =
    ap (λ (l : List ℕ). if (eqb (length l) m) (return (value l) (drop m xs)) (refuse 1 xs)) e ∙ go (eqb (length (take m ys)) m)
  where
    go : (b : Bool) → if b (return (value (take m ys)) (drop m xs)) (refuse 1 xs)
        ≡ then (if b (return (value (take m ys)) (drop m ys)) (refuse 1 ys)) (λ r. return r.value (drop m xs))
    go true = refl
    go false = refl

module _ {bytes : List ℕ} {at n v : ℕ} {bytes' : List ℕ} (w : Written bytes at n v bytes') (fits : at + n ≤ 8 * length bytes) where
  room : at + length (to_bits n v) ≤ length (bits_of bytes)
  room = rw (length_to_bits n v, length_bits_of bytes) fits

  -- one field after another: xs stands up to at, and then with the field behind it
  pub written : {xs : List ℕ} → take at (bits_of bytes) ≡ xs → take (at + n) (bits_of bytes') ≡ xs ++ to_bits n v
  written e =
      ap₂ (λ (k : ℕ) (l : List ℕ). take (at + k) l) (sym (length_to_bits n v)) w.is
      ∙ splice_up_to (bits_of bytes) at (to_bits n v) room
      ∙ ap (λ (l : List ℕ). l ++ to_bits n v) e

  pub read_behind : (a : ℕ) → at + n ≤ a → drop a (bits_of bytes') ≡ drop a (bits_of bytes)
  read_behind a h = ap (drop a) w.is ∙ splice_behind (bits_of bytes) at (to_bits n v) room a (rw (length_to_bits n v) h)

  pub read_before : (a m : ℕ) → a + m ≤ at →
      field m (drop a (bits_of bytes')) ≡ then (field m (drop a (bits_of bytes))) (λ r. return r.value (drop (a + m) (bits_of bytes')))
  read_before a m h =
      field_same m (drop a (bits_of bytes')) (drop a (bits_of bytes))
      (ap (λ (l : List ℕ). take m (drop a l)) w.is ∙ splice_before (bits_of bytes) at (to_bits n v) room a m h)
      ∙ ap (λ (l : List ℕ). then (field m (drop a (bits_of bytes))) (λ r. return r.value l)) (drop-drop m a (bits_of bytes'))

  pub read_same : v < 2 ^ n → field n (drop at (bits_of bytes')) ≡ return v (drop (at + n) (bits_of bytes))
  read_same h =
      ap (field n) (ap (drop at) w.is ∙ splice_here (bits_of bytes) at (to_bits n v) room)
      ∙ field_to_bits n v (drop (at + length (to_bits n v)) (bits_of bytes)) h
      ∙ ap (λ (k : ℕ). return v (drop (at + k) (bits_of bytes))) (length_to_bits n v)
