-- A name and what stands behind it, by the parts that are written one after another. Assumes nothing.
use mathlib.Core.List.{List, [], ◌∷◌, ◌++◌, append-nil, append_assoc}
use mathlib.Core.Path.{◌≡◌, sym, ap, ap₂, ◌∙◌, subst}
use Prim.Native.Nat.{ℕ, zero, suc, ◌+◌, ◌-◌, ◌*◌, ◌/◌, ◌%◌, ◌≤◌, ◌<◌}
use native.Mathlib.Omega.{arith}
use lib.ListN.{length, get_or, take, drop, replicate, length-append, length-drop, length-replicate, replicate-append-replicate, drop_of_length-le}
use lib.Seq.{take_at, drop_at, length-take-le}
use Rattle.paper.specs.Bits.{bits_of, bytes_of}
use Rattle.paper.specs.Sound.{All}
use Rattle.paper.proofs.Bytes.{bits_below, length_bits_of, bits_of_append, length_bytes_of, bits_bytes, bytes_below}
use Rattle.paper.proofs.Lists.{all_append, all_split, all_replicate}
use Rattle.bits.specs.Field.{splice}
use Rattle.bits.proofs.Splice.{splice_middle}
use Rattle.flat.specs.Form.{Saved, write_saved}
use Rattle.stream.specs.Promises.{bytes, WrittenAt}
use Rattle.stream.proofs.Numbers.{length_bytes}
use Rattle.point_writer.specs.Promises.{Put}
use Rattle.slots.specs.Slot.{padded, name_bytes, point_bytes}
use Rattle.slots.proofs.Bytes.{bytes_same, all_bytes, bits_zeros, bytes_zeros}

-- THE NAME

pub name_put : (name slot slot' : List ℕ) (k end : ℕ) → length name ≤ 16 → k ≡ 16 - length name →
    WrittenAt 0 (bytes 1 (length name) ++ (name ++ bytes k 0)) slot slot' end → slot' ≡ name_bytes name ++ drop 17 slot
unfolding name_bytes padded bytes
name_put name slot slot' k end h e w =
    let m : length name % 256 ≡ length name = omega arith in
    let n : end ≡ 17 = omega (arith, w.ends, length-append name (bytes k 0), length_bytes k 0) in
    w.is
    ∙ ap₂ (λ (x : ℕ) (l : List ℕ). (x ∷ (name ++ l)) ++ drop end slot) m (bytes_zeros k ∙ ap (λ (i : ℕ). replicate i 0) e)
    ∙ ap (λ (i : ℕ). name_bytes name ++ drop i slot) n

length_name : (name : List ℕ) → length name ≤ 16 → length (name_bytes name) ≡ 17
unfolding name_bytes padded
length_name name h = omega (arith, length-append name (replicate (16 - length name) 0), length-replicate {A = ℕ} (16 - length name) 0)

-- THE PART BEHIND IT

-- xs at the front of zeros, and then some bits behind xs
module _ (size : ℕ) (xs ws zs out out' : List ℕ) (k at end : ℕ) (z : zs ≡ replicate size 0) (w : WrittenAt 0 xs zs out k) (e : at ≡ 8 * k) (p : Put at ws out out' end)
    (bx : All (λ b. b < 256) xs) (b' : (i : ℕ) → get_or out' i 0 < 256) where
  k_is : k ≡ length xs
  k_is = let f = w.ends in omega arith

  fits : k + length (bytes_of ws) ≤ size
  fits = omega (arith, length_bytes_of ws, p.fits, p.ends, w.long, ap length z, length-replicate {A = ℕ} size 0)

  front : out ≡ xs ++ replicate (size - k) 0
  front =
      let s : size ≡ k + (size - k) = let f = fits in omega arith in
      w.is
      ∙ ap (λ (l : List ℕ). xs ++ l)
      (ap (drop k) (z ∙ ap (λ (i : ℕ). replicate i 0) s ∙ sym (replicate-append-replicate k (size - k) 0))
      ∙ drop_at (replicate k 0) (replicate (size - k) 0) k (length-replicate {A = ℕ} k 0))

  -- how many zero bits are behind
  left : ℕ
  left = 8 * (size - k) - length ws

  room : length ws ≤ 8 * (size - k)
  room = omega (arith, fits, length_bytes_of ws)

  written : bits_of out' ≡ bits_of xs ++ (ws ++ replicate left 0)
  unfolding left
  written =
      let s : 8 * (size - k) ≡ length ws + (8 * (size - k) - length ws) = let r = room in omega arith in
      let l : length (bits_of xs) ≡ at = length_bits_of xs ∙ ap (λ (i : ℕ). 8 * i) (sym k_is) ∙ sym e in
      p.is
      ∙ ap (λ (bs : List ℕ). splice bs at ws)
      (ap bits_of front ∙ bits_of_append xs (replicate (size - k) 0)
      ∙ ap (λ (bs : List ℕ). bits_of xs ++ bs)
      (bits_zeros (size - k) ∙ ap (λ (i : ℕ). replicate i 0) s ∙ sym (replicate-append-replicate (length ws) (8 * (size - k) - length ws) 0)))
      ∙ splice_middle (bits_of xs) (replicate (length ws) 0) (replicate (8 * (size - k) - length ws) 0) ws at l (sym (length-replicate {A = ℕ} (length ws) 0))

  bits : All (λ x. x < 2) ws
  bits =
      (all_split (λ x. x < 2) ws (replicate left 0)
      (all_split (λ x. x < 2) (bits_of xs) (ws ++ replicate left 0) (subst (All (λ x. x < 2)) written (bits_below out'))).1).0

  pub padded_put : out' ≡ padded size (xs ++ bytes_of ws)
  unfolding padded left
  padded_put =
      let (j, _, f) = bits_bytes ws bits in
      let n : ℕ = length (bytes_of ws) in
      let m : ℕ = size - length (xs ++ bytes_of ws) in
      let i : j + 8 * m ≡ 8 * (size - k) - length ws =
      omega (arith, k_is, fits, length-append xs (bytes_of ws), length_bits_of (bytes_of ws), ap length f, length-append ws (replicate j 0), length-replicate {A = ℕ} j 0) in
      bytes_same out' ((xs ++ bytes_of ws) ++ replicate m 0) (all_bytes out' b')
      (all_append (λ b. b < 256) (xs ++ bytes_of ws) (replicate m 0) (all_append (λ b. b < 256) xs (bytes_of ws) bx (bytes_below ws bits))
      (all_replicate (λ b. b < 256) m 0 (omega arith)))
      (written
      ∙ sym (bits_of_append (xs ++ bytes_of ws) (replicate m 0)
      ∙ ap₂ ◌++◌ (bits_of_append xs (bytes_of ws)) (bits_zeros m)
      ∙ append_assoc (bits_of xs) (bits_of (bytes_of ws)) (replicate (8 * m) 0)
      ∙ ap (λ (l : List ℕ). bits_of xs ++ l)
      (ap (λ (l : List ℕ). l ++ replicate (8 * m) 0) f
      ∙ append_assoc ws (replicate j 0) (replicate (8 * m) 0)
      ∙ ap (λ (l : List ℕ). ws ++ l) (replicate-append-replicate j (8 * m) 0 ∙ ap (λ (l : ℕ). replicate l 0) i))))

number_below : (n v : ℕ) → All (λ b. b < 256) (bytes n v)
unfolding bytes
number_below zero v = tt
number_below (suc n) v = all_append (λ b. b < 256) (bytes n (v / 256)) (v % 256 ∷ []) (number_below n (v / 256)) (omega arith, tt)

pub point_put : (size day d : ℕ) (book zs out out' : List ℕ) (S : Saved) (k at end : ℕ) → zs ≡ replicate size 0 → d ≡ day →
    WrittenAt 0 (bytes 2 (length book) ++ (bytes 2 d ++ book)) zs out k → at ≡ 8 * k → Put at (write_saved S) out out' end →
    ((i : ℕ) → get_or book i 0 < 256) → ((i : ℕ) → get_or out' i 0 < 256) → out' ≡ padded size (point_bytes book day S)
unfolding point_bytes
point_put size day d book zs out out' S k at end z f w e p b b' =
    let n : List ℕ = bytes 2 (length book) in
    padded_put size (n ++ (bytes 2 d ++ book)) (write_saved S) zs out out' k at end z w e p
    (all_append (λ b. b < 256) n (bytes 2 d ++ book) (number_below 2 (length book)) (all_append (λ b. b < 256) (bytes 2 d) book (number_below 2 d) (all_bytes book b))) b'
    ∙ ap (padded size)
    (append_assoc n (bytes 2 d ++ book) (bytes_of (write_saved S))
    ∙ ap (λ (l : List ℕ). n ++ l) (append_assoc (bytes 2 d) book (bytes_of (write_saved S)) ∙ ap (λ (x : ℕ). bytes 2 x ++ (book ++ bytes_of (write_saved S))) f))

-- A WHOLE SLOT

-- the name's slot, and the part behind the name put back
pub slot_put : (name slot named part xs : List ℕ) → length name ≤ 16 → 17 ≤ length slot → named ≡ name_bytes name ++ drop 17 slot →
    part ≡ padded (length (take (length named - 17) (drop 17 named))) xs →
    take 17 named ++ (part ++ drop (length named - 17) (drop 17 named)) ≡ name_bytes name ++ padded (length slot - 17) xs
slot_put name slot named part xs h l e f =
    let m = length_name name h in
    let n : length named ≡ length slot = omega (arith, ap length e, length-append (name_bytes name) (drop 17 slot), length-drop 17 slot) in
    let d : length (drop 17 named) ≡ length slot - 17 = omega (arith, length-drop 17 named) in
    let k : length (take (length named - 17) (drop 17 named)) ≡ length slot - 17 = length-take-le (length named - 17) (drop 17 named) (omega arith) ∙ omega arith in
    ap₂ (λ (a b : List ℕ). a ++ (part ++ b)) (ap (take 17) e ∙ take_at (name_bytes name) (drop 17 slot) 17 m)
    (drop_of_length-le (drop 17 named) {i = length named - 17} (omega arith))
    ∙ ap (λ (a : List ℕ). name_bytes name ++ a) (append-nil part ∙ f ∙ ap (λ (i : ℕ). padded i xs) k)
