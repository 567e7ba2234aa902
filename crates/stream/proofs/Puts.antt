-- Bytes that are written at a position: none, some, one part after another, and the bytes of a number. Assumes nothing.
use mathlib.Core.List.{List, [], ◌∷◌, ◌++◌, append_assoc}
use mathlib.Core.Path.{◌≡◌, refl, sym, ap, ap₂, ◌∙◌, subst}
use Prim.Native.Nat.{ℕ, suc, ◌+◌, ◌/◌, ◌%◌, ◌≤◌, ◌<◌}
use native.Mathlib.Nat.{add-zero, add-suc}
use native.Mathlib.Omega.{arith}
use lib.ListN.{length, set, take, drop, length-append, take-append-drop}
use lib.Seq.{take-length, length-take-le, take_at, take-set-le, drop_at, drop-drop, set_split, paste, length-paste}
use Rattle.stream.specs.Promises.{bytes, WrittenAt}
use Rattle.stream.proofs.Numbers.{length_bytes}

module _ {at : ℕ} {xs output output' : List ℕ} {next : ℕ} (p : WrittenAt at xs output output' next) where
  front_length : length (take at output ++ xs) ≡ next
  front_length =
      let e = p.ends in
      let f = p.fits in
      omega (arith, length-append (take at output) xs, length-take-le at output (omega arith))

  parted : output' ≡ (take at output ++ xs) ++ drop next output
  parted = p.is ∙ sym (append_assoc (take at output) xs (drop next output))

  front : take next output' ≡ take at output ++ xs
  front = ap (take next) parted ∙ take_at (take at output ++ xs) (drop next output) next front_length

  behind : (k : ℕ) → drop (next + k) output' ≡ drop (next + k) output
  behind k =
      sym (drop-drop k next output')
      ∙ ap (λ (l : List ℕ). drop k l) (ap (drop next) parted ∙ drop_at (take at output ++ xs) (drop next output) next front_length)
      ∙ drop-drop k next output

pub put_none : (at : ℕ) (output : List ℕ) → at ≤ length output → WrittenAt at [] output output at
put_none at output h = record { ends = sym (add-zero at); fits = h; long = refl; is = sym (take-append-drop at output) }

pub put_as : {at : ℕ} {xs ys output output' : List ℕ} {next : ℕ} → xs ≡ ys → WrittenAt at xs output output' next → WrittenAt at ys output output' next
put_as {at} {output = output} {output' = output'} {next = next} e = subst (λ (zs : List ℕ). WrittenAt at zs output output' next) e

-- a loop has copied all of them
pub put_all : (at n : ℕ) (xs output : List ℕ) {output' : List ℕ} → n ≡ length xs → at + n ≤ length output → output' ≡ paste output at xs n →
    WrittenAt at xs output output' (at + n)
put_all at n xs output e h p = record {
  ends = ap (λ (k : ℕ). at + k) e;
  fits = h;
  long = ap length p ∙ length-paste output at xs n h (omega arith);
  is =
      p
      ∙ append_assoc (take at output) (take n xs) (drop (at + n) output)
      ∙ ap (λ (l : List ℕ). take at output ++ (l ++ drop (at + n) output)) (ap (λ (k : ℕ). take k xs) e ∙ take-length xs);
}

-- one part after another
pub put_both : {at : ℕ} {xs ys output output₁ output₂ : List ℕ} {n₁ n₂ : ℕ} → WrittenAt at xs output output₁ n₁ →
    WrittenAt n₁ ys output₁ output₂ n₂ → WrittenAt at (xs ++ ys) output output₂ n₂
put_both {at} {xs} {ys} {output} {output₁} {output₂} {n₁} {n₂} p q =
    let e = p.ends in
    let f = q.ends in
    let l = p.long in
    record {
      ends = omega (arith, length-append xs ys);
      fits = omega (arith, q.fits);
      long = q.long ∙ l;
      is =
          q.is
          ∙ ap₂ (λ (a b : List ℕ). a ++ (ys ++ b)) (front p)
          (ap (λ (k : ℕ). drop k output₁) f ∙ behind p (length ys) ∙ ap (λ (k : ℕ). drop k output) (sym f))
          ∙ append_assoc (take at output) xs (ys ++ drop n₂ output)
          ∙ ap (λ (a : List ℕ). take at output ++ a) (sym (append_assoc xs ys (drop n₂ output)));
    }

-- THE BYTES OF A NUMBER

pub drop_set : (l : List ℕ) (i x : ℕ) → i < length l → drop i (set l i x) ≡ x ∷ drop (suc i) l
drop_set l i x h = ap (drop i) (set_split l i x h) ∙ drop_at (take i l) (x ∷ drop (suc i) l) i (length-take-le i l (omega arith))

-- the last n bytes of v in their place among others
abbrev pub with_bytes : ℕ → ℕ → ℕ → List ℕ → List ℕ
with_bytes at n v l = take at l ++ (bytes n v ++ drop (at + n) l)

-- the last byte is stored, and those before it are left
pub byte_more : (at i j v : ℕ) (l : List ℕ) {x : ℕ} → i ≡ suc j → at + i ≤ length l → x ≡ v % 256 →
    with_bytes at j (v / 256) (set l (at + j) x) ≡ with_bytes at i v l
unfolding bytes
byte_more at i j v l {x} e h f =
    ap₂ (λ (a b : List ℕ). a ++ (bytes j (v / 256) ++ b)) (take-set-le at l (at + j) x (omega arith)) (drop_set l (at + j) x (omega arith))
    ∙ ap (λ (a : List ℕ). take at l ++ a) (sym (append_assoc (bytes j (v / 256)) (x ∷ []) (drop (suc (at + j)) l)))
    ∙ ap₂ (λ (y k : ℕ). take at l ++ ((bytes j (v / 256) ++ (y ∷ [])) ++ drop k l)) f (sym (add-suc at j))
    ∙ ap (λ (k : ℕ). with_bytes at k v l) (sym e)

-- none is left
pub put_bytes : (at n v i left : ℕ) (output : List ℕ) {output' : List ℕ} → i ≡ 0 → at + n ≤ length output → length output' ≡ length output →
    with_bytes at i left output' ≡ with_bytes at n v output → WrittenAt at (bytes n v) output output' (at + n)
unfolding bytes
put_bytes at n v i left output {output'} e h l p = record {
  ends = ap (λ (k : ℕ). at + k) (sym (length_bytes n v));
  fits = h;
  long = l;
  is =
      sym (take-append-drop at output')
      ∙ ap (λ (k : ℕ). take at output' ++ drop k output') (sym (add-zero at))
      ∙ ap (λ (k : ℕ). with_bytes at k left output') (sym e)
      ∙ p;
}
