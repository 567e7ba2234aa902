-- What stands in the part behind the name: the book's length, the day, the book, and from the next byte on the fields, which are read back. Assumes nothing.
use mathlib.Core.Bool.{Bool, true, false}
use mathlib.Core.List.{List, [], ◌∷◌, ◌++◌, append_assoc}
use mathlib.Core.Path.{◌≡◌, refl, sym, ap, ◌∙◌}
use Prim.Native.Nat.{ℕ, pred, ◌+◌, ◌-◌, ◌<◌}
use native.Mathlib.Omega.{arith}
use lib.ListN.{length, take, drop, replicate}
use lib.Seq.{take_at, drop_at, drop-drop}
use Rattle.paper.specs.Result.{return}
use Rattle.paper.specs.Bits.{to_bits, bits_of, bytes_of}
use Rattle.paper.specs.Page.{number}
use Rattle.paper.specs.Sound.{All}
use Rattle.paper.specs.Writer.{concat}
use Rattle.paper.proofs.Bytes.{to_bits_below, bits_of_append, bits_bytes}
use Rattle.paper.proofs.Lists.{all_append}
use Rattle.flat.specs.Machine.{Frame, FlatUnit}
use Rattle.flat.specs.Form.{write_frame, write_mark, write_unit, Saved, write_saved, read_saved}
use Rattle.flat.proofs.Form.{Fits, saved_read}
use Rattle.stream.specs.Promises.{bytes}
use Rattle.stream.proofs.Numbers.{length_bytes, number_bytes}
use Rattle.slots.specs.Slot.{padded, point_bytes}

-- FIELDS ARE BITS

abbrev Bits : List ℕ → Type 0
Bits xs = All (λ x. x < 2) xs

both : (xs ys : List ℕ) → Bits xs → Bits ys → Bits (xs ++ ys)
both xs ys h k = all_append (λ x. x < 2) xs ys h k

concat_bits : {A : Type 0} (f : A → List ℕ) → ((a : A) → Bits (f a)) → (xs : List A) → Bits (concat f xs)
unfolding concat
concat_bits f h [] = tt
concat_bits f h (x ∷ xs) = both (f x) (concat f xs) (h x) (concat_bits f h xs)

field_then : (n v : ℕ) (ys : List ℕ) → Bits ys → Bits (to_bits n v ++ ys)
field_then n v ys h = both (to_bits n v) ys (to_bits_below n v) h

frame_bits : (f : Frame) → Bits (write_frame f)
unfolding write_frame
frame_bits (Frame.job a k c) = field_then 2 0 (to_bits 10 a ++ (to_bits 4 k ++ to_bits 3 c)) (field_then 10 a (to_bits 4 k ++ to_bits 3 c) (field_then 4 k (to_bits 3 c) (to_bits_below 3 c)))
frame_bits (Frame.exit w i) = field_then 2 1 (to_bits 3 w ++ to_bits 11 i) (field_then 3 w (to_bits 11 i) (to_bits_below 11 i))
frame_bits Frame.sleep = to_bits_below 2 2
frame_bits Frame.bingo = to_bits_below 2 3

mark_bits : (b : Bool) → Bits (write_mark b)
unfolding write_mark
mark_bits false = to_bits_below 1 0
mark_bits true = to_bits_below 1 1

unit_bits : (x : FlatUnit) → Bits (write_unit x)
unfolding write_unit
unit_bits x =
    let fs : List ℕ = concat write_frame x.stack in
    field_then 3 x.rank (to_bits 11 (length x.stack) ++ fs) (field_then 11 (length x.stack) fs (concat_bits write_frame frame_bits x.stack))

saved_bits : (S : Saved) → Bits (write_saved S)
unfolding write_saved
saved_bits S =
    let s = S.parked.state in
    let v₁ : List ℕ = concat (to_bits 3) s.placed in
    let v₂ : List ℕ = to_bits 10 (length s.placed) ++ v₁ in
    let v₃ : List ℕ = concat write_unit s.units ++ v₂ in
    let v₄ : List ℕ = concat write_mark s.marks ++ v₃ in
    let v₅ : List ℕ = concat (to_bits 8) s.symbols ++ v₄ in
    let v₆ : List ℕ = to_bits 10 (pred (length s.symbols)) ++ v₅ in
    let v₇ : List ℕ = to_bits 64 s.kept ++ v₆ in
    let v₈ : List ℕ = to_bits 64 s.granted ++ v₇ in
    let v₉ : List ℕ = to_bits 64 S.parked.entries ++ v₈ in
    let w₁ : List ℕ = to_bits 64 s.rewrites ++ v₉ in
    let w₂ : List ℕ = to_bits 32 S.budget ++ w₁ in
    let b₃ : Bits v₃ =
    both (concat write_unit s.units) v₂ (concat_bits write_unit unit_bits s.units)
    (field_then 10 (length s.placed) v₁ (concat_bits (to_bits 3) (to_bits_below 3) s.placed)) in
    let b₅ : Bits v₅ =
    both (concat (to_bits 8) s.symbols) v₄ (concat_bits (to_bits 8) (to_bits_below 8) s.symbols)
    (both (concat write_mark s.marks) v₃ (concat_bits write_mark mark_bits s.marks) b₃) in
    field_then 3 (pred (length s.units)) w₂ (field_then 32 S.budget w₁ (field_then 64 s.rewrites v₉ (field_then 64 S.parked.entries v₈
    (field_then 64 s.granted v₇ (field_then 64 s.kept v₆ (field_then 10 (pred (length s.symbols)) v₅ b₅))))))

-- WHAT STANDS WHERE

module _ (n : ℕ) (book : List ℕ) (day : ℕ) (S : Saved) where
  abbrev part : List ℕ
  part = padded n (point_bytes book day S)

  abbrev fields : List ℕ
  fields = bytes_of (write_saved S)

  abbrev zeros : List ℕ
  zeros = replicate (n - length (point_bytes book day S)) 0

  parted : part ≡ bytes 2 (length book) ++ (bytes 2 day ++ (book ++ (fields ++ zeros)))
  unfolding padded point_bytes
  parted = simp append_assoc

  pub part_length : length book < 65536 → number 0 (take 2 part) ≡ length book
  part_length h = ap (λ (l : List ℕ). number 0 (take 2 l)) parted ∙ ap (number 0) (take_at (bytes 2 (length book)) _ 2 (length_bytes 2 (length book))) ∙ number_bytes 2 (length book) (omega arith)

  behind_length : drop 2 part ≡ bytes 2 day ++ (book ++ (fields ++ zeros))
  behind_length = ap (drop 2) parted ∙ drop_at (bytes 2 (length book)) _ 2 (length_bytes 2 (length book))

  pub part_day : day < 65536 → number 0 (take 2 (drop 2 part)) ≡ day
  part_day h = ap (λ (l : List ℕ). number 0 (take 2 l)) behind_length ∙ ap (number 0) (take_at (bytes 2 day) _ 2 (length_bytes 2 day)) ∙ number_bytes 2 day (omega arith)

  behind_day : drop 4 part ≡ book ++ (fields ++ zeros)
  behind_day = sym (drop-drop 2 2 part) ∙ ap (drop 2) behind_length ∙ drop_at (bytes 2 day) _ 2 (length_bytes 2 day)

  pub part_book : take (length book) (drop 4 part) ≡ book
  part_book = ap (take (length book)) behind_day ∙ take_at book _ (length book) refl

  behind_book : drop (4 + length book) part ≡ fields ++ zeros
  behind_book = sym (drop-drop (length book) 4 part) ∙ ap (drop (length book)) behind_day ∙ drop_at book _ (length book) refl

  -- the fields, and what is behind them
  pub part_fields : (zs : List ℕ) × (bits_of (drop (4 + length book) part) ≡ write_saved S ++ zs)
  part_fields =
      let (k, _, e) = bits_bytes (write_saved S) (saved_bits S) in (
        replicate k 0 ++ bits_of zeros,
        ap bits_of behind_book ∙ bits_of_append fields zeros ∙ ap (λ (l : List ℕ). l ++ bits_of zeros) e ∙ append_assoc (write_saved S) (replicate k 0) (bits_of zeros),
      )

  pub part_read : (arity : ℕ → ℕ) → Fits arity S → (zs : List ℕ) × (read_saved arity (bits_of (drop (4 + length book) part)) ≡ return S zs)
  part_read arity h = let (zs, e) = part_fields in (zs, ap (read_saved arity) e ∙ saved_read arity S zs h)
