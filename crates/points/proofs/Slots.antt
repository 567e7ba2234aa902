-- A slot that is written in bytes is the point's, and put back in the buffer nothing else of it changes. Assumes nothing.
use mathlib.Core.Bool.{Bool, true, false}
use mathlib.Core.List.{List, [], ◌∷◌, ◌++◌, append_assoc}
use mathlib.Core.Path.{◌≡◌, sym, ap, ap₂, ◌∙◌}
use Prim.Native.Nat.{ℕ, suc, ◌+◌, ◌*◌, ◌-◌, ◌/◌, ◌%◌, ◌≤◌, ◌<◌}
use native.Mathlib.Omega.{arith}
use lib.ListN.{length, take, drop, replicate, length-append, length-drop}
use lib.Seq.{drop-drop, length-take-le}
use Rattle.paper.specs.Result.{if}
use Rattle.paper.specs.Bits.{bytes_of}
use Rattle.flat.specs.Form.{Saved, write_saved}
use Rattle.stream.specs.Promises.{bytes}
use Rattle.run.specs.declared.Run.{Run}
use Rattle.slots.specs.Slot as S
use Rattle.slots.specs.Slot.{padded, name_bytes, slot_bytes}
use Rattle.parking.specs.Form.{slot_length, name_length, two_bytes, filled, point_bytes, write_point}
use Rattle.parking.specs.Points.{put}
use Rattle.parking.proofs.Form.{length_filled}
use Rattle.checking.specs.Promises.{Inside}
use Rattle.points.specs.Promises.{point, is_cut}

-- two bytes, either way
two : (v : ℕ) → v < 65536 → bytes 2 v ≡ two_bytes v
unfolding bytes two_bytes
two v h = let e : (v / 256) % 256 ≡ v / 256 = omega (arith, h) in ap (λ (x : ℕ). x ∷ v % 256 ∷ []) e

-- a slot's bytes are the point's, zeros behind them
pub slot_is : (name book : List ℕ) (day : ℕ) (S : Saved) → length name ≤ name_length → length book < 65536 → day < 65536 →
    slot_bytes slot_length name book day S ≡ write_point (point name book day S)
unfolding slot_bytes name_bytes S.point_bytes padded write_point point_bytes filled
slot_is name book day S hn hb hd =
    let N : List ℕ = filled name_length name in
    let Y : List ℕ = two_bytes (length book) ++ (two_bytes day ++ (book ++ bytes_of (write_saved S))) in
    let e : slot_length - 17 - length Y ≡ slot_length - suc (length (N ++ Y)) = omega (arith, length-append N Y, length_filled name_length name hn) in
    ap₂ (λ (a b : List ℕ). length name ∷ (N ++ ((a ++ (b ++ (book ++ bytes_of (write_saved S))))
    ++ replicate (slot_length - 17 - length (a ++ (b ++ (book ++ bytes_of (write_saved S))))) 0))) (two (length book) hb) (two day hd)
    ∙ ap (λ (n : ℕ). length name ∷ (N ++ (Y ++ replicate n 0))) e
    ∙ ap (λ (l : List ℕ). length name ∷ l) (sym (append_assoc N Y (replicate (slot_length - suc (length (N ++ Y))) 0)))

-- PUT BACK

module _ (k : ℕ) (points : List ℕ) (h : Inside points k) (start end : ℕ) (s : start ≡ k * slot_length) (e : end ≡ start + slot_length) where
  -- how long the slot is
  pub slot_long : length (take (end - start) (drop start points)) ≡ slot_length
  slot_long =
      let a = length-drop start points in
      let n : end - start ≡ slot_length = omega (arith, e) in
      length-take-le (end - start) (drop start points) (omega (arith, a, n, s, h.slot, h.long)) ∙ n

  pub slot_put : (part bytes : List ℕ) → part ≡ bytes → take start points ++ (part ++ drop (end - start) (drop start points)) ≡ put k bytes points
  unfolding put
  slot_put part bytes p =
      let n : start + (end - start) ≡ suc k * slot_length = omega (arith, e, s) in
      ap₂ (λ (a b : List ℕ). a ++ (b ++ drop (end - start) (drop start points))) (ap (λ (i : ℕ). take i points) s) p
      ∙ ap (λ (l : List ℕ). take (k * slot_length) points ++ (bytes ++ l)) (drop-drop (end - start) start points ∙ ap (λ (i : ℕ). drop i points) n)

-- BY THE ENDING

module _ (r : Run) (x y z : List ℕ) where
  pub if_cut : is_cut r.ending ≡ true → z ≡ x → z ≡ if (is_cut r.ending) x y
  if_cut e h = h ∙ sym (ap (λ (b : Bool). if b x y) e)

  pub if_over : is_cut r.ending ≡ false → z ≡ y → z ≡ if (is_cut r.ending) x y
  if_over e h = h ∙ sym (ap (λ (b : Bool). if b x y) e)
