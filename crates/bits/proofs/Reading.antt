-- Reading a field: what the window gives is what the paper's reader answers, and what a caller knows of an answer. Assumes nothing.
use mathlib.Core.List.{List}
use mathlib.Core.Path.{◌≡◌, refl, sym, ap, ap₂, ◌∙◌, subst}
use Prim.Native.Nat.{ℕ, zero, suc, ◌+◌, ◌-◌, ◌*◌, ◌/◌, ◌%◌, ◌^◌, ◌≤◌, ◌<◌}
use native.Mathlib.Nat.{add-zero, mod-one, min-le_right}
use native.Mathlib.Omega.{arith}
use borrow.Author.Tests.{ne_eqb}
use lib.ListN.{length, take, drop, length-take, length-drop}
use Rattle.paper.specs.Result.{refused, return, refuse}
use Rattle.paper.specs.Bits.{bits_of, field}
use Rattle.paper.proofs.Bits.{all_drop, field_bounded}
use Rattle.paper.proofs.Bytes.{bits_below, length_bits_of}
use Rattle.std.specs.Prelude.{Option, Some, None}
use Rattle.bits.specs.declared.Bits as D
use Rattle.bits.specs.Field.{Answers}
use Rattle.bits.specs.Window.{Window}
use Rattle.bits.proofs.Place.{read_window}

-- how many bits stand from a position on
pub bits_left : (bytes : List ℕ) (at : ℕ) → length (drop at (bits_of bytes)) ≡ 8 * length bytes - at
bits_left bytes at = length-drop at (bits_of bytes) ∙ ap (λ (k : ℕ). k - at) (length_bits_of bytes)

-- what the code answers, where the bits are there and where they run out
pub answers_value : (bytes : List ℕ) (at n w v : ℕ) → n ≤ 16 → n ≤ 8 * length bytes - at → Window bytes (at / 8) w →
    v ≡ w / 2 ^ (24 - at % 8 - n) % 2 ^ n → Answers bytes at n (Some (record { value = v; next = at + n }))
unfolding field return
answers_value bytes at zero w v k h W e =
    record { is = ap₂ (λ (x i : ℕ). return x (drop i (bits_of bytes))) (e ∙ mod-one (w / 2 ^ (24 - at % 8 - 0))) (add-zero at); ends = refl }
answers_value bytes at (suc n) w v k h W e =
    record { is = ap (λ (x : ℕ). return x (drop (at + suc n) (bits_of bytes))) e ∙ sym (read_window bytes at (suc n) w k (omega arith) W); ends = refl }

pub answers_out : (bytes : List ℕ) (at n : ℕ) → 8 * length bytes - at < n → Answers bytes at n None
unfolding field refuse
answers_out bytes at n h =
    let short : length (take n (drop at (bits_of bytes))) ≤ length (drop at (bits_of bytes)) =
    rw length-take (min-le_right n (length (drop at (bits_of bytes)))) in
    record { is = simp (ne_eqb (length (take n (drop at (bits_of bytes)))) n (λ e. omega (arith, bits_left bytes at))); ends = tt }

-- what a caller knows of an answer
pub record Got (bytes : List ℕ) (at n v next : ℕ) : Type 0 where
  pub is : field n (drop at (bits_of bytes)) ≡ return v (drop next (bits_of bytes))
  pub ends : next ≡ at + n
  pub small : v < 2 ^ n

module _ {bytes : List ℕ} {at n : ℕ} {r : Option D.Bits} (a : Answers bytes at n r) where
  pub got : {f : D.Bits} → r ≡ Some f → Got bytes at n f.value f.next
  unfolding return
  got e =
      let is = sym (rw e at a.is) in
      let below = field_bounded n (drop at (bits_of bytes)) _ (all_drop at (bits_of bytes) (bits_below bytes)) is in
      record { is = is; ends = rw e at a.ends; small = below.0 }

  pub ran_out : r ≡ None → field n (drop at (bits_of bytes)) ≡ refused 1
  ran_out e = sym (rw e at a.is)

-- a field's value in another width
pub got_as : {bytes : List ℕ} {at n x v next : ℕ} → Got bytes at n x next → v ≡ x → Got bytes at n v next
got_as {bytes} {at} {n} {next = next} g e = subst (λ (z : ℕ). Got bytes at n z next) (sym e) g
