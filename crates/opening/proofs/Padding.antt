-- The bits from a position to the next whole byte, read as one field. Assumes nothing.
use mathlib.Core.Bool.{Bool, true}
use mathlib.Core.List.{List, [], ◌∷◌}
use mathlib.Core.Path.{◌≡◌, refl, sym, ap, ◌∙◌}
use Prim.Native.Nat.{ℕ, zero, suc, ◌+◌, ◌-◌, ◌*◌, ◌%◌, ◌^◌, ◌≤◌, ◌<◌}
use native.Mathlib.Nat.{suc-mul}
use native.Mathlib.Omega.{arith}
use lib.Dec.{eqb, eqb-suc-zero}
use lib.ListN.{length, take, drop, length-take}
use lib.Pow.{pow_pos}
use lib.Seq.{length-take-le}
use Rattle.paper.specs.Result.{refused, Read, return}
use Rattle.paper.specs.Bits.{bits_of, value, field}
use Rattle.paper.specs.Reader.{all_zero}
use Rattle.paper.specs.Sound.{All}
use Rattle.paper.proofs.Bits.{all_take, all_drop, field_there, field_read}
use Rattle.paper.proofs.Bytes.{bits_below}
use Rattle.paper.proofs.Readers.{refused_accepted}
use Rattle.paper.proofs.Tests.{eqb_false}
use Rattle.bits.specs.declared.Bits.{Bits}
use Rattle.bits.specs.Field.{Answers}
use Rattle.bits.proofs.Reading.{Got, got, ran_out, bits_left}
use Rattle.std.specs.Prelude.{Option, Some, None, MatchOption}
use Rattle.opening.specs.Promises.{zero_to_byte}

-- bits are all 0 exactly if they make 0
value_zero : (xs : List ℕ) → All (λ x. x < 2) xs → eqb (value xs) 0 ≡ all_zero xs
unfolding value all_zero
value_zero [] h = refl
value_zero (zero ∷ xs) h = let e : 0 * 2 ^ length xs + value xs ≡ value xs = omega arith in ap (λ (k : ℕ). eqb k 0) e ∙ value_zero xs h.1
value_zero (suc x ∷ xs) h =
    rw (eqb-suc-zero x) (eqb_false (suc x * 2 ^ length xs + value xs) 0 (λ e. omega (arith, pow_pos (length xs), suc-mul x (2 ^ length xs))))

module _ (bytes : List ℕ) (at : ℕ) where
  abbrev left : List ℕ
  left = drop at (bits_of bytes)

  none : length left % 8 ≡ 0 → true ≡ zero_to_byte bytes at
  unfolding all_zero
  none e = rw e refl

  pub whole_byte : at % 8 ≡ 0 → true ≡ zero_to_byte bytes at
  whole_byte e = none (let a = bits_left bytes at in omega (arith, a, e))

  module _ (k : ℕ) (e : k ≡ 8 - at % 8) (some : at % 8 ≡ 0 → ⊥) where
    pub padding_is : (v next : ℕ) → Got bytes at k v next → eqb v 0 ≡ zero_to_byte bytes at
    unfolding return
    padding_is v next g =
        let (l, r) = field_read k left (record { value = v; left = drop next (bits_of bytes) }) g.is in
        let f : k ≡ length left % 8 = (let a = bits_left bytes at in let b = length-take k left in omega (arith, a, b, l, e, some)) in
        let w : v ≡ value (take k left) = ap (λ (z : Read ℕ). z.value) r in
        ap (λ (z : ℕ). eqb z 0) w
        ∙ value_zero (take k left) (all_take k left (all_drop at (bits_of bytes) (bits_below bytes)))
        ∙ ap (λ (i : ℕ). all_zero (take i left)) f

    -- there are none behind the last byte
    pub padding_none : field k left ≡ refused 1 → true ≡ zero_to_byte bytes at
    unfolding return
    padding_none h =
        let short : k ≤ length left → ⊥ = λ l. refused_accepted (sym h ∙ field_there k left (length-take-le k left l)) in
        none (let a = bits_left bytes at in omega (arith, a, e, short))

    -- as the code asks: there is none, or it is 0
    pub padding : (r : Option Bits) (b : Bool) → Answers bytes at k r → MatchOption r (b ≡ true) (λ f. b ≡ eqb f.value 0) → b ≡ zero_to_byte bytes at
    padding (Some f) b a h = h ∙ padding_is f.value f.next (got a refl)
    padding None b a h = h ∙ padding_none (ran_out a refl)
