-- What a caller of the reader knows of its answer. Assumes nothing.
use mathlib.Core.List.{List}
use mathlib.Core.Path.{◌≡◌, sym}
use Prim.Native.Nat.{ℕ}
use lib.ListN.{drop}
use Rattle.std.specs.Prelude.{Ok, Err}
use Rattle.std.specs.Prelude.{Result as Answer}
use Rattle.paper.specs.Result.{refused, return}
use Rattle.paper.specs.Bits.{bits_of, field}
use Rattle.paper.proofs.Bits.{all_drop, field_bounded}
use Rattle.paper.proofs.Bytes.{bits_below}
use Rattle.refusal.specs.declared.Refusal.{Refusal}
use Rattle.refusal.specs.Numbers.{number}
use Rattle.bits.specs.declared.Bits.{Bits}
use Rattle.bits.proofs.Reading.{Got}
use Rattle.reader.specs.Promises.{FieldAt}

module _ {bytes : List ℕ} {at n : ℕ} {r : Answer Bits Refusal} (a : FieldAt bytes at n r) where
  pub got : {f : Bits} → r ≡ Ok f → Got bytes at n f.value f.next
  unfolding return
  got e =
      let is = sym (rw e at a.is) in
      let below = field_bounded n (drop at (bits_of bytes)) _ (all_drop at (bits_of bytes) (bits_below bytes)) is in
      record { is = is; ends = rw e at a.ends; small = below.0 }

  pub ran_out : {e : Refusal} → r ≡ Err e → field n (drop at (bits_of bytes)) ≡ refused (number e)
  ran_out z = sym (rw z at a.is)
