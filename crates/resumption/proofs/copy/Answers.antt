-- Answers of `copy`. Assumes nothing.
use mathlib.Core.List.{List, ◌++◌}
use mathlib.Core.Path.{◌≡◌, refl, ap}
use Prim.Native.Nat.{ℕ, ◌≤◌}
use native.Mathlib.Omega.{arith}
use lib.ListN.{length, length-append, length-drop}
use lib.Seq.{take_at}
use borrow.Rule.Slice.PartMut.{post_of}
use Rattle.resumption.specs.Promises.{Copied}
use Rattle.resumption.proofs.copy.Goals as goal

copied : (bytes ys book : List ℕ) → ys ≡ bytes → length bytes ≤ 41473 → length book ≡ 41473 → Copied bytes (ys ++ post_of 0 (length bytes) book)
copied bytes ys book e l h = record {
  long = omega (arith, length-append ys (post_of 0 (length bytes) book), length-drop (length bytes) book, ap length e);
  front = rw e (take_at bytes (post_of 0 (length bytes) book) (length bytes) refl);
}

pub returns : goal.returns
returns c = copied c.args.bytes.now _ c.args.book.now c.copy_from_slice.ensures.after c.requires c.told-book
