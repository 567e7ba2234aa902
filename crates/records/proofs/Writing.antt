-- The parts of a record as they are written: one byte, the ending's number, and the room behind a number. Assumes nothing.
use mathlib.Core.List.{List, [], ◌∷◌, ◌++◌}
use mathlib.Core.Path.{◌≡◌, refl, sym, ap, ap₂, ◌∙◌}
use Prim.Native.Nat.{ℕ, ◌+◌, ◌≤◌, ◌<◌}
use native.Mathlib.Numerals.{add-one}
use native.Mathlib.Omega.{arith}
use lib.ListN.{length, take, drop, set, length-set}
use lib.Seq.{set_split}
use Rattle.stream.specs.Promises.{bytes, WrittenAt}
use Rattle.stream.proofs.Numbers.{length_bytes}

pub put_one : (at x : ℕ) (output : List ℕ) → at < length output → WrittenAt at (x ∷ []) output (set output at x) (at + 1)
put_one at x output h = record {
  ends = refl;
  fits = omega arith;
  long = length-set output at x;
  is = set_split output at x h ∙ ap (λ (k : ℕ). take at output ++ x ∷ drop k output) (sym (add-one at));
}

-- a number below 256 in two bytes
pub small_bytes : (v : ℕ) → v < 256 → bytes 2 v ≡ 0 ∷ v ∷ []
unfolding bytes
small_bytes v h = ap₂ (λ (x y : ℕ). x ∷ y ∷ []) (omega arith) (omega arith)

pub room_behind : (n m v : ℕ) {at : ℕ} {output output' : List ℕ} {next : ℕ} → WrittenAt at (bytes n v) output output' next → at + (n + m) ≤ length output →
    next + m ≤ length output'
room_behind n m v p h = omega (arith, p.ends, p.long, length_bytes n v, h)
