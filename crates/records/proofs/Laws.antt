-- The bytes of a record: how many there are at most, and that they tell what they are the record of. Assumes nothing.
use mathlib.Core.List.{List, ◌∷◌, ◌++◌}
use mathlib.Core.Path.{◌≡◌, refl}
use Prim.Native.Nat.{ℕ, ◌^◌, ◌≤◌, ◌<◌}
use native.Mathlib.Omega.{arith}
use lib.ListN.{length, get_or, take, drop}
use lib.Seq.{take_at, drop_at}
use Rattle.paper.specs.Result.{Result, refused, accepted}
use Rattle.paper.specs.Page.{number, ending_number}
use Rattle.stream.proofs.Numbers.{number_bytes}
use Rattle.engine.specs.Spec.{Values}
use Rattle.records.specs.Record.{value_bytes, longest}

pub record_longest : (x : Result Values) (term : List ℕ) → length term ≤ 1024 → length (value_bytes x term) ≤ longest
unfolding value_bytes
record_longest (refused k) term h = omega arith
record_longest (accepted v) term h = omega arith

-- a refusal's record is its number; a run's begins with 0, which numbers no line's refusal (batch, proofs/Laws, line_not_zero and payee_not_zero)
pub refusal_told : (k : ℕ) (term rest : List ℕ) → value_bytes (refused k) term ++ rest ≡ k ∷ rest
unfolding value_bytes
refusal_told k term rest = refl

-- what bytes tell that begin with a run's record: its values, its term's symbols, and what stands behind it
pub record Tells (xs : List ℕ) (v : Values) (symbols rest : List ℕ) : Type 0 where
  pub run : get_or xs 0 0 ≡ 0
  pub ending : get_or xs 1 0 ≡ ending_number v.ending
  pub rewrites : number 0 (take 4 (drop 2 xs)) ≡ v.rewrites
  pub entries : number 0 (take 8 (drop 6 xs)) ≡ v.entries
  pub granted : number 0 (take 8 (drop 14 xs)) ≡ v.granted
  pub kept : number 0 (take 8 (drop 22 xs)) ≡ v.kept
  pub long : number 0 (take 2 (drop 30 xs)) ≡ v.length
  pub term : take v.length (drop 32 xs) ≡ symbols
  pub behind : drop v.length (drop 32 xs) ≡ rest

pub run_told : (v : Values) (term rest : List ℕ) → v.rewrites < 2 ^ 32 → v.entries < 2 ^ 64 → v.granted < 2 ^ 64 → v.kept < 2 ^ 64 →
    v.length < 2 ^ 16 → length term ≡ v.length → Tells (value_bytes (accepted v) term ++ rest) v term rest
unfolding value_bytes
run_told v term rest a b c d e l = record {
  run = refl;
  ending = refl;
  rewrites = number_bytes 4 v.rewrites a;
  entries = number_bytes 8 v.entries b;
  granted = number_bytes 8 v.granted c;
  kept = number_bytes 8 v.kept d;
  long = number_bytes 2 v.length e;
  term = take_at term rest v.length l;
  behind = drop_at term rest v.length l;
}
