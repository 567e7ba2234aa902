-- The operators of the first symbols of an array, and their sizes: where these are true, they say where each term ends. Assumes nothing.
use mathlib.Core.List.{List}
use mathlib.Core.Path.{◌≡◌, sym, ap, ◌∙◌}
use Prim.Native.Nat.{ℕ, ◌≤◌, ◌<◌}
use native.Mathlib.Omega.{arith}
use lib.ListN.{length, get_or, take, drop, length-map, get_or-eq_default}
use lib.Seq.{get_or-take, length-take-le}
use Rattle.flat.specs.Symbols.{skip}
use Rattle.flat.proofs.Sizes as flat
use Rattle.symbol.specs.Record.{operator, size, operators, sizes}
use Rattle.symbol.proofs.Record as record_laws
use Rattle.rule.specs.Promises.{OffsetIn, part_size, PartIn}

module _ (symbols : List ℕ) (len : ℕ) (h : len ≤ length symbols) where
  pub operators_length : length (operators (take len symbols)) ≡ len
  operators_length = length-map (take len symbols) operator ∙ length-take-le len symbols h

  pub operator_in : (i : ℕ) → i < len → operator (get_or symbols i 0) ≡ get_or (operators (take len symbols)) i 0
  operator_in i l = ap operator (sym (get_or-take len symbols i 0 l)) ∙ sym (record_laws.operator_at (take len symbols) i)

  pub size_in : (i : ℕ) → i < len → size (get_or symbols i 0) ≡ part_size symbols len i
  size_in i l = ap size (sym (get_or-take len symbols i 0 l)) ∙ sym (record_laws.size_at (take len symbols) i)

  pub size_behind : (i : ℕ) → len ≤ i → ◌≡◌ {A = ℕ} 0 (part_size symbols len i)
  size_behind i l =
      let n = length-map (take len symbols) size ∙ length-take-le len symbols h in sym (get_or-eq_default (sizes (take len symbols)) 0 (omega arith))

module _ {arity : ℕ → ℕ} {symbols : List ℕ} {len a : ℕ} (o : OffsetIn arity symbols len a) where
  pub part_true : part_size symbols len a ≡ skip arity 1 (drop a (operators (take len symbols)))
  part_true = ap (λ (zs : List ℕ). get_or zs a 0) o.true_sizes ∙ flat.size_at arity (operators (take len symbols)) a

  pub part_in : PartIn symbols len a
  part_in =
      let n = operators_length symbols len (omega arith) in
      record { long = o.long; most = o.most; inside = omega (arith, part_true, flat.part_inside arity (operators (take len symbols)) a (omega arith)) }
