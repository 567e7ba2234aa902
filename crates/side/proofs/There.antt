-- The symbol that stands at a position, by the nine bits ahead. Assumes nothing.
use Rattle.std.proofs.Common.{◌≡◌, ℕ, ◌+◌, ◌*◌, ◌/◌, ◌%◌, ◌^◌, ◌<◌, ◌≤◌, List, ◌++◌, length, sym, ap, ◌∙◌, ap₂, arith}
use Rattle.paper.specs.Result.{Read}
use Rattle.paper.specs.Bits.{to_bits}
use Rattle.paper.specs.Book as B
use Rattle.paper.specs.Book.{Operator}
use Rattle.paper.specs.Writer.{write_symbol}
use Rattle.paper.specs.WellFormed.{Fits}
use Rattle.bits.specs.Field.{Nine}
use Rattle.bits.proofs.Ahead.{begins, begins_rest, begins_inside}
use Rattle.bits.proofs.Bytes.{two}
use Rattle.side.specs.Promises.{bits_at, NumberFits, StandingAt}
use Rattle.side.specs.declared.Standing as Sd

module _ (bytes : List ℕ) (at w : ℕ) (N : Nine bytes at w) (h : length bytes ≤ 2 ^ 60) where
  module _ (x : ℕ) (rest : List ℕ) (l : x < 256) (e : bits_at bytes at ≡ write_symbol (B.Symbol.operator x) ++ rest) where
    operator_there : bits_at bytes at ≡ to_bits 9 (0 * 2 ^ 8 + x) ++ rest
    unfolding write_symbol
    operator_there = e ∙ ap (λ (l : List ℕ). l ++ rest) (sym (two 1 8 0 x l))

    operator_is : w ≡ x
    operator_is = let b = begins N 9 0 (omega arith) (0 * 2 ^ 8 + x) rest (omega arith) operator_there in omega arith

    operator_rest : (next : ℕ) → next ≡ (at + 9) % 2 ^ 64 → bits_at bytes next ≡ rest
    operator_rest next q =
        let i = begins_inside N 9 0 (omega arith) (0 * 2 ^ 8 + x) rest (omega arith) operator_there (omega arith) in
        let j : next ≡ at + 9 = omega arith in
        ap (bits_at bytes) j ∙ begins_rest N 9 0 (omega arith) (0 * 2 ^ 8 + x) rest (omega arith) operator_there

  module _ (x : ℕ) (rest : List ℕ) (l : x < 16) (e : bits_at bytes at ≡ write_symbol (B.Symbol.variable x) ++ rest) where
    variable_there : bits_at bytes at ≡ to_bits 5 (1 * 2 ^ 4 + x) ++ rest
    unfolding write_symbol
    variable_there = e ∙ ap (λ (l : List ℕ). l ++ rest) (sym (two 1 4 1 x l))

    variable_is : w / 16 ≡ 16 + x
    variable_is = let b = begins N 5 4 (omega arith) (1 * 2 ^ 4 + x) rest (omega arith) variable_there in omega arith

    variable_rest : (next : ℕ) → next ≡ (at + 5) % 2 ^ 64 → bits_at bytes next ≡ rest
    variable_rest next q =
        let i = begins_inside N 5 4 (omega arith) (1 * 2 ^ 4 + x) rest (omega arith) variable_there (omega arith) in
        let j : next ≡ at + 5 = omega arith in
        ap (bits_at bytes) j ∙ begins_rest N 5 4 (omega arith) (1 * 2 ^ 4 + x) rest (omega arith) variable_there

  pub stands_operator : (o next : ℕ) → w < 256 → o ≡ w → next ≡ (at + 9) % 2 ^ 64 → StandingAt bytes at (Sd.Standing.Operator o next)
  stands_operator o next l p q = record { is = go; small = tt }
    where
      go : (s : B.Symbol) (rest : List ℕ) → NumberFits s → bits_at bytes at ≡ write_symbol s ++ rest →
          ◌≡◌ {A = Read B.Symbol} (record { value = B.Symbol.operator o; left = bits_at bytes next }) (record { value = s; left = rest })
      go (B.Symbol.operator x) rest k e =
          ap₂ (λ (y : ℕ) (ys : List ℕ). record { value = B.Symbol.operator y; left = ys }) (p ∙ operator_is x rest k e) (operator_rest x rest k e next q)
      go (B.Symbol.variable x) rest k e = let z = variable_is x rest k e in absurd (omega arith)

  pub stands_variable : (v next : ℕ) → 256 ≤ w → v ≡ w / 16 % 16 → next ≡ (at + 5) % 2 ^ 64 → StandingAt bytes at (Sd.Standing.Variable v next)
  stands_variable v next l p q = record { is = go; small = omega arith }
    where
      go : (s : B.Symbol) (rest : List ℕ) → NumberFits s → bits_at bytes at ≡ write_symbol s ++ rest →
          ◌≡◌ {A = Read B.Symbol} (record { value = B.Symbol.variable v; left = bits_at bytes next }) (record { value = s; left = rest })
      go (B.Symbol.operator x) rest k e = let z = operator_is x rest k e in absurd (omega arith)
      go (B.Symbol.variable x) rest k e =
          let z = variable_is x rest k e in
          let y : v ≡ x = omega arith in
          ap₂ (λ (y : ℕ) (ys : List ℕ). record { value = B.Symbol.variable y; left = ys }) y (variable_rest x rest k e next q)

-- a symbol of a good side fits its field
pub number_fits : (ops : List Operator) (s : B.Symbol) → length ops ≤ 256 → Fits ops s → NumberFits s
number_fits ops (B.Symbol.operator o) l f = omega arith
number_fits ops (B.Symbol.variable v) l f = f
