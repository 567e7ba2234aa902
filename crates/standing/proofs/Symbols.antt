-- The symbols at two positions, by the nine bits at each. Assumes nothing.
use mathlib.Core.List.{List, ◌++◌}
use mathlib.Core.Logic.{inl, inr, ◌≢◌}
use mathlib.Core.Path.{◌≡◌, refl, ap, subst}
use Prim.Native.Nat.{ℕ, ◌+◌, ◌/◌, ◌%◌, ◌^◌, ◌≤◌, ◌<◌}
use native.Mathlib.Omega.{arith}
use lib.ListN.{length}
use Rattle.paper.specs.Result.{Read}
use Rattle.paper.specs.Bits.{to_bits}
use Rattle.paper.specs.Book.{Symbol}
use Rattle.paper.specs.Naming.{same_symbol}
use Rattle.paper.specs.Writer.{write_symbol}
use Rattle.paper.proofs.Tests.{ltb_cases, eqb_true, eqb_false}
use Rattle.bits.specs.Field.{Nine}
use Rattle.side.specs.Promises.{bits_at, NumberFits}
use Rattle.side.proofs.There.{stands_operator, stands_variable}
use Rattle.standing.specs.Promises.{SymbolsAre, NamesCompared, SymbolsCompared}
use Rattle.std.specs.Prelude.{Option, Some, None}
use Rattle.standing.specs.declared.Same.{Same}

operator_bits : (o : ℕ) → length (write_symbol (Symbol.operator o)) ≡ 9
unfolding write_symbol to_bits
operator_bits o = refl

-- the symbol that stands there
module _ (bytes : List ℕ) (at w : ℕ) (N : Nine bytes at w) (h : length bytes ≤ 65536) (s : Symbol) (ys : List ℕ) (f : NumberFits s)
    (e : bits_at bytes at ≡ write_symbol s ++ ys) where
  operator_there : w < 256 → Symbol.operator w ≡ s
  operator_there l = ap (λ (r : Read Symbol). r.value) ((stands_operator bytes at w N (omega arith) w ((at + 9) % 2 ^ 64) l refl refl).is s ys f e)

  variable_there : 256 ≤ w → Symbol.variable (w / 16 % 16) ≡ s
  variable_there l = ap (λ (r : Read Symbol). r.value) ((stands_variable bytes at w N (omega arith) (w / 16 % 16) ((at + 5) % 2 ^ 64) l refl refl).is s ys f e)

module _ {bytes : List ℕ} {at other x y : ℕ} {names others : List ℕ} {met : ℕ} (N : Nine bytes at x) (M : Nine bytes other y) (h : length bytes ≤ 65536) where
  pub same_operators : x < 256 → x ≡ y → SymbolsCompared bytes at other names others met names others (Some (record { width = 9; met = met }))
  unfolding same_symbol
  same_operators l p = record {
    is = λ s u ys zs f g d e vs ws a b.
        let i = operator_there bytes at x N h s ys f d l in
        let j = operator_there bytes other y M h u zs g e (omega arith) in
        subst (λ (z : Symbol). SymbolsAre vs z ws u names others (Some (record { width = 9; met = met }))) i
        (subst (λ (z : Symbol). SymbolsAre vs (Symbol.operator x) ws z names others (Some (record { width = 9; met = met }))) j
        (eqb_true x y p, operator_bits x, operator_bits y, a, b));
  }

  pub other_operator : x < 256 → x ≢ y → SymbolsCompared bytes at other names others met names others None
  unfolding same_symbol
  other_operator l p = record {
    is = λ s u ys zs f g d e vs ws a b.
        let i = operator_there bytes at x N h s ys f d l in
        subst (λ (z : Symbol). SymbolsAre vs z ws u names others None) i (elim (ltb_cases y 256) [
          | inl q ↦
              subst (λ (z : Symbol). SymbolsAre vs (Symbol.operator x) ws z names others None)
              (operator_there bytes other y M h u zs g e q.1) (eqb_false x y p)
          | inr q ↦
              subst (λ (z : Symbol). SymbolsAre vs (Symbol.operator x) ws z names others None)
              (variable_there bytes other y M h u zs g e q.1) refl
        ]);
  }

  pub variable_operator : 256 ≤ x → y < 256 → SymbolsCompared bytes at other names others met names others None
  unfolding same_symbol
  variable_operator l m = record {
    is = λ s u ys zs f g d e vs ws a b.
        subst (λ (z : Symbol). SymbolsAre vs z ws u names others None) (variable_there bytes at x N h s ys f d l)
        (subst (λ (z : Symbol). SymbolsAre vs (Symbol.variable (x / 16 % 16)) ws z names others None)
        (operator_there bytes other y M h u zs g e m) refl);
  }

  pub two_variables : {names' others' : List ℕ} {r : Option Same} → 256 ≤ x → 256 ≤ y → NamesCompared (x / 16 % 16) (y / 16 % 16) names others met names' others' r →
      SymbolsCompared bytes at other names others met names' others' r
  two_variables {names'} {others'} {r} l m c = record {
    is = λ s u ys zs f g d e vs ws a b.
        subst (λ (z : Symbol). SymbolsAre vs z ws u names' others' r) (variable_there bytes at x N h s ys f d l)
        (subst (λ (z : Symbol). SymbolsAre vs (Symbol.variable (x / 16 % 16)) ws z names' others' r) (variable_there bytes other y M h u zs g e m)
        (c.is vs ws a b));
  }
