-- A side's symbols decoded one after another, as the book's bits give them. Assumes nothing.
use mathlib.Core.List.{List, [], ◌∷◌, ◌++◌, append_assoc, append-nil}
use mathlib.Core.Logic.{◌⊎◌, inl, inr}
use mathlib.Core.Path.{◌≡◌, refl, sym, ap, ◌∙◌}
use Prim.Native.Nat.{ℕ, ◌+◌, ◌-◌, ◌≤◌, ◌<◌}
use native.Mathlib.Numerals.{add-one}
use native.Mathlib.Omega.{arith}
use lib.ListN.{length, take, set}
use lib.Seq.{take-suc-set}
use Rattle.paper.specs.Tree.{preorder}
use Rattle.paper.specs.Book.{Symbol}
use Rattle.side.specs.Promises.{StandingAt}
use Rattle.side.specs.declared.Standing as Sd
use Rattle.tables.specs.Layout.{arity_in}
use Rattle.rule.specs.Packed.{Stands}
use Rattle.rule.proofs.Sides.{goes_operator, goes_variable, none_left}
use Rattle.fill.specs.Sides.{codes}
use Rattle.fill.specs.Promises.{SymbolDecoded, Decoded}
use Rattle.fill.specs.declared.Code.{Code}
use Rattle.fill.specs.declared.Coded as C

-- what is read of a symbol
abbrev coded : Code → ℕ → ℕ → C.Coded
coded c arity next = record { code = c; arity = arity; next = next }

module _ {bytes operators : List ℕ} {at : ℕ} where
  pub decoded_operator : (c : Code) (o next arity : ℕ) → StandingAt bytes at (Sd.Standing.Operator o next) → arity ≡ arity_in operators o → arity < 256 → c ≡ Code.Operator o →
      SymbolDecoded bytes at operators (coded c arity next)
  decoded_operator c o next arity h e m f =
      record { arity = m; goes = goes_operator bytes operators _ at o next arity h e (λ ss. ap (λ (x : Code). x ∷ codes ss) (sym f)) }

  pub decoded_variable : (c : Code) (v next : ℕ) → StandingAt bytes at (Sd.Standing.Variable v next) → c ≡ Code.Variable v → SymbolDecoded bytes at operators (coded c 0 next)
  decoded_variable c v next h f =
      record { arity = omega arith; goes = goes_variable bytes operators _ at v next h (λ ss. ap (λ (x : Code). x ∷ codes ss) (sym f)) }

-- behind the n codes read by then come those of the symbols at the position p
pub record Decoding (bytes : List ℕ) (at : ℕ) (operators : List ℕ) (p due n : ℕ) (codes_read : List Code) : Type 0 where
  pub rest : (ts : List Symbol) → Stands bytes at operators 1 64 ts →
      (ss : List Symbol) × Stands bytes p operators due (64 - n) ss × (codes ts ≡ take n codes_read ++ codes ss)

module _ {bytes operators : List ℕ} {at : ℕ} where
  pub decoding_starts : {codes_read : List Code} → Decoding bytes at operators at 1 0 codes_read
  decoding_starts = record { rest = λ ts s. (ts, s, refl) }

  module _ {p due n : ℕ} {codes_read : List Code} (f : Decoding bytes at operators p due n codes_read) where
    pub decoding_went : {due' : ℕ} {codes_read' : List Code} {t : C.Coded} → 0 < due → n < length codes_read → SymbolDecoded bytes p operators t →
        due' ≡ due - 1 + t.arity → codes_read' ≡ set codes_read n t.code → Decoding bytes at operators t.next due' (n + 1) codes_read'
    decoding_went {due'} {codes_read'} {t} d l h g i =
        record {
          rest = λ ts w.
              let (ss, s, e) = f.rest ts w in
              let (ss', s', q) = h.goes due (64 - n) ss d s in
              let k : take (n + 1) codes_read' ≡ take n codes_read ++ (t.code ∷ []) = rw (i, add-one n) (take-suc-set codes_read n t.code l) in
              (ss', s' due' (64 - (n + 1)) g (omega arith), e ∙ rw q (sym (rw k (append_assoc (take n codes_read) (t.code ∷ []) (codes ss')))));
        }

    pub decoding_ended : (due ≡ 0) ⊎ (64 ≤ n) → n ≤ 64 → length codes_read ≡ 64 → Decoded bytes at operators n codes_read
    decoding_ended e l m =
        record {
          is = λ side w.
              let (ss, s, q) = f.rest (preorder side) w in
              let z = none_left bytes operators p due (64 - n) ss s (over e) in
              sym (q ∙ rw z (append-nil (take n codes_read)));
          most = l;
          long = m;
        }
      where
        over : (due ≡ 0) ⊎ (64 ≤ n) → (due ≡ 0) ⊎ (64 - n ≡ 0)
        over (inl e) = inl e
        over (inr e) = inr (omega arith)
