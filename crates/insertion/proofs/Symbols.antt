-- Symbols of left sides: what is read of one, and what stands behind it. Assumes nothing.
use mathlib.Core.List.{List, ◌∷◌, ◌++◌, append_assoc}
use mathlib.Core.Path.{◌≡◌, refl, sym, ap, ap₂, ◌∙◌, subst}
use Prim.Native.Nat.{ℕ, zero, suc, ◌+◌, ◌-◌, ◌<◌}
use native.Mathlib.Omega.{arith}
use lib.ListN.{length, drop, length-append}
use lib.Seq.{drop_at, drop-drop}
use Rattle.paper.specs.Result.{Read}
use Rattle.paper.specs.Tree.{Complete}
use Rattle.paper.specs.Bits.{to_bits, bits_of}
use Rattle.paper.specs.Book.{Symbol}
use Rattle.paper.specs.Writer.{concat, write_symbol}
use Rattle.paper.proofs.Bits.{length_to_bits}
use Rattle.side.specs.Promises.{standing, StandingAt}
use Rattle.side.specs.declared.Standing as Sd
use Rattle.tables.specs.Layout.{arity_in}
use Rattle.rule.specs.Packed.{arity_of_symbol, Stands}
use Rattle.net.specs.Net.{part, key}
use Rattle.insertion.specs.Promises.{width, IsRead, SymbolRead, Keyed}
use Rattle.insertion.specs.declared.Symbol as D

abbrev pub symbol : ℕ → ℕ → ℕ → D.Symbol
symbol k w a = record { key = k; width = w; arity = a }

-- READING

module _ (bytes operators : List ℕ) where
  -- what is read is the symbol that stands there
  stood : (at : ℕ) (r : Sd.Standing) → StandingAt bytes at r → (due room : ℕ) (s : Symbol) (ss : List Symbol) → Stands bytes at operators due room (s ∷ ss) →
      (standing bytes r).value ≡ s
  unfolding concat
  stood at r h due room s ss k =
      ap (λ (x : Read Symbol). x.value) (h.is s _ k.held.0 (k.stand.is ∙ append_assoc (write_symbol s) (concat write_symbol ss) k.stand.rest))

  pub read_operator : (at o next arity : ℕ) → StandingAt bytes at (Sd.Standing.Operator o next) → arity ≡ arity_in operators o → arity < 256 →
      SymbolRead bytes at operators (symbol o 9 arity)
  unfolding key
  read_operator at o next arity h e l =
      record {
        is = λ due room s ss k.
            subst (λ (x : Symbol). IsRead operators x (symbol o 9 arity)) (stood at (Sd.Standing.Operator o next) h due room s ss k)
            (record { key_is = refl; width_is = refl; arity_is = e });
        narrow = omega arith;
        few = l;
      }

  pub read_variable : (at v next : ℕ) → StandingAt bytes at (Sd.Standing.Variable v next) → SymbolRead bytes at operators (symbol part 5 0)
  unfolding key
  read_variable at v next h =
      record {
        is = λ due room s ss k.
            subst (λ (x : Symbol). IsRead operators x (symbol part 5 0)) (stood at (Sd.Standing.Variable v next) h due room s ss k)
            (record { key_is = refl; width_is = refl; arity_is = refl });
        narrow = omega arith;
        few = omega arith;
      }

  -- GOING ON

  wide : (s : Symbol) → length (write_symbol s) ≡ width s
  unfolding write_symbol
  wide (Symbol.operator o) = length-append (to_bits 1 0) (to_bits 8 o) ∙ ap₂ ◌+◌ (length_to_bits 1 0) (length_to_bits 8 o)
  wide (Symbol.variable v) = length-append (to_bits 1 1) (to_bits 4 v) ∙ ap₂ ◌+◌ (length_to_bits 1 1) (length_to_bits 4 v)

  less_due : (due due' : ℕ) (s : Symbol) (ss : List Symbol) → Complete (arity_of_symbol operators) due (s ∷ ss) → due' ≡ due - 1 + arity_of_symbol operators s →
      Complete (arity_of_symbol operators) due' ss
  less_due zero due' s ss c e = absurd c
  less_due (suc due) due' s ss c e = subst (λ (d : ℕ). Complete (arity_of_symbol operators) d ss) (omega arith) c

  -- behind the bits of a symbol stand the others
  pub stands_on : (at at' due due' room room' : ℕ) (s : Symbol) (ss : List Symbol) → Stands bytes at operators due room (s ∷ ss) → at' ≡ at + width s →
      due' ≡ due - 1 + arity_of_symbol operators s → room' ≡ room - 1 → Stands bytes at' operators due' room' ss
  unfolding concat
  stands_on at at' due due' room room' s ss k a d r =
      let short = k.short in
      record {
        stand = record {
          rest = k.stand.rest;
          is = ap (λ (x : ℕ). drop x (bits_of bytes)) a
              ∙ sym (drop-drop (width s) at (bits_of bytes))
              ∙ ap (drop (width s)) (k.stand.is ∙ append_assoc (write_symbol s) (concat write_symbol ss) k.stand.rest)
              ∙ drop_at (write_symbol s) (concat write_symbol ss ++ k.stand.rest) (width s) (wide s);
        };
        held = k.held.1;
        complete = less_due due due' s ss k.complete d;
        short = omega arith;
      }

-- KEYS

-- a key tells how wide a symbol is, and its arity
pub key_tells : (operators : List ℕ) (s t : Symbol) → Keyed s → Keyed t → key s ≡ key t → (width s ≡ width t) × (arity_of_symbol operators s ≡ arity_of_symbol operators t)
unfolding key
key_tells operators (Symbol.operator o) (Symbol.operator o') a b e = (refl, ap (arity_in operators) e)
key_tells operators (Symbol.operator o) (Symbol.variable v) a b e = absurd (omega arith)
key_tells operators (Symbol.variable v) (Symbol.operator o) a b e = absurd (omega arith)
key_tells operators (Symbol.variable v) (Symbol.variable v') a b e = (refl, refl)

pub key_small : (s : Symbol) → Keyed s → key s < 256
unfolding key
key_small (Symbol.operator o) a = omega arith
key_small (Symbol.variable v) a = omega arith
