-- Symbols in the book's bits, read one after another: what is read is what stands there. Assumes nothing.
use mathlib.Core.List.{List, [], ◌∷◌, ◌++◌, append_assoc}
use mathlib.Core.Logic.{◌⊎◌, inl, inr}
use mathlib.Core.Path.{◌≡◌, refl, sym, ap, ap₂, ◌∙◌, subst}
use Prim.Native.Nat.{ℕ, zero, suc, ◌+◌, ◌-◌, ◌≤◌, ◌<◌}
use native.Mathlib.Omega.{arith}
use lib.ListN.{length, drop, length-append}
use lib.Seq.{drop_at, drop-drop}
use Rattle.paper.specs.Result.{Read}
use Rattle.paper.specs.Bits.{to_bits, bits_of}
use Rattle.paper.specs.Book.{Symbol}
use Rattle.paper.specs.Sound.{All}
use Rattle.paper.specs.Writer.{concat, write_symbol}
use Rattle.paper.proofs.Bits.{length_to_bits}
use Rattle.paper.specs.Tree.{Complete}
use Rattle.side.specs.Promises.{bits_at, standing, NumberFits, StandingAt}
use Rattle.side.specs.declared.Standing as Sd
use Rattle.tables.specs.Layout.{arity_in}
use Rattle.rule.specs.Packed.{arity_of_symbol, Stands, Goes, AllAt}
use Rattle.rule.specs.declared.Taken as T

-- what is read of a symbol
abbrev pub taken : ℕ → ℕ → ℕ → T.Taken
taken arity next size = record { arity = arity; next = next; size = size }

module _ (bytes : List ℕ) (operators : List ℕ) where
  -- of the symbols ss, s is the first, and the others stand at the position next
  abbrev Behind : ℕ → ℕ → List Symbol → Symbol → ℕ → Type 0
  Behind due room ss s next =
      (ss' : List Symbol) × (ss ≡ s ∷ ss')
      × ((due' room' : ℕ) → due' ≡ due - 1 + arity_of_symbol operators s → room' ≡ room - 1 → Stands bytes next operators due' room' ss')

  abbrev Took : ℕ → ℕ → List Symbol → Sd.Standing → Type 0
  Took due room ss (Sd.Standing.Operator o next) = Behind due room ss (Symbol.operator o) next
  Took due room ss (Sd.Standing.Variable v next) = Behind due room ss (Symbol.variable v) next

  behind : (due room : ℕ) (s : Symbol) (ss : List Symbol) (rest : List ℕ) → All NumberFits ss → Complete (arity_of_symbol operators) (arity_of_symbol operators s + due) ss →
      suc (length ss) ≤ room → (t : Symbol) (next : ℕ) →
      ◌≡◌ {A = Read Symbol} (record { value = t; left = bits_at bytes next }) (record { value = s; left = concat write_symbol ss ++ rest }) →
      Behind (suc due) room (s ∷ ss) t next
  behind due room s ss rest fs c l t next q =
      let z : s ≡ t = ap (λ (x : Read Symbol). x.value) (sym q) in (
        ss,
        ap (λ (x : Symbol). x ∷ ss) z,
        λ due' room' d r. record {
          stand = record { rest = rest; is = ap (λ (x : Read Symbol). x.left) q };
          held = fs;
          complete = subst (λ (d : ℕ). Complete (arity_of_symbol operators) d ss) (let k = ap (arity_of_symbol operators) z in omega arith) c;
          short = omega arith;
        },
      )

  -- what is read is the first of the symbols that stand there
  took : (at due room : ℕ) (ss : List Symbol) (r : Sd.Standing) → StandingAt bytes at r → 0 < due → Stands bytes at operators due room ss → Took due room ss r
  unfolding concat
  took at zero room ss r h d k = absurd (omega arith)
  took at (suc due) room [] r h d k = absurd k.complete
  took at (suc due) room (s ∷ ss) r h d k =
      go r (h.is s _ k.held.0 (k.stand.is ∙ append_assoc (write_symbol s) (concat write_symbol ss) k.stand.rest))
    where
      go : (r : Sd.Standing) → standing bytes r ≡ record { value = s; left = concat write_symbol ss ++ k.stand.rest } → Took (suc due) room (s ∷ ss) r
      go (Sd.Standing.Operator o next) e = behind due room s ss k.stand.rest k.held.1 k.complete k.short (Symbol.operator o) next e
      go (Sd.Standing.Variable v next) e = behind due room s ss k.stand.rest k.held.1 k.complete k.short (Symbol.variable v) next e

  pub goes_operator : (P : List Symbol → List Symbol → Type 0) (at o next arity : ℕ) → StandingAt bytes at (Sd.Standing.Operator o next) → arity ≡ arity_in operators o →
      ((ss : List Symbol) → P (Symbol.operator o ∷ ss) ss) → Goes bytes at operators P arity next
  goes_operator P at o next arity h e p due room ss d s =
      let (ss', z, k) = took at due room ss (Sd.Standing.Operator o next) h d s in
      (ss', λ due' room' f g. k due' room' (omega arith) g, subst (λ (l : List Symbol). P l ss') (sym z) (p ss'))

  pub goes_variable : (P : List Symbol → List Symbol → Type 0) (at v next : ℕ) → StandingAt bytes at (Sd.Standing.Variable v next) →
      ((ss : List Symbol) → P (Symbol.variable v ∷ ss) ss) → Goes bytes at operators P 0 next
  goes_variable P at v next h p due room ss d s =
      let (ss', z, k) = took at due room ss (Sd.Standing.Variable v next) h d s in
      (ss', k, subst (λ (l : List Symbol). P l ss') (sym z) (p ss'))

  pub all_operator : (P : List Symbol → Type 0) (at o next : ℕ) → StandingAt bytes at (Sd.Standing.Operator o next) → ((ss : List Symbol) → P (Symbol.operator o ∷ ss)) →
      AllAt bytes at operators P
  all_operator P at o next h p due room ss d s = (goes_operator (λ ss ss'. P ss) at o next (arity_in operators o) h refl p due room ss d s).2

  pub all_variable : (P : List Symbol → Type 0) (at v next : ℕ) → StandingAt bytes at (Sd.Standing.Variable v next) → ((ss : List Symbol) → P (Symbol.variable v ∷ ss)) →
      AllAt bytes at operators P
  all_variable P at v next h p due room ss d s = (goes_variable (λ ss ss'. P ss) at v next h p due room ss d s).2

  -- behind the nine bits of a root stand the symbols of its arguments
  pub under_root : (at o arity : ℕ) (ss : List Symbol) → Stands bytes at operators 1 64 (Symbol.operator o ∷ ss) → arity ≡ arity_in operators o →
      Stands bytes (at + 9) operators arity 63 ss
  unfolding concat write_symbol
  under_root at o arity ss k e =
      let root = write_symbol (Symbol.operator o) in
      let l = k.short in
      record {
        stand = record {
          rest = k.stand.rest;
          is = sym (drop-drop 9 at (bits_of bytes))
              ∙ ap (drop 9) (k.stand.is ∙ append_assoc root (concat write_symbol ss) k.stand.rest)
              ∙ drop_at root (concat write_symbol ss ++ k.stand.rest) 9 (length-append (to_bits 1 0) (to_bits 8 o) ∙ ap₂ ◌+◌ (length_to_bits 1 0) (length_to_bits 8 o));
        };
        held = k.held.1;
        complete = subst (λ (d : ℕ). Complete (arity_of_symbol operators) d ss) (omega arith) k.complete;
        short = omega arith;
      }

  -- no symbol is to come where no term is due or no room is left
  pub none_left : (at due room : ℕ) (ss : List Symbol) → Stands bytes at operators due room ss → (due ≡ 0) ⊎ (room ≡ 0) → ss ≡ []
  none_left at due room [] k e = refl
  none_left at zero room (s ∷ ss) k (inl e) = absurd k.complete
  none_left at (suc due) room (s ∷ ss) k (inl e) = absurd (omega arith)
  none_left at due room (s ∷ ss) k (inr e) = let l = k.short in absurd (omega arith)
