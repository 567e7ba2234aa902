-- The variables of a left side, met one after another: none is met twice exactly if none stands twice. Assumes nothing.
use Rattle.std.proofs.Common.{None}
use mathlib.Core.Bool.{Bool, true, false}
use mathlib.Core.List.{List, [], ◌∷◌}
use mathlib.Core.Logic.{◌⊎◌, inl, inr, ◌≢◌}
use mathlib.Core.Path.{◌≡◌, refl, sym, ◌∙◌}
use Prim.Native.Nat.{ℕ, ◌+◌, ◌-◌, ◌^◌, ◌<◌}
use native.Mathlib.Omega.{arith}
use lib.Dec.{eqb}
use Rattle.paper.specs.Result.{if}
use Rattle.paper.specs.Strategy.{has}
use Rattle.paper.specs.Reader.{variables}
use Rattle.paper.specs.Strict.{once}
use Rattle.paper.proofs.Tests.{either, eqb_cases}
use Rattle.side.specs.Mask.{bit}
use Rattle.side.specs.Promises.{StandingAt}
use Rattle.side.specs.declared.Standing as Sd
use Rattle.side.specs.declared.Taken as T
use Rattle.side.proofs.Mask.{has_same, has_other, masks_none, masks_with}
use Rattle.tables.specs.Layout.{arity_in}
use Rattle.rule.proofs.Sides.{goes_operator, goes_variable, all_variable, none_left}
use Rattle.strict.specs.Promises.{fresh, SymbolTaken, SymbolMet, RestLinear, LinearAt}

-- FRESH VARIABLES

fresh_met : (met : List ℕ) (v : ℕ) (vs : List ℕ) → has v met ≡ true → fresh met (v ∷ vs) ≡ false
unfolding fresh
fresh_met met v vs e = rw (e, fresh)

fresh_new : (met : List ℕ) (v : ℕ) (vs : List ℕ) → has v met ≡ false → fresh met (v ∷ vs) ≡ fresh (v ∷ met) vs
unfolding fresh
fresh_new met v vs e = rw (e, fresh)

-- is none of vs among those met?
unfoldable unmet : List ℕ → List ℕ → Bool
unfolding has
unmet met [] = true
unmet met (v ∷ vs) = if (has v met) false (unmet met vs)

unmet_none : (vs : List ℕ) → unmet [] vs ≡ true
unfolding unmet
unmet_none [] = refl
unmet_none (v ∷ vs) = unmet_none vs

-- of one more variable that was met
unmet_more : (v : ℕ) (met vs : List ℕ) → unmet (v ∷ met) vs ≡ if (has v vs) false (unmet met vs)
unfolding unmet
unmet_more v met [] = refl
unmet_more v met (u ∷ us) = go (eqb_cases u v) (either (has u met)) (either (has v us)) (unmet_more v met us)
  where
    go : ((eqb u v ≡ true) × (u ≡ v)) ⊎ ((eqb u v ≡ false) × (u ≢ v)) → (has u met ≡ true) ⊎ (has u met ≡ false) → (has v us ≡ true) ⊎ (has v us ≡ false) →
        unmet (v ∷ met) us ≡ if (has v us) false (unmet met us) → unmet (v ∷ met) (u ∷ us) ≡ if (has v (u ∷ us)) false (unmet met (u ∷ us))
    go (inl e) m h i = rw (has_same u v met e.1, has_same v u us (sym e.1))
    go (inr e) (inl m) (inl h) i = rw (has_other u v met e.1, has_other v u us (λ z. e.1 (sym z)), m, h)
    go (inr e) (inl m) (inr h) i = rw (has_other u v met e.1, has_other v u us (λ z. e.1 (sym z)), m, h)
    go (inr e) (inr m) h i = rw (has_other u v met e.1, has_other v u us (λ z. e.1 (sym z)), m) i

fresh_once : (met vs : List ℕ) → fresh met vs ≡ if (unmet met vs) (once vs) false
unfolding fresh unmet once
fresh_once met [] = refl
fresh_once met (v ∷ vs) = go (either (has v met)) (either (has v vs)) (either (unmet met vs)) (fresh_once (v ∷ met) vs)
  where
    go : (has v met ≡ true) ⊎ (has v met ≡ false) → (has v vs ≡ true) ⊎ (has v vs ≡ false) → (unmet met vs ≡ true) ⊎ (unmet met vs ≡ false) →
        fresh (v ∷ met) vs ≡ if (unmet (v ∷ met) vs) (once vs) false → fresh met (v ∷ vs) ≡ if (unmet met (v ∷ vs)) (once (v ∷ vs)) false
    go (inl m) h u i = fresh_met met v vs m ∙ sym (rw (m, unmet))
    go (inr m) (inl h) (inl u) i = fresh_new met v vs m ∙ i ∙ rw (unmet_more v met vs, m, unmet, h, u, once)
    go (inr m) (inl h) (inr u) i = fresh_new met v vs m ∙ i ∙ rw (unmet_more v met vs, m, unmet, h, u)
    go (inr m) (inr h) (inl u) i = fresh_new met v vs m ∙ i ∙ rw (unmet_more v met vs, m, unmet, h, u, once)
    go (inr m) (inr h) (inr u) i = fresh_new met v vs m ∙ i ∙ rw (unmet_more v met vs, m, unmet, h, u)

once_fresh : (vs : List ℕ) → fresh [] vs ≡ once vs
once_fresh vs = fresh_once [] vs ∙ rw (unmet_none vs)

-- ONE SYMBOL

module _ {bytes operators : List ℕ} {at mask : ℕ} where
  pub took_operator : (o next arity : ℕ) → StandingAt bytes at (Sd.Standing.Operator o next) → arity ≡ arity_in operators o → arity < 256 →
      SymbolTaken bytes at operators mask (record { arity = arity; met = mask; next = next })
  unfolding variables
  took_operator o next arity h e l =
      record { arity = l; goes = λ met m. (met, m, goes_operator bytes operators _ at o next arity h e (λ ss. refl)) }

  pub took_variable : (v next mask' : ℕ) → StandingAt bytes at (Sd.Standing.Variable v next) → bit v mask ≡ 0 → mask' ≡ mask + 2 ^ v →
      SymbolTaken bytes at operators mask (record { arity = 0; met = mask'; next = next })
  unfolding variables
  took_variable v next mask' h z e =
      record {
        arity = omega arith;
        goes = λ met m. (
          v ∷ met,
          rw e (masks_with mask v met z m),
          goes_variable bytes operators _ at v next h (λ ss. fresh_new met v (variables ss) (m v ∙ rw z)),
        );
      }

pub met_again : {bytes operators : List ℕ} {at : ℕ} (mask v next : ℕ) → StandingAt bytes at (Sd.Standing.Variable v next) → eqb (bit v mask) 1 ≡ true →
    SymbolMet bytes at operators mask None
unfolding variables
met_again {bytes} {operators} {at} mask v next h e met m = all_variable bytes operators _ at v next h (λ ss. fresh_met met v (variables ss) (m v ∙ e))

-- ONE SIDE

module _ {bytes operators : List ℕ} {at mask due room : ℕ} where
  pub ended : (due ≡ 0) ⊎ (room ≡ 0) → RestLinear bytes at operators mask due room true
  unfolding fresh variables
  ended e = record { is = λ met m ss s. rw (none_left bytes operators at due room ss s e) }

  pub stopped : 0 < due → SymbolMet bytes at operators mask None → RestLinear bytes at operators mask due room false
  stopped d h = record { is = λ met m ss s. sym (h met m due room ss d s) }

  pub went : {due' room' : ℕ} {t : T.Taken} {r : Bool} → 0 < due → SymbolTaken bytes at operators mask t → due' ≡ due - 1 + t.arity → room' ≡ room - 1 →
      RestLinear bytes t.next operators t.met due' room' r → RestLinear bytes at operators mask due room r
  went {due'} {room'} d h p q g =
      record {
        is = λ met m ss s. let (met', m', goes) = h.goes met m in let (ss', k, e) = goes due room ss d s in g.is met' m' ss' (k due' room' p q) ∙ sym e;
      }

pub side_linear : {bytes operators : List ℕ} {at : ℕ} {r : Bool} → RestLinear bytes at operators 0 1 64 r → LinearAt bytes at operators r
side_linear h = record { is = λ side s. h.is [] masks_none _ s ∙ once_fresh _ }
