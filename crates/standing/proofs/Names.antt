-- Names: what the numbers of two variables tell, and the arrays behind them. Assumes nothing.
use mathlib.Core.Bool.{true, false, true≢false}
use mathlib.Core.List.{List, [], ◌∷◌, ◌++◌}
use mathlib.Core.Logic.{inl, inr, ◌≢◌}
use mathlib.Core.Path.{◌≡◌, refl, sym, ap, ◌∙◌, subst}
use Prim.Native.Nat.{ℕ, suc, ◌+◌, ◌<◌}
use native.Mathlib.Omega.{arith}
use lib.Dec.{eqb}
use lib.ListN.{length, get_or, set, length-append, length-set}
use lib.Seq.{get_or-set_same, get_or-set_other}
use Rattle.paper.specs.Strategy.{has}
use Rattle.paper.specs.Book.{Symbol}
use Rattle.paper.specs.Naming.{place, meeting, same_symbol}
use Rattle.paper.specs.Writer.{write_symbol}
use Rattle.paper.specs.Bits.{to_bits}
use Rattle.paper.proofs.Tests.{either, eqb_cases, eqb_true, eqb_false}
use Rattle.standing.specs.Promises.{named, Names, SymbolsAre, NamesCompared}
use Rattle.std.specs.Prelude.{Option, Some, None}
use Rattle.standing.specs.declared.Same.{Same}

-- A VARIABLE AMONG THOSE MET

-- it was met, or not
data Met (v : ℕ) (vs : List ℕ) : Type 0 where
  known : named v vs ≡ suc (place v vs) → place v vs < length vs → meeting v vs ≡ vs → Met v vs
  new : named v vs ≡ 0 → place v vs ≡ length vs → meeting v vs ≡ vs ++ (v ∷ []) → has v vs ≡ false → Met v vs

place_in : (v : ℕ) (vs : List ℕ) → has v vs ≡ true → place v vs < length vs
unfolding has place
place_in v [] h = absurd (true≢false (sym h))
place_in v (w ∷ ws) h = elim (eqb_cases v w) [
  | inl p ↦ rw p.0 (omega arith)
  | inr p ↦ rw p.0 (omega (arith, place_in v ws (rw (p.0, has) at h)))
]

place_out : (v : ℕ) (vs : List ℕ) → has v vs ≡ false → place v vs ≡ length vs
unfolding has place
place_out v [] h = refl
place_out v (w ∷ ws) h = elim (eqb_cases v w) [
  | inl p ↦ absurd (true≢false (rw (p.0, has) at h))
  | inr p ↦ rw p.0 (ap suc (place_out v ws (rw (p.0, has) at h)))
]

met_cases : (v : ℕ) (vs : List ℕ) → Met v vs
unfolding named meeting
met_cases v vs = elim (either (has v vs)) [
  | inl h ↦ known (rw h) (place_in v vs h) (rw h)
  | inr h ↦ new (rw h) (place_out v vs h) (rw h) h
]

-- ONE MORE IS MET

has_more : (u v : ℕ) (vs : List ℕ) → u ≢ v → has u (vs ++ (v ∷ [])) ≡ has u vs
unfolding has
has_more u v [] d = rw (eqb_false u v d, has)
has_more u v (w ∷ ws) d = elim (either (eqb u w)) [ inl e ↦ rw (e, has) | inr e ↦ rw (e, has) (has_more u v ws d) ]

has_last : (v : ℕ) (vs : List ℕ) → has v (vs ++ (v ∷ [])) ≡ true
unfolding has
has_last v [] = rw (eqb_true v v refl, has)
has_last v (w ∷ ws) = elim (either (eqb v w)) [ inl e ↦ rw (e, has) | inr e ↦ rw (e, has) (has_last v ws) ]

place_more : (u v : ℕ) (vs : List ℕ) → has u vs ≡ true → place u (vs ++ (v ∷ [])) ≡ place u vs
unfolding has place
place_more u v [] h = absurd (true≢false (sym h))
place_more u v (w ∷ ws) h = elim (eqb_cases u w) [
  | inl p ↦ rw p.0
  | inr p ↦ rw p.0 (ap suc (place_more u v ws (rw (p.0, has) at h)))
]

place_last : (v : ℕ) (vs : List ℕ) → has v vs ≡ false → place v (vs ++ (v ∷ [])) ≡ length vs
unfolding has place
place_last v [] h = rw (eqb_true v v refl)
place_last v (w ∷ ws) h = elim (eqb_cases v w) [
  | inl p ↦ absurd (true≢false (rw (p.0, has) at h))
  | inr p ↦ rw p.0 (ap suc (place_last v ws (rw (p.0, has) at h)))
]

named_other : (u v : ℕ) (vs : List ℕ) → u ≢ v → named u (vs ++ (v ∷ [])) ≡ named u vs
unfolding named
named_other u v vs d = elim (either (has u vs)) [
  | inl h ↦ rw (has_more u v vs d, h, place_more u v vs h)
  | inr h ↦ rw (has_more u v vs d, h)
]

named_last : (v : ℕ) (vs : List ℕ) → has v vs ≡ false → named v (vs ++ (v ∷ [])) ≡ suc (length vs)
unfolding named
named_last v vs h = rw (has_last v vs, place_last v vs h)

-- the array with the new one's number
names_more : (names vs : List ℕ) (met v : ℕ) → v < 16 → has v vs ≡ false → Names names vs met → Names (set names v (met + 1)) (vs ++ (v ∷ [])) (met + 1)
names_more names vs met v l h n =
    let c : suc (length vs) ≡ met + 1 = omega (arith, n.count) in
    record {
      each = λ u k. elim (eqb_cases u v) [
        | inl p ↦
            subst (λ (x : ℕ). get_or (set names v (met + 1)) x 0 ≡ named x (vs ++ (v ∷ []))) (sym p.1)
            (get_or-set_same names v (met + 1) 0 (omega (arith, n.long)) ∙ sym (named_last v vs h ∙ c))
        | inr p ↦ get_or-set_other names v u (met + 1) 0 p.1 ∙ n.each u k ∙ sym (named_other u v vs p.1)
      ];
      long = length-set names v (met + 1) ∙ n.long;
      count = omega (arith, length-append vs (v ∷ []), n.count);
    }

-- TWO VARIABLES

variable_bits : (v : ℕ) → length (write_symbol (Symbol.variable v)) ≡ 5
unfolding write_symbol to_bits
variable_bits v = refl

abbrev Compared : ℕ → List ℕ → ℕ → List ℕ → List ℕ → List ℕ → ℕ → Type 0
Compared v vs w ws names others met = SymbolsAre vs (Symbol.variable v) ws (Symbol.variable w) names others (Some (record { width = 5; met = met }))

module _ {v w : ℕ} {names others : List ℕ} {met : ℕ} (l : v < 16) (m : w < 16) where
  -- their numbers differ
  pub names_differ : get_or names v 0 ≢ get_or others w 0 → NamesCompared v w names others met names others None
  unfolding same_symbol
  names_differ d = record { is = λ vs ws a b. go vs ws a b (met_cases v vs) (met_cases w ws) }
    where
      go : (vs ws : List ℕ) → Names names vs met → Names others ws met → Met v vs → Met w ws → eqb (place v vs) (place w ws) ≡ false
      go vs ws a b (known e p f) (known e' p' f') =
          eqb_false (place v vs) (place w ws) (λ q. d (a.each v l ∙ e ∙ ap suc q ∙ sym e' ∙ sym (b.each w m)))
      go vs ws a b (known e p f) (new e' p' f' h') = eqb_false (place v vs) (place w ws) (λ q. omega (arith, a.count, b.count))
      go vs ws a b (new e p f h) (known e' p' f') = eqb_false (place v vs) (place w ws) (λ q. omega (arith, a.count, b.count))
      go vs ws a b (new e p f h) (new e' p' f' h') = absurd (d (a.each v l ∙ e ∙ sym e' ∙ sym (b.each w m)))

  -- both were met, with one number
  pub names_known : get_or names v 0 ≡ get_or others w 0 → get_or names v 0 ≢ 0 → NamesCompared v w names others met names others (Some (record { width = 5; met = met }))
  unfolding same_symbol
  names_known s d = record { is = λ vs ws a b. go vs ws a b (met_cases v vs) (met_cases w ws) }
    where
      go : (vs ws : List ℕ) (a : Names names vs met) (b : Names others ws met) → Met v vs → Met w ws → Compared v vs w ws names others met
      go vs ws a b (known e p f) (known e' p' f') = (
        eqb_true (place v vs) (place w ws) (omega (arith, a.each v l, b.each w m)),
        variable_bits v,
        variable_bits w,
        subst (λ (xs : List ℕ). Names names xs met) (sym f) a,
        subst (λ (xs : List ℕ). Names others xs met) (sym f') b,
      )
      go vs ws a b (known e p f) (new e' p' f' h') = absurd (omega (arith, a.each v l, b.each w m))
      go vs ws a b (new e p f h) (known e' p' f') = absurd (omega (arith, a.each v l, b.each w m))
      go vs ws a b (new e p f h) (new e' p' f' h') = absurd (d (a.each v l ∙ e))

  -- both are new
  pub names_new : get_or names v 0 ≡ get_or others w 0 → get_or names v 0 ≡ 0 →
      NamesCompared v w names others met (set names v (met + 1)) (set others w (met + 1)) (Some (record { width = 5; met = met + 1 }))
  unfolding same_symbol
  names_new s z = record { is = λ vs ws a b. go vs ws a b (met_cases v vs) (met_cases w ws) }
    where
      go : (vs ws : List ℕ) (a : Names names vs met) (b : Names others ws met) → Met v vs → Met w ws →
          Compared v vs w ws (set names v (met + 1)) (set others w (met + 1)) (met + 1)
      go vs ws a b (known e p f) y = absurd (omega (arith, a.each v l))
      go vs ws a b (new e p f h) (known e' p' f') = absurd (omega (arith, b.each w m))
      go vs ws a b (new e p f h) (new e' p' f' h') = (
        eqb_true (place v vs) (place w ws) (omega (arith, a.count, b.count)),
        variable_bits v,
        variable_bits w,
        subst (λ (xs : List ℕ). Names (set names v (met + 1)) xs (met + 1)) (sym f) (names_more names vs met v l h a),
        subst (λ (xs : List ℕ). Names (set others w (met + 1)) xs (met + 1)) (sym f') (names_more others ws met w m h' b),
      )
