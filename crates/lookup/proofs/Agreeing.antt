-- The path of a rule that matches agrees with the term; and keys of a whole path that agree with a term end where it ends. Assumes nothing.
use mathlib.Core.Bool.{Bool, true, false}
use mathlib.Core.List.{List, [], ◌∷◌, map}
use mathlib.Core.Logic.{◌⊎◌, inl, inr}
use mathlib.Core.Path.{◌≡◌, refl, sym, ap, ◌∙◌, subst}
use Prim.Native.Nat.{ℕ, zero, suc, ◌+◌, ◌<◌}
use native.Mathlib.Nat.{zero-add, suc-add, add_assoc}
use native.Mathlib.Numerals.{add-one}
use native.Mathlib.Omega.{arith}
use lib.ListN.{length, get_or, take, drop, length-drop, take-append-drop}
use lib.Seq.{drop-cons, drop-drop, length-take-le}
use Rattle.paper.specs.Tree.{Complete}
use Rattle.paper.specs.Book.{Symbol}
use Rattle.paper.specs.Sound.{All}
use Rattle.paper.specs.Writer.{same}
use Rattle.paper.proofs.Operators.{same_equal}
use Rattle.paper.proofs.Tests.{eqb_cases}
use Rattle.flat.specs.Symbols as flat
use Rattle.flat.specs.Symbols.{segment, symbols_in, Binding, blank, bind, skip, meet, match}
use Rattle.flat.specs.Rules.{spells}
use Rattle.flat.proofs.Offsets.{skip_none}
use Rattle.flat.proofs.Sizes.{skip_plus, skip_most, spells_some, spells_split, spells_skip, spells_part}
use Rattle.term.specs.Present.{operators_in, Sized}
use Rattle.term.proofs.Sized.{operators_length, operator_is, size_is}
use Rattle.rule.proofs.Matches.{match_same, match_other, head_at}
use Rattle.net.specs.Net.{part, key}
use Rattle.lookup.specs.Walk.{symbol_in, takes, behind, Agree}
use Rattle.lookup.proofs.Walks.{takes_part, takes_operator}

-- an operator's number is not a variable's key
abbrev pub Plain : Symbol → Type 0
Plain (Symbol.operator o) = o ≡ part → ⊥
Plain (Symbol.variable v) = Unit {0}

-- TERMS THAT ARE DUE

module _ (ar : ℕ → ℕ) (xs : List ℕ) (e : ℕ) where
  -- from offset q on stand due terms, which end at e, and some more
  abbrev pub Due : ℕ → ℕ → Type 0
  Due due q = (m : ℕ) × (spells ar (due + m) (drop q xs) ≡ true) × (q + skip ar due (drop q xs) ≡ e)

  due_inside : (due q : ℕ) → Due (suc due) q → q < length xs
  due_inside due q (m, s, z) = omega (arith, spells_some ar (drop q xs) (due + m) (rw (suc-add due m) at s), length-drop q xs)

  pub due_before : (due q : ℕ) → Due (suc due) q → q < e
  unfolding skip
  due_before due q h = let l = due_inside due q h in let z = h.2 in omega (arith, rw (drop-cons xs q 0 l) at z)

  due_operator : (due q : ℕ) → Due (suc due) q → Due (ar (get_or xs q 0) + due) (q + 1)
  unfolding skip spells
  due_operator due q h =
      let l = due_inside due q h in
      let (m, s, z) = h in
      let t : List ℕ = drop (suc q) xs in
      let s' : spells ar (suc due + m) (get_or xs q 0 ∷ t) ≡ true = rw (drop-cons xs q 0 l) at s in
      let z' : q + skip ar (suc due) (get_or xs q 0 ∷ t) ≡ e = rw (drop-cons xs q 0 l) at z in
      (m, rw (add-one q, add_assoc (ar (get_or xs q 0)) due m) (rw (suc-add due m) at s'), rw (add-one q) (omega (arith, z')))

  due_part : (due q : ℕ) → Due (suc due) q → Due due (q + skip ar 1 (drop q xs))
  due_part due q (m, s, z) =
      let k = skip ar 1 (drop q xs) in
      let one : suc due + m ≡ 1 + (due + m) = omega arith in
      let one' : suc due ≡ 1 + due = omega arith in (
        m,
        rw (drop-drop k q xs) at (spells_split ar (drop q xs) 1 (due + m) (rw one at s)).1,
        let p = rw (drop-drop k q xs) at (skip_plus ar 1 due (drop q xs)) in omega (arith, rw one' at z, p),
      )

-- KEYS AND SYMBOLS

-- sa gives the symbols of a side their arities
module _ (ar : ℕ → ℕ) (symbols : List ℕ) (sized : Sized ar symbols) (e : ℕ) (sa : Symbol → ℕ) (of_operator : (o : ℕ) → sa (Symbol.operator o) ≡ ar o)
    (of_variable : (v : ℕ) → sa (Symbol.variable v) ≡ 0) where
  abbrev xs : List ℕ
  xs = operators_in symbols

  symbol_is : (due q : ℕ) → Due ar xs e (suc due) q → symbol_in symbols q ≡ get_or xs q 0
  symbol_is due q h = operator_is ar symbols sized q (omega (arith, due_inside ar xs e due q h, operators_length ar symbols sized))

  part_is : (due q : ℕ) → Due ar xs e (suc due) q → takes symbols part q ≡ skip ar 1 (drop q xs)
  part_is due q h = takes_part symbols q ∙ size_is ar symbols sized q (omega (arith, due_inside ar xs e due q h, operators_length ar symbols sized))

  -- behind an operator that is the term's, and behind a variable
  past_operator : (o due q : ℕ) → (o ≡ part → ⊥) → o ≡ get_or xs q 0 → Due ar xs e (suc due) q → Due ar xs e (sa (Symbol.operator o) + due) (q + takes symbols o q)
  past_operator o due q n z h = rw (takes_operator symbols o q n, of_operator o, z) (due_operator ar xs e due q h)

  past_variable : (v due q : ℕ) → Due ar xs e (suc due) q → Due ar xs e (sa (Symbol.variable v) + due) (q + takes symbols part q)
  past_variable v due q h = rw (part_is due q h, of_variable v, zero-add due) (due_part ar xs e due q h)

  -- the keys of whole terms that agree end where the terms that are due end
  pub whole_end : (ss : List Symbol) (due q : ℕ) → All Plain ss → Complete sa due ss → Due ar xs e due q → Agree symbols e (map key ss) q →
      behind symbols (map key ss) q ≡ e
  unfolding key behind
  whole_end [] zero q p c h a = omega (arith, h.2, skip_none ar (drop q xs))
  whole_end [] (suc due) q p c h a = absurd c
  whole_end (s ∷ ss) zero q p c h a = absurd c
  whole_end (Symbol.operator o ∷ ss) (suc due) q p c h a = elim a.1 [
    | inl z ↦ absurd (p.0 z)
    | inr z ↦ whole_end ss (sa (Symbol.operator o) + due) (q + takes symbols o q) p.1 c (past_operator o due q p.0 (z ∙ symbol_is due q h) h) a.2
  ]
  whole_end (Symbol.variable v ∷ ss) (suc due) q p c h a =
      whole_end ss (sa (Symbol.variable v) + due) (q + takes symbols part q) p.1 c (past_variable v due q h) a.2

  -- WHAT A MATCH BINDS

  -- a variable is bound to a term, or not bound
  abbrev Bound : Binding → Type 0
  Bound b = (v : ℕ) → ((b v).size ≡ 0) ⊎ ((spells ar 1 (symbols_in (b v) xs) ≡ true) × (length (symbols_in (b v) xs) ≡ (b v).size))

  bound_bind : (v q k : ℕ) (b : Binding) → spells ar 1 (take k (drop q xs)) ≡ true → length (take k (drop q xs)) ≡ k → Bound b → Bound (bind v (segment q k) b)
  unfolding bind
  bound_bind v q k b s l g w = elim (eqb_cases v w) [ inl p ↦ rw (p.0, bind) (inr (s, l)) | inr p ↦ rw (p.0, bind) (g w) ]

  -- a variable that is met takes the whole term that begins there
  met : (v q n : ℕ) (b : Binding) (k : ℕ) (c : Binding) → q < length xs → Bound b → (b v).size ≡ n → meet ar xs n v q (drop q xs) b ≡ flat.Meeting.part k c →
      (k ≡ skip ar 1 (drop q xs)) × Bound c
  unfolding meet
  met v q zero b k c l g z h =
      let y : k ≡ skip ar 1 (drop q xs) = cc in
      let w : bind v (segment q (skip ar 1 (drop q xs))) b ≡ c = cc in
      (y, subst Bound w (bound_bind v q (skip ar 1 (drop q xs)) b (spells_part ar xs q sized.term l) (length-take-le _ (drop q xs) (skip_most ar (drop q xs) 1)) g))
  met v q (suc n) b k c l g z h = go (same (symbols_in (b v) xs) (take (suc n) (drop q xs))) refl h
    where
      go : (t : Bool) → same (symbols_in (b v) xs) (take (suc n) (drop q xs)) ≡ t →
          ◌≡◌ {A = flat.Meeting} (elim t [ true ↦ flat.Meeting.part (suc n) b | false ↦ flat.Meeting.other ]) (flat.Meeting.part k c) →
          (k ≡ skip ar 1 (drop q xs)) × Bound c
      go true s h =
          let y : suc n ≡ k = cc in
          let w : b ≡ c = cc in
          elim (g v) [
            | inl o ↦ absurd (omega arith)
            | inr (f, m) ↦
                let p : symbols_in (b v) xs ≡ take (suc n) (drop q xs) = same_equal _ _ s in
                let f' = rw p at f in
                let r = rw (take-append-drop (suc n) (drop q xs)) at (spells_skip ar (take (suc n) (drop q xs)) 1 f' (drop (suc n) (drop q xs))) in
                (omega (arith, r, ap length p, m, z, y), subst Bound w g)
          ]
      go false s h = let x : ◌≡◌ {A = ℕ} 0 1 = cc in absurd (omega arith)

  past : (v : ℕ) (ss : List Symbol) (q : ℕ) (b b' : Binding) (e' : ℕ) → q < length xs → Bound b →
      match ar xs (Symbol.variable v ∷ ss) q (drop q xs) b ≡ flat.Match.agrees b' e' →
      (c : Binding) × Bound c × (match ar xs ss (q + skip ar 1 (drop q xs)) (drop (q + skip ar 1 (drop q xs)) xs) c ≡ flat.Match.agrees b' e')
  unfolding match
  past v ss q b b' e' l g h = go (meet ar xs (b v).size v q (drop q xs) b) refl h
    where
      go : (m : flat.Meeting) → meet ar xs (b v).size v q (drop q xs) b ≡ m →
          ◌≡◌ {A = flat.Match} (elim m [ flat.Meeting.other ↦ flat.Match.differs | flat.Meeting.part n c ↦ match ar xs ss (q + n) (drop n (drop q xs)) c ]) (flat.Match.agrees b' e') →
          (c : Binding) × Bound c × (match ar xs ss (q + skip ar 1 (drop q xs)) (drop (q + skip ar 1 (drop q xs)) xs) c ≡ flat.Match.agrees b' e')
      go flat.Meeting.other z h = let x : ◌≡◌ {A = ℕ} 0 1 = cc in absurd (omega arith)
      go (flat.Meeting.part k c) z h =
          let (y, w) = met v q (b v).size b k c l g refl z in
          (c, w, ap (λ (t : List ℕ). match ar xs ss (q + skip ar 1 (drop q xs)) t c) (sym (drop-drop (skip ar 1 (drop q xs)) q xs)) ∙ rw y at h)

  -- the keys of a side that matches agree with the term
  pub match_agree : (ss : List Symbol) (due q : ℕ) (b b' : Binding) (e' : ℕ) → All Plain ss → Complete sa due ss → Due ar xs e due q → Bound b →
      match ar xs ss q (drop q xs) b ≡ flat.Match.agrees b' e' → Agree symbols e (map key ss) q
  unfolding key
  match_agree [] due q b b' e' p c h g m = tt
  match_agree (s ∷ ss) zero q b b' e' p c h g m = absurd c
  match_agree (Symbol.operator o ∷ ss) (suc due) q b b' e' p c h g m =
      let l = due_inside ar xs e due q h in
      let f = head_at q xs o (get_or xs q 0) l refl in
      elim (eqb_cases o (get_or xs q 0)) [
        | inl z ↦ (
          due_before ar xs e due q h,
          inr (z.1 ∙ sym (symbol_is due q h)),
          match_agree ss (sa (Symbol.operator o) + due) (q + takes symbols o q) b b' e' p.1 c (past_operator o due q p.0 z.1 h) g
              (rw (takes_operator symbols o q p.0) (sym (match_same ar o ss q xs b (f ∙ z.0)) ∙ m)),
        )
        | inr z ↦ let w = match_other ar xs o ss q (drop q xs) b (f ∙ z.0) in let x : ◌≡◌ {A = ℕ} 0 1 = cc in absurd (omega arith)
      ]
  match_agree (Symbol.variable v ∷ ss) (suc due) q b b' e' p c h g m =
      let (b'', g', m') = past v ss q b b' e' (due_inside ar xs e due q h) g m in (
        due_before ar xs e due q h,
        inl refl,
        match_agree ss (sa (Symbol.variable v) + due) (q + takes symbols part q) b'' b' e' p.1 c (past_variable v due q h) g' (rw (part_is due q h) m'),
      )

  pub blank_bound : Bound blank
  blank_bound v = inl refl
