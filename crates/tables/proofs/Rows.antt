-- Laws of rows: the row that is set and the others, the code of each step in a row, and that a row of steps decodes to them. Assumes nothing.
use mathlib.Core.List.{List, [], ◌∷◌, ◌++◌, map}
use mathlib.Core.Logic.{◌≢◌}
use mathlib.Core.Option.{Option, none, some}
use mathlib.Core.Path.{◌≡◌, refl, sym, ap, ◌∙◌, subst}
use Prim.Native.Nat.{ℕ, zero, suc, ◌+◌, ◌-◌, ◌*◌, ◌≤◌, ◌<◌}
use native.Mathlib.Omega.{arith}
use native.Mathlib.Decide.{dec_lt}
use lib.ListN.{length, get_or, take, drop, replicate, length-append, length-map, length-replicate, get_or-replicate, drop_of_length-le, get_or-append, get_or-map}
use lib.Seq.{take_at, drop-cons, get_or-take, get_or-drop, get_or-append-add}
use borrow.Author.Tests.{ne_eqb, lt-ltb, le-ltb}
use Rattle.paper.specs.Strategy.{Step}
use Rattle.bits.specs.Field.{splice}
use Rattle.bits.proofs.Splice.{splice_here, splice_before, splice_behind}
use Rattle.tables.specs.Layout.{code, step_of, row, decode, code_in, row_in, steps_in, Few, AllFew, Rowed, set_row}

pub row_length : (ss : List Step) → length ss ≤ 16 → length (row ss) ≡ 16
unfolding row
row_length ss h =
    omega (arith, length-append (map code ss) (replicate (16 - length ss) 0), length-map ss code, length-replicate {A = ℕ} (16 - length ss) 0)

-- A ROW THAT IS SET

module _ (operators : List ℕ) (o : ℕ) (r : List ℕ) (h : length operators ≡ 4352) (k : o < 256) (n : length r ≡ 16) where
  pub row_set : row_in (set_row operators o r) o ≡ r
  unfolding set_row splice
  row_set =
      ap (take 16) (splice_here operators (256 + 16 * o) r (omega arith)) ∙ take_at r (drop (256 + 16 * o + length r) operators) 16 n

  pub row_other : (q : ℕ) → q ≢ o → row_in (set_row operators o r) q ≡ row_in operators q
  unfolding set_row splice
  row_other q d = go (dec_lt q o)
    where
      go : Dec (q < o) → row_in (splice operators (256 + 16 * o) r) q ≡ row_in operators q
      go (yes l) = splice_before operators (256 + 16 * o) r (omega arith) (256 + 16 * q) 16 (omega arith)
      go (no l) = ap (take 16) (splice_behind operators (256 + 16 * o) r (omega arith) (256 + 16 * q) (omega arith))

-- CODES

pub code_some : (s : Step) → code s ≢ 0
unfolding code
code_some (Step.visit i) e = omega arith
code_some (Step.fork i) e = omega arith
code_some (Step.join c) e = omega arith
code_some Step.whole e = omega arith

-- 0 stands for no step
no_step : step_of 0 ≡ none
unfolding step_of
no_step = refl

pub get_d_any : (xs : List ℕ) (i a b : ℕ) → i < length xs → get_or xs i a ≡ get_or xs i b
get_d_any [] i a b h = absurd (omega arith)
get_d_any (x ∷ xs) zero a b h = refl
get_d_any (x ∷ xs) (suc i) a b h = get_d_any xs i a b (omega arith)

-- a small step is known by its code
pub step_code : (s : Step) → Few s → step_of (code s) ≡ some s
unfolding code step_of
step_code (Step.visit i) h =
    let e : 8 + i - 8 ≡ i = omega arith in
    simp (ne_eqb (8 + i) 0 (λ z. omega arith), le-ltb (8 + i) 8 (omega arith), lt-ltb (8 + i) 16 (omega arith), e)
step_code (Step.fork i) h =
    let e : 16 + i - 16 ≡ i = omega arith in
    simp (ne_eqb (16 + i) 0 (λ z. omega arith), le-ltb (16 + i) 8 (omega arith), le-ltb (16 + i) 16 (omega arith), lt-ltb (16 + i) 24 (omega arith), e)
step_code (Step.join c) h =
    let e : 24 + c - 24 ≡ c = omega arith in
    simp (
      ne_eqb (24 + c) 0 (λ z. omega arith),
      le-ltb (24 + c) 8 (omega arith),
      le-ltb (24 + c) 16 (omega arith),
      le-ltb (24 + c) 24 (omega arith),
      e,
    )
step_code Step.whole h = refl

decode_codes : (ss : List Step) (n : ℕ) → 0 < n → AllFew ss → decode (map code ss ++ replicate n 0) ≡ ss
unfolding decode step_of
decode_codes [] zero h f = absurd (omega arith)
decode_codes [] (suc n) h f = refl
decode_codes (s ∷ ss) n h f = rw (step_code s f.0, decode) (ap (λ (ts : List Step). s ∷ ts) (decode_codes ss n h f.1))

-- a row decodes to its steps
pub decode_row : (ss : List Step) → length ss ≤ 15 → AllFew ss → decode (row ss) ≡ ss
unfolding row
decode_row ss h f = decode_codes ss (16 - length ss) (omega arith) f

-- THE STEPS OF AN OPERATOR

-- a table that holds the row of some steps: its steps are these
module _ (operators : List ℕ) (o : ℕ) (ss : List Step) (e : row_in operators o ≡ row ss) (short : length ss ≤ 15) (few : AllFew ss) where
  pub steps_are : steps_in operators o ≡ ss
  unfolding steps_in
  steps_are = ap decode e ∙ decode_row ss short few

  pub rowed : Rowed operators o
  rowed = record {
    is = e ∙ ap row (sym steps_are);
    short = omega (arith, ap length steps_are);
    few = subst AllFew (sym steps_are) few;
  }

-- a step of a row by its place
few_at : (ss : List Step) (k : ℕ) → AllFew ss → k < length ss → Few (get_or ss k Step.whole)
few_at [] k f h = absurd (omega arith)
few_at (s ∷ ss) zero f h = f.0
few_at (s ∷ ss) (suc k) f h = few_at ss k f.1 (omega arith)

module _ {operators : List ℕ} {o : ℕ} (r : Rowed operators o) (k : ℕ) (l : k < 16) where
  abbrev steps : List Step
  steps = steps_in operators o

  at_row : code_in operators o k ≡ get_or (row steps) k 0
  at_row =
      sym (get_or-drop (256 + 16 * o) operators k 0) ∙ sym (get_or-take 16 (drop (256 + 16 * o) operators) k 0 l) ∙ ap (λ (z : List ℕ). get_or z k 0) r.is

  code_here : k < length steps → code_in operators o k ≡ code (get_or steps k Step.whole)
  unfolding row
  code_here h =
      at_row ∙ get_or-append (map code steps) (replicate (16 - length steps) 0) 0 k (omega (arith, length-map steps code))
      ∙ get_d_any (map code steps) k 0 (code Step.whole) (omega (arith, length-map steps code)) ∙ get_or-map code steps k Step.whole

  code_none : length steps ≤ k → code_in operators o k ≡ 0
  unfolding row
  code_none h =
      let e : k ≡ length (map code steps) + (k - length steps) = omega (arith, length-map steps code) in
      at_row ∙ ap (λ (i : ℕ). get_or (row steps) i 0) e ∙ get_or-append-add (map code steps) (replicate (16 - length steps) 0) (k - length steps) 0
      ∙ get_or-replicate (16 - length steps) (k - length steps) 0 0 (omega (arith, r.short))

  -- the step that stands at place k is the first of those from k on; none stands there exactly if there are none
  abbrev FromHere : Option Step → Type 0
  FromHere none = drop k steps ≡ []
  FromHere (some s) = (drop k steps ≡ s ∷ drop (suc k) steps) × Few s

  pub from_here : FromHere (step_of (code_in operators o k))
  from_here = go (dec_lt k (length steps))
    where
      go : Dec (k < length steps) → FromHere (step_of (code_in operators o k))
      go (yes d) =
          let f = few_at steps k r.few d in
          subst FromHere (sym (ap step_of (code_here d) ∙ step_code (get_or steps k Step.whole) f)) (drop-cons steps k Step.whole d, f)
      go (no d) =
          let p : length steps ≤ k = omega arith in
          subst FromHere (sym (ap step_of (code_none p) ∙ no_step)) (drop_of_length-le steps p)

  pub here_is : (z : Option Step) → z ≡ step_of (code_in operators o k) → FromHere z
  here_is z e = subst FromHere (sym e) from_here
