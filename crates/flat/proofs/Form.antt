-- What was written of a point is read back, whatever follows; and every field of a point that keeps the rules is wide enough, so every point that a run saved is read back; and how long
-- what is written can be. Assumes nothing.
use mathlib.Core.Bool.{Bool, true, false, true≢false}
use mathlib.Core.List.{List, [], ◌∷◌, ◌++◌, append_assoc}
use mathlib.Core.Logic.{inl, inr}
use mathlib.Core.Option.{Option, none, some, none-ne-some, some-injective}
use mathlib.Core.Path.{◌≡◌, refl, sym, ◌∙◌, ap, subst}
use Prim.Native.Nat.{ℕ, zero, suc, pred, ◌+◌, ◌*◌, ◌^◌, ◌<◌, ◌≤◌}
use native.Mathlib.Nat.{mul-suc}
use native.Mathlib.Omega.{arith}
use lib.ListN.{length, length-append}
use Rattle.paper.specs.Result.{Reader, return, ◌>>=◌, repeat, accepted}
use Rattle.paper.specs.Bits.{to_bits, field}
use Rattle.paper.specs.Writer.{concat}
use Rattle.paper.specs.Book.{Term, Book, arity}
use Rattle.paper.specs.Dated.{AnyBook, read_any, on_day}
use Rattle.paper.specs.Line.{symbol_limit, read_line}
use Rattle.paper.specs.WellFormed.{GoodBook}
use Rattle.paper.specs.Machine.{Limits}
use Rattle.paper.specs.Sound.{In, All, Sound}
use Rattle.paper.proofs.Bits.{length_to_bits, field_to_bits}
use Rattle.paper.proofs.Books.{good_book_sound, repeat_read}
use Rattle.paper.proofs.Dated.{day_good}
use Rattle.paper.proofs.Readers.{bind_return}
use Rattle.paper.proofs.Tests.{eqb_cases, ltb_cases}
use Rattle.flat.specs.Sizes.{sizes}
use Rattle.flat.specs.Machine.{Frame, FlatUnit, FlatState, flat_start, unit, idle_count}
use Rattle.flat.specs.Rules.{stack, Rules}
use Rattle.flat.specs.Meets.{Meets, PointRules}
use Rattle.flat.specs.Parts.{flat_parked, highest, kept_count, kept_state, Parked, again, part, from, parts}
use Rattle.flat.specs.Form.{write_frame, read_job, read_exit, read_kind, read_frame, write_unit, read_unit, write_mark, is_marked, read_mark, Saved, write_saved, read_saved}
use Rattle.flat.proofs.Inside.{exit_unit}
use Rattle.flat.proofs.Parts.{kept_most}
use Rattle.flat.proofs.Points.{meets_rules, meets_acts, placed_few, saved_point}
use Rattle.flat.proofs.Rules.{numbers}
use Rattle.flat.proofs.Sizes.{spells_some}
use Rattle.flat.proofs.Steps.{Settled, good_settled}
use Rattle.flat.proofs.Tested.{tried}

-- one reader after another, each known by what it reads back
on : {A C : Type 0} (p : Reader A) (k : A → Reader C) (xs ys zs : List ℕ) (a : A) (c : C) → p xs ≡ return a ys → k a ys ≡ return c zs → (p >>= k) xs ≡ return c zs
on p k xs ys zs a c e f = bind_return p k xs ys a e ∙ f

-- FRAMES AND UNITS

abbrev pub FrameFits : Frame → Type 0
FrameFits (Frame.job a k c) = (a < 2 ^ 10) × (k < 2 ^ 4) × (c < 2 ^ 3)
FrameFits (Frame.exit w i) = (w < 2 ^ 3) × (i < 2 ^ 11)
FrameFits Frame.sleep = Unit {0}
FrameFits Frame.bingo = Unit {0}

frame_read : (f : Frame) (xs : List ℕ) → FrameFits f → read_frame (write_frame f ++ xs) ≡ return f xs
unfolding read_frame write_frame
frame_read (Frame.job a k c) xs (la, lk, lc) =
    let z₁ : List ℕ = to_bits 3 c ++ xs in
    let z₂ : List ℕ = to_bits 4 k ++ z₁ in
    let z₃ : List ℕ = to_bits 10 a ++ z₂ in
    let e : (to_bits 2 0 ++ (to_bits 10 a ++ (to_bits 4 k ++ to_bits 3 c))) ++ xs ≡ to_bits 2 0 ++ z₃ = simp append_assoc in
    ap (field 2 >>= read_kind) e
    ∙ on (field 2) read_kind (to_bits 2 0 ++ z₃) z₃ xs 0 (Frame.job a k c) (field_to_bits 2 0 z₃ (omega arith)) (job_read z₁ z₂ z₃ refl refl refl)
  where
    job_read : (z₁ z₂ z₃ : List ℕ) → z₁ ≡ to_bits 3 c ++ xs → z₂ ≡ to_bits 4 k ++ z₁ → z₃ ≡ to_bits 10 a ++ z₂ → read_kind 0 z₃ ≡ return (Frame.job a k c) xs
    job_read z₁ z₂ z₃ e₁ e₂ e₃ =
        unfold read_kind read_job in
        on (field 10) _ z₃ z₂ xs a (Frame.job a k c) (ap (field 10) e₃ ∙ field_to_bits 10 a z₂ la)
        (on (field 4) _ z₂ z₁ xs k (Frame.job a k c) (ap (field 4) e₂ ∙ field_to_bits 4 k z₁ lk)
        (on (field 3) _ z₁ xs xs c (Frame.job a k c) (ap (field 3) e₁ ∙ field_to_bits 3 c xs lc) refl))
frame_read (Frame.exit w i) xs (lw, li) =
    let z₁ : List ℕ = to_bits 11 i ++ xs in
    let z₂ : List ℕ = to_bits 3 w ++ z₁ in
    let e : (to_bits 2 1 ++ (to_bits 3 w ++ to_bits 11 i)) ++ xs ≡ to_bits 2 1 ++ z₂ = simp append_assoc in
    ap (field 2 >>= read_kind) e
    ∙ on (field 2) read_kind (to_bits 2 1 ++ z₂) z₂ xs 1 (Frame.exit w i) (field_to_bits 2 1 z₂ (omega arith)) (exit_read z₁ z₂ refl refl)
  where
    exit_read : (z₁ z₂ : List ℕ) → z₁ ≡ to_bits 11 i ++ xs → z₂ ≡ to_bits 3 w ++ z₁ → read_kind 1 z₂ ≡ return (Frame.exit w i) xs
    exit_read z₁ z₂ e₁ e₂ =
        unfold read_kind read_exit in
        on (field 3) _ z₂ z₁ xs w (Frame.exit w i) (ap (field 3) e₂ ∙ field_to_bits 3 w z₁ lw)
        (on (field 11) _ z₁ xs xs i (Frame.exit w i) (ap (field 11) e₁ ∙ field_to_bits 11 i xs li) refl)
frame_read Frame.sleep xs h = on (field 2) read_kind (to_bits 2 2 ++ xs) xs xs 2 Frame.sleep (field_to_bits 2 2 xs (omega arith)) (unfold read_kind in refl)
frame_read Frame.bingo xs h = on (field 2) read_kind (to_bits 2 3 ++ xs) xs xs 3 Frame.bingo (field_to_bits 2 3 xs (omega arith)) (unfold read_kind in refl)

pub record UnitFits (x : FlatUnit) : Type 0 where
  pub rank : x.rank < 2 ^ 3
  pub height : length x.stack ≤ 1026
  pub frames : All FrameFits x.stack

unit_read : (x : FlatUnit) (xs : List ℕ) → UnitFits x → read_unit (write_unit x ++ xs) ≡ return x xs
unfolding read_unit write_unit
unit_read x xs h =
    let fs : List ℕ = concat write_frame x.stack ++ xs in
    let e : (to_bits 3 x.rank ++ (to_bits 11 (length x.stack) ++ concat write_frame x.stack)) ++ xs ≡ to_bits 3 x.rank ++ (to_bits 11 (length x.stack) ++ fs) =
    simp append_assoc in
    ap read_unit e
    ∙ on (field 3) _ (to_bits 3 x.rank ++ (to_bits 11 (length x.stack) ++ fs)) (to_bits 11 (length x.stack) ++ fs) xs x.rank x
    (field_to_bits 3 x.rank (to_bits 11 (length x.stack) ++ fs) h.rank)
    (on (field 11) _ (to_bits 11 (length x.stack) ++ fs) fs xs (length x.stack) x (field_to_bits 11 (length x.stack) fs (let a = h.height in omega (arith, a)))
    (on (repeat (length x.stack) read_frame) _ fs xs xs x.stack x (repeat_read FrameFits read_frame write_frame frame_read x.stack xs h.frames) refl))

mark_read : (b : Bool) (xs : List ℕ) → Unit {0} → read_mark (write_mark b ++ xs) ≡ return b xs
unfolding read_mark write_mark is_marked
mark_read false xs h = on (field 1) _ (to_bits 1 0 ++ xs) xs xs 0 false (field_to_bits 1 0 xs (omega arith)) refl
mark_read true xs h = on (field 1) _ (to_bits 1 1 ++ xs) xs xs 1 true (field_to_bits 1 1 xs (omega arith)) refl

-- A POINT

pub record Fits (arity : ℕ → ℕ) (S : Saved) : Type 0 where
  pub some_unit : 1 ≤ length S.parked.state.units
  pub few_units : length S.parked.state.units ≤ 2 ^ 3
  pub budget : S.budget < 2 ^ 32
  pub rewrites : S.parked.state.rewrites < 2 ^ 64
  pub entries : S.parked.entries < 2 ^ 64
  pub granted : S.parked.state.granted < 2 ^ 64
  pub kept : S.parked.state.kept < 2 ^ 64
  pub some_symbol : 1 ≤ length S.parked.state.symbols
  pub few_symbols : length S.parked.state.symbols ≤ 2 ^ 10
  pub operators : All (λ o. o < 2 ^ 8) S.parked.state.symbols
  pub sizes : S.parked.state.sizes ≡ sizes arity S.parked.state.symbols
  pub marks : length S.parked.state.marks ≡ length S.parked.state.symbols
  pub units : All UnitFits S.parked.state.units
  pub few_placed : length S.parked.state.placed < 2 ^ 10
  pub placed : All (λ v. v < 2 ^ 3) S.parked.state.placed

all_marks : (bs : List Bool) → All (λ b. Unit {0}) bs
all_marks [] = tt
all_marks (b ∷ bs) = (tt, all_marks bs)

pub saved_read : (arity : ℕ → ℕ) (S : Saved) (xs : List ℕ) → Fits arity S → read_saved arity (write_saved S ++ xs) ≡ return S xs
unfolding read_saved write_saved
saved_read arity S xs h =
    let s : FlatState = S.parked.state in
    let n : ℕ = pred (length s.units) in
    let m : ℕ = pred (length s.symbols) in
    let v₁ : List ℕ = concat (to_bits 3) s.placed ++ xs in
    let v₂ : List ℕ = to_bits 10 (length s.placed) ++ v₁ in
    let v₃ : List ℕ = concat write_unit s.units ++ v₂ in
    let v₄ : List ℕ = concat write_mark s.marks ++ v₃ in
    let v₅ : List ℕ = concat (to_bits 8) s.symbols ++ v₄ in
    let v₆ : List ℕ = to_bits 10 m ++ v₅ in
    let v₇ : List ℕ = to_bits 64 s.kept ++ v₆ in
    let v₈ : List ℕ = to_bits 64 s.granted ++ v₇ in
    let v₉ : List ℕ = to_bits 64 S.parked.entries ++ v₈ in
    let w₁ : List ℕ = to_bits 64 s.rewrites ++ v₉ in
    let w₂ : List ℕ = to_bits 32 S.budget ++ w₁ in
    let e : write_saved S ++ xs ≡ to_bits 3 n ++ w₂ = unfold write_saved in simp append_assoc in
    let en : suc n ≡ length s.units = (let a = h.some_unit in omega (arith, a)) in
    let em : suc m ≡ length s.symbols = (let a = h.some_symbol in omega (arith, a)) in
    let ln : n < 2 ^ 3 = (let a = h.few_units in omega (arith, a, en)) in
    let lm : m < 2 ^ 10 = (let a = h.few_symbols in omega (arith, a, em)) in
    let r₁ : repeat (suc m) (field 8) v₅ ≡ return s.symbols v₄ =
    ap (λ (z : ℕ). repeat z (field 8) v₅) em ∙ repeat_read (λ o. o < 2 ^ 8) (field 8) (to_bits 8) (λ o ys l. field_to_bits 8 o ys l) s.symbols v₄ h.operators in
    let r₂ : repeat (suc m) read_mark v₄ ≡ return s.marks v₃ =
    ap (λ (z : ℕ). repeat z read_mark v₄) (em ∙ sym h.marks) ∙ repeat_read (λ b. Unit {0}) read_mark write_mark mark_read s.marks v₃ (all_marks s.marks) in
    let r₃ : repeat (suc n) read_unit v₃ ≡ return s.units v₂ =
    ap (λ (z : ℕ). repeat z read_unit v₃) en ∙ repeat_read UnitFits read_unit write_unit unit_read s.units v₂ h.units in
    let r₄ : repeat (length s.placed) (field 3) v₁ ≡ return s.placed xs =
    repeat_read (λ v. v < 2 ^ 3) (field 3) (to_bits 3) (λ v ys l. field_to_bits 3 v ys l) s.placed xs h.placed in
    let end : Saved = record {
      budget = S.budget;
      parked = record {
        entries = S.parked.entries;
        state = record {
          symbols = s.symbols;
          sizes = sizes arity s.symbols;
          marks = s.marks;
          units = s.units;
          rewrites = s.rewrites;
          granted = s.granted;
          kept = s.kept;
          placed = s.placed;
        };
      };
    } in
    let is : end ≡ S = ap (λ (zs : List ℕ). record {
      budget = S.budget;
      parked = record {
        entries = S.parked.entries;
        state = record { symbols = s.symbols; sizes = zs; marks = s.marks; units = s.units; rewrites = s.rewrites; granted = s.granted; kept = s.kept; placed = s.placed };
      };
    }) (sym h.sizes) in
    ap (read_saved arity) e
    ∙ on (field 3) _ (to_bits 3 n ++ w₂) w₂ xs n end (field_to_bits 3 n w₂ ln)
    (on (field 32) _ w₂ w₁ xs S.budget end (field_to_bits 32 S.budget w₁ h.budget)
    (on (field 64) _ w₁ v₉ xs s.rewrites end (field_to_bits 64 s.rewrites v₉ h.rewrites)
    (on (field 64) _ v₉ v₈ xs S.parked.entries end (field_to_bits 64 S.parked.entries v₈ h.entries)
    (on (field 64) _ v₈ v₇ xs s.granted end (field_to_bits 64 s.granted v₇ h.granted)
    (on (field 64) _ v₇ v₆ xs s.kept end (field_to_bits 64 s.kept v₆ h.kept)
    (on (field 10) _ v₆ v₅ xs m end (field_to_bits 10 m v₅ lm)
    (on (repeat (suc m) (field 8)) _ v₅ v₄ xs s.symbols end r₁
    (on (repeat (suc m) read_mark) _ v₄ v₃ xs s.marks end r₂
    (on (repeat (suc n) read_unit) _ v₃ v₂ xs s.units end r₃
    (on (field 10) _ v₂ v₁ xs (length s.placed) end (field_to_bits 10 (length s.placed) v₁ h.few_placed)
    (on (repeat (length s.placed) (field 3)) _ v₁ xs xs s.placed end r₄ refl)))))))))))
    ∙ ap (λ (z : Saved). return z xs) is

-- EVERY FIELD IS WIDE ENOUGH

all_in : {A : Type 0} (P : A → Type 0) (as' : List A) → ((a : A) → In a as' → P a) → All P as'
all_in P [] h = tt
all_in P (a ∷ as') h = (h a (inl refl), all_in P as' (λ b m. h b (inr m)))

all_weaker : {A : Type 0} (P Q : A → Type 0) (as' : List A) → ((a : A) → P a → Q a) → All P as' → All Q as'
all_weaker P Q [] f h = tt
all_weaker P Q (a ∷ as') f h = (f a h.0, all_weaker P Q as' f h.1)

all_units : (P : FlatUnit → Type 0) (us : List FlatUnit) → ((v : ℕ) → v < length us → P (unit us v)) → All P us
all_units P [] h = tt
all_units P (x ∷ us) h = (h 0 (omega arith), all_units P us (λ v l. h (suc v) (omega (arith, l))))

idle_most : (us : List FlatUnit) → idle_count us ≤ length us
unfolding idle_count
idle_most [] = omega arith
idle_most (x ∷ us) =
    elim (eqb_cases x.rank 0) [
      | inl p ↦ rw (p.0, idle_count) (omega (arith, idle_most us))
      | inr p ↦ rw (p.0, idle_count) (omega (arith, idle_most us))
    ]

-- one that is not idle is not counted
idle_fewer : (us : List FlatUnit) (v : ℕ) → v < length us → (unit us v).rank ≡ 0 → suc (idle_count us) ≤ length us
unfolding idle_count
idle_fewer [] v l e = absurd (omega (arith, l))
idle_fewer (x ∷ us) zero l e =
    elim (eqb_cases x.rank 0) [
      | inl p ↦ rw (p.0, idle_count) (omega (arith, idle_most us))
      | inr p ↦ absurd (p.1 e)
    ]
idle_fewer (x ∷ us) (suc v) l e =
    let k = idle_fewer us v (omega (arith, l)) e in
    elim (eqb_cases x.rank 0) [
      | inl p ↦ rw (p.0, idle_count) (omega (arith, k))
      | inr p ↦ rw (p.0, idle_count) (omega (arith, k))
    ]

abbrev pub limits_of : Saved → Limits
limits_of S = record { budget = S.budget; symbols = some 1024 }

pub point_fits : (B : Book) → GoodBook B → (S : Saved) → PointRules B (limits_of S) S.parked.state → S.budget < 2 ^ 32 → S.parked.entries < 2 ^ 64 →
    S.parked.state.granted < 2 ^ 64 → S.parked.state.kept < 2 ^ 64 → Fits (arity B) S
point_fits B g S h lb le lg lk = record {
  some_unit = m.some_unit;
  few_units = h.few_units;
  budget = lb;
  rewrites = (let a = m.within in omega (arith, a, lb));
  entries = le;
  granted = lg;
  kept = lk;
  some_symbol = (let a = spells_some (arity B) s.symbols 0 m.complete in omega (arith, a));
  few_symbols = few;
  operators = all_weaker (λ o. o < length B.operators) (λ o. o < 2 ^ 8) s.symbols (λ o l. (let a = g.few_operators in omega (arith, a, l))) h.known;
  sizes = m.sizes;
  marks = m.marks;
  units = all_units UnitFits s.units (λ v l. unit_fits v l);
  few_placed = (let a = placed_few B sound settled L s m in let b = few in omega (arith, a, b));
  placed = all_weaker (λ v. v < length s.units) (λ v. v < 2 ^ 3) s.placed (λ v l. (let a = h.few_units in omega (arith, a, l))) (tried B L s m).all_units;
}
  where
    s : FlatState
    s = S.parked.state

    L : Limits
    L = limits_of S

    m : Meets B (limits_of S) S.parked.state
    m = h.meets

    sound : Sound B
    sound = good_book_sound B g

    settled : Settled B
    settled = good_settled B g

    r : Rules B (limits_of S) S.parked.state
    r = meets_rules B (good_book_sound B g) (good_settled B g) (limits_of S) S.parked.state h.meets

    few : length S.parked.state.symbols ≤ 2 ^ 10
    few =
        elim (ltb_cases 1024 (length S.parked.state.symbols)) [
          | inl p ↦ absurd (true≢false (sym p.0 ∙ h.meets.short))
          | inr p ↦ (let a = p.1 in omega (arith, a))
        ]

    high : (v : ℕ) → length (stack S.parked.state v) ≤ 1026
    high v = let a = r.heights v in let b = few in omega (arith, a, b)

    waits : suc (idle_count S.parked.state.units) ≤ length S.parked.state.units
    waits =
        let (v, l, e) = meets_acts B (good_book_sound B g) (good_settled B g) (limits_of S) S.parked.state h.meets in
        idle_fewer S.parked.state.units v l e

    frame_fits : (v : ℕ) (f : Frame) → In f (stack S.parked.state v) → FrameFits f
    frame_fits v (Frame.job a k c) i =
        let n = numbers B g (limits_of S) S.parked.state r in
        let x = r.offsets v a k c i in
        let y = n.next_most v a k c i in
        let z = n.count_most v a k c i in
        let w = few in
        (omega (arith, x, w), omega (arith, y), omega (arith, z))
    frame_fits v (Frame.exit w j) i =
        let x = exit_unit r v w j i in
        let y = (r.exits v w j i).1 in
        let z = high w in
        let e = h.few_units in
        (omega (arith, x, e), omega (arith, y, z))
    frame_fits v Frame.sleep i = tt
    frame_fits v Frame.bingo i = tt

    unit_fits : (v : ℕ) → v < length S.parked.state.units → UnitFits (unit S.parked.state.units v)
    unit_fits v l = record {
      rank = (let a = h.meets.ranked v l in let b = waits in let c = h.few_units in omega (arith, a, b, c));
      height = high v;
      frames = all_in FrameFits (unit S.parked.state.units v).stack (frame_fits v);
    }

-- A POINT THAT A RUN SAVED IS READ BACK

-- counts that 64 bits hold
pub record Counted (P : Parked) : Type 0 where
  pub entries : P.entries ≤ highest
  pub granted : P.state.granted ≤ highest
  pub kept : P.state.kept ≤ highest

module _ (B : Book) (L : Limits) where
  part_counted : (us : List ℕ) (P Q : Parked) → part B L us P ≡ some Q → Counted Q
  unfolding part
  part_counted us P Q e = go (flat_parked B L us P.state) e
    where
      go : (x : Option FlatState) → again (P.entries + length us) x ≡ some Q → Counted Q
      go none e = unfold again in absurd (none-ne-some _ e)
      go (some s) e =
          let eq : record { entries = kept_count (P.entries + length us); state = kept_state s } ≡ Q = unfold again in some-injective _ _ e in
          subst Counted eq (record { entries = kept_most (P.entries + length us); granted = kept_most s.granted; kept = kept_most s.kept })

  pub parts_counted : (uss : List (List ℕ)) (P Q : Parked) → Counted P → parts B L uss P ≡ some Q → Counted Q
  unfolding parts
  parts_counted [] P Q c e = subst Counted (some-injective _ _ e) c
  parts_counted (us ∷ uss) P Q c e = go (part B L us P) refl e (parts_counted uss)
    where
      go : (x : Option Parked) → part B L us P ≡ x → from (parts B L uss) x ≡ some Q →
          ((P₁ Q₁ : Parked) → Counted P₁ → parts B L uss P₁ ≡ some Q₁ → Counted Q₁) → Counted Q
      go none q e h = unfold from in absurd (none-ne-some _ e)
      go (some R) q e h = h R Q (part_counted us P R q) (unfold from in e)

-- of every book and line that are read, after any number of parts: what was written is read back, and the last part goes on from it
pub saved_back : (bytes line : List ℕ) (A : AnyBook) (d : ℕ) (t : Term) → read_any bytes ≡ accepted A → read_line (on_day d A) line ≡ accepted t →
    (budget units : ℕ) → budget < 2 ^ 32 → units ≤ 8 → (uss : List (List ℕ)) (Q : Parked) (xs : List ℕ) →
    let B = on_day d A in let L : Limits = record { budget = budget; symbols = some symbol_limit } in let S : Saved = record { budget = budget; parked = Q } in
    parts B L uss (record { entries = 0; state = flat_start (arity B) units line }) ≡ some Q → read_saved (arity B) (write_saved S ++ xs) ≡ return S xs
saved_back bytes line A d t eb el budget units lb few uss Q xs e =
    let B : Book = on_day d A in
    let L : Limits = record { budget = budget; symbols = some symbol_limit } in
    let S : Saved = record { budget = budget; parked = Q } in
    let start : Counted (record { entries = 0; state = flat_start (arity B) units line }) =
    unfold flat_start in record { entries = omega arith; granted = omega arith; kept = omega arith } in
    let c = parts_counted B L uss (record { entries = 0; state = flat_start (arity B) units line }) Q start e in
    let h = saved_point bytes line A d t eb el budget units few uss Q e in
    saved_read (arity B) S xs
    (point_fits B (day_good bytes A eb d) S h lb (let a = c.entries in omega (arith, a)) (let a = c.granted in omega (arith, a)) (let a = c.kept in omega (arith, a)))

-- HOW LONG A POINT IS

concat_most : {A : Type 0} (P : A → Type 0) (f : A → List ℕ) (k : ℕ) → ((a : A) → P a → length (f a) ≤ k) → (as' : List A) → All P as' → length (concat f as') ≤ k * length as'
unfolding concat
concat_most P f k h [] m = omega arith
concat_most P f k h (a ∷ as') m =
    let x = length-append (f a) (concat f as') in
    let y = concat_most P f k h as' m.1 in
    let z = h a m.0 in
    let e = mul-suc k (length as') in
    omega (arith, x, y, z, e)

frame_short : (f : Frame) → length (write_frame f) ≤ 19
unfolding write_frame to_bits
frame_short (Frame.job a k c) = omega arith
frame_short (Frame.exit w i) = omega arith
frame_short Frame.sleep = omega arith
frame_short Frame.bingo = omega arith

mark_short : (b : Bool) → length (write_mark b) ≤ 1
unfolding write_mark to_bits
mark_short false = omega arith
mark_short true = omega arith

unit_short : (x : FlatUnit) → UnitFits x → length (write_unit x) ≤ 19508
unfolding write_unit
unit_short x h =
    let fs : List ℕ = concat write_frame x.stack in
    let a = length-append (to_bits 3 x.rank) (to_bits 11 (length x.stack) ++ fs) in
    let b = length-append (to_bits 11 (length x.stack)) fs in
    let c = length_to_bits 3 x.rank in
    let d = length_to_bits 11 (length x.stack) in
    let e = concat_most FrameFits write_frame 19 (λ f _. frame_short f) x.stack h.frames in
    let k = h.height in
    omega (arith, a, b, c, d, e, k)

bits_short : (n v : ℕ) → length (to_bits n v) ≤ n
bits_short n v = let a = length_to_bits n v in omega (arith, a)

both_short : (xs ys : List ℕ) (m n : ℕ) → length xs ≤ m → length ys ≤ n → length (xs ++ ys) ≤ m + n
both_short xs ys m n a b = let c = length-append xs ys in omega (arith, a, b, c)

bits_then : (n v : ℕ) (ys : List ℕ) (m : ℕ) → length ys ≤ m → length (to_bits n v ++ ys) ≤ n + m
bits_then n v ys m a = both_short (to_bits n v) ys n m (bits_short n v) a

-- at most 21,083 bytes
pub saved_short : (arity : ℕ → ℕ) (S : Saved) → Fits arity S → length (write_saved S) ≤ 168660
unfolding write_saved
saved_short arity S h =
    let s : FlatState = S.parked.state in
    let placed : length (concat (to_bits 3) s.placed) ≤ 3069 =
    let a = concat_most (λ v. v < 2 ^ 3) (to_bits 3) 3 (λ v _. bits_short 3 v) s.placed h.placed in let b = h.few_placed in omega (arith, a, b) in
    let units : length (concat write_unit s.units) ≤ 156064 =
    let a = concat_most UnitFits write_unit 19508 unit_short s.units h.units in let b = h.few_units in omega (arith, a, b) in
    let marks : length (concat write_mark s.marks) ≤ 1024 =
    let a = concat_most (λ b. Unit {0}) write_mark 1 (λ b _. mark_short b) s.marks (all_marks s.marks) in let b = h.marks in let c = h.few_symbols in omega (arith, a, b, c) in
    let symbols : length (concat (to_bits 8) s.symbols) ≤ 8192 =
    let a = concat_most (λ o. o < 2 ^ 8) (to_bits 8) 8 (λ o _. bits_short 8 o) s.symbols h.operators in let b = h.few_symbols in omega (arith, a, b) in
    let v₁ : List ℕ = concat (to_bits 3) s.placed in
    let v₂ : List ℕ = to_bits 10 (length s.placed) ++ v₁ in
    let v₃ : List ℕ = concat write_unit s.units ++ v₂ in
    let v₄ : List ℕ = concat write_mark s.marks ++ v₃ in
    let v₅ : List ℕ = concat (to_bits 8) s.symbols ++ v₄ in
    let v₆ : List ℕ = to_bits 10 (pred (length s.symbols)) ++ v₅ in
    let v₇ : List ℕ = to_bits 64 s.kept ++ v₆ in
    let v₈ : List ℕ = to_bits 64 s.granted ++ v₇ in
    let v₉ : List ℕ = to_bits 64 S.parked.entries ++ v₈ in
    let w₁ : List ℕ = to_bits 64 s.rewrites ++ v₉ in
    let w₂ : List ℕ = to_bits 32 S.budget ++ w₁ in
    let many : length v₄ ≤ 160167 =
    both_short (concat write_mark s.marks) v₃ 1024 159143 marks
    (both_short (concat write_unit s.units) v₂ 156064 3079 units (bits_then 10 (length s.placed) v₁ 3069 placed)) in
    bits_then 3 (pred (length s.units)) w₂ 168657 (bits_then 32 S.budget w₁ 168625 (bits_then 64 s.rewrites v₉ 168561
    (bits_then 64 S.parked.entries v₈ 168497 (bits_then 64 s.granted v₇ 168433 (bits_then 64 s.kept v₆ 168369
    (bits_then 10 (pred (length s.symbols)) v₅ 168359 (both_short (concat (to_bits 8) s.symbols) v₄ 8192 160167 symbols many)))))))
