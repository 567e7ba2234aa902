-- A saved run read in its parts, as `load` answers; and what a caller with a book knows of the answer. Assumes nothing.
use mathlib.Core.Bool.{true≢false}
use mathlib.Core.List.{List, [], ◌∷◌}
use mathlib.Core.Logic.{inl, inr}
use mathlib.Core.Path.{◌≡◌, refl, sym, ap, ◌∙◌, subst}
use Prim.Native.Nat.{ℕ, suc, ◌+◌, ◌^◌, ◌≤◌, ◌<◌}
use native.Mathlib.Omega.{arith}
use lib.ListN.{length}
use Rattle.std.specs.Prelude.{Some, None}
use Rattle.paper.specs.Result.{accepted, Read, Reader, return, ◌>>=◌, repeat}
use Rattle.paper.specs.Sound.{All}
use Rattle.paper.specs.Book.{Book, arity}
use Rattle.paper.specs.WellFormed.{GoodBook}
use Rattle.paper.proofs.Books.{good_book_sound}
use Rattle.paper.proofs.Readers.{accepted_injective, return_accepted, bind_accepted, bind_return}
use Rattle.paper.proofs.Tests.{ltb_cases}
use Rattle.flat.specs.Machine.{FlatUnit, unit}
use Rattle.flat.specs.Sizes.{sizes}
use Rattle.flat.specs.Rules.{stack}
use Rattle.flat.specs.Meets.{PointRules}
use Rattle.flat.specs.Form.{Saved, read_unit, read_saved}
use Rattle.flat.proofs.Form.{limits_of}
use Rattle.flat.proofs.Points.{meets_rules}
use Rattle.flat.proofs.Sizes.{sizes_same}
use Rattle.flat.proofs.Steps.{good_settled}
use Rattle.tables.specs.Layout.{arity_in}
use Rattle.tables.specs.Tables.{Operators}
use Rattle.term.specs.Present.{operators_in}
use Rattle.term.proofs.Sized.{sized_same}
use Rattle.term.proofs.Skipping.{known_arities, spells_book}
use Rattle.units.specs.Stacks.{Store, units_in}
use Rattle.placing.specs.Order.{placed_in}
use Rattle.point.specs.declared.Numbers.{Numbers}
use Rattle.point.specs.Saved.{Arrays, saved, Standing}
use Rattle.side.specs.Promises.{bits_at}
use Rattle.point_reader.specs.Readers.{Headed, headed, read_head, Marked, read_term, read_order, together, read_parts}
use Rattle.point_reader.specs.Loading.{Lacks, Low, Loadable, LoadedAt}
use Rattle.point_reader.specs.Promises.{HeadTaken, OneTerm, marked_in, TermTaken, UnitsTaken, OrderTaken}
use Rattle.point_reader.proofs.Lacking.{first_lacks, first_none, second_lacks}
use Rattle.point_reader.proofs.Numbers.{head_budget}
use Rattle.point_reader.proofs.Parts.{parts_saved}

-- PART AFTER PART

module _ (arity : ℕ → ℕ) where
  abbrev with_order : Headed → Marked → List FlatUnit → Reader Saved
  with_order h t us = read_order >>= (λ vs. return (together arity h t us vs))

  abbrev with_units : Headed → Marked → Reader Saved
  with_units h t = repeat h.numbers.units read_unit >>= with_order h t

  abbrev with_term : Headed → Reader Saved
  with_term h = read_term h.symbols >>= with_units h

  parts_are : (xs : List ℕ) → read_parts arity xs ≡ (read_head >>= with_term) xs
  unfolding read_parts
  parts_are xs = refl

  saved_is : (xs : List ℕ) → read_saved arity xs ≡ (read_head >>= with_term) xs
  saved_is xs = sym (parts_saved arity xs) ∙ parts_are xs

  -- what is read has the parts that were read
  order_behind : (h : Headed) (t : Marked) (us : List FlatUnit) (xs : List ℕ) (r : Read Saved) → with_order h t us xs ≡ accepted r →
      (vs : List ℕ) × (r.value ≡ together arity h t us vs)
  order_behind h t us xs r e =
      let (vs, _, f) = bind_accepted read_order (λ vs. return (together arity h t us vs)) xs r e in
      (vs.value, return_accepted (together arity h t us vs.value) vs.left r (λ z. z.value ≡ together arity h t us vs.value) f refl)

  units_behind : (h : Headed) (t : Marked) (xs : List ℕ) (r : Read Saved) → with_units h t xs ≡ accepted r →
      (us : List FlatUnit) × (vs : List ℕ) × (r.value ≡ together arity h t us vs)
  units_behind h t xs r e =
      let (us, _, f) = bind_accepted (repeat h.numbers.units read_unit) (with_order h t) xs r e in
      let (vs, g) = order_behind h t us.value us.left r f in
      (us.value, vs, g)

  term_behind : (h : Headed) (xs : List ℕ) (r : Read Saved) → with_term h xs ≡ accepted r →
      (t : Marked) × (us : List FlatUnit) × (vs : List ℕ) × (r.value ≡ together arity h t us vs)
  term_behind h xs r e =
      let (t, _, f) = bind_accepted (read_term h.symbols) (with_units h) xs r e in
      let (us, vs, g) = units_behind h t.value t.left r f in
      (t.value, us, vs, g)

module _ {arity : ℕ → ℕ} {n : ℕ} {bytes : List ℕ} {at : ℕ} {a : Arrays} where
  none : Lacks (Loadable arity n) ((read_head >>= with_term arity) (bits_at bytes at)) → LoadedAt arity n bytes at a None
  none l = record { is = λ r e. l r (sym (saved_is arity (bits_at bytes at)) ∙ e) }

  pub no_head : HeadTaken bytes at None → LoadedAt arity n bytes at a None
  no_head h =
      none (first_lacks read_head (with_term arity) (bits_at bytes at) (λ z. z.numbers.rewrites < 2 ^ 32) (Loadable arity n) h.is
      (λ z ys r e q. let (t, us, vs, f) = term_behind arity z ys r e in
      (subst (λ (S : Saved). Loadable arity n S) f q).few_rewrites))

  module _ {x : Numbers} {m p : ℕ} (h : HeadTaken bytes at (Some (record { value = record { numbers = x; symbols = m }; next = p }))) where
    behind_head : Lacks (Loadable arity n) (with_term arity (headed x m) (bits_at bytes p)) → LoadedAt arity n bytes at a None
    behind_head l = none (second_lacks read_head (with_term arity) (bits_at bytes at) (Loadable arity n) (headed x m) (bits_at bytes p) h.is.0 l)

    pub no_term : {symbols : List ℕ} → TermTaken arity n bytes p m symbols None → LoadedAt arity n bytes at a None
    no_term t =
        behind_head (first_lacks (read_term m) (with_units arity (headed x m)) (bits_at bytes p) (OneTerm arity n) (Loadable arity n) t.is
        (λ z ys r e q. let (us, vs, f) = units_behind arity (headed x m) z ys r e in
        let k = subst (λ (S : Saved). Loadable arity n S) f q in
        record { complete = k.complete; known = k.known }))

    module _ {symbols : List ℕ} {q : ℕ} (t : TermTaken arity n bytes p m symbols (Some q)) where
      behind_term : Lacks (Loadable arity n) (with_units arity (headed x m) (marked_in symbols) (bits_at bytes q)) → LoadedAt arity n bytes at a None
      behind_term l =
          behind_head (second_lacks (read_term m) (with_units arity (headed x m)) (bits_at bytes p) (Loadable arity n) (marked_in symbols) (bits_at bytes q) t.is l)

      pub no_units : {s : Store} → UnitsTaken bytes q x.units s None → LoadedAt arity n bytes at a None
      no_units u =
          behind_term (first_lacks (repeat x.units read_unit) (with_order arity (headed x m) (marked_in symbols)) (bits_at bytes q) (All Low) (Loadable arity n)
          u.are (λ z ys r e k. let (vs, f) = order_behind arity (headed x m) (marked_in symbols) z ys r e in
          (subst (λ (S : Saved). Loadable arity n S) f k).low))

      pub no_order : {s : Store} {order : List ℕ} {e : ℕ} → UnitsTaken bytes q x.units s (Some e) → OrderTaken bytes e order None →
          LoadedAt arity n bytes at a None
      no_order {s} {order} {e} u o =
          behind_term (second_lacks (repeat x.units read_unit) (with_order arity (headed x m) (marked_in symbols)) (bits_at bytes q) (Loadable arity n)
          (units_in s x.units) (bits_at bytes e) u.are
          (first_none read_order (λ vs. return (together arity (headed x m) (marked_in symbols) (units_in s x.units) vs)) (bits_at bytes e) (Loadable arity n) o.is))

-- all parts are read
pub all_read : {arity : ℕ → ℕ} {n : ℕ} {bytes : List ℕ} {at : ℕ} {x : Numbers} {m p q e next : ℕ} {symbols order : List ℕ} {s : Store} →
    HeadTaken bytes at (Some (record { value = record { numbers = x; symbols = m }; next = p })) → TermTaken arity n bytes p m symbols (Some q) → UnitsTaken bytes q x.units s (Some e) →
    OrderTaken bytes e order (Some next) → LoadedAt arity n bytes at (record { symbols = symbols; store = s; order = order }) (Some (record { value = x; next = next }))
all_read {arity} {n} {bytes} {at} {x} {m} {p} {q} {e} {next} {symbols} {order} {s} h t u o = record {
  is = (
    saved_is arity (bits_at bytes at)
        ∙ bind_return read_head (with_term arity) (bits_at bytes at) (bits_at bytes p) head h.is.0
        ∙ bind_return (read_term m) (with_units arity head) (bits_at bytes p) (bits_at bytes q) (marked_in symbols) t.is
        ∙ bind_return (repeat x.units read_unit) (with_order arity head (marked_in symbols)) (bits_at bytes q) (bits_at bytes e) (units_in s x.units) u.are
        ∙ bind_return read_order (λ vs. return (together arity head (marked_in symbols) (units_in s x.units) vs)) (bits_at bytes e) (bits_at bytes next)
        (placed_in order) o.is
        ∙ ap (λ (S : Saved). return S (bits_at bytes next)) same,
    record {
      sized = t.sized;
      known = t.known;
      fit = u.fit;
      order_fits = o.fits;
      some_units = h.is.1.some_units;
      few_units = h.is.1.few_units;
    },
  );
}
  where
    head : Headed
    head = headed x m

    same : together arity (headed x m) (marked_in symbols) (units_in s x.units) (placed_in order) ≡ saved x (record { symbols = symbols; store = s; order = order })
    same = rw t.sized.true_sizes refl

-- FOR A CALLER WITH A BOOK

-- all parts of what is read
pub record Taken (arity : ℕ → ℕ) (xs : List ℕ) (r : Read Saved) : Type 0 where
  pub head : Read Headed
  pub term : Read Marked
  pub units : Read (List FlatUnit)
  pub order : Read (List ℕ)
  pub head_is : read_head xs ≡ accepted head
  pub term_is : read_term head.value.symbols head.left ≡ accepted term
  pub units_are : repeat head.value.numbers.units read_unit term.left ≡ accepted units
  pub order_is : read_order units.left ≡ accepted order
  pub is : r ≡ record { value = together arity head.value term.value units.value order.value; left = order.left }

taken : (arity : ℕ → ℕ) (xs : List ℕ) (r : Read Saved) → read_saved arity xs ≡ accepted r → Taken arity xs r
unfolding return
taken arity xs r e =
    let (h, eh, f) = bind_accepted read_head (with_term arity) xs r (sym (saved_is arity xs) ∙ e) in
    let (t, et, g) = bind_accepted (read_term h.value.symbols) (with_units arity h.value) h.left r f in
    let (us, eu, i) = bind_accepted (repeat h.value.numbers.units read_unit) (with_order arity h.value t.value) t.left r g in
    let (vs, ev, j) = bind_accepted read_order (λ vs. return (together arity h.value t.value us.value vs)) us.left r i in
    record { head = h; term = t; units = us; order = vs; head_is = eh; term_is = et; units_are = eu; order_is = ev; is = sym (accepted_injective j) }

-- by other arities that are the same for its symbols
same_read : (f g : ℕ → ℕ) (xs : List ℕ) (r : Read Saved) → read_saved f xs ≡ accepted r →
    All (λ o. f o ≡ g o) r.value.parked.state.symbols → read_saved g xs ≡ accepted r
unfolding return
same_read f g xs r e a =
    let k = taken f xs r e in
    let h = k.head in
    let t = k.term in
    let us = k.units in
    let vs = k.order in
    let b : All (λ o. f o ≡ g o) t.value.symbols = subst (λ (z : Read Saved). All (λ o. f o ≡ g o) z.value.parked.state.symbols) k.is a in
    let z : sizes g t.value.symbols ≡ sizes f t.value.symbols = sym (sizes_same f g t.value.symbols b) in
    saved_is g xs
    ∙ bind_return read_head (with_term g) xs h.left h.value k.head_is
    ∙ bind_return (read_term h.value.symbols) (with_units g h.value) h.left t.left t.value k.term_is
    ∙ bind_return (repeat h.value.numbers.units read_unit) (with_order g h.value t.value) t.left us.left us.value k.units_are
    ∙ bind_return read_order (λ vs. return (together g h.value t.value us.value vs)) us.left vs.left vs.value k.order_is
    ∙ rw z (ap (λ (z : Read Saved). accepted z) (sym k.is))

all_low : (us : List FlatUnit) → ((v : ℕ) → v < length us → Low (unit us v)) → All Low us
all_low [] h = tt
all_low (x ∷ us) h = (h 0 (omega arith), all_low us (λ v l. h (suc v) (omega arith)))

all_turned : (f g : ℕ → ℕ) (xs : List ℕ) → All (λ o. f o ≡ g o) xs → All (λ o. g o ≡ f o) xs
all_turned f g [] a = tt
all_turned f g (x ∷ xs) a = (sym a.0, all_turned f g xs a.1)

module _ (B : Book) {operators : List ℕ} (t : Operators B.operators operators) {n : ℕ} (count : n ≡ length B.operators) where
  known_book : (xs : List ℕ) → All (λ o. o < n) xs → All (λ o. o < length B.operators) xs
  known_book xs a = subst (λ (m : ℕ). All (λ o. o < m) xs) count a

  -- every point that keeps the rules can be loaded
  pub point_loadable : GoodBook B → (S : Saved) → S.budget < 2 ^ 32 → PointRules B (limits_of S) S.parked.state → Loadable (arity_in operators) n S
  point_loadable g S lb h = record {
    complete = spells_book B t 1 S.parked.state.symbols h.known ∙ h.meets.complete;
    known = subst (λ (m : ℕ). All (λ o. o < m) S.parked.state.symbols) (sym count) h.known;
    low = all_low S.parked.state.units (λ v l. let a = heights v in let b = few in omega (arith, a, b));
    few_rewrites = (let a = h.meets.within in omega (arith, a, lb));
  }
    where
      heights : (v : ℕ) → length (stack S.parked.state v) ≤ length S.parked.state.symbols + 2
      heights v = (meets_rules B (good_book_sound B g) (good_settled B g) (limits_of S) S.parked.state h.meets).heights v

      few : length S.parked.state.symbols ≤ 1024
      few =
          elim (ltb_cases 1024 (length S.parked.state.symbols)) [
            | inl p ↦ absurd (true≢false (sym p.0 ∙ h.meets.short))
            | inr p ↦ p.1
          ]

  module _ {bytes : List ℕ} {at : ℕ} {a : Arrays} where
    -- so where none is loaded, none that keeps the rules is there
    pub none_there : GoodBook B → LoadedAt (arity_in operators) n bytes at a None → (r : Read Saved) → read_saved (arity B) (bits_at bytes at) ≡ accepted r →
        PointRules B (limits_of r.value) r.value.parked.state → ⊥
    none_there g l r e h =
        let k = taken (arity B) (bits_at bytes at) r e in
        let b : r.value.budget < 2 ^ 32 =
        subst (λ (z : Read Saved). z.value.budget < 2 ^ 32) (sym k.is) (head_budget bytes at k.head k.head_is) in
        let s = all_turned (arity_in operators) (arity B) r.value.parked.state.symbols (known_arities B t r.value.parked.state.symbols h.known) in
        l.is r (same_read (arity B) (arity_in operators) (bits_at bytes at) r e s) (point_loadable g r.value b h)

    -- and where one is, it is there, and stands by the book's arities
    pub saved_there : {x : Numbers} {next : ℕ} → LoadedAt (arity_in operators) n bytes at a (Some (record { value = x; next = next })) →
        (read_saved (arity B) (bits_at bytes at) ≡ return (saved x a) (bits_at bytes next)) × Standing (arity B) n x a
    unfolding return
    saved_there {x} {next} l =
        let s = l.is.1 in
        let k = known_arities B t (operators_in a.symbols) (known_book (operators_in a.symbols) s.known) in (
          same_read (arity_in operators) (arity B) (bits_at bytes at) (record { value = saved x a; left = bits_at bytes next }) l.is.0 k,
          record {
            sized = sized_same (arity_in operators) (arity B) a.symbols k s.sized;
            known = s.known;
            fit = s.fit;
            order_fits = s.order_fits;
            some_units = s.some_units;
            few_units = s.few_units;
          },
        )
