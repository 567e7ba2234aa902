-- A slot's point, by what stands behind its name: the bytes that are lent, what is read of them, and that the run which is opened is the point's. Assumes nothing.
use mathlib.Core.Bool.{Bool, true, false}
use mathlib.Core.List.{List}
use mathlib.Core.Option.{some}
use mathlib.Core.Logic.{inl, inr}
use mathlib.Core.Path.{◌≡◌, refl, sym, ap, ap₂, ◌∙◌, subst, subst₂}
use Prim.Native.Nat.{ℕ, ◌+◌, ◌*◌, ◌-◌, ◌≤◌}
use native.Mathlib.Omega.{arith}
use lib.Dec.{leb}
use lib.ListN.{length, get_or, take, drop, length-drop}
use lib.Seq.{take-add, drop_at, drop-drop, length-take-le}
use Rattle.paper.specs.Result.{Result, refused, accepted, Read, Reader, return, refuse, ◌>>=◌}
use Rattle.paper.specs.Reader.{all_zero}
use Rattle.paper.specs.Dated.{AnyBook, on_day}
use Rattle.paper.specs.Page.{read_bytes, read_number, all_below}
use Rattle.paper.proofs.BookBytes.{longest_book}
use Rattle.paper.proofs.Readers.{accepted_injective, refused_accepted, bind_accepted, bind_return}
use Rattle.paper.proofs.Tests.{eqb_cases}
use Rattle.flat.specs.Form.{Saved}
use Rattle.flat.specs.Tested.{and}
use Rattle.flat.specs.Meets.{PointRules}
use Rattle.tables.specs.Tables.{any_book}
use Rattle.units.proofs.Units.{length_units}
use Rattle.engine.specs.Promises.{fault}
use Rattle.point.specs.declared.Numbers.{Numbers}
use Rattle.point.specs.Saved.{Arrays, saved}
use Rattle.parking.specs.Form.{name_length, Point, limits, read_fields, only_if, read_point, Slot, slot_of, read_slot}
use Rattle.parking.specs.Points.{slot, read_slots, point_of}
use Rattle.parking.proofs.Form.{Held, read_held}
use Rattle.parking.proofs.Slots.{find_at}
use Rattle.parking.proofs.Resuming.{found_accepted}
use Rattle.parking.proofs.Checks as K
use Rattle.names.proofs.Reading.{read_behind}
use Rattle.names.proofs.Told.{slot_long}
use Rattle.opening.specs.Promises.{Part, read_part, book_in, day_of, OpenedRun, OpenedAs}
use Rattle.opening.specs.declared.Opened.{Opened}
use Rattle.checking.specs.Promises.{Inside, Holds}
use Rattle.points.specs.Promises.{point, CanSave}
use Rattle.resumption.specs.Promises.{part_in, CountsUnits, Copied, LoadedRun, LoadedAs, PointIn, Asked}
use Rattle.resumption.specs.declared.Loaded.{Loaded}
use Rattle.std.specs.Prelude.{Option, Some, None}

-- BYTES

-- the part of the buffer that is lent
abbrev pub lent : ℕ → List ℕ → List ℕ
lent k points = take (k * 65536 + 17 + 65519 - (k * 65536 + 17)) (drop (k * 65536 + 17) points)

module _ (points : List ℕ) (k : ℕ) (h : Inside points k) where
  pub lent_is : lent k points ≡ part_in k points
  unfolding slot
  lent_is =
      let xs : List ℕ = drop (k * 65536) points in
      let n : k * 65536 + 17 + 65519 - (k * 65536 + 17) ≡ 65519 = omega arith in
      let a = length-drop (k * 65536) points in
      let long : length (take 17 xs) ≡ 17 = length-take-le 17 xs (omega (arith, a, h.slot, h.long)) in
      ap (λ (i : ℕ). take i (drop (k * 65536 + 17) points)) n
      ∙ ap (take 65519) (sym (drop-drop 17 (k * 65536) points))
      ∙ sym (drop_at (take 17 xs) (take 65519 (drop 17 xs)) 17 long)
      ∙ ap (drop 17) (sym (take-add 17 65519 xs))

  pub part_long : length (part_in k points) ≡ 65519
  part_long =
      let a = length-drop 17 (slot k points) in
      let b = slot_long points (record { long = h.long }) k h.slot in
      omega (arith, a, b)

  pub lent_long : length (lent k points) ≡ 65519
  lent_long = ap length lent_is ∙ part_long

-- A PART THAT IS READ

-- as `read_part` goes, step by step
abbrev with_saved : List ℕ → ℕ → Saved → Reader Part
with_saved book day S = return (record { book = book; day = day; saved = S })

abbrev with_book : ℕ → List ℕ → Reader Part
with_book day book = read_fields book day >>= with_saved book day

abbrev with_day : ℕ → ℕ → Reader Part
with_day m day = read_bytes m >>= with_book day

abbrev with_length : ℕ → Reader Part
with_length m = read_number 2 >>= with_day m

kept_value : (b : Bool) (a : Point) (xs : List ℕ) (r : Read Point) → only_if b a xs ≡ accepted r → a ≡ r.value
unfolding only_if return refuse
kept_value true a xs r e = ap (λ (z : Read Point). z.value) (accepted_injective e)
kept_value false a xs r e = absurd (refused_accepted e)

module _ (bytes : List ℕ) (P : Point) where
  read_accepted : read_slot bytes ≡ Slot.holds P → (r : Read Point) × (read_point bytes ≡ accepted r) × (r.value ≡ P)
  unfolding read_slot
  read_accepted e = elim (eqb_cases (get_or bytes 0 0) 0) [
    | inl p ↦ absurd (free_holds (rw (p.0, read_slot) at e))
    | inr p ↦ go (read_point bytes) refl (rw (p.0, read_slot) at e)
  ]
    where
      free_holds : Slot.free ≡ Slot.holds P → ⊥
      free_holds e = let z : ◌≡◌ {A = ℕ} 0 1 = cc in omega (arith, z)

      go : (x : Result (Read Point)) → read_point bytes ≡ x → slot_of x ≡ Slot.holds P → (r : Read Point) × (read_point bytes ≡ accepted r) × (r.value ≡ P)
      go (refused n) q e = unfold slot_of in absurd (let z : ◌≡◌ {A = ℕ} 0 1 = cc in omega (arith, z))
      go (accepted r) q e = let v : r.value ≡ P = unfold slot_of in cc in (r, q, v)

  -- what stands behind the name is read as the rest of the point
  pub record Behind : Type 0 where
    pub left : List ℕ
    pub is : read_part (drop 17 bytes) ≡ return (record { book = P.book; day = P.day; saved = P.saved }) left

  pub behind : 17 ≤ length bytes → read_slot bytes ≡ Slot.holds P → Behind
  unfolding read_part return
  behind long e =
      let (r, q, v) = read_accepted e in
      let n : ℕ = get_or bytes 0 0 in
      let bs : List ℕ = take name_length (drop 1 bytes) in
      let (a₁, g₁, q₁) = bind_accepted (read_number 2) _ (drop 17 bytes) r (sym (read_behind bytes long) ∙ q) in
      let (a₂, g₂, q₂) = bind_accepted (read_number 2) _ a₁.left r q₁ in
      let (a₃, g₃, q₃) = bind_accepted (read_bytes a₁.value) _ a₂.left r q₂ in
      let (a₄, g₄, q₄) = bind_accepted (read_fields a₃.value a₂.value) _ a₃.left r q₃ in
      let w : record { name = take n bs; book = a₃.value; day = a₂.value; saved = a₄.value } ≡ P =
      kept_value (and (leb n name_length) (all_zero (drop n bs))) (record { name = take n bs; book = a₃.value; day = a₂.value; saved = a₄.value }) a₄.left r q₄ ∙ v in
      record {
        left = a₄.left;
        is =
            bind_return (read_number 2) with_length (drop 17 bytes) a₁.left a₁.value g₁
            ∙ bind_return (read_number 2) (with_day a₁.value) a₁.left a₂.left a₂.value g₂
            ∙ bind_return (read_bytes a₁.value) (with_book a₂.value) a₂.left a₃.left a₃.value g₃
            ∙ bind_return (read_fields a₃.value a₂.value) (with_saved a₃.value a₂.value) a₃.left a₄.left a₄.value g₄
            ∙ ap (λ (z : Point). return (record { book = z.book; day = z.day; saved = z.saved }) a₄.left) w;
      }

-- UNITS

module _ {part operators rules : List ℕ} {a : Arrays} {r : Option Opened} (o : OpenedAs part operators rules a r) where
  pub counts_run : {whole : List ℕ} → part ≡ whole → {z : Opened} → r ≡ Some z → CountsUnits whole (Some z.numbers.units)
  unfolding return
  counts_run same {z} e =
      let h : OpenedRun part operators rules a z.numbers z.book = rw e at o.is in
      subst (λ (xs : List ℕ). CountsUnits xs (Some z.numbers.units)) same (record {
        is = λ y q.
            let n : z.numbers.units ≡ length y.value.saved.parked.state.units =
            sym (length_units a.store.work a.store.cells 0 z.numbers.units)
            ∙ ap (λ (w : Read Part). length w.value.saved.parked.state.units) (accepted_injective (sym h.is ∙ q)) in
            (ap Some n, omega (arith, n, h.standing.some_units));
      })

  pub counts_none : {whole : List ℕ} → part ≡ whole → r ≡ None → CountsUnits whole None
  counts_none same e =
      let f : (y : Read Part) → read_part part ≡ accepted y → ⊥ = rw e at o.is in
      subst (λ (xs : List ℕ). CountsUnits xs None) same (record { is = λ y q. absurd (f y q) })

  -- LOADED
  pub loaded : {z : Opened} (day : ℕ) {book : List ℕ} → r ≡ Some z → Copied (take (4 + z.book - 4) (drop 4 part)) book → day ≡ day_of part →
      LoadedAs part book operators rules a (Some (record { numbers = z.numbers; book = z.book; day = day }))
  loaded {z} day {book} e c d =
      let m : ℕ = z.book in
      let h : OpenedRun part operators rules a z.numbers m = rw e at o.is in
      let n : 4 + m - 4 ≡ m = omega arith in
      let f : Copied (book_in part m) book = subst (λ (i : ℕ). Copied (take i (drop 4 part)) book) n c in
      let long : length (book_in part m) ≡ m = (let b = length-drop 4 part in length-take-le m (drop 4 part) (omega (arith, b, h.inside))) in
      let s = longest_book (book_in part m) (any_book (book_in part m)) h.tables.read in
      record {
        is = record {
          opened = h;
          book_long = f.long;
          short = omega (arith, long, s);
          book_is = ap (λ (i : ℕ). take i book) (sym long) ∙ f.front;
          day_is = d;
        };
      }

  pub loaded_none : {book : List ℕ} → r ≡ None → LoadedAs part book operators rules a None
  loaded_none e = record { is = rw e at o.is }

-- how long the book is that is copied
pub short_book : {part operators rules : List ℕ} {a : Arrays} {r : Option Opened} → OpenedAs part operators rules a r → {z : Opened} → r ≡ Some z →
    (4 + z.book ≤ length part) × (length (take (4 + z.book - 4) (drop 4 part)) ≤ 41473)
short_book {part} {operators} {rules} {a} o {z} e =
    let m : ℕ = z.book in
    let h : OpenedRun part operators rules a z.numbers m = rw e at o.is in
    let n : 4 + m - 4 ≡ m = omega arith in
    let s = longest_book (book_in part m) (any_book (book_in part m)) h.tables.read in
    (h.inside, subst (λ (i : ℕ). length (take i (drop 4 part)) ≤ 41473) (sym n) s)

-- of a slot
pub of_slot : (points : List ℕ) (k : ℕ) → Inside points k → {book operators rules : List ℕ} {a : Arrays} {r : Option Loaded} → LoadedAs (lent k points) book operators rules a r →
    LoadedAs (part_in k points) book operators rules a r
of_slot points k h {book} {operators} {rules} {a} {r} o = subst (λ (xs : List ℕ). LoadedAs xs book operators rules a r) (lent_is points k h) o

pub loaded_run : {part book operators rules : List ℕ} {a : Arrays} {r : Option Loaded} → LoadedAs part book operators rules a r → {z : Loaded} → r ≡ Some z →
    LoadedRun part book operators rules a z.numbers z.book z.day
loaded_run o e = rw e at o.is

-- THE POINT of a slot that bears the name

module _ {name points : List ℕ} {k : ℕ} (h : Holds name points k) where
  abbrev P : Point
  P = h.point

  abbrev part : List ℕ
  part = part_in k points

  behind_it : Behind (slot k points) P
  behind_it =
      let b = slot_long points (record { long = h.inside.long }) k h.inside.slot in
      behind (slot k points) P (omega (arith, b)) h.read

  pub held : Held P
  held = read_held (slot k points) P h.read

  pub ready : K.Ready name points
  ready = (found_accepted name points (record { at = k; point = P }) h.found).0

  pub there : point_of name points ≡ some (record { at = k; point = P })
  there = (found_accepted name points (record { at = k; point = P }) h.found).1

  bears : name ≡ P.name
  bears = (find_at name (read_slots points) (record { at = k; point = P }) there).1

  module _ {r : Option ℕ} (c : CountsUnits part r) where
    pub units_are : {u : ℕ} → r ≡ Some u → (u ≡ length P.saved.parked.state.units) × (1 ≤ u)
    unfolding return
    units_are {u} e =
        let (s, l) = c.is _ behind_it.is in
        let n : u ≡ length P.saved.parked.state.units = cc in
        (n, omega (arith, n, l))

    pub counted : r ≡ None → ⊥
    unfolding return
    counted e = let s = (c.is _ behind_it.is).0 in let z : ◌≡◌ {A = ℕ} 0 1 = cc in omega arith

  pub not_broken : {book operators rules : List ℕ} {a : Arrays} {r : Option Loaded} → LoadedAs part book operators rules a r → r ≡ None → ⊥
  unfolding return
  not_broken o e = (rw e at o.is) _ behind_it.is

  module _ {operators rules : List ℕ} {a : Arrays} {x : Numbers} {m : ℕ} (o : OpenedRun part operators rules a x m) where
    pub point_is : point name (book_in part m) (day_of part) (saved x a) ≡ P
    unfolding return
    point_is = ap₂ (λ (n : List ℕ) (z : Read Part). point n z.value.book z.value.day z.value.saved) bears (accepted_injective (sym o.is ∙ behind_it.is))

    kept : Held (point name (book_in part m) (day_of part) (saved x a))
    kept = subst Held (sym point_is) held

    opened_in : PointIn (book_in part m) operators rules (day_of part) x a
    opened_in =
        let given_is : kept.given ≡ any_book (book_in part m) = accepted_injective (sym kept.book_read ∙ o.tables.read) in
        record {
          tables = o.tables;
          day_is = o.day_is;
          standing = o.standing;
          keeps = subst₂ (λ (d : ℕ) (A : AnyBook). PointRules (on_day d A) (limits x.budget) (saved x a).parked.state) (sym o.day_is) given_is kept.rules;
          small = kept.budget;
        }

    units_many : length P.saved.parked.state.units ≡ x.units
    units_many = ap (λ (z : Point). length z.saved.parked.state.units) (sym point_is) ∙ length_units a.store.work a.store.cells 0 x.units

  -- as it is lent: its book in front of an array
  module _ {book operators rules : List ℕ} {a : Arrays} {x : Numbers} {m day : ℕ} (o : LoadedRun part book operators rules a x m day) where
    abbrev lent_book : List ℕ
    lent_book = take m book

    pub loaded_point : point name lent_book day (saved x a) ≡ P
    loaded_point = ap₂ (λ (b : List ℕ) (d : ℕ). point name b d (saved x a)) o.book_is o.day_is ∙ point_is o.opened

    pub point_in : PointIn lent_book operators rules day x a
    point_in = subst₂ (λ (b : List ℕ) (d : ℕ). PointIn b operators rules d x a) (sym o.book_is) (sym o.day_is) (opened_in o.opened)

    pub can_save : CanSave k points name lent_book
    can_save = record {
      slot = h.inside;
      named = ready.short_name;
      short =
          (let s = longest_book (book_in part m) (any_book (book_in part m)) o.opened.tables.read in subst (λ (b : List ℕ). length b ≤ 41473) (sym o.book_is) s);
    }

    pub asked_with : {schedule work w net output : List ℕ} → length w ≡ length work → Asked (length P.saved.parked.state.units) schedule work net output → Asked x.units schedule w net output
    asked_with {schedule} {work} {w} {net} {output} e q = record {
      faultless = ap (λ (i : ℕ). fault 1 i (length net) (length output)) e ∙ q.faultless;
      named = ap (λ (i : ℕ). all_below i schedule) (sym (units_many o.opened)) ∙ q.named;
    }
