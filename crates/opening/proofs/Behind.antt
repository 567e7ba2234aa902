-- The run behind the book: what is read there, by what was loaded and how it was tried. Assumes nothing.
use mathlib.Core.Bool.{Bool, true, false}
use mathlib.Core.List.{List, []}
use mathlib.Core.Path.{◌≡◌, refl, sym, ap, ◌∙◌, subst}
use Prim.Native.Nat.{ℕ, ◌+◌, ◌*◌, ◌%◌, ◌≤◌}
use native.Mathlib.Omega.{arith}
use lib.ListN.{length, take, drop, take-append-drop}
use lib.Seq.{drop_at, length-take-le}
use Rattle.paper.specs.Result.{accepted, Read, return, refuse, then}
use Rattle.paper.specs.Bits.{bits_of}
use Rattle.paper.specs.Book.{Book, arity}
use Rattle.paper.specs.Reader.{all_zero}
use Rattle.paper.proofs.Bytes.{length_bits_of, bits_of_append}
use Rattle.paper.proofs.Tests.{either}
use mathlib.Core.Logic.{inl, inr}
use Rattle.paper.proofs.Readers.{refused_accepted, then_accepted}
use Rattle.flat.specs.Form.{Saved, read_saved}
use Rattle.flat.specs.Tested.{and, point_tested}
use Rattle.flat.proofs.Tested.{point_tested_rules}
use Rattle.tables.specs.Layout.{arity_in}
use Rattle.parking.specs.Form.{limits, only_if, read_run}
use Rattle.point.specs.declared.Numbers.{Numbers}
use Rattle.point.specs.Saved.{Arrays, state, saved, Standing}
use Rattle.point_reader.specs.Loading.{LoadedAt}
use Rattle.point_reader.proofs.Loading.{none_there, saved_there}
use Rattle.point_rules.specs.Promises as P
use Rattle.opening.specs.Promises.{zero_to_byte, OfBook, RunIs}
use Rattle.opening.specs.declared.Opened.{Opened}
use Rattle.std.specs.Bool.{then_some}
use Rattle.std.specs.Prelude.{Option, Some, None}

-- the bits of the bytes behind k of them
bits_behind : (k : ℕ) (bytes : List ℕ) → k ≤ length bytes → drop (k * 8) (bits_of bytes) ≡ bits_of (drop k bytes)
bits_behind k bytes h =
    let e : length (bits_of (take k bytes)) ≡ k * 8 =
    (let a = length_bits_of (take k bytes) in let b = length-take-le k bytes h in omega (arith, a, b)) in
    ap (drop (k * 8)) (ap bits_of (sym (take-append-drop k bytes)) ∙ bits_of_append (take k bytes) (drop k bytes))
    ∙ drop_at (bits_of (take k bytes)) (bits_of (drop k bytes)) (k * 8) e

-- THE READER OF A RUN

-- what is accepted is a run that was read, and keeps the rules
kept_true : {A : Type 0} (p t : Bool) (a : A) (r : Read A) → only_if (and p t) a [] ≡ accepted r → t ≡ true
unfolding only_if and refuse
kept_true true true a r e = refl
kept_true true false a r e = absurd (refused_accepted e)
kept_true false t a r e = absurd (refused_accepted e)

never : {A : Type 0} (p t : Bool) (a : A) (r : Read A) → and p t ≡ false → only_if (and p t) a [] ≡ accepted r → ⊥
unfolding only_if refuse
never p t a r e f = refused_accepted (rw e at f)

module _ (B : Book) (bytes : List ℕ) where
  run_accepted : (r : Read Saved) → read_run B bytes ≡ accepted r →
      (z : Read Saved) × (read_saved (arity B) (bits_of bytes) ≡ accepted z) × (point_tested B (limits z.value.budget) z.value.parked.state ≡ true)
  unfolding read_run
  run_accepted r e =
      let (z, f, g) = then_accepted (read_saved (arity B) (bits_of bytes)) _ r e in
      (z, f, kept_true (all_zero (take (length z.left % 8) z.left)) (point_tested B (limits z.value.budget) z.value.parked.state) z.value r g)

  run_of : (S : Saved) (left : List ℕ) → read_saved (arity B) (bits_of bytes) ≡ return S left →
      read_run B bytes ≡ only_if (and (all_zero (take (length left % 8) left)) (point_tested B (limits S.budget) S.parked.state)) S []
  unfolding read_run return then
  run_of S left e = rw e refl

-- BY A BOOK'S TABLES

module _ {B : Book} {operators : List ℕ} {n : ℕ} (o : OfBook operators n B) {part : List ℕ} (m : ℕ) (h : 4 + m ≤ length part) {a : Arrays} where
  pub none_loaded : LoadedAt (arity_in operators) n part ((4 + m) * 8) a None → RunIs B (drop (4 + m) part) operators m a None
  none_loaded l y e =
      let (z, f, t) = run_accepted B (drop (4 + m) part) y e in
      none_there B o.tables.operators_in o.count o.tables.good l z (ap (read_saved (arity B)) (bits_behind (4 + m) part h) ∙ f)
      ((point_tested_rules B (limits z.value.budget) z.value.parked.state).0 t)

  module _ {x : Numbers} {next : ℕ} (l : LoadedAt (arity_in operators) n part ((4 + m) * 8) a (Some (record { value = x; next = next }))) where
    -- so the rules can be tried
    pub of_point : P.OfBook operators x a B
    of_point = record {
      bytes = o.bytes;
      rules = o.rules;
      tables = o.tables;
      standing = subst (λ (k : ℕ). Standing (arity_in operators) k x a) o.count l.is.1;
    }

    abbrev keeps : Bool
    keeps = point_tested B (limits x.budget) (state x a)

    tried : read_run B (drop (4 + m) part) ≡ only_if (and (zero_to_byte part next) keeps) (saved x a) []
    tried =
        run_of B (drop (4 + m) part) (saved x a) (drop next (bits_of part))
        (ap (read_saved (arity B)) (sym (bits_behind (4 + m) part h)) ∙ (saved_there B o.tables.operators_in o.count l).0)

    module _ {p : Bool} (padded : p ≡ zero_to_byte part next) where
      pub not_padded : p ≡ false → RunIs B (drop (4 + m) part) operators m a None
      not_padded e y f = never (zero_to_byte part next) keeps (saved x a) y (unfold and in rw (sym padded, e) refl) (sym tried ∙ f)

      module _ {t : Bool} (tested : P.Decided operators x a t) (is : p ≡ true) where
        -- what the rules tell
        pub told : (r : Option Opened) → r ≡ then_some t (record { numbers = x; book = m }) → RunIs B (drop (4 + m) part) operators m a r
        told r e = subst (RunIs B (drop (4 + m) part) operators m a) (sym e) (elim (either t) [ inl k ↦ rw k (kept k) | inr k ↦ rw k (not_kept k) ])
          where
            not_kept : t ≡ false → RunIs B (drop (4 + m) part) operators m a None
            not_kept e y f =
                never (zero_to_byte part next) keeps (saved x a) y (unfold and in rw (sym padded, is, sym (tested.is B of_point), e) refl) (sym tried ∙ f)

            kept : t ≡ true → RunIs B (drop (4 + m) part) operators m a (Some (record { numbers = x; book = m }))
            kept e = (tried ∙ unfold and only_if in rw (sym padded, is, sym (tested.is B of_point), e) refl, of_point.standing, refl)
