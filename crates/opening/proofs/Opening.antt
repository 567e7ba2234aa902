-- The part behind the name: its numbers, its book, and the run behind them. Assumes nothing.
use mathlib.Core.List.{List, []}
use mathlib.Core.Path.{◌≡◌, refl, sym, ap, ap₂, ◌∙◌, subst}
use Prim.Native.Nat.{ℕ, ◌+◌, ◌≤◌, ◌<◌}
use native.Mathlib.Omega.{arith}
use borrow.Author.Tests.{eq-eqb, ne_eqb}
use lib.ListN.{length, take, drop, length-drop}
use lib.Seq.{drop-drop, take_all, length-take-le}
use Rattle.paper.specs.Result.{accepted, Read, Reader, return, refuse, then, ◌>>=◌}
use Rattle.paper.specs.Dated.{read_any, on_day}
use Rattle.paper.specs.Page.{number, read_bytes, read_number}
use Rattle.paper.proofs.Readers.{refused_accepted, then_accepted, bind_accepted, bind_return}
use Rattle.flat.specs.Form.{Saved}
use Rattle.stream.proofs.Parts.{number_there}
use Rattle.tables.specs.Tables.{any_book, book_of}
use Rattle.book.specs.Promises.{BookAt}
use Rattle.refusal.specs.declared.Refusal.{Refusal}
use Rattle.std.specs.Prelude.{Result as Answer, Ok, Err}
use Rattle.std.specs.Result.{result_ok}
use Rattle.parking.specs.Form.{read_run, read_fields}
use Rattle.point.specs.Saved.{Arrays, saved}
use Rattle.opening.specs.Promises.{Part, read_part, OfBook, RunOpened, book_in, day_of, OpenedAs}
use Rattle.opening.specs.declared.Opened.{Opened}
use Rattle.std.specs.Prelude.{Option, Some, None}

-- the tables that were read
pub of_book : {bytes operators rules : List ℕ} {d n : ℕ} → BookAt bytes d operators rules (Ok n) → OfBook operators n (book_of bytes rules)
of_book {bytes} {rules = rules} b = record { bytes = bytes; rules = rules; tables = b.is.0.tables; count = b.is.2 }

-- what a book's reader answers, told as an Option
pub book_ok : (r : Answer ℕ Refusal) {n : ℕ} → result_ok r ≡ Some n → r ≡ Ok n
book_ok (Ok m) e = cc
book_ok (Err k) e = cc

pub book_err : (r : Answer ℕ Refusal) → result_ok r ≡ None → (e : Refusal) × (r ≡ Err e)
book_err (Ok m) e = let z : ◌≡◌ {A = ℕ} 0 1 = cc in absurd (omega arith)
book_err (Err k) e = (k, refl)

-- of a book's bytes by their number
pub book_as : (part : List ℕ) (k m : ℕ) {d : ℕ} {operators rules : List ℕ} {r : Answer ℕ Refusal} → k ≡ m → BookAt (book_in part k) d operators rules r →
    BookAt (book_in part m) d operators rules r
book_as part k m {d} {operators} {rules} {r} e b = subst (λ (i : ℕ). BookAt (book_in part i) d operators rules r) e b

-- THE FRONT

module _ (n : ℕ) (xs : List ℕ) where
  bytes_there : n ≤ length xs → read_bytes n xs ≡ return (take n xs) (drop n xs)
  unfolding read_bytes return
  bytes_there h = rw (eq-eqb _ _ (length-take-le n xs h))

  bytes_cut : length xs < n → (r : Read (List ℕ)) → read_bytes n xs ≡ accepted r → ⊥
  unfolding read_bytes refuse
  bytes_cut h r e =
      let short : length (take n xs) ≡ n → ⊥ = λ e. omega (arith, ap length (take_all n xs (omega arith))) in
      refused_accepted (rw (ne_eqb _ _ short) at e)

abbrev with_saved : List ℕ → ℕ → Saved → Part
with_saved book day S = record { book = book; day = day; saved = S }

abbrev with_fields : List ℕ → ℕ → Reader Part
with_fields book day = read_fields book day >>= (λ S. return (with_saved book day S))

abbrev with_book : ℕ → ℕ → Reader Part
with_book m day = read_bytes m >>= (λ book. with_fields book day)

module _ (part : List ℕ) (h : 4 ≤ length part) (m : ℕ) (e : m ≡ number 0 (take 2 part)) where
  front : read_part part ≡ with_book m (day_of part) (drop 4 part)
  unfolding read_part return
  front =
      bind_return (read_number 2) _ part (drop 2 part) (number 0 (take 2 part)) (number_there 2 part (omega (arith, h)))
      ∙ bind_return (read_number 2) _ (drop 2 part) (drop 2 (drop 2 part)) (day_of part) (number_there 2 (drop 2 part) (omega (arith, h, length-drop 2 part)))
      ∙ ap₂ (λ (k : ℕ) (xs : List ℕ). with_book k (day_of part) xs) (sym e) (drop-drop 2 2 part)

  -- the bytes end before the book does
  pub cut_short : {operators rules : List ℕ} {a : Arrays} → length part < 4 + m → OpenedAs part operators rules a None
  cut_short l = record {
    is = λ y f.
        let (r, g, _) = bind_accepted (read_bytes m) (λ book. with_fields book (day_of part)) (drop 4 part) y (sym front ∙ f) in
        bytes_cut m (drop 4 part) (omega (arith, l, h, length-drop 4 part)) r g;
  }

  module _ (l : 4 + m ≤ length part) where
    abbrev book : List ℕ
    book = book_in part m

    abbrev day : ℕ
    day = day_of part

    abbrev rest : List ℕ
    rest = drop (4 + m) part

    book_there : read_part part ≡ with_fields book day rest
    book_there =
        front
        ∙ bind_return (read_bytes m) (λ bs. with_fields bs day) (drop 4 part) (drop m (drop 4 part)) book (bytes_there m (drop 4 part) (omega (arith, l, h, length-drop 4 part)))
        ∙ ap (with_fields book day) (drop-drop m 4 part)

    fields_accepted : (y : Read Part) → read_part part ≡ accepted y → (r : Read Saved) × (read_fields book day rest ≡ accepted r)
    fields_accepted y f = let (r, g, _) = bind_accepted (read_fields book day) (λ S. return (with_saved book day S)) rest y (sym book_there ∙ f) in (r, g)

    -- the bytes are no book
    pub book_refused : {operators rules : List ℕ} {a : Arrays} {d : ℕ} {e : Refusal} → BookAt book d operators rules (Err e) → OpenedAs part operators rules a None
    book_refused b = record {
      is = λ y f.
          let (r, g) = fields_accepted y f in
          unfold read_fields in
          let (A, i, _) = then_accepted (read_any book) _ r g in
          refused_accepted (sym b.is ∙ i);
    }

    -- they are one
    module _ {operators rules : List ℕ} {d n : ℕ} (b : BookAt book d operators rules (Ok n)) (on : d ≡ day) where
      fields_are : (xs : List ℕ) → read_fields book day xs ≡ read_run (book_of book rules) xs
      unfolding read_fields then
      fields_are xs = rw b.is.0.read (ap (λ (k : ℕ). read_run (on_day k (any_book book)) xs) (sym (b.is.1 ∙ on)))

      -- and the run behind it is opened
      pub run_behind : {a : Arrays} (r : Option Opened) → RunOpened part operators m n a r → OpenedAs part operators rules a r
      run_behind {a} (Some o) q =
          let (f, s, g) = q.is (book_of book rules) (of_book b) in
          subst (λ (i : ℕ). OpenedAs part operators rules a (Some (record { numbers = o.numbers; book = i }))) (sym g) (record {
            is = record {
              inside = l;
              is = book_there ∙ bind_return (read_fields book day) (λ S. return (with_saved book day S)) rest [] (saved o.numbers a) (fields_are rest ∙ f);
              tables = b.is.0;
              day_is = b.is.1 ∙ on;
              standing = s;
            };
          })
      run_behind None q = record {
        is = λ y f. let (r, g) = fields_accepted y f in q.is (book_of book rules) (of_book b) r (sym (fields_are rest) ∙ g);
      }
