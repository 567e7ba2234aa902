-- The writer's answers, and what a caller has of them: a book that was written reads as the one that was given and is no longer, a refusal leaves
-- the output as it was, 16 does not come where the output is as long as the book given, and 6 never comes (document 02, Change 4). Assumes nothing.
use mathlib.Core.Bool.{Bool, true, false}
use mathlib.Core.List.{List, ◌++◌}
use mathlib.Core.Logic.{◌⊎◌, inl, inr, ◌≢◌}
use mathlib.Core.Path.{◌≡◌, refl, sym, ap, ◌∙◌, subst}
use Prim.Native.Nat.{ℕ, ◌≤◌, ◌<◌}
use native.Mathlib.Omega.{arith}
use borrow.Author.Tests.{ltb-false as not_below}
use lib.Dec.{ltb}
use lib.ListN.{length, take, drop}
use lib.Seq.{take_at, drop_at}
use Rattle.paper.specs.Result.{Result, refused, accepted, then}
use Rattle.paper.specs.Dated.{AnyBook, read_any, write_any, on_day}
use Rattle.paper.specs.Book.{Operator}
use Rattle.paper.specs.Page.{written_of}
use Rattle.paper.proofs.Tests.{ltb_true, ltb_false}
use Rattle.paper.proofs.Dated.{day_good, round_trip_any}
use Rattle.paper.proofs.Lengths.{any_no_longer, any_refused_by}
use Rattle.paper.proofs.Refusals.{read_not_six}
use Rattle.paper.proofs.Prefix.{longest_any, read_any_prefix}
use Rattle.tables.specs.Layout.{day_in}
use Rattle.tables.specs.Tables.{any_book}
use Rattle.tables.proofs.Laws.{arity_at}
use Rattle.side.specs.Promises.{AritiesIn}
use Rattle.book.specs.Promises.{BookAt}
use Rattle.std.specs.Prelude.{Ok, Err}
use Rattle.std.specs.Prelude.{Result as Answer}
use Rattle.refusal.specs.declared.Refusal.{Refusal}
use Rattle.refusal.specs.Numbers.{number}
use Rattle.writer.specs.Spec.{told, Outcome, writing, Answers}
use Rattle.writer.specs.Promises.{operators_of, AcceptedBook}

-- what is written for a reading
abbrev of : Result AnyBook → Result (List ℕ)
of x = then x (λ B. accepted (write_any B))

writing_of : (bytes output : List ℕ) (x : Result AnyBook) → read_any bytes ≡ x → writing (written_of bytes) output ≡ writing (of x) output
unfolding written_of
writing_of bytes output x e = ap (λ (y : Result AnyBook). writing (of y) output) e

module _ (bytes output : List ℕ) where
  pub answers_refused : (k : Refusal) → read_any bytes ≡ refused (number k) → Answers bytes output output (Err k)
  unfolding writing then
  answers_refused k e = record { is = writing_of bytes output (refused (number k)) e }

  module _ (B : AnyBook) (e : read_any bytes ≡ accepted B) (size : ℕ) (s : size ≡ length (write_any B)) where
    pub answers_short : length output < size → Answers bytes output output (Err Refusal.OutputTooShort)
    unfolding writing then
    answers_short h = record { is = writing_of bytes output (accepted B) e ∙ rw (ltb_true (length output) (length (write_any B)) (omega arith)) }

    pub answers_written : (output' : List ℕ) (r : ℕ) → r ≡ length (write_any B) → size ≤ length output → output' ≡ write_any B ++ drop r output →
        Answers bytes output output' (Ok r)
    unfolding writing then
    answers_written output' r f h g = record {
      is = writing_of bytes output (accepted B) e ∙ rw (ltb_false (length output) (length (write_any B)) (omega arith), g, f);
    }

-- what stands behind a book's first 65,536 bytes is not looked at
pub answers_prefix : (bytes output output' : List ℕ) (r : Answer ℕ Refusal) → 65536 ≤ length bytes → Answers (take 65536 bytes) output output' r →
    Answers bytes output output' r
unfolding written_of
answers_prefix bytes output output' r h a = record { is = writing_of bytes output (read_any (take 65536 bytes)) (read_any_prefix bytes h) ∙ a.is }

-- a book has its operators on every day
day_operators : (d : ℕ) (A : AnyBook) → (on_day d A).operators ≡ operators_of A
unfolding on_day
day_operators d (AnyBook.undated B) = refl
day_operators d (AnyBook.dated D) = refl

-- what the book's reader gives
pub accepted_of : {bytes operators rules : List ℕ} {day n : ℕ} → BookAt bytes day operators rules (Ok n) → AcceptedBook bytes n operators
accepted_of {bytes} {operators} {rules} {n = n} h =
    let t = h.is.0 in
    let c = h.is.2 in
    record {
      read = t.read;
      arities = subst (λ (ops : List Operator). AritiesIn ops n operators) (day_operators (day_in rules) (any_book bytes))
          (record { count = sym c; says = λ o l. arity_at t.tables o (omega arith) });
    }

pub few : {bytes operators : List ℕ} {n : ℕ} → AcceptedBook bytes n operators → n < 256
few {bytes} a =
    let c = a.arities.count in
    let g = (day_good bytes _ a.read 0).few_operators in
    omega (arith, ap length (day_operators 0 (any_book bytes)))

-- The caller's laws

-- the first n bytes of the output read as the book does, in its form and with its days, and the others are as they were; the book given had no fewer
pub record Returned (book output output' : List ℕ) (n : ℕ) : Type 0 where
  pub read : AnyBook
  pub book_is : read_any book ≡ accepted read
  pub written_is : read_any (take n output') ≡ accepted read
  pub others : drop n output' ≡ drop n output
  pub fits : n ≤ length output
  pub no_longer : n ≤ length book

-- an output as long as the book given, or as the longest book
abbrev pub LongEnough : List ℕ → List ℕ → Type 0
LongEnough book output = (length book ≤ length output) ⊎ (41473 ≤ length output)

module _ {book output output' : List ℕ} where
  pub returned : {n : ℕ} → Answers book output output' (Ok n) → Returned book output output' n
  unfolding writing then
  returned {n} a = go (read_any book) refl
    where
      sized : (B : AnyBook) → read_any book ≡ accepted B → (b : Bool) → ltb (length output) (length (write_any B)) ≡ b → Returned book output output' n
      sized B e true f =
          let z : ◌≡◌ {A = ℕ} 0 1 =
          let h = rw f at (sym (writing_of book output (accepted B) e) ∙ a.is) in let i = ap (λ (o : Outcome). o.answer) h in cc in
          absurd (omega arith)
      sized B e false f =
          let h = rw f at (sym (writing_of book output (accepted B) e) ∙ a.is) in
          let i = ap (λ (o : Outcome). o.answer) h in
          let l : length (write_any B) ≡ n = cc in
          let g : write_any B ++ drop n output ≡ output' = ap (λ (k : ℕ). write_any B ++ drop k output) (sym l) ∙ ap (λ (o : Outcome). o.output) h in
          record {
            read = B;
            book_is = e;
            written_is = ap read_any (ap (take n) (sym g) ∙ take_at (write_any B) (drop n output) n l) ∙ round_trip_any book B e;
            others = ap (drop n) (sym g) ∙ drop_at (write_any B) (drop n output) n l;
            fits = omega (arith, not_below (length output) (length (write_any B)) f);
            no_longer = omega (arith, any_no_longer book B e);
          }

      go : (x : Result AnyBook) → read_any book ≡ x → Returned book output output' n
      go (refused k) e =
          let i = ap (λ (o : Outcome). o.answer) (sym (writing_of book output (refused k) e) ∙ a.is) in
          let z : ◌≡◌ {A = ℕ} 0 1 = cc in
          absurd (omega arith)
      go (accepted B) e = sized B e (ltb (length output) (length (write_any B))) refl

  pub untouched : {k : Refusal} → Answers book output output' (Err k) → output' ≡ output
  unfolding writing then
  untouched {k} a = go (read_any book) refl
    where
      go : (x : Result AnyBook) → read_any book ≡ x → output' ≡ output
      go (refused j) e = sym (ap (λ (o : Outcome). o.output) (sym (writing_of book output (refused j) e) ∙ a.is))
      go (accepted B) e = sized (ltb (length output) (length (write_any B))) refl
        where
          sized : (b : Bool) → ltb (length output) (length (write_any B)) ≡ b → output' ≡ output
          sized true f = sym (ap (λ (o : Outcome). o.output) (rw f at (sym (writing_of book output (accepted B) e) ∙ a.is)))
          sized false f =
              let h = rw f at (sym (writing_of book output (accepted B) e) ∙ a.is) in
              let i = ap (λ (o : Outcome). o.answer) h in
              let z : ◌≡◌ {A = ℕ} 0 1 = cc in
              absurd (omega arith)

  -- an output that is long enough is never refused by 16: a refusal is the book's own, by 1 to 9 but 6
  pub own_refusal : {k : Refusal} → LongEnough book output → Answers book output output' (Err k) →
      (read_any book ≡ refused (number k)) × (0 < number k) × (number k < 10) × (number k ≢ 6)
  unfolding writing then
  own_refusal {k} h a = go (read_any book) refl
    where
      fits : (B : AnyBook) → read_any book ≡ accepted B → LongEnough book output → length (write_any B) ≤ length output
      fits B e (inl l) = omega (arith, any_no_longer book B e)
      fits B e (inr l) = omega (arith, any_no_longer book B e, longest_any book B e)

      go : (x : Result AnyBook) → read_any book ≡ x → (read_any book ≡ refused (number k)) × (0 < number k) × (number k < 10) × (number k ≢ 6)
      go (refused j) e =
          let i = ap (λ (o : Outcome). o.answer) (sym (writing_of book output (refused j) e) ∙ a.is) in
          let f : read_any book ≡ refused (number k) = e ∙ i_refused i in
          let (l, m, n) = any_refused_by book (number k) f in
          (f, l, m, n)
        where
          i_refused : ◌≡◌ {A = Result ℕ} (refused j) (refused (number k)) → ◌≡◌ {A = Result AnyBook} (refused j) (refused (number k))
          i_refused q = cc
      go (accepted B) e =
          let w = answers_written book output B e _ refl _ _ refl (fits B e h) refl in
          let i = ap (λ (o : Outcome). o.answer) (sym w.is ∙ a.is) in
          let z : ◌≡◌ {A = ℕ} 0 1 = cc in
          absurd (omega arith)

  -- whatever the output
  pub write_not_six : {r : Answer ℕ Refusal} → Answers book output output' r → told r ≢ refused 6
  unfolding writing then
  write_not_six {r} a e = go (read_any book) refl
    where
      go : (x : Result AnyBook) → read_any book ≡ x → ⊥
      go (refused j) f =
          let i = ap (λ (o : Outcome). o.answer) (sym (writing_of book output (refused j) f) ∙ a.is) in
          let k : j ≡ 6 = cc in
          read_not_six book (f ∙ ap refused k)
      go (accepted B) f = sized (ltb (length output) (length (write_any B))) refl
        where
          sized : (b : Bool) → ltb (length output) (length (write_any B)) ≡ b → ⊥
          sized true g =
              let i = ap (λ (o : Outcome). o.answer) (rw g at (sym (writing_of book output (accepted B) f) ∙ a.is)) in
              let z : ◌≡◌ {A = ℕ} 16 6 = cc in
              omega arith
          sized false g =
              let i = ap (λ (o : Outcome). o.answer) (rw g at (sym (writing_of book output (accepted B) f) ∙ a.is)) in
              let z : ◌≡◌ {A = ℕ} 0 1 = cc in
              omega arith
