-- What is said of a book that was read, by its form: the definition's verdict. Assumes nothing.
use mathlib.Core.Bool.{Bool, true, false, true≢false}
use mathlib.Core.List.{List}
use mathlib.Core.Path.{◌≡◌, refl, sym, ap, ◌∙◌, subst}
use Prim.Native.Nat.{ℕ, ◌≤◌, ◌<◌}
use native.Mathlib.Omega.{arith}
use lib.ListN.{length, take}
use Rattle.paper.specs.Result.{accepted}
use Rattle.paper.specs.Book.{Book}
use Rattle.paper.specs.Dated.{AnyBook, is_dated, on_day}
use Rattle.paper.specs.Strict.{Verdict, linear, all_linear, has_constant, eligible, overlap_of, told, strict_book, strict_any, strict_read, strict_of}
use Rattle.paper.proofs.Dated.{ReadAs, as_undated, as_dated, read_form}
use Rattle.paper.proofs.Prefix.{read_any_prefix}
use Rattle.paper.proofs.Strict.{strict_undated}
use Rattle.tables.specs.Layout.{day_in, left_in}
use Rattle.tables.specs.Tables.{rule_at, book_of, TablesOf}
use Rattle.tables.proofs.Laws.{arity_at}
use Rattle.side.specs.Promises.{AritiesIn}
use Rattle.rule.specs.Packed.{SideAt}
use Rattle.rule.proofs.Tables.{lefts_stand}
use Rattle.strict.specs.Promises.{LinearAt, Undated}

-- LEFT SIDES

-- the answer for the side that the table names is one for the rule
pub linear_read : {bytes operators rules : List ℕ} → TablesOf bytes operators rules → (i at : ℕ) (r : Bool) → i < length (book_of bytes rules).rules →
    at ≡ left_in rules i → LinearAt bytes at operators r → linear (rule_at (book_of bytes rules).rules i) ≡ r
unfolding linear
linear_read {bytes} {operators} {rules} t i at r l e h =
    let side = (rule_at (book_of bytes rules).rules i).left in
    sym (h.is side (subst (λ (p : ℕ). SideAt bytes p operators side) (sym e) ((lefts_stand t.tables).each i l).stands))

-- AN UNDATED BOOK

-- the operators' table has its arities
pub arities_in : {bytes operators rules : List ℕ} {n : ℕ} → Undated bytes n operators rules → AritiesIn (book_of bytes rules).operators n operators
arities_in h = let c = h.count in record { count = sym c; says = λ o l. arity_at h.tables.tables o (omega arith) }

module _ (B : Book) where
  pub said_repeated : all_linear B.rules ≡ false → Verdict.faulty 24 ≡ strict_book B
  unfolding strict_book eligible
  said_repeated e = sym (rw (e, strict_book))

  module _ (l : all_linear B.rules ≡ true) where
    pub said_constantless : has_constant B.operators ≡ false → Verdict.faulty 24 ≡ strict_book B
    unfolding strict_book eligible
    said_constantless e = sym (rw (l, e, strict_book))

    pub said_pair : has_constant B.operators ≡ true → told (overlap_of B.rules) ≡ strict_book B
    unfolding strict_book eligible
    said_pair e = sym (rw (l, e, strict_book))

-- BYTES

module _ {bytes operators rules : List ℕ} (t : TablesOf bytes operators rules) where
  form_undated : (d : ℕ) (A : AnyBook) → ReadAs bytes A → is_dated bytes ≡ false → A ≡ AnyBook.undated (on_day d A)
  unfolding on_day
  form_undated d A (as_undated e r) f = refl
  form_undated d A (as_dated e r) f = absurd (true≢false (sym e ∙ f))

  said_dated : (A : AnyBook) → ReadAs bytes A → is_dated bytes ≡ true → strict_any A ≡ Verdict.faulty 24
  unfolding strict_any
  said_dated A (as_undated e r) f = absurd (true≢false (sym f ∙ e))
  said_dated A (as_dated e r) f = refl

  pub dated_told : is_dated bytes ≡ true → Verdict.faulty 24 ≡ strict_of bytes
  unfolding strict_of strict_read
  dated_told f = sym (ap strict_read t.read ∙ said_dated _ (read_form bytes _ t.read) f)

  pub undated_read : {n : ℕ} → is_dated bytes ≡ false → n ≡ length (book_of bytes rules).operators → length bytes ≤ 65536 → Undated bytes n operators rules
  undated_read f c l =
      record { tables = t; undated = form_undated (day_in rules) _ (read_form bytes _ t.read) f; count = c; short = l }

pub undated_told : {bytes operators rules : List ℕ} {n : ℕ} {v : Verdict} → Undated bytes n operators rules → v ≡ strict_book (book_of bytes rules) →
    v ≡ strict_of bytes
undated_told {bytes} {rules = rules} h e = e ∙ sym (strict_undated bytes (book_of bytes rules) (h.tables.read ∙ ap accepted h.undated))

-- what stands behind a book's first 65,536 bytes is not looked at
pub strict_prefix : (bytes : List ℕ) → 65536 ≤ length bytes → strict_of (take 65536 bytes) ≡ strict_of bytes
unfolding strict_of
strict_prefix bytes h = ap strict_read (sym (read_any_prefix bytes h))
