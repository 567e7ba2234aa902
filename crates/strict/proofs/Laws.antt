-- What a caller has of the strict profile's answer (document 02, Change 13; proofs/Free has what follows for runs by an admitted book): the numbers that
-- it can be, what each says of the book, and a term that two rules match where two are told. Assumes nothing.
use Rattle.std.proofs.Common.{Some, None, Ok}
use mathlib.Core.List.{List}
use mathlib.Core.Logic.{◌⊎◌, inl, inr, ◌≢◌}
use mathlib.Core.Path.{◌≡◌, refl, sym, ap, ◌∙◌}
use Prim.Native.Nat.{ℕ, ◌<◌}
use native.Mathlib.Omega.{arith}
use Rattle.paper.specs.Result.{Result, refused, accepted}
use Rattle.paper.specs.Book.{Book}
use Rattle.paper.specs.Dated.{AnyBook, read_any}
use Rattle.paper.specs.Strict.{Verdict, strict_any, strict_read, strict_number, strict_of, Unfit, Overlaps}
use Rattle.paper.proofs.Lengths.{any_refused_by}
use Rattle.paper.proofs.Strict.{Says, unfit, overlap, free, strict_says, ReadsDated, Reads, Witnessed, bytes_24, bytes_admitted, bytes_overlapping}
use Rattle.strict.specs.Spec.{verdict}

-- THE NUMBERS: the book's own, of which 6 is none, or 24
abbrev pub Number : ℕ → Type 0
Number k = ((0 < k) × (k < 10) × (k ≢ 6)) ⊎ (k ≡ 24)

number_of : (k : ℕ) {B : Book} {v : Verdict} → Says B v → Verdict.faulty k ≡ v → Number k
number_of k (unfit u) e = let z : k ≡ 24 = cc in inr z
number_of k (overlap n p) e = let z : ◌≡◌ {A = ℕ} 0 1 = cc in absurd (omega arith)
number_of k (free n c) e = let z : ◌≡◌ {A = ℕ} 0 1 = cc in absurd (omega arith)

module _ (book : List ℕ) where
  number_read : (k : ℕ) (x : Result AnyBook) → read_any book ≡ x → Verdict.faulty k ≡ strict_read x → Number k
  unfolding strict_read strict_any
  number_read k (refused n) r e = let z : n ≡ k = cc in inl (any_refused_by book k (r ∙ ap refused z))
  number_read k (accepted (AnyBook.undated B)) r e = number_of k (strict_says B) e
  number_read k (accepted (AnyBook.dated D)) r e = let z : k ≡ 24 = cc in inr z

  pub numbers : (k : ℕ) → Verdict.faulty k ≡ strict_of book → Number k
  unfolding strict_of
  numbers k e = number_read k (read_any book) refl e

  -- 24: the book is dated, or has a variable repeated in a left side, or no operator of arity 0
  pub told_24 : Verdict.faulty 24 ≡ strict_of book → ReadsDated book ⊎ ((B : Book) × Reads book B × Unfit B)
  unfolding strict_number
  told_24 e = (bytes_24 book).0 (ap strict_number (sym e))

  -- 25: the two rules are the first pair that matches one term, and such a term is constructed
  pub told_pair : (i j : ℕ) → verdict (Ok (Some (i, j))) ≡ strict_of book → Witnessed book i j
  told_pair i j e = bytes_overlapping book i j (sym e)

  -- admitted: an undated book of which neither is so
  pub told_admitted : verdict (Ok None) ≡ strict_of book → (B : Book) × Reads book B × (¬ Unfit B) × (¬ Overlaps B)
  told_admitted e = (bytes_admitted book).0 (sym e)
