-- Laws of the page: it begins with its fixed line, an input that is longer than any request is told by its front, and so what was read to a buffer of
-- 163,850 bytes tells the page of the standard input; and no page tells 6 (document 02, Change 4). Assumes nothing.
use mathlib.Core.Bool.{Bool, true, false}
use mathlib.Core.List.{List, [], ◌∷◌, ◌++◌}
use mathlib.Core.Logic.{◌≢◌}
use mathlib.Core.Path.{◌≡◌, refl, sym, ap, subst, ◌∙◌}
use Prim.Native.Nat.{ℕ, ◌+◌, ◌-◌, ◌≤◌, ◌<◌}
use native.Mathlib.Omega.{arith}
use native.Mathlib.Decide.{dec_lt}
use lib.ListN.{length, get_or, take, drop, length-append, length-take, get_or-eq_default}
use lib.Seq.{take_all, take_at, take-length, get_or-take}
use Rattle.paper.specs.Result.{refused}
use Rattle.paper.specs.Dated.{is_dated}
use Rattle.paper.specs.Line.{read_line}
use Rattle.paper.specs.Text.{read_text}
use Rattle.paper.specs.Page.{LineReader, number, read_request, line, refused_word, page_by, page_of, payee_page_of}
use Rattle.paper.proofs.Refusals.{page_not_six, payee_page_not_six}
use Rattle.stream.specs.Promises.{PartEnds}
use Rattle.stream.proofs.Numbers.{number_two}
use Rattle.stream.proofs.Parts.{counted_at}
use Rattle.page.specs.Spec.{Paged, Bytes, StandardInput, PagedFrom, begins, fixed_line}
use Rattle.page.specs.Promises.{DayStands}
use Rattle.page.proofs.Input.{day_undated, day_there, cut_over}
use Rattle.page.proofs.Lines.{page_cut}
use Rattle.std.proofs.Common.{Some}
use Rattle.page.proofs.Prefix.{begins_front}

-- what the contracts call the page is the first program's, and the second's
pub page_of_lem : (input : List ℕ) → page_by read_line input ≡ page_of input
unfolding page_of
page_of_lem input = refl

pub payee_page_of_lem : (input : List ℕ) → page_by read_text input ≡ payee_page_of input
unfolding payee_page_of
payee_page_of_lem input = refl

pub page_begins : (read : LineReader) (input : List ℕ) → begins fixed_line (page_by read input) ≡ true
unfolding page_by
page_begins read input = begins_front fixed_line _

bytes_take : (n : ℕ) (xs : List ℕ) → Bytes xs → Bytes (take n xs)
bytes_take n xs h i = go (dec_lt i n)
  where
    go : Dec (i < n) → get_or (take n xs) i 0 < 256
    go (yes k) = rw (get_or-take n xs i 0 k) (h i)
    go (no k) =
        let l : length (take n xs) ≤ i = omega (arith, length-take n xs) in
        omega (arith, get_or-eq_default (take n xs) 0 l)

-- a length is below 65,536
length_below : (input : List ℕ) (at : ℕ) → Bytes input → at + 2 ≤ length input → number 0 (take 2 (drop at input)) < 65536
length_below input at h k = omega (arith, number_two input at k, h at, h (at + 1))

-- a day of either form ends within two bytes
day_of : (input book : List ℕ) (at : ℕ) → at + 2 ≤ length input →
    (dated : Bool) × (dated ≡ is_dated book) × (day : ℕ) × (e : ℕ) × DayStands input at dated (Some (day, e)) × (e ≤ at + 2)
day_of input book at h = go (is_dated book) refl
  where
    go : (dated : Bool) → dated ≡ is_dated book →
        (dated : Bool) × (dated ≡ is_dated book) × (day : ℕ) × (e : ℕ) × DayStands input at dated (Some (day, e)) × (e ≤ at + 2)
    go true p = (true, p, number 0 (take 2 (drop at input)), at + 2, day_there input at refl h _ _ refl refl, omega arith)
    go false p = (false, p, 0, at, day_undated input at refl (omega arith), omega arith)

-- whatever the lengths and the book's form say, over 32,768 schedule bytes follow
long_refused : (input : List ℕ) → Bytes input → 163850 ≤ length input → read_request input ≡ refused 17
long_refused input h k =
    let n : ℕ = number 0 (take 2 (drop 0 input)) in
    let n_below : n < 65536 = length_below input 0 h (omega arith) in
    let b : ℕ = 0 + 2 + n in
    let m : ℕ = number 0 (take 2 (drop b input)) in
    let m_below : m < 65536 = length_below input b h (omega arith) in
    let l : ℕ = b + 2 + m in
    let book : PartEnds input 0 (Some b) =
    record { is = counted_at input 0 (omega arith) n b refl refl (omega arith); within = (omega arith, omega arith) } in
    let line : PartEnds input b (Some l) =
    record { is = counted_at input b (omega arith) m l refl refl (omega arith); within = (omega arith, omega arith) } in
    let (dated, form, day, e, f, w) = day_of input (take (b - 2) (drop 2 input)) (l + 5) (omega arith) in
    (cut_over input book line (omega arith) form f (omega arith)).is

-- so that a program may stop reading there
pub page_prefix : (read : LineReader) (input buffer : List ℕ) → Bytes input → take (length buffer) input ≡ buffer → 163850 ≤ length buffer →
    page_by read input ≡ page_by read buffer
page_prefix read input buffer h e k =
    sym (page_cut read input (long_refused input h (omega (arith, length-take (length buffer) input, ap length e))))
    ∙ page_cut read buffer (long_refused buffer (subst Bytes e (bytes_take (length buffer) input h)) k)

-- THE BUFFER

-- a page lies within its buffer
paged_within : {read : LineReader} {input page page' : List ℕ} {r : ℕ} → Paged read input page page' r → r ≤ length page'
paged_within {read} {input} {page} {page'} {r} p = omega (arith, p.size, ap length p.is, length-append (page_by read input) (drop r page))

module _ {read : LineReader} {buffer page page' : List ℕ} {n r : ℕ} where
  -- the input was read to its end
  pub paged_ended : n < length buffer → Paged read (take n buffer) page page' r → PagedFrom read buffer n page page' r
  paged_ended h p = record { is = λ input s. subst (λ (i : List ℕ). Paged read i page page' r) (sym (s.ended h)) p; within = paged_within p }

  -- the buffer is full
  pub paged_filled : 163850 ≤ length buffer → length buffer ≤ n → Paged read buffer page page' r → PagedFrom read buffer n page page' r
  paged_filled l h p =
      record {
        is = λ input s.
            let e : page_by read input ≡ page_by read buffer = page_prefix read input buffer (s.filled h).1 (s.filled h).0 l in
            record { size = p.size ∙ ap length (sym e); is = p.is ∙ ap (λ (x : List ℕ). x ++ drop r page) (sym e) };
        within = paged_within p;
      }

-- what was read is itself such an input: PagedFrom speaks of a page that there is
pub as_read : (buffer : List ℕ) (n : ℕ) → Bytes buffer → StandardInput buffer n (take n buffer)
as_read buffer n h =
    record {
      ended = λ k. refl;
      filled = λ k. (ap (take (length buffer)) (take_all n buffer k) ∙ take-length buffer, bytes_take n buffer h);
    }

-- NEVER 6

module _ {buffer page page' : List ℕ} {n r : ℕ} (input : List ℕ) (s : StandardInput buffer n input) where
  -- the page that is printed is the input's
  printed : {read : LineReader} → PagedFrom read buffer n page page' r → take r page' ≡ page_by read input
  printed {read} p = let q = p.is input s in ap (take r) q.is ∙ take_at (page_by read input) (drop r page) r (sym q.size)

  pub printed_not_six : PagedFrom read_line buffer n page page' r → take r page' ≢ fixed_line ++ line refused_word (6 ∷ [])
  printed_not_six p e = page_not_six input (sym (page_of_lem input) ∙ sym (printed p) ∙ e)

  pub payee_printed_not_six : PagedFrom read_text buffer n page page' r → take r page' ≢ fixed_line ++ line refused_word (6 ∷ [])
  payee_printed_not_six p e = payee_page_not_six input (sym (payee_page_of_lem input) ∙ sym (printed p) ∙ e)
