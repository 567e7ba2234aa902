-- The lines of the engine's answer are those of the paper's, and the page is made of them. Assumes nothing.
use mathlib.Core.List.{List, [], ◌∷◌, ◌++◌}
use mathlib.Core.Path.{◌≡◌, refl, sym, ap, ap₂, ◌∙◌}
use Prim.Native.Nat.{ℕ, ◌≤◌}
use native.Mathlib.Omega.{arith}
use lib.ListN.{length, take}
use lib.Seq.{take_at}
use Rattle.paper.specs.Result.{Result, refused, accepted, Read, then}
use Rattle.paper.specs.Tree.{preorder}
use Rattle.paper.specs.Run.{Answer}
use Rattle.paper.specs.Page.{Request, LineReader, frame_fault, run_checked, answer_by, own_lengths, read_request, line, refused_word, answer_lines, page_by}
use Rattle.stream.specs.Promises.{WrittenAt}
use Rattle.engine.specs.Spec as R
use Rattle.std.specs.Prelude.{Ok, Err}
use Rattle.page.specs.Spec.{Paged, fixed_line}
use Rattle.page.specs.Promises.{asked, run_lines, lines, TermFits}

-- THE ANSWER

-- the same values give the same lines, where the term stands at the front of the output
same_lines : {v w : R.Values} (output : List ℕ) {term : List ℕ} → v ≡ w → take w.length output ≡ term →
    run_lines v (take v.length output) ≡ run_lines w term
same_lines {w = w} output e h = ap (λ (v : R.Values). run_lines v (take v.length output)) e ∙ ap (run_lines w) h

same_values : {v w : R.Values} → ◌≡◌ {A = Result R.Values} (accepted v) (accepted w) → v ≡ w
same_values e = cc

same_number : {k n : ℕ} → ◌≡◌ {A = Result R.Values} (refused k) (refused n) → k ≡ n
same_number e = cc

apart : {k : ℕ} {v : R.Values} → ◌≡◌ {A = Result R.Values} (refused k) (accepted v) → ⊥
apart e = let z : ◌≡◌ {A = ℕ} 0 1 = cc in absurd (omega arith)

-- the term is at the front of the output
abbrev Fronted : Result Answer → List ℕ → Type 0
Fronted x output = (a : Answer) → x ≡ accepted a → take (length (preorder a.term)) output ≡ preorder a.term

lines_as : (r : R.Reply) (x : Result Answer) (output : List ℕ) → R.values r ≡ R.values_of x → Fronted x output → lines r output ≡ answer_lines x
unfolding answer_lines
lines_as (Err k) (refused n) output e h = ap (λ (i : ℕ). line refused_word (i ∷ [])) (same_number e)
lines_as (Err k) (accepted a) output e h = absurd (apart e)
lines_as (Ok r) (refused n) output e h = absurd (apart (sym e))
lines_as (Ok r) (accepted a) output e h = same_lines output (same_values e) (h a refl)

fits_as : (r : R.Reply) (x : Result Answer) (output : List ℕ) → R.values r ≡ R.values_of x → length output ≡ 1024 →
    ((a : Answer) → x ≡ accepted a → length (preorder a.term) ≤ 1024) → TermFits r output
fits_as (Err k) x output e l h = tt
fits_as (Ok r) (refused n) output e l h = absurd (apart (sym e))
fits_as (Ok r) (accepted a) output e l h =
    let m : r.length ≡ length (preorder a.term) = ap (λ (v : R.Values). v.length) (same_values e) in
    (omega (arith, h a refl), omega arith)

-- with buffers of the lengths that are asked for, the published lengths do not matter
same_answer : (read : LineReader) (q : Request) → q.work ≡ (R.published).work → q.net ≡ (R.published).net → q.output ≡ 1024 →
    answer_by read R.published q ≡ answer_by read own_lengths (asked q.book q.line q.units q.budget q.day q.schedule)
unfolding answer_by frame_fault run_checked
same_answer read q e n f = rw (e, n, f)

module _ {read : LineReader} {book line : List ℕ} {units budget day : ℕ} {schedule work net output work' net' output' : List ℕ} {r : R.Reply}
    (d : R.ReducedBy read book line units budget day schedule work net output work' net' output' r) where
  front : (a : Answer) → R.answered_by read book line units budget day schedule work net output ≡ accepted a →
      take (length (preorder a.term)) output' ≡ preorder a.term
  front a e = ap (take (length (preorder a.term))) (d.written a e) ∙ take_at (preorder a.term) _ _ refl

  pub reduced_fits : length output' ≡ 1024 → TermFits r output'
  reduced_fits l = fits_as r _ output' d.answer l (λ a e. (d.run_of a e).holds.fits)

  pub reduced_lines : (budget' : ℕ) (schedule' : List ℕ) → budget ≡ budget' → schedule ≡ schedule' → length work ≡ (R.published).work →
      length net ≡ (R.published).net → length output ≡ 1024 →
      lines r output' ≡ answer_lines (answer_by read own_lengths (asked book line units budget' day schedule'))
  reduced_lines budget' schedule' b s e n f =
      lines_as r _ output' d.answer front
      ∙ ap answer_lines (same_answer read (R.request book line units budget day schedule work net output) e n f)
      ∙ ap₂ (λ (k : ℕ) (es : List ℕ). answer_lines (answer_by read own_lengths (asked book line units k day es))) b s

-- THE PAGE

pub page_cut : (read : LineReader) (input : List ℕ) → read_request input ≡ refused 17 → fixed_line ++ line refused_word (17 ∷ []) ≡ page_by read input
unfolding page_by answer_lines then
page_cut read input e = ap (λ (x : Result (Read Request)). fixed_line ++ answer_lines (then x (λ r. answer_by read own_lengths r.value))) (sym e)

pub page_whole : (read : LineReader) (input : List ℕ) (q : Request) → read_request input ≡ accepted (record { value = q; left = [] }) →
    fixed_line ++ answer_lines (answer_by read own_lengths q) ≡ page_by read input
unfolding page_by then
page_whole read input q e = ap (λ (x : Result (Read Request)). fixed_line ++ answer_lines (then x (λ r. answer_by read own_lengths r.value))) (sym e)

pub paged : {read : LineReader} {input page page' : List ℕ} {r : ℕ} → WrittenAt 0 (page_by read input) page page' r → Paged read input page page' r
paged p = let e = p.ends in record { size = omega arith; is = p.is }
