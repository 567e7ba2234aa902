-- A part of a run: with what the parts before it counted added, its numbers are the answer of the part, and what its arrays hold, if it is cut, is where the run is parked; that
-- can be saved. Assumes nothing.
use mathlib.Core.Bool.{Bool, true, false, false≢true}
use mathlib.Core.List.{List}
use mathlib.Core.Option.{none, some}
use mathlib.Core.Path.{◌≡◌, refl, sym, ap, ap₂, ◌∙◌}
use Prim.Native.Nat.{ℕ, ◌+◌, ◌^◌, ◌≤◌, ◌<◌}
use native.Mathlib.Omega.{arith}
use lib.ListN.{length}
use Rattle.paper.specs.Result.{if}
use Rattle.paper.specs.Book.{Book}
use Rattle.paper.specs.Machine as paper
use Rattle.paper.specs.WellFormed.{GoodBook}
use Rattle.flat.specs.Machine.{FlatState}
use Rattle.flat.specs.Run.{FlatAnswer, flat_run_from}
use Rattle.flat.specs.Meets.{PointRules}
use Rattle.flat.specs.Parts.{flat_parked, kept_count, kept_state, from_zero, add_forks, add_counts, kept_answer, Parked, part, resume}
use Rattle.flat.proofs.Form.{point_fits}
use Rattle.flat.proofs.Counted.{resume_counted, part_counted, part_over, parked_answer}
use Rattle.flat.proofs.Parts.{kept_most}
use Rattle.flat.proofs.Points.{point_part}
use Rattle.net.specs.Net.{book_by}
use Rattle.whole.specs.declared.Limits.{Limits}
use Rattle.entry.specs.State as E
use Rattle.entry.specs.State.{limited}
use Rattle.run.specs.Promises.{counted, left_by, answer, Ran}
use Rattle.entry.specs.declared.Ending.{Ending}
use Rattle.run.specs.declared.Run.{Run}
use Rattle.point.specs.declared.Numbers.{Numbers}
use Rattle.point.specs.Saved.{Arrays, arrays, saved}
use Rattle.point_writer.specs.Promises.{Savable}
use Rattle.point_writer.proofs.Savable.{standing_savable}
use Rattle.parking.specs.Form.{write_point}
use Rattle.parking.specs.Points.{put, as_point, behind}
use Rattle.points.specs.Promises.{added, numbers, point, is_cut, behind_cut}

-- THE ENDING tells whether something is left

left_cut : (e : Ending) (s : FlatState) → is_cut e ≡ true → left_by e s ≡ some s
left_cut Ending.Cut s h = refl
left_cut Ending.Finished s h = absurd (false≢true h)
left_cut Ending.Spent s h = absurd (false≢true h)
left_cut Ending.Full s h = absurd (false≢true h)

left_over : (e : Ending) (s : FlatState) → is_cut e ≡ false → left_by e s ≡ none
left_over Ending.Cut s h = absurd (false≢true (sym h))
left_over Ending.Finished s h = refl
left_over Ending.Spent s h = refl
left_over Ending.Full s h = refl

-- the part of a run that was parked as P, by numbers x that count what P does
module _ {book net : List ℕ} {l : Limits} {schedule symbols scratch work cells order : List ℕ} {r : Run} (P : Parked) (x : Numbers)
    (n : x.entries ≡ P.entries) (g : x.granted ≡ P.state.granted) (h : x.kept ≡ P.state.kept)
    (ran : Ran book net l schedule (from_zero P.state) symbols scratch work cells order r) where
  abbrev B : Book
  B = book_by book net

  abbrev L : paper.Limits
  L = limited l.budget

  abbrev all : Run
  all = added x r

  abbrev a : Arrays
  a = arrays symbols work cells order

  -- where the run stands
  abbrev here : FlatState
  here = E.state symbols work cells order (counted r) l

  -- what its arrays and numbers are
  abbrev stands : Parked
  stands = (saved (numbers l all) a).parked

  pub part_answer : answer all symbols ≡ resume B L schedule P
  part_answer =
      ap₂ (λ (i : ℕ) (z : FlatAnswer). kept_answer (add_counts i x.granted x.kept z)) n ran.is
      ∙ ap₂ (λ (i j : ℕ). kept_answer (add_counts P.entries i j (flat_run_from B L 0 schedule (from_zero P.state)))) g h
      ∙ sym (resume_counted B L schedule P)

  module _ (c : is_cut r.ending ≡ true) where
    parked : flat_parked B L schedule (from_zero P.state) ≡ some here
    parked = sym ran.parked ∙ left_cut r.ending here c

    entries_are : r.entries ≡ length schedule
    entries_are = ap (λ (z : FlatAnswer). z.entries) (ran.is ∙ parked_answer B L 0 schedule (from_zero P.state) here parked) ∙ omega arith

    pub part_cut : part B L schedule P ≡ some stands
    part_cut =
        part_counted B L schedule P here parked
        ∙ ap some (sym (ap₂ (λ (i j : ℕ). record { entries = kept_count (i + j); state = kept_state (add_forks x.granted x.kept here) }) n entries_are
        ∙ ap₂ (λ (i j : ℕ). record { entries = kept_count (P.entries + length schedule); state = kept_state (add_forks i j here) }) g h))

    -- it keeps the rules, so its fields are wide enough
    pub part_savable : GoodBook B → PointRules B L P.state → l.budget < 2 ^ 32 → 1 ≤ l.units → l.units ≤ 8 → Savable (numbers l all) a
    part_savable good rules small some_units few_units =
        let kept : PointRules B L stands.state = point_part B good L schedule P stands rules part_cut in
        let z = ran.arrays in
        standing_savable
        (record {
          sized = record { long = z.symbols_long; most = z.most; term = kept.meets.complete; true_sizes = kept.meets.sizes };
          known = kept.known;
          fit = z.fit;
          order_fits = z.order_fits;
          some_units = some_units;
          few_units = few_units;
        })
        (point_fits B good (saved (numbers l all) a) kept small (let m = kept_most (x.entries + r.entries) in omega (arith, m))
        (let m = kept_most (x.granted + r.granted) in omega (arith, m)) (let m = kept_most (x.kept + r.kept) in omega (arith, m)))

  pub part_ended : is_cut r.ending ≡ false → part B L schedule P ≡ none
  part_ended c = part_over B L schedule P (sym ran.parked ∙ left_over r.ending here c)

  -- the buffer behind it
  pub behind_part : (k : ℕ) (name bytes : List ℕ) (day : ℕ) (points otherwise : List ℕ) →
      behind k (as_point name bytes day l.budget) points otherwise (part B L schedule P) ≡ behind_cut k name bytes day l all a points otherwise
  unfolding behind
  behind_part k name bytes day points otherwise = go (is_cut r.ending) refl
    where
      saves : List ℕ
      saves = put k (write_point (point name bytes day (saved (numbers l all) a))) points

      go : (b : Bool) → is_cut r.ending ≡ b → behind k (as_point name bytes day l.budget) points otherwise (part B L schedule P) ≡ behind_cut k name bytes day l all a points otherwise
      go true e = ap (behind k (as_point name bytes day l.budget) points otherwise) (part_cut e) ∙ sym (ap (λ (b : Bool). if b saves otherwise) e)
      go false e = ap (behind k (as_point name bytes day l.budget) points otherwise) (part_ended e) ∙ sym (ap (λ (b : Bool). if b saves otherwise) e)
