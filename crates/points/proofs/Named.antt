-- A new run with a name that passed every check: it can be saved if it was cut, and what it leaves is the definition's. Assumes nothing.
use mathlib.Core.Bool.{true, false}
use mathlib.Core.List.{List, []}
use mathlib.Core.Path.{◌≡◌, refl, sym, ap, ap₂, ◌∙◌, subst}
use Prim.Native.Nat.{ℕ, ◌+◌, ◌^◌, ◌≤◌, ◌<◌}
use native.Mathlib.Omega.{arith}
use lib.ListN.{length, take, replicate}
use Rattle.paper.specs.Result.{refused, accepted}
use Rattle.paper.specs.Tree.{preorder}
use Rattle.paper.specs.Book.{Term, Book, arity}
use Rattle.paper.specs.Dated.{on_day}
use Rattle.paper.specs.Line.{read_line}
use Rattle.paper.specs.Page.{Request, all_below}
use Rattle.paper.proofs.Dated.{day_good}
use Rattle.paper.proofs.Line.{line_correct}
use Rattle.flat.specs.Machine.{flat_start}
use Rattle.flat.specs.Meets.{PointRules}
use Rattle.flat.specs.Parts.{highest, kept_count, from_zero, Parked, part, parts}
use Rattle.flat.proofs.Parts.{kept_low}
use Rattle.flat.proofs.Points.{saved_point}
use Rattle.tables.specs.Layout.{day_in}
use Rattle.tables.specs.Tables.{any_book, book_of, TablesOf}
use Rattle.net.specs.Layout.{day_of}
use Rattle.net.specs.Net.{book_by, NetOf}
use Rattle.insertion.specs.Promises.{Built}
use Rattle.whole.specs.declared.Limits.{Limits}
use Rattle.entry.specs.State.{limited}
use Rattle.run.specs.Promises.{Ran}
use Rattle.run.specs.declared.Run.{Run}
use Rattle.engine.specs.Spec as R
use Rattle.engine.specs.Spec.{request}
use Rattle.engine.specs.Promises as E
use Rattle.engine.specs.Promises.{Framed, Given, Posted}
use Rattle.std.specs.Prelude.{Ok, Err}
use Rattle.refusal.specs.declared.Refusal.{Refusal}
use Rattle.refusal.specs.declared.Refusal.TheVariants.{UnknownUnitInSchedule}
use Rattle.refusal.specs.Numbers.{number}
use Rattle.engine.proofs.Frame.{framed}
use Rattle.engine.proofs.Runs.{reduced}
use Rattle.point.specs.Saved.{arrays}
use Rattle.point.specs.declared.Numbers.{Numbers}
use Rattle.parking.specs.Form.{name_length}
use Rattle.parking.specs.Points.{points_fault, place_checked, begun, as_point, behind}
use Rattle.parking.proofs.Checks.{points_ready, unless_accepted}
use Rattle.parking.proofs.Parking.{line_reads}
use Rattle.points.specs.Spec.{ParkedBy}
use Rattle.points.specs.Promises.{added, SavableCut, behind_cut, LeftBy, Placed}
use Rattle.points.proofs.Part.{part_savable, behind_part}
use Rattle.points.proofs.Parks.{by_points, by_schedule, refuses, accepts}

-- nothing is counted before a run's first part
abbrev none_yet : Limits → Numbers
none_yet l = record { units = l.units; budget = l.budget; rewrites = 0; entries = 0; granted = 0; kept = 0 }

-- counts of one part have 64 bits
pub record Counts (r : Run) : Type 0 where
  pub entries : r.entries ≤ highest
  pub granted : r.granted ≤ highest
  pub kept : r.kept ≤ highest

first_counts : (l : Limits) (r : Run) → Counts r → added (none_yet l) r ≡ r
first_counts l r h =
    let low : (n : ℕ) → n ≤ highest → kept_count (0 + n) ≡ n = λ n b. kept_low (0 + n) (omega (arith, b)) ∙ omega arith in
    let run : ℕ → ℕ → ℕ → Run = λ (i j k : ℕ). record { ending = r.ending; rewrites = r.rewrites; entries = i; granted = j; kept = k; length = r.length } in
    ap₂ (λ (i j : ℕ). run i j (kept_count (0 + r.kept))) (low r.entries h.entries) (low r.granted h.granted)
    ∙ ap (run r.entries r.granted) (low r.kept h.kept)

-- a line's run by an open book
module _ {l : Limits} {book table ways schedule symbols scratch work cells order : List ℕ} {r : Run} (net : NetOf book table ways) (line : List ℕ) (t : Term)
    (read : read_line (book_by book ways) line ≡ accepted t) (few : l.units ≤ 8) (counts : Counts r)
    (ran : Ran book ways l schedule (E.first (book_by book ways) l line) symbols scratch work cells order r) where
  abbrev B : Book
  B = book_by book ways

  abbrev P : Parked
  P = begun B l.units t

  from_first : Ran book ways l schedule (from_zero P.state) symbols scratch work cells order r
  unfolding flat_start
  from_first =
      let (_, e, _, _) = line_correct B line t read in
      subst (λ (xs : List ℕ). Ran book ways l schedule (from_zero (flat_start (arity B) l.units xs)) symbols scratch work cells order r) (sym e) ran

  rules : PointRules B (limited l.budget) P.state
  unfolding parts
  rules =
      saved_point book (preorder t) (any_book book) (day_of ways) t net.tables.read (line_reads B line t read) l.budget l.units few [] P refl

  pub first_savable : l.budget < 2 ^ 32 → 1 ≤ l.units → SavableCut l r (arrays symbols work cells order)
  unfolding flat_start
  first_savable small some =
      subst (λ (z : Run). SavableCut l z (arrays symbols work cells order)) (first_counts l r counts)
      (λ c. part_savable P (none_yet l) refl refl refl from_first c (day_good book (any_book book) net.tables.read (day_of ways)) rules small some few)

  pub first_behind : (k : ℕ) (name : List ℕ) (day : ℕ) (points : List ℕ) →
      behind k (as_point name book day l.budget) points points (part B (limited l.budget) schedule P) ≡ behind_cut k name book day l r (arrays symbols work cells order) points points
  unfolding flat_start
  first_behind k name day points =
      behind_part P (none_yet l) refl refl refl from_first k name book day points points
      ∙ ap (λ (z : Run). behind_cut k name book day l z (arrays symbols work cells order) points points) (first_counts l r counts)

-- the name has a place, so it is short
pub placed_short : (name points : List ℕ) (k : ℕ) → place_checked name points ≡ accepted k → length name ≤ name_length
unfolding place_checked
placed_short name points k e = (points_ready name points (unless_accepted (points_fault name points) _ k e).0).short_name

-- THE ANSWER

read_on : (book rules symbols : List ℕ) (n : ℕ) {day : ℕ} (g : Given (book_of book rules) symbols n) → day ≡ day_in rules →
    read_line (on_day day (any_book book)) (take n symbols) ≡ accepted g.term
read_on book rules symbols n g d = subst (λ (i : ℕ). read_line (on_day i (any_book book)) (take n symbols) ≡ accepted g.term) (sym d) g.term_read

module _ {book table rules symbols schedule name work net points output : List ℕ} {units budget day n : ℕ} (f : Framed book units work net output) (tables : TablesOf book table rules)
    (d : day ≡ day_in rules) (g : Given (book_of book rules) symbols n) where
  -- the points' refusal
  pub unplaced : (k : Refusal) → place_checked name points ≡ refused (number k) →
      ParkedBy read_line book (take n symbols) units budget day schedule name work net points output work net points output (Err k)
  unplaced k e =
      let q : Request = request book (take n symbols) units budget day schedule work net output in
      refuses k (by_points read_line q name points (framed q f.faultless) (any_book book) tables.read g.term (read_on book rules symbols n g d) (number k) e)

  -- 14
  pub unnamed : {k : ℕ} → Placed k name points → all_below units schedule ≡ false →
      ParkedBy read_line book (take n symbols) units budget day schedule name work net points output work net points output (Err UnknownUnitInSchedule)
  unnamed {k} placed e =
      let q : Request = request book (take n symbols) units budget day schedule work net output in
      refuses UnknownUnitInSchedule (by_schedule read_line q name points (framed q f.faultless) (any_book book) tables.read g.term (read_on book rules symbols n g d) k placed.is e)

pub named : {l : Limits} {book table rules line schedule symbols scratch w cells order ways name work net points output work' net' points' output' : List ℕ} {day k : ℕ} {r : Run} →
    Framed book l.units work net output → l.units ≤ 8 → TablesOf book table rules → day ≡ day_in rules → all_below l.units schedule ≡ true → Built book table rules net ways →
    Posted (book_by book ways) line l schedule symbols r → Ran book ways l schedule (E.first (book_by book ways) l line) symbols scratch w cells order r → Counts r →
    Placed k name points → points' ≡ behind_cut k name book day l r (arrays symbols w cells order) points points →
    work' ≡ replicate (length work) 0 → LeftBy symbols r.length w ways output work' net' output' →
    ParkedBy read_line book line l.units l.budget day schedule name work net points output work' net' points' output' (Ok r)
named {l} {book} {rules = rules} {line} {schedule} {symbols} {ways = ways} {name = name} {work} {net} {points} {output} {work'} {net'} {points'} {output'} {day} {k} {r}
    f few tables d names built posted ran counts placed e z o =
    let B : Book = book_by book ways in
    let same : B ≡ on_day day (any_book book) = built.same_book ∙ ap (λ (i : ℕ). on_day i (any_book book)) (sym d) in
    let t : Term = posted.term in
    let read : read_line (on_day day (any_book book)) line ≡ accepted t = subst (λ (C : Book). read_line C line ≡ accepted t) same posted.term_read in
    let is : points' ≡ behind k (as_point name book day l.budget) points points (part (on_day day (any_book book)) (limited l.budget) schedule (begun (on_day day (any_book book)) l.units t)) =
    e ∙ sym (first_behind built.of_book line t posted.term_read few counts ran k name day points)
    ∙ ap (λ (C : Book). behind k (as_point name book day l.budget) points points (part C (limited l.budget) schedule (begun C l.units t))) same in
    accepts (any_book book) t k (framed (request book line l.units l.budget day schedule work net output) f.faultless) tables.read read placed.is names is
    (subst (λ (i : ℕ). R.Reduced book line l.units l.budget i schedule work net output work' net' output' (Ok r)) (sym d)
    (reduced f tables names built posted z o.net_zero o.handed))
