-- A point's run goes on: what the engine asks for, that what it leaves can be saved, and that answer and buffers are the definition's. Assumes nothing.
use mathlib.Core.List.{List, ◌++◌}
use mathlib.Core.Path.{◌≡◌, refl, sym, ap, ◌∙◌, subst}
use Prim.Native.Nat.{ℕ, ◌≤◌}
use native.Mathlib.Omega.{arith}
use lib.ListN.{length, take, drop, replicate}
use Rattle.paper.specs.Book.{Book}
use Rattle.paper.specs.Machine as paper
use Rattle.paper.specs.WellFormed.{GoodBook}
use Rattle.paper.specs.Dated.{on_day}
use Rattle.paper.proofs.BookBytes.{longest_book}
use Rattle.paper.proofs.Dated.{day_good}
use Rattle.flat.specs.Machine.{FlatState}
use Rattle.flat.specs.Run.{FlatAnswer}
use Rattle.flat.specs.Meets.{PointRules}
use Rattle.flat.specs.Parts.{Parked, part, resume}
use Rattle.flat.proofs.Points.{point_forks}
use Rattle.symbol.specs.Record.{operator, operators}
use Rattle.symbol.proofs.Record.{front_length}
use Rattle.tables.specs.Tables.{any_book}
use Rattle.term.specs.Present.{length_in, operators_in}
use Rattle.net.specs.Layout.{day_of}
use Rattle.net.specs.Net.{book_by}
use Rattle.insertion.specs.Promises.{Built}
use Rattle.whole.specs.declared.Limits.{Limits}
use Rattle.entry.specs.State as E
use Rattle.entry.specs.State.{limited}
use Rattle.run.specs.Promises.{begun, answer, Ran}
use Rattle.run.specs.declared.Run.{Run}
use Rattle.engine.specs.Spec.{Values, run_values}
use Rattle.engine.specs.Promises as R
use Rattle.engine.proofs.Frame.{Frame, frame_of}
use Rattle.point.specs.declared.Numbers.{Numbers}
use Rattle.point.specs.Saved.{Arrays, arrays, saved}
use Rattle.parking.specs.Form.{slot_length}
use Rattle.parking.specs.Points.{Found, put, as_point, behind}
use Rattle.points.specs.Spec.{flat_values}
use Rattle.points.specs.Promises.{added, SavableCut, behind_cut, LeftBy}
use Rattle.points.proofs.Part.{part_answer, part_savable, behind_part}
use Rattle.resumption.specs.Promises.{PointIn, Asked, found, its_book, goes_on, GoneOn}

module _ {book table rules : List ℕ} {day : ℕ} {x : Numbers} {symbols work cells order : List ℕ} (p : PointIn book table rules day x (arrays symbols work cells order)) where
  abbrev a : Arrays
  a = arrays symbols work cells order

  abbrev l : Limits
  l = record { units = x.units; budget = x.budget }

  abbrev L : paper.Limits
  L = limited x.budget

  -- where the run was parked, and from where its part counts
  abbrev P : Parked
  P = (saved x a).parked

  abbrev s : FlatState
  s = E.state symbols work cells order (begun x.rewrites) l

  pub short : length book ≤ 65536
  short = let h = longest_book book (any_book book) p.tables.read in omega (arith, h)

  module _ {net ways : List ℕ} (built : Built book table rules net ways) where
    abbrev B : Book
    B = book_by book ways

    good : GoodBook B
    good = day_good book (any_book book) p.tables.read (day_of ways)

    keeps : PointRules B L P.state
    keeps = subst (λ (C : Book). PointRules C L P.state) (sym built.same_book) p.keeps

    module _ {schedule output : List ℕ} (q : Asked x.units schedule work net output) where
      frame : Frame 1 (length work) (length net) (length output)
      frame = frame_of q.faultless

      -- WHAT THE ENGINE ASKS
      pub going : {scratch : List ℕ} → length scratch ≡ 1024 →
          E.Arrays symbols scratch work cells order l × R.Opened book table ways × PointRules B L s × R.Asked l schedule (length work)
      going long = (
        record {
          symbols_long = p.standing.sized.long;
          scratch_long = long;
          most = p.standing.sized.most;
          fit = p.standing.fit;
          order_fits = p.standing.order_fits;
          few = p.standing.few_units;
        },
        record { netted = built.of_book; short = short },
        point_forks B good L P.state 0 0 keeps,
        record { some_units = p.standing.some_units; few = p.standing.few_units; named = q.named; small = p.small; long = frame.work_long },
      )

      -- BEHIND THE PART r, with what was counted before
      module _ {symbols' scratch work' cells' order' : List ℕ} {r : Run} (ran : Ran book ways l schedule s symbols' scratch work' cells' order' r) (run : Run) (e : run ≡ added x r) where
        abbrev a' : Arrays
        a' = arrays symbols' work' cells' order'

        pub savable : SavableCut l run a'
        savable =
            subst (λ (z : Run). SavableCut l z a') (sym e)
            (λ c. part_savable P x refl refl refl ran c good keeps p.small p.standing.some_units p.standing.few_units)

        pub present : (length symbols' ≡ 1024) × (run.length ≤ 1024) × (1024 ≤ length output)
        present = (ran.bounded.long, (let m = ran.bounded.most in let n = ap (λ (z : Run). z.length) e in omega (arith, m, n)), frame.output_long)

        module _ (k : ℕ) (name points : List ℕ) where
          abbrev there : Found
          there = found k name book day x a

          same : B ≡ its_book schedule there
          same = built.same_book ∙ ap (λ (d : ℕ). on_day d (any_book book)) p.day_is

          whole : answer (added x r) symbols' ≡ goes_on schedule there
          whole = part_answer P x refl refl refl ran ∙ ap (λ (C : Book). resume C L schedule P) same

          long : length (operators_in symbols') ≡ length_in symbols'
          long = front_length operator (length_in symbols') symbols' (let m = ran.bounded.most in let n = ran.bounded.root in let z = ran.bounded.long in omega (arith, m, n, z))

          values_are : run_values (added x r) ≡ flat_values (goes_on schedule there)
          values_are =
              let v : Values = run_values (added x r) in
              ap (λ (n : ℕ). record { ending = v.ending; rewrites = v.rewrites; entries = v.entries; granted = v.granted; kept = v.kept; length = n }) (ran.bounded.root ∙ sym long)
              ∙ ap flat_values whole

          pub gone_on : {points' work'' net'' output'' : List ℕ} → points' ≡ behind_cut k name book day l run a' points (put k (replicate slot_length 0) points) →
              LeftBy symbols' run.length work' ways output work'' net'' output'' → length work' ≡ length work →
              GoneOn schedule there work net points output work'' net'' points' output'' run
          gone_on {points'} {work''} {net''} {output''} =
              subst (λ (z : Run). points' ≡ behind_cut k name book day l z a' points (put k (replicate slot_length 0) points) →
              LeftBy symbols' z.length work' ways output work'' net'' output'' → length work' ≡ length work →
              GoneOn schedule there work net points output work'' net'' points' output'' z) (sym e) (λ b o w. record {
                values_are = values_are;
                work_zero = o.work_zero ∙ ap (λ (n : ℕ). replicate n 0) w;
                net_zero = o.net_zero ∙ ap (λ (n : ℕ). replicate n 0) built.long;
                points_are =
                    b
                    ∙ sym (behind_part P x refl refl refl ran k name book day points (put k (replicate slot_length 0) points))
                    ∙ ap (λ (C : Book). behind k (as_point name book day x.budget) points (put k (replicate slot_length 0) points) (part C L schedule P)) same;
                written =
                    o.handed
                    ∙ ap (λ (n : ℕ). operators (take n symbols') ++ drop n output) ran.bounded.root
                    ∙ ap (λ (n : ℕ). operators_in symbols' ++ drop n output) (sym long)
                    ∙ ap (λ (z : FlatAnswer). z.symbols ++ drop (length z.symbols) output) whole;
              })
