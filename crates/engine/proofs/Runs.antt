-- A run of a term by an open book, and a parked one that goes on: what run_schedule asks for, that what it leaves is the definition's answer, and how that answers a
-- line. Assumes nothing.
use mathlib.Core.Bool.{true, false}
use mathlib.Core.List.{List, ◌++◌, map}
use mathlib.Core.Option.{some}
use mathlib.Core.Path.{◌≡◌, refl, sym, ap, ap₂, ◌∙◌, subst}
use Prim.Native.Nat.{ℕ, ◌≤◌, ◌<◌}
use native.Mathlib.Omega.{arith}
use lib.ListN.{length, take, drop, replicate, length-set}
use lib.ListN.{set as put}
use lib.Seq.{get_or-set_same}
use borrow.Author.Tests.{le-ltb}
use Rattle.paper.specs.Result.{accepted}
use Rattle.paper.specs.Tree.{Correct, size, preorder}
use Rattle.paper.specs.Book.{Book, arity}
use Rattle.paper.specs.Machine.{in_force}
use Rattle.paper.specs.Run.{Answer, run, moments}
use Rattle.paper.specs.Line.{read_line}
use Rattle.paper.specs.Page.{all_below}
use Rattle.paper.specs.Sound.{All}
use Rattle.paper.proofs.Readers.{accepted_injective}
use Rattle.paper.proofs.Dated.{day_sound}
use Rattle.paper.proofs.Line.{line_correct}
use Rattle.paper.proofs.Trees.{size_preorder}
use Rattle.paper.proofs.Above.{helps}
use Rattle.paper.proofs.Change10.{change_10}
use Rattle.paper.proofs.Demand3.{demand_3, forks_within}
use Rattle.paper.proofs.Enough.{enough, most_orders}
use Rattle.paper.proofs.Idle.{longest_idle}
use Rattle.paper.proofs.Longest.{picks_longest}
use Rattle.paper.proofs.OneUnit.{grants, accounted}
use Rattle.paper.proofs.Queue.{queued_throughout}
use Rattle.flat.specs.Machine.{FlatState, with_placed, flat_start}
use Rattle.flat.specs.Meets.{PointRules}
use Rattle.flat.specs.Parts.{from_zero}
use Rattle.flat.specs.Rules.{spells}
use Rattle.flat.specs.Run.{FlatAnswer, flat_run, Reached, flatten}
use Rattle.flat.specs.Sizes as flat
use Rattle.flat.proofs.Run.{same_run_read}
use Rattle.flat.proofs.Sizes.{correct_spells}
use Rattle.symbol.specs.Record.{operator, operators}
use Rattle.symbol.proofs.Record.{front_length}
use Rattle.tables.specs.Layout.{arity_in, day_in}
use Rattle.tables.specs.Tables.{any_book, book_of, Operators, TablesOf}
use Rattle.term.specs.Present.{operators_in, marks_in, sizes_in}
use Rattle.term.specs.Promises as T
use Rattle.term.proofs.Skipping.{sizes_book, spells_book}
use Rattle.term.proofs.Sized.{loaded_length, loaded_operators, loaded_marks, loaded_sized}
use Rattle.net.specs.Layout.{day_of}
use Rattle.net.specs.Net.{book_by}
use Rattle.net.proofs.Laws.{tables_by}
use Rattle.insertion.specs.Promises.{Built}
use Rattle.placing.specs.Order.{pending_in, latest_first, OrderFits}
use Rattle.units.specs.Stacks.{store}
use Rattle.units.specs.Promises.{Started}
use Rattle.whole.specs.declared.Limits.{Limits}
use Rattle.entry.specs.State.{limited, state, Arrays}
use Rattle.run.specs.Promises as Run
use Rattle.run.specs.Promises.{begun, Runnable, Ran}
use Rattle.run.specs.declared.Run as R
use Rattle.std.specs.Prelude.{Ok}
use Rattle.engine.specs.Spec.{Values, values, values_of, request, Reduced}
use Rattle.engine.specs.Promises as C
use Rattle.engine.specs.Promises.{Framed, Opened, Given, Asked, Posted}
use Rattle.engine.proofs.Schedule.{named}
use Rattle.engine.proofs.Frame.{framed}
use Rattle.engine.proofs.Answers.{by_run, accepts}

-- an order of placing with no part in it
pub record Empty (order : List ℕ) : Type 0 where
  pub fits : OrderFits order
  pub none : pending_in order ≡ 0

pub emptied : (order : List ℕ) → length order ≡ 1024 → Empty (put order 0 0)
emptied order long =
    let e = get_or-set_same order 0 0 0 (omega (arith, long)) in
    record { fits = record { long = length-set order 0 0 ∙ long; few = omega (arith, e) }; none = e }

module _ {l : Limits} {schedule book table net bytes : List ℕ} {n work : ℕ} (o : Opened book table net) (g : Given (book_by book net) bytes n)
    (q : Asked l schedule work) where
  abbrev units : ℕ
  units = l.units

  abbrev budget : ℕ
  budget = l.budget

  abbrev B : Book
  B = book_by book net

  -- the bytes in front, which are a line
  abbrev line : List ℕ
  line = take n bytes

  table_is : Operators B.operators table
  table_is = (tables_by o.netted).operators_in

  -- they are a correct term's preorder, of known operators
  of_line : Correct (arity B) g.term × (preorder g.term ≡ line) × (length line ≤ 1024) × All (λ o. o < length B.operators) line
  of_line = line_correct B line g.term g.term_read

  -- one term, by the table's arities
  pub one_term : spells (arity_in table) 1 line ≡ true
  one_term =
      let (c, e, l, a) = of_line in
      spells_book B table_is 1 line a ∙ subst (λ (xs : List ℕ). spells (arity B) 1 xs ≡ true) e (correct_spells (arity B) g.term c)

  -- the machine's first state
  reached_first : Reached B (limited budget) (flat_start (arity B) units line)
  reached_first =
      let (c, e, l, a) = of_line in
      let z = size_preorder g.term in
      let h : size g.term ≤ 1024 = omega (arith, ap length e) in
      subst (λ (xs : List ℕ). Reached B (limited budget) (flat_start (arity B) units xs)) e (Reached.first units g.term c (le-ltb 1024 (size g.term) h))

  known_first : All (λ o. o < length B.operators) (flat_start (arity B) units line).symbols
  unfolding flat_start
  known_first = of_line.3

  -- behind load and start, with no part pending: the line's symbols, unmarked, with their sizes, and the units of the start, as many as there are
  module _ {symbols w cells order : List ℕ} (loaded : T.Loaded (arity_in table) line (map (λ o. false) line) n symbols) (started : Started (store w cells))
      (empty : Empty order) where
    abbrev first : FlatState
    first = state symbols w cells order (begun 0) l

    operators_are : operators_in symbols ≡ line
    operators_are = loaded_operators (arity_in table) line n symbols g.most one_term loaded

    marks_are : marks_in symbols ≡ map (λ o. false) line
    marks_are = loaded_marks (arity_in table) line n symbols g.most one_term loaded

    sizes_are : sizes_in symbols ≡ flat.sizes (arity B) line
    sizes_are =
        (loaded_sized (arity_in table) line n symbols g.most one_term loaded).true_sizes ∙ ap (flat.sizes (arity_in table)) operators_are
        ∙ sizes_book B table_is line of_line.3

    first_is : first ≡ flat_start (arity B) units line
    unfolding flat_start latest_first
    first_is =
        rw (operators_are, sizes_are, marks_are, started.units units q.some_units q.few) (ap (λ (k : ℕ). placing (latest_first order k)) empty.none)
      where
        placing : List ℕ → FlatState
        placing vs = with_placed (flat_start (arity B) units line) vs

    arrays : (scratch : List ℕ) → length scratch ≡ 1024 → Arrays symbols scratch w cells order l
    arrays scratch k = record {
      symbols_long = loaded.long;
      scratch_long = k;
      most = omega (arith, loaded_length (arity_in table) line n symbols g.most one_term loaded, g.most);
      fit = started.fit;
      order_fits = empty.fits;
      few = omega (arith, q.few);
    }

    runnable : Runnable book table net l schedule first
    runnable = record {
      running = record {
        netted = o.netted;
        short = o.short;
        reached = subst (Reached B (limited budget)) (sym first_is) reached_first;
        known = subst (λ (x : FlatState). All (λ o. o < length B.operators) x.symbols) (sym first_is) known_first;
      };
      named = named units schedule q.named;
      small = q.small;
    }

    pub ready : (scratch : List ℕ) → length scratch ≡ 1024 → Arrays symbols scratch w cells order l × Runnable book table net l schedule first
    ready scratch k = (arrays scratch k, runnable)

    pub ran_first : {symbols' scratch' w' cells' order' : List ℕ} {r : R.Run} → Ran book net l schedule first symbols' scratch' w' cells' order' r →
        Ran book net l schedule (C.first B l line) symbols' scratch' w' cells' order' r
    ran_first {symbols'} {scratch'} {w'} {cells'} {order'} {r} h =
        subst (λ (x : FlatState). Ran book net l schedule x symbols' scratch' w' cells' order' r) first_is h

  module _ {symbols' scratch' w' cells' order' : List ℕ} {r : R.Run} (ran : Ran book net l schedule (C.first B l line) symbols' scratch' w' cells' order' r) where
    abbrev A : Answer
    A = run B (limited budget) units schedule g.term

    -- the run's answer is the definition's
    answer_is : Run.answer r symbols' ≡ flatten A
    unfolding flat_run
    answer_is =
        ran.is
        ∙ same_run_read book line (any_book book) (day_of net) g.term o.netted.tables.read g.term_read (limited budget) units schedule

    term_is : operators (take r.length symbols') ≡ preorder A.term
    unfolding flatten
    term_is = ap (λ (k : ℕ). operators (take k symbols')) ran.bounded.root ∙ ap (λ (a : FlatAnswer). a.symbols) answer_is

    length_is : r.length ≡ length (preorder A.term)
    length_is = sym (front_length operator r.length symbols' (omega (arith, ran.bounded.most, ran.bounded.long))) ∙ ap length term_is

    rewrites_are : r.rewrites ≡ A.rewrites
    unfolding flatten
    rewrites_are = ap (λ (a : FlatAnswer). a.rewrites) answer_is

    entries_are : r.entries ≡ A.entries
    unfolding flatten
    entries_are = ap (λ (a : FlatAnswer). a.entries) answer_is

    -- the code's values are the answer's
    values_are : values (Ok r) ≡ values_of (accepted A)
    unfolding flatten
    values_are =
        ap₂ (λ (a : FlatAnswer) (n : ℕ).
        accepted (record { ending = a.ending; rewrites = a.rewrites; entries = a.entries; granted = a.granted; kept = a.kept; length = n })) answer_is length_is

    pub posted : Posted B line l schedule symbols' r
    unfolding run moments
    posted =
        let read = o.netted.tables.read in
        let d = demand_3 book line (any_book book) (day_of net) g.term read g.term_read units budget schedule in
        let sound = day_sound book (any_book book) read (day_of net) in
        record {
          term = g.term;
          term_read = g.term_read;
          answer = A;
          holds = record {
            is = refl;
            demand_3 = d;
            helps = helps book line (any_book book) (day_of net) g.term read g.term_read units budget schedule;
            queued = queued_throughout in_force B (limited budget) units schedule g.term;
            picks = picks_longest in_force B (limited budget) units schedule g.term;
            posting = d.posting;
            grants = grants B sound g.term of_line.0 (limited budget) units schedule;
            accounted = accounted B sound g.term of_line.0 (limited budget) units schedule;
            change_10 = change_10 book line (any_book book) (day_of net) g.term read g.term_read units budget schedule;
            enough = λ n fin. enough B sound g.term of_line.0 budget n fin in_force longest_idle (some 1024) units;
            sharp = λ n fin. omega (arith, most_orders B sound g.term of_line.0 budget n fin in_force longest_idle (some 1024) units schedule);
            allowed = omega (arith, rewrites_are, ran.bounded.allowed);
            used = omega (arith, entries_are, ran.bounded.used);
            forks_within = forks_within B sound g.term of_line.0 (limited budget) units schedule;
            fits = omega (arith, length_is, ran.bounded.most);
          };
          values_are = values_are;
          present = term_is;
          long = ran.bounded.long;
          most = ran.bounded.most;
        }

-- a line's run begins with nothing counted
pub first_zero : (B : Book) (l : Limits) (line : List ℕ) → from_zero (C.first B l line) ≡ C.first B l line
unfolding flat_start
first_zero B l line = refl

-- A PARKED RUN goes on from a point that meets the rules
pub resumable : {l : Limits} {schedule book table net : List ℕ} {s : FlatState} {work : ℕ} → Opened book table net →
    PointRules (book_by book net) (limited l.budget) s → Asked l schedule work → Runnable book table net l schedule s
resumable {l} {schedule} o p q = record {
  running = record { netted = o.netted; short = o.short; reached = Reached.resumed p.meets; known = p.known };
  named = named l.units schedule q.named;
  small = q.small;
}

-- THE ANSWER to a line: the run of its term by the net of the book's rules, behind which the present term was handed out and both areas cleared
pub reduced : {l : Limits} {book table rules line schedule symbols ways work net output work' net' output' : List ℕ} {r : R.Run} →
    Framed book l.units work net output → TablesOf book table rules → all_below l.units schedule ≡ true → Built book table rules net ways →
    Posted (book_by book ways) line l schedule symbols r → work' ≡ replicate (length work) 0 → net' ≡ replicate (length ways) 0 →
    output' ≡ operators (take r.length symbols) ++ drop r.length output →
    Reduced book line l.units l.budget (day_in rules) schedule work net output work' net' output' (Ok r)
reduced {l} {book} {rules = rules} {line} {schedule} {symbols} {work = work} {net} {output} {r = r} f tables names built ran e z o =
    let p : Posted (book_of book rules) line l schedule symbols r = subst (λ (C : Book). Posted C line l schedule symbols r) built.same_book ran in
    let length_is : r.length ≡ length (preorder p.answer.term) = ap (λ (v : Values). v.length) (accepted_injective p.values_are) in
    accepts
    (by_run read_line (request book line l.units l.budget (day_in rules) schedule work net output) (framed _ f.faultless) (any_book book) tables.read
    p.term p.term_read names ∙ ap accepted (sym p.holds.is))
    p.values_are
    (record {
      given = any_book book;
      rules = book_of book rules;
      term = p.term;
      book_read = tables.read;
      of_day = refl;
      line_read = p.term_read;
      units_named = names;
      holds = p.holds;
    })
    e (z ∙ ap (λ (k : ℕ). replicate k 0) built.long) (o ∙ ap₂ (λ (xs : List ℕ) (n : ℕ). xs ++ drop n output) p.present length_is)
