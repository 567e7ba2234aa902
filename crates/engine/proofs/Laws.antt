-- What a caller has of a run: nothing depends on what work area and net held; no run is refused by 6 (document 02, Change 4); an undated book ignores
-- the day (Change 5); the net's area has at most 65,536 bytes (Change 8). Assumes nothing.
use mathlib.Core.Bool.{false}
use mathlib.Core.List.{List}
use mathlib.Core.Logic.{◌≢◌}
use mathlib.Core.Path.{◌≡◌, refl, sym, ap, ap₂, ◌∙◌}
use Prim.Native.Nat.{ℕ, ◌≤◌}
use native.Mathlib.Omega.{arith}
use lib.ListN.{length, replicate}
use Rattle.paper.specs.Result.{Result, refused, accepted}
use Rattle.paper.specs.Dated.{is_dated}
use Rattle.paper.specs.Line.{read_line}
use Rattle.paper.specs.Text.{read_text}
use Rattle.paper.specs.Run.{Answer}
use Rattle.paper.specs.Page.{LineReader, answer_by}
use Rattle.paper.proofs.Dated.{day_ignored}
use Rattle.paper.proofs.Refusals.{answer_not_six, payee_not_six as text_not_six}
use Rattle.engine.specs.Spec.{Reply, published, request, values, values_of, answered_by, ReducedBy, Reduced, PayeeReduced}

-- LENGTHS

pub net_short : published.net ≤ 65536
net_short = omega arith

-- only the lengths of work area and net are asked with
same_answer : (read : LineReader) (book line : List ℕ) (units budget day : ℕ) (schedule work work₂ net net₂ output : List ℕ) → length work ≡ length work₂ →
    length net ≡ length net₂ → answered_by read book line units budget day schedule work net output ≡ answered_by read book line units budget day schedule work₂ net₂ output
same_answer read book line units budget day schedule work work₂ net net₂ output e f =
    ap₂ (λ (n m : ℕ). answer_by read published (record {
      book = book;
      line = line;
      units = units;
      budget = budget;
      day = day;
      schedule = schedule;
      work = n;
      net = m;
      output = length output;
    })) e f

module _ {read : LineReader} {book line : List ℕ} {units budget day : ℕ} {schedule work work₂ net net₂ output work' work₂' net' net₂' output' output₂' : List ℕ}
    {r r₂ : Reply} (long : length work ≡ length work₂) (net_long : length net ≡ length net₂)
    (one : ReducedBy read book line units budget day schedule work net output work' net' output' r)
    (two : ReducedBy read book line units budget day schedule work₂ net₂ output work₂' net₂' output₂' r₂) where
  abbrev same : answered_by read book line units budget day schedule work net output ≡ answered_by read book line units budget day schedule work₂ net₂ output
  same = same_answer read book line units budget day schedule work work₂ net net₂ output long net_long

  same_output : output' ≡ output₂'
  same_output = go (answered_by read book line units budget day schedule work net output) refl
    where
      go : (x : Result Answer) → answered_by read book line units budget day schedule work net output ≡ x → output' ≡ output₂'
      go (refused k) e = (one.unchanged k e).2 ∙ sym (two.unchanged k (sym same ∙ e)).2
      go (accepted A) e = one.written A e ∙ sym (two.written A (sym same ∙ e))

  -- two work areas and two nets of the same lengths: the same values, and the same output behind them
  pub forgets : (values r ≡ values r₂) × (output' ≡ output₂')
  forgets = (one.answer ∙ ap values_of same ∙ sym two.answer, same_output)

  -- and, if accepted, the same work area and net
  pub forgets_areas : (A : Answer) → answered_by read book line units budget day schedule work net output ≡ accepted A → (work' ≡ work₂') × (net' ≡ net₂')
  forgets_areas A e =
      let p = one.cleared A e in
      let q = two.cleared A (sym same ∙ e) in
      (p.0 ∙ ap (λ (n : ℕ). replicate n 0) long ∙ sym q.0, p.1 ∙ ap (λ (n : ℕ). replicate n 0) net_long ∙ sym q.1)

-- NEVER 6

module _ {book line : List ℕ} {units budget day : ℕ} {schedule work net output work' net' output' : List ℕ} {r : Reply} where
  never : (read : LineReader) → answered_by read book line units budget day schedule work net output ≢ refused 6 →
      ReducedBy read book line units budget day schedule work net output work' net' output' r → values r ≢ refused 6
  never read n h e = go (answered_by read book line units budget day schedule work net output) refl (sym h.answer ∙ e)
    where
      go : (x : Result Answer) → answered_by read book line units budget day schedule work net output ≡ x → values_of x ≡ refused 6 → ⊥
      go (refused k) f g = n (f ∙ cc)
      go (accepted A) f g = let z : ◌≡◌ {A = ℕ} 0 1 = cc in omega arith

  pub reduce_not_six : Reduced book line units budget day schedule work net output work' net' output' r → values r ≢ refused 6
  reduce_not_six = never read_line (answer_not_six published (request book line units budget day schedule work net output))

  pub payee_not_six : PayeeReduced book line units budget day schedule work net output work' net' output' r → values r ≢ refused 6
  payee_not_six = never read_text (text_not_six published (request book line units budget day schedule work net output))

-- ANSWERED ALIKE: two calls of which the definition answers the same, by two books or on two days, give the same values, and the same buffers behind them

module _ {read : LineReader} {book book₂ line : List ℕ} {units budget day day₂ : ℕ}
    {schedule work net output work' work₂' net' net₂' output' output₂' : List ℕ} {r r₂ : Reply}
    (same : answered_by read book line units budget day schedule work net output ≡ answered_by read book₂ line units budget day₂ schedule work net output)
    (one : ReducedBy read book line units budget day schedule work net output work' net' output' r)
    (two : ReducedBy read book₂ line units budget day₂ schedule work net output work₂' net₂' output₂' r₂) where
  pub answered_alike : (values r ≡ values r₂) × (work' ≡ work₂') × (net' ≡ net₂') × (output' ≡ output₂')
  answered_alike =
      let (w, n, o) = go (answered_by read book line units budget day schedule work net output) refl in
      (one.answer ∙ ap values_of same ∙ sym two.answer, w, n, o)
    where
      go : (x : Result Answer) → answered_by read book line units budget day schedule work net output ≡ x → (work' ≡ work₂') × (net' ≡ net₂') × (output' ≡ output₂')
      go (refused k) e =
          let p = one.unchanged k e in
          let q = two.unchanged k (sym same ∙ e) in
          (p.0 ∙ sym q.0, p.1 ∙ sym q.1, p.2 ∙ sym q.2)
      go (accepted A) e =
          let f = sym same ∙ e in
          let p = one.cleared A e in
          let q = two.cleared A f in
          (p.0 ∙ sym q.0, p.1 ∙ sym q.1, one.written A e ∙ sym (two.written A f))

-- any day, of an undated book
module _ {read : LineReader} {book line : List ℕ} {units budget day day₂ : ℕ} {schedule work net output work' work₂' net' net₂' output' output₂' : List ℕ} {r r₂ : Reply}
    (undated : is_dated book ≡ false) (one : ReducedBy read book line units budget day schedule work net output work' net' output' r)
    (two : ReducedBy read book line units budget day₂ schedule work net output work₂' net₂' output₂' r₂) where
  pub ignores_day : (values r ≡ values r₂) × (work' ≡ work₂') × (net' ≡ net₂') × (output' ≡ output₂')
  ignores_day =
      answered_alike (sym (day_ignored read published (request book line units budget day schedule work net output) undated day₂)) one two
