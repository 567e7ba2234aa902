-- How long a schedule suffices, "for a resumed point that a run saved, counted from its first start", from bytes to bytes: a run in parts that is parked on lists is parked
-- on the paper, where the claim is proved. Assumes nothing.
use mathlib.Core.List.{List, [], ◌∷◌, ◌++◌, flatten as concat, append-nil}
use mathlib.Core.Logic.{◌⊎◌}
use mathlib.Core.Option.{Option, none, some, none-ne-some}
use mathlib.Core.Path.{◌≡◌, refl, sym, ◌∙◌, ap, subst}
use Prim.Native.Nat.{ℕ, ◌+◌, ◌≤◌}
use native.Mathlib.Omega.{arith}
use lib.ListN.{length}
use Rattle.paper.specs.Result.{accepted}
use Rattle.paper.specs.Tree.{preorder, Correct}
use Rattle.paper.specs.Book.{Term, Book, arity}
use Rattle.paper.specs.Dated.{on_day}
use Rattle.paper.specs.Machine.{State, Ending, Limits, in_force, start}
use Rattle.paper.specs.Run.{Answer, run_from_by, run_by, run}
use Rattle.paper.specs.OneUnit.{alone}
use Rattle.paper.specs.Parts as Paper
use Rattle.paper.specs.Enough.{Names, sufficient, Enough}
use Rattle.paper.specs.Page.{Request, Lengths}
use Rattle.paper.specs.Sound.{All, Sound}
use Rattle.paper.proofs.Books.{good_book_sound}
use Rattle.paper.proofs.Dated.{day_good}
use Rattle.paper.proofs.Enough.{most_over_parts, enough}
use Rattle.paper.proofs.Idle.{longest_idle}
use Rattle.paper.proofs.Line.{line_correct}
use Rattle.paper.proofs.Parts.{parts_parked_by, parts_run_by}
use Rattle.flat.specs.Machine.{FlatState, flat_start}
use Rattle.flat.specs.Run.{FlatAnswer, flat_run_from, flatten}
use Rattle.flat.specs.Parts.{flat_parked, Parked, again, part, parts, resume}
use Rattle.flat.proofs.Parts.{parts_run, ParkedBoth, line_parked}
use Rattle.flat.proofs.Steps.{Settled, good_settled}
use Rattle.parking.specs.Form.{limits}
use Rattle.parking.specs.Points.{areas_fault, After, begun, resume_of}
use Rattle.parking.specs.Change14.{FirstStart, carried_in, EnoughResumed, EnoughSince}
use Rattle.parking.proofs.Endings.{resume_cut}
use Rattle.parking.proofs.Checks.{unless_accepted}
use Rattle.parking.proofs.Unbroken.{InParts, in_parts}

module _ (B : Book) (sound : Sound B) (settled : Settled B) (L : Limits) (units : ℕ) (t : Term) (c : Correct (arity B) t) where
  -- what is parked on lists over some entries is parked on the paper
  part_paper : (us : List ℕ) (Q : Parked) → part B L us (begun B units t) ≡ some Q → (s : State) × (Paper.parked_by in_force B L us (start units t) ≡ some s)
  unfolding part Paper.parked
  part_paper us Q e =
      go (flat_parked B L us (flat_start (arity B) units (preorder t))) (Paper.parked_by in_force B L us (start units t)) e (line_parked B sound settled L units t c us)
    where
      go : (x : Option FlatState) (y : Option State) → again (0 + length us) x ≡ some Q → ParkedBoth B x y → (s : State) × (y ≡ some s)
      go none y e p = unfold again in absurd (none-ne-some _ e)
      go (some f) none e p = absurd p
      go (some f) (some s) e p = (s, refl)

  -- and so over several parts
  parts_paper : (uss : List (List ℕ)) (Q : Parked) → parts B L uss (begun B units t) ≡ some Q → (s : State) × (Paper.parked_parts_by in_force B L uss (start units t) ≡ some s)
  parts_paper uss Q e =
      let P : Parked = begun B units t in
      let cut : (resume B L (concat uss) P).ending ≡ Ending.cut =
      ap (λ (us : List ℕ). (resume B L us P).ending) (sym (append-nil (concat uss))) ∙ ap (λ (A : FlatAnswer). A.ending) (sym (parts_run B L uss [] P Q e))
      ∙ (unfold resume flat_run_from in refl) in
      let (R, p) = resume_cut B L (concat uss) P cut in
      let (s, q) = part_paper (concat uss) R p in
      (s, parts_parked_by in_force B L uss (start units t) ∙ q)

-- THE CLAIM of a run in parts, the last of them with the schedule vs
module _ (q : Request) (B : Book) (sound : Sound B) (settled : Settled B) (t : Term) (c : Correct (arity B) t) (some_unit : 1 ≤ q.units) (before : List (List ℕ)) (Q : Parked)
    (parked : parts B (limits q.budget) before (begun B q.units t) ≡ some Q) (vs : List ℕ) (n : ℕ) (fin : (alone B q.budget t n).ending ≡ Ending.finished) where
  abbrev L : Limits
  L = limits q.budget

  claim : Enough B q.budget t n in_force L.symbols q.units
  claim = enough B sound t c q.budget n fin in_force longest_idle L.symbols q.units

  abbrev Uncut : Ending → Type 0
  Uncut e = (e ≡ Ending.finished) ⊎ (e ≡ Ending.full)

  rounded : (rs : List (List ℕ)) → vs ≡ concat rs → All (Names q.units) rs → sufficient B q.budget t n ≤ carried_in q B t before + length rs →
      Uncut (run B L q.units (concat before ++ vs) t).ending
  unfolding run run_by
  rounded rs v a le =
      let (s, p) = parts_paper B sound settled L q.units t c before Q parked in
      let z : 0 + length (concat before) ≡ length (concat before) = omega arith in
      let on : run_from_by in_force B L (length (concat before)) (concat rs) s ≡ run B L q.units (concat before ++ vs) t =
      ap (λ (m : ℕ). run_from_by in_force B L m (concat rs) s) (sym z) ∙ parts_run_by in_force B L before (concat rs) 0 (start q.units t) s p
      ∙ ap (λ (us : List ℕ). run B L q.units (concat before ++ us) t) (sym v) in
      subst Uncut (ap (λ (A : Answer). A.ending) on) (claim.resumed some_unit before s p rs a le)

  enough_resumed : (e : Ending) → e ≡ (run B L q.units (concat before ++ vs) t).ending → EnoughResumed q B t n before vs e
  enough_resumed e same = record {
    most = claim.most_parts (before ++ (vs ∷ []));
    sharp = omega (arith, most_over_parts B sound t c q.budget n fin in_force longest_idle L.symbols q.units (before ++ (vs ∷ [])));
    rounds = λ rs v a le. subst Uncut (sym same) (rounded rs v a le);
  }

-- by the book and the line of its first start
since : {published : Lengths} {name last : List ℕ} (f : FirstStart published name last) (vs : List ℕ) (y : After FlatAnswer) → InParts f.read f.asked f.schedules vs y →
    EnoughSince f vs y.answer.ending
unfolding flatten
since f vs y p =
    let q = f.asked in
    let B = on_day q.day p.given in
    let g = day_good q.book p.given p.book_read q.day in
    let c = (line_correct B (preorder p.term) p.term (f.reads B q.line p.term p.line_read)).0 in
    record {
      given = p.given;
      term = p.term;
      book_read = p.book_read;
      line_read = p.line_read;
      enough = λ n fin.
          enough_resumed q B (good_book_sound B g) (good_settled B g) p.term c p.some_unit (q.schedule ∷ f.schedules) p.parked p.is_parts vs n fin
          y.answer.ending (ap (λ (A : FlatAnswer). A.ending) p.same);
    }

-- WHAT CHANGE 14 SAYS of a resumption that is accepted
pub enough_since : (published : Lengths) (name last : List ℕ) (f : FirstStart published name last) (work net output : ℕ) (vs : List ℕ) (y : After FlatAnswer) →
    resume_of published work net output vs name last ≡ accepted y → EnoughSince f vs y.answer.ending
unfolding resume_of
enough_since published name last f work net output vs y e =
    let (lent, _) = unless_accepted (areas_fault published work net output) _ y e in
    since f vs y
    (in_parts f.read f.reads published f.asked f.small name f.points f.after f.ran f.cut last f.schedules f.between work net output lent vs y e)
