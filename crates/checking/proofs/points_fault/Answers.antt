-- `checking::points_fault` meets its contract: the faults in their order. Assumes nothing.
use mathlib.Core.Bool.{false≢true}
use mathlib.Core.Path.{sym, ◌∙◌, subst}
use Rattle.paper.proofs.Tests.{eqb_true, eqb_equal}
use Rattle.names.specs.Promises.{NamesDiffer}
use Rattle.checking.specs.Promises.{SlotsJudged}
use Rattle.checking.proofs.Answers.{short, broken, twice, nameless, long_name, faultless}
use Rattle.checking.proofs.points_fault.Goals as goal
use Rattle.checking.proofs.points_fault.Goals.{then-is_empty-via-then-is_empty, then-is_empty-via-else-is_empty+then-name-gt16, then-not-slots_good-via-then-not-slots_good, then-not-slots_good-via-else-not-slots_good+then-not-names_differ}

pub returns-then-points-lt-POINTS : goal.returns-then-points-lt-POINTS
returns-then-points-lt-POINTS c = short _ _ c.if-points-lt-POINTS.true

pub returns-then-not-slots_good : goal.returns-then-not-slots_good
returns-then-not-slots_good c =
    elim c.then-not-slots_good.branch [
      | then-not-slots_good-via-then-not-slots_good w ↦ broken _ _ c.if-points-lt-POINTS.false (subst (SlotsJudged _) w.if-not-slots_good.true c.slots_good.ensures)
      | then-not-slots_good-via-else-not-slots_good+then-not-names_differ w ↦
          twice _ _ c.if-points-lt-POINTS.false (subst (SlotsJudged _) w.if-not-slots_good.false c.slots_good.ensures)
          (subst (NamesDiffer _) w.if-not-names_differ.true w.names_differ.ensures)
    ]

pub returns-then-is_empty : goal.returns-then-is_empty
returns-then-is_empty c =
    let j = subst (SlotsJudged _) c.if-not-slots_good.false c.slots_good.ensures in
    let d = subst (NamesDiffer _) c.if-not-names_differ.false c.names_differ.ensures in
    elim c.then-is_empty.branch [
      | then-is_empty-via-then-is_empty w ↦ nameless _ _ c.if-points-lt-POINTS.false j d (eqb_equal _ _ (sym c.is_empty.ensures ∙ w.if-is_empty.true))
      | then-is_empty-via-else-is_empty+then-name-gt16 w ↦ long_name _ _ c.if-points-lt-POINTS.false j d w.if-name-gt16.true
    ]

pub returns : goal.returns
returns c =
    faultless _ _ c.if-points-lt-POINTS.false (subst (SlotsJudged _) c.if-not-slots_good.false c.slots_good.ensures)
    (subst (NamesDiffer _) c.if-not-names_differ.false c.names_differ.ensures) (λ e. false≢true (sym c.if-is_empty.false ∙ c.is_empty.ensures ∙ eqb_true _ _ e)) c.if-name-gt16.false
