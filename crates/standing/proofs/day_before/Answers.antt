-- `standing::day_before` meets its contract: the day is what the paper's reader of a field answers there. Assumes nothing.
use mathlib.Core.Path.{sym, ap, ◌∙◌}
use Prim.Native.Nat.{ℕ}
use native.Mathlib.Omega.{arith}
use Rattle.paper.specs.Result.{Read}
use Rattle.paper.proofs.Readers.{accepted_injective, refused_accepted}
use Rattle.paper.specs.Result.{return}
use Rattle.bits.proofs.Reading.{got, ran_out}
use Rattle.standing.proofs.day_before.Goals as goal

pub returns-in-Some : goal.returns-in-Some
unfolding return
returns-in-Some c =
    let g = got c.field.ensures c.in-Some.is in
    record {
      is = λ x xs e. c.offset.ensures.0 ∙ ap (λ (r : Read ℕ). r.value) (accepted_injective (sym g.is ∙ e));
      small = c.offset.ensures.1;
    }

pub returns-in-None : goal.returns-in-None
unfolding return
returns-in-None c = record {
  is = λ x xs e. absurd (refused_accepted (sym (ran_out c.field.ensures c.in-None.is) ∙ e));
  small = omega arith;
}
