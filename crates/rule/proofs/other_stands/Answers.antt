-- `rule::other_stands` meets its contract. Assumes nothing.
use mathlib.Core.Bool.{Bool, true, not}
use mathlib.Core.Path.{◌≡◌, sym, ◌∙◌}
use Prim.Native.Nat.{ℕ, ◌<◌}
use native.Mathlib.Omega.{arith}
use lib.Dec.{eqb}
use borrow.Author.Tests.{eqb-false, not-true}
use Rattle.std.specs.Prelude.{Option, Some, None, unwrap_or}
use Rattle.std.specs.Option.{option_eq}
use Rattle.rule.proofs.Matches.{other_stands}
use Rattle.rule.proofs.other_stands.Goals as goal

differs : (w : ℕ) (x : Option ℕ) (r : Bool) → w < 256 → r ≡ not (option_eq eqb (Some w) x) → r ≡ true → w ≡ unwrap_or x 256 → ⊥
differs w None r l e t = λ g. omega arith
differs w (Some y) r l e t = eqb-false w y (not-true _ (sym e ∙ t))

pub returns-then-w-lt256 : goal.returns-then-w-lt256
returns-then-w-lt256 c =
    other_stands (unwrap_or c.args.x 256) _ c.nine-w.ensures c.requires (omega arith) (differs _ c.args.x _ (omega arith) c.ne.ensures)
