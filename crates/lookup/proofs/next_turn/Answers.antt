-- `lookup::next_turn` meets its contract. Assumes nothing.
use mathlib.Core.Path.{◌≡◌, refl, ap}
use borrow.Author.Rules.{rules}
use Rattle.std.specs.Prelude.{Option, Some, None}
use Rattle.std.specs.Option.{MatchOption, IsSomeAnd, option_map}
use Rattle.lookup.proofs.Stacks.{turn_empty, turn_stacked, turn_visit}
use Rattle.lookup.proofs.next_turn.Goals as goal

mapped : {A B : Type 0} (f : A → B) (P : A → B → Type 0) (o : Option A) (r : Option B) → ((x : A) (y : B) → P x y → y ≡ f x) →
    MatchOption o (r ≡ None) (λ x. IsSomeAnd r (P x)) → r ≡ option_map f o
mapped f P None r g h = h
mapped f P (Some x) None g h = absurd h
mapped f P (Some x) (Some y) g h = ap Some (g x y h)

pub returns-then-height-eq0 : goal.returns-then-height-eq0
returns-then-height-eq0 c =
    turn_empty c.requires.0 _ _ _ _ c.if-height-eq0.true (mapped (λ m. m.rule) _ c.args.best c.map.result (λ m i h. search rules) c.map.ensures.cases) (rw c.limit.ensures) refl

pub visit-requires : goal.visit-requires
visit-requires c = let p = c.requires in (p.0, turn_stacked p.0 _ _ c.if-height-eq0.false p.1)

pub returns : goal.returns
returns c = turn_visit c.requires.0 _ _ _ _ _ _ c.if-height-eq0.false c.limit-2.ensures c.visit.ensures
