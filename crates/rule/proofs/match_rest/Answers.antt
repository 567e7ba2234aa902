-- Answers of `match_rest`. Assumes nothing.
use mathlib.Core.Logic.{inl, inr}
use mathlib.Core.Path.{refl}
use native.Mathlib.Omega.{arith}
use Rattle.rule.proofs.Matches.{ended, stopped, went}
use Rattle.rule.proofs.match_rest.Goals as goal

pub loop-init : goal.loop-init
loop-init c =
    let p = c.requires in
    (omega arith, p.1.inside, p.2, λ b r a. a)

pub match_one-requires : goal.match_one-requires
match_one-requires c =
    let p = c.requires in
    (p.0, record { long = p.1.long; most = p.1.most; true_sizes = p.1.true_sizes; inside = c.loop.invariant.1 }, c.loop.invariant.2)

pub returns-in_err-taken : goal.returns-in_err-taken
returns-in_err-taken c =
    rw c.from_residual.ensures (c.loop.invariant.3 _ _ (stopped (omega arith) c.in_err-taken.ensures), tt)

pub overflow_add-owed : goal.overflow_add-owed
overflow_add-owed c =
    let m = c.in_ok-taken.ensures.arity in omega arith

pub overflow_add-q : goal.overflow_add-q
overflow_add-q c =
    let m = c.in_ok-taken.ensures.end in omega arith

pub loop-preserved : goal.loop-preserved
loop-preserved c =
    let s = c.in_ok-taken.ensures in
    let m = s.arity in (
      omega arith,
      s.end,
      s.bound_within,
      λ b r a. c.loop.invariant.3 b r (went (omega arith) s refl (omega arith) a),
    )

pub returns-then-owed-eq0 : goal.returns-then-owed-eq0
returns-then-owed-eq0 c =
    let i = c.loop.invariant in
    (i.3 _ _ (ended (inl c.if-owed-eq0.true)), (i.2.within, i.1))

pub returns-after-loop : goal.returns-after-loop
returns-after-loop c = let i = c.loop.invariant in (i.3 _ _ (ended (inr (omega arith))), (i.2.within, i.1))
