-- What a caller of `reduce` and `payee` has of a strict book (document 02, Change 13: "For a strict book any rearrangement of its rules gives the same
-- term, rewrites, entries and grants under the same schedule"): two calls by the two books answer the same values, refusals included, and leave the
-- same bytes in every lent buffer. Assumes nothing.
use mathlib.Core.List.{List}
use mathlib.Core.Path.{◌≡◌}
use Prim.Native.Nat.{ℕ}
use Rattle.paper.specs.Line.{read_line}
use Rattle.paper.specs.Text.{read_text}
use Rattle.paper.specs.Page.{LineReader}
use Rattle.paper.specs.Strict.{Verdict, strict_of, SameBooks}
use Rattle.paper.proofs.Rearranged.{ByOperators, line_by_operators, text_by_operators, answers_same}
use Rattle.engine.specs.Spec.{published, request, values, ReducedBy, Reduced, PayeeReduced}
use Rattle.engine.specs.Spec.{Reply}
use Rattle.engine.proofs.Laws.{answered_alike}

-- the same values, and the same work area, net and output behind them
module _ {book book₂ line : List ℕ} {units budget day : ℕ} {schedule work net output work' work₂' net' net₂' output' output₂' : List ℕ} {r r₂ : Reply}
    (strict : strict_of book ≡ Verdict.admitted) (same : SameBooks book book₂) where
  by_either : (read : LineReader) → ByOperators read → ReducedBy read book line units budget day schedule work net output work' net' output' r →
      ReducedBy read book₂ line units budget day schedule work net output work₂' net₂' output₂' r₂ →
      (values r ≡ values r₂) × (work' ≡ work₂') × (net' ≡ net₂') × (output' ≡ output₂')
  by_either read by one two =
      answered_alike (answers_same book book₂ strict same read by (request book line units budget day schedule work net output) published) one two

  pub reduce_free : Reduced book line units budget day schedule work net output work' net' output' r →
      Reduced book₂ line units budget day schedule work net output work₂' net₂' output₂' r₂ →
      (values r ≡ values r₂) × (work' ≡ work₂') × (net' ≡ net₂') × (output' ≡ output₂')
  reduce_free = by_either read_line line_by_operators

  pub payee_free : PayeeReduced book line units budget day schedule work net output work' net' output' r →
      PayeeReduced book₂ line units budget day schedule work net output work₂' net₂' output₂' r₂ →
      (values r ≡ values r₂) × (work' ≡ work₂') × (net' ≡ net₂') × (output' ≡ output₂')
  payee_free = by_either read_text text_by_operators
