-- Operators: an arity and a strategy make what the paper's reader answers, the table grows by them, and n operators are read one by one.
-- Assumes nothing.
use mathlib.Core.List.{List, [], ◌∷◌, ◌++◌}
use mathlib.Core.Path.{◌≡◌, refl, sym, ap, ◌∙◌, subst}
use Prim.Native.Nat.{ℕ, ◌+◌, ◌≤◌, ◌<◌}
use native.Mathlib.Nat.{le_antisymm}
use native.Mathlib.Omega.{arith}
use lib.ListN.{length, set, length-append}
use Rattle.paper.specs.Result.{refused, Reader, return, ◌>>=◌, repeat}
use Rattle.paper.specs.Bits.{field}
use Rattle.paper.specs.Strategy.{Item, layout}
use Rattle.paper.specs.Book.{Operator}
use Rattle.paper.specs.Reader.{read_strategy, read_operator}
use Rattle.paper.proofs.Readers.{bind_return}
use Rattle.flat.proofs.Lengths.{few_steps}
use Rattle.bits.proofs.Reading.{Got}
use Rattle.tables.specs.Layout.{row, set_row}
use Rattle.strategy.specs.declared.Listed.{Listed}
use Rattle.strategy.specs.Promises.{StrategyAt, LaidOut}
use Rattle.strategy.proofs.Reading.{bind_refused, settled_items, strategy_refused, strategy_read}
use Rattle.side.specs.Promises.{bits_at}
use Rattle.book.specs.Promises.{OperatorTaken, OperatorsTaken}
use Rattle.std.specs.Prelude.{Ok, Err}
use Rattle.refusal.specs.declared.Refusal.{Refusal}
use Rattle.refusal.specs.Numbers.{number}
use Rattle.book.proofs.Readers.{bind_assoc, repeat_next, repeat_stops}
use Rattle.book.proofs.Grow.{operators_grow}

-- The reader with its strategy in one piece

unfoldable pub made : ℕ → List Item → Reader Operator
made a is = return (record { arity = a; strategy = is })

pub operator_strategy : {bytes : List ℕ} {at a p : ℕ} → Got bytes at 3 a p → read_operator (bits_at bytes at) ≡ ((field 1 >>= read_strategy a) >>= made a) (bits_at bytes p)
unfolding read_operator made
operator_strategy {bytes} {at} {a} {p} g =
    bind_return (field 3) _ (bits_at bytes at) (bits_at bytes p) a g.is
    ∙ sym (bind_assoc (field 1) (read_strategy a) (made a) (bits_at bytes p))

module _ {bytes : List ℕ} {at o : ℕ} {operators operators' : List ℕ} where
  pub operator_out : {e : Refusal} → field 3 (bits_at bytes at) ≡ refused (number e) → OperatorTaken bytes at o operators operators' (Err e)
  unfolding read_operator
  operator_out h = record { is = bind_refused (field 3) _ (bits_at bytes at) _ h }

  module _ {a p : ℕ} (g : Got bytes at 3 a p) {given : List ℕ} where
    pub operator_refused : {e : Refusal} → StrategyAt bytes p a given (Err e) → OperatorTaken bytes at o operators operators' (Err e)
    operator_refused {e} s = record {
      is =
          operator_strategy g
          ∙ bind_refused (field 1 >>= read_strategy a) (made a) (bits_at bytes p) (number e) (strategy_refused bytes p a given (Err e) s e refl);
    }

    pub operator_read : {l : Listed} {laid : List ℕ} → StrategyAt bytes p a given (Ok l) → LaidOut given l.len operators o laid → o < 255 →
        operators' ≡ set laid o a → OperatorTaken bytes at o operators operators' (Ok l.next)
    unfolding made
    operator_read {l} {laid} s w k f =
        let x = s.settled.1 in
        let op : Operator = record { arity = a; strategy = x.strategy } in
        record {
          is = (
            op,
            operator_strategy g ∙ bind_return (field 1 >>= read_strategy a) (made a) (bits_at bytes p) (bits_at bytes l.next) x.strategy
                (strategy_read bytes p a given (Ok l) s l refl x),
            operators_grow op o operators laid operators' k (few_steps op x.good)
                (w.is ∙ ap (λ (js : List Item). set_row operators o (row (layout js))) (settled_items a _ x)) w.table f,
          );
        }

-- One by one

module _ {bytes : List ℕ} {at : ℕ} {operators : List ℕ} where
  pub operators_none : length operators ≡ 4352 → OperatorsTaken bytes at 0 operators (Ok at)
  unfolding repeat
  operators_none e = record { are = ([], refl, (refl, record { each = λ o l. absurd (omega arith); long = e })) }

  pub operators_all : {o n p : ℕ} → o ≤ n → n ≤ o → OperatorsTaken bytes at o operators (Ok p) → OperatorsTaken bytes at n operators (Ok p)
  operators_all {p = p} h k = subst (λ (i : ℕ). OperatorsTaken bytes at i operators (Ok p)) (le_antisymm h k)

  module _ {o p : ℕ} {operators' : List ℕ} (h : OperatorsTaken bytes at o operators (Ok p)) where
    pub operators_next : {next : ℕ} → OperatorTaken bytes p o operators operators' (Ok next) → OperatorsTaken bytes at (o + 1) operators' (Ok next)
    operators_next {next} q =
        let (ops, are, (count, t)) = h.are in
        let (op, is, grow) = q.is in
        record {
          are = (
            ops ++ (op ∷ []),
            repeat_next read_operator o (bits_at bytes at) (bits_at bytes p) ops are op (bits_at bytes next) is,
            (length-append ops (op ∷ []) ∙ ap (λ (k : ℕ). k + 1) count, grow ops count t),
          );
        }

    pub operators_stop : {n : ℕ} {k : Refusal} → o < n → OperatorTaken bytes p o operators operators' (Err k) → OperatorsTaken bytes at n operators' (Err k)
    operators_stop {n} {k} l q =
        let (ops, are, t) = h.are in
        record { are = repeat_stops read_operator o (bits_at bytes at) (bits_at bytes p) ops are n (number k) l q.is }
