-- The operators' table grows by an entry at its end. Assumes nothing.
use mathlib.Core.List.{List, [], ◌∷◌, ◌++◌}
use mathlib.Core.Path.{◌≡◌, ap, ◌∙◌}
use Prim.Native.Nat.{ℕ, ◌+◌, ◌*◌, ◌≤◌, ◌<◌}
use native.Mathlib.Omega.{arith}
use lib.ListN.{length, set, take, length-set, get_or-append}
use lib.Seq.{get_or-take, get_or-set_same, get_or-set_other, drop-set-lt, length-take-le}
use Rattle.paper.specs.Strategy.{layout}
use Rattle.paper.specs.Book.{Operator}
use Rattle.tables.specs.Layout.{row, arity_in, row_in, set_row}
use Rattle.tables.specs.Tables.{OperatorIn, Operators}
use Rattle.tables.proofs.Rows.{row_length, row_set, row_other}
use Rattle.tables.proofs.Grow.{snoc_each}

-- OPERATORS

-- the arities stand before the rows
arity_kept : (operators : List ℕ) (o : ℕ) (r : List ℕ) (q : ℕ) → length operators ≡ 4352 → o < 256 → q < 256 →
    arity_in (set_row operators o r) q ≡ arity_in operators q
unfolding set_row
arity_kept operators o r q h k l =
    let front : length (take (256 + 16 * o) operators) ≡ 256 + 16 * o = length-take-le (256 + 16 * o) operators (omega arith) in
    get_or-append (take (256 + 16 * o) operators) _ 0 q (omega arith) ∙ get_or-take (256 + 16 * o) operators q 0 (omega arith)

row_kept : (operators : List ℕ) (o a q : ℕ) → o < 256 → row_in (set operators o a) q ≡ row_in operators q
row_kept operators o a q l = ap (take 16) (drop-set-lt (256 + 16 * q) operators o a (omega arith))

pub operators_grow : (op : Operator) (o : ℕ) (operators laid operators' : List ℕ) → o < 255 → length (layout op.strategy) ≤ 15 →
    laid ≡ set_row operators o (row (layout op.strategy)) → length laid ≡ 4352 → operators' ≡ set laid o op.arity →
    (ops : List Operator) → length ops ≡ o → Operators ops operators → Operators (ops ++ (op ∷ [])) operators'
operators_grow op o operators laid operators' l short f long g ops count t =
    let r : List ℕ = row (layout op.strategy) in
    let e : length r ≡ 16 = row_length (layout op.strategy) (omega arith) in
    let h : length operators ≡ 4352 = t.long in
    record {
      each = snoc_each (record { arity = 0; strategy = [] }) ops op o
          (λ i a. OperatorIn a (arity_in operators i) (row_in operators i))
          (λ i a. OperatorIn a (arity_in operators' i) (row_in operators' i))
          count t.each
          (λ i a b p. record {
            arity_is =
                ap (λ (z : List ℕ). arity_in z i) g ∙ get_or-set_other laid o i op.arity 0 (λ q. omega arith)
                ∙ ap (λ (z : List ℕ). arity_in z i) f ∙ arity_kept operators o r i h (omega arith) (omega arith) ∙ p.arity_is;
            steps_are =
                ap (λ (z : List ℕ). row_in z i) g ∙ row_kept laid o op.arity i (omega arith)
                ∙ ap (λ (z : List ℕ). row_in z i) f ∙ row_other operators o r h (omega arith) e i (λ q. omega arith) ∙ p.steps_are;
          })
          (record {
            arity_is = ap (λ (z : List ℕ). arity_in z o) g ∙ get_or-set_same laid o op.arity 0 (omega arith);
            steps_are =
                ap (λ (z : List ℕ). row_in z o) g ∙ row_kept laid o op.arity o (omega arith)
                ∙ ap (λ (z : List ℕ). row_in z o) f ∙ row_set operators o r h (omega arith) e;
          });
      long = ap length g ∙ length-set laid o op.arity ∙ long;
    }
