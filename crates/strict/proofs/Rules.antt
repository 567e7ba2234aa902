-- What is found rule by rule, or operator by operator, is what the definitions say of all. Assumes nothing.
use Rattle.std.proofs.Common.{Some, None}
use mathlib.Core.Bool.{Bool, true, false, not}
use mathlib.Core.List.{List, [], ◌∷◌}
use mathlib.Core.Option.{none, some}
use mathlib.Core.Path.{◌≡◌, refl, sym, ap, ◌∙◌}
use Prim.Native.Nat.{ℕ, suc, ◌+◌, ◌≤◌, ◌<◌}
use native.Mathlib.Numerals.{add-one}
use native.Mathlib.Omega.{arith}
use lib.Dec.{eqb}
use lib.ListN.{length, drop, drop_of_length-le}
use lib.Seq.{drop-cons}
use Rattle.paper.specs.Book.{Operator, Rule, operator_at}
use Rattle.paper.specs.Strict.{linear, all_linear, has_constant, compatible, overlap_with, overlap_from, overlap_of, told}
use Rattle.tables.specs.Tables.{rule_at}
use Rattle.apart.specs.Rows.{apart_in, Rows}
use Rattle.strict.specs.Promises.{Second, FirstPair}

-- LEFT SIDES

module _ (rs : List Rule) (i : ℕ) where
  module _ (l : i < length rs) where
    pub linear_next : linear (rule_at rs i) ≡ true → all_linear (drop i rs) ≡ all_linear (drop (i + 1) rs)
    unfolding all_linear
    linear_next e = rw (add-one i, drop-cons rs i (rule_at [] 0), all_linear, e)

    pub linear_stops : linear (rule_at rs i) ≡ false → all_linear (drop i rs) ≡ false
    unfolding all_linear
    linear_stops e = rw (drop-cons rs i (rule_at [] 0), all_linear, e)

  pub linear_ends : length rs ≤ i → all_linear (drop i rs) ≡ true
  unfolding all_linear
  linear_ends l = rw (drop_of_length-le rs l)

-- OPERATORS

module _ (ops : List Operator) (o : ℕ) where
  module _ (l : o < length ops) where
    pub constant_next : eqb (operator_at ops o).arity 0 ≡ false → has_constant (drop o ops) ≡ has_constant (drop (o + 1) ops)
    unfolding has_constant
    constant_next e = rw (add-one o, drop-cons ops o (operator_at [] 0), has_constant, e)

    pub constant_found : eqb (operator_at ops o).arity 0 ≡ true → has_constant (drop o ops) ≡ true
    unfolding has_constant
    constant_found e = rw (drop-cons ops o (operator_at [] 0), has_constant, e)

  pub constant_none : length ops ≤ o → has_constant (drop o ops) ≡ false
  unfolding has_constant
  constant_none l = rw (drop_of_length-le ops l)

-- PAIRS

-- what the rows say of a pair
module _ {rs : List Rule} {rows : List ℕ} (h : Rows rs rows) {i j : ℕ} (k : i < length rs) (l : j < length rs) where
  other : (b c : Bool) → b ≡ not c → c ≡ not b
  other true false e = refl
  other false true e = refl
  other true true e = e
  other false false e = e

  pub compatible_by : (r : Bool) → r ≡ apart_in rows i j → compatible (rule_at rs i).left (rule_at rs j).left ≡ not r
  compatible_by r e = other r _ (e ∙ h.each i j k l)

module _ (rs : List Rule) (i j : ℕ) where
  module _ (l : j < length rs) where
    pub with_next : compatible (rule_at rs i).left (rule_at rs j).left ≡ false →
        overlap_with (rule_at rs i).left j (drop j rs) ≡ overlap_with (rule_at rs i).left (j + 1) (drop (j + 1) rs)
    unfolding overlap_with
    with_next e = rw (add-one j, drop-cons rs j (rule_at [] 0), overlap_with, e)

    pub with_found : compatible (rule_at rs i).left (rule_at rs j).left ≡ true → overlap_with (rule_at rs i).left j (drop j rs) ≡ some j
    unfolding overlap_with
    with_found e = rw (drop-cons rs j (rule_at [] 0), overlap_with, e)

  pub with_none : length rs ≤ j → overlap_with (rule_at rs i).left j (drop j rs) ≡ none
  unfolding overlap_with
  with_none l = rw (drop_of_length-le rs l)

module _ (i : ℕ) (r : Rule) (rs : List Rule) where
  from_clear : overlap_with r.left (suc i) rs ≡ none → overlap_from i (r ∷ rs) ≡ overlap_from (suc i) rs
  unfolding overlap_from
  from_clear e = rw (e, overlap_from)

  from_pair : (j : ℕ) → overlap_with r.left (suc i) rs ≡ some j → overlap_from i (r ∷ rs) ≡ some (record { first = i; second = j })
  unfolding overlap_from
  from_pair j e = rw (e, overlap_from)

module _ (rs : List Rule) (i : ℕ) where
  module _ (l : i < length rs) where
    pub from_next : overlap_with (rule_at rs i).left (i + 1) (drop (i + 1) rs) ≡ none → overlap_from i (drop i rs) ≡ overlap_from (i + 1) (drop (i + 1) rs)
    from_next e =
        ap (overlap_from i) (drop-cons rs i (rule_at [] 0) l) ∙ from_clear i (rule_at rs i) (drop (suc i) rs) (rw (add-one i) at e) ∙ rw (add-one i)

    pub from_found : (j : ℕ) → overlap_with (rule_at rs i).left (i + 1) (drop (i + 1) rs) ≡ some j →
        overlap_from i (drop i rs) ≡ some (record { first = i; second = j })
    from_found j e = ap (overlap_from i) (drop-cons rs i (rule_at [] 0) l) ∙ from_pair i (rule_at rs i) (drop (suc i) rs) j (rw (add-one i) at e)

  pub from_none : length rs ≤ i → overlap_from i (drop i rs) ≡ none
  unfolding overlap_from
  from_none l = rw (drop_of_length-le rs l)

-- the rules from i on decide
abbrev pub Decides : List ℕ → ℕ → ℕ → Type 0
Decides rows m i = (rs : List Rule) → Rows rs rows → length rs ≡ m → overlap_of rs ≡ overlap_from i (drop i rs)

module _ {rows : List ℕ} {m i : ℕ} (d : Decides rows m i) where
  pub decides_next : i < m → Second rows i m None → Decides rows m (i + 1)
  decides_next l s rs h e = d rs h e ∙ from_next rs i (omega arith) (sym (s.is rs h e))

  pub pair_first : (j a b : ℕ) → i < m → Second rows i m (Some j) → a ≡ i → b ≡ j → FirstPair rows m (Some (a, b))
  unfolding told
  pair_first j a b l s p q = record { is = λ rs h e. rw (p, q, d rs h e, from_found rs i (omega arith) j (sym (s.is rs h e))) }

  pub pair_none : m ≤ i → FirstPair rows m None
  unfolding told
  pair_none l = record { is = λ rs h e. rw (d rs h e, from_none rs i (omega arith)) }
