-- A side, symbol by symbol, and a rule: what the code answers is what the paper's reader answers. Assumes nothing.
use Rattle.std.proofs.Common.{◌≡◌, ℕ, zero, suc, ◌+◌, ◌-◌, ◌<◌, Bool, true, false, List, [], ◌∷◌, ◌++◌, sym, refl, ap, ◌∙◌, append-nil, add-zero, arith}
use Rattle.tables.specs.Layout.{arity_in}
use Rattle.paper.specs.Result.{Result, refused, accepted, Read, Reader, if, return, then}
use Rattle.paper.specs.Bits.{bits_of}
use Rattle.paper.specs.Tree.{node, nil, preorder, trees}
use Rattle.paper.specs.Strategy.{has}
use Rattle.paper.specs.Book as B
use Rattle.paper.specs.Book.{Operator, Side, symbol_arity}
use Rattle.paper.specs.Reader.{read_symbol, read_symbols, read_side, left_root, right_symbol, variable_of, variables, read_rule}
use Rattle.paper.specs.Sound.{All}
use Rattle.paper.proofs.Bits.{all_drop}
use Rattle.paper.proofs.Bytes.{bits_below}
use Rattle.paper.proofs.Rules.{then_is}
use Rattle.paper.proofs.Trees.{preorders_trees}
use Rattle.side.specs.Promises.{bits_at, SymbolAt, check, StepAt, RestAt, LeftSideAt, RightSideAt, RuleAt}
use Rattle.std.specs.Prelude.{Ok, Err}
use Rattle.std.specs.Prelude.{Result as Answer}
use Rattle.refusal.specs.declared.Refusal.{Refusal}
use Rattle.refusal.specs.Numbers as N
use Rattle.side.specs.declared.Standing as Sd
use Rattle.side.specs.declared.Taken.{Taken}
use Rattle.side.specs.declared.SideEnd.{SideEnd}
use Rattle.side.specs.declared.RuleEnd.{RuleEnd}
use Rattle.side.proofs.Consumed.{left_consumed, right_consumed}
use Rattle.side.proofs.Mask.{masks_none, has_append}
use Rattle.side.proofs.Symbols.{then_refused}

-- a refusal in the first two of three readings
refused_on : {A B C : Type 0} (x : Result A) (f : A → Result B) (g : A → B → Result C) (n : ℕ) → then x f ≡ refused n →
    then x (λ a. then (f a) (g a)) ≡ refused n
unfolding then
refused_on (refused m) f g n e = cc
refused_on (accepted a) f g n e = then_refused (f a) (g a) n e

-- One turn

turn : (ops : List Operator) (meet : List ℕ → B.Symbol → Reader (List ℕ)) (vs xs ys : List ℕ) (s : B.Symbol) (on : List ℕ) (room due due' : ℕ) →
    read_symbol ops xs ≡ return s ys → meet vs s ys ≡ return on ys → due' ≡ symbol_arity ops s + due →
    read_symbols ops meet (suc room) (suc due) vs xs ≡ then (read_symbols ops meet room due' on ys) (λ r. return (s ∷ r.value) r.left)
unfolding read_symbols return
turn ops meet vs xs ys s on room due due' p q e =
    then_is _ _ _ _ p (then_is _ _ _ _ q
    (ap (λ (d : ℕ). then (read_symbols ops meet room d on ys) (λ (r : Read (List B.Symbol)). return (s ∷ r.value) r.left)) (sym e)))

or_swap : (a b c : Bool) → if (if a true b) true c ≡ if b true (if a true c)
or_swap true true c = refl
or_swap true false c = refl
or_swap false true c = refl
or_swap false false c = refl

has_behind : (v : ℕ) (s : B.Symbol) (ss : List B.Symbol) (vs on : List ℕ) → has v on ≡ has v (variable_of s ++ vs) →
    has v (variables (s ∷ ss) ++ vs) ≡ has v (variables ss ++ on)
unfolding variables
has_behind v s ss vs on e =
    has_append v (variable_of s ++ variables ss) vs
    ∙ ap (λ (x : Bool). if x true (has v vs)) (has_append v (variable_of s) (variables ss))
    ∙ or_swap (has v (variable_of s)) (has v (variables ss)) (has v vs)
    ∙ sym (has_append v (variables ss) on ∙ ap (λ (x : Bool). if (has v (variables ss)) true x) (e ∙ has_append v (variable_of s) vs))

module _ (bytes : List ℕ) (at n : ℕ) (operators : List ℕ) (mask : ℕ) (left : Bool) where
  -- no term is due
  pub rest_done : (due room : ℕ) → due ≡ 0 → RestAt bytes at n operators mask left due room (Ok (record { met = mask; next = at }))
  unfolding read_symbols variables return
  rest_done due room z = record { is = λ ops t vs h. ([], rw z (go ops room vs), h) }
    where
      go : (ops : List Operator) (room : ℕ) (vs : List ℕ) → read_symbols ops (check left) room 0 vs (bits_at bytes at) ≡ return [] (bits_at bytes at)
      go ops zero vs = refl
      go ops (suc room) vs = refl

  -- terms are due, and no symbol may follow
  pub rest_full : (due room : ℕ) → (due ≡ 0 → ⊥) → room ≡ 0 → RestAt bytes at n operators mask left due room (Err Refusal.SideTooLong)
  unfolding read_symbols
  rest_full zero room d z = absurd (d refl)
  rest_full (suc due) room d z = record { is = λ ops t vs h. rw z }

  -- a symbol is refused
  pub rest_refused : (due room : ℕ) (k : Refusal) → (due ≡ 0 → ⊥) → 0 < room → StepAt bytes at n operators mask left (Err k) →
      RestAt bytes at n operators mask left due room (Err k)
  unfolding read_symbols
  rest_refused zero room k d l s = absurd (d refl)
  rest_refused (suc due) zero k d l s = absurd (omega arith)
  rest_refused (suc due) (suc room) k d l s = record { is = λ ops t vs h. refused_on (read_symbol ops (bits_at bytes at)) _ _ (N.number k) (s.is ops t vs h) }

  turn_taken : (due room due' : ℕ) (y : Taken) (r : Answer SideEnd Refusal) → StepAt bytes at n operators mask left (Ok y) → due' ≡ due + y.arity →
      RestAt bytes y.next n operators y.met left due' room r → RestAt bytes at n operators mask left (suc due) (suc room) r
  unfolding return then
  turn_taken due room due' y (Err k) s e q = record {
    is = λ ops t vs h.
        let (x, p, g, w) = s.is ops t vs h in
        turn ops (check left) vs _ _ x w.on room due due' p (w.is _) (omega arith) ∙ then_refused _ _ (N.number k) (q.is ops t w.on w.masks);
  }
  turn_taken due room due' y (Ok z) s e q = record {
    is = λ ops t vs h.
        let (x, p, g, w) = s.is ops t vs h in
        let (ss, i, k) = q.is ops t w.on w.masks in (
          x ∷ ss,
          turn ops (check left) vs _ _ x w.on room due due' p (w.is _) (omega arith) ∙ then_is _ _ _ _ i refl,
          λ v. has_behind v x ss vs w.on (w.same v) ∙ k v,
        );
  }

  -- a symbol is taken: what answers for those behind it answers for all
  pub rest_took : (due room due' room' : ℕ) (y : Taken) (r : Answer SideEnd Refusal) → (due ≡ 0 → ⊥) → 0 < room →
      StepAt bytes at n operators mask left (Ok y) → due' ≡ due - 1 + y.arity → room' ≡ room - 1 →
      RestAt bytes y.next n operators y.met left due' room' r → RestAt bytes at n operators mask left due room r
  rest_took zero room due' room' y r d l s e f q = absurd (d refl)
  rest_took (suc due) zero due' room' y r d l s e f q = absurd (omega arith)
  rest_took (suc due) (suc room) due' room' y r d l s e f q =
      let g : room' ≡ room = omega arith in
      turn_taken due room due' y r s (omega arith) (rw g at q)

-- Left sides

module _ (bytes : List ℕ) (at n : ℕ) (operators : List ℕ) where
  pub left_refused : (k : Refusal) → SymbolAt bytes at n (Err k) → LeftSideAt bytes at n operators (Err k)
  unfolding read_side
  left_refused k s = record { is = λ ops t. then_refused _ _ (N.number k) (sym (s.is ops t.count)) }

  pub left_variable : (v next : ℕ) → SymbolAt bytes at n (Ok (Sd.Standing.Variable v next)) → LeftSideAt bytes at n operators (Err Refusal.LeftSideIsVariable)
  unfolding read_side left_root
  left_variable v next s = record { is = λ ops t. then_is _ _ _ _ (sym (s.is ops t.count)) refl }

  module _ (o p a : ℕ) (s : SymbolAt bytes at n (Ok (Sd.Standing.Operator o p))) (e : a ≡ arity_in operators o) where
    pub left_rest : (r : Answer SideEnd Refusal) → RestAt bytes p n operators 0 true a 63 r → LeftSideAt bytes at n operators r
    unfolding read_side left_root return preorder variables
    left_rest (Err k) q = record {
      is = λ ops t.
          then_is _ _ _ _ (sym (s.is ops t.count)) (then_refused _ _ (N.number k) (rw (e ∙ t.says o s.small) at (q.is ops t [] masks_none)));
    }
    left_rest (Ok z) q = record {
      is = λ ops t.
          let (ss, i, k) = q.is ops t [] masks_none in (
            node (B.Symbol.operator o) (trees (symbol_arity ops) ss),
            then_is _ _ _ _ (sym (s.is ops t.count)) (then_is _ _ _ _ (rw (e ∙ t.says o s.small) at i) refl),
            rw (preorders_trees (symbol_arity ops) ss) (rw append-nil at k),
          );
    }

-- Right sides

-- the side that symbols spell
side_of : List Operator → List B.Symbol → Side
side_of ops [] = node (B.Symbol.variable 0) nil
side_of ops (s ∷ ss) = node s (trees (symbol_arity ops) ss)

-- readings regrouped
then_map : {A B C : Type 0} (x : Result A) (f : A → Result B) (h : A → Result C) (g : B → Result C) → ((a : A) → h a ≡ then (f a) g) →
    then x h ≡ then (then x f) g
unfolding then
then_map (refused n) f h g e = refl
then_map (accepted a) f h g e = e a

-- a side whose root is checked as its other symbols are
side_symbols : (ops : List Operator) (meet : List ℕ → B.Symbol → Reader (List ℕ)) (vs xs : List ℕ) →
    read_side ops (meet vs) meet xs ≡ then (read_symbols ops meet 64 1 vs xs) (λ r. return (side_of ops r.value) r.left)
unfolding read_side read_symbols return side_of
side_symbols ops meet vs xs =
    then_map (read_symbol ops xs) _ _ _ λ (s : Read B.Symbol).
    then_map (meet vs s.value s.left) _ _ _ λ (ws : Read (List ℕ)).
    rw (add-zero (symbol_arity ops s.value))
    (then_map (read_symbols ops meet 63 (symbol_arity ops s.value) ws.value ws.left) _ _ _ λ (ss : Read (List B.Symbol)). refl)

module _ (bytes : List ℕ) (at n : ℕ) (operators : List ℕ) (mask : ℕ) where
  pub right_is : (r : Answer SideEnd Refusal) → RestAt bytes at n operators mask false 1 64 r → RightSideAt bytes at n operators mask r
  unfolding return
  right_is (Err k) q = record { is = λ ops t vs h. side_symbols ops right_symbol vs (bits_at bytes at) ∙ then_refused _ _ (N.number k) (q.is ops t vs h) }
  right_is (Ok z) q = record {
    is = λ ops t vs h.
        let (ss, i, k) = q.is ops t vs h in
        (side_of ops ss, side_symbols ops right_symbol vs (bits_at bytes at) ∙ then_is _ _ _ _ i refl);
  }

-- Rules

module _ (bytes : List ℕ) (at n : ℕ) (operators : List ℕ) where
  pub rule_left_refused : (k : Refusal) → LeftSideAt bytes at n operators (Err k) → RuleAt bytes at n operators (Err k)
  unfolding read_rule
  rule_left_refused k l = record { is = λ ops t. then_refused _ _ (N.number k) (l.is ops t) }

  module _ (y : SideEnd) (l : LeftSideAt bytes at n operators (Ok y)) where
    pub rule_right_refused : (k : Refusal) → RightSideAt bytes y.next n operators y.met (Err k) → RuleAt bytes at n operators (Err k)
    unfolding read_rule
    rule_right_refused k r = record {
      is = λ ops t.
          let (left, i, m) = l.is ops t in
          then_is _ _ _ _ i (then_refused _ _ (N.number k) (r.is ops t _ m));
    }

    pub rule_read : (z : SideEnd) → RightSideAt bytes y.next n operators y.met (Ok z) →
        RuleAt bytes at n operators (Ok (record { right = y.next; next = z.next }))
    unfolding read_rule return
    rule_read z r = record {
      is = λ ops t.
          let (left, i, m) = l.is ops t in
          let (right, j) = r.is ops t _ m in
          record {
            rule = record { left = left; right = right };
            is = then_is _ _ _ _ i (then_is _ _ _ _ j refl);
            left_written = (left_consumed ops (bits_at bytes at) (below at) _ i).0;
            right_written = (right_consumed ops (bits_at bytes y.next) (below y.next) _ _ j).0;
          };
    }
      where
        below : (p : ℕ) → All (λ x. x < 2) (bits_at bytes p)
        below p = all_drop p (bits_of bytes) (bits_below bytes)
