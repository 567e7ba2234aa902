-- Answers of `same`. Assumes nothing.
use mathlib.Core.Bool.{true, false}
use mathlib.Core.List.{List}
use mathlib.Core.Path.{◌≡◌, refl, sym, ap, ◌∙◌}
use Prim.Native.Nat.{ℕ, ◌+◌, ◌-◌, ◌≤◌, ◌<◌}
use native.Mathlib.Numerals.{add-one}
use native.Mathlib.Omega.{arith}
use lib.ListN.{length, get_or, take, drop, length-take, length-drop}
use lib.Seq.{take-suc, get_or-take, get_or-drop}
use Rattle.paper.proofs.Operators.{same_true, same_false}
use Rattle.symbol.specs.Record.{operator, operators}
use Rattle.symbol.proofs.Record.{front_length, operator_front}
use Rattle.term.specs.Promises.{Compared}
use Rattle.term.proofs.same.Invariants.{EqualBefore}
use Rattle.term.proofs.same.Goals as goal

module _ (xs : List ℕ) (a b : ℕ) where
  -- an equal symbol is passed
  equal_next : (i : ℕ) → a + i < length xs → b + i < length xs → get_or xs (a + i) 0 ≡ get_or xs (b + i) 0 → EqualBefore xs a b i → EqualBefore xs a b (i + 1)
  equal_next i k l e h =
      rw (
        add-one i,
        take-suc (drop a xs) i 0 (rw length-drop (omega arith)),
        take-suc (drop b xs) i 0 (rw length-drop (omega arith)),
        get_or-drop a xs i 0,
        get_or-drop b xs i 0,
        e,
        h,
      )

  -- all n symbols are passed
  all_equal : (n i : ℕ) → i ≡ n → EqualBefore xs a b i → Compared xs a b n true
  all_equal n i e h = record { is = sym (same_true _ _ (rw e at h)) }

  -- a symbol of the n differs
  differs : (n i : ℕ) → i < n → (get_or xs (a + i) 0 ≡ get_or xs (b + i) 0 → ⊥) → Compared xs a b n false
  differs n i l d = record { is = sym (same_false _ _ (λ e. d (sym (at a) ∙ ap (λ (ys : List ℕ). get_or ys i 0) e ∙ at b))) }
    where
      at : (p : ℕ) → get_or (take n (drop p xs)) i 0 ≡ get_or xs (p + i) 0
      at p = get_or-take n (drop p xs) i 0 l ∙ get_or-drop p xs i 0

  -- fewer than n symbols are not n
  fewer : (n : ℕ) → a + n ≤ length xs → length xs - b < n → Compared xs a b n false
  fewer n h l =
      record { is = sym (same_false _ _ (λ e. let z = ap length e in omega (arith, simp (length-take, length-drop) at z))) }

pub returns-then-len-b : goal.returns-then-len-b
returns-then-len-b c =
    let l = front_length operator c.args.len c.args.symbols.now (omega arith) in
    fewer _ _ _ _ (omega arith) (omega arith)

pub returns-then-operator : goal.returns-then-operator
returns-then-operator c =
    let s = c.args in
    let p = operator_front s.len s.symbols.now (s.a + c.loop-i.i) (omega arith) in
    let q = operator_front s.len s.symbols.now (s.b + c.loop-i.i) (omega arith) in
    differs _ _ _ _ c.loop-i.i (omega arith) (λ e. omega arith)

pub loop-i-preserved : goal.loop-i-preserved
loop-i-preserved c =
    let s = c.args in
    let m = front_length operator s.len s.symbols.now (omega arith) in
    let p = operator_front s.len s.symbols.now (s.a + c.loop-i.i) (omega arith) in
    let q = operator_front s.len s.symbols.now (s.b + c.loop-i.i) (omega arith) in (
      omega arith,
      equal_next (operators (take s.len s.symbols.now)) s.a s.b c.loop-i.i (omega arith) (omega arith) (omega arith) c.loop-i.invariant.1,
    )

pub returns : goal.returns
returns c = all_equal _ _ _ _ c.loop-i.i (omega arith) c.loop-i.invariant.1

pub loop-i-init : goal.loop-i-init
loop-i-init c = (omega arith, refl)
