-- How long a book can be: its reader takes at most 133 bits for an operator and 9 for a symbol, so the bytes of a book that is read are at most 41,473, its day
-- for each rule included (document 01, 'The book, bit by bit'; document 02, Change 5). Assumes nothing.
use mathlib.Core.Bool.{Bool, true, false, true≢false}
use mathlib.Core.List.{List, [], ◌∷◌, ◌++◌}
use mathlib.Core.Logic.{inl, inr}
use mathlib.Core.Path.{◌≡◌, refl, sym, ap}
use Prim.Native.Nat.{ℕ, zero, suc, ◌+◌, ◌*◌, ◌^◌, ◌≤◌, ◌<◌}
use native.Mathlib.Nat.{mul-suc}
use native.Mathlib.Omega.{arith}
use lib.Dec.{eqb, ltb}
use lib.ListN.{length, take, drop, length-append, take-append-drop}
use Rattle.paper.specs.Result.{Result, refused, accepted, Read, Reader, then, repeat}
use Rattle.paper.specs.Bits.{value, bits_of, field}
use Rattle.paper.specs.Tree.{node, preorder, trees}
use Rattle.paper.specs.Strategy.{default, has, settle}
use Rattle.paper.specs.Book.{Operator, Symbol, Book, symbol_arity}
use Rattle.paper.specs.Reader.{allowed, grouped_after, read_numbers, items, read_strategy, read_operator, read_symbol, read_symbols}
use Rattle.paper.specs.Reader.{read_side, left_root, left_symbol, right_symbol, variable_of, variables, read_rule, read_count, all_zero, read_end, read_bits, read_book}
use Rattle.paper.specs.Dated.{DatedBook, AnyBook, is_dated, read_dated_rule, read_dated_bits, read_dated, read_any}
use Rattle.paper.proofs.Bits.{field_bounded}
use Rattle.paper.proofs.Books.{AllBits}
use Rattle.paper.proofs.Bytes.{bits_below, length_bits_of}
use Rattle.paper.proofs.Tests.{either, eqb_cases, ltb_cases}

-- a refusal, or a value below a bound and bits that are left: of n at most some are gone
data Uses {A : Type 0} (P : A → Type 0) (most n : ℕ) : Result (Read A) → Type 0 where
  refusal : (k : ℕ) → Uses P most n (refused k)
  answer : (a : A) (xs : List ℕ) → P a → AllBits xs → n ≤ most + length xs → Uses P most n (accepted (record { value = a; left = xs }))

then_uses : {A B : Type 0} {P : A → Type 0} {Q : B → Type 0} {most n more m : ℕ} {x : Result (Read A)} (k : Read A → Result (Read B)) → Uses P most n x →
    ((a : A) (xs : List ℕ) → P a → AllBits xs → n ≤ most + length xs → Uses Q more m (k (record { value = a; left = xs }))) → Uses Q more m (then x k)
unfolding then
then_uses f (refusal k) g = refusal k
then_uses f (answer a xs p b l) g = g a xs p b l

-- p takes at most that many bits, and its value has P
abbrev AtMost : {A : Type 0} → (A → Type 0) → ℕ → Reader A → Type 0
AtMost P most p = (xs : List ℕ) → AllBits xs → Uses P most (length xs) (p xs)

abbrev Any : {A : Type 0} → A → Type 0
Any a = Unit {0}

field_uses : (n : ℕ) → AtMost (λ v. v < 2 ^ n) n (field n)
unfolding field
field_uses n xs h = elim (eqb_cases (length (take n xs)) n) [
  | inl p ↦
      let e = p.1 in
      let (b, r) = field_bounded n xs (record { value = value (take n xs); left = drop n xs }) h (rw p.0 refl) in
      rw p.0 (answer (value (take n xs)) (drop n xs) b r (omega (arith, e, ap length (take-append-drop n xs), length-append (take n xs) (drop n xs))))
  | inr p ↦ rw p.0 (refusal 1)
]

repeat_uses : {A : Type 0} (p : Reader A) (k : ℕ) → AtMost Any k p → (n : ℕ) → AtMost Any (k * n) (repeat n p)
unfolding repeat
repeat_uses p k t zero xs h = answer [] xs tt h (omega arith)
repeat_uses p k t (suc n) xs h =
    then_uses _ (t xs h) λ a ys _ i l.
    then_uses _ (repeat_uses p k t n ys i) λ as' zs _ j m.
    answer (a ∷ as') zs tt j (let e = mul-suc k n in omega (arith, l, m, e))

-- Operators

numbers_use : (arity : ℕ) (g : Bool) (n : ℕ) → AtMost Any (4 * n) (read_numbers arity g n)
unfolding read_numbers
numbers_use arity g zero xs h = answer [] xs tt h (omega arith)
numbers_use arity g (suc n) xs h = then_uses _ (field_uses 4 xs h) λ v ys _ i l. elim (either (allowed arity g (eqb n 0) v)) [
  | inl e ↦ rw e (then_uses _ (numbers_use arity (grouped_after g v) n ys i) λ vs zs _ j m. answer (v ∷ vs) zs tt j (omega (arith, l, m)))
  | inr e ↦ rw e (refusal 3)
]

strategy_uses : (arity given : ℕ) → AtMost Any 129 (read_strategy arity given)
unfolding read_strategy
strategy_uses arity zero xs h = answer (default arity) xs tt h (omega arith)
strategy_uses arity (suc given) xs h =
    then_uses _ (field_uses 5 xs h) λ n ys p i l.
    then_uses _ (numbers_use arity false n ys i) λ vs zs _ j m.
    answer (settle (items vs)) zs tt j (omega (arith, p, l, m))

operator_uses : AtMost Any 133 read_operator
unfolding read_operator
operator_uses xs h =
    then_uses _ (field_uses 3 xs h) λ arity ys _ i l.
    then_uses _ (field_uses 1 ys i) λ given zs _ j m.
    then_uses _ (strategy_uses arity given zs j) λ is ws _ k n.
    answer (record { arity = arity; strategy = is }) ws tt k (omega (arith, l, m, n))

-- Rules

-- a check of a symbol
abbrev Checks : (Symbol → Reader (List ℕ)) → Type 0
Checks check = (s : Symbol) → AtMost Any 0 (check s)

module _ (ops : List Operator) where
  symbol_uses : AtMost Any 9 (read_symbol ops)
  unfolding read_symbol
  symbol_uses xs h = then_uses _ (field_uses 1 xs h) λ kind ys _ i l. elim (either (eqb kind 0)) [
    | inl e ↦ rw e (then_uses _ (field_uses 8 ys i) λ o zs _ j m. elim (either (ltb o (length ops))) [
      | inl f ↦ rw f (answer (Symbol.operator o) zs tt j (omega (arith, l, m)))
      | inr f ↦ rw f (refusal 4)
    ])
    | inr e ↦ rw e (then_uses _ (field_uses 4 ys i) λ v zs _ j m. answer (Symbol.variable v) zs tt j (omega (arith, l, m)))
  ]

  module _ (meet : List ℕ → Symbol → Reader (List ℕ)) (met : (vs : List ℕ) → Checks (meet vs)) where
    symbols_use : (n due : ℕ) (vs : List ℕ) → AtMost Any (9 * n) (read_symbols ops meet n due vs)
    unfolding read_symbols
    symbols_use zero zero vs xs h = answer [] xs tt h (omega arith)
    symbols_use zero (suc due) vs xs h = refusal 8
    symbols_use (suc n) zero vs xs h = answer [] xs tt h (omega arith)
    symbols_use (suc n) (suc due) vs xs h =
        then_uses _ (symbol_uses xs h) λ s ys _ i l.
        then_uses _ (met vs s ys i) λ ws zs _ j m.
        then_uses _ (symbols_use n (symbol_arity ops s + due) ws zs j) λ ss us _ k o.
        answer (s ∷ ss) us tt k (omega (arith, l, m, o))

    side_uses : (start : Symbol → Reader (List ℕ)) → Checks start → AtMost Any 576 (read_side ops start meet)
    unfolding read_side
    side_uses start started xs h =
        then_uses _ (symbol_uses xs h) λ s ys _ i l.
        then_uses _ (started s ys i) λ vs zs _ j m.
        then_uses _ (symbols_use 63 (symbol_arity ops s) vs zs j) λ ss us _ k o.
        answer (node s (trees (symbol_arity ops) ss)) us tt k (omega (arith, l, m, o))

root_checks : Checks left_root
unfolding left_root
root_checks (Symbol.operator o) xs h = answer [] xs tt h (omega arith)
root_checks (Symbol.variable v) xs h = refusal 5

left_checks : (vs : List ℕ) → Checks (left_symbol vs)
unfolding left_symbol
left_checks vs s xs h = answer (variable_of s ++ vs) xs tt h (omega arith)

right_checks : (vs : List ℕ) → Checks (right_symbol vs)
unfolding right_symbol
right_checks vs (Symbol.operator o) xs h = answer vs xs tt h (omega arith)
right_checks vs (Symbol.variable v) xs h = elim (either (has v vs)) [ inl e ↦ rw e (answer vs xs tt h (omega arith)) | inr e ↦ rw e (refusal 7) ]

rule_uses : (ops : List Operator) → AtMost Any 1152 (read_rule ops)
unfolding read_rule
rule_uses ops xs h =
    then_uses _ (side_uses ops left_symbol left_checks left_root root_checks xs h) λ l ys _ i m.
    let vs = variables (preorder l) in
    then_uses _ (side_uses ops right_symbol right_checks (right_symbol vs) (right_checks vs) ys i) λ r zs _ j n.
    answer (record { left = l; right = r }) zs tt j (omega (arith, m, n))

dated_rule_uses : (ops : List Operator) → AtMost Any 1168 (read_dated_rule ops)
unfolding read_dated_rule
dated_rule_uses ops xs h =
    then_uses _ (field_uses 16 xs h) λ d ys _ i l.
    then_uses _ (rule_uses ops ys i) λ r zs _ j m.
    answer (record { day = d; rule = r }) zs tt j (omega (arith, l, m))

-- The whole book

count_uses : AtMost (λ n. n < 2 ^ 8) 8 read_count
unfolding read_count
count_uses xs h = then_uses _ (field_uses 8 xs h) λ n ys p i l. elim (either (eqb n 0)) [ inl e ↦ rw e (refusal 2) | inr e ↦ rw e (answer n ys p i l) ]

end_uses : {A : Type 0} (B : A) (most n : ℕ) (xs : List ℕ) → AllBits xs → n ≤ most + length xs → Uses (λ a. n ≤ most + 7) most n (read_end B xs)
unfolding read_end
end_uses B most n xs h l = elim (ltb_cases (length xs) 8) [
  | inl p ↦ rw p.0 (elim (either (all_zero xs)) [ inl e ↦ rw e (answer B xs (let a = p.1 in omega (arith, a, l)) h l) | inr e ↦ rw e (refusal 9) ])
  | inr p ↦ rw p.0 (refusal 9)
]

bits_use : (xs : List ℕ) → AllBits xs → Uses (λ B. length xs ≤ 327691 + 7) 327691 (length xs) (read_bits xs)
unfolding read_bits
bits_use xs h =
    then_uses _ (count_uses xs h) λ n ys p i l.
    then_uses _ (repeat_uses read_operator 133 operator_uses n ys i) λ ops zs _ j m.
    then_uses _ (field_uses 8 zs j) λ k us q r o.
    then_uses _ (repeat_uses (read_rule ops) 1152 (rule_uses ops) k us r) λ rules vs _ s t.
    end_uses (record { operators = ops; rules = rules }) 327691 (length xs) vs s (omega (arith, p, l, m, q, o, t))

dated_bits_use : (xs : List ℕ) → AllBits xs → Uses (λ D. length xs ≤ 331771 + 7) 331771 (length xs) (read_dated_bits xs)
unfolding read_dated_bits
dated_bits_use xs h =
    then_uses _ (count_uses xs h) λ n ys p i l.
    then_uses _ (repeat_uses read_operator 133 operator_uses n ys i) λ ops zs _ j m.
    then_uses _ (field_uses 8 zs j) λ k us q r o.
    then_uses _ (repeat_uses (read_dated_rule ops) 1168 (dated_rule_uses ops) k us r) λ rules vs _ s t.
    end_uses (record { operators = ops; rules = rules }) 331771 (length xs) vs s (omega (arith, p, l, m, q, o, t))

abbrev Short : {A : Type 0} → ℕ → List ℕ → Result A → Type 0
Short most bytes (refused k) = Unit {0}
Short most bytes (accepted a) = length bytes ≤ most

undated_short : (bytes : List ℕ) → Short 40962 bytes (read_book bytes)
unfolding read_book then
undated_short bytes = go (bits_use (bits_of bytes) (bits_below bytes))
  where
    go : {x : Result (Read Book)} → Uses (λ B. length (bits_of bytes) ≤ 327691 + 7) 327691 (length (bits_of bytes)) x → Short 40962 bytes (then x (λ r. accepted r.value))
    go (refusal k) = tt
    go (answer B xs p b l) = let a = length_bits_of bytes in omega (arith, a, p)

dated_short : (bytes : List ℕ) → Short 41472 bytes (read_dated bytes)
unfolding read_dated then
dated_short bytes = go (dated_bits_use (bits_of bytes) (bits_below bytes))
  where
    go : {x : Result (Read DatedBook)} → Uses (λ D. length (bits_of bytes) ≤ 331771 + 7) 331771 (length (bits_of bytes)) x →
        Short 41472 bytes (then x (λ r. accepted r.value))
    go (refusal k) = tt
    go (answer D xs p b l) = let a = length_bits_of bytes in omega (arith, a, p)

module _ (bytes : List ℕ) where
  any_short : Short 41473 bytes (read_any bytes)
  unfolding read_any then
  any_short = elim (either (is_dated bytes)) [
    | inl e ↦ rw (e, read_any) (dated bytes e (read_dated (drop 1 bytes)) (dated_short (drop 1 bytes)))
    | inr e ↦ rw (e, read_any) (undated (read_book bytes) (undated_short bytes))
  ]
    where
      undated : (x : Result Book) → Short 40962 bytes x → Short 41473 bytes (then x (λ B. accepted (AnyBook.undated B)))
      undated (refused k) h = h
      undated (accepted B) h = omega (arith, h)

      dated : (bytes : List ℕ) → is_dated bytes ≡ true → (x : Result DatedBook) → Short 41472 (drop 1 bytes) x → Short 41473 bytes (then x (λ D. accepted (AnyBook.dated D)))
      dated bytes e (refused k) h = h
      dated [] e (accepted D) h = absurd (true≢false (sym e))
      dated (b ∷ bs) e (accepted D) h = omega (arith, h)

  -- a book that is read, in either form, has at most 41,473 bytes
  pub longest_book : (A : AnyBook) → read_any bytes ≡ accepted A → length bytes ≤ 41473
  longest_book A e = rw e at any_short
