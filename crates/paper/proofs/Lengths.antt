-- The book's reader by lengths and by numbers: what it reads takes at least the bits that its written form has, so a written book is never longer
-- than the bytes that were read; and it refuses by 1 to 9, but not by 6. So for both forms of a book. Assumes nothing.
use mathlib.Core.Bool.{Bool, true, false, true≢false}
use mathlib.Core.List.{List, [], ◌∷◌, ◌++◌}
use mathlib.Core.Logic.{inl, inr, ◌≢◌}
use mathlib.Core.Path.{◌≡◌, refl, sym, ap}
use Prim.Native.Nat.{ℕ, zero, suc, pred, ◌+◌, ◌*◌, ◌/◌, ◌≤◌, ◌<◌}
use native.Mathlib.Omega.{arith}
use lib.Dec.{eqb, ltb}
use lib.ListN.{length, take, drop, length-append, take-append-drop}
use Rattle.paper.specs.Result.{Result, refused, accepted, Read, Reader, if, then, repeat}
use Rattle.paper.specs.Bits.{to_bits, value, bits_of, field}
use Rattle.paper.specs.Tree.{node, preorder, trees}
use Rattle.paper.specs.Strategy.{Item, default, has, settle}
use Rattle.paper.specs.Book.{Operator, Symbol, Side, Book, symbol_arity}
use Rattle.paper.specs.Reader.{allowed, grouped_after, read_numbers, items, group_items, read_strategy, read_operator, read_symbol, read_symbols}
use Rattle.paper.specs.Reader.{read_side, left_root, left_symbol, right_symbol, variable_of, variables, read_rule, read_count, all_zero, read_end, read_bits, read_book}
use Rattle.paper.specs.Writer.{numbers, same, concat, write_strategy, write_operator, write_symbol, write_side, write_rule, write_book}
use Rattle.paper.specs.Dated.{DatedBook, AnyBook, is_dated, read_dated_rule, read_dated_bits, read_dated, read_any}
use Rattle.paper.specs.Dated.{write_dated_rule, write_dated, write_any}
use Rattle.paper.proofs.Tests.{either, eqb_cases, eqb_true}
use Rattle.paper.proofs.Bytes.{length_bits_of, length_bytes_of}
use Rattle.paper.proofs.Settling.{length_group, settled_length}
use Rattle.paper.proofs.Trees.{preorders_trees}

-- the numbers that are given for a book: 1 to 5 and 7 to 9
abbrev pub OfBook : ℕ → Type 0
OfBook k = (0 < k) × (k < 10) × (k ≢ 6)

-- such a refusal, or a value and bits that are left: with the bits that the value counts they are at most n
data Gives {A : Type 0} (bits : A → ℕ) (n : ℕ) : Result (Read A) → Type 0 where
  refusal : (k : ℕ) → OfBook k → Gives bits n (refused k)
  answer : (a : A) (xs : List ℕ) → bits a + length xs ≤ n → Gives bits n (accepted (record { value = a; left = xs }))

then_gives : {A B : Type 0} {bits : A → ℕ} {more : B → ℕ} {n m : ℕ} {x : Result (Read A)} (k : Read A → Result (Read B)) → Gives bits n x →
    ((a : A) (xs : List ℕ) → bits a + length xs ≤ n → Gives more m (k (record { value = a; left = xs }))) → Gives more m (then x k)
unfolding then
then_gives f (refusal k h) g = refusal k h
then_gives f (answer a xs h) g = g a xs h

-- p takes at least the bits that its value counts
abbrev Takes : {A : Type 0} → (A → ℕ) → Reader A → Type 0
Takes bits p = (xs : List ℕ) → Gives bits (length xs) (p xs)

-- p takes at least the bits that its value is written with
abbrev TakesWritten : {A : Type 0} → (A → List ℕ) → Reader A → Type 0
TakesWritten write p = Takes (λ a. length (write a)) p

field_takes : (n : ℕ) → Takes (λ v. n) (field n)
unfolding field
field_takes n xs = elim (eqb_cases (length (take n xs)) n) [
  | inl p ↦
      let e = p.1 in
      rw p.0 (answer (value (take n xs)) (drop n xs) (omega (arith, ap length (take-append-drop n xs), length-append (take n xs) (drop n xs))))
  | inr p ↦ rw p.0 (refusal 1 (omega arith, omega arith, λ e. omega arith))
]

repeat_takes : {A : Type 0} (write : A → List ℕ) (p : Reader A) → TakesWritten write p → (n : ℕ) → TakesWritten (concat write) (repeat n p)
unfolding repeat concat
repeat_takes write p t zero xs = answer [] xs (omega arith)
repeat_takes write p t (suc n) xs =
    then_gives _ (t xs) λ a ys h.
    then_gives _ (repeat_takes write p t n ys) λ as' zs k.
    answer (a ∷ as') zs (omega (arith, length-append (write a) (concat write as')))

-- Operators

numbers_take : (arity : ℕ) (g : Bool) (n : ℕ) → Takes (λ vs. 4 * length vs) (read_numbers arity g n)
unfolding read_numbers
numbers_take arity g zero xs = answer [] xs (omega arith)
numbers_take arity g (suc n) xs = then_gives _ (field_takes 4 xs) λ v ys h. elim (either (allowed arity g (eqb n 0) v)) [
  | inl e ↦ rw e (then_gives _ (numbers_take arity (grouped_after g v) n ys) λ vs zs k. answer (v ∷ vs) zs (omega arith))
  | inr e ↦ rw e (refusal 3 (omega arith, omega arith, λ e. omega arith))
]

item_length : (b : Bool) (i : ℕ) (is : List Item) (n : ℕ) → length (numbers is) ≤ n → length (numbers (if b Item.whole (Item.argument i) ∷ is)) ≤ suc n
unfolding numbers
item_length true i is n h = omega arith
item_length false i is n h = omega arith

-- the items that some numbers stand for have no more numbers than these
mutual
  unfolding items numbers

  items_length : (vs : List ℕ) → length (numbers (items vs)) ≤ length vs
  items_length [] = omega arith
  items_length (v ∷ vs) = elim (either (eqb v 8)) [
    | inl e ↦ rw (e, items) (omega (arith, group_length [] vs))
    | inr e ↦ rw (e, items) (item_length (eqb v 0) (pred v) (items vs) (length vs) (items_length vs))
  ]

  group_length : (is vs : List ℕ) → length (numbers (group_items is vs)) ≤ 1 + (length is + length vs)
  group_length is [] = omega arith
  group_length is (v ∷ vs) = elim (either (eqb v 9)) [
    | inl e ↦ rw (e, group_items) (omega (arith, length_group is (items vs), items_length vs))
    | inr e ↦ rw (e, group_items) (omega (arith, group_length (is ++ (pred v ∷ [])) vs, length-append is (pred v ∷ [])))
  ]

same_refl : (xs : List ℕ) → same xs xs ≡ true
unfolding same
same_refl [] = refl
same_refl (x ∷ xs) = rw (eqb_true x x refl, same) (same_refl xs)

length_items : (ns : List ℕ) → length (concat (to_bits 4) ns) ≡ 4 * length ns
unfolding concat to_bits
length_items [] = refl
length_items (n ∷ ns) = omega (arith, length_items ns)

-- the default is written as one bit, any other list with four for each number
default_length : (arity : ℕ) → length (write_strategy arity (default arity)) ≡ 1
unfolding write_strategy
default_length arity = rw (same_refl (numbers (default arity)))

list_length : (arity : ℕ) (is : List Item) → length (write_strategy arity is) ≤ 6 + 4 * length (numbers is)
unfolding write_strategy
list_length arity is = elim (either (same (numbers is) (numbers (default arity)))) [
  | inl e ↦ rw e (omega arith)
  | inr e ↦ rw e (omega (arith, length_items (numbers is)))
]

strategy_takes : (arity given : ℕ) (xs : List ℕ) → Gives (λ is. length (write_strategy arity is)) (1 + length xs) (read_strategy arity given xs)
unfolding read_strategy
strategy_takes arity zero xs = answer (default arity) xs (omega (arith, default_length arity))
strategy_takes arity (suc given) xs =
    then_gives _ (field_takes 5 xs) λ n ys h.
    then_gives _ (numbers_take arity false n ys) λ vs zs k.
    answer (settle (items vs)) zs (omega (arith, list_length arity (settle (items vs)), settled_length (items vs), items_length vs))

operator_takes : TakesWritten write_operator read_operator
unfolding read_operator write_operator to_bits
operator_takes xs =
    then_gives _ (field_takes 3 xs) λ arity ys h.
    then_gives _ (field_takes 1 ys) λ given zs k.
    then_gives _ (strategy_takes arity given zs) λ is ws l.
    answer (record { arity = arity; strategy = is }) ws (omega arith)

-- Rules

-- a check of a symbol
abbrev Checks : (Symbol → Reader (List ℕ)) → Type 0
Checks check = (s : Symbol) → Takes (λ vs. 0) (check s)

module _ (ops : List Operator) where
  symbol_takes : TakesWritten write_symbol (read_symbol ops)
  unfolding read_symbol write_symbol to_bits
  symbol_takes xs = then_gives _ (field_takes 1 xs) λ kind ys h. elim (either (eqb kind 0)) [
    | inl e ↦ rw e (then_gives _ (field_takes 8 ys) λ o zs k. elim (either (ltb o (length ops))) [
      | inl f ↦ rw f (answer (Symbol.operator o) zs (omega arith))
      | inr f ↦ rw f (refusal 4 (omega arith, omega arith, λ e. omega arith))
    ])
    | inr e ↦ rw e (then_gives _ (field_takes 4 ys) λ v zs k. answer (Symbol.variable v) zs (omega arith))
  ]

  module _ (meet : List ℕ → Symbol → Reader (List ℕ)) (met : (vs : List ℕ) → Checks (meet vs)) where
    symbols_take : (n due : ℕ) (vs : List ℕ) → TakesWritten (concat write_symbol) (read_symbols ops meet n due vs)
    unfolding read_symbols concat
    symbols_take zero zero vs xs = answer [] xs (omega arith)
    symbols_take zero (suc due) vs xs = refusal 8 (omega arith, omega arith, λ e. omega arith)
    symbols_take (suc n) zero vs xs = answer [] xs (omega arith)
    symbols_take (suc n) (suc due) vs xs =
        then_gives _ (symbol_takes xs) λ s ys h.
        then_gives _ (met vs s ys) λ ws zs k.
        then_gives _ (symbols_take n (symbol_arity ops s + due) ws zs) λ ss us l.
        answer (s ∷ ss) us (omega (arith, length-append (write_symbol s) (concat write_symbol ss)))

    side_takes : (start : Symbol → Reader (List ℕ)) → Checks start → TakesWritten write_side (read_side ops start meet)
    unfolding read_side write_side concat
    side_takes start started xs =
        then_gives _ (symbol_takes xs) λ s ys h.
        then_gives _ (started s ys) λ vs zs k.
        then_gives _ (symbols_take 63 (symbol_arity ops s) vs zs) λ ss us l.
        let t : Side = node s (trees (symbol_arity ops) ss) in
        let e : write_side t ≡ write_symbol s ++ concat write_symbol ss =
        ap (λ (rs : List Symbol). write_symbol s ++ concat write_symbol rs) (preorders_trees (symbol_arity ops) ss) in
        answer t us (omega (arith, ap length e, length-append (write_symbol s) (concat write_symbol ss)))

root_checks : Checks left_root
unfolding left_root
root_checks (Symbol.operator o) xs = answer [] xs (omega arith)
root_checks (Symbol.variable v) xs = refusal 5 (omega arith, omega arith, λ e. omega arith)

left_checks : (vs : List ℕ) → Checks (left_symbol vs)
unfolding left_symbol
left_checks vs s xs = answer (variable_of s ++ vs) xs (omega arith)

right_checks : (vs : List ℕ) → Checks (right_symbol vs)
unfolding right_symbol
right_checks vs (Symbol.operator o) xs = answer vs xs (omega arith)
right_checks vs (Symbol.variable v) xs =
    elim (either (has v vs)) [ inl e ↦ rw e (answer vs xs (omega arith)) | inr e ↦ rw e (refusal 7 (omega arith, omega arith, λ e. omega arith)) ]

rule_takes : (ops : List Operator) → TakesWritten write_rule (read_rule ops)
unfolding read_rule write_rule
rule_takes ops xs =
    then_gives _ (side_takes ops left_symbol left_checks left_root root_checks xs) λ l ys h.
    let vs = variables (preorder l) in
    then_gives _ (side_takes ops right_symbol right_checks (right_symbol vs) (right_checks vs) ys) λ r zs k.
    answer (record { left = l; right = r }) zs (omega (arith, length-append (write_side l) (write_side r)))

-- The whole book

count_takes : Takes (λ n. 8) read_count
unfolding read_count
count_takes xs = then_gives _ (field_takes 8 xs) λ n ys h.
    elim (either (eqb n 0)) [ inl e ↦ rw e (refusal 2 (omega arith, omega arith, λ e. omega arith)) | inr e ↦ rw e (answer n ys h) ]

-- the bits that a book is written with, before the zero bits up to a whole byte
abbrev book_bits : Book → ℕ
book_bits B = 16 + (length (concat write_operator B.operators) + length (concat write_rule B.rules))

written_length : (B : Book) → length (write_book B) ≡ (book_bits B + 7) / 8
unfolding write_book to_bits
written_length B =
    rw length_bytes_of (omega (arith, length-append (concat write_operator B.operators) (to_bits 8 (length B.rules) ++ concat write_rule B.rules)))

end_takes : {A : Type 0} (bits : A → ℕ) (B : A) (n : ℕ) (xs : List ℕ) → bits B + length xs ≤ n → Gives bits n (read_end B xs)
unfolding read_end
end_takes bits B n xs h = elim (either (ltb (length xs) 8)) [
  | inl e ↦ rw e (elim (either (all_zero xs)) [ inl f ↦ rw f (answer B xs h) | inr f ↦ rw f (refusal 9 (omega arith, omega arith, λ e. omega arith)) ])
  | inr e ↦ rw e (refusal 9 (omega arith, omega arith, λ e. omega arith))
]

bits_take : Takes book_bits read_bits
unfolding read_bits
bits_take xs =
    then_gives _ (count_takes xs) λ n ys h.
    then_gives _ (repeat_takes write_operator read_operator operator_takes n ys) λ ops zs k.
    then_gives _ (field_takes 8 zs) λ m us l.
    then_gives _ (repeat_takes write_rule (read_rule ops) (rule_takes ops) m us) λ rules vs i.
    end_takes book_bits (record { operators = ops; rules = rules }) (length xs) vs (omega arith)

-- what is told of a book's reading
abbrev Told : List ℕ → Result Book → Type 0
Told bytes (refused k) = OfBook k
Told bytes (accepted B) = length (write_book B) ≤ length bytes

module _ (bytes : List ℕ) where
  told : Told bytes (read_book bytes)
  unfolding read_book then
  told = go (bits_take (bits_of bytes))
    where
      go : {x : Result (Read Book)} → Gives book_bits (length (bits_of bytes)) x → Told bytes (then x (λ r. accepted r.value))
      go (refusal k h) = h
      go (answer B xs h) = omega (arith, length_bits_of bytes, written_length B)

  -- a written book is never longer than the bytes that were read
  pub written_no_longer : (B : Book) → read_book bytes ≡ accepted B → length (write_book B) ≤ length bytes
  written_no_longer B e = rw e at told

  -- a book is refused by 1 to 9, but not by 6
  pub book_refused_by : (k : ℕ) → read_book bytes ≡ refused k → (0 < k) × (k < 10) × (k ≢ 6)
  book_refused_by k e = rw e at told

-- Dated books, and either form

dated_rule_takes : (ops : List Operator) → TakesWritten write_dated_rule (read_dated_rule ops)
unfolding read_dated_rule write_dated_rule to_bits
dated_rule_takes ops xs =
    then_gives _ (field_takes 16 xs) λ d ys h.
    then_gives _ (rule_takes ops ys) λ r zs k.
    answer (record { day = d; rule = r }) zs (omega arith)

-- the bits behind the byte 0
abbrev dated_bits : DatedBook → ℕ
dated_bits D = 16 + (length (concat write_operator D.operators) + length (concat write_dated_rule D.rules))

dated_length : (D : DatedBook) → length (write_dated D) ≡ (dated_bits D + 7) / 8
unfolding write_dated to_bits
dated_length D =
    rw length_bytes_of (omega (arith, length-append (concat write_operator D.operators) (to_bits 8 (length D.rules) ++ concat write_dated_rule D.rules)))

dated_bits_take : Takes dated_bits read_dated_bits
unfolding read_dated_bits
dated_bits_take xs =
    then_gives _ (count_takes xs) λ n ys h.
    then_gives _ (repeat_takes write_operator read_operator operator_takes n ys) λ ops zs k.
    then_gives _ (field_takes 8 zs) λ m us l.
    then_gives _ (repeat_takes write_dated_rule (read_dated_rule ops) (dated_rule_takes ops) m us) λ rules vs i.
    end_takes dated_bits (record { operators = ops; rules = rules }) (length xs) vs (omega arith)

abbrev DatedTold : List ℕ → Result DatedBook → Type 0
DatedTold bytes (refused k) = OfBook k
DatedTold bytes (accepted D) = length (write_dated D) ≤ length bytes

dated_told : (bytes : List ℕ) → DatedTold bytes (read_dated bytes)
unfolding read_dated then
dated_told bytes = go (dated_bits_take (bits_of bytes))
  where
    go : {x : Result (Read DatedBook)} → Gives dated_bits (length (bits_of bytes)) x → DatedTold bytes (then x (λ r. accepted r.value))
    go (refusal k h) = h
    go (answer D xs h) = omega (arith, length_bits_of bytes, dated_length D)

abbrev AnyTold : List ℕ → Result AnyBook → Type 0
AnyTold bytes (refused k) = OfBook k
AnyTold bytes (accepted A) = length (write_any A) ≤ length bytes

module _ (bytes : List ℕ) where
  any_told : AnyTold bytes (read_any bytes)
  unfolding read_any write_any then
  any_told = elim (either (is_dated bytes)) [
    | inl e ↦ rw (e, read_any) (dated bytes e (read_dated (drop 1 bytes)) (dated_told (drop 1 bytes)))
    | inr e ↦ rw (e, read_any) (undated (read_book bytes) (told bytes))
  ]
    where
      undated : (x : Result Book) → Told bytes x → AnyTold bytes (then x (λ B. accepted (AnyBook.undated B)))
      undated (refused k) h = h
      undated (accepted B) h = h

      dated : (bytes : List ℕ) → is_dated bytes ≡ true → (x : Result DatedBook) → DatedTold (drop 1 bytes) x →
          AnyTold bytes (then x (λ D. accepted (AnyBook.dated D)))
      dated bytes e (refused k) h = h
      dated [] e (accepted D) h = absurd (true≢false (sym e))
      dated (b ∷ bs) e (accepted D) h = omega arith

  -- a written book is never longer than the bytes that were read, whatever its form
  pub any_no_longer : (A : AnyBook) → read_any bytes ≡ accepted A → length (write_any A) ≤ length bytes
  any_no_longer A e = rw e at any_told

  -- a book in either form is refused by 1 to 9, but not by 6
  pub any_refused_by : (k : ℕ) → read_any bytes ≡ refused k → (0 < k) × (k < 10) × (k ≢ 6)
  any_refused_by k e = rw e at any_told
