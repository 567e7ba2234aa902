-- Laws of the book's reader and writer: what is read is good, hence sound; a good book that is written is read back. Assumes nothing.
use mathlib.Core.Bool.{Bool, true, false}
use mathlib.Core.List.{List, [], ◌∷◌, ◌++◌, append_assoc}
use mathlib.Core.Path.{◌≡◌, refl, sym, ap, ◌∙◌, subst}
use Prim.Native.Nat.{ℕ, zero, suc, ◌<◌}
use native.Mathlib.Nat.{le_of_lt}
use native.Mathlib.Omega.{arith}
use lib.Dec.{eqb, eqb-suc-zero, ltb}
use lib.ListN.{length, get_or, replicate, length-replicate}
use Rattle.paper.specs.Result.{Result, accepted, Read, Reader, if, return, refuse, then, ◌>>=◌, repeat}
use Rattle.paper.specs.Bits.{to_bits, bits_of, field}
use Rattle.paper.specs.Tree.{preorder}
use Rattle.paper.specs.Strategy.{Item, layout, default}
use Rattle.paper.specs.Book.{Operator, Symbol, Side, Rule, Book, arity, steps}
use Rattle.paper.specs.Reader.{read_operator, read_rule, read_count, all_zero, read_end, read_bits, read_book}
use Rattle.paper.specs.Writer.{concat, numbers, same, write_strategy, write_operator, write_symbol, write_side, write_rule, write_book}
use Rattle.paper.specs.Sound.{All, Distinct, Within, EndsWhole, SoundRule, Sound}
use Rattle.paper.specs.WellFormed.{GoodOperator, GoodRule, GoodBook}
use Rattle.paper.proofs.Lists.{all_append, all_map}
use Rattle.paper.proofs.Tests.{ltb_true}
use Rattle.paper.proofs.Readers.{accepted_injective, refused_accepted, return_accepted, then_accepted, bind_accepted, bind_return}
use Rattle.paper.proofs.Bits.{field_to_bits, field_bounded}
use Rattle.paper.proofs.Bytes.{to_bits_below, bits_below, bits_bytes}
use Rattle.paper.proofs.Operators.{good_distinct, good_within, read_operator_good, write_operator_read}
use Rattle.paper.proofs.Rules.{read_rule_good, write_rule_read, good_sound}

-- some bits
abbrev pub AllBits : List ℕ → Type 0
AllBits = All (λ x. x < 2)

-- Repeated reading and writing

module _ {A : Type 0} (P : A → Type 0) (p : Reader A) where
  abbrev Repeated : ℕ → Read (List A) → Type 0
  Repeated n r = (length r.value ≡ n) × All P r.value × AllBits r.left

  -- what is read n times are n values, each as the reader ensures
  pub repeat_good : ((xs : List ℕ) (r : Read A) → AllBits xs → p xs ≡ accepted r → P r.value × AllBits r.left) →
      (n : ℕ) (xs : List ℕ) (r : Read (List A)) → AllBits xs → repeat n p xs ≡ accepted r → Repeated n r
  unfolding repeat
  repeat_good good zero xs r h e = return_accepted [] xs r (Repeated 0) e (refl, tt, h)
  repeat_good good (suc n) xs r h e =
      let (a, q, e₁) = bind_accepted p (λ a. repeat n p >>= (λ as'. return (a ∷ as'))) xs r e in
      let (b, s, e₂) = bind_accepted (repeat n p) (λ as'. return (a.value ∷ as')) a.left r e₁ in
      let (g, k) = good xs a h q in
      let (l, gs, ks) = repeat_good good n a.left b k s in
      return_accepted (a.value ∷ b.value) b.left r (Repeated (suc n)) e₂ (ap suc l, (g, gs), ks)

  -- values that are read back one by one are read back one after another
  pub repeat_read : (write : A → List ℕ) → ((a : A) (xs : List ℕ) → P a → p (write a ++ xs) ≡ return a xs) →
      (as' : List A) (xs : List ℕ) → All P as' → repeat (length as') p (concat write as' ++ xs) ≡ return as' xs
  unfolding repeat concat
  repeat_read write back [] xs h = refl
  repeat_read write back (a ∷ as') xs h =
      let n : ℕ = length as' in
      let ys : List ℕ = concat write as' ++ xs in
      ap (repeat (suc n) p) (append_assoc (write a) (concat write as') xs)
      ∙ bind_return p (λ a. repeat n p >>= (λ as'. return (a ∷ as'))) (write a ++ ys) ys a (back a ys h.0)
      ∙ bind_return (repeat n p) (λ as'. return (a ∷ as')) ys xs as' (repeat_read write back as' xs h.1)

-- What is written are bits

pub both_bits : (xs ys : List ℕ) → AllBits xs → AllBits ys → AllBits (xs ++ ys)
both_bits = all_append (λ x. x < 2)

pub concat_bits : {A : Type 0} (write : A → List ℕ) → ((a : A) → AllBits (write a)) → (as' : List A) → AllBits (concat write as')
unfolding concat
concat_bits write h [] = tt
concat_bits write h (a ∷ as') = both_bits (write a) (concat write as') (h a) (concat_bits write h as')

if_bits : (b : Bool) (xs ys : List ℕ) → AllBits xs → AllBits ys → AllBits (if b xs ys)
if_bits true xs ys h k = h
if_bits false xs ys h k = k

strategy_bits : (arity : ℕ) (is : List Item) → AllBits (write_strategy arity is)
unfolding write_strategy
strategy_bits arity is =
    let ns : List ℕ = numbers is in
    let len : List ℕ = to_bits 5 (length ns) in
    let given : List ℕ = len ++ concat (to_bits 4) ns in
    if_bits (same ns (numbers (default arity))) (to_bits 1 0) (to_bits 1 1 ++ given) (to_bits_below 1 0)
    (both_bits (to_bits 1 1) given (to_bits_below 1 1)
    (both_bits len (concat (to_bits 4) ns) (to_bits_below 5 (length ns)) (concat_bits (to_bits 4) (to_bits_below 4) ns)))

pub operator_bits : (o : Operator) → AllBits (write_operator o)
unfolding write_operator
operator_bits o =
    both_bits (to_bits 3 o.arity) (write_strategy o.arity o.strategy) (to_bits_below 3 o.arity) (strategy_bits o.arity o.strategy)

symbol_bits : (s : Symbol) → AllBits (write_symbol s)
unfolding write_symbol
symbol_bits (Symbol.operator o) = both_bits (to_bits 1 0) (to_bits 8 o) (to_bits_below 1 0) (to_bits_below 8 o)
symbol_bits (Symbol.variable v) = both_bits (to_bits 1 1) (to_bits 4 v) (to_bits_below 1 1) (to_bits_below 4 v)

side_bits : (s : Side) → AllBits (write_side s)
unfolding write_side
side_bits s = concat_bits write_symbol symbol_bits (preorder s)

pub rule_bits : (r : Rule) → AllBits (write_rule r)
unfolding write_rule
rule_bits r = both_bits (write_side r.left) (write_side r.right) (side_bits r.left) (side_bits r.right)

-- The count of operators, and the end

-- what `read_count` does with its number
checked : ℕ → Reader ℕ
checked n = if (eqb n 0) (refuse 2) (return n)

checked_suc : (n : ℕ) (xs : List ℕ) → checked (suc n) xs ≡ return (suc n) xs
unfolding checked
checked_suc n xs = ap (λ (b : Bool). if b (refuse 2) (return (suc n)) xs) (eqb-suc-zero n)

abbrev CountRead : Read ℕ → Type 0
CountRead r = (0 < r.value) × (r.value < 256) × AllBits r.left

checked_good : (n : ℕ) (xs : List ℕ) (r : Read ℕ) → n < 256 → AllBits xs → checked n xs ≡ accepted r → CountRead r
unfolding checked refuse
checked_good zero xs r l h e = absurd (refused_accepted e)
checked_good (suc n) xs r l h e = return_accepted (suc n) xs r CountRead (sym (checked_suc n xs) ∙ e) (omega arith, l, h)

pub count_good : (xs : List ℕ) (r : Read ℕ) → AllBits xs → read_count xs ≡ accepted r → CountRead r
unfolding read_count checked
count_good xs r h e =
    let (a, q, e₁) = bind_accepted (field 8) checked xs r e in
    let (l, k) = field_bounded 8 xs a h q in
    checked_good a.value a.left r l k e₁

pub count_read : (n : ℕ) (xs : List ℕ) → 0 < n → n < 256 → read_count (to_bits 8 n ++ xs) ≡ return n xs
unfolding read_count checked
count_read zero xs h l = absurd (omega arith)
count_read (suc n) xs h l = bind_return (field 8) checked (to_bits 8 (suc n) ++ xs) xs (suc n) (field_to_bits 8 (suc n) xs l) ∙ checked_suc n xs

pub end_good : {A : Type 0} (B : A) (xs : List ℕ) (r : Read A) → read_end B xs ≡ accepted r → r.value ≡ B
unfolding read_end
end_good B xs r e = go (ltb (length xs) 8) (all_zero xs) e
  where
    go : (b c : Bool) → if b (if c (return B xs) (refuse 9 xs)) (refuse 9 xs) ≡ accepted r → r.value ≡ B
    go true true e = return_accepted B xs r (λ z. z.value ≡ B) e refl
    go true false e = absurd (refused_accepted e)
    go false c e = absurd (refused_accepted e)

all_zero_zeros : (k : ℕ) → all_zero (replicate k 0) ≡ true
unfolding all_zero
all_zero_zeros zero = refl
all_zero_zeros (suc k) = all_zero_zeros k

pub end_read : {A : Type 0} (B : A) (k : ℕ) → k < 8 → read_end B (replicate k 0) ≡ return B (replicate k 0)
unfolding read_end
end_read B k l = rw (length-replicate {A = ℕ} k 0, ltb_true k 8 l, all_zero_zeros k)

-- The whole book

-- the reader and the writer behind the operators
read_rules : List Operator → Reader Book
read_rules ops = do
  m ← field 8
  rules ← repeat m (read_rule ops)
  read_end (record { operators = ops; rules = rules })

read_parts : (xs : List ℕ) → read_bits xs ≡ (read_count >>= (λ n. repeat n read_operator >>= read_rules)) xs
unfolding read_bits read_rules
read_parts xs = refl

write_rules : List Rule → List ℕ
write_rules rules = to_bits 8 (length rules) ++ concat write_rule rules

write_parts : Book → List ℕ
write_parts B = to_bits 8 (length B.operators) ++ (concat write_operator B.operators ++ write_rules B.rules)

parts_bits : (B : Book) → AllBits (write_parts B)
unfolding write_parts write_rules
parts_bits B =
    let n : ℕ = length B.operators in
    let m : ℕ = length B.rules in
    both_bits (to_bits 8 n) (concat write_operator B.operators ++ write_rules B.rules) (to_bits_below 8 n)
    (both_bits (concat write_operator B.operators) (write_rules B.rules) (concat_bits write_operator operator_bits B.operators)
    (both_bits (to_bits 8 m) (concat write_rule B.rules) (to_bits_below 8 m) (concat_bits write_rule rule_bits B.rules)))

rules_good : (ops : List Operator) (xs : List ℕ) (r : Read Book) → 0 < length ops → length ops < 256 → All GoodOperator ops → AllBits xs →
    read_rules ops xs ≡ accepted r → GoodBook r.value
unfolding read_rules
rules_good ops xs r some few gs h e =
    let end : List Rule → Reader Book = λ rules. read_end (record { operators = ops; rules = rules }) in
    let (a, q, e₁) = bind_accepted (field 8) (λ m. repeat m (read_rule ops) >>= end) xs r e in
    let (b, s, e₂) = bind_accepted (repeat a.value (read_rule ops)) end a.left r e₁ in
    let (l, k) = field_bounded 8 xs a h q in
    let (n, g, _) = repeat_good (GoodRule ops) (read_rule ops) (read_rule_good ops) a.value a.left b k s in
    subst GoodBook (sym (end_good (record { operators = ops; rules = b.value }) b.left r e₂))
    (record { some_operators = some; few_operators = few; operators = gs; few_rules = omega arith; rules = g })

bits_good : (xs : List ℕ) (r : Read Book) → AllBits xs → read_bits xs ≡ accepted r → GoodBook r.value
bits_good xs r h e =
    let (a, q, e₁) = bind_accepted read_count (λ n. repeat n read_operator >>= read_rules) xs r (sym (read_parts xs) ∙ e) in
    let (b, s, e₂) = bind_accepted (repeat a.value read_operator) read_rules a.left r e₁ in
    let (z, l, k) = count_good xs a h q in
    let (n, g, k₁) = repeat_good GoodOperator read_operator read_operator_good a.value a.left b k s in
    rules_good b.value b.left r (omega arith) (omega arith) g k₁ e₂

pub read_book_good : (bytes : List ℕ) (B : Book) → read_book bytes ≡ accepted B → GoodBook B
unfolding read_book
read_book_good bytes B e =
    let (r, q, e₁) = then_accepted (read_bits (bits_of bytes)) (λ r. accepted r.value) B e in
    subst GoodBook (accepted_injective e₁) (bits_good (bits_of bytes) r (bits_below bytes) q)

rules_read : (B : Book) (k : ℕ) → k < 8 → GoodBook B → read_rules B.operators (write_rules B.rules ++ replicate k 0) ≡ return B (replicate k 0)
unfolding read_rules write_rules
rules_read B k l g =
    let ops : List Operator = B.operators in
    let end : List Rule → Reader Book = λ rules. read_end (record { operators = ops; rules = rules }) in
    let m : ℕ = length B.rules in
    let zs : List ℕ = replicate k 0 in
    let ws : List ℕ = concat write_rule B.rules in
    ap (read_rules ops) (append_assoc (to_bits 8 m) ws zs)
    ∙ bind_return (field 8) (λ m. repeat m (read_rule ops) >>= end) (to_bits 8 m ++ (ws ++ zs)) (ws ++ zs) m (field_to_bits 8 m (ws ++ zs) g.few_rules)
    ∙ bind_return (repeat m (read_rule ops)) end (ws ++ zs) zs B.rules
    (repeat_read (GoodRule ops) (read_rule ops) write_rule (λ r xs h. write_rule_read ops r xs (le_of_lt g.few_operators) h) B.rules zs g.rules)
    ∙ end_read B k l

bits_read : (B : Book) (k : ℕ) → k < 8 → GoodBook B → read_bits (write_parts B ++ replicate k 0) ≡ return B (replicate k 0)
unfolding write_parts
bits_read B k l g =
    let n : ℕ = length B.operators in
    let zs : List ℕ = replicate k 0 in
    let ws : List ℕ = concat write_operator B.operators in
    let vs : List ℕ = write_rules B.rules in
    read_parts (write_parts B ++ zs)
    ∙ ap (read_count >>= (λ n. repeat n read_operator >>= read_rules)) (append_assoc (to_bits 8 n) (ws ++ vs) zs)
    ∙ bind_return read_count (λ n. repeat n read_operator >>= read_rules) (to_bits 8 n ++ (ws ++ vs ++ zs)) (ws ++ vs ++ zs) n
    (count_read n (ws ++ vs ++ zs) g.some_operators g.few_operators)
    ∙ ap (repeat n read_operator >>= read_rules) (append_assoc ws vs zs)
    ∙ bind_return (repeat n read_operator) read_rules (ws ++ (vs ++ zs)) (vs ++ zs) B.operators
    (repeat_read GoodOperator read_operator write_operator write_operator_read B.operators (vs ++ zs) g.operators)
    ∙ rules_read B k l g

-- a good book that is written is read back
pub write_read : (B : Book) → GoodBook B → read_book (write_book B) ≡ accepted B
unfolding read_book write_book write_parts write_rules
write_read B g =
    let (k, l, e) = bits_bytes (write_parts B) (parts_bits B) in
    ap (λ (x : Result (Read Book)). then x (λ r. accepted r.value)) (ap read_bits e ∙ bits_read B k l g)

pub round_trip : (bytes : List ℕ) (B : Book) → read_book bytes ≡ accepted B → read_book (write_book B) ≡ accepted B
round_trip bytes B e = write_read B (read_book_good bytes B e)

-- What is read is sound

pub all_get_d : {A : Type 0} (P : A → Type 0) (as' : List A) (n : ℕ) (d : A) → P d → All P as' → P (get_or as' n d)
all_get_d P [] n d p h = p
all_get_d P (a ∷ as') zero d p h = h.0
all_get_d P (a ∷ as') (suc n) d p h = all_get_d P as' n d p h.1

pub good_book_sound : (B : Book) → GoodBook B → Sound B
unfolding steps
good_book_sound B g =
    let D : Operator → Type 0 = λ o. Distinct (layout o.strategy) in
    let W : Operator → Type 0 = λ o. Within o.arity (layout o.strategy) in
    let E : Operator → Type 0 = λ o. EndsWhole o.strategy in
    record {
      distinct = λ o. all_get_d D B.operators o _ tt (all_map GoodOperator D good_distinct B.operators g.operators);
      within = λ o. all_get_d W B.operators o _ tt (all_map GoodOperator W good_within B.operators g.operators);
      ends = λ o. all_get_d E B.operators o _ tt (all_map GoodOperator E (λ o h. h.ends) B.operators g.operators);
      rules = all_map (GoodRule B.operators) (SoundRule B) (good_sound B) B.rules g.rules;
    }

pub read_sound : (bytes : List ℕ) (B : Book) → read_book bytes ≡ accepted B → Sound B
read_sound bytes B e = good_book_sound B (read_book_good bytes B e)
