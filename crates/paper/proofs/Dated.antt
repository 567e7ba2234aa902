-- Laws of a book in either form (document 02, Change 5): a service that knows no dates refuses every dated book by 2; what is read is good and sound
-- on every day; what is written is read back in its form. Assumes nothing.
use mathlib.Core.Bool.{true, false}
use mathlib.Core.List.{List, [], ◌∷◌, ◌++◌, append_assoc}
use mathlib.Core.Logic.{inl, inr}
use mathlib.Core.Path.{◌≡◌, refl, sym, ap, ◌∙◌, subst}
use Prim.Native.Nat.{ℕ, ◌≤◌, ◌<◌}
use native.Mathlib.Nat.{le_of_lt}
use native.Mathlib.Omega.{arith}
use lib.Dec.{eqb}
use lib.ListN.{length, drop, replicate}
use Rattle.paper.specs.Result.{Result, refused, accepted, Read, return, then, repeat}
use Rattle.paper.specs.Bits.{to_bits, bits_of, field}
use Rattle.paper.specs.Book.{Operator, Rule, Book}
use Rattle.paper.specs.Reader.{read_operator, read_rule, read_count, read_end, read_book}
use Rattle.paper.specs.Writer.{concat, write_operator, write_rule, write_book}
use Rattle.paper.specs.Dated.{DatedRule, DatedBook, AnyBook, is_dated, read_dated_rule, read_dated_bits, read_dated, read_any}
use Rattle.paper.specs.Dated.{write_dated_rule, write_dated, write_any, stands, standing, on_day}
use Rattle.paper.specs.Sound.{All, Sound}
use Rattle.paper.specs.WellFormed.{GoodOperator, GoodRule, GoodBook, GoodDatedRule, GoodDated, GoodAny}
use Rattle.paper.specs.Page.{Request, Lengths, frame_fault, unless, run_checked, LineReader, answer_by}
use Rattle.paper.proofs.Tests.{either, eqb_equal}
use Rattle.paper.proofs.Readers.{accepted_injective, refused_accepted, then_accepted}
use Rattle.paper.proofs.Bits.{field_to_bits, field_bounded}
use Rattle.paper.proofs.Bytes.{to_bits_below, bits_below, bits_bytes}
use Rattle.paper.proofs.Operators.{read_operator_good, write_operator_read}
use Rattle.paper.proofs.Rules.{Ensures, answer, ensured, ensures_at, then_ensures, then_is, read_rule_good, write_rule_read}
use Rattle.paper.proofs.Books.{AllBits, repeat_good, repeat_read, both_bits, concat_bits, operator_bits, rule_bits, count_good, count_read, end_good, end_read}
use Rattle.paper.proofs.Books.{read_book_good, write_read, good_book_sound}

-- THE TWO FORMS

-- a service that is not yet updated refuses every book whose first byte is 0 by 2, whatever follows
pub old_refuses : (bytes : List ℕ) → read_book (0 ∷ bytes) ≡ refused 2
unfolding read_book
old_refuses bytes = refl

-- an updated one refuses it by 2 if the count after that byte is 0
pub dated_count_zero : (bytes : List ℕ) → read_any (0 ∷ 0 ∷ bytes) ≡ refused 2
unfolding read_any
dated_count_zero bytes = refl

-- by 1 if there is no byte after it
pub dated_alone : read_any (0 ∷ []) ≡ refused 1
unfolding read_any
dated_alone = refl

module _ (bytes : List ℕ) where
  pub read_as_dated : is_dated bytes ≡ true → read_any bytes ≡ then (read_dated (drop 1 bytes)) (λ D. accepted (AnyBook.dated D))
  unfolding read_any
  read_as_dated e = rw (e, read_any)

  pub read_as_undated : is_dated bytes ≡ false → read_any bytes ≡ then (read_book bytes) (λ B. accepted (AnyBook.undated B))
  unfolding read_any
  read_as_undated e = rw (e, read_any)

-- a book that such a service accepts is undated
pub accepted_undated : (bytes : List ℕ) (B : Book) → read_book bytes ≡ accepted B → is_dated bytes ≡ false
unfolding is_dated
accepted_undated [] B e = refl
accepted_undated (b ∷ bs) B e = elim (either (eqb b 0)) [
  | inl p ↦ absurd (refused_accepted (sym (old_refuses bs) ∙ ap (λ (x : ℕ). read_book (x ∷ bs)) (sym (eqb_equal b 0 p)) ∙ e))
  | inr p ↦ p
]

-- and it is read as it was
pub still_read : (bytes : List ℕ) (B : Book) → read_book bytes ≡ accepted B → read_any bytes ≡ accepted (AnyBook.undated B)
still_read bytes B e = read_as_undated bytes (accepted_undated bytes B e) ∙ then_is _ _ _ _ e refl

-- an accepted book, by its form
pub data ReadAs (bytes : List ℕ) : AnyBook → Type 0 where
  as_undated : {B : Book} → is_dated bytes ≡ false → read_book bytes ≡ accepted B → ReadAs bytes (AnyBook.undated B)
  as_dated : {D : DatedBook} → is_dated bytes ≡ true → read_dated (drop 1 bytes) ≡ accepted D → ReadAs bytes (AnyBook.dated D)

pub read_form : (bytes : List ℕ) (A : AnyBook) → read_any bytes ≡ accepted A → ReadAs bytes A
read_form bytes A e = elim (either (is_dated bytes)) [
  | inl f ↦
      let (D, p, q) = then_accepted (read_dated (drop 1 bytes)) (λ D. accepted (AnyBook.dated D)) A (sym (read_as_dated bytes f) ∙ e) in
      subst (ReadAs bytes) (accepted_injective q) (as_dated f p)
  | inr f ↦
      let (B, p, q) = then_accepted (read_book bytes) (λ B. accepted (AnyBook.undated B)) A (sym (read_as_undated bytes f) ∙ e) in
      subst (ReadAs bytes) (accepted_injective q) (as_undated f p)
]

-- WHAT IS READ IS GOOD

dated_rule_good : (ops : List Operator) (xs : List ℕ) → AllBits xs → Ensures (λ r. GoodDatedRule ops r.value × AllBits r.left) (read_dated_rule ops xs)
unfolding read_dated_rule
dated_rule_good ops xs h =
    then_ensures _ (ensured _ (field 16 xs) (λ r e. field_bounded 16 xs r h e)) λ (d : Read ℕ) a.
    then_ensures _ (ensured _ (read_rule ops d.left) (λ r e. read_rule_good ops d.left r a.1 e)) λ (r : Read Rule) b.
    answer (record { day = a.0; rule = b.0 }, b.1)

dated_bits_good : (xs : List ℕ) → AllBits xs → Ensures (λ r. GoodDated r.value) (read_dated_bits xs)
unfolding read_dated_bits
dated_bits_good xs h =
    then_ensures _ (ensured _ (read_count xs) (λ r e. count_good xs r h e)) λ (n : Read ℕ) a.
    then_ensures _
    (ensured _ (repeat n.value read_operator n.left) (λ r e. repeat_good GoodOperator read_operator read_operator_good n.value n.left r a.2 e))
    λ (ops : Read (List Operator)) b.
    then_ensures _ (ensured _ (field 8 ops.left) (λ r e. field_bounded 8 ops.left r b.2 e)) λ (m : Read ℕ) c.
    let read = read_dated_rule ops.value in
    then_ensures _
    (ensured _ (repeat m.value read m.left)
    (λ r e. repeat_good (GoodDatedRule ops.value) read (λ xs r h e. ensures_at (dated_rule_good ops.value xs h) e) m.value m.left r c.1 e))
    λ (rules : Read (List DatedRule)) g.
    ensured _ (read_end _ rules.left)
    (λ r e. subst GoodDated (sym (end_good _ rules.left r e))
    (record { some_operators = omega (arith, a.0, b.0); few_operators = omega (arith, a.1, b.0); operators = b.1; few_rules = omega (arith, c.0, g.0); rules = g.1 }))

pub read_dated_good : (bytes : List ℕ) (D : DatedBook) → read_dated bytes ≡ accepted D → GoodDated D
unfolding read_dated
read_dated_good bytes D e =
    let (r, q, e₁) = then_accepted (read_dated_bits (bits_of bytes)) (λ r. accepted r.value) D e in
    subst GoodDated (accepted_injective e₁) (ensures_at (dated_bits_good (bits_of bytes) (bits_below bytes)) q)

pub read_any_good : (bytes : List ℕ) (A : AnyBook) → read_any bytes ≡ accepted A → GoodAny A
read_any_good bytes A e = go (read_form bytes A e)
  where
    go : {A : AnyBook} → ReadAs bytes A → GoodAny A
    go (as_undated {B} f p) = read_book_good bytes B p
    go (as_dated {D} f p) = read_dated_good (drop 1 bytes) D p

-- ON EVERY DAY

module _ (ops : List Operator) (d : ℕ) where
  standing_good : (before behind : List DatedRule) → All (GoodDatedRule ops) behind → All (GoodRule ops) (standing d before behind)
  unfolding standing
  standing_good before [] h = tt
  standing_good before (r ∷ behind) (h, hs) = elim (either (stands d before r behind)) [
    | inl e ↦ rw (e, standing) (h.rule, standing_good (before ++ (r ∷ [])) behind hs)
    | inr e ↦ rw (e, standing) (standing_good (before ++ (r ∷ [])) behind hs)
  ]

-- no more rules stand than there are
pub standing_few : (d : ℕ) (before behind : List DatedRule) → length (standing d before behind) ≤ length behind
unfolding standing
standing_few d before [] = omega arith
standing_few d before (r ∷ behind) = elim (either (stands d before r behind)) [
  | inl e ↦ rw (e, standing) (omega (arith, standing_few d (before ++ (r ∷ [])) behind))
  | inr e ↦ rw (e, standing) (omega (arith, standing_few d (before ++ (r ∷ [])) behind))
]

-- the book of a day is good, so all that holds of a good book holds of it
pub on_day_good : (d : ℕ) (A : AnyBook) → GoodAny A → GoodBook (on_day d A)
unfolding on_day
on_day_good d (AnyBook.undated B) g = g
on_day_good d (AnyBook.dated D) g = record {
  some_operators = g.some_operators;
  few_operators = g.few_operators;
  operators = g.operators;
  few_rules = omega (arith, g.few_rules, standing_few d [] D.rules);
  rules = standing_good D.operators d [] D.rules g.rules;
}

pub day_good : (bytes : List ℕ) (A : AnyBook) → read_any bytes ≡ accepted A → (d : ℕ) → GoodBook (on_day d A)
day_good bytes A e d = on_day_good d A (read_any_good bytes A e)

pub day_sound : (bytes : List ℕ) (A : AnyBook) → read_any bytes ≡ accepted A → (d : ℕ) → Sound (on_day d A)
day_sound bytes A e d = good_book_sound (on_day d A) (day_good bytes A e d)

-- WHAT IS WRITTEN IS READ BACK

rule_read : (ops : List Operator) (xs ys zs : List ℕ) (r : DatedRule) → field 16 xs ≡ return r.day ys → read_rule ops ys ≡ return r.rule zs →
    read_dated_rule ops xs ≡ return r zs
unfolding read_dated_rule
rule_read ops xs ys zs r e f = then_is _ _ _ _ e (then_is _ _ _ _ f refl)

dated_rule_read : (ops : List Operator) (r : DatedRule) (xs : List ℕ) → length ops ≤ 256 → GoodDatedRule ops r →
    read_dated_rule ops (write_dated_rule r ++ xs) ≡ return r xs
unfolding write_dated_rule
dated_rule_read ops r xs l g =
    let ys = write_rule r.rule ++ xs in
    ap (read_dated_rule ops) (append_assoc (to_bits 16 r.day) (write_rule r.rule) xs)
    ∙ rule_read ops (to_bits 16 r.day ++ ys) ys xs r (field_to_bits 16 r.day ys g.day) (write_rule_read ops r.rule xs l g.rule)

dated_rule_bits : (r : DatedRule) → AllBits (write_dated_rule r)
unfolding write_dated_rule
dated_rule_bits r = both_bits (to_bits 16 r.day) (write_rule r.rule) (to_bits_below 16 r.day) (rule_bits r.rule)

module _ (D : DatedBook) where
  -- the bits that are written, by their parts
  rule_part : List ℕ
  rule_part = to_bits 8 (length D.rules) ++ concat write_dated_rule D.rules

  parts : List ℕ
  parts = to_bits 8 (length D.operators) ++ (concat write_operator D.operators ++ rule_part)

  parts_bits : AllBits parts
  unfolding parts rule_part
  parts_bits =
      let n : ℕ = length D.operators in
      let m : ℕ = length D.rules in
      both_bits (to_bits 8 n) (concat write_operator D.operators ++ rule_part) (to_bits_below 8 n)
      (both_bits (concat write_operator D.operators) rule_part (concat_bits write_operator operator_bits D.operators)
      (both_bits (to_bits 8 m) (concat write_dated_rule D.rules) (to_bits_below 8 m) (concat_bits write_dated_rule dated_rule_bits D.rules)))

  module _ (g : GoodDated D) where
    bits_read : (k : ℕ) → k < 8 → read_dated_bits (parts ++ replicate k 0) ≡ return D (replicate k 0)
    unfolding read_dated_bits parts rule_part
    bits_read k l =
        let ops : List Operator = D.operators in
        let n : ℕ = length ops in
        let m : ℕ = length D.rules in
        let zs : List ℕ = replicate k 0 in
        let os : List ℕ = concat write_operator ops in
        let rs : List ℕ = concat write_dated_rule D.rules in
        rw (append_assoc (to_bits 8 n) (os ++ rule_part) zs, append_assoc os rule_part zs, append_assoc (to_bits 8 m) rs zs)
        (then_is _ _ _ _ (count_read n (os ++ (to_bits 8 m ++ (rs ++ zs))) g.some_operators g.few_operators)
        (then_is _ _ _ _ (repeat_read GoodOperator read_operator write_operator write_operator_read ops (to_bits 8 m ++ (rs ++ zs)) g.operators)
        (then_is _ _ _ _ (field_to_bits 8 m (rs ++ zs) g.few_rules)
        (then_is _ _ _ _
        (repeat_read (GoodDatedRule ops) (read_dated_rule ops) write_dated_rule
        (λ r xs h. dated_rule_read ops r xs (le_of_lt g.few_operators) h) D.rules zs g.rules)
        (end_read D k l)))))

    pub write_dated_read : read_dated (write_dated D) ≡ accepted D
    unfolding read_dated write_dated parts rule_part
    write_dated_read =
        let (k, l, e) = bits_bytes parts parts_bits in
        then_is _ _ _ _ (ap read_dated_bits e ∙ bits_read k l) refl

pub write_any_read : (A : AnyBook) → GoodAny A → read_any (write_any A) ≡ accepted A
unfolding write_any read_any
write_any_read (AnyBook.undated B) g = still_read (write_book B) B (write_read B g)
write_any_read (AnyBook.dated D) g = then_is _ _ _ _ (write_dated_read D g) refl

-- demand 2 for both forms: what was read is, when written, read back in its form
pub round_trip_any : (bytes : List ℕ) (A : AnyBook) → read_any bytes ≡ accepted A → read_any (write_any A) ≡ accepted A
round_trip_any bytes A e = write_any_read A (read_any_good bytes A e)

-- AN UNDATED BOOK IGNORES THE DAY

pub undated_day : (d : ℕ) (B : Book) → on_day d (AnyBook.undated B) ≡ B
unfolding on_day
undated_day d B = refl

-- a request is answered alike on every day
pub day_ignored : (read : LineReader) (published : Lengths) (q : Request) → is_dated q.book ≡ false → (d : ℕ) →
    answer_by read published
    (record {
      book = q.book;
      line = q.line;
      units = q.units;
      budget = q.budget;
      day = d;
      schedule = q.schedule;
      work = q.work;
      net = q.net;
      output = q.output;
    })
    ≡ answer_by read published q
unfolding answer_by
day_ignored read published q e d = rw (read_as_undated q.book e) (go (read_book q.book))
  where
    go : (x : Result Book) → unless (frame_fault published q)
        (then (then x (λ B. accepted (AnyBook.undated B))) (λ A. let B = on_day d A in then (read B q.line) (λ t. run_checked q B t))) ≡
        unless (frame_fault published q)
        (then (then x (λ B. accepted (AnyBook.undated B))) (λ A. let B = on_day q.day A in then (read B q.line) (λ t. run_checked q B t)))
    go (refused n) = refl
    go (accepted B) = refl
