-- The whole book in either form: its parts as they are read, and its written bytes by their bits. Assumes nothing.
use mathlib.Core.Bool.{Bool, true, false, true≢false}
use mathlib.Core.List.{List, [], ◌∷◌, ◌++◌, map}
use mathlib.Core.Path.{◌≡◌, refl, sym, ap, ap₂, ◌∙◌, subst, subst₂}
use Prim.Native.Nat.{ℕ, zero, suc, ◌+◌, ◌-◌, ◌*◌, ◌/◌, ◌%◌, ◌^◌, ◌≤◌, ◌<◌}
use native.Mathlib.Nat.{mod-eq_of_lt, zero-add, zero-div}
use native.Mathlib.Omega.{arith}
use lib.Dec.{eqb}
use lib.ListN.{length, take, drop, replicate, length-append, length-map, length-replicate, take-append-drop}
use lib.Seq.{take_at, drop_at, drop-drop, length-take-le, get_or-drop}
use Rattle.paper.specs.Result.{accepted, Read, Reader, return, refuse, if, ◌>>=◌, repeat}
use Rattle.paper.specs.Bits.{to_bits, value, bits_of, bytes_from, bytes_of, field}
use Rattle.paper.specs.Book.{Operator, Rule, Book}
use Rattle.paper.specs.Reader.{read_operator, read_rule, read_count, read_end, read_bits, read_book}
use Rattle.paper.specs.Writer.{concat, write_operator, write_rule, write_book}
use Rattle.paper.specs.Dated.{DatedRule, DatedBook, AnyBook, is_dated, read_dated_rule, read_dated_bits, read_dated, read_any}
use Rattle.paper.specs.Dated.{write_dated_rule, write_dated, write_any}
use Rattle.paper.specs.Sound.{All}
use Rattle.paper.proofs.Lists.{all_append, all_split}
use Rattle.paper.proofs.Readers.{accepted_injective, refused_accepted, then_accepted, return_accepted, bind_accepted}
use Rattle.paper.proofs.Bits.{length_to_bits, value_to_bits, field_read, all_take}
use Rattle.paper.proofs.Bytes.{bits_below, length_bits_of, bits_of_append, length_bytes_of, bits_bytes, bytes_below}
use Rattle.paper.proofs.Rules.{then_is}
use Rattle.paper.proofs.Books.{end_good}
use Rattle.paper.proofs.Dated.{ReadAs, as_undated, as_dated, read_form}
use Rattle.tables.specs.Tables.{any_book}
use Rattle.side.specs.Promises.{bits_at}
use Rattle.writer.specs.Promises.{BitsPut, AllBytes, OperatorsWritten, count_at, day_bits, FormIs, read_rule_at, write_rule_at, read_rules}
use Rattle.writer.specs.Promises.{RulesWritten, operators_of, AcceptedBook, BookWritten}
use Rattle.writer.specs.declared.Form.{Form}
use Rattle.writer.proofs.Puts.{put_as, put_both}
use Rattle.writer.proofs.Operators.{split, repeat_none, repeat_long}

-- Bytes by their bits

to_bits_same : (x y : ℕ) → x < 256 → y < 256 → to_bits 8 x ≡ to_bits 8 y → x ≡ y
to_bits_same x y h k e = sym (mod-eq_of_lt {m = 2 ^ 8} h) ∙ sym (value_to_bits 8 x) ∙ ap value e ∙ value_to_bits 8 y ∙ mod-eq_of_lt {m = 2 ^ 8} k

bytes_same : (xs ys : List ℕ) → All (λ b. b < 256) xs → All (λ b. b < 256) ys → bits_of xs ≡ bits_of ys → xs ≡ ys
unfolding bits_of
bytes_same [] [] h k e = refl
bytes_same [] (y ∷ ys) h k e = let l = ap length e in absurd (omega (arith, length-append (to_bits 8 y) (bits_of ys), length_to_bits 8 y))
bytes_same (x ∷ xs) [] h k e = let l = ap length e in absurd (omega (arith, length-append (to_bits 8 x) (bits_of xs), length_to_bits 8 x))
bytes_same (x ∷ xs) (y ∷ ys) h k e =
    ap₂ ◌∷◌
    (to_bits_same x y h.0 k.0
    (sym (take_at (to_bits 8 x) (bits_of xs) 8 (length_to_bits 8 x)) ∙ ap (take 8) e ∙ take_at (to_bits 8 y) (bits_of ys) 8 (length_to_bits 8 y)))
    (bytes_same xs ys h.1 k.1
    (sym (drop_at (to_bits 8 x) (bits_of xs) 8 (length_to_bits 8 x)) ∙ ap (drop 8) e ∙ drop_at (to_bits 8 y) (bits_of ys) 8 (length_to_bits 8 y)))

all_bytes : (xs : List ℕ) → AllBytes xs → All (λ b. b < 256) xs
all_bytes [] h = tt
all_bytes (x ∷ xs) h = (h 0, all_bytes xs (λ i. h (suc i)))

bits_of_drop : (k : ℕ) (bytes : List ℕ) → k ≤ length bytes → drop (8 * k) (bits_of bytes) ≡ bits_of (drop k bytes)
bits_of_drop k bytes h =
    ap (λ (xs : List ℕ). drop (8 * k) (bits_of xs)) (sym (take-append-drop k bytes))
    ∙ ap (drop (8 * k)) (bits_of_append (take k bytes) (drop k bytes))
    ∙ drop_at (bits_of (take k bytes)) (bits_of (drop k bytes)) (8 * k)
    (length_bits_of (take k bytes) ∙ ap (λ (m : ℕ). 8 * m) (length-take-le k bytes h))

zeros : (z : ℕ) → to_bits z 0 ≡ replicate z 0
unfolding to_bits
zeros zero = refl
zeros (suc z) = ap₂ (λ (x : ℕ) (xs : List ℕ). x % 2 ∷ xs) (zero-div (2 ^ z)) (zeros z)

-- bits with zero bits up to a whole byte are the bytes that hold them
module _ (xs out out' : List ℕ) (z all size : ℕ) (z_is : z ≡ (8 - length xs % 8) % 8) (size_is : size ≡ all / 8)
    (w : BitsPut 0 (xs ++ to_bits z 0) out out' all) where
  total : all ≡ length xs + z
  total = w.ends ∙ omega (arith, length-append xs (to_bits z 0), length_to_bits z 0)

  pub size_of : size ≡ length (bytes_of xs)
  size_of = let t = total in omega (arith, length_bytes_of xs)

  whole : 8 * size ≡ all
  whole = let t = total in omega arith

  pub bytes_written : size ≤ length out → AllBytes out → AllBytes out' → out' ≡ bytes_of xs ++ drop size out
  bytes_written h b b' =
      let e : 8 * size ≡ all = whole in
      let t = total in
      let fits : all ≤ 8 * length out = omega arith in
      let front : take all (bits_of out') ≡ xs ++ to_bits z 0 = w.front fits in
      let bits : All (λ x. x < 2) xs =
      (all_split (λ x. x < 2) xs (to_bits z 0) (subst (All (λ x. x < 2)) front (all_take all (bits_of out') (bits_below out')))).0 in
      let (k, l, f) = bits_bytes xs bits in
      let same : z ≡ k =
      omega (arith, length_bytes_of xs, length_bits_of (bytes_of xs), ap length f, length-append xs (replicate k 0), length-replicate {A = ℕ} k 0) in
      bytes_same out' (bytes_of xs ++ drop size out) (all_bytes out' b')
      (all_append (λ x. x < 256) (bytes_of xs) (drop size out) (bytes_below xs bits)
      (all_bytes (drop size out) (λ i. rw (get_or-drop size out i 0) (b (size + i)))))
      (sym (take-append-drop all (bits_of out'))
      ∙ ap₂ (λ (ys zs : List ℕ). ys ++ zs)
      (front ∙ ap (λ (ys : List ℕ). xs ++ ys) (zeros z ∙ ap (λ (i : ℕ). replicate i 0) same) ∙ sym f)
      (w.behind fits ∙ ap (λ (i : ℕ). drop i (bits_of out)) (sym e) ∙ bits_of_drop size out h)
      ∙ sym (bits_of_append (bytes_of xs) (drop size out)))

-- The book's parts

checked_left : (b : Bool) (n : ℕ) (ys : List ℕ) (a : Read ℕ) → if b (refuse 2) (return n) ys ≡ accepted a → a.left ≡ ys
unfolding refuse
checked_left true n ys a e = absurd (refused_accepted e)
checked_left false n ys a e = return_accepted n ys a (λ z. z.left ≡ ys) e refl

count_left : (xs : List ℕ) (a : Read ℕ) → read_count xs ≡ accepted a → a.left ≡ drop 8 xs
unfolding read_count
count_left xs a e =
    let (v, q, e₁) = bind_accepted (field 8) (λ n. if (eqb n 0) (refuse 2) (return n)) xs a e in
    checked_left (eqb v.value 0) v.value v.left a e₁ ∙ ap (λ (r : Read ℕ). r.left) (field_read 8 xs v q).1

-- a book's reader behind its count's place: operators, and rules by their reader
module _ {Kind Whole : Type 0} (rule : List Operator → Reader Kind) (make : List Operator → List Kind → Whole) where
  abbrev reader : Reader Whole
  reader = read_count >>= λ n. repeat n read_operator >>= λ ops. field 8 >>= λ m. repeat m (rule ops) >>= λ rules. read_end (make ops rules)

  abbrev rules_of : List Operator → Reader (List Kind)
  rules_of ops = field 8 >>= λ m. repeat m (rule ops)

  record Parts (xs : List ℕ) (whole : Whole) : Type 0 where
    ops : List Operator
    rules : List Kind
    mid : List ℕ
    left : List ℕ
    is : make ops rules ≡ whole
    operators_are : repeat (length ops) read_operator (drop 8 xs) ≡ return ops mid
    rules_are : rules_of ops mid ≡ return rules left

  parts_of : (xs : List ℕ) (r : Read Whole) → reader xs ≡ accepted r → Parts xs r.value
  unfolding ◌>>=◌ return
  parts_of xs r e =
      let (a, q₁, e₁) = then_accepted (read_count xs) _ r e in
      let (b, q₂, e₂) = then_accepted (repeat a.value read_operator a.left) _ r e₁ in
      let (c, q₃, e₃) = then_accepted (field 8 b.left) _ r e₂ in
      let (d, q₄, e₄) = then_accepted (repeat c.value (rule b.value) c.left) _ r e₃ in
      let long : length b.value ≡ a.value = repeat_long read_operator a.value a.left b.value b.left q₂ in
      record {
        ops = b.value;
        rules = d.value;
        mid = b.left;
        left = d.left;
        is = sym (end_good (make b.value d.value) d.left r e₄);
        operators_are = ap₂ (λ (i : ℕ) (ys : List ℕ). repeat i read_operator ys) long (sym (count_left xs a q₁)) ∙ q₂;
        rules_are = then_is (field 8 b.left) _ c _ q₃ q₄;
      }

-- Both forms

-- what stands behind position c of the bits: operators, and rules with d bits of a day before each
record Laid (bytes : List ℕ) (c d : ℕ) (ops : List Operator) (rules : List DatedRule) : Type 0 where
  mid : List ℕ
  left : List ℕ
  operators_are : repeat (length ops) read_operator (bits_at bytes (c + 8)) ≡ return ops mid
  rules_are : read_rules d ops mid ≡ return rules left

-- the bits that are written
abbrev behind_bits : ℕ → List Operator → List DatedRule → List ℕ
behind_bits d ops rules = to_bits 8 (length ops) ++ (concat write_operator ops ++ (to_bits 8 (length rules) ++ concat (write_rule_at d) rules))

abbrev laid_bits : ℕ → ℕ → List Operator → List DatedRule → List ℕ
laid_bits c d ops rules = to_bits c 0 ++ behind_bits d ops rules

-- a book is read so, and written so
record Formed (bytes : List ℕ) (c d : ℕ) (A : AnyBook) : Type 0 where
  rules : List DatedRule
  laid : Laid bytes c d (operators_of A) rules
  written : write_any A ≡ bytes_of (laid_bits c d (operators_of A) rules)

-- an undated rule, with no bits of a day before it
dayless : Rule → DatedRule
dayless r = record { day = 0; rule = r }

module _ (ops : List Operator) where
  read_dayless : (xs : List ℕ) (r : Rule) (left : List ℕ) → read_rule ops xs ≡ return r left → read_rule_at 0 ops xs ≡ return (dayless r) left
  unfolding read_rule_at field value return ◌>>=◌ dayless
  read_dayless xs r left e = then_is (read_rule ops xs) _ _ _ e refl

  repeat_dayless : (m : ℕ) (xs : List ℕ) (rs : List Rule) (left : List ℕ) → repeat m (read_rule ops) xs ≡ return rs left →
      repeat m (read_rule_at 0 ops) xs ≡ return (map dayless rs) left
  unfolding repeat return ◌>>=◌
  repeat_dayless zero xs rs left e =
      let (x, y) = repeat_none (read_rule ops) xs rs left e in
      ap₂ (λ (us : List Rule) (ys : List ℕ). return (map dayless us) ys) x y
  repeat_dayless (suc m) xs rs left e =
      let s = split (read_rule ops) m xs rs left e in
      then_is (read_rule_at 0 ops xs) _ _ _ (read_dayless xs s.first s.mid s.first_is)
      (then_is (repeat m (read_rule_at 0 ops) s.mid) _ _ _ (repeat_dayless m s.mid s.others left s.others_are)
      (ap (λ (us : List Rule). return (map dayless us) left) s.all))

  rules_dayless : (xs : List ℕ) (rs : List Rule) (left : List ℕ) → rules_of read_rule (λ ops rules. rules) ops xs ≡ return rs left →
      read_rules 0 ops xs ≡ return (map dayless rs) left
  unfolding read_rules ◌>>=◌ return
  rules_dayless xs rs left e =
      let (c, q, e₁) = then_accepted (field 8 xs) _ _ e in
      then_is (field 8 xs) _ c _ q (repeat_dayless c.value c.left rs left e₁)

write_dayless : (rs : List Rule) → concat (write_rule_at 0) (map dayless rs) ≡ concat write_rule rs
unfolding concat write_rule_at to_bits dayless
write_dayless [] = refl
write_dayless (r ∷ rs) = ap (λ (xs : List ℕ). write_rule r ++ xs) (write_dayless rs)

undated_formed : (bytes : List ℕ) (B : Book) → read_book bytes ≡ accepted B → Formed bytes 0 0 (AnyBook.undated B)
unfolding read_book read_bits write_any write_book to_bits return
undated_formed bytes B e =
    let make : List Operator → List Rule → Book = λ ops rules. record { operators = ops; rules = rules } in
    let (r, q, e₁) = then_accepted (read_bits (bits_of bytes)) (λ r. accepted r.value) B e in
    let p = parts_of read_rule make (bits_of bytes) r q in
    let is : make p.ops p.rules ≡ B = p.is ∙ accepted_injective e₁ in
    subst (λ (C : Book). Formed bytes 0 0 (AnyBook.undated C)) is (record {
      rules = map dayless p.rules;
      laid = record { mid = p.mid; left = p.left; operators_are = p.operators_are; rules_are = rules_dayless p.ops p.mid p.rules p.left p.rules_are };
      written =
          ap₂ (λ (k : ℕ) (xs : List ℕ). bytes_of (to_bits 8 (length p.ops) ++ (concat write_operator p.ops ++ (to_bits 8 k ++ xs))))
          (sym (length-map p.rules dayless)) (sym (write_dayless p.rules));
    })

some_byte : (bytes : List ℕ) → is_dated bytes ≡ true → 1 ≤ length bytes
unfolding is_dated
some_byte [] e = absurd (true≢false (sym e))
some_byte (b ∷ bs) e = omega arith

-- the byte 0, and then the bytes that hold some bits
zero_before : (xs : List ℕ) → 0 ∷ bytes_of xs ≡ bytes_of (to_bits 8 0 ++ xs)
unfolding bytes_of bytes_from to_bits value
zero_before xs =
    let k : suc ((length xs + 7) / 8) ≡ (length (to_bits 8 0 ++ xs) + 7) / 8 = omega (arith, length-append (to_bits 8 0) xs, length_to_bits 8 0) in
    ap (λ (n : ℕ). bytes_from n ((to_bits 8 0 ++ xs) ++ replicate 7 0)) k

dated_formed : (bytes : List ℕ) (D : DatedBook) → is_dated bytes ≡ true → read_dated (drop 1 bytes) ≡ accepted D → Formed bytes 8 16 (AnyBook.dated D)
unfolding read_dated read_dated_bits read_dated_rule read_rules read_rule_at write_rule_at write_any write_dated write_dated_rule return
dated_formed bytes D f e =
    let make : List Operator → List DatedRule → DatedBook = λ ops rules. record { operators = ops; rules = rules } in
    let (r, q, e₁) = then_accepted (read_dated_bits (bits_of (drop 1 bytes))) (λ r. accepted r.value) D e in
    let p = parts_of read_dated_rule make (bits_of (drop 1 bytes)) r q in
    let is : make p.ops p.rules ≡ D = p.is ∙ accepted_injective e₁ in
    let at : drop 8 (bits_of (drop 1 bytes)) ≡ bits_at bytes 16 =
    ap (drop 8) (sym (bits_of_drop 1 bytes (some_byte bytes f))) ∙ drop-drop 8 8 (bits_of bytes) in
    subst (λ (C : DatedBook). Formed bytes 8 16 (AnyBook.dated C)) is (record {
      rules = p.rules;
      laid = record {
        mid = p.mid;
        left = p.left;
        operators_are = ap (repeat (length p.ops) read_operator) (sym at) ∙ p.operators_are;
        rules_are = p.rules_are;
      };
      written = zero_before (behind_bits 16 p.ops p.rules);
    })

formed : (bytes : List ℕ) (A : AnyBook) → read_any bytes ≡ accepted A → (f : Form) → FormIs bytes f → Formed bytes f.count f.day A
formed bytes A e f h =
    subst₂ (λ (c d : ℕ). Formed bytes c d A) (sym h.count) (sym h.day) (go (read_form bytes A e))
  where
    go : {A : AnyBook} → ReadAs bytes A → Formed bytes (count_at bytes) (day_bits bytes) A
    go (as_undated {B} p q) = rw p (undated_formed bytes B q)
    go (as_dated {D} p q) = rw p (dated_formed bytes D p q)

-- the parts one after another are the book
pub book_put : {bytes : List ℕ} {n : ℕ} {operators out out₀ out₁ out₂ out₃ out₄ : List ℕ} {f : Form} {v start at from to end z all size : ℕ} →
    AcceptedBook bytes n operators → FormIs bytes f → v ≡ n → BitsPut 0 (to_bits f.count 0) out out₀ start → BitsPut start (to_bits 8 v) out₀ out₁ at →
    OperatorsWritten bytes (f.count + 8) n at out₁ out₂ from to → RulesWritten bytes from f.day n operators to out₂ out₃ end →
    BitsPut end (to_bits z 0) out₃ out₄ all → z ≡ (8 - end % 8) % 8 → size ≡ all / 8 → BookWritten bytes out out₄ size
book_put {bytes} {out = out} {out₃ = out₃} {out₄} {f} {v} {end = end} {z} {all} {size} a fm e p p₀ p₁ p₂ p₃ g h =
    let A : AnyBook = any_book bytes in
    let F = formed bytes A a.read f fm in
    let s = F.laid in
    let ops : List Operator = operators_of A in
    let c = sym a.arities.count in
    let (x, w₁) = p₁.are ops s.mid (ap (λ (i : ℕ). repeat i read_operator (bits_at bytes (f.count + 8))) c ∙ s.operators_are) in
    let w₂ = p₂.are ops a.arities F.rules s.left (ap (read_rules f.day ops) x ∙ s.rules_are) in
    let os : List ℕ = concat write_operator ops in
    let rs : List ℕ = to_bits 8 (length F.rules) ++ concat (write_rule_at f.day) F.rules in
    let xs : List ℕ = laid_bits f.count f.day ops F.rules in
    let i : to_bits f.count 0 ++ (to_bits 8 v ++ (os ++ rs)) ≡ xs = ap (λ (j : ℕ). to_bits f.count 0 ++ (to_bits 8 j ++ (os ++ rs))) (e ∙ c) in
    let w : BitsPut 0 xs out out₃ end = put_as i (put_both p (put_both p₀ (put_both w₁ w₂))) in
    let k : z ≡ (8 - length xs % 8) % 8 = g ∙ ap (λ (j : ℕ). (8 - j % 8) % 8) (w.ends ∙ zero-add (length xs)) in
    let u : BitsPut 0 (xs ++ to_bits z 0) out out₄ all = put_both w p₃ in
    record {
      sized = size_of xs out out₄ z all size k h u ∙ ap length (sym F.written);
      long = u.long;
      written = λ l b b'. bytes_written xs out out₄ z all size k h u l b b' ∙ ap (λ (ys : List ℕ). ys ++ drop size out) (sym F.written);
    }
