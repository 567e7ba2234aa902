-- The two forms of a book: the reader over a flag is the paper's in each, from the bits behind the byte that says the form. Assumes nothing.
use mathlib.Core.Bool.{Bool, true, false}
use mathlib.Core.List.{List, [], ◌∷◌, map}
use mathlib.Core.Path.{◌≡◌, refl, sym, ap, ◌∙◌}
use Prim.Native.Nat.{ℕ, zero, suc}
use lib.Dec.{ltb}
use lib.ListN.{length, drop}
use lib.Seq.{drop_at}
use Rattle.paper.specs.Result.{Result, refused, accepted, Read, Reader, if, return, refuse, then, ◌>>=◌, repeat}
use Rattle.paper.specs.Bits.{to_bits, bits_of, field}
use Rattle.paper.specs.Book.{Operator, Rule, Book}
use Rattle.paper.specs.Reader.{read_operator, read_rule, read_count, all_zero, read_end, read_bits, read_book}
use Rattle.paper.specs.Dated.{DatedRule, DatedBook, AnyBook, is_dated, read_dated_bits, read_dated, read_any, on_day}
use Rattle.paper.proofs.Dated.{read_as_dated, read_as_undated}
use Rattle.side.specs.Promises.{bits_at}
use Rattle.book.specs.Promises.{read_rule_of, undated_rules, read_tail, begins, in_form}

-- WHAT IS READ, TURNED INTO SOMETHING ELSE

-- a reading's value turned by f
abbrev turned : {A B : Type 0} → (A → B) → Result (Read A) → Result (Read B)
turned f x = then x (λ r. return (f r.value) r.left)

module _ {A B : Type 0} (f : A → B) where
  -- readings behind one that is turned, and one behind a reading
  turned_bind : {C : Type 0} (x : Result (Read A)) (k : B → Reader C) → then (turned f x) (λ r. k r.value r.left) ≡ then x (λ r. k (f r.value) r.left)
  unfolding then return
  turned_bind (refused n) k = refl
  turned_bind (accepted r) k = refl

  bind_turned : {C : Type 0} (x : Result (Read C)) (k : C → Reader A) (l : C → Reader B) → ((c : C) (ys : List ℕ) → l c ys ≡ turned f (k c ys)) →
      then x (λ r. l r.value r.left) ≡ turned f (then x (λ r. k r.value r.left))
  unfolding then
  bind_turned (refused n) k l h = refl
  bind_turned (accepted r) k l h = h r.value r.left

  module _ (p : Reader A) (q : Reader B) (h : (xs : List ℕ) → q xs ≡ turned f (p xs)) where
    -- n readings
    repeat_turned : (n : ℕ) (xs : List ℕ) → repeat n q xs ≡ turned (map f) (repeat n p xs)
    unfolding repeat then return
    repeat_turned zero xs = refl
    repeat_turned (suc n) xs =
        ap (λ (x : Result (Read B)). then x (λ a. then (repeat n q a.left) (λ r. return (a.value ∷ r.value) r.left))) (h xs) ∙ go (repeat_turned n) (p xs)
      where
        inner : (a : A) (x : Result (Read (List A))) →
            then (turned (map f) x) (λ r. return (f a ∷ r.value) r.left) ≡ turned (map f) (then x (λ r. return (a ∷ r.value) r.left))
        inner a (refused k) = refl
        inner a (accepted r) = refl

        go : ((ys : List ℕ) → repeat n q ys ≡ turned (map f) (repeat n p ys)) → (x : Result (Read A)) →
            then (turned f x) (λ a. then (repeat n q a.left) (λ r. return (a.value ∷ r.value) r.left)) ≡
            turned (map f) (then x (λ a. then (repeat n p a.left) (λ r. return (a.value ∷ r.value) r.left)))
        go i (refused k) = refl
        go i (accepted a) =
            ap (λ (x : Result (Read (List B))). then x (λ r. return (f a.value ∷ r.value) r.left)) (i a.left)
            ∙ inner a.value (repeat n p a.left)

-- THE UNDATED FORM

plain : DatedBook → Book
plain D = record { operators = D.operators; rules = undated_rules D.rules }

rule_plain : (ops : List Operator) (xs : List ℕ) → read_rule ops xs ≡ turned (λ (r : DatedRule). r.rule) (read_rule_of false ops xs)
unfolding read_rule_of then return
rule_plain ops xs = go (read_rule ops xs)
  where
    go : (x : Result (Read Rule)) → x ≡ turned (λ (r : DatedRule). r.rule) (then x (λ r. return (record { day = 0; rule = r.value }) r.left))
    go (refused n) = refl
    go (accepted r) = refl

end_plain : (D : DatedBook) (xs : List ℕ) → read_end (plain D) xs ≡ turned plain (read_end D xs)
unfolding read_end then return refuse
end_plain D xs = go (ltb (length xs) 8) (all_zero xs)
  where
    go : (b c : Bool) → if b (if c (return (plain D) xs) (refuse 9 xs)) (refuse 9 xs) ≡ turned plain (if b (if c (return D xs) (refuse 9 xs)) (refuse 9 xs))
    go true true = refl
    go true false = refl
    go false c = refl

-- THE WHOLE

abbrev pub read_parts : Bool → Reader DatedBook
read_parts dated = read_count >>= (λ n. repeat n read_operator >>= read_tail dated)

parts_dated : (xs : List ℕ) → read_dated_bits xs ≡ read_parts true xs
unfolding read_dated_bits read_tail read_rule_of
parts_dated xs = refl

parts_plain : (xs : List ℕ) → read_bits xs ≡ turned plain (read_parts false xs)
unfolding read_bits read_tail plain ◌>>=◌
parts_plain xs =
    bind_turned plain (read_count xs) _ _ (λ n ys. bind_turned plain (repeat n read_operator ys) _ _ (λ ops zs.
    bind_turned plain (field 8 zs) _ _ (λ m us.
    ap (λ (x : Result (Read (List Rule))). then x (λ r. read_end (record { operators = ops; rules = r.value }) r.left))
    (repeat_turned (λ (r : DatedRule). r.rule) (read_rule_of false ops) (read_rule ops) (rule_plain ops) m us)
    ∙ turned_bind (map (λ (r : DatedRule). r.rule)) (repeat m (read_rule_of false ops) us) (λ rs. read_end (record { operators = ops; rules = rs }))
    ∙ bind_turned plain (repeat m (read_rule_of false ops) us) (λ rs. read_end (record { operators = ops; rules = rs })) _
    (λ rs vs. end_plain (record { operators = ops; rules = rs }) vs))))

-- the bits behind the first byte
behind_first : (bytes : List ℕ) → bits_of (drop 1 bytes) ≡ drop 8 (bits_of bytes)
unfolding bits_of
behind_first [] = refl
behind_first (b ∷ bs) = sym (drop_at (to_bits 8 b) (bits_of bs) 8 refl)

-- the book's answer by its parts'
abbrev pub answer_of : Bool → Result (Read DatedBook) → Result AnyBook
answer_of dated x = then x (λ r. accepted (in_form dated r.value))

pub any_parts : (bytes : List ℕ) (dated : Bool) → is_dated bytes ≡ dated → read_any bytes ≡ answer_of dated (read_parts dated (bits_at bytes (begins dated)))
unfolding read_dated read_book plain then return
any_parts bytes true e =
    read_as_dated bytes e
    ∙ ap (λ (xs : List ℕ). then (then (read_dated_bits xs) (λ r. accepted r.value)) (λ D. accepted (AnyBook.dated D))) (behind_first bytes)
    ∙ ap (λ (x : Result (Read DatedBook)). then (then x (λ r. accepted r.value)) (λ D. accepted (AnyBook.dated D))) (parts_dated (bits_at bytes 8))
    ∙ go (read_parts true (bits_at bytes 8))
  where
    go : (x : Result (Read DatedBook)) → then (then x (λ r. accepted r.value)) (λ D. accepted (AnyBook.dated D)) ≡ answer_of true x
    go (refused n) = refl
    go (accepted r) = refl
any_parts bytes false e =
    read_as_undated bytes e
    ∙ ap (λ (x : Result (Read Book)). then (then x (λ r. accepted r.value)) (λ B. accepted (AnyBook.undated B))) (parts_plain (bits_of bytes))
    ∙ go (read_parts false (bits_at bytes 0))
  where
    go : (x : Result (Read DatedBook)) →
        then (then (turned plain x) (λ r. accepted r.value)) (λ B. accepted (AnyBook.undated B)) ≡ answer_of false x
    go (refused n) = refl
    go (accepted r) = refl

-- the operators are those of every day
pub form_operators : (day : ℕ) (dated : Bool) (D : DatedBook) → (on_day day (in_form dated D)).operators ≡ D.operators
unfolding on_day
form_operators day true D = refl
form_operators day false D = refl
