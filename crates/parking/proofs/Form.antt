-- A point that keeps the rules is written in one slot and read back, and what is read from a slot keeps them. Assumes nothing.
use mathlib.Core.Bool.{Bool, true, false, false≢true}
use mathlib.Core.List.{List, [], ◌∷◌, ◌++◌, append_assoc}
use mathlib.Core.Logic.{◌≢◌, inl, inr}
use mathlib.Core.Path.{◌≡◌, refl, sym, ◌∙◌, ap, ap₂, subst}
use Prim.Native.Nat.{ℕ, zero, suc, ◌-◌, ◌%◌, ◌^◌, ◌<◌, ◌≤◌}
use native.Mathlib.Omega.{arith}
use lib.Dec.{eqb, leb}
use lib.ListN.{length, get_or, take, drop, length-append, length-take}
use lib.Seq.{take_at, drop_at}
use Rattle.paper.specs.Result.{Result, refused, accepted, Read, Reader, return, refuse, then, ◌>>=◌}
use Rattle.paper.specs.Bits.{to_bits, bits_of, bytes_of, field}
use Rattle.paper.specs.Book.{Book, arity}
use Rattle.paper.specs.Reader.{all_zero}
use Rattle.paper.specs.Writer.{concat}
use Rattle.paper.specs.Dated.{AnyBook, read_any, on_day}
use Rattle.paper.specs.Page.{number, read_bytes, read_number}
use Rattle.paper.specs.Sound.{All}
use Rattle.paper.proofs.Bits.{field_bounded}
use Rattle.paper.proofs.BookBytes.{longest_book}
use Rattle.paper.proofs.Bytes.{to_bits_below, bits_below, length_bits_of, bits_of_append, length_bytes_of, bits_bytes, bytes_below}
use Rattle.paper.proofs.Dated.{day_good}
use Rattle.paper.proofs.Lists.{all_append, all_replicate}
use Rattle.paper.proofs.Readers.{accepted_injective, refused_accepted, then_accepted, bind_accepted, bind_return}
use Rattle.paper.proofs.Tests.{eqb_cases, eqb_true, eqb_false, leb_cases}
use Rattle.flat.specs.Machine.{Frame, FlatUnit}
use Rattle.flat.specs.Meets.{PointRules}
use Rattle.flat.specs.Form.{Saved, write_frame, write_unit, write_mark, write_saved, read_saved}
use Rattle.flat.specs.Tested.{and, point_tested}
use Rattle.flat.proofs.Form.{Fits, saved_read, point_fits, Counted, saved_short}
use Rattle.flat.proofs.Tested.{point_tested_rules}
use Rattle.parking.specs.Form.{slot_length, name_length, Point, limits, two_bytes, filled, point_bytes, write_point, only_if, read_run, read_fields, read_point, Slot, slot_of, read_slot}
use Rattle.parking.proofs.Buffer.{zeros, length_zeros}

-- a point as it may stand in a slot
pub record Held (P : Point) : Type 0 where
  pub some_name : 1 ≤ length P.name
  pub short_name : length P.name ≤ name_length
  pub given : AnyBook
  pub book_read : read_any P.book ≡ accepted given
  pub rules : PointRules (on_day P.day given) (limits P.saved.budget) P.saved.parked.state
  pub budget : P.saved.budget < 2 ^ 32
  pub counted : Counted P.saved.parked

-- BITS OF THE FIELDS

record AllBits (xs : List ℕ) : Type 0 where
  pub below : All (λ x. x < 2) xs

number_bits : (n v : ℕ) → AllBits (to_bits n v)
number_bits n v = record { below = to_bits_below n v }

both : (xs ys : List ℕ) → AllBits xs → AllBits ys → AllBits (xs ++ ys)
both xs ys a b = record { below = all_append (λ x. x < 2) xs ys a.below b.below }

bits_then : (n v : ℕ) (ys : List ℕ) → AllBits ys → AllBits (to_bits n v ++ ys)
bits_then n v ys a = both (to_bits n v) ys (number_bits n v) a

each : {A : Type 0} (f : A → List ℕ) → ((a : A) → AllBits (f a)) → (as' : List A) → AllBits (concat f as')
unfolding concat
each f h [] = record { below = tt }
each f h (a ∷ as') = both (f a) (concat f as') (h a) (each f h as')

frame_bits : (f : Frame) → AllBits (write_frame f)
unfolding write_frame
frame_bits (Frame.job a k c) = bits_then 2 0 _ (bits_then 10 a _ (bits_then 4 k _ (number_bits 3 c)))
frame_bits (Frame.exit w i) = bits_then 2 1 _ (bits_then 3 w _ (number_bits 11 i))
frame_bits Frame.sleep = number_bits 2 2
frame_bits Frame.bingo = number_bits 2 3

unit_bits : (x : FlatUnit) → AllBits (write_unit x)
unfolding write_unit
unit_bits x = bits_then 3 x.rank _ (bits_then 11 (length x.stack) _ (each write_frame frame_bits x.stack))

mark_bits : (b : Bool) → AllBits (write_mark b)
unfolding write_mark
mark_bits false = number_bits 1 0
mark_bits true = number_bits 1 1

saved_bits : (S : Saved) → AllBits (write_saved S)
unfolding write_saved
saved_bits S =
    let s = S.parked.state in
    bits_then 3 _ _ (bits_then 32 S.budget _ (bits_then 64 s.rewrites _ (bits_then 64 S.parked.entries _
    (bits_then 64 s.granted _ (bits_then 64 s.kept _ (bits_then 10 _ _
    (both (concat (to_bits 8) s.symbols) _ (each (to_bits 8) (number_bits 8) s.symbols)
    (both (concat write_mark s.marks) _ (each write_mark mark_bits s.marks)
    (both (concat write_unit s.units) _ (each write_unit unit_bits s.units)
    (bits_then 10 (length s.placed) _ (each (to_bits 3) (number_bits 3) s.placed)))))))))))

-- READING BACK

zeros_zero : (n : ℕ) → all_zero (zeros n) ≡ true
unfolding all_zero
zeros_zero zero = refl
zeros_zero (suc n) = zeros_zero n

all_of : (a b : Bool) → a ≡ true → b ≡ true → and a b ≡ true
unfolding and
all_of true b p q = q
all_of false b p q = p

kept_return : {A : Type 0} (b : Bool) (a : A) (xs : List ℕ) → b ≡ true → only_if b a xs ≡ return a xs
unfolding only_if
kept_return true a xs e = refl
kept_return false a xs e = absurd (false≢true e)

then_return : {A C : Type 0} (x : Result (Read A)) (a : A) (ys : List ℕ) (k : Read A → Result C) → x ≡ return a ys → then x k ≡ k (record { value = a; left = ys })
unfolding return then
then_return {A} x a ys k e = ap (λ (z : Result (Read A)). then z k) e

-- one reader after another, each known by what it reads back
on : {A C : Type 0} (p : Reader A) (k : A → Reader C) (xs ys : List ℕ) (a : A) (c : C) → p xs ≡ return a ys → k a ys ≡ return c [] → (p >>= k) xs ≡ return c []
on p k xs ys a c e f = bind_return p k xs ys a e ∙ f

leb_less : (m n : ℕ) → leb m n ≡ true → m ≤ n
leb_less m n e = elim (leb_cases m n) [ inl p ↦ p.1 | inr p ↦ absurd (false≢true (sym p.0 ∙ e)) ]

le_leb : {m n : ℕ} → m ≤ n → leb m n ≡ true
le_leb {m} {n} l = elim (leb_cases m n) [ inl p ↦ p.0 | inr p ↦ absurd (let a = p.1 in omega (arith, a, l)) ]

-- the fields, with zeros behind them
run_read : (B : Book) (S : Saved) (n : ℕ) → Fits (arity B) S → PointRules B (limits S.budget) S.parked.state → read_run B (bytes_of (write_saved S) ++ zeros n) ≡ return S []
unfolding read_run
run_read B S n fits rules =
    let ws : List ℕ = write_saved S in
    let (k, l, e) = bits_bytes ws (saved_bits S).below in
    let left : List ℕ = zeros k ++ bits_of (zeros n) in
    let bits : bits_of (bytes_of ws ++ zeros n) ≡ ws ++ left =
    bits_of_append (bytes_of ws) (zeros n) ∙ ap (λ (z : List ℕ). z ++ bits_of (zeros n)) e ∙ append_assoc ws (zeros k) (bits_of (zeros n)) in
    let many : length left % 8 ≡ k =
    (let a = length-append (zeros k) (bits_of (zeros n)) in let b = length_zeros k in let c = length_bits_of (zeros n) in omega (arith, a, b, c, l)) in
    let padding : all_zero (take (length left % 8) left) ≡ true =
    ap (λ (m : ℕ). all_zero (take m left)) many ∙ ap all_zero (take_at (zeros k) (bits_of (zeros n)) k (length_zeros k)) ∙ zeros_zero k in
    then_return (read_saved (arity B) (bits_of (bytes_of ws ++ zeros n))) S left _ (ap (read_saved (arity B)) bits ∙ saved_read (arity B) S left fits)
    ∙ kept_return _ S [] (all_of _ _ padding ((point_tested_rules B (limits S.budget) S.parked.state).1 rules))

bytes_there : (n : ℕ) (ys zs : List ℕ) → length ys ≡ n → read_bytes n (ys ++ zs) ≡ return ys zs
unfolding read_bytes
bytes_there n ys zs e =
    let f : take n (ys ++ zs) ≡ ys = take_at ys zs n e in
    rw (eqb_true (length (take n (ys ++ zs))) n (ap length f ∙ e)) (ap₂ return f (drop_at ys zs n e))

number_there : (n v : ℕ) (ys zs : List ℕ) → length ys ≡ n → number 0 ys ≡ v → read_number n (ys ++ zs) ≡ return v zs
unfolding read_number
number_there n v ys zs e f = bind_return (read_bytes n) (λ bs. return (number 0 bs)) (ys ++ zs) zs ys (bytes_there n ys zs e) ∙ ap (λ (m : ℕ). return m zs) f

one_number : (v : ℕ) → number 0 (v ∷ []) ≡ v
unfolding number
one_number v = omega arith

two_number : (v : ℕ) → number 0 (two_bytes v) ≡ v
unfolding number two_bytes
two_number v = omega arith

length_two : (v : ℕ) → length (two_bytes v) ≡ 2
unfolding two_bytes
length_two v = refl

pub length_filled : (n : ℕ) (bs : List ℕ) → length bs ≤ n → length (filled n bs) ≡ n
unfolding filled
length_filled n bs l = let a = length-append bs (zeros (n - length bs)) in let b = length_zeros (n - length bs) in omega (arith, a, b, l)

filled_front : (n : ℕ) (bs : List ℕ) → take (length bs) (filled n bs) ≡ bs
unfolding filled
filled_front n bs = take_at bs (zeros (n - length bs)) (length bs) refl

filled_rest : (n : ℕ) (bs : List ℕ) → drop (length bs) (filled n bs) ≡ zeros (n - length bs)
unfolding filled
filled_rest n bs = drop_at bs (zeros (n - length bs)) (length bs) refl

module _ (P : Point) (h : Held P) where
  fits : Fits (arity (on_day P.day h.given)) P.saved
  fits =
      let c = h.counted in
      point_fits (on_day P.day h.given) (day_good P.book h.given h.book_read P.day) P.saved h.rules h.budget
      (let a = c.entries in omega (arith, a)) (let a = c.granted in omega (arith, a)) (let a = c.kept in omega (arith, a))

  -- it always fits
  point_short : length (point_bytes P) ≤ slot_length
  unfolding point_bytes
  point_short =
      let ws : List ℕ = bytes_of (write_saved P.saved) in
      let x₁ : List ℕ = P.book ++ ws in
      let x₂ : List ℕ = two_bytes P.day ++ x₁ in
      let x₃ : List ℕ = two_bytes (length P.book) ++ x₂ in
      let a = length_bytes_of (write_saved P.saved) in
      let b = saved_short (arity (on_day P.day h.given)) P.saved fits in
      let c = longest_book P.book h.given h.book_read in
      let d = length-append P.book ws in
      let e = length-append (two_bytes P.day) x₁ in
      let f = length-append (two_bytes (length P.book)) x₂ in
      let g = length-append (filled name_length P.name) x₃ in
      let i = length_two P.day in
      let j = length_two (length P.book) in
      let k = length_filled name_length P.name h.short_name in
      omega (arith, a, b, c, d, e, f, g, i, j, k)

  pub written_length : length (write_point P) ≡ slot_length
  unfolding write_point
  written_length = length_filled slot_length (point_bytes P) point_short

  -- the bytes, with zeros behind them
  point_read : (n : ℕ) → read_point (point_bytes P ++ zeros n) ≡ return P []
  unfolding read_point
  point_read n =
      let N : List ℕ = filled name_length P.name in
      let x₁ : List ℕ = bytes_of (write_saved P.saved) ++ zeros n in
      let x₂ : List ℕ = P.book ++ x₁ in
      let x₃ : List ℕ = two_bytes P.day ++ x₂ in
      let x₄ : List ℕ = two_bytes (length P.book) ++ x₃ in
      let x₅ : List ℕ = N ++ x₄ in
      let e : point_bytes P ++ zeros n ≡ (length P.name ∷ []) ++ x₅ = unfold point_bytes in simp append_assoc in
      ap read_point e
      ∙ on (read_number 1) _ ((length P.name ∷ []) ++ x₅) x₅ (length P.name) P
      (number_there 1 (length P.name) (length P.name ∷ []) x₅ refl (one_number (length P.name)))
      (on (read_bytes name_length) _ x₅ x₄ N P (bytes_there name_length N x₄ (length_filled name_length P.name h.short_name))
      (on (read_number 2) _ x₄ x₃ (length P.book) P
      (number_there 2 (length P.book) (two_bytes (length P.book)) x₃ (length_two (length P.book)) (two_number (length P.book)))
      (on (read_number 2) _ x₃ x₂ P.day P (number_there 2 P.day (two_bytes P.day) x₂ (length_two P.day) (two_number P.day))
      (on (read_bytes (length P.book)) _ x₂ x₁ P.book P (bytes_there (length P.book) P.book x₁ refl)
      (on (read_fields P.book P.day) _ x₁ [] P.saved P fields named)))))
    where
      fields : read_fields P.book P.day (bytes_of (write_saved P.saved) ++ zeros n) ≡ return P.saved []
      fields = unfold read_fields then in rw h.book_read (run_read (on_day P.day h.given) P.saved n fits h.rules)

      named : only_if (and (leb (length P.name) name_length) (all_zero (drop (length P.name) (filled name_length P.name))))
          (record { name = take (length P.name) (filled name_length P.name); book = P.book; day = P.day; saved = P.saved }) [] ≡ return P []
      named =
          kept_return _ _ [] (all_of _ _ (le_leb h.short_name) (ap all_zero (filled_rest name_length P.name) ∙ zeros_zero (name_length - length P.name)))
          ∙ ap (λ (z : List ℕ). return (record { name = z; book = P.book; day = P.day; saved = P.saved }) []) (filled_front name_length P.name)

  pub written_read : read_slot (write_point P) ≡ Slot.holds P
  unfolding read_slot
  written_read =
      rw (some_length, read_slot) (ap slot_of read)
    where
      some_length : eqb (get_or (write_point P) 0 0) 0 ≡ false
      some_length = unfold write_point filled point_bytes in eqb_false (length P.name) 0 (let a = h.some_name in omega (arith, a))

      read : read_point (write_point P) ≡ return P []
      read = unfold write_point filled in point_read (slot_length - length (point_bytes P))

-- every byte of it is one
pub written_bytes : (P : Point) → Held P → P.day < 65536 → All (λ b. b < 256) P.name → All (λ b. b < 256) P.book → All (λ b. b < 256) (write_point P)
unfolding write_point filled point_bytes two_bytes
written_bytes P h d n b =
    let is : ℕ → Type 0 = (λ b. b < 256) in
    let ws : List ℕ = bytes_of (write_saved P.saved) in
    let l = longest_book P.book h.given h.book_read in
    let s = h.short_name in
    all_append is (point_bytes P) (zeros (slot_length - length (point_bytes P))) (
      omega (arith, s),
      all_append is (filled name_length P.name) (two_bytes (length P.book) ++ (two_bytes P.day ++ (P.book ++ ws)))
          (all_append is P.name (zeros (name_length - length P.name)) n (all_replicate is (name_length - length P.name) 0 (omega arith)))
          (omega (arith, l), (omega arith, (omega (arith, d), (omega arith, all_append is P.book ws b (bytes_below (write_saved P.saved) (saved_bits P.saved).below))))),
    )
    (all_replicate is (slot_length - length (point_bytes P)) 0 (omega arith))

-- WHAT IS READ

both_true : (a b : Bool) → and a b ≡ true → (a ≡ true) × (b ≡ true)
unfolding and
both_true true b e = (refl, e)
both_true false b e = absurd (false≢true e)

kept_accepted : {A : Type 0} (b : Bool) (a : A) (xs : List ℕ) (r : Read A) → only_if b a xs ≡ accepted r → (b ≡ true) × (a ≡ r.value)
unfolding only_if return refuse
kept_accepted {A} true a xs r e = (refl, ap (λ (z : Read A). z.value) (accepted_injective e))
kept_accepted false a xs r e = absurd (refused_accepted e)

-- what is known of a reader's value, where something is known of what it reads from
record Of {A : Type 0} (I : List ℕ → Type 0) (Q : A → Type 0) (p : Reader A) : Type 0 where
  pub gives : (xs : List ℕ) (r : Read A) → I xs → p xs ≡ accepted r → Q r.value

abbrev Anything : {A : Type 0} → A → Type 0
Anything a = Unit {0}

abbrev Bits : List ℕ → Type 0
Bits xs = All (λ x. x < 2) xs

-- one reader after another: what the first gives, and what it leaves
module _ {A C : Type 0} {Q : A → Type 0} where
  before : {I J : List ℕ → Type 0} {R : C → Type 0} (p : Reader C) (k : C → Reader A) → ((xs : List ℕ) (r : Read C) → I xs → p xs ≡ accepted r → R r.value × J r.left) →
      ((v : C) → R v → Of J Q (k v)) → Of I Q (p >>= k)
  before p k f h = record {
    gives = λ xs r i e.
        let (a, g, q) = bind_accepted p k xs r e in
        let (x, j) = f xs a i g in
        (h a.value x).gives a.left r j q;
  }

  first : {R : C → Type 0} (p : Reader C) (k : C → Reader A) → Of Anything R p → ((v : C) → R v → Of Anything Q (k v)) → Of Anything Q (p >>= k)
  first p k f h = before p k (λ xs r i e. (f.gives xs r i e, tt)) h

  any : (p : Reader C) (k : C → Reader A) → ((v : C) → Of Anything Q (k v)) → Of Anything Q (p >>= k)
  any p k h = before {R = Anything} p k (λ xs r i e. (tt, tt)) (λ v _. h v)

narrow : {A : Type 0} {Q : A → Type 0} (n : ℕ) (k : ℕ → Reader A) → ((v : ℕ) → v < 2 ^ n → Of Bits Q (k v)) → Of Bits Q (field n >>= k)
narrow n k h = before (field n) k (λ xs r b e. field_bounded n xs r b e) h

module _ {A : Type 0} {Q : A → Type 0} where
  at_last : (a : A) → Q a → Of Anything Q (return a)
  unfolding return
  at_last a h = record { gives = λ xs r i e. subst Q (ap (λ (z : Read A). z.value) (accepted_injective e)) h }

  of_bits : (p : Reader A) → Of Anything Q p → Of Bits Q p
  of_bits p h = record { gives = λ xs r i e. h.gives xs r tt e }

  if_kept : (b : Bool) (a : A) → (b ≡ true → Q a) → Of Anything Q (only_if b a)
  if_kept b a h = record { gives = λ xs r i e. let (t, v) = kept_accepted b a xs r e in subst Q v (h t) }

saved_bounded : (arity' : ℕ → ℕ) → Of Bits (λ (S : Saved). (S.budget < 2 ^ 32) × Counted S.parked) (read_saved arity')
unfolding read_saved
saved_bounded arity' =
    narrow 3 _ λ n _. narrow 32 _ λ budget lb. narrow 64 _ λ rewrites _. narrow 64 _ λ entries le. narrow 64 _ λ granted lg. narrow 64 _ λ kept' lk.
    of_bits _ (any (field 10) _ λ m. any _ _ λ xs. any _ _ λ ms. any _ _ λ us. any _ _ λ k. any _ _ λ vs.
    at_last _ (lb, record { entries = omega (arith, le); granted = omega (arith, lg); kept = omega (arith, lk) }))

-- what the fields are of a book and a day
record Run (book : List ℕ) (day : ℕ) (S : Saved) : Type 0 where
  pub given : AnyBook
  pub book_read : read_any book ≡ accepted given
  pub rules : PointRules (on_day day given) (limits S.budget) S.parked.state
  pub budget : S.budget < 2 ^ 32
  pub counted : Counted S.parked

run_kept : (B : Book) (bytes : List ℕ) (r : Read Saved) → read_run B bytes ≡ accepted r →
    let S = r.value in PointRules B (limits S.budget) S.parked.state × (S.budget < 2 ^ 32) × Counted S.parked
unfolding read_run
run_kept B bytes r e =
    let (z, es, et) = then_accepted (read_saved (arity B) (bits_of bytes)) _ r e in
    let S : Saved = z.value in
    let padding : Bool = all_zero (take (length z.left % 8) z.left) in
    let test : Bool = point_tested B (limits S.budget) S.parked.state in
    let (lb, c) = (saved_bounded (arity B)).gives (bits_of bytes) z (bits_below bytes) es in
    let (t, v) = kept_accepted (and padding test) S [] r et in
    subst (λ (S : Saved). PointRules B (limits S.budget) S.parked.state × (S.budget < 2 ^ 32) × Counted S.parked) v
    ((point_tested_rules B (limits S.budget) S.parked.state).0 (both_true padding test t).1, lb, c)

run_held : (book : List ℕ) (day : ℕ) → Of Anything (Run book day) (read_fields book day)
unfolding read_fields
run_held book day = record {
  gives = λ bytes r i e.
      let (A, ea, er) = then_accepted (read_any book) _ r e in
      let (m, lb, c) = run_kept (on_day day A) bytes r er in
      record { given = A; book_read = ea; rules = m; budget = lb; counted = c };
}

bytes_read : (n : ℕ) (xs : List ℕ) (r : Read (List ℕ)) → read_bytes n xs ≡ accepted r → (length r.value ≡ n) × (r.value ≡ take n xs)
unfolding read_bytes return refuse
bytes_read n xs r e = elim (eqb_cases (length (take n xs)) n) [
  | inl p ↦ (let z : take n xs ≡ r.value = ap (λ (z : Read (List ℕ)). z.value) (accepted_injective (rw p.0 at e)) in (ap length (sym z) ∙ p.1, sym z))
  | inr p ↦ absurd (refused_accepted (rw p.0 at e))
]

bytes_many : (n : ℕ) → Of Anything (λ (bs : List ℕ). length bs ≡ n) (read_bytes n)
bytes_many n = record { gives = λ xs r i e. (bytes_read n xs r e).0 }

first_number : (xs : List ℕ) (r : Read ℕ) → get_or xs 0 0 ≢ 0 → read_number 1 xs ≡ accepted r → (1 ≤ r.value) × Unit {0}
unfolding read_number
first_number xs r d e =
    let (a, f, q) = bind_accepted (read_bytes 1) (λ bs. return (number 0 bs)) xs r e in
    let (l, t) = bytes_read 1 xs a f in
    (go xs a.value d l t (sym (ap (λ (z : Read ℕ). z.value) (accepted_injective (unfold return in q)))), tt)
  where
    go : (xs bs : List ℕ) → get_or xs 0 0 ≢ 0 → length bs ≡ 1 → bs ≡ take 1 xs → r.value ≡ number 0 bs → 1 ≤ r.value
    go [] bs d l t q = absurd (omega (arith, l, ap length t))
    go (x ∷ xs) bs d l t q = let z = q ∙ ap (number 0) t ∙ one_number x in omega (arith, z, d)

point_held : Of (λ xs. get_or xs 0 0 ≢ 0) Held read_point
unfolding read_point
point_held =
    before (read_number 1) _ first_number λ n ln.
    first (read_bytes name_length) _ (bytes_many name_length) λ bs lb.
    any (read_number 2) _ λ m.
    any (read_number 2) _ λ day.
    any (read_bytes m) _ λ book.
    first (read_fields book day) _ (run_held book day) λ saved h.
    if_kept (and (leb n name_length) (all_zero (drop n bs))) (record { name = take n bs; book = book; day = day; saved = saved }) λ t.
    let l : n ≤ name_length = leb_less n name_length (both_true (leb n name_length) (all_zero (drop n bs)) t).0 in
    let many : length (take n bs) ≡ n = (let a = length-take n bs in omega (arith, a, l, lb)) in
    record { some_name = omega (arith, many, ln); short_name = omega (arith, many, l); given = h.given; book_read = h.book_read; rules = h.rules; budget = h.budget; counted = h.counted }

pub read_held : (bytes : List ℕ) (P : Point) → read_slot bytes ≡ Slot.holds P → Held P
unfolding read_slot
read_held bytes P e = elim (eqb_cases (get_or bytes 0 0) 0) [
  | inl p ↦ absurd (free_holds (rw (p.0, read_slot) at e))
  | inr p ↦ go p.1 (read_point bytes) refl (rw (p.0, read_slot) at e)
]
  where
    free_holds : Slot.free ≡ Slot.holds P → ⊥
    free_holds e = let z : ◌≡◌ {A = ℕ} 0 1 = cc in omega (arith, z)

    go : get_or bytes 0 0 ≢ 0 → (x : Result (Read Point)) → read_point bytes ≡ x → slot_of x ≡ Slot.holds P → Held P
    go d (refused n) q e = unfold slot_of in absurd (let z : ◌≡◌ {A = ℕ} 0 1 = cc in omega (arith, z))
    go d (accepted r) q e =
        let v : r.value ≡ P = unfold slot_of in cc in
        subst Held v (point_held.gives bytes r d q)
