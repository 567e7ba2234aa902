-- The input's parts: counted bytes, and what follows them, a dated book's day included. Assumes nothing.
use mathlib.Core.Bool.{Bool, true, false}
use mathlib.Core.List.{List, []}
use mathlib.Core.Path.{◌≡◌, refl, sym, ap, ap₂, ◌∙◌}
use Prim.Native.Nat.{ℕ, ◌+◌, ◌-◌, ◌≤◌, ◌<◌}
use native.Mathlib.Omega.{arith}
use native.Mathlib.Decide.{dec_lt}
use borrow.Author.Tests.{lt-ltb, le-ltb}
use lib.ListN.{length, get_or, take, drop, length-drop}
use lib.Seq.{drop-cons, drop-drop}
use Rattle.std.proofs.Common.{Some, None}
use Rattle.paper.specs.Result.{Result, refused, accepted, Read, Reader, return, refuse, then, ◌>>=◌}
use Rattle.paper.specs.Dated.{is_dated}
use Rattle.paper.specs.Page.{Request, number, read_bytes, read_number, read_day, read_schedule, read_request}
use Rattle.stream.specs.Promises.{read_counted, PartEnds}
use Rattle.stream.proofs.Parts.{number_there, number_cut}
use Rattle.page.specs.Promises.{asked, DayStands, PartsStand}

-- READERS

schedule_there : (xs : List ℕ) → length xs ≤ 32768 → read_schedule xs ≡ accepted (record { value = xs; left = [] })
unfolding read_schedule return
schedule_there xs h = rw (le-ltb 32768 (length xs) h)

schedule_over : (xs : List ℕ) → 32768 < length xs → read_schedule xs ≡ refused 17
unfolding read_schedule refuse
schedule_over xs h = rw (lt-ltb 32768 (length xs) h)

-- the day, by the book's form
module _ (book xs : List ℕ) where
  day_none : is_dated book ≡ false → read_day book xs ≡ accepted (record { value = 0; left = xs })
  unfolding read_day return
  day_none e = rw (e, read_day)

  day_dated : is_dated book ≡ true → read_day book xs ≡ read_number 2 xs
  unfolding read_day
  day_dated e = rw (e, read_day)

module _ (input : List ℕ) (at : ℕ) {dated : Bool} where
  pub day_undated : dated ≡ false → at ≤ length input → DayStands input at dated (Some (0, at))
  day_undated b h = record { is = λ book e. day_none book (drop at input) (sym e ∙ b); within = (omega arith, h) }

  pub day_cut : dated ≡ true → length input - at < 2 → DayStands input at dated None
  day_cut b h = record {
    is = λ book e. day_dated book (drop at input) (sym e ∙ b) ∙ number_cut 2 (drop at input) (omega (arith, length-drop at input));
    within = tt;
  }

  pub day_there : dated ≡ true → at + 2 ≤ length input → (d e : ℕ) → d ≡ number 0 (take 2 (drop at input)) → e ≡ at + 2 →
      DayStands input at dated (Some (d, e))
  day_there b h d e p q = record {
    is = λ book f.
        day_dated book (drop at input) (sym f ∙ b)
        ∙ number_there 2 (drop at input) (omega (arith, length-drop at input))
        ∙ ap₂ (λ (n : ℕ) (ys : List ℕ). accepted (record { value = n; left = ys })) (sym p)
        (drop-drop 2 at input ∙ ap (λ (k : ℕ). drop k input) (sym q));
    within = (omega arith, omega arith);
  }

-- what follows the budget
unfoldable read_behind : List ℕ → List ℕ → ℕ → ℕ → Reader Request
unfolding return ◌>>=◌ read_day read_schedule
read_behind book line units budget = do
  day ← read_day book
  schedule ← read_schedule
  return (asked book line units budget day schedule)

module _ (book line : List ℕ) (units budget : ℕ) (xs : List ℕ) where
  no_day : read_day book xs ≡ refused 17 → read_behind book line units budget xs ≡ refused 17
  unfolding read_behind ◌>>=◌ then
  no_day e = rw e

  module _ (d : ℕ) (ys : List ℕ) (e : read_day book xs ≡ accepted (record { value = d; left = ys })) where
    behind_over : 32768 < length ys → read_behind book line units budget xs ≡ refused 17
    unfolding read_behind ◌>>=◌ then
    behind_over h = rw (e, schedule_over ys h)

    behind_there : length ys ≤ 32768 → read_behind book line units budget xs ≡ accepted (record { value = asked book line units budget d ys; left = [] })
    unfolding read_behind ◌>>=◌ then return
    behind_there h = rw (e, schedule_there ys h)

-- what follows the two counted parts
unfoldable read_rest : List ℕ → List ℕ → Reader Request
unfolding ◌>>=◌ read_number read_behind
read_rest book line = do
  units ← read_number 1
  budget ← read_number 4
  read_behind book line units budget

module _ (book line xs : List ℕ) where
  no_units : length xs < 1 → read_rest book line xs ≡ refused 17
  unfolding read_rest ◌>>=◌ then
  no_units h = rw (number_cut 1 xs h)

  module _ (h : 1 ≤ length xs) where
    no_budget : length xs < 5 → read_rest book line xs ≡ refused 17
    unfolding read_rest ◌>>=◌ then
    no_budget k = rw (number_there 1 xs h, number_cut 4 (drop 1 xs) (omega (arith, length-drop 1 xs)))

    rest_there : 5 ≤ length xs →
        read_rest book line xs ≡ read_behind book line (number 0 (take 1 xs)) (number 0 (take 4 (drop 1 xs))) (drop 4 (drop 1 xs))
    unfolding read_rest ◌>>=◌ then
    rest_there k = rw (number_there 1 xs h, number_there 4 (drop 1 xs) (omega (arith, length-drop 1 xs)))

  rest_short : length xs < 5 → read_rest book line xs ≡ refused 17
  rest_short h = go (dec_lt (length xs) 1)
    where
      go : Dec (length xs < 1) → read_rest book line xs ≡ refused 17
      go (yes k) = no_units k
      go (no k) = no_budget (omega arith) h

-- THE REQUEST

then_then : {A B C : Type 0} (x : Result A) (f : A → Result B) (g : B → Result C) → then x (λ a. then (f a) g) ≡ then (then x f) g
unfolding then
then_then (refused n) f g = refl
then_then (accepted a) f g = refl

then_same : {A B : Type 0} (x : Result A) (f g : A → Result B) → ((a : A) → f a ≡ g a) → then x f ≡ then x g
unfolding then
then_same (refused n) f g h = refl
then_same (accepted a) f g h = h a

-- the request is read as two counted parts and the rest
request_counted : (xs : List ℕ) →
    read_request xs ≡ then (read_counted xs) (λ b. then (read_counted b.left) (λ l. read_rest b.value l.value l.left))
unfolding read_request read_counted read_rest read_behind ◌>>=◌
request_counted xs =
    let bytes : Read ℕ → Result (Read (List ℕ)) = λ r. read_bytes r.value r.left in
    let rest : Read (List ℕ) → Read (List ℕ) → Result (Read Request) = λ b l. read_rest b.value l.value l.left in
    then_then (read_number 2 xs) bytes (λ b. then (read_number 2 b.left) (λ r. then (bytes r) (rest b)))
    ∙ then_same (read_counted xs) (λ b. then (read_number 2 b.left) (λ r. then (bytes r) (rest b)))
    (λ b. then (read_counted b.left) (rest b)) (λ b. then_then (read_number 2 b.left) bytes (rest b))

module _ (input : List ℕ) where
  first_cut : read_counted (drop 0 input) ≡ refused 17 → read_request input ≡ refused 17
  unfolding then
  first_cut e = request_counted input ∙ rw e

  module _ (b : ℕ) (book : List ℕ) (e : read_counted (drop 0 input) ≡ accepted (record { value = book; left = drop b input })) where
    second_cut : read_counted (drop b input) ≡ refused 17 → read_request input ≡ refused 17
    unfolding then
    second_cut f = request_counted input ∙ rw (e, f)

    third : (l : ℕ) (line : List ℕ) → read_counted (drop b input) ≡ accepted (record { value = line; left = drop l input }) →
        read_request input ≡ read_rest book line (drop l input)
    unfolding then
    third l line f = request_counted input ∙ rw (e, f)

-- THE PARTS

module _ (input : List ℕ) where
  pub cut_first : PartEnds input 0 None → PartsStand input None
  cut_first c = record { is = first_cut input c.is; within = tt }

  module _ {b : ℕ} (c : PartEnds input 0 (Some b)) where
    pub cut_second : PartEnds input b None → PartsStand input None
    cut_second d = record { is = second_cut input b _ c.is d.is; within = tt }

    module _ {l : ℕ} (d : PartEnds input b (Some l)) where
      rest : read_request input ≡ read_rest (take (b - 2) (drop 2 input)) (take (l - (b + 2)) (drop (b + 2) input)) (drop l input)
      rest = third input b _ c.is l _ d.is

      pub cut_rest : length input - l < 5 → PartsStand input None
      cut_rest h = record { is = rest ∙ rest_short _ _ (drop l input) (omega (arith, length-drop l input)); within = tt }

      units_are : l < length input → number 0 (take 1 (drop l input)) ≡ get_or input l 0
      unfolding number
      units_are h = ap (λ (xs : List ℕ). number 0 (take 1 xs)) (drop-cons input l 0 h) ∙ omega arith

      module _ (h : 5 ≤ length input - l) where
        abbrev book : List ℕ
        book = take (b - 2) (drop 2 input)

        abbrev line : List ℕ
        line = take (l - (b + 2)) (drop (b + 2) input)

        abbrev budget : ℕ
        budget = number 0 (take 4 (drop (l + 1) input))

        behind : read_request input ≡ read_behind book line (get_or input l 0) budget (drop (l + 5) input)
        behind =
            let n = length-drop l input in
            rest
            ∙ rest_there _ _ (drop l input) (omega arith) (omega arith)
            ∙ ap (λ (u : ℕ). read_behind book line u (number 0 (take 4 (drop 1 (drop l input)))) (drop 4 (drop 1 (drop l input)))) (units_are (omega arith))
            ∙ ap₂ (λ (ys zs : List ℕ). read_behind book line (get_or input l 0) (number 0 (take 4 ys)) zs)
            (drop-drop 1 l input) (drop-drop 4 1 (drop l input) ∙ drop-drop 5 l input)

        module _ {dated : Bool} (form : dated ≡ is_dated book) where
          pub cut_day : DayStands input (l + 5) dated None → PartsStand input None
          cut_day f = record { is = behind ∙ no_day book line (get_or input l 0) budget (drop (l + 5) input) (f.is book form); within = tt }

          module _ {day e : ℕ} (f : DayStands input (l + 5) dated (Some (day, e))) where
            pub cut_over : 32768 < length input - e → PartsStand input None
            cut_over k = record {
              is =
                  behind
                  ∙ behind_over book line (get_or input l 0) budget (drop (l + 5) input) day (drop e input) (f.is book form)
                  (omega (arith, length-drop e input));
              within = tt;
            }

            pub whole : length input - e ≤ 32768 → PartsStand input (Some (record { book = b; line = l; day = day; schedule = e }))
            whole k = record {
              is =
                  behind
                  ∙ behind_there book line (get_or input l 0) budget (drop (l + 5) input) day (drop e input) (f.is book form)
                  (omega (arith, length-drop e input));
              within = (c.within.0, d.within.0, f.within.0, f.within.1);
            }
