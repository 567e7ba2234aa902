-- By which numbers a request is refused (document 01, 'What is checked where'; document 02, Changes 1 and 8): with a line by 1 to 16, with a text by 1
-- to 9, 13 to 16, 18 and 19; by 15 only if the work area or the net's is below its published length, by 16 only if the output is under 1,024 bytes; by 6
-- never, whatever the bytes (document 02, Change 4: "Number 6 is given no longer, and this is shown for every book"). An input is refused by 17 alone.
-- Books are in either form (Change 5). Assumes nothing.
use mathlib.Core.List.{List, [], ◌∷◌, ◌++◌}
use mathlib.Core.Logic.{◌⊎◌, inl, inr, ◌≢◌}
use mathlib.Core.Option.{Option, none, some}
use mathlib.Core.Path.{◌≡◌, refl, ◌∙◌, ap, subst}
use Prim.Native.Nat.{ℕ, zero, suc, ◌+◌, ◌/◌, ◌%◌, ◌≤◌, ◌<◌}
use native.Mathlib.Omega.{arith}
use lib.Dec.{eqb, ltb}
use lib.ListN.{length, get_or, take, drop, length-append}
use Rattle.paper.specs.Result.{Result, refused, accepted, then}
use Rattle.paper.specs.Book.{Term, Book, arity}
use Rattle.paper.specs.Dated.{is_dated, read_any, on_day}
use Rattle.paper.specs.Line.{symbol_limit, line_fault, unless_fault, read_line}
use Rattle.paper.specs.Text.{read_text}
use Rattle.paper.specs.Run.{Answer}
use Rattle.paper.specs.Page.{Request, Lengths, all_below, frame_fault, unless, run_checked, LineReader, answer_by, answer_of, payee_of}
use Rattle.paper.specs.Page.{read_bytes, read_number, read_day, read_schedule, own_lengths, read_request, digits, spaced, line, reduce_word, refused_word}
use Rattle.paper.specs.Page.{answer_lines, page_by, page_of, payee_page_of, written_of}
use Rattle.paper.proofs.Tests.{either, ltb_cases}
use Rattle.paper.proofs.Lengths.{OfBook, any_refused_by}
use Rattle.paper.proofs.Text.{text_refused_by}

-- what is said of each refusal
abbrev Told : {A : Type 0} → (ℕ → Type 0) → Result A → Type 0
Told P (refused k) = P k
Told P (accepted a) = Unit {0}

abbrev Faulty : (ℕ → Type 0) → Option ℕ → Type 0
Faulty P none = Unit {0}
Faulty P (some k) = P k

told : {A : Type 0} (P : ℕ → Type 0) (x : Result A) → ((k : ℕ) → x ≡ refused k → P k) → Told P x
told P (refused k) h = h k refl
told P (accepted a) h = tt

then_told : {A B : Type 0} (P : ℕ → Type 0) (x : Result A) (f : A → Result B) → Told P x → ((a : A) → Told P (f a)) → Told P (then x f)
unfolding then
then_told P (refused k) f h g = h
then_told P (accepted a) f h g = g a

-- ANY READER

module _ (published : Lengths) (q : Request) where
  -- the table's places, `Own` being the numbers that the reader of the term or text gives
  pub data Refusal (Own : ℕ → Type 0) : ℕ → Type 0 where
    units : Refusal Own 13
    work : q.work < published.work → Refusal Own 15
    net : q.net < published.net → Refusal Own 15
    output : q.output < symbol_limit → Refusal Own 16
    book : {k : ℕ} → OfBook k → Refusal Own k
    own : {k : ℕ} → Own k → Refusal Own k
    schedule : Refusal Own 14

  module _ (Own : ℕ → Type 0) where
    unless_told : {A : Type 0} (f : Option ℕ) (x : Result A) → Faulty (Refusal Own) f → Told (Refusal Own) x → Told (Refusal Own) (unless f x)
    unfolding unless
    unless_told none x h g = g
    unless_told (some k) x h g = h

    frame_told : Faulty (Refusal Own) (frame_fault published q)
    unfolding frame_fault
    frame_told = elim (either (eqb q.units 0)) [
      | inl e ↦ rw e units
      | inr e ↦ rw e (elim (either (ltb 8 q.units)) [
        | inl f ↦ rw f units
        | inr f ↦ rw f (elim (ltb_cases q.work published.work) [
          | inl w ↦ rw w.0 (work w.1)
          | inr w ↦ rw w.0 (elim (ltb_cases q.net published.net) [
            | inl n ↦ rw n.0 (net n.1)
            | inr n ↦ rw n.0 (elim (ltb_cases q.output symbol_limit) [ inl o ↦ rw o.0 (output o.1) | inr o ↦ rw o.0 tt ])
          ])
        ])
      ])
    ]

    book_told : Told (Refusal Own) (read_any q.book)
    book_told = told (Refusal Own) (read_any q.book) (λ k e. book (any_refused_by q.book k e))

    run_told : (B : Book) (t : Term) → Told (Refusal Own) (run_checked q B t)
    unfolding run_checked
    run_told B t = elim (either (all_below q.units q.schedule)) [
      | inl e ↦ rw (e, run_checked) tt
      | inr e ↦ rw (e, run_checked) schedule
    ]

    pub refused_by : (read : LineReader) → ((B : Book) (line : List ℕ) (k : ℕ) → read B line ≡ refused k → Own k) → (k : ℕ) →
        answer_by read published q ≡ refused k → Refusal Own k
    unfolding answer_by
    refused_by read h k e =
        let line_told : (B : Book) → Told (Refusal Own) (read B q.line) = λ B. told (Refusal Own) (read B q.line) (λ k e. own (h B q.line k e)) in
        let all_told : Told (Refusal Own) (answer_by read published q) =
        unless_told (frame_fault published q) _ frame_told
        (then_told (Refusal Own) (read_any q.book) _ book_told
        (λ A. let B = on_day q.day A in then_told (Refusal Own) (read B q.line) _ (line_told B) (λ t. run_told B t))) in
        rw e at all_told

-- A LINE

-- the line's own: 10, 11, 12
abbrev pub OfLine : ℕ → Type 0
OfLine k = (10 ≤ k) × (k ≤ 12)

fault_told : (B : Book) (due : ℕ) (line : List ℕ) → Faulty OfLine (line_fault B due line)
unfolding line_fault
fault_told B zero [] = tt
fault_told B zero (o ∷ os) = (omega arith, omega arith)
fault_told B (suc due) [] = (omega arith, omega arith)
fault_told B (suc due) (o ∷ os) = elim (either (ltb o (length B.operators))) [
  | inl e ↦ rw (e, line_fault) (fault_told B (arity B o + due) os)
  | inr e ↦ rw (e, line_fault) (omega arith, omega arith)
]

term_told : (f : Option ℕ) (t : Term) → Faulty OfLine f → Told OfLine (unless_fault f t)
unfolding unless_fault
term_told none t h = tt
term_told (some k) t h = h

line_told : (B : Book) (line : List ℕ) → Told OfLine (read_line B line)
unfolding read_line
line_told B [] = (omega arith, omega arith)
line_told B (o ∷ os) = elim (either (ltb symbol_limit (length (o ∷ os)))) [
  | inl e ↦ rw e (omega arith, omega arith)
  | inr e ↦ rw e (term_told (line_fault B 1 (o ∷ os)) _ (fault_told B 1 (o ∷ os)))
]

pub line_refused_by : (B : Book) (line : List ℕ) (k : ℕ) → read_line B line ≡ refused k → OfLine k
line_refused_by B line k e = rw e at (line_told B line)

module _ (published : Lengths) (q : Request) where
  pub record RefusedBy (k : ℕ) : Type 0 where
    pub some_number : 0 < k
    pub below : k < 17
    pub not_six : k ≢ 6
    pub short_area : k ≡ 15 → (q.work < published.work) ⊎ (q.net < published.net)
    pub short_output : k ≡ 16 → q.output < symbol_limit

  -- neither 15 nor 16
  other : (k : ℕ) → 0 < k → k < 15 → k ≢ 6 → RefusedBy k
  other k l h n =
      record { some_number = l; below = omega arith; not_six = n; short_area = λ e. absurd (omega arith); short_output = λ e. absurd (omega arith) }

  pub request_refused_by : (k : ℕ) → answer_of published q ≡ refused k → RefusedBy k
  request_refused_by k e = go (refused_by published q OfLine read_line line_refused_by k e)
    where
      go : {k : ℕ} → Refusal published q OfLine k → RefusedBy k
      go units = other 13 (omega arith) (omega arith) (λ e. omega arith)
      go (work w) =
          record { some_number = omega arith; below = omega arith; not_six = λ e. omega arith; short_area = λ e. inl w; short_output = λ e. absurd (omega arith) }
      go (net n) =
          record { some_number = omega arith; below = omega arith; not_six = λ e. omega arith; short_area = λ e. inr n; short_output = λ e. absurd (omega arith) }
      go (output o) =
          record { some_number = omega arith; below = omega arith; not_six = λ e. omega arith; short_area = λ e. absurd (omega arith); short_output = λ e. o }
      go {k} (book h) = other k h.0 (let l = h.1 in omega arith) h.2
      go {k} (own h) = other k (omega arith) (omega arith) (λ e. omega arith)
      go schedule = other 14 (omega arith) (omega arith) (λ e. omega arith)

-- A TEXT

-- the text's own: 18, 19
abbrev pub OfText : ℕ → Type 0
OfText k = (k ≡ 18) ⊎ (k ≡ 19)

module _ (published : Lengths) (q : Request) where
  pub payee_refused_by : (k : ℕ) → payee_of published q ≡ refused k → Refusal published q OfText k
  payee_refused_by = refused_by published q OfText read_text text_refused_by

  -- so by 1 to 9 but 6, 13 to 16, 18 or 19
  pub payee_numbers : (k : ℕ) → payee_of published q ≡ refused k → ((0 < k) × (k < 10) × (k ≢ 6)) ⊎ (((12 < k) × (k < 17)) ⊎ ((17 < k) × (k < 20)))
  payee_numbers k e = go (payee_refused_by k e)
    where
      go : {k : ℕ} → Refusal published q OfText k → ((0 < k) × (k < 10) × (k ≢ 6)) ⊎ (((12 < k) × (k < 17)) ⊎ ((17 < k) × (k < 20)))
      go units = inr (inl (omega arith, omega arith))
      go (work w) = inr (inl (omega arith, omega arith))
      go (net n) = inr (inl (omega arith, omega arith))
      go (output o) = inr (inl (omega arith, omega arith))
      go (book h) = inl h
      go (own (inl e)) = inr (inr (omega arith, omega arith))
      go (own (inr e)) = inr (inr (omega arith, omega arith))
      go schedule = inr (inl (omega arith, omega arith))

-- NEVER 6

abbrev NotSix : ℕ → Type 0
NotSix k = k ≢ 6

never : {A : Type 0} {x : Result A} → Told NotSix x → x ≢ refused 6
never {A} h e = subst (Told {A = A} NotSix) e h refl

pub read_not_six : (bytes : List ℕ) → read_any bytes ≢ refused 6
read_not_six bytes e = (any_refused_by bytes 6 e).2 refl

pub written_not_six : (bytes : List ℕ) → written_of bytes ≢ refused 6
unfolding written_of
written_not_six bytes = never (then_told NotSix (read_any bytes) _ (told NotSix (read_any bytes) (λ k e. (any_refused_by bytes k e).2)) (λ A. tt))

module _ (published : Lengths) (q : Request) where
  pub answer_not_six : answer_of published q ≢ refused 6
  answer_not_six e = (request_refused_by published q 6 e).not_six refl

  pub payee_not_six : payee_of published q ≢ refused 6
  payee_not_six e = elim (payee_numbers published q 6 e) [
    | inl h ↦ h.2 refl
    | inr h ↦ elim h [ inl i ↦ (let j = i.0 in omega arith) | inr i ↦ (let j = i.0 in omega arith) ]
  ]

-- A PROGRAM'S PAGE

-- the input's own: 17
abbrev OfInput : ℕ → Type 0
OfInput k = k ≡ 17

bytes_told : (n : ℕ) (xs : List ℕ) → Told OfInput (read_bytes n xs)
unfolding read_bytes
bytes_told n xs = elim (either (eqb (length (take n xs)) n)) [ inl e ↦ rw e tt | inr e ↦ rw e refl ]

number_told : (n : ℕ) (xs : List ℕ) → Told OfInput (read_number n xs)
unfolding read_number
number_told n xs = then_told OfInput (read_bytes n xs) _ (bytes_told n xs) (λ r. tt)

day_told : (bytes xs : List ℕ) → Told OfInput (read_day bytes xs)
unfolding read_day
day_told bytes xs = elim (either (is_dated bytes)) [ inl e ↦ rw (e, read_day) (number_told 2 xs) | inr e ↦ rw (e, read_day) tt ]

schedule_told : (xs : List ℕ) → Told OfInput (read_schedule xs)
unfolding read_schedule
schedule_told xs = elim (either (ltb 32768 (length xs))) [ inl e ↦ rw e refl | inr e ↦ rw e tt ]

request_told : (xs : List ℕ) → Told OfInput (read_request xs)
unfolding read_request
request_told xs =
    then_told OfInput (read_number 2 xs) _ (number_told 2 xs) λ n.
    then_told OfInput (read_bytes n.value n.left) _ (bytes_told n.value n.left) λ book.
    then_told OfInput (read_number 2 book.left) _ (number_told 2 book.left) λ m.
    then_told OfInput (read_bytes m.value m.left) _ (bytes_told m.value m.left) λ line.
    then_told OfInput (read_number 1 line.left) _ (number_told 1 line.left) λ units.
    then_told OfInput (read_number 4 units.left) _ (number_told 4 units.left) λ budget.
    then_told OfInput (read_day book.value budget.left) _ (day_told book.value budget.left) λ day.
    then_told OfInput (read_schedule day.left) _ (schedule_told day.left) λ schedule. tt

pub request_refused_by_17 : (input : List ℕ) (k : ℕ) → read_request input ≡ refused k → k ≡ 17
request_refused_by_17 input k e = rw e at (request_told input)

-- digits put at least one in front of those that follow
digits_more : (n v : ℕ) (ds : List ℕ) → length ds < length (digits (suc n) v ds)
unfolding digits
digits_more zero v ds = elim (either (ltb v 10)) [ inl e ↦ rw (e, digits) (omega arith) | inr e ↦ rw (e, digits) (omega arith) ]
digits_more (suc n) v ds = elim (either (ltb v 10)) [
  | inl e ↦ rw (e, digits) (omega arith)
  | inr e ↦ rw (e, digits) (let h = digits_more n (v / 10) ((48 + v % 10) ∷ ds) in omega arith)
]

-- 6 alone is printed as one digit 6
only_six : (n : ℕ) → spaced (n ∷ []) ++ (10 ∷ []) ≡ 32 ∷ 54 ∷ 10 ∷ [] → n ≡ 6
unfolding spaced digits
only_six n e = elim (ltb_cases n 10) [
  | inl p ↦ (let h : 48 + n ≡ 54 = ap (λ (ds : List ℕ). get_or ds 1 0) (rw p.0 at e) in omega arith)
  | inr p ↦ (
      let ds = digits 19 (n / 10) ((48 + n % 10) ∷ []) in
      let i = ap length (rw p.0 at e) in
      absurd (omega (arith, i, digits_more 18 (n / 10) ((48 + n % 10) ∷ []), length-append (ds ++ []) (10 ∷ []), length-append ds []))
      )
]

module _ (read : LineReader) (not_six : (q : Request) → answer_by read own_lengths q ≢ refused 6) (input : List ℕ) where
  -- before it is printed
  pub input_not_six : then (read_request input) (λ r. answer_by read own_lengths r.value) ≢ refused 6
  input_not_six =
      never
      (then_told NotSix (read_request input) _
      (told NotSix (read_request input) (λ k e. let h = request_refused_by_17 input k e in λ i. omega arith))
      (λ r. told NotSix (answer_by read own_lengths r.value) (λ k e i. not_six r.value (e ∙ ap refused i))))

  pub printed_not_six : page_by read input ≢ line reduce_word (1 ∷ []) ++ line refused_word (6 ∷ [])
  unfolding page_by
  printed_not_six e = go (then (read_request input) (λ r. answer_by read own_lengths r.value)) refl (ap (drop 9) e)
    where
      go : (x : Result Answer) → then (read_request input) (λ r. answer_by read own_lengths r.value) ≡ x →
          answer_lines x ≡ line refused_word (6 ∷ []) → ⊥
      go (refused n) f g = input_not_six (f ∙ ap refused (only_six n (ap (drop 7) g)))
      go (accepted a) f g = let h : ◌≡◌ {A = ℕ} 101 114 = ap (λ (bs : List ℕ). get_or bs 0 0) g in omega arith

pub page_not_six : (input : List ℕ) → page_of input ≢ line reduce_word (1 ∷ []) ++ line refused_word (6 ∷ [])
unfolding page_of
page_not_six = printed_not_six read_line (answer_not_six own_lengths)

pub payee_page_not_six : (input : List ℕ) → payee_page_of input ≢ line reduce_word (1 ∷ []) ++ line refused_word (6 ∷ [])
unfolding payee_page_of
payee_page_not_six = printed_not_six read_text (payee_not_six own_lengths)
