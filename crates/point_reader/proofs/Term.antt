-- The present term: symbols and marks one by one, and together, as the reader of both answers. Assumes nothing.
use mathlib.Core.Bool.{Bool, true, false}
use mathlib.Core.List.{List, [], ◌∷◌, ◌++◌, map}
use mathlib.Core.Option.{Option as Fault, none, some}
use mathlib.Core.Path.{◌≡◌, refl, sym, ap, ap₂, ◌∙◌, subst}
use Prim.Native.Nat.{ℕ, zero, suc, ◌+◌, ◌≤◌, ◌<◌}
use native.Mathlib.Numerals.{add-one}
use native.Mathlib.Omega.{arith}
use borrow.Author.Tests.{lt-ltb, le-ltb}
use lib.Dec.{ltb}
use lib.ListN.{length, get_or, take, set, length-map, length-set, get_or-map}
use lib.Seq.{take-suc, take-suc-set, take-set-le, get_or-set_same, get_or-set_other, length-take-le}
use Rattle.std.specs.Prelude.{Option, Some, None, Result as Answer, Ok, Err}
use Rattle.std.specs.Result.{result_ok}
use Rattle.paper.specs.Result.{refused, accepted, Read, Reader, return, ◌>>=◌, repeat, if}
use Rattle.paper.specs.Bits.{field}
use Rattle.paper.specs.Line.{symbol_limit}
use Rattle.paper.specs.Sound.{All}
use Rattle.paper.proofs.Readers.{return_accepted, bind_accepted, bind_return}
use Rattle.flat.specs.Rules.{spells}
use Rattle.flat.specs.Form.{is_marked, read_mark}
use Rattle.symbol.specs.Record.{operator, marked, size, operators, marks, sizes}
use Rattle.symbol.proofs.Record.{map_take, marked_at, marked_front}
use Rattle.line.specs.Line.{fault, judgement, told}
use Rattle.line.proofs.Checking.{sound_known}
use Rattle.refusal.specs.declared.Refusal.{Refusal}
use Rattle.refusal.specs.Numbers.{number}
use Rattle.term.specs.Promises.{MarkedAt}
use Rattle.term.specs.Promises as T
use Rattle.term.proofs.Sized.{loaded_operators, loaded_marks, loaded_sized}
use Rattle.book.proofs.Readers.{repeat_next}
use Rattle.side.specs.Promises.{bits_at}
use Rattle.point_reader.specs.Readers.{Marked, read_term}
use Rattle.point_reader.specs.Loading.{Lacks}
use Rattle.point_reader.specs.Promises.{Any, SymbolsTaken, Unmarked, MarksTaken, OneTerm, TermTaken}
use Rattle.point_reader.proofs.Lacking.{refused_lacks, first_none, second_lacks, repeat_lacks}

-- none are read
pub repeat_start : {A : Type 0} (p : Reader A) (xs : List ℕ) → repeat 0 p xs ≡ return [] xs
unfolding repeat
repeat_start p xs = refl

-- SYMBOLS

-- the first i symbols are read
pub record Listing (bytes : List ℕ) (at i q : ℕ) (line : List ℕ) : Type 0 where
  pub long : length line ≡ 1024
  pub read : repeat i (field 8) (bits_at bytes at) ≡ return (take i line) (bits_at bytes q)

module _ {bytes : List ℕ} {at : ℕ} where
  pub listing_start : {line : List ℕ} → length line ≡ 1024 → Listing bytes at 0 at line
  listing_start k = record { long = k; read = repeat_start (field 8) (bits_at bytes at) }

  module _ {i q : ℕ} {line : List ℕ} (h : Listing bytes at i q line) where
    pub listing_more : (o next : ℕ) → field 8 (bits_at bytes q) ≡ return o (bits_at bytes next) → i < 1024 → Listing bytes at (i + 1) next (set line i o)
    listing_more o next f l = record {
      long = length-set line i o ∙ h.long;
      read = repeat_next (field 8) i (bits_at bytes at) (bits_at bytes q) (take i line) h.read o (bits_at bytes next) f
          ∙ ap (λ (us : List ℕ). return us (bits_at bytes next))
          (sym (ap (λ (j : ℕ). take j (set line i o)) (add-one i) ∙ take-suc-set line i o (let k = h.long in omega (arith, k, l))));
    }

    pub listing_out : (m : ℕ) → i < m → field 8 (bits_at bytes q) ≡ refused 1 → SymbolsTaken bytes at m line None
    listing_out m l f = record {
      are = repeat_lacks (field 8) Any Any i m (bits_at bytes at) (bits_at bytes q) (take i line) h.read l (refused_lacks Any f) (λ us vs a z. tt);
      long = h.long;
    }

    pub listing_all : (m : ℕ) → i ≡ m → SymbolsTaken bytes at m line (Some q)
    listing_all m z = record {
      are = subst (λ (j : ℕ). repeat j (field 8) (bits_at bytes at) ≡ return (take j line) (bits_at bytes q)) z h.read;
      long = h.long;
    }

-- MARKS

-- the first i marks are read, and none of the others is marked yet
pub record Marking (bytes : List ℕ) (at m i q : ℕ) (symbols₀ symbols : List ℕ) : Type 0 where
  pub few : i ≤ m
  pub long : length symbols ≡ length symbols₀
  pub operators_are : operators symbols ≡ operators symbols₀
  pub sizes_are : sizes symbols ≡ sizes symbols₀
  pub plain : (j : ℕ) → i ≤ j → j < m → marked (get_or symbols j 0) ≡ false
  pub read : repeat i read_mark (bits_at bytes at) ≡ return (marks (take i symbols)) (bits_at bytes q)

mark_plain : (xs ys : List ℕ) (b : ℕ) → field 1 xs ≡ return b ys → b ≡ 0 → read_mark xs ≡ return false ys
unfolding read_mark is_marked
mark_plain xs ys b e z = bind_return (field 1) (λ n. return (is_marked n)) xs ys b e ∙ rw z refl

mark_marked : (xs ys : List ℕ) (b : ℕ) → field 1 xs ≡ return b ys → (b ≡ 0 → ⊥) → read_mark xs ≡ return true ys
unfolding read_mark is_marked
mark_marked xs ys zero e z = absurd (z refl)
mark_marked xs ys (suc b) e z = bind_return (field 1) (λ n. return (is_marked n)) xs ys (suc b) e

mark_out : (xs : List ℕ) → field 1 xs ≡ refused 1 → Lacks Any (read_mark xs)
unfolding read_mark
mark_out xs e = first_none (field 1) (λ n. return (is_marked n)) xs Any (refused_lacks Any e)

marks_front : (n : ℕ) (xs : List ℕ) → marks (take n xs) ≡ take n (marks xs)
marks_front n xs = map_take marked n xs

-- the marks of one symbol more
marks_next : (i : ℕ) (xs ys : List ℕ) (b : Bool) → i < length ys → take i (marks ys) ≡ take i (marks xs) → marked (get_or ys i 0) ≡ b →
    marks (take i xs) ++ (b ∷ []) ≡ marks (take (i + 1) ys)
marks_next i xs ys b l e f =
    ap₂ (λ (us : List Bool) (c : Bool). us ++ (c ∷ [])) (marks_front i xs ∙ sym e) (sym f ∙ sym (marked_at ys i))
    ∙ sym (take-suc (marks ys) i false (let k = length-map ys marked in omega (arith, k)))
    ∙ ap (λ (j : ℕ). take j (marks ys)) (sym (add-one i))
    ∙ sym (marks_front (i + 1) ys)

module _ {bytes : List ℕ} {at m : ℕ} {symbols₀ : List ℕ} where
  pub marking_start : Unmarked m symbols₀ → Marking bytes at m 0 at symbols₀ symbols₀
  marking_start u = record {
    few = omega arith;
    long = refl;
    operators_are = refl;
    sizes_are = refl;
    plain = λ j _ l. u j l;
    read = repeat_start read_mark (bits_at bytes at);
  }

  module _ {i q : ℕ} {symbols : List ℕ} (h : Marking bytes at m i q symbols₀ symbols) (less : i < m) (short : m ≤ length symbols₀) where
    next_read : (b : Bool) (next : ℕ) (symbols' : List ℕ) → read_mark (bits_at bytes q) ≡ return b (bits_at bytes next) → length symbols' ≡ length symbols →
        take i (marks symbols') ≡ take i (marks symbols) → marked (get_or symbols' i 0) ≡ b →
        repeat (i + 1) read_mark (bits_at bytes at) ≡ return (marks (take (i + 1) symbols')) (bits_at bytes next)
    next_read b next symbols' e k f g =
        repeat_next read_mark i (bits_at bytes at) (bits_at bytes q) (marks (take i symbols)) h.read b (bits_at bytes next) e
        ∙ ap (λ (us : List Bool). return us (bits_at bytes next)) (marks_next i symbols symbols' b (let l = h.long in omega (arith, l, k)) f g)

    pub marking_plain : (b next : ℕ) → field 1 (bits_at bytes q) ≡ return b (bits_at bytes next) → b ≡ 0 → Marking bytes at m (i + 1) next symbols₀ symbols
    marking_plain b next e z = record {
      few = omega arith;
      long = h.long;
      operators_are = h.operators_are;
      sizes_are = h.sizes_are;
      plain = λ j l k. h.plain j (omega arith) k;
      read = next_read false next symbols (mark_plain (bits_at bytes q) (bits_at bytes next) b e z) refl refl (h.plain i (omega arith) less);
    }

    pub marking_mark : (b next : ℕ) (symbols' : List ℕ) → field 1 (bits_at bytes q) ≡ return b (bits_at bytes next) → (b ≡ 0 → ⊥) → MarkedAt i symbols symbols' →
        Marking bytes at m (i + 1) next symbols₀ symbols'
    marking_mark b next symbols' e z t =
        let l : i < length (marks symbols) = (let k = length-map symbols marked in let n = h.long in omega (arith, k, n)) in
        let is : (j : ℕ) → marked (get_or symbols' j 0) ≡ get_or (set (marks symbols) i true) j false =
        (λ j. sym (marked_at symbols' j) ∙ ap (λ (ms : List Bool). get_or ms j false) t.marks_are) in
        record {
          few = omega arith;
          long = t.long ∙ h.long;
          operators_are = t.operators_are ∙ h.operators_are;
          sizes_are = t.sizes_are ∙ h.sizes_are;
          plain = λ j a k.
              is j ∙ get_or-set_other (marks symbols) i j true false (λ d. omega arith) ∙ marked_at symbols j ∙ h.plain j (omega arith) k;
          read = next_read true next symbols' (mark_marked (bits_at bytes q) (bits_at bytes next) b e z) t.long
              (ap (take i) t.marks_are ∙ take-set-le i (marks symbols) i true (omega arith))
              (is i ∙ get_or-set_same (marks symbols) i true false l);
        }

    pub marking_out : field 1 (bits_at bytes q) ≡ refused 1 → MarksTaken bytes at m symbols₀ symbols None
    marking_out e = record {
      are = repeat_lacks read_mark Any Any i m (bits_at bytes at) (bits_at bytes q) (marks (take i symbols)) h.read less
          (mark_out (bits_at bytes q) e) (λ us vs a z. tt);
      operators_are = h.operators_are;
      sizes_are = h.sizes_are;
      long = h.long;
    }

  pub marking_all : {i q : ℕ} {symbols : List ℕ} → Marking bytes at m i q symbols₀ symbols → i ≡ m → MarksTaken bytes at m symbols₀ symbols (Some q)
  marking_all {q = q} {symbols = symbols} h z = record {
    are = subst (λ (j : ℕ). repeat j read_mark (bits_at bytes at) ≡ return (marks (take j symbols)) (bits_at bytes q)) z h.read;
    operators_are = h.operators_are;
    sizes_are = h.sizes_are;
    long = h.long;
  }

-- THE LINE'S CHECK

module _ (n : ℕ) (arity : ℕ → ℕ) where
  -- a line without fault is one term, and one term of known symbols has none
  fault_spells : (due : ℕ) (line : List ℕ) → fault n arity due line ≡ none → spells arity due line ≡ true
  unfolding fault spells
  fault_spells zero [] e = refl
  fault_spells zero (o ∷ os) e = let z : ◌≡◌ {A = ℕ} 0 1 = cc in absurd (omega arith)
  fault_spells (suc due) [] e = let z : ◌≡◌ {A = ℕ} 0 1 = cc in absurd (omega arith)
  fault_spells (suc due) (o ∷ os) e = go (ltb o n) (λ d. fault_spells d os) e
    where
      go : (b : Bool) → ((d : ℕ) → fault n arity d os ≡ none → spells arity d os ≡ true) →
          ◌≡◌ {A = Fault ℕ} (elim b as (λ z. Fault ℕ) [ true ↦ fault n arity (arity o + due) os | false ↦ some 11 ]) none → spells arity (arity o + due) os ≡ true
      go true rest f = rest (arity o + due) f
      go false rest f = let z : ◌≡◌ {A = ℕ} 0 1 = cc in absurd (omega arith)

  spells_fault : (due : ℕ) (line : List ℕ) → spells arity due line ≡ true → All (λ o. o < n) line → fault n arity due line ≡ none
  unfolding fault spells
  spells_fault zero [] e a = refl
  spells_fault zero (o ∷ os) e a = let z : ◌≡◌ {A = ℕ} 0 1 = cc in absurd (omega arith)
  spells_fault (suc due) [] e a = let z : ◌≡◌ {A = ℕ} 0 1 = cc in absurd (omega arith)
  spells_fault (suc due) (o ∷ os) e a = rw (lt-ltb o n a.0, fault) (spells_fault (arity o + due) os e a.1)

  pub sound_spells : (line : List ℕ) → judgement n arity line ≡ none → spells arity 1 line ≡ true
  unfolding judgement
  sound_spells line e = go (ltb symbol_limit (length line)) e
    where
      go : (b : Bool) → if b (some 12) (fault n arity 1 line) ≡ none → spells arity 1 line ≡ true
      go true h = let z : ◌≡◌ {A = ℕ} 0 1 = cc in absurd (omega arith)
      go false h = fault_spells 1 line h

  pub spells_sound : (line : List ℕ) → length line ≤ 1024 → spells arity 1 line ≡ true → All (λ o. o < n) line → judgement n arity line ≡ none
  unfolding judgement
  spells_sound line l e a = rw (le-ltb symbol_limit (length line) l) (spells_fault 1 line e a)

-- what the check of a line answers, told as an Option
pub line_sound : (r : Answer (Unit {0}) Refusal) {u : Unit {0}} → result_ok r ≡ Some u → told r ≡ none
line_sound (Ok u) e = refl
line_sound (Err e) h = let z : ◌≡◌ {A = ℕ} 0 1 = cc in absurd (omega arith)

pub line_refused : (r : Answer (Unit {0}) Refusal) → result_ok r ≡ None → (k : ℕ) × (told r ≡ some k)
line_refused (Ok u) h = let z : ◌≡◌ {A = ℕ} 0 1 = cc in absurd (omega arith)
line_refused (Err e) h = (number e, refl)

-- TOGETHER

abbrev with_marks : ℕ → List ℕ → Reader Marked
with_marks m xs = repeat m read_mark >>= (λ ms. return (record { symbols = xs; marks = ms }))

term_is : (m : ℕ) (xs : List ℕ) → read_term m xs ≡ (repeat m (field 8) >>= with_marks m) xs
unfolding read_term
term_is m xs = refl

term_symbols : (m : ℕ) (xs ys : List ℕ) (r : Read Marked) → with_marks m xs ys ≡ accepted r → r.value.symbols ≡ xs
term_symbols m xs ys r e =
    let (ms, _, f) = bind_accepted (repeat m read_mark) (λ ms. return (record { symbols = xs; marks = ms })) ys r e in
    return_accepted (record { symbols = xs; marks = ms.value }) ms.left r (λ z. z.value.symbols ≡ xs) f refl

module _ (arity : ℕ → ℕ) (n : ℕ) (bytes : List ℕ) (at m : ℕ) (short : m ≤ 1024) where
  term_lacks : (symbols : List ℕ) → Lacks (OneTerm arity n) ((repeat m (field 8) >>= with_marks m) (bits_at bytes at)) → TermTaken arity n bytes at m symbols None
  term_lacks symbols l = record { is = λ r e. l r (sym (term_is m (bits_at bytes at)) ∙ e); sized = tt; known = tt }

  pub term_no_symbols : {line symbols : List ℕ} → SymbolsTaken bytes at m line None → TermTaken arity n bytes at m symbols None
  term_no_symbols {symbols = symbols} s = term_lacks symbols (first_none (repeat m (field 8)) (with_marks m) (bits_at bytes at) (OneTerm arity n) s.are)

  module _ {p : ℕ} {line : List ℕ} (s : SymbolsTaken bytes at m line (Some p)) where
    second : {symbols : List ℕ} → Lacks (OneTerm arity n) (with_marks m (take m line) (bits_at bytes p)) → TermTaken arity n bytes at m symbols None
    second {symbols} l =
        term_lacks symbols (second_lacks (repeat m (field 8)) (with_marks m) (bits_at bytes at) (OneTerm arity n) (take m line) (bits_at bytes p) s.are l)

    pub term_refused : {symbols : List ℕ} (k : ℕ) → judgement n arity (take m line) ≡ some k → TermTaken arity n bytes at m symbols None
    term_refused k z =
        second (λ r e o.
        let q = term_symbols m (take m line) (bits_at bytes p) r e in
        let l = length-take-le m line (let h = s.long in omega (arith, h)) in
        let f = spells_sound n arity (take m line) (omega (arith, l)) (subst (λ (xs : List ℕ). spells arity 1 xs ≡ true) q o.complete)
        (subst (λ (xs : List ℕ). All (λ o. o < n) xs) q o.known) in
        let y : ◌≡◌ {A = ℕ} 0 1 = cc in
        absurd (omega arith))

    module _ (sound : judgement n arity (take m line) ≡ none) {symbols : List ℕ}
        (loaded : T.Loaded arity (take m line) (map (λ o. false) (take m line)) m symbols) where
      pub term_unmarked : Unmarked m symbols
      term_unmarked i l =
          let k = length-take-le m line (let z = s.long in omega (arith, z)) in
          sym (marked_front m symbols i l)
          ∙ ap (λ (ms : List Bool). get_or ms i false) loaded.marks_are
          ∙ get_or-map (λ o. false) (take m line) i 0

      -- the array with its marks
      with_them : {symbols' : List ℕ} {r : Option ℕ} → MarksTaken bytes p m symbols symbols' r → T.Loaded arity (take m line) (marks (take m symbols')) m symbols'
      with_them {symbols'} t = record {
        operators_are = map_take operator m symbols' ∙ ap (take m) t.operators_are ∙ sym (map_take operator m symbols) ∙ loaded.operators_are;
        marks_are = refl;
        sizes_are = map_take size m symbols' ∙ ap (take m) t.sizes_are ∙ sym (map_take size m symbols) ∙ loaded.sizes_are;
        long = t.long ∙ loaded.long;
      }

      pub term_marks : {symbols' : List ℕ} {r : Option ℕ} → MarksTaken bytes p m symbols symbols' r → TermTaken arity n bytes at m symbols' r
      term_marks {symbols'} {r} t = go r t
        where
          go : (r : Option ℕ) → MarksTaken bytes p m symbols symbols' r → TermTaken arity n bytes at m symbols' r
          go (Some next) t =
              let one = sound_spells n arity (take m line) sound in
              let l = with_them t in
              let o = loaded_operators arity (take m line) m symbols' short one l in
              record {
                is = term_is m (bits_at bytes at)
                    ∙ bind_return (repeat m (field 8)) (with_marks m) (bits_at bytes at) (bits_at bytes p) (take m line) s.are
                    ∙ bind_return (repeat m read_mark) (λ ms. return (record { symbols = take m line; marks = ms })) (bits_at bytes p) (bits_at bytes next)
                    (marks (take m symbols')) t.are
                    ∙ ap₂ (λ (xs : List ℕ) (ms : List Bool). return (record { symbols = xs; marks = ms }) (bits_at bytes next)) (sym o)
                    (sym (loaded_marks arity (take m line) m symbols' short one l));
                sized = loaded_sized arity (take m line) m symbols' short one l;
                known = subst (λ (xs : List ℕ). All (λ o. o < n) xs) (sym o) (sound_known n arity (take m line) sound).0;
              }
          go None t =
              second (first_none (repeat m read_mark) (λ ms. return (record { symbols = take m line; marks = ms })) (bits_at bytes p) (OneTerm arity n) t.are)
