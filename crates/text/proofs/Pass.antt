-- Laws of the pass over a text. Assumes nothing.
use mathlib.Core.Bool.{Bool, true, false}
use mathlib.Core.List.{List, [], ◌∷◌, ◌++◌, map, append-nil, append_assoc}
use mathlib.Core.Path.{◌≡◌, refl, sym, ap, ◌∙◌}
use Prim.Native.Nat.{ℕ, zero, suc, ◌+◌, ◌≤◌, ◌<◌}
use native.Mathlib.Numerals.{add-one}
use native.Mathlib.Omega.{arith}
use lib.Dec.{ltb}
use lib.ListN.{length, get_or, take, drop, set, length-set, length-append, take-append-drop, drop_of_length-le}
use lib.Seq.{length-take-le, length-sets, drop-cons, drop-drop, append_snoc, set_at, sets, sets-eq, take_at, drop_at}
use borrow.Author.Tests.{lt-ltb, le-ltb}
use Rattle.paper.specs.Text.{class, Before, separated, squeeze, squeezed, has_classes, text_fault}
use Rattle.std.specs.Prelude.{Option, Some, None, Ok, Err}
use Rattle.refusal.specs.declared.Refusal.{Refusal}
use Rattle.text.specs.Promises.{added, Put, Filled, TextRead}

-- ONE LETTER OR DIGIT

module _ (k c : ℕ) (symbols : List ℕ) (long : length symbols ≡ 1024) where
  pub put_over : (gap : Bool) → 1024 ≤ k + length (added gap c) → Put k gap c symbols symbols None
  put_over gap h = record { long = long; is = h }

  pub put_fits : (gap : Bool) (symbols' : List ℕ) (r : ℕ) → r < 1024 → r ≡ k + length (added gap c) → symbols' ≡ sets symbols k (added gap c) →
      Put k gap c symbols symbols' (Some r)
  put_fits gap symbols' r l e s =
      record { long = ap length s ∙ length-sets symbols k (added gap c) ∙ long; is = (l, e, s) }

added_some : (gap : Bool) (c : ℕ) → 0 < length (added gap c)
added_some true c = omega arith
added_some false c = omega arith

module _ {k c r : ℕ} {gap : Bool} {symbols symbols' : List ℕ} (long : length symbols ≡ 1024) (q : Put k gap c symbols symbols' (Some r)) where
  put_count : length (take k symbols ++ added gap c) ≡ r
  put_count =
      let l = q.is.0 in
      let f = q.is.1 in
      length-append (take k symbols) (added gap c) ∙ ap (λ (n : ℕ). n + length (added gap c)) (length-take-le k symbols (omega arith)) ∙ sym f

  put_split : symbols' ≡ (take k symbols ++ added gap c) ++ drop r symbols
  put_split =
      let (l, f, s) = q.is in
      s ∙ sets-eq (added gap c) symbols k (omega arith) ∙ ap (λ (n : ℕ). (take k symbols ++ added gap c) ++ drop n symbols) (sym f)

  put_front : take r symbols' ≡ take k symbols ++ added gap c
  put_front = ap (take r) put_split ∙ take_at (take k symbols ++ added gap c) (drop r symbols) r put_count

  put_others : (symbols₀ : List ℕ) → drop k symbols ≡ drop k symbols₀ → drop r symbols' ≡ drop r symbols₀
  put_others symbols₀ e =
      ap (drop r) put_split ∙ drop_at (take k symbols ++ added gap c) (drop r symbols) r put_count
      ∙ further symbols ∙ ap (drop (length (added gap c))) e ∙ sym (further symbols₀)
    where
      further : (s : List ℕ) → drop r s ≡ drop (length (added gap c)) (drop k s)
      further s = ap (λ (n : ℕ). drop n s) q.is.1 ∙ sym (drop-drop (length (added gap c)) k s)

-- THE PASS

-- what stands before a byte, behind k symbols: separators if there is a gap
abbrev pub before : Bool → ℕ → Before
before true k = Before.separators
before false zero = Before.nothing
before false (suc k) = Before.letter

-- the text's bytes before i are k symbols, and separators behind them if there is a gap
pub record Passed (text symbols₀ symbols : List ℕ) (k : ℕ) (gap : Bool) (i : ℕ) : Type 0 where
  pub long : length symbols ≡ 1024
  pub room : k < 1024
  pub within : i ≤ length text
  pub none_first : k ≡ 0 → gap ≡ false
  pub symbols_are : squeezed text ≡ take k symbols ++ squeeze (before gap k) (map class (drop i text))
  pub others : drop k symbols ≡ drop k symbols₀

pub passed_none : (text symbols : List ℕ) → length symbols ≡ 1024 → Passed text symbols symbols 0 false 0
unfolding squeezed
passed_none text symbols h = record { long = h; room = omega arith; within = omega arith; none_first = λ _. refl; symbols_are = refl; others = refl }

one_more : (k : ℕ) (gap : Bool) → (k ≡ 0 → gap ≡ false) → separated (before gap k) ≡ before (ltb 0 k) k
one_more zero gap f = rw (f refl)
one_more (suc k) true f = rw (lt-ltb 0 (suc k) (omega arith))
one_more (suc k) false f = rw (lt-ltb 0 (suc k) (omega arith))

squeeze_separator : (b : Before) (c : ℕ) (cs : List ℕ) → c ≡ 0 → squeeze b (c ∷ cs) ≡ squeeze (separated b) cs
unfolding squeeze
squeeze_separator b c cs z = rw z

squeeze_letter : (k : ℕ) (gap : Bool) (c : ℕ) (cs : List ℕ) → (c ≡ 0 → ⊥) → squeeze (before gap k) (c ∷ cs) ≡ added gap c ++ squeeze Before.letter cs
unfolding squeeze
squeeze_letter k gap zero cs z = absurd (z refl)
squeeze_letter k true (suc c) cs z = refl
squeeze_letter zero false (suc c) cs z = refl
squeeze_letter (suc k) false (suc c) cs z = refl

before_letter : (r : ℕ) → 0 < r → before false r ≡ Before.letter
before_letter zero h = absurd (omega arith)
before_letter (suc r) h = refl

module _ (text symbols₀ symbols : List ℕ) (k : ℕ) (gap : Bool) (i : ℕ) (p : Passed text symbols₀ symbols k gap i) where
  -- the text's end
  pub passed_all : length text ≤ i → Filled text symbols₀ symbols (Some k)
  unfolding squeeze
  passed_all h =
      let e : squeezed text ≡ take k symbols = p.symbols_are ∙ rw (drop_of_length-le text h) (append-nil (take k symbols)) in
      record {
        long = p.long;
        is = (
          p.room,
          sym (ap length e ∙ length-take-le k symbols (omega arith)),
          sym (ap (λ (s : List ℕ). s ++ drop k symbols₀) e ∙ ap (λ (s : List ℕ). take k symbols ++ s) (sym p.others) ∙ take-append-drop k symbols),
        );
      }

  module _ (h : i < length text) where
    -- the byte at i
    next : squeezed text ≡ take k symbols ++ squeeze (before gap k) (class (get_or text i 0) ∷ map class (drop (suc i) text))
    next = p.symbols_are ∙ ap (λ (s : List ℕ). take k symbols ++ squeeze (before gap k) (map class s)) (drop-cons text i 0 h)

    pub passed_separator : class (get_or text i 0) ≡ 0 → Passed text symbols₀ symbols k (ltb 0 k) (i + 1)
    passed_separator z = record {
      long = p.long;
      room = p.room;
      within = omega arith;
      none_first = λ e. rw e;
      symbols_are = next ∙ ap (λ (s : List ℕ). take k symbols ++ s)
          (squeeze_separator (before gap k) (class (get_or text i 0)) (map class (drop (suc i) text)) z
          ∙ ap (λ (b : Before). squeeze b (map class (drop (suc i) text))) (one_more k gap p.none_first) ∙ rw add-one);
      others = p.others;
    }

    module _ (symbols' : List ℕ) (c : ℕ) (e : c ≡ class (get_or text i 0)) (z : c ≡ 0 → ⊥) where
      letter : squeezed text ≡ (take k symbols ++ added gap c) ++ squeeze Before.letter (map class (drop (suc i) text))
      letter =
          next ∙ ap (λ (o : ℕ). take k symbols ++ squeeze (before gap k) (o ∷ map class (drop (suc i) text))) (sym e)
          ∙ ap (λ (s : List ℕ). take k symbols ++ s) (squeeze_letter k gap c (map class (drop (suc i) text)) z)
          ∙ sym (append_assoc (take k symbols) (added gap c) (squeeze Before.letter (map class (drop (suc i) text))))

      pub passed_over : Put k gap c symbols symbols' None → Filled text symbols₀ symbols' None
      passed_over q =
          let n = length-append (take k symbols ++ added gap c) (squeeze Before.letter (map class (drop (suc i) text))) in
          let m = length-append (take k symbols) (added gap c) in
          let t = length-take-le k symbols (omega arith) in
          let u = q.is in
          record { long = q.long; is = omega (arith, ap length letter) }

      pub passed_letter : {r : ℕ} → Put k gap c symbols symbols' (Some r) → Passed text symbols₀ symbols' r false (i + 1)
      passed_letter {r} q =
          let f = q.is.1 in
          let some = added_some gap c in
          record {
            long = q.long;
            room = q.is.0;
            within = omega arith;
            none_first = λ _. refl;
            symbols_are =
                letter ∙ ap (λ (s : List ℕ). s ++ squeeze Before.letter (map class (drop (suc i) text))) (sym (put_front p.long q))
                ∙ ap (λ (b : Before). take r symbols' ++ squeeze b (map class (drop (suc i) text))) (sym (before_letter r (omega arith))) ∙ rw add-one;
            others = put_others p.long q symbols₀ p.others;
          }

-- THE ANSWER

module _ (n : ℕ) (arity : ℕ → ℕ) (text symbols : List ℕ) (long : length symbols ≡ 1024) where
  pub told_19 : has_classes n arity ≡ false → TextRead n arity text symbols symbols (Err Refusal.NoLetters)
  unfolding text_fault
  told_19 e = record { answered = rw e; long = long }

  module _ (symbols' : List ℕ) (e : has_classes n arity ≡ true) where
    pub told_18 : Filled text symbols symbols' None → TextRead n arity text symbols symbols' (Err Refusal.TextTooLong)
    unfolding text_fault
    told_18 f = let o = f.is in record { answered = rw (e, lt-ltb 1024 (suc (length (squeezed text))) (omega arith)); long = f.long }

    module _ (m : ℕ) (f : Filled text symbols symbols' (Some m)) where
      closed : set symbols' m 0 ≡ (squeezed text ++ (0 ∷ [])) ++ drop (m + 1) symbols
      closed =
          let h = f.is.0 in
          ap (λ (s : List ℕ). set s m 0)
          (f.is.2 ∙ ap (λ (s : List ℕ). squeezed text ++ s) (drop-cons symbols m 0 (omega arith)))
          ∙ set_at (squeezed text) (get_or symbols m 0) (drop (suc m) symbols) 0 m (sym f.is.1)
          ∙ sym (append_snoc (squeezed text) 0 (drop (suc m) symbols)) ∙ rw add-one

      pub told_read : TextRead n arity text symbols (set symbols' m 0) (Ok (m + 1))
      unfolding text_fault
      told_read =
          let h = f.is.0 in
          let c = f.is.1 in
          record {
            answered = record {
              sound = rw (e, le-ltb 1024 (suc (length (squeezed text))) (omega arith));
              count = omega arith;
              symbols_are = closed;
            };
            long = length-set symbols' m 0 ∙ f.long;
          }
