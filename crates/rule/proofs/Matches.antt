-- A left side matched symbol by symbol, as the book's bits give them. Assumes nothing.
use mathlib.Core.Bool.{Bool, true, false}
use mathlib.Core.List.{List, [], ◌∷◌}
use mathlib.Core.Logic.{◌⊎◌}
use mathlib.Core.Path.{◌≡◌, refl, sym, ap, ◌∙◌, subst}
use Prim.Native.Nat.{ℕ, zero, suc, ◌+◌, ◌-◌, ◌*◌, ◌%◌, ◌^◌, ◌≤◌, ◌<◌}
use native.Mathlib.Numerals.{add-one}
use native.Mathlib.Omega.{arith}
use lib.Dec.{eqb}
use lib.ListN.{length, get_or, take, drop, drop_of_length-le}
use lib.Seq.{drop-cons, drop-drop}
use borrow.Author.Tests.{ne_eqb}
use Rattle.paper.specs.Book.{Symbol}
use Rattle.paper.specs.Writer.{same}
use Rattle.flat.specs.Symbols as flat
use Rattle.flat.specs.Symbols.{segment, symbols_in, Binding, bind, skip, meet, match}
use Rattle.bits.specs.Field.{Nine}
use Rattle.side.specs.Promises.{StandingAt}
use Rattle.side.specs.declared.Standing as Sd
use Rattle.side.proofs.There.{stands_operator}
use Rattle.tables.specs.Layout.{arity_in}
use Rattle.term.specs.Promises.{Compared}
use Rattle.term.proofs.Comparing.{compared_within}
use Rattle.rule.specs.Packed.{AllAt, binding, BindsWithin}
use Rattle.rule.specs.Promises.{HoldsBinding, BoundWithin, head_is, head_or, OtherStands, VariableMet, SymbolAgrees, RestMatched}
use Rattle.rule.specs.declared.Taken as T
use Rattle.std.specs.Prelude.{Option, Some, None}
use Rattle.rule.proofs.Sides.{taken, goes_operator, goes_variable, all_operator, all_variable, none_left}
use Rattle.rule.proofs.Bindings.{within_bind}

-- THE FIRST SYMBOL

match_head : (arity : ℕ → ℕ) (line : List ℕ) (o : ℕ) (ss : List Symbol) (a : ℕ) (xs : List ℕ) (b : Binding) → head_is o xs ≡ true →
    match arity line (Symbol.operator o ∷ ss) a xs b ≡ match arity line ss (suc a) (drop 1 xs) b
unfolding match head_is
match_head arity line o ss a [] b e = let z : ◌≡◌ {A = ℕ} 0 1 = cc in absurd (omega arith)
match_head arity line o ss a (x ∷ xs) b e = rw (e, match)

pub match_same : (arity : ℕ → ℕ) (o : ℕ) (ss : List Symbol) (a : ℕ) (xs : List ℕ) (b : Binding) → head_is o (drop a xs) ≡ true →
    match arity xs (Symbol.operator o ∷ ss) a (drop a xs) b ≡ match arity xs ss (a + 1) (drop (a + 1) xs) b
match_same arity o ss a xs b e = match_head arity xs o ss a (drop a xs) b e ∙ rw (drop-drop 1 a xs, ← add-one a)

pub match_other : (arity : ℕ → ℕ) (line : List ℕ) (o : ℕ) (ss : List Symbol) (a : ℕ) (xs : List ℕ) (b : Binding) → head_is o xs ≡ false →
    match arity line (Symbol.operator o ∷ ss) a xs b ≡ flat.Match.differs
unfolding match head_is
match_other arity line o ss a [] b e = refl
match_other arity line o ss a (x ∷ xs) b e = rw (e, match)

module _ (arity : ℕ → ℕ) (v : ℕ) (ss : List Symbol) (a : ℕ) (xs : List ℕ) (b : Binding) where
  match_part : (k : ℕ) (b' : Binding) → meet arity xs (b v).size v a (drop a xs) b ≡ flat.Meeting.part k b' →
      match arity xs (Symbol.variable v ∷ ss) a (drop a xs) b ≡ match arity xs ss (a + k) (drop (a + k) xs) b'
  unfolding match
  match_part k b' e = rw (e, match) (ap (λ (l : List ℕ). match arity xs ss (a + k) l b') (drop-drop k a xs))

  match_apart : meet arity xs (b v).size v a (drop a xs) b ≡ flat.Meeting.other → match arity xs (Symbol.variable v ∷ ss) a (drop a xs) b ≡ flat.Match.differs
  unfolding match
  match_apart e = rw (e, match)

module _ (a : ℕ) (xs : List ℕ) where
  pub head_at : (o x : ℕ) → a < length xs → x ≡ get_or xs a 0 → head_is o (drop a xs) ≡ eqb o x
  unfolding head_is
  head_at o x h e = rw (drop-cons xs a 0, e)

  pub head_end : (o : ℕ) → length xs ≤ a → head_is o (drop a xs) ≡ false
  unfolding head_is
  head_end o h = rw (drop_of_length-le xs h)

  pub or_at : (x : ℕ) → a < length xs → x ≡ get_or xs a 0 → x ≡ head_or (drop a xs)
  unfolding head_or
  or_at x h e = rw (drop-cons xs a 0, e)

  pub or_end : length xs ≤ a → ◌≡◌ {A = ℕ} 256 (head_or (drop a xs))
  unfolding head_or
  or_end h = rw (drop_of_length-le xs h)

pub head_inside : (o a : ℕ) (xs : List ℕ) → head_is o (drop a xs) ≡ true → a < length xs
unfolding head_is
head_inside o zero [] e = let z : ◌≡◌ {A = ℕ} 0 1 = cc in absurd (omega arith)
head_inside o (suc a) [] e = let z : ◌≡◌ {A = ℕ} 0 1 = cc in absurd (omega arith)
head_inside o zero (x ∷ xs) e = omega arith
head_inside o (suc a) (x ∷ xs) e = let h = head_inside o a xs e in omega arith

-- ANOTHER OPERATOR

-- of nine bits below 256
pub other_stands : {bytes : List ℕ} {at w : ℕ} (x : ℕ) (r : Bool) → Nine bytes at w → length bytes ≤ 2 ^ 60 → w < 256 → (r ≡ true → w ≡ x → ⊥) →
    OtherStands bytes at x r
other_stands {bytes} {at} {w} x true n h l d = (w, (at + 9) % 2 ^ 64, l, d refl, stands_operator bytes at w n h w ((at + 9) % 2 ^ 64) l refl refl)
other_stands x false n h l d = tt

not_head : (o : ℕ) (xs : List ℕ) → o < 256 → (o ≡ head_or xs → ⊥) → head_is o xs ≡ false
unfolding head_is head_or
not_head o [] l d = refl
not_head o (x ∷ xs) l d = ne_eqb o x d

-- where an operator stands that is not the term's next symbol, the symbols differ
pub differs_at : {bytes : List ℕ} {at : ℕ} (operators xs : List ℕ) (a : ℕ) (b : Binding) (o next : ℕ) → StandingAt bytes at (Sd.Standing.Operator o next) →
    head_is o (drop a xs) ≡ false → AllAt bytes at operators (λ ss. match (arity_in operators) xs ss a (drop a xs) b ≡ flat.Match.differs)
differs_at {bytes} {at} operators xs a b o next h e =
    all_operator bytes operators _ at o next h (λ ss. match_other (arity_in operators) xs o ss a (drop a xs) b e)

pub other_differs : {bytes : List ℕ} {at : ℕ} (operators xs : List ℕ) (a : ℕ) (b : Binding) → OtherStands bytes at (head_or (drop a xs)) true →
    AllAt bytes at operators (λ ss. match (arity_in operators) xs ss a (drop a xs) b ≡ flat.Match.differs)
other_differs operators xs a b (o, next, l, d, s) = differs_at operators xs a b o next s (not_head o (drop a xs) l d)

-- A VARIABLE

module _ (arity : ℕ → ℕ) (xs : List ℕ) (v a : ℕ) (b : Binding) where
  meet_first : (n k : ℕ) → n ≡ 0 → skip arity 1 (drop a xs) ≡ k → meet arity xs n v a (drop a xs) b ≡ flat.Meeting.part k (bind v (segment a k) b)
  unfolding meet
  meet_first n k z e = rw (z, ← e)

  meet_again : (n : ℕ) (r : Bool) → (n ≡ 0 → ⊥) → r ≡ same (symbols_in (b v) xs) (take n (drop a xs)) →
      meet arity xs n v a (drop a xs) b ≡ elim r [ true ↦ flat.Meeting.part n b | false ↦ flat.Meeting.other ]
  unfolding meet
  meet_again zero r d e = absurd (d refl)
  meet_again (suc n) r d e = rw (e, meet)

module _ {xs bound : List ℕ} {m v a len : ℕ} (w : BoundWithin bound len) where
  pub met_first : (n k : ℕ) (bound' : List ℕ) → n ≡ get_or bound (2 * v + 1) 0 → n ≡ 0 → k ≡ m → a + m ≤ len →
      HoldsBinding bound' (bind v (segment a k) (binding bound)) → VariableMet xs m v a len (binding bound) bound' (Some k)
  met_first n k bound' size z f l g =
      record {
        is = λ arity e. meet_first arity xs v a (binding bound) _ k (sym size ∙ z) (omega arith) ∙ ap (flat.Meeting.part k) (sym g.is);
        within = (
          omega arith,
          record {
            within = subst (λ (b : Binding). BindsWithin b len) (sym g.is) (within_bind v a k len (binding bound) (omega arith) w.within);
            long = g.long;
          },
        );
      }

  module _ {start n : ℕ} (starts : start ≡ get_or bound (2 * v) 0) (size : n ≡ get_or bound (2 * v + 1) 0) (some : n ≡ 0 → ⊥) where
    pub met_same : length xs ≡ len → a ≤ len → Compared xs start a n true → VariableMet xs m v a len (binding bound) bound (Some n)
    met_same l h c =
        let k = w.within v in
        record {
          is = λ arity e. rw (← size) (meet_again arity xs v a (binding bound) n true some (rw (← starts, ← size) c.is));
          within = (rw (← l) (compared_within c (omega arith) (omega arith)), w);
        }

    pub met_other : Compared xs start a n false → VariableMet xs m v a len (binding bound) bound None
    met_other c =
        record { is = λ arity e. rw (← size) (meet_again arity xs v a (binding bound) n false some (rw (← starts, ← size) c.is)); within = tt }

-- ONE SYMBOL

module _ {bytes operators xs : List ℕ} {at a len : ℕ} {bound : List ℕ} (w : BoundWithin bound len) where
  pub step_same : (o next arity : ℕ) → StandingAt bytes at (Sd.Standing.Operator o next) → head_is o (drop a xs) ≡ true → arity ≡ arity_in operators o →
      arity < 256 → length xs ≤ len → SymbolAgrees bytes at operators xs a len (binding bound) bound (taken arity next 1)
  step_same o next arity h e f m l =
      let i = head_inside o a xs e in
      record {
        arity = m;
        end = omega arith;
        bound_within = w;
        goes = goes_operator bytes operators _ at o next arity h f (λ ss. match_same (arity_in operators) o ss a xs (binding bound) e);
      }

module _ {bytes operators xs : List ℕ} {at a len k : ℕ} {bound : List ℕ} (size : k ≡ skip (arity_in operators) 1 (drop a xs)) where
  pub step_variable : (v next : ℕ) {b : Binding} {n : ℕ} → StandingAt bytes at (Sd.Standing.Variable v next) →
      VariableMet xs k v a len b bound (Some n) → SymbolAgrees bytes at operators xs a len b bound (taken 0 next n)
  step_variable v next h m =
      record {
        arity = omega arith;
        end = m.within.0;
        bound_within = m.within.1;
        goes = goes_variable bytes operators _ at v next h (λ ss. match_part (arity_in operators) v ss a xs _ _ _ (m.is (arity_in operators) size));
      }

  pub apart_at : (v next : ℕ) {b : Binding} → StandingAt bytes at (Sd.Standing.Variable v next) →
      VariableMet xs k v a len b bound None →
      AllAt bytes at operators (λ ss. match (arity_in operators) xs ss a (drop a xs) b ≡ flat.Match.differs)
  apart_at v next h m = all_variable bytes operators _ at v next h (λ ss. match_apart (arity_in operators) v ss a xs _ (m.is (arity_in operators) size))

-- THE REST OF A SIDE

module _ {bytes operators xs : List ℕ} {at due room a : ℕ} {b : Binding} where
  pub ended : (due ≡ 0) ⊎ (room ≡ 0) → RestMatched bytes at operators due room xs a b b (Some a)
  unfolding match
  ended e = record { is = λ ss s. rw (none_left bytes operators at due room ss s e) }

  pub stopped : {b' : Binding} → 0 < due → AllAt bytes at operators (λ ss. match (arity_in operators) xs ss a (drop a xs) b ≡ flat.Match.differs) →
      RestMatched bytes at operators due room xs a b b' None
  stopped d h = record { is = λ ss s. h due room ss d s }

  pub went : {bound : List ℕ} {len due' room' : ℕ} {t : T.Taken} {r : Option ℕ} {b'' : Binding} → 0 < due → SymbolAgrees bytes at operators xs a len b bound t →
      due' ≡ due - 1 + t.arity → room' ≡ room - 1 → RestMatched bytes t.next operators due' room' xs (a + t.size) (binding bound) b'' r →
      RestMatched bytes at operators due room xs a b b'' r
  went {due' = due'} {room' = room'} d h p q g =
      record { is = λ ss s. let (ss', k, e) = h.goes due room ss d s in e ∙ g.is ss' (k due' room' p q) }
