-- Laws of the line's check: a symbol at a time, and that it answers what the paper's reader of a line answers, for any book with these operators
-- and arities. Assumes nothing.
use mathlib.Core.Bool.{Bool, true, false}
use mathlib.Core.List.{List, [], ◌∷◌}
use mathlib.Core.Option.{Option, none, some}
use mathlib.Core.Path.{◌≡◌, refl, sym, ap, ◌∙◌}
use Prim.Native.Nat.{ℕ, zero, suc, ◌+◌, ◌-◌, ◌≤◌, ◌<◌}
use native.Mathlib.Numerals.{add-one}
use native.Mathlib.Omega.{arith}
use lib.Dec.{ltb}
use lib.ListN.{length, get_or, drop, drop_of_length-le}
use lib.Seq.{drop-cons}
use borrow.Author.Tests.{lt-ltb, le-ltb, ltb-true, ltb-false}
use Rattle.paper.specs.Result.{Result, refused, accepted, if}
use Rattle.paper.specs.Tree.{node, trees}
use Rattle.paper.specs.Book.{Term, Book, arity}
use Rattle.paper.specs.Sound.{All}
use Rattle.paper.specs.Line.{symbol_limit, line_fault, unless_fault, read_line}
use Rattle.tables.specs.Layout.{arity_in}
use Rattle.tables.specs.Tables.{Operators}
use Rattle.line.specs.Line.{fault, judgement, verdict}

-- the check of the line l from byte i on, by cases
module _ (n : ℕ) (arity : ℕ → ℕ) (l : List ℕ) (i : ℕ) where
  pub fault_whole : (due : ℕ) → length l ≤ i → due ≡ 0 → fault n arity due (drop i l) ≡ none
  unfolding fault
  fault_whole due h z = rw (drop_of_length-le l h, z)

  pub fault_short : (due : ℕ) → length l ≤ i → (due ≡ 0 → ⊥) → fault n arity due (drop i l) ≡ some 10
  unfolding fault
  fault_short zero h z = absurd (z refl)
  fault_short (suc due) h z = rw (drop_of_length-le l h)

  pub fault_over : (due : ℕ) → i < length l → due ≡ 0 → fault n arity due (drop i l) ≡ some 10
  unfolding fault
  fault_over due h z = rw (drop-cons l i 0, z)

  pub fault_unknown : (due : ℕ) → i < length l → (due ≡ 0 → ⊥) → n ≤ get_or l i 0 → fault n arity due (drop i l) ≡ some 11
  unfolding fault
  fault_unknown zero h z u = absurd (z refl)
  fault_unknown (suc due) h z u = rw (drop-cons l i 0) (rw (le-ltb (get_or l i 0) n u, fault))

  pub fault_known : (due due' : ℕ) → i < length l → (due ≡ 0 → ⊥) → get_or l i 0 < n → due' ≡ due - 1 + arity (get_or l i 0) →
      fault n arity due (drop i l) ≡ fault n arity due' (drop (i + 1) l)
  unfolding fault
  fault_known zero due' h z k f = absurd (z refl)
  fault_known (suc due) due' h z k f =
      rw (drop-cons l i 0, add-one) (rw (lt-ltb (get_or l i 0) n k, fault) (ap (λ (d : ℕ). fault n arity d (drop (suc i) l)) (omega arith)))

-- a line without fault has known symbols, and not too many
fault_known_all : (n : ℕ) (arity : ℕ → ℕ) (due : ℕ) (line : List ℕ) → fault n arity due line ≡ none → All (λ o. o < n) line
unfolding fault
fault_known_all n arity due [] e = tt
fault_known_all n arity zero (o ∷ os) e = let z : ◌≡◌ {A = ℕ} 0 1 = cc in absurd (omega arith)
fault_known_all n arity (suc due) (o ∷ os) e = go (ltb o n) refl (λ d. fault_known_all n arity d os) e
  where
    go : (b : Bool) → ltb o n ≡ b → ((d : ℕ) → fault n arity d os ≡ none → All (λ o. o < n) os) →
        ◌≡◌ {A = Option ℕ} (elim b as (λ z. Option ℕ) [ true ↦ fault n arity (arity o + due) os | false ↦ some 11 ]) none → All (λ o. o < n) (o ∷ os)
    go true t rest f = (ltb-true o n t, rest (arity o + due) f)
    go false t rest f = let z : ◌≡◌ {A = ℕ} 0 1 = cc in absurd (omega arith)

pub sound_known : (n : ℕ) (arity : ℕ → ℕ) (line : List ℕ) → judgement n arity line ≡ none → All (λ o. o < n) line × (length line ≤ 1024)
unfolding judgement
sound_known n arity line e = go (ltb symbol_limit (length line)) refl e
  where
    go : (b : Bool) → ltb symbol_limit (length line) ≡ b → if b (some 12) (fault n arity 1 line) ≡ none → All (λ o. o < n) line × (length line ≤ 1024)
    go true t h = let z : ◌≡◌ {A = ℕ} 0 1 = cc in absurd (omega arith)
    go false t h = (fault_known_all n arity 1 line h, ltb-false symbol_limit (length line) t)

module _ (B : Book) {n : ℕ} {operators : List ℕ} (count : length B.operators ≡ n) (t : Operators B.operators operators) where
  -- the paper's line_fault depends on the book only through the number of operators and their arities
  pub fault_paper : (due : ℕ) (line : List ℕ) → fault n (arity_in operators) due line ≡ line_fault B due line
  unfolding fault line_fault
  fault_paper zero [] = refl
  fault_paper zero (o ∷ os) = refl
  fault_paper (suc due) [] = refl
  fault_paper (suc due) (o ∷ os) = go (ltb o n) refl (λ k. fault_paper k os)
    where
      go : (b : Bool) → ltb o n ≡ b → ((k : ℕ) → fault n (arity_in operators) k os ≡ line_fault B k os) →
          fault n (arity_in operators) (suc due) (o ∷ os) ≡ line_fault B (suc due) (o ∷ os)
      go true e rest =
          rw (count, e, fault, line_fault)
          (ap (λ (k : ℕ). fault n (arity_in operators) (k + due) os) (t.each o (let l = ltb-true o n e in omega arith)).arity_is ∙ rest (arity B o + due))
      go false e rest = rw (count, e, fault, line_fault)

  fault_verdict : (f : Option ℕ) (x : Term) → f ≡ verdict (unless_fault f x)
  unfolding unless_fault
  fault_verdict none x = refl
  fault_verdict (some r) x = refl

  -- the check answers what the paper's reader answers
  pub judgement_paper : (line : List ℕ) → judgement n (arity_in operators) line ≡ verdict (read_line B line)
  unfolding judgement read_line
  judgement_paper [] = refl
  judgement_paper (o ∷ os) = go (ltb symbol_limit (length (o ∷ os))) refl
    where
      go : (b : Bool) → ltb symbol_limit (length (o ∷ os)) ≡ b → judgement n (arity_in operators) (o ∷ os) ≡ verdict (read_line B (o ∷ os))
      go true e = rw e
      go false e = rw e (fault_paper 1 (o ∷ os) ∙ fault_verdict (line_fault B 1 (o ∷ os)) (node o (trees (arity B) os)))

  pub sound_accepted : (line : List ℕ) → judgement n (arity_in operators) line ≡ none → (x : Term) × (read_line B line ≡ accepted x)
  sound_accepted line e = go (read_line B line) refl (sym (judgement_paper line) ∙ e)
    where
      go : (a : Result Term) → read_line B line ≡ a → verdict a ≡ none → (x : Term) × (read_line B line ≡ accepted x)
      go (refused r) p q = let z : ◌≡◌ {A = ℕ} 0 1 = cc in absurd (omega arith)
      go (accepted x) p q = (x, p)

  pub refused_refused : (line : List ℕ) (r : ℕ) → judgement n (arity_in operators) line ≡ some r → read_line B line ≡ refused r
  refused_refused line r e = go (read_line B line) refl (sym (judgement_paper line) ∙ e)
    where
      go : (a : Result Term) → read_line B line ≡ a → verdict a ≡ some r → read_line B line ≡ refused r
      go (refused s) p q = let z : s ≡ r = cc in p ∙ ap refused z
      go (accepted x) p q = let z : ◌≡◌ {A = ℕ} 0 1 = cc in absurd (omega arith)
