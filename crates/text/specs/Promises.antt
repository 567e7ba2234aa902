-- What the functions of a payee's text ensure (document 02, Change 1). Assumes nothing.
use Rattle.std.specs.Prelude.{Option, Some, None, Ok, Err, Bool, true, false, List, [], ◌∷◌, ◌++◌, ◌≡◌, ℕ, suc, ◌+◌, ◌≤◌, ◌<◌, length, get_or, drop}
use Rattle.std.specs.Prelude.{Result as Answer}
use Rattle.std.proofs.Math.Option.{none, some}
use Rattle.std.proofs.lemmas.List.Edits.{sets}
use Rattle.paper.specs.Text as T
use Rattle.paper.specs.Text.{class, squeezed, text_fault}
use Rattle.refusal.specs.declared.Refusal.{Refusal}
use Rattle.refusal.specs.Numbers.{number}

-- a table of the bytes' classes
pub record Classed (classes : List ℕ) : Type 0 where
  pub at : (b : ℕ) → b < 256 → get_or classes b 0 ≡ class b

-- a letter or digit of class c, with a gap in front of it or without
abbrev pub added : Bool → ℕ → List ℕ
added true c = T.gap ∷ c ∷ []
added false c = c ∷ []

-- it is put behind k symbols, or there would be too many
abbrev pub PutIs : ℕ → Bool → ℕ → List ℕ → List ℕ → Option ℕ → Type 0
PutIs k gap c symbols symbols' (Some m) = (m < 1024) × (m ≡ k + length (added gap c)) × (symbols' ≡ sets symbols k (added gap c))
PutIs k gap c symbols symbols' None = 1024 ≤ k + length (added gap c)

pub record Put (k : ℕ) (gap : Bool) (c : ℕ) (symbols symbols' : List ℕ) (r : Option ℕ) : Type 0 where
  pub long : length symbols' ≡ 1024
  pub is : PutIs k gap c symbols symbols' r

-- the text's squeezed classes are put, the other symbols as they were, or there would be too many
abbrev pub FilledIs : List ℕ → List ℕ → List ℕ → Option ℕ → Type 0
FilledIs text symbols symbols' (Some m) = (m < 1024) × (m ≡ length (squeezed text)) × (symbols' ≡ squeezed text ++ drop m symbols)
FilledIs text symbols symbols' None = 1024 ≤ length (squeezed text)

pub record Filled (text symbols symbols' : List ℕ) (r : Option ℕ) : Type 0 where
  pub long : length symbols' ≡ 1024
  pub is : FilledIs text symbols symbols' r

-- a text without fault is m symbols, `end` last; the others are as they were
pub record Taken (n : ℕ) (arity : ℕ → ℕ) (text symbols symbols' : List ℕ) (m : ℕ) : Type 0 where
  pub sound : text_fault n arity text ≡ none
  pub count : m ≡ suc (length (squeezed text))
  pub symbols_are : symbols' ≡ (squeezed text ++ (0 ∷ [])) ++ drop m symbols

abbrev pub Answered : ℕ → (ℕ → ℕ) → List ℕ → List ℕ → List ℕ → Answer ℕ Refusal → Type 0
Answered n arity text symbols symbols' (Ok m) = Taken n arity text symbols symbols' m
Answered n arity text symbols symbols' (Err e) = text_fault n arity text ≡ some (number e)

pub record TextRead (n : ℕ) (arity : ℕ → ℕ) (text symbols symbols' : List ℕ) (r : Answer ℕ Refusal) : Type 0 where
  pub answered : Answered n arity text symbols symbols' r
  pub long : length symbols' ≡ 1024
