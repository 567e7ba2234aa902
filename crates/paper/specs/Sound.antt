-- What reading a book ensures, and what keeps every order's position in the term and makes a finished part a normal form: strategies that name an
-- argument once and within the arity and are empty or end in 0, sides of the right arities, right variables that stand on the left. (Refusals 3, 4, 5
-- and 7 of document 01 and 'Strategies, settled'.) Assumes nothing.
use Rattle.std.specs.Prelude.{Bool, true, false, List, [], ◌∷◌, ◌⊎◌, ◌≢◌, ◌≡◌, ℕ, ◌<◌, length}
use Rattle.paper.specs.Tree.{label, preorder, Correct}
use Rattle.paper.specs.Strategy.{Item, Step}
use Rattle.paper.specs.Book.{Symbol, Rule, Book, arity, symbol_arity, strategy, steps}
use Rattle.paper.specs.Reader.{variables}

abbrev pub In : {A : Type 0} → A → List A → Type 0
In x [] = ⊥
In x (y ∷ ys) = (x ≡ y) ⊎ In x ys

abbrev pub All : {A : Type 0} → (A → Type 0) → List A → Type 0
All P [] = Unit {0}
All P (x ∷ xs) = P x × All P xs

-- the argument i is not named
abbrev pub Unnamed : ℕ → List Step → Type 0
Unnamed i [] = Unit {0}
Unnamed i (Step.visit j ∷ ss) = (i ≢ j) × Unnamed i ss
Unnamed i (Step.fork j ∷ ss) = (i ≢ j) × Unnamed i ss
Unnamed i (Step.join c ∷ ss) = Unnamed i ss
Unnamed i (Step.whole ∷ ss) = Unnamed i ss

-- no argument is named twice
abbrev pub Distinct : List Step → Type 0
Distinct [] = Unit {0}
Distinct (Step.visit j ∷ ss) = Unnamed j ss × Distinct ss
Distinct (Step.fork j ∷ ss) = Unnamed j ss × Distinct ss
Distinct (Step.join c ∷ ss) = Distinct ss
Distinct (Step.whole ∷ ss) = Distinct ss

-- every argument that is named is one of n
abbrev pub Within : ℕ → List Step → Type 0
Within n [] = Unit {0}
Within n (Step.visit i ∷ ss) = (i < n) × Within n ss
Within n (Step.fork i ∷ ss) = (i < n) × Within n ss
Within n (Step.join c ∷ ss) = Within n ss
Within n (Step.whole ∷ ss) = Within n ss

-- the list ends in 0, behind an item that is 0 or not
abbrev pub EndsAfter : Bool → List Item → Type 0
EndsAfter true [] = Unit {0}
EndsAfter false [] = ⊥
EndsAfter b (Item.whole ∷ is) = EndsAfter true is
EndsAfter b (Item.argument i ∷ is) = EndsAfter false is
EndsAfter b (Item.group js ∷ is) = EndsAfter false is

-- empty, or its last item is 0
abbrev pub EndsWhole : List Item → Type 0
EndsWhole = EndsAfter true

-- a symbol's operator is in the book
abbrev pub Known : Book → Symbol → Type 0
Known B (Symbol.operator o) = o < length B.operators
Known B (Symbol.variable v) = Unit {0}

abbrev pub IsOperator : Symbol → Type 0
IsOperator (Symbol.operator o) = Unit {0}
IsOperator (Symbol.variable v) = ⊥

pub record SoundRule (B : Book) (r : Rule) : Type 0 where
  pub left : Correct (symbol_arity B.operators) r.left
  pub right : Correct (symbol_arity B.operators) r.right
  pub left_known : All (Known B) (preorder r.left)
  pub right_known : All (Known B) (preorder r.right)
  pub root : IsOperator (label r.left)
  pub bound : (v : ℕ) → In v (variables (preorder r.right)) → In v (variables (preorder r.left))

pub record Sound (B : Book) : Type 0 where
  pub distinct : (o : ℕ) → Distinct (steps B o)
  pub within : (o : ℕ) → Within (arity B o) (steps B o)
  pub ends : (o : ℕ) → EndsWhole (strategy B o)
  pub rules : All (SoundRule B) B.rules
