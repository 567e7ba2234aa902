-- The layout of a book's two tables: which element says what. `operators` has 4,352 bytes: the arity of operator o at o, the codes of its steps in
-- the 16 bytes from 256 + 16 * o on, 0 behind the last. `rules` has 512 numbers, in two columns of 256: the bit positions of each rule's left and of its
-- right side. A book has at most 255 rules; behind the columns stand the day and how many rules there are. Assumes nothing.
use Rattle.std.specs.Prelude.{List, [], ◌∷◌, ◌++◌, map, ◌≡◌, ℕ, ◌+◌, ◌-◌, ◌*◌, ◌≤◌, ◌<◌, eqb, ltb, length, get_or, take, drop, replicate, set}
use Rattle.std.proofs.Math.Option.{Option, none, some}
use Rattle.paper.specs.Result.{if}
use Rattle.paper.specs.Strategy.{Step}
use Rattle.tables.specs.declared.Step as D

-- STEPS

-- the code of a step
unfoldable pub code : Step → ℕ
code Step.whole = 1
code (Step.visit i) = 8 + i
code (Step.fork i) = 16 + i
code (Step.join c) = 24 + c

-- the step that a code stands for; 0 stands for none
unfoldable pub step_of : ℕ → Option Step
step_of c =
    if (eqb c 0) none
    (if (ltb c 8) (some Step.whole)
    (if (ltb c 16) (some (Step.visit (c - 8))) (if (ltb c 24) (some (Step.fork (c - 16))) (some (Step.join (c - 24))))))

-- the codes of steps, 0 behind the last
unfoldable pub row : List Step → List ℕ
unfolding code
row ss = map code ss ++ replicate (16 - length ss) 0

-- the steps of some codes, up to the first 0
unfoldable pub decode : List ℕ → List Step
unfolding step_of
decode [] = []
decode (c ∷ cs) = elim (step_of c) [ none ↦ [] | some s ↦ s ∷ decode cs ]

-- the code's step as the paper's
abbrev pub step : D.Step → Option Step
step D.Step.None = none
step D.Step.Whole = some Step.whole
step (D.Step.Visit i) = some (Step.visit i)
step (D.Step.Fork i) = some (Step.fork i)
step (D.Step.Join c) = some (Step.join c)

-- OPERATORS

abbrev pub arity_in : List ℕ → ℕ → ℕ
arity_in operators o = get_or operators o 0

-- the code of step k of operator o
abbrev pub code_in : List ℕ → ℕ → ℕ → ℕ
code_in operators o k = get_or operators (256 + 16 * o + k) 0

abbrev pub row_in : List ℕ → ℕ → List ℕ
row_in operators o = take 16 (drop (256 + 16 * o) operators)

-- the steps of operator o
unfoldable pub steps_in : List ℕ → ℕ → List Step
unfolding decode
steps_in operators o = decode (row_in operators o)

-- a step's number is below 8
abbrev pub Few : Step → Type 0
Few (Step.visit i) = i < 8
Few (Step.fork i) = i < 8
Few (Step.join c) = c < 8
Few Step.whole = Unit {0}

abbrev pub AllFew : List Step → Type 0
AllFew [] = Unit {0}
AllFew (s ∷ ss) = Few s × AllFew ss

-- the row of operator o holds at most 15 steps with numbers below 8, and 0 behind the last
pub record Rowed (operators : List ℕ) (o : ℕ) : Type 0 where
  pub is : row_in operators o ≡ row (steps_in operators o)
  pub short : length (steps_in operators o) ≤ 15
  pub few : AllFew (steps_in operators o)

-- the table with another row for operator o
unfoldable pub set_row : List ℕ → ℕ → List ℕ → List ℕ
set_row operators o r = take (256 + 16 * o) operators ++ (r ++ drop (256 + 16 * o + length r) operators)

-- RULES

-- where the sides of rule i stand in the book's bits
abbrev pub left_in : List ℕ → ℕ → ℕ
left_in rules i = get_or rules i 0

abbrev pub right_in : List ℕ → ℕ → ℕ
right_in rules i = get_or rules (256 + i) 0

-- the day whose rules these are, and how many they are
abbrev pub day_in : List ℕ → ℕ
day_in rules = get_or rules 255 0

abbrev pub count_in : List ℕ → ℕ
count_in rules = get_or rules 511 0

-- the sides of rule i are put
abbrev pub with_sides : List ℕ → ℕ → ℕ → ℕ → List ℕ
with_sides rules i left right = set (set rules i left) (256 + i) right

-- the day is put
abbrev pub with_day : List ℕ → ℕ → List ℕ
with_day rules day = set rules 255 day

-- their number is put
abbrev pub with_count : List ℕ → ℕ → List ℕ
with_count rules count = set rules 511 count
