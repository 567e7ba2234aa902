-- The rules of a saved point (document 02, Change 11: "every symbol complete, every JOIN's count equal to its FORKs still to be carried out and its
-- unfinished EXITs together, every EXIT with one JOIN, every pending forked part placed later than the part that forked it, a unit idle exactly if it stands
-- in the idle queue and then with SLEEP or a JOIN of count above 0 on top, and what else is needed to run without fault"), each one testable on the state
-- alone. Marks may be false: nothing is said of them but that each symbol has one or none. Assumes nothing.
use Rattle.std.specs.Prelude.{true, false, List, [], ◌∷◌, ◌⊎◌, ◌≢◌, ◌≡◌, ℕ, zero, suc, ◌+◌, ◌<◌, ◌≤◌, get_or, length, drop}
use Rattle.paper.specs.Strategy.{Step}
use Rattle.paper.specs.Book.{Book, arity, steps}
use Rattle.paper.specs.Machine.{Limits, exceeds}
use Rattle.paper.specs.Sound.{In, All, Unnamed}
use Rattle.flat.specs.Symbols.{argument}
use Rattle.flat.specs.Sizes.{sizes}
use Rattle.flat.specs.Machine.{Frame, FlatState, unit, idle_count, next_count}
use Rattle.flat.specs.Relation.{Some}
use Rattle.flat.specs.Rules.{InGroup, AtJoin, forks_left, nth_frame, steps_left, jobs, jobs_at, exits_to, of_rank, upto, spells, Waits, stack, Placing}

-- how many arguments some steps name
unfoldable pub named : List Step → ℕ
named [] = 0
named (Step.visit i ∷ ss) = suc (named ss)
named (Step.fork i ∷ ss) = suc (named ss)
named (Step.join c ∷ ss) = named ss
named (Step.whole ∷ ss) = named ss

module _ (B : Book) (xs : List ℕ) where
  -- A job by itself: it is inside the term, with a next order. Before its VISIT its count is 0; then at most what its next JOIN was laid out with, and just that
  -- if a WHOLE comes first.
  abbrev pub Job : ℕ → ℕ → ℕ → Type 0
  Job a zero c = (a < length xs) × (c ≡ 0)
  Job a (suc k) c =
      let ss = drop k (steps B (get_or xs a 0)) in (a < length xs) × Some ss × (c ≤ next_count ss) × (InGroup ss ⊎ (c ≡ next_count ss))

  -- a is the offset of an argument of the frame's term, which the steps left don't name
  abbrev pub Taken : Frame → ℕ → Type 0
  Taken (Frame.job b zero c) a = ⊥
  Taken (Frame.job b (suc k) c) a =
      (x : ℕ) × (x < arity B (get_or xs b 0)) × (a ≡ argument (arity B) xs b x) × Unnamed x (drop k (steps B (get_or xs b 0)))
  Taken (Frame.exit w i) a = ⊥
  Taken Frame.sleep a = ⊥
  Taken Frame.bingo a = ⊥

  -- what the job at offset a stands on: the job whose argument it is, the EXIT of a part for whose JOIN's job that holds, or BINGO; the frame at a stack index of
  -- a unit is given
  abbrev pub Carries : (ℕ → ℕ → Frame) → ℕ → List Frame → Type 0
  Carries at a [] = ⊥
  Carries at a (Frame.job b k c ∷ fs) = Taken (Frame.job b k c) a
  Carries at a (Frame.exit w i ∷ fs) = Taken (at w i) a
  Carries at a (Frame.sleep ∷ fs) = ⊥
  Carries at a (Frame.bingo ∷ fs) = a ≡ 0

  -- what an EXIT stands on: SLEEP, or a job whose next order is a JOIN that was laid out with a count above 0
  abbrev pub Holds : List Frame → Type 0
  Holds [] = ⊥
  Holds (Frame.job a zero c ∷ fs) = ⊥
  Holds (Frame.job a (suc k) c ∷ fs) = let ss = drop k (steps B (get_or xs a 0)) in AtJoin ss × (1 ≤ next_count ss)
  Holds (Frame.exit w i ∷ fs) = ⊥
  Holds (Frame.sleep ∷ fs) = Unit {0}
  Holds (Frame.bingo ∷ fs) = ⊥

  -- the stack of unit v: each frame stands on such a frame, and last comes BINGO for unit 0, SLEEP for any other
  abbrev pub Stacked : (ℕ → ℕ → Frame) → ℕ → List Frame → Type 0
  Stacked at v [] = ⊥
  Stacked at v (Frame.job a k c ∷ fs) = Carries at a fs × Stacked at v fs
  Stacked at v (Frame.exit w i ∷ fs) = Holds fs × Stacked at v fs
  Stacked at v (Frame.sleep ∷ fs) = (fs ≡ []) × (1 ≤ v)
  Stacked at v (Frame.bingo ∷ fs) = (fs ≡ []) × (v ≡ 0)

-- the frame at a stack index of a unit
abbrev pub frame : FlatState → ℕ → ℕ → Frame
frame s v i = nth_frame i (stack s v)

pub record Meets (B : Book) (L : Limits) (s : FlatState) : Type 0 where
  -- every symbol is complete: the symbols are one term, within the limit, with true sizes and a mark or none for each
  pub complete : spells (arity B) 1 s.symbols ≡ true
  pub short : exceeds L.symbols (length s.symbols) ≡ false
  pub sizes : s.sizes ≡ sizes (arity B) s.symbols
  pub marks : length s.marks ≡ length s.symbols
  -- the budget isn't passed
  pub within : s.rewrites ≤ L.budget
  -- there is a unit
  pub some_unit : 1 ≤ length s.units
  -- each job by itself, and no two at one offset
  pub job : (v a k c : ℕ) → In (Frame.job a k c) (stack s v) → Job B s.symbols a k c
  pub distinct : (x units : ℕ) → upto (λ v. jobs_at x (stack s v)) units ≤ 1
  -- the stacks
  pub stacks : (v : ℕ) → v < length s.units → Stacked B s.symbols (frame s) v (stack s v)
  -- every EXIT has one JOIN: it names another unit, and there the stack index of a job with a JOIN before any WHOLE
  pub exits : (v w i : ℕ) → In (Frame.exit w i) (stack s v) → (w ≢ v) × (i < length (stack s w)) × InGroup (steps_left B s.symbols (frame s w i))
  -- every JOIN's count is that of its FORKs still to be carried out and its unfinished EXITs together
  pub counts : (u i a k c : ℕ) → i < length (stack s u) → frame s u i ≡ Frame.job a k c → InGroup (steps_left B s.symbols (Frame.job a k c)) →
      c ≡ forks_left (steps_left B s.symbols (Frame.job a k c)) + upto (λ v. exits_to u i (stack s v)) (length s.units)
  -- each EXIT can have an argument of its JOIN's job to itself: those still named, the one whose job stands on it, and its EXITs are together no more than all
  pub room : (u i a k c : ℕ) → i < length (stack s u) → frame s u i ≡ Frame.job a (suc k) c →
      named (drop k (steps B (get_or s.symbols a 0))) + jobs (frame s u (suc i) ∷ []) + upto (λ v. exits_to u i (stack s v)) (length s.units)
      ≤ arity B (get_or s.symbols a 0)
  -- every pending forked part is placed later than the part that forked it
  pub placing : Placing s
  -- a unit is idle exactly if it stands in the idle queue: the ranks of idle units are 1 up to how many they are, each once; and then with SLEEP or a JOIN of
  -- count above 0 on top
  pub ranked : (v : ℕ) → v < length s.units → (unit s.units v).rank ≤ idle_count s.units
  pub once : (r : ℕ) → 1 ≤ r → r ≤ idle_count s.units → of_rank r s.units ≡ 1
  pub idle : (v : ℕ) → 1 ≤ (unit s.units v).rank → Waits B s.symbols (stack s v)

-- of a point with its book, which has at most eight units: every symbol is one of the book's operators
pub record PointRules (B : Book) (L : Limits) (s : FlatState) : Type 0 where
  pub meets : Meets B L s
  pub known : All (λ o. o < length B.operators) s.symbols
  pub few_units : length s.units ≤ 8
