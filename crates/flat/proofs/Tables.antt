-- Tables of a term's symbols: for each offset the job there, if there is one; which of its arguments the same unit has in work; when the part there was placed, if it
-- is one. Each rule speaks of one symbol and its arguments, of one frame and the frame above it, or of one pending part: the step between stacks and a ghost
-- term. Assumes nothing.
use mathlib.Core.Bool.{Bool, true, false}
use mathlib.Core.List.{List, [], ◌∷◌, ◌++◌, map}
use mathlib.Core.Option.{Option, none, some}
use mathlib.Core.Path.{◌≡◌}
use Prim.Native.Nat.{ℕ, zero, suc, ◌+◌, ◌<◌, ◌≤◌}
use lib.Dec.{eqb}
use lib.ListN.{length, drop}
use Rattle.paper.specs.Tree.{Forest, nil, cons, label, arguments, count, size, Position, subterm}
use Rattle.paper.specs.Strategy.{Step}
use Rattle.paper.specs.Book.{Term, Book, steps}
use Rattle.paper.specs.Machine.{Order}
use Rattle.paper.specs.Sound.{Unnamed}
use Rattle.flat.specs.Rules.{InGroup, forks_left, upto}
use Rattle.flat.specs.Relation.{Valid, offset, Placed, PlacedUnit, at, list_of}

-- no job; a job whose next order is its VISIT; a job with k of its steps done, the count of its next JOIN, and that JOIN's number
pub data Kind : Type 0 where
  resting : Kind
  fresh : Kind
  underway : ℕ → ℕ → ℕ → Kind

pub record Tables : Type 0 where
  -- the job at an offset
  pub kind : ℕ → Kind
  -- 0, or one more than the number of the argument that the job's own unit has in work
  pub active : ℕ → ℕ
  -- 0, or when the part at an offset was placed, the first being 1; the unit that took it; the number of its EXIT's JOIN
  pub stamp : ℕ → ℕ
  pub owner : ℕ → ℕ
  pub join : ℕ → ℕ
  -- the part that a job belongs to: when it was placed, the main part being 0
  pub part : ℕ → ℕ

-- a pending part: its position, and the number of its EXIT's JOIN
pub record Pending : Type 0 where
  pub position : Position
  pub number : ℕ

abbrev pub pending : Position → ℕ → Pending
pending q j = record { position = q; number = j }

-- 1 if not 0
unfoldable pub one : ℕ → ℕ
one zero = 0
one (suc n) = 1

-- pending parts among the terms that stand from offset b on
unfoldable pub lent_in : (ℕ → ℕ) → ℕ → Forest ℕ → ℕ
unfolding one
lent_in placed b nil = 0
lent_in placed b (cons x xs) = one (placed b) + lent_in placed (b + size x) xs

abbrev pub Works : Kind → Type 0
Works Kind.resting = ⊥
Works Kind.fresh = Unit {0}
Works (Kind.underway k c j) = Unit {0}

module _ (B : Book) (T : Tables) (t : Term) where
  abbrev pub at_place : Position → ℕ
  at_place p = offset p t

  -- THE SYMBOLS

  -- argument i of the job at p, whose next JOIN has number j, with the steps ss left. Lent: the part was placed later than the job's, its EXIT is for the job's
  -- JOIN, and it is not named again. In work by the same unit: not named again. Otherwise at rest.
  abbrev pub Argument : ℕ → Bool → ℕ → ℕ → ℕ → ℕ → List Step → Type 0
  Argument (suc n) b a a' j i ss = (T.part a < suc n) × (T.part a' ≡ suc n) × (T.join a' ≡ j) × Unnamed i ss
  Argument zero true a a' j i ss = Works (T.kind a') × (T.part a' ≡ T.part a) × Unnamed i ss
  Argument zero false a a' j i ss = T.kind a' ≡ Kind.resting

  abbrev pub ArgumentAt : Position → ℕ → ℕ → List Step → Type 0
  ArgumentAt p i j ss = let a' = at_place (p ++ (i ∷ [])) in Argument (T.stamp a') (eqb (T.active (at_place p)) (suc i)) (at_place p) a' j i ss

  -- where no job is, or one that is still to be visited, no argument is in work or lent; x is the term at p
  abbrev pub Bare : Position → Term → Type 0
  Bare p x = (i : ℕ) → i < count (arguments x) → (T.stamp (at_place (p ++ (i ∷ []))) ≡ 0) × (T.kind (at_place (p ++ (i ∷ []))) ≡ Kind.resting)

  -- a job's count is its FORKs before the next JOIN and its pending parts together; with pending parts, a JOIN comes before any WHOLE
  abbrev pub SymbolOf : Kind → Position → Term → Type 0
  SymbolOf Kind.resting p x = Bare p x
  SymbolOf Kind.fresh p x = Bare p x
  SymbolOf (Kind.underway k c j) p x =
      let ss = drop k (steps B (label x)) in
      let n = lent_in T.stamp (suc (at_place p)) (arguments x) in
      (c ≡ forks_left ss + n) × (1 ≤ n → InGroup ss) × ((i : ℕ) → i < count (arguments x) → ArgumentAt p i j ss)

  abbrev pub SymbolAt : Position → Type 0
  SymbolAt p = SymbolOf (T.kind (at_place p)) p (subterm p t)

  -- THE STACKS

  -- the job at p, and the job on it in its part, if there is one
  abbrev pub Links : Option Position → Position → Type 0
  Links none p = T.active (at_place p) ≡ 0
  Links (some q) p = (x : ℕ) × (q ≡ p ++ (x ∷ [])) × (T.active (at_place p) ≡ suc x) × (T.stamp (at_place q) ≡ 0) × (x < count (arguments (subterm p t)))

  -- the part at q, and the job on its EXIT or on BINGO, if there is one
  abbrev pub Begins : Option Position → Position → Type 0
  Begins none q = T.kind (at_place q) ≡ Kind.resting
  Begins (some p) q = p ≡ q

  -- of unit v: each frame under the one above it
  abbrev pub Stands : ℕ → Option Position → List Placed → Type 0
  Stands v up [] = ⊥
  Stands v up (Placed.job p o zero c j ∷ gs) = (up ≡ none) × (T.kind (at_place p) ≡ Kind.fresh) × Stands v (some p) gs
  Stands v up (Placed.job p o (suc k) c j ∷ gs) = Links up p × (T.kind (at_place p) ≡ Kind.underway k c j) × Stands v (some p) gs
  Stands v up (Placed.exit w i q j ∷ gs) = Begins up q × Stands v none gs
  Stands v up (Placed.sleep ∷ gs) = (gs ≡ []) × (up ≡ none) × (1 ≤ v)
  Stands v up (Placed.bingo ∷ gs) = (gs ≡ []) × (v ≡ 0) × Begins up []

  -- THE ORDER OF PLACING

  -- parts that were placed before n
  abbrev pub Before : ℕ → List Pending → Type 0
  Before n [] = Unit {0}
  Before n (x ∷ xs) = (T.stamp (at_place x.position) < n) × Before n xs

  -- the pending parts, the latest first, each of a unit
  abbrev pub Ordered : ℕ → List Pending → Type 0
  Ordered units [] = Unit {0}
  Ordered units (x ∷ xs) =
      let a = at_place x.position in
      Valid x.position t × (1 ≤ T.stamp a) × (T.join a ≡ x.number) × (T.owner a < units) × Before (T.stamp a) xs × Ordered units xs

  -- how many of them are at an offset
  unfoldable pub listed : ℕ → List Pending → ℕ
  unfolding offset
  listed b [] = 0
  listed b (x ∷ xs) = elim (eqb (at_place x.position) b) [ true ↦ suc (listed b xs) | false ↦ listed b xs ]

  -- those of unit v
  unfoldable pub of_unit : ℕ → List Pending → List Pending
  unfolding offset
  of_unit v [] = []
  of_unit v (x ∷ xs) = elim (eqb v (T.owner (at_place x.position))) [ true ↦ x ∷ of_unit v xs | false ↦ of_unit v xs ]

-- the pending parts whose EXITs are on a stack, from the top
unfoldable pub exits_of : List Placed → List Pending
exits_of [] = []
exits_of (Placed.job p o k c j ∷ gs) = exits_of gs
exits_of (Placed.exit w i q j ∷ gs) = pending q j ∷ exits_of gs
exits_of (Placed.sleep ∷ gs) = exits_of gs
exits_of (Placed.bingo ∷ gs) = exits_of gs

-- JOINs numbered k in a list of orders; JOINs, FORKs and EXITs of that number
unfoldable pub joins_at : ℕ → List Order → ℕ
joins_at k [] = 0
joins_at k (Order.visit p ∷ os) = joins_at k os
joins_at k (Order.fork p j ∷ os) = joins_at k os
joins_at k (Order.join j c ∷ os) = elim (eqb k j) [ true ↦ suc (joins_at k os) | false ↦ joins_at k os ]
joins_at k (Order.exit p j ∷ os) = joins_at k os
joins_at k (Order.whole p n ∷ os) = joins_at k os
joins_at k (Order.sleep ∷ os) = joins_at k os
joins_at k (Order.bingo ∷ os) = joins_at k os

unfoldable pub mentions_at : ℕ → List Order → ℕ
mentions_at k [] = 0
mentions_at k (Order.visit p ∷ os) = mentions_at k os
mentions_at k (Order.fork p j ∷ os) = elim (eqb k j) [ true ↦ suc (mentions_at k os) | false ↦ mentions_at k os ]
mentions_at k (Order.join j c ∷ os) = elim (eqb k j) [ true ↦ suc (mentions_at k os) | false ↦ mentions_at k os ]
mentions_at k (Order.exit p j ∷ os) = elim (eqb k j) [ true ↦ suc (mentions_at k os) | false ↦ mentions_at k os ]
mentions_at k (Order.whole p n ∷ os) = mentions_at k os
mentions_at k (Order.sleep ∷ os) = mentions_at k os
mentions_at k (Order.bingo ∷ os) = mentions_at k os

-- THE RULES of the tables for the units U, the parts of the order of placing being those of the units placed
pub record Tabled (B : Book) (t : Term) (U : List PlacedUnit) (placed : List ℕ) : Type 0 where
  pub tables : Tables
  -- the pending parts in the order in which they were placed, the latest first
  pub order : List Pending
  -- no JOIN's number stands twice, and those from next on are new
  pub next : ℕ
  pub once : (k : ℕ) → upto (λ v. joins_at k (list_of B (at U v).frames)) (length U) ≤ 1
  pub fresh : (k : ℕ) → next ≤ k → upto (λ v. mentions_at k (list_of B (at U v).frames)) (length U) ≡ 0
  -- the rule of each symbol, and the stacks as the tables say; the main part is nobody's
  pub symbol : (p : Position) → Valid p t → SymbolAt B tables t p
  pub stands : (v : ℕ) → Stands B tables t v none (at U v).frames
  pub main : (tables.stamp 0 ≡ 0) × (tables.part 0 ≡ 0)
  -- the order of placing is that of the tables, has each pending part once, and each stack's EXITs from the top
  pub ordered : Ordered B tables t (length U) order
  pub found : (b : ℕ) → listed B tables t b order ≡ one (tables.stamp b)
  pub by_unit : (v : ℕ) → of_unit B tables t v order ≡ exits_of (at U v).frames
  pub takers : map (λ x. tables.owner (offset x.position t)) order ≡ placed
