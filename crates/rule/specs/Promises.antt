-- What the functions on packed rules ask and ensure, by the definitions on lists of symbols. Assumes nothing.
use Rattle.std.specs.Prelude.{Bool, true, false, Option, Some, None, List, [], ◌∷◌, ◌≡◌, ℕ, ◌+◌, ◌≤◌, ◌<◌, eqb, length, get_or, take, drop}
use Rattle.paper.specs.Tree.{label, preorder}
use Rattle.paper.specs.Book.{Symbol, Side, Rule, Book, arity}
use Rattle.paper.specs.Sound.{All, IsOperator}
use Rattle.flat.specs.Symbols as flat
use Rattle.flat.specs.Symbols.{Binding, blank, skip, meet, match, rewrite}
use Rattle.flat.specs.Sizes as flat_sizes
use Rattle.side.specs.Promises.{StandingAt}
use Rattle.side.specs.declared.Standing as Sd
use Rattle.symbol.specs.Record.{operators, sizes}
use Rattle.tables.specs.Layout.{arity_in, left_in}
use Rattle.tables.specs.Tables.{rule_at}
use Rattle.rule.specs.Packed.{Stands, SideAt, Goes, AllAt, binding, BindsWithin, BoundTerm}
use Rattle.rule.specs.declared.Match as M
use Rattle.rule.specs.declared.Taken as T

-- WHAT IS THERE BEFORE

-- the first len of 1024 symbols are in use, with true sizes, and a is an offset in them or the one behind them
pub record OffsetIn (arity : ℕ → ℕ) (symbols : List ℕ) (len a : ℕ) : Type 0 where
  pub long : length symbols ≡ 1024
  pub most : len ≤ 1024
  pub true_sizes : sizes (take len symbols) ≡ flat_sizes.sizes arity (operators (take len symbols))
  pub inside : a ≤ len

-- how many of the first len symbols the term has that begins at offset a
abbrev pub part_size : List ℕ → ℕ → ℕ → ℕ
part_size symbols len a = get_or (sizes (take len symbols)) a 0

-- that term is among them
pub record PartIn (symbols : List ℕ) (len a : ℕ) : Type 0 where
  pub long : length symbols ≡ 1024
  pub most : len ≤ 1024
  pub inside : a + part_size symbols len a ≤ len

-- an array of 16 variables' starts and sizes holds the binding b
pub record HoldsBinding (bound : List ℕ) (b : Binding) : Type 0 where
  pub is : binding bound ≡ b
  pub long : length bound ≡ 32

-- it holds a binding within the first len symbols
pub record BoundWithin (bound : List ℕ) (len : ℕ) : Type 0 where
  pub within : BindsWithin (binding bound) len
  pub long : length bound ≡ 32

-- MATCHING

-- is o the first symbol?
unfoldable pub head_is : ℕ → List ℕ → Bool
head_is o [] = false
head_is o (x ∷ xs) = eqb o x

-- the first symbol; 256, which is none, where there is none
unfoldable pub head_or : List ℕ → ℕ
head_or [] = 256
head_or (x ∷ xs) = x

-- an operator other than x stands at a position
abbrev pub OtherStands : List ℕ → ℕ → ℕ → Bool → Type 0
OtherStands bytes at x true = (o : ℕ) × (next : ℕ) × (o < 256) × (o ≡ x → ⊥) × StandingAt bytes at (Sd.Standing.Operator o next)
OtherStands bytes at x false = Unit {0}

abbrev pub found : Option ℕ → Binding → flat.Match
found (Some e) b = flat.Match.agrees b e
found None b = flat.Match.differs

-- where r agrees, it binds and ends within the first len symbols
abbrev pub AgreesWithin : ℕ → Binding → Option ℕ → Type 0
AgreesWithin len b (Some e) = BindsWithin b len × (e ≤ len)
AgreesWithin len b None = Unit

abbrev pub meeting : Option ℕ → Binding → flat.Meeting
meeting (Some n) b = flat.Meeting.part n b
meeting None b = flat.Meeting.other

-- where r is a part at offset a, it ends within the first len symbols, and so does all that is bound
abbrev pub PartWithin : ℕ → ℕ → List ℕ → Option ℕ → Type 0
PartWithin a len bound (Some n) = (a + n ≤ len) × BoundWithin bound len
PartWithin a len bound None = Unit

-- the variable v against the symbols of xs from offset a on, where a term of n symbols begins, with the binding b so far
pub record VariableMet (xs : List ℕ) (n v a len : ℕ) (b : Binding) (bound : List ℕ) (r : Option ℕ) : Type 0 where
  pub is : (arity : ℕ → ℕ) → n ≡ skip arity 1 (drop a xs) → meet arity xs (b v).size v a (drop a xs) b ≡ meeting r (binding bound)
  pub within : PartWithin a len bound r

-- one symbol against those of xs from offset a on, with the binding b so far
pub record SymbolAgrees (bytes : List ℕ) (at : ℕ) (operators xs : List ℕ) (a len : ℕ) (b : Binding) (bound : List ℕ) (t : T.Taken) : Type 0 where
  pub arity : t.arity < 256
  pub end : a + t.size ≤ len
  pub bound_within : BoundWithin bound len
  pub goes : Goes bytes at operators
      (λ ss ss'. match (arity_in operators) xs ss a (drop a xs) b ≡ match (arity_in operators) xs ss' (a + t.size) (drop (a + t.size) xs) (binding bound))
      t.arity t.next

abbrev pub SymbolMatched : List ℕ → ℕ → List ℕ → List ℕ → ℕ → ℕ → Binding → List ℕ → Option T.Taken → Type 0
SymbolMatched bytes at operators xs a len b bound (Some t) = SymbolAgrees bytes at operators xs a len b bound t
SymbolMatched bytes at operators xs a len b bound None =
    AllAt bytes at operators (λ ss. match (arity_in operators) xs ss a (drop a xs) b ≡ flat.Match.differs)

-- r and the binding b' answer for the symbols at a position, against those of xs from offset a on, with the binding b so far
pub record RestMatched (bytes : List ℕ) (at : ℕ) (operators : List ℕ) (due room : ℕ) (xs : List ℕ) (a : ℕ) (b b' : Binding) (r : Option ℕ) : Type 0 where
  pub is : (ss : List Symbol) → Stands bytes at operators due room ss → match (arity_in operators) xs ss a (drop a xs) b ≡ found r b'

-- RULES

-- a left side, whose root is an operator
pub record LeftAt (bytes : List ℕ) (operators : List ℕ) (at : ℕ) (side : Side) : Type 0 where
  pub stands : SideAt bytes at operators side
  pub root : IsOperator (label side)

-- what the tables say of the left sides of the rules rs
pub record Lefts (bytes operators rules : List ℕ) (rs : List Rule) : Type 0 where
  pub each : (i : ℕ) → i < length rs → LeftAt bytes operators (left_in rules i) (rule_at rs i).left
  pub few : length rs < 256

-- under the root of the term at offset a stand due arguments, the first of which begins with x
pub record UnderRoot (operators xs : List ℕ) (a x due : ℕ) : Type 0 where
  pub inside : a < length xs
  pub second : x ≡ head_or (drop (a + 1) xs)
  pub arguments : due ≡ arity_in operators (get_or xs a 0)
  pub few : due < 256

-- r and the binding b answer for a left side at a position, if its root is the term's
pub record LeftTried (bytes : List ℕ) (at : ℕ) (operators xs : List ℕ) (a len : ℕ) (b : Binding) (r : Option ℕ) : Type 0 where
  pub is : (side : Side) → SideAt bytes at operators side → label side ≡ Symbol.operator (get_or xs a 0) →
      match (arity_in operators) xs (preorder side) a (drop a xs) blank ≡ found r b
  pub within : AgreesWithin len b r

-- a match of rule i's left side
abbrev pub tries : List ℕ → List Rule → ℕ → ℕ → List ℕ → flat.Match
tries operators rs i a xs = match (arity_in operators) xs (preorder (rule_at rs i).left) a (drop a xs) blank

-- the rules below i differ
abbrev pub Passed : List ℕ → List Rule → ℕ → ℕ → List ℕ → Type 0
Passed operators rs i a xs = (j : ℕ) → j < i → tries operators rs j a xs ≡ flat.Match.differs

-- m is the first rule of the book B that matches, with the binding b, within the first len symbols
pub record RuleFound (B : Book) (operators : List ℕ) (a : ℕ) (xs : List ℕ) (len : ℕ) (b : Binding) (m : M.Match) : Type 0 where
  pub below : m.rule < length B.rules
  pub passed : Passed operators B.rules m.rule a xs
  pub agrees : tries operators B.rules m.rule a xs ≡ flat.Match.agrees b m.end
  pub is : rewrite (arity B) B.rules a xs ≡ flat.Hit.hit (preorder (rule_at B.rules m.rule).right) b m.end
  pub within : BindsWithin b len
  pub end : m.end ≤ len
  -- each variable of its right side is bound to a term
  pub terms : All (BoundTerm (arity_in operators) xs b) (preorder (rule_at B.rules m.rule).right)

-- none of its rules matches
pub record NoneFound (B : Book) (operators : List ℕ) (a : ℕ) (xs : List ℕ) : Type 0 where
  pub passed : Passed operators B.rules (length B.rules) a xs
  pub is : rewrite (arity B) B.rules a xs ≡ flat.Hit.miss

abbrev pub SearchAnswers : Book → List ℕ → ℕ → List ℕ → ℕ → Binding → Option M.Match → Type 0
SearchAnswers B operators a xs len b (Some m) = RuleFound B operators a xs len b m
SearchAnswers B operators a xs len b None = NoneFound B operators a xs
