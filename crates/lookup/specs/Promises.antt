-- What the search of a net asks and ensures: its answer is that of trying the rules in book order (rule/specs/Promises, SearchAnswers). Assumes nothing.
use Rattle.std.specs.Prelude.{true, Option, Some, None, List, ◌++◌, ◌⊎◌, ◌≡◌, ℕ, zero, suc, ◌+◌, ◌-◌, ◌*◌, ◌/◌, ◌%◌, ◌^◌, ◌≤◌, ◌<◌, eqb, length, get_or, take}
use Rattle.std.specs.Option.{is_none, option_map}
use Rattle.paper.specs.Tree.{preorder}
use Rattle.paper.specs.Book.{Symbol, Rule, arity}
use Rattle.paper.specs.Result.{if}
use Rattle.paper.specs.Sound.{All}
use Rattle.paper.specs.WellFormed.{GoodBook}
use Rattle.paper.specs.Writer.{write_symbol}
use Rattle.flat.specs.Symbols as flat
use Rattle.flat.specs.Symbols.{Binding}
use Rattle.side.specs.Promises.{bits_at, NumberFits}
use Rattle.tables.specs.Layout.{arity_in}
use Rattle.tables.specs.Tables.{Stand, rule_at}
use Rattle.term.specs.Present.{length_in, operators_in, Sized}
use Rattle.rule.specs.Promises.{LeftTried, tries}
use Rattle.rule.specs.Packed.{binding}
use Rattle.rule.specs.declared.Match as M
use Rattle.net.specs.Layout.{published, number, left_of, way_in, Chained}
use Rattle.net.specs.Net.{key, part, path, Same, Leads, Net, book_by, NetOf}
use Rattle.lookup.specs.Walk.{width, symbol_in, size_in, behind, Agree}
use Rattle.lookup.specs.declared.Spot.{Spot}
use Rattle.lookup.specs.declared.Descent as De
use Rattle.lookup.specs.declared.Turn.{Turn}
use Rattle.lookup.specs.declared.Best as Be

-- WHAT IS THERE BEFORE

-- a book's operators and the net of its rules, and the present term, whose symbols are its operators, with their sizes; a is an offset in it
pub record Present (bytes operators net symbols : List ℕ) (a : ℕ) : Type 0 where
  pub netted : NetOf bytes operators net
  pub short : length bytes ≤ 2 ^ 60
  pub sized : Sized (arity_in operators) symbols
  pub inside : a < length_in symbols
  pub known : All (λ o. o < length (book_by bytes net).operators) (operators_in symbols)

abbrev pub rules_by : List ℕ → List ℕ → List Rule
rules_by bytes net = (book_by bytes net).rules

abbrev pub path_by : List ℕ → List ℕ → ℕ → List ℕ
path_by bytes net = path (rules_by bytes net)

-- the same by the book alone
pub record Ready (bytes net symbols : List ℕ) (a : ℕ) : Type 0 where
  pub is : Net net (path_by bytes net) (length (rules_by bytes net))
  pub good : GoodBook (book_by bytes net)
  pub lefts : (i : ℕ) → i < length (rules_by bytes net) → Stand bytes (left_of net i) (preorder (rule_at (rules_by bytes net) i).left)
  pub short : length bytes ≤ 2 ^ 60
  pub sized : Sized (arity (book_by bytes net)) symbols
  pub inside : a < length_in symbols
  pub known : All (λ o. o < length (book_by bytes net).operators) (operators_in symbols)

-- NODES

-- the key of the symbol that is written at a position, whichever it is
pub record KeyAt (bytes : List ℕ) (at r : ℕ) : Type 0 where
  pub is : (s : Symbol) (rest : List ℕ) → NumberFits s → bits_at bytes at ≡ write_symbol s ++ rest → r ≡ key s

-- the number of the rule behind the branch of key k at a depth of rule i's path, where this goes on by the key own
unfoldable pub branch_in : List ℕ → ℕ → ℕ → ℕ → ℕ → ℕ
unfolding way_in
branch_in net i d own k = if (eqb own k) (suc i) (way_in net i d k)

-- numbers that fit
pub record Small (net : List ℕ) (s : Spot) : Type 0 where
  pub long : published ≤ length net
  pub chained : Chained net
  pub rule : s.rule < 255
  pub depth : s.depth < 64
  pub at : s.at < 577
  pub offset : s.offset < 1024

-- r answers for the branch of key k, whose symbol has w bits and takes n symbols of the term
abbrev pub Stepped : List ℕ → Spot → ℕ → ℕ → ℕ → ℕ → Option Spot → Type 0
Stepped net s own k w n None = branch_in net s.rule s.depth own k ≡ 0
Stepped net s own k w n (Some t) =
    (branch_in net s.rule s.depth own k ≡ suc t.rule) × (t.depth ≡ s.depth + 1) × (t.at ≡ s.at + w) × (t.offset ≡ s.offset + n)

abbrev pub BySymbol : List ℕ → List ℕ → Spot → ℕ → Option Spot → Type 0
BySymbol net symbols s own r = Stepped net s own (symbol_in symbols s.offset) 9 1 r

abbrev pub ByPart : List ℕ → List ℕ → Spot → ℕ → Option Spot → Type 0
ByPart net symbols s own r = Stepped net s own part 5 (size_in symbols s.offset) r

-- by the part where the node's rule has a variable, and otherwise by the symbol
abbrev pub OneWay : List ℕ → List ℕ → Spot → ℕ → Option Spot → Type 0
OneWay net symbols s own r = ((own ≡ part) × ByPart net symbols s own r) ⊎ ((own ≡ part → ⊥) × BySymbol net symbols s own r)

-- the offset behind the term at offset a
abbrev pub end : List ℕ → ℕ → ℕ
end symbols a = a + size_in symbols a

-- the net leads from a node to rule j
abbrev pub Led : List ℕ → Spot → ℕ → Type 0
Led net s j = Leads net s.rule s.depth j

module _ (bytes net symbols : List ℕ) (a : ℕ) where
  -- the first keys of a rule's path agree with the term, up to an offset
  pub record Node (s : Spot) : Type 0 where
    pub known : s.rule < length (rules_by bytes net)
    pub root : get_or (path_by bytes net s.rule) 0 0 ≡ symbol_in symbols a
    pub deep : 0 < s.depth
    pub within : s.depth ≤ length (path_by bytes net s.rule)
    pub agree : Agree symbols (end symbols a) (take s.depth (path_by bytes net s.rule)) a
    pub offset_is : s.offset ≡ behind symbols (take s.depth (path_by bytes net s.rule)) a
    pub at_is : s.at ≡ width (take s.depth (path_by bytes net s.rule))

  -- rule j's path agrees with the term, as that of every rule does that matches
  abbrev pub Fit : ℕ → Type 0
  Fit j = (j < length (rules_by bytes net)) × Agree symbols (end symbols a) (path_by bytes net j) a

  -- r answers for the way down from a node; a rule that isn't before the best need not be led to
  abbrev pub Descended : Spot → ℕ → De.Descent → Type 0
  Descended s best (De.Descent.Leaf i) =
      (i < length (rules_by bytes net)) × (get_or (path_by bytes net i) 0 0 ≡ symbol_in symbols a) × ((j : ℕ) → Fit j → Led net s j → Same net i j)
  Descended s best De.Descent.Lost = (j : ℕ) → Fit j → Led net s j → best ≤ suc j
  Descended s best (De.Descent.Choice c) = Node c × (c.offset < end symbols a) × (s.depth ≤ c.depth) × ((j : ℕ) → Fit j → Led net s j → Led net c j)

-- RULES

module _ (bytes operators net symbols : List ℕ) (a : ℕ) where
  abbrev pub tried : ℕ → flat.Match
  tried j = tries operators (rules_by bytes net) j a (operators_in symbols)

  -- rule j differs, or its number is not below best
  abbrev pub Beaten : ℕ → ℕ → Type 0
  Beaten best j = (tried j ≡ flat.Match.differs) ⊎ (best ≤ suc j)

  -- of the rules with the path of rule i, m is the first that matches; its number is below best
  pub record FirstOf (i best : ℕ) (b : Binding) (m : M.Match) : Type 0 where
    pub below : suc m.rule < best
    pub same : Same net i m.rule
    pub agrees : LeftTried bytes (left_of net m.rule) operators (operators_in symbols) a (length_in symbols) b (Some m.end)
    pub passed : (j : ℕ) → Same net i j → Beaten (suc m.rule) j

  abbrev pub RulesTried : ℕ → ℕ → Binding → Option M.Match → Type 0
  RulesTried i best b (Some m) = FirstOf i best b m
  RulesTried i best b None = (j : ℕ) → Same net i j → Beaten best j

-- the number of a rule that was found; 256 where none was
abbrev pub limit_of : Option M.Match → ℕ
limit_of None = 256
limit_of (Some m) = suc m.rule

-- THE STACK

-- the node at a height of a stack, which takes two numbers
abbrev pub spot_at : List ℕ → ℕ → Spot
spot_at stack h =
    record {
      rule = get_or stack (2 * h) 0 % 256;
      depth = get_or stack (2 * h) 0 / 256 % 256;
      at = get_or stack (2 * h) 0 / 65536;
      offset = get_or stack (2 * h + 1) 0;
    }

pub record Packable (s : Spot) : Type 0 where
  pub rule : s.rule < 256
  pub depth : s.depth < 256
  pub at : s.at < 65536
  pub offset : s.offset < 65536

-- a branch's node may be put at a height
abbrev pub Puts : List ℕ → ℕ → Option Spot → Type 0
Puts stack h None = Unit {0}
Puts stack h (Some n) = (length stack ≡ 1024) × (h < 64) × Packable n

-- the node was put there, those below are as before
pub record Put (stack : List ℕ) (h : ℕ) (n : Spot) (stack' : List ℕ) : Type 0 where
  pub long : length stack' ≡ length stack
  pub below : (k : ℕ) → k < h → spot_at stack' k ≡ spot_at stack k
  pub top : spot_at stack' h ≡ n

abbrev pub Pushed : List ℕ → ℕ → Option Spot → List ℕ → ℕ → Type 0
Pushed stack h None stack' r = (stack' ≡ stack) × (r ≡ h)
Pushed stack h (Some n) stack' r = Put stack h n stack' × (r ≡ h + 1)

-- how much there may be to do from a depth on, and from all nodes of a stack
unfoldable pub weigh : ℕ → ℕ
weigh zero = 1
weigh (suc r) = 1 + 2 * weigh r

unfoldable pub load : List ℕ → ℕ → ℕ
unfolding weigh
load stack zero = 0
load stack (suc h) = load stack h + weigh (64 - (spot_at stack h).depth)

-- the net leads to rule j from a node of the stack
abbrev pub Pending : List ℕ → List ℕ → ℕ → ℕ → Type 0
Pending net stack h j = (k : ℕ) × (k < h) × Led net (spot_at stack k) j

-- rule j has the path of the rule of a number
abbrev pub Along : List ℕ → ℕ → ℕ → Type 0
Along net zero j = ⊥
Along net (suc k) j = Same net k j

module _ (bytes net symbols : List ℕ) (a : ℕ) where
  -- a stack of nodes, each deeper than its height there
  pub record Stacked (stack : List ℕ) (h : ℕ) : Type 0 where
    pub long : length stack ≡ 1024
    pub nodes : (k : ℕ) → k < h → Node bytes net symbols a (spot_at stack k) × (k < (spot_at stack k).depth)

  -- a number that is none, or that of a rule of the term's root
  abbrev pub Tells : ℕ → Type 0
  Tells zero = Unit {0}
  Tells (suc k) = (k < length (rules_by bytes net)) × (get_or (path_by bytes net k) 0 0 ≡ symbol_in symbols a)

  -- r is what is left to do when the node on top of a stack was taken off and gone down from
  pub record Visited (stack : List ℕ) (top best : ℕ) (stack' : List ℕ) (r : Turn) : Type 0 where
    pub stacked : Stacked stack' r.height
    pub lighter : load stack' r.height < load stack (suc top)
    pub limit : r.limit ≡ best
    pub tells : Tells (number r.rule)
    pub covers : (j : ℕ) → Fit bytes net symbols a j → Pending net stack (suc top) j → Pending net stack' r.height j ⊎ (best ≤ suc j) ⊎ Along net (number r.rule) j

  -- the same of a stack of any height: where it is empty, the best is to be tried once more
  abbrev pub Turned : List ℕ → ℕ → Option M.Match → List ℕ → Turn → Type 0
  Turned stack zero best stack' r = (stack' ≡ stack) × (r.rule ≡ option_map (λ m. m.rule) best) × (r.limit ≡ limit_of best + 1) × (r.height ≡ 0)
  Turned stack (suc top) best stack' r = Visited stack top (limit_of best) stack' r

-- the best when the rules of a path were tried
abbrev pub after : Be.Best → Option M.Match → Be.Best
after best (Some m) = record { found = Some m; fresh = true }
after best None = record { found = best.found; fresh = is_none best.found }

module _ (bytes operators net symbols : List ℕ) (a : ℕ) where
  abbrev pub Tried : ℕ → ℕ → Be.Best → List ℕ → List ℕ → Be.Best → Type 0
  Tried zero limit best bound bound' r = (bound' ≡ bound) × (r ≡ best)
  Tried (suc i) limit best bound bound' r = (hit : Option M.Match) × RulesTried bytes operators net symbols a i limit (binding bound') hit × (r ≡ after best hit)

  abbrev pub Attempted : Turn → Be.Best → List ℕ → List ℕ → Be.Best → Type 0
  Attempted t best bound bound' r = Tried (number t.rule) t.limit best bound bound' r
