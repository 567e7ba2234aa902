-- A discrimination net over the left sides of a book's rules (document 02, Change 8; source document 000, 3.2.1): its nodes, its branches, and what holds
-- of it. The path of a rule is its left side with variables unnamed. The net keeps paths where they stand, in the book: from the root on, a rule goes along
-- the path of an earlier one until the two part, and from there on its own. So a node is a depth of a rule's path, its branches are that path's own key
-- and the ways by which other rules leave it there. Assumes nothing.
use Rattle.std.specs.Prelude.{List, ◌∷◌, ◌++◌, map, ◌⊎◌, ◌≡◌, ℕ, suc, ◌-◌, ◌≤◌, ◌<◌, length, get_or, take, drop}
use Rattle.paper.specs.Tree.{preorder}
use Rattle.paper.specs.Book.{Symbol, Rule, Book}
use Rattle.paper.specs.Dated.{on_day}
use Rattle.tables.specs.Layout.{day_in, left_in, right_in}
use Rattle.tables.specs.Tables.{rule_at, TablesOf, any_book, book_of}
use Rattle.net.specs.Layout.{published, root_in, last_in, choice_in, same_in, left_of, right_of, day_of, way_in, Descends}

-- PATHS

-- a symbol with variables unnamed; a book has at most 255 operators, so that 255 is free for a variable
abbrev pub part : ℕ
part = 255

unfoldable pub key : Symbol → ℕ
key (Symbol.operator o) = o
key (Symbol.variable v) = part

unfoldable pub path : List Rule → ℕ → List ℕ
unfolding key preorder
path rs i = map key (preorder (rule_at rs i).left)

-- THE NET

module _ (net : List ℕ) where
  -- rule j has the path of rule i, and is told behind it
  pub data Same : ℕ → ℕ → Type 0 where
    self : (i : ℕ) → Same i i
    next : (i s j : ℕ) → same_in net i ≡ suc s → Same s j → Same i j

  -- from depth d of rule i's path on, the net leads to rule j: to the end of that path, or along it to where a rule c leaves it
  pub data Leads : ℕ → ℕ → ℕ → Type 0 where
    on : (i d j : ℕ) → Same i j → Leads i d j
    off : (i d e k c j : ℕ) → d ≤ e → way_in net i e k ≡ suc c → Leads c (suc e) j → Leads i d j

  module _ (P : ℕ → List ℕ) where
    -- the same with the keys ks on the way
    pub data Spells : ℕ → ℕ → List ℕ → ℕ → Type 0 where
      on : (i d : ℕ) (ks : List ℕ) (j : ℕ) → ks ≡ drop d (P i) → Same i j → Spells i d ks j
      off : (i d e k c : ℕ) (ks ks' : List ℕ) (j : ℕ) → d ≤ e → way_in net i e k ≡ suc c → ks ≡ take (e - d) (drop d (P i)) ++ (k ∷ ks') →
          Spells c (suc e) ks' j → Spells i d ks j

    -- a path of the net, from its root to rule j
    abbrev pub Path : List ℕ → ℕ → Type 0
    Path ks j = (o : ℕ) × (f : ℕ) × (ks' : List ℕ) × (o < 256) × (root_in net o ≡ suc f) × (ks ≡ o ∷ ks') × Spells f 1 ks' j

    -- a branch of the node at depth d of rule i's path: its key, and the rule whose path goes on behind it
    abbrev pub Branch : ℕ → ℕ → ℕ → ℕ → Type 0
    Branch i d k r = ((r ≡ i) × (k ≡ get_or (P i) d 0)) ⊎ (way_in net i d k ≡ suc r)

    -- what holds of a way, among the first m rules
    pub record Way (m i d k c : ℕ) : Type 0 where
      pub before : i < c
      pub below : c < m
      pub inside : d < length (P c)
      pub within : d < length (P i)
      pub agree : take d (P c) ≡ take d (P i)
      pub keyed : k ≡ get_or (P c) d 0
      pub apart : k ≡ get_or (P i) d 0 → ⊥
      pub last : d < last_in net i
      pub choice : (k ≡ part) ⊎ (get_or (P i) d 0 ≡ part) → d < choice_in net i

    -- the net of the first m rules, whose paths P gives
    pub record Net (m : ℕ) : Type 0 where
      -- it leads to each rule from the first one of its root
      pub rooted : (j : ℕ) → j < m → (f : ℕ) × (root_in net (get_or (P j) 0 0) ≡ suc f) × Leads f 1 j
      pub roots : (o f : ℕ) → o < 256 → root_in net o ≡ suc f → (f < m) × (get_or (P f) 0 0 ≡ o)
      pub ways : (i d k c : ℕ) → way_in net i d k ≡ suc c → Way m i d k c
      pub sames : (i s : ℕ) → i < 256 → same_in net i ≡ suc s → (i < s) × (s < m) × (P s ≡ P i)
      pub descends : Descends net m
      pub long : published ≤ length net

-- THE BOOK

-- the book that a run goes by: that of some bytes, on the day that the net is of
abbrev pub book_by : List ℕ → List ℕ → Book
book_by bytes net = on_day (day_of net) (any_book bytes)

-- the bytes are a book, these are the table of its operators and the net of its rules on the day that the net names
pub record NetOf (bytes operators net : List ℕ) : Type 0 where
  pub rules : List ℕ
  pub tables : TablesOf bytes operators rules
  pub same_day : day_of net ≡ day_in rules
  pub lefts : (i : ℕ) → i < length (book_of bytes rules).rules → left_of net i ≡ left_in rules i
  pub rights : (i : ℕ) → i < length (book_of bytes rules).rules → right_of net i ≡ right_in rules i
  pub is : Net net (path (book_of bytes rules).rules) (length (book_of bytes rules).rules)
