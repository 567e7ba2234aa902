-- The net of a book (document 02, Change 8): its paths are exactly the left sides that stand on its day, with variables unnamed, and no two branches of
-- a node bear the same symbol. Assumes nothing.
use mathlib.Core.List.{List, map}
use mathlib.Core.Path.{◌≡◌}
use Prim.Native.Nat.{ℕ, ◌≤◌, ◌<◌}
use native.Mathlib.Omega.{arith}
use lib.ListN.{length, get_or}
use Rattle.paper.specs.Tree.{node, preorder}
use Rattle.paper.specs.Book.{Operator, Symbol, Side, Rule}
use Rattle.paper.specs.Sound.{All}
use Rattle.paper.specs.WellFormed.{Fits}
use Rattle.tables.specs.Tables.{rule_at}
use Rattle.tables.proofs.Laws.{rule_good}
use Rattle.net.specs.Net.{key, path, Path, Branch, book_by, NetOf}
use Rattle.net.proofs.Laws.{tables_by, net_is}
use Rattle.net.proofs.Paths.{paths_exactly, distinct}

-- a side has a root, whose key fits a byte
some_keys : (side : Side) → 0 < length (map key (preorder side))
unfolding preorder
some_keys (node s ts) = omega arith

key_small : (ops : List Operator) (s : Symbol) → length ops < 256 → Fits ops s → key s < 256
unfolding key
key_small ops (Symbol.operator o) l h = omega arith
key_small ops (Symbol.variable v) l h = omega arith

root_small : (ops : List Operator) (side : Side) → length ops < 256 → All (Fits ops) (preorder side) → get_or (map key (preorder side)) 0 0 < 256
unfolding preorder
root_small ops (node s ts) l h = key_small ops s l h.0

module _ {bytes operators net : List ℕ} (h : NetOf bytes operators net) where
  abbrev rules : List Rule
  rules = (book_by bytes net).rules

  few : length rules ≤ 255
  few = let f = (tables_by h).good.few_rules in omega arith

  pub book_paths : (ks : List ℕ) (j : ℕ) →
      (Path net (path rules) ks j → (j < length rules) × (ks ≡ path rules j)) × ((j < length rules) × (ks ≡ path rules j) → Path net (path rules) ks j)
  unfolding path
  book_paths =
      paths_exactly (net_is h) few
      (λ j l. some_keys (rule_at rules j).left)
      (λ j l. root_small (book_by bytes net).operators (rule_at rules j).left (tables_by h).good.few_operators (rule_good (tables_by h) j l).left.fits)

  pub book_distinct : (i d k r r' : ℕ) → Branch net (path rules) i d k r → Branch net (path rules) i d k r' → r ≡ r'
  book_distinct = distinct (net_is h) few
