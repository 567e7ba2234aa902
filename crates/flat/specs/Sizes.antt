-- The sizes of a term's symbols (document 02, Change 7): each symbol has the number of symbols under and including it. Sizes stand in a list of their own,
-- beside the symbols. What happens to them where a part gives way to another. Assumes nothing.
use Rattle.std.specs.Prelude.{true, false, List, [], ◌∷◌, ◌++◌, ℕ, zero, suc, ◌+◌, ◌-◌, ◌<◌, ltb, get_or, length, take, drop}
use Rattle.paper.specs.Tree.{Tree, node, Forest, nil, cons, size}
use Rattle.flat.specs.Symbols.{skip}

-- the sizes of a tree's symbols in preorder: at each symbol the size of the tree that stands there
module _ {A : Type 0} where
  unfoldable mutual
    unfolding size

    pub tree_sizes : Tree A → List ℕ
    tree_sizes (node o ts) = size (node o ts) ∷ forest_sizes ts

    pub forest_sizes : Forest A → List ℕ
    forest_sizes nil = []
    forest_sizes (cons t ts) = tree_sizes t ++ forest_sizes ts

-- the sizes of a list's symbols, by their arities: at each symbol how many the term has that begins there
unfoldable pub sizes : (ℕ → ℕ) → List ℕ → List ℕ
unfolding skip
sizes arity [] = []
sizes arity (x ∷ xs) = skip arity 1 (x ∷ xs) ∷ sizes arity xs

-- the offset behind n terms from offset p on, by their sizes
unfoldable pub hop : List ℕ → ℕ → ℕ → ℕ
hop zs zero p = p
hop zs (suc n) p = hop zs n (p + get_or zs p 0)

-- each of these terms begins inside
abbrev pub Hops : List ℕ → ℕ → ℕ → Type 0
Hops zs zero p = Unit {0}
Hops zs (suc n) p = (p < length zs) × Hops zs n (p + get_or zs p 0)

-- Where the symbols from offset a to offset e give way to n others: the symbol at an offset i below a, of size z, takes the difference if its term
-- holds them.
unfoldable pub grown : ℕ → ℕ → ℕ → ℕ → ℕ → ℕ
grown a e n i z = elim (ltb a (i + z)) [ true ↦ z + n - (e - a) | false ↦ z ]

-- so all sizes zs, of symbols from offset i on
unfoldable pub grow : ℕ → ℕ → ℕ → ℕ → List ℕ → List ℕ
unfolding grown
grow a e n i [] = []
grow a e n i (z ∷ zs) = grown a e n i z ∷ grow a e n (suc i) zs

-- the sizes where symbols of sizes ns stand for those from offset a to offset e: those before put right, the new ones, and those behind as they were
unfoldable pub resize : ℕ → ℕ → List ℕ → List ℕ → List ℕ
unfolding grow
resize a e ns zs = grow a e (length ns) 0 (take a zs) ++ (ns ++ drop e zs)
