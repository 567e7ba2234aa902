-- Rules applied (document 01, 'Reduction one after the other': "the first rule in book order whose left side matches replaces the term by
-- its filled right side"; "a rule matches exactly if some filling of its left side gives the term"; document 02, Change 4: "A variable that stands
-- twice matches only if both parts are equal, symbol by symbol"). What a term's symbols are is a parameter of the functions; terms of operators
-- are the instance at the end. Assumes nothing.
use Rattle.std.specs.Prelude.{Bool, ◌≡◌, ℕ, eqb}
use Rattle.std.proofs.Math.Bool.{true, false}
use mathlib.Core.List.{List, [], ◌∷◌}
use Rattle.std.proofs.Math.Option.{Option, none, some}
use Rattle.paper.specs.Tree.{Tree, node, Forest, nil, cons}
use Rattle.paper.specs.Book.{Symbol, Term, Side, Rule}

-- Over any symbols

-- the operator of a term's symbol, and the symbol that a right side's operator becomes
pub record Symbols (A : Type 0) : Type 0 where
  pub operator : A → ℕ
  pub new : ℕ → A

-- the parts that a match has bound variables to so far
abbrev pub Bindings : Type 0 → Type 0
Bindings A = ℕ → Option (Tree A)

module _ {A : Type 0} where
  -- nothing bound yet
  abbrev pub blank : Bindings A
  blank v = none

  unfoldable pub bind : ℕ → Tree A → Bindings A → Bindings A
  bind v t f w = elim (eqb v w) [ true ↦ some t | false ↦ f w ]

  unfoldable pub and_then : Option (Bindings A) → (Bindings A → Option (Bindings A)) → Option (Bindings A)
  and_then none k = none
  and_then (some f) k = k f

module _ {A : Type 0} (S : Symbols A) where
  -- the side with each variable filled; a variable has no arguments (Sound)
  unfoldable mutual
    pub fill_over : (ℕ → Tree A) → Side → Tree A
    fill_over f (node (Symbol.operator o) ss) = node (S.new o) (fills_over f ss)
    fill_over f (node (Symbol.variable v) ss) = f v

    pub fills_over : (ℕ → Tree A) → Forest Symbol → Forest A
    fills_over f nil = nil
    fills_over f (cons s ss) = cons (fill_over f s) (fills_over f ss)

  -- are two terms equal, symbol by symbol?
  unfoldable mutual
    pub same : Tree A → Tree A → Bool
    same (node a ts) (node b us) = elim (eqb (S.operator a) (S.operator b)) [ true ↦ sames ts us | false ↦ false ]

    pub sames : Forest A → Forest A → Bool
    sames nil nil = true
    sames nil (cons u us) = false
    sames (cons t ts) nil = false
    sames (cons t ts) (cons u us) = elim (same t u) [ true ↦ sames ts us | false ↦ false ]

  -- the variable v stands before the part t: met first, it is bound to it; met again, its part must be equal, and the first one stays
  unfoldable pub meet : Option (Tree A) → ℕ → Tree A → Bindings A → Option (Bindings A)
  unfolding bind same
  meet none v t f = some (bind v t f)
  meet (some u) v t f = elim (same u t) [ true ↦ some f | false ↦ none ]

  unfoldable mutual
    unfolding and_then meet

    pub match_over : Side → Tree A → Bindings A → Option (Bindings A)
    match_over (node (Symbol.operator o) ss) (node a ts) f = elim (eqb o (S.operator a)) [ true ↦ matches_over ss ts f | false ↦ none ]
    match_over (node (Symbol.variable v) ss) t f = meet (f v) v t f

    pub matches_over : Forest Symbol → Forest A → Bindings A → Option (Bindings A)
    matches_over nil nil f = some f
    matches_over nil (cons t ts) f = none
    matches_over (cons s ss) nil f = none
    matches_over (cons s ss) (cons t ts) f = and_then (match_over s t f) (matches_over ss ts)

  -- a variable that is not bound: any term does, since the right side's variables stand on the left (Sound)
  unfoldable pub bound : Option (Tree A) → Tree A
  bound none = node (S.new 0) nil
  bound (some t) = t

  -- the first rule in book order that matches, filled
  unfoldable pub rewrite_over : List Rule → Tree A → Option (Tree A)
  unfolding match_over fill_over bound
  rewrite_over [] t = none
  rewrite_over (r ∷ rs) t =
      elim (match_over r.left t blank) [ none ↦ rewrite_over rs t | some f ↦ some (fill_over (λ v. bound (f v)) r.right) ]

-- Terms of operators

-- each symbol is its operator
abbrev pub operators : Symbols ℕ
operators = record { operator = λ o. o; new = λ o. o }

-- a filling gives each variable a term (a substitution)
abbrev pub Filling : Type 0
Filling = ℕ → Term

unfoldable pub fill : Filling → Side → Term
unfolding fill_over
fill = fill_over operators

-- some filling of the side gives the term
abbrev pub Matches : Side → Term → Type 0
Matches s t = (f : Filling) × (fill f s ≡ t)

-- The function that finds it

unfoldable pub match : Side → Term → Bindings ℕ → Option (Bindings ℕ)
unfolding match_over
match = match_over operators

-- the filling that was found
abbrev pub filling : Bindings ℕ → Filling
filling f v = bound operators (f v)

-- the first rule in book order that matches gives the new term
unfoldable pub rewrite : List Rule → Term → Option Term
unfolding rewrite_over
rewrite = rewrite_over operators
