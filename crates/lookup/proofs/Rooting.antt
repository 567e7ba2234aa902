-- The term's root: where the net has no first rule of it, no rule matches; where it has one, the search begins there. Assumes nothing.
use mathlib.Core.List.{List, map}
use mathlib.Core.Path.{◌≡◌, refl, sym, ap, ◌∙◌}
use Prim.Native.Nat.{ℕ, ◌<◌}
use native.Mathlib.Omega.{arith}
use lib.ListN.{length, get_or}
use Rattle.paper.specs.Tree.{node, label, preorder}
use Rattle.paper.specs.Book.{Side, Book}
use Rattle.tables.specs.Layout.{arity_in}
use Rattle.tables.specs.Tables.{rule_at, Root}
use Rattle.symbol.specs.Record.{operator}
use Rattle.term.specs.Present.{operators_in}
use Rattle.term.proofs.Sized.{operators_length, operator_is}
use Rattle.rule.specs.Promises.{NoneFound}
use Rattle.rule.proofs.Choices.{root_differs, none_found}
use Rattle.net.specs.Layout.{root_in}
use Rattle.net.specs.Net.{key, path, book_by}
use Rattle.net.proofs.Laws.{tables_by, net_is}
use Rattle.lookup.specs.Promises.{Present}

-- the first key of a side is its root's
first_key : (side : Side) → get_or (map key (preorder side)) 0 0 ≡ key (label side)
unfolding key label preorder
first_key (node s ts) = refl

module _ {bytes operators net symbols : List ℕ} {a : ℕ} (h : Present bytes operators net symbols a) where
  abbrev B : Book
  B = book_by bytes net

  abbrev xs : List ℕ
  xs = operators_in symbols

  -- a rule of the term's root begins with its operator
  begins : (i : ℕ) → Root B.rules (get_or xs a 0) i → get_or (path B.rules i) 0 0 ≡ get_or xs a 0
  unfolding path key
  begins i e = first_key (rule_at B.rules i).left ∙ ap key e

  -- so none is there, and every rule differs
  other : root_in net (get_or xs a 0) ≡ 0 → (i : ℕ) → i < length B.rules → Root B.rules (get_or xs a 0) i → ⊥
  other none i l e =
      let (f, r, _) = (net_is h.netted).rooted i l in
      omega (arith, r, none, ap (root_in net) (begins i e))

  pub no_root : root_in net (get_or xs a 0) ≡ 0 → NoneFound B operators a xs
  no_root none =
      let t = tables_by h.netted in
      let inside : a < length xs = omega (arith, h.inside, operators_length (arity_in operators) symbols h.sized) in
      none_found t xs a h.known (λ i l. root_differs t xs a inside i l (other none i l))

  -- the operator o stands at the offset, and n is the number of the first rule of that root
  pub root_found : {o n : ℕ} → o ≡ operator (get_or symbols a 0) → n ≡ root_in net o → root_in net (get_or xs a 0) ≡ n
  root_found stands is = sym (is ∙ ap (root_in net) (stands ∙ operator_is (arity_in operators) symbols h.sized a h.inside))

  pub root_missed : {o : ℕ} → o ≡ operator (get_or symbols a 0) → 0 ≡ root_in net o → NoneFound B operators a xs
  root_missed stands is = no_root (root_found stands is)
