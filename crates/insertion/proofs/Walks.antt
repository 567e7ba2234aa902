-- A rule on its way along the paths of a net: two left sides with the same keys so far have taken as many bits, and as many terms of each are still to
-- come. Assumes nothing.
use mathlib.Core.Bool.{Bool, true, false}
use mathlib.Core.List.{List, [], ◌∷◌, map}
use mathlib.Core.Logic.{◌⊎◌, inl, inr}
use mathlib.Core.Path.{◌≡◌, refl, sym, ap, ◌∙◌, subst}
use Prim.Native.Nat.{ℕ, zero, suc, ◌+◌, ◌-◌, ◌*◌, ◌≤◌, ◌<◌}
use native.Mathlib.Omega.{arith}
use lib.Dec.{eqb}
use lib.ListN.{length, get_or, take, drop, length-map, length-drop, get_or-map}
use lib.Seq.{drop-cons, take_all}
use borrow.Author.Tests.{eqb-true, eqb-false, eq-eqb}
use Rattle.paper.specs.Result.{if}
use Rattle.paper.specs.Tree.{preorder, Complete}
use Rattle.paper.specs.Book.{Symbol, Rule}
use Rattle.paper.specs.Sound.{All}
use Rattle.tables.specs.Tables.{rule_at}
use Rattle.tables.proofs.Laws.{all_at}
use Rattle.rule.specs.Packed.{arity_of_symbol, Stands}
use Rattle.rule.proofs.Sides.{none_left}
use Rattle.net.specs.Layout.{root_in, same_in, left_of, way_in}
use Rattle.net.specs.Net.{part, key, path, Same}
use Rattle.net.specs.Promises.{CellPut, WayPut}
use Rattle.net.proofs.Leading.{agree_less, agree_at}
use Rattle.net.proofs.Growing.{Gone, gone_first, gone_along, gone_over, grow_root, grow_same, grow_way}
use Rattle.insertion.specs.Promises.{SymbolRead, Keyed, Ready, branch, chosen, Appended, PlaceIs, Inserted}
use Rattle.insertion.specs.declared.Symbol as D
use Rattle.insertion.specs.declared.Parting as Pa
use Rattle.insertion.specs.declared.Place as Pl
use Rattle.insertion.proofs.Symbols.{stands_on, key_tells, key_small}

abbrev pub left_symbols : List Rule → ℕ → List Symbol
left_symbols rs i = preorder (rule_at rs i).left

-- the symbol at a depth
abbrev symbol_at : List Rule → ℕ → ℕ → Symbol
symbol_at rs i d = get_or (left_symbols rs i) d (Symbol.operator 0)

key_at : (rs : List Rule) (i d : ℕ) → get_or (path rs i) d 0 ≡ key (symbol_at rs i d)
unfolding path key
key_at rs i d = get_or-map key (left_symbols rs i) d (Symbol.operator 0)

path_length : (rs : List Rule) (i : ℕ) → length (path rs i) ≡ length (left_symbols rs i)
unfolding path
path_length rs i = length-map (left_symbols rs i) key

-- a root's key is a byte
pub root_small : (rs : List Rule) (i : ℕ) → All Keyed (left_symbols rs i) → get_or (path rs i) 0 0 < 256
unfolding path
root_small rs i a = go (left_symbols rs i) a
  where
    go : (ss : List Symbol) → All Keyed ss → get_or (map key ss) 0 0 < 256
    go [] a = omega arith
    go (s ∷ ss) a = key_small s a.0

-- where symbols stand of which terms are due, there is one
some_symbol : (f : Symbol → ℕ) (due : ℕ) (ss : List Symbol) → 0 < due → Complete f due ss → 0 < length ss
some_symbol f zero ss l c = absurd (omega arith)
some_symbol f (suc due) [] l c = absurd c
some_symbol f (suc due) (s ∷ ss) l c = omega arith

-- the left sides that agree with that of rule m on d keys go on behind so many bits, with so many terms to come
pub record Even (bytes operators net : List ℕ) (rs : List Rule) (m d at due : ℕ) : Type 0 where
  pub each : (x : ℕ) → x ≤ m → take d (path rs x) ≡ take d (path rs m) → Stands bytes (left_of net x + at) operators due (64 - d) (drop d (left_symbols rs x))

module _ {bytes operators net : List ℕ} {rs : List Rule} {m : ℕ} (R : Ready bytes operators net rs m) where
  keyed : (x d : ℕ) → x ≤ m → d < length (left_symbols rs x) → Keyed (symbol_at rs x d)
  keyed x d l h = all_at Keyed (Symbol.operator 0) (left_symbols rs x) d (R.lefts x l).keyed h

  even_first : Even bytes operators net rs m 0 0 1
  even_first = record { each = λ x l e. subst (λ (at : ℕ). Stands bytes at operators 1 64 (left_symbols rs x)) (omega arith) (R.lefts x l).left.stands }

  module _ {d at due : ℕ} (even : Even bytes operators net rs m d at due) where
    module _ (some : 0 < due) where
      deeper : (x : ℕ) → x ≤ m → take d (path rs x) ≡ take d (path rs m) → d < length (left_symbols rs x)
      deeper x l e =
          let a = some_symbol (arity_of_symbol operators) due (drop d (left_symbols rs x)) some (even.each x l e).complete in
          let b = length-drop d (left_symbols rs x) in
          omega arith

      longer : (x : ℕ) → x ≤ m → take d (path rs x) ≡ take d (path rs m) → d < length (path rs x)
      longer x l e = let a = deeper x l e in let b = path_length rs x in omega arith

      stands_there : (x : ℕ) → x ≤ m → take d (path rs x) ≡ take d (path rs m) →
          Stands bytes (left_of net x + at) operators due (64 - d) (symbol_at rs x d ∷ drop (suc d) (left_symbols rs x))
      stands_there x l e =
          subst (Stands bytes (left_of net x + at) operators due (64 - d)) (drop-cons (left_symbols rs x) d (Symbol.operator 0) (deeper x l e)) (even.each x l e)

      -- the key that is read there
      read_key : (x : ℕ) (r : D.Symbol) → x ≤ m → take d (path rs x) ≡ take d (path rs m) → SymbolRead bytes (left_of net x + at) operators r →
          r.key ≡ get_or (path rs x) d 0
      read_key x r l e h = (h.is due (64 - d) _ _ (stands_there x l e)).key_is ∙ sym (key_at rs x d)

      -- one symbol on
      even_on : (r : D.Symbol) (at' due' : ℕ) → SymbolRead bytes (left_of net m + at) operators r → at' ≡ at + r.width → due' ≡ due - 1 + r.arity →
          Even bytes operators net rs m (suc d) at' due'
      even_on r at' due' h a b = record { each = each }
        where
          each : (x : ℕ) → x ≤ m → take (suc d) (path rs x) ≡ take (suc d) (path rs m) →
              Stands bytes (left_of net x + at') operators due' (64 - suc d) (drop (suc d) (left_symbols rs x))
          each x l e =
              let less = agree_less d (suc d) (path rs x) (path rs m) (omega arith) e in
              let (wide, many) =
              key_tells operators (symbol_at rs x d) (symbol_at rs m d) (keyed x d l (deeper x l less)) (keyed m d (omega arith) (deeper m (omega arith) refl))
              (sym (key_at rs x d) ∙ agree_at d (path rs x) (path rs m) e ∙ key_at rs m d)
              in
              let i = h.is due (64 - d) _ _ (stands_there m (omega arith) refl) in
              let w = i.width_is in
              let n = i.arity_is in
              stands_on bytes operators _ _ due due' (64 - d) _ _ _ (stands_there x l less) (omega arith) (omega arith) (omega arith)

    -- where no term is due, that was the whole path
    whole : due ≡ 0 → (x : ℕ) → x ≤ m → take d (path rs x) ≡ take d (path rs m) → take d (path rs x) ≡ path rs x
    whole z x l e =
        let a = ap length (none_left bytes operators (left_of net x + at) due (64 - d) (drop d (left_symbols rs x)) (even.each x l e) (inl z)) in
        let b = length-drop d (left_symbols rs x) in
        let c = path_length rs x in
        take_all d (path rs x) (omega arith)

-- RULES WITH ONE PATH

pub appended : {net net' : List ℕ} {i s m v : ℕ} → Same net i s → same_in net s ≡ 0 → v ≡ suc m → CellPut net 3 s v net' → Appended net i m net'
appended {net = net} {net' = net'} {s = s} r e q p =
    record { after = s; same = r; last = e; put = subst (λ (x : ℕ). CellPut net 3 s x net') q p }

-- PLACES

-- rule m has reached depth d of rule i's path, behind so many bits, with so many terms to come
pub record Reached (bytes operators net : List ℕ) (rs : List Rule) (m i d at due : ℕ) : Type 0 where
  pub gone : Gone net (path rs) m i d
  pub even : Even bytes operators net rs m d at due
  pub depth : d ≤ 64
  pub far : at ≤ 9 * d
  pub many : due ≤ 256 * d

module _ {bytes operators net : List ℕ} {rs : List Rule} {m : ℕ} (R : Ready bytes operators net rs m) where
  small : (j : ℕ) → j ≤ m → get_or (path rs j) 0 0 < 256
  small j l = root_small rs j (R.lefts j l).keyed

  some_key : (j : ℕ) → j ≤ m → 0 < length (path rs j)
  some_key j l =
      let a = some_symbol (arity_of_symbol operators) 1 (left_symbols rs j) (omega arith) (R.lefts j l).left.stands.complete in
      let b = path_length rs j in
      omega arith

  module _ (root : D.Symbol) (h : SymbolRead bytes (left_of net m) operators root) where
    read_root : SymbolRead bytes (left_of net m + 0) operators root
    read_root = subst (λ (at : ℕ). SymbolRead bytes at operators root) (omega arith) h

    -- the root's key is that of the path
    root_key : root.key ≡ get_or (path rs m) 0 0
    root_key = read_key R (even_first R) (omega arith) m root (omega arith) refl read_root

    -- from the first rule with its root
    pub reached_first : (f : ℕ) → root_in net root.key ≡ suc f → Reached bytes operators net rs m f 1 root.width root.arity
    reached_first f e =
        let q : root_in net (get_or (path rs m) 0 0) ≡ suc f = ap (root_in net) (sym root_key) ∙ e in
        let b = (R.is.roots (get_or (path rs m) 0 0) f (small m (omega arith)) q).0 in
        let w = h.narrow in
        let n = h.few in
        record {
          gone = gone_first R.is f (small m (omega arith)) q (some_key m (omega arith)) (some_key f (omega arith));
          even = even_on R (even_first R) (omega arith) root root.width root.arity read_root (omega arith) (omega arith);
          depth = omega arith;
          far = omega arith;
          many = omega arith;
        }

    -- as the first rule with its root
    pub placed_root : (net' : List ℕ) (v : ℕ) → v ≡ suc m → root_in net root.key ≡ 0 → CellPut net 0 root.key v net' → Inserted net (path rs) m net'
    placed_root net' v q e p =
        record {
          is = grow_root R.is R.few small (ap (root_in net) (sym root_key) ∙ e)
              (subst (λ (o : ℕ). CellPut net 0 o (suc m) net') root_key (subst (λ (x : ℕ). CellPut net 0 root.key x net') q p));
          long = p.long;
          sides = λ c i a b l. p.others c i b l (λ z. let t = z.0 in absurd (omega arith));
        }

  -- behind the rules with its path
  pub behind_is : (i d at due : ℕ) → Reached bytes operators net rs m i d at due → due ≡ 0 → PlaceIs net (path rs) m (Pl.Place.Behind i)
  behind_is i d at due r z =
      let l = r.gone.below in
      let e = r.gone.agree in
      let same : path rs m ≡ path rs i =
      sym (whole R r.even z m (omega arith) refl) ∙ e ∙ whole R r.even z i (omega arith) (sym e)
      in
      (l, λ net' a. grow_same R.is R.few small r.gone same a.same a.last a.put)

  module _ {i d at due : ℕ} (r : Reached bytes operators net rs m i d at due) (some : 0 < due) (own new : D.Symbol)
      {p q : ℕ} (own_read : SymbolRead bytes p operators own) (own_there : p ≡ left_of net i + at) (new_read : SymbolRead bytes q operators new)
      (new_there : q ≡ left_of net m + at) where
    own_at : SymbolRead bytes (left_of net i + at) operators own
    own_at = subst (λ (x : ℕ). SymbolRead bytes x operators own) own_there own_read

    new_at : SymbolRead bytes (left_of net m + at) operators new
    new_at = subst (λ (x : ℕ). SymbolRead bytes x operators new) new_there new_read

    own_key : own.key ≡ get_or (path rs i) d 0
    own_key = let l = r.gone.below in read_key R r.even some i own (omega arith) (sym r.gone.agree) own_at

    new_key : new.key ≡ get_or (path rs m) d 0
    new_key = read_key R r.even some m new (omega arith) refl new_at

    own_longer : d < length (path rs i)
    own_longer = let l = r.gone.below in longer R r.even some i (omega arith) (sym r.gone.agree)

    new_longer : d < length (path rs m)
    new_longer = longer R r.even some m (omega arith) refl

    -- a left side has at most 64 symbols
    pub not_deep : d < 64
    not_deep = let a = new_longer in let b = path_length rs m in let c = (R.lefts m (omega arith)).left.stands.short in omega arith

    on_branch : (c : ℕ) (b : Bool) → eqb own.key new.key ≡ b → if b (suc i) (way_in net i d new.key) ≡ suc c → Gone net (path rs) m c (suc d)
    on_branch c true e q =
        subst (λ (x : ℕ). Gone net (path rs) m x (suc d)) (omega arith)
        (gone_along R.is r.gone new_longer own_longer (sym new_key ∙ sym (eqb-true own.key new.key e) ∙ own_key))
    on_branch c false e q = gone_over R.is new.key c r.gone new_longer new_key q

    -- along a branch that bears its key
    pub reached_on : (c d' at' due' : ℕ) → branch net i d own.key new.key ≡ suc c → d' ≡ d + 1 → at' ≡ at + new.width → due' ≡ due - 1 + new.arity →
        Reached bytes operators net rs m c d' at' due'
    reached_on c d' at' due' q e a b =
        let w = new_read.narrow in
        let n = new_read.few in
        let f = r.far in
        let g = r.many in
        let h = not_deep in
        subst (λ (x : ℕ). Reached bytes operators net rs m c x at' due') (let z : suc d ≡ d' = omega arith in z) (
        record {
          gone = on_branch c (eqb own.key new.key) refl q;
          even = even_on R r.even some new at' due' new_at a b;
          depth = omega arith;
          far = omega arith;
          many = omega arith;
        }
        )

    no_branch : (b : Bool) → eqb own.key new.key ≡ b → if b (suc i) (way_in net i d new.key) ≡ 0 →
        (new.key ≡ get_or (path rs i) d 0 → ⊥) × (way_in net i d new.key ≡ 0)
    no_branch true e q = absurd (omega arith)
    no_branch false e q = (λ z. eqb-false own.key new.key e (own_key ∙ sym z), q)

    -- the parting's choice
    is_chosen : (a b : ℕ) → (b ≡ part) ⊎ (a ≡ part) → chosen a b ≡ true
    unfolding chosen
    is_chosen a b (inl e) = go (eqb a part)
      where
        go : (t : Bool) → if t true (eqb b part) ≡ true
        go true = refl
        go false = eq-eqb b part e
    is_chosen a b (inr e) = rw (eq-eqb a part e) refl

    -- where no branch bears its key it parts from the path
    pub off_is : (c : Bool) → branch net i d own.key new.key ≡ 0 → c ≡ chosen own.key new.key →
        PlaceIs net (path rs) m (Pl.Place.Off (record { rule = i; depth = d; key = new.key; choice = c }))
    off_is c q e =
        let (apart, none) = no_branch (eqb own.key new.key) refl q in
        let h = not_deep in (
          r.gone.below,
          omega arith,
          λ net' p. grow_way R.is R.few small new.key c r.gone new_longer own_longer new_key apart none
              (λ z. e ∙ is_chosen own.key new.key (elim z [ inl x ↦ inl x | inr y ↦ inr (own_key ∙ y) ])) p,
        )

-- INSERTING

pub read_there : {bytes operators : List ℕ} {p : ℕ} {r : D.Symbol} (q : ℕ) → p ≡ q → SymbolRead bytes p operators r → SymbolRead bytes q operators r
read_there {bytes = bytes} {operators = operators} {r = r} q e h = subst (λ (x : ℕ). SymbolRead bytes x operators r) e h

module _ {net : List ℕ} {P : ℕ → List ℕ} {m : ℕ} where
  pub placed_behind : {net' : List ℕ} (i : ℕ) → PlaceIs net P m (Pl.Place.Behind i) → Appended net i m net' → Inserted net P m net'
  placed_behind {net' = net'} i h a =
      record {
        is = h.1 net' a;
        long = a.put.long;
        sides = λ c i x y l. a.put.others c i y l (λ z. let t = z.0 in absurd (omega arith));
      }

  pub placed_off : {net' : List ℕ} (p : Pa.Parting) → PlaceIs net P m (Pl.Place.Off p) → WayPut net p.rule p.depth p.key m p.choice net' → Inserted net P m net'
  placed_off {net' = net'} p h w = record { is = h.2 net' w; long = w.long; sides = w.sides }
