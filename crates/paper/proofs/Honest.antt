-- Marks that are true: every marked part is a normal form. A part of such a term is one, and rewriting keeps it so. Assumes nothing.
use mathlib.Core.Bool.{Bool, true, false, false≢true}
use mathlib.Core.List.{List, [], ◌∷◌}
use mathlib.Core.Option.{Option, none, some, none-ne-some, some-injective}
use mathlib.Core.Path.{◌≡◌, refl, subst}
use Prim.Native.Nat.{ℕ, zero, suc, ◌<◌, ◌≤◌}
use native.Mathlib.Omega.{arith}
use lib.Dec.{eqb}
use Rattle.paper.specs.Tree.{node, Forest, nil, cons, label, arguments, count, relabel, relabels, Position, pick, subterm, change, replace}
use Rattle.paper.specs.Book.{Symbol, Term, Side, Rule, Book}
use Rattle.paper.specs.Match.{Bindings, blank, bind, same, meet, match_over, matches_over, fill_over, fills_over, bound, rewrite_over}
use Rattle.paper.specs.Marks.{Cell, cell, Marked, cells, plain, bare, mark_part}
use Rattle.paper.specs.Sound.{All, IsOperator, SoundRule}
use Rattle.paper.proofs.Again.{Normal}
use Rattle.paper.proofs.Matching.{passed, both}

abbrev mutual
  pub Honest : Book → Marked → Type 0
  Honest B (node c ts) = (c.marked ≡ true → Normal B (plain (node c ts))) × Honests B ts

  pub Honests : Book → Forest Cell → Type 0
  Honests B nil = Unit {0}
  Honests B (cons t ts) = Honest B t × Honests B ts

module _ (B : Book) where
  mutual
    unfolding bare relabel

    pub bare_honest : (t : Term) → Honest B (bare t)
    bare_honest (node o ts) = (λ e. absurd (false≢true e), bare_honests ts)

    bare_honests : (ts : Forest ℕ) → Honests B (relabels (cell false) ts)
    bare_honests nil = tt
    bare_honests (cons t ts) = (bare_honest t, bare_honests ts)

  -- where there is no argument, d stands for it
  pick_honest : (d : Marked) (i : ℕ) (ts : Forest Cell) → (count ts ≤ i → Honest B d) → Honests B ts → Honest B (pick d i ts)
  unfolding count pick
  pick_honest d i nil h hs = h (omega arith)
  pick_honest d zero (cons t ts) h hs = hs.0
  pick_honest d (suc i) (cons t ts) h hs = pick_honest d i ts (λ l. h (omega arith)) hs.1

  pub part_honest : (p : Position) (t : Marked) → Honest B t → Honest B (subterm p t)
  unfolding subterm arguments
  part_honest [] t h = h
  part_honest (i ∷ p) (node c ts) h = part_honest p (pick (node c ts) i ts) (pick_honest (node c ts) i ts (λ l. h) h.1)

  pub argument_honest : (i : ℕ) (t : Marked) → i < count (arguments t) → Honests B (arguments t) → Honest B (subterm (i ∷ []) t)
  unfolding subterm
  argument_honest i t h hs = pick_honest t i (arguments t) (λ l. absurd (omega arith)) hs

  change_honest : (i : ℕ) (s : Marked) (ts : Forest Cell) → Honest B s → Honests B ts → Honests B (change i (replace [] s) ts)
  unfolding change replace
  change_honest i s nil h hs = tt
  change_honest zero s (cons t ts) h hs = (h, hs.1)
  change_honest (suc i) s (cons t ts) h hs = (hs.0, change_honest i s ts h hs.1)

  pub replace_honest : (i : ℕ) (s t : Marked) → Honest B s → Honests B (arguments t) → Honests B (arguments (replace (i ∷ []) s t))
  unfolding replace arguments
  replace_honest i s t h hs = change_honest i s (arguments t) h hs

  pub arguments_honest : (t : Marked) → Honest B t → Honests B (arguments t)
  unfolding arguments
  arguments_honest (node c ts) h = h.1

  pub mark_honest : (n : ℕ) (t : Marked) → Honests B (arguments t) → Honests B (arguments (mark_part n t))
  unfolding arguments mark_part
  mark_honest n (node c ts) h = h

  pub normal_honest : (t : Marked) → Normal B (plain t) → Honests B (arguments t) → Honest B t
  unfolding arguments
  normal_honest (node c ts) n h = (λ e. n, h)

  pub marked_normal : (t : Marked) → Honest B t → (label t).marked ≡ true → Normal B (plain t)
  unfolding label
  marked_normal (node c ts) h e = h.0 e

  -- a rule copies parts whole
  abbrev Fills : Bindings Cell → Type 0
  Fills f = (v : ℕ) (u : Marked) → f v ≡ some u → Honest B u

  bind_honest : (v : ℕ) (t : Marked) (f : Bindings Cell) → Honest B t → Fills f → Fills (bind v t f)
  unfolding bind
  bind_honest v t f h hs w u e = go (eqb v w) e
    where
      go : (b : Bool) → elim b as (λ b. Option Marked) [ true ↦ some t | false ↦ f w ] ≡ some u → Honest B u
      go true e = subst (λ (x : Marked). Honest B x) (some-injective _ _ e) h
      go false e = hs w u e

  meet_honest : (x : Option Marked) (v : ℕ) (t : Marked) (f g : Bindings Cell) → Honest B t → Fills f → meet cells x v t f ≡ some g → Fills g
  unfolding meet
  meet_honest none v t f g h hs e = subst (λ (x : Bindings Cell). Fills x) (some-injective _ _ e) (bind_honest v t f h hs)
  meet_honest (some u) v t f g h hs e = subst (λ (x : Bindings Cell). Fills x) (some-injective _ _ (passed (same cells u t) (some f) g e).1) hs

  mutual
    unfolding match_over

    match_honest : (s : Side) (t : Marked) (f g : Bindings Cell) → Honest B t → Fills f → match_over cells s t f ≡ some g → Fills g
    match_honest (node (Symbol.operator o) ss) (node c ts) f g h hs e =
        matches_honest ss ts f g h.1 hs (passed (eqb o c.operator) (matches_over cells ss ts f) g e).1
    match_honest (node (Symbol.variable v) ss) t f g h hs e = meet_honest (f v) v t f g h hs e

    matches_honest : (ss : Forest Symbol) (ts : Forest Cell) (f g : Bindings Cell) → Honests B ts → Fills f → matches_over cells ss ts f ≡ some g → Fills g
    matches_honest nil nil f g h hs e = subst (λ (x : Bindings Cell). Fills x) (some-injective _ _ e) hs
    matches_honest nil (cons t ts) f g h hs e = absurd (none-ne-some _ e)
    matches_honest (cons s ss) nil f g h hs e = absurd (none-ne-some _ e)
    matches_honest (cons s ss) (cons t ts) f g h hs e =
        let (k, p, q) = both (match_over cells s t f) (matches_over cells ss ts) g e in
        matches_honest ss ts k g h.1 (match_honest s t f k h.0 hs p) q

  bound_honest : (x : Option Marked) → ((u : Marked) → x ≡ some u → Honest B u) → Honest B (bound cells x)
  unfolding bound
  bound_honest none h = (λ e. absurd (false≢true e), tt)
  bound_honest (some u) h = h u refl

  mutual
    unfolding fill_over

    fill_honest : (s : Side) (f : ℕ → Marked) → ((v : ℕ) → Honest B (f v)) → Honest B (fill_over cells f s)
    fill_honest (node (Symbol.operator o) ss) f h = (λ e. absurd (false≢true e), fills_honest ss f h)
    fill_honest (node (Symbol.variable v) ss) f h = h v

    fills_honest : (ss : Forest Symbol) (f : ℕ → Marked) → ((v : ℕ) → Honest B (f v)) → Honests B (fills_over cells f ss)
    fills_honest nil f h = tt
    fills_honest (cons s ss) f h = (fill_honest s f h, fills_honest ss f h)

  -- a left side's root is an operator, so what is copied stands below the root
  left_honest : (l : Side) → IsOperator (label l) → (t : Marked) (f : Bindings Cell) → Honests B (arguments t) → match_over cells l t blank ≡ some f → Fills f
  unfolding match_over label arguments
  left_honest (node (Symbol.operator o) ss) r (node c ts) f h e =
      matches_honest ss ts blank f h (λ v u z. absurd (none-ne-some _ z)) (passed (eqb o c.operator) (matches_over cells ss ts blank) f e).1
  left_honest (node (Symbol.variable v) ss) r t f h e = absurd r

  pub rewrite_honest : (rs : List Rule) → All (SoundRule B) rs → (t r : Marked) → Honests B (arguments t) → rewrite_over cells rs t ≡ some r → Honest B r
  unfolding rewrite_over
  rewrite_honest [] s t r h e = absurd (none-ne-some _ e)
  rewrite_honest (q ∷ rs) s t r h e = go (match_over cells q.left t blank) refl e (rewrite_honest rs s.1 t r h)
    where
      go : (m : Option (Bindings Cell)) → match_over cells q.left t blank ≡ m →
          elim m as (λ m. Option Marked) [ none ↦ rewrite_over cells rs t | some f ↦ some (fill_over cells (λ v. bound cells (f v)) q.right) ] ≡ some r →
          (rewrite_over cells rs t ≡ some r → Honest B r) → Honest B r
      go none p e k = k e
      go (some f) p e k =
          let hs = left_honest q.left s.0.root t f h p in
          subst (λ (x : Marked). Honest B x) (some-injective _ _ e) (fill_honest q.right (λ v. bound cells (f v)) (λ v. bound_honest (f v) (hs v)))
