-- Laws of marks: a term with marks, seen without them, is matched, rewritten and reduced in parts like the term without. Assumes nothing.
use mathlib.Core.Bool.{Bool, true, false}
use mathlib.Core.List.{List, [], ◌∷◌}
use mathlib.Core.Option.{Option, none, some}
use mathlib.Core.Path.{◌≡◌, refl, sym, ◌∙◌, ap, ap₂, subst}
use Prim.Native.Nat.{ℕ, zero, suc}
use lib.Dec.{eqb}
use Rattle.paper.specs.Tree.{node, Forest, nil, cons, label, arguments, size, relabel, relabels, Position, subterm, replace, Correct}
use Rattle.paper.specs.Book.{Symbol, Term, Side, Rule, Book, arity}
use Rattle.paper.specs.Match.{Bindings, blank, bind, and_then, fill_over, fills_over, same, sames, meet, match_over, matches_over, bound, rewrite_over, operators, Filling, fill, match, filling, rewrite}
use Rattle.paper.specs.Marks.{Cell, cell, Marked, cells, plain, bare, mark_root, mark_part, mark_at}
use Rattle.paper.specs.Sound.{All, SoundRule}
use Rattle.paper.proofs.Matching.{rewrite_correct}
use Rattle.paper.proofs.Trees.{replace_same, relabel_size, relabel_subterm, relabel_replace, relabel_correct, correct_relabel}

abbrev pub plains : Forest Cell → Forest ℕ
plains ts = relabels (λ c. c.operator) ts

-- NO MARKS
mutual
  unfolding plain bare relabel

  pub plain_bare : (t : Term) → plain (bare t) ≡ t
  plain_bare (node o ts) = ap (node o) (plains_bare ts)

  plains_bare : (ts : Forest ℕ) → plains (relabels (cell false) ts) ≡ ts
  plains_bare nil = refl
  plains_bare (cons t ts) = ap₂ cons (plain_bare t) (plains_bare ts)

-- PARTS
pub plain_label : (t : Marked) → label (plain t) ≡ (label t).operator
unfolding plain relabel label
plain_label (node c ts) = refl

pub plain_arguments : (t : Marked) → arguments (plain t) ≡ plains (arguments t)
unfolding plain relabel arguments
plain_arguments (node c ts) = refl

pub plain_mark : (n : ℕ) (t : Marked) → plain (mark_part n t) ≡ plain t
unfolding plain relabel mark_part mark_root
plain_mark zero (node c ts) = refl
plain_mark (suc n) (node c ts) = refl

pub plain_subterm : (p : Position) (t : Marked) → plain (subterm p t) ≡ subterm p (plain t)
unfolding plain
plain_subterm p t = relabel_subterm (λ (c : Cell). c.operator) p t

pub plain_replace : (p : Position) (s t : Marked) → plain (replace p s t) ≡ replace p (plain s) (plain t)
unfolding plain
plain_replace p s t = relabel_replace (λ (c : Cell). c.operator) p s t

pub plain_mark_at : (n : ℕ) (p : Position) (t : Marked) → plain (mark_at n p t) ≡ plain t
unfolding mark_at
plain_mark_at n p t =
    plain_replace p (mark_part n (subterm p t)) t
    ∙ ap (λ (x : Term). replace p x (plain t)) (plain_mark n (subterm p t) ∙ plain_subterm p t)
    ∙ replace_same p (plain t)

pub plain_size : (t : Marked) → size (plain t) ≡ size t
unfolding plain
plain_size t = relabel_size (λ (c : Cell). c.operator) t

-- MATCHING

unfoldable pub plain? : Option Marked → Option Term
plain? none = none
plain? (some t) = some (plain t)

-- the second bindings are the first without marks
abbrev Unmarks : Bindings Cell → Bindings ℕ → Type 0
Unmarks f g = (v : ℕ) → plain? (f v) ≡ g v

abbrev Unmark? : Option (Bindings Cell) → Option (Bindings ℕ) → Type 0
Unmark? none none = Unit {0}
Unmark? none (some g) = ⊥
Unmark? (some f) none = ⊥
Unmark? (some f) (some g) = Unmarks f g

-- equality symbol by symbol doesn't see marks
mutual
  unfolding same plain relabel

  pub same_plain : (t u : Marked) → same operators (plain t) (plain u) ≡ same cells t u
  same_plain (node c ts) (node d us) =
      ap (λ (x : Bool). elim (eqb c.operator d.operator) as (λ b. Bool) [ true ↦ x | false ↦ false ]) (sames_plain ts us)

  sames_plain : (ts us : Forest Cell) → sames operators (plains ts) (plains us) ≡ sames cells ts us
  sames_plain nil nil = refl
  sames_plain nil (cons u us) = refl
  sames_plain (cons t ts) nil = refl
  sames_plain (cons t ts) (cons u us) =
      ap₂ (λ (x y : Bool). elim x as (λ b. Bool) [ true ↦ y | false ↦ false ]) (same_plain t u) (sames_plain ts us)

bind_unmarks : (v : ℕ) (t : Marked) (f : Bindings Cell) (g : Bindings ℕ) → Unmarks f g → Unmarks (bind v t f) (bind v (plain t) g)
unfolding bind plain?
bind_unmarks v t f g h w = go (eqb v w)
  where
    go : (b : Bool) → plain? (elim b as (λ b. Option Marked) [ true ↦ some t | false ↦ f w ])
        ≡ elim b as (λ b. Option Term) [ true ↦ some (plain t) | false ↦ g w ]
    go true = refl
    go false = h w

-- where one test decides both
if_unmarks : (b : Bool) (m : Option (Bindings Cell)) (n : Option (Bindings ℕ)) → Unmark? m n →
    Unmark? (elim b as (λ b. Option (Bindings Cell)) [ true ↦ m | false ↦ none ]) (elim b as (λ b. Option (Bindings ℕ)) [ true ↦ n | false ↦ none ])
if_unmarks true m n h = h
if_unmarks false m n h = tt

then_unmarks : (m : Option (Bindings Cell)) (n : Option (Bindings ℕ)) (k : Bindings Cell → Option (Bindings Cell))
    (l : Bindings ℕ → Option (Bindings ℕ)) → Unmark? m n → ((f : Bindings Cell) (g : Bindings ℕ) → Unmarks f g → Unmark? (k f) (l g)) →
    Unmark? (and_then m k) (and_then n l)
unfolding and_then
then_unmarks none none k l h q = tt
then_unmarks none (some g) k l h q = absurd h
then_unmarks (some f) none k l h q = absurd h
then_unmarks (some f) (some g) k l h q = q f g h

meet_unmarks : (x : Option Marked) (v : ℕ) (t : Marked) (f : Bindings Cell) (g : Bindings ℕ) → Unmarks f g →
    Unmark? (meet cells x v t f) (meet operators (plain? x) v (plain t) g)
unfolding meet plain?
meet_unmarks none v t f g h = bind_unmarks v t f g h
meet_unmarks (some u) v t f g h =
    rw (same_plain u t, meet) (if_unmarks (same cells u t) (some f) (some g) h)

mutual
  unfolding match match_over plain relabel

  match_unmarks : (s : Side) (t : Marked) (f : Bindings Cell) (g : Bindings ℕ) → Unmarks f g → Unmark? (match_over cells s t f) (match s (plain t) g)
  match_unmarks (node (Symbol.operator o) ss) (node c ts) f g h =
      if_unmarks (eqb o c.operator) (matches_over cells ss ts f) (matches_over operators ss (plains ts) g) (matches_unmarks ss ts f g h)
  match_unmarks (node (Symbol.variable v) ss) t f g h =
      subst (λ (x : Option Term). Unmark? (meet cells (f v) v t f) (meet operators x v (plain t) g)) (h v) (meet_unmarks (f v) v t f g h)

  matches_unmarks : (ss : Forest Symbol) (ts : Forest Cell) (f : Bindings Cell) (g : Bindings ℕ) → Unmarks f g →
      Unmark? (matches_over cells ss ts f) (matches_over operators ss (plains ts) g)
  matches_unmarks nil nil f g h = h
  matches_unmarks nil (cons t ts) f g h = tt
  matches_unmarks (cons s ss) nil f g h = tt
  matches_unmarks (cons s ss) (cons t ts) f g h =
      then_unmarks (match_over cells s t f) (match s (plain t) g) (matches_over cells ss ts) (matches_over operators ss (plains ts))
      (match_unmarks s t f g h) (λ f' g' h'. matches_unmarks ss ts f' g' h')

bound_plain : (x : Option Marked) → plain (bound cells x) ≡ bound operators (plain? x)
unfolding bound plain? plain relabel
bound_plain none = refl
bound_plain (some t) = refl

-- a side filled with parts is, without the marks, the side filled with those parts without theirs
mutual
  unfolding fill fill_over plain relabel

  fill_unmarks : (s : Side) (f : ℕ → Marked) (g : Filling) → ((v : ℕ) → plain (f v) ≡ g v) → plain (fill_over cells f s) ≡ fill g s
  fill_unmarks (node (Symbol.operator o) ss) f g h = ap (node o) (fills_unmarks ss f g h)
  fill_unmarks (node (Symbol.variable v) ss) f g h = h v

  fills_unmarks : (ss : Forest Symbol) (f : ℕ → Marked) (g : Filling) → ((v : ℕ) → plain (f v) ≡ g v) →
      plains (fills_over cells f ss) ≡ fills_over operators g ss
  fills_unmarks nil f g h = refl
  fills_unmarks (cons s ss) f g h = ap₂ cons (fill_unmarks s f g h) (fills_unmarks ss f g h)

-- REWRITING

-- rewriting doesn't see marks
pub rewrite_plain : (rs : List Rule) (t : Marked) → rewrite rs (plain t) ≡ plain? (rewrite_over cells rs t)
unfolding rewrite rewrite_over match fill plain?
rewrite_plain [] t = refl
rewrite_plain (r ∷ rs) t =
    go (match_over cells r.left t blank) (match r.left (plain t) blank) (match_unmarks r.left t blank blank (λ v. refl)) (rewrite_plain rs t)
  where
    go : (m : Option (Bindings Cell)) (n : Option (Bindings ℕ)) → Unmark? m n → rewrite rs (plain t) ≡ plain? (rewrite_over cells rs t) →
        elim n as (λ n. Option Term) [ none ↦ rewrite rs (plain t) | some g ↦ some (fill (filling g) r.right) ]
        ≡ plain? (elim m as (λ m. Option Marked) [ none ↦ rewrite_over cells rs t | some f ↦ some (fill_over cells (λ v. bound cells (f v)) r.right) ])
    go none none h q = q
    go none (some g) h q = absurd h
    go (some f) none h q = absurd h
    go (some f) (some g) h q =
        ap some (sym (fill_unmarks r.right (λ v. bound cells (f v)) (filling g) (λ v. bound_plain (f v) ∙ ap (bound operators) (h v))))

pub plain_none : (rs : List Rule) (t : Marked) → rewrite_over cells rs t ≡ none → rewrite rs (plain t) ≡ none
unfolding plain?
plain_none rs t e = rewrite_plain rs t ∙ ap plain? e

pub plain_some : (rs : List Rule) (t r : Marked) → rewrite_over cells rs t ≡ some r → rewrite rs (plain t) ≡ some (plain r)
unfolding plain?
plain_some rs t r e = rewrite_plain rs t ∙ ap plain? e

-- ARITIES

-- a symbol's arity is its operator's
abbrev pub arities : Book → Cell → ℕ
arities B c = arity B c.operator

module _ (B : Book) where
  pub correct_plain : (t : Marked) → Correct (arities B) t → Correct (arity B) (plain t)
  unfolding plain
  correct_plain = relabel_correct (λ (c : Cell). c.operator) (arities B) (arity B) (λ c. refl)

  pub plain_correct : (t : Marked) → Correct (arity B) (plain t) → Correct (arities B) t
  unfolding plain
  plain_correct = correct_relabel (λ (c : Cell). c.operator) (arities B) (arity B) (λ c. refl)

  pub mark_correct : (n : ℕ) (t : Marked) → Correct (arities B) t → Correct (arities B) (mark_part n t)
  mark_correct n t h = plain_correct (mark_part n t) (rw (plain_mark n t) (correct_plain t h))

  pub bare_correct : (t : Term) → Correct (arity B) t → Correct (arities B) (bare t)
  bare_correct t h = plain_correct (bare t) (rw (plain_bare t) h)

  -- the term that a rule gives has the right arities
  pub rewrite_cells_correct : All (SoundRule B) B.rules → (t r : Marked) → Correct (arities B) t → rewrite_over cells B.rules t ≡ some r → Correct (arities B) r
  rewrite_cells_correct ss t r h e = plain_correct r (rewrite_correct B ss (plain t) (plain r) (correct_plain t h) (plain_some B.rules t r e))
