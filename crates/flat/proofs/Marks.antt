-- Marks on lists: a term's marks stand at its symbols' offsets, so the mark of a part is put at the part's offset, and where a part gives way to a rule's right
-- side the marks of the copies are spliced in with their symbols (document 02, Change 10: "copies take the mark along"). Assumes nothing.
use mathlib.Core.Bool.{Bool, true, false}
use mathlib.Core.List.{List, [], ◌∷◌, ◌++◌, map, map-append}
use mathlib.Core.Path.{◌≡◌, refl, sym, ◌∙◌, ap, ap₂, subst}
use Prim.Native.Nat.{ℕ, zero, suc, ◌+◌}
use lib.ListN.{get_or, length, take, drop, length-map, get_or-map}
use lib.ListN.{set as put}
use lib.Seq.{set-get_or}
use Rattle.paper.specs.Tree.{node, label, arguments, preorder, size, Correct, Position, subterm, replace}
use Rattle.paper.specs.Book.{Symbol, Term, Book, arity, steps}
use Rattle.paper.specs.Match.{rewrite_over}
use Rattle.paper.specs.Marks.{Cell, cell, Marked, cells, plain, bare, unless_marked, to_do, mark_root, mark_part, mark_at}
use Rattle.paper.specs.Sound.{All, SoundRule}
use Rattle.paper.proofs.Marks.{plain_label, plain_mark, plain_correct}
use Rattle.flat.specs.Symbols.{Binding, symbols_in, fill_over, fill, fill_marks, rewrite, splice}
use Rattle.flat.specs.Machine as Flat
use Rattle.flat.specs.Machine.{mark}
use Rattle.flat.specs.Relation.{Valid, offset, marks_of}
use Rattle.flat.proofs.Relabel.{map_take, map_drop, relabel_preorder, relabel_size, relabel_subterm, relabel_replace, relabel_valid, relabel_offset}
use Rattle.flat.proofs.Offsets.{drop_offset, label_at, symbol_at, put_label, replace_own, splice_replace, correct_subterm}
use Rattle.flat.proofs.Matching.{HitsOver, rewrite_over_hits}
use Rattle.flat.proofs.Stacks.{map_put}

-- WITHOUT THE MARKS: the same symbols, at the same offsets

abbrev operator_of : Cell → ℕ
operator_of c = c.operator

abbrev mark_of : Cell → Bool
mark_of c = c.marked

plain_preorder : (w : Marked) → preorder (plain w) ≡ map operator_of (preorder w)
unfolding plain
plain_preorder = relabel_preorder operator_of

pub plain_size : (w : Marked) → size (plain w) ≡ size w
unfolding plain
plain_size = relabel_size operator_of

pub plain_subterm : (p : Position) (w : Marked) → plain (subterm p w) ≡ subterm p (plain w)
unfolding plain
plain_subterm = relabel_subterm operator_of

pub plain_replace_at : (p : Position) (y w : Marked) → plain (replace p y w) ≡ replace p (plain y) (plain w)
unfolding plain
plain_replace_at = relabel_replace operator_of

marked_valid : (p : Position) (w : Marked) → Valid p (plain w) → Valid p w
unfolding plain
marked_valid = relabel_valid operator_of

plain_offset : (p : Position) (w : Marked) → offset p (plain w) ≡ offset p w
unfolding plain
plain_offset = relabel_offset operator_of

plain_part_size : (p : Position) (w : Marked) → size (subterm p (plain w)) ≡ size (subterm p w)
plain_part_size p w = ap size (sym (plain_subterm p w)) ∙ plain_size (subterm p w)

pub plain_mark_at : (n : ℕ) (p : Position) (w : Marked) → plain (mark_at n p w) ≡ plain w
unfolding mark_at
plain_mark_at n p w =
    plain_replace_at p (mark_part n (subterm p w)) w ∙ ap (λ (x : Term). replace p x (plain w)) (plain_mark n (subterm p w) ∙ plain_subterm p w) ∙ replace_own p (plain w)

pub mark_at_size : (n : ℕ) (p : Position) (w : Marked) → size (mark_at n p w) ≡ size w
mark_at_size n p w = sym (plain_size (mark_at n p w)) ∙ ap size (plain_mark_at n p w) ∙ plain_size w

-- MARKS AT OFFSETS

-- each symbol is marked or not
pub marks_length : (w : Marked) → length (marks_of w) ≡ length (preorder (plain w))
marks_length w = length-map (preorder w) mark_of ∙ sym (ap length (plain_preorder w) ∙ length-map (preorder w) operator_of)

bare_marks : (xs : List ℕ) → map mark_of (map (cell false) xs) ≡ map (λ o. false) xs
bare_marks [] = refl
bare_marks (x ∷ xs) = ap (λ (ms : List Bool). false ∷ ms) (bare_marks xs)

-- a term with no marks
pub marks_none : (t : Term) → map (λ o. false) (preorder t) ≡ marks_of (bare t)
unfolding bare
marks_none t = sym (ap (map mark_of) (relabel_preorder (cell false) t) ∙ bare_marks (preorder t))

mark_there : (p : Position) (w : Marked) → Valid p (plain w) → get_or (marks_of w) (offset p (plain w)) false ≡ (label (subterm p w)).marked
mark_there p w v =
    ap (λ (a : ℕ). get_or (marks_of w) a false) (plain_offset p w) ∙ get_or-map mark_of (preorder w) (offset p w) (cell false 0)
    ∙ ap mark_of (label_at p w (cell false 0) (marked_valid p w v))

-- the steps that VISIT of the part at a position gives
pub to_do_at : (B : Book) (p : Position) (w : Marked) → Valid p (plain w) →
    Flat.to_do B (preorder (plain w)) (marks_of w) (offset p (plain w)) ≡ to_do B (subterm p w)
unfolding Flat.to_do to_do
to_do_at B p w v =
    ap₂ (λ (m : Bool) (o : ℕ). unless_marked m (steps B o)) (mark_there p w v)
    (symbol_at p (plain w) v ∙ ap label (sym (plain_subterm p w)) ∙ plain_label (subterm p w))

-- THE MARK OF A PART is put at its offset

mark_part_is : (n : ℕ) (x : Marked) → mark_part n x ≡ node (mark_root n (label x)) (arguments x)
unfolding mark_part label arguments
mark_part_is n (node c ts) = refl

marked_symbols : (n : ℕ) (p : Position) (w : Marked) → Valid p (plain w) →
    put (preorder w) (offset p w) (mark_root n (label (subterm p w))) ≡ preorder (mark_at n p w)
unfolding mark_at
marked_symbols n p w v =
    put_label p w (mark_root n (label (subterm p w))) (marked_valid p w v) ∙ ap (λ (x : Marked). preorder (replace p x w)) (sym (mark_part_is n (subterm p w)))

pub mark_is : (n : ℕ) (p : Position) (w : Marked) → Valid p (plain w) → mark n (offset p (plain w)) (marks_of w) ≡ marks_of (mark_at n p w)
unfolding mark mark_root
mark_is zero p w v =
    ap (λ (a : ℕ). put (marks_of w) a true) (plain_offset p w) ∙ map_put mark_of (preorder w) (offset p w) (mark_root zero (label (subterm p w)))
    ∙ ap (map mark_of) (marked_symbols zero p w v)
mark_is (suc n) p w v =
    ap (map mark_of)
    (sym (set-get_or (preorder w) (offset p w) (cell false 0))
    ∙ ap (put (preorder w) (offset p w)) (label_at p w (cell false 0) (marked_valid p w v)) ∙ marked_symbols (suc n) p w v)

-- A PART GIVES WAY to another: its marks give way to the other's

splice_map : {A C : Type 0} (f : A → C) (a e : ℕ) (ys xs : List A) → splice a e (map f ys) (map f xs) ≡ map f (splice a e ys xs)
unfolding splice
splice_map f a e ys xs =
    ap₂ (λ (x z : List _). x ++ (map f ys ++ z)) (sym (map_take f a xs)) (sym (map_drop f e xs))
    ∙ sym (map-append f (take a xs) (ys ++ drop e xs) ∙ ap (λ (z : List _). map f (take a xs) ++ z) (map-append f ys (drop e xs)))

pub marks_replace : (p : Position) (y w : Marked) → Valid p (plain w) →
    let t = plain w in splice (offset p t) (offset p t + size (subterm p t)) (marks_of y) (marks_of w) ≡ marks_of (replace p y w)
marks_replace p y w v =
    ap₂ (λ (a n : ℕ). splice a (a + n) (marks_of y) (marks_of w)) (plain_offset p w) (plain_part_size p w)
    ∙ splice_map mark_of (offset p w) (offset p w + size (subterm p w)) (preorder y) (preorder w)
    ∙ ap (map mark_of) (splice_replace p w y (marked_valid p w v))

-- A RIGHT SIDE FILLED

fill_map : {A C : Type 0} (g : A → C) (new : ℕ → A) (ss : List Symbol) (b : Binding) (xs : List A) →
    fill_over (λ o. g (new o)) ss b (map g xs) ≡ map g (fill_over new ss b xs)
unfolding fill_over
fill_map g new [] b xs = refl
fill_map g new (Symbol.operator o ∷ ss) b xs = ap (λ (z : List _). g (new o) ∷ z) (fill_map g new ss b xs)
fill_map g new (Symbol.variable v ∷ ss) b xs =
    ap₂ (λ (x z : List _). x ++ z) (ap (take (b v).size) (sym (map_drop g (b v).start xs)) ∙ sym (map_take g (b v).size (drop (b v).start xs)))
    (fill_map g new ss b xs)
    ∙ sym (map-append g (symbols_in (b v) xs) (fill_over new ss b xs))

module _ (right : List Symbol) (b : Binding) (w y : Marked) (e : fill_over (cell false) right b (preorder w) ≡ preorder y) where
  pub filled_symbols : fill right b (preorder (plain w)) ≡ preorder (plain y)
  filled_symbols =
      ap (fill right b) (plain_preorder w) ∙ fill_map operator_of (cell false) right b (preorder w) ∙ ap (map operator_of) e ∙ sym (plain_preorder y)

  pub filled_marks : fill_marks right b (marks_of w) ≡ marks_of y
  filled_marks = fill_map mark_of (cell false) right b (preorder w) ∙ ap (map mark_of) e

-- the rule that is found where a marked part stands
pub part_hits : (B : Book) → All (SoundRule B) B.rules → (p : Position) (w : Marked) → Correct (arity B) (plain w) → Valid p (plain w) →
    let t = plain w in
    HitsOver cells (preorder w) (offset p t + size (subterm p t)) (rewrite (arity B) B.rules (offset p t) (preorder t)) (rewrite_over cells B.rules (subterm p w))
part_hits B sound p w c v =
    let (r, d) = drop_offset p w (marked_valid p w v) in
    let k : Correct (λ x. arity B (operator_of x)) (subterm p w) =
    plain_correct B (subterm p w) (subst (Correct (arity B)) (sym (plain_subterm p w)) (correct_subterm (arity B) p (plain w) v c)) in
    let h = rewrite_over_hits B cells B.rules sound (subterm p w) k (offset p w) r (preorder w) d in
    rw (plain_offset p w, plain_part_size p w, plain_preorder w) h
