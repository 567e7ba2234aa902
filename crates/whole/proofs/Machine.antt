-- The answers of WHOLE are the outcomes of do_whole of the machine on lists. Assumes nothing.
use mathlib.Core.Bool.{Bool, true, false}
use mathlib.Core.List.{List, ◌∷◌, map}
use mathlib.Core.Path.{◌≡◌, refl, sym, ap, ◌∙◌}
use Prim.Native.Nat.{ℕ, suc, ◌+◌, ◌-◌, ◌≤◌}
use native.Mathlib.Omega.{arith}
use lib.ListN.{length, drop, length-drop, length-map}
use lib.ListN.{set as put}
use borrow.Author.Tests.{le-ltb}
use Rattle.paper.specs.Strategy.{Step}
use Rattle.paper.specs.Book.{Symbol, Book, arity}
use Rattle.paper.specs.Machine.{Ending}
use Rattle.flat.specs.Symbols.{Binding, Hit, fill, fill_marks, rewrite, splice}
use Rattle.flat.specs.Sizes as flat
use Rattle.flat.specs.Sizes.{resize}
use Rattle.flat.specs.Machine.{Frame, FlatUnit, flat_unit, unit, FlatState, FlatOutcome, going, ended, shift_unit, with_unit, with_marks, proceed, mark, do_rewrite, do_whole}
use Rattle.symbol.specs.Record.{operator}
use Rattle.term.specs.Present.{length_in, operators_in, marks_in, sizes_in, Sized}
use Rattle.term.specs.Promises.{Loaded}
use Rattle.term.proofs.Sized.{loaded_operators, loaded_marks, loaded_sized}
use Rattle.net.specs.Net.{book_by}
use Rattle.lookup.specs.Promises.{Present}
use Rattle.units.specs.Promises.{StacksFit, topped, at}
use Rattle.whole.specs.State.{Arrays, state, limits}
use Rattle.whole.specs.Promises.{spent, over, RuleGives, RightFits, Rewritten, CarriedOut}
use Rattle.whole.specs.declared.Progress as P
use Rattle.whole.specs.declared.Limits as L
use Rattle.whole.specs.declared.Place as Pl
use Rattle.whole.specs.declared.Filled as F
use Rattle.whole.specs.declared.Whole as W
use Rattle.whole.proofs.Terms.{length_is, new_term, new_sizes}

-- do_whole by its conditions
module _ (B : Book) (x : Pl.Place) (p : P.Progress) (l : L.Limits) (s : Arrays) (placed : List ℕ) (k c : ℕ) (ss : List Step) (fs : List Frame) where
  abbrev a : ℕ
  a = x.offset

  abbrev t : FlatState
  t = state s p l placed

  abbrev found : Hit
  found = rewrite (arity B) B.rules a t.symbols

  abbrev whole : FlatOutcome
  whole = do_whole B (limits l) x.unit t a k c ss fs found

  on_miss : found ≡ Hit.miss → whole ≡ going (with_marks (with_unit t x.unit 0 (proceed a (suc k) c ss fs)) (mark (length ss) a t.marks))
  unfolding do_whole
  on_miss e = rw e

  module _ {right : List Symbol} {b : Binding} {e : ℕ} (h : found ≡ Hit.hit right b e) where
    abbrev new : List ℕ
    new = fill right b t.symbols

    on_spent : spent p l ≡ true → whole ≡ ended Ending.spent t
    unfolding do_whole do_rewrite
    on_spent i = rw (h, i)

    on_full : spent p l ≡ false → over a t.symbols new e ≡ true → whole ≡ ended Ending.full t
    unfolding do_whole do_rewrite
    on_full i j = rw (h, i, j)

    on_rewritten : (xs zs : List ℕ) (ms : List Bool) (us : List FlatUnit) (f : Frame) → spent p l ≡ false → over a t.symbols new e ≡ false →
        unit t.units x.unit ≡ flat_unit 0 (f ∷ fs) → xs ≡ splice a e new t.symbols → zs ≡ resize a e (flat.sizes (arity B) new) t.sizes →
        ms ≡ splice a e (fill_marks right b t.marks) t.marks →
        us ≡ map (shift_unit a e (length new)) (at x.unit (topped (Frame.job a 0 0)) t.units) →
        whole ≡ going (record { symbols = xs; sizes = zs; marks = ms; units = us; rewrites = suc t.rewrites; granted = t.granted; kept = t.kept; placed = placed })
    unfolding do_whole do_rewrite
    on_rewritten xs zs ms us f i j top q w m r =
        let z : at x.unit (topped (Frame.job a 0 0)) t.units ≡ put t.units x.unit (flat_unit 0 (Frame.job a 0 0 ∷ fs)) =
        ap (λ (y : FlatUnit). put t.units x.unit (topped (Frame.job a 0 0) y)) top in
        rw (h, i, j, q, w, m, r, z)

module _ {bytes operators net : List ℕ} (x : Pl.Place) (p : P.Progress) (l : L.Limits) (s : Arrays)
    (here : Present bytes operators net s.symbols x.offset) where
  abbrev B : Book
  B = book_by bytes net

  abbrev xs : List ℕ
  xs = operators_in s.symbols

  -- nothing has changed
  module _ (fit : StacksFit s.store) where
    pub missed : rewrite (arity B) B.rules x.offset xs ≡ Hit.miss → CarriedOut B x p l s s W.Whole.Missed
    missed h = record { is = λ vs k c ss f fs top. on_miss B x p l s vs k c ss fs h; stays = refl; long = here.sized.long; most = here.sized.most; fit = fit }

    pub spends : RuleGives B x.offset xs (λ ys e. spent p l ≡ true) → CarriedOut B x p l s s W.Whole.Spent
    spends g = record {
      is = λ vs k c ss f fs top. on_spent B x p l s vs k c ss fs g.hit g.so;
      stays = refl;
      long = here.sized.long;
      most = here.sized.most;
      fit = fit;
    }

    pub fills : RuleGives B x.offset xs (λ ys e. (spent p l ≡ false) × (over x.offset xs ys e ≡ true)) → CarriedOut B x p l s s W.Whole.Full
    fills g = record {
      is = λ vs k c ss f fs top. on_full B x p l s vs k c ss fs g.hit g.so.0 g.so.1;
      stays = refl;
      long = here.sized.long;
      most = here.sized.most;
      fit = fit;
    }

  -- a right side that fits replaces the term
  module _ {scratch : List ℕ} {f : F.Filled} {s' : Arrays} (scratch_long : length scratch ≡ 1024) (r : RightFits B x.offset p l s.symbols scratch f)
      (q : Rewritten x (drop (1024 - f.size) scratch) f.size f.end l.units s s') where
    abbrev part : List ℕ
    part = drop (1024 - f.size) scratch

    abbrev ys : List ℕ
    ys = fill r.right r.b xs

    -- the new marks
    abbrev ns : List Bool
    ns = splice x.offset f.end (fill_marks r.right r.b (marks_in s.symbols)) (marks_in s.symbols)

    abbrev n : ℕ
    n = x.offset + f.size + (length_in s.symbols - f.end)

    size_is : length ys ≡ f.size
    size_is = omega (arith, ap length r.operators_are, length-map part operator, length-drop (1024 - f.size) scratch, r.replaceable.holding.few)

    -- the new symbols are one term, with true sizes
    loaded : Loaded (arity B) (splice x.offset f.end ys xs) ns n s'.symbols
    loaded = record {
      operators_are = q.operators_are ∙ ap (λ (zs : List ℕ). splice x.offset f.end zs xs) r.operators_are;
      marks_are = q.marks_are ∙ ap (λ (zs : List Bool). splice x.offset f.end zs (marks_in s.symbols)) r.marks_are;
      sizes_are = q.sizes_are
          ∙ ap (λ (zs : List ℕ). resize x.offset f.end zs (sizes_in s.symbols)) (r.true_sizes ∙ ap (flat.sizes (arity B)) r.operators_are)
          ∙ sym (new_sizes here r.hit);
      long = q.long;
    }

    new_operators : operators_in s'.symbols ≡ splice x.offset f.end ys xs
    new_operators = loaded_operators (arity B) _ n s'.symbols r.replaceable.fits (new_term here r.hit) loaded

    new_sized : Sized (arity B) s'.symbols
    new_sized = loaded_sized (arity B) _ n s'.symbols r.replaceable.fits (new_term here r.hit) loaded

    fits : over x.offset xs ys f.end ≡ false
    fits =
        let h = r.replaceable in
        let g : length ys + (length xs - (f.end - x.offset)) ≤ 1024 =
        omega (arith, size_is, length_is here, h.fits, h.last, h.holding.first) in
        le-ltb 1024 _ g

    pub rewrote : CarriedOut B x p l s s' W.Whole.Rewrote
    rewrote = record {
      is = λ vs k c ss h fs top.
          on_rewritten B x p l s vs k c ss fs r.hit _ _ _ _ h r.left fits top new_operators
          (new_sized.true_sizes ∙ ap (flat.sizes (arity B)) new_operators ∙ new_sizes here r.hit)
          (loaded_marks (arity B) _ n s'.symbols r.replaceable.fits (new_term here r.hit) loaded) (rw size_is q.units);
      stays = tt;
      long = q.long;
      most = new_sized.most;
      fit = q.fit;
    }
