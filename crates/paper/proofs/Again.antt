-- Reducing the result of a finished reduction makes no rewrite and leaves it alike (document 02, Change 10, its first claim). A result is a normal
-- form: its strategy is empty, or no rule matches it and the arguments that its strategy names are normal forms. Assumes nothing.
use mathlib.Core.Bool.{Bool, true, false}
use mathlib.Core.List.{List, [], ◌∷◌}
use mathlib.Core.Logic.{◌⊎◌, inl, inr, ◌≢◌}
use mathlib.Core.Option.{none}
use mathlib.Core.Path.{◌≡◌, refl, sym, subst}
use Prim.Native.Nat.{ℕ, ◌<◌}
use Rattle.paper.specs.Result.{accepted}
use Rattle.paper.specs.Tree.{node, label, arguments, count, pick, subterm, change, replace}
use Rattle.paper.specs.Strategy.{Item, Step, group_steps, layout}
use Rattle.paper.specs.Book.{Term, Book, strategy, steps}
use Rattle.paper.specs.Dated.{AnyBook, read_any, on_day}
use Rattle.paper.specs.Match.{rewrite}
use Rattle.paper.specs.Reduction.{Weight, rewrites}
use Rattle.paper.specs.Sound.{EndsAfter, Sound}
use Rattle.paper.specs.Change10.{Alike}
use Rattle.paper.proofs.Dated.{day_sound}
use Rattle.paper.proofs.Steps.{Run, run_figure, figure_run}
use Rattle.paper.proofs.Tests.{eqb_cases}
use Rattle.paper.proofs.Trees.{count_change, pick_changed, pick_other, replace_same}

-- STEPS THAT END IN WHOLE

-- the last step is a WHOLE, behind a step that is one or not
abbrev pub Ends : Bool → List Step → Type 0
Ends true [] = Unit {0}
Ends false [] = ⊥
Ends b (Step.visit i ∷ ss) = Ends false ss
Ends b (Step.fork i ∷ ss) = Ends false ss
Ends b (Step.join c ∷ ss) = Ends false ss
Ends b (Step.whole ∷ ss) = Ends true ss

group_ends : (b : Bool) (js : List ℕ) (c : ℕ) (ss : List Step) → Ends false ss → Ends b (group_steps js (Step.join c ∷ ss))
unfolding group_steps
group_ends b [] c ss h = h
group_ends b (i ∷ []) c ss h = h
group_ends b (i ∷ j ∷ js) c ss h = group_ends false (j ∷ js) c ss h

layout_ends : (b : Bool) (is : List Item) → EndsAfter b is → Ends b (layout is)
unfolding layout
layout_ends true [] h = tt
layout_ends false [] h = h
layout_ends b (Item.whole ∷ is) h = layout_ends true is h
layout_ends b (Item.argument i ∷ is) h = layout_ends false is h
layout_ends b (Item.group js ∷ is) h = group_ends b js _ (layout is) (layout_ends false is h)

-- the steps of a strategy, which is empty or ends in 0
pub steps_end : (B : Book) → Sound B → (o : ℕ) → Ends true (steps B o)
unfolding steps
steps_end B sound o = layout_ends true (strategy B o) (sound.ends o)

-- NORMAL FORMS

-- the argument i is named
abbrev pub Named : ℕ → List Step → Type 0
Named i [] = ⊥
Named i (Step.visit j ∷ ss) = (i ≡ j) ⊎ Named i ss
Named i (Step.fork j ∷ ss) = (i ≡ j) ⊎ Named i ss
Named i (Step.join c ∷ ss) = Named i ss
Named i (Step.whole ∷ ss) = Named i ss

pub data Normal (B : Book) : Term → Type 0 where
  untouched : {t : Term} → steps B (label t) ≡ [] → Normal B t
  unmatched : {t : Term} → rewrite B.rules t ≡ none → ((i : ℕ) → Named i (steps B (label t)) → i < count (arguments t)) →
      ((i : ℕ) → Named i (steps B (label t)) → Normal B (subterm (i ∷ []) t)) → Normal B t

-- A RESULT IS A NORMAL FORM
module _ (B : Book) where
  -- no rule matches the term, where the step before was a WHOLE; or there was no step
  abbrev Missed : Bool → Term → Type 0
  Missed true t = (rewrite B.rules t ≡ none) ⊎ (steps B (label t) ≡ [])
  Missed false t = Unit {0}

  -- the argument i is there, and a normal form
  abbrev Done : ℕ → Term → Type 0
  Done i t = (i < count (arguments t)) × Normal B (subterm (i ∷ []) t)

  -- a term whose VISIT has just been carried out
  first_step : (t : Term) (ss : List Step) → Ends true ss → steps B (label t) ≡ ss → (b : Bool) × Ends b ss × Missed b t
  first_step t [] h e = (true, h, inr e)
  first_step t (Step.visit i ∷ ss) h e = (false, h, tt)
  first_step t (Step.fork i ∷ ss) h e = (false, h, tt)
  first_step t (Step.join c ∷ ss) h e = (false, h, tt)
  first_step t (Step.whole ∷ ss) h e = (false, h, tt)

  -- when argument i has become the normal form s
  done_after : (t s : Term) (i : ℕ) → i < count (arguments t) → Normal B s → (j : ℕ) → (i ≡ j) ⊎ Done j t → Done j (replace (i ∷ []) s t)
  unfolding subterm replace label arguments
  done_after (node o ts) s i h n j k = elim (eqb_cases j i) [ inl p ↦ same p.1 | inr p ↦ other p.1 k ]
    where
      u : Term
      u = node o (change i (replace [] s) ts)

      same : j ≡ i → (j < count (change i (replace [] s) ts)) × Normal B (pick u j (change i (replace [] s) ts))
      same e = rw (e, count_change i (replace [] s) ts, pick_changed u u i (replace [] s) ts h) (h, n)

      other : j ≢ i → (i ≡ j) ⊎ Done j (node o ts) → (j < count (change i (replace [] s) ts)) × Normal B (pick u j (change i (replace [] s) ts))
      other ne (inl e) = absurd (ne (sym e))
      other ne (inr d) = rw (count_change i (replace [] s) ts, pick_other u (node o ts) i j (replace [] s) ts ne d.0) d

  -- what is named is still to be reduced or is a normal form, also behind that
  still_named : (t s : Term) (i : ℕ) (ss : List Step) → i < count (arguments t) → Normal B s →
      ((j : ℕ) → Named j (steps B (label t)) → ((j ≡ i) ⊎ Named j ss) ⊎ Done j t) →
      (j : ℕ) → Named j (steps B (label (replace (i ∷ []) s t))) → Named j ss ⊎ Done j (replace (i ∷ []) s t)
  unfolding replace label
  still_named t s i ss h n k j m = go (k j m)
    where
      go : ((j ≡ i) ⊎ Named j ss) ⊎ Done j t → Named j ss ⊎ Done j (replace (i ∷ []) s t)
      go (inl (inl e)) = inr (done_after t s i h n j (inl (sym e)))
      go (inl (inr m)) = inl m
      go (inr d) = inr (done_after t s i h n j (inr d))

module _ {B : Book} {w : Weight} (ends : (o : ℕ) → Ends true (steps B o)) where
  -- each argument that the strategy names is still to be reduced, or is a normal form
  normal_after : {t u : Term} {ss : List Step} {n : ℕ} → Run B w t ss n u → (b : Bool) → Ends b ss → Missed B b t →
      ((i : ℕ) → Named i (steps B (label t)) → Named i ss ⊎ Done B i t) → Normal B u
  normal_after (Run.stop {t = t}) true e (inl m) k = unmatched m (λ i h. elim (k i h) [ inl x ↦ absurd x | inr d ↦ d.0 ]) (λ i h. elim (k i h) [ inl x ↦ absurd x | inr d ↦ d.1 ])
  normal_after (Run.stop {t = t}) true e (inr m) k = untouched m
  normal_after (Run.stop {t = t}) false e m k = absurd e
  normal_after (Run.visit {t = t} {s = s} {i = i} {ss = ss} h q r) b e m k =
      let (c, f, l) = first_step B (subterm (i ∷ []) t) _ (ends _) refl in
      let n = normal_after q c f l (λ j x. inl x) in
      normal_after r false e tt (still_named B t s i ss h n k)
  normal_after (Run.fork r) b e m k = normal_after r b e m k
  normal_after (Run.join r) b e m k = normal_after r false e tt k
  normal_after (Run.hit {r = x} p q) b e m k =
      let (c, f, l) = first_step B x _ (ends _) refl in normal_after q c f l (λ j x. inl x)
  normal_after (Run.miss p r) b e m k = normal_after r true e (inl p) k

  pub result_normal : {t u : Term} {n : ℕ} → Run B w t (steps B (label t)) n u → Normal B u
  result_normal {t} r = let (c, f, l) = first_step B t _ (ends _) refl in normal_after r c f l (λ j x. inl x)

-- A NORMAL FORM IS REDUCED TO ITSELF, with no rewrite
module _ (B : Book) where
  -- the argument i of t is there, and is reduced to itself
  abbrev Stays : Term → ℕ → Type 0
  Stays t i = let x = subterm (i ∷ []) t in (i < count (arguments t)) × Run B rewrites x (steps B (label x)) 0 x

  visit_stays : (t : Term) (i : ℕ) (ss : List Step) → Stays t i → Run B rewrites t ss 0 t → Run B rewrites t (Step.visit i ∷ ss) 0 t
  visit_stays t i ss (h, q) r = Run.visit h q (subst (λ (x : Term). Run B rewrites x ss 0 t) (sym (replace_same (i ∷ []) t)) r)

  steps_stay : (t : Term) → rewrite B.rules t ≡ none → (ss : List Step) → ((i : ℕ) → Named i ss → Stays t i) → Run B rewrites t ss 0 t
  steps_stay t e [] k = Run.stop
  steps_stay t e (Step.visit i ∷ ss) k = visit_stays t i ss (k i (inl refl)) (steps_stay t e ss (λ j m. k j (inr m)))
  steps_stay t e (Step.fork i ∷ ss) k = Run.fork (visit_stays t i ss (k i (inl refl)) (steps_stay t e ss (λ j m. k j (inr m))))
  steps_stay t e (Step.join c ∷ ss) k = Run.join (steps_stay t e ss k)
  steps_stay t e (Step.whole ∷ ss) k = Run.miss e (steps_stay t e ss k)

module _ {B : Book} where
  pub normal_run : {t : Term} → Normal B t → Run B rewrites t (steps B (label t)) 0 t
  normal_run (untouched {t = t} e) = rw e Run.stop
  normal_run (unmatched {t = t} e h k) = steps_stay B t e (steps B (label t)) (λ i m. (h i m, normal_run (k i m)))

-- THE FIRST CLAIM OF CHANGE 10

pub reduced_again : (B : Book) → Sound B → Alike B
reduced_again B sound w t u n r = let (m, e, q) = figure_run r in run_figure (normal_run (result_normal (steps_end B sound) q))

-- for every accepted book, on every day
pub again_alike : (bytes : List ℕ) (A : AnyBook) → read_any bytes ≡ accepted A → (d : ℕ) → Alike (on_day d A)
again_alike bytes A e d = reduced_again (on_day d A) (day_sound bytes A e d)
