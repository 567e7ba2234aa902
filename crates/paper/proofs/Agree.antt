-- Reduction with marks makes the same rewrites as reduction without, and leads to the same term, where every marked part is a normal form; and it
-- stays so. Assumes nothing.
use mathlib.Core.Bool.{Bool, true, false}
use mathlib.Core.List.{List, [], ◌∷◌}
use mathlib.Core.Option.{Option, none, some, none-ne-some, some-injective}
use mathlib.Core.Path.{◌≡◌, refl, sym, ◌∙◌, ap, subst}
use Prim.Native.Nat.{ℕ, ◌<◌}
use native.Mathlib.Omega.{arith}
use lib.ListN.{length}
use Rattle.paper.specs.Tree.{label, arguments, count, subterm, replace}
use Rattle.paper.specs.Strategy.{Step}
use Rattle.paper.specs.Book.{Term, Book, steps}
use Rattle.paper.specs.Match.{rewrite_over, rewrite}
use Rattle.paper.specs.Marks.{Cell, Marked, cells, plain, bare, unless_marked, to_do, mark_part}
use Rattle.paper.specs.Reduction.{rewrites, Reduces}
use Rattle.paper.specs.Walk.{entered, Walk, Visits, ReducesMarked}
use Rattle.paper.specs.Sound.{Sound}
use Rattle.paper.proofs.Again.{Normal, steps_end, result_normal, normal_run}
use Rattle.paper.proofs.Figure.{one_result}
use Rattle.paper.proofs.Honest.{Honest, Honests, bare_honest, argument_honest, replace_honest, arguments_honest, mark_honest, normal_honest, marked_normal, rewrite_honest}
use Rattle.paper.proofs.Marks.{plain_bare, plain_label, plain_arguments, plain_mark, plain_subterm, plain_replace, plain?, rewrite_plain, plain_none, plain_some}
use Rattle.paper.proofs.Steps.{Run, run_figure, figure_run}
use Rattle.paper.proofs.Trees.{relabels_count}

-- an argument is there with marks and without
within_plain : (i : ℕ) (t : Marked) → i < count (arguments t) → i < count (arguments (plain t))
within_plain i t h = rw (plain_arguments t, relabels_count (λ (c : Cell). c.operator) (arguments t)) h

plain_within : (i : ℕ) (t : Marked) → i < count (arguments (plain t)) → i < count (arguments t)
plain_within i t h = rw (plain_arguments t, relabels_count (λ (c : Cell). c.operator) (arguments t)) at h

-- FROM REDUCTION WITH MARKS
module _ (B : Book) (sound : Sound B) where
  run_stops : {t u : Term} {ss : List Step} {n : ℕ} → Run B rewrites t ss n u → ss ≡ [] → (n ≡ 0) × (t ≡ u)
  run_stops Run.stop e = (refl, refl)
  run_stops (Run.visit h q r) e = let z : ◌≡◌ {A = ℕ} 0 1 = cc in absurd (omega arith)
  run_stops (Run.fork r) e = let z : ◌≡◌ {A = ℕ} 0 1 = cc in absurd (omega arith)
  run_stops (Run.join r) e = let z : ◌≡◌ {A = ℕ} 0 1 = cc in absurd (omega arith)
  run_stops (Run.hit p r) e = let z : ◌≡◌ {A = ℕ} 0 1 = cc in absurd (omega arith)
  run_stops (Run.miss p r) e = let z : ◌≡◌ {A = ℕ} 0 1 = cc in absurd (omega arith)

  -- VISIT, marked or not
  visit_plain : (t u : Marked) (n : ℕ) → Honest B t → Run B rewrites (plain (entered B t)) (to_do B t) n (plain u) → Honests B (arguments u) →
      Run B rewrites (plain t) (steps B (label (plain t))) n (plain u) × Honest B u
  unfolding to_do
  visit_plain t u n h r hs = go (label t).marked refl (rw (plain_mark (length (to_do B t)) t) at r)
    where
      go : (b : Bool) → (label t).marked ≡ b → Run B rewrites (plain t) (unless_marked b (steps B (label t).operator)) n (plain u) →
          Run B rewrites (plain t) (steps B (label (plain t))) n (plain u) × Honest B u
      go true e r =
          let k = marked_normal B t h e in
          let (p, q) = run_stops r refl in (
            subst (λ (x : Term). Run B rewrites (plain t) (steps B (label (plain t))) n x) q (subst (λ (x : ℕ). Run B rewrites (plain t) (steps B (label (plain t))) x (plain t)) (sym p) (normal_run k)),
            normal_honest B u (subst (λ (x : Term). Normal B x) q k) hs,
          )
      go false e r =
          let r' : Run B rewrites (plain t) (steps B (label (plain t))) n (plain u) = rw (plain_label t) r in
          (r', normal_honest B u (result_normal (steps_end B sound) r') hs)

  -- an argument's VISIT
  argument_plain : (i : ℕ) (t s : Marked) (n : ℕ) → let x = subterm (i ∷ []) t in
      i < count (arguments t) → Honests B (arguments t) → Run B rewrites (plain (entered B x)) (to_do B x) n (plain s) × Honests B (arguments s) →
      (i < count (arguments (plain t))) × Run B rewrites (subterm (i ∷ []) (plain t)) (steps B (label (subterm (i ∷ []) (plain t)))) n (plain s)
      × Honests B (arguments (replace (i ∷ []) s t))
  argument_plain i t s n a h (q, hs) =
      let (r, k) = visit_plain (subterm (i ∷ []) t) s n (argument_honest B i t a h) q hs in
      (within_plain i t a, subst (λ (y : Term). Run B rewrites y (steps B (label y)) n (plain s)) (plain_subterm (i ∷ []) t) r, replace_honest B i s t k h)

  entered_honest : (t : Marked) → Honest B t → Honests B (arguments (entered B t))
  entered_honest t h = mark_honest B (length (to_do B t)) t (arguments_honest B t h)

  pub walk_plain : {t u : Marked} {ss : List Step} {n : ℕ} → Walk B rewrites t ss n u → Honests B (arguments t) →
      Run B rewrites (plain t) ss n (plain u) × Honests B (arguments u)
  walk_plain Walk.stop h = (Run.stop, h)
  walk_plain (Walk.visit {t = t} {s = s} {u = u} {i = i} {n = n} {m = m} {ss = ss} a q r) h =
      let (b, y, k) = argument_plain i t s n a h (walk_plain q (entered_honest (subterm (i ∷ []) t) (argument_honest B i t a h))) in
      let (z, l) = walk_plain r k in
      (Run.visit b y (subst (λ (v : Term). Run B rewrites v ss m (plain u)) (plain_replace (i ∷ []) s t) z), l)
  walk_plain (Walk.fork r) h = let (r', h') = walk_plain r h in (Run.fork r', h')
  walk_plain (Walk.join r) h = let (r', h') = walk_plain r h in (Run.join r', h')
  walk_plain (Walk.hit {t = t} {r = x} {u = u} {n = n} e q) h =
      let k = rewrite_honest B B.rules sound.rules t x h e in
      let (y, l) = walk_plain q (entered_honest x k) in
      let (z, l') = visit_plain x u n k y l in
      (Run.hit (plain_some B.rules t x e) z, arguments_honest B u l')
  walk_plain (Walk.miss {t = t} {u = u} {n = n} {ss = ss} e r) h =
      let (r', h') = walk_plain r (mark_honest B (length ss) t h) in
      (Run.miss (plain_none B.rules t e) (subst (λ (y : Term). Run B rewrites y ss n (plain u)) (plain_mark (length ss) t) r'), h')

  -- a VISIT with marks is one without
  pub visits_plain : (t u : Marked) (n : ℕ) → Honest B t → Visits B rewrites t n u → Run B rewrites (plain t) (steps B (label (plain t))) n (plain u) × Honest B u
  visits_plain t u n h q =
      let (y, l) = walk_plain q (entered_honest t h) in visit_plain t u n h y l

-- TO REDUCTION WITH MARKS
module _ (B : Book) (sound : Sound B) where
  abbrev Walked : Marked → List Step → ℕ → Term → Type 0
  Walked t ss n v = (u : Marked) × Walk B rewrites t ss n u × (plain u ≡ v)

  plain_visit : (t : Marked) (v : Term) (n : ℕ) → Honest B t → Run B rewrites (plain t) (steps B (label (plain t))) n v →
      Walked (entered B t) (steps B (label (plain t))) n v → Walked (entered B t) (to_do B t) n v
  unfolding to_do
  plain_visit t v n h r k = go (label t).marked refl k
    where
      go : (b : Bool) → (label t).marked ≡ b → Walked (mark_part (length (unless_marked b (steps B (label t).operator))) t) (steps B (label (plain t))) n v →
          Walked (mark_part (length (unless_marked b (steps B (label t).operator))) t) (unless_marked b (steps B (label t).operator)) n v
      go true e k =
          let (p, q) = one_result (run_figure r) (run_figure (normal_run (marked_normal B t h e))) in
          let z : n ≡ 0 = omega arith in
          (mark_part 0 t, subst (λ (x : ℕ). Walk B rewrites (mark_part 0 t) [] x (mark_part 0 t)) (sym z) Walk.stop, plain_mark 0 t ∙ sym q)
      go false e k = subst (λ (x : ℕ). Walked (mark_part (length (steps B (label t).operator)) t) (steps B x) n v) (plain_label t) k

  -- what `plain?` answers comes from what it is asked
  was_some : (m : Option Marked) (v : Term) → plain? m ≡ some v → (r : Marked) × (m ≡ some r) × (plain r ≡ v)
  unfolding plain?
  was_some none v e = absurd (none-ne-some _ e)
  was_some (some r) v e = (r, refl, some-injective _ _ e)

  was_none : (m : Option Marked) → plain? m ≡ none → m ≡ none
  unfolding plain?
  was_none none e = refl
  was_none (some r) e = absurd (none-ne-some _ (sym e))

  -- the argument i of t, reduced to v without its marks
  abbrev Part : ℕ → Marked → ℕ → Term → Type 0
  Part i t n v = (s : Marked) × (i < count (arguments t)) × Visits B rewrites (subterm (i ∷ []) t) n s × Honests B (arguments (replace (i ∷ []) s t)) ×
      (replace (i ∷ []) v (plain t) ≡ plain (replace (i ∷ []) s t))

  plain_part : (i : ℕ) (t : Marked) (v : Term) (n : ℕ) → let x = subterm (i ∷ []) t in
      i < count (arguments t) → Honests B (arguments t) → Run B rewrites (plain x) (steps B (label (plain x))) n v →
      Walked (entered B x) (steps B (label (plain x))) n v → Part i t n v
  plain_part i t v n b h r k =
      let (s, y, z) = plain_visit (subterm (i ∷ []) t) v n (argument_honest B i t b h) r k in (
        s,
        b,
        y,
        replace_honest B i s t (visits_plain B sound (subterm (i ∷ []) t) s n (argument_honest B i t b h) y).1 h,
        ap (λ (q : Term). replace (i ∷ []) q (plain t)) (sym z) ∙ sym (plain_replace (i ∷ []) s t),
      )

  -- the same, from a term that is t without its marks
  part_walk : (i : ℕ) (t : Marked) (t' v : Term) (n : ℕ) → let x = subterm (i ∷ []) t in
      t' ≡ plain t → i < count (arguments t') → Honests B (arguments t) → let x' = subterm (i ∷ []) t' in
      Run B rewrites x' (steps B (label x')) n v → ((y : Marked) → x' ≡ plain y → Honests B (arguments y) → Walked y (steps B (label x')) n v) → Part i t n v
  part_walk i t t' v n e a h q k =
      let x = subterm (i ∷ []) t in
      let b : i < count (arguments t) = plain_within i t (subst (λ (y : Term). i < count (arguments y)) e a) in
      let p : subterm (i ∷ []) t' ≡ plain x = ap (subterm (i ∷ [])) e ∙ sym (plain_subterm (i ∷ []) t) in
      let k' = k (entered B x) (p ∙ sym (plain_mark (length (to_do B x)) x)) (entered_honest B sound x (argument_honest B i t b h)) in
      plain_part i t v n b h (subst (λ (y : Term). Run B rewrites y (steps B (label y)) n v) p q)
      (subst (λ (y : Term). Walked (entered B x) (steps B (label y)) n v) p k')

  pub plain_walk : {v' v : Term} {ss : List Step} {n : ℕ} → Run B rewrites v' ss n v → (t : Marked) → v' ≡ plain t → Honests B (arguments t) → Walked t ss n v
  plain_walk Run.stop t e h = (t, Walk.stop, sym e)
  plain_walk (Run.visit {t = t'} {s = s'} {i = i} {n = n} a q r) t e h =
      let (s, b, y, k, p) = part_walk i t t' s' n e a h q (λ x f k. plain_walk q x f k) in
      let (u, y', z) = plain_walk r (replace (i ∷ []) s t) (ap (λ (x : Term). replace (i ∷ []) s' x) e ∙ p) k in
      (u, Walk.visit b y y', z)
  plain_walk (Run.fork r) t e h = let (v, y, z) = plain_walk r t e h in (v, Walk.fork y, z)
  plain_walk (Run.join r) t e h = let (v, y, z) = plain_walk r t e h in (v, Walk.join y, z)
  plain_walk (Run.hit {t = t'} {r = r'} {u = u} {n = n} p q) t e h =
      let (x, f, g) = was_some (rewrite_over cells B.rules t) r' (sym (rewrite_plain B.rules t) ∙ ap (rewrite B.rules) (sym e) ∙ p) in
      let hx = rewrite_honest B B.rules sound.rules t x h f in
      let k = plain_walk q (entered B x) (sym g ∙ sym (plain_mark (length (to_do B x)) x)) (entered_honest B sound x hx) in
      let (v, y, z) =
      plain_visit x u n hx (subst (λ (y : Term). Run B rewrites y (steps B (label y)) n u) (sym g) q)
      (subst (λ (y : Term). Walked (entered B x) (steps B (label y)) n u) (sym g) k) in
      (v, Walk.hit {u = v} f y, z)
  plain_walk (Run.miss {t = t'} {ss = ss} p r) t e h =
      let f = was_none (rewrite_over cells B.rules t) (sym (rewrite_plain B.rules t) ∙ ap (rewrite B.rules) (sym e) ∙ p) in
      let (v, y, z) = plain_walk r (mark_part (length ss) t) (e ∙ sym (plain_mark (length ss) t)) (mark_honest B (length ss) t h) in
      (v, Walk.miss f y, z)

-- REDUCTION OF A TERM, with marks and without

module _ (B : Book) (sound : Sound B) (t : Term) where
  -- with marks it makes the rewrites that it makes without, and leads to the same term
  pub marked_reduces : (n : ℕ) (u : Term) → ReducesMarked B rewrites t n u → Reduces B rewrites t n u
  marked_reduces n u (v, (m, e, q), p) =
      let r = (visits_plain B sound (bare t) v m (bare_honest B t) q).0 in
      rw (e, ← p) (run_figure (subst (λ (x : Term). Run B rewrites x (steps B (label x)) m (plain v)) (plain_bare t) r))

  -- and without marks those that it makes with them
  pub reduces_marked : (n : ℕ) (u : Term) → Reduces B rewrites t n u → ReducesMarked B rewrites t n u
  reduces_marked n u r =
      let (m, e, q) = figure_run r in
      let q' = subst (λ (x : Term). Run B rewrites x (steps B (label x)) m u) (sym (plain_bare t)) q in
      let (v, y, p) =
      plain_visit B sound (bare t) u m (bare_honest B t) q'
      (plain_walk B sound q' (entered B (bare t)) (sym (plain_mark (length (to_do B (bare t))) (bare t)))
      (entered_honest B sound (bare t) (bare_honest B t))) in
      (v, (m, e, y), p)
