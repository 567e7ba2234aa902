-- Laws of reduction with marks: it has one result, and counts by every weight. Assumes nothing.
use mathlib.Core.List.{List, [], ◌∷◌}
use mathlib.Core.Option.{none-ne-some, some-injective}
use mathlib.Core.Path.{◌≡◌, refl, sym, ◌∙◌, ap, subst}
use Prim.Native.Nat.{ℕ, ◌+◌}
use native.Mathlib.Omega.{arith}
use Rattle.paper.specs.Tree.{replace}
use Rattle.paper.specs.Strategy.{Step}
use Rattle.paper.specs.Book.{Term, Book}
use Rattle.paper.specs.Marks.{Marked, plain}
use Rattle.paper.specs.Reduction.{Weight}
use Rattle.paper.specs.Walk.{Walk, Visits, ReducesMarked}

module _ {B : Book} {w : Weight} where
  pub one_walk : {t u v : Marked} {ss : List Step} {n m : ℕ} → Walk B w t ss n u → Walk B w t ss m v → (n ≡ m) × (u ≡ v)
  one_walk Walk.stop Walk.stop = (refl, refl)
  one_walk (Walk.visit {t = t} {i = i} {ss = ss} a q r) (Walk.visit {u = u'} {m = m'} a' q' r') =
      let (e, b) = one_walk q q' in
      let (e', b') = one_walk r (subst (λ (x : Marked). Walk B w (replace (i ∷ []) x t) ss m' u') (sym b) r') in
      (omega arith, b')
  one_walk (Walk.fork r) (Walk.fork r') = let (a, b) = one_walk r r' in (omega arith, b)
  one_walk (Walk.join r) (Walk.join r') = let (a, b) = one_walk r r' in (omega arith, b)
  one_walk (Walk.hit e r) (Walk.hit {u = u'} {n = n'} e' r') =
      let p = some-injective _ _ (sym e' ∙ e) in
      let (a, b) = one_walk r (subst (λ (x : Marked). Visits B w x n' u') p r') in
      (omega arith, b)
  one_walk (Walk.hit e r) (Walk.miss e' r') = absurd (none-ne-some _ (sym e' ∙ e))
  one_walk (Walk.miss e r) (Walk.hit e' r') = absurd (none-ne-some _ (sym e ∙ e'))
  one_walk (Walk.miss e r) (Walk.miss e' r') = let (a, b) = one_walk r r' in (omega arith, b)

  pub one_marked : (t : Term) {u v : Term} {n m : ℕ} → ReducesMarked B w t n u → ReducesMarked B w t m v → (n ≡ m) × (u ≡ v)
  one_marked t (x, (a, p, q), f) (y, (b, p', q'), g) = let (e, z) = one_walk q q' in (omega arith, sym f ∙ ap plain z ∙ g)

  -- the same, by another weight
  pub reweigh : (w' : Weight) {t u : Marked} {ss : List Step} {n : ℕ} → Walk B w t ss n u → (m : ℕ) × Walk B w' t ss m u
  reweigh w' Walk.stop = (0, Walk.stop)
  reweigh w' (Walk.visit a q r) = let (n, x) = reweigh w' q in let (m, y) = reweigh w' r in (w'.visit + n + m, Walk.visit a x y)
  reweigh w' (Walk.fork r) = let (n, x) = reweigh w' r in (w'.fork + n, Walk.fork x)
  reweigh w' (Walk.join r) = let (n, x) = reweigh w' r in (w'.join + n, Walk.join x)
  reweigh w' (Walk.hit e r) = let (n, x) = reweigh w' r in (w'.rewrite + (w'.visit + n), Walk.hit e x)
  reweigh w' (Walk.miss e r) = let (n, x) = reweigh w' r in (w'.miss + n, Walk.miss e x)
