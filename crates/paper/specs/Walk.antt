-- Reduction one after the other with marks (document 02, Change 10: "Entries and FORKs are from now on those of the steps with marks"), as a relation,
-- counted by the weights of Reduction: what a one-unit run carries out, step by step. Assumes nothing.
use Rattle.std.specs.Prelude.{List, [], ◌∷◌, ◌≡◌, ℕ, ◌+◌, ◌<◌, length}
use Rattle.std.proofs.Math.Option.{none, some}
use Rattle.paper.specs.Tree.{arguments, count, subterm, replace}
use Rattle.paper.specs.Strategy.{Step}
use Rattle.paper.specs.Book.{Term, Book}
use Rattle.paper.specs.Match.{rewrite_over}
use Rattle.paper.specs.Marks.{Marked, cells, plain, bare, to_do, mark_part}
use Rattle.paper.specs.Reduction.{Weight}

-- a part whose VISIT has been carried out
abbrev pub entered : Book → Marked → Marked
entered B t = mark_part (length (to_do B t)) t

-- `Walk B w t ss n u`: from t, with the steps ss left to do at its root, reduction with marks leads to u, and this counts for n
pub data Walk (B : Book) (w : Weight) : Marked → List Step → ℕ → Marked → Type 0 where
  stop : {t : Marked} → Walk B w t [] 0 t
  -- an argument is reduced in place, by the steps that its VISIT gives
  visit : {t s u : Marked} {i n m : ℕ} {ss : List Step} → i < count (arguments t) →
      Walk B w (entered B (subterm (i ∷ []) t)) (to_do B (subterm (i ∷ []) t)) n s → Walk B w (replace (i ∷ []) s t) ss m u →
      Walk B w t (Step.visit i ∷ ss) (w.visit + n + m) u
  -- FORK, which one unit keeps, is VISIT, counted once more
  fork : {t u : Marked} {i n : ℕ} {ss : List Step} → Walk B w t (Step.visit i ∷ ss) n u → Walk B w t (Step.fork i ∷ ss) (w.fork + n) u
  join : {t u : Marked} {c n : ℕ} {ss : List Step} → Walk B w t ss n u → Walk B w t (Step.join c ∷ ss) (w.join + n) u
  hit : {t r u : Marked} {n : ℕ} {ss : List Step} → rewrite_over cells B.rules t ≡ some r → Walk B w (entered B r) (to_do B r) n u →
      Walk B w t (Step.whole ∷ ss) (w.rewrite + (w.visit + n)) u
  -- with no match, go on; behind the last WHOLE the part is marked
  miss : {t u : Marked} {n : ℕ} {ss : List Step} → rewrite_over cells B.rules t ≡ none → Walk B w (mark_part (length ss) t) ss n u →
      Walk B w t (Step.whole ∷ ss) (w.miss + n) u

-- the part t is reduced with marks to u by the steps that its VISIT gives, and these count for n
abbrev pub Visits : Book → Weight → Marked → ℕ → Marked → Type 0
Visits B w t n u = Walk B w (entered B t) (to_do B t) n u

-- the same, its VISIT being counted too
abbrev pub Walks : Book → Weight → Marked → ℕ → Marked → Type 0
Walks B w t n u = (m : ℕ) × (n ≡ w.visit + m) × Visits B w t m u

-- the term t, nothing in it being marked, is reduced with marks to u, and this counts for n
abbrev pub ReducesMarked : Book → Weight → Term → ℕ → Term → Type 0
ReducesMarked B w t n u = (v : Marked) × Walks B w (bare t) n v × (plain v ≡ u)
