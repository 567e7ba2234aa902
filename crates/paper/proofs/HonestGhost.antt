-- What marks say in a ghost term: a part in work is unmarked, and behind its last step it is a normal form; what stands at rest has true marks. Each
-- order keeps this, so in every state of a run each marked part is a normal form. Assumes nothing.
use mathlib.Core.Bool.{Bool, true, false, true≢false}
use mathlib.Core.List.{List, [], ◌∷◌}
use mathlib.Core.Logic.{◌⊎◌, inl, inr}
use mathlib.Core.Option.{none}
use mathlib.Core.Path.{◌≡◌, refl, sym, ◌∙◌, subst}
use Prim.Native.Nat.{ℕ, zero, suc, ◌<◌}
use native.Mathlib.Omega.{arith}
use lib.ListN.{length}
use Rattle.paper.specs.Tree.{node, Forest, nil, cons, label, arguments, count, relabel, pick, subterm}
use Rattle.paper.specs.Strategy.{Step}
use Rattle.paper.specs.Book.{Term, Book, steps}
use Rattle.paper.specs.Match.{rewrite_over}
use Rattle.paper.specs.Marks.{Cell, Marked, cells, plain, unless_marked, to_do, mark_root}
use Rattle.paper.specs.Sound.{Sound}
use Rattle.paper.proofs.Again.{Ends, steps_end, Named, Normal, untouched, unmatched}
use Rattle.paper.proofs.Ghost.{Holder, Ghost, rest, todo, work, Ghosts, gnil, gcons, erase, erases, resting, begin, opened, home, fall_step, Still, s_work, Stills, s_cons, StillAt, at_here, at_there, resting_still, resting_erases, Context, hole, into, Contexts, here, past, plug, plugs}
use Rattle.paper.proofs.Honest.{Honest, Honests}
use Rattle.paper.proofs.Marks.{plains, plain_none}
use Rattle.paper.proofs.View.{stills_context}

-- its VISIT or FORK has been carried out
pub data Started : Ghost → Type 0 where
  st_todo : {t : Marked} → Started (todo t)
  st_work : {o : Cell} {j : ℕ} {ks : Ghosts} {ss : List Step} → Started (work o j ks ss)

pub data StartedAt : ℕ → Ghosts → Type 0 where
  st_here : {m : Holder} {d : Ghost} {ks : Ghosts} → Started d → StartedAt zero (gcons m d ks)
  st_there : {i : ℕ} {m : Holder} {d : Ghost} {ks : Ghosts} → StartedAt i ks → StartedAt (suc i) (gcons m d ks)

-- with no step left, a normal form; else unmarked, with a WHOLE to come, and each argument that the strategy names is named still or has been begun
abbrev pub Rooted : Book → Cell → Ghosts → List Step → Type 0
Rooted B o ks [] = Stills ks × Normal B (plain (node o (erases ks)))
Rooted B o ks (s ∷ ss) = (o.marked ≡ false) × Ends false (s ∷ ss) × ((i : ℕ) → Named i (steps B o.operator) → Named i (s ∷ ss) ⊎ StartedAt i ks)

abbrev mutual
  pub HonestGhost : Book → Ghost → Type 0
  HonestGhost B (rest t) = Honest B t
  HonestGhost B (todo t) = Honest B t
  HonestGhost B (work o j ks ss) = HonestGhosts B ks × Rooted B o ks ss

  pub HonestGhosts : Book → Ghosts → Type 0
  HonestGhosts B gnil = Unit {0}
  HonestGhosts B (gcons m d ks) = HonestGhost B d × HonestGhosts B ks

-- THE TERM'S MARKS ARE TRUE
rooted_honest : (B : Book) (o : Cell) (ks : Ghosts) (ss : List Step) → Rooted B o ks ss → o.marked ≡ true → Normal B (plain (node o (erases ks)))
rooted_honest B o ks [] r e = r.1
rooted_honest B o ks (s ∷ ss) r e = absurd (true≢false (sym e ∙ r.0))

module _ (B : Book) where
  mutual
    unfolding erase

    pub ghost_honest : (D : Ghost) → HonestGhost B D → Honest B (erase D)
    ghost_honest (rest t) h = h
    ghost_honest (todo t) h = h
    ghost_honest (work o j ks ss) (h, r) = (rooted_honest B o ks ss r, ghosts_honest ks h)

    pub ghosts_honest : (ks : Ghosts) → HonestGhosts B ks → Honests B (erases ks)
    ghosts_honest gnil h = tt
    ghosts_honest (gcons m d ks) (h, hs) = (ghost_honest d h, ghosts_honest ks hs)

  -- a part that has been begun and has nothing left to do is a normal form
  still_normal : {d : Ghost} → Started d → Still d → HonestGhost B d → Normal B (plain (erase d))
  unfolding erase
  still_normal st_todo h r = elim h [ ]
  still_normal st_work (s_work h) r = r.1.1

  started_normal : {i : ℕ} {ks : Ghosts} → StartedAt i ks → Stills ks → HonestGhosts B ks → (d : Term) →
      (i < count (plains (erases ks))) × Normal B (pick d i (plains (erases ks)))
  unfolding erases relabel count pick plain
  started_normal (st_here b) (s_cons h hs) (r, rs) d = (omega arith, still_normal b h r)
  started_normal (st_there b) (s_cons h hs) (r, rs) d = let (x, y) = started_normal b hs rs d in (omega arith, y)

-- AT A PLACE
module _ (B : Book) where
  mutual
    unfolding plug

    pub honest_at : (C : Context) (X : Ghost) → HonestGhost B (plug C X) → HonestGhost B X
    honest_at hole X h = h
    honest_at (into o j F ss) X h = honests_at F X h.0

    honests_at : (F : Contexts) (X : Ghost) → HonestGhosts B (plugs F X) → HonestGhost B X
    honests_at (here m C ks) X h = honest_at C X h.0
    honests_at (past m d F) X h = honests_at F X h.1

  plug_started : (C : Context) {Y : Ghost} → Started Y → Started (plug C Y)
  unfolding plug
  plug_started hole b = b
  plug_started (into o j F ss) b = st_work

  started_put : (F : Contexts) (X Y : Ghost) {i : ℕ} → Started Y → StartedAt i (plugs F X) → StartedAt i (plugs F Y)
  unfolding plugs
  started_put (here m C ks) X Y b (st_here h) = st_here (plug_started C b)
  started_put (here m C ks) X Y b (st_there h) = st_there h
  started_put (past m d F) X Y b (st_here h) = st_here h
  started_put (past m d F) X Y b (st_there h) = st_there (started_put F X Y b h)

  rooted_put : (o : Cell) (F : Contexts) (X Y : Ghost) (ss : List Step) → ¬ Still X → Started Y → Rooted B o (plugs F X) ss → Rooted B o (plugs F Y) ss
  rooted_put o F X Y [] ne b r = absurd (ne (stills_context F r.0))
  rooted_put o F X Y (s ∷ ss) ne b r = (r.0, r.1, λ i m. go i (r.2 i m))
    where
      go : (i : ℕ) → Named i (s ∷ ss) ⊎ StartedAt i (plugs F X) → Named i (s ∷ ss) ⊎ StartedAt i (plugs F Y)
      go i (inl x) = inl x
      go i (inr x) = inr (started_put F X Y b x)

  mutual
    unfolding plug

    pub honest_put : (C : Context) (X Y : Ghost) → ¬ Still X → Started Y → HonestGhost B (plug C X) → HonestGhost B Y → HonestGhost B (plug C Y)
    honest_put hole X Y ne b h y = y
    honest_put (into o j F ss) X Y ne b h y = (honests_put F X Y ne b h.0 y, rooted_put o F X Y ss ne b h.1)

    honests_put : (F : Contexts) (X Y : Ghost) → ¬ Still X → Started Y → HonestGhosts B (plugs F X) → HonestGhost B Y → HonestGhosts B (plugs F Y)
    honests_put (here m C ks) X Y ne b h y = (honest_put C X Y ne b h.0 y, h.1)
    honests_put (past m d F) X Y ne b h y = (h.0, honests_put F X Y ne b h.1 y)

-- THE ORDERS

-- with a WHOLE to come, there is a step
ends_first : (s : Step) (ss : List Step) → Ends true (s ∷ ss) → Ends false (s ∷ ss)
ends_first (Step.visit i) ss h = h
ends_first (Step.fork i) ss h = h
ends_first (Step.join c) ss h = h
ends_first Step.whole ss h = h

-- steps left, of which a WHOLE is one
rooted_more : (B : Book) (o : Cell) (ks : Ghosts) (ss : List Step) → o.marked ≡ false → Ends false ss →
    ((i : ℕ) → Named i (steps B o.operator) → Named i ss ⊎ StartedAt i ks) → Rooted B o ks ss
rooted_more B o ks [] m e k = absurd e
rooted_more B o ks (s ∷ ss) m e k = (m, e, k)

resting_honest : (B : Book) (ts : Forest Cell) → Honests B ts → HonestGhosts B (resting ts)
unfolding resting
resting_honest B nil h = tt
resting_honest B (cons t ts) h = (h.0, resting_honest B ts h.1)

-- VISIT: of a marked part, of one with an empty strategy, of another
module _ (B : Book) (sound : Sound B) where
  rooted_strategy : (o : Cell) (ts : Forest Cell) (ss : List Step) → o.marked ≡ false → steps B o.operator ≡ ss → Ends true ss →
      Rooted B (mark_root (length ss) o) (resting ts) ss
  unfolding mark_root plain relabel label
  rooted_strategy o ts [] m e h = (resting_still ts, untouched e)
  rooted_strategy o ts (s ∷ ss) m e h = (m, ends_first s ss h, λ i x. inl (subst (Named i) e x))

  rooted_visit : (o : Cell) (ts : Forest Cell) (b : Bool) → o.marked ≡ b → (b ≡ true → Normal B (plain (node o ts))) →
      Rooted B (mark_root (length (unless_marked b (steps B o.operator))) o) (resting ts) (unless_marked b (steps B o.operator))
  unfolding unless_marked mark_root plain relabel
  rooted_visit o ts true e h = (resting_still ts, rw (resting_erases ts) (h refl))
  rooted_visit o ts false e h = rooted_strategy o ts (steps B o.operator) e refl (steps_end B sound o.operator)

  pub opened_honest : (j : ℕ) (t : Marked) → Honest B t → HonestGhost B (opened B j t)
  unfolding label arguments to_do
  opened_honest j (node o ts) h = (resting_honest B ts h.1, rooted_visit o ts o.marked refl h.0)

-- an argument is begun
module _ (B : Book) (g : Marked → Ghost) (m : Holder) where
  pub begin_honest : ((t : Marked) → Honest B t → HonestGhost B (g t)) → (i : ℕ) (ks : Ghosts) → HonestGhosts B ks → HonestGhosts B (begin g m i ks)
  unfolding begin
  begin_honest k i gnil h = tt
  begin_honest k zero (gcons m' d ks) h = (k (erase d) (ghost_honest B d h.0), h.1)
  begin_honest k (suc i) (gcons m' d ks) h = (h.0, begin_honest k i ks h.1)

  module _ (b : (t : Marked) → Started (g t)) where
    begin_started : {i : ℕ} {ks : Ghosts} → StillAt i ks → StartedAt i (begin g m i ks)
    unfolding begin
    begin_started (at_here h) = st_here (b _)
    begin_started (at_there h) = st_there (begin_started h)

    begin_others : (i j : ℕ) (ks : Ghosts) → StartedAt j ks → StartedAt j (begin g m i ks)
    unfolding begin
    begin_others zero zero gnil h = elim h [ ]
    begin_others zero (suc j) gnil h = elim h [ ]
    begin_others (suc i) zero gnil h = elim h [ ]
    begin_others (suc i) (suc j) gnil h = elim h [ ]
    begin_others zero zero (gcons m' d ks) (st_here h) = st_here (b _)
    begin_others zero (suc j) (gcons m' d ks) (st_there h) = st_there h
    begin_others (suc i) zero (gcons m' d ks) (st_here h) = st_here h
    begin_others (suc i) (suc j) (gcons m' d ks) (st_there h) = st_there (begin_others i j ks h)

    pub rooted_begin : (o : Cell) (i : ℕ) (ks : Ghosts) (ss : List Step) → StillAt i ks → Rooted B o ks (Step.visit i ∷ ss) → Rooted B o (begin g m i ks) ss
    rooted_begin o i ks ss h (mk, e, k) = rooted_more B o (begin g m i ks) ss mk e (λ j x. go j (k j x))
      where
        go : (j : ℕ) → ((j ≡ i) ⊎ Named j ss) ⊎ StartedAt j ks → Named j ss ⊎ StartedAt j (begin g m i ks)
        go j (inl (inl x)) = inr (rw x (begin_started h))
        go j (inl (inr x)) = inl x
        go j (inr x) = inr (begin_others i j ks x)

module _ (B : Book) where
  -- a JOIN that passes
  pub rooted_join : (o : Cell) (c : ℕ) (ks : Ghosts) (ss : List Step) → Rooted B o ks (Step.join c ∷ ss) → Rooted B o ks ss
  rooted_join o c ks ss (m, e, k) = rooted_more B o ks ss m e k

  -- WHOLE with no match: behind the last one the part is a normal form, and marked
  pub rooted_miss : (o : Cell) (ks : Ghosts) (ss : List Step) → rewrite_over cells B.rules (node o (erases ks)) ≡ none → Stills ks → HonestGhosts B ks →
      Rooted B o ks (Step.whole ∷ ss) → Rooted B (mark_root (length ss) o) ks ss
  unfolding mark_root plain relabel label arguments subterm
  rooted_miss o ks [] e h hs (m, d, k) = (
    h,
    unmatched (plain_none B.rules (node o (erases ks)) e)
        (λ i x. elim (k i x) [ inl z ↦ absurd z | inr b ↦ (started_normal B b h hs (node o.operator (plains (erases ks)))).0 ])
        (λ i x. elim (k i x) [ inl z ↦ absurd z | inr b ↦ (started_normal B b h hs (node o.operator (plains (erases ks)))).1 ]),
  )
  rooted_miss o ks (s ∷ ss) e h hs (m, d, k) = (m, ends_first s ss d, k)

-- A COUNT FALLS
ends_fall : (b : Bool) (ss : List Step) → Ends b ss → Ends b (fall_step ss)
unfolding fall_step
ends_fall b [] h = h
ends_fall b (Step.visit i ∷ ss) h = ends_fall false ss h
ends_fall b (Step.fork i ∷ ss) h = ends_fall false ss h
ends_fall b (Step.join c ∷ ss) h = h
ends_fall b (Step.whole ∷ ss) h = ends_fall true ss h

named_fall : (i : ℕ) (ss : List Step) → Named i ss → Named i (fall_step ss)
unfolding fall_step
named_fall i [] h = h
named_fall i (Step.visit j ∷ ss) (inl h) = inl h
named_fall i (Step.visit j ∷ ss) (inr h) = inr (named_fall i ss h)
named_fall i (Step.fork j ∷ ss) (inl h) = inl h
named_fall i (Step.fork j ∷ ss) (inr h) = inr (named_fall i ss h)
named_fall i (Step.join c ∷ ss) h = h
named_fall i (Step.whole ∷ ss) h = named_fall i ss h

module _ (B : Book) where
  rooted_fall : (o : Cell) (ks ks' : Ghosts) (s : Step) (ss : List Step) → ((i : ℕ) → StartedAt i ks → StartedAt i ks') → Rooted B o ks (s ∷ ss) → Rooted B o ks' (fall_step (s ∷ ss))
  rooted_fall o ks ks' s ss f (m, e, k) = rooted_more B o ks' (fall_step (s ∷ ss)) m (ends_fall false (s ∷ ss) e) (λ i x. go i (k i x))
    where
      go : (i : ℕ) → Named i (s ∷ ss) ⊎ StartedAt i ks → Named i (fall_step (s ∷ ss)) ⊎ StartedAt i ks'
      go i (inl x) = inl (named_fall i (s ∷ ss) x)
      go i (inr x) = inr (f i x)

  -- FORK kept
  pub rooted_keep : (o : Cell) (i : ℕ) (ks : Ghosts) (ss : List Step) → Rooted B o ks (Step.fork i ∷ ss) → Rooted B o ks (Step.visit i ∷ fall_step ss)
  unfolding fall_step
  rooted_keep o i ks ss r = rooted_fall o ks ks (Step.visit i) ss (λ j x. x) r

-- A PART COMES HOME
home_started : (r i : ℕ) (ks : Ghosts) → StartedAt i ks → StartedAt i (home r ks)
unfolding home
home_started zero zero gnil h = elim h [ ]
home_started zero (suc i) gnil h = elim h [ ]
home_started (suc r) zero gnil h = elim h [ ]
home_started (suc r) (suc i) gnil h = elim h [ ]
home_started zero zero (gcons m d ks) (st_here h) = st_here h
home_started zero (suc i) (gcons m d ks) (st_there h) = st_there h
home_started (suc r) zero (gcons m d ks) (st_here h) = st_here h
home_started (suc r) (suc i) (gcons m d ks) (st_there h) = st_there (home_started r i ks h)

module _ (B : Book) where
  pub home_honest : (r : ℕ) (ks : Ghosts) → HonestGhosts B ks → HonestGhosts B (home r ks)
  unfolding home
  home_honest r gnil h = h
  home_honest zero (gcons m d ks) h = h
  home_honest (suc r) (gcons m d ks) h = (h.0, home_honest r ks h.1)

  pub rooted_home : (o : Cell) (r : ℕ) (ks : Ghosts) (ss : List Step) → ¬ Stills ks → Rooted B o ks ss → Rooted B o (home r ks) (fall_step ss)
  rooted_home o r ks [] ne h = absurd (ne h.0)
  rooted_home o r ks (s ∷ ss) ne h = rooted_fall B o ks (home r ks) s ss (λ i x. home_started r i ks x) h
