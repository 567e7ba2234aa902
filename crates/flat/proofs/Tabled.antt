-- Stacks with positions, of which a few facts hold, have tables that keep the rules of tables: a job's entries are read off its frame, a pending part's off its
-- EXIT, and when the part was placed off the order of placing. Assumes nothing.
use mathlib.Core.Bool.{Bool, true, false, true≢false}
use mathlib.Core.List.{List, [], ◌∷◌, ◌++◌, map, append_assoc}
use mathlib.Core.Logic.{◌⊎◌, inl, inr, ◌≢◌}
use mathlib.Core.Option.{Option, none, some, none-ne-some, some-injective}
use mathlib.Core.Path.{◌≡◌, refl, sym, ◌∙◌, ap, ap₂, subst}
use Prim.Native.Nat.{ℕ, zero, suc, ◌+◌, ◌-◌, ◌<◌, ◌≤◌}
use native.Mathlib.Omega.{arith}
use lib.Dec.{eqb}
use lib.ListN.{get_or, length, drop, drop_of_length-le}
use lib.Seq.{drop-cons}
use Rattle.paper.specs.Tree.{Forest, nil, cons, node, label, arguments, count, preorder, size, Position, subterm}
use Rattle.paper.specs.Strategy.{Step}
use Rattle.paper.specs.Book.{Term, Book, steps}
use Rattle.paper.specs.Idle.{times}
use Rattle.paper.specs.Sound.{In, Unnamed, Sound}
use Rattle.paper.proofs.Moves.{steps_counted}
use Rattle.paper.proofs.Numbers.{if_same, same_is, other_is}
use Rattle.paper.proofs.Tests.{eqb_cases, eqb_true, eqb_false, eqb_equal, ltb_cases}
use Rattle.paper.proofs.View.{Counted}
use Rattle.flat.specs.Machine.{Frame, next_count}
use Rattle.flat.specs.Rules.{InGroup, forks_left, jobs_at, exits_to, same_pair, upto}
use Rattle.flat.specs.Relation.{Valid, offset, Placed, PlacedUnit, at, frame_of, stack_of, GoodFrame, Under, Stacked}
use Rattle.flat.proofs.Alone.{rooted_of}
use Rattle.flat.proofs.Bounds.{offset_unique, jobs_cons}
use Rattle.flat.proofs.Counts.{FrameAt, same_pair_is, same_pair_not}
use Rattle.flat.proofs.Heights.{same_parent}
use Rattle.flat.proofs.Lists.{upto_same, upto_zero, upto_one, upto_two, upto_add}
use Rattle.flat.proofs.Numbered.{number, Numbered, numbers_once, numbers_fresh}
use Rattle.flat.proofs.Offsets.{size_positive, valid_append}
use Rattle.flat.proofs.Placing.{frame_in}
use Rattle.flat.proofs.Ranks.{times_here, times_past}
use Rattle.flat.proofs.Rebuilt.{Link, link_node, counted_drop}
use Rattle.flat.proofs.Relation.{Good, stacked_tail}
use Rattle.flat.proofs.Sites.{Site, site_frame, frame_site, in_frame, site_below, site_above, site_top, stacked_site, good_frame, frame_unique, last, last_append, same_last, no_root, valid_last, holder_of, on_exit, upto_only, Weight, walk, at_key, table, table_is, table_some}
use Rattle.flat.proofs.Stamps.{stamp, times_append, stamp_is, stamp_before, split_at}
use Rattle.flat.proofs.Steps.{Settled, Shape, shape_drop}
use Rattle.flat.proofs.Tables.{Kind, Tables, Pending, pending, one, lent_in, Works, Argument, ArgumentAt, Bare, SymbolOf, SymbolAt, Links, Begins, Stands, Before, Ordered, listed, of_unit, exits_of, Tabled}

-- THE FACTS

-- the EXITs of some frames
abbrev pub exits : List Placed → ℕ
exits gs = length (exits_of gs)

-- SLEEP is in the frames of any unit but 0, and BINGO in those of unit 0
abbrev pub Ends : ℕ → List Placed → Type 0
Ends v gs = (1 ≤ v → In Placed.sleep gs) × (v ≡ 0 → In Placed.bingo gs)

pub record Seats (B : Book) (t : Term) (U : List PlacedUnit) (placed : List ℕ) : Type 0 where
  pub good : Good B t U
  -- JOINs have their symbols' numbers
  pub numbered : (v : ℕ) → Numbered B t (at U v).frames
  -- no two jobs are at one offset; an EXIT's part is in the term, and no two are at one position
  pub distinct : (x n : ℕ) → upto (λ v. jobs_at x (stack_of t (at U v).frames)) n ≤ 1
  pub valid : (v w i : ℕ) (q : Position) (m : ℕ) → In (Placed.exit w i q m) (at U v).frames → Valid q t
  pub apart : (v i w x : ℕ) (q : Position) (m v' i' w' x' m' : ℕ) → FrameAt (at U v).frames i (Placed.exit w x q m) → FrameAt (at U v').frames i' (Placed.exit w' x' q m') →
      (v ≡ v') × (i ≡ i')
  -- it isn't named again, and where it is done no job is there
  pub unnamed : (v w i : ℕ) (p : Position) (x m o k c : ℕ) → In (Placed.exit w i (p ++ (x ∷ [])) m) (at U v).frames → FrameAt (at U w).frames i (Placed.job p o (suc k) c m) →
      Unnamed x (drop k (steps B o))
  pub free : (v w i : ℕ) (q : Position) (m : ℕ) (lo : List Placed) → Site none (at U v).frames none (Placed.exit w i q m) lo → (v' i' o k c r : ℕ) →
      FrameAt (at U v').frames i' (Placed.job q o k c r) → ⊥
  -- a JOIN counts its FORKs and EXITs to come
  pub counts : (v i : ℕ) (p : Position) (o k c m : ℕ) → FrameAt (at U v).frames i (Placed.job p o (suc k) c m) → InGroup (drop k (steps B o)) →
      c ≡ forks_left (drop k (steps B o)) + upto (λ u. exits_to v i (stack_of t (at U u).frames)) (length U)
  pub ends : (v : ℕ) → Ends v (at U v).frames
  -- each unit stands in the order of placing as often as EXITs are on its stack; under the job that holds an EXIT's JOIN are EXITs of parts placed before the EXIT's
  pub many : (v : ℕ) → exits (at U v).frames ≡ times v placed
  pub earlier : (v : ℕ) (up : Option Placed) (w : ℕ) (q : Position) (m : ℕ) (lo : List Placed) (up' : Option Placed) (p : Position) (o k c : ℕ) (lo' : List Placed)
      (later before : List ℕ) → Site none (at U v).frames up (Placed.exit w (length lo') q m) lo → Site none (at U w).frames up' (Placed.job p o (suc k) c m) lo' →
      placed ≡ later ++ (v ∷ before) → times v before ≡ exits lo → exits lo' ≤ times w before

-- STEPS

next_counted : (m : ℕ) (ss : List Step) → Counted m ss → next_count ss ≡ m + forks_left ss
unfolding next_count forks_left
next_counted m [] c = omega (arith, c)
next_counted m (Step.visit i ∷ ss) c = next_counted m ss c
next_counted m (Step.fork i ∷ ss) c = omega (arith, next_counted (suc m) ss c)
next_counted m (Step.join d ∷ ss) c = let e = c.0 in omega (arith, e)
next_counted m (Step.whole ∷ ss) c = let e = c.0 in omega (arith, e, next_counted 0 ss c.1)

-- in a group, or no FORK of it is done
group_or : (m : ℕ) (ss : List Step) → Shape ss → Counted m ss → InGroup ss ⊎ (m ≡ 0)
group_or m [] sh c = inr c
group_or m (Step.visit i ∷ ss) sh c = group_or m ss sh.1 c
group_or m (Step.fork i ∷ ss) sh c = inl sh.0
group_or m (Step.join d ∷ ss) sh c = inl tt
group_or m (Step.whole ∷ ss) sh c = inr c.0

-- ARGUMENTS BY OFFSET

-- how many of the terms from offset b on stand at offset a
unfoldable starts : ℕ → ℕ → Forest ℕ → ℕ
unfolding if_same
starts a b nil = 0
starts a b (cons x xs) = if_same a b 1 + starts a (b + size x) xs

starts_low : (a b : ℕ) (xs : Forest ℕ) → a < b → starts a b xs ≡ 0
unfolding starts
starts_low a b nil l = refl
starts_low a b (cons x xs) l = omega (arith, other_is a b 1 (λ e. omega (arith, e, l)), starts_low a (b + size x) xs (omega (arith, l)))

starts_one : (t : Term) (p : Position) (m b x : ℕ) (xs : Forest ℕ) → Link t p m b xs → m ≤ x → x < m + count xs → Valid (p ++ (x ∷ [])) t → starts (offset (p ++ (x ∷ [])) t) b xs ≡ 1
unfolding starts count
starts_one t p m b x nil k l r v = absurd (omega (arith, l, r))
starts_one t p m b x (cons y ys) k l r v =
    elim (eqb_cases x m) [
      | inl q ↦
          (let e : offset (p ++ (x ∷ [])) t ≡ b = ap (λ (z : ℕ). offset (p ++ (z ∷ [])) t) q.1 ∙ k.1 in
          let z = size_positive y in
          omega (arith, same_is (offset (p ++ (x ∷ [])) t) b 1 e, starts_low (offset (p ++ (x ∷ [])) t) (b + size y) ys (omega (arith, e, z))))
      | inr q ↦
          (let ne : offset (p ++ (x ∷ [])) t ≢ b = λ e. q.1 (same_last p p x m (offset_unique (p ++ (x ∷ [])) (p ++ (m ∷ [])) t v k.0 (e ∙ sym k.1))) in
          let w = q.1 in
          omega (arith, other_is (offset (p ++ (x ∷ [])) t) b 1 ne, starts_one t p (suc m) (b + size y) x ys k.3 (omega (arith, l, w)) (omega (arith, r)) v))
    ]

starts_some : (t : Term) (p : Position) (m a b : ℕ) (xs : Forest ℕ) → Link t p m b xs → 1 ≤ starts a b xs → (x : ℕ) × Valid (p ++ (x ∷ [])) t × (offset (p ++ (x ∷ [])) t ≡ a)
unfolding starts
starts_some t p m a b nil k l = absurd (omega (arith, l))
starts_some t p m a b (cons y ys) k l =
    elim (eqb_cases a b) [
      | inl q ↦ (m, k.0, k.1 ∙ sym q.1)
      | inr q ↦ (let z = other_is a b 1 q.1 in starts_some t p (suc m) a (b + size y) ys k.3 (omega (arith, l, z)))
    ]

lent_some : (f : ℕ → ℕ) (t : Term) (p : Position) (m b : ℕ) (xs : Forest ℕ) → Link t p m b xs → 1 ≤ lent_in f b xs → (x : ℕ) × Valid (p ++ (x ∷ [])) t × (1 ≤ f (offset (p ++ (x ∷ [])) t))
unfolding lent_in
lent_some f t p m b nil k l = absurd (omega (arith, l))
lent_some f t p m b (cons y ys) k l = go (f b) refl (lent_some f t p (suc m) (b + size y) ys k.3)
  where
    go : (n : ℕ) → f b ≡ n → (1 ≤ lent_in f (b + size y) ys → (x : ℕ) × Valid (p ++ (x ∷ [])) t × (1 ≤ f (offset (p ++ (x ∷ [])) t))) → (x : ℕ) × Valid (p ++ (x ∷ [])) t × (1 ≤ f (offset (p ++ (x ∷ [])) t))
    go zero e r = r (let z : one (f b) ≡ 0 = ap one e ∙ unfold one in refl in omega (arith, z, l))
    go (suc n) e r = (m, k.0, (let z = ap f k.1 in omega (arith, z, e)))

-- sums over pending parts

unfoldable psum : (Pending → ℕ) → List Pending → ℕ
psum f [] = 0
psum f (x ∷ xs) = f x + psum f xs

psum_add : (f g : Pending → ℕ) (xs : List Pending) → psum (λ x. f x + g x) xs ≡ psum f xs + psum g xs
unfolding psum
psum_add f g [] = omega arith
psum_add f g (x ∷ xs) = omega (arith, psum_add f g xs)

psum_none : (xs : List Pending) → psum (λ x. 0) xs ≡ 0
unfolding psum
psum_none [] = refl
psum_none (x ∷ xs) = omega (arith, psum_none xs)

listed_psum : (B : Book) (T : Tables) (t : Term) (b : ℕ) (xs : List Pending) → listed B T t b xs ≡ psum (λ x. if_same (offset x.position t) b 1) xs
unfolding listed psum if_same
listed_psum B T t b [] = refl
listed_psum B T t b (x ∷ xs) =
    elim (eqb_cases (offset x.position t) b) [
      | inl p ↦ rw (p.0, listed, if_same) (omega (arith, listed_psum B T t b xs))
      | inr p ↦ rw (p.0, listed, if_same) (omega (arith, listed_psum B T t b xs))
    ]

lent_psum : (B : Book) (T : Tables) (t : Term) (es : List Pending) → ((b : ℕ) → listed B T t b es ≡ one (T.stamp b)) → (b : ℕ) (xs : Forest ℕ) →
    lent_in T.stamp b xs ≡ psum (λ e. starts (offset e.position t) b xs) es
unfolding lent_in starts
lent_psum B T t es h b nil = sym (psum_none es)
lent_psum B T t es h b (cons x xs) =
    omega (
      arith,
      h b,
      listed_psum B T t b es,
      lent_psum B T t es h (b + size x) xs,
      psum_add (λ e. if_same (offset e.position t) b 1) (λ e. starts (offset e.position t) (b + size x) xs) es,
    )

-- over all units
of_units : (B : Book) (T : Tables) (t : Term) (f : Pending → ℕ) (n : ℕ) (es : List Pending) → Ordered B T t n es → upto (λ v. psum f (of_unit B T t v es)) n ≡ psum f es
unfolding of_unit psum
of_units B T t f n [] o = upto_zero (λ v. 0) n (λ v. refl)
of_units B T t f n (x ∷ es) o =
    let w : ℕ = T.owner (offset x.position t) in
    let a : upto (λ v. psum f (of_unit B T t v (x ∷ es))) n ≡ upto (λ v. if_same v w (f x) + psum f (of_unit B T t v es)) n =
    upto_same (λ v. psum f (of_unit B T t v (x ∷ es))) (λ v. if_same v w (f x) + psum f (of_unit B T t v es)) n (λ v. each v) in
    let b = upto_add (λ v. if_same v w (f x)) (λ v. psum f (of_unit B T t v es)) n in
    let c = upto_only (λ v. if_same v w (f x)) w n o.3 (λ v ne. other_is v w (f x) ne) in
    let d = same_is w w (f x) refl in
    omega (arith, a, b, c, d, of_units B T t f n es o.5)
  where
    each : (v : ℕ) → psum f (of_unit B T t v (x ∷ es)) ≡ if_same v (T.owner (offset x.position t)) (f x) + psum f (of_unit B T t v es)
    each v =
        elim (eqb_cases v (T.owner (offset x.position t))) [
          | inl p ↦ rw (p.0, of_unit) (omega (arith, same_is v (T.owner (offset x.position t)) (f x) p.1))
          | inr p ↦ rw (p.0, of_unit) (omega (arith, other_is v (T.owner (offset x.position t)) (f x) p.1))
        ]

exits_psum : (t : Term) (u i : ℕ) (f : Pending → ℕ) (gs : List Placed) → ((w k : ℕ) (q : Position) (m : ℕ) → In (Placed.exit w k q m) gs → same_pair u i w k ≡ f (pending q m)) →
    exits_to u i (stack_of t gs) ≡ psum f (exits_of gs)
unfolding exits_to frame_of exits_of psum
exits_psum t u i f [] h = refl
exits_psum t u i f (Placed.job p o k c m ∷ gs) h = exits_psum t u i f gs (λ w k q r x. h w k q r (inr x))
exits_psum t u i f (Placed.exit w k q m ∷ gs) h = omega (arith, h w k q m (inl refl), exits_psum t u i f gs (λ w k q r x. h w k q r (inr x)))
exits_psum t u i f (Placed.sleep ∷ gs) h = exits_psum t u i f gs (λ w k q r x. h w k q r (inr x))
exits_psum t u i f (Placed.bingo ∷ gs) h = exits_psum t u i f gs (λ w k q r x. h w k q r (inr x))

-- WHAT A STACK ENDS IN

not_both_ends : (B : Book) (gs : List Placed) → Stacked B gs → In Placed.sleep gs → In Placed.bingo gs → ⊥
not_both_ends B [] st a b = a
not_both_ends B (Placed.job p o k c m ∷ gs) st (inl a) b = let z : ◌≡◌ {A = ℕ} 0 1 = cc in omega arith
not_both_ends B (Placed.job p o k c m ∷ gs) st (inr a) (inl b) = let z : ◌≡◌ {A = ℕ} 0 1 = cc in omega arith
not_both_ends B (Placed.job p o k c m ∷ gs) st (inr a) (inr b) = not_both_ends B gs st.1 a b
not_both_ends B (Placed.exit w i q m ∷ gs) st (inl a) b = let z : ◌≡◌ {A = ℕ} 0 1 = cc in omega arith
not_both_ends B (Placed.exit w i q m ∷ gs) st (inr a) (inl b) = let z : ◌≡◌ {A = ℕ} 0 1 = cc in omega arith
not_both_ends B (Placed.exit w i q m ∷ gs) st (inr a) (inr b) = not_both_ends B gs st.1 a b
not_both_ends B (Placed.sleep ∷ gs) st a (inl b) = let z : ◌≡◌ {A = ℕ} 0 1 = cc in omega arith
not_both_ends B (Placed.sleep ∷ gs) st a (inr b) = subst (λ (z : List Placed). In Placed.bingo z) st b
not_both_ends B (Placed.bingo ∷ gs) st (inl a) b = let z : ◌≡◌ {A = ℕ} 0 1 = cc in omega arith
not_both_ends B (Placed.bingo ∷ gs) st (inr a) b = subst (λ (z : List Placed). In Placed.sleep z) st a

abbrev StackUp : Book → Option Placed → List Placed → Type 0
StackUp B none gs = Stacked B gs
StackUp B (some g) gs = Stacked B (g ∷ gs)

unfoldable upos : Option Placed → Option Position
upos none = none
upos (some (Placed.job q o k c m)) = some q
upos (some (Placed.exit w i q m)) = none
upos (some Placed.sleep) = none
upos (some Placed.bingo) = none

stack_tail : (B : Book) (up : Option Placed) (gs : List Placed) → StackUp B up gs → Stacked B gs
stack_tail B none gs h = h
stack_tail B (some g) gs h = stacked_tail B g gs h

-- WEIGHTS

unfoldable next_ω : ℕ → Weight
next_ω v up (Placed.job p o k c m) lo = suc k
next_ω v up (Placed.exit w i q m) lo = 0
next_ω v up Placed.sleep lo = 0
next_ω v up Placed.bingo lo = 0

unfoldable count_ω : ℕ → Weight
count_ω v up (Placed.job p o k c m) lo = c
count_ω v up (Placed.exit w i q m) lo = 0
count_ω v up Placed.sleep lo = 0
count_ω v up Placed.bingo lo = 0

-- the number of a job's next JOIN, or of an EXIT's
unfoldable number_ω : ℕ → Weight
number_ω v up (Placed.job p o k c m) lo = m
number_ω v up (Placed.exit w i q m) lo = m
number_ω v up Placed.sleep lo = 0
number_ω v up Placed.bingo lo = 0

unfoldable code : Option Placed → ℕ
unfolding last
code none = 0
code (some (Placed.job q o k c m)) = suc (last q)
code (some (Placed.exit w i q m)) = 0
code (some Placed.sleep) = 0
code (some Placed.bingo) = 0

unfoldable active_ω : ℕ → Weight
unfolding code
active_ω v up g lo = code up

unfoldable unit_ω : ℕ → Weight
unit_ω v up g lo = v

unfoldable one_ω : ℕ → Weight
one_ω v up g lo = 1

unfoldable kind_from : ℕ → ℕ → ℕ → Kind
kind_from zero c m = Kind.resting
kind_from (suc zero) c m = Kind.fresh
kind_from (suc (suc k)) c m = Kind.underway k c m

unfoldable part_from : ℕ → ℕ → ℕ → ℕ
part_from zero s r = s
part_from (suc k) s r = r

-- KEYS: a job's offset; an EXIT's part's offset

unfoldable pub job_key : Term → Placed → Option ℕ
unfolding offset
job_key t (Placed.job p o k c m) = some (offset p t)
job_key t (Placed.exit w i q m) = none
job_key t Placed.sleep = none
job_key t Placed.bingo = none

unfoldable exit_key : Term → Placed → Option ℕ
unfolding offset
exit_key t (Placed.job p o k c m) = none
exit_key t (Placed.exit w i q m) = some (offset q t)
exit_key t Placed.sleep = none
exit_key t Placed.bingo = none

job_of_key : (t : Term) (g : Placed) (a : ℕ) → job_key t g ≡ some a → (p : Position) × (o : ℕ) × (k : ℕ) × (c : ℕ) × (m : ℕ) × (g ≡ Placed.job p o k c m) × (offset p t ≡ a)
unfolding job_key
job_of_key t (Placed.job p o k c m) a e = (p, o, k, c, m, refl, some-injective _ _ e)
job_of_key t (Placed.exit w i q m) a e = absurd (none-ne-some _ e)
job_of_key t Placed.sleep a e = absurd (none-ne-some _ e)
job_of_key t Placed.bingo a e = absurd (none-ne-some _ e)

exit_of_key : (t : Term) (g : Placed) (a : ℕ) → exit_key t g ≡ some a → (w : ℕ) × (i : ℕ) × (q : Position) × (m : ℕ) × (g ≡ Placed.exit w i q m) × (offset q t ≡ a)
unfolding exit_key
exit_of_key t (Placed.job p o k c m) a e = absurd (none-ne-some _ e)
exit_of_key t (Placed.exit w i q m) a e = (w, i, q, m, refl, some-injective _ _ e)
exit_of_key t Placed.sleep a e = absurd (none-ne-some _ e)
exit_of_key t Placed.bingo a e = absurd (none-ne-some _ e)

-- two jobs at one offset of a stack
module _ (t : Term) (a : ℕ) where
  jobs_more : (g : Placed) (gs : List Placed) → jobs_at a (stack_of t gs) ≤ jobs_at a (stack_of t (g ∷ gs))
  unfolding frame_of jobs_at
  jobs_more (Placed.job p o k c j) gs = let z = jobs_cons a (offset p t) k c (stack_of t gs) in omega (arith, z)
  jobs_more (Placed.exit w i q j) gs = omega arith
  jobs_more Placed.sleep gs = omega arith
  jobs_more Placed.bingo gs = omega arith

  jobs_here : (g : Placed) (gs : List Placed) → job_key t g ≡ some a → jobs_at a (stack_of t (g ∷ gs)) ≡ suc (jobs_at a (stack_of t gs))
  unfolding frame_of
  jobs_here g gs e =
      let (p, o, k, c, m, q, r) = job_of_key t g a e in
      let z : jobs_at a (Frame.job (offset p t) k c ∷ stack_of t gs) ≡ suc (jobs_at a (stack_of t gs)) =
      (let x = jobs_cons a (offset p t) k c (stack_of t gs) in let y = same_is (offset p t) a 1 r in omega (arith, x, y)) in
      ap (λ (x : Placed). jobs_at a (stack_of t (x ∷ gs))) q ∙ z

  jobs_some : (gs : List Placed) (i : ℕ) (g : Placed) → FrameAt gs i g → job_key t g ≡ some a → 1 ≤ jobs_at a (stack_of t gs)
  jobs_some [] i g f e = absurd f
  jobs_some (x ∷ gs) i g (inl f) e = let z = jobs_here x gs (ap (job_key t) f.1 ∙ e) in omega (arith, z)
  jobs_some (x ∷ gs) i g (inr f) e = omega (arith, jobs_some gs i g f e, jobs_more x gs)

  jobs_two : (gs : List Placed) (i i' : ℕ) (g g' : Placed) → i ≢ i' → FrameAt gs i g → FrameAt gs i' g' → job_key t g ≡ some a → job_key t g' ≡ some a → 2 ≤ jobs_at a (stack_of t gs)
  jobs_two [] i i' g g' ne f f' e e' = absurd f
  jobs_two (x ∷ gs) i i' g g' ne (inl f) (inl f') e e' = absurd (ne (f.0 ∙ sym f'.0))
  jobs_two (x ∷ gs) i i' g g' ne (inl f) (inr f') e e' = let z = jobs_here x gs (ap (job_key t) f.1 ∙ e) in omega (arith, z, jobs_some gs i' g' f' e')
  jobs_two (x ∷ gs) i i' g g' ne (inr f) (inl f') e e' = let z = jobs_here x gs (ap (job_key t) f'.1 ∙ e') in omega (arith, z, jobs_some gs i g f e)
  jobs_two (x ∷ gs) i i' g g' ne (inr f) (inr f') e e' = omega (arith, jobs_two gs i i' g g' ne f f' e e', jobs_more x gs)

pub job_once : (t : Term) (U : List PlacedUnit) → ((x n : ℕ) → upto (λ v. jobs_at x (stack_of t (at U v).frames)) n ≤ 1) → (a v i v' i' : ℕ) (g g' : Placed) →
    FrameAt (at U v).frames i g → FrameAt (at U v').frames i' g' → job_key t g ≡ some a → job_key t g' ≡ some a → (v ≡ v') × (i ≡ i')
job_once t U distinct a v i v' i' g g' f f' e e' =
    elim (eqb_cases v v') [
      | inl p ↦
          elim (eqb_cases i i') [
            | inl q ↦ (p.1, q.1)
            | inr q ↦
                absurd (
                let z = jobs_two t a (at U v).frames i i' g g' q.1 f (subst (λ (x : ℕ). FrameAt (at U x).frames i' g') (sym p.1) f') e e' in
                let x = upto_one (λ u. jobs_at a (stack_of t (at U u).frames)) v (suc v) (omega arith) in
                let y = distinct a (suc v) in omega (arith, x, y, z)
                )
          ]
      | inr p ↦
          absurd (
          let x = upto_two (λ u. jobs_at a (stack_of t (at U u).frames)) v v' (suc (v + v')) p.1 (omega arith) (omega arith) in
          let y = distinct a (suc (v + v')) in
          omega (arith, x, y, jobs_some t a (at U v).frames i g f e, jobs_some t a (at U v').frames i' g' f' e')
          )
    ]

-- the EXIT that has k EXITs below it
pend_site : (up₀ : Option Placed) (gs : List Placed) (n k : ℕ) → n + suc k ≡ exits gs →
    (up : Option Placed) × (w : ℕ) × (i : ℕ) × (q : Position) × (m : ℕ) × (lo : List Placed) × Site up₀ gs up (Placed.exit w i q m) lo
    × (exits lo ≡ k) × (get_or (exits_of gs) n (pending [] 0) ≡ pending q m)
unfolding exits_of
pend_site up₀ [] n k e = absurd (omega (arith, e))
pend_site up₀ (Placed.job p o k' c m ∷ gs) n k e =
    let (up, w, i, q, r, lo, s, a, b) = pend_site (some (Placed.job p o k' c m)) gs n k e in (up, w, i, q, r, lo, inr s, a, b)
pend_site up₀ (Placed.exit w i q m ∷ gs) zero k e = (up₀, w, i, q, m, gs, inl (refl, refl, refl), omega (arith, e), refl)
pend_site up₀ (Placed.exit w i q m ∷ gs) (suc n) k e =
    let (up, w', i', q', r, lo, s, a, b) = pend_site (some (Placed.exit w i q m)) gs n k (omega (arith, e)) in (up, w', i', q', r, lo, inr s, a, b)
pend_site up₀ (Placed.sleep ∷ gs) n k e = let (up, w, i, q, r, lo, s, a, b) = pend_site (some Placed.sleep) gs n k e in (up, w, i, q, r, lo, inr s, a, b)
pend_site up₀ (Placed.bingo ∷ gs) n k e = let (up, w, i, q, r, lo, s, a, b) = pend_site (some Placed.bingo) gs n k e in (up, w, i, q, r, lo, inr s, a, b)

-- the EXITs below an EXIT are fewer
exits_below : (up₀ : Option Placed) (gs : List Placed) (up : Option Placed) (g : Placed) (lo : List Placed) → Site up₀ gs up g lo → exits (g ∷ lo) ≤ exits gs
unfolding exits_of
exits_below up₀ [] up g lo s = absurd s
exits_below up₀ (x ∷ gs) up g lo (inl s) = let e = ap₂ (λ (y : Placed) (z : List Placed). exits (y ∷ z)) s.1 s.2 in omega (arith, e)
exits_below up₀ (x ∷ gs) up g lo (inr s) = let a = exits_below (some x) gs up g lo s in let b = more x in omega (arith, a, b)
  where
    more : (x : Placed) → exits gs ≤ exits (x ∷ gs)
    more (Placed.job p o k c m) = omega arith
    more (Placed.exit w i q m) = omega arith
    more Placed.sleep = omega arith
    more Placed.bingo = omega arith

-- the EXITs at an offset
walk_psum : (t : Term) (b : ℕ) (up : Option Placed) (gs : List Placed) (v : ℕ) →
    psum (λ x. if_same (offset x.position t) b 1) (exits_of gs) ≡ walk (exit_key t) (one_ω v) b up gs
unfolding psum exits_of walk exit_key one_ω at_key
walk_psum t b up [] v = refl
walk_psum t b up (Placed.job p o k c m ∷ gs) v = omega (arith, walk_psum t b (some (Placed.job p o k c m)) gs v)
walk_psum t b up (Placed.exit w i q m ∷ gs) v = omega (arith, walk_psum t b (some (Placed.exit w i q m)) gs v)
walk_psum t b up (Placed.sleep ∷ gs) v = omega (arith, walk_psum t b (some Placed.sleep) gs v)
walk_psum t b up (Placed.bingo ∷ gs) v = omega (arith, walk_psum t b (some Placed.bingo) gs v)

-- THE TABLES

module _ (B : Book) (sound : Sound B) (settled : Settled B) (t : Term) (U : List PlacedUnit) (placed : List ℕ) (seats : Seats B t U placed) where
  abbrev good : Good B t U
  good = seats.good

  abbrev fr : ℕ → List Placed
  fr v = (at U v).frames

  no_key : (job_key t Placed.sleep ≡ none) × (exit_key t Placed.sleep ≡ none)
  unfolding job_key exit_key
  no_key = (refl, refl)

  exit_once : (a v i v' i' : ℕ) (g g' : Placed) → FrameAt (fr v) i g → FrameAt (fr v') i' g' → exit_key t g ≡ some a → exit_key t g' ≡ some a → (v ≡ v') × (i ≡ i')
  exit_once a v i v' i' g g' f f' e e' =
      let (w, x, q, m, d, r) = exit_of_key t g a e in
      let (w', x', q', m', d', r') = exit_of_key t g' a e' in
      let h : FrameAt (fr v) i (Placed.exit w x q m) = subst (λ (z : Placed). FrameAt (fr v) i z) d f in
      let h' : FrameAt (fr v') i' (Placed.exit w' x' q' m') = subst (λ (z : Placed). FrameAt (fr v') i' z) d' f' in
      let same : q ≡ q' =
      offset_unique q q' t (seats.valid v w x q m (frame_in (fr v) i (Placed.exit w x q m) h)) (seats.valid v' w' x' q' m' (frame_in (fr v') i' (Placed.exit w' x' q' m') h')) (r ∙ sym r') in
      seats.apart v i w x q m v' i' w' x' m' h (subst (λ (z : Position). FrameAt (fr v') i' (Placed.exit w' x' z m')) (sym same) h')

  tab : (ℕ → Weight) → ℕ → ℕ
  tab ω a = table (job_key t) U no_key.0 (job_once t U seats.distinct) ω a

  etab : (ℕ → Weight) → ℕ → ℕ
  etab ω a = table (exit_key t) U no_key.1 exit_once ω a

  unfoldable stamp_ω : ℕ → Weight
  unfolding stamp exits_of
  stamp_ω v up g lo = stamp v (exits lo) placed

  S : ℕ → ℕ
  S a = etab stamp_ω a

  -- the part that a frame over some others belongs to
  unfoldable below_part : ℕ → List Placed → ℕ
  unfolding stamp exits_of
  below_part v [] = 0
  below_part v (Placed.job p o k c m ∷ gs) = below_part v gs
  below_part v (Placed.exit w i q m ∷ gs) = stamp v (exits gs) placed
  below_part v (Placed.sleep ∷ gs) = 0
  below_part v (Placed.bingo ∷ gs) = 0

  unfoldable part_ω : ℕ → Weight
  unfolding below_part
  part_ω v up g lo = below_part v lo

  kind : ℕ → Kind
  kind a = kind_from (tab next_ω a) (tab count_ω a) (tab number_ω a)

  part : ℕ → ℕ
  part a = part_from (tab next_ω a) (S a) (tab part_ω a)

  active : ℕ → ℕ
  active a = tab active_ω a

  T : Tables
  T = record { kind = kind; active = active; stamp = S; owner = etab unit_ω; join = etab number_ω; part = part }

  -- A JOB'S ENTRIES

  module _ (v : ℕ) (up : Option Placed) (p : Position) (o k c m : ℕ) (lo : List Placed) (s : Site none (fr v) up (Placed.job p o k c m) lo) where
    tab_is : (ω : ℕ → Weight) → tab ω (offset p t) ≡ ω v up (Placed.job p o k c m) lo
    unfolding tab job_key
    tab_is ω = table_is (job_key t) U no_key.0 (job_once t U seats.distinct) ω (offset p t) v up (Placed.job p o k c m) lo s refl

    next_is : tab next_ω (offset p t) ≡ suc k
    unfolding next_ω
    next_is = tab_is next_ω

    kind_is : kind (offset p t) ≡ kind_from (suc k) c m
    unfolding kind count_ω number_ω
    kind_is =
        ap₂ (λ (x y : ℕ). kind_from x y (tab number_ω (offset p t))) next_is (tab_is count_ω) ∙ ap (λ (x : ℕ). kind_from (suc k) c x) (tab_is number_ω)

    active_is : active (offset p t) ≡ code up
    unfolding active active_ω
    active_is = tab_is active_ω

    part_is : part (offset p t) ≡ below_part v lo
    unfolding part part_ω part_from
    part_is = ap (λ (x : ℕ). part_from x (S (offset p t)) (tab part_ω (offset p t))) next_is ∙ tab_is part_ω

    good_site : GoodFrame B t (Placed.job p o k c m)
    good_site = good_frame B t (fr v) (length lo) (Placed.job p o k c m) (good.jobs v) (site_frame none (fr v) up (Placed.job p o k c m) lo s)

    valid_site : Valid p t
    valid_site = (rooted_of B t p o k c m good_site).0

    under_site : Under B p lo
    under_site = (stacked_site B none (fr v) up (Placed.job p o k c m) lo s (good.stacked v)).0

  abbrev JobHere : Position → Type 0
  JobHere p = (v : ℕ) × (up : Option Placed) × (o : ℕ) × (k : ℕ) × (c : ℕ) × (m : ℕ) × (lo : List Placed) × Site none (fr v) up (Placed.job p o k c m) lo

  seen : (p : Position) → Valid p t → (tab next_ω (offset p t) ≡ 0) ⊎ JobHere p
  unfolding tab
  seen p v =
      elim (ltb_cases 0 (tab next_ω (offset p t))) [
        | inl l ↦
            (let a = l.1 in
            let (w, up, g, lo, s, e) = table_some (job_key t) U no_key.0 (job_once t U seats.distinct) next_ω (offset p t) (omega (arith, a)) in
            let (q, o, k, c, m, d, f) = job_of_key t g (offset p t) e in
            let s₁ : Site none (fr w) up (Placed.job q o k c m) lo = subst (λ (z : Placed). Site none (fr w) up z lo) d s in
            let r : q ≡ p = offset_unique q p t (valid_site w up q o k c m lo s₁) v f in
            inr (w, up, o, k, c, m, lo, subst (λ (z : Position). Site none (fr w) up (Placed.job z o k c m) lo) r s₁))
        | inr l ↦ (let a = l.1 in inl (omega (arith, a)))
      ]

  resting_is : (a : ℕ) → tab next_ω a ≡ 0 → kind a ≡ Kind.resting
  unfolding kind kind_from
  resting_is a e = ap (λ (x : ℕ). kind_from x (tab count_ω a) (tab number_ω a)) e

  one_job : (v i v' i' : ℕ) (p : Position) (o k c m o' k' c' m' : ℕ) → FrameAt (fr v) i (Placed.job p o k c m) → FrameAt (fr v') i' (Placed.job p o' k' c' m') →
      (v ≡ v') × (i ≡ i') × (Placed.job p o k c m ≡ Placed.job p o' k' c' m')
  unfolding job_key
  one_job v i v' i' p o k c m o' k' c' m' h h' =
      let (a, b) = job_once t U seats.distinct (offset p t) v i v' i' (Placed.job p o k c m) (Placed.job p o' k' c' m') h h' refl refl in
      let h'' : FrameAt (fr v) i (Placed.job p o' k' c' m') =
      subst (λ (z : ℕ). FrameAt (fr z) i (Placed.job p o' k' c' m')) (sym a) (subst (λ (z : ℕ). FrameAt (fr v') z (Placed.job p o' k' c' m')) (sym b) h') in
      (a, b, frame_unique (fr v) i (Placed.job p o k c m) (Placed.job p o' k' c' m') h h'')

  -- AN EXIT'S ENTRIES

  module _ (v : ℕ) (up : Option Placed) (w i : ℕ) (q : Position) (m : ℕ) (lo : List Placed) (s : Site none (fr v) up (Placed.exit w i q m) lo) where
    etab_is : (ω : ℕ → Weight) → etab ω (offset q t) ≡ ω v up (Placed.exit w i q m) lo
    unfolding etab exit_key
    etab_is ω = table_is (exit_key t) U no_key.1 exit_once ω (offset q t) v up (Placed.exit w i q m) lo s refl

    stamp_at : S (offset q t) ≡ stamp v (exits lo) placed
    unfolding S stamp_ω
    stamp_at = etab_is stamp_ω

    owner_at : etab unit_ω (offset q t) ≡ v
    unfolding unit_ω
    owner_at = etab_is unit_ω

    join_at : etab number_ω (offset q t) ≡ m
    unfolding number_ω
    join_at = etab_is number_ω

    -- it stands in the order of placing
    in_order : (later : List ℕ) × (before : List ℕ) × (placed ≡ later ++ (v ∷ before)) × (times v before ≡ exits lo)
    unfolding exits_of
    in_order =
        let a = exits_below none (fr v) up (Placed.exit w i q m) lo s in
        let b = seats.many v in
        split_at v (exits lo) placed (omega (arith, a, b))

    stamp_late : (later before : List ℕ) → placed ≡ later ++ (v ∷ before) → times v before ≡ exits lo → S (offset q t) ≡ suc (length before)
    stamp_late later before e f = stamp_at ∙ ap (stamp v (exits lo)) e ∙ stamp_is v (exits lo) later before f

    late : 1 ≤ S (offset q t)
    late = let (later, before, e, f) = in_order in let a = stamp_late later before e f in omega (arith, a)

  site_in : (v : ℕ) (up : Option Placed) (g : Placed) (lo : List Placed) → Site none (fr v) up g lo → In g (fr v)
  site_in v up g lo s = frame_in (fr v) (length lo) g (site_frame none (fr v) up g lo s)

  exit_site : (v w i : ℕ) (q : Position) (m : ℕ) → In (Placed.exit w i q m) (fr v) → (up : Option Placed) × (lo : List Placed) × Site none (fr v) up (Placed.exit w i q m) lo
  exit_site v w i q m h =
      let (x, f) = in_frame (fr v) (Placed.exit w i q m) h in
      let (up, lo, s, e) = frame_site none (fr v) x (Placed.exit w i q m) f in (up, lo, s)

  exit_late : (v w i : ℕ) (q : Position) (m : ℕ) → In (Placed.exit w i q m) (fr v) → 1 ≤ S (offset q t)
  exit_late v w i q m h = let (up, lo, s) = exit_site v w i q m h in late v up w i q m lo s

  exit_join : (v w i : ℕ) (q : Position) (m : ℕ) → In (Placed.exit w i q m) (fr v) → etab number_ω (offset q t) ≡ m
  exit_join v w i q m h = let (up, lo, s) = exit_site v w i q m h in join_at v up w i q m lo s

  some_exit : (ω : ℕ → Weight) (a : ℕ) → 1 ≤ etab ω a →
      (v : ℕ) × (up : Option Placed) × (w : ℕ) × (i : ℕ) × (q : Position) × (m : ℕ) × (lo : List Placed) × Site none (fr v) up (Placed.exit w i q m) lo × (offset q t ≡ a)
  unfolding etab
  some_exit ω a l =
      let (v, up, g, lo, s, e) = table_some (exit_key t) U no_key.1 exit_once ω a l in
      let (w, i, q, m, d, f) = exit_of_key t g a e in
      (v, up, w, i, q, m, lo, subst (λ (z : Placed). Site none (fr v) up z lo) d s, f)

  lent_exit : (q : Position) → Valid q t → 1 ≤ S (offset q t) → (v : ℕ) × (w : ℕ) × (i : ℕ) × (m : ℕ) × In (Placed.exit w i q m) (fr v)
  unfolding S
  lent_exit q vq l =
      let (v, up, w, i, q', m, lo, s, e) = some_exit stamp_ω (offset q t) l in
      let h = site_in v up (Placed.exit w i q' m) lo s in
      let r : q' ≡ q = offset_unique q' q t (seats.valid v w i q' m h) vq e in
      (v, w, i, m, subst (λ (z : Position). In (Placed.exit w i z m) (fr v)) r h)

  -- the job of its JOIN
  exit_holder : (v w i : ℕ) (p : Position) (x m : ℕ) → In (Placed.exit w i (p ++ (x ∷ [])) m) (fr v) →
      (o : ℕ) × (k : ℕ) × (c : ℕ) × FrameAt (fr w) i (Placed.job p o (suc k) c m) × InGroup (drop k (steps B o))
  exit_holder v w i p x m h =
      let (p', o, k, c, y, f, g, e) = holder_of B (fr w) i m (p ++ (x ∷ [])) (good.exits v w i (p ++ (x ∷ [])) m h).1 in
      let r : p' ≡ p = sym (same_parent p p' x y e) in
      (o, k, c, subst (λ (z : Position). FrameAt (fr w) i (Placed.job z o (suc k) c m)) r f, g)

  -- a job at a lent part stands on its EXIT
  lent_job : (v : ℕ) (up : Option Placed) (q : Position) (o k c r : ℕ) (lo : List Placed) (x : Placed) (v' w i m : ℕ) →
      Site none (fr v) up (Placed.job q o k c r) (x ∷ lo) → In (Placed.exit w i q m) (fr v') → (v ≡ v') × (x ≡ Placed.exit w i q m)
  lent_job v up q o k c r lo x v' w i m s h =
      elim (on_exit B (fr v') (good.stacked v') w i q m h) [
        | inl d ↦ absurd (seats.free v' w i q m d.0 d.1 v (length (x ∷ lo)) o k c r (site_frame none (fr v) up (Placed.job q o k c r) (x ∷ lo) s))
        | inr d ↦ same d
      ]
    where
      same : (up' : Option Placed) × (o' : ℕ) × (k' : ℕ) × (c' : ℕ) × (r' : ℕ) × (lo' : List Placed) × Site none (fr v') up' (Placed.job q o' k' c' r') (Placed.exit w i q m ∷ lo') →
          (v ≡ v') × (x ≡ Placed.exit w i q m)
      same (up', o', k', c', r', lo', s') =
          let f = site_frame none (fr v) up (Placed.job q o k c r) (x ∷ lo) s in
          let f' = site_frame none (fr v') up' (Placed.job q o' k' c' r') (Placed.exit w i q m ∷ lo') s' in
          let (a, b, e) = one_job v (length (x ∷ lo)) v' (length (Placed.exit w i q m ∷ lo')) q o k c r o' k' c' r' f f' in
          let g = site_frame none (fr v) (some (Placed.job q o k c r)) x lo (site_below none (fr v) up (Placed.job q o k c r) x lo s) in
          let g' = site_frame none (fr v') (some (Placed.job q o' k' c' r')) (Placed.exit w i q m) lo' (site_below none (fr v') up' (Placed.job q o' k' c' r') (Placed.exit w i q m) lo' s') in
          let l : length lo ≡ length lo' = omega (arith, b) in (
            a,
            frame_unique (fr v) (length lo) x (Placed.exit w i q m) g
                (subst (λ (z : ℕ). FrameAt (fr z) (length lo) (Placed.exit w i q m)) (sym a) (subst (λ (z : ℕ). FrameAt (fr v') z (Placed.exit w i q m)) (sym l) g')),
          )

  -- THE SYMBOLS

  -- the job of an argument: its part is lent, or it stands on the job around it
  abbrev Around : Position → ℕ → List Placed → Type 0
  Around p x lo =
      ((w : ℕ) × (i : ℕ) × (r : ℕ) × (lo' : List Placed) × (lo ≡ Placed.exit w i (p ++ (x ∷ [])) r ∷ lo'))
      ⊎ ((o' : ℕ) × (k' : ℕ) × (c' : ℕ) × (m' : ℕ) × (lo' : List Placed) × (lo ≡ Placed.job p o' (suc k') c' m' ∷ lo') × Unnamed x (drop k' (steps B o')))

  around : (p : Position) (x : ℕ) (lo : List Placed) → Under B (p ++ (x ∷ [])) lo → Around p x lo
  around p x [] h = absurd h
  around p x (Placed.job p' o' zero c' m' ∷ lo') h = absurd h
  around p x (Placed.job p' o' (suc k') c' m' ∷ lo') h =
      let (y, e, un) = h in
      let a : p ≡ p' = same_parent p p' x y e in
      let b : x ≡ y = same_last p p' x y e in
      inr (o', k', c', m', lo', ap (λ (z : Position). Placed.job z o' (suc k') c' m' ∷ lo') (sym a), subst (λ (z : ℕ). Unnamed z (drop k' (steps B o'))) (sym b) un)
  around p x (Placed.exit w i q r ∷ lo') h = inl (w, i, r, lo', ap (λ (z : Position). Placed.exit w i z r ∷ lo') (sym h))
  around p x (Placed.sleep ∷ lo') h = absurd h
  around p x (Placed.bingo ∷ lo') h = absurd (no_root p x h)

  -- the job around an argument that is lent or in work is underway
  abbrev Underway : Position → Type 0
  Underway p = (v : ℕ) × (up : Option Placed) × (o : ℕ) × (k : ℕ) × (c : ℕ) × (m : ℕ) × (lo : List Placed) × Site none (fr v) up (Placed.job p o (suc k) c m) lo

  lent_around : (v w i : ℕ) (p : Position) (x m : ℕ) → In (Placed.exit w i (p ++ (x ∷ [])) m) (fr v) → Underway p
  lent_around v w i p x m h =
      let (o, k, c, f, g) = exit_holder v w i p x m h in
      let (up, lo, s, e) = frame_site none (fr w) i (Placed.job p o (suc k) c m) f in
      (w, up, o, k, c, m, lo, s)

  job_around : (p : Position) (x : ℕ) → JobHere (p ++ (x ∷ [])) → Underway p
  job_around p x (v, up, o, k, c, m, lo, s) =
      let J : Placed = Placed.job (p ++ (x ∷ [])) o k c m in
      elim (around p x lo (under_site v up (p ++ (x ∷ [])) o k c m lo s)) [
        | inl a ↦
            (let (w, i, r, lo', e) = a in
            let E : Placed = Placed.exit w i (p ++ (x ∷ [])) r in
            let s' : Site none (fr v) up J (E ∷ lo') = subst (λ (z : List Placed). Site none (fr v) up J z) e s in
            lent_around v w i p x r (site_in v (some J) E lo' (site_below none (fr v) up J E lo' s')))
        | inr a ↦
            (let (o', k', c', m', lo', e, un) = a in
            (v, some J, o', k', c', m', lo', site_below none (fr v) up J (Placed.job p o' (suc k') c' m') lo' (subst (λ (z : List Placed). Site none (fr v) up J z) e s)))
      ]

  zero_or : (a : ℕ) → (a ≡ 0) ⊎ (1 ≤ a)
  zero_or zero = inl refl
  zero_or (suc a) = inr (omega arith)

  bare : (p : Position) → Valid p t → (Underway p → ⊥) → Bare B T t p (subterm p t)
  unfolding T
  bare p v nj i l =
      let w : Valid (p ++ (i ∷ [])) t = valid_append p i t v l in (
        elim (zero_or (S (offset (p ++ (i ∷ [])) t))) [
          | inl e ↦ e
          | inr k ↦ absurd (let (v', w', i', m, h) = lent_exit (p ++ (i ∷ [])) w k in nj (lent_around v' w' i' p i m h))
        ],
        elim (seen (p ++ (i ∷ [])) w) [ inl e ↦ resting_is (offset (p ++ (i ∷ [])) t) e | inr h ↦ absurd (nj (job_around p i h)) ],
      )

  -- the nearest EXIT below
  below_exit : (v : ℕ) (lo : List Placed) → (below_part v lo ≡ 0) ⊎ ((k : ℕ) × (below_part v lo ≡ stamp v k placed) × (exits lo ≡ suc k))
  unfolding below_part exits_of
  below_exit v [] = inl refl
  below_exit v (Placed.job p o k c m ∷ gs) = below_exit v gs
  below_exit v (Placed.exit w i q m ∷ gs) = inr (exits gs, refl, refl)
  below_exit v (Placed.sleep ∷ gs) = inl refl
  below_exit v (Placed.bingo ∷ gs) = inl refl

  below_is : (v w i : ℕ) (q : Position) (m : ℕ) (lo : List Placed) → below_part v (Placed.exit w i q m ∷ lo) ≡ stamp v (exits lo) placed
  unfolding below_part
  below_is v w i q m lo = refl

  -- A JOB THAT IS UNDERWAY

  module _ (v : ℕ) (up : Option Placed) (p : Position) (o k c m : ℕ) (lo : List Placed) (s : Site none (fr v) up (Placed.job p o (suc k) c m) lo) where
    abbrev J : Placed
    J = Placed.job p o (suc k) c m

    abbrev ss : List Step
    ss = drop k (steps B o)

    here : FrameAt (fr v) (length lo) J
    here = site_frame none (fr v) up J lo s

    -- the EXIT of an argument is for this job's JOIN
    for_this : (v' w i x r : ℕ) → In (Placed.exit w i (p ++ (x ∷ [])) r) (fr v') → (v ≡ w) × (length lo ≡ i) × (r ≡ m) × InGroup ss
    for_this v' w i x r h =
        let (o', k', c', f, g) = exit_holder v' w i p x r h in
        let (a, b, e) = one_job v (length lo) w i p o (suc k) c m o' (suc k') c' r here f in
        let e₁ : o ≡ o' = cc in
        let e₂ : k ≡ k' = cc in
        let e₃ : m ≡ r = cc in
        (a, b, sym e₃, subst (λ (z : ℕ). InGroup (drop z (steps B o))) (sym e₂) (subst (λ (z : ℕ). InGroup (drop k' (steps B z))) (sym e₁) g))

    -- as this job's EXIT
    as_this : (v' w i x r : ℕ) → In (Placed.exit w i (p ++ (x ∷ [])) r) (fr v') → In (Placed.exit v (length lo) (p ++ (x ∷ [])) m) (fr v')
    as_this v' w i x r h =
        let (a, b, d, g) = for_this v' w i x r h in
        subst (λ (z : ℕ). In (Placed.exit v (length lo) (p ++ (x ∷ [])) z) (fr v')) d
        (subst (λ (z : ℕ). In (Placed.exit v z (p ++ (x ∷ [])) r) (fr v')) (sym b) (subst (λ (z : ℕ). In (Placed.exit z i (p ++ (x ∷ [])) r) (fr v')) (sym a) h))

    -- a lent argument isn't named again
    lent_unnamed : (v' w i x r : ℕ) → In (Placed.exit w i (p ++ (x ∷ [])) r) (fr v') → Unnamed x ss
    lent_unnamed v' w i x r h = seats.unnamed v' v (length lo) p x m o k c (as_this v' w i x r h) here

    -- and was placed later
    lent_later : (v' w i x r : ℕ) → In (Placed.exit w i (p ++ (x ∷ [])) r) (fr v') → part (offset p t) < S (offset (p ++ (x ∷ [])) t)
    lent_later v' w i x r h =
        let q : Position = p ++ (x ∷ []) in
        let (up₂, lo₂, s₂) = exit_site v' v (length lo) q m (as_this v' w i x r h) in
        let (later, before, e, f) = in_order v' up₂ v (length lo) q m lo₂ s₂ in
        let st = stamp_late v' up₂ v (length lo) q m lo₂ s₂ later before e f in
        let pt = part_is v up p o (suc k) c m lo s in
        elim (below_exit v lo) [
          | inl z ↦ omega (arith, st, pt, z)
          | inr z ↦
              (let (n, a, b) = z in
              let l = seats.earlier v' up₂ v q m lo₂ up p o k c lo later before s₂ s e f in
              let y = stamp_before v n (later ++ (v' ∷ [])) before (omega (arith, l, b)) in
              let eq : placed ≡ (later ++ (v' ∷ [])) ++ before = e ∙ sym (append_assoc later (v' ∷ []) before) in
              omega (arith, st, pt, a, y, ap (stamp v n) eq))
        ]

    -- the part of a lent argument
    lent_part : (v' w i x r : ℕ) → In (Placed.exit w i (p ++ (x ∷ [])) r) (fr v') → part (offset (p ++ (x ∷ [])) t) ≡ S (offset (p ++ (x ∷ [])) t)
    unfolding part part_from
    lent_part v' w i x r h =
        let q : Position = p ++ (x ∷ []) in
        elim (seen q (seats.valid v' w i q r h)) [
          | inl e ↦ ap (λ (z : ℕ). part_from z (S (offset q t)) (tab part_ω (offset q t))) e
          | inr e ↦ job_part e
        ]
      where
        on_it : (v₂ : ℕ) (up₂ : Option Placed) (o₂ k₂ c₂ m₂ : ℕ) (lo₂ : List Placed) → Site none (fr v₂) up₂ (Placed.job (p ++ (x ∷ [])) o₂ k₂ c₂ m₂) lo₂ → Under B (p ++ (x ∷ [])) lo₂ →
            below_part v₂ lo₂ ≡ S (offset (p ++ (x ∷ [])) t)
        on_it v₂ up₂ o₂ k₂ c₂ m₂ [] s₂ u = absurd u
        on_it v₂ up₂ o₂ k₂ c₂ m₂ (y ∷ lo₂) s₂ u =
            let q : Position = p ++ (x ∷ []) in
            let J₂ : Placed = Placed.job q o₂ k₂ c₂ m₂ in
            let E : Placed = Placed.exit w i q r in
            let (a, e) = lent_job v₂ up₂ q o₂ k₂ c₂ m₂ lo₂ y v' w i r s₂ h in
            let s₃ : Site none (fr v₂) (some J₂) E lo₂ = subst (λ (z : Placed). Site none (fr v₂) (some J₂) z lo₂) e (site_below none (fr v₂) up₂ J₂ y lo₂ s₂) in
            ap (λ (z : Placed). below_part v₂ (z ∷ lo₂)) e ∙ below_is v₂ w i q r lo₂ ∙ sym (stamp_at v₂ (some J₂) w i q r lo₂ s₃)

        job_part : JobHere (p ++ (x ∷ [])) → part (offset (p ++ (x ∷ [])) t) ≡ S (offset (p ++ (x ∷ [])) t)
        job_part (v₂, up₂, o₂, k₂, c₂, m₂, lo₂, s₂) =
            part_is v₂ up₂ (p ++ (x ∷ [])) o₂ k₂ c₂ m₂ lo₂ s₂ ∙ on_it v₂ up₂ o₂ k₂ c₂ m₂ lo₂ s₂ (under_site v₂ up₂ (p ++ (x ∷ [])) o₂ k₂ c₂ m₂ lo₂ s₂)

    -- the rule of an argument
    works_from : (k' c' m' : ℕ) → Works (kind_from (suc k') c' m')
    unfolding kind_from
    works_from zero c' m' = tt
    works_from (suc k') c' m' = tt

    own_child : (x : ℕ) (g : Placed) (up' : Option Placed) → Site none (fr v) up' g (J ∷ lo) → code (some g) ≡ suc x → Stacked B (g ∷ J ∷ lo) →
        Works (kind (offset (p ++ (x ∷ [])) t)) × (part (offset (p ++ (x ∷ [])) t) ≡ part (offset p t)) × Unnamed x ss
    unfolding code below_part
    own_child x (Placed.job q o' k' c' m') up' s' e st =
        let (y, eq, un) = st.0 in
        let xy : x ≡ y = (let a : last q ≡ y = ap last eq ∙ last_append p y in omega (arith, a, e)) in
        let qx : q ≡ p ++ (x ∷ []) = eq ∙ ap (λ (z : ℕ). p ++ (z ∷ [])) (sym xy) in
        let s'' : Site none (fr v) up' (Placed.job (p ++ (x ∷ [])) o' k' c' m') (J ∷ lo) = subst (λ (z : Position). Site none (fr v) up' (Placed.job z o' k' c' m') (J ∷ lo)) qx s' in (
          subst Works (sym (kind_is v up' (p ++ (x ∷ [])) o' k' c' m' (J ∷ lo) s'')) (works_from k' c' m'),
          part_is v up' (p ++ (x ∷ [])) o' k' c' m' (J ∷ lo) s'' ∙ sym (part_is v up p o (suc k) c m lo s),
          subst (λ (z : ℕ). Unnamed z ss) (sym xy) un,
        )
    own_child x (Placed.exit w i q r) up' s' e st = absurd (omega (arith, e))
    own_child x Placed.sleep up' s' e st = absurd (omega (arith, e))
    own_child x Placed.bingo up' s' e st = absurd (omega (arith, e))

    own_above : (x : ℕ) (up₂ : Option Placed) → Site none (fr v) up₂ J lo → code up₂ ≡ suc x →
        Works (kind (offset (p ++ (x ∷ [])) t)) × (part (offset (p ++ (x ∷ [])) t) ≡ part (offset p t)) × Unnamed x ss
    own_above x none s₂ e = absurd (let z : code none ≡ 0 = unfold code in refl in omega (arith, z, e))
    own_above x (some g) s₂ e =
        elim (site_above none (fr v) g J lo s₂) [
          | inl z ↦ absurd (none-ne-some _ z.0)
          | inr r ↦ own_child x g r.0 r.1 e (stacked_site B none (fr v) r.0 g (J ∷ lo) r.1 (good.stacked v))
        ]

    not_own : (x : ℕ) → S (offset (p ++ (x ∷ [])) t) ≡ 0 → eqb (active (offset p t)) (suc x) ≡ false → JobHere (p ++ (x ∷ [])) → ⊥
    not_own x z f (v₂, up₂, o₂, k₂, c₂, m₂, lo₂, s₂) =
        let q : Position = p ++ (x ∷ []) in
        let J₂ : Placed = Placed.job q o₂ k₂ c₂ m₂ in
        elim (around p x lo₂ (under_site v₂ up₂ q o₂ k₂ c₂ m₂ lo₂ s₂)) [
          | inl a ↦
              (let (w, i, r, lo₃, e) = a in
              let s₃ = subst (λ (y : List Placed). Site none (fr v₂) up₂ J₂ y) e s₂ in
              let h = site_in v₂ (some J₂) (Placed.exit w i q r) lo₃ (site_below none (fr v₂) up₂ J₂ (Placed.exit w i q r) lo₃ s₃) in
              let l = exit_late v₂ w i q r h in omega (arith, l, z))
          | inr a ↦
              (let (o₃, k₃, c₃, m₃, lo₃, e, un) = a in
              let s₃ = site_below none (fr v₂) up₂ J₂ (Placed.job p o₃ (suc k₃) c₃ m₃) lo₃ (subst (λ (y : List Placed). Site none (fr v₂) up₂ J₂ y) e s₂) in
              let ac : active (offset p t) ≡ suc x = active_is v₂ (some J₂) p o₃ (suc k₃) c₃ m₃ lo₃ s₃ ∙ code_of o₂ k₂ c₂ m₂ in
              true≢false (sym (eqb_true (active (offset p t)) (suc x) ac) ∙ f))
        ]
      where
        code_of : (o' k' c' m' : ℕ) → code (some (Placed.job (p ++ (x ∷ [])) o' k' c' m')) ≡ suc x
        code_of o' k' c' m' = unfold code in ap suc (last_append p x)

    argument_rule : (x : ℕ) → x < count (arguments (subterm p t)) → ArgumentAt B T t p x m ss
    unfolding T
    argument_rule x l = go (S (offset (p ++ (x ∷ [])) t)) refl (eqb (active (offset p t)) (suc x)) refl
      where
        va : Valid (p ++ (x ∷ [])) t
        va = valid_append p x t (valid_site v up p o (suc k) c m lo s) l

        go : (a : ℕ) → S (offset (p ++ (x ∷ [])) t) ≡ a → (z : Bool) → eqb (active (offset p t)) (suc x) ≡ z → Argument B T t a z (offset p t) (offset (p ++ (x ∷ [])) t) m x ss
        go (suc a) e z f =
            let (v', w, i, r, h) = lent_exit (p ++ (x ∷ [])) va (omega (arith, e)) in
            let (a₁, a₂, a₃, a₄) = for_this v' w i x r h in
            let la = lent_later v' w i x r h in
            ((omega (arith, la, e)), lent_part v' w i x r h ∙ e, exit_join v' w i (p ++ (x ∷ [])) r h ∙ a₃, lent_unnamed v' w i x r h)
        go zero e true f = own_above x up s (sym (active_is v up p o (suc k) c m lo s) ∙ eqb_equal (active (offset p t)) (suc x) f)
        go zero e false f =
            elim (seen (p ++ (x ∷ [])) va) [ inl y ↦ resting_is (offset (p ++ (x ∷ [])) t) y | inr y ↦ absurd (not_own x e f y) ]

  -- THE ORDER OF PLACING

  -- the pending parts of a unit, the latest first
  abbrev E : ℕ → List Pending
  E v = exits_of (fr v)

  -- the parts of some units of the order, those behind being given
  unfoldable order : List ℕ → List Pending
  unfolding times exits_of
  order [] = []
  order (v ∷ vs) = get_or (E v) (exits (fr v) - suc (times v vs)) (pending [] 0) ∷ order vs

  -- the units behind v in the order
  abbrev Behind : List ℕ → Type 0
  Behind vs = (later : List ℕ) × (placed ≡ later ++ vs)

  behind_next : (v : ℕ) (vs : List ℕ) → Behind (v ∷ vs) → Behind vs
  behind_next v vs (later, e) = (later ++ (v ∷ []), e ∙ sym (append_assoc later (v ∷ []) vs))

  enough : (v : ℕ) (vs : List ℕ) → Behind (v ∷ vs) → suc (times v vs) ≤ exits (fr v)
  enough v vs (later, e) =
      let a = seats.many v in
      let b = ap (times v) e in
      let c = times_append v later (v ∷ vs) in
      let d = times_here v v vs refl in
      omega (arith, a, b, c, d)

  -- the part of v in front
  first_site : (v : ℕ) (vs : List ℕ) → Behind (v ∷ vs) →
      (up : Option Placed) × (w : ℕ) × (i : ℕ) × (q : Position) × (m : ℕ) × (lo : List Placed) × Site none (fr v) up (Placed.exit w i q m) lo
      × (exits lo ≡ times v vs) × (get_or (E v) (exits (fr v) - suc (times v vs)) (pending [] 0) ≡ pending q m)
  first_site v vs h =
      let l = enough v vs h in
      pend_site none (fr v) (exits (fr v) - suc (times v vs)) (times v vs) (omega (arith, l))

  in_units : (v w i : ℕ) (q : Position) (m : ℕ) → In (Placed.exit w i q m) (fr v) → v < length U
  in_units v w i q m h = go U v h
    where
      go : (W : List PlacedUnit) (v : ℕ) → In (Placed.exit w i q m) (at W v).frames → v < length W
      go [] v (inl e) = absurd (let z : ◌≡◌ {A = ℕ} 0 1 = cc in omega arith)
      go [] v (inr e) = absurd e
      go (x ∷ W) zero h = omega arith
      go (x ∷ W) (suc v) h = omega (arith, go W v h)

  -- what the tables say of the part in front
  front : (v : ℕ) (vs : List ℕ) → Behind (v ∷ vs) → let x = get_or (E v) (exits (fr v) - suc (times v vs)) (pending [] 0) in
      Valid x.position t × (S (offset x.position t) ≡ suc (length vs)) × (etab number_ω (offset x.position t) ≡ x.number)
      × (etab unit_ω (offset x.position t) ≡ v) × (v < length U)
  front v vs h =
      let (up, w, i, q, m, lo, s, a, b) = first_site v vs h in
      let k = site_in v up (Placed.exit w i q m) lo s in
      subst (λ (x : Pending).
      Valid x.position t × (S (offset x.position t) ≡ suc (length vs)) × (etab number_ω (offset x.position t) ≡ x.number)
      × (etab unit_ω (offset x.position t) ≡ v) × (v < length U)) (sym b) (
        seats.valid v w i q m k,
        stamp_late v up w i q m lo s h.0 vs h.1 (sym a),
        join_at v up w i q m lo s,
        owner_at v up w i q m lo s,
        in_units v w i q m k,
      )

  order_before : (n : ℕ) (vs : List ℕ) → Behind vs → length vs < n → Before B T t n (order vs)
  unfolding order T
  order_before n [] h l = tt
  order_before n (v ∷ vs) h l =
      let f = front v vs h in
      let a = f.1 in
      (omega (arith, a, l), order_before n vs (behind_next v vs h) (omega (arith, l)))

  ordered : (vs : List ℕ) → Behind vs → Ordered B T t (length U) (order vs)
  unfolding order T
  ordered [] h = tt
  ordered (v ∷ vs) h =
      let f = front v vs h in
      let a = f.1 in
      let b = f.3 in
      let c = f.4 in (
        f.0,
        omega (arith, a),
        f.2,
        omega (arith, b, c),
        subst (λ (z : ℕ). Before B T t z (order vs)) (sym f.1) (order_before (suc (length vs)) vs (behind_next v vs h) (omega arith)),
        ordered vs (behind_next v vs h),
      )

  takers : (vs : List ℕ) → Behind vs → map (λ x. T.owner (offset x.position t)) (order vs) ≡ vs
  unfolding order T
  takers [] h = refl
  takers (v ∷ vs) h = ap₂ (λ (x : ℕ) (xs : List ℕ). x ∷ xs) (front v vs h).3 (takers vs (behind_next v vs h))

  unit_here : (v : ℕ) (x : Pending) (xs : List Pending) → v ≡ T.owner (offset x.position t) → of_unit B T t v (x ∷ xs) ≡ x ∷ of_unit B T t v xs
  unfolding of_unit
  unit_here v x xs e = rw (eqb_true v (T.owner (offset x.position t)) e, of_unit)

  unit_past : (v : ℕ) (x : Pending) (xs : List Pending) → v ≢ T.owner (offset x.position t) → of_unit B T t v (x ∷ xs) ≡ of_unit B T t v xs
  unfolding of_unit
  unit_past v x xs e = rw (eqb_false v (T.owner (offset x.position t)) e, of_unit)

  by_unit : (u : ℕ) (vs : List ℕ) → Behind vs → of_unit B T t u (order vs) ≡ drop (exits (fr u) - times u vs) (E u)
  unfolding order of_unit times
  by_unit u [] h =
      let l : length (E u) ≤ exits (fr u) - 0 = omega arith in
      sym (drop_of_length-le (E u) l)
  by_unit u (v ∷ vs) h =
      let x : Pending = get_or (E v) (exits (fr v) - suc (times v vs)) (pending [] 0) in
      let ow : T.owner (offset x.position t) ≡ v = unfold T in (front v vs h).3 in
      elim (eqb_cases u v) [
        | inl p ↦
            (let l = enough v vs h in
            let n : ℕ = exits (fr u) - suc (times u vs) in
            let l₂ : suc (times u vs) ≤ exits (fr u) = subst (λ (z : ℕ). suc (times z vs) ≤ exits (fr z)) (sym p.1) l in
            let a : exits (fr u) - times u vs ≡ suc n = omega (arith, l₂) in
            let b : exits (fr u) - times u (v ∷ vs) ≡ n = ap (λ (z : ℕ). exits (fr u) - z) (times_here u v vs p.1) in
            let c : x ≡ get_or (E u) n (pending [] 0) = ap (λ (z : ℕ). get_or (E z) (exits (fr z) - suc (times z vs)) (pending [] 0)) (sym p.1) in
            unit_here u x (order vs) (p.1 ∙ sym ow)
            ∙ ap₂ (λ (y : Pending) (ys : List Pending). y ∷ ys) c (by_unit u vs (behind_next v vs h) ∙ ap (λ (z : ℕ). drop z (E u)) a)
            ∙ sym (drop-cons (E u) n (pending [] 0) (omega (arith, l₂)))
            ∙ ap (λ (z : ℕ). drop z (E u)) (sym b))
        | inr p ↦
            unit_past u x (order vs) (λ e. p.1 (e ∙ ow)) ∙ by_unit u vs (behind_next v vs h)
            ∙ ap (λ (z : ℕ). drop (exits (fr u) - z) (E u)) (sym (times_past u v vs p.1))
      ]

  all_behind : Behind placed
  all_behind = ([], refl)

  each_unit : (u : ℕ) → of_unit B T t u (order placed) ≡ E u
  each_unit u =
      let a = seats.many u in
      let z : exits (fr u) - times u placed ≡ 0 = omega (arith, a) in
      by_unit u placed all_behind ∙ ap (λ (k : ℕ). drop k (E u)) z

  found : (b : ℕ) → listed B T t b (order placed) ≡ one (S b)
  unfolding one
  found b =
      let f : Pending → ℕ = λ x. if_same (offset x.position t) b 1 in
      let a : listed B T t b (order placed) ≡ etab one_ω b =
      listed_psum B T t b (order placed) ∙ sym (of_units B T t f (length U) (order placed) (ordered placed all_behind))
      ∙ upto_same (λ v. psum f (of_unit B T t v (order placed))) (λ v. walk (exit_key t) (one_ω v) b none (fr v)) (length U)
      (λ v. ap (psum f) (each_unit v) ∙ walk_psum t b none (fr v) v) ∙ unfold etab table in refl in
      elim (zero_or (etab one_ω b)) [
        | inl z ↦ a ∙ z ∙ sym (ap one (none_there z))
        | inr l ↦
            (let (v, up, w, i, q, m, lo, s, e) = some_exit one_ω b l in
            let x : etab one_ω b ≡ 1 = ap (etab one_ω) (sym e) ∙ etab_is v up w i q m lo s one_ω ∙ unfold one_ω in refl in
            let y : 1 ≤ S b = subst (λ (z : ℕ). 1 ≤ S z) e (late v up w i q m lo s) in
            a ∙ x ∙ sym (one_late (S b) y))
      ]
    where
      one_late : (m : ℕ) → 1 ≤ m → one m ≡ 1
      one_late zero l = absurd (omega (arith, l))
      one_late (suc m) l = refl

      none_there : etab one_ω b ≡ 0 → S b ≡ 0
      none_there z =
          elim (zero_or (S b)) [
            | inl e ↦ e
            | inr l ↦
                absurd (
                let (v, up, w, i, q, m, lo, s, e) = some_exit stamp_ω b (unfold S in l) in
                let x : etab one_ω b ≡ 1 = ap (etab one_ω) (sym e) ∙ etab_is v up w i q m lo s one_ω ∙ unfold one_ω in refl in omega (arith, x, z)
                )
          ]

  -- THE COUNTS

  module _ (v : ℕ) (up : Option Placed) (p : Position) (o k c m : ℕ) (lo : List Placed) (s : Site none (fr v) up (Placed.job p o (suc k) c m) lo) where
    abbrev args : Forest ℕ
    args = arguments (subterm p t)

    abbrev a₀ : ℕ
    a₀ = suc (offset p t)

    links : Link t p 0 a₀ args
    unfolding arguments
    links = go (subterm p t) refl
      where
        go : (x : Term) → subterm p t ≡ x → Link t p 0 a₀ (arguments x)
        go (node o' ts) e = link_node t p o' ts (valid_site v up p o (suc k) c m lo s) e

    ours : (v' w i : ℕ) (q : Position) (r : ℕ) → In (Placed.exit w i q r) (fr v') → same_pair v (length lo) w i ≡ starts (offset q t) a₀ args
    ours v' w i q r h =
        elim (zero_or (starts (offset q t) a₀ args)) [
          | inl z ↦ same_pair_not v (length lo) w i (λ a b. (let y = must a b in omega (arith, y, z))) ∙ sym z
          | inr l ↦
              (let (x, vx, e) = starts_some t p 0 (offset q t) a₀ args links l in
              let qx : q ≡ p ++ (x ∷ []) = offset_unique q (p ++ (x ∷ [])) t (seats.valid v' w i q r h) vx (sym e) in
              let (a, b, d, g) = for_this v up p o k c m lo s v' w i x r (subst (λ (z : Position). In (Placed.exit w i z r) (fr v')) qx h) in
              let y = must a b in same_pair_is v (length lo) w i a b ∙ sym y)
        ]
      where
        within_args : (x : ℕ) → Valid (p ++ (x ∷ [])) t → x < 0 + count args
        within_args x vx = (let y = valid_last p x t vx in omega (arith, y))

        must : v ≡ w → length lo ≡ i → starts (offset q t) a₀ args ≡ 1
        must a b =
            let (p', o', k', c', x, f, g, e) = holder_of B (fr w) i r q (good.exits v' w i q r h).1 in
            let J : Placed = Placed.job p o (suc k) c m in
            let f' : FrameAt (fr v) (length lo) (Placed.job p' o' (suc k') c' r) =
            subst (λ (z : ℕ). FrameAt (fr z) (length lo) (Placed.job p' o' (suc k') c' r)) (sym a) (subst (λ (z : ℕ). FrameAt (fr w) z (Placed.job p' o' (suc k') c' r)) (sym b) f) in
            let eq = frame_unique (fr v) (length lo) J (Placed.job p' o' (suc k') c' r) (site_frame none (fr v) up J lo s) f' in
            let pp : p ≡ p' = cc in
            let qx : q ≡ p ++ (x ∷ []) = e ∙ ap (λ (z : Position). z ++ (x ∷ [])) (sym pp) in
            let vx : Valid (p ++ (x ∷ [])) t = subst (λ (z : Position). Valid z t) qx (seats.valid v' w i q r h) in
            ap (λ (z : Position). starts (offset z t) a₀ args) qx ∙ starts_one t p 0 a₀ x args links (omega arith) (within_args x vx) vx

    lent_exits : lent_in S a₀ args ≡ upto (λ u. exits_to v (length lo) (stack_of t (fr u))) (length U)
    unfolding T
    lent_exits =
        let es : List Pending = order placed in
        let f : Pending → ℕ = λ e. starts (offset e.position t) a₀ args in
        lent_psum B T t es found a₀ args
        ∙ sym (of_units B T t f (length U) es (ordered placed all_behind))
        ∙ upto_same (λ u. psum f (of_unit B T t u es)) (λ u. exits_to v (length lo) (stack_of t (fr u))) (length U)
        (λ u. ap (psum f) (each_unit u) ∙ sym (exits_psum t v (length lo) f (fr u) (λ w i q r h. ours u w i q r h)))

    lent_group : 1 ≤ lent_in S a₀ args → InGroup (drop k (steps B o))
    lent_group l =
        let (x, vx, e) = lent_some S t p 0 a₀ args links l in
        let (v', w, i, r, h) = lent_exit (p ++ (x ∷ [])) vx e in
        (for_this v up p o k c m lo s v' w i x r h).3

    count_rule : c ≡ forks_left (drop k (steps B o)) + lent_in S a₀ args
    count_rule =
        elim (good_site v up p o (suc k) c m lo s).3 [
          | inl g ↦ in_group g
          | inr e ↦
              (let (z, cd) = counted_drop k 0 (steps B o) (steps_counted B o) in
              elim (group_or z (drop k (steps B o)) (shape_drop k (steps B o) (settled o)) cd) [
                | inl g ↦ in_group g
                | inr y ↦
                    elim (zero_or (lent_in S a₀ args)) [
                      | inl w ↦ (let nc = next_counted z (drop k (steps B o)) cd in omega (arith, e, nc, y, w))
                      | inr w ↦ in_group (lent_group w)
                    ]
              ])
        ]
      where
        in_group : InGroup (drop k (steps B o)) → c ≡ forks_left (drop k (steps B o)) + lent_in S a₀ args
        in_group g =
            let a = seats.counts v (length lo) p o k c m (site_frame none (fr v) up (Placed.job p o (suc k) c m) lo s) g in omega (arith, a, lent_exits)

    symbol_here : SymbolOf B T t (Kind.underway k c m) p (subterm p t)
    unfolding T
    symbol_here =
        let e : o ≡ label (subterm p t) = sym (rooted_of B t p o (suc k) c m (good_site v up p o (suc k) c m lo s)).1 in
        subst (λ (z : ℕ).
        let ss = drop k (steps B z) in
        (c ≡ forks_left ss + lent_in S a₀ (arguments (subterm p t))) × (1 ≤ lent_in S a₀ (arguments (subterm p t)) → InGroup ss)
        × ((i : ℕ) → i < count (arguments (subterm p t)) → ArgumentAt B T t p i m ss)) e
        (count_rule, lent_group, argument_rule v up p o k c m lo s)

  -- EVERY SYMBOL

  symbol : (p : Position) → Valid p t → SymbolAt B T t p
  unfolding T
  symbol p v =
      elim (seen p v) [
        | inl e ↦ subst (λ (z : Kind). SymbolOf B T t z p (subterm p t)) (sym (resting_is (offset p t) e)) (bare p v (λ u. resting_not u e))
        | inr h ↦ job_symbol h
      ]
    where
      resting_not : Underway p → tab next_ω (offset p t) ≡ 0 → ⊥
      resting_not (w, up, o, k, c, m, lo, s) e = let a = next_is w up p o (suc k) c m lo s in omega (arith, a, e)

      fresh_not : (v' : ℕ) (up' : Option Placed) (o' c' m' : ℕ) (lo' : List Placed) → Site none (fr v') up' (Placed.job p o' zero c' m') lo' → Underway p → ⊥
      fresh_not v' up' o' c' m' lo' s' (w, up, o, k, c, m, lo, s) =
          let a = next_is w up p o (suc k) c m lo s in let b = next_is v' up' p o' zero c' m' lo' s' in omega (arith, a, b)

      job_symbol : JobHere p → SymbolAt B T t p
      job_symbol (w, up, o, zero, c, m, lo, s) =
          subst (λ (z : Kind). SymbolOf B T t z p (subterm p t)) (sym (kind_is w up p o zero c m lo s)) (unfold kind_from in bare p v (fresh_not w up o c m lo s))
      job_symbol (w, up, o, suc k, c, m, lo, s) =
          subst (λ (z : Kind). SymbolOf B T t z p (subterm p t)) (sym (kind_is w up p o (suc k) c m lo s)) (unfold kind_from in symbol_here w up p o k c m lo s)

  -- THE STACKS

  no_lent_root : (v w i : ℕ) (m : ℕ) → In (Placed.exit w i [] m) (fr v) → ⊥
  no_lent_root v w i m h =
      let (p', o, k, c, y, f, g, e) = holder_of B (fr w) i m [] (good.exits v w i [] m h).1 in no_root p' y (sym e)

  bingo_unit : (v : ℕ) → In Placed.bingo (fr v) → v ≡ 0
  bingo_unit zero h = refl
  bingo_unit (suc v) h = absurd (not_both_ends B (fr (suc v)) (good.stacked (suc v)) ((seats.ends (suc v)).0 (omega arith)) h)

  own_links : (v : ℕ) (q p : Position) (o' k' c' m' o k c m : ℕ) (lo : List Placed) → Site none (fr v) (some (Placed.job q o' k' c' m')) (Placed.job p o (suc k) c m) lo →
      Under B q (Placed.job p o (suc k) c m ∷ lo) → Links B T t (some q) p
  unfolding T
  own_links v q p o' k' c' m' o k c m lo s (x, eq, un) =
      let J' : Placed = Placed.job q o' k' c' m' in
      let ac : active (offset p t) ≡ suc x = active_is v (some J') p o (suc k) c m lo s ∙ unfold code in ap suc (ap last eq ∙ last_append p x) in
      elim (site_above none (fr v) J' (Placed.job p o (suc k) c m) lo s) [
        | inl z ↦ absurd (none-ne-some _ z.0)
        | inr r ↦
            (let vq = valid_site v r.0 q o' k' c' m' (Placed.job p o (suc k) c m ∷ lo) r.1 in (
              x,
              eq,
              ac,
              elim (zero_or (S (offset q t))) [
                | inl z ↦ z
                | inr l ↦
                    absurd (
                    let (v', w, i, m₂, h) = lent_exit q vq l in
                    let e = (lent_job v r.0 q o' k' c' m' lo (Placed.job p o (suc k) c m) v' w i m₂ r.1 h).1 in
                    let z : ◌≡◌ {A = ℕ} 0 1 = cc in omega arith
                    )
              ],
              valid_last p x t (subst (λ (z : Position). Valid z t) eq vq),
            ))
      ]

  stands_from : (v : ℕ) (up : Option Placed) (gs : List Placed) → ((u : Option Placed) (g : Placed) (lo : List Placed) → Site up gs u g lo → Site none (fr v) u g lo) → StackUp B up gs → Ends v gs →
      Stands B T t v (upos up) gs
  unfolding upos T
  stands_from v up [] sub st bo =
      elim (zero_or v) [ inl e ↦ bo.1 e | inr l ↦ bo.0 l ]
  stands_from v up (Placed.job p o zero c m ∷ gs) sub st bo =
      let s = sub up (Placed.job p o zero c m) gs (inl (refl, refl, refl)) in (
        alone up st,
        kind_is v up p o zero c m gs s ∙ unfold kind_from in refl,
        stands_from v (some (Placed.job p o zero c m)) gs (λ u g lo h. sub u g lo (inr h)) (stack_tail B up (Placed.job p o zero c m ∷ gs) st)
            (λ l. elim (bo.0 l) [ inl e ↦ absurd (let z : ◌≡◌ {A = ℕ} 0 1 = cc in omega arith) | inr h ↦ h ], λ l. elim (bo.1 l) [ inl e ↦ absurd (let z : ◌≡◌ {A = ℕ} 0 1 = cc in omega arith) | inr h ↦ h ]),
      )
    where
      alone : (up : Option Placed) → StackUp B up (Placed.job p o zero c m ∷ gs) → upos up ≡ none
      alone none st = unfold upos in refl
      alone (some (Placed.job q o' k' c' m')) st = absurd st.0
      alone (some (Placed.exit w i q r)) st = unfold upos in refl
      alone (some Placed.sleep) st = unfold upos in refl
      alone (some Placed.bingo) st = unfold upos in refl
  stands_from v up (Placed.job p o (suc k) c m ∷ gs) sub st bo =
      let s = sub up (Placed.job p o (suc k) c m) gs (inl (refl, refl, refl)) in (
        linked up s st,
        kind_is v up p o (suc k) c m gs s ∙ unfold kind_from in refl,
        stands_from v (some (Placed.job p o (suc k) c m)) gs (λ u g lo h. sub u g lo (inr h)) (stack_tail B up (Placed.job p o (suc k) c m ∷ gs) st)
            (λ l. elim (bo.0 l) [ inl e ↦ absurd (let z : ◌≡◌ {A = ℕ} 0 1 = cc in omega arith) | inr h ↦ h ], λ l. elim (bo.1 l) [ inl e ↦ absurd (let z : ◌≡◌ {A = ℕ} 0 1 = cc in omega arith) | inr h ↦ h ]),
      )
    where
      linked : (up : Option Placed) → Site none (fr v) up (Placed.job p o (suc k) c m) gs → StackUp B up (Placed.job p o (suc k) c m ∷ gs) → Links B T t (upos up) p
      linked none s st = unfold upos in (active_is v none p o (suc k) c m gs s ∙ unfold code in refl)
      linked (some (Placed.job q o' k' c' m')) s st = unfold upos in own_links v q p o' k' c' m' o k c m gs s st.0
      linked (some (Placed.exit w i q r)) s st = unfold upos in (active_is v (some (Placed.exit w i q r)) p o (suc k) c m gs s ∙ unfold code in refl)
      linked (some Placed.sleep) s st = absurd (let z : ◌≡◌ {A = ℕ} 0 1 = cc in omega arith)
      linked (some Placed.bingo) s st = absurd (let z : ◌≡◌ {A = ℕ} 0 1 = cc in omega arith)
  stands_from v up (Placed.exit w i q m ∷ gs) sub st bo =
      let s = sub up (Placed.exit w i q m) gs (inl (refl, refl, refl)) in (
        begun up s st,
        subst (λ (z : Option Position). Stands B T t v z gs) (unfold upos in refl)
            (stands_from v (some (Placed.exit w i q m)) gs (λ u g lo h. sub u g lo (inr h)) (stack_tail B up (Placed.exit w i q m ∷ gs) st)
            (λ l. elim (bo.0 l) [ inl e ↦ absurd (let z : ◌≡◌ {A = ℕ} 0 1 = cc in omega arith) | inr h ↦ h ], λ l. elim (bo.1 l) [ inl e ↦ absurd (let z : ◌≡◌ {A = ℕ} 0 1 = cc in omega arith) | inr h ↦ h ])),
      )
    where
      none_there : Site none (fr v) none (Placed.exit w i q m) gs → JobHere q → ⊥
      none_there s (v₂, up₂, o₂, k₂, c₂, m₂, lo₂, s₂) =
          seats.free v w i q m gs s v₂ (length lo₂) o₂ k₂ c₂ m₂ (site_frame none (fr v₂) up₂ (Placed.job q o₂ k₂ c₂ m₂) lo₂ s₂)

      begun : (up : Option Placed) → Site none (fr v) up (Placed.exit w i q m) gs → StackUp B up (Placed.exit w i q m ∷ gs) → Begins B T t (upos up) q
      begun none s st =
          unfold upos in
          elim (seen q (seats.valid v w i q m (site_in v none (Placed.exit w i q m) gs s))) [ inl e ↦ resting_is (offset q t) e | inr h ↦ absurd (none_there s h) ]
      begun (some (Placed.job q' o' k' c' m')) s st = unfold upos in st.0
      begun (some (Placed.exit w' i' q' r')) s st = absurd st.0
      begun (some Placed.sleep) s st = absurd (let z : ◌≡◌ {A = ℕ} 0 1 = cc in omega arith)
      begun (some Placed.bingo) s st = absurd (let z : ◌≡◌ {A = ℕ} 0 1 = cc in omega arith)
  stands_from v up (Placed.sleep ∷ gs) sub st bo =
      let e = stack_tail_sleep up st in
      (e, alone up st, elim (zero_or v) [ inl z ↦ absurd (only (subst (λ (y : List Placed). In Placed.bingo (Placed.sleep ∷ y)) e (bo.1 z))) | inr l ↦ l ])
    where
      stack_tail_sleep : (up : Option Placed) → StackUp B up (Placed.sleep ∷ gs) → gs ≡ []
      stack_tail_sleep up st = stack_tail B up (Placed.sleep ∷ gs) st

      only : In Placed.bingo (Placed.sleep ∷ []) → ⊥
      only (inl e) = let z : ◌≡◌ {A = ℕ} 0 1 = cc in omega arith
      only (inr h) = h

      alone : (up : Option Placed) → StackUp B up (Placed.sleep ∷ gs) → upos up ≡ none
      alone none st = unfold upos in refl
      alone (some (Placed.job q o' k' c' m')) st = absurd st.0
      alone (some (Placed.exit w i q r)) st = unfold upos in refl
      alone (some Placed.sleep) st = unfold upos in refl
      alone (some Placed.bingo) st = unfold upos in refl
  stands_from v up (Placed.bingo ∷ gs) sub st bo =
      let s = sub up Placed.bingo gs (inl (refl, refl, refl)) in
      let e : gs ≡ [] = stack_tail B up (Placed.bingo ∷ gs) st in
      (e, bingo_unit v (site_in v up Placed.bingo gs s), begun up s st)
    where
      no_job : (fs : List Placed) → fs ≡ Placed.bingo ∷ gs → gs ≡ [] → (up₂ : Option Placed) (o₂ k₂ c₂ m₂ : ℕ) (lo₂ : List Placed) → Site none fs up₂ (Placed.job [] o₂ k₂ c₂ m₂) lo₂ → ⊥
      no_job fs e e₂ up₂ o₂ k₂ c₂ m₂ lo₂ s =
          go (subst (λ (z : List Placed). Site none z up₂ (Placed.job [] o₂ k₂ c₂ m₂) lo₂) (e ∙ ap (λ (z : List Placed). Placed.bingo ∷ z) e₂) s)
        where
          go : Site none (Placed.bingo ∷ []) up₂ (Placed.job [] o₂ k₂ c₂ m₂) lo₂ → ⊥
          go (inl a) = let b = a.1 in let z : ◌≡◌ {A = ℕ} 0 1 = cc in omega arith
          go (inr a) = a

      root_job : Site none (fr v) none Placed.bingo gs → gs ≡ [] → JobHere [] → ⊥
      root_job s e (v₂, up₂, o₂, k₂, c₂, m₂, lo₂, s₂) = on lo₂ s₂ (under_site v₂ up₂ [] o₂ k₂ c₂ m₂ lo₂ s₂)
        where
          on : (lo₃ : List Placed) → Site none (fr v₂) up₂ (Placed.job [] o₂ k₂ c₂ m₂) lo₃ → Under B [] lo₃ → ⊥
          on [] s₃ u = u
          on (Placed.job q o zero c m ∷ lo₃) s₃ u = u
          on (Placed.job q o (suc k) c m ∷ lo₃) s₃ u = no_root q u.0 (sym u.1)
          on (Placed.exit w i q m ∷ lo₃) s₃ u =
              no_lent_root v₂ w i m
              (subst (λ (z : Position). In (Placed.exit w i z m) (fr v₂)) (sym u)
              (site_in v₂ (some (Placed.job [] o₂ k₂ c₂ m₂)) (Placed.exit w i q m) lo₃ (site_below none (fr v₂) up₂ (Placed.job [] o₂ k₂ c₂ m₂) (Placed.exit w i q m) lo₃ s₃)))
          on (Placed.sleep ∷ lo₃) s₃ u = u
          on (Placed.bingo ∷ lo₃) s₃ u =
              let a = bingo_unit v₂ (site_in v₂ (some (Placed.job [] o₂ k₂ c₂ m₂)) Placed.bingo lo₃ (site_below none (fr v₂) up₂ (Placed.job [] o₂ k₂ c₂ m₂) Placed.bingo lo₃ s₃)) in
              let b = bingo_unit v (site_in v none Placed.bingo gs s) in
              no_job (fr v) (site_top (fr v) Placed.bingo gs s) e up₂ o₂ k₂ c₂ m₂ (Placed.bingo ∷ lo₃)
              (subst (λ (z : ℕ). Site none (fr z) up₂ (Placed.job [] o₂ k₂ c₂ m₂) (Placed.bingo ∷ lo₃)) (a ∙ sym b) s₃)

      begun : (up : Option Placed) → Site none (fr v) up Placed.bingo gs → StackUp B up (Placed.bingo ∷ gs) → Begins B T t (upos up) []
      begun none s st =
          unfold upos in elim (seen [] tt) [ inl e ↦ resting_is (offset [] t) e | inr h ↦ absurd (root_job s st h) ]
      begun (some (Placed.job q' o' k' c' m')) s st = unfold upos in st.0
      begun (some (Placed.exit w' i' q' r')) s st = absurd st.0
      begun (some Placed.sleep) s st = absurd (let z : ◌≡◌ {A = ℕ} 0 1 = cc in omega arith)
      begun (some Placed.bingo) s st = absurd (let z : ◌≡◌ {A = ℕ} 0 1 = cc in omega arith)

  root_unplaced : S 0 ≡ 0
  root_unplaced =
      elim (zero_or (S 0)) [
        | inl e ↦ e
        | inr l ↦ absurd (let (v, w, i, m, h) = lent_exit [] tt (unfold offset in l) in no_lent_root v w i m h)
      ]

  root_part : part 0 ≡ 0
  unfolding part part_from offset
  root_part =
      elim (seen [] tt) [
        | inl e ↦ ap (λ (z : ℕ). part_from z (S 0) (tab part_ω 0)) e ∙ root_unplaced
        | inr h ↦ job_part h
      ]
    where
      on : (v : ℕ) (up : Option Placed) (o k c m : ℕ) (lo : List Placed) → Site none (fr v) up (Placed.job [] o k c m) lo → Under B [] lo → below_part v lo ≡ 0
      on v up o k c m [] s u = absurd u
      on v up o k c m (Placed.job q o' zero c' m' ∷ lo) s u = absurd u
      on v up o k c m (Placed.job q o' (suc k') c' m' ∷ lo) s u = absurd (no_root q u.0 (sym u.1))
      on v up o k c m (Placed.exit w i q r ∷ lo) s u =
          absurd (no_lent_root v w i r
          (subst (λ (z : Position). In (Placed.exit w i z r) (fr v)) (sym u)
          (site_in v (some (Placed.job [] o k c m)) (Placed.exit w i q r) lo (site_below none (fr v) up (Placed.job [] o k c m) (Placed.exit w i q r) lo s))))
      on v up o k c m (Placed.sleep ∷ lo) s u = absurd u
      on v up o k c m (Placed.bingo ∷ lo) s u = unfold below_part in refl

      job_part : JobHere [] → part 0 ≡ 0
      job_part (v, up, o, k, c, m, lo, s) = part_is v up [] o k c m lo s ∙ on v up o k c m lo s (under_site v up [] o k c m lo s)

  pub tabled : Tabled B t U placed
  unfolding upos T
  tabled = record {
    tables = T;
    order = order placed;
    next = number B (preorder t) (length (preorder t));
    once = numbers_once B settled t U good seats.numbered seats.distinct;
    fresh = numbers_fresh B settled t U good seats.numbered seats.distinct;
    symbol = symbol;
    stands = λ v. stands_from v none (fr v) (λ u g lo h. h) (good.stacked v) (seats.ends v);
    main = (root_unplaced, root_part);
    ordered = ordered placed all_behind;
    found = found;
    by_unit = each_unit;
    takers = takers placed all_behind;
  }
