-- The rules of a saved point are those of reached states: every reached state meets them, every entry of any unit keeps them, a run that is parked leaves a state that
-- meets them, the bounds that code uses follow, and some unit can always act. Assumes nothing.
use mathlib.Core.Bool.{Bool, true, false, false≢true}
use mathlib.Core.List.{List, [], ◌∷◌, map}
use mathlib.Core.Logic.{inl, inr}
use mathlib.Core.Option.{Option, none, some, none-ne-some, some-injective}
use mathlib.Core.Path.{◌≡◌, refl, sym, ◌∙◌, ap, subst}
use Prim.Native.Nat.{ℕ, zero, suc, ◌+◌, ◌-◌, ◌<◌, ◌≤◌}
use native.Mathlib.Omega.{arith}
use lib.Dec.{eqb}
use lib.ListN.{length, get_or, drop, length-set}
use lib.ListN.{set as put}
use Rattle.paper.specs.Result.{accepted}
use Rattle.paper.specs.Tree.{preorder, size, Correct}
use Rattle.paper.specs.Strategy.{Step}
use Rattle.paper.specs.Book.{Symbol, Term, Book, arity, steps}
use Rattle.paper.specs.Dated.{AnyBook, read_any, on_day}
use Rattle.paper.specs.Line.{symbol_limit, read_line}
use Rattle.paper.specs.WellFormed.{GoodBook}
use Rattle.paper.specs.Marks.{plain}
use Rattle.paper.specs.Machine.{UnitState, Limits, exceeds, numbers_from}
use Rattle.paper.specs.Sound.{All, Sound}
use Rattle.paper.proofs.Books.{good_book_sound}
use Rattle.paper.proofs.Dated.{day_good}
use Rattle.paper.proofs.Line.{line_correct}
use Rattle.paper.proofs.Numbers.{if_same, same_is, other_is}
use Rattle.paper.proofs.Progress.{can_act}
use Rattle.paper.proofs.Tests.{eqb_cases, ltb_false}
use Rattle.paper.proofs.Trees.{size_preorder}
use Rattle.flat.specs.Machine as Flat
use Rattle.flat.specs.Symbols.{Binding, Hit, rewrite, argument, fill}
use Rattle.flat.specs.Machine.{Frame, FlatUnit, FlatState, FlatOutcome, first_idle, arrive, do_visit, do_fork, do_join, do_rewrite, do_whole, do_step, carry_out, turn, flat_entry, start_units, flat_start}
use Rattle.flat.specs.Rules.{Rules, upto}
use Rattle.flat.specs.Relation.{offset, PlacedUnit, at, busy, unit_of, unit_state_of}
use Rattle.flat.specs.Run.{flat_states, Reached}
use Rattle.flat.specs.Meets.{Meets, PointRules}
use Rattle.flat.specs.Parts.{unless_over, flat_parked, highest, kept_count, with_forks, kept_state, Parked, again, part, from, parts}
use Rattle.flat.proofs.Bounds.{sum_one}
use Rattle.flat.proofs.Course.{FlatInv, flat_inv, flat_next}
use Rattle.flat.proofs.Inside.{known_entry}
use Rattle.flat.proofs.Kept.{inv_meets}
use Rattle.flat.proofs.Lists.{upto_same, upto_zero, upto_add}
use Rattle.flat.proofs.Meets.{meets_inv}
use Rattle.flat.proofs.Offsets.{offset_inside, size_positive}
use Rattle.flat.proofs.Parts.{kept_low}
use Rattle.flat.proofs.Relation.{paper_state}
use Rattle.flat.proofs.Rules.{rules}
use Rattle.flat.proofs.Run.{reached_inv, throughout}
use Rattle.flat.proofs.Seated.{U, seats}
use Rattle.flat.proofs.Spelt.{spelt_term}
use Rattle.flat.proofs.Stacks.{map_length, unit_state_at, unit_at}
use Rattle.flat.proofs.Steps.{Settled, good_settled}
use Rattle.flat.proofs.Tables.{Tables, Pending, one, Ordered, listed, Tabled}
use Rattle.flat.proofs.Tabled.{tabled}

-- SOME UNIT CAN ACT: it is busy
abbrev pub Acts : FlatState → Type 0
Acts s = (v : ℕ) × (v < length s.units) × ((Flat.unit s.units v).rank ≡ 0)

busy_rank : (r : ℕ) → busy r ≡ true → r ≡ 0
busy_rank zero e = refl
busy_rank (suc r) e = absurd (false≢true e)

inv_acts : (B : Book) (L : Limits) (s : FlatState) → FlatInv B L s → Acts s
inv_acts B L s (flat_inv w W n j D bs e good inv ranked queued sz) =
    let (v, l, b) = can_act B L (paper_state B w W n j) D bs inv in
    let us : s.units ≡ map (unit_of (plain w)) W = ap (λ (z : FlatState). z.units) e in (
      v,
      omega (arith, l, ap length us, map_length (unit_of (plain w)) W, map_length (unit_state_of B) W),
      ap (λ (z : List FlatUnit). (Flat.unit z v).rank) us ∙ ap (λ (x : FlatUnit). x.rank) (unit_at (plain w) W v)
          ∙ busy_rank (at W v).rank (sym (ap (λ (x : UnitState). x.busy) (unit_state_at B W v)) ∙ b),
    )

module _ (B : Book) (sound : Sound B) (settled : Settled B) (L : Limits) where
  -- "Every point that a run saved keeps them all": every reached state meets the rules
  pub reached_meets : (s : FlatState) → Reached B L s → Meets B L s
  reached_meets s r = inv_meets B sound settled L s (reached_inv B L sound settled r)

  pub meets_start : (units : ℕ) (t : Term) → Correct (arity B) t → exceeds L.symbols (size t) ≡ false → Meets B L (flat_start (arity B) units (preorder t))
  meets_start units t c sz = reached_meets (flat_start (arity B) units (preorder t)) (Reached.first units t c sz)

  -- every entry of any unit keeps them
  pub meets_next : (s s' : FlatState) (u : ℕ) → Meets B L s → flat_entry B L u s ≡ Flat.going s' → Meets B L s'
  meets_next s s' u m e = inv_meets B sound settled L s' (flat_next B L sound settled s s' u (meets_inv B sound settled L s m) e)

  -- "any other point that meets the rules merely runs without fault": throughout every run from it the rules hold, the bounds that code uses hold, and "some unit always
  -- able to act"
  pub meets_throughout : (s : FlatState) → Meets B L s → (schedule : List ℕ) → All (λ (z : FlatState). Meets B L z × Rules B L z × Acts z) (flat_states B L schedule s)
  meets_throughout s m schedule =
      throughout B L (λ (z : FlatState). Meets B L z × Rules B L z × Acts z)
      (λ z r. (reached_meets z r, rules B sound settled L z r, inv_acts B L z (reached_inv B L sound settled r))) schedule s (Reached.resumed m)

  pub meets_rules : (s : FlatState) → Meets B L s → Rules B L s
  meets_rules s m = rules B sound settled L s (Reached.resumed m)

  pub meets_acts : (s : FlatState) → Meets B L s → Acts s
  meets_acts s m = inv_acts B L s (meets_inv B sound settled L s m)

  -- a run that is parked leaves a state that meets them
  pub cut_meets : (us : List ℕ) (s s' : FlatState) → Meets B L s → flat_parked B L us s ≡ some s' → Meets B L s'
  unfolding flat_parked
  cut_meets [] s s' m e = subst (Meets B L) (some-injective _ _ e) m
  cut_meets (u ∷ us) s s' m e = go (flat_entry B L u s) refl e (cut_meets us)
    where
      go : (x : FlatOutcome) → flat_entry B L u s ≡ x → unless_over (flat_parked B L us) x ≡ some s' →
          ((s₁ s₂ : FlatState) → Meets B L s₁ → flat_parked B L us s₁ ≡ some s₂ → Meets B L s₂) → Meets B L s'
      go (Flat.going s₁) q e h = h s₁ s' (meets_next s s₁ u m q) (unfold unless_over in e)
      go (Flat.ended en s₁) q e h = unfold unless_over in absurd (none-ne-some _ e)

  -- also with other counts of FORKs, as those kept in 64 bits
  pub forks_meets : (s : FlatState) (g k : ℕ) → Meets B L s → Meets B L (with_forks s g k)
  forks_meets s g k m = record {
    complete = m.complete;
    short = m.short;
    sizes = m.sizes;
    marks = m.marks;
    within = m.within;
    some_unit = m.some_unit;
    job = m.job;
    distinct = m.distinct;
    stacks = m.stacks;
    exits = m.exits;
    counts = m.counts;
    room = m.room;
    placing = record { many = m.placing.many; earlier = m.placing.earlier };
    ranked = m.ranked;
    once = m.once;
    idle = m.idle;
  }

  pub kept_meets : (s : FlatState) → Meets B L s → Meets B L (kept_state s)
  kept_meets s m = forks_meets s (kept_count s.granted) (kept_count s.kept) m

  -- the budget is compared with a count that is never cut short
  pub meets_exact : (s : FlatState) → Meets B L s → L.budget ≤ highest → kept_count s.rewrites ≡ s.rewrites
  meets_exact s m l = kept_low s.rewrites (let a = m.within in omega (arith, a, l))

  -- FEW PENDING PARTS: fewer than symbols, since no two are at one offset and none is at the root

  module _ (T : Tables) (t : Term) where
    listed_sum : (units : ℕ) (xs : List Pending) → Ordered B T t units xs → upto (λ b. listed B T t b xs) (size t) ≡ length xs
    listed_sum units [] o = upto_zero (λ b. listed B T t b []) (size t) (λ b. unfold listed in refl)
    listed_sum units (x ∷ xs) o =
        let a : ℕ = offset x.position t in
        let s = upto_same (λ b. listed B T t b (x ∷ xs)) (λ b. if_same a b 1 + listed B T t b xs) (size t) (λ b. one_more b) in
        omega (
          arith,
          s,
          upto_add (λ b. if_same a b 1) (λ b. listed B T t b xs) (size t),
          sum_one a (size t) (offset_inside x.position t o.0),
          listed_sum units xs o.5,
        )
      where
        one_more : (b : ℕ) → listed B T t b (x ∷ xs) ≡ if_same (offset x.position t) b 1 + listed B T t b xs
        one_more b =
            elim (eqb_cases (offset x.position t) b) [
              | inl p ↦ unfold listed in (rw (p.0, listed) (let z = same_is (offset x.position t) b 1 p.1 in omega (arith, z)))
              | inr p ↦ unfold listed in (rw (p.0, listed) (let z = other_is (offset x.position t) b 1 p.1 in omega (arith, z)))
            ]

  one_most : (m : ℕ) → one m ≤ 1
  unfolding one
  one_most zero = omega arith
  one_most (suc m) = omega arith

  first_none : (f : ℕ → ℕ) (n : ℕ) → ((b : ℕ) → f b ≤ 1) → f 0 ≡ 0 → 1 ≤ n → suc (upto f n) ≤ n
  unfolding upto
  first_none f zero h z l = absurd (omega (arith, l))
  first_none f (suc zero) h z l = omega (arith, z)
  first_none f (suc (suc n)) h z l = omega (arith, first_none f (suc n) h z (omega arith), h (suc n))

  tabled_few : (t : Term) (W : List PlacedUnit) (placed : List ℕ) → Tabled B t W placed → suc (length placed) ≤ size t
  unfolding one
  tabled_few t W placed T =
      let f : ℕ → ℕ = λ b. listed B T.tables t b T.order in
      let a = listed_sum T.tables t (length W) T.order T.ordered in
      let z : f 0 ≡ 0 = T.found 0 ∙ ap one T.main.0 in
      let h : (b : ℕ) → f b ≤ 1 = λ b. (let x = T.found b in let y = one_most (T.tables.stamp b) in omega (arith, x, y)) in
      let b = first_none f (size t) h z (size_positive t) in
      let c : length placed ≡ length T.order =
      ap length (sym T.takers) ∙ map_length (λ x. T.tables.owner (offset x.position t)) T.order in
      omega (arith, a, b, c)

  pub placed_few : (s : FlatState) → Meets B L s → suc (length s.placed) ≤ length s.symbols
  placed_few s m =
      let (t, e, c) = spelt_term (arity B) s.symbols m.complete in
      let W = U B sound L s m t e c in
      let x = tabled_few t W s.placed (tabled B sound settled t W s.placed (seats B sound L s m t e c)) in
      omega (arith, x, ap length e, size_preorder t)

-- THE UNITS STAY AS MANY

abbrev Many : ℕ → FlatOutcome → Type 0
Many n (Flat.going s) = length s.units ≡ n
Many n (Flat.ended e s) = Unit {0}

module _ (B : Book) (L : Limits) (u : ℕ) (s : FlatState) where
  abbrev many : ℕ
  many = length s.units

  put_many : (x : FlatUnit) → length (put s.units u x) ≡ many
  put_many x = length-set s.units u x

  leave_many : (r v : ℕ) (x y : FlatUnit) → length (Flat.leave r (put (put s.units u x) v y)) ≡ many
  leave_many r v x y =
      map_length (λ (z : FlatUnit). Flat.flat_unit (Flat.left r z.rank) z.stack) (put (put s.units u x) v y) ∙ length-set (put s.units u x) v y ∙ put_many x

  many_visit : (a : ℕ) (fs : List Frame) → Many many (do_visit B L u s a fs)
  unfolding do_visit
  many_visit a fs = put_many _

  many_fork : (a b i c : ℕ) (ss : List Step) (fs : List Frame) (z : Option ℕ) → Many many (do_fork B L u s a b i c ss fs z)
  unfolding do_fork
  many_fork a b i c ss fs none = put_many _
  many_fork a b i c ss fs (some v) =
      leave_many 1 v (Flat.flat_unit 0 (Flat.proceed a (suc i) c ss fs))
      (Flat.flat_unit (Flat.unit s.units v).rank (Frame.job b 0 0 ∷ Frame.exit u (length fs) ∷ (Flat.unit s.units v).stack))

  many_join : (a i c : ℕ) (ss : List Step) (fs : List Frame) → Many many (do_join B L u s a i c ss fs)
  unfolding do_join
  many_join a i zero ss fs = put_many _
  many_join a i (suc c) ss fs = put_many _

  many_rewrite : (a e : ℕ) (right : List Symbol) (b : Binding) (fs : List Frame) (x y : Bool) → Many many (do_rewrite B L u s a e right b fs x y)
  unfolding do_rewrite
  many_rewrite a e right b fs true y = tt
  many_rewrite a e right b fs false true = tt
  many_rewrite a e right b fs false false =
      map_length (Flat.shift_unit a e (length (fill right b s.symbols))) (put s.units u (Flat.flat_unit 0 (Frame.job a 0 0 ∷ fs)))
      ∙ put_many (Flat.flat_unit 0 (Frame.job a 0 0 ∷ fs))

  many_whole : (a i c : ℕ) (ss : List Step) (fs : List Frame) (h : Hit) → Many many (do_whole B L u s a i c ss fs h)
  unfolding do_whole
  many_whole a i c ss fs Hit.miss = put_many _
  many_whole a i c ss fs (Hit.hit right b e) =
      many_rewrite a e right b fs (eqb s.rewrites L.budget) (exceeds L.symbols (length (fill right b s.symbols) + (length s.symbols - (e - a))))

  many_step : (a i c : ℕ) (ss : List Step) (fs : List Frame) → Many many (do_step B L u s a i c ss fs)
  unfolding do_step
  many_step a i c [] fs = put_many _
  many_step a i c (Step.visit x ∷ ss) fs = many_visit _ _
  many_step a i c (Step.fork x ∷ ss) fs = many_fork a (argument (arity B) s.symbols a x) i c ss fs (first_idle s.units)
  many_step a i c (Step.join d ∷ ss) fs = many_join a i c ss fs
  many_step a i c (Step.whole ∷ ss) fs = many_whole a i c ss fs (rewrite (arity B) B.rules a s.symbols)

  many_order : (fs : List Frame) (f : Frame) → Many many (carry_out B L u s fs f)
  unfolding carry_out arrive
  many_order fs (Frame.job a zero c) = many_visit a fs
  many_order fs (Frame.job a (suc i) c) = many_step a (suc i) c (drop i (steps B (get_or s.symbols a 0))) fs
  many_order fs (Frame.exit v i) =
      let x : FlatUnit = Flat.flat_unit 0 fs in
      let y : FlatUnit = Flat.lowered i (Flat.unit (put s.units u x) v) in
      leave_many (Flat.woken i y) v x y
  many_order fs Frame.sleep = put_many _
  many_order fs Frame.bingo = tt

  many_turn : (r : ℕ) (fs : List Frame) → Many many (turn B L u s r fs)
  unfolding turn
  many_turn (suc r) fs = refl
  many_turn zero [] = refl
  many_turn zero (f ∷ fs) = many_order fs f

  many_entry : (s' : FlatState) → flat_entry B L u s ≡ Flat.going s' → length s'.units ≡ many
  unfolding flat_entry
  many_entry s' e = subst (Many many) e (many_turn (Flat.unit s.units u).rank (Flat.unit s.units u).stack)

numbers_length : (k n : ℕ) → length (numbers_from k n) ≡ n
unfolding numbers_from
numbers_length k zero = refl
numbers_length k (suc n) = ap suc (numbers_length (suc k) n)

-- POINTS WITH THEIR BOOKS

module _ (B : Book) (g : GoodBook B) (L : Limits) where
  pub point_next : (s s' : FlatState) (u : ℕ) → PointRules B L s → flat_entry B L u s ≡ Flat.going s' → PointRules B L s'
  point_next s s' u h e = record {
    meets = meets_next B (good_book_sound B g) (good_settled B g) L s s' u h.meets e;
    known = known_entry B g L u s s' h.known e;
    few_units = (let a = h.few_units in omega (arith, a, many_entry B L u s s' e));
  }

  pub point_cut : (us : List ℕ) (s s' : FlatState) → PointRules B L s → flat_parked B L us s ≡ some s' → PointRules B L s'
  unfolding flat_parked
  point_cut [] s s' m e = subst (PointRules B L) (some-injective _ _ e) m
  point_cut (u ∷ us) s s' m e = go (flat_entry B L u s) refl e (point_cut us)
    where
      go : (x : FlatOutcome) → flat_entry B L u s ≡ x → unless_over (flat_parked B L us) x ≡ some s' →
          ((s₁ s₂ : FlatState) → PointRules B L s₁ → flat_parked B L us s₁ ≡ some s₂ → PointRules B L s₂) → PointRules B L s'
      go (Flat.going s₁) q e h = h s₁ s' (point_next s s₁ u m q) (unfold unless_over in e)
      go (Flat.ended en s₁) q e h = unfold unless_over in absurd (none-ne-some _ e)

  -- whatever FORKs are counted
  pub point_forks : (s : FlatState) (x y : ℕ) → PointRules B L s → PointRules B L (with_forks s x y)
  point_forks s x y h =
      record { meets = forks_meets B (good_book_sound B g) (good_settled B g) L s x y h.meets; known = h.known; few_units = h.few_units }

  pub point_part : (us : List ℕ) (P Q : Parked) → PointRules B L P.state → part B L us P ≡ some Q → PointRules B L Q.state
  unfolding part
  point_part us P Q m e = go (flat_parked B L us P.state) refl e
    where
      go : (x : Option FlatState) → flat_parked B L us P.state ≡ x → again (P.entries + length us) x ≡ some Q → PointRules B L Q.state
      go none q e = unfold again in absurd (none-ne-some _ e)
      go (some s) q e =
          let eq : record { entries = kept_count (P.entries + length us); state = kept_state s } ≡ Q = unfold again in some-injective _ _ e in
          let h = point_cut us P.state s m q in
          subst (λ (z : Parked). PointRules B L z.state) eq (point_forks s (kept_count s.granted) (kept_count s.kept) h)

  pub point_parts : (uss : List (List ℕ)) (P Q : Parked) → PointRules B L P.state → parts B L uss P ≡ some Q → PointRules B L Q.state
  unfolding parts
  point_parts [] P Q m e = subst (λ (z : Parked). PointRules B L z.state) (some-injective _ _ e) m
  point_parts (us ∷ uss) P Q m e = go (part B L us P) refl e (point_parts uss)
    where
      go : (x : Option Parked) → part B L us P ≡ x → from (parts B L uss) x ≡ some Q →
          ((P₁ Q₁ : Parked) → PointRules B L P₁.state → parts B L uss P₁ ≡ some Q₁ → PointRules B L Q₁.state) → PointRules B L Q.state
      go none q e h = unfold from in absurd (none-ne-some _ e)
      go (some R) q e h = h R Q (point_part us P R m q) (unfold from in e)

-- "Every point that a run saved keeps them all": of every book and line that are read, after any number of parts
pub saved_point : (bytes line : List ℕ) (A : AnyBook) (d : ℕ) (t : Term) → read_any bytes ≡ accepted A → read_line (on_day d A) line ≡ accepted t → (budget units : ℕ) → units ≤ 8 →
    (uss : List (List ℕ)) (Q : Parked) → let B = on_day d A in let L : Limits = record { budget = budget; symbols = some symbol_limit } in
    parts B L uss (record { entries = 0; state = flat_start (arity B) units line }) ≡ some Q → PointRules B L Q.state
unfolding flat_start start_units
saved_point bytes line A d t eb el budget units few uss Q e =
    let B : Book = on_day d A in
    let L : Limits = record { budget = budget; symbols = some symbol_limit } in
    let g = day_good bytes A eb d in
    let (c, q, l, a) = line_correct B line t el in
    let sz : exceeds L.symbols (size t) ≡ false = ltb_false 1024 (size t) (let x = size_preorder t in let y = ap length q in omega (arith, l, x, y)) in
    let start : PointRules B L (flat_start (arity B) units line) =
    record {
      meets = subst (λ (xs : List ℕ). Meets B L (flat_start (arity B) units xs)) q (meets_start B (good_book_sound B g) (good_settled B g) L units t c sz);
      known = a;
      few_units = (let x = map_length Flat.asleep (numbers_from 1 (units - 1)) in let y = numbers_length 1 (units - 1) in omega (arith, x, y, few));
    } in
    point_parts B g L uss (record { entries = 0; state = flat_start (arity B) units line }) Q start e
