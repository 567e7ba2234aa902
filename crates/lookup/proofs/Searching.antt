-- The search of a net: what holds at each turn, and what is answered when nothing is left to do. Assumes nothing.
use mathlib.Core.Bool.{Bool, true, false}
use mathlib.Core.List.{List}
use mathlib.Core.Logic.{◌⊎◌, inl, inr}
use mathlib.Core.Path.{◌≡◌, refl, sym, ap, ◌∙◌, subst}
use Prim.Native.Nat.{ℕ, zero, suc, ◌+◌, ◌*◌, ◌≤◌, ◌<◌}
use native.Mathlib.Omega.{arith}
use lib.ListN.{length, get_or}
use Rattle.flat.specs.Symbols as flat
use Rattle.flat.specs.Symbols.{Binding}
use Rattle.term.specs.Present.{length_in, operators_in}
use Rattle.tables.specs.Layout.{arity_in}
use Rattle.term.proofs.Sized.{operator_is}
use Rattle.rule.specs.Packed.{binding}
use Rattle.rule.specs.Promises.{LeftTried, SearchAnswers}
use Rattle.std.specs.Prelude.{Option, Some, None, IfSome}
use Rattle.std.specs.Option.{is_none, option_map}
use Rattle.rule.specs.declared.Match as M
use Rattle.net.specs.Layout.{number, root_in, last_in, left_of}
use Rattle.net.specs.Net.{Same, Leads, book_by}
use Rattle.net.proofs.Leading.{same_inside, same_path, same_least}
use Rattle.lookup.specs.Walk.{symbol_in}
use Rattle.lookup.specs.Promises.{rules_by, path_by, Present, Node, tried, Beaten, FirstOf, RulesTried, Packable, Put, limit_of, load, Pending, Along, Stacked, Tells, Visited, Turned, Tried, Attempted}
use Rattle.lookup.specs.declared.Spot.{Spot}
use Rattle.lookup.specs.declared.Turn.{Turn}
use Rattle.lookup.specs.declared.Best.{Best}
use Rattle.lookup.proofs.Nodes.{packable, down_start, down_leaf, rooted, start_node}
use Rattle.lookup.proofs.Rules.{ready, few, fits, answers_agrees, answers_first, answers_none}
use Rattle.lookup.proofs.Stacks.{put_top, put_stacked}

-- WHAT HOLDS

module _ (bytes operators net symbols : List ℕ) (a : ℕ) where
  -- rule k matches
  pub record Matching (k : ℕ) : Type 0 where
    pub known : k < length (rules_by bytes net)
    pub root : get_or (path_by bytes net k) 0 0 ≡ symbol_in symbols a
    pub agrees : tried bytes operators net symbols a k ≡ flat.Match.differs → ⊥

  -- b and e are its binding and its end
  abbrev pub Agreed : ℕ → Binding → ℕ → Type 0
  Agreed k b e = LeftTried bytes (left_of net k) operators (operators_in symbols) a (length_in symbols) b (Some e)

  -- the best is none, or a rule that matches; where it is fresh, the binding b is its
  abbrev pub Held : Best → Binding → Type 0
  Held best b = ((best.found ≡ None) × (best.fresh ≡ true)) ⊎
      ((m : M.Match) × (best.found ≡ Some m) × Matching m.rule × (best.fresh ≡ true → Agreed m.rule b m.end))

  -- every rule is beaten, or still to be found
  pub record Search (stack : List ℕ) (h : ℕ) (best : Best) (b : Binding) : Type 0 where
    pub stacked : Stacked bytes net symbols a stack h
    pub held : Held best b
    pub covers : (j : ℕ) → j < length (rules_by bytes net) → Beaten bytes operators net symbols a (limit_of best.found) j ⊎ Pending net stack h j

-- how much there may be to do; the best is tried once more at most
unfoldable pub ahead : List ℕ → ℕ → Bool → ℕ
ahead stack h true = 2 * load stack h
ahead stack h false = 2 * load stack h + 1

ahead_less : (stack stack' : List ℕ) (h h' : ℕ) (f f' : Bool) → load stack' h' < load stack h → ahead stack' h' f' < ahead stack h f
unfolding ahead
ahead_less stack stack' h h' true true l = omega arith
ahead_less stack stack' h h' true false l = omega arith
ahead_less stack stack' h h' false true l = omega arith
ahead_less stack stack' h h' false false l = omega arith

ahead_fresh : (stack : List ℕ) (h : ℕ) → ahead stack h true < ahead stack h false
unfolding ahead
ahead_fresh stack h = omega arith

-- AN ATTEMPT

module _ {bytes operators net symbols : List ℕ} {a : ℕ} (p : Present bytes operators net symbols a) where
  pub first_below : (i limit : ℕ) (b : Binding) (m : M.Match) → i < length (rules_by bytes net) → FirstOf bytes operators net symbols a i limit b m → m.rule < 255
  first_below i limit b m l h = omega (arith, same_inside (ready p).is (few p) l h.same, few p)

module _ {bytes operators net symbols : List ℕ} {a : ℕ} (p : Present bytes operators net symbols a) where
  abbrev Holds : Best → Binding → Type 0
  Holds = Held bytes operators net symbols a

  abbrev Beats : ℕ → ℕ → Type 0
  Beats = Beaten bytes operators net symbols a

  beats_less : (m n j : ℕ) → n ≤ m → Beats m j → Beats n j
  beats_less m n j l (inl z) = inl z
  beats_less m n j l (inr h) = inr (omega arith)

  -- THE BEGINNING

  -- the root of the term, by its symbol
  root_is : (f : ℕ) → root_in net (get_or (operators_in symbols) a 0) ≡ suc f → root_in net (symbol_in symbols a) ≡ suc f
  root_is f first = ap (root_in net) (operator_is (arity_in operators) symbols p.sized a p.inside) ∙ first

  module _ (f : ℕ) (first : root_in net (get_or (operators_in symbols) a 0) ≡ suc f) (stack : List ℕ) (long : length stack ≡ 1024) (s : Spot) (rule : s.rule ≡ f)
      (depth : s.depth ≡ 1) (at : s.at ≡ 9) (offset : s.offset ≡ a + 1) where
    start : Node bytes net symbols a s
    start = start_node (ready p) f (root_is f first) s rule depth at offset

    empty : Stacked bytes net symbols a stack 0
    empty = record { long = long; nodes = λ k l. absurd (omega arith) }

    pub start_packable : Packable s
    start_packable = packable (ready p) start

    pub search_start : (stack' : List ℕ) (b : Binding) → Put stack 0 s stack' →
        Search bytes operators net symbols a stack' 1 (record { found = None; fresh = true }) b
    search_start stack' b P =
        let d : 0 < s.depth = omega arith in
        record {
          stacked = put_stacked (ready p) empty start d P;
          held = inl (refl, refl);
          covers = λ j l.
              elim (fits p j l) [
                | inl y ↦ inl (inl y)
                | inr g ↦
                    inr (put_top (ready p) empty start d P j
                    (subst (λ (x : ℕ). Leads net x s.depth j) (sym rule) (subst (λ (x : ℕ). Leads net f x j) (sym depth) (rooted (ready p) f (root_is f first) j g))))
              ];
        }

  -- A TURN

  found_most : (best : Best) (b : Binding) → Holds best b → IfSome best.found (λ m. m.rule < 256)
  found_most best b (inl (z, y)) = rw z tt
  found_most best b (inr (m, z, k, g)) = rw z (let l = k.known in omega (arith, few p))

  -- a rule with the path of one of the term's root
  module _ (i limit : ℕ) (l : i < length (rules_by bytes net)) (root : get_or (path_by bytes net i) 0 0 ≡ symbol_in symbols a) (b : Binding) (m : M.Match)
      (h : FirstOf bytes operators net symbols a i limit b m) where
    matching : Matching bytes operators net symbols a m.rule
    matching =
        let known = same_inside (ready p).is (few p) l h.same in
        let begins = ap (λ (ks : List ℕ). get_or ks 0 0) (same_path (ready p).is (few p) l h.same) ∙ root in
        record {
          known = known;
          root = begins;
          agrees = λ z. differ (sym z ∙ answers_agrees p m.rule known begins b m.end h.agrees);
        }
      where
        differ : {c : Binding} {e : ℕ} → flat.Match.differs ≡ flat.Match.agrees c e → ⊥
        differ z = let x : ◌≡◌ {A = ℕ} 0 1 = cc in omega arith

    first_held : Holds (record { found = Some m; fresh = true }) b
    first_held = inr (m, refl, matching, λ z. h.agrees)

  -- no longer fresh
  none_held : (best : Best) (b b' : Binding) → Holds best b → Holds (record { found = best.found; fresh = is_none best.found }) b'
  none_held best b b' (inl (z, y)) = inl (z, rw z refl)
  none_held best b b' (inr (m, z, k, g)) = inr (m, z, k, λ y. absurd (other (rw z at y)))
    where
      other : false ≡ true → ⊥
      other z = let x : ◌≡◌ {A = ℕ} 0 1 = cc in omega arith

  abbrev Improved : ℕ → Best → List ℕ → Best → Type 0
  Improved n best bound' r = Holds r (binding bound') × (limit_of r.found ≤ limit_of best.found) × ((j : ℕ) → Along net n j → Beats (limit_of r.found) j)

  improved : (n : ℕ) (best r : Best) (bound bound' : List ℕ) → Tells bytes net symbols a n → Holds best (binding bound) →
      Tried bytes operators net symbols a n (limit_of best.found) best bound bound' r → Improved n best bound' r
  improved zero best r bound bound' t h (e, z) =
      subst (Improved zero best bound') (sym z) (subst (λ (x : List ℕ). Improved zero best x best) (sym e) (h, omega arith, λ j w. absurd w))
  improved (suc i) best r bound bound' (l, root) h (Some m, f, z) =
      subst (Improved (suc i) best bound') (sym z)
      (first_held i (limit_of best.found) l root (binding bound') m f, (let y = f.below in omega arith), λ j w. f.passed j w)
  improved (suc i) best r bound bound' (l, root) h (None, f, z) =
      subst (Improved (suc i) best bound') (sym z) (none_held best (binding bound) (binding bound') h, omega arith, λ j w. f j w)

  stale : {best : Best} {b : Binding} → Holds best b → best.fresh ≡ false → (m : M.Match) × (best.found ≡ Some m) × Matching bytes operators net symbols a m.rule
  stale (inl (z, y)) f = absurd (let w : true ≡ false = sym y ∙ f in let x : ◌≡◌ {A = ℕ} 0 1 = cc in omega arith)
  stale (inr (m, z, k, g)) f = (m, z, k)

  -- there is something to do
  abbrev pub Goes : ℕ → Best → Type 0
  Goes h best = (0 < h) ⊎ (best.fresh ≡ false)

  pub turn_tells : (stack : List ℕ) (h : ℕ) (best : Best) (b : Binding) (stack' : List ℕ) (t : Turn) → Search bytes operators net symbols a stack h best b →
      Goes h best → Turned bytes net symbols a stack h best.found stack' t → Tells bytes net symbols a (number t.rule)
  turn_tells stack zero best b stack' t q (inl l) w = absurd (omega arith)
  turn_tells stack zero best b stack' t q (inr f) w =
      let (m, z, k) = stale q.held f in rw (w.1, z) (k.known, k.root)
  turn_tells stack (suc h) best b stack' t q g w = w.tells

  module _ (stack : List ℕ) (best : Best) (bound stack' : List ℕ) (t : Turn) (bound' : List ℕ) (r : Best) where
    abbrev Now : ℕ → Type 0
    Now h = Search bytes operators net symbols a stack h best (binding bound)

    abbrev Then : Best → Type 0
    Then r = Search bytes operators net symbols a stack' t.height r (binding bound')

    visited : (h : ℕ) → Now (suc h) → Visited bytes net symbols a stack h (limit_of best.found) stack' t →
        Attempted bytes operators net symbols a t best bound bound' r → Then r
    visited h q v d =
        let d' = subst (λ (x : ℕ). Tried bytes operators net symbols a (number t.rule) x best bound bound' r) v.limit d in
        let (held, less, along) = improved (number t.rule) best r bound bound' v.tells q.held d' in
        record {
          stacked = v.stacked;
          held = held;
          covers = λ j l.
              elim (q.covers j l) [
                | inl z ↦ inl (beats_less (limit_of best.found) (limit_of r.found) j less z)
                | inr w ↦
                    elim (fits p j l) [
                      | inl z ↦ inl (inl z)
                      | inr f ↦
                          elim (v.covers j f w) [
                            | inl y ↦ inr y
                            | inr (inl y) ↦ inl (inr (omega arith))
                            | inr (inr y) ↦ inl (along j y)
                          ]
                    ]
              ];
        }

    -- the best once more
    again : (m : M.Match) → best.found ≡ Some m → Matching bytes operators net symbols a m.rule → Now 0 → stack' ≡ stack → t.height ≡ 0 →
        Tried bytes operators net symbols a (suc m.rule) (suc m.rule + 1) best bound bound' r → Then r × (r.fresh ≡ true)
    again m z k q e u (Some n, f, y) =
        let limit = suc m.rule + 1 in
        let x : n.rule ≡ m.rule = (let b = f.below in omega (arith, same_least (ready p).is (few p) k.known f.same)) in
        let v : Then (record { found = Some n; fresh = true }) =
        record {
          stacked = subst (λ (h : ℕ). Stacked bytes net symbols a stack' h) (sym u) (subst (λ (s : List ℕ). Stacked bytes net symbols a s 0) (sym e) q.stacked);
          held = first_held m.rule limit k.known k.root (binding bound') n f;
          covers = λ j l.
              elim (q.covers j l) [
                | inl w ↦ inl (beats_less (suc m.rule) (suc n.rule) j (omega arith) (rw z at w))
                | inr (i, w, _) ↦ absurd (omega arith)
              ];
        } in
        subst (λ (x : Best). Then x × (x.fresh ≡ true)) (sym y) (v, refl)
    again m z k q e u (None, f, y) = elim (f m.rule (Same.self m.rule)) [ inl w ↦ absurd (k.agrees w) | inr w ↦ absurd (omega arith) ]

    pub turned : (h : ℕ) → Now h → Goes h best → Turned bytes net symbols a stack h best.found stack' t →
        Attempted bytes operators net symbols a t best bound bound' r → Then r × (ahead stack' t.height r.fresh < ahead stack h best.fresh)
    turned zero q (inl l) w d = absurd (omega arith)
    turned zero q (inr f) (e, n, limit, u) d =
        let (m, z, k) = stale q.held f in
        let its_number : number t.rule ≡ suc m.rule = ap number (n ∙ ap (option_map (λ (x : M.Match). x.rule)) z) in
        let its_limit : t.limit ≡ suc m.rule + 1 = limit ∙ ap (λ (x : Option M.Match). limit_of x + 1) z in
        let d' = subst (λ (x : ℕ). Tried bytes operators net symbols a x t.limit best bound bound' r) its_number d in
        let (v, y) = again m z k q e u (subst (λ (x : ℕ). Tried bytes operators net symbols a (suc m.rule) x best bound bound' r) its_limit d') in
        (v, rw (e, u, y, f) (ahead_fresh stack 0))
    turned (suc h) q g v d = (visited h q v d, ahead_less stack stack' (suc h) t.height best.fresh r.fresh v.lighter)

  -- THE END

  module _ {stack : List ℕ} {h : ℕ} {best : Best} {b : Binding} (q : Search bytes operators net symbols a stack h best b) where
    pub best_most : IfSome best.found (λ m. m.rule < 256)
    best_most = found_most best b q.held

    module _ (done : h ≤ 0) (fresh : best.fresh ≡ true) where
      all : (j : ℕ) → j < length (rules_by bytes net) → Beats (limit_of best.found) j
      all j l = elim (q.covers j l) [ inl z ↦ z | inr (k, w, _) ↦ absurd (omega arith) ]

      -- the best is the answer
      pub answered : SearchAnswers (book_by bytes net) operators a (operators_in symbols) (length_in symbols) b best.found
      answered =
          elim q.held [
            | inl (z, y) ↦
                rw z (answers_none p (λ j l. elim (rw z at (all j l)) [ inl w ↦ w | inr w ↦ absurd (omega (arith, few p)) ]))
            | inr (m, z, k, g) ↦
                rw z (answers_first p m.rule k.known k.root b m.end (g fresh)
                (λ j l. elim (rw z at (all j (let w = k.known in omega arith))) [ inl w ↦ w | inr w ↦ absurd (omega arith) ]))
          ]

  -- ONE PATH: where no rule leaves that of the root's first rule behind the root, only rules with this path may match

  module _ (f : ℕ) (first : root_in net (get_or (operators_in symbols) a 0) ≡ suc f) where
    abbrev spot : Spot
    spot = record { rule = f; depth = 1; at = 9; offset = a + 1 }

    at_root : Node bytes net symbols a spot
    at_root = start_node (ready p) f (root_is f first) spot refl refl refl refl

    pub first_known : (f < length (rules_by bytes net)) × (f < 256) × (get_or (path_by bytes net f) 0 0 ≡ symbol_in symbols a)
    first_known = (at_root.known, (let l = at_root.known in omega (arith, few p)), at_root.root)

    module _ (lone : last_in net f ≤ 1) where
      others : (j : ℕ) → j < length (rules_by bytes net) → (tried bytes operators net symbols a j ≡ flat.Match.differs) ⊎ Same net f j
      others j l =
          elim (fits p j l) [
            | inl y ↦ inl y
            | inr g ↦ inr ((down_leaf (ready p) 256 (down_start at_root) (inl lone)).2 j g (rooted (ready p) f (root_is f first) j g))
          ]

      pub one_path : (b : Binding) (r : Option M.Match) → RulesTried bytes operators net symbols a f 256 b r →
          SearchAnswers (book_by bytes net) operators a (operators_in symbols) (length_in symbols) b r
      one_path b None h =
          answers_none p (λ j l.
          elim (others j l) [
            | inl y ↦ y
            | inr w ↦ elim (h j w) [ inl y ↦ y | inr y ↦ absurd (omega (arith, few p)) ]
          ])
      one_path b (Some m) h =
          let k = matching f 256 at_root.known at_root.root b m h in
          answers_first p m.rule k.known k.root b m.end h.agrees
          (λ j l.
          elim (others j (let w = k.known in omega arith)) [
            | inl y ↦ y
            | inr w ↦ elim (h.passed j w) [ inl y ↦ y | inr y ↦ absurd (omega arith) ]
          ])
