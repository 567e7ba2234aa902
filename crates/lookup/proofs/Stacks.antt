-- The stack of a net's search: a node put on it, the node on top taken off and gone down from. Assumes nothing.
use mathlib.Core.List.{List}
use mathlib.Core.Logic.{◌⊎◌, inl, inr}
use mathlib.Core.Path.{◌≡◌, refl, sym, ap, ◌∙◌, subst}
use Prim.Native.Nat.{ℕ, zero, suc, ◌+◌, ◌-◌, ◌*◌, ◌/◌, ◌%◌, ◌≤◌, ◌<◌}
use native.Mathlib.Omega.{arith}
use lib.ListN.{length, get_or, set, length-set}
use lib.Seq.{get_or-set_same, get_or-set_other}
use Rattle.paper.proofs.Tests.{eqb_cases}
use Rattle.net.specs.Layout.{left_of}
use Rattle.net.specs.Net.{part}
use Rattle.lookup.specs.Walk.{symbol_in, size_in}
use Rattle.lookup.specs.Promises.{Ready, Small, KeyAt, BySymbol, ByPart, Led, Node, Fit, Descended, spot_at, Packable, Puts, Put, Pushed, weigh, limit_of, load, Pending, Along, Stacked, Tells, Visited, Turned}
use Rattle.lookup.specs.declared.Spot.{Spot}
use Rattle.std.specs.Prelude.{Option, Some, None}
use Rattle.rule.specs.declared.Match as M
use Rattle.net.specs.Layout.{number}
use Rattle.lookup.specs.declared.Descent as De
use Rattle.std.specs.Option.{option_map}
use Rattle.lookup.specs.declared.Turn.{Turn}
use Rattle.lookup.proofs.Nodes.{path_short, packable, small, part_inside, key_is, By, Branched, by_symbol, by_part, step}

-- A NODE IN TWO NUMBERS

spot : (i j k l i' j' k' l' : ℕ) → i ≡ i' → j ≡ j' → k ≡ k' → l ≡ l' →
    ◌≡◌ {A = Spot} (record { rule = i; depth = j; at = k; offset = l }) (record { rule = i'; depth = j'; at = k'; offset = l' })
spot i j k l i' j' k' l' p q r s = rw (p, q, r, s)

abbrev spot_of : ℕ → ℕ → Spot
spot_of w q = record { rule = w % 256; depth = w / 256 % 256; at = w / 65536; offset = q }

packed : (s : Spot) (w q : ℕ) → Packable s → w ≡ s.rule + 256 * s.depth + 65536 * s.at → q ≡ s.offset → spot_of w q ≡ s
packed s w q h e o =
    let a = h.rule in
    let b = h.depth in
    let c = h.at in
    spot (w % 256) (w / 256 % 256) (w / 65536) q s.rule s.depth s.at s.offset (omega arith) (omega arith) (omega arith) o

pub put : (stack : List ℕ) (h w q : ℕ) (s : Spot) → length stack ≡ 1024 → h < 64 → Packable s → w ≡ s.rule + 256 * s.depth + 65536 * s.at → q ≡ s.offset →
    Put stack h s (set (set stack (2 * h) w) (2 * h + 1) q)
put stack h w q s l m p e o =
    let one : List ℕ = set stack (2 * h) w in
    let long : length one ≡ length stack = length-set stack (2 * h) w in
    let two : List ℕ = set one (2 * h + 1) q in
    let first : get_or two (2 * h) 0 ≡ w = get_or-set_other one (2 * h + 1) (2 * h) q 0 (λ z. omega arith) ∙ get_or-set_same stack (2 * h) w 0 (omega arith) in
    let second : get_or two (2 * h + 1) 0 ≡ q = get_or-set_same one (2 * h + 1) q 0 (omega arith) in
    let as_before : (k : ℕ) → k < 2 * h → get_or two k 0 ≡ get_or stack k 0 =
    λ k n. get_or-set_other one (2 * h + 1) k q 0 (λ z. omega arith) ∙ get_or-set_other stack (2 * h) k w 0 (λ z. omega arith) in
    record {
      long = length-set one (2 * h + 1) q ∙ long;
      below = λ k n. rw (as_before (2 * k) (omega arith), as_before (2 * k + 1) (omega arith));
      top = rw (first, second) (packed s w q p e o);
    }

-- WEIGHTS

weigh_some : (r : ℕ) → 0 < weigh r
unfolding weigh
weigh_some zero = omega arith
weigh_some (suc r) = omega arith

weigh_suc : (r : ℕ) → weigh (suc r) ≡ 1 + 2 * weigh r
unfolding weigh
weigh_suc r = refl

weigh_add : (k r : ℕ) → weigh r ≤ weigh (k + r)
weigh_add zero r = let z : 0 + r ≡ r = omega arith in rw z (omega arith)
weigh_add (suc k) r = let z : suc k + r ≡ suc (k + r) = omega arith in rw z (omega (arith, weigh_add k r, weigh_suc (k + r)))

-- the deeper the lighter
weigh_deeper : (d d' : ℕ) → d ≤ d' → weigh (64 - d') ≤ weigh (64 - d)
weigh_deeper d d' l =
    let z : 64 - d - (64 - d') + (64 - d') ≡ 64 - d = omega arith in rw z at (weigh_add (64 - d - (64 - d')) (64 - d'))

-- two nodes behind one weigh less than it
weigh_two : (d : ℕ) → d < 64 → weigh (64 - (d + 1)) + weigh (64 - (d + 1)) < weigh (64 - d)
weigh_two d l =
    let z : suc (64 - (d + 1)) ≡ 64 - d = omega arith in omega (arith, rw z at (weigh_suc (64 - (d + 1))))

load_suc : (stack : List ℕ) (h : ℕ) → load stack (suc h) ≡ load stack h + weigh (64 - (spot_at stack h).depth)
unfolding load
load_suc stack h = refl

load_same : (stack stack' : List ℕ) (h : ℕ) → ((k : ℕ) → k < h → spot_at stack' k ≡ spot_at stack k) → load stack' h ≡ load stack h
unfolding load
load_same stack stack' zero e = refl
load_same stack stack' (suc h) e =
    let z : (spot_at stack' h).depth ≡ (spot_at stack h).depth = ap (λ (s : Spot). s.depth) (e h (omega arith)) in
    let y = load_same stack stack' h (λ k l. e k (omega arith)) in
    rw (z, y)

-- PUTTING

module _ {bytes net symbols : List ℕ} {a : ℕ} (R : Ready bytes net symbols a) where
  -- what a stack holds where a node of weight m may have been put on it
  pub record Grown (stack : List ℕ) (h m : ℕ) (stack' : List ℕ) (h' : ℕ) : Type 0 where
    pub stacked : Stacked bytes net symbols a stack' h'
    pub heavier : load stack' h' ≤ load stack h + m
    pub higher : h' ≤ h + 1
    pub kept : (j : ℕ) → Pending net stack h j → Pending net stack' h' j

  module _ {stack : List ℕ} {h : ℕ} (S : Stacked bytes net symbols a stack h) {n : Spot} (N : Node bytes net symbols a n) (deep : h < n.depth)
      {stack' : List ℕ} (P : Put stack h n stack') where
    put_nodes : (k : ℕ) → k < suc h → Node bytes net symbols a (spot_at stack' k) × (k < (spot_at stack' k).depth)
    put_nodes k l = elim (eqb_cases k h) [
      | inl z ↦
          subst (λ (x : ℕ). Node bytes net symbols a (spot_at stack' x) × (x < (spot_at stack' x).depth)) (sym z.1)
          (subst (λ (s : Spot). Node bytes net symbols a s × (h < s.depth)) (sym P.top) (N, deep))
      | inr z ↦
          let m : k < h = lower k h l z.1 in
          subst (λ (s : Spot). Node bytes net symbols a s × (k < s.depth)) (sym (P.below k m)) (S.nodes k m)
    ]
      where
        lower : (k h : ℕ) → k < suc h → (k ≡ h → ⊥) → k < h
        lower k h l d = omega arith

    put_load : load stack' (suc h) ≡ load stack h + weigh (64 - n.depth)
    put_load =
        let z : (spot_at stack' h).depth ≡ n.depth = ap (λ (s : Spot). s.depth) P.top in
        omega (arith, load_suc stack' h, load_same stack stack' h P.below, ap (λ (d : ℕ). weigh (64 - d)) z)

    put_kept : (j : ℕ) → Pending net stack h j → Pending net stack' (suc h) j
    put_kept j (k, l, w) = (k, omega arith, subst (λ (s : Spot). Led net s j) (sym (P.below k l)) w)

    pub put_top : (j : ℕ) → Led net n j → Pending net stack' (suc h) j
    put_top j w = (h, omega arith, subst (λ (s : Spot). Led net s j) (sym P.top) w)

    pub put_stacked : Stacked bytes net symbols a stack' (suc h)
    put_stacked = record { long = P.long ∙ S.long; nodes = put_nodes }

    put_grown : Grown stack h (weigh (64 - n.depth)) stack' (suc h)
    put_grown = record { stacked = put_stacked; heavier = omega (arith, put_load); higher = omega arith; kept = put_kept }

  -- a branch may be put on a stack, and is
  module _ (s : Spot) (own k : ℕ) {stack : List ℕ} {h : ℕ} (S : Stacked bytes net symbols a stack h) where
    puts : (n : Option Spot) → Branched R s own k n → h < 64 → Puts stack h n
    puts None b l = tt
    puts (Some n) b l = (S.long, l, packable R b.0)

    abbrev Holds : List ℕ → ℕ → Type 0
    Holds stack' r = Grown stack h (weigh (64 - (s.depth + 1))) stack' r × ((j : ℕ) → By R s own k j → Pending net stack' r j)

    grown : (n : Option Spot) → Branched R s own k n → h ≤ s.depth → (stack' : List ℕ) (r : ℕ) → Pushed stack h n stack' r → Holds stack' r
    grown None b l stack' r (e, z) =
        subst (λ (x : List ℕ). Holds x r) (sym e)
        (subst (λ (x : ℕ). Holds stack x) (sym z)
        (record { stacked = S; heavier = omega arith; higher = omega arith; kept = λ j w. w }, λ j w. absurd (b j w)))
    grown (Some n) (N, d, leads) l stack' r (P, y) =
        let deep : h < n.depth = omega arith in
        let z : suc h ≡ r = omega arith in
        subst (λ (x : ℕ). Holds stack' x) z (
          subst (λ (x : ℕ). Grown stack h (weigh (64 - x)) stack' (suc h)) d (put_grown S N deep P),
          λ j w. put_top S N deep P j (leads j w),
        )

  -- VISITING

  module _ {stack : List ℕ} {top : ℕ} (S : Stacked bytes net symbols a stack (suc top)) where
    pub top_below : top < 64
    top_below =
        let (n, d) = S.nodes top (omega arith) in
        let w = n.within in
        omega (arith, path_short R _ n.known)

    lower : Stacked bytes net symbols a stack top
    lower = record { long = S.long; nodes = λ k l. S.nodes k (omega arith) }

    module _ {s : Spot} (is : s ≡ spot_at stack top) (best : ℕ) where
      pub top_node : Node bytes net symbols a s
      top_node = subst (Node bytes net symbols a) (sym is) (S.nodes top (omega arith)).0

      top_deep : top < s.depth
      top_deep = subst (λ (x : Spot). top < x.depth) (sym is) (S.nodes top (omega arith)).1

      top_load : load stack (suc top) ≡ load stack top + weigh (64 - s.depth)
      top_load = rw is (load_suc stack top)

      split : (j : ℕ) → Pending net stack (suc top) j → Pending net stack top j ⊎ Led net s j
      split j (k, l, w) = elim (eqb_cases k top) [
        | inl z ↦ inr (subst (λ (x : Spot). Led net x j) (sym is) (subst (λ (x : ℕ). Led net (spot_at stack x) j) z.1 w))
        | inr z ↦ inl (k, before k top l z.1, w)
      ]
        where
          before : (k h : ℕ) → k < suc h → (k ≡ h → ⊥) → k < h
          before k h l d = omega arith

      -- the node is taken off, and what it leads to is known
      taken : (n : Option ℕ) → Tells bytes net symbols a (number n) →
          ((j : ℕ) → Fit bytes net symbols a j → Led net s j → (best ≤ suc j) ⊎ Along net (number n) j) →
          Visited bytes net symbols a stack top best stack (record { rule = n; limit = best; height = top })
      taken n t f =
          record {
            stacked = lower;
            lighter = omega (arith, top_load, weigh_some (64 - s.depth));
            limit = refl;
            tells = t;
            covers = λ j g w. elim (split j w) [ inl p ↦ inl p | inr l ↦ inr (f j g l) ];
          }

      pub visit_lost : Descended bytes net symbols a s best De.Descent.Lost → Visited bytes net symbols a stack top best stack (record { rule = None; limit = best; height = top })
      visit_lost d = taken None tt (λ j f l. inl (d j f l))

      pub visit_leaf : (i : ℕ) → Descended bytes net symbols a s best (De.Descent.Leaf i) →
          Visited bytes net symbols a stack top best stack (record { rule = Some i; limit = best; height = top })
      visit_leaf i (l, r, d) = taken (Some i) (l, r) (λ j f w. inr (d j f w))

      module _ {c : Spot} (d : Descended bytes net symbols a s best (De.Descent.Choice c)) where
        pub choice_small : Small net c
        choice_small = small R d.0 d.1

        pub choice_part : c.offset + size_in symbols c.offset ≤ 1024
        choice_part = part_inside R d.0 d.1

        module _ {own : ℕ} (key : KeyAt bytes (left_of net c.rule + c.at) own) (n : Option Spot) (p : ByPart net symbols c own n) where
          part_branched : Branched R c own part n
          part_branched = by_part R d.0 d.1 (key_is R d.0 d.1 own key) n p

          pub choice_puts : Puts stack top n
          choice_puts = puts c own part lower n part_branched top_below

          module _ (stack₁ : List ℕ) (h : ℕ) (u : Pushed stack top n stack₁ h) where
            deep : top ≤ c.depth
            deep = let w = d.2 in omega (arith, top_deep)

            first_put : Grown stack top (weigh (64 - (c.depth + 1))) stack₁ h × ((j : ℕ) → By R c own part j → Pending net stack₁ h j)
            first_put = grown c own part lower n part_branched deep stack₁ h u

            higher : h ≤ c.depth
            higher = let w = d.2 in omega (arith, first_put.0.higher, top_deep)

            module _ (n₂ : Option Spot) (p₂ : BySymbol net symbols c own n₂) where
              symbol_branched : Branched R c own (symbol_in symbols c.offset) n₂
              symbol_branched = by_symbol R d.0 d.1 (key_is R d.0 d.1 own key) n₂ p₂

              pub choice_puts_again : Puts stack₁ h n₂
              choice_puts_again = puts c own (symbol_in symbols c.offset) first_put.0.stacked n₂ symbol_branched (omega (arith, higher, choice_small.depth))

              pub visit_choice : (stack₂ : List ℕ) (h₂ : ℕ) → Pushed stack₁ h n₂ stack₂ h₂ →
                  Visited bytes net symbols a stack top best stack₂ (record { rule = None; limit = best; height = h₂ })
              visit_choice stack₂ h₂ u₂ =
                  let (g, to) = grown c own (symbol_in symbols c.offset) first_put.0.stacked n₂ symbol_branched higher stack₂ h₂ u₂ in
                  record {
                    stacked = g.stacked;
                    lighter =
                        (let w = d.2 in
                        omega (arith, g.heavier, first_put.0.heavier, top_load, weigh_two c.depth choice_small.depth, weigh_deeper s.depth c.depth w));
                    limit = refl;
                    tells = tt;
                    covers = λ j f w.
                        elim (split j w) [
                          | inl x ↦ inl (g.kept j (first_put.0.kept j x))
                          | inr l ↦
                              elim (step R d.0 d.1 (key_is R d.0 d.1 own key) f (d.3 j f l)) [
                                | inl b ↦ inl (to j b)
                                | inr b ↦ inl (g.kept j (first_put.1 j b))
                              ]
                        ];
                  }

-- TURNS

module _ {bytes net symbols : List ℕ} {a : ℕ} (R : Ready bytes net symbols a) where
  pub turn_empty : (stack : List ℕ) (h : ℕ) (best : Option M.Match) (r : Turn) → h ≡ 0 → r.rule ≡ option_map (λ m. m.rule) best →
      r.limit ≡ limit_of best + 1 → r.height ≡ 0 → Turned bytes net symbols a stack h best stack r
  turn_empty stack zero best r z e l u = (refl, e, l, u)
  turn_empty stack (suc h) best r z e l u = absurd (omega arith)

  pub turn_stacked : (stack : List ℕ) (h : ℕ) → (h ≡ 0 → ⊥) → Stacked bytes net symbols a stack h → Stacked bytes net symbols a stack (suc (h - 1))
  turn_stacked stack h n s = let z : h ≡ suc (h - 1) = omega arith in subst (λ (x : ℕ). Stacked bytes net symbols a stack x) z s

  pub turn_visit : (stack : List ℕ) (h : ℕ) (best : Option M.Match) (limit : ℕ) (stack' : List ℕ) (r : Turn) → (h ≡ 0 → ⊥) → limit ≡ limit_of best →
      Visited bytes net symbols a stack (h - 1) limit stack' r → Turned bytes net symbols a stack h best stack' r
  turn_visit stack zero best limit stack' r n e v = absurd (n refl)
  turn_visit stack (suc h) best limit stack' r n e v =
      let z : suc h - 1 ≡ h = omega arith in rw (z, e) at v
