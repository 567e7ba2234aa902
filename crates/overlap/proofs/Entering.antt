-- An operator entered at a place: its node is there, or the cell becomes one; what is named stays so. Assumes nothing.
use mathlib.Core.List.{List}
use mathlib.Core.Logic.{◌⊎◌, inl, inr, ◌≢◌}
use mathlib.Core.Path.{◌≡◌, refl, sym, ◌∙◌, subst}
use Prim.Native.Nat.{ℕ, ◌+◌, ◌-◌, ◌*◌, ◌/◌, ◌<◌, ◌≤◌}
use native.Mathlib.Omega.{arith}
use lib.ListN.{get_or, set, length-set}
use lib.Seq.{get_or-set_same, get_or-set_other}
use Rattle.paper.proofs.Tests.{eqb_cases, ltb_cases}
use Rattle.overlap.specs.Trie.{Trie, trie, base_of, place_of, Named, Leads, slot_place, Link, Linked, Based}
use Rattle.overlap.specs.Promises.{Seekable, Sought, NodeIs, NodeOf, Entered}
use Rattle.std.specs.Prelude.{Result, Ok, Err}
use Rattle.overlap.proofs.Leading.{own_slot, free_slot, leads_place, free_place, free_early, leads_still, leads_now}

-- what a node that is found is
pub found_own : {T : Trie} {o slot h z : ℕ} → ((i : ℕ) → 0 < get_or T.links i 0 → Link T i (get_or T.links i 0)) →
    Leads T.links T.codes o slot h (Ok z) → (0 < z) × (get_or T.nodes z 0 ≡ z) × (get_or T.codes z 0 ≡ o)
found_own {T} {slot = slot} w (Leads.node y f l d) = (l, subst (λ (x : ℕ). get_or T.nodes x 0 ≡ x) f (w slot (rw f l)).own, d)
found_own {T} w (Leads.on y f l d k) = found_own {T = T} w k

-- the place of a slot whose node isn't u, where node u gets its place
slot_other : (places : List ℕ) (slot u c : ℕ) → slot < 16384 + 2 * u → slot_place (set places u c) slot ≡ slot_place places slot
unfolding slot_place
slot_other places slot u c l = elim (ltb_cases slot 16384) [
  | inl p ↦ rw (p.0, slot_place)
  | inr p ↦ rw (p.0, slot_place) (get_or-set_other places u ((slot - 16384) / 2) c 0 (λ e. omega arith))
]

module _ (T : Trie) (u : ℕ) (L : Linked T u) (some : 0 < u) (few : u < 16384) where
  link_named : (i : ℕ) → 0 < get_or T.links i 0 → Named T (get_or T.links i 0) (place_of T (get_or T.links i 0)) (get_or T.codes (get_or T.links i 0) 0)
  link_named i h = record { some = h; own = (L.leads i h).own; place = refl; code = refl }

  link_below : (i : ℕ) → 0 < get_or T.links i 0 → get_or T.links i 0 < u
  link_below i h = L.inside _ _ _ (link_named i h)

  other : (z c o : ℕ) → Named T z c o → z ≢ u
  other z c o n e = omega (arith, L.inside z c o n)

  -- a node that is there is told
  module _ (c o z : ℕ) (inside : c < 16384) (l : Leads T.links T.codes o c o (Ok z)) where
    abbrev told : Trie
    told = trie T.links T.codes T.bases T.places (set T.nodes u z)

    named : Named T z c o
    named =
        let (p, q, r) = found_own {T = T} L.leads l in
        record { some = p; own = q; place = leads_place {T = T} L.leads l ∙ own_slot T.places c inside; code = r }

    still : (w d p : ℕ) → Named T w d p → Named told w d p
    still w d p n = record { some = n.some; own = get_or-set_other T.nodes u w z 0 (other w d p n) ∙ n.own; place = n.place; code = n.code }

    before : (w d p : ℕ) → Named told w d p → Named T w d p
    before w d p n = elim (eqb_cases w u) [
      | inl q ↦
          let e : u ≡ z = sym q.1 ∙ sym n.own ∙ rw q.1 (get_or-set_same T.nodes u z 0 (omega (arith, L.long.nodes))) in
          absurd (omega (arith, L.inside z c o named))
      | inr q ↦ record { some = n.some; own = sym (get_or-set_other T.nodes u w z 0 q.1) ∙ n.own; place = n.place; code = n.code }
    ]

    pub entered_known : (b : ℕ) → Entered T c o u b told z
    entered_known b =
        record {
          named = still z c o named;
          grows = record { named = still; based = λ w d p n. refl };
          linked =
              record {
                found = λ w d p n. L.found w d p (before w d p n);
                inside = λ w d p n. omega (arith, L.inside w d p (before w d p n));
                leads = λ i h. record {
                  own = get_or-set_other T.nodes u _ z 0 (other _ _ _ (link_named i h)) ∙ (L.leads i h).own;
                  later = (L.leads i h).later;
                  place = (L.leads i h).place;
                };
                long = record {
                  links = L.long.links;
                  codes = L.long.codes;
                  bases = L.long.bases;
                  places = L.long.places;
                  nodes = length-set T.nodes u z ∙ L.long.nodes;
                };
              };
          based = λ ar B k. record {
            apart = λ w d p v e q m n l. B.apart w d p v e q (before w d p m) (before v e q n) l;
            behind = λ w d p n. B.behind w d p (before w d p n);
            below = λ w d p n. omega (arith, B.below w d p (before w d p n));
          };
          told = refl;
        }

  -- the cell becomes a node, where the links lead to a free slot
  module _ (c o b s : ℕ) (inside : c < 16384) (room : s < 49152) (l : Leads T.links T.codes o c o (Err s)) where
    abbrev grown : Trie
    grown = trie (set T.links s u) (set T.codes u o) (set T.bases u b) (set T.places u c) (set T.nodes u u)

    same_link : (i : ℕ) → 0 < get_or T.links i 0 → get_or (set T.links s u) i 0 ≡ get_or T.links i 0
    same_link i h = get_or-set_other T.links s i u 0 (λ e. omega (arith, rw (← e) at (free_slot l)))

    same_code : (i : ℕ) → 0 < get_or T.links i 0 → get_or (set T.codes u o) (get_or T.links i 0) 0 ≡ get_or T.codes (get_or T.links i 0) 0
    same_code i h = get_or-set_other T.codes u _ o 0 (other _ _ _ (link_named i h))

    early : s < 16384 + 2 * u
    early = free_early {T = T} L.leads u link_below (omega arith) l

    new : Named grown u c o
    new =
        record {
          some = some;
          own = get_or-set_same T.nodes u u 0 (omega (arith, L.long.nodes));
          place = get_or-set_same T.places u c 0 (omega (arith, L.long.places));
          code = get_or-set_same T.codes u o 0 (omega (arith, L.long.codes));
        }

    keeps : (w d p : ℕ) → Named T w d p → Named grown w d p
    keeps w d p n =
        let k = other w d p n in
        record {
          some = n.some;
          own = get_or-set_other T.nodes u w u 0 k ∙ n.own;
          place = get_or-set_other T.places u w c 0 k ∙ n.place;
          code = get_or-set_other T.codes u w o 0 k ∙ n.code;
        }

    old_base : (w : ℕ) → w ≢ u → base_of grown w ≡ base_of T w
    old_base w k = get_or-set_other T.bases u w b 0 k

    new_base : base_of grown u ≡ b
    new_base = get_or-set_same T.bases u b 0 (omega (arith, L.long.bases))

    -- a node is the new one or an old one
    which : (w d p : ℕ) → Named grown w d p → ((w ≡ u) × (d ≡ c) × (p ≡ o)) ⊎ Named T w d p
    which w d p n = elim (eqb_cases w u) [
      | inl q ↦ inl (q.1, sym n.place ∙ rw q.1 new.place, sym n.code ∙ rw q.1 new.code)
      | inr q ↦ inr (record {
        some = n.some;
        own = sym (get_or-set_other T.nodes u w u 0 q.1) ∙ n.own;
        place = sym (get_or-set_other T.places u w c 0 q.1) ∙ n.place;
        code = sym (get_or-set_other T.codes u w o 0 q.1) ∙ n.code;
      })
    ]

    found_now : (w d p : ℕ) → Named grown w d p → Leads grown.links grown.codes p d p (Ok w)
    found_now w d p n = go (which w d p n)
      where
        go : ((w ≡ u) × (d ≡ c) × (p ≡ o)) ⊎ Named T w d p → Leads grown.links grown.codes p d p (Ok w)
        go (inl q) =
            rw (q.0, q.1, q.2)
            (leads_now T.links T.codes grown.links grown.codes same_link same_code u l (get_or-set_same T.links s u 0 (omega (arith, L.long.links)))
            some new.code)
        go (inr q) = leads_still T.links T.codes grown.links grown.codes same_link same_code (L.found w d p q)

    links_now : (i : ℕ) → 0 < get_or grown.links i 0 → Link grown i (get_or grown.links i 0)
    links_now i h = elim (eqb_cases i s) [
      | inl q ↦
          let e : get_or grown.links i 0 ≡ u = rw q.1 (get_or-set_same T.links s u 0 (omega (arith, L.long.links))) in
          rw (e, q.1) record {
            own = new.own;
            later = early;
            place = new.place ∙ sym (slot_other T.places s u c early ∙ free_place {T = T} L.leads l ∙ own_slot T.places c inside);
          }
      | inr q ↦
          let e : get_or grown.links i 0 ≡ get_or T.links i 0 = get_or-set_other T.links s i u 0 q.1 in
          let g : 0 < get_or T.links i 0 = rw e at h in
          let k = L.leads i g in
          let m = other _ _ _ (link_named i g) in
          rw e record {
            own = get_or-set_other T.nodes u _ u 0 m ∙ k.own;
            later = k.later;
            place = get_or-set_other T.places u _ c 0 m ∙ k.place
                ∙ sym (slot_other T.places i u c (omega (arith, k.later, link_below i g)));
          }
    ]

    based_now : (ar : ℕ → ℕ) → Based ar T b → c < b → Based ar grown (b + ar o)
    based_now ar B k = record { apart = λ w d p v e q m n j. apart w d p v e q m n j (which w d p m) (which v e q n); behind = λ w d p n. behind w d p (which w d p n); below = λ w d p n. below w d p (which w d p n) }
      where
        apart : (w d p v e q : ℕ) → Named grown w d p → Named grown v e q → w < v → ((w ≡ u) × (d ≡ c) × (p ≡ o)) ⊎ Named T w d p →
            ((v ≡ u) × (e ≡ c) × (q ≡ o)) ⊎ Named T v e q → base_of grown w + ar p ≤ base_of grown v
        apart w d p v e q m n j (inl x) (inl y) = absurd (omega (arith, x.0, y.0))
        apart w d p v e q m n j (inl x) (inr y) = absurd (omega (arith, x.0, L.inside v e q y))
        apart w d p v e q m n j (inr x) (inl y) = rw (y.0, new_base, old_base w (other w d p x)) (B.below w d p x)
        apart w d p v e q m n j (inr x) (inr y) = rw (old_base w (other w d p x), old_base v (other v e q y)) (B.apart w d p v e q x y j)

        behind : (w d p : ℕ) → ((w ≡ u) × (d ≡ c) × (p ≡ o)) ⊎ Named T w d p → d < base_of grown w
        behind w d p (inl x) = rw (x.0, x.1, new_base) k
        behind w d p (inr x) = rw (old_base w (other w d p x)) (B.behind w d p x)

        below : (w d p : ℕ) → ((w ≡ u) × (d ≡ c) × (p ≡ o)) ⊎ Named T w d p → base_of grown w + ar p ≤ b + ar o
        below w d p (inl x) = rw (x.0, x.2, new_base) (omega arith)
        below w d p (inr x) = rw (old_base w (other w d p x)) (omega (arith, B.below w d p x))

    pub entered_new : Entered T c o u b grown u
    entered_new =
        record {
          named = new;
          grows = record { named = keeps; based = λ w d p n. old_base w (other w d p n) };
          linked =
              record {
                found = found_now;
                inside = λ w d p n. elim (which w d p n) [ inl x ↦ omega (arith, x.0) | inr x ↦ omega (arith, L.inside w d p x) ];
                leads = links_now;
                long = record {
                  links = length-set T.links s u ∙ L.long.links;
                  codes = length-set T.codes u o ∙ L.long.codes;
                  bases = length-set T.bases u b ∙ L.long.bases;
                  places = length-set T.places u c ∙ L.long.places;
                  nodes = length-set T.nodes u u ∙ L.long.nodes;
                };
              };
          based = based_now;
          told = refl;
        }

pub seekable : (T : Trie) (u : ℕ) → Linked T u → 0 < u → u < 16384 → Seekable T.links T.codes
seekable T u L some few =
    record {
      later = λ i h. (omega (arith, link_below T u L some few i h), (L.leads i h).later);
      links_long = L.long.links;
      codes_long = L.long.codes;
    }

-- either way
pub entered : (T : Trie) (u : ℕ) → Linked T u → 0 < u → u < 16384 → (c o b z : ℕ) (links codes bases places nodes : List ℕ) → c < 16384 →
    NodeOf T.links T.codes T.bases T.places c o u b links codes bases places z → nodes ≡ set T.nodes u z →
    Entered T c o u b (trie links codes bases places nodes) z
entered T u L some few c o b z links codes bases places nodes inside N n = go N.seek N.sought N.is
  where
    go : (r : Result ℕ ℕ) → Sought T.links T.codes c o r → NodeIs T.links T.codes T.bases T.places c o u b links codes bases places z r →
        Entered T c o u b (trie links codes bases places nodes) z
    go (Ok y) s (e, k, l, m, p) = rw (n, k, l, m, p, e) (entered_known T u L some few c o y inside s.leads b)
    go (Err i) s (e, k, l, m, p) = rw (n, k, l, m, p, e) (entered_new T u L some few c o b i inside s.inside s.leads)
