-- Where links lead: to one node or slot alone, to nodes of one place; and what stays so when a node is put where they lead to a free slot.
-- Assumes nothing.
use mathlib.Core.List.{List}
use mathlib.Core.Path.{◌≡◌, refl, sym, ap, ◌∙◌, subst}
use Prim.Native.Nat.{ℕ, ◌+◌, ◌-◌, ◌*◌, ◌/◌, ◌%◌, ◌<◌}
use native.Mathlib.Omega.{arith}
use lib.ListN.{get_or}
use Rattle.paper.proofs.Tests.{ltb_false, ltb_true}
use Rattle.overlap.specs.Trie.{Trie, place_of, Leads, slot_place, Link}
use Rattle.std.specs.Prelude.{Result, Ok, Err}

-- a node's slots lead to nodes of its place, a place's slot to its own
pub node_slot : (places : List ℕ) (y h : ℕ) → slot_place places (16384 + 2 * y + h % 2) ≡ get_or places y 0
unfolding slot_place
node_slot places y h =
    let e : (16384 + 2 * y + h % 2 - 16384) / 2 ≡ y = omega arith in
    rw (ltb_false (16384 + 2 * y + h % 2) 16384 (omega arith), slot_place, e)

pub own_slot : (places : List ℕ) (c : ℕ) → c < 16384 → slot_place places c ≡ c
unfolding slot_place
own_slot places c h = rw (ltb_true c 16384 h, slot_place)

module _ {links codes : List ℕ} {o : ℕ} where
  pub one_answer : {slot h : ℕ} {r s : Result ℕ ℕ} → Leads links codes o slot h r → Leads links codes o slot h s → r ≡ s
  one_answer (Leads.free e) (Leads.free f) = refl
  one_answer (Leads.free e) (Leads.node y f l d) = absurd (omega arith)
  one_answer (Leads.free e) (Leads.on y f l d k) = absurd (omega arith)
  one_answer (Leads.node y f l d) (Leads.free e) = absurd (omega arith)
  one_answer (Leads.node y f l d) (Leads.node z g m b) = ap Ok (sym f ∙ g)
  one_answer (Leads.node y f l d) (Leads.on z g m b k) = absurd (b (rw (sym f ∙ g) at d))
  one_answer (Leads.on y f l d k) (Leads.free e) = absurd (omega arith)
  one_answer (Leads.on y f l d k) (Leads.node z g m b) = absurd (d (rw (sym g ∙ f) at b))
  one_answer {slot} {h} {r} {s} (Leads.on y f l d k) (Leads.on z g m b j) =
      one_answer k (subst (λ (x : ℕ). Leads links codes o (16384 + 2 * x + h % 2) (h / 2) s) (sym g ∙ f) j)

  pub free_slot : {slot h s : ℕ} → Leads links codes o slot h (Err s) → get_or links s 0 ≡ 0
  free_slot (Leads.free e) = e
  free_slot (Leads.on y f m b k) = free_slot k

-- nodes of one place
pub leads_place : {T : Trie} {o slot h z : ℕ} → ((i : ℕ) → 0 < get_or T.links i 0 → Link T i (get_or T.links i 0)) →
    Leads T.links T.codes o slot h (Ok z) → place_of T z ≡ slot_place T.places slot
leads_place {T} {slot = slot} w (Leads.node y f l d) =
    subst (λ (x : ℕ). place_of T x ≡ slot_place T.places slot) f (w slot (rw f l)).place
leads_place {T} {slot = slot} {h = h} w (Leads.on y f l d k) =
    leads_place {T = T} w k ∙ node_slot T.places y h ∙ subst (λ (x : ℕ). place_of T x ≡ slot_place T.places slot) f (w slot (rw f l)).place

-- a free slot is of the same place, and no later than those of the nodes before u
module _ {T : Trie} (w : (i : ℕ) → 0 < get_or T.links i 0 → Link T i (get_or T.links i 0)) where
  pub free_place : {o slot h s : ℕ} → Leads T.links T.codes o slot h (Err s) → slot_place T.places s ≡ slot_place T.places slot
  free_place (Leads.free e) = refl
  free_place {slot = slot} {h = h} (Leads.on y f l d k) =
      free_place k ∙ node_slot T.places y h ∙ subst (λ (x : ℕ). place_of T x ≡ slot_place T.places slot) f (w slot (rw f l)).place

  pub free_early : {o slot h s : ℕ} (u : ℕ) → ((i : ℕ) → 0 < get_or T.links i 0 → get_or T.links i 0 < u) → slot < 16384 + 2 * u →
      Leads T.links T.codes o slot h (Err s) → s < 16384 + 2 * u
  free_early u b l (Leads.free e) = l
  free_early {slot = slot} u b l (Leads.on y f m d k) = let j : y < u = subst (λ (x : ℕ). x < u) f (b slot (rw f m)) in free_early u b (omega arith) k

-- links and codes that are there stay
module _ (links codes links' codes' : List ℕ) (same_link : (i : ℕ) → 0 < get_or links i 0 → get_or links' i 0 ≡ get_or links i 0)
    (same_code : (i : ℕ) → 0 < get_or links i 0 → get_or codes' (get_or links i 0) 0 ≡ get_or codes (get_or links i 0) 0) where
  link : (slot y : ℕ) → get_or links slot 0 ≡ y → 0 < y → get_or links' slot 0 ≡ y
  link slot y f l = same_link slot (rw f l) ∙ f

  code : (slot y : ℕ) → get_or links slot 0 ≡ y → 0 < y → get_or codes' y 0 ≡ get_or codes y 0
  code slot y f l = subst (λ (x : ℕ). get_or codes' x 0 ≡ get_or codes x 0) f (same_code slot (rw f l))

  pub leads_still : {o slot h z : ℕ} → Leads links codes o slot h (Ok z) → Leads links' codes' o slot h (Ok z)
  leads_still {slot = slot} (Leads.node y f l d) = Leads.node y (link slot y f l) l (code slot y f l ∙ d)
  leads_still {slot = slot} (Leads.on y f l d k) =
      Leads.on y (link slot y f l) l (λ e. d (sym (code slot y f l) ∙ e)) (leads_still k)

  -- where they led to a free slot, they lead to the node put there
  pub leads_now : {o slot h s : ℕ} (u : ℕ) → Leads links codes o slot h (Err s) → get_or links' s 0 ≡ u → 0 < u → get_or codes' u 0 ≡ o →
      Leads links' codes' o slot h (Ok u)
  leads_now u (Leads.free e) g l d = Leads.node u g l d
  leads_now {slot = slot} u (Leads.on y f m b k) g l d = Leads.on y (link slot y f m) m (λ e. b (sym (code slot y f m) ∙ e)) (leads_now u k g l d)
