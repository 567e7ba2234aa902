-- The left sides walked one after another: those walked before keep their cells. Assumes nothing.
use mathlib.Core.List.{List, [], ◌∷◌}
use mathlib.Core.Logic.{◌⊎◌, inl, inr}
use mathlib.Core.Path.{◌≡◌, refl, sym, ◌∙◌}
use Prim.Native.Nat.{ℕ, zero, suc, ◌+◌, ◌*◌, ◌<◌, ◌≤◌}
use native.Mathlib.Nat.{eq-or-lt_of_le}
use native.Mathlib.Omega.{arith}
use lib.ListN.{length, get_or, drop, set, replicate, length-replicate, length-set, length-drop}
use lib.Seq.{get_or-set_same, get_or-set_other, get_or-take, get_or-drop, length-take-le, ext_get_or}
use Rattle.paper.specs.Tree.{preorder}
use Rattle.paper.specs.Book.{Rule}
use Rattle.tables.specs.Layout.{arity_in, left_in}
use Rattle.tables.specs.Tables.{rule_at}
use Rattle.rule.specs.Promises.{Lefts}
use Rattle.overlap.specs.Trie.{Trie, trie, Named, Linked, Based, Grows, Walked, cells, cells_of}
use Rattle.overlap.specs.Promises.{Walkable, SideWalked, Built}
use Rattle.overlap.proofs.Walking.{grows_none, grows_on, linked_wide, based_wide}

pub zeros : (n i : ℕ) → ◌≡◌ {A = ℕ} (get_or (replicate n 0) i 0) 0
zeros zero i = refl
zeros (suc n) zero = refl
zeros (suc n) (suc i) = zeros n i

-- nothing is named
abbrev blank : Trie
blank = trie (replicate 49152 0) (replicate 16384 0) (replicate 16384 0) (replicate 16384 0) (replicate 16384 0)

no_node : {A : Type 0} (z c o : ℕ) → Named blank z c o → A
no_node z c o n = absurd (omega (arith, n.some, n.own, zeros 16384 z))

blank_linked : Linked blank 64
blank_linked =
    record {
      found = λ z c o n. no_node z c o n;
      inside = λ z c o n. no_node z c o n;
      leads = λ i h. absurd (omega (arith, zeros 49152 i));
      long = record {
        links = length-replicate {A = ℕ} 49152 0;
        codes = length-replicate {A = ℕ} 16384 0;
        bases = length-replicate {A = ℕ} 16384 0;
        places = length-replicate {A = ℕ} 16384 0;
        nodes = length-replicate {A = ℕ} 16384 0;
      };
    }

-- cells are the same where nodes are
cells_same : (nodes nodes' : List ℕ) (start n : ℕ) → length nodes ≡ length nodes' → start + n ≤ length nodes → ((i : ℕ) → i < start + n → get_or nodes' i 0 ≡ get_or nodes i 0) →
    cells nodes' start n ≡ cells nodes start n
cells_same nodes nodes' start n e l h =
    let k : length (cells nodes start n) ≡ n = length-take-le n (drop start nodes) (omega (arith, length-drop start nodes)) in
    let k' : length (cells nodes' start n) ≡ n = length-take-le n (drop start nodes') (omega (arith, length-drop start nodes')) in
    ext_get_or 0 (cells nodes' start n) (cells nodes start n) (k' ∙ sym k) (λ i j.
    get_or-take n (drop start nodes') i 0 (omega arith) ∙ get_or-drop start nodes' i 0 ∙ h (start + i) (omega arith)
    ∙ sym (get_or-take n (drop start nodes) i 0 (omega arith) ∙ get_or-drop start nodes i 0))

at_or_below : (j i : ℕ) → j < i + 1 → (j ≡ i) ⊎ (j < i)
at_or_below j i h = elim (eq-or-lt_of_le h) [ inl q ↦ inl (omega arith) | inr q ↦ inr (omega arith) ]

-- the left sides of the rules below i were walked
pub record Building (operators : List ℕ) (rs : List Rule) (T : Trie) (counts : List ℕ) (i : ℕ) : Type 0 where
  pub linked : Linked T (64 * i + 64)
  pub based : Based (arity_in operators) T (64 * i + 1)
  pub walked : (j : ℕ) → j < i → (U : Trie) → Grows T U → Walked U (arity_in operators) (preorder (rule_at rs j).left) (0 ∷ []) (cells_of T.nodes counts j)
  pub few : (j : ℕ) → j < i → get_or counts j 0 ≤ 64
  pub long : length counts ≡ 256

module _ (operators : List ℕ) (rs : List Rule) where
  pub building_starts : Building operators rs blank (replicate 256 0) 0
  building_starts =
      record {
        linked = blank_linked;
        based = record { apart = λ z c o w d p n m l. no_node z c o n; behind = λ z c o n. no_node z c o n; below = λ z c o n. no_node z c o n };
        walked = λ j h. absurd (omega arith);
        few = λ j h. absurd (omega arith);
        long = length-replicate {A = ℕ} 256 0;
      }

  module _ {bytes rules : List ℕ} {T : Trie} {counts : List ℕ} {i : ℕ} (I : Building operators rs T counts i) (L : Lefts bytes operators rules rs) (l : i < length rs) where
    pub walkable : length bytes ≤ 65536 → Walkable bytes (left_in rules i) operators (64 * i) T
    walkable s =
        record {
          side = (rule_at rs i).left;
          stands = (L.each i l).stands;
          short = s;
          few = omega (arith, L.few);
          linked = I.linked;
          based = I.based;
        }

    pub building_goes : {T' : Trie} {n : ℕ} (counts' : List ℕ) → SideWalked bytes (left_in rules i) operators (64 * i) T T' n → counts' ≡ set counts i n → Building operators rs T' counts' (i + 1)
    building_goes {T'} {n} counts' S e =
        let f = L.few in
        let new : get_or counts' i 0 ≡ n = rw e (get_or-set_same counts i n 0 (omega (arith, I.long))) in
        let old : (j : ℕ) → j < i → get_or counts' j 0 ≡ get_or counts j 0 = λ j h. rw e (get_or-set_other counts i j n 0 (λ q. omega arith)) in
        record {
          linked = linked_wide (64 * (i + 1) + 64) (omega arith) S.linked;
          based = based_wide (64 * (i + 1) + 1) (omega arith) S.based;
          walked = λ j h U g. elim (at_or_below j i h) [
            | inl q ↦ rw (q, new) (S.walked (rule_at rs i).left (L.each i l).stands U g)
            | inr q ↦
                let same : cells T'.nodes (64 * j + 64) (get_or counts j 0) ≡ cells T.nodes (64 * j + 64) (get_or counts j 0) =
                cells_same T.nodes T'.nodes (64 * j + 64) (get_or counts j 0) (I.linked.long.nodes ∙ sym S.linked.long.nodes)
                (omega (arith, I.few j q, I.linked.long.nodes)) (λ k b. S.kept k (omega (arith, I.few j q))) in
                rw (old j q, same) (I.walked j q U (grows_on S.grows g))
          ];
          few = λ j h. elim (at_or_below j i h) [ inl q ↦ rw (q, new) S.few | inr q ↦ rw (old j q) (I.few j q) ];
          long = rw e (length-set counts i n ∙ I.long);
        }

  -- all were
  pub building_ended : {links codes bases places nodes counts : List ℕ} {m : ℕ} → Building operators rs (trie links codes bases places nodes) counts m →
      m ≡ length rs → m < 256 → Built (arity_in operators) rs places nodes counts
  building_ended {links} {codes} {bases} {places} {nodes} {counts} {m} I e f =
      record {
        links = links;
        codes = codes;
        bases = bases;
        linked = linked_wide 16384 (omega arith) I.linked;
        based = based_wide 16384 (omega arith) I.based;
        walked = λ i h. I.walked i (omega arith) (trie links codes bases places nodes) (grows_none _);
        few = λ i h. I.few i (omega arith);
      }
