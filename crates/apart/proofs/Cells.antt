-- Cells gone through one by one: what is marked and what differs from the k-th on. Assumes nothing.
use mathlib.Core.List.{List, [], ◌∷◌}
use mathlib.Core.Path.{◌≡◌, ◌∙◌}
use Prim.Native.Nat.{ℕ, ◌+◌, ◌-◌, ◌<◌, ◌≤◌}
use native.Mathlib.Numerals.{add-one}
use native.Mathlib.Omega.{arith}
use lib.Bits.{bit_or, bit_xor}
use lib.ListN.{length, get_or, take, drop, set, length-drop, drop_of_length-le}
use lib.Seq.{drop-cons, get_or-take, get_or-drop, length-take-le}
use Rattle.paper.specs.Sound.{All}
use Rattle.paper.proofs.Lists.{all_map}
use Rattle.tables.proofs.Laws.{all_at}
use Rattle.overlap.specs.Trie.{cells}
use Rattle.apart.specs.Rows.{places_of, mark_all, differ_all}
use Rattle.apart.specs.Promises.{CellsIn}

cells_length : (nodes : List ℕ) (start n : ℕ) → length nodes ≡ 16384 → start + n ≤ 16384 → length (cells nodes start n) ≡ n
cells_length nodes start n e h = length-take-le n (drop start nodes) (rw (length-drop start nodes) (omega arith))

cells_at : (nodes : List ℕ) (start n k : ℕ) → k < n → get_or (cells nodes start n) k 0 ≡ get_or nodes (start + k) 0
cells_at nodes start n k h = get_or-take n (drop start nodes) k 0 h ∙ get_or-drop start nodes k 0

module _ {nodes places : List ℕ} {start n : ℕ} (C : CellsIn nodes places start n) where
  cells_cons : (k : ℕ) → k < n → drop k (cells nodes start n) ≡ get_or nodes (start + k) 0 ∷ drop (k + 1) (cells nodes start n)
  cells_cons k h =
      drop-cons (cells nodes start n) k 0 (omega (arith, cells_length nodes start n C.long C.fits))
      ∙ rw (cells_at nodes start n k h, add-one k)

  cells_end : (k : ℕ) → n ≤ k → drop k (cells nodes start n) ≡ []
  cells_end k h = drop_of_length-le (cells nodes start n) {i = k} (omega (arith, cells_length nodes start n C.long C.fits))

  -- the cells as a part of the nodes
  pub part_long : length (take (start + n - start) (drop start nodes)) ≡ n
  part_long = let e : start + n - start ≡ n = omega arith in rw e (cells_length nodes start n C.long C.fits)

  pub cell_at : {z k : ℕ} → k < length (take (start + n - start) (drop start nodes)) → z ≡ get_or (take (start + n - start) (drop start nodes)) k 0 →
      (k < n) × (z ≡ get_or nodes (start + k) 0)
  cell_at {k = k} h e =
      let w : start + n - start ≡ n = omega arith in
      let l : k < n = omega (arith, part_long) in
      (l, rw w at e ∙ cells_at nodes start n k l)

  -- the numbers that are marked are inside
  pub nodes_inside : All (λ z. z < 16384) (cells nodes start n)
  nodes_inside = all_map _ _ (λ z h. h.0) (cells nodes start n) C.each

  pub places_inside : All (λ c. c < 16384) (places_of places (cells nodes start n))
  places_inside = go (cells nodes start n) C.each
    where
      go : (zs : List ℕ) → All (λ z. (z < 16384) × (get_or places z 0 < 16384)) zs → All (λ c. c < 16384) (places_of places zs)
      go [] a = tt
      go (z ∷ zs) (h, a) = (h.1, go zs a)

  -- a cell's node, and its place
  each_inside : (k : ℕ) → k < n → (get_or nodes (start + k) 0 < 16384) × (get_or places (get_or nodes (start + k) 0) 0 < 16384)
  each_inside k h =
      rw (cells_at nodes start n k h) at (all_at _ 0 (cells nodes start n) k C.each (omega (arith, cells_length nodes start n C.long C.fits)))

  pub node_inside : {z k : ℕ} → k < n → z ≡ get_or nodes (start + k) 0 → z < 16384
  node_inside {k = k} h e = rw e (each_inside k h).0

  pub place_inside : {c z k : ℕ} → k < n → z ≡ get_or nodes (start + k) 0 → c ≡ get_or places z 0 → c < 16384
  place_inside {k = k} h e f = rw (f, e) (each_inside k h).1

  -- one more cell
  pub mark_places : {c z : ℕ} (b k : ℕ) (ws : List ℕ) → k < n → z ≡ get_or nodes (start + k) 0 → c ≡ get_or places z 0 →
      mark_all b (places_of places (drop k (cells nodes start n))) ws
      ≡ mark_all b (places_of places (drop (k + 1) (cells nodes start n))) (set ws c (bit_or (get_or ws c 0) b))
  unfolding mark_all
  mark_places b k ws h e f = rw (cells_cons k h, f, e)

  pub mark_nodes : {z : ℕ} (b k : ℕ) (ws : List ℕ) → k < n → z ≡ get_or nodes (start + k) 0 →
      mark_all b (drop k (cells nodes start n)) ws ≡ mark_all b (drop (k + 1) (cells nodes start n)) (set ws z (bit_or (get_or ws z 0) b))
  unfolding mark_all
  mark_nodes b k ws h e = rw (cells_cons k h, e)

  pub mark_end : (b k : ℕ) (ws : List ℕ) → n ≤ k → mark_all b (drop k (cells nodes start n)) ws ≡ ws
  unfolding mark_all
  mark_end b k ws h = rw (cells_end k h)

  pub mark_places_end : (b k : ℕ) (ws : List ℕ) → n ≤ k → mark_all b (places_of places (drop k (cells nodes start n))) ws ≡ ws
  unfolding mark_all
  mark_places_end b k ws h = rw (cells_end k h)

  pub differ_next : {c z : ℕ} (holders sharers : List ℕ) (k apart : ℕ) → k < n → z ≡ get_or nodes (start + k) 0 → c ≡ get_or places z 0 →
      differ_all places holders sharers (drop k (cells nodes start n)) apart
      ≡ differ_all places holders sharers (drop (k + 1) (cells nodes start n)) (bit_or apart (bit_xor (get_or holders c 0) (get_or sharers z 0)))
  unfolding differ_all
  differ_next holders sharers k apart h e f = rw (cells_cons k h, f, e)

  pub differ_end : (holders sharers : List ℕ) (k apart : ℕ) → n ≤ k → differ_all places holders sharers (drop k (cells nodes start n)) apart ≡ apart
  unfolding differ_all
  differ_end holders sharers k apart h = rw (cells_end k h)
