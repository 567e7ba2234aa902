-- Words filled rule by rule, rows put word by word. Assumes nothing.
use mathlib.Core.Bool.{false}
use mathlib.Core.List.{List}
use mathlib.Core.Logic.{inl, inr, ◌≢◌}
use mathlib.Core.Path.{◌≡◌, refl, ◌∙◌}
use Prim.Native.Nat.{ℕ, ◌+◌, ◌*◌, ◌/◌, ◌%◌, ◌^◌, ◌<◌, ◌≤◌}
use native.Mathlib.Omega.{arith}
use lib.ListN.{length, get_or, replicate, set, length-replicate}
use lib.Seq.{get_or-set_same, get_or-set_other}
use Rattle.paper.specs.Strategy.{has}
use Rattle.paper.specs.Sound.{All}
use Rattle.paper.proofs.Tests.{eqb_cases}
use Rattle.overlap.proofs.Building.{zeros}
use Rattle.overlap.specs.Trie.{cells, cells_of}
use Rattle.apart.specs.Rows.{has_bit, places_of, mark_all, differ_all, parted, apart_in}
use Rattle.apart.specs.Promises.{AllCells, Marked, WordPut, WordFound, RowsFound}
use Rattle.apart.proofs.Cells.{nodes_inside, places_inside}
use Rattle.apart.proofs.Marks.{either_false, bit_none, marked, marked_other, marked_length, differing}

-- WORDS

-- bit v of the words says what is in list `first` + v, where this is before j; the others are clear
pub record Held (first j : ℕ) (lists : ℕ → List ℕ) (words : List ℕ) : Type 0 where
  pub own : (v c : ℕ) → first + v < j → has_bit v (get_or words c 0) ≡ has c (lists (first + v))
  pub clear : (v c : ℕ) → j ≤ first + v → has_bit v (get_or words c 0) ≡ false
  pub long : length words ≡ 16384

pub held_none : (first : ℕ) (lists : ℕ → List ℕ) (words : List ℕ) → words ≡ replicate 16384 0 → Held first first lists words
held_none first lists words e = record {
  own = λ v c h. absurd (omega arith);
  clear = λ v c h. rw (e, zeros 16384 c) (bit_none v);
  long = rw e (length-replicate {A = ℕ} 16384 0);
}

pub held_next : {first j : ℕ} {lists : ℕ → List ℕ} {words : List ℕ} (u : ℕ) → Held first j lists words → first + u ≡ j → All (λ c. c < 16384) (lists j) →
    Held first (j + 1) lists (mark_all (2 ^ u) (lists j) words)
held_next {first} {j} {lists} {words} u H h a = record {
  own = λ v c k. elim (eqb_cases v u) [
    | inl p ↦
        rw (p.1, h) (marked u 16384 (lists j) words c H.long a ∙ rw (H.clear u c (omega arith)) (either_false (has c (lists j))))
    | inr p ↦ let d = p.1 in marked_other u 16384 (lists j) words v c d H.long a ∙ H.own v c (omega arith)
  ];
  clear = λ v c k. marked_other u 16384 (lists j) words v c (λ e. omega arith) H.long a ∙ H.clear v c (omega arith);
  long = marked_length u 16384 (lists j) words ∙ H.long;
}

-- the words of the rules' places and of their nodes
pub record MarkedBefore (nodes places counts : List ℕ) (first j : ℕ) (holders sharers : List ℕ) : Type 0 where
  pub held : Held first j (λ i. places_of places (cells_of nodes counts i)) holders
  pub shared : Held first j (λ i. cells_of nodes counts i) sharers

module _ {nodes places counts : List ℕ} {first : ℕ} where
  pub marks_none : {holders sharers : List ℕ} → holders ≡ replicate 16384 0 → sharers ≡ replicate 16384 0 →
      MarkedBefore nodes places counts first first holders sharers
  marks_none e f = record { held = held_none first (λ i. places_of places (cells_of nodes counts i)) _ e; shared = held_none first (λ i. cells_of nodes counts i) _ f }

  pub marks_next : {m j n b : ℕ} {holders sharers holders' sharers' : List ℕ} (u : ℕ) → MarkedBefore nodes places counts first j holders sharers →
      AllCells nodes places counts m → j < m → first + u ≡ j → n ≡ get_or counts j 0 → b ≡ 2 ^ u →
      holders' ≡ mark_all b (places_of places (cells nodes (64 * j + 64) n)) holders → sharers' ≡ mark_all b (cells nodes (64 * j + 64) n) sharers →
      MarkedBefore nodes places counts first (j + 1) holders' sharers'
  marks_next {j = j} u M C h e f g x y =
      rw (x, y, f, g) record { held = held_next u M.held e (places_inside (C.each j h)); shared = held_next u M.shared e (nodes_inside (C.each j h)) }

  pub marks_all : {m j : ℕ} {holders sharers : List ℕ} → MarkedBefore nodes places counts first j holders sharers →
      ((v : ℕ) → v < 64 → first + v < m → first + v < j) → Marked nodes places counts m first holders sharers
  marks_all M f = record { held = λ v c h k. M.held.own v c (f v h k); shared = λ v c h k. M.shared.own v c (f v h k) }

-- ROWS

module _ {nodes places counts holders sharers rows₀ : List ℕ} {w : ℕ} where
  pub put_none : WordPut nodes places counts 0 w holders sharers rows₀ rows₀
  put_none = record { put = λ i h. absurd (omega arith); kept = λ k d. refl }

  pub put_next : {i x : ℕ} {rows : List ℕ} → WordPut nodes places counts i w holders sharers rows₀ rows → length rows ≡ 1024 → i < 256 → w < 4 →
      x ≡ differ_all places holders sharers (cells_of nodes counts i) 0 → WordPut nodes places counts (i + 1) w holders sharers rows₀ (set rows (4 * i + w) x)
  put_next {i} {x} {rows} P l h k e = record {
    put = λ j g. elim (eqb_cases j i) [
      | inl p ↦ rw p.1 (get_or-set_same rows (4 * i + w) x 0 (omega arith) ∙ e)
      | inr p ↦ let d = p.1 in get_or-set_other rows (4 * i + w) (4 * j + w) x 0 (λ z. d (omega arith)) ∙ P.put j (omega arith)
    ];
    kept = λ j d. get_or-set_other rows (4 * i + w) j x 0 (λ z. d (omega arith)) ∙ P.kept j d;
  }

  pub word_found : {m : ℕ} {rows : List ℕ} → Marked nodes places counts m (64 * w) holders sharers →
      WordPut nodes places counts m w holders sharers rows₀ rows → WordFound nodes places counts m w rows₀ rows
  word_found {m} {rows} M P = record { found = found; kept = kept }
    where
      found : (i j : ℕ) → i < m → j < m → j / 64 ≡ w → apart_in rows i j ≡ parted places (cells_of nodes counts j) (cells_of nodes counts i)
      found i j h k e =
          let f : 64 * w + j % 64 ≡ j = omega arith in
          let g : 64 * w + j % 64 < m = omega arith in
          rw (e, P.put i h)
          (differing (j % 64) places holders sharers (cells_of nodes counts j) (λ c. M.held (j % 64) c (omega arith) g ∙ rw f)
          (λ z. M.shared (j % 64) z (omega arith) g ∙ rw f) (cells_of nodes counts i) 0
          ∙ rw (bit_none (j % 64)))

      kept : (i j : ℕ) → j < 256 → j / 64 ≢ w → apart_in rows i j ≡ apart_in rows₀ i j
      kept i j h d = rw (P.kept (4 * i + j / 64) (λ e. d (omega arith)))

-- the rules' bits before word w are found
pub record FoundBefore (nodes places counts : List ℕ) (m w : ℕ) (rows : List ℕ) : Type 0 where
  pub found : (i j : ℕ) → i < m → j < m → j / 64 < w → apart_in rows i j ≡ parted places (cells_of nodes counts j) (cells_of nodes counts i)

pub found_none : {nodes places counts rows : List ℕ} {m : ℕ} → FoundBefore nodes places counts m 0 rows
found_none = record { found = λ i j h k l. absurd (omega arith) }

pub found_next : {nodes places counts rows rows' : List ℕ} {m w : ℕ} → FoundBefore nodes places counts m w rows → m < 256 →
    WordFound nodes places counts m w rows rows' → FoundBefore nodes places counts m (w + 1) rows'
found_next {w = w} F l W = record {
  found = λ i j h k g. elim (eqb_cases (j / 64) w) [
    | inl p ↦ W.found i j h k p.1
    | inr p ↦ let d = p.1 in W.kept i j (omega arith) d ∙ F.found i j h k (omega arith)
  ];
}

pub found_all : {nodes places counts rows : List ℕ} {m w : ℕ} → FoundBefore nodes places counts m w rows → m ≤ 64 * w → RowsFound nodes places counts m rows
found_all F l = record { found = λ i j h k. F.found i j h k (omega arith) }
