-- Cells of a net's area: one is put and the others stay, three hold a position, and an area is cleared from its start on. Assumes nothing.
use mathlib.Core.List.{List, ◌++◌}
use mathlib.Core.Path.{◌≡◌, refl, sym, ap, ◌∙◌, subst}
use Prim.Native.Nat.{ℕ, ◌+◌, ◌*◌, ◌/◌, ◌%◌, ◌^◌, ◌≤◌, ◌<◌}
use native.Mathlib.Omega.{arith}
use lib.ListN.{length, get_or, drop, replicate, length-set, length-append, length-drop, length-replicate, get_or-append, get_or-replicate}
use lib.Seq.{get_or-set_same, get_or-set_other}
use borrow.Author.Tests.{lt-ltb, le-ltb}
use Rattle.net.specs.Layout.{published, cell, with_cell}
use Rattle.net.specs.Promises.{larger, Empty, CellPut, PositionPut}
use Rattle.net.proofs.Ways.{front_ways}

-- ONE CELL

module _ (net : List ℕ) (c i v : ℕ) (long : published ≤ length net) (b : c < 15) (l : i < 256) where
  pub cell_put : CellPut net c i v (with_cell net c i v)
  cell_put = record {
    long = length-set net (256 * c + i) v;
    here = get_or-set_same net (256 * c + i) v 0 (omega arith);
    others = λ c' i' b' l' n.
        get_or-set_other net (256 * c + i) (256 * c' + i') v 0 (λ (e : 256 * c' + i' ≡ 256 * c + i). n (omega arith, omega arith));
    ways = λ f i' d k.
        front_ways net (with_cell net c i v)
        (λ x p. get_or-set_other net (256 * c + i) x v 0 (λ (e : x ≡ 256 * c + i). omega arith)) i' d k;
  }

-- the same with place and value as a caller has them
pub placed : {net net' : List ℕ} {c i j v w : ℕ} → i ≡ j → v ≡ w → CellPut net c i v net' → CellPut net c j w net'
placed {net} {net'} {c} {i} {j} {v} {w} e f p =
    subst (λ (x : ℕ). CellPut net c x w net') e (subst (λ (x : ℕ). CellPut net c i x net') f p)

-- a cell that keeps its value
pub cell_kept : (net : List ℕ) (c i v : ℕ) → v ≡ cell net c i → CellPut net c i v net
cell_kept net c i v e = record { long = refl; here = sym e; others = λ c' i' b l n. refl; ways = λ f i' d k. refl }

pub larger_second : (a b : ℕ) → a < b → larger a b ≡ b
unfolding larger
larger_second a b l = rw (larger, lt-ltb a b l) refl

pub larger_first : (a b : ℕ) → b ≤ a → larger a b ≡ a
unfolding larger
larger_first a b l = rw (larger, le-ltb a b l) refl

-- THREE CELLS

module _ (net n1 n2 n3 : List ℕ) (c i p : ℕ) (b : c < 13) (l : i < 256) (v : p < 2 ^ 24)
    (p1 : CellPut net c i (p % 256) n1)
    (p2 : CellPut n1 (c + 1) i (p / 256 % 256) n2)
    (p3 : CellPut n2 (c + 2) i (p / 65536) n3) where
  first : cell n3 c i ≡ p % 256
  first =
      p3.others c i (omega arith) l (λ q. omega (arith, q.0)) ∙ p2.others c i (omega arith) l (λ q. omega (arith, q.0)) ∙ p1.here

  second : cell n3 (c + 1) i ≡ p / 256 % 256
  second = p3.others (c + 1) i (omega arith) l (λ q. omega (arith, q.0)) ∙ p2.here

  pub position_put : PositionPut net c i p n3
  position_put = record {
    long = p3.long ∙ p2.long ∙ p1.long;
    here = omega (arith, first, second, p3.here);
    others = λ c' i' b' l' n.
        p3.others c' i' b' l' (λ q. n (omega (arith, q.0), omega (arith, q.0), q.1))
        ∙ p2.others c' i' b' l' (λ q. n (omega (arith, q.0), omega (arith, q.0), q.1))
        ∙ p1.others c' i' b' l' (λ q. n (omega (arith, q.0), omega (arith, q.0), q.1));
  }

-- AN EMPTY AREA

pub emptied : (net cleared : List ℕ) → 1536 ≤ length net → cleared ≡ replicate 1536 0 → Empty net (cleared ++ drop 1536 net)
emptied net cleared l e =
    let z : length cleared ≡ 1536 = ap length e ∙ length-replicate {A = ℕ} 1536 0 in
    record {
      long = simp (length-append, length-drop) (omega arith);
      zero = λ c i b m.
          get_or-append cleared (drop 1536 net) 0 (256 * c + i) (omega arith)
          ∙ ap (λ (xs : List ℕ). get_or xs (256 * c + i) 0) e
          ∙ get_or-replicate 1536 (256 * c + i) 0 0 (omega arith);
    }
