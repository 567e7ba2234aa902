-- What is put in a net: a rule in front of its bucket is found by its own way and changes no other, and the sides of a rule change no way.
-- Assumes nothing.
use mathlib.Core.List.{List}
use mathlib.Core.Bool.{Bool, true, false}
use mathlib.Core.Path.{◌≡◌, refl, sym, ap, ◌∙◌}
use Prim.Native.Nat.{ℕ, suc, ◌+◌, ◌≤◌, ◌<◌}
use native.Mathlib.Omega.{arith}
use native.Mathlib.Decide.{ℕ_discrete}
use native.Mathlib.Numerals.{add-one}
use lib.Dec.{eqb}
use borrow.Author.Tests.{eqb-true, eq-eqb}
use Rattle.paper.specs.Result.{if}
use Rattle.net.specs.Layout.{cell, last_in, choice_in, head_in, chain_in, host_in, depth_in, key_in, bucket, leaves, seek, way_in, Descends}
use Rattle.net.specs.Promises.{larger, Kept, CellPut, PositionPut, SidesPut, WayLinked, WayPut}
use Rattle.net.proofs.Ways.{pick, seek_step, way_is, bucket_below, enough, seek_same, way_same, kept_ways}

-- SIDES

module _ (net n1 n2 : List ℕ) (i left right : ℕ) (l : i < 256) (p1 : PositionPut net 9 i left n1) (p2 : PositionPut n1 12 i right n2) where
  nine : Kept 0 9 net n2
  nine c x a b m = p2.others c x (omega arith) m (λ q. omega (arith, q.0)) ∙ p1.others c x (omega arith) m (λ q. omega (arith, q.0))

  -- the left side's columns stay where the right side is put
  lefts : (c x : ℕ) → 9 ≤ c → c < 12 → x < 256 → cell n2 c x ≡ cell n1 c x
  lefts c x a b m = p2.others c x (omega arith) m (λ q. omega (arith, q.0))

  other : (c x : ℕ) → c < 15 → x < 256 → (x ≡ i → ⊥) → cell n2 c x ≡ cell net c x
  other c x b m n = p2.others c x b m (λ q. n q.2) ∙ p1.others c x b m (λ q. n q.2)

  pub sides_put : SidesPut net i left right n2
  sides_put = record {
    long = p2.long ∙ p1.long;
    left_is = rw (lefts 9 i (omega arith) (omega arith) l, lefts 10 i (omega arith) (omega arith) l, lefts 11 i (omega arith) (omega arith) l) p1.here;
    right_is = p2.here;
    lefts = λ x m n. rw (other 9 x (omega arith) m n, other 10 x (omega arith) m n, other 11 x (omega arith) m n) refl;
    rights = λ x m n. rw (other 12 x (omega arith) m n, other 13 x (omega arith) m n, other 14 x (omega arith) m n) refl;
    kept = nine;
    ways = λ m few down. kept_ways net n2 m few down (λ c x a b. nine c x (omega arith) b);
  }

-- WAYS

leaves_true : (net : List ℕ) (j i d k : ℕ) → host_in net j ≡ i → depth_in net j ≡ d → key_in net j ≡ k → leaves net j i d k ≡ true
unfolding leaves
leaves_true net j i d k e f g = rw (eq-eqb (host_in net j) i e, eq-eqb (depth_in net j) d f) (eq-eqb (key_in net j) k g)

leaves_false : (net : List ℕ) (j i d k : ℕ) → (i ≡ host_in net j → d ≡ depth_in net j → k ≡ key_in net j → ⊥) → leaves net j i d k ≡ false
unfolding leaves
leaves_false net j i d k n =
    go (eqb (host_in net j) i) (eqb (depth_in net j) d) (eqb (key_in net j) k)
    (λ e f g. n (sym (eqb-true (host_in net j) i e)) (sym (eqb-true (depth_in net j) d f)) (sym (eqb-true (key_in net j) k g)))
  where
    go : (a b c : Bool) → (a ≡ true → b ≡ true → c ≡ true → ⊥) → if a (if b c false) false ≡ false
    go true true true h = absurd (h refl refl refl)
    go true true false h = refl
    go true false c h = refl
    go false b c h = refl

-- the five cells that put rule j in front of its bucket b
module _ (net n1 n2 n3 n4 n5 : List ℕ) (i d k j b : ℕ) (few : j < 255) (is : b ≡ bucket i d k) (down : Descends net j)
    (p1 : CellPut net 5 j (head_in net b) n1)
    (p2 : CellPut n1 6 j i n2)
    (p3 : CellPut n2 7 j d n3)
    (p4 : CellPut n3 8 j k n4)
    (p5 : CellPut n4 4 b (j + 1) n5) where
  -- every other cell stays
  off : (c x : ℕ) → c < 15 → x < 256 → ((c ≡ 4) × (x ≡ b) → ⊥) → ((5 ≤ c) × (c < 9) × (x ≡ j) → ⊥) → cell n5 c x ≡ cell net c x
  off c x l m n o =
      p5.others c x l m n
      ∙ p4.others c x l m (λ q. o (omega (arith, q.0), omega (arith, q.0), q.1))
      ∙ p3.others c x l m (λ q. o (omega (arith, q.0), omega (arith, q.0), q.1))
      ∙ p2.others c x l m (λ q. o (omega (arith, q.0), omega (arith, q.0), q.1))
      ∙ p1.others c x l m (λ q. o (omega (arith, q.0), omega (arith, q.0), q.1))

  first : head_in n5 b ≡ suc j
  first = p5.here ∙ add-one j

  behind : chain_in n5 j ≡ head_in net b
  behind =
      p5.others 5 j (omega arith) (omega arith) (λ q. omega (arith, q.0))
      ∙ p4.others 5 j (omega arith) (omega arith) (λ q. omega (arith, q.0))
      ∙ p3.others 5 j (omega arith) (omega arith) (λ q. omega (arith, q.0))
      ∙ p2.others 5 j (omega arith) (omega arith) (λ q. omega (arith, q.0))
      ∙ p1.here

  host : host_in n5 j ≡ i
  host =
      p5.others 6 j (omega arith) (omega arith) (λ q. omega (arith, q.0))
      ∙ p4.others 6 j (omega arith) (omega arith) (λ q. omega (arith, q.0))
      ∙ p3.others 6 j (omega arith) (omega arith) (λ q. omega (arith, q.0))
      ∙ p2.here

  depth : depth_in n5 j ≡ d
  depth =
      p5.others 7 j (omega arith) (omega arith) (λ q. omega (arith, q.0))
      ∙ p4.others 7 j (omega arith) (omega arith) (λ q. omega (arith, q.0))
      ∙ p3.here

  key : key_in n5 j ≡ k
  key = p5.others 8 j (omega arith) (omega arith) (λ q. omega (arith, q.0)) ∙ p4.here

  head_below : head_in net b ≤ j
  head_below = down.heads b (omega (arith, is, bucket_below i d k))

  -- at its own way
  own : way_in n5 i d k ≡ suc j
  own =
      way_is n5 i d k
      ∙ ap (λ (c : ℕ). seek n5 256 c i d k) (ap (head_in n5) (sym is) ∙ first)
      ∙ seek_step n5 255 j i d k
      ∙ ap (λ (t : Bool). pick t (suc j) (seek n5 255 (chain_in n5 j) i d k)) (leaves_true n5 j i d k host depth key)

  -- the rules before j are as they were
  before : (c x : ℕ) → 5 ≤ c → c < 9 → suc x ≤ j → cell n5 c x ≡ cell net c x
  before c x l m r = off c x (omega arith) (omega arith) (λ q. omega (arith, q.0)) (λ q. omega (arith, q.2))

  lower : (x : ℕ) → suc x ≤ j → chain_in net x ≤ j
  lower x r = let e : chain_in net x ≤ x = down.chains x (omega arith) in omega arith

  another : (i' d' k' : ℕ) → ((i' ≡ i) × (d' ≡ d) × (k' ≡ k) → ⊥) → way_in n5 i' d' k' ≡ way_in net i' d' k'
  another i' d' k' n = go (ℕ_discrete (bucket i' d' k') b)
    where
      go : Dec (bucket i' d' k' ≡ b) → way_in n5 i' d' k' ≡ way_in net i' d' k'
      go (yes e) =
          way_is n5 i' d' k'
          ∙ ap (λ (c : ℕ). seek n5 256 c i' d' k') (ap (head_in n5) e ∙ first)
          ∙ seek_step n5 255 j i' d' k'
          ∙ ap (λ (t : Bool). pick t (suc j) (seek n5 255 (chain_in n5 j) i' d' k'))
          (leaves_false n5 j i' d' k' (λ e f g. n (e ∙ host, f ∙ depth, g ∙ key)))
          ∙ ap (λ (c : ℕ). seek n5 255 c i' d' k') behind
          ∙ seek_same net n5 (λ c. c ≤ j) before lower i' d' k' 255 (head_in net b) head_below
          ∙ enough net j (λ x l. down.chains x (omega arith)) i' d' k' 255 256 (head_in net b) head_below (omega (arith, head_below)) (omega (arith, head_below))
          ∙ ap (λ (c : ℕ). seek net 256 (head_in net c) i' d' k') (sym e)
          ∙ sym (way_is net i' d' k')
      go (no e) =
          way_same net n5 (λ c. c ≤ j) before lower i' d' k'
          (off 4 (bucket i' d' k') (omega arith) (bucket_below i' d' k') (λ q. e q.1) (λ q. omega (arith, q.0)))
          (down.heads (bucket i' d' k') (bucket_below i' d' k'))

  heads_below : (y : ℕ) → y < 256 → head_in n5 y ≤ suc j
  heads_below y m = go (ℕ_discrete y b)
    where
      go : Dec (y ≡ b) → head_in n5 y ≤ suc j
      go (yes e) = omega (arith, ap (head_in n5) e, first)
      go (no e) = omega (arith, off 4 y (omega arith) m (λ q. e q.1) (λ q. omega (arith, q.0)), down.heads y m)

  chains_below : (y : ℕ) → y < 256 → chain_in n5 y ≤ y
  chains_below y m = go (ℕ_discrete y j)
    where
      go : Dec (y ≡ j) → chain_in n5 y ≤ y
      go (yes e) = omega (arith, ap (chain_in n5) e, behind, head_below)
      go (no e) = omega (arith, off 5 y (omega arith) m (λ q. omega (arith, q.0)) (λ q. e q.2), down.chains y m)

  pub linked : WayLinked net i d k j n5
  linked = record {
    long = p5.long ∙ p4.long ∙ p3.long ∙ p2.long ∙ p1.long;
    here = own;
    others = another;
    kept = λ c x a l m. off c x (omega arith) m (λ q. omega (arith, q.0)) (λ q. omega (arith, q.0));
    sides = λ c x a l m. off c x l m (λ q. omega (arith, q.0)) (λ q. omega (arith, q.1));
    descends = record { heads = heads_below; chains = chains_below };
  }

-- DEPTHS

-- a cell of another column is put
module _ {n n' : List ℕ} {c x v : ℕ} (b : c < 4) (p : CellPut n c x v n') where
  still : (c' y : ℕ) → c' < 15 → (c' ≡ c → ⊥) → y < 256 → cell n' c' y ≡ cell n c' y
  still c' y l n m = p.others c' y l m (λ q. n q.0)

  still_behind : (net : List ℕ) → Kept 9 15 net n → Kept 9 15 net n'
  still_behind net h c' y a l m = still c' y l (λ (q : c' ≡ c). omega arith) m ∙ h c' y a l m

  still_down : (j : ℕ) → Descends n j → Descends n' j
  still_down j h = record {
    heads = λ y m. omega (arith, still 4 y (omega arith) (λ (q : 4 ≡ c). omega arith) m, h.heads y m);
    chains = λ y m. omega (arith, still 5 y (omega arith) (λ (q : 5 ≡ c). omega arith) m, h.chains y m);
  }

module _ (net n n' : List ℕ) (i d k j : ℕ) (l : i < 256) where
  -- the last depth is put, behind a link
  pub way_put : WayLinked net i d k j n → CellPut n 1 i (larger (cell n 1 i) (d + 1)) n' → WayPut net i d k j false n'
  way_put h p =
      let b : 1 < 4 = omega arith in
      let front : (c y : ℕ) → c < 4 → (c ≡ 1 → ⊥) → y < 256 → cell n' c y ≡ cell net c y =
      λ c y a e m. still b p c y (omega arith) e m ∙ h.kept c y (omega arith) a m in
      record {
        long = p.long ∙ h.long;
        here = p.ways b i d k ∙ h.here;
        others = λ i' d' k' m. p.ways b i' d' k' ∙ h.others i' d' k' m;
        last_here = p.here ∙ ap (λ (x : ℕ). larger x (d + 1)) (h.kept 1 i (omega arith) b l) ∙ ap (larger (last_in net i)) (add-one d);
        lasts = λ y m e. p.others 1 y (omega arith) m (λ q. e q.1) ∙ h.kept 1 y (omega arith) b m;
        choice_here = front 2 i (omega arith) (λ q. omega arith) l;
        choices = λ y m e. front 2 y (omega arith) (λ q. omega arith) m;
        roots = λ y m. front 0 y (omega arith) (λ q. omega arith) m;
        sames = λ y m. front 3 y (omega arith) (λ q. omega arith) m;
        sides = still_behind b p net h.sides;
        descends = still_down b p (suc j) h.descends;
      }

  -- and the depth of a choice, behind that
  pub way_choice : WayPut net i d k j false n → CellPut n 2 i (larger (cell n 2 i) (d + 1)) n' → WayPut net i d k j true n'
  way_choice h p =
      let b : 2 < 4 = omega arith in
      record {
        long = p.long ∙ h.long;
        here = p.ways b i d k ∙ h.here;
        others = λ i' d' k' m. p.ways b i' d' k' ∙ h.others i' d' k' m;
        last_here = still b p 1 i (omega arith) (λ q. omega arith) l ∙ h.last_here;
        lasts = λ y m e. still b p 1 y (omega arith) (λ q. omega arith) m ∙ h.lasts y m e;
        choice_here = p.here ∙ ap (λ (x : ℕ). larger x (d + 1)) h.choice_here ∙ ap (larger (choice_in net i)) (add-one d);
        choices = λ y m e. p.others 2 y (omega arith) m (λ q. e q.1) ∙ h.choices y m e;
        roots = λ y m. still b p 0 y (omega arith) (λ q. omega arith) m ∙ h.roots y m;
        sames = λ y m. still b p 3 y (omega arith) (λ q. omega arith) m ∙ h.sames y m;
        sides = still_behind b p net h.sides;
        descends = still_down b p (suc j) h.descends;
      }
