-- The codes that are laid out are those of the steps. Assumes nothing.
use mathlib.Core.Bool.{Bool, true, false}
use mathlib.Core.List.{List, [], ◌∷◌, ◌++◌, map, append_assoc}
use mathlib.Core.Path.{◌≡◌, refl, sym, ap, ap₂, ◌∙◌}
use Prim.Native.Nat.{ℕ, suc, ◌+◌, ◌-◌, pred, ◌≤◌, ◌<◌}
use native.Mathlib.Omega.{arith}
use native.Mathlib.Numerals.{add-one}
use borrow.Author.Tests.{ne_eqb, lt-ltb}
use lib.Dec.{eqb, ltb, eqb-suc-zero}
use borrow.Rule.Slice.PartMut.{mid_of, put_mid}
use lib.ListN.{length, get_or, take, drop, set, replicate, length-append, length-drop, length-map, take-append-drop}
use Rattle.std.proofs.lemmas.List.{length-replicate}
use lib.Seq.{sets, sets-eq, drop-drop, drop-cons, get_or-drop, length-take-le}
use Rattle.std.specs.Prelude.{Some, None}
use Rattle.paper.specs.Result.{if}
use Rattle.paper.specs.Strategy.{Item, Step, group_steps, layout}
use Rattle.paper.specs.Writer.{numbers}
use Rattle.paper.specs.Sound.{All}
use Rattle.paper.specs.WellFormed.{ItemsWithin}
use Rattle.tables.specs.Layout.{code}
use Rattle.strategy.specs.declared.Placed.{Placed}
use Rattle.strategy.specs.Codes.{placed, placing, listed, codes}

-- a run of stores after another
pub sets_append : (l : List ℕ) (i : ℕ) (us vs : List ℕ) → sets l i (us ++ vs) ≡ sets (sets l i us) (i + length us) vs
sets_append l i [] vs = let e : i ≡ i + 0 = omega arith in ap (λ (k : ℕ). sets l k vs) e
sets_append l i (u ∷ us) vs =
    let e : suc i + length us ≡ i + suc (length us) = omega arith in
    sets_append (set l i u) (suc i) us vs ∙ ap (λ (k : ℕ). sets (sets (set l i u) (suc i) us) k vs) e

-- a part that is filled with 0s
pub filled : (l : List ℕ) (a e : ℕ) {ys : List ℕ} → ys ≡ replicate (length (mid_of a (e - a) l)) 0 → a ≤ e → e ≤ length l →
    put_mid a (e - a) l ys ≡ sets l a (replicate (e - a) 0)
filled l a e h p q =
    let n : length (take (e - a) (drop a l)) ≡ e - a = length-take-le (e - a) (drop a l) (omega (arith, length-drop a l)) in
    let zs : List ℕ = replicate (e - a) 0 in
    let z : length zs ≡ e - a = length-replicate (e - a) 0 in
    ap₂ (λ (ys r : List ℕ). take a l ++ (ys ++ r)) (h ∙ ap (λ (k : ℕ). replicate {A = ℕ} k 0) n) (drop-drop (e - a) a l ∙ ap (λ (k : ℕ). drop (a + k) l) (sym z))
    ∙ sym (append_assoc (take a l) zs (drop (a + length zs) l))
    ∙ sym (sets-eq zs l a (omega (arith, z)))

-- One number

if_forks : (b : Bool) (p q : Placed) (n : ℕ) → p.forks ≤ n → q.forks ≤ n → (if b p q).forks ≤ n
if_forks true p q n h k = h
if_forks false p q n h k = k

placing_forks : (v next : ℕ) (g : Bool) (f : ℕ) → (placing v next g f).forks ≤ f + 1
unfolding placing
placing_forks v next g f =
    if_forks (eqb v 0) (placed _ g f) _ (f + 1) (omega arith)
    (if_forks (ltb v 8) _ _ (f + 1)
    (if_forks (if g (eqb next 9) true) (placed _ g f) (placed _ g (f + 1)) (f + 1) (omega arith) (omega arith))
    (if_forks (eqb v 8) (placed None true 0) (placed _ false 0) (f + 1) (omega arith) (omega arith)))

pub placed_forks : (p : Placed) (v next : ℕ) (g : Bool) (f : ℕ) → p ≡ placing v next g f → p.forks ≤ f + 1
placed_forks p v next g f e = rw e (placing_forks v next g f)

-- From numbers to codes

codes_step : (g : Bool) (f n v : ℕ) (vs : List ℕ) (s : Step) (g' : Bool) (f' : ℕ) → placing v (get_or vs 0 0) g f ≡ placed (Some (code s)) g' f' →
    codes g f (suc n) (v ∷ vs) ≡ code s ∷ codes g' f' n vs
unfolding codes
codes_step g f n v vs s g' f' e =
    ap (λ (p : Placed). listed p.code ++ codes p.grouped p.forks n vs) e

codes_whole : (n : ℕ) (vs : List ℕ) → codes false 0 (suc n) (0 ∷ vs) ≡ code Step.whole ∷ codes false 0 n vs
unfolding placing
codes_whole n vs = codes_step false 0 n 0 vs Step.whole false 0 refl

codes_open : (n : ℕ) (vs : List ℕ) → codes false 0 (suc n) (8 ∷ vs) ≡ codes true 0 n vs
unfolding codes
codes_open n vs = refl

codes_close : (c n : ℕ) (vs : List ℕ) → codes true c (suc n) (9 ∷ vs) ≡ code (Step.join c) ∷ codes false 0 n vs
unfolding placing
codes_close c n vs = codes_step true c n 9 vs (Step.join c) false 0 refl

codes_visit : (g : Bool) (c n i : ℕ) (vs : List ℕ) → i < 7 → if g (eqb (get_or vs 0 0) 9) true ≡ true →
    codes g c (suc n) (suc i ∷ vs) ≡ code (Step.visit i) ∷ codes g c n vs
unfolding placing
codes_visit g c n i vs h e =
    let s : suc i - 1 ≡ i = omega arith in
    codes_step g c n (suc i) vs (Step.visit i) g c (simp (eqb-suc-zero i, lt-ltb (suc i) 8 (omega arith), e, s))

codes_fork : (c n i j : ℕ) (vs : List ℕ) → i < 7 → j < 7 →
    codes true c (suc n) (suc i ∷ suc j ∷ vs) ≡ code (Step.fork i) ∷ codes true (suc c) n (suc j ∷ vs)
unfolding placing
codes_fork c n i j vs h k =
    let s : suc i - 1 ≡ i = omega arith in
    let t : c + 1 ≡ suc c = omega arith in
    codes_step true c n (suc i) (suc j ∷ vs) (Step.fork i) true (suc c)
    (simp (eqb-suc-zero i, lt-ltb (suc i) 8 (omega arith), ne_eqb (suc j) 9 (λ e. omega arith), s, t))

codes_group : (c : ℕ) (js : List ℕ) (m n k : ℕ) (vs : List ℕ) (ss : List Step) → m ≡ length js + suc n → k ≡ c + pred (length js) →
    All (λ j. j < 7) js → codes false 0 n vs ≡ map code ss → codes true c m (map suc js ++ (9 ∷ vs)) ≡ map code (group_steps js (Step.join k ∷ ss))
unfolding group_steps
codes_group c [] m n k vs ss z y w e =
    let p : m ≡ suc n = omega arith in
    let q : c ≡ k = omega arith in
    ap (λ (i : ℕ). codes true c i (9 ∷ vs)) p ∙ codes_close c n vs ∙ ap₂ (λ (x : ℕ) (l : List ℕ). code (Step.join x) ∷ l) q e
codes_group c (i ∷ []) m n k vs ss z y w e =
    let p : m ≡ suc (suc n) = omega arith in
    ap (λ (j : ℕ). codes true c j (suc i ∷ 9 ∷ vs)) p ∙ codes_visit true c (suc n) i (9 ∷ vs) w.0 refl
    ∙ ap (λ (l : List ℕ). code (Step.visit i) ∷ l) (codes_group c [] (suc n) n k vs ss (omega arith) y tt e)
codes_group c (i ∷ j ∷ js) m n k vs ss z y w e =
    let m' : ℕ = length (j ∷ js) + suc n in
    let p : m ≡ suc m' = omega arith in
    ap (λ (x : ℕ). codes true c x (map suc (i ∷ j ∷ js) ++ (9 ∷ vs))) p ∙ codes_fork c m' i j (map suc js ++ (9 ∷ vs)) w.0 w.1.0
    ∙ ap (λ (l : List ℕ). code (Step.fork i) ∷ l) (codes_group (suc c) (j ∷ js) m' n k vs ss refl (omega arith) w.1 e)

codes_layout : (is : List Item) (ws : List ℕ) → ItemsWithin 7 is → codes false 0 (length (numbers is)) (numbers is ++ ws) ≡ map code (layout is)
unfolding layout numbers codes
codes_layout [] ws w = refl
codes_layout (Item.whole ∷ is) ws w = codes_whole (length (numbers is)) (numbers is ++ ws) ∙ ap (λ (l : List ℕ). code Step.whole ∷ l) (codes_layout is ws w)
codes_layout (Item.argument i ∷ is) ws w =
    codes_visit false 0 (length (numbers is)) i (numbers is ++ ws) w.0 refl ∙ ap (λ (l : List ℕ). code (Step.visit i) ∷ l) (codes_layout is ws w.1)
codes_layout (Item.group js ∷ is) ws w =
    let m : ℕ = length (map suc js ++ (9 ∷ numbers is)) in
    let e : m ≡ length js + suc (length (numbers is)) = omega (arith, length-append (map suc js) (9 ∷ numbers is), length-map js suc) in
    codes_open m ((map suc js ++ (9 ∷ numbers is)) ++ ws)
    ∙ ap (codes true 0 m) (append_assoc (map suc js) (9 ∷ numbers is) ws)
    ∙ codes_group 0 js m (length (numbers is)) (pred (length js)) (numbers is ++ ws) (layout is) e (omega arith) w.0 (codes_layout is ws w.1)

-- the codes of numbers at the front of an array
pub codes_items : (its : List ℕ) (len : ℕ) (is : List Item) → len ≤ length its → ItemsWithin 7 is → take len its ≡ numbers is →
    codes false 0 len its ≡ map code (layout is)
codes_items its len is l w e =
    let n : len ≡ length (numbers is) = sym (length-take-le len its l) ∙ ap length e in
    ap₂ (λ (m : ℕ) (us : List ℕ). codes false 0 m us) n (sym (take-append-drop len its) ∙ ap (λ (us : List ℕ). us ++ drop len its) e)
    ∙ codes_layout is (drop len its) w

-- the turns of the loop
module _ (its : List ℕ) (g : Bool) (f n i : ℕ) where
  codes_more : (m v next : ℕ) (p : Placed) → n ≡ suc m → i < length its → v ≡ get_or its i 0 → next ≡ get_or its (i + 1) 0 → p ≡ placing v next g f →
      codes g f n (drop i its) ≡ listed p.code ++ codes p.grouped p.forks m (drop (i + 1) its)
  unfolding codes
  codes_more m v next p z h e q s =
      let k : i + 1 + 0 ≡ i + 1 = omega arith in
      let x : get_or (drop (i + 1) its) 0 0 ≡ next = get_or-drop (i + 1) its 0 0 ∙ ap (λ (j : ℕ). get_or its j 0) k ∙ sym q in
      let r : placing (get_or its i 0) (get_or (drop (i + 1) its) 0 0) g f ≡ p = ap₂ (λ (a b : ℕ). placing a b g f) (sym e) x ∙ sym s in
      ap₂ (codes g f) z (drop-cons its i 0 h ∙ ap (λ (j : ℕ). get_or its i 0 ∷ drop j its) (sym (add-one i)))
      ∙ ap (λ (y : Placed). listed y.code ++ codes y.grouped y.forks m (drop (i + 1) its)) r

  codes_end : n ≡ 0 → codes g f n (drop i its) ≡ []
  unfolding codes
  codes_end z = rw z

-- the codes from the number i on, n of them in the group, are to be stored from `at` on for l to become the list l₀ with all codes from base on
pub record CodesLeft (all l₀ : List ℕ) (base : ℕ) (its : List ℕ) (n i : ℕ) (g : Bool) (f : ℕ) (l : List ℕ) (at : ℕ) : Type 0 where
  pub is : sets l₀ base all ≡ sets l at (codes g f n (drop i its))
  pub ends : base + length all ≡ at + length (codes g f n (drop i its))

module _ {all l₀ : List ℕ} {base : ℕ} {its : List ℕ} {n i : ℕ} {g : Bool} {f : ℕ} {l : List ℕ} {at : ℕ} (r : CodesLeft all l₀ base its n i g f l at) where
  pub left_more : (m v next : ℕ) (p : Placed) (l' : List ℕ) (at' : ℕ) → n ≡ suc m → i < length its → v ≡ get_or its i 0 → next ≡ get_or its (i + 1) 0 →
      p ≡ placing v next g f → l' ≡ sets l at (listed p.code) → at' ≡ at + length (listed p.code) →
      CodesLeft all l₀ base its m (i + 1) p.grouped p.forks l' at'
  left_more m v next p l' at' z h e q w s t =
      let c = codes_more its g f n i m v next p z h e q w in
      let ks : List ℕ = codes p.grouped p.forks m (drop (i + 1) its) in
      record {
        is = r.is ∙ ap (sets l at) c ∙ sets_append l at (listed p.code) ks ∙ ap₂ (λ (k : List ℕ) (j : ℕ). sets k j ks) (sym s) (sym t);
        ends = omega (arith, r.ends, ap length c, length-append (listed p.code) ks);
      }

  pub left_end : n ≡ 0 → (l ≡ sets l₀ base all) × (at ≡ base + length all)
  left_end z =
      let e = codes_end its g f n i z in
      (sym (r.is ∙ ap (sets l at) e), omega (arith, r.ends, ap length e))

pub left_start : (l : List ℕ) (base : ℕ) (its : List ℕ) (len m : ℕ) → m ≡ len → CodesLeft (codes false 0 len its) l base its m 0 false 0 l base
left_start l base its len m e =
    record { is = ap (λ (k : ℕ). sets l base (codes false 0 k its)) (sym e); ends = ap (λ (k : ℕ). base + length (codes false 0 k its)) (sym e) }
