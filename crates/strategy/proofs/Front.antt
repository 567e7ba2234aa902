-- A list at the front of an array: how the code that settles reads and changes it. Assumes nothing.
use mathlib.Core.Bool.{Bool, true}
use mathlib.Core.List.{List, [], ◌∷◌, ◌++◌}
use mathlib.Core.Logic.{inl, inr}
use mathlib.Core.Path.{◌≡◌, refl, sym, ap, ap₂, ◌∙◌}
use Prim.Native.Nat.{ℕ, suc, ◌+◌, ◌-◌, ◌≤◌, ◌<◌}
use native.Mathlib.Omega.{arith}
use native.Mathlib.Numerals.{add-one}
use borrow.Author.Tests.{eq-eqb, ne_eqb, lt-ltb, le-ltb}
use lib.Dec.{eqb}
use lib.ListN.{length, get_or, take, drop, set, length-set, drop_of_length-le}
use lib.Seq.{length-take-le, take-take, take-suc-set, get_or-take, drop-cons, get_or-drop, drop-drop, append_snoc}
use Rattle.std.specs.List.{list_any}
use Rattle.paper.specs.Result.{if}
use Rattle.paper.proofs.Tests.{eqb_cases}
use Rattle.paper.specs.Strategy.{has, upward, default}
use Rattle.paper.specs.Writer.{numbers}
use Rattle.strategy.specs.Settling.{ends_in_zero, closed, keeping, opening, settling, AtFront}
use Rattle.strategy.proofs.OnePass.{has_cons}

-- a number stands in a list if one of its numbers is equal
pub any_has : (v : ℕ) (xs : List ℕ) → list_any (λ x. eqb x v) xs ≡ has v xs
unfolding has
any_has v [] = refl
any_has v (x ∷ xs) = elim (eqb_cases v x) [
  | inl p ↦ rw (eq-eqb x v (sym p.1)) (sym (has_cons v x xs ∙ ap (λ (b : Bool). if b true (has v xs)) p.0))
  | inr p ↦ rw (ne_eqb x v (λ e. p.1 (sym e))) (any_has v xs ∙ sym (has_cons v x xs ∙ ap (λ (b : Bool). if b true (has v xs)) p.0))
]

module _ (kept : List ℕ) (len : ℕ) (h : length kept ≡ 32) where
  pub kept_push : (v : ℕ) → len < 32 → AtFront (take len kept ++ (v ∷ [])) (len + 1) (set kept len v)
  kept_push v l =
      record { is = rw (add-one len) (take-suc-set kept len v (omega arith)); long = length-set kept len v ∙ h }

  -- the list itself
  taken : len ≤ 32 → length (take len kept) ≡ len
  taken l = length-take-le len kept (omega arith)

  -- the ways to close a group
  module _ (g : ℕ) (l : len < 32) where
    pub close_none : len ≡ g + 1 → AtFront (closed (take len kept) g) g kept
    unfolding closed
    close_none e =
        record {
          is = simp (eq-eqb (length (take len kept)) (g + 1) (taken (omega arith) ∙ e)) (sym (take-take g len kept (omega arith)));
          long = h;
        }

    pub close_one : len ≡ g + 2 → (x : ℕ) → x ≡ get_or kept (g + 1) 0 → AtFront (closed (take len kept) g) (g + 1) (set kept g x)
    unfolding closed
    close_one e x q =
        let t = taken (omega arith) in
        record {
          is =
              simp (ne_eqb (length (take len kept)) (g + 1) (λ f. omega arith), eq-eqb (length (take len kept)) (g + 2) (t ∙ e))
              (rw (add-one g) (take-suc-set kept g x (omega arith))
              ∙ ap₂ (λ (us : List ℕ) (y : ℕ). us ++ (y ∷ [])) (sym (take-take g len kept (omega arith))) (q ∙ sym (get_or-take len kept (g + 1) 0 (omega arith))));
          long = length-set kept g x ∙ h;
        }

    pub close_more : (len ≡ g + 1 → ⊥) → (len ≡ g + 2 → ⊥) → (r : ℕ) (kept' : List ℕ) → AtFront (take len kept ++ (9 ∷ [])) r kept' →
        AtFront (closed (take len kept) g) r kept'
    unfolding closed
    close_more m n r kept' k =
        let t = taken (omega arith) in
        record {
          is = k.is ∙ simp (ne_eqb (length (take len kept)) (g + 1) (λ e. m (sym t ∙ e)), ne_eqb (length (take len kept)) (g + 2) (λ e. n (sym t ∙ e)));
          long = k.long;
        }

-- what is kept, by the number that follows
module _ (us : List ℕ) (g v : ℕ) where
  pub keeping_zero : (b : Bool) → v ≡ 0 → b ≡ ends_in_zero us → keeping us g v ≡ if b us (us ++ (0 ∷ []))
  unfolding keeping
  keeping_zero b z e = rw (z, e)

  pub keeping_argument : (b : Bool) → 0 < v → v < 8 → b ≡ has v us → keeping us g v ≡ if b us (us ++ (v ∷ []))
  unfolding keeping
  keeping_argument b n l e = simp (ne_eqb v 0 (λ z. omega arith), lt-ltb v 8 l, e)

  pub keeping_open : v ≡ 8 → keeping us g v ≡ us ++ (8 ∷ [])
  unfolding keeping
  keeping_open z = rw z

  pub keeping_close : 8 < v → keeping us g v ≡ closed us g
  unfolding keeping
  keeping_close h = simp (ne_eqb v 0 (λ z. omega arith), le-ltb v 8 (omega arith), ne_eqb v 8 (λ z. omega arith))

pub kept_as : (us vs : List ℕ) (len : ℕ) (kept : List ℕ) → us ≡ vs → AtFront vs len kept → AtFront us len kept
kept_as us vs len kept e k = record { is = k.is ∙ sym e; long = k.long }

pub kept_same : (us kept : List ℕ) (len : ℕ) → us ≡ take len kept → length kept ≡ 32 → AtFront us len kept
kept_same us kept len e h = record { is = sym e; long = h }

-- two lists that are the same from i on
pub same_at : (us vs : List ℕ) (i : ℕ) → drop i us ≡ drop i vs → get_or us i 0 ≡ get_or vs i 0
same_at us vs i e =
    let z : i + 0 ≡ i = omega arith in
    ap (λ (k : ℕ). get_or us k 0) (sym z) ∙ sym (get_or-drop i us 0 0) ∙ ap (λ (l : List ℕ). get_or l 0 0) e ∙ get_or-drop i vs 0 0 ∙ ap (λ (k : ℕ). get_or vs k 0) z

pub same_from : (us vs : List ℕ) (i j : ℕ) → i ≤ j → drop i us ≡ drop i vs → drop j us ≡ drop j vs
same_from us vs i j h e =
    let z : i + (j - i) ≡ j = omega arith in
    ap (λ (k : ℕ). drop k us) (sym z) ∙ sym (drop-drop (j - i) i us) ∙ ap (drop (j - i)) e ∙ drop-drop (j - i) i vs ∙ ap (λ (k : ℕ). drop k vs) z

-- the turns of the settling loop
module _ (raw : List ℕ) (count i : ℕ) (h : length raw ≡ 32) (l : count ≤ 31) where
  pub settling_more : (kept kept' : List ℕ) (len len' g g' v : ℕ) → i < count → v ≡ get_or raw i 0 → length kept ≡ 32 → len ≤ 32 → g' ≡ opening len g v →
      AtFront (keeping (take len kept) g' v) len' kept' →
      settling (take len kept) g (drop i (take count raw)) ≡ settling (take len' kept') g' (drop (i + 1) (take count raw))
  unfolding settling
  settling_more kept kept' len len' g g' v k e m n q s =
      let t : length (take len kept) ≡ len = length-take-le len kept (omega arith) in
      ap (settling (take len kept) g)
      (drop-cons (take count raw) i 0 (rw (length-take-le count raw (omega arith)) k)
      ∙ ap₂ (λ (x n : ℕ). x ∷ drop n (take count raw)) (get_or-take count raw i 0 k ∙ sym e) (sym (add-one i)))
      ∙ ap (λ (m : ℕ). settling (keeping (take len kept) (opening m g v) v) (opening m g v) (drop (i + 1) (take count raw))) t
      ∙ ap (λ (m : ℕ). settling (keeping (take len kept) m v) m (drop (i + 1) (take count raw))) (sym q)
      ∙ ap (λ (us : List ℕ). settling us g' (drop (i + 1) (take count raw))) (sym s.is)

  pub settling_end : (us : List ℕ) (g : ℕ) → count ≤ i → settling us g (drop i (take count raw)) ≡ us
  unfolding settling
  settling_end us g k =
      let t = length-take-le count raw (omega arith) in
      ap (settling us g) (drop_of_length-le (take count raw) {i = i} (omega arith))

-- the default list
module _ (kept : List ℕ) (i m : ℕ) (h : length kept ≡ 32) (l : i < 32) where
  pub default_more : (n x : ℕ) → m ≡ suc n → x ≡ i + 1 → take i kept ++ numbers (upward i m) ≡ take (i + 1) (set kept i x) ++ numbers (upward (i + 1) n)
  unfolding upward numbers
  default_more n x z e =
      rw z (sym (append_snoc (take i kept) (suc i) (numbers (upward (suc i) n)))
      ∙ ap (λ (y : ℕ). (take i kept ++ (y ∷ [])) ++ numbers (upward (suc i) n)) (sym (e ∙ add-one i))
      ∙ ap (λ (us : List ℕ). us ++ numbers (upward (suc i) n)) (sym (take-suc-set kept i x (omega arith)))
      ∙ ap (λ (j : ℕ). take j (set kept i x) ++ numbers (upward j n)) (sym (add-one i)))

  pub default_end : (us : List ℕ) (n : ℕ) → us ≡ take i kept ++ numbers (upward i m) → m ≡ 0 → n ≡ i → AtFront us (n + 1) (set kept n 0)
  unfolding upward numbers
  default_end us n e z q =
      record {
        is = rw (q, add-one i) (take-suc-set kept i 0 (omega arith)) ∙ sym (e ∙ ap (λ (k : ℕ). take i kept ++ numbers (upward i k)) z);
        long = length-set kept n 0 ∙ h;
      }

pub default_start : (a m : ℕ) → m ≡ a → numbers (default a) ≡ numbers (upward 0 m)
unfolding default
default_start a m e = ap (λ (n : ℕ). numbers (upward 0 n)) (sym e)
