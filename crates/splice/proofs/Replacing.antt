-- Laws of a part that gives way to another: what stands behind moved, and the new part put in front of it.
-- Assumes nothing.
use mathlib.Core.List.{List, ◌++◌, map, map-append, append_assoc}
use mathlib.Core.Path.{◌≡◌, sym, ap, ap₂, ◌∙◌}
use Prim.Native.Nat.{ℕ, ◌+◌, ◌-◌, ◌≤◌}
use native.Mathlib.Omega.{arith}
use lib.ListN.{length, take, drop, length-drop, length-map}
use lib.Seq.{paste, length-paste, take-paste, drop-paste, take-take, take-add, take_all, drop_at, drop-drop, length-take-le, take-append-le}
use Rattle.flat.specs.Symbols.{splice}
use Rattle.flat.specs.Sizes.{grow, resize}
use Rattle.symbol.specs.Record.{operator, marked, size, sizes}
use Rattle.symbol.proofs.Record.{map_take, map_drop}
use Rattle.term.specs.Promises.{Pasted}
use Rattle.splice.specs.Promises.{Replaceable, GrownBefore, Replaced}
use Rattle.splice.proofs.Growing.{AllRegrown, before_are, behind_are, none_grown}

drop_take : (k r : ℕ) (l : List ℕ) → k + r ≤ length l → drop k (take (k + r) l) ≡ take r (drop k l)
drop_take k r l h = rw (take-add k r l) (drop_at (take k l) (take r (drop k l)) k (length-take-le k l (omega arith)))

-- a copy: what stands before it, what it brings, and what stands behind it
module _ (d : List ℕ) (at : ℕ) (s : List ℕ) (n : ℕ) (fits : at ≤ length d) (enough : n ≤ length s) where
  paste_before : (a : ℕ) → a ≤ at → take a (paste d at s n) ≡ take a d
  paste_before a h =
      let l : length (take at d) ≡ at = length-take-le at d fits in
      rw (append_assoc, take-append-le a (take at d) (take n s ++ drop (at + n) d) (omega arith)) (take-take a at d h)

  paste_new : take n (drop at (paste d at s n)) ≡ take n s
  paste_new =
      let l : length (take n s) ≡ n = length-take-le n s enough in
      rw (
        append_assoc,
        drop_at (take at d) (take n s ++ drop (at + n) d) at (length-take-le at d fits),
        take-append-le n (take n s) (drop (at + n) d) (omega arith),
      ) (take_all n (take n s) (omega arith))

  paste_behind : (k : ℕ) → at + n ≤ k → drop k (paste d at s n) ≡ drop k d
  paste_behind k h =
      let i : at + n + (k - (at + n)) ≡ k = omega arith in
      ap (λ (x : ℕ). drop x (paste d at s n)) (sym i)
      ∙ sym (drop-drop (k - (at + n)) (at + n) (paste d at s n))
      ∙ ap (drop (k - (at + n))) (drop-paste d at s n fits enough)
      ∙ drop-drop (k - (at + n)) (at + n) d
      ∙ ap (λ (x : ℕ). drop x d) i

-- all but the new part is done: the sizes before offset a are put right, and what stands behind is at its place
pub record Opened (s : List ℕ) (len a e n : ℕ) (s₂ : List ℕ) : Type 0 where
  pub before : AllRegrown a e n 0 (take a s) (take a s₂)
  pub rest : take (len - e) (drop (a + n) s₂) ≡ take (len - e) (drop e s)
  pub long : length s₂ ≡ 1024

-- what stands behind moves
pub opened : {s s₁ s₂ : List ℕ} {len a e n : ℕ} → Replaceable s len a e n → GrownBefore a e n s s₁ →
    s₂ ≡ paste s₁ (a + n) (drop e s₁) (len - e) → Opened s len a e n s₂
opened {s} {s₁} {s₂} {len} {a} {e} {n} q g moved =
    let l = g.long in
    let d : length (drop e s₁) ≡ length s₁ - e = length-drop e s₁ in
    let front = ap (take a) moved ∙ paste_before s₁ (a + n) (drop e s₁) (len - e) (omega arith) (omega arith) a (omega arith) in
    record {
      before = rw front (before_are g (omega arith));
      rest =
          ap (λ (x : List ℕ). take (len - e) (drop (a + n) x)) moved
          ∙ paste_new s₁ (a + n) (drop e s₁) (len - e) (omega arith) (omega arith)
          ∙ ap (take (len - e)) (behind_are g e (omega arith));
      long = ap length moved ∙ length-paste s₁ (a + n) (drop e s₁) (len - e) (omega arith) (omega arith) ∙ omega arith;
    }

-- nothing has to move where as many symbols come as go
pub open_already : {s : List ℕ} {len a e n : ℕ} → Replaceable s len a e n → a + n ≡ e → Opened s len a e n s
open_already {s} {len = len} {a} {e} {n} q h =
    record {
      before = before_are (none_grown a e n s h) (omega arith);
      rest = ap (λ (k : ℕ). take (len - e) (drop k s)) h;
      long = q.holding.long;
    }

-- the new part is put in front of what stands behind
module _ {s p s₂ s₃ : List ℕ} {len a e n : ℕ} (q : Replaceable s len a e n) (lp : length p ≡ 1024) (o : Opened s len a e n s₂)
    (put : Pasted s₂ a p (1024 - n) n s₃) where
  parts : take (a + n + (len - e)) s₃ ≡ take a s₂ ++ (drop (1024 - n) p ++ drop e (take len s))
  parts =
      let l = o.long in
      let d : length (drop (1024 - n) p) ≡ length p - (1024 - n) = length-drop (1024 - n) p in
      let i : e + (len - e) ≡ len = omega arith in
      take-add (a + n) (len - e) s₃
      ∙ ap₂ (λ (x y : List ℕ). x ++ take (len - e) y)
      (ap (take (a + n)) put.is ∙ take-paste s₂ a (drop (1024 - n) p) n (omega arith) (omega arith))
      (ap (drop (a + n)) put.is ∙ drop-paste s₂ a (drop (1024 - n) p) n (omega arith) (omega arith))
      ∙ append_assoc (take a s₂) (take n (drop (1024 - n) p)) (take (len - e) (drop (a + n) s₂))
      ∙ ap₂ (λ (x y : List ℕ). take a s₂ ++ (x ++ y)) (take_all n (drop (1024 - n) p) (omega arith))
      (o.rest ∙ sym (drop_take e (len - e) s (omega arith)) ∙ ap (λ (k : ℕ). drop e (take k s)) i)

  -- of each symbol one thing, its operator, its mark or its size
  mapped : {A : Type 0} (f : ℕ → A) → map f (take (a + n + (len - e)) s₃) ≡ map f (take a s₂) ++ (map f (drop (1024 - n) p) ++ drop e (map f (take len s)))
  mapped f = rw (parts, map-append, map-append, map_drop f e (take len s))

  first_of : {A : Type 0} (f : ℕ → A) → map f (take a s) ≡ take a (map f (take len s))
  first_of f = ap (map f) (sym (take-take a len s (omega arith))) ∙ map_take f a (take len s)

  -- what is as it was of each symbol before
  kept : {A : Type 0} (f : ℕ → A) → map f (take a s₂) ≡ map f (take a s) →
      map f (take (a + n + (len - e)) s₃) ≡ splice a e (map f (drop (1024 - n) p)) (map f (take len s))
  unfolding splice
  kept {A} f h = mapped f ∙ ap (λ (x : List A). x ++ (map f (drop (1024 - n) p) ++ drop e (map f (take len s)))) (h ∙ first_of f)

  pub replaced : Replaced s len a e p n s₃ p
  unfolding splice resize
  replaced =
      let k : n ≡ length (sizes (drop (1024 - n) p)) = simp (length-map, length-drop) (omega arith) in
      record {
        operators_are = kept operator o.before.operators_are;
        marks_are = kept marked o.before.marks_are;
        sizes_are =
            mapped size
            ∙ ap (λ (x : List ℕ). x ++ (sizes (drop (1024 - n) p) ++ drop e (sizes (take len s))))
            (o.before.sizes_are ∙ ap₂ (λ (x : ℕ) (y : List ℕ). grow a e x 0 y) k (first_of size));
        long = put.long;
        part_long = lp;
      }
