-- The readers of the parts, one after another, are `read_saved`; and a run that they all read. Assumes nothing.
use mathlib.Core.List.{List}
use mathlib.Core.Path.{◌≡◌, refl, ◌∙◌}
use Prim.Native.Nat.{ℕ, suc}
use Rattle.paper.specs.Result.{Result, refused, accepted, return, then, ◌>>=◌, repeat}
use Rattle.paper.specs.Bits.{field}
use Rattle.flat.specs.Form.{read_mark, read_unit, read_saved}
use Rattle.point_reader.specs.Readers.{read_counts, read_head, read_term, read_order, read_parts}

module _ {A C D : Type 0} where
  -- two readers that go on alike, the second after a longer one
  deeper : (x : Result A) (f : A → Result C) (g : C → Result D) (h : A → Result D) → ((a : A) → then (f a) g ≡ h a) → then (then x f) g ≡ then x h
  unfolding then
  deeper (refused n) f g h e = refl
  deeper (accepted a) f g h e = e a

module _ {A D : Type 0} where
  along : (x : Result A) (f g : A → Result D) → ((a : A) → f a ≡ g a) → then x f ≡ then x g
  unfolding then
  along (refused n) f g e = refl
  along (accepted a) f g e = e a

pub parts_saved : (arity : ℕ → ℕ) (xs : List ℕ) → read_parts arity xs ≡ read_saved arity xs
unfolding read_parts read_saved read_head read_counts read_term read_order ◌>>=◌ return
parts_saved arity xs =
    deeper (field 3 xs) _ _ _ (λ n. deeper (field 32 n.left) _ _ _ (λ b.
    deeper (read_counts b.left) _ _ _ (λ c. refl) ∙ deeper (field 64 b.left) _ _ _ (λ r.
    deeper (field 64 r.left) _ _ _ (λ e. deeper (field 64 e.left) _ _ _ (λ g. deeper (field 64 g.left) _ _ _ (λ k.
    deeper (field 10 k.left) _ _ _ (λ m. deeper (repeat (suc m.value) (field 8) m.left) _ _ _ (λ s.
    deeper (repeat (suc m.value) read_mark s.left) _ _ _ (λ t. along (repeat (suc n.value) read_unit t.left) _ _ (λ us.
    deeper (field 10 us.left) _ _ _ (λ j. refl)))))))))))
