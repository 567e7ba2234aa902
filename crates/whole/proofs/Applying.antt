-- The replacement: symbols put for others, the top frame of a unit put anew, and all jobs' offsets moved. Assumes nothing.
use mathlib.Core.Bool.{Bool, true, false}
use mathlib.Core.List.{List, [], ◌∷◌, map}
use mathlib.Core.Path.{◌≡◌, refl, sym, ap, ap₂, ◌∙◌}
use Prim.Native.Nat.{ℕ, zero, suc, ◌+◌, ◌-◌, ◌≤◌, ◌<◌}
use native.Mathlib.Omega.{arith}
use lib.Dec.{leb}
use lib.ListN.{length, drop}
use borrow.Author.Tests.{leb-true}
use Rattle.paper.specs.Sound.{All}
use Rattle.flat.specs.Symbols.{shift}
use Rattle.flat.specs.Machine.{Frame, FlatUnit, flat_unit, unit, shift_frame, shift_unit}
use Rattle.term.specs.Present.{length_in}
use Rattle.splice.specs.Promises.{Replaced}
use Rattle.units.specs.Stacks.{Below, Offsets, Store, units_in}
use Rattle.units.specs.Promises.{StacksFit, topped, at, Changed, Shiftable, UnitsShifted}
use Rattle.units.proofs.Units.{length_units, shiftable}
use Rattle.whole.specs.State.{Arrays}
use Rattle.whole.specs.Promises.{UnitsDue, Rewritten}
use Rattle.whole.specs.declared.Place as Pl
use Rattle.whole.specs.declared.Filled as F

-- THE JOBS' OFFSETS

-- what g keeps of a unit holds of all of them when g is done to one
all_done : (Q : FlatUnit → Type 0) (g : FlatUnit → FlatUnit) → ((x : FlatUnit) → Q x → Q (g x)) → (us : List FlatUnit) (u : ℕ) → All Q us → All Q (at u g us)
all_done Q g f [] u q = tt
all_done Q g f (x ∷ us) zero (p, q) = (f x p, q)
all_done Q g f (x ∷ us) (suc u) (p, q) = (p, all_done Q g f us u q)

under : (len : ℕ) (fs : List Frame) → Offsets len fs → Offsets len (drop 1 fs)
under len [] q = tt
under len (f ∷ fs) (p, q) = q

pub room : {s s₁ : Store} {count len i e k : ℕ} {x : Pl.Place} → UnitsDue s count x len → Changed x.unit (topped (Frame.job i 0 0)) s s₁ → i < len →
    len ≤ 1024 → (a : ℕ) → a + k + (len - e) ≤ 1024 → Shiftable count a e k s₁
room {s} {count = count} {len = len} {i = i} {x = x} d t l m a r =
    shiftable len t.fit d.few m r
    (rw (t.units count)
    (all_done (λ (y : FlatUnit). Offsets len y.stack) (topped (Frame.job i 0 0)) (λ y q. (l, under len y.stack q)) (units_in s count) x.unit
    d.offsets))

-- as many symbols come as go: nothing moves
shift_none : (a e k x : ℕ) → a + k ≡ e → shift a e k x ≡ x
unfolding shift
shift_none a e k x q = go (leb e x) refl
  where
    go : (b : Bool) → leb e x ≡ b → elim b [ true ↦ a + k + (x - e) | false ↦ x ] ≡ x
    go true h = let l = leb-true e x h in omega arith
    go false h = refl

frame_none : (a e k : ℕ) → a + k ≡ e → (f : Frame) → shift_frame a e k f ≡ f
unfolding shift_frame
frame_none a e k q (Frame.job x i c) = ap (λ (y : ℕ). Frame.job y i c) (shift_none a e k x q)
frame_none a e k q (Frame.exit v i) = refl
frame_none a e k q Frame.sleep = refl
frame_none a e k q Frame.bingo = refl

map_none : {A : Type 0} (f : A → A) → ((x : A) → f x ≡ x) → (xs : List A) → map f xs ≡ xs
map_none f q [] = refl
map_none f q (x ∷ xs) = ap₂ (λ (y : _) (ys : List _). y ∷ ys) (q x) (map_none f q xs)

pub unmoved : {s : Store} {n a e k : ℕ} → a + k ≡ e → StacksFit s → UnitsShifted n a e k s s
unmoved {s} {n} {a} {e} {k} q f = record {
  fit = f;
  units = sym (map_none (shift_unit a e k) (λ x. ap (flat_unit x.rank) (map_none (shift_frame a e k) (frame_none a e k q) x.stack)) (units_in s n));
}

-- what stands before the symbols that go stays, and with one unit all jobs do: those below the place's, and it itself
shift_before : (a e k x : ℕ) → x < e → shift a e k x ≡ x
unfolding shift
shift_before a e k x q = go (leb e x) refl
  where
    go : (b : Bool) → leb e x ≡ b → elim b [ true ↦ a + k + (x - e) | false ↦ x ] ≡ x
    go true h = let l = leb-true e x h in absurd (omega arith)
    go false h = refl

frame_before : (a e k m : ℕ) → m ≤ e → (f : Frame) → Below m f → shift_frame a e k f ≡ f
unfolding shift_frame
frame_before a e k m q (Frame.job x i c) l = ap (λ (y : ℕ). Frame.job y i c) (shift_before a e k x (omega arith))
frame_before a e k m q (Frame.exit v i) l = refl
frame_before a e k m q Frame.sleep l = refl
frame_before a e k m q Frame.bingo l = refl

frames_before : (a e k m : ℕ) → m ≤ e → (fs : List Frame) → Offsets m fs → map (shift_frame a e k) fs ≡ fs
frames_before a e k m q [] o = refl
frames_before a e k m q (f ∷ fs) (b, o) = ap₂ (λ (g : Frame) (gs : List Frame). g ∷ gs) (frame_before a e k m q f b) (frames_before a e k m q fs o)

unit_before : (a e k i u : ℕ) (us : List FlatUnit) → length us ≡ 1 → u < length us → a < e → i < e → Offsets a (drop 1 (unit us u).stack) →
    map (shift_unit a e k) (at u (topped (Frame.job i 0 0)) us) ≡ at u (topped (Frame.job i 0 0)) us
unit_before a e k i u [] n l h j o = absurd (omega arith)
unit_before a e k i zero (y ∷ []) n l h j o =
    ap (λ (fs : List Frame). flat_unit y.rank fs ∷ [])
    (ap₂ (λ (g : Frame) (gs : List Frame). g ∷ gs) (frame_before a e k e (omega arith) (Frame.job i 0 0) j) (frames_before a e k a (omega arith) (drop 1 y.stack) o))
unit_before a e k i (suc u) (y ∷ []) n l h j o = absurd (omega arith)
unit_before a e k i u (y ∷ z ∷ us) n l h j o = absurd (omega arith)

pub alone_unmoved : {s s₁ : Store} {count len i : ℕ} {x : Pl.Place} → UnitsDue s count x len → Changed x.unit (topped (Frame.job i 0 0)) s s₁ → i ≡ x.offset →
    count ≤ 1 → (e k : ℕ) → x.offset < e → UnitsShifted count x.offset e k s₁ s₁
alone_unmoved {s} {count = count} {i = i} {x = x} d t q c e k h =
    let n = length_units s.work s.cells 0 count in
    record {
      fit = t.fit;
      units = t.units count
          ∙ sym (unit_before x.offset e k i x.unit (units_in s count) (omega (arith, n, d.one)) (omega (arith, n, d.one)) h (omega arith)
          (d.alone (omega (arith, d.one))))
          ∙ sym (ap (map (shift_unit x.offset e k)) (t.units count));
    }

-- THE REPLACEMENT

pub applied : {s : Arrays} {count i : ℕ} {scratch scratch' symbols' : List ℕ} {s₁ s₂ : Store} {x : Pl.Place} {f : F.Filled} →
    Replaced s.symbols (length_in s.symbols) x.offset f.end scratch f.size symbols' scratch' → i ≡ x.offset →
    Changed x.unit (topped (Frame.job i 0 0)) s.store s₁ → UnitsShifted count x.offset f.end f.size s₁ s₂ →
    Rewritten x (drop (1024 - f.size) scratch) f.size f.end count s (record { symbols = symbols'; store = s₂ })
applied {s} {count = count} {x = x} {f = f} p e t v = record {
  operators_are = p.operators_are;
  marks_are = p.marks_are;
  sizes_are = p.sizes_are;
  units = v.units ∙ ap (map (shift_unit x.offset f.end f.size))
      (t.units count ∙ ap (λ (j : ℕ). at x.unit (topped (Frame.job j 0 0)) (units_in s.store count)) e);
  long = p.long;
  fit = v.fit;
}
