-- Stacks and units: frames put from the top down, a unit in its region, unit after unit. Assumes nothing.
use mathlib.Core.Bool.{Bool, true, false}
use mathlib.Core.List.{List, [], ◌∷◌, ◌++◌}
use mathlib.Core.Logic.{inr}
use mathlib.Core.Path.{◌≡◌, refl, sym, ap, ap₂, ◌∙◌, subst}
use Prim.Native.Nat.{ℕ, zero, suc, ◌+◌, ◌*◌, ◌-◌, ◌/◌, ◌%◌, ◌≤◌, ◌<◌}
use native.Mathlib.Numerals.{add-one}
use native.Mathlib.Omega.{arith}
use native.Mathlib.Decide.{ℕ_discrete}
use borrow.Author.Tests.{ltb-true, ltb-false}
use lib.Dec.{ltb}
use lib.ListN.{length, get_or, set, length-set, get_or-eq_default}
use lib.Seq.{get_or-set_same, get_or-set_other}
use Rattle.std.specs.Prelude.{Option, Some, None}
use Rattle.paper.specs.Result.{refused, accepted, Read, Reader, return, ◌>>=◌, repeat}
use Rattle.paper.specs.Bits.{field}
use Rattle.paper.specs.Sound.{All}
use Rattle.paper.proofs.Readers.{return_accepted, bind_accepted, bind_return}
use Rattle.flat.specs.Machine.{Frame, FlatUnit, flat_unit}
use Rattle.flat.specs.Form.{read_frame, read_unit}
use Rattle.book.proofs.Readers.{repeat_next}
use Rattle.bits.proofs.Reading.{Got}
use Rattle.units.specs.Frames.{frame_at}
use Rattle.units.specs.Stacks.{height, base, stack_of, cell, height_in, unit_of, units_from, Store, store, units_in, unit_in}
use Rattle.units.specs.Promises.{SameOutside, FramePut, EightRegions, StacksFit}
use Rattle.units.proofs.Areas.{outside_none, outside_then}
use Rattle.units.proofs.Stacks.{outside_stack}
use Rattle.units.proofs.Units.{length_units, unit_at, units_are}
use Rattle.units.proofs.Changes.{cell_rank, cell_end, store_same, store_other, set_fit}
use Rattle.side.specs.Promises.{bits_at}
use Rattle.point_reader.specs.Loading.{Lacks, Low}
use Rattle.point_reader.specs.Promises.{Any, PartIs, FrameTaken, StackTaken, UnitTaken, EmptyBelow, UnitsTaken}
use Rattle.point_reader.proofs.Lacking.{refused_lacks, first_none, second_lacks, repeat_lacks, repeat_length, all_one}
use Rattle.point_reader.proofs.Term.{repeat_start}

-- STACKS

-- the lowest frame, and the stack above it
stack_lowest : (w : List ℕ) (from d : ℕ) → stack_of w from (suc d) ≡ stack_of w (from + 3) d ++ (frame_at w from ∷ [])
unfolding stack_of
stack_lowest w from zero = let z : from + 3 * 0 ≡ from = omega arith in ap (λ (k : ℕ). frame_at w k ∷ []) z
stack_lowest w from (suc d) =
    let z : from + 3 * suc d ≡ from + 3 + 3 * d = omega arith in
    ap₂ (λ (k : ℕ) (fs : List Frame). frame_at w k ∷ fs) z (stack_lowest w from d)

-- all but the lowest `left` frames of a stack of h are read
pub record Stacking (bytes : List ℕ) (at h from left q : ℕ) (w₀ w : List ℕ) : Type 0 where
  pub few : left ≤ h
  pub outside : SameOutside from (from + 3 * h) w₀ w
  pub read : repeat (h - left) read_frame (bits_at bytes at) ≡ return (stack_of w (from + 3 * left) (h - left)) (bits_at bytes q)

module _ {bytes : List ℕ} {at h from : ℕ} {w₀ : List ℕ} where
  pub stacking_start : Stacking bytes at h from h at w₀ w₀
  unfolding stack_of
  stacking_start =
      let z : h - h ≡ 0 = omega arith in
      record { few = omega arith; outside = outside_none; read = rw z (repeat_start read_frame (bits_at bytes at)) }

  module _ {left q : ℕ} {w : List ℕ} (s : Stacking bytes at h from left q w₀ w) where
    pub stacking_more : (f : Frame) (next low k : ℕ) (w' : List ℕ) → read_frame (bits_at bytes q) ≡ return f (bits_at bytes next) → left ≡ low + 1 → k ≡ from + 3 * low →
        FramePut k f w w' → Stacking bytes at h from low next w₀ w'
    stacking_more f next low k w' e z y p =
        let l = s.few in
        let d : h - low ≡ suc (h - left) = omega arith in
        let c : from + 3 * low + 3 ≡ from + 3 * left = omega arith in
        let fs : stack_of w (from + 3 * left) (h - left) ++ (f ∷ []) ≡ stack_of w' (from + 3 * low) (h - low) =
        sym (ap (stack_of w' (from + 3 * low)) d ∙ stack_lowest w' (from + 3 * low) (h - left)
        ∙ ap₂ (λ (us : List Frame) (g : Frame). us ++ (g ∷ []))
        (ap (λ (i : ℕ). stack_of w' i (h - left)) c ∙ outside_stack p.outside (from + 3 * left) (h - left) (inr (omega arith)))
        (ap (frame_at w') (sym y) ∙ p.frame)) in
        record {
          few = omega arith;
          outside = outside_then s.outside p.outside (omega arith) (omega arith) (omega arith) (omega arith);
          read = ap (λ (i : ℕ). repeat i read_frame (bits_at bytes at)) (d ∙ sym (add-one (h - left)))
              ∙ repeat_next read_frame (h - left) (bits_at bytes at) (bits_at bytes q) (stack_of w (from + 3 * left) (h - left)) s.read f (bits_at bytes next) e
              ∙ ap (λ (us : List Frame). return us (bits_at bytes next)) fs;
        }

    pub stacking_out : 0 < left → FrameTaken bytes q None → StackTaken bytes at h from w₀ w None
    stacking_out l f =
        let k = s.few in
        record {
          is = repeat_lacks read_frame Any Any (h - left) h (bits_at bytes at) (bits_at bytes q) (stack_of w (from + 3 * left) (h - left)) s.read
              (omega arith) f.is (λ us vs a z. tt);
          outside = s.outside;
        }

    pub stacking_all : left ≡ 0 → StackTaken bytes at h from w₀ w (Some q)
    stacking_all z =
        let d : h - left ≡ h = omega arith in
        let c : from + 3 * left ≡ from = omega arith in
        record { is = rw (d, c) at s.read; outside = s.outside }

-- A UNIT

abbrev with_frames : ℕ → ℕ → Reader FlatUnit
with_frames r h = repeat h read_frame >>= (λ fs. return (flat_unit r fs))

abbrev with_height : ℕ → Reader FlatUnit
with_height r = field 11 >>= with_frames r

unit_is : (xs : List ℕ) → read_unit xs ≡ (field 3 >>= with_height) xs
unfolding read_unit
unit_is xs = refl

unit_height : (r h : ℕ) (xs : List ℕ) (x : Read FlatUnit) → with_frames r h xs ≡ accepted x → length x.value.stack ≡ h
unit_height r h xs x e =
    let (fs, g, f) = bind_accepted (repeat h read_frame) (λ fs. return (flat_unit r fs)) xs x e in
    return_accepted (flat_unit r fs.value) fs.left x (λ z. length z.value.stack ≡ h) f (repeat_length read_frame h xs fs g)

-- the frames lack a stack that is low
frames_lack : {bytes : List ℕ} {at r p h q : ℕ} → Got bytes at 3 r p → Got bytes p 11 h q → Lacks Low (with_frames r h (bits_at bytes q)) →
    Lacks Low (read_unit (bits_at bytes at))
frames_lack {bytes} {at} {r} {p} {h} {q} e f l x y =
    second_lacks (field 3) with_height (bits_at bytes at) Low r (bits_at bytes p) e.is
    (second_lacks (field 11) (with_frames r) (bits_at bytes p) Low h (bits_at bytes q) f.is l) x (sym (unit_is (bits_at bytes at)) ∙ y)

module _ {bytes : List ℕ} {at u : ℕ} {s : Store} (fit : StacksFit s) where
  unit_lacks : Lacks Low ((field 3 >>= with_height) (bits_at bytes at)) → UnitTaken bytes at u s s None
  unit_lacks l = record { is = λ r e. l r (sym (unit_is (bits_at bytes at)) ∙ e); fit = fit; others = λ v n. refl }

  pub rank_out : field 3 (bits_at bytes at) ≡ refused 1 → UnitTaken bytes at u s s None
  rank_out e = unit_lacks (first_none (field 3) with_height (bits_at bytes at) Low (refused_lacks Any e))

  module _ {r p : ℕ} (e : Got bytes at 3 r p) where
    pub height_out : field 11 (bits_at bytes p) ≡ refused 1 → UnitTaken bytes at u s s None
    height_out f =
        unit_lacks (second_lacks (field 3) with_height (bits_at bytes at) Low r (bits_at bytes p) e.is
        (first_none (field 11) (with_frames r) (bits_at bytes p) Low (refused_lacks Any f)))

    module _ {h q : ℕ} (f : Got bytes p 11 h q) where
      pub too_high : height < h → UnitTaken bytes at u s s None
      too_high l = record {
        is = frames_lack e f (λ x y z. let k = unit_height r h (bits_at bytes q) x y in omega (arith, k, z, l));
        fit = fit;
        others = λ v n. refl;
      }

      pub unit_taken : {x : Option ℕ} {c' w' : List ℕ} (from end : ℕ) → u < 8 → h ≤ height → from ≡ base u → end ≡ from + 3 * h → c' ≡ set s.cells u (cell r end) →
          StackTaken bytes q h from s.work w' x → UnitTaken bytes at u s (store w' c') x
      unit_taken {x} {c'} {w'} from end l lh ef ee ec t = record {
        is = go x t;
        fit = set_fit s s' u (cell r end) r h ec et ey fit l t.outside.size lh;
        others = other;
      }
        where
          s' : Store
          s' = store w' c'

          small : end < 65536
          small = omega (arith, ee, ef, lh, l)

          et : cell r end / 65536 ≡ r
          et = cell_rank r end small

          ey : cell r end % 65536 ≡ base u + 3 * h
          ey = cell_end r end small ∙ omega (arith, ee, ef)

          other : (v : ℕ) → (v ≡ u → ⊥) → unit_in (store w' c') v ≡ unit_in s v
          other v n =
              store_other s (store w' c') u (cell r end) r h ec et ey from (from + 3 * h) t.outside (omega (arith, ef)) (omega (arith, ef, lh)) v n (fit.most v)

          here : unit_in (store w' c') u ≡ flat_unit r (stack_of w' from h)
          here =
              store_same s (store w' c') u (cell r end) r h ec et ey (let k = fit.regions.eight in omega (arith, k, l))
              ∙ ap (λ (i : ℕ). flat_unit r (stack_of w' i h)) (sym ef)

          go : (x : Option ℕ) → StackTaken bytes q h from s.work w' x → PartIs bytes (read_unit (bits_at bytes at)) Low (unit_in (store w' c') u) x
          go (Some next) t =
              unit_is (bits_at bytes at)
              ∙ bind_return (field 3) with_height (bits_at bytes at) (bits_at bytes p) r e.is
              ∙ bind_return (field 11) (with_frames r) (bits_at bytes p) (bits_at bytes q) h f.is
              ∙ bind_return (repeat h read_frame) (λ fs. return (flat_unit r fs)) (bits_at bytes q) (bits_at bytes next) (stack_of w' from h) t.is
              ∙ ap (λ (y : FlatUnit). return y (bits_at bytes next)) (sym here)
          go None t = frames_lack e f (first_none (repeat h read_frame) (λ fs. return (flat_unit r fs)) (bits_at bytes q) Low t.is)

-- NO FRAMES

pub empty_none : {c : List ℕ} → length c ≡ 8 → EmptyBelow 0 c
empty_none e = record { eight = e; ends = λ v l. absurd (omega arith) }

pub empty_more : {c c' : List ℕ} {u end : ℕ} → EmptyBelow u c → u < 8 → end ≡ base u → c' ≡ set c u (cell 0 end) → EmptyBelow (u + 1) c'
empty_more {c} {c'} {u} {end} h l e ec = record {
  eight = ap length ec ∙ length-set c u (cell 0 end) ∙ h.eight;
  ends = λ v k.
      elim (ℕ_discrete v u) [
        | yes d ↦
            let x : get_or c' v 0 ≡ cell 0 end =
            ap (λ (i : ℕ). get_or c' i 0) d ∙ ap (λ (c : List ℕ). get_or c u 0) ec ∙ get_or-set_same c u (cell 0 end) 0 (let n = h.eight in omega (arith, n, l)) in
            rw x (omega (arith, e, l, d))
        | no d ↦
            let x : get_or c' v 0 ≡ get_or c v 0 = ap (λ (c : List ℕ). get_or c v 0) ec ∙ get_or-set_other c u v (cell 0 end) 0 d in
            rw x (h.ends v (omega arith))
      ];
}

pub empty_fit : {w c c₀ : List ℕ} → EightRegions (store w c₀) → EmptyBelow 8 c → StacksFit (store w c)
empty_fit {w} {c} q h = record {
  regions = record { bytes = q.bytes; eight = h.eight };
  most = λ u. go u (ltb u 8) refl;
  placed = λ u l. omega (arith, h.ends u l);
}
  where
    go : (u : ℕ) (b : Bool) → ltb u 8 ≡ b → height_in c u ≤ height
    go u true e = let l = ltb-true u 8 e in omega (arith, h.ends u l)
    go u false e =
        let l = ltb-false u 8 e in
        let z : get_or c u 0 ≡ 0 = get_or-eq_default c 0 (let n = h.eight in omega (arith, n, l)) in
        rw z (omega arith)

-- UNIT AFTER UNIT

units_last : (w c : List ℕ) (u m : ℕ) → units_from w c u (suc m) ≡ units_from w c u m ++ (unit_of w c (u + m) ∷ [])
unfolding units_from
units_last w c u zero = let z : u ≡ u + 0 = omega arith in ap (λ (v : ℕ). unit_of w c v ∷ []) z
units_last w c u (suc m) =
    let z : suc u + m ≡ u + suc m = omega arith in
    ap (λ (us : List FlatUnit). unit_of w c u ∷ us)
    (units_last w c (suc u) m ∙ ap (λ (v : ℕ). units_from w c (suc u) m ++ (unit_of w c v ∷ [])) z)

-- the first u units are read
pub record Uniting (bytes : List ℕ) (at u q : ℕ) (s : Store) : Type 0 where
  pub fit : StacksFit s
  pub read : repeat u read_unit (bits_at bytes at) ≡ return (units_in s u) (bits_at bytes q)

module _ {bytes : List ℕ} {at : ℕ} where
  pub uniting_start : {s : Store} → StacksFit s → Uniting bytes at 0 at s
  unfolding units_from
  uniting_start fit = record { fit = fit; read = repeat_start read_unit (bits_at bytes at) }

  module _ {u q : ℕ} {s : Store} (h : Uniting bytes at u q s) where
    pub uniting_more : {next : ℕ} {s' : Store} → UnitTaken bytes q u s s' (Some next) → Uniting bytes at (u + 1) next s'
    uniting_more {next} {s'} t =
        let same : units_in s' u ≡ units_in s u =
        units_are s'.work s'.cells u (units_in s u) (length_units s.work s.cells 0 u)
        (λ v l. t.others v (λ e. omega arith) ∙ sym (unit_at s.work s.cells u v l)) in
        let z : 0 + u ≡ u = omega arith in
        let us : units_in s u ++ (unit_in s' u ∷ []) ≡ units_in s' (u + 1) =
        sym (ap (units_in s') (add-one u) ∙ units_last s'.work s'.cells 0 u
        ∙ ap₂ (λ (xs : List FlatUnit) (v : ℕ). xs ++ (unit_in s' v ∷ [])) same z) in
        record {
          fit = t.fit;
          read = repeat_next read_unit u (bits_at bytes at) (bits_at bytes q) (units_in s u) h.read (unit_in s' u) (bits_at bytes next) t.is
              ∙ ap (λ (xs : List FlatUnit). return xs (bits_at bytes next)) us;
        }

    pub uniting_none : {s' : Store} (n : ℕ) → u < n → UnitTaken bytes q u s s' None → UnitsTaken bytes at n s' None
    uniting_none n l t = record {
      are = repeat_lacks read_unit Low (All Low) u n (bits_at bytes at) (bits_at bytes q) (units_in s u) h.read l t.is (all_one Low);
      fit = t.fit;
    }

    pub uniting_all : (n : ℕ) → u ≡ n → UnitsTaken bytes at n s (Some q)
    uniting_all n z = record {
      are = subst (λ (i : ℕ). repeat i read_unit (bits_at bytes at) ≡ return (units_in s i) (bits_at bytes q)) z h.read;
      fit = h.fit;
    }
