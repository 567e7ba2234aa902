-- The fields of a saved run by their parts: symbols one by one, frames from the top, units, the order, and all of them one after another. Assumes nothing.
use mathlib.Core.Bool.{Bool, true, false}
use mir.Val.{bool_byte}
use mathlib.Core.List.{List, [], ◌∷◌, ◌++◌, map, append_assoc}
use mathlib.Core.Path.{◌≡◌, refl, sym, ap, ap₂, ◌∙◌, subst}
use Prim.Native.Nat.{ℕ, zero, suc, pred, ◌+◌, ◌-◌, ◌*◌, ◌≤◌, ◌<◌}
use native.Mathlib.Numerals.{add-one}
use native.Mathlib.Omega.{arith}
use lib.ListN.{length, get_or, take, drop, drop_of_length-le}
use lib.Seq.{drop-cons, length-take-le}
use Rattle.paper.specs.Bits.{to_bits}
use Rattle.paper.specs.Writer.{concat}
use Rattle.paper.specs.Sound.{All}
use Rattle.flat.specs.Machine.{Frame}
use Rattle.flat.specs.Form.{write_frame, write_mark, write_unit, write_saved}
use Rattle.symbol.specs.Record.{operator, operators, marks}
use Rattle.symbol.proofs.Record.{front_length}
use Rattle.term.specs.Present.{length_in}
use Rattle.units.specs.Frames.{frame_at}
use Rattle.units.specs.Stacks.{base, stack_of, rank_in, height_in, unit_of, units_from, units_of}
use Rattle.units.proofs.Stacks.{length_stack, top}
use Rattle.units.proofs.Units.{length_units}
use Rattle.placing.specs.Order.{pending_in, latest_first}
use Rattle.point.specs.declared.Numbers.{Numbers}
use Rattle.point.specs.Saved.{Arrays, saved}
use Rattle.point_writer.specs.Promises.{write_numbers, write_term, write_order, FrameFitsFields, UnitFitsFields, SomeTerm}

-- the first n symbols, one by one, by what is read of each and how it is written
module _ {A : Type 0} (read : ℕ → A) (write : A → List ℕ) (xs : List ℕ) (n : ℕ) (h : n ≤ length xs) where
  pub symbols_end : (i : ℕ) → n ≤ i → [] ≡ concat write (map read (drop i (take n xs)))
  unfolding concat
  symbols_end i k =
      let l = length-take-le n xs h in
      ap (λ (ys : List ℕ). concat write (map read ys)) (sym (drop_of_length-le (take n xs) {i = i} (omega arith)))

  pub symbols_more : (i : ℕ) {bits : List ℕ} → i < n → bits ≡ write (read (get_or (take n xs) i 0)) →
      bits ++ concat write (map read (drop (i + 1) (take n xs))) ≡ concat write (map read (drop i (take n xs)))
  unfolding concat
  symbols_more i k e =
      let l = length-take-le n xs h in
      ap (λ (ys : List ℕ). ys ++ concat write (map read (drop (i + 1) (take n xs)))) e
      ∙ sym (ap (λ (ys : List ℕ). concat write (map read ys))
      (drop-cons (take n xs) i 0 (omega arith) ∙ ap (λ (j : ℕ). get_or (take n xs) i 0 ∷ drop j (take n xs)) (sym (add-one i))))

-- a mark's bit
pub mark_bits : (b : Bool) → to_bits 1 (bool_byte b) ≡ write_mark b
unfolding write_mark
mark_bits true = refl
mark_bits false = refl

-- FRAMES

pub job_bits : (a k c k' c' : ℕ) → k' ≡ k → c' ≡ c → to_bits 2 0 ++ (to_bits 10 a ++ (to_bits 4 k' ++ to_bits 3 c')) ≡ write_frame (Frame.job a k c)
unfolding write_frame
job_bits a k c k' c' e f = ap₂ (λ (x y : ℕ). to_bits 2 0 ++ (to_bits 10 a ++ (to_bits 4 x ++ to_bits 3 y))) e f

pub exit_bits : (w i w' : ℕ) → w' ≡ w → to_bits 2 1 ++ (to_bits 3 w' ++ to_bits 11 i) ≡ write_frame (Frame.exit w i)
unfolding write_frame
exit_bits w i w' e = ap (λ (x : ℕ). to_bits 2 1 ++ (to_bits 3 x ++ to_bits 11 i)) e

pub sleep_bits : to_bits 2 2 ≡ write_frame Frame.sleep
unfolding write_frame
sleep_bits = refl

pub bingo_bits : to_bits 2 3 ≡ write_frame Frame.bingo
unfolding write_frame
bingo_bits = refl

module _ (w : List ℕ) (from : ℕ) where
  pub stack_end : (k : ℕ) → k ≡ 0 → [] ≡ concat write_frame (stack_of w from k)
  unfolding concat stack_of
  stack_end k e = ap (λ (i : ℕ). concat write_frame (stack_of w from i)) (sym e)

  module _ (k k' : ℕ) (e : k ≡ k' + 1) where
    is_top : stack_of w from k ≡ frame_at w (from + 3 * k') ∷ stack_of w from k'
    is_top = top w from k k' (from + 3 * k') e refl

    pub stack_fits : All FrameFitsFields (stack_of w from k) → FrameFitsFields (frame_at w (from + 3 * k')) × All FrameFitsFields (stack_of w from k')
    stack_fits h = subst (All FrameFitsFields) is_top h

    pub stack_more : {f : Frame} → f ≡ frame_at w (from + 3 * k') → write_frame f ++ concat write_frame (stack_of w from k') ≡ concat write_frame (stack_of w from k)
    unfolding concat
    stack_more f = ap (λ (g : Frame). write_frame g ++ concat write_frame (stack_of w from k')) f ∙ ap (concat write_frame) (sym is_top)

-- UNITS

pub unit_bits : (w c : List ℕ) (u : ℕ) {r h k from : ℕ} → r ≡ rank_in c u → h ≡ height_in c u → k ≡ height_in c u → from ≡ base u →
    to_bits 3 r ++ (to_bits 11 h ++ concat write_frame (stack_of w from k)) ≡ write_unit (unit_of w c u)
unfolding write_unit
unit_bits w c u e f g d = rw (e, f, g, d, length_stack w (base u) (height_in c u))

module _ (w c : List ℕ) where
  pub units_end : (u m : ℕ) → m ≡ 0 → [] ≡ concat write_unit (units_from w c u m)
  unfolding concat units_from
  units_end u m e = ap (λ (i : ℕ). concat write_unit (units_from w c u i)) (sym e)

  module _ (u m m' : ℕ) (e : m ≡ m' + 1) where
    is_first : units_from w c u m ≡ unit_of w c u ∷ units_from w c (u + 1) m'
    unfolding units_from
    is_first = ap (units_from w c u) (e ∙ add-one m') ∙ ap (λ (v : ℕ). unit_of w c u ∷ units_from w c v m') (sym (add-one u))

    pub units_fit : All UnitFitsFields (units_from w c u m) → UnitFitsFields (unit_of w c u) × All UnitFitsFields (units_from w c (u + 1) m')
    units_fit h = subst (All UnitFitsFields) is_first h

    pub units_more : write_unit (unit_of w c u) ++ concat write_unit (units_from w c (u + 1) m') ≡ concat write_unit (units_from w c u m)
    unfolding concat
    units_more = ap (concat write_unit) (sym is_first)

-- THE ORDER

module _ (order : List ℕ) where
  length_order : (n : ℕ) → length (latest_first order n) ≡ n
  unfolding latest_first
  length_order zero = refl
  length_order (suc n) = ap suc (length_order n)

  pub order_end : (k : ℕ) → k ≡ 0 → [] ≡ concat (to_bits 3) (latest_first order k)
  unfolding concat latest_first
  order_end k e = ap (λ (i : ℕ). concat (to_bits 3) (latest_first order i)) (sym e)

  module _ (k k' : ℕ) (e : k ≡ k' + 1) where
    is_latest : latest_first order k ≡ get_or order (k' + 1) 0 ∷ latest_first order k'
    unfolding latest_first
    is_latest = ap (latest_first order) (e ∙ add-one k') ∙ ap (λ (i : ℕ). get_or order i 0 ∷ latest_first order k') (sym (add-one k'))

    pub order_fits : All (λ v. v < 8) (latest_first order k) → (get_or order (k' + 1) 0 < 8) × All (λ v. v < 8) (latest_first order k')
    order_fits h = subst (All (λ v. v < 8)) is_latest h

    pub order_more : to_bits 3 (get_or order (k' + 1) 0) ++ concat (to_bits 3) (latest_first order k') ≡ concat (to_bits 3) (latest_first order k)
    unfolding concat
    order_more = ap (concat (to_bits 3)) (sym is_latest)

-- ALL OF THEM

pub numbers_bits : (x : Numbers) (n b r : ℕ) → n ≡ pred x.units → b ≡ x.budget → r ≡ x.rewrites →
    to_bits 3 n ++ (to_bits 32 b ++ (to_bits 64 r ++ (to_bits 64 x.entries ++ (to_bits 64 x.granted ++ to_bits 64 x.kept)))) ≡ write_numbers x
numbers_bits x n b r e f g = rw (e, f, g)

pub term_bits : (symbols : List ℕ) (n k : ℕ) → n ≡ length_in symbols → k ≡ n - 1 →
    to_bits 10 k ++ (concat (to_bits 8) (operators (take n symbols)) ++ concat write_mark (marks (take n symbols))) ≡ write_term symbols
term_bits symbols n k e f =
    let g : k ≡ pred (length_in symbols) = omega arith in
    rw (g, e)

pub order_bits : (order : List ℕ) (n : ℕ) → n ≡ pending_in order → to_bits 10 (pending_in order) ++ concat (to_bits 3) (latest_first order n) ≡ write_order order
order_bits order n e = ap (λ (k : ℕ). to_bits 10 (pending_in order) ++ concat (to_bits 3) (latest_first order k)) e

pub saved_bits : (x : Numbers) (a : Arrays) → SomeTerm a.symbols →
    write_numbers x ++ (write_term a.symbols ++ (concat write_unit (units_of a.store.work a.store.cells x.units) ++ write_order a.order)) ≡ write_saved (saved x a)
unfolding write_saved
saved_bits x a h =
    let e = length_units a.store.work a.store.cells 0 x.units in
    let f = front_length operator (length_in a.symbols) a.symbols (let l = h.long in let m = h.most in omega arith) in
    let g = length_order a.order (pending_in a.order) in
    rw (e, f, g) (simp append_assoc)
