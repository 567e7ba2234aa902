-- A right side filled from its last symbol to its first. Assumes nothing.
use mathlib.Core.Bool.{Bool, true}
use mathlib.Core.List.{List, [], ◌∷◌, ◌++◌, map, map-append}
use mathlib.Core.Path.{◌≡◌, refl, sym, ap, ap₂, ◌∙◌}
use Prim.Native.Nat.{ℕ, suc, ◌-◌, ◌≤◌, ◌<◌}
use native.Mathlib.Omega.{arith}
use lib.ListN.{length, get_or, drop, length-append, length-drop, length-map, get_or-map, drop_of_length-le}
use lib.Seq.{length-take-le, drop-cons, get_or-take}
use Rattle.paper.specs.Tree.{preorder}
use Rattle.paper.specs.Book.{Symbol, Side}
use Rattle.paper.proofs.Books.{all_get_d}
use Rattle.flat.specs.Rules.{spells}
use Rattle.flat.specs.Symbols.{Binding, fill_over, fill}
use Rattle.flat.specs.Sizes.{sizes}
use Rattle.symbol.specs.Record as R
use Rattle.side.specs.Promises.{NumberFits}
use Rattle.tables.specs.Layout.{arity_in}
use Rattle.rule.specs.Packed.{SideAt, BoundTerm}
use Rattle.fill.specs.Sides.{code, symbol}
use Rattle.fill.specs.declared.Code.{Code}
use Rattle.fill.specs.Promises.{Fillable, Decoded, last_symbols, SizedEnd, Ready, Filled, SymbolFilled, SideFilled}
use Rattle.std.specs.Prelude.{Some, None}
use Rattle.fill.proofs.Sides.{symbol_code, fill_cons, fill_suffix, behind_spells}

-- any code
abbrev pub first : Code
first = Code.Operator 0

-- the symbols ss filled, and s in front of them
module _ {s : Symbol} {ss : List Symbol} {b : Binding} {xs : List ℕ} {ms : List Bool} {ys zs : List ℕ} where
  pub filled_cons : Filled (s ∷ []) b xs ms ys → Filled ss b xs ms zs → Filled (s ∷ ss) b xs ms (ys ++ zs)
  filled_cons f g =
      record { operators_are = go R.operator _ xs f.operators_are g.operators_are; marks_are = go R.marked _ ms f.marks_are g.marks_are }
    where
      go : {A : Type 0} (h new : ℕ → A) (us : List A) → map h ys ≡ fill_over new (s ∷ []) b us → map h zs ≡ fill_over new ss b us →
          map h (ys ++ zs) ≡ fill_over new (s ∷ ss) b us
      go {A} h new us e f = map-append h ys zs ∙ ap₂ (λ (u v : List A). u ++ v) e f ∙ sym (fill_cons new b us s ss)

-- the symbols of the side from the i-th on are filled
pub record Filling (bytes : List ℕ) (at : ℕ) (operators xs : List ℕ) (ms : List Bool) (b : Binding) (i k : ℕ) (scratch : List ℕ) : Type 0 where
  pub is : (side : Side) → SideAt bytes at operators side → (i ≤ length (preorder side)) × Filled (drop i (preorder side)) b xs ms (last_symbols k scratch)
  pub sized : SizedEnd (arity_in operators) k scratch

module _ {bytes operators : List ℕ} {at n : ℕ} {codes_read : List Code} (d : Decoded bytes at operators n codes_read) where
  as_many : (side : Side) → SideAt bytes at operators side → length (preorder side) ≡ n
  as_many side w =
      omega (arith, ap length (d.is side w), length-take-le n codes_read (omega (arith, d.most, d.long)), length-map (preorder side) code)

  pub filling_starts : {xs : List ℕ} {ms : List Bool} {b : Binding} {scratch : List ℕ} → length scratch ≡ 1024 → Filling bytes at operators xs ms b n 0 scratch
  unfolding fill_over sizes
  filling_starts {scratch = scratch} long =
      let l : length scratch ≤ 1024 = omega arith in
      let z : drop 1024 scratch ≡ [] = drop_of_length-le scratch l in
      record {
        is = λ side w.
            let e = as_many side w in
            let m : length (preorder side) ≤ n = omega arith in
            let y : drop n (preorder side) ≡ [] = drop_of_length-le (preorder side) m in
            (omega arith, rw (z, y) (record { operators_are = refl; marks_are = refl }));
        sized = record { true_sizes = rw z refl; most = omega arith; long = long };
      }

  module _ {xs : List ℕ} {ms : List Bool} {b : Binding} {i k : ℕ} {scratch : List ℕ} (f : Filling bytes at operators xs ms b i k scratch) {j : ℕ} (e : suc j ≡ i) where
    -- the symbol before them, as it is read
    here : (side : Side) → SideAt bytes at operators side → symbol (get_or codes_read j first) ≡ get_or (preorder side) j (Symbol.operator 0)
    here side w =
        let ss = preorder side in
        let l : j < n = omega (arith, as_many side w, (f.is side w).0) in
        ap symbol (sym (get_or-take n codes_read j first l) ∙ ap (λ (l : List Code). get_or l j first) (d.is side w) ∙ get_or-map code ss j (Symbol.operator 0))
        ∙ symbol_code (get_or ss j (Symbol.operator 0))

    -- it and those that are filled
    with_here : (side : Side) → SideAt bytes at operators side → drop j (preorder side) ≡ symbol (get_or codes_read j first) ∷ drop i (preorder side)
    with_here side w =
        let ss = preorder side in
        let l = (f.is side w).0 in
        drop-cons ss j (Symbol.operator 0) (omega arith) ∙ ap₂ (λ (s : Symbol) (m : ℕ). s ∷ drop m ss) (sym (here side w)) e

    pub filling_ready : Fillable bytes at operators xs b → spells (arity_in operators) 1 xs ≡ true → Ready operators xs b (symbol (get_or codes_read j first)) k scratch
    filling_ready g one =
        let w = g.stands in
        let ss = preorder g.side in
        let d₀ = Symbol.operator 0 in
        let (l, q) = f.is g.side w in
        let q' : R.operators (last_symbols k scratch) ≡ fill (drop (suc j) ss) b xs = q.operators_are ∙ ap (λ (m : ℕ). fill (drop m ss) b xs) (sym e) in
        let (m, h) = behind_spells b xs operators one ss 1 j d₀ w.complete g.bound (omega arith) in
        rw (here g.side w)
        (record {
          fits = all_get_d NumberFits ss j d₀ (omega arith) w.held;
          bound = all_get_d (BoundTerm (arity_in operators) xs b) ss j d₀ tt g.bound;
          sized = f.sized;
          others = m;
          behind = rw q' h;
        })

    pub filling_went : {limit k' : ℕ} {scratch' : List ℕ} → SymbolFilled operators xs ms b (symbol (get_or codes_read j first)) limit k scratch scratch' (Some k') →
        Filling bytes at operators xs ms b j k' scratch'
    filling_went h =
        let (zs, placed, filled, sized, l) = h.is in
        record {
          is = λ side w. let (m, q) = f.is side w in (omega arith, rw (with_here side w, placed) (filled_cons filled q));
          sized = sized;
        }

    -- what is filled of a part is at most the whole
    pub filling_stopped : {limit : ℕ} {scratch' : List ℕ} → SymbolFilled operators xs ms b (symbol (get_or codes_read j first)) limit k scratch scratch' None →
        SideFilled bytes at operators xs ms b limit scratch' None
    filling_stopped h =
        record {
          is = λ side w.
              let ss = preorder side in
              let s = symbol (get_or codes_read j first) in
              omega (
                arith,
                h.is,
                ap (λ (l : List Symbol). length (fill l b xs)) (with_here side w),
                ap length (fill_cons (λ o. o) b xs s (drop i ss)),
                length-append (fill (s ∷ []) b xs) (fill (drop i ss) b xs),
                ap length (f.is side w).1.operators_are,
                length-map (last_symbols k scratch) R.operator,
                length-drop (1024 - k) scratch,
                f.sized.most,
                f.sized.long,
                fill_suffix (λ o. o) b xs j ss,
              );
          long = h.long;
        }

pub filling_ended : {bytes operators xs : List ℕ} {ms : List Bool} {at i k limit : ℕ} {b : Binding} {scratch : List ℕ} → Filling bytes at operators xs ms b i k scratch →
    i ≡ 0 → k ≤ limit → SideFilled bytes at operators xs ms b limit scratch (Some k)
filling_ended f e l = record { is = (λ side w. rw e at (f.is side w).1, f.sized.true_sizes, l); long = f.sized.long }
