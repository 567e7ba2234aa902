-- Laws of the paper's reader: from bits below 2, a field, a symbol and a side are read off exactly their written form. Assumes nothing.
use Rattle.std.proofs.Common.{◌≡◌, ℕ, zero, suc, ◌+◌, ◌^◌, ◌<◌, List, ◌++◌, length, take, drop, sym, refl, ap, ◌∙◌, subst, inl, inr, append_assoc, arith, take-append-drop}
use Rattle.paper.specs.Result.{accepted, Read, Reader}
use Rattle.paper.specs.Bits.{to_bits, value, field}
use Rattle.paper.specs.Tree.{preorders, trees}
use Rattle.paper.specs.Book.{Operator, Symbol, Side, symbol_arity}
use Rattle.paper.specs.Reader.{read_symbol, read_symbols, read_side, left_root, left_symbol, right_symbol}
use Rattle.paper.specs.Writer.{concat, write_symbol, write_side}
use Rattle.paper.specs.Strategy.{has}
use Rattle.paper.proofs.Bits.{field_read, field_bounded, all_take}
use Rattle.paper.proofs.Bytes.{to_bits_value}
use Rattle.paper.proofs.Tests.{eqb_cases, ltb_cases, either}
use Rattle.paper.proofs.Trees.{preorders_trees}
use Rattle.paper.proofs.Rules.{Bits, Ensures, refusal, answer, ensured, ensures_at, then_ensures}

-- the answer is read off its written form
abbrev Off : {A : Type 0} → (A → List ℕ) → List ℕ → Read A → Type 0
Off write xs r = (xs ≡ write r.value ++ r.left) × Bits r.left

field_off : (n : ℕ) (xs : List ℕ) → Bits xs → Ensures (λ r. (r.value < 2 ^ n) × Off (to_bits n) xs r) (field n xs)
field_off n xs h = ensured _ (field n xs) λ r e.
    let (p, q) = field_read n xs r e in
    let (b, l) = field_bounded n xs r h e in
    let t : to_bits n (value (take n xs)) ≡ take n xs =
    ap (λ (k : ℕ). to_bits k (value (take n xs))) (sym p) ∙ to_bits_value (take n xs) (all_take n xs h) in
    let f : to_bits n (value (take n xs)) ++ drop n xs ≡ xs = ap (λ (ys : List ℕ). ys ++ drop n xs) t ∙ take-append-drop n xs in
    (b, (subst (λ (z : Read ℕ). xs ≡ to_bits n z.value ++ z.left) (sym q) (sym f), l))

-- one written form behind another
joined : (xs as' ys bs zs : List ℕ) → xs ≡ as' ++ ys → ys ≡ bs ++ zs → xs ≡ (as' ++ bs) ++ zs
joined xs as' ys bs zs p q = p ∙ ap (λ (l : List ℕ). as' ++ l) q ∙ sym (append_assoc as' bs zs)

symbol_off : (ops : List Operator) (xs : List ℕ) → Bits xs → Ensures (Off write_symbol xs) (read_symbol ops xs)
unfolding read_symbol write_symbol
symbol_off ops xs h = then_ensures _ (field_off 1 xs h) λ (k : Read ℕ) b. elim (eqb_cases k.value 0) [
  | inl p ↦ rw p.0 (then_ensures _ (field_off 8 k.left b.1.1) λ (o : Read ℕ) c. elim (ltb_cases o.value (length ops)) [
    | inl q ↦ rw q.0 (answer (joined xs (to_bits 1 0) k.left (to_bits 8 o.value) o.left (rw p.1 at b.1.0) c.1.0, c.1.1))
    | inr q ↦ rw q.0 refusal
  ])
  | inr p ↦
      let one : k.value ≡ 1 = (let l = b.0 in let d = p.1 in omega arith) in
      rw p.0 (then_ensures _ (field_off 4 k.left b.1.1) λ (v : Read ℕ) c.
      answer (joined xs (to_bits 1 1) k.left (to_bits 4 v.value) v.left (rw one at b.1.0) c.1.0, c.1.1))
]

-- a check reads nothing
abbrev ReadsNothing : (Symbol → Reader (List ℕ)) → Type 0
ReadsNothing check = (s : Symbol) (xs : List ℕ) → Ensures (λ r. r.left ≡ xs) (check s xs)

module _ (ops : List Operator) (meet : List ℕ → Symbol → Reader (List ℕ)) (met : (vs : List ℕ) → ReadsNothing (meet vs)) where
  symbols_off : (n due : ℕ) (vs xs : List ℕ) → Bits xs → Ensures (Off (concat write_symbol) xs) (read_symbols ops meet n due vs xs)
  unfolding read_symbols concat
  symbols_off zero zero vs xs h = answer (refl, h)
  symbols_off zero (suc due) vs xs h = refusal
  symbols_off (suc n) zero vs xs h = answer (refl, h)
  symbols_off (suc n) (suc due) vs xs h =
      then_ensures _ (symbol_off ops xs h) λ (s : Read Symbol) f.
      then_ensures _ (met vs s.value s.left) λ (ws : Read (List ℕ)) c.
      then_ensures _ (symbols_off n (symbol_arity ops s.value + due) ws.value ws.left (subst Bits (sym c) f.1))
      λ (ss : Read (List Symbol)) g.
      answer (joined xs (write_symbol s.value) s.left (concat write_symbol ss.value) ss.left f.0 (sym c ∙ g.0), g.1)

  side_off : (start : Symbol → Reader (List ℕ)) → ReadsNothing start → (xs : List ℕ) → Bits xs → Ensures (Off write_side xs) (read_side ops start meet xs)
  unfolding read_side write_side
  side_off start started xs h =
      then_ensures _ (symbol_off ops xs h) λ (s : Read Symbol) f.
      then_ensures _ (started s.value s.left) λ (vs : Read (List ℕ)) c.
      then_ensures _ (symbols_off 63 (symbol_arity ops s.value) vs.value vs.left (subst Bits (sym c) f.1))
      λ (ss : Read (List Symbol)) g.
      let e = preorders_trees (symbol_arity ops) ss.value in
      answer (
        joined xs (write_symbol s.value) s.left (concat write_symbol (preorders (trees (symbol_arity ops) ss.value))) ss.left f.0
            (sym c ∙ g.0 ∙ ap (λ (l : List Symbol). concat write_symbol l ++ ss.left) (sym e)),
        g.1,
      )

root_still : ReadsNothing left_root
unfolding left_root
root_still (Symbol.operator o) xs = answer refl
root_still (Symbol.variable v) xs = refusal

left_still : (vs : List ℕ) → ReadsNothing (left_symbol vs)
unfolding left_symbol
left_still vs s xs = answer refl

right_still : (vs : List ℕ) → ReadsNothing (right_symbol vs)
unfolding right_symbol
right_still vs (Symbol.operator o) xs = answer refl
right_still vs (Symbol.variable v) xs = elim (either (has v vs)) [ inl e ↦ rw e (answer refl) | inr e ↦ rw e refusal ]

module _ (ops : List Operator) (xs : List ℕ) (h : Bits xs) where
  left_off : Ensures (Off write_side xs) (read_side ops left_root left_symbol xs)
  left_off = side_off ops left_symbol left_still left_root root_still xs h

  right_off : (vs : List ℕ) → Ensures (Off write_side xs) (read_side ops (right_symbol vs) right_symbol xs)
  right_off vs = side_off ops right_symbol right_still (right_symbol vs) (right_still vs) xs h

  pub left_consumed : (r : Read Side) → read_side ops left_root left_symbol xs ≡ accepted r → Off write_side xs r
  left_consumed r e = ensures_at left_off e

  pub right_consumed : (vs : List ℕ) (r : Read Side) → read_side ops (right_symbol vs) right_symbol xs ≡ accepted r → Off write_side xs r
  right_consumed vs r e = ensures_at (right_off vs) e
