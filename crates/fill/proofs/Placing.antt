-- One symbol filled in front of the last symbols of scratch: an operator, whose arguments stand there, or the term that a variable is bound to.
-- Assumes nothing.
use mathlib.Core.Bool.{Bool, true}
use mathlib.Core.List.{List, [], ◌∷◌, ◌++◌, map, map-append, append_assoc, append-nil}
use mathlib.Core.Path.{◌≡◌, refl, sym, ap, ◌∙◌}
use Prim.Native.Nat.{ℕ, zero, suc, ◌+◌, ◌-◌, ◌≤◌, ◌<◌}
use native.Mathlib.Nat.{add-zero, suc-add}
use native.Mathlib.Numerals.{one-add}
use native.Mathlib.Omega.{arith}
use lib.ListN.{length, get_or, take, drop, set, length-drop, length-map}
use lib.Seq.{length-take-le, take-take, drop-drop, drop_at, set_split, get_or-drop, paste}
use Rattle.paper.specs.Book.{Symbol}
use Rattle.flat.specs.Rules.{spells}
use Rattle.flat.specs.Symbols.{Binding, skip, fill_over, fill}
use Rattle.flat.specs.Sizes.{sizes, hop}
use Rattle.flat.proofs.Offsets.{skip_none}
use Rattle.flat.proofs.Sizes.{sizes_length, size_at, sizes_drop, skip_plus, skip_most, spells_some, spells_split, sizes_append, spells_part, part_inside, part_sizes}
use Rattle.symbol.specs.Record as R
use Rattle.symbol.proofs.Record.{map_take, map_drop}
use Rattle.tables.specs.Layout.{arity_in}
use Rattle.term.specs.Present.{length_in, present, operators_in, marks_in, Sized, Hops}
use Rattle.term.specs.Promises.{Pasted, PutSized}
use Rattle.term.proofs.Sized.{operators_length}
use Rattle.fill.specs.Promises.{last_symbols, Ready, Filled, SymbolFilled}
use Rattle.std.specs.Prelude.{Some, None}

-- LISTS

drop_set : (l : List ℕ) (i x : ℕ) → i < length l → drop i (set l i x) ≡ x ∷ drop (suc i) l
drop_set l i x h = ap (drop i) (set_split l i x h) ∙ drop_at (take i l) (x ∷ drop (suc i) l) i (length-take-le i l (omega arith))

part_take : {A : Type 0} (a n len : ℕ) (l : List A) → a + n ≤ len → take n (drop a (take len l)) ≡ take n (drop a l)
part_take zero n len l h = take-take n len l (omega arith)
part_take (suc a) n zero l h = absurd (omega arith)
part_take (suc a) n (suc len) [] h = refl
part_take (suc a) n (suc len) (x ∷ l) h = part_take a n len l (omega arith)

-- a part of the first len symbols: their operators, marks or sizes
part_of : {A : Type 0} (f : ℕ → A) (a n len : ℕ) (l : List ℕ) → a + n ≤ len → map f (take n (drop a l)) ≡ take n (drop a (map f (take len l)))
part_of {A} f a n len l h =
    map_take f n (drop a l)
    ∙ ap (take n) (map_drop f a l)
    ∙ sym (part_take a n len (map f l) h)
    ∙ ap (λ (r : List A). take n (drop a r)) (sym (map_take f len l))

-- SIZES BEHIND AN OPERATOR

module _ (ar : ℕ → ℕ) where
  -- where the sizes zs from offset p on are those of ys, the first n terms of ys can be passed by them
  hops : (n m p : ℕ) (ys zs : List ℕ) → spells ar (n + m) ys ≡ true → drop p zs ≡ sizes ar ys → Hops zs n p × (hop zs n p ≡ p + skip ar n ys)
  unfolding hop
  hops zero m p ys zs h e = (tt, omega (arith, skip_none ar ys))
  hops (suc n) m p ys zs h e =
      let k = skip ar 1 ys in
      let h' : spells ar (suc (n + m)) ys ≡ true = rw (← (suc-add n m)) h in
      let z : get_or zs p 0 ≡ k = rw (add-zero p) at (sym (get_or-drop p zs 0 0)) ∙ ap (λ (l : List ℕ). get_or l 0 0) e ∙ size_at ar ys 0 in
      let d : drop (p + k) zs ≡ sizes ar (drop k ys) = sym (drop-drop k p zs) ∙ ap (drop k) e ∙ sym (sizes_drop ar ys k) in
      let (t, f) = hops n m (p + k) (drop k ys) zs (spells_split ar ys 1 (n + m) (rw (one-add (n + m)) h')).1 d in (
        (omega (arith, spells_some ar ys (n + m) h', ap length e, length-drop p zs, sizes_length ar ys), rw z t),
        rw z (omega (arith, f, rw (one-add n) at (skip_plus ar 1 n ys))),
      )

-- IN FRONT OF THE LAST SYMBOLS

module _ {operators xs : List ℕ} {b : Binding} {s : Symbol} {k : ℕ} {scratch : List ℕ} (r : Ready operators xs b s k scratch) where
  abbrev ar : ℕ → ℕ
  ar = arity_in operators

  abbrev ys : List ℕ
  ys = R.operators (last_symbols k scratch)

  -- the records zs, which s gives, and with sizes
  joined : {ms : List Bool} {limit n : ℕ} {scratch' : List ℕ} (zs : List ℕ) → last_symbols n scratch' ≡ zs ++ last_symbols k scratch → Filled (s ∷ []) b xs ms zs →
      R.sizes zs ++ sizes ar ys ≡ sizes ar (fill (s ∷ []) b xs ++ ys) → n ≤ limit → limit ≤ 1024 → length scratch' ≡ 1024 →
      SymbolFilled operators xs ms b s limit k scratch scratch' (Some n)
  joined {n = n} {scratch'} zs d h z l m long =
      let q : R.operators (last_symbols n scratch') ≡ fill (s ∷ []) b xs ++ ys =
      ap R.operators d ∙ map-append R.operator zs (last_symbols k scratch) ∙ ap (λ (w : List ℕ). w ++ ys) h.operators_are in
      let t : R.sizes (last_symbols n scratch') ≡ sizes ar (R.operators (last_symbols n scratch')) =
      ap R.sizes d ∙ map-append R.size zs (last_symbols k scratch) ∙ ap (λ (w : List ℕ). R.sizes zs ++ w) r.sized.true_sizes ∙ z ∙ ap (sizes ar) (sym q) in
      record { is = (zs, d, h, record { true_sizes = t; most = omega arith; long = long }, l); long = long }

  -- AN OPERATOR

  module _ {o : ℕ} (e : s ≡ Symbol.operator o) where
    pub over_operator : {ms : List Bool} {limit : ℕ} → limit ≤ k → SymbolFilled operators xs ms b s limit k scratch scratch None
    unfolding fill_over
    over_operator l = record { is = rw e (omega arith); long = r.sized.long }

    hops_operator : Hops (R.sizes scratch) (ar o) (1024 - k) × (hop (R.sizes scratch) (ar o) (1024 - k) ≡ 1024 - k + skip ar (ar o) ys)
    hops_operator = hops ar (ar o) r.others (1024 - k) ys (R.sizes scratch) (rw e at r.behind) (sym (map_drop R.size (1024 - k) scratch) ∙ r.sized.true_sizes)

    -- its arguments can be passed by their sizes
    pub operator_room : k < 1024 → Hops (R.sizes scratch) (ar o) (1023 - k + 1) × (hop (R.sizes scratch) (ar o) (1023 - k + 1) ≤ 1024)
    operator_room l =
        let p : 1023 - k + 1 ≡ 1024 - k = omega arith in
        let (h, q) = hops_operator in
        let n = r.sized.long in
        rw p (h, omega (arith, skip_most ar ys (ar o), length-map (last_symbols k scratch) R.operator, length-drop (1024 - k) scratch))

    operator_size : (z : ℕ) → k < 1024 → z ≡ hop (R.sizes scratch) (ar o) (1023 - k + 1) - (1023 - k) → z ≡ suc (skip ar (ar o + 0) ys)
    operator_size z l q =
        let p : 1023 - k + 1 ≡ 1024 - k = omega arith in
        rw (add-zero (ar o)) (omega (arith, hops_operator.1, rw p at q))

    operator_placed : {scratch' : List ℕ} {x : ℕ} → k < 1024 → scratch' ≡ set scratch (1023 - k) x → last_symbols (k + 1) scratch' ≡ x ∷ last_symbols k scratch
    operator_placed {scratch'} {x} l q =
        let a : 1024 - (k + 1) ≡ 1023 - k = omega arith in
        let c : suc (1023 - k) ≡ 1024 - k = omega arith in
        let n = r.sized.long in
        rw (a, q) (drop_set scratch (1023 - k) x (omega arith) ∙ ap (λ (i : ℕ). x ∷ drop i scratch) c)

    pub filled_operator : {ms : List Bool} {limit : ℕ} {scratch' : List ℕ} → k < limit → limit ≤ 1024 → PutSized (ar o) (1023 - k) o scratch scratch' →
        SymbolFilled operators xs ms b s limit k scratch scratch' (Some (k + 1))
    unfolding fill_over sizes skip
    filled_operator l m p =
        let (x, q, n, z, u) = p.is in
        joined (x ∷ []) (operator_placed (omega arith) q)
        (rw e (record { operators_are = ap (λ (y : ℕ). y ∷ []) n; marks_are = ap (λ (y : Bool). y ∷ []) u }))
        (rw e (ap (λ (y : ℕ). y ∷ sizes ar ys) (operator_size (R.size x) (omega arith) z))) (omega arith) m p.long

-- A VARIABLE

module _ {operators symbols : List ℕ} {b : Binding} {s : Symbol} {k : ℕ} {scratch : List ℕ} (r : Ready operators (operators_in symbols) b s k scratch)
    (w : Sized (arity_in operators) symbols) {v size start : ℕ} (e : s ≡ Symbol.variable v) (f : size ≡ (b v).size) (g : start ≡ (b v).start) where
  abbrev ops : List ℕ
  ops = operators_in symbols

  abbrev part : List ℕ
  part = take size (drop start ops)

  -- its term begins in the present one
  term_there : (start < length ops) × (size ≡ skip (arity_in operators) 1 (drop start ops))
  term_there =
      let h = rw e at r.bound in
      (omega arith, f ∙ h.1 ∙ ap (λ (a : ℕ). skip (arity_in operators) 1 (drop a ops)) (sym g))

  -- and ends there
  pub part_there : start + size ≤ length_in symbols
  part_there =
      let (l, q) = term_there in
      omega (arith, part_inside (arity_in operators) ops start (omega arith), operators_length (arity_in operators) symbols w)

  -- it gives its part, whatever the list is of
  gives_part : {A : Type 0} (new : ℕ → A) (zs : List A) → fill_over new (s ∷ []) b zs ≡ take size (drop start zs)
  unfolding fill_over
  gives_part new zs = rw (e, f, g) (append-nil (take (b v).size (drop (b v).start zs)))

  gives : fill (s ∷ []) b ops ≡ part
  gives = gives_part (λ o. o) ops

  pub over_variable : {ms : List Bool} {limit : ℕ} → limit < k + size → SymbolFilled operators ops ms b s limit k scratch scratch None
  over_variable l =
      let m = part_there in
      let n = operators_length (arity_in operators) symbols w in
      let z = length-take-le size (drop start ops) (omega (arith, length-drop start ops)) in
      record { is = omega (arith, ap length gives); long = r.sized.long }

  part_placed : {limit : ℕ} {scratch' : List ℕ} → k + size ≤ limit → limit ≤ 1024 → scratch' ≡ paste scratch (1024 - k - size) (drop start symbols) size →
      last_symbols (k + size) scratch' ≡ take size (drop start symbols) ++ last_symbols k scratch
  part_placed l m q =
      let p : ℕ = 1024 - k - size in
      let zs : List ℕ = take size (drop start symbols) in
      let a : 1024 - (k + size) ≡ p = omega arith in
      let c : p + size ≡ 1024 - k = omega arith in
      let n = r.sized.long in
      rw (a, q, append_assoc (take p scratch) zs (drop (p + size) scratch))
      (drop_at (take p scratch) (zs ++ drop (p + size) scratch) p (length-take-le p scratch (omega arith)) ∙ ap (λ (i : ℕ). zs ++ drop i scratch) c)

  -- of each symbol one thing, its operator or its mark
  part_filled : {A : Type 0} (f new : ℕ → A) → map f (take size (drop start symbols)) ≡ fill_over new (s ∷ []) b (map f (present symbols))
  part_filled f new = part_of f start size (length_in symbols) symbols part_there ∙ sym (gives_part new (map f (present symbols)))

  part_sized : R.sizes (take size (drop start symbols)) ≡ sizes (arity_in operators) part
  part_sized =
      let (l, q) = term_there in
      part_of R.size start size (length_in symbols) symbols part_there
      ∙ ap (λ (zs : List ℕ). take size (drop start zs)) w.true_sizes
      ∙ rw q (sym (part_sizes (arity_in operators) ops start w.term l))

  pub filled_variable : {limit : ℕ} {scratch' : List ℕ} → k + size ≤ limit → limit ≤ 1024 → Pasted scratch (1024 - k - size) symbols start size scratch' →
      SymbolFilled operators ops (marks_in symbols) b s limit k scratch scratch' (Some (k + size))
  filled_variable l m p =
      let (i, q) = term_there in
      let t : spells (arity_in operators) 1 part ≡ true = rw q (spells_part (arity_in operators) ops start w.term i) in
      joined r (take size (drop start symbols)) (part_placed l m p.is)
      (record { operators_are = part_filled R.operator _; marks_are = part_filled R.marked _ })
      (rw (gives, part_sized) (sym (sizes_append (arity_in operators) part 1 t (R.operators (last_symbols k scratch))))) l m p.long
