-- The nodes of a net's search: a rule that fits and is led to is led to by the branch of the term's symbol or by that of a variable; at the end of a path
-- its rules are left. Assumes nothing.
use mathlib.Core.List.{List, [], ◌∷◌, ◌++◌, map, append_assoc, append-nil}
use mathlib.Core.Logic.{◌⊎◌, inl, inr}
use mathlib.Core.Path.{◌≡◌, refl, sym, ap, ap₂, ◌∙◌, subst}
use Prim.Native.Nat.{ℕ, zero, suc, ◌+◌, ◌-◌, ◌≤◌, ◌<◌}
use native.Mathlib.Nat.{add-zero, add_assoc}
use native.Mathlib.Numerals.{add-one}
use native.Mathlib.Omega.{arith}
use lib.ListN.{length, get_or, take, drop, length-append, length-map, length-take}
use lib.Seq.{drop_at, drop-drop, take-suc, take_all, get_or-take, length-take-le}
use borrow.Author.Tests.{eq-eqb, ne_eqb}
use Rattle.paper.specs.Bits.{to_bits, bits_of}
use Rattle.paper.specs.Tree.{node, nil, cons, label, count, preorder, Complete}
use Rattle.paper.specs.Book.{Symbol, Side, Rule, Book, arity, symbol_arity}
use Rattle.paper.specs.Result.{Read}
use Rattle.paper.specs.Sound.{All, IsOperator}
use Rattle.paper.specs.WellFormed.{Fits, GoodRule}
use Rattle.paper.specs.Writer.{concat, write_symbol}
use Rattle.paper.proofs.Bits.{length_to_bits}
use Rattle.paper.proofs.Lists.{all_map}
use Rattle.paper.proofs.Tests.{eqb_cases}
use Rattle.paper.proofs.Trees.{correct_complete}
use Rattle.flat.proofs.Sizes.{spells_drop}
use Rattle.side.specs.Promises.{bits_at, NumberFits, StandingAt}
use Rattle.side.specs.declared.Standing as Sd
use Rattle.tables.specs.Tables.{rule_at, Root}
use Rattle.tables.proofs.Laws.{all_at}
use Rattle.term.specs.Present.{length_in, operators_in, Sized}
use Rattle.term.proofs.Sized.{operators_length, operator_is, size_is, size_some, ends_inside, nested}
use Rattle.net.specs.Layout.{root_in, last_in, choice_in, left_of, way_in}
use Rattle.net.specs.Net.{key, part, path, Same, Leads, book_by}
use Rattle.net.proofs.Leading.{least, Next, next, agrees, ended}
use Rattle.lookup.specs.Walk.{wide, width, symbol_in, size_in, takes, behind, Bears, Agree}
use Rattle.lookup.specs.Promises.{rules_by, path_by, Ready, KeyAt, branch_in, Small, Stepped, BySymbol, ByPart, OneWay, end, Led, Node, Fit, Descended, Packable}
use Rattle.lookup.specs.declared.Spot.{Spot}
use Rattle.std.specs.Prelude.{Option, Some, None}
use Rattle.lookup.specs.declared.Descent as De
use Rattle.lookup.proofs.Walks.{wide_part, wide_operator, width_most, width_more, takes_part, takes_operator, behind_more, behind_least, agree_more, agree_at, behind_most}
use Rattle.lookup.proofs.Agreeing.{Plain, Due, whole_end}

-- LISTS

-- lists that agree so far are both as long as that, or neither is
as_long : (d : ℕ) (xs ys : List ℕ) → take d xs ≡ take d ys → d ≤ length ys → d ≤ length xs
as_long d xs ys h l = omega (arith, ap length h, length-take d xs, length-take-le d ys l)

same_at : (d e : ℕ) (xs ys : List ℕ) → d < e → take e xs ≡ take e ys → get_or xs d 0 ≡ get_or ys d 0
same_at d e xs ys l h = sym (get_or-take e xs d 0 l) ∙ ap (λ (zs : List ℕ). get_or zs d 0) h ∙ get_or-take e ys d 0 l

-- BRANCHES BY NUMBER

pub branch_own : (net : List ℕ) (i d own k : ℕ) → own ≡ k → branch_in net i d own k ≡ suc i
unfolding branch_in
branch_own net i d own k z = rw (eq-eqb own k z)

pub branch_way : (net : List ℕ) (i d own k : ℕ) → (own ≡ k → ⊥) → branch_in net i d own k ≡ way_in net i d k
unfolding branch_in
branch_way net i d own k z = rw (ne_eqb own k z)

-- the number of a branch, by its key
pub branch_by : (net : List ℕ) (i d own x k r : ℕ) → r ≡ branch_in net i d own x → x ≡ k → branch_in net i d own k ≡ r
branch_by net i d own x k r b z = ap (branch_in net i d own) (sym z) ∙ sym b

-- KEYS

pub key_operator : {bytes : List ℕ} {at : ℕ} (o n : ℕ) → StandingAt bytes at (Sd.Standing.Operator o n) → KeyAt bytes at o
unfolding key
key_operator o n h = record { is = λ s rest f e. ap key (ap (λ (x : Read Symbol). x.value) (h.is s rest f e)) }

pub key_variable : {bytes : List ℕ} {at : ℕ} (v n : ℕ) → StandingAt bytes at (Sd.Standing.Variable v n) → KeyAt bytes at part
unfolding key
key_variable v n h = record { is = λ s rest f e. ap key (ap (λ (x : Read Symbol). x.value) (h.is s rest f e)) }

-- WHAT STANDS AT A DEPTH

symbol_wide : (s : Symbol) → Plain s → length (write_symbol s) ≡ wide (key s)
unfolding write_symbol key
symbol_wide (Symbol.operator o) p =
    length-append (to_bits 1 0) (to_bits 8 o) ∙ ap₂ ◌+◌ (length_to_bits 1 0) (length_to_bits 8 o) ∙ sym (wide_operator o p)
symbol_wide (Symbol.variable v) p = length-append (to_bits 1 1) (to_bits 4 v) ∙ ap₂ ◌+◌ (length_to_bits 1 1) (length_to_bits 4 v) ∙ sym wide_part

-- of symbols that stand at a position, the one at a depth stands behind the width of those before it
stands_at : (bytes : List ℕ) (ss : List Symbol) (d p : ℕ) (rest : List ℕ) → d < length ss → All Plain ss → All NumberFits ss →
    bits_at bytes p ≡ concat write_symbol ss ++ rest → (r : ℕ) → KeyAt bytes (p + width (take d (map key ss))) r → r ≡ get_or (map key ss) d 0
unfolding concat width
stands_at bytes [] d p rest l f n e r k = absurd (omega arith)
stands_at bytes (s ∷ ss) zero p rest l f n e r k =
    let k' : KeyAt bytes p r = rw (add-zero p) at k in
    k'.is s (concat write_symbol ss ++ rest) n.0 (e ∙ append_assoc (write_symbol s) (concat write_symbol ss) rest)
stands_at bytes (s ∷ ss) (suc d) p rest l f n e r k =
    let w = wide (key s) in
    let e' : bits_at bytes (p + w) ≡ concat write_symbol ss ++ rest =
    sym (drop-drop w p (bits_of bytes))
    ∙ ap (drop w) (e ∙ append_assoc (write_symbol s) (concat write_symbol ss) rest)
    ∙ drop_at (write_symbol s) (concat write_symbol ss ++ rest) w (symbol_wide s f.0) in
    stands_at bytes ss d (p + w) rest (omega arith) f.1 n.1 e' r (rw (add_assoc p w (width (take d (map key ss)))) k)

-- A TERM'S END

pub before_end : (a s q z : ℕ) → q < a + z → z ≡ s → q < a + s
before_end a s q z h e = omega arith

pub behind_end : (a s q z : ℕ) → a + z ≤ q → z ≡ s → a + s ≤ q
behind_end a s q z h e = omega arith

-- one term is due at an offset of the present term
pub one_due : (ar : ℕ → ℕ) (symbols : List ℕ) (a : ℕ) → Sized ar symbols → a < length_in symbols → Due ar (operators_in symbols) (end symbols a) 1 a
one_due ar symbols a s l =
    let (m, f) = spells_drop ar (operators_in symbols) 1 a s.term (omega (arith, operators_length ar symbols s)) in
    let z : suc m ≡ 1 + m = omega arith in
    (m, rw z at f, ap (λ (k : ℕ). a + k) (sym (size_is ar symbols s a l)))

-- DOWN

-- from node s₀ down to node s
pub record Down (bytes net symbols : List ℕ) (a : ℕ) (s₀ s : Spot) : Type 0 where
  pub node : Node bytes net symbols a s
  pub deeper : s₀.depth ≤ s.depth
  pub leads : (j : ℕ) → Fit bytes net symbols a j → Led net s₀ j → Led net s j

pub down_start : {bytes net symbols : List ℕ} {a : ℕ} {s : Spot} → Node bytes net symbols a s → Down bytes net symbols a s s
down_start n = record { node = n; deeper = omega arith; leads = λ j f l. l }

module _ {bytes net symbols : List ℕ} {a : ℕ} (R : Ready bytes net symbols a) where
  abbrev B : Book
  B = book_by bytes net

  abbrev rs : List Rule
  rs = rules_by bytes net

  abbrev P : ℕ → List ℕ
  P = path_by bytes net

  abbrev e : ℕ
  e = end symbols a

  few : length rs ≤ 255
  few = let f = R.good.few_rules in omega arith

  -- RULES

  good : (i : ℕ) → i < length rs → GoodRule B.operators (rule_at rs i)
  good i l = all_at _ _ rs i R.good.rules l

  plain : (s : Symbol) → Fits B.operators s → Plain s
  plain (Symbol.operator o) h = λ z. let f = R.good.few_operators in omega arith
  plain (Symbol.variable v) h = tt

  held : (s : Symbol) → Fits B.operators s → NumberFits s
  held (Symbol.operator o) h = let f = R.good.few_operators in omega arith
  held (Symbol.variable v) h = h

  pub all_plain : (i : ℕ) → i < length rs → All Plain (preorder (rule_at rs i).left)
  all_plain i l = all_map _ _ plain (preorder (rule_at rs i).left) (good i l).left.fits

  one_term : (i : ℕ) → i < length rs → Complete (symbol_arity B.operators) 1 (preorder (rule_at rs i).left)
  unfolding preorder count
  one_term i l =
      rw (append-nil (preorder (rule_at rs i).left)) at (correct_complete (symbol_arity B.operators) (cons (rule_at rs i).left nil) ((good i l).left.correct, tt))

  pub path_short : (i : ℕ) → i < length rs → length (P i) ≤ 64
  unfolding path
  path_short i l = let s = (good i l).left.short in omega (arith, length-map (preorder (rule_at rs i).left) key)

  -- a path that agrees ends where the term ends
  path_whole : (i : ℕ) → i < length rs → Agree symbols e (P i) a → behind symbols (P i) a ≡ e
  unfolding path
  path_whole i l g =
      whole_end (arity B) symbols R.sized e (symbol_arity B.operators) (λ o. refl) (λ v. refl) (preorder (rule_at rs i).left) 1 a (all_plain i l) (one_term i l)
      (one_due (arity B) symbols a R.sized R.inside) g

  -- THE TERM

  end_inside : e ≤ length_in symbols
  end_inside = ends_inside (arity B) symbols R.sized a R.inside

  closed : (q : ℕ) → a ≤ q → q < e → q + size_in symbols q ≤ e
  closed q l h = nested (arity B) symbols R.sized a q l (omega (arith, end_inside)) h

  pub symbol_below : (q : ℕ) → q < length_in symbols → symbol_in symbols q < 255
  symbol_below q l =
      let f = R.good.few_operators in
      let n = operators_length (arity B) symbols R.sized in
      omega (arith, operator_is (arity B) symbols R.sized q l, all_at _ 0 (operators_in symbols) q R.known (omega arith))

  -- ONE NODE

  module _ {s : Spot} (n : Node bytes net symbols a s) where
    pub offset_most : s.offset ≤ e
    offset_most =
        rw n.offset_is (behind_most symbols e a closed (take s.depth (P s.rule)) a (omega arith)
        (let z = size_some (arity B) symbols R.sized a R.inside in omega arith) n.agree)

    width_inside : s.at ≤ 576
    width_inside =
        let w = width_most (take s.depth (P s.rule)) in
        omega (arith, n.at_is, length-take s.depth (P s.rule), path_short s.rule n.known)

    pub packable : Packable s
    packable =
        let k = n.known in
        let f = R.good.few_rules in
        let w = n.within in
        let p = path_short s.rule k in
        let m = R.sized.most in
        record { rule = omega arith; depth = omega arith; at = omega (arith, width_inside); offset = omega (arith, offset_most, end_inside) }

    module _ (o : s.offset < e) where
      -- where the term goes on, the path does
      pub goes_on : s.depth < length (P s.rule)
      goes_on = elim (eqb_cases s.depth (length (P s.rule))) [
        | inl z ↦
            let all : take s.depth (P s.rule) ≡ P s.rule = take_all s.depth (P s.rule) (let q = z.1 in omega arith) in
            absurd (omega (
              arith,
              n.offset_is,
              ap (λ (ks : List ℕ). behind symbols ks a) all,
              path_whole s.rule n.known (subst (λ (ks : List ℕ). Agree symbols e ks a) all n.agree),
            ))
        | inr z ↦ lower s.depth (length (P s.rule)) n.within z.1
      ]
        where
          lower : (x y : ℕ) → x ≤ y → (x ≡ y → ⊥) → x < y
          lower x y l d = omega arith

      pub small : Small net s
      small =
          let k = n.known in
          let f = R.good.few_rules in
          let m = R.sized.most in
          record {
            long = R.is.long;
            chained = R.is.descends.chains;
            rule = omega arith;
            depth = omega (arith, goes_on, path_short s.rule k);
            at = omega (arith, width_inside);
            offset = omega (arith, end_inside);
          }

      pub part_inside : s.offset + size_in symbols s.offset ≤ 1024
      part_inside =
          let m = R.sized.most in
          let l = behind_least symbols (take s.depth (P s.rule)) a in
          omega (arith, end_inside, closed s.offset (omega (arith, n.offset_is)) o)

      -- the key that stands there
      pub key_is : (r : ℕ) → KeyAt bytes (left_of net s.rule + s.at) r → r ≡ get_or (P s.rule) s.depth 0
      unfolding path
      key_is r k =
          let l = n.known in
          let st = R.lefts s.rule l in
          let ss = preorder (rule_at rs s.rule).left in
          stands_at bytes ss s.depth (left_of net s.rule) st.rest (omega (arith, goes_on, length-map ss key)) (all_plain s.rule l)
          (all_map _ _ held ss (good s.rule l).left.fits) st.is r
          (subst (λ (w : ℕ). KeyAt bytes (left_of net s.rule + w) r) n.at_is k)

  -- BRANCHES

  -- rule r's path is rule i's up to a depth, and has the key k there
  abbrev Turns : ℕ → ℕ → ℕ → ℕ → Type 0
  Turns i d k r = (r < length rs) × (take d (P r) ≡ take d (P i)) × (k ≡ get_or (P r) d 0) × (d < length (P r))

  turns : (i d own k r : ℕ) → i < length rs → d < length (P i) → own ≡ get_or (P i) d 0 → branch_in net i d own k ≡ suc r → Turns i d k r
  turns i d own k r l h o z = elim (eqb_cases own k) [
    | inl p ↦
        let y : i ≡ r = omega (arith, z, branch_own net i d own k p.1) in
        subst (Turns i d k) y (l, refl, sym p.1 ∙ o, h)
    | inr p ↦ let v = R.is.ways i d k r (sym (branch_way net i d own k p.1) ∙ z) in (v.below, v.agree, v.keyed, v.inside)
  ]

  -- the branch of key k leads to rule j
  abbrev pub By : Spot → ℕ → ℕ → ℕ → Type 0
  By s own k j = (r : ℕ) × (branch_in net s.rule s.depth own k ≡ suc r) × Leads net r (suc s.depth) j

  -- r answers for the branch of key k
  abbrev pub Branched : Spot → ℕ → ℕ → Option Spot → Type 0
  Branched s own k None = (j : ℕ) → By s own k j → ⊥
  Branched s own k (Some t) = Node bytes net symbols a t × (t.depth ≡ s.depth + 1) × ((j : ℕ) → By s own k j → Led net t j)

  module _ {s : Spot} (n : Node bytes net symbols a s) (o : s.offset < e) {own : ℕ} (own_is : own ≡ get_or (P s.rule) s.depth 0) where
    abbrev d : ℕ
    d = s.depth

    abbrev i : ℕ
    i = s.rule

    -- the node behind a branch that agrees with the term
    node_behind : (k : ℕ) (t : Spot) → Bears symbols k s.offset → branch_in net i d own k ≡ suc t.rule → t.depth ≡ d + 1 → t.at ≡ s.at + wide k →
        t.offset ≡ s.offset + takes symbols k s.offset → Node bytes net symbols a t
    node_behind k t b z depth_is at_is offset_is =
        let (l, g, y, h) = turns i d own k t.rule n.known (goes_on n o) own_is z in
        let f : take t.depth (P t.rule) ≡ take d (P i) ++ (k ∷ []) =
        ap (λ (x : ℕ). take x (P t.rule)) (depth_is ∙ add-one d)
        ∙ take-suc (P t.rule) d 0 h
        ∙ ap₂ (λ (xs : List ℕ) (x : ℕ). xs ++ (x ∷ [])) g (sym y) in
        let w = n.offset_is in
        record {
          known = l;
          root = same_at 0 d (P t.rule) (P i) n.deep g ∙ n.root;
          deep = omega arith;
          within = omega arith;
          agree = rw f (agree_more symbols e (take d (P i)) k a n.agree (omega arith) (rw w at b));
          offset_is = rw f (offset_is ∙ ap (λ (x : ℕ). x + takes symbols k x) w ∙ sym (behind_more symbols (take d (P i)) k a));
          at_is = rw f (at_is ∙ ap (λ (x : ℕ). x + wide k) n.at_is ∙ sym (width_more (take d (P i)) k));
        }

    branched : (k w m : ℕ) (r : Option Spot) → Bears symbols k s.offset → w ≡ wide k → m ≡ takes symbols k s.offset → Stepped net s own k w m r → Branched s own k r
    branched k w m None b p q z = λ j h. let y = h.1 in omega arith
    branched k w m (Some t) b p q z =
        let (y, depth_is, at_is, offset_is) = z in (
          node_behind k t b y depth_is (omega arith) (omega arith),
          depth_is,
          λ j h.
              let x : h.0 ≡ t.rule = (let y' = h.1 in omega arith) in
              let v : suc d ≡ t.depth = omega arith in
              subst (λ (x : ℕ). Leads net t.rule x j) v (subst (λ (r : ℕ). Leads net r (suc d) j) x h.2),
        )

    x_plain : symbol_in symbols s.offset ≡ part → ⊥
    x_plain z = omega (arith, symbol_below s.offset (omega (arith, end_inside)))

    pub by_symbol : (r : Option Spot) → BySymbol net symbols s own r → Branched s own (symbol_in symbols s.offset) r
    by_symbol r h = branched (symbol_in symbols s.offset) 9 1 r (inr refl) (sym (wide_operator _ x_plain)) (sym (takes_operator symbols _ s.offset x_plain)) h

    pub by_part : (r : Option Spot) → ByPart net symbols s own r → Branched s own part r
    by_part r h = branched part 5 (size_in symbols s.offset) r (inl refl) (sym wide_part) (sym (takes_part symbols s.offset)) h

    -- RULES THAT FIT

    -- a rule that fits and is led to has a key there that agrees with the term, and its branch leads to it
    module _ {j : ℕ} (fit : Fit bytes net symbols a j) (led : Led net s j) where
      bears : (k : ℕ) → d < length (P j) → k ≡ get_or (P j) d 0 → Bears symbols k s.offset
      bears k l z =
          let here : behind symbols (take d (P j)) a ≡ s.offset =
          ap (λ (ks : List ℕ). behind symbols ks a) (agrees R.is few n.known led) ∙ sym n.offset_is in
          subst (Bears symbols k) here (subst (λ (x : ℕ). Bears symbols x (behind symbols (take d (P j)) a)) (sym z) (agree_at symbols e (P j) d a l fit.1).1)

      -- of a rule whose path it has up to the next depth
      turned : (r k : ℕ) → r < length rs → d < length (P r) → k ≡ get_or (P r) d 0 → Leads net r (suc d) j → branch_in net i d own k ≡ suc r →
          (k : ℕ) × By s own k j × Bears symbols k s.offset
      turned r k l h z w b =
          let p = agrees R.is few l w in
          (k, (r, b, w), bears k (as_long (suc d) (P j) (P r) p h) (z ∙ sym (same_at d (suc d) (P j) (P r) (omega arith) p)))

      keyed : Next net i d j → (k : ℕ) × By s own k j × Bears symbols k s.offset
      keyed (Next.along w) = turned i own n.known (goes_on n o) own_is w (branch_own net i d own own refl)
      keyed (Next.leave k c z w) =
          let v = R.is.ways i d k c z in
          turned c k v.below v.inside v.keyed w (branch_way net i d own k (λ y. v.apart (sym y ∙ own_is)) ∙ z)

      -- the branch of the term's symbol or that of a variable leads to it
      pub step : By s own (symbol_in symbols s.offset) j ⊎ By s own part j
      step =
          let (k, b, g) = keyed (next led) in
          elim g [ inl z ↦ inr (subst (λ (x : ℕ). By s own x j) z b) | inr z ↦ inl (subst (λ (x : ℕ). By s own x j) z b) ]

    -- WHERE THERE IS NO CHOICE

    module _ (narrow : choice_in net i ≤ d) where
      only_part : {j : ℕ} → own ≡ part → By s own (symbol_in symbols s.offset) j → ⊥
      only_part z (r, b, w) =
          let x = symbol_in symbols s.offset in
          let v = (R.is.ways i d x r (sym (branch_way net i d own x (λ y. x_plain (sym y ∙ z))) ∙ b)).choice (inr (sym own_is ∙ z)) in
          omega arith

      only_symbol : {j : ℕ} → (own ≡ part → ⊥) → By s own part j → ⊥
      only_symbol z (r, b, w) = let v = (R.is.ways i d part r (sym (branch_way net i d own part z) ∙ b)).choice (inl refl) in omega arith

      -- r answers for the branch
      abbrev pub Onward : Option Spot → Type 0
      Onward None = (j : ℕ) → Fit bytes net symbols a j → Led net s j → ⊥
      Onward (Some t) = Node bytes net symbols a t × (t.depth ≡ d + 1) × ((j : ℕ) → Fit bytes net symbols a j → Led net s j → Led net t j)

      onward : (k : ℕ) (r : Option Spot) → Branched s own k r → ((j : ℕ) → Fit bytes net symbols a j → Led net s j → By s own k j) → Onward r
      onward k None b g = λ j f l. b j (g j f l)
      onward k (Some t) b g = (b.0, b.1, λ j f l. b.2 j (g j f l))

      pub one_way : (r : Option Spot) → OneWay net symbols s own r → Onward r
      one_way r (inl (z, h)) = onward part r (by_part r h) (λ j f l. elim (step f l) [ inl b ↦ absurd (only_part z b) | inr b ↦ b ])
      one_way r (inr (z, h)) =
          onward (symbol_in symbols s.offset) r (by_symbol r h) (λ j f l. elim (step f l) [ inl b ↦ b | inr b ↦ absurd (only_symbol z b) ])

  -- THE WAY DOWN

  pub size_requires : a < 1024
  size_requires = let l = R.inside in let m = R.sized.most in omega arith

  pub end_fits : e ≤ 1024
  end_fits = let m = R.sized.most in omega (arith, end_inside)

  pub rule_fits : {s : Spot} → Node bytes net symbols a s → s.rule < 256
  rule_fits n = let k = n.known in omega (arith, few)

  module _ {s₀ s : Spot} (w : Down bytes net symbols a s₀ s) (o : s.offset < e) where
    pub down_choice : (best : ℕ) → Descended bytes net symbols a s₀ best (De.Descent.Choice s)
    down_choice best = (w.node, o, w.deeper, w.leads)

    module _ (own : ℕ) (key : KeyAt bytes (left_of net s.rule + s.at) own) (narrow : choice_in net s.rule ≤ s.depth) where
      pub down_lost : (best : ℕ) → OneWay net symbols s own None → Descended bytes net symbols a s₀ best De.Descent.Lost
      down_lost best h = λ j f l. absurd (one_way w.node o (key_is w.node o own key) narrow None h j f (w.leads j f l))

      pub down_on : (t : Spot) → OneWay net symbols s own (Some t) → Down bytes net symbols a s₀ t × (64 - t.depth < 64 - s.depth)
      down_on t h =
          let (n, z, g) = one_way w.node o (key_is w.node o own key) narrow (Some t) h in
          let m = w.deeper in
          let d = (small w.node o).depth in
          (record { node = n; deeper = omega arith; leads = λ j f l. g j f (w.leads j f l) }, omega arith)

  -- the first rule behind a node isn't before the best, so none is
  pub down_late : {s₀ s : Spot} (best : ℕ) → Down bytes net symbols a s₀ s → best ≤ s.rule + 1 → Descended bytes net symbols a s₀ best De.Descent.Lost
  down_late best w h = λ j f l. (let k = least R.is few w.node.known (w.leads j f l) in omega arith)

  -- THE END OF A PATH

  over : {i d j : ℕ} → i < length rs → Fit bytes net symbols a j → e ≤ behind symbols (take d (P i)) a → Leads net i d j → Same net i j
  over l f h (Leads.on i d j s) = s
  over l f h (Leads.off i d e' k c j m w r) =
      let v = R.is.ways i e' k c w in
      let led : Leads net i d j = Leads.off i d e' k c j m w r in
      let p = agrees R.is few l led in
      let q = as_long (suc e') (P j) (P c) (agrees R.is few v.below r) v.inside in
      let g = (agree_at symbols e (P j) d a (omega arith) f.1).0 in
      absurd (omega (arith, ap (λ (ks : List ℕ). behind symbols ks a) p))

  pub leaf : {s : Spot} → Node bytes net symbols a s → (last_in net s.rule ≤ s.depth) ⊎ (e ≤ s.offset) → (j : ℕ) → Fit bytes net symbols a j → Led net s j →
      Same net s.rule j
  leaf n (inl h) j f l = ended R.is few h l
  leaf n (inr h) j f l = over n.known f (omega (arith, n.offset_is)) l

  pub down_leaf : {s₀ s : Spot} (best : ℕ) → Down bytes net symbols a s₀ s → (last_in net s.rule ≤ s.depth) ⊎ (e ≤ s.offset) →
      Descended bytes net symbols a s₀ best (De.Descent.Leaf s.rule)
  down_leaf best w h = (w.node.known, w.node.root, λ j f l. leaf w.node h j f (w.leads j f l))

  -- THE ROOT

  root_key : (side : Side) (o : ℕ) → IsOperator (label side) → get_or (map key (preorder side)) 0 0 ≡ o → label side ≡ Symbol.operator o
  unfolding label preorder key
  root_key (node (Symbol.operator p) ts) o h z = ap Symbol.operator z
  root_key (node (Symbol.variable v) ts) o h z = absurd h

  root_plain : (side : Side) → IsOperator (label side) → All Plain (preorder side) → get_or (map key (preorder side)) 0 0 ≡ part → ⊥
  unfolding label preorder key
  root_plain (node (Symbol.operator p) ts) h f z = f.0 z
  root_plain (node (Symbol.variable v) ts) h f z = h

  some : (side : Side) → 0 < length (map key (preorder side))
  unfolding preorder
  some (node s ts) = omega arith

  path_some : (i : ℕ) → 0 < length (P i)
  unfolding path
  path_some i = some (rule_at rs i).left

  pub root_of : (i : ℕ) → i < length rs → get_or (P i) 0 0 ≡ symbol_in symbols a → Root rs (get_or (operators_in symbols) a 0) i
  unfolding path
  root_of i l z = root_key (rule_at rs i).left _ (good i l).root (z ∙ operator_is (arity B) symbols R.sized a R.inside)

  -- a rule that fits has the term's root
  fit_root : (j : ℕ) → Fit bytes net symbols a j → get_or (P j) 0 0 ≡ symbol_in symbols a
  unfolding path behind
  fit_root j f = elim (agree_at symbols e (P j) 0 a (path_some j) f.1).1 [
    | inl z ↦ absurd (root_plain (rule_at rs j).left (good j f.0).root (all_plain j f.0) z)
    | inr z ↦ z
  ]

  behind_one : (x : ℕ) → a + takes symbols x a ≡ behind symbols (x ∷ []) a
  unfolding behind
  behind_one x = refl

  width_one : (x : ℕ) → wide x ≡ width (x ∷ [])
  unfolding width
  width_one x = omega arith

  module _ (f : ℕ) (first : root_in net (symbol_in symbols a) ≡ suc f) where
    pub rooted : (j : ℕ) → Fit bytes net symbols a j → Leads net f 1 j
    rooted j h =
        let (g, y, w) = R.is.rooted j h.0 in
        let q = rw (fit_root j h) at y in
        let z : g ≡ f = omega arith in
        subst (λ (x : ℕ). Leads net x 1 j) z w

    pub start_node : (s : Spot) → s.rule ≡ f → s.depth ≡ 1 → s.at ≡ 9 → s.offset ≡ a + 1 → Node bytes net symbols a s
    start_node s p q r t =
        let x = symbol_in symbols a in
        let b = symbol_below a R.inside in
        let (l, z) = R.is.roots x f (omega arith) first in
        let one : take s.depth (P s.rule) ≡ x ∷ [] = rw (p, q) (take-suc (P f) 0 0 (path_some f) ∙ ap (λ (y : ℕ). y ∷ []) z) in
        let np : x ≡ part → ⊥ = λ y. omega arith in
        let size = size_some (arity B) symbols R.sized a R.inside in
        record {
          known = omega arith;
          root = rw p z;
          deep = omega arith;
          within = rw (p, q) (path_some f);
          agree = rw one (omega arith, inr refl, tt);
          offset_is = rw one (t ∙ ap (λ (k : ℕ). a + k) (sym (takes_operator symbols x a np)) ∙ behind_one x);
          at_is = rw one (r ∙ sym (wide_operator x np) ∙ width_one x);
        }
