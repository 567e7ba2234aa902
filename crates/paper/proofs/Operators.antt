-- Laws of operators: what their reader accepts, and that what is written is read back. Assumes nothing.
use mathlib.Core.Bool.{Bool, true, false, true≢false, false≢true, not}
use mathlib.Core.List.{List, [], ◌∷◌, ◌++◌, map, append_assoc, append-nil}
use mathlib.Core.Logic.{◌⊎◌, inl, inr, ◌≢◌}
use mathlib.Core.Path.{◌≡◌, refl, sym, ap, ap₂, ◌∙◌, subst}
use Prim.Native.Nat.{ℕ, zero, suc, ◌≤◌, ◌<◌}
use native.Mathlib.Omega.{arith}
use native.Mathlib.Decide.{dec_lt, ℕ_discrete}
use lib.Dec.{eqb, leb, eqb-suc-zero}
use lib.ListN.{length}
use Rattle.paper.specs.Result.{refused, accepted, Read, Reader, if, return, refuse, ◌>>=◌}
use Rattle.paper.specs.Bits.{to_bits, field}
use Rattle.paper.specs.Strategy.{Item, default, settle, layout}
use Rattle.paper.specs.Book.{Operator}
use Rattle.paper.specs.Reader.{allowed, grouped_after, read_numbers, items, group_items, read_strategy, read_operator}
use Rattle.paper.specs.Writer.{numbers, same, concat, write_strategy, write_operator}
use Rattle.paper.specs.Sound.{All, Distinct, Within, EndsAfter, EndsWhole}
use Rattle.paper.specs.WellFormed.{ItemsWithin, GoodOperator}
use Rattle.paper.proofs.Tests.{either, eqb_true, eqb_false, eqb_equal, ltb_true, ltb_false, ltb_less}
use Rattle.paper.proofs.Readers.{bind_accepted, bind_return, return_accepted, refused_accepted}
use Rattle.paper.proofs.Bits.{field_to_bits, field_bounded}
use Rattle.paper.proofs.Settling.{within_more, layout_within}
use Rattle.paper.proofs.Settling.{settle_twice, settled_distinct, settled_within, settled_ends, settled_length}
use Rattle.paper.proofs.Settling.{default_settled, default_items, default_ends, default_length}

-- Items and their numbers

group_items_argument : (is : List ℕ) (i : ℕ) (vs : List ℕ) → i < 7 → group_items is (suc i ∷ vs) ≡ group_items (is ++ (i ∷ [])) vs
unfolding items
group_items_argument is i vs h = rw (eqb_false (suc i) 9 (omega arith), group_items)

items_argument : (i : ℕ) (vs : List ℕ) → i < 7 → items (suc i ∷ vs) ≡ Item.argument i ∷ items vs
unfolding items
items_argument i vs h = rw (eqb_false (suc i) 8 (omega arith), eqb-suc-zero i, items)

items_group : (is js vs : List ℕ) → All (λ j. j < 7) js → group_items is (map suc js ++ (9 ∷ vs)) ≡ Item.group (is ++ js) ∷ items vs
unfolding items
items_group is [] vs h = ap (λ (ks : List ℕ). Item.group ks ∷ items vs) (sym (append-nil is))
items_group is (j ∷ js) vs h =
    group_items_argument is j (map suc js ++ (9 ∷ vs)) h.0 ∙ items_group (is ++ (j ∷ [])) js vs h.1
    ∙ ap (λ (ks : List ℕ). Item.group ks ∷ items vs) (append_assoc is (j ∷ []) js)

-- the numbers of items stand for these items
pub items_numbers : (is : List Item) → ItemsWithin 7 is → items (numbers is) ≡ is
unfolding items numbers
items_numbers [] h = refl
items_numbers (Item.whole ∷ is) h = ap (λ (r : List Item). Item.whole ∷ r) (items_numbers is h)
items_numbers (Item.argument i ∷ is) h = items_argument i (numbers is) h.0 ∙ ap (λ (r : List Item). Item.argument i ∷ r) (items_numbers is h.1)
items_numbers (Item.group js ∷ is) h =
    items_group [] js (numbers is) h.0 ∙ ap (λ (r : List Item). Item.group js ∷ r) (items_numbers is h.1)

-- Numbers in turn

-- may these numbers stand here, in a group or not?
abbrev Allowed : ℕ → Bool → List ℕ → Type 0
Allowed a g [] = Unit {0}
Allowed a g (v ∷ vs) = (v < 16) × (allowed a g (eqb (length vs) 0) v ≡ true) × Allowed a (grouped_after g v) vs

-- what a number that may stand here is: 0, an argument, the opening or the closing of a group
data Kind (a : ℕ) (g last : Bool) : ℕ → Type 0 where
  whole : g ≡ false → Kind a g last 0
  argument : {i : ℕ} → i < 7 → i < a → last ≡ false → Kind a g last (suc i)
  opening : g ≡ false → last ≡ false → Kind a g last 8
  closing : g ≡ true → last ≡ false → Kind a g last 9

allowed_argument : (a : ℕ) (g last : Bool) (i : ℕ) → i < 7 → allowed a g last (suc i) ≡ if last false (leb (suc i) a)
unfolding allowed
allowed_argument a g last i h = rw (eqb-suc-zero i, ltb_true (suc i) 8 (omega arith))

allowed_above : (a : ℕ) (g last : Bool) (v : ℕ) → 9 < v → allowed a g last v ≡ false
unfolding allowed
allowed_above a g last v h =
    rw (eqb_false v 0 (omega arith), ltb_false v 8 (omega arith), eqb_false v 8 (omega arith), eqb_false v 9 (omega arith))

not_true : (b : Bool) → not b ≡ true → b ≡ false
not_true true e = absurd (false≢true e)
not_true false e = refl

if_false : (b c : Bool) → if b false c ≡ true → (b ≡ false) × (c ≡ true)
if_false true c e = absurd (false≢true e)
if_false false c e = (refl, e)

kind_above : (a : ℕ) (g last : Bool) (v : ℕ) → 7 < v → allowed a g last v ≡ true → Kind a g last v
kind_above a g last v h e = go (ℕ_discrete 8 v) (ℕ_discrete 9 v)
  where
    at_8 : allowed a g last 8 ≡ true → Kind a g last 8
    at_8 = unfold allowed in λ e. let (p, q) = if_false last (not g) e in Kind.opening (not_true g q) p

    at_9 : allowed a g last 9 ≡ true → Kind a g last 9
    at_9 = unfold allowed in λ e. let (p, q) = if_false last g e in Kind.closing q p

    go : Dec (8 ≡ v) → Dec (9 ≡ v) → Kind a g last v
    go (yes p) d = subst (λ (v : ℕ). allowed a g last v ≡ true → Kind a g last v) p at_8 e
    go (no n) (yes p) = subst (λ (v : ℕ). allowed a g last v ≡ true → Kind a g last v) p at_9 e
    go (no n) (no m) = absurd (false≢true (sym (allowed_above a g last v (omega arith)) ∙ e))

kind : (a : ℕ) (g last : Bool) (v : ℕ) → allowed a g last v ≡ true → Kind a g last v
unfolding allowed
kind a g last zero e = Kind.whole (not_true g e)
kind a g last (suc i) e = go (dec_lt i 7)
  where
    go : Dec (i < 7) → Kind a g last (suc i)
    go (yes h) =
        let (p, q) = if_false last (leb (suc i) a) (sym (allowed_argument a g last i h) ∙ e) in
        Kind.argument h (ltb_less i a q) p
    go (no n) = kind_above a g last (suc i) (omega arith) e

-- Which items numbers stand for

-- the numbers of some items, which end in 0 behind an item that is 0 or not; in a group, of its arguments and its close first
abbrev Spelt : ℕ → Bool → Bool → List ℕ → Type 0
Spelt a false e vs = (is : List Item) × (vs ≡ numbers is) × ItemsWithin a is × EndsAfter e is
Spelt a true e vs =
    (js : List ℕ) × (is : List Item) × (vs ≡ map suc js ++ (9 ∷ numbers is)) × All (λ j. j < a) js × ItemsWithin a is × EndsAfter false is

grouped_argument : (g : Bool) (i : ℕ) → i < 7 → grouped_after g (suc i) ≡ g
unfolding grouped_after
grouped_argument g i h = rw (eqb_false (suc i) 8 (omega arith), eqb_false (suc i) 9 (omega arith))

spelt_whole : (a : ℕ) (e : Bool) (vs : List ℕ) → Spelt a false true vs → Spelt a false e (0 ∷ vs)
unfolding numbers
spelt_whole a e vs (is, p, w, n) = (Item.whole ∷ is, ap (λ (us : List ℕ). 0 ∷ us) p, w, n)

spelt_argument : (a : ℕ) (g e : Bool) (i : ℕ) (vs : List ℕ) → i < a → Spelt a g false vs → Spelt a g e (suc i ∷ vs)
unfolding numbers
spelt_argument a false e i vs h (is, p, w, n) = (Item.argument i ∷ is, ap (λ (us : List ℕ). suc i ∷ us) p, (h, w), n)
spelt_argument a true e i vs h (js, is, p, s, w, n) = (i ∷ js, is, ap (λ (us : List ℕ). suc i ∷ us) p, (h, s), w, n)

spelt_opening : (a : ℕ) (e : Bool) (vs : List ℕ) → Spelt a true false vs → Spelt a false e (8 ∷ vs)
unfolding numbers
spelt_opening a e vs (js, is, p, s, w, n) = (Item.group js ∷ is, ap (λ (us : List ℕ). 8 ∷ us) p, (s, w), n)

spelt_closing : (a : ℕ) (e : Bool) (vs : List ℕ) → Spelt a false false vs → Spelt a true e (9 ∷ vs)
spelt_closing a e vs (is, p, w, n) = ([], is, ap (λ (us : List ℕ). 9 ∷ us) p, tt, w, n)

spelt_cons : (a : ℕ) (g e last : Bool) (vs : List ℕ) {v : ℕ} → Kind a g last v → Spelt a (grouped_after g v) (eqb v 0) vs → Spelt a g e (v ∷ vs)
unfolding grouped_after
spelt_cons a g e last vs (Kind.whole p) s = rw p (spelt_whole a e vs (rw p at s))
spelt_cons a g e last vs (Kind.argument {i} h l p) s = spelt_argument a g e i vs l (rw (grouped_argument g i h, eqb-suc-zero i) at s)
spelt_cons a g e last vs (Kind.opening p q) s = rw p (spelt_opening a e vs s)
spelt_cons a g e last vs (Kind.closing p q) s = rw p (spelt_closing a e vs s)

-- may just n numbers follow, in a group or not, behind a 0 or not? None only outside a group and behind a 0, or at the start
abbrev MayEnd : Bool → Bool → ℕ → Type 0
MayEnd g e (suc n) = Unit {0}
MayEnd true e zero = ⊥
MayEnd false true zero = Unit {0}
MayEnd false false zero = ⊥

more : (g e : Bool) (n : ℕ) → eqb n 0 ≡ false → MayEnd g e n
more g e zero p = absurd (true≢false p)
more g e (suc n) p = tt

outside : (n : ℕ) → MayEnd false true n
outside zero = tt
outside (suc n) = tt

may_end : (a : ℕ) (g : Bool) (n : ℕ) {v : ℕ} → Kind a g (eqb n 0) v → MayEnd (grouped_after g v) (eqb v 0) n
unfolding grouped_after
may_end a g n (Kind.whole p) = rw p (outside n)
may_end a g n (Kind.argument {i} h l p) = more (grouped_after g (suc i)) (eqb (suc i) 0) n p
may_end a g n (Kind.opening p q) = more true false n q
may_end a g n (Kind.closing p q) = more false false n q

-- numbers that may stand here are those of some items
spelt : (a : ℕ) (g e : Bool) (vs : List ℕ) → MayEnd g e (length vs) → Allowed a g vs → Spelt a g e vs
unfolding numbers
spelt a true e [] m h = absurd m
spelt a false true [] m h = ([], refl, tt, tt)
spelt a false false [] m h = absurd m
spelt a g e (v ∷ vs) m h =
    let k = kind a g (eqb (length vs) 0) v h.1 in
    spelt_cons a g e (eqb (length vs) 0) vs k (spelt a (grouped_after g v) (eqb v 0) vs (may_end a g (length vs) k) h.2)

-- Reading numbers

-- the rest of the reading behind a number v
unfoldable pub rest : ℕ → Bool → ℕ → ℕ → Reader (List ℕ)
unfolding refuse
rest a g n v = elim (allowed a g (eqb n 0) v) [ false ↦ refuse 3 | true ↦ read_numbers a (grouped_after g v) n >>= (λ vs. return (v ∷ vs)) ]

pub read_numbers_suc : (a : ℕ) (g : Bool) (n : ℕ) (xs : List ℕ) → read_numbers a g (suc n) xs ≡ (field 4 >>= rest a g n) xs
unfolding read_numbers rest
read_numbers_suc a g n xs = refl

pub rest_allowed : (a : ℕ) (g : Bool) (n v : ℕ) (xs : List ℕ) → allowed a g (eqb n 0) v ≡ true →
    rest a g n v xs ≡ (read_numbers a (grouped_after g v) n >>= (λ vs. return (v ∷ vs))) xs
unfolding rest
rest_allowed a g n v xs e = rw (e, rest)

pub rest_refused : (a : ℕ) (g : Bool) (n v : ℕ) (xs : List ℕ) → allowed a g (eqb n 0) v ≡ false → rest a g n v xs ≡ refused 3
unfolding rest
rest_refused a g n v xs e = rw (e, rest)

-- what reading n numbers leaves
abbrev NumbersRead : ℕ → Bool → ℕ → Read (List ℕ) → Type 0
NumbersRead a g n r = (length r.value ≡ n) × Allowed a g r.value × All (λ x. x < 2) r.left

rest_read : (a : ℕ) (g : Bool) (n v : ℕ) (xs : List ℕ) (r : Read (List ℕ)) → v < 16 →
    ((s : Read (List ℕ)) → read_numbers a (grouped_after g v) n xs ≡ accepted s → NumbersRead a (grouped_after g v) n s) →
    rest a g n v xs ≡ accepted r → NumbersRead a g (suc n) r
rest_read a g n v xs r b f e = go (either (allowed a g (eqb n 0) v))
  where
    go : (allowed a g (eqb n 0) v ≡ true) ⊎ (allowed a g (eqb n 0) v ≡ false) → NumbersRead a g (suc n) r
    go (inl p) =
        let (s, q, t) = bind_accepted (read_numbers a (grouped_after g v) n) (λ vs. return (v ∷ vs)) xs r (sym (rest_allowed a g n v xs p) ∙ e) in
        let (l, k, h) = f s q in
        return_accepted (v ∷ s.value) s.left r (NumbersRead a g (suc n)) t
        (ap suc l, (b, ap (λ (m : ℕ). allowed a g (eqb m 0) v) l ∙ p, k), h)
    go (inr p) = absurd (refused_accepted (sym (rest_refused a g n v xs p) ∙ e))

-- numbers that are read may stand here
read_allowed : (a : ℕ) (g : Bool) (n : ℕ) (xs : List ℕ) (r : Read (List ℕ)) → All (λ x. x < 2) xs → read_numbers a g n xs ≡ accepted r →
    NumbersRead a g n r
unfolding read_numbers
read_allowed a g zero xs r h e = return_accepted [] xs r (NumbersRead a g 0) e (refl, tt, h)
read_allowed a g (suc n) xs r h e =
    let (v, p, q) = bind_accepted (field 4) (rest a g n) xs r (sym (read_numbers_suc a g n xs) ∙ e) in
    let (b, l) = field_bounded 4 xs v h p in
    rest_read a g n v.value v.left r b (λ s. read_allowed a (grouped_after g v.value) n v.left s l) q

-- numbers that are read outside a group are those of some items
pub read_spelt : (a n : ℕ) (xs : List ℕ) (r : Read (List ℕ)) → All (λ x. x < 2) xs → read_numbers a false n xs ≡ accepted r →
    (is : List Item) × (r.value ≡ numbers is) × ItemsWithin a is × EndsWhole is
read_spelt a n xs r h e = let (l, k, t) = read_allowed a false n xs r h e in spelt a false true r.value (outside (length r.value)) k

-- numbers that may stand here are read back
read_back : (a : ℕ) (g : Bool) (vs xs : List ℕ) → Allowed a g vs → read_numbers a g (length vs) (concat (to_bits 4) vs ++ xs) ≡ return vs xs
unfolding read_numbers concat
read_back a g [] xs h = refl
read_back a g (v ∷ vs) xs (b, p, h) =
    let ys : List ℕ = concat (to_bits 4) vs ++ xs in
    ap (read_numbers a g (suc (length vs))) (append_assoc (to_bits 4 v) (concat (to_bits 4) vs) xs)
    ∙ read_numbers_suc a g (length vs) (to_bits 4 v ++ ys)
    ∙ bind_return (field 4) (rest a g (length vs)) (to_bits 4 v ++ ys) ys v (field_to_bits 4 v ys b)
    ∙ rest_allowed a g (length vs) v ys p
    ∙ bind_return (read_numbers a (grouped_after g v) (length vs)) (λ us. return (v ∷ us)) ys xs vs (read_back a (grouped_after g v) vs xs h)

-- the numbers of items may stand here
numbers_more : (is : List Item) → EndsAfter false is → eqb (length (numbers is)) 0 ≡ false
unfolding numbers
numbers_more [] h = absurd h
numbers_more (Item.whole ∷ is) h = eqb-suc-zero (length (numbers is))
numbers_more (Item.argument i ∷ is) h = eqb-suc-zero (length (numbers is))
numbers_more (Item.group js ∷ is) h = eqb-suc-zero (length (map suc js ++ (9 ∷ numbers is)))

append_more : (us : List ℕ) (v : ℕ) (vs : List ℕ) → eqb (length (us ++ (v ∷ vs))) 0 ≡ false
append_more [] v vs = eqb-suc-zero (length vs)
append_more (u ∷ us) v vs = eqb-suc-zero (length (us ++ (v ∷ vs)))

argument_allowed : (a : ℕ) (g : Bool) (i : ℕ) (vs : List ℕ) → a < 8 → i < a → eqb (length vs) 0 ≡ false → Allowed a g vs →
    Allowed a g (suc i ∷ vs)
argument_allowed a g i vs l h e k = (
  omega arith,
  allowed_argument a g (eqb (length vs) 0) i (omega arith) ∙ rw e (ltb_true i a h),
  rw (grouped_argument g i (omega arith)) k,
)

group_allowed : (a : ℕ) (js vs : List ℕ) → a < 8 → All (λ j. j < a) js → eqb (length vs) 0 ≡ false → Allowed a false vs →
    Allowed a true (map suc js ++ (9 ∷ vs))
unfolding allowed grouped_after
group_allowed a [] vs l s e k = (omega arith, rw e, k)
group_allowed a (j ∷ js) vs l s e k =
    argument_allowed a true j (map suc js ++ (9 ∷ vs)) l s.0 (append_more (map suc js) 9 vs) (group_allowed a js vs l s.1 e k)

numbers_allowed : (a : ℕ) (b : Bool) (is : List Item) → a < 8 → ItemsWithin a is → EndsAfter b is → Allowed a false (numbers is)
unfolding numbers allowed grouped_after
numbers_allowed a b [] l w n = tt
numbers_allowed a b (Item.whole ∷ is) l w n = (omega arith, refl, numbers_allowed a true is l w n)
numbers_allowed a b (Item.argument i ∷ is) l w n =
    argument_allowed a false i (numbers is) l w.0 (numbers_more is n) (numbers_allowed a false is l w.1 n)
numbers_allowed a b (Item.group js ∷ is) l w n = (
  omega arith,
  rw (append_more (map suc js) 9 (numbers is)),
  group_allowed a js (numbers is) l w.0 (numbers_more is n) (numbers_allowed a false is l w.1 n),
)

-- Operators

pub good_distinct : (o : Operator) → GoodOperator o → Distinct (layout o.strategy)
good_distinct o g = subst (λ (is : List Item). Distinct (layout is)) g.settled (settled_distinct o.strategy)

pub good_within : (o : Operator) → GoodOperator o → Within o.arity (layout o.strategy)
good_within o g = layout_within o.arity o.strategy g.within

default_good : (a : ℕ) → a < 8 → GoodOperator (record { arity = a; strategy = default a })
default_good a l =
    record { arity = l; settled = default_settled a; within = default_items a; ends = default_ends a; short = omega (arith, default_length a) }

settled_good : (a : ℕ) (vs : List ℕ) → a < 8 → length vs < 32 → Allowed a false vs →
    GoodOperator (record { arity = a; strategy = settle (items vs) })
settled_good a vs l b h =
    let (is, p, w, n) = spelt a false true vs (outside (length vs)) h in
    let e : items vs ≡ is = ap items p ∙ items_numbers is (within_more a 7 is (omega arith) w) in
    subst (λ (js : List Item). GoodOperator (record { arity = a; strategy = settle js })) (sym e)
    (record {
      arity = l;
      settled = settle_twice is;
      within = settled_within a is w;
      ends = settled_ends is n;
      short = omega (arith, settled_length is, ap length p);
    })

-- the reading of a given list, behind its count and behind its numbers
abbrev settled_items : List ℕ → Reader (List Item)
settled_items vs = return (settle (items vs))

abbrev counted : ℕ → ℕ → Reader (List Item)
counted a n = read_numbers a false n >>= settled_items

-- what reading a strategy leaves
abbrev pub StrategyRead : ℕ → Read (List Item) → Type 0
StrategyRead a r = GoodOperator (record { arity = a; strategy = r.value }) × All (λ x. x < 2) r.left

pub read_strategy_good : (a given : ℕ) (xs : List ℕ) (r : Read (List Item)) → a < 8 → All (λ x. x < 2) xs → read_strategy a given xs ≡ accepted r →
    StrategyRead a r
unfolding read_strategy
read_strategy_good a zero xs r l h e = return_accepted (default a) xs r (StrategyRead a) e (default_good a l, h)
read_strategy_good a (suc given) xs r l h e =
    let (n, p, q) = bind_accepted (field 5) (counted a) xs r e in
    let (b, h') = field_bounded 5 xs n h p in
    let (s, p', q') = bind_accepted (read_numbers a false n.value) settled_items n.left r q in
    let (k, t, h'') = read_allowed a false n.value n.left s h' p' in
    return_accepted (settle (items s.value)) s.left r (StrategyRead a) q' (settled_good a s.value l (omega arith) t, h'')

-- the reading of an operator, behind its arity, its bit and its strategy
abbrev with_strategy : ℕ → List Item → Reader Operator
with_strategy a is = return (record { arity = a; strategy = is })

abbrev with_given : ℕ → ℕ → Reader Operator
with_given a given = read_strategy a given >>= with_strategy a

abbrev with_arity : ℕ → Reader Operator
with_arity a = field 1 >>= with_given a

-- what the reader accepts is good
pub read_operator_good : (xs : List ℕ) (r : Read Operator) → All (λ x. x < 2) xs → read_operator xs ≡ accepted r →
    GoodOperator r.value × All (λ x. x < 2) r.left
unfolding read_operator
read_operator_good xs r h e =
    let (a, p, q) = bind_accepted (field 3) with_arity xs r e in
    let (l, h') = field_bounded 3 xs a h p in
    let (b, p', q') = bind_accepted (field 1) (with_given a.value) a.left r q in
    let (u, h'') = field_bounded 1 a.left b h' p' in
    let (s, p'', q'') = bind_accepted (read_strategy a.value b.value) (with_strategy a.value) b.left r q' in
    return_accepted (record { arity = a.value; strategy = s.value }) s.left r (λ r. GoodOperator r.value × All (λ x. x < 2) r.left) q''
    (read_strategy_good a.value b.value b.left s l h'' p'')

-- Writing

pub same_equal : (xs ys : List ℕ) → same xs ys ≡ true → xs ≡ ys
unfolding same
same_equal [] [] e = refl
same_equal [] (y ∷ ys) e = absurd (false≢true e)
same_equal (x ∷ xs) [] e = absurd (false≢true e)
same_equal (x ∷ xs) (y ∷ ys) e =
    elim (either (eqb x y)) [
      | inl p ↦ ap₂ (λ (z : ℕ) (zs : List ℕ). z ∷ zs) (eqb_equal x y p) (same_equal xs ys (rw (p, same) at e))
      | inr p ↦ absurd (false≢true (rw (p, same) at e))
    ]

same_self : (xs : List ℕ) → same xs xs ≡ true
unfolding same
same_self [] = refl
same_self (x ∷ xs) = rw (eqb_true x x refl, same) (same_self xs)

pub same_true : (xs ys : List ℕ) → xs ≡ ys → same xs ys ≡ true
same_true xs ys e = ap (same xs) (sym e) ∙ same_self xs

pub same_false : (xs ys : List ℕ) → xs ≢ ys → same xs ys ≡ false
same_false xs ys d = elim (either (same xs ys)) [ inl e ↦ absurd (d (same_equal xs ys e)) | inr e ↦ e ]

-- what is read of zs: whether a list is given, and the strategy `is`; xs is left
abbrev ReadBack : ℕ → List Item → List ℕ → List ℕ → Type 0
ReadBack a is zs xs = (given : ℕ) × (ys : List ℕ) × (field 1 zs ≡ return given ys) × (read_strategy a given ys ≡ return is xs)

module _ (a : ℕ) (is : List Item) (xs : List ℕ) (g : GoodOperator (record { arity = a; strategy = is })) where
  known : items (numbers is) ≡ is
  known = items_numbers is (within_more a 7 is (omega (arith, g.arity)) g.within)

  write_default_read : numbers is ≡ numbers (default a) → ReadBack a is (to_bits 1 0 ++ xs) xs
  unfolding read_strategy
  write_default_read e =
      let l : a ≤ 7 = omega (arith, g.arity) in (
        0,
        xs,
        field_to_bits 1 0 xs (omega arith),
        ap (λ (js : List Item). return js xs) (sym (items_numbers (default a) (within_more a 7 (default a) l (default_items a))) ∙ ap items (sym e) ∙ known),
      )

  write_given_read : ReadBack a is (to_bits 1 1 ++ (to_bits 5 (length (numbers is)) ++ concat (to_bits 4) (numbers is)) ++ xs) xs
  unfolding read_strategy
  write_given_read =
      let n : ℕ = length (numbers is) in
      let bs : List ℕ = concat (to_bits 4) (numbers is) in (
        1,
        to_bits 5 n ++ (bs ++ xs),
        ap (field 1) (append_assoc (to_bits 1 1) (to_bits 5 n ++ bs) xs ∙ ap (λ (ys : List ℕ). to_bits 1 1 ++ ys) (append_assoc (to_bits 5 n) bs xs))
            ∙ field_to_bits 1 1 (to_bits 5 n ++ (bs ++ xs)) (omega arith),
        bind_return (field 5) (counted a) (to_bits 5 n ++ (bs ++ xs)) (bs ++ xs) n
            (field_to_bits 5 n (bs ++ xs) g.short)
            ∙ bind_return (read_numbers a false n) settled_items (bs ++ xs) xs (numbers is)
            (read_back a false (numbers is) xs (numbers_allowed a true is g.arity g.within g.ends))
            ∙ ap (λ (js : List Item). return js xs) (ap settle known ∙ g.settled),
      )

  write_strategy_read : ReadBack a is (write_strategy a is ++ xs) xs
  unfolding write_strategy
  write_strategy_read = go (either (same (numbers is) (numbers (default a))))
    where
      go : (same (numbers is) (numbers (default a)) ≡ true) ⊎ (same (numbers is) (numbers (default a)) ≡ false) →
          ReadBack a is (write_strategy a is ++ xs) xs
      go (inl p) = rw p (write_default_read (same_equal (numbers is) (numbers (default a)) p))
      go (inr p) = rw p write_given_read

-- a good operator is read back
pub write_operator_read : (o : Operator) (xs : List ℕ) → GoodOperator o → read_operator (write_operator o ++ xs) ≡ return o xs
unfolding read_operator write_operator
write_operator_read o xs g =
    let a : ℕ = o.arity in
    let ws : List ℕ = write_strategy a o.strategy ++ xs in
    let (given, ys, p, q) = write_strategy_read a o.strategy xs g in
    ap read_operator (append_assoc (to_bits 3 a) (write_strategy a o.strategy) xs)
    ∙ bind_return (field 3) with_arity (to_bits 3 a ++ ws) ws a (field_to_bits 3 a ws g.arity)
    ∙ bind_return (field 1) (with_given a) ws ys given p
    ∙ bind_return (read_strategy a given) (with_strategy a) ys xs o.strategy q
