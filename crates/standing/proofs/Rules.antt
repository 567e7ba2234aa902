-- The rules of a dated book by their numbers: where their left sides and days stand, which of them replaces another, which stand, and the table that
-- has these at its front. Assumes nothing.
use mathlib.Core.Bool.{Bool, true, false, not}
use mathlib.Core.List.{List, [], ◌∷◌, ◌++◌, map, append_assoc, append-nil}
use mathlib.Core.Logic.{inl, inr, ◌≢◌}
use mathlib.Core.Path.{◌≡◌, refl, sym, ap, ◌∙◌, subst}
use Prim.Native.Nat.{ℕ, suc, ◌+◌, ◌*◌, ◌≤◌, ◌<◌}
use native.Mathlib.Omega.{arith}
use lib.Dec.{leb}
use lib.ListN.{length, get_or, set, take, drop, replicate, length-map, length-set, length-append, drop_of_length-le, get_or-map}
use lib.Seq.{take-length, length-take-le, get_or-take, get_or-set_same, get_or-set_other}
use borrow.Author.Count.{below_more}
use Rattle.paper.specs.Result.{if}
use Rattle.paper.specs.Tree.{node, label, preorder}
use Rattle.paper.specs.Book.{Side, Rule}
use Rattle.paper.specs.Sound.{All, IsOperator}
use Rattle.paper.specs.Naming.{alike}
use Rattle.paper.specs.Dated.{DatedRule, replaces, replaced, stands, standing}
use Rattle.paper.specs.Writer.{write_side}
use Rattle.paper.specs.WellFormed.{Fits, GoodDatedRule}
use Rattle.paper.proofs.Lists.{all_map}
use Rattle.paper.proofs.Tests.{leb_cases}
use Rattle.paper.proofs.Standing.{standing_here, standing_not, replaced_here, replaced_not}
use Rattle.tables.specs.Layout.{day_in, left_in, right_in, with_sides}
use Rattle.tables.specs.Tables.{RuleIn, rule_at, Sides}
use Rattle.tables.proofs.Laws.{all_at, stand_inside}
use Rattle.tables.proofs.Grow.{rules_grow, sides_day}
use Rattle.side.specs.Promises.{bits_at, NumberFits}
use Rattle.side.proofs.There.{number_fits}
use Rattle.standing.specs.Keys.{size, key}
use Rattle.standing.specs.Dates.{dated_at, left_at, dated_book, rules_of, AllDated}
use Rattle.standing.specs.Promises.{Spans, KeyOf, DayBefore, Kept}
use Rattle.standing.proofs.Keys.{key_size, keys_differ, span_end}
use Rattle.standing.proofs.Walk.{Walk, walk_starts}

-- WHERE A RULE STANDS

module _ {bytes rules : List ℕ} (A : AllDated bytes rules) (i : ℕ) (l : i < length (rules_of bytes)) where
  abbrev rule : DatedRule
  rule = dated_at (rules_of bytes) i

  pub number_small : i < 255
  number_small = omega (arith, A.good.few_rules)

  good_rule : GoodDatedRule (dated_book bytes).operators rule
  good_rule = all_at _ _ (rules_of bytes) i A.good.rules l

  pub rule_in : RuleIn bytes rule.rule (left_in rules i) (right_in rules i)
  rule_in =
      let e : rule_at (map (λ r. r.rule) (rules_of bytes)) i ≡ rule.rule = get_or-map (λ r. r.rule) (rules_of bytes) i _ in
      subst (λ (r : Rule). RuleIn bytes r (left_in rules i) (right_in rules i)) e
      (A.sides.each i (omega (arith, length-map (rules_of bytes) (λ r. r.rule))))

  fits : All NumberFits (preorder rule.rule.left)
  fits =
      let g = good_rule.rule.left.fits in
      all_map (Fits (dated_book bytes).operators) NumberFits (λ s f. number_fits _ s (omega (arith, A.good.few_operators)) f) (preorder rule.rule.left) g

  pub left_spans : Spans bytes (left_in rules i) (right_in rules i) (preorder rule.rule.left)
  unfolding write_side
  left_spans = record {
    is = (A.dates.each i l).left_ends;
    goes_on = stand_inside bytes (right_in rules i) rule.rule.right rule_in.right_stands;
    fits = fits;
  }

  pub left_before : (left end : ℕ) → left ≡ left_in rules i → end ≡ right_in rules i → (left ≤ end) × (end < 8 * length bytes) × (16 ≤ left)
  left_before left end e f = let p = left_spans in (omega (arith, span_end p), omega (arith, p.goes_on), omega (arith, (A.dates.each i l).early))

  pub day_is : (left r : ℕ) → left ≡ left_in rules i → DayBefore bytes left r → r ≡ rule.day
  day_is left r e d = d.is rule.day (bits_at bytes (left_in rules i)) (rw e (A.dates.each i l).day_read)

-- SIDES OF ONE KEY

side_size : (s u : Side) → IsOperator (label s) → IsOperator (label u) → All NumberFits (preorder s) → All NumberFits (preorder u) →
    key (preorder s) ≡ key (preorder u) → size (preorder s) ≡ size (preorder u)
unfolding label preorder
side_size (node s ss) (node u us) a b f g e = key_size s u _ _ a b f g e

side_key : (bytes : List ℕ) (left end r : ℕ) (s : Side) → KeyOf bytes left end r → Spans bytes left end (preorder s) → r ≡ key (preorder s)
unfolding preorder
side_key bytes left end r (node s ss) k p = k.is s _ p

module _ {bytes rules : List ℕ} (A : AllDated bytes rules) where
  abbrev all : List DatedRule
  all = rules_of bytes

  pub key_is : {i left end r : ℕ} → i < length all → left ≡ left_in rules i → end ≡ right_in rules i → KeyOf bytes left end r → r ≡ key (preorder (left_at all i))
  key_is {i} {left} {end} {r} l e f k = side_key bytes left end r (left_at all i) k (rw (e, f) (left_spans A i l))

  pub alike_starts : {i j at end other : ℕ} → i < length all → j < length all → key (preorder (left_at all i)) ≡ key (preorder (left_at all j)) → end ≡ right_in rules i →
      at ≡ left_in rules i → other ≡ left_in rules j → Walk bytes at end other (replicate 16 0) (replicate 16 0) 0 (alike (left_at all i) (left_at all j))
  unfolding alike write_side
  alike_starts {i} {j} l m k e f g =
      let p = (good_rule A i l).rule in
      let q = (good_rule A j m).rule in
      rw (e, f, g)
      (walk_starts (preorder (left_at all j)) (bits_at bytes (right_in rules j)) (left_spans A i l) (left_spans A j m).is (left_spans A j m).fits
      (side_size (left_at all i) (left_at all j) p.root q.root (left_spans A i l).fits (left_spans A j m).fits k) p.left.short)

-- the keys of the first n rules are put
abbrev pub KeysUpTo : List ℕ → List ℕ → ℕ → Type 0
KeysUpTo bytes keys n = (i : ℕ) → i < n → get_or keys i 0 ≡ key (preorder (left_at (rules_of bytes) i))

pub keys_more : (bytes keys : List ℕ) {i r : ℕ} → KeysUpTo bytes keys i → length keys ≡ 256 → i < 255 → r ≡ key (preorder (left_at (rules_of bytes) i)) →
    KeysUpTo bytes (set keys i r) (i + 1) × (length (set keys i r) ≡ 256)
keys_more bytes keys {i} {r} h long l e = (
  below_more (λ j. get_or (set keys i r) j 0 ≡ key (preorder (left_at (rules_of bytes) j))) i
      (λ j k. get_or-set_other keys i j r 0 (λ q. omega arith) ∙ h j k) (get_or-set_same keys i r 0 (omega arith) ∙ e),
  length-set keys i r ∙ long,
)

-- ONE RULE REPLACES ANOTHER

module _ (first last : ℕ) (l : Side) (r : DatedRule) where
  -- what is told by its day
  pub replaces_early : r.day < first → false ≡ replaces first last l r
  unfolding replaces
  replaces_early h = elim (leb_cases first r.day) [ inl p ↦ absurd (omega (arith, p.1)) | inr p ↦ sym (rw p.0) ]

  pub replaces_late : first ≤ r.day → last < r.day → false ≡ replaces first last l r
  unfolding replaces
  replaces_late k h = elim (leb_cases r.day last) [
    | inl p ↦ absurd (omega (arith, p.1))
    | inr p ↦ elim (leb_cases first r.day) [ inl q ↦ sym (rw (q.0, p.0)) | inr q ↦ absurd (omega (arith, q.1)) ]
  ]

  pub replaces_alike : first ≤ r.day → r.day ≤ last → replaces first last l r ≡ alike r.rule.left l
  unfolding replaces
  replaces_alike k h = elim (leb_cases r.day last) [
    | inl p ↦ elim (leb_cases first r.day) [ inl q ↦ rw (q.0, p.0) | inr q ↦ absurd (omega (arith, q.1)) ]
    | inr p ↦ absurd (omega (arith, p.1))
  ]

  -- and by its key
  pub replaces_other : key (preorder r.rule.left) ≢ key (preorder l) → replaces first last l r ≡ false
  unfolding replaces
  replaces_other d = rw (keys_differ r.rule.left l d) (go (leb first r.day) (leb r.day last))
    where
      go : (a b : Bool) → if a (if b false false) false ≡ false
      go true true = refl
      go true false = refl
      go false b = refl

-- one of the rules up to a number
module _ (first last : ℕ) (l : Side) (rs : List DatedRule) (to j : ℕ) (few : to ≤ length rs) (h : j < to) where
  inside : j < length (take to rs)
  inside = omega (arith, length-take-le to rs few)

  at_front : dated_at (take to rs) j ≡ dated_at rs j
  at_front = get_or-take to rs j _ h

  pub replaced_found : {b c : Bool} → b ≡ true → b ≡ replaces first last l (dated_at rs j) → c ≡ replaced first last l (drop j (take to rs)) → true ≡ c
  replaced_found t e i = sym (i ∙ replaced_here first last l (take to rs) j inside (ap (replaces first last l) at_front ∙ sym e ∙ t))

  pub replaced_next : replaces first last l (dated_at rs j) ≡ false → replaced first last l (drop j (take to rs)) ≡ replaced first last l (drop (j + 1) (take to rs))
  replaced_next e = replaced_not first last l (take to rs) j inside (ap (replaces first last l) at_front ∙ e)

pub replaced_none : (first last : ℕ) (l : Side) (rs : List DatedRule) (to j : ℕ) {c : Bool} → to ≤ length rs → to ≤ j →
    c ≡ replaced first last l (drop j (take to rs)) → false ≡ c
unfolding replaced
replaced_none first last l rs to j few h i =
    let k : length (take to rs) ≤ j = omega (arith, length-take-le to rs few) in
    let e : drop j (take to rs) ≡ [] = drop_of_length-le (take to rs) k in
    sym (rw e at i)

-- A RULE STANDS

-- those behind it are all that follow
pub behind_all : (rs : List DatedRule) (m j : ℕ) → m ≡ length rs → drop j (take m rs) ≡ drop j rs
behind_all rs m j e = ap (drop j) (ap (λ (k : ℕ). take k rs) e ∙ take-length rs)

module _ (day : ℕ) (before : List DatedRule) (r : DatedRule) (behind : List DatedRule) where
  pub stands_late : day < r.day → false ≡ stands day before r behind
  unfolding stands
  stands_late h = elim (leb_cases r.day day) [ inl p ↦ absurd (omega (arith, p.1)) | inr p ↦ sym (rw p.0) ]

  module _ (own x : ℕ) (e : own ≡ r.day) (h : own ≤ day) (x_is : x ≡ own + 1) where
    come : leb r.day day ≡ true
    come = elim (leb_cases r.day day) [ inl p ↦ p.0 | inr p ↦ absurd (omega (arith, p.1)) ]

    next : x ≡ suc r.day
    next = omega arith

    pub stands_not : {b : Bool} → b ≡ true → b ≡ replaced x day r.rule.left before → false ≡ stands day before r behind
    unfolding stands
    stands_not t f = let g : replaced (suc r.day) day r.rule.left before ≡ true = sym (rw next at f) ∙ t in sym (rw (come, g))

    pub stands_unless : {a b : Bool} {behind' : List DatedRule} → a ≡ false → a ≡ replaced x day r.rule.left before → behind' ≡ behind →
        b ≡ replaced own day r.rule.left behind' → not b ≡ stands day before r behind
    unfolding stands
    stands_unless {b = b} t f d g =
        let f' : replaced (suc r.day) day r.rule.left before ≡ false = sym (rw next at f) ∙ t in
        let g' : replaced r.day day r.rule.left behind ≡ b = sym (rw (e, d) at g) in
        sym (rw (come, f', g'))

-- THE TABLE

-- the table has those of the first i rules that stand
pub record Keeping (bytes : List ℕ) (day : ℕ) (rules₀ rules : List ℕ) (k i : ℕ) : Type 0 where
  pub kept : List Rule
  pub sides : Sides bytes kept rules
  pub count : length kept ≡ k
  pub few : k ≤ i
  pub whole : kept ++ standing day (take i (rules_of bytes)) (drop i (rules_of bytes)) ≡ standing day [] (rules_of bytes)
  pub same_day : day_in rules ≡ day_in rules₀

module _ {bytes rules₀ : List ℕ} {day : ℕ} (A : AllDated bytes rules₀) where
  pub keeping_none : Keeping bytes day rules₀ rules₀ 0 0
  keeping_none = record {
    kept = [];
    sides = record { each = λ i l. absurd (omega arith); long = A.sides.long };
    count = refl;
    few = omega arith;
    whole = refl;
    same_day = refl;
  }

  module _ {rules : List ℕ} {k i : ℕ} (K : Keeping bytes day rules₀ rules k i) (l : i < length (rules_of bytes)) where
    abbrev StandsIs : Bool → Type 0
    StandsIs b = b ≡ stands day (take i (rules_of bytes)) (dated_at (rules_of bytes) i) (drop (i + 1) (rules_of bytes))

    pub keeping_more : {b : Bool} {rules' : List ℕ} → b ≡ true → StandsIs b → rules' ≡ with_sides rules k (left_in rules₀ i) (right_in rules₀ i) →
        Keeping bytes day rules₀ rules' (k + 1) (i + 1)
    keeping_more {b} {rules'} t s g =
        let left : ℕ = left_in rules₀ i in
        let right : ℕ = right_in rules₀ i in
        let r : Rule = (dated_at (rules_of bytes) i).rule in
        let small : i < 255 = number_small A i l in
        let K' : Keeping bytes day rules₀ (with_sides rules k left right) (k + 1) (i + 1) = record {
          kept = K.kept ++ (r ∷ []);
          sides = rules_grow bytes r k left right rules (omega (arith, K.few)) (rule_in A i l) K.kept K.count K.sides;
          count = omega (arith, length-append K.kept (r ∷ []), K.count);
          few = omega (arith, K.few);
          whole =
              append_assoc K.kept (r ∷ []) _ ∙ ap (λ (qs : List Rule). K.kept ++ qs) (sym (standing_here day (rules_of bytes) i l (sym s ∙ t))) ∙ K.whole;
          same_day = sides_day rules k left right (omega (arith, K.few)) ∙ K.same_day;
        } in
        rw g K'

    pub keeping_same : {b : Bool} → b ≡ false → StandsIs b → Keeping bytes day rules₀ rules k (i + 1)
    keeping_same t s = record {
      kept = K.kept;
      sides = K.sides;
      count = K.count;
      few = omega (arith, K.few);
      whole = ap (λ (qs : List Rule). K.kept ++ qs) (sym (standing_not day (rules_of bytes) i l (sym s ∙ t))) ∙ K.whole;
      same_day = K.same_day;
    }

  pub keeping_all : {rules : List ℕ} {k i d : ℕ} → Keeping bytes day rules₀ rules k i → length (rules_of bytes) ≤ i → day ≡ d → Kept bytes d rules₀ rules k
  unfolding standing
  keeping_all {rules} {k} {i} K h same =
      let e : drop i (rules_of bytes) ≡ [] = drop_of_length-le (rules_of bytes) h in
      let w : K.kept ≡ standing day [] (rules_of bytes) = sym (append-nil K.kept) ∙ (rw e at K.whole) in
      subst (λ (d : ℕ). Kept bytes d rules₀ rules k) same
      (record {
        sides = subst (λ (qs : List Rule). Sides bytes qs rules) w K.sides;
        count = sym (ap length w) ∙ K.count;
        same_day = K.same_day;
      })
