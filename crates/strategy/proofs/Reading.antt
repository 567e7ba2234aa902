-- Reading a strategy in parts: what the paper's readers answer, by what a field, an item and the items behind it answer. Assumes nothing.
use mathlib.Core.Bool.{Bool, true, false}
use mathlib.Core.List.{List, [], ◌∷◌, ◌++◌, append_assoc, append-nil}
use mathlib.Core.Path.{◌≡◌, refl, sym, ap, ap₂, ◌∙◌}
use Prim.Native.Nat.{ℕ, zero, suc, ◌+◌, ◌≤◌, ◌<◌}
use native.Mathlib.Omega.{arith}
use lib.Dec.{eqb}
use lib.ListN.{length, take, drop, set}
use lib.Seq.{take-suc-set}
use native.Mathlib.Numerals.{add-one}
use Rattle.paper.specs.Result.{Result, refused, accepted, Read, Reader, if, return, then, ◌>>=◌}
use Rattle.paper.specs.Bits.{bits_of, field}
use Rattle.paper.specs.Strategy.{Item, default, settle}
use Rattle.paper.specs.Reader.{allowed, grouped_after, read_numbers, items, read_strategy}
use Rattle.paper.specs.Writer.{numbers}
use Rattle.paper.proofs.Readers.{bind_return, bind_accepted, accepted_injective}
use Rattle.paper.proofs.Bits.{all_drop, field_bounded}
use Rattle.paper.proofs.Bytes.{bits_below}
use Rattle.paper.proofs.Settling.{within_more}
use Rattle.paper.specs.Sound.{All}
use Rattle.paper.specs.WellFormed.{GoodOperator}
use Rattle.paper.proofs.Operators.{rest, read_numbers_suc, rest_allowed, rest_refused, read_spelt, read_strategy_good, items_numbers}
use Rattle.std.specs.Prelude.{Ok, Err}
use Rattle.std.specs.Prelude.{Result as Answer}
use Rattle.refusal.specs.declared.Refusal.{Refusal}
use Rattle.refusal.specs.Numbers.{number}
use Rattle.strategy.specs.declared.Listed.{Listed}
use Rattle.strategy.specs.Promises.{turn, spelt, SettledList, NumbersAt, GivenAt, StrategyAt}
use Rattle.strategy.specs.Settling.{settling, AtFront}
use Rattle.strategy.proofs.OnePass.{settles}

-- a refusal stays
pub bind_refused : {A B : Type 0} (p : Reader A) (k : A → Reader B) (xs : List ℕ) (e : ℕ) → p xs ≡ refused e → (p >>= k) xs ≡ refused e
unfolding ◌>>=◌
bind_refused {A} p k xs e h = ap (λ (x : Result (Read A)). then x (λ r. k r.value r.left)) h

-- Items

-- the answer with some values in front
abbrev pub prepend : {A : Type 0} → List A → Result (Read (List A)) → Result (Read (List A))
prepend us (refused e) = refused e
prepend us (accepted r) = accepted (record { value = us ++ r.value; left = r.left })

pub prepend_none : {A : Type 0} (x : Result (Read (List A))) → prepend [] x ≡ x
prepend_none (refused e) = refl
prepend_none (accepted r) = refl

prepend_both : (us vs : List ℕ) (x : Result (Read (List ℕ))) → prepend us (prepend vs x) ≡ prepend (us ++ vs) x
prepend_both us vs (refused e) = refl
prepend_both us vs (accepted r) = ap (λ (l : List ℕ). accepted (record { value = l; left = r.left })) (sym (append_assoc us vs r.value))

prepend_bind : (p : Reader (List ℕ)) (v : ℕ) (xs : List ℕ) → (p >>= (λ vs. return (v ∷ vs))) xs ≡ prepend (v ∷ []) (p xs)
unfolding ◌>>=◌ return
prepend_bind p v xs = go (p xs)
  where
    go : (x : Result (Read (List ℕ))) → then x (λ r. return (v ∷ r.value) r.left) ≡ prepend (v ∷ []) x
    go (refused e) = refl
    go (accepted r) = refl

-- what a turn's answer says
turn_cases : (b g h : Bool) → ◌≡◌ {A = Answer Bool Refusal} (if b (Ok g) (Err Refusal.BadStrategy)) (Ok h) → (b ≡ true) × (g ≡ h)
turn_cases true g h e = (refl, cc)
turn_cases false g h e = let z : ◌≡◌ {A = ℕ} 0 1 = cc in absurd (omega arith)

turn_none : (b g : Bool) (d : Refusal) → ◌≡◌ {A = Answer Bool Refusal} (if b (Ok g) (Err Refusal.BadStrategy)) (Err d) → (b ≡ false) × (number d ≡ 3)
turn_none true g d e = let z : ◌≡◌ {A = ℕ} 0 1 = cc in absurd (omega arith)
turn_none false g d e = (refl, ap (λ (x : Answer Bool Refusal). elim x [ Ok _ ↦ 0 | Err r ↦ number r ]) (sym e))

-- the turns of the loop, with us read so far
module _ (a : ℕ) (g : Bool) (us xs : List ℕ) where
  pub numbers_out : (m n k : ℕ) → m ≡ suc n → field 4 xs ≡ refused k → prepend us (read_numbers a g m xs) ≡ refused k
  numbers_out m n k z e = rw z (ap (prepend us) (read_numbers_suc a g n xs ∙ bind_refused (field 4) (rest a g n) xs k e))

  module _ (m n v : ℕ) (ys : List ℕ) (z : m ≡ suc n) (e : field 4 xs ≡ return v ys) where
    numbers_item : prepend us (read_numbers a g m xs) ≡ prepend us (rest a g n v ys)
    numbers_item = rw z (ap (prepend us) (read_numbers_suc a g n xs ∙ bind_return (field 4) (rest a g n) xs ys v e))

    pub numbers_fault : (d : Refusal) → turn a g n v ≡ Err d → prepend us (read_numbers a g m xs) ≡ refused (number d)
    numbers_fault d f =
        let (out, k) = turn_none (allowed a g (eqb n 0) v) (grouped_after g v) d f in
        numbers_item ∙ ap (prepend us) (rest_refused a g n v ys out) ∙ ap refused (sym k)

    pub numbers_go : (inside : Bool) → turn a g n v ≡ Ok inside →
        prepend us (read_numbers a g m xs) ≡ prepend (us ++ (v ∷ [])) (read_numbers a inside n ys)
    numbers_go inside f =
        let (p, r) = turn_cases (allowed a g (eqb n 0) v) (grouped_after g v) inside f in
        numbers_item
        ∙ ap (prepend us) (rest_allowed a g n v ys p
        ∙ prepend_bind (read_numbers a (grouped_after g v) n) v ys ∙ ap (λ (b : Bool). prepend (v ∷ []) (read_numbers a b n ys)) r)
        ∙ prepend_both us (v ∷ []) (read_numbers a inside n ys)

pub numbers_start : (a : ℕ) (xs : List ℕ) (n m : ℕ) → m ≡ n → read_numbers a false n xs ≡ prepend [] (read_numbers a false m xs)
numbers_start a xs n m e = sym (prepend_none (read_numbers a false m xs) ∙ ap (λ (k : ℕ). read_numbers a false k xs) e)

pub numbers_more : (a : ℕ) (raw : List ℕ) (k n n' v : ℕ) (ys : List ℕ) (g : Bool) → k < 32 → length raw ≡ 32 → n ≡ n' →
    prepend (take k raw ++ (v ∷ [])) (read_numbers a g n ys) ≡ prepend (take (k + 1) (set raw k v)) (read_numbers a g n' ys)
numbers_more a raw k n n' v ys g l h r =
    ap₂ (λ (us : List ℕ) (i : ℕ). prepend us (read_numbers a g i ys))
    (sym (take-suc-set raw k v (omega arith)) ∙ ap (λ (j : ℕ). take j (set raw k v)) (sym (add-one k))) r

pub numbers_end : (a : ℕ) (g : Bool) (raw xs : List ℕ) (k n m : ℕ) → m ≡ 0 → k ≡ n → prepend (take k raw) (read_numbers a g m xs) ≡ return (take n raw) xs
unfolding read_numbers
numbers_end a g raw xs k n m z e = rw z (ap (λ (l : List ℕ). return l xs) (append-nil (take k raw) ∙ ap (λ (j : ℕ). take j raw) e))

-- A list that is given

abbrev settling_of : List ℕ → Reader (List Item)
settling_of vs = return (settle (items vs))

abbrev counted : ℕ → ℕ → Reader (List Item)
counted a n = read_numbers a false n >>= settling_of

given_suc : (a g : ℕ) (xs : List ℕ) → read_strategy a (suc g) xs ≡ (field 5 >>= counted a) xs
unfolding read_strategy
given_suc a g xs = refl

-- whether a list is given is all that its bit says
given_any : (a g : ℕ) (xs : List ℕ) → (g ≡ 0 → ⊥) → read_strategy a g xs ≡ read_strategy a 1 xs
given_any a zero xs h = absurd (h refl)
given_any a (suc g) xs h = given_suc a g xs ∙ sym (given_suc a 0 xs)

not_given : (a : ℕ) (xs : List ℕ) → read_strategy a 0 xs ≡ return (default a) xs
unfolding read_strategy
not_given a xs = refl

module _ (a : ℕ) (xs : List ℕ) where
  given_out : (k : ℕ) → field 5 xs ≡ refused k → read_strategy a 1 xs ≡ refused k
  given_out k e = given_suc a 0 xs ∙ bind_refused (field 5) (counted a) xs k e

  given_counted : (n : ℕ) (ys : List ℕ) → field 5 xs ≡ return n ys → read_strategy a 1 xs ≡ counted a n ys
  given_counted n ys e = given_suc a 0 xs ∙ bind_return (field 5) (counted a) xs ys n e

  given_refused : (n : ℕ) (ys : List ℕ) (f : ℕ) → field 5 xs ≡ return n ys → read_numbers a false n ys ≡ refused f → read_strategy a 1 xs ≡ refused f
  given_refused n ys f e r = given_counted n ys e ∙ bind_refused (read_numbers a false n) settling_of ys f r

  given_read : (n : ℕ) (ys vs zs : List ℕ) → field 5 xs ≡ return n ys → read_numbers a false n ys ≡ return vs zs →
      read_strategy a 1 xs ≡ return (settle (items vs)) zs
  given_read n ys vs zs e r = given_counted n ys e ∙ bind_return (read_numbers a false n) settling_of ys zs vs r

-- a strategy that is read is good
good_settled : (a g : ℕ) (xs : List ℕ) (is : List Item) (zs vs : List ℕ) → a < 8 → (k : ℕ) (bytes : List ℕ) → xs ≡ drop k (bits_of bytes) →
    read_strategy a g xs ≡ return is zs → vs ≡ numbers is → SettledList a vs
unfolding return
good_settled a g xs is zs vs l k bytes x e n =
    let b = rw (sym x) at (all_drop k (bits_of bytes) (bits_below bytes)) in
    record { strategy = is; are = n; good = (read_strategy_good a g xs _ l b e).0 }

module _ (bytes : List ℕ) (at a : ℕ) (l : a < 8) where
  -- the ways through the reading of a given list
  pub read_given_out : (kept : List ℕ) (d : Refusal) → length kept ≡ 32 → field 5 (drop at (bits_of bytes)) ≡ refused (number d) → GivenAt bytes at a kept (Err d)
  read_given_out kept d h e = record { is = sym (ap spelt (given_out a (drop at (bits_of bytes)) (number d) e)); settled = tt; long = h }

  pub read_given_refused : (n next : ℕ) (d : Refusal) → field 5 (drop at (bits_of bytes)) ≡ return n (drop next (bits_of bytes)) →
      (raw : List ℕ) (q : Answer ℕ Refusal) → NumbersAt bytes next a n raw q → q ≡ Err d → GivenAt bytes at a raw (Err d)
  read_given_refused n next d e raw q k z =
      let r : refused (number d) ≡ read_numbers a false n (drop next (bits_of bytes)) = rw z at k.is in
      record { is = sym (ap spelt (given_refused a (drop at (bits_of bytes)) n (drop next (bits_of bytes)) (number d) e (sym r))); settled = tt; long = k.long }

  given_answer : (kept : List ℕ) (len end : ℕ) (is : List Item) → read_strategy a 1 (drop at (bits_of bytes)) ≡ return is (drop end (bits_of bytes)) →
      take len kept ≡ numbers is → len ≤ 31 → length kept ≡ 32 → GivenAt bytes at a kept (Ok (record { len = len; next = end }))
  unfolding return
  given_answer kept len end is g q h k =
      record {
        is = ap (λ (us : List ℕ). accepted (record { value = us; left = drop end (bits_of bytes) })) q ∙ sym (ap spelt g);
        settled = (h, good_settled a 1 (drop at (bits_of bytes)) is (drop end (bits_of bytes)) (take len kept) l at bytes refl g q);
        long = k;
      }

  pub read_given_read : (kept : List ℕ) (n next len end : ℕ) → field 5 (drop at (bits_of bytes)) ≡ return n (drop next (bits_of bytes)) →
      (raw : List ℕ) (q : Answer ℕ Refusal) → NumbersAt bytes next a n raw q → q ≡ Ok end → len ≤ 31 →
      AtFront (settling [] 0 (take n raw)) len kept → GivenAt bytes at a kept (Ok (record { len = len; next = end }))
  unfolding return
  read_given_read kept n next len end e raw q nr z h k =
      let r : read_numbers a false n (drop next (bits_of bytes)) ≡ return (take n raw) (drop end (bits_of bytes)) = sym (rw z at nr.is) in
      let (is, p, w, t) = read_spelt a n (drop next (bits_of bytes)) _ (all_drop next (bits_of bytes) (bits_below bytes)) r in
      given_answer kept len end (settle (items (take n raw)))
      (given_read a (drop at (bits_of bytes)) n (drop next (bits_of bytes)) (take n raw) (drop end (bits_of bytes)) e r)
      (k.is ∙ settles a (take n raw) is l p w) h k.long

  -- and through the reading of a strategy
  pub read_out : (kept : List ℕ) (d : Refusal) → length kept ≡ 32 → field 1 (drop at (bits_of bytes)) ≡ refused (number d) → StrategyAt bytes at a kept (Err d)
  read_out kept d h e =
      record { is = sym (ap spelt (bind_refused (field 1) (read_strategy a) (drop at (bits_of bytes)) (number d) e)); settled = tt; long = h }

  module _ (g next : ℕ) (e : field 1 (drop at (bits_of bytes)) ≡ return g (drop next (bits_of bytes))) where
    first : (field 1 >>= read_strategy a) (drop at (bits_of bytes)) ≡ read_strategy a g (drop next (bits_of bytes))
    first = bind_return (field 1) (read_strategy a) (drop at (bits_of bytes)) (drop next (bits_of bytes)) g e

    pub read_default : (kept : List ℕ) (len : ℕ) → g ≡ 0 → len ≤ 31 → AtFront (numbers (default a)) len kept → StrategyAt bytes at a kept (Ok (record { len = len; next = next }))
    unfolding return
    read_default kept len z h k =
        let d = ap (λ (i : ℕ). read_strategy a i (drop next (bits_of bytes))) z ∙ not_given a (drop next (bits_of bytes)) in
        record {
          is = ap (λ (us : List ℕ). accepted (record { value = us; left = drop next (bits_of bytes) })) k.is ∙ sym (ap spelt (first ∙ d));
          settled = (h, good_settled a g (drop next (bits_of bytes)) _ _ _ l next bytes refl d k.is);
          long = k.long;
        }

    pub read_list : (kept : List ℕ) (r : Answer Listed Refusal) → (g ≡ 0 → ⊥) → GivenAt bytes next a kept r → StrategyAt bytes at a kept r
    read_list kept r z k =
        record { is = k.is ∙ sym (ap spelt (first ∙ given_any a g (drop next (bits_of bytes)) z)); settled = k.settled; long = k.long }

-- What a caller knows of an answer: what the paper's reader answers, in items

spelt_refused : (x : Result (Read (List Item))) (e : ℕ) → refused e ≡ spelt x → x ≡ refused e
spelt_refused (refused d) e p = cc
spelt_refused (accepted r) e p = let z : ◌≡◌ {A = ℕ} 0 1 = cc in absurd (omega arith)

spelt_accepted : (x : Result (Read (List Item))) (vs ys : List ℕ) → accepted (record { value = vs; left = ys }) ≡ spelt x →
    (is : List Item) × (x ≡ return is ys) × (vs ≡ numbers is)
unfolding return
spelt_accepted (refused d) vs ys p = let z : ◌≡◌ {A = ℕ} 0 1 = cc in absurd (omega arith)
spelt_accepted (accepted r) vs ys p =
    let q = accepted_injective p in
    let e : r.left ≡ ys = sym (ap (λ (s : Read (List ℕ)). s.left) q) in
    (r.value, ap (λ (l : List ℕ). accepted (record { value = r.value; left = l })) e, ap (λ (s : Read (List ℕ)). s.value) q)

-- the items of an operator are known by their numbers
good_items : (a : ℕ) (is : List Item) → GoodOperator (record { arity = a; strategy = is }) → items (numbers is) ≡ is
good_items a is g = items_numbers is (within_more a 7 is (omega (arith, g.arity)) g.within)

pub settled_items : (a : ℕ) (vs : List ℕ) (s : SettledList a vs) → items vs ≡ s.strategy
settled_items a vs s = ap items s.are ∙ good_items a s.strategy s.good

reader_good : (a : ℕ) (xs : List ℕ) (is : List Item) (ys : List ℕ) → a < 8 → All (λ x. x < 2) xs → (field 1 >>= read_strategy a) xs ≡ return is ys →
    GoodOperator (record { arity = a; strategy = is })
unfolding return
reader_good a xs is ys l b e =
    let (g, p, q) = bind_accepted (field 1) (read_strategy a) xs _ e in
    (read_strategy_good a g.value g.left _ l (field_bounded 1 xs g b p).1 q).0

module _ (bytes : List ℕ) (at a : ℕ) (its : List ℕ) (r : Answer Listed Refusal) (s : StrategyAt bytes at a its r) where
  pub strategy_refused : (e : Refusal) → r ≡ Err e → (field 1 >>= read_strategy a) (drop at (bits_of bytes)) ≡ refused (number e)
  strategy_refused e z = spelt_refused ((field 1 >>= read_strategy a) (drop at (bits_of bytes))) (number e) (rw z at s.is)

  module _ (l : Listed) (z : r ≡ Ok l) where
    pub strategy_settled : (l.len ≤ 31) × SettledList a (take l.len its)
    strategy_settled = rw z at s.settled

    pub strategy_read : (k : SettledList a (take l.len its)) →
        (field 1 >>= read_strategy a) (drop at (bits_of bytes)) ≡ return k.strategy (drop l.next (bits_of bytes))
    strategy_read k =
        let xs : List ℕ = drop at (bits_of bytes) in
        let (is, p, q) = spelt_accepted ((field 1 >>= read_strategy a) xs) (take l.len its) (drop l.next (bits_of bytes)) (rw z at s.is) in
        let g = reader_good a xs is (drop l.next (bits_of bytes)) k.good.arity (all_drop at (bits_of bytes) (bits_below bytes)) p in
        p ∙ ap (λ (js : List Item). return js (drop l.next (bits_of bytes))) (sym (good_items a is g) ∙ ap items (sym q) ∙ settled_items a (take l.len its) k)
