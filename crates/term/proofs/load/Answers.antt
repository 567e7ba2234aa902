-- Answers of `load`. Assumes nothing.
use mathlib.Core.Bool.{true, false}
use mathlib.Core.List.{List, map}
use mathlib.Core.Logic.{◌⊎◌, inl, inr}
use mathlib.Core.Path.{◌≡◌, sym, ◌∙◌}
use Prim.Native.Nat.{ℕ, ◌+◌, ◌-◌, ◌≤◌, ◌<◌}
use native.Mathlib.Nat.{eq-or-lt_of_le}
use native.Mathlib.Omega.{arith}
use lib.ListN.{length, get_or, take, drop, set, length-map, length-set, get_or-map}
use lib.Seq.{length-take-le, get_or-take, get_or-set_same, get_or-set_other, ext_get_or}
use Rattle.flat.specs.Symbols.{skip}
use Rattle.flat.specs.Rules.{spells}
use Rattle.flat.specs.Sizes as flat
use Rattle.flat.proofs.Sizes as F
use Rattle.symbol.specs.Record.{operator, marked, size, operators, marks, sizes}
use Rattle.symbol.proofs.Record.{size_at, front_length, operator_front, marked_front, size_front}
use Rattle.tables.specs.Layout.{arity_in}
use Rattle.term.specs.Present.{Hops}
use Rattle.term.specs.Promises.{Loaded}
use Rattle.term.proofs.Hopping.{hops_arguments, hop_end_is, first_inside}
use Rattle.term.proofs.load.Invariants.{Put, PutFrom}
use Rattle.term.proofs.load.Goals as goal

-- the arguments of the operator o at offset k can be passed, and then its size is known; the first, if any, was put
record Ready (ar : ℕ → ℕ) (line : List ℕ) (n : ℕ) (symbols : List ℕ) (k o : ℕ) : Type 0 where
  hops : Hops (sizes symbols) (ar o) (k + 1)
  most : flat.hop (sizes symbols) (ar o) (k + 1) ≤ n
  size_is : flat.hop (sizes symbols) (ar o) (k + 1) - k ≡ skip ar 1 (drop k (take n line))
  first : 0 < ar o → k + 1 < n

module _ (ar : ℕ → ℕ) (line : List ℕ) (n : ℕ) (long : length line ≡ 1024) (few : n ≤ 1024) (term : spells ar 1 (take n line) ≡ true) where
  -- the symbol before offset i is next
  ready : (symbols : List ℕ) (i : ℕ) → length symbols ≡ 1024 → 0 < i → i ≤ n → PutFrom ar line n symbols i →
      Ready ar line n symbols (i - 1) (get_or line (i - 1) 0)
  ready symbols i l z h put =
      let xs = take n line in
      let k = i - 1 in
      let m : length xs ≡ n = length-take-le n line (omega arith) in
      let is : get_or xs k 0 ≡ get_or line k 0 = get_or-take n line k 0 (omega arith) in
      let fits : length xs ≤ length (sizes symbols) = omega (arith, length-map symbols size) in
      let agree : (j : ℕ) → k < j → j < length xs → get_or (sizes symbols) j 0 ≡ skip ar 1 (drop j xs) =
      λ j a b. size_at symbols j ∙ (put j (omega arith) (omega arith)).1 in
      let end : flat.hop (sizes symbols) (ar (get_or xs k 0)) (k + 1) ≡ k + skip ar 1 (drop k xs) =
      hop_end_is ar xs (sizes symbols) term fits k (omega arith) agree in
      rw (← is)
      record {
        hops = hops_arguments ar xs (sizes symbols) term fits k (omega arith) agree (ar (get_or xs k 0)) (omega arith);
        most = omega (arith, F.part_inside ar xs k (omega arith));
        size_is = omega arith;
        first = λ some. omega (arith, first_inside ar xs (sizes symbols) term fits k (omega arith) agree some);
      }

  put_next : (symbols : List ℕ) (i x z : ℕ) → length symbols ≡ 1024 → 0 < i → i ≤ n → operator x ≡ get_or line (i - 1) 0 → size x ≡ z → marked x ≡ false →
      z ≡ flat.hop (sizes symbols) (ar (get_or line (i - 1) 0)) (i - 1 + 1) - (i - 1) → PutFrom ar line n symbols i →
      PutFrom ar line n (set symbols (i - 1) x) (i - 1)
  put_next symbols i x z l p h o w v e put j a b = go (eq-or-lt_of_le a)
    where
      go : (i - 1 ≡ j) ⊎ (i - 1 < j) → Put ar line n j (get_or (set symbols (i - 1) x) j 0)
      go (inl f) = rw (← f, get_or-set_same symbols (i - 1) x 0 (omega arith)) (o, w ∙ e ∙ (ready symbols i l p h put).size_is, v)
      go (inr f) = rw (get_or-set_other symbols (i - 1) j x 0 (λ g. omega arith)) (put j (omega arith) b)

  all_put : (symbols : List ℕ) (i : ℕ) → length symbols ≡ 1024 → i ≡ 0 → PutFrom ar line n symbols i →
      Loaded ar (take n line) (map (λ o. false) (take n line)) n symbols
  all_put symbols i l z put =
      let b : length (take n line) ≡ n = length-take-le n line (omega arith) in
      let f : length (operators (take n symbols)) ≡ n = front_length operator n symbols (omega arith) in
      let m : length (marks (take n symbols)) ≡ n = front_length marked n symbols (omega arith) in
      let g : length (sizes (take n symbols)) ≡ n = front_length size n symbols (omega arith) in
      record {
        operators_are =
            ext_get_or 0 _ _ (f ∙ sym b) (λ j h. operator_front n symbols j (omega arith)
            ∙ (put j (omega arith) (omega arith)).0
            ∙ sym (get_or-take n line j 0 (omega arith)));
        marks_are =
            ext_get_or false _ _ (m ∙ sym b ∙ sym (length-map (take n line) (λ o. false))) (λ j h. marked_front n symbols j (omega arith)
            ∙ (put j (omega arith) (omega arith)).2
            ∙ sym (get_or-map (λ o. false) (take n line) j 0));
        sizes_are =
            ext_get_or 0 _ _ (g ∙ sym b ∙ sym (F.sizes_length ar (take n line))) (λ j h. size_front n symbols j (omega arith)
            ∙ (put j (omega arith) (omega arith)).1
            ∙ sym (F.size_at ar (take n line) j));
        long = l;
      }

-- the size z of the symbol put
kept : (symbols : List ℕ) (k x z : ℕ) → k < length symbols → size x ≡ z → z ≡ size (get_or (set symbols k x) k 0)
kept symbols k x z h e = rw (get_or-set_same symbols k x 0 h) (sym e)

pub loop-i-init : goal.loop-i-init
loop-i-init c = (omega arith, c.requires.0, λ j l h. absurd (omega arith), λ h. absurd (omega arith))

pub size_before-behind-requires : goal.size_before-behind-requires
size_before-behind-requires c =
    let l = c.loop-i in
    let a = c.args in
    let r =
    ready (arity_in a.operators.now) a.line.now a.n c.requires.1 c.requires.2 c.requires.3 l.symbols l.i l.invariant.1 (omega arith)
    (omega arith) l.invariant.2 in
    let e : l.i - 1 + 1 ≡ l.i = omega arith in
    (l.invariant.1, omega arith, r.hops, omega (arith, r.most), λ some. rw e (l.invariant.3 (omega (arith, r.first some))))

pub make-requires : goal.make-requires
make-requires c =
    let l = c.loop-i in
    let a = c.args in
    let r =
    ready (arity_in a.operators.now) a.line.now a.n c.requires.1 c.requires.2 c.requires.3 l.symbols l.i l.invariant.1 (omega arith)
    (omega arith) l.invariant.2 in
    omega (arith, c.size_before-behind.ensures, r.most)

pub loop-i-preserved : goal.loop-i-preserved
loop-i-preserved c =
    let l = c.loop-i in
    let z = c.size_before-behind in
    let m = c.make in (
      omega arith,
      length-set l.symbols (l.i - 1) m.result ∙ l.invariant.1,
      put_next (arity_in c.args.operators.now) _ _ c.requires.1 c.requires.2 c.requires.3 l.symbols l.i m.result z.result l.invariant.1
          (omega arith) (omega arith) m.ensures.0 m.ensures.1 m.ensures.2 z.ensures l.invariant.2,
      λ h. kept l.symbols (l.i - 1) m.result z.result (omega (arith, l.invariant.1)) m.ensures.1,
    )

pub returns : goal.returns
returns c =
    let l = c.loop-i in
    all_put (arity_in c.args.operators.now) _ _ c.requires.1 c.requires.2 c.requires.3 _ l.i l.invariant.1 (omega arith) l.invariant.2
