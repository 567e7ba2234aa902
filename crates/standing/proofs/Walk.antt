-- Two left sides walked symbol by symbol: what is left to compare decides, and the first difference. Assumes nothing.
use mathlib.Core.Bool.{Bool, true, false}
use mathlib.Core.List.{List, [], ◌∷◌, ◌++◌, append_assoc}
use mathlib.Core.Path.{◌≡◌, refl, sym, ap, ◌∙◌}
use Prim.Native.Nat.{ℕ, suc, ◌+◌, ◌*◌, ◌≤◌, ◌<◌}
use native.Mathlib.Omega.{arith}
use lib.ListN.{length, length-append, replicate, length-replicate, get_or-replicate}
use Rattle.paper.specs.Result.{if}
use Rattle.paper.specs.Book.{Symbol}
use Rattle.paper.specs.Sound.{All}
use Rattle.paper.specs.Strategy.{has}
use Rattle.paper.specs.Naming.{meeting, canonical, same_symbol, same_symbols}
use Rattle.paper.specs.Writer.{concat, write_symbol}
use Rattle.bits.proofs.Reading.{bits_left}
use Rattle.side.specs.Promises.{bits_at, NumberFits}
use Rattle.standing.specs.Keys.{size}
use Rattle.standing.specs.Promises.{named, Names, numbered, met_by, SymbolsCompared, Spans}
use Rattle.std.specs.Prelude.{Option, Some, None}
use Rattle.standing.specs.declared.Same.{Same}
use Rattle.standing.proofs.Keys.{size_none, size_cons, symbol_size, symbol_most, span_end, span_first, span_rest, behind}

-- one symbol of each
canonical_cons : (vs : List ℕ) (s : Symbol) (ss : List Symbol) → canonical vs (s ∷ ss) ≡ numbered vs s ∷ canonical (met_by vs s) ss
unfolding canonical
canonical_cons vs (Symbol.operator o) ss = refl
canonical_cons vs (Symbol.variable v) ss = refl

module _ (vs ws : List ℕ) (s u : Symbol) (ss us : List Symbol) where
  same_goes_on : same_symbol (numbered vs s) (numbered ws u) ≡ true →
      same_symbols (canonical vs (s ∷ ss)) (canonical ws (u ∷ us)) ≡ same_symbols (canonical (met_by vs s) ss) (canonical (met_by ws u) us)
  unfolding same_symbols
  same_goes_on e = rw (canonical_cons vs s ss, canonical_cons ws u us, same_symbols, e)

  same_stops : same_symbol (numbered vs s) (numbered ws u) ≡ false → same_symbols (canonical vs (s ∷ ss)) (canonical ws (u ∷ us)) ≡ false
  unfolding same_symbols
  same_stops e = rw (canonical_cons vs s ss, canonical_cons ws u us, same_symbols, e)

-- THE WALK

-- the symbols ss and us are left, where vs and ws were met, and whether they are the same is the answer
pub record Walk (bytes : List ℕ) (at end other : ℕ) (names others : List ℕ) (met : ℕ) (answer : Bool) : Type 0 where
  pub ss : List Symbol
  pub us : List Symbol
  pub vs : List ℕ
  pub ws : List ℕ
  pub rest : List ℕ
  pub left : Spans bytes at end ss
  pub right : bits_at bytes other ≡ concat write_symbol us ++ rest
  pub fits : All NumberFits us
  pub sizes : size ss ≡ size us
  pub names_are : Names names vs met
  pub others_are : Names others ws met
  pub few : length vs + length ss ≤ 64
  pub same : same_symbols (canonical vs ss) (canonical ws us) ≡ answer

names_none : Names (replicate 16 0) [] 0
unfolding named has
names_none = record { each = λ v l. get_or-replicate {A = ℕ} 16 v 0 0 l; long = length-replicate {A = ℕ} 16 0; count = refl }

module _ {bytes : List ℕ} {at end other : ℕ} {ss : List Symbol} (us : List Symbol) (rest : List ℕ) where
  pub walk_starts : Spans bytes at end ss → bits_at bytes other ≡ concat write_symbol us ++ rest → All NumberFits us → size ss ≡ size us → length ss ≤ 64 →
      Walk bytes at end other (replicate 16 0) (replicate 16 0) 0 (same_symbols (canonical [] ss) (canonical [] us))
  walk_starts p q f e l = record {
    ss = ss;
    us = us;
    vs = [];
    ws = [];
    rest = rest;
    left = p;
    right = q;
    fits = f;
    sizes = e;
    names_are = names_none;
    others_are = names_none;
    few = omega arith;
    same = refl;
  }

met_length : (vs : List ℕ) (s : Symbol) → length (met_by vs s) ≤ suc (length vs)
unfolding meeting
met_length vs (Symbol.operator o) = omega arith
met_length vs (Symbol.variable v) = go (has v vs)
  where
    go : (b : Bool) → length (if b vs (vs ++ (v ∷ []))) ≤ suc (length vs)
    go true = omega arith
    go false = omega (arith, length-append vs (v ∷ []))

module _ {bytes : List ℕ} {at end other : ℕ} {names others : List ℕ} {met : ℕ} {answer : Bool} where
  -- nothing is left
  pub walk_ends : Walk bytes at end other names others met answer → end ≤ at → answer ≡ true
  unfolding same_symbols canonical
  walk_ends w l = go w.ss w.us w.left w.sizes w.same
    where
      go : (ss us : List Symbol) → Spans bytes at end ss → size ss ≡ size us → same_symbols (canonical w.vs ss) (canonical w.ws us) ≡ answer → answer ≡ true
      go [] [] p e s = sym s
      go [] (u ∷ us) p e s = absurd (omega (arith, size_none, size_cons u us, symbol_size u))
      go (s ∷ ss) us p e q = absurd (omega (arith, span_end p, size_cons s ss, symbol_size s))

  -- a symbol of each is left
  pub record Turn (w : Walk bytes at end other names others met answer) : Type 0 where
    pub s : Symbol
    pub u : Symbol
    pub ss : List Symbol
    pub us : List Symbol
    pub left : Spans bytes at end (s ∷ ss)
    pub right : bits_at bytes other ≡ concat write_symbol (u ∷ us) ++ w.rest
    pub fits : All NumberFits (u ∷ us)
    pub sizes : size (s ∷ ss) ≡ size (u ∷ us)
    pub few : length w.vs + suc (length ss) ≤ 64
    pub same : same_symbols (canonical w.vs (s ∷ ss)) (canonical w.ws (u ∷ us)) ≡ answer

  pub turn : (w : Walk bytes at end other names others met answer) → at < end → Turn w
  turn w l = go w.ss w.us w.left w.right w.fits w.sizes w.few w.same
    where
      go : (ss us : List Symbol) → Spans bytes at end ss → bits_at bytes other ≡ concat write_symbol us ++ w.rest → All NumberFits us → size ss ≡ size us →
          length w.vs + length ss ≤ 64 → same_symbols (canonical w.vs ss) (canonical w.ws us) ≡ answer → Turn w
      go [] us p q f e k s = absurd (omega (arith, span_end p, size_none))
      go (s ∷ ss) [] p q f e k r = absurd (omega (arith, size_none, size_cons s ss, symbol_size s))
      go (s ∷ ss) (u ∷ us) p q f e k r =
          record { s = s; u = u; ss = ss; us = us; left = p; right = q; fits = f; sizes = e; few = k; same = r }

  module _ (w : Walk bytes at end other names others met answer) (l : at < end) where
    abbrev t : Turn w
    t = turn w l

    second_first : bits_at bytes other ≡ write_symbol t.u ++ (concat write_symbol t.us ++ w.rest)
    unfolding concat
    second_first = t.right ∙ append_assoc (write_symbol t.u) (concat write_symbol t.us) w.rest

    -- positions and numbers are small
    pub walk_small : (met < 64) × (other < 8 * length bytes)
    walk_small = (
      omega (arith, w.names_are.count, t.few),
      omega (
        arith,
        bits_left bytes other,
        ap length second_first,
        length-append (write_symbol t.u) (concat write_symbol t.us ++ w.rest),
        symbol_size t.u,
      ),
    )

    module _ {names' others' : List ℕ} {r : Option Same} (c : SymbolsCompared bytes at other names others met names' others' r) where
      pub walk_stops : r ≡ None → answer ≡ false
      walk_stops e =
          let d = rw e at (c.is t.s t.u _ _ t.left.fits.0 t.fits.0 (span_first t.left) second_first w.vs w.ws w.names_are w.others_are) in
          sym t.same ∙ same_stops w.vs w.ws t.s t.u t.ss t.us d

      pub walk_goes_on : {q : Same} → r ≡ Some q → Walk bytes (at + q.width) end (other + q.width) names' others' q.met answer × (q.width ≤ 9) × (0 < q.width)
      walk_goes_on {q} e =
          let (d, a, b, x, y) = rw e at (c.is t.s t.u _ _ t.left.fits.0 t.fits.0 (span_first t.left) second_first w.vs w.ws w.names_are w.others_are) in (
            record {
              ss = t.ss;
              us = t.us;
              vs = met_by w.vs t.s;
              ws = met_by w.ws t.u;
              rest = w.rest;
              left = span_rest t.left (behind bytes at q.width t.s _ (span_first t.left) a);
              right = behind bytes other q.width t.u _ second_first b;
              fits = t.fits.1;
              sizes = omega (arith, t.sizes, size_cons t.s t.ss, size_cons t.u t.us);
              names_are = x;
              others_are = y;
              few = omega (arith, t.few, met_length w.vs t.s);
              same = sym (same_goes_on w.vs w.ws t.s t.u t.ss t.us d) ∙ t.same;
            },
            omega (arith, symbol_most t.s),
            omega (arith, symbol_size t.s),
          )
