-- Keys: sides that agree have one key, and sides of one key take as many bits; a key as it is read off a left side's bits. Assumes nothing.
use mathlib.Core.Bool.{false}
use mathlib.Core.List.{List, [], ◌∷◌, ◌++◌, append_assoc}
use mathlib.Core.Logic.{inl, inr, ◌≢◌}
use mathlib.Core.Path.{◌≡◌, refl, sym, ap, ap₂, ◌∙◌, subst}
use Prim.Native.Nat.{ℕ, ◌+◌, ◌-◌, ◌*◌, ◌≤◌, ◌<◌}
use native.Mathlib.Omega.{arith}
use lib.ListN.{length, drop, length-append}
use lib.Seq.{drop-drop, drop_at}
use Rattle.paper.specs.Result.{Read}
use Rattle.paper.specs.Bits.{to_bits, bits_of}
use Rattle.paper.specs.Tree.{preorder}
use Rattle.paper.specs.Book.{Symbol, Side}
use Rattle.paper.specs.Sound.{All, IsOperator}
use Rattle.paper.specs.Naming.{canonical, meeting, alike}
use Rattle.paper.specs.Writer.{concat, write_symbol}
use Rattle.paper.proofs.Tests.{either}
use Rattle.paper.proofs.Naming.{alike_canonical}
use Rattle.bits.proofs.Reading.{bits_left}
use Rattle.side.specs.Promises.{bits_at, NumberFits, StandingAt}
use Rattle.side.specs.declared.Standing.{Standing}
use Rattle.standing.specs.Keys.{second, size, key}
use Rattle.standing.specs.Promises.{Spans, KeyOf, SecondOf}

-- SIZES

pub size_cons : (s : Symbol) (ss : List Symbol) → size (s ∷ ss) ≡ length (write_symbol s) + size ss
unfolding size concat
size_cons s ss = length-append (write_symbol s) (concat write_symbol ss)

pub size_none : size [] ≡ 0
unfolding size concat
size_none = refl

pub symbol_size : (s : Symbol) → 0 < length (write_symbol s)
unfolding write_symbol to_bits
symbol_size (Symbol.operator o) = omega arith
symbol_size (Symbol.variable v) = omega arith

pub symbol_most : (s : Symbol) → length (write_symbol s) ≤ 9
unfolding write_symbol to_bits
symbol_most (Symbol.operator o) = omega arith
symbol_most (Symbol.variable v) = omega arith

variable_size : (v w : ℕ) → length (write_symbol (Symbol.variable v)) ≡ length (write_symbol (Symbol.variable w))
unfolding write_symbol to_bits
variable_size v w = refl

-- SIDES THAT AGREE

size_canonical : (vs : List ℕ) (ss : List Symbol) → size (canonical vs ss) ≡ size ss
unfolding canonical
size_canonical vs [] = refl
size_canonical vs (Symbol.operator o ∷ ss) =
    size_cons (Symbol.operator o) _ ∙ ap (λ (k : ℕ). length (write_symbol (Symbol.operator o)) + k) (size_canonical vs ss) ∙ sym (size_cons (Symbol.operator o) ss)
size_canonical vs (Symbol.variable v ∷ ss) =
    size_cons _ _ ∙ ap₂ (λ (j k : ℕ). j + k) (variable_size _ v) (size_canonical (meeting v vs) ss) ∙ sym (size_cons (Symbol.variable v) ss)

second_canonical : (vs : List ℕ) (ss : List Symbol) → second (canonical vs ss) ≡ second ss
unfolding canonical second
second_canonical vs [] = refl
second_canonical vs (Symbol.operator o ∷ ss) = refl
second_canonical vs (Symbol.variable v ∷ ss) = refl

key_canonical : (vs : List ℕ) (ss : List Symbol) → key (canonical vs ss) ≡ key ss
unfolding key canonical
key_canonical vs [] = refl
key_canonical vs (Symbol.variable v ∷ ss) = refl
key_canonical vs (Symbol.operator o ∷ ss) =
    ap₂ (λ (j k : ℕ). (j * 256 + o) * 512 + k) (size_canonical vs (Symbol.operator o ∷ ss)) (second_canonical vs ss)

pub keys_differ : (s u : Side) → key (preorder s) ≢ key (preorder u) → alike s u ≡ false
keys_differ s u d = elim (either (alike s u)) [
  | inl e ↦ absurd (d (sym (key_canonical [] (preorder s)) ∙ ap key ((alike_canonical s u).0 e) ∙ key_canonical [] (preorder u)))
  | inr e ↦ e
]

-- SIDES OF ONE KEY

second_small : (ss : List Symbol) → All NumberFits ss → second ss < 512
unfolding second
second_small [] f = omega arith
second_small (Symbol.operator o ∷ ss) f = let l = f.0 in omega arith
second_small (Symbol.variable v ∷ ss) f = omega arith

pub key_size : (s u : Symbol) (ss us : List Symbol) → IsOperator s → IsOperator u → All NumberFits (s ∷ ss) →
    All NumberFits (u ∷ us) → key (s ∷ ss) ≡ key (u ∷ us) → size (s ∷ ss) ≡ size (u ∷ us)
unfolding key
key_size (Symbol.operator o) (Symbol.operator p) ss us r q f g e =
    let a = f.0 in let b = g.0 in omega (arith, second_small ss f.1, second_small us g.1, e)
key_size (Symbol.variable v) u ss us r q f g e = absurd r
key_size (Symbol.operator o) (Symbol.variable w) ss us r q f g e = absurd q

-- SYMBOLS FROM A POSITION UP TO ANOTHER

module _ {bytes : List ℕ} {at end : ℕ} {ss : List Symbol} (p : Spans bytes at end ss) where
  pub span_end : end ≡ at + size ss
  unfolding size
  span_end =
      omega (arith, p.goes_on, bits_left bytes at, bits_left bytes end, ap length p.is, length-append (concat write_symbol ss) (bits_at bytes end))

module _ {bytes : List ℕ} {at end : ℕ} {s : Symbol} {ss : List Symbol} (p : Spans bytes at end (s ∷ ss)) where
  pub span_first : bits_at bytes at ≡ write_symbol s ++ (concat write_symbol ss ++ bits_at bytes end)
  unfolding concat
  span_first = p.is ∙ append_assoc (write_symbol s) (concat write_symbol ss) (bits_at bytes end)

  pub span_rest : {next : ℕ} → bits_at bytes next ≡ concat write_symbol ss ++ bits_at bytes end → Spans bytes next end ss
  span_rest e = record { is = e; goes_on = p.goes_on; fits = p.fits.1 }

-- what stands behind a symbol
pub behind : (bytes : List ℕ) (at n : ℕ) (s : Symbol) (ys : List ℕ) → bits_at bytes at ≡ write_symbol s ++ ys → length (write_symbol s) ≡ n →
    bits_at bytes (at + n) ≡ ys
behind bytes at n s ys e l = sym (drop-drop n at (bits_of bytes)) ∙ ap (drop n) e ∙ drop_at (write_symbol s) ys n l

-- A KEY THAT IS READ

module _ {bytes : List ℕ} {at end : ℕ} where
  pub second_none : end ≤ at → SecondOf bytes at end 0
  unfolding second
  second_none l = record { is = λ ss p. go ss p; small = omega arith }
    where
      go : (ss : List Symbol) → Spans bytes at end ss → 0 ≡ second ss
      go [] p = refl
      go (s ∷ ss) p = absurd (omega (arith, span_end p, size_cons s ss, symbol_size s))

  pub second_operator : {o next r : ℕ} → at < end → StandingAt bytes at (Standing.Operator o next) → r ≡ o → r < 256 → SecondOf bytes at end r
  unfolding second
  second_operator {o} {next} {r} l t e b = record { is = λ ss p. e ∙ go ss p; small = omega arith }
    where
      go : (ss : List Symbol) → Spans bytes at end ss → o ≡ second ss
      go [] p = absurd (omega (arith, span_end p, size_none))
      go (s ∷ ss) p =
          subst (λ (z : Symbol). o ≡ second (z ∷ ss)) (ap (λ (z : Read Symbol). z.value) (t.is s _ p.fits.0 (span_first p))) refl

  pub second_variable : {v next : ℕ} → at < end → StandingAt bytes at (Standing.Variable v next) → SecondOf bytes at end 256
  unfolding second
  second_variable {v} {next} l t = record { is = λ ss p. go ss p; small = omega arith }
    where
      go : (ss : List Symbol) → Spans bytes at end ss → 256 ≡ second ss
      go [] p = absurd (omega (arith, span_end p, size_none))
      go (s ∷ ss) p =
          subst (λ (z : Symbol). 256 ≡ second (z ∷ ss)) (ap (λ (z : Read Symbol). z.value) (t.is s _ p.fits.0 (span_first p))) refl

  pub key_variable : {v next : ℕ} → StandingAt bytes at (Standing.Variable v next) → KeyOf bytes at end 0
  unfolding key
  key_variable {v} {next} t = record {
    is = λ s ss p.
        subst (λ (z : Symbol). 0 ≡ key (z ∷ ss)) (ap (λ (z : Read Symbol). z.value) (t.is s _ p.fits.0 (span_first p))) refl;
  }

  pub key_operator : {o next x y r : ℕ} → StandingAt bytes at (Standing.Operator o next) → x ≡ o → SecondOf bytes next end y →
      r ≡ ((end - at) * 256 + x) * 512 + y → KeyOf bytes at end r
  unfolding key
  key_operator {o} {next} {x} {y} {r} t e q f = record { is = go }
    where
      go : (s : Symbol) (ss : List Symbol) → Spans bytes at end (s ∷ ss) → r ≡ key (s ∷ ss)
      go s ss p =
          let h = t.is s _ p.fits.0 (span_first p) in
          let v : Symbol.operator o ≡ s = ap (λ (z : Read Symbol). z.value) h in
          let y' : y ≡ second ss = q.is ss (span_rest p (ap (λ (z : Read Symbol). z.left) h)) in
          let z : end - at ≡ size (s ∷ ss) = omega (arith, span_end p) in
          subst (λ (z : Symbol). r ≡ key (z ∷ ss)) v
          (f ∙ rw (e, y', z) (ap (λ (z : Symbol). (size (z ∷ ss) * 256 + o) * 512 + second ss) (sym v)))
