-- Laws of squeezed classes (document 02, Change 1: "42 for a run of separators between letters or digits, none at the ends"). Assumes nothing.
use mathlib.Core.List.{List, [], ◌∷◌, ◌++◌, map, map-append}
use mathlib.Core.Path.{◌≡◌, refl, ap, ◌∙◌}
use Prim.Native.Nat.{ℕ, zero, suc, ◌≤◌, ◌<◌}
use native.Mathlib.Omega.{arith}
use lib.ListN.{length, length-map}
use Rattle.paper.specs.Text.{class, gap, Before, separated, parted, squeeze, squeezed}
use Rattle.paper.specs.Sound.{All}
use Rattle.paper.proofs.Classes.{class_below}

-- NO GAP IS FIRST OR LAST, and no two are adjacent

-- the class of a letter or digit
abbrev pub Letter : ℕ → Type 0
Letter c = (0 < c) × (c < gap)

-- what stands behind a letter or digit: nothing, another one, or a gap and another one
pub data Behind : List ℕ → Type 0 where
  over : Behind []
  next : {c : ℕ} {cs : List ℕ} → Letter c → Behind cs → Behind (c ∷ cs)
  gapped : {c : ℕ} {cs : List ℕ} → Letter c → Behind cs → Behind (gap ∷ c ∷ cs)

pub data Squeezed : List ℕ → Type 0 where
  empty : Squeezed []
  begun : {c : ℕ} {cs : List ℕ} → Letter c → Behind cs → Squeezed (c ∷ cs)

squeeze_letter : (cs : List ℕ) → All (λ c. c < gap) cs → Behind (squeeze Before.letter cs) × Behind (squeeze Before.separators cs)
unfolding squeeze
squeeze_letter [] a = (over, over)
squeeze_letter (zero ∷ cs) (h, a) = let (l, s) = squeeze_letter cs a in (s, s)
squeeze_letter (suc c ∷ cs) (h, a) =
    let (l, s) = squeeze_letter cs a in
    let p : Letter (suc c) = (omega arith, h) in
    (next p l, gapped p l)

squeeze_nothing : (cs : List ℕ) → All (λ c. c < gap) cs → Squeezed (squeeze Before.nothing cs)
unfolding squeeze
squeeze_nothing [] a = empty
squeeze_nothing (zero ∷ cs) (h, a) = squeeze_nothing cs a
squeeze_nothing (suc c ∷ cs) (h, a) = begun {c = suc c} (omega arith, h) (squeeze_letter cs a).0

classes_below : (text : List ℕ) → All (λ c. c < gap) (map class text)
classes_below [] = tt
classes_below (b ∷ bs) = (class_below b, classes_below bs)

pub squeezed_squeezed : (text : List ℕ) → Squeezed (squeezed text)
unfolding squeezed
squeezed_squeezed text = squeeze_nothing (map class text) (classes_below text)

-- the symbols are 1 to 42
abbrev pub Symbols : List ℕ → Type 0
Symbols cs = All (λ c. (0 < c) × (c ≤ gap)) cs

behind_symbols : {cs : List ℕ} → Behind cs → Symbols cs
behind_symbols over = tt
behind_symbols (next p b) = ((omega arith, omega arith), behind_symbols b)
behind_symbols (gapped p b) = ((omega arith, omega arith), ((omega arith, omega arith), behind_symbols b))

pub squeezed_symbols : (text : List ℕ) → Symbols (squeezed text)
squeezed_symbols text = go (squeezed_squeezed text)
  where
    go : {cs : List ℕ} → Squeezed cs → Symbols cs
    go empty = tt
    go (begun p b) = ((omega arith, omega arith), behind_symbols b)

-- no longer than the text
squeeze_length : (cs : List ℕ) →
    (length (squeeze Before.nothing cs) ≤ length cs)
    × (length (squeeze Before.letter cs) ≤ length cs)
    × (length (squeeze Before.separators cs) ≤ suc (length cs))
unfolding squeeze
squeeze_length [] = (omega arith, omega arith, omega arith)
squeeze_length (zero ∷ cs) = let (n, l, s) = squeeze_length cs in (omega arith, omega arith, omega arith)
squeeze_length (suc c ∷ cs) = let (n, l, s) = squeeze_length cs in (omega arith, omega arith, omega arith)

pub squeezed_length : (text : List ℕ) → length (squeezed text) ≤ length text
unfolding squeezed
squeezed_length text = omega (arith, (squeeze_length (map class text)).0, length-map text class)

-- WHAT IS DROPPED AND WHAT IS KEPT, enough to squeeze any text by

squeeze_last : (b : Before) (cs : List ℕ) → squeeze b (cs ++ (0 ∷ [])) ≡ squeeze b cs
unfolding squeeze
squeeze_last b [] = refl
squeeze_last b (zero ∷ cs) = squeeze_last (separated b) cs
squeeze_last b (suc c ∷ cs) = ap (λ (x : List ℕ). parted b (suc c ∷ x)) (squeeze_last Before.letter cs)

separated_twice : (b : Before) → separated (separated b) ≡ separated b
separated_twice Before.nothing = refl
separated_twice Before.letter = refl
separated_twice Before.separators = refl

squeeze_twice : (b : Before) (cs ds : List ℕ) → squeeze b (cs ++ (0 ∷ 0 ∷ ds)) ≡ squeeze b (cs ++ (0 ∷ ds))
unfolding squeeze
squeeze_twice b [] ds = ap (λ (x : Before). squeeze x ds) (separated_twice b)
squeeze_twice b (zero ∷ cs) ds = squeeze_twice (separated b) cs ds
squeeze_twice b (suc c ∷ cs) ds = ap (λ (x : List ℕ). parted b (suc c ∷ x)) (squeeze_twice Before.letter cs ds)

parted_append : (b : Before) (cs ds : List ℕ) → parted b (cs ++ ds) ≡ parted b cs ++ ds
parted_append Before.nothing cs ds = refl
parted_append Before.letter cs ds = refl
parted_append Before.separators cs ds = refl

squeeze_append : (b : Before) (cs ds : List ℕ) (c : ℕ) → squeeze b (cs ++ (suc c ∷ ds)) ≡ squeeze b (cs ++ (suc c ∷ [])) ++ squeeze Before.letter ds
unfolding squeeze
squeeze_append b [] ds c = parted_append b (suc c ∷ []) (squeeze Before.letter ds)
squeeze_append b (zero ∷ cs) ds c = squeeze_append (separated b) cs ds c
squeeze_append b (suc d ∷ cs) ds c =
    ap (λ (x : List ℕ). parted b (suc d ∷ x)) (squeeze_append Before.letter cs ds c)
    ∙ parted_append b (suc d ∷ squeeze Before.letter (cs ++ (suc c ∷ []))) (squeeze Before.letter ds)

positive : (n : ℕ) → 0 < n → (m : ℕ) × (n ≡ suc m)
positive zero h = absurd (omega arith)
positive (suc m) h = (m, refl)

-- a separator is dropped at the front, at the end, and behind another one
module _ (s : ℕ) (separates : class s ≡ 0) where
  pub separator_first : (text : List ℕ) → squeezed (s ∷ text) ≡ squeezed text
  unfolding squeezed
  separator_first text = rw separates

  pub separator_last : (text : List ℕ) → squeezed (text ++ (s ∷ [])) ≡ squeezed text
  unfolding squeezed
  separator_last text = rw (map-append, separates) (squeeze_last Before.nothing (map class text))

  pub separator_twice : (text rest : List ℕ) → squeezed (text ++ (s ∷ s ∷ rest)) ≡ squeezed (text ++ (s ∷ rest))
  unfolding squeezed
  separator_twice text rest = simp (map-append, separates) (squeeze_twice Before.nothing (map class text) (map class rest))

-- a letter or digit stays, next to another one as it is, and with a gap where a separator stands between
module _ (a : ℕ) (letter : 0 < class a) where
  pub letter_alone : squeezed (a ∷ []) ≡ class a ∷ []
  unfolding squeezed
  letter_alone = let (c, e) = positive (class a) letter in rw e

  module _ (b : ℕ) (next_letter : 0 < class b) (text rest : List ℕ) where
    pub letters_adjacent : squeezed (text ++ (a ∷ b ∷ rest)) ≡ squeezed (text ++ (a ∷ [])) ++ squeezed (b ∷ rest)
    unfolding squeezed
    letters_adjacent =
        let (c, e) = positive (class a) letter in
        let (d, f) = positive (class b) next_letter in
        rw (map-append class text (a ∷ b ∷ rest), map-append class text (a ∷ []), e, f) (squeeze_append Before.nothing (map class text) (suc d ∷ map class rest) c)

    pub letters_parted : (s : ℕ) → class s ≡ 0 → squeezed (text ++ (a ∷ s ∷ b ∷ rest)) ≡ squeezed (text ++ (a ∷ [])) ++ (gap ∷ squeezed (b ∷ rest))
    unfolding squeezed
    letters_parted s separates =
        let (c, e) = positive (class a) letter in
        let (d, f) = positive (class b) next_letter in
        rw (map-append class text (a ∷ s ∷ b ∷ rest), map-append class text (a ∷ []), e, f, separates) (squeeze_append Before.nothing (map class text) (0 ∷ suc d ∷ map class rest) c)

-- separators alone, or no byte at all
pub separators_empty : (text : List ℕ) → All (λ b. class b ≡ 0) text → squeezed text ≡ []
unfolding squeezed
separators_empty [] a = refl
separators_empty (s ∷ text) (h, a) = separator_first s h text ∙ separators_empty text a
