-- Where a rule matches, one term gives way to another: what the new symbols spell, and their sizes. Assumes nothing.
use mathlib.Core.Bool.{true, true≢false}
use mathlib.Core.List.{List, [], ◌∷◌, ◌++◌}
use mathlib.Core.Option.{Option}
use mathlib.Core.Path.{◌≡◌, refl, sym, ap, ◌∙◌}
use Prim.Native.Nat.{ℕ, zero, suc, ◌+◌, ◌<◌}
use native.Mathlib.Omega.{arith}
use lib.ListN.{length, get_or, take, drop, take-append-drop}
use lib.Seq.{drop-drop, drop-append_seam, length-take-le}
use Rattle.paper.specs.Tree.{size, preorder, Correct}
use Rattle.paper.specs.Book.{Symbol, Term, Book, arity}
use Rattle.paper.specs.Match
use Rattle.paper.specs.Sound.{All, SoundRule}
use Rattle.paper.proofs.Lists.{all_map}
use Rattle.paper.proofs.Matching.{rewrite_correct}
use Rattle.paper.proofs.Rules.{good_sound}
use Rattle.paper.proofs.Trees.{size_preorder}
use Rattle.flat.specs.Symbols.{Binding, Hit, skip, fill, rewrite, splice}
use Rattle.flat.specs.Sizes.{sizes, resize}
use Rattle.flat.specs.Rules.{spells}
use Rattle.flat.proofs.Matching.{Hits, h_miss, h_hit, rewrite_hits}
use Rattle.flat.proofs.Sizes.{spells_skip, spells_split, spells_append, sizes_replace, correct_spells}
use Rattle.symbol.specs.Record as S
use Rattle.tables.specs.Layout.{arity_in}
use Rattle.term.specs.Present.{length_in, operators_in, sizes_in, Sized}
use Rattle.term.proofs.Sized.{operators_length, size_is, size_some, sized_same}
use Rattle.term.proofs.Skipping.{known_arities}
use Rattle.rule.proofs.Terms.{term_at}
use Rattle.net.specs.Net.{book_by}
use Rattle.net.proofs.Laws.{tables_by}
use Rattle.lookup.specs.Promises.{Present}

-- ONE TERM FOR ANOTHER

module _ (ar : ℕ → ℕ) where
  no_term : (part r : List ℕ) → spells ar 1 part ≡ true → spells ar 0 (part ++ r) ≡ true → ⊥
  unfolding spells
  no_term [] r e h = true≢false (sym e)
  no_term (x ∷ part) r e h = true≢false (sym h)

  -- the term part gives way to the term ys, and r follows
  spells_replace : (part ys r : List ℕ) → spells ar 1 part ≡ true → spells ar 1 ys ≡ true → (ps : List ℕ) (n : ℕ) →
      spells ar n (ps ++ (part ++ r)) ≡ true → spells ar n (ps ++ (ys ++ r)) ≡ true
  unfolding spells
  spells_replace part ys r e f [] zero h = absurd (no_term part r e h)
  spells_replace part ys r e f [] (suc n) h =
      let q : 1 + n ≡ suc n = omega arith in
      let s : spells ar n r ≡ true =
      rw (spells_skip ar part 1 e r, drop-append_seam part r) at (spells_split ar (part ++ r) 1 n (rw q h)).1 in
      rw (← q) (spells_append ar ys r 1 n f s)
  spells_replace part ys r e f (x ∷ ps) zero h = absurd (true≢false (sym h))
  spells_replace part ys r e f (x ∷ ps) (suc n) h = spells_replace part ys r e f ps (ar x + n) h

-- the symbols of xs from offset a to offset e are a term, which gives way to the term ys
record GivesWay (ar : ℕ → ℕ) (a e : ℕ) (xs ys : List ℕ) : Type 0 where
  pub part : List ℕ
  pub behind : List ℕ
  pub there : drop a xs ≡ part ++ behind
  pub end : e ≡ a + length part
  pub old : spells ar 1 part ≡ true
  pub new : spells ar 1 ys ≡ true

module _ {ar : ℕ → ℕ} {a e : ℕ} {xs ys : List ℕ} (g : GivesWay ar a e xs ys) where
  ends : e ≡ a + skip ar 1 (drop a xs)
  ends = g.end ∙ ap (λ (k : ℕ). a + k) (sym (ap (skip ar 1) g.there ∙ spells_skip ar g.part 1 g.old g.behind))

  whole_is : xs ≡ take a xs ++ (g.part ++ g.behind)
  whole_is = sym (take-append-drop a xs) ∙ ap (λ (zs : List ℕ). take a xs ++ zs) g.there

  splice_is : splice a e ys xs ≡ take a xs ++ (ys ++ g.behind)
  unfolding splice
  splice_is =
      let d : drop e xs ≡ g.behind =
      ap (λ (k : ℕ). drop k xs) g.end ∙ sym (drop-drop (length g.part) a xs) ∙ ap (drop (length g.part)) g.there ∙ drop-append_seam g.part g.behind in
      ap (λ (zs : List ℕ). take a xs ++ (ys ++ zs)) d

  spells_splice : spells ar 1 xs ≡ true → spells ar 1 (splice a e ys xs) ≡ true
  spells_splice h = rw splice_is (spells_replace ar g.part ys g.behind g.old g.new (take a xs) 1 (sym (ap (spells ar 1) whole_is) ∙ h))

  sizes_splice : a < length xs → sizes ar (splice a e ys xs) ≡ resize a e (sizes ar ys) (sizes ar xs)
  sizes_splice h =
      let l : length (take a xs) ≡ a = length-take-le a xs (omega arith) in
      rw (splice_is, g.end) (sizes_replace ar g.part ys g.behind g.old g.new (take a xs) ∙ rw (l, ← whole_is))

-- THE PRESENT TERM

module _ {bytes operators net symbols : List ℕ} {a : ℕ} (P : Present bytes operators net symbols a) where
  abbrev B : Book
  B = book_by bytes net

  abbrev xs : List ℕ
  xs = operators_in symbols

  sound : All (SoundRule B) B.rules
  sound = all_map _ _ (good_sound B) B.rules (tables_by P.netted).good.rules

  pub sized : Sized (arity B) symbols
  sized = sized_same (arity_in operators) (arity B) symbols (known_arities B (tables_by P.netted).operators_in xs P.known) P.sized

  pub length_is : length xs ≡ length_in symbols
  length_is = operators_length (arity B) symbols sized

  inside : a < length xs
  inside = omega (arith, P.inside, length_is)

  -- a rule that matches gives a term for the one at the offset
  module _ {right : List Symbol} {b : Binding} {e : ℕ} (h : rewrite (arity B) B.rules a xs ≡ Hit.hit right b e) where
    abbrev ys : List ℕ
    ys = fill right b xs

    gives_way : GivesWay (arity B) a e xs ys
    gives_way =
        let (t, c, r, d) = term_at (arity B) xs a sized.term inside in
        go t c r d refl (rewrite_hits B B.rules sound t c a r xs d)
      where
        go : (t : Term) → Correct (arity B) t → (r : List ℕ) → drop a xs ≡ preorder t ++ r → {o : Option Term} → Match.rewrite B.rules t ≡ o →
            Hits xs (a + size t) (rewrite (arity B) B.rules a xs) o → GivesWay (arity B) a e xs ys
        go t c r d p (h_miss q) = let z : ◌≡◌ {A = ℕ} 0 1 = cc in absurd (omega arith)
        go t c r d p (h_hit y right' b' q z) =
            let u : preorder y ≡ ys = cc in
            let v : a + size t ≡ e = cc in
            record {
              part = preorder t;
              behind = r;
              there = d;
              end = sym v ∙ ap (λ (k : ℕ). a + k) (size_preorder t);
              old = correct_spells (arity B) t c;
              new = rw (← u) (correct_spells (arity B) y (rewrite_correct B sound t y c p));
            }

    -- the term ends where its size says
    pub end_is : e ≡ a + S.size (get_or symbols a 0)
    end_is = ends gives_way ∙ ap (λ (k : ℕ). a + k) (sym (size_is (arity B) symbols sized a P.inside))

    pub end_behind : a < e
    end_behind = omega (arith, end_is, size_some (arity B) symbols sized a P.inside)

    pub new_term : spells (arity B) 1 (splice a e ys xs) ≡ true
    new_term = spells_splice gives_way sized.term

    pub new_sizes : sizes (arity B) (splice a e ys xs) ≡ resize a e (sizes (arity B) ys) (sizes_in symbols)
    new_sizes = sizes_splice gives_way inside ∙ ap (resize a e (sizes (arity B) ys)) (sym sized.true_sizes)
