-- The rules that a net's search tries: a rule that matches fits, the first that is not beaten is found. Assumes nothing.
use mathlib.Core.List.{List}
use mathlib.Core.Logic.{◌⊎◌, inl, inr}
use mathlib.Core.Path.{◌≡◌, refl, sym, ap, ◌∙◌, subst}
use Prim.Native.Nat.{ℕ, zero, suc, ◌-◌, ◌≤◌, ◌<◌}
use native.Mathlib.Omega.{arith}
use lib.ListN.{length, get_or}
use Rattle.paper.specs.Tree.{preorder}
use Rattle.paper.specs.Book.{Rule, Book, arity}
use Rattle.flat.specs.Symbols as flat
use Rattle.flat.specs.Symbols.{Binding, blank}
use Rattle.tables.specs.Layout.{arity_in, left_in}
use Rattle.tables.specs.Tables.{rule_at, Tables}
use Rattle.tables.proofs.Laws.{left_at}
use Rattle.term.specs.Present.{length_in, operators_in}
use Rattle.term.proofs.Sized.{operators_length, sized_same}
use Rattle.term.proofs.Skipping.{known_arities}
use Rattle.rule.specs.Packed.{arity_of_symbol}
use Rattle.rule.specs.Promises.{LeftTried, NoneFound, RuleFound}
use Rattle.std.specs.Prelude.{Option, Some, None}
use Rattle.rule.proofs.Tables.{lefts_stand}
use Rattle.rule.proofs.Choices.{tried_differs, tried_agrees, none_found, rule_found}
use Rattle.net.specs.Layout.{left_of, same_in}
use Rattle.net.specs.Net.{path, Same, book_by}
use Rattle.net.proofs.Laws.{tables_by, net_is, lefts_are}
use Rattle.net.proofs.Leading.{same_path, same_least}
use Rattle.lookup.specs.Walk.{symbol_in, Agree}
use Rattle.lookup.specs.Promises.{rules_by, path_by, Present, Ready, end, Fit, tried, Beaten, FirstOf, Along}
use Rattle.lookup.proofs.Agreeing.{match_agree, blank_bound}
use Rattle.lookup.proofs.Nodes.{one_due, all_plain, root_of}

module _ {bytes operators net symbols : List ℕ} {a : ℕ} (p : Present bytes operators net symbols a) where
  abbrev B : Book
  B = book_by bytes net

  abbrev rs : List Rule
  rs = rules_by bytes net

  abbrev P : ℕ → List ℕ
  P = path_by bytes net

  abbrev xs : List ℕ
  xs = operators_in symbols

  abbrev try : ℕ → flat.Match
  try = tried bytes operators net symbols a

  T : Tables bytes operators p.netted.rules B
  T = tables_by p.netted

  pub ready : Ready bytes net symbols a
  ready =
      record {
        is = net_is p.netted;
        good = T.good;
        lefts = λ i l. rw (lefts_are p.netted i l) (left_at T i l);
        short = p.short;
        sized = sized_same (arity_in operators) (arity B) symbols (known_arities B T.operators_in xs p.known) p.sized;
        inside = p.inside;
        known = p.known;
      }

  pub few : length rs ≤ 255
  few = let f = T.good.few_rules in omega arith

  inside : a < length xs
  inside = let i = p.inside in omega (arith, operators_length (arity_in operators) symbols p.sized)

  -- FITTING

  agree : (j : ℕ) → j < length rs → (b : Binding) (e : ℕ) → try j ≡ flat.Match.agrees b e → Agree symbols (end symbols a) (P j) a
  unfolding path
  agree j l b e z =
      match_agree (arity_in operators) symbols p.sized (end symbols a) (arity_of_symbol operators) (λ o. refl) (λ v. refl) (preorder (rule_at rs j).left) 1 a blank b e
      (all_plain ready j l) ((lefts_stand T).each j l).stands.complete (one_due (arity_in operators) symbols a p.sized p.inside)
      (blank_bound (arity_in operators) symbols p.sized (end symbols a) (arity_of_symbol operators) (λ o. refl) (λ v. refl)) z

  -- each rule differs or fits
  pub fits : (j : ℕ) → j < length rs → (try j ≡ flat.Match.differs) ⊎ Fit bytes net symbols a j
  fits j l = go (try j) refl
    where
      go : (m : flat.Match) → try j ≡ m → (try j ≡ flat.Match.differs) ⊎ Fit bytes net symbols a j
      go flat.Match.differs z = inl z
      go (flat.Match.agrees b e) z = inr (l, agree j l b e z)

  -- ANSWERS

  module _ (i : ℕ) (l : i < length rs) (root : get_or (P i) 0 0 ≡ symbol_in symbols a) (b : Binding) where
    abbrev Tried : Option ℕ → Type 0
    Tried r = LeftTried bytes (left_of net i) operators xs a (length_in symbols) b r

    at_left : (r : Option ℕ) → Tried r → LeftTried bytes (left_in p.netted.rules i) operators xs a (length_in symbols) b r
    at_left r t = rw (lefts_are p.netted i l) at t

    pub answers_differs : Tried None → try i ≡ flat.Match.differs
    answers_differs t = tried_differs T xs a i (length_in symbols) b l (root_of ready i l root) (at_left None t)

    pub answers_agrees : (e : ℕ) → Tried (Some e) → try i ≡ flat.Match.agrees b e
    answers_agrees e t = tried_agrees T xs a i e (length_in symbols) b l (root_of ready i l root) (at_left (Some e) t)

    pub answers_first : (e : ℕ) → Tried (Some e) → ((j : ℕ) → j < i → try j ≡ flat.Match.differs) →
        RuleFound B operators a xs (length_in symbols) b (record { rule = i; end = e })
    answers_first e t h =
        rule_found T xs a p.known inside p.sized.term i e (length_in symbols) b l (root_of ready i l root) h (at_left (Some e) t)

  pub answers_none : ((j : ℕ) → j < length rs → try j ≡ flat.Match.differs) → NoneFound B operators a xs
  answers_none h = none_found T xs a p.known h

-- RULES OF ONE PATH

-- how far it may still go from a number on; numbers only go up
unfoldable pub ahead : ℕ → ℕ
ahead zero = 0
ahead (suc k) = 256 - k

same_more : {net : List ℕ} {i k : ℕ} (s : ℕ) → Same net i k → same_in net k ≡ suc s → Same net i s
same_more s (Same.self i) e = Same.next i s s e (Same.self s)
same_more s (Same.next i t k f w) e = Same.next i t s f (same_more s w e)

-- a rule with the path of rule k is that one, or told behind it
later : {net : List ℕ} {k j : ℕ} (Q : ℕ → Type 0) (r : ℕ) → Q k → same_in net k ≡ r → Same net k j → Q j ⊎ Along net r j
later Q r q e (Same.self k) = inl q
later {net} Q r q e (Same.next k s j f w) = inr (subst (λ (x : ℕ). Along net x j) (sym f ∙ e) w)

-- the rule of a number has the path of rule i
abbrev Numbers : List ℕ → List ℕ → ℕ → ℕ → Type 0
Numbers bytes net i zero = Unit {0}
Numbers bytes net i (suc k) = (k < length (rules_by bytes net)) × Same net i k

-- of the rules with the path of rule i, those before number c differ
pub record Reached (bytes operators net symbols : List ℕ) (a i c : ℕ) : Type 0 where
  pub numbers : Numbers bytes net i c
  pub left : (j : ℕ) → Same net i j → (tried bytes operators net symbols a j ≡ flat.Match.differs) ⊎ Along net c j

module _ {bytes operators net symbols : List ℕ} {a : ℕ} (p : Present bytes operators net symbols a) {i : ℕ} (l : i < length (rules_by bytes net))
    (root : get_or (path_by bytes net i) 0 0 ≡ symbol_in symbols a) where
  abbrev Now : ℕ → Type 0
  Now c = Reached bytes operators net symbols a i c

  pub reached_first : Now (suc i)
  reached_first = record { numbers = (l, Same.self i); left = λ j s. inr s }

  module _ (k : ℕ) (here : Now (suc k)) where
    pub reached_known : k < length (rules_by bytes net)
    reached_known = here.numbers.0

    pub reached_below : k < 256
    reached_below = omega (arith, reached_known, few p)

    root_there : get_or (path_by bytes net k) 0 0 ≡ symbol_in symbols a
    root_there = ap (λ (ks : List ℕ). get_or ks 0 0) (same_path (ready p).is (few p) l here.numbers.1) ∙ root

    module _ (left : ℕ) (b : Binding) (at : left ≡ left_of net k) where
      pub reached_found : (best e : ℕ) → suc k < best →
          LeftTried bytes left operators (operators_in symbols) a (length_in symbols) b (Some e) →
          FirstOf bytes operators net symbols a i best b (record { rule = k; end = e })
      reached_found best e m t =
          record {
            below = omega arith;
            same = here.numbers.1;
            agrees = rw at at t;
            passed = λ j s. elim (here.left j s) [ inl z ↦ inl z | inr w ↦ inr (let y = same_least (ready p).is (few p) reached_known w in omega arith) ];
          }

      pub reached_next : (r : ℕ) → LeftTried bytes left operators (operators_in symbols) a (length_in symbols) b None → r ≡ same_in net k →
          Now r × (ahead r < ahead (suc k))
      unfolding ahead
      reached_next r t e = go r (sym e)
        where
          differs : tried bytes operators net symbols a k ≡ flat.Match.differs
          differs = answers_differs p k reached_known root_there b (rw at at t)

          left_of_these : (r : ℕ) → same_in net k ≡ r → (j : ℕ) → Same net i j → (tried bytes operators net symbols a j ≡ flat.Match.differs) ⊎ Along net r j
          left_of_these r e j s = elim (here.left j s) [ inl z ↦ inl z | inr w ↦ later (λ j. tried bytes operators net symbols a j ≡ flat.Match.differs) r differs e w ]

          go : (r : ℕ) → same_in net k ≡ r → Now r × (ahead r < ahead (suc k))
          go zero e = (record { numbers = tt; left = left_of_these zero e }, omega (arith, reached_below))
          go (suc s) e =
              let (m, n, q) = (ready p).is.sames k s reached_below e in
              (record { numbers = (n, same_more s here.numbers.1 e); left = left_of_these (suc s) e }, omega (arith, reached_below))

  pub reached_end : (c best : ℕ) → Now c → (c ≡ 0) ⊎ (best ≤ c) → (j : ℕ) → Same net i j → Beaten bytes operators net symbols a best j
  reached_end c best h (inl z) j s = elim (h.left j s) [ inl y ↦ inl y | inr w ↦ absurd (rw z at w) ]
  reached_end zero best h (inr z) j s = inr (omega arith)
  reached_end (suc k) best h (inr z) j s =
      elim (h.left j s) [ inl y ↦ inl y | inr w ↦ inr (let y = same_least (ready p).is (few p) h.numbers.0 w in omega arith) ]
