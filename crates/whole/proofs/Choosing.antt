-- The choice of a rule: what the search for one and the filling of its right side say. Assumes nothing.
use mathlib.Core.Bool.{Bool, true, false}
use mathlib.Core.List.{List}
use mathlib.Core.Path.{◌≡◌, ◌∙◌}
use Prim.Native.Nat.{ℕ, ◌+◌, ◌-◌, ◌≤◌, ◌<◌}
use native.Mathlib.Omega.{arith}
use lib.ListN.{length}
use borrow.Author.Tests.{eq-eqb, ne_eqb, lt-ltb}
use Rattle.paper.specs.Tree.{preorder}
use Rattle.paper.specs.Book.{Side, Book, arity}
use Rattle.paper.specs.Sound.{SoundRule}
use Rattle.paper.proofs.Rules.{good_sound}
use Rattle.flat.proofs.Inside.{fill_known}
use Rattle.flat.specs.Symbols.{Binding, fill}
use Rattle.tables.specs.Tables.{rule_at}
use Rattle.tables.proofs.Laws.{rule_good}
use Rattle.term.specs.Present.{length_in, operators_in, marks_in}
use Rattle.term.proofs.Sized.{held}
use Rattle.term.proofs.Skipping.{sizes_book}
use Rattle.splice.specs.Promises.{Replaceable}
use Rattle.rule.specs.Packed.{SideAt}
use Rattle.rule.specs.Promises.{RuleFound}
use Rattle.rule.specs.declared.Match as M
use Rattle.rule.proofs.Tables.{right_stands}
use Rattle.net.specs.Layout.{right_of}
use Rattle.net.specs.Net.{book_by}
use Rattle.net.proofs.Laws.{tables_by, rights_are}
use Rattle.lookup.specs.Promises.{Present}
use Rattle.fill.specs.Promises.{Fillable, SideFilled}
use Rattle.std.specs.Prelude.{Some, None}
use Rattle.whole.specs.Promises.{spent, over, RuleGives, RightFits}
use Rattle.whole.specs.declared.Progress as P
use Rattle.whole.specs.declared.Limits as L
use Rattle.whole.proofs.Terms.{sized, length_is, end_is}

module _ {bytes operators net symbols : List ℕ} {a : ℕ} (here : Present bytes operators net symbols a) where
  abbrev B : Book
  B = book_by bytes net

  abbrev xs : List ℕ
  xs = operators_in symbols

  abbrev ms : List Bool
  ms = marks_in symbols

  module _ {b : Binding} {m : M.Match} (h : RuleFound B operators a xs (length_in symbols) b m) where
    pub small : m.rule < 256
    small = omega (arith, h.below, (tables_by here.netted).good.few_rules)

    pub spends : (p : P.Progress) (l : L.Limits) → p.rewrites ≡ l.budget → RuleGives B a xs (λ ys e. spent p l ≡ true)
    spends p l e = record { right = _; b = _; e = m.end; hit = h.is; so = eq-eqb p.rewrites l.budget e }

    -- the symbols around the term
    pub around : a + (length_in symbols - m.end) ≤ 1024
    around = omega (arith, end_is here h.is, h.end, here.sized.most)

    module _ {at : ℕ} (right_at : at ≡ right_of net m.rule) where
      abbrev right : Side
      right = (rule_at B.rules m.rule).right

      stands : SideAt bytes at operators right
      stands = rw (right_at, rights_are here.netted m.rule h.below) (right_stands (tables_by here.netted) m.rule h.below)

      pub fillable : Fillable bytes at operators xs b
      fillable = record { short = here.short; side = right; stands = stands; bound = h.terms }

      -- filled up to what the symbols around it leave
      module _ {limit : ℕ} (leaves : limit ≡ 1024 - (a + (length_in symbols - m.end))) (p : P.Progress) (l : L.Limits) (unspent : p.rewrites ≡ l.budget → ⊥) where
        replaceable : {k : ℕ} → k ≤ limit → Replaceable symbols (length_in symbols) a m.end k
        replaceable n =
            let e = end_is here h.is in
            let most = here.sized.most in
            record {
              holding = record {
                long = here.sized.long;
                first = omega arith;
                last = omega (arith, h.end);
                few = omega arith;
                nested = λ i j o. rw e (held (arity B) symbols (sized here) a here.inside i j o);
              };
              last = h.end;
              most = most;
              fits = omega (arith, around);
            }

        pub fills : {scratch : List ℕ} → SideFilled bytes at operators xs ms b limit scratch None →
            RuleGives B a xs (λ ys e. (spent p l ≡ false) × (over a xs ys e ≡ true))
        fills f =
            let g : 1024 < length (fill (preorder right) b xs) + (length xs - (m.end - a)) =
            omega (arith, end_is here h.is, length_is here, h.end, f.is right stands) in
            record { right = _; b = _; e = m.end; hit = h.is; so = (ne_eqb p.rewrites l.budget unspent, lt-ltb 1024 _ g) }

        pub picks : {scratch : List ℕ} {k : ℕ} → SideFilled bytes at operators xs ms b limit scratch (Some k) →
            RightFits B a p l symbols scratch (record { size = k; end = m.end })
        picks f =
            let q = f.is.0 right stands in
            let r : SoundRule B (rule_at B.rules m.rule) = good_sound B _ (rule_good (tables_by here.netted) m.rule h.below) in
            record {
              left = ne_eqb p.rewrites l.budget unspent;
              right = preorder right;
              b = b;
              hit = h.is;
              operators_are = q.operators_are;
              marks_are = q.marks_are;
              true_sizes = f.is.1 ∙ sizes_book B (tables_by here.netted).operators_in _ (rw q.operators_are (fill_known B (preorder right) b xs r.right_known here.known));
              replaceable = replaceable f.is.2;
            }
