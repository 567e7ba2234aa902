-- What the cases need: the present term of a sound line, and the only unit at its start. Assumes nothing.
use mathlib.Core.Bool.{Bool, true}
use mathlib.Core.List.{List}
use mathlib.Core.Path.{◌≡◌, sym, ap, ◌∙◌, subst}
use Prim.Native.Nat.{ℕ, ◌≤◌, ◌<◌}
use native.Mathlib.Omega.{arith}
use lib.ListN.{length, drop}
use Rattle.paper.specs.Book.{Book, arity}
use Rattle.paper.specs.Sound.{All}
use Rattle.paper.proofs.Line.{line_correct}
use Rattle.flat.specs.Machine.{FlatUnit, unit, start_units}
use Rattle.flat.specs.Rules.{spells}
use Rattle.flat.specs.Symbols.{Binding}
use Rattle.flat.proofs.Sizes.{correct_spells}
use Rattle.tables.specs.Layout.{arity_in}
use Rattle.tables.specs.Tables.{rule_at}
use Rattle.line.specs.Line.{judgement}
use mathlib.Core.Option.{none}
use Rattle.line.proofs.Checking.{sound_known, sound_accepted}
use Rattle.term.specs.Present.{length_in, operators_in}
use Rattle.term.specs.Promises.{Loaded}
use Rattle.term.proofs.Skipping.{spells_book}
use Rattle.term.proofs.Sized.{loaded_length, loaded_operators, loaded_sized}
use Rattle.rule.specs.Packed.{SideAt}
use Rattle.rule.specs.Promises.{RuleFound}
use Rattle.rule.specs.declared.Match as M
use Rattle.rule.proofs.Tables.{right_stands}
use Rattle.fill.specs.Promises.{Fillable}
use Rattle.net.specs.Layout.{right_of}
use Rattle.net.specs.Net.{book_by, NetOf}
use Rattle.net.proofs.Laws.{tables_by, rights_are}
use Rattle.lookup.specs.Promises.{Present}
use Rattle.units.specs.Stacks.{Offsets, Store}
use Rattle.units.specs.Promises.{Started}
use Rattle.units.proofs.Units.{height_at}
use Rattle.whole.specs.Promises.{UnitsDue}

-- a sound line of a book with this net
module _ {bytes operators net : List ℕ} {n : ℕ} (line : List ℕ) (t : NetOf bytes operators net) (count : n ≡ length (book_by bytes net).operators)
    (sound : none ≡ judgement n (arity_in operators) line) where
  abbrev B : Book
  B = book_by bytes net

  -- is one term by the table's arities
  pub one_term : spells (arity_in operators) 1 line ≡ true
  one_term =
      let (x, r) = sound_accepted B (sym count) (tables_by t).operators_in line (sym sound) in
      let (c, e, l, a) = line_correct B line x r in
      spells_book B (tables_by t).operators_in 1 line a ∙ subst (λ (xs : List ℕ). spells (arity B) 1 xs ≡ true) e (correct_spells (arity B) x c)

  -- and, loaded, the present term
  pub present : {symbols : List ℕ} {ms : List Bool} (len offset : ℕ) → length bytes ≤ 65536 → len ≡ length line → Loaded (arity_in operators) line ms len symbols →
      offset < len → Present bytes operators net symbols offset
  present {symbols} len offset short e l i =
      let (all, most) = sound_known n (arity_in operators) line (sym sound) in
      let few : len ≤ 1024 = omega arith in
      record {
        netted = t;
        short = omega arith;
        sized = loaded_sized (arity_in operators) line len symbols few one_term l;
        inside = omega (arith, loaded_length (arity_in operators) line len symbols few one_term l);
        known = rw (loaded_operators (arity_in operators) line len symbols few one_term l, ← count) all;
      }

-- the right side of a rule that was found can be filled
pub fillable : {bytes operators net symbols : List ℕ} {offset at : ℕ} {b : Binding} {m : M.Match} → Present bytes operators net symbols offset →
    RuleFound (book_by bytes net) operators offset (operators_in symbols) (length_in symbols) b m → at ≡ right_of net m.rule →
    Fillable bytes at operators (operators_in symbols) b
fillable {bytes} {operators} {net} {at = at} {m = m} p h e =
    let side = (rule_at (book_by bytes net).rules m.rule).right in
    let stands = subst (λ (x : ℕ). SideAt bytes x operators side) (sym (e ∙ rights_are p.netted m.rule h.below)) (right_stands (tables_by p.netted) m.rule h.below) in
    record { short = p.short; side = side; stands = stands; bound = h.terms }

-- the only unit at its start may carry out WHOLE
pub due_at_start : {s : Store} (offset o len : ℕ) → Started s → 0 < len → UnitsDue s 1 (record { unit = 0; offset = offset; operator = o }) len
unfolding start_units
due_at_start {s} offset o len t l =
    let e = t.units 1 (omega arith) (omega arith) in
    record {
      few = omega arith;
      one = omega arith;
      top = record {
        fit = t.fit;
        unit = omega arith;
        index = omega (arith, height_at s.work s.cells 1 0 (omega arith), ap (λ (us : List FlatUnit). length (unit us 0).stack) e);
      };
      offsets = subst (All (λ (y : FlatUnit). Offsets len y.stack)) (sym e) ((l, (tt, tt)), tt);
      alone = λ _. subst (λ (us : List FlatUnit). Offsets offset (drop 1 (unit us 0).stack)) (sym e) (tt, tt);
    }
