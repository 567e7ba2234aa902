-- What WHOLE asks and ensures (document 01, 'Orders of a unit'), as do_whole of the machine on lists has it. Assumes nothing.
use Rattle.std.specs.Prelude.{Bool, true, false, List, ◌∷◌, map, ◌≡◌, ℕ, suc, ◌+◌, ◌-◌, ◌≤◌, ◌<◌, eqb, length, take, drop}
use Rattle.std.proofs.Math.Option.{some}
use Rattle.paper.specs.Strategy.{Step}
use Rattle.paper.specs.Book.{Symbol, Book, arity}
use Rattle.paper.specs.Line.{symbol_limit}
use Rattle.paper.specs.Machine.{Ending, exceeds}
use Rattle.paper.specs.Sound.{All}
use Rattle.flat.specs.Symbols.{Binding, Hit, fill, fill_marks, rewrite, splice}
use Rattle.flat.specs.Sizes as flat
use Rattle.flat.specs.Sizes.{resize}
use Rattle.flat.specs.Machine.{Frame, FlatUnit, flat_unit, unit, FlatState, FlatOutcome, going, ended, shift_unit, with_unit, with_marks, proceed, mark, do_whole}
use Rattle.symbol.specs.Record.{operators, marks, sizes}
use Rattle.term.specs.Present.{length_in, operators_in, marks_in, sizes_in}
use Rattle.splice.specs.Promises.{Replaceable}
use Rattle.units.specs.Stacks.{Offsets, Store, units_in}
use Rattle.units.specs.Promises.{StacksFit, HasFrame, topped, at}
use Rattle.whole.specs.State.{Arrays, state, limits, progress}
use Rattle.whole.specs.declared.Progress as P
use Rattle.whole.specs.declared.Limits as L
use Rattle.whole.specs.declared.Place as Pl
use Rattle.whole.specs.declared.Whole as W
use Rattle.whole.specs.declared.Filled as F
use Rattle.whole.specs.declared.Choice as C

-- THE CHOICE OF A RULE

-- is the budget used up; would the term be too long with ys for the symbols up to e?
abbrev pub spent : P.Progress → L.Limits → Bool
spent p l = eqb p.rewrites l.budget

abbrev pub over : ℕ → List ℕ → List ℕ → ℕ → Bool
over a xs ys e = exceeds (some symbol_limit) (length ys + (length xs - (e - a)))

-- a rule of the book B matches: its filled right side is to stand for the symbols of xs from offset a up to e, and Q holds of these
pub record RuleGives (B : Book) (a : ℕ) (xs : List ℕ) (Q : List ℕ → ℕ → Type 0) : Type 0 where
  pub right : List Symbol
  pub b : Binding
  pub e : ℕ
  pub hit : rewrite (arity B) B.rules a xs ≡ Hit.hit right b e
  pub so : Q (fill right b xs) e

-- its filled right side is the last symbols of scratch, with the marks of what is copied and with their sizes, and there is room for them
pub record RightFits (B : Book) (a : ℕ) (p : P.Progress) (l : L.Limits) (symbols scratch : List ℕ) (f : F.Filled) : Type 0 where
  pub left : spent p l ≡ false
  pub right : List Symbol
  pub b : Binding
  pub hit : rewrite (arity B) B.rules a (operators_in symbols) ≡ Hit.hit right b f.end
  pub operators_are : operators (drop (1024 - f.size) scratch) ≡ fill right b (operators_in symbols)
  pub marks_are : marks (drop (1024 - f.size) scratch) ≡ fill_marks right b (marks_in symbols)
  pub true_sizes : sizes (drop (1024 - f.size) scratch) ≡ flat.sizes (arity B) (operators (drop (1024 - f.size) scratch))
  pub replaceable : Replaceable symbols (length_in symbols) a f.end f.size

abbrev pub ChoiceIs : Book → ℕ → P.Progress → L.Limits → List ℕ → List ℕ → C.Choice → Type 0
ChoiceIs B a p l symbols scratch C.Choice.Missed = rewrite (arity B) B.rules a (operators_in symbols) ≡ Hit.miss
ChoiceIs B a p l symbols scratch C.Choice.Spent = RuleGives B a (operators_in symbols) (λ ys e. spent p l ≡ true)
ChoiceIs B a p l symbols scratch C.Choice.Full =
    RuleGives B a (operators_in symbols) (λ ys e. (spent p l ≡ false) × (over a (operators_in symbols) ys e ≡ true))
ChoiceIs B a p l symbols scratch (C.Choice.Fits f) = RightFits B a p l symbols scratch f

pub record Chosen (B : Book) (a : ℕ) (p : P.Progress) (l : L.Limits) (symbols scratch : List ℕ) (r : C.Choice) : Type 0 where
  pub is : ChoiceIs B a p l symbols scratch r
  pub long : length scratch ≡ 1024

-- THE REPLACEMENT

-- of count units, whose jobs are at offsets below len, the one at the place has a frame; if it is the only one, the jobs below that frame stand before the place
pub record UnitsDue (s : Store) (count : ℕ) (x : Pl.Place) (len : ℕ) : Type 0 where
  pub few : count ≤ 8
  pub one : x.unit < count
  pub top : HasFrame s x.unit 0
  pub offsets : All (λ (y : FlatUnit). Offsets len y.stack) (units_in s count)
  pub alone : count ≡ 1 → Offsets x.offset (drop 1 (unit (units_in s count) x.unit).stack)

-- the n symbols ys, with their marks and sizes, stand for those from the place's offset up to e, the jobs' offsets have gone along, and the unit is to visit the new
-- term
pub record Rewritten (x : Pl.Place) (ys : List ℕ) (n e count : ℕ) (s s' : Arrays) : Type 0 where
  pub operators_are : operators (take (x.offset + n + (length_in s.symbols - e)) s'.symbols)
      ≡ splice x.offset e (operators ys) (operators_in s.symbols)
  pub marks_are : marks (take (x.offset + n + (length_in s.symbols - e)) s'.symbols) ≡ splice x.offset e (marks ys) (marks_in s.symbols)
  pub sizes_are : sizes (take (x.offset + n + (length_in s.symbols - e)) s'.symbols) ≡ resize x.offset e (sizes ys) (sizes_in s.symbols)
  pub units : units_in s'.store count
      ≡ map (shift_unit x.offset e n) (at x.unit (topped (Frame.job x.offset 0 0)) (units_in s.store count))
  pub long : length s'.symbols ≡ 1024
  pub fit : StacksFit s'.store

-- WHOLE

-- the outcome of an answer, from s to s'; k, c, ss and fs are the job's, as do_whole has them
abbrev pub outcome : Pl.Place → ℕ → ℕ → List Step → List Frame → FlatState → FlatState → W.Whole → FlatOutcome
outcome x k c ss fs s s' W.Whole.Missed =
    going (with_marks (with_unit s x.unit 0 (proceed x.offset (suc k) c ss fs)) (mark (length ss) x.offset s.marks))
outcome x k c ss fs s s' W.Whole.Rewrote = going s'
outcome x k c ss fs s s' W.Whole.Spent = ended Ending.spent s
outcome x k c ss fs s s' W.Whole.Full = ended Ending.full s

-- the symbols and the units are as they were, unless they were rewritten
abbrev pub Stays : Arrays → Arrays → W.Whole → Type 0
Stays s s' W.Whole.Rewrote = Unit {0}
Stays s s' W.Whole.Missed = s' ≡ s
Stays s s' W.Whole.Spent = s' ≡ s
Stays s s' W.Whole.Full = s' ≡ s

-- do_whole, for a unit that is busy with a job's frame on its stack; the order of placing stays
pub record CarriedOut (B : Book) (x : Pl.Place) (p : P.Progress) (l : L.Limits) (s s' : Arrays) (r : W.Whole) : Type 0 where
  pub is : (placed : List ℕ) (k c : ℕ) (ss : List Step) (f : Frame) (fs : List Frame) → unit (state s p l placed).units x.unit ≡ flat_unit 0 (f ∷ fs) →
      do_whole B (limits l) x.unit (state s p l placed) x.offset k c ss fs (rewrite (arity B) B.rules x.offset (state s p l placed).symbols)
      ≡ outcome x k c ss fs (state s p l placed) (state s' (progress p r) l placed) r
  pub stays : Stays s s' r
  pub long : length s'.symbols ≡ 1024
  pub most : length_in s'.symbols ≤ 1024
  pub fit : StacksFit s'.store
