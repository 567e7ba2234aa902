-- One entry (document 01, 'Orders of a unit'): what it asks of the state, and that its outcome is the machine's on lists. Assumes nothing.
use Rattle.std.specs.Prelude.{true, List, ◌∷◌, Option, Some, None, Result, Ok, Err, ◌≡◌, ℕ, suc, ◌+◌, ◌-◌, ◌^◌, ◌≤◌, ◌<◌, length, get_or}
use Rattle.std.proofs.Math.Option.{some}
use Rattle.paper.specs.Machine as paper
use Rattle.paper.specs.Sound.{All}
use Rattle.paper.specs.Strategy.{Step}
use Rattle.flat.specs.Machine.{Frame, FlatState, FlatOutcome, going, ended, mark, flat_entry}
use Rattle.flat.specs.Run.{Reached}
use Rattle.symbol.specs.Record.{operator}
use Rattle.tables.specs.Layout.{step_of, code_in}
use Rattle.term.specs.Present.{length_in, operators_in, marks_in, sizes_in}
use Rattle.net.specs.Net.{book_by, NetOf}
use Rattle.units.specs.Stacks.{busy_in, Store, store}
use Rattle.units.specs.Promises.{TopIs}
use Rattle.units.specs.declared.frames.Job.{Job}
use Rattle.placing.specs.Order.{placed_in, OrderFits}
use Rattle.placing.specs.Promises as C
use Rattle.orders.specs.Promises as O
use Rattle.whole.specs.declared.Progress.{Progress}
use Rattle.whole.specs.declared.Limits.{Limits}
use Rattle.entry.specs.State.{limited}
use Rattle.entry.specs.declared.Ending.{Ending}

-- the operators and the net are of a book, and s is a state that runs by it reach
pub record Running (bytes operators net : List ℕ) (l : Limits) (s : FlatState) : Type 0 where
  pub netted : NetOf bytes operators net
  pub short : length bytes ≤ 65536
  pub reached : Reached (book_by bytes net) (limited l.budget) s
  pub known : All (λ o. o < length (book_by bytes net).operators) s.symbols

-- u is one of the units, and there is a next number for each count
pub record Turn (l : Limits) (u : ℕ) (s : FlatState) : Type 0 where
  pub one : u < l.units
  pub allowed : s.rewrites ≤ l.budget
  pub small : l.budget < 2 ^ 32
  pub room : s.granted + s.kept + 1 < 2 ^ 64

-- the progress behind an entry; one that ends the run has changed nothing
abbrev pub after : Progress → Result Progress Ending → Progress
after p (Ok p') = p'
after p (Err e) = p

-- the paper's ending; its number is ending_number of the paper's page
abbrev pub ending : Ending → paper.Ending
ending Ending.Finished = paper.finished
ending Ending.Spent = paper.spent
ending Ending.Full = paper.full
ending Ending.Cut = paper.cut

-- the outcome that an answer tells, s being the state behind it
abbrev pub outcome : Result Progress Ending → FlatState → FlatOutcome
outcome (Ok p) s = going s
outcome (Err e) s = ended (ending e) s

-- the progress behind a FORK that a unit got, or that was kept
abbrev pub forked : Progress → Option ℕ → Progress
forked p (Some v) = record { rewrites = p.rewrites; granted = suc p.granted; kept = p.kept }
forked p None = record { rewrites = p.rewrites; granted = p.granted; kept = suc p.kept }

-- the order of placing behind it
abbrev pub placed_by : Option ℕ → List ℕ → List ℕ
placed_by (Some v) vs = v ∷ vs
placed_by None vs = vs

-- there is room for a part that a unit got; it has been placed
abbrev pub RoomFor : Option ℕ → List ℕ → Type 0
RoomFor (Some v) order = C.CanPlace order v
RoomFor None order = Unit {0}

pub record CanPlace (got : Option ℕ) (order : List ℕ) : Type 0 where
  pub fits : OrderFits order
  pub room : RoomFor got order

pub record Placed (got : Option ℕ) (order order' : List ℕ) : Type 0 where
  pub fits : OrderFits order'
  pub is : placed_in order' ≡ placed_by got (placed_in order)

-- the unit u is busy with the job x on top of its stack
pub record Working (work units : List ℕ) (u : ℕ) (x : Job) : Type 0 where
  pub busy : busy_in units u ≡ true
  pub top : TopIs u (Frame.job x.offset x.next x.count) (store work units)

-- the job's next order is the step y of its operator, as the table has it
pub record Next (operators symbols : List ℕ) (x : Job) (y : Step) : Type 0 where
  pub one : 1 ≤ x.next
  pub is : some y ≡ step_of (code_in operators (operator (get_or symbols x.offset 0)) (x.next - 1))

-- THE MARK

-- the term at offset a, of which n orders are left, is marked if none is; all else of the term is as it was
pub record MarkedLeft (n a : ℕ) (symbols symbols' : List ℕ) : Type 0 where
  pub operators_are : operators_in symbols' ≡ operators_in symbols
  pub sizes_are : sizes_in symbols' ≡ sizes_in symbols
  pub marks_are : marks_in symbols' ≡ mark n a (marks_in symbols)
  pub length_is : length_in symbols' ≡ length_in symbols
  pub long : length symbols' ≡ length symbols

-- the steps that VISIT of the term at offset a gives
abbrev pub to_do : List ℕ → List ℕ → ℕ → List Step
to_do operators symbols a = O.to_do_in operators (operators_in symbols) (marks_in symbols) a

-- VISIT of the job's own term, at offset a
pub record Visited (operators : List ℕ) (a u : ℕ) (symbols symbols' : List ℕ) (s s' : Store) : Type 0 where
  pub stack : O.Visited (to_do operators symbols a) a u s s'
  pub marks : MarkedLeft (length (to_do operators symbols a)) a symbols symbols'

-- argument i of the job's term, with the steps that its VISIT gives
abbrev pub visit_of : List ℕ → List ℕ → Job → ℕ → O.Argument
visit_of operators symbols x i = O.visit_of operators (operators_in symbols) (marks_in symbols) x i

-- its VISIT
pub record ArgumentVisited (operators : List ℕ) (x : Job) (i u : ℕ) (symbols symbols' : List ℕ) (s s' : Store) : Type 0 where
  pub stack : O.ArgumentVisited x (visit_of operators symbols x i) u s s'
  pub marks : MarkedLeft (length (visit_of operators symbols x i).steps) (visit_of operators symbols x i).offset symbols symbols'

-- what the machine on lists does for unit u in the state s
abbrev pub entered : List ℕ → List ℕ → Limits → ℕ → FlatState → FlatOutcome
entered bytes net l u s = flat_entry (book_by bytes net) (limited l.budget) u s
