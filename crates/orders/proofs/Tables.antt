-- What the tables of a book say of symbols that are its operators: their steps, and where arguments stand. Assumes nothing.
use mathlib.Core.Path.{◌≡◌, ap, ◌∙◌}
use mathlib.Core.Bool.{Bool, false}
use mathlib.Core.List.{List}
use Prim.Native.Nat.{ℕ, ◌<◌}
use native.Mathlib.Omega.{arith}
use lib.ListN.{length, get_or}
use Rattle.paper.specs.Book.{Book, arity, steps}
use Rattle.paper.specs.Marks.{unless_marked}
use Rattle.paper.specs.Sound.{All}
use Rattle.paper.specs.Strategy.{Step}
use Rattle.flat.specs.Symbols.{argument as offset_of}
use Rattle.flat.specs.Machine.{to_do}
use Rattle.tables.specs.Layout.{arity_in, steps_in, Rowed}
use Rattle.tables.specs.Tables.{Tables}
use Rattle.tables.proofs.Laws.{all_at, arity_at, steps_at, rowed_at}
use Rattle.term.specs.Present.{length_in, operators_in, Sized}
use Rattle.term.proofs.Sized.{operators_length, argument_inside}
use Rattle.term.proofs.Skipping.{argument_book}
use Rattle.units.specs.declared.frames.Job.{Job}
use Rattle.orders.specs.Promises.{to_do_in, Argument, argument_at, argument_of, visit_of, ArgumentRowed}

-- argument i of the job's term, by the book
abbrev argument : ℕ → List Step → Argument
argument b ss = record { offset = b; steps = ss }

abbrev pub argument_by : Book → List ℕ → Job → ℕ → Argument
argument_by B xs x i = let b = offset_of (arity B) xs x.offset i in argument b (steps B (get_or xs b 0))

-- with the steps that its VISIT gives
abbrev pub visit_by : Book → List ℕ → List Bool → Job → ℕ → Argument
visit_by B xs ms x i = let b = offset_of (arity B) xs x.offset i in argument b (to_do B xs ms b)

module _ {bytes operators rules : List ℕ} {B : Book} (T : Tables bytes operators rules B) where
  module _ (xs : List ℕ) (known : All (λ o. o < length B.operators) xs) where
    operator_known : (a : ℕ) → a < length xs → get_or xs a 0 < length B.operators
    operator_known a l = all_at _ 0 xs a known l

    pub rowed_said : (a : ℕ) → a < length xs → Rowed operators (get_or xs a 0)
    rowed_said a l = rowed_at T (get_or xs a 0) (operator_known a l)

    pub steps_said : (a : ℕ) → a < length xs → steps_in operators (get_or xs a 0) ≡ steps B (get_or xs a 0)
    steps_said a l = steps_at T (get_or xs a 0) (operator_known a l)

    offset_said : (x : Job) (i : ℕ) → (argument_of operators xs x i).offset ≡ (argument_by B xs x i).offset
    offset_said x i = argument_book B T.operators_in xs x.offset i known

    pub argument_said : (x : Job) (i : ℕ) → (argument_by B xs x i).offset < length xs → argument_of operators xs x i ≡ argument_by B xs x i
    argument_said x i l =
        ap (λ (b : ℕ). argument_at operators b (get_or xs b 0)) (offset_said x i)
        ∙ ap (λ (ss : List Step). argument (argument_by B xs x i).offset ss) (steps_said (argument_by B xs x i).offset l)

    pub to_do_said : (ms : List Bool) (a : ℕ) → a < length xs → to_do_in operators xs ms a ≡ to_do B xs ms a
    unfolding to_do
    to_do_said ms a l = ap (unless_marked (get_or ms a false)) (steps_said a l)

    pub visit_said : (ms : List Bool) (x : Job) (i : ℕ) → (argument_by B xs x i).offset < length xs → visit_of operators xs ms x i ≡ visit_by B xs ms x i
    visit_said ms x i l =
        ap (λ (b : ℕ). argument b (to_do_in operators xs ms b)) (offset_said x i)
        ∙ ap (λ (ss : List Step). argument (argument_by B xs x i).offset ss) (to_do_said ms (argument_by B xs x i).offset l)

  -- an argument that the operator has by the book
  pub argument_place : (symbols : List ℕ) (x : Job) (i : ℕ) → All (λ o. o < length B.operators) (operators_in symbols) → Sized (arity_in operators) symbols →
      x.offset < length_in symbols → i < arity B (get_or (operators_in symbols) x.offset 0) → ArgumentRowed operators symbols x i
  argument_place symbols x i known s l m =
      let xs = operators_in symbols in
      let n : length xs ≡ length_in symbols = operators_length (arity_in operators) symbols s in
      let e = arity_at T (get_or xs x.offset 0) (operator_known xs known x.offset (omega arith)) in
      let h : i < arity_in operators (get_or xs x.offset 0) = omega arith in
      let k = argument_inside (arity_in operators) symbols s x.offset i l h in
      record {
        place = record { sized = s; offset = l; few = h };
        rowed = rowed_said xs known (argument_of operators xs x i).offset (omega arith);
      }
