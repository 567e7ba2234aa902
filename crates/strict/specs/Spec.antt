-- What the strict profile answers of a book's bytes (document 02, Change 13). Assumes nothing.
use Rattle.paper.specs.Strict.{Verdict}
use Rattle.std.specs.Prelude.{ℕ, Option, Some, None, Result, Ok, Err}
use Rattle.refusal.specs.Numbers.{number}
use Rattle.refusal.specs.declared.Refusal.{Refusal}

-- the paper's verdict for each case of the code's answer
abbrev pub verdict : Result (Option (ℕ × ℕ)) Refusal → Verdict
verdict (Err e) = Verdict.faulty (number e)
verdict (Ok (Some (i, j))) = Verdict.overlapping i j
verdict (Ok None) = Verdict.admitted
