-- What the writer answers, and the output behind it (document 01, 'What is checked where', 'Book writer'; document 02, Change 5: "The
-- writer keeps the form it read, days included"). Assumes nothing.
use Rattle.std.specs.Prelude.{Ok, Err, List, ◌++◌, ◌≡◌, ℕ, ltb, length, drop}
use Rattle.std.specs.Prelude.{Result as Answer}
use Rattle.paper.specs.Result.{Result, refused, accepted, if}
use Rattle.paper.specs.Page.{written_of}
use Rattle.refusal.specs.declared.Refusal.{Refusal}
use Rattle.refusal.specs.Numbers.{number}

pub record Outcome : Type 0 where
  pub answer : Result ℕ
  pub output : List ℕ

-- The book's own refusal; 16: output shorter than the written book; else its length, and its bytes at the front of the output. A refusal leaves
-- the output as it was, and so does an answer every byte behind the written book.
unfoldable pub writing : Result (List ℕ) → List ℕ → Outcome
writing (refused k) output = record { answer = refused k; output = output }
writing (accepted ws) output =
    if (ltb (length output) (length ws)) (record { answer = refused 16; output = output })
    (record { answer = accepted (length ws); output = ws ++ drop (length ws) output })

-- what the code answers, by the paper's numbers
abbrev pub told : Answer ℕ Refusal → Result ℕ
told (Ok n) = accepted n
told (Err e) = refused (number e)

-- r and output' are what the writer gives for a book's bytes and an output
pub record Answers (book output output' : List ℕ) (r : Answer ℕ Refusal) : Type 0 where
  pub is : writing (written_of book) output ≡ record { answer = told r; output = output' }
