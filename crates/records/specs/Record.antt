-- The record of an answer, which a line gets among many (ours, beyond the papers). Assumes nothing.
use Rattle.std.specs.Prelude.{List, [], ◌∷◌, ◌++◌, ℕ}
use Rattle.paper.specs.Result.{Result, refused, accepted}
use Rattle.paper.specs.Tree.{preorder}
use Rattle.paper.specs.Run.{Answer}
use Rattle.paper.specs.Page.{ending_number}
use Rattle.stream.specs.Promises.{bytes}
use Rattle.engine.specs.Spec.{Values, values_of}

-- the number of the refusal alone; or 0, the ending's number, rewrites in four bytes, entries, granted and kept in eight each, the present term's length in two,
-- and its symbols. Numbers have the high byte first.
unfoldable pub value_bytes : Result Values → List ℕ → List ℕ
unfolding bytes
value_bytes (refused k) term = k ∷ []
value_bytes (accepted v) term =
    0 ∷ ending_number v.ending
    ∷ (bytes 4 v.rewrites ++ (bytes 8 v.entries ++ (bytes 8 v.granted ++ (bytes 8 v.kept ++ (bytes 2 v.length ++ term)))))

abbrev pub term_of : Result Answer → List ℕ
term_of (refused k) = []
term_of (accepted A) = preorder A.term

-- the record of an answer
unfoldable pub record_of : Result Answer → List ℕ
unfolding value_bytes
record_of x = value_bytes (values_of x) (term_of x)

-- no record is longer: 32 bytes and 1,024 symbols
abbrev pub longest : ℕ
longest = 1056
