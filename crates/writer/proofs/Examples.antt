-- The writer's row of 'What is checked where' (document 01) on small books and outputs, all computed: the book's own faults, then 16, and the exact
-- length; a dated book keeps its form and its days (document 02, Change 5). Assumes nothing.
use mathlib.Core.List.{List, [], ◌∷◌}
use mathlib.Core.Path.{◌≡◌, refl}
use Prim.Native.Nat.{ℕ}
use lib.ListN.{replicate}
use Rattle.paper.specs.Page.{written_of}
use Rattle.paper.proofs.Days.{one_day}
use Rattle.paper.specs.Result.{refused, accepted}
use Rattle.writer.specs.Spec.{Outcome, writing}

-- what the writer gives for a book's bytes and an output
unfoldable pub writes : List ℕ → List ℕ → Outcome
unfolding writing written_of
writes book output = writing (written_of book) output

-- a book of five bytes, written back as the three 02 02 00
abbrev pub settles : List ℕ
settles = 0x02 ∷ 0x03 ∷ 0x10 ∷ 0x80 ∷ 0x00 ∷ []

pub record Examples : Type 0 where
  -- an output of 4 bytes, whose last one stays; of 3; of 2: 16
  pub longer : writes settles (7 ∷ 7 ∷ 7 ∷ 7 ∷ []) ≡ record { answer = accepted 3; output = 0x02 ∷ 0x02 ∷ 0x00 ∷ 7 ∷ [] }
  pub just_fits : writes settles (7 ∷ 7 ∷ 7 ∷ []) ≡ record { answer = accepted 3; output = 0x02 ∷ 0x02 ∷ 0x00 ∷ [] }
  pub short : writes settles (7 ∷ 7 ∷ []) ≡ record { answer = refused 16; output = 7 ∷ 7 ∷ [] }
  -- a dated book of six bytes, written back as the four 00 02 02 00; one with days, as it is
  pub dated : writes (0x00 ∷ settles) (7 ∷ 7 ∷ 7 ∷ 7 ∷ 7 ∷ []) ≡ record { answer = accepted 4; output = 0x00 ∷ 0x02 ∷ 0x02 ∷ 0x00 ∷ 7 ∷ [] }
  pub days : writes one_day (replicate 16 7) ≡ record { answer = accepted 16; output = one_day }
  -- the book's own fault before 16, with an empty output: a byte 0 alone, and count 0 behind it
  pub own_first : writes (0x00 ∷ []) [] ≡ record { answer = refused 1; output = [] }
  pub own_count : writes (0x00 ∷ 0x00 ∷ []) [] ≡ record { answer = refused 2; output = [] }

pub examples : Examples
unfolding writes
examples = record { longer = refl; just_fits = refl; short = refl; dated = refl; days = refl; own_first = refl; own_count = refl }
