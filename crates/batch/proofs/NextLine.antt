-- The next line at a position, or why it isn't done: by where its bytes end. Assumes nothing.
use mathlib.Core.List.{List, ◌∷◌}
use mathlib.Core.Path.{◌≡◌, ap}
use Prim.Native.Nat.{ℕ, ◌+◌, ◌-◌, ◌≤◌, ◌<◌}
use native.Mathlib.Omega.{arith}
use lib.ListN.{length, take, drop, length-drop}
use Rattle.std.proofs.Common.{Some, None, Ok, Err}
use Rattle.stream.specs.Promises.{PartEnds}
use Rattle.records.specs.Record.{longest}
use Rattle.batch.specs.Lines.{lines_of}
use Rattle.batch.specs.Promises.{GoesOn}
use Rattle.batch.specs.declared.Stop as S
use Rattle.batch.proofs.Splitting.{lines_none, lines_next}

module _ (lines : List ℕ) (at left : ℕ) where
  pub cut_short : at < length lines → PartEnds lines at None → GoesOn lines at left (Err S.Stop.Cut)
  cut_short h p = (h, lines_none (drop at lines) 17 p.is)

  module _ (end : ℕ) (p : PartEnds lines at (Some end)) where
    whole : lines_of (drop at lines) ≡ take (end - (at + 2)) (drop (at + 2) lines) ∷ lines_of (drop end lines)
    whole =
        let w = p.within in
        lines_next (drop at lines) (record { value = take (end - (at + 2)) (drop (at + 2) lines); left = drop end lines }) p.is
        (omega (arith, w.0, w.1, length-drop at lines, length-drop end lines))

    pub no_room : at < length lines → left < longest → GoesOn lines at left (Err S.Stop.Room)
    no_room h k = (h, k, omega (arith, ap length whole))

    pub next_done : longest ≤ left → GoesOn lines at left (Ok end)
    next_done h = (p.within.0, p.within.1, h, whole)
