-- `records::put_run` meets its contract: its parts stand one after another, each before the room that is left. Assumes nothing.
use mathlib.Core.List.{[], ◌∷◌}
use mathlib.Core.Path.{ap, ◌∙◌}
use Prim.Native.Nat.{ℕ}
use native.Mathlib.Omega.{arith}
use Rattle.stream.proofs.Puts.{put_as, put_both}
use Rattle.records.specs.Record.{value_bytes}
use Rattle.records.proofs.Writing.{small_bytes, room_behind}
use Rattle.records.proofs.put_run.Goals as goal

pub put_number-b-requires : goal.put_number-b-requires
put_number-b-requires c =
    omega (arith, room_behind 2 1054 _ c.put_number-a.ensures c.requires.1)

pub put_number-c-requires : goal.put_number-c-requires
put_number-c-requires c =
    omega (arith, room_behind 4 1050 _ c.put_number-b.ensures (room_behind 2 1054 _ c.put_number-a.ensures c.requires.1))

pub put_number-d-requires : goal.put_number-d-requires
put_number-d-requires c =
    omega (
      arith,
      room_behind 8 1042 _ c.put_number-c.ensures
          (room_behind 4 1050 _ c.put_number-b.ensures (room_behind 2 1054 _ c.put_number-a.ensures c.requires.1)),
    )

pub put_number-e-requires : goal.put_number-e-requires
put_number-e-requires c =
    omega (
      arith,
      room_behind 8 1034 _ c.put_number-d.ensures (room_behind 8 1042 _ c.put_number-c.ensures
          (room_behind 4 1050 _ c.put_number-b.ensures (room_behind 2 1054 _ c.put_number-a.ensures c.requires.1))),
    )

pub put_number-f-requires : goal.put_number-f-requires
put_number-f-requires c =
    omega (
      arith,
      room_behind 8 1026 _ c.put_number-e.ensures (room_behind 8 1034 _ c.put_number-d.ensures (room_behind 8 1042 _ c.put_number-c.ensures
          (room_behind 4 1050 _ c.put_number-b.ensures (room_behind 2 1054 _ c.put_number-a.ensures c.requires.1)))),
    )

pub put_term-requires : goal.put_term-requires
put_term-requires c =
    let s = c.requires in
    let h = room_behind 4 1050 _ c.put_number-b.ensures (room_behind 2 1054 _ c.put_number-a.ensures s.1) in
    let i = room_behind 8 1034 _ c.put_number-d.ensures (room_behind 8 1042 _ c.put_number-c.ensures h) in
    let j = room_behind 2 1024 _ c.put_number-f.ensures (room_behind 8 1026 _ c.put_number-e.ensures i) in
    (s.0, omega (arith, j, s.0))

pub returns : goal.returns
unfolding value_bytes
returns c =
    let n = c.ending_number.ensures in
    put_both (put_as (small_bytes _ (omega (arith, n.1)) ∙ ap (λ (v : ℕ). 0 ∷ v ∷ []) n.0) c.put_number-a.ensures)
    (put_both c.put_number-b.ensures
    (put_both c.put_number-c.ensures (put_both c.put_number-d.ensures (put_both c.put_number-e.ensures
    (put_both c.put_number-f.ensures c.put_term.ensures)))))
