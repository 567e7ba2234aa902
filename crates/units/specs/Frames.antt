-- Frames as bytes, three each: a frame's place in a work area is that of its first byte. Every three bytes are some frame. Assumes nothing.
use Rattle.std.specs.Prelude.{Bool, true, false, List, ℕ, ◌+◌, ◌*◌, ◌-◌, ◌/◌, ◌%◌, ◌<◌, ltb, eqb, get_or}
use Rattle.flat.specs.Machine as F
use Rattle.units.specs.declared.frames.Frame.{Frame}
use Rattle.units.specs.declared.frames.Frame.TheVariants.{Job, Exit, Sleep, Bingo}

-- the code's frame as one of the machine on lists
abbrev pub flat : Frame → F.Frame
flat (Job x) = F.job x.offset x.next x.count
flat (Exit x) = F.exit x.unit x.index
flat Sleep = F.sleep
flat Bingo = F.bingo

abbrev pub pick : {A : Type 0} → Bool → A → A → A
pick true a b = a
pick false a b = b

-- the frame of three bytes; the first says its kind
unfoldable pub decode : ℕ → ℕ → ℕ → F.Frame
decode kind low high =
    pick (ltb kind 32) (F.job (low + high % 4 * 256) kind (high / 4))
    (pick (ltb kind 40) (F.exit (kind - 32) (low + high * 256)) (pick (eqb kind 40) F.sleep F.bingo))

abbrev pub frame_at : List ℕ → ℕ → F.Frame
frame_at w at = decode (get_or w at 0) (get_or w (at + 1) 0) (get_or w (at + 2) 0)

-- three bytes have room for the frame's numbers
abbrev pub InThreeBytes : F.Frame → Type 0
InThreeBytes (F.job offset next count) = (offset < 1024) × (next < 32) × (count < 64)
InThreeBytes (F.exit unit index) = (unit < 8) × (index < 65536)
InThreeBytes F.sleep = Unit {0}
InThreeBytes F.bingo = Unit {0}
