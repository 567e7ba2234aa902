-- What stands in arrays, and fits its fields as every point that keeps the rules does (flat/proofs/Form, `point_fits`), can be saved. Assumes nothing.
use Prim.Native.Nat.{ℕ}
use native.Mathlib.Omega.{arith}
use Rattle.paper.proofs.Lists.{all_map}
use Rattle.flat.specs.Machine.{Frame, FlatUnit}
use Rattle.flat.proofs.Form.{FrameFits, UnitFits, Fits}
use Rattle.term.proofs.Sized.{length_some}
use Rattle.units.specs.Stacks.{units_in}
use Rattle.point.specs.declared.Numbers.{Numbers}
use Rattle.point.specs.Saved.{Arrays, saved, Standing}
use Rattle.point_writer.specs.Promises.{FrameFitsFields, UnitFitsFields, Savable}

frame_fits : (f : Frame) → FrameFits f → FrameFitsFields f
frame_fits (Frame.job a k c) h = h
frame_fits (Frame.exit w i) h = h
frame_fits Frame.sleep h = h
frame_fits Frame.bingo h = h

unit_fits : (x : FlatUnit) → UnitFits x → UnitFitsFields x
unit_fits x h = record { rank = h.rank; frames = all_map FrameFits FrameFitsFields frame_fits x.stack h.frames }

pub standing_savable : {arity : ℕ → ℕ} {n : ℕ} {x : Numbers} {a : Arrays} → Standing arity n x a → Fits arity (saved x a) → Savable x a
standing_savable {arity} {x = x} {a = a} s h = record {
  term = record { long = s.sized.long; some = (let l = length_some arity a.symbols s.sized in omega arith); most = s.sized.most };
  some_units = s.some_units;
  few_units = s.few_units;
  fit = s.fit;
  units = all_map UnitFits UnitFitsFields unit_fits (units_in a.store x.units) h.units;
  order = record { fits = s.order_fits; units = h.placed };
}
