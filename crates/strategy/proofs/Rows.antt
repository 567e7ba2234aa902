-- What laying out leaves: the row of the list's steps. Assumes nothing.
use mathlib.Core.Bool.{false}
use mathlib.Core.List.{List, ◌++◌, map, append_assoc}
use mathlib.Core.Path.{◌≡◌, sym, ap, ap₂, ◌∙◌}
use Prim.Native.Nat.{ℕ, ◌+◌, ◌-◌, ◌*◌, ◌≤◌}
use native.Mathlib.Omega.{arith}
use lib.ListN.{length, take, drop, replicate, length-map}
use lib.Seq.{sets, sets-eq, length-sets}
use Rattle.paper.specs.Strategy.{Item, Step, layout}
use Rattle.paper.specs.Reader.{items}
use Rattle.paper.proofs.Settling.{within_more}
use Rattle.flat.proofs.Lengths.{few_steps}
use Rattle.tables.specs.Layout.{code, row, set_row}
use Rattle.tables.proofs.Rows.{row_length}
use Rattle.strategy.specs.Codes.{codes}
use Rattle.strategy.specs.Promises.{Layable, LaidOut}
use Rattle.strategy.proofs.Reading.{settled_items}
use Rattle.strategy.proofs.Codes.{sets_append, codes_items}

module _ {its : List ℕ} {len : ℕ} {operators : List ℕ} {o : ℕ} (l : Layable its len operators o) where
  abbrev steps : List Step
  steps = layout (items (take len its))

  short_steps : length steps ≤ 15
  short_steps = rw (settled_items l.arity (take len its) l.settled) (few_steps _ l.settled.good)

  codes_steps : codes false 0 len its ≡ map code steps
  codes_steps =
      let s = l.settled in
      let w = within_more l.arity 7 s.strategy (omega (arith, s.good.arity)) s.good.within in
      codes_items its len s.strategy (omega (arith, l.short, l.long)) w s.are
      ∙ ap (λ (is : List Item). map code (layout is)) (sym (settled_items l.arity (take len its) s))

  codes_length : length (codes false 0 len its) ≡ length steps
  codes_length = ap length codes_steps ∙ length-map steps code

  pub short_codes : length (codes false 0 len its) ≤ 15
  short_codes = omega (arith, short_steps, codes_length)

  -- the codes are stored from the row's start on, then 0s up to the next row
  pub laid_out : (base end next : ℕ) (mid operators' : List ℕ) → base ≡ 256 + 16 * o → next ≡ base + 16 →
      mid ≡ sets operators base (codes false 0 len its) → end ≡ base + length (codes false 0 len its) →
      operators' ≡ sets mid end (replicate (next - end) 0) → LaidOut its len operators o operators'
  unfolding set_row row
  laid_out base end next mid operators' b f p q r =
      let n : next - end ≡ 16 - length steps = omega (arith, q, codes_length, short_steps) in
      let zs : List ℕ = replicate (16 - length steps) 0 in
      let e : operators' ≡ sets operators (256 + 16 * o) (row steps) =
      r ∙ ap₂ (λ (us : List ℕ) (k : ℕ). sets us end (replicate k 0)) p n
      ∙ ap (λ (k : ℕ). sets (sets operators base (codes false 0 len its)) k zs) q
      ∙ sym (sets_append operators base (codes false 0 len its) zs)
      ∙ ap₂ (λ (k : ℕ) (us : List ℕ). sets operators k (us ++ zs)) b codes_steps in
      let g = row_length steps (omega (arith, short_steps)) in
      record {
        is = e ∙ sets-eq (row steps) operators (256 + 16 * o) (omega (arith, g, l.operator, l.table))
            ∙ append_assoc (take (256 + 16 * o) operators) (row steps) (drop (256 + 16 * o + length (row steps)) operators);
        table = ap length e ∙ length-sets operators (256 + 16 * o) (row steps) ∙ l.table;
      }
