-- `page::decimal_field` meets its contract: a space, then the digits as they stand. Assumes nothing.
use mathlib.Core.List.{List, ◌∷◌}
use lib.ListN.{length, take, drop, length-drop}
use lib.Seq.{take_all}
use mathlib.Core.Path.{◌≡◌, ap, ◌∙◌}
use Prim.Native.Nat.{ℕ, ◌-◌}
use native.Mathlib.Omega.{arith}
use Rattle.stream.proofs.Puts.{put_as, put_both}
use Rattle.page.proofs.decimal_field.Goals as goal

pub returns : goal.returns
returns c =
    let d = c.digits-i.ensures in
    let p = c.put-p.ensures in
    let q = c.put.ensures in
    let i = c.digits-i.result in
    let l : List ℕ = c.digits-i.new.d in
    let t : take (20 - i) (drop i l) ≡ drop i l = take_all (20 - i) (drop i l) (omega (arith, length-drop i l)) in
    (put_as (ap (λ (ds : List ℕ). 32 ∷ ds) (t ∙ d.are)) (put_both p q), omega (arith, p.ends, q.ends, ap length t, length-drop i l))
