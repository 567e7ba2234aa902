-- `book::is_dated` meets its contract: the first byte, if there is one, says the form. Assumes nothing.
use Rattle.std.proofs.Common.{◌≡◌, ℕ, Bool, true, false, eqb, List, [], ◌∷◌, Option, Some, None, Bor, refl, sym, ap, ◌∙◌}
use Rattle.std.specs.Option.{option_copied, option_eq}
use Rattle.std.specs.List.{slice_get}
use Rattle.paper.specs.Dated.{is_dated}
use Rattle.book.proofs.is_dated.Goals as goal

abbrev is_zero : Option ℕ → Bool
is_zero None = false
is_zero (Some b) = eqb b 0

zero_first : (o : Option (Bor ℕ)) (z : Bor ℕ) → z.now ≡ 0 → option_eq (λ x y. eqb x.now y.now) o (Some z) ≡ is_zero (option_copied o)
zero_first None z e = refl
zero_first (Some x) z e = ap (eqb x.now) e

first_zero : (bytes : List ℕ) → is_zero (slice_get bytes 0) ≡ is_dated bytes
unfolding is_dated
first_zero [] = refl
first_zero (b ∷ bs) = refl

pub returns : goal.returns
returns c =
    c.eq.ensures ∙ zero_first c.first.result _ refl ∙ ap is_zero c.first.ensures.value ∙ first_zero _
