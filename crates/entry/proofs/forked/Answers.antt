-- `entry::forked` meets its contract. Assumes nothing.
use mathlib.Core.Path.{refl}
use native.Mathlib.Numerals.{add-one}
use Rattle.entry.proofs.forked.Goals as goal

pub place-requires : goal.place-requires
place-requires c =
    rw c.in-Some.is at c.requires.1.room

pub returns-in-Some : goal.returns-in-Some
returns-in-Some c =
    rw (add-one, c.in-Some.is) (refl, record { fits = c.place.ensures.fits; is = c.place.ensures.is })

pub returns-in-None : goal.returns-in-None
returns-in-None c =
    rw (add-one, c.in-None.is) (refl, record { fits = c.requires.1.fits; is = refl })
