-- A net of three rules, computed: both(X, X), both(end, Y), both(X, Y), where both is operator 7 and end operator 3. Rule 1 leaves rule 0 behind the root, and
-- rule 2 has rule 0's path. Assumes nothing.
use mathlib.Core.List.{List}
use mathlib.Core.Path.{◌≡◌, refl}
use Prim.Native.Nat.{ℕ}
use native.Mathlib.Omega.{arith}
use lib.ListN.{replicate}
use Rattle.net.specs.Layout.{with_cell, root_in, last_in, choice_in, same_in, way_in, bucket}
use Rattle.net.specs.Net.{Same, Leads}

-- rule 1's way: depth 1, key 3, in its bucket
abbrev pub way_of_1 : List ℕ → List ℕ
way_of_1 net =
    with_cell (with_cell (with_cell (with_cell (with_cell (with_cell net 4 (bucket 0 1 3) 2) 6 1 0) 7 1 1) 8 1 3) 1 0 2) 2 0 2

abbrev pub three : List ℕ
three = with_cell (way_of_1 (with_cell (replicate 3840 0) 0 7 1)) 3 0 3

abbrev pub Found : Type 0
Found =
    (root_in three 7 ≡ 1) × (root_in three 3 ≡ 0) × (way_in three 0 1 3 ≡ 2) × (way_in three 0 1 4 ≡ 0) × (way_in three 0 2 3 ≡ 0) × (way_in three 1 1 3 ≡ 0)
    × (same_in three 0 ≡ 3) × (same_in three 1 ≡ 0) × (last_in three 0 ≡ 2) × (choice_in three 0 ≡ 2) × (last_in three 1 ≡ 0)

pub found : Found
unfolding way_in
found = (refl, refl, refl, refl, refl, refl, refl, refl, refl, refl, refl)

-- from the first rule of the root the net leads to each of the three
pub all_three : Leads three 0 1 0 × Leads three 0 1 1 × Leads three 0 1 2
unfolding way_in
all_three = (
  Leads.on 0 1 0 (Same.self 0),
  Leads.off 0 1 1 3 1 1 (omega arith) refl (Leads.on 1 2 1 (Same.self 1)),
  Leads.on 0 1 2 (Same.next 0 2 2 refl (Same.self 2)),
)
