-- What the functions on a slot ask. Assumes nothing.
use Rattle.std.specs.Prelude.{List, ℕ, ◌+◌, ◌≤◌, length}

-- there is room for the book and the longest fields: two numbers of two bytes, the book, 168,660 bits
pub record PartRoom (book part : List ℕ) : Type 0 where
  pub room : 4 + length book + 21083 ≤ length part
  pub short : length part ≤ 65536

pub record SlotRoom (name book slot : List ℕ) : Type 0 where
  pub named : length name ≤ 16
  pub room : 21 + length book + 21083 ≤ length slot
  pub short : length slot ≤ 65536
