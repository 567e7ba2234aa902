-- A net's book by the day that the net names: it is the book of the tables that the net was made from, so what holds of it is said of `book_by`.
-- Assumes nothing.
use mathlib.Core.List.{List}
use mathlib.Core.Path.{◌≡◌, sym, ap, subst}
use Prim.Native.Nat.{ℕ, ◌<◌}
use lib.ListN.{length}
use Rattle.paper.specs.Book.{Book}
use Rattle.paper.specs.Dated.{on_day}
use Rattle.tables.specs.Layout.{left_in, right_in}
use Rattle.tables.specs.Tables.{any_book, Tables, book_of}
use Rattle.net.specs.Layout.{left_of, right_of}
use Rattle.net.specs.Net.{path, Net, book_by, NetOf}

module _ {bytes operators net : List ℕ} (h : NetOf bytes operators net) where
  pub by_rules : book_by bytes net ≡ book_of bytes h.rules
  by_rules = ap (λ (d : ℕ). on_day d (any_book bytes)) h.same_day

  pub tables_by : Tables bytes operators h.rules (book_by bytes net)
  tables_by = subst (λ (B : Book). Tables bytes operators h.rules B) (sym by_rules) h.tables.tables

  pub net_is : Net net (path (book_by bytes net).rules) (length (book_by bytes net).rules)
  net_is = subst (λ (B : Book). Net net (path B.rules) (length B.rules)) (sym by_rules) h.is

  pub lefts_are : (i : ℕ) → i < length (book_by bytes net).rules → left_of net i ≡ left_in h.rules i
  lefts_are = subst (λ (B : Book). (i : ℕ) → i < length B.rules → left_of net i ≡ left_in h.rules i) (sym by_rules) h.lefts

  pub rights_are : (i : ℕ) → i < length (book_by bytes net).rules → right_of net i ≡ right_in h.rules i
  rights_are = subst (λ (B : Book). (i : ℕ) → i < length B.rules → right_of net i ≡ right_in h.rules i) (sym by_rules) h.rights
