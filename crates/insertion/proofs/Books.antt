-- The net of a book's rules, as far as they are inserted. Assumes nothing.
use mathlib.Core.List.{List}
use mathlib.Core.Path.{◌≡◌, refl, sym, ap, ◌∙◌, subst}
use Prim.Native.Nat.{ℕ, suc, ◌+◌, ◌^◌, ◌≤◌, ◌<◌}
use native.Mathlib.Omega.{arith}
use native.Mathlib.Decide.{ℕ_discrete}
use lib.ListN.{length, get_or}
use Rattle.paper.specs.Tree.{preorder}
use Rattle.paper.specs.Book.{Symbol, Rule, Book}
use Rattle.paper.specs.Dated.{on_day}
use Rattle.paper.specs.WellFormed.{Fits}
use Rattle.paper.proofs.Lists.{all_map}
use Rattle.tables.specs.Layout.{day_in, left_in, right_in}
use Rattle.tables.specs.Tables.{rule_at, TablesOf, any_book, book_of}
use Rattle.tables.proofs.Laws.{rule_good, left_at, right_at, stand_inside}
use Rattle.rule.proofs.Tables.{lefts_stand}
use Rattle.net.specs.Layout.{published, left_of, right_of, day_of}
use Rattle.net.specs.Net.{path, Net, book_by}
use Rattle.net.specs.Promises.{Empty, Kept, SidesPut}
use Rattle.net.proofs.Growing.{empty_net, sides_net}
use Rattle.insertion.specs.Promises.{Keyed, KeyedAt, Ready, Inserted, Built}
use Rattle.insertion.proofs.Walks.{root_small}

-- WHERE SIDES STAND

left_kept : (net net' : List ℕ) → Kept 9 15 net net' → (i : ℕ) → i < 256 → left_of net' i ≡ left_of net i
left_kept net net' k i l =
    let a = k 9 i (omega arith) (omega arith) l in
    let b = k 10 i (omega arith) (omega arith) l in
    let c = k 11 i (omega arith) (omega arith) l in
    omega arith

right_kept : (net net' : List ℕ) → Kept 9 15 net net' → (i : ℕ) → i < 256 → right_of net' i ≡ right_of net i
right_kept net net' k i l =
    let a = k 12 i (omega arith) (omega arith) l in
    let b = k 13 i (omega arith) (omega arith) l in
    let c = k 14 i (omega arith) (omega arith) l in
    omega arith

-- the net of the first j rules, in an area that holds where the sides of the first k stand
pub record Building (bytes operators rules net₀ net : List ℕ) (j k : ℕ) : Type 0 where
  pub is : Net net (path (book_of bytes rules).rules) j
  pub long : length net ≡ length net₀
  pub same_day : day_of net ≡ day_in rules
  pub lefts : (i : ℕ) → i < k → left_of net i ≡ left_in rules i
  pub rights : (i : ℕ) → i < k → right_of net i ≡ right_in rules i

module _ {bytes operators rules : List ℕ} (T : TablesOf bytes operators rules) where
  abbrev rs : List Rule
  rs = (book_of bytes rules).rules

  -- a book has at most 255 rules, in at most 65,536 bytes
  pub few : length rs < 256
  few = T.tables.good.few_rules

  pub positions : length bytes ≤ 65536 → (i : ℕ) → i < length rs → (left_in rules i < 2 ^ 24) × (right_in rules i < 2 ^ 24)
  positions h i l =
      let a = stand_inside bytes (left_in rules i) (rule_at rs i).left (left_at T.tables i l) in
      let b = stand_inside bytes (right_in rules i) (rule_at rs i).right (right_at T.tables i l) in
      (omega arith, omega arith)

  fits_keyed : (s : Symbol) → Fits (book_of bytes rules).operators s → Keyed s
  fits_keyed (Symbol.operator o) h = let f = T.tables.good.few_operators in omega arith
  fits_keyed (Symbol.variable v) h = tt

  keyed_at : (i : ℕ) → i < length rs → KeyedAt bytes operators (left_in rules i) (rule_at rs i).left
  keyed_at i l =
      record { left = (lefts_stand T.tables).each i l; keyed = all_map _ _ fits_keyed (preorder (rule_at rs i).left) (rule_good T.tables i l).left.fits }

  small : (i : ℕ) → i < length rs → get_or (path rs i) 0 0 < 256
  small i l = root_small rs i (keyed_at i l).keyed

  -- an empty area with the day
  pub building_none : {net₀ net₁ net : List ℕ} (day : ℕ) → published ≤ length net₀ → Empty net₀ net₁ → day ≡ day_in rules → SidesPut net₁ 255 day 0 net →
      Building bytes operators rules net net 0 0
  building_none {net = net} day l e q s =
      record {
        is = sides_net (empty_net (path rs) e l) (omega arith) (λ j k. absurd (omega arith)) s;
        long = refl;
        same_day = s.left_is ∙ q;
        lefts = λ i k. absurd (omega arith);
        rights = λ i k. absurd (omega arith);
      }

  -- the sides of the next rule
  pub building_sides : {net₀ net net' : List ℕ} (j left right : ℕ) → j < length rs → Building bytes operators rules net₀ net j j →
      left ≡ left_in rules j → right ≡ right_in rules j →
      SidesPut net j left right net' → Building bytes operators rules net₀ net' j (suc j)
  building_sides {net = net} {net' = net'} j left right l h p q s =
      let f = few in
      let a = h.long in
      let b = s.long in
      record {
        is = sides_net h.is (omega arith) (λ i k. small i (omega arith)) s;
        long = omega arith;
        same_day = s.lefts 255 (omega arith) (λ z. absurd (omega arith)) ∙ h.same_day;
        lefts = λ i k. go_left i k (ℕ_discrete i j);
        rights = λ i k. go_right i k (ℕ_discrete i j);
      }
    where
      go_left : (i : ℕ) → i < suc j → Dec (i ≡ j) → left_of net' i ≡ left_in rules i
      go_left i k (yes e) = subst (λ (x : ℕ). left_of net' x ≡ left_in rules x) (sym e) (s.left_is ∙ p)
      go_left i k (no e) = let f = few in s.lefts i (omega arith) e ∙ h.lefts i (omega arith)

      go_right : (i : ℕ) → i < suc j → Dec (i ≡ j) → right_of net' i ≡ right_in rules i
      go_right i k (yes e) = subst (λ (x : ℕ). right_of net' x ≡ right_in rules x) (sym e) (s.right_is ∙ q)
      go_right i k (no e) = let f = few in s.rights i (omega arith) e ∙ h.rights i (omega arith)

  module _ {net₀ net : List ℕ} {j k : ℕ} (h : Building bytes operators rules net₀ net j k) where
    same_book : book_by bytes net ≡ book_of bytes rules
    same_book = ap (λ (d : ℕ). on_day d (any_book bytes)) h.same_day

    -- it may be inserted
    pub ready : k ≡ suc j → j < length rs → Ready bytes operators net (book_by bytes net).rules j
    ready e l =
        let f = few in
        subst (λ (B : Book). Ready bytes operators net B.rules j) (sym same_book) (
        record {
          is = h.is;
          few = omega arith;
          lefts = λ i m. subst (λ (x : ℕ). KeyedAt bytes operators x (rule_at rs i).left) (sym (h.lefts i (omega arith))) (keyed_at i (omega arith));
        }
        )

    -- and is
    pub building_on : {net' : List ℕ} (j' : ℕ) → k ≡ suc j → j < length rs → j' ≡ j + 1 → Inserted net (path (book_by bytes net).rules) j net' →
        Building bytes operators rules net₀ net' j' j'
    building_on {net' = net'} j' e l q i =
        let f = few in
        let a = h.long in
        let b = i.long in
        let z : suc j ≡ j' = omega arith in
        record {
          is = subst (Net net' (path rs)) z (subst (λ (B : Book). Net net' (path B.rules) (suc j)) same_book i.is);
          long = omega arith;
          same_day = left_kept net net' i.sides 255 (omega arith) ∙ h.same_day;
          lefts = λ x y. left_kept net net' i.sides x (omega arith) ∙ h.lefts x (omega arith);
          rights = λ x y. right_kept net net' i.sides x (omega arith) ∙ h.rights x (omega arith);
        }

    -- all of them
    pub built : (net₁ : List ℕ) → j ≡ length rs → k ≡ length rs → length net₀ ≡ length net₁ → Built bytes operators rules net₁ net
    built net₁ e q l =
        record {
          of_book = record {
            rules = rules;
            tables = T;
            same_day = h.same_day;
            lefts = λ i l. h.lefts i (omega arith);
            rights = λ i l. h.rights i (omega arith);
            is = subst (Net net (path rs)) e h.is;
          };
          same_book = same_book;
          long = h.long ∙ l;
        }
