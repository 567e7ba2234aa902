-- Laws of the present term: each symbol's size is what skip finds by arities, so hopping leads to the arguments; terms lie inside one another; and when
-- some symbols are a term with true sizes. Assumes nothing.
use mathlib.Core.Bool.{Bool, true, false}
use mathlib.Core.List.{List}
use mathlib.Core.Path.{◌≡◌, sym, ap, ◌∙◌}
use Prim.Native.Nat.{ℕ, ◌+◌, ◌≤◌, ◌<◌}
use native.Mathlib.Omega.{arith}
use lib.ListN.{length, get_or, take, drop, length-map}
use lib.Seq.{drop-cons}
use Rattle.paper.specs.Sound.{All}
use Rattle.flat.specs.Rules.{spells}
use Rattle.flat.specs.Sizes as flat
use Rattle.flat.specs.Symbols.{skip, argument}
use Rattle.flat.proofs.Sizes as F
use Rattle.symbol.specs.Record.{operator, marked, size, operators, marks, sizes}
use Rattle.symbol.proofs.Record.{size_at, front_length, operator_front, marked_front, size_front}
use Rattle.term.specs.Present.{length_in, operators_in, marks_in, Sized, Hops}
use Rattle.term.specs.Promises.{Loaded}
use Rattle.term.proofs.Hopping.{hops_arguments, hop_argument_is}

module _ (ar : ℕ → ℕ) (symbols : List ℕ) (s : Sized ar symbols) where
  pub operators_length : length (operators_in symbols) ≡ length_in symbols
  operators_length = front_length operator (length_in symbols) symbols (let l = s.long in let m = s.most in omega arith)

  pub marks_length : length (marks_in symbols) ≡ length_in symbols
  marks_length = front_length marked (length_in symbols) symbols (let l = s.long in let m = s.most in omega arith)

  pub operator_is : (a : ℕ) → a < length_in symbols → operator (get_or symbols a 0) ≡ get_or (operators_in symbols) a 0
  operator_is a h = sym (operator_front (length_in symbols) symbols a h)

  pub marked_is : (a : ℕ) → a < length_in symbols → marked (get_or symbols a 0) ≡ get_or (marks_in symbols) a false
  marked_is a h = sym (marked_front (length_in symbols) symbols a h)

  pub size_is : (a : ℕ) → a < length_in symbols → size (get_or symbols a 0) ≡ skip ar 1 (drop a (operators_in symbols))
  size_is a h =
      sym (size_front (length_in symbols) symbols a h)
      ∙ ap (λ (zs : List ℕ). get_or zs a 0) s.true_sizes
      ∙ F.size_at ar (operators_in symbols) a

  pub length_some : 0 < length_in symbols
  length_some = omega (arith, operators_length, F.spells_some ar (operators_in symbols) 0 s.term)

  pub size_some : (a : ℕ) → a < length_in symbols → 0 < size (get_or symbols a 0)
  unfolding skip
  size_some a h = rw (size_is a h, drop-cons (operators_in symbols) a 0 (omega (arith, operators_length))) (omega arith)

  -- a symbol's term ends inside, and no sooner than what it holds
  pub ends_inside : (a : ℕ) → a < length_in symbols → a + size (get_or symbols a 0) ≤ length_in symbols
  ends_inside a h = rw (size_is a h) (omega (arith, operators_length, F.part_inside ar (operators_in symbols) a (omega (arith, operators_length))))

  pub nested : (i a : ℕ) → i ≤ a → a < length_in symbols → a < i + size (get_or symbols i 0) → a + size (get_or symbols a 0) ≤ i + size (get_or symbols i 0)
  nested i a l h k =
      let e = size_is i (omega arith) in
      omega (arith, size_is a h, F.nested ar (operators_in symbols) i a l (omega arith))

  -- a term that holds the symbol at offset a holds its whole term, as replacing that one asks
  pub held : (a : ℕ) → a < length_in symbols → (i : ℕ) → i < a → a < i + size (get_or symbols i 0) →
      (a + size (get_or symbols a 0) ≤ i + size (get_or symbols i 0)) × (i + size (get_or symbols i 0) ≤ 1024)
  held a h i l k = let m = s.most in (nested i a (omega arith) h k, omega (arith, ends_inside i (omega arith)))

  -- the arguments of a symbol, by hopping
  module _ (a i : ℕ) (h : a < length_in symbols) (l : i ≤ ar (get_or (operators_in symbols) a 0)) where
    fits : length (operators_in symbols) ≤ length (sizes symbols)
    fits = let m = s.most in let n = s.long in omega (arith, operators_length, length-map symbols size)

    agree : (j : ℕ) → a < j → j < length (operators_in symbols) → get_or (sizes symbols) j 0 ≡ skip ar 1 (drop j (operators_in symbols))
    agree j p q = size_at symbols j ∙ size_is j (omega (arith, operators_length))

    pub argument_hops : Hops (sizes symbols) i (a + 1)
    argument_hops = hops_arguments ar (operators_in symbols) (sizes symbols) s.term fits a (omega (arith, operators_length)) agree i l

    pub argument_is : flat.hop (sizes symbols) i (a + 1) ≡ argument ar (operators_in symbols) a i
    argument_is = hop_argument_is ar (operators_in symbols) (sizes symbols) s.term fits a (omega (arith, operators_length)) agree i l

  pub argument_inside : (a i : ℕ) → a < length_in symbols → i < ar (get_or (operators_in symbols) a 0) → argument ar (operators_in symbols) a i < length_in symbols
  argument_inside a i h l = omega (arith, operators_length, F.arguments_inside ar (operators_in symbols) a i s.term (omega (arith, operators_length)) l)

-- the first n symbols are the operators of one term, with true sizes: that is the present term
module _ {ms : List Bool} (ar : ℕ → ℕ) (xs : List ℕ) (n : ℕ) (symbols : List ℕ) (few : n ≤ 1024) (one : spells ar 1 xs ≡ true)
    (l : Loaded ar xs ms n symbols) where
  loaded_all : length xs ≡ n
  loaded_all = ap length (sym l.operators_are) ∙ front_length operator n symbols (let h = l.long in omega arith)

  pub loaded_length : length_in symbols ≡ n
  loaded_length =
      sym (size_front n symbols 0 (omega (arith, loaded_all, F.spells_some ar xs 0 one)))
      ∙ ap (λ (zs : List ℕ). get_or zs 0 0) l.sizes_are
      ∙ F.root_size ar xs one
      ∙ loaded_all

  pub loaded_operators : operators_in symbols ≡ xs
  loaded_operators = ap (λ (k : ℕ). operators (take k symbols)) loaded_length ∙ l.operators_are

  pub loaded_marks : marks_in symbols ≡ ms
  loaded_marks = ap (λ (k : ℕ). marks (take k symbols)) loaded_length ∙ l.marks_are

  pub loaded_sized : Sized ar symbols
  loaded_sized =
      record {
        long = l.long;
        most = omega (arith, loaded_length);
        term = rw loaded_operators one;
        true_sizes = ap (λ (k : ℕ). sizes (take k symbols)) loaded_length ∙ l.sizes_are ∙ ap (flat.sizes ar) (sym loaded_operators);
      }

-- by other arities that are the same for its operators
pub sized_same : (f g : ℕ → ℕ) (symbols : List ℕ) → All (λ o. f o ≡ g o) (operators_in symbols) → Sized f symbols → Sized g symbols
sized_same f g symbols a s =
    record {
      long = s.long;
      most = s.most;
      term = sym (F.spells_same f g 1 (operators_in symbols) a) ∙ s.term;
      true_sizes = s.true_sizes ∙ F.sizes_same f g (operators_in symbols) a;
    }
