-- The parts of a book by what the code answers, and the whole by its parts. Assumes nothing.
use mathlib.Core.Bool.{Bool, true, false}
use mathlib.Core.List.{List, [], ◌∷◌}
use mathlib.Core.Path.{◌≡◌, refl, sym, ap, ap₂, ◌∙◌, subst}
use Prim.Native.Nat.{ℕ, zero, suc, ◌+◌, ◌*◌, ◌-◌, ◌^◌, ◌≤◌, ◌<◌}
use native.Mathlib.Nat.{suc-mul}
use native.Mathlib.Omega.{arith}
use lib.Dec.{eqb, eqb-suc-zero, ltb}
use lib.Pow.{pow_pos}
use lib.Seq.{take-length, length-take-le}
use lib.ListN.{length, take, length-map}
use Rattle.paper.specs.Result.{refused, accepted, Read, if, return, refuse, then, ◌>>=◌, repeat}
use Rattle.paper.specs.Bits.{bits_of, value, field}
use Rattle.paper.specs.Book.{Operator}
use Rattle.paper.specs.Reader.{read_operator, read_count, all_zero, read_end}
use Rattle.paper.specs.Dated.{DatedRule, DatedBook, AnyBook, is_dated, read_any, standing, on_day}
use Rattle.paper.specs.Sound.{All}
use Rattle.paper.specs.WellFormed.{GoodDated, GoodAny}
use Rattle.paper.proofs.Bits.{all_drop, field_read}
use Rattle.paper.proofs.Bytes.{bits_below}
use Rattle.paper.proofs.Dated.{read_any_good, on_day_good}
use Rattle.paper.proofs.Tests.{eqb_true, eqb_false, ltb_true, ltb_false}
use Rattle.paper.proofs.Readers.{refused_accepted, bind_return}
use Rattle.bits.proofs.Reading.{Got, bits_left}
use Rattle.tables.specs.Layout.{day_in, with_day, with_count}
use Rattle.tables.specs.Tables.{accepted_book, any_book, book_of, Operators, Sides, Rules}
use Rattle.tables.proofs.Grow as G
use Rattle.strategy.proofs.Reading.{bind_refused}
use Rattle.side.specs.Promises.{AritiesIn, bits_at}
use Rattle.standing.specs.Dates.{Dates, dated_of, dated_book, rules_of, AllDated}
use Rattle.standing.specs.Promises.{Kept}
use Rattle.book.specs.Promises.{OperatorsTaken, read_rule_of, undated_rules, RulesTaken, ended, EndsAt, read_tail, TailAt}
use Rattle.book.specs.Promises.{begins, in_form, AllRead, StandingKept, BookAt}
use Rattle.std.specs.Prelude.{Ok, Err}
use Rattle.refusal.specs.declared.Refusal.{Refusal}
use Rattle.refusal.specs.Numbers.{number}
use Rattle.book.proofs.Forms.{read_parts, answer_of, any_parts, form_operators}
use Rattle.book.proofs.Rules.{day_put}

-- The arities that the table holds

arities_of : {ops : List Operator} {n : ℕ} {operators : List ℕ} → length ops ≡ n → Operators ops operators → AritiesIn ops n operators
arities_of count t = record { count = count; says = λ o l. (t.each o (omega arith)).arity_is }

-- The end

-- bits are all 0 exactly if they make 0
value_zero : (xs : List ℕ) → All (λ x. x < 2) xs → eqb (value xs) 0 ≡ all_zero xs
unfolding value all_zero
value_zero [] h = refl
value_zero (zero ∷ xs) h = let e : 0 * 2 ^ length xs + value xs ≡ value xs = omega arith in ap (λ (k : ℕ). eqb k 0) e ∙ value_zero xs h.1
value_zero (suc x ∷ xs) h =
    rw (eqb-suc-zero x) (eqb_false (suc x * 2 ^ length xs + value xs) 0 (λ e. omega (arith, pow_pos (length xs), suc-mul x (2 ^ length xs))))

pub ended_byte : (bytes : List ℕ) (at k : ℕ) → k ≡ 8 * length bytes - at → 8 ≤ k → EndsAt bytes at false
unfolding ended
ended_byte bytes at k e l = record { is = sym (rw (ltb_false (length (bits_at bytes at)) 8 (omega (arith, bits_left bytes at)))) }

pub ended_value : (bytes : List ℕ) (at k v next : ℕ) → k ≡ 8 * length bytes - at → k < 8 → Got bytes at k v next → EndsAt bytes at (eqb v 0)
unfolding ended return
ended_value bytes at k v next e l g =
    let xs : List ℕ = bits_at bytes at in
    let f : k ≡ length xs = omega (arith, bits_left bytes at) in
    let w : v ≡ value xs = ap (λ (r : Read ℕ). r.value) (field_read k xs (record { value = v; left = bits_at bytes next }) g.is).1
    ∙ ap (λ (i : ℕ). value (take i xs)) f ∙ ap value (take-length xs) in
    record { is = rw (ltb_true (length xs) 8 (omega arith), w) (value_zero xs (all_drop at (bits_of bytes) (bits_below bytes))) }

pub ended_out : (bytes : List ℕ) (at k : ℕ) {e : ℕ} → k ≡ 8 * length bytes - at → field k (bits_at bytes at) ≡ refused e → EndsAt bytes at false
unfolding field return refuse
ended_out bytes at k e h =
    let there : length (take k (bits_at bytes at)) ≡ k = length-take-le k (bits_at bytes at) (omega (arith, bits_left bytes at)) in
    absurd (refused_accepted (sym (rw (eqb_true (length (take k (bits_at bytes at))) k there) at h)))

read_end_is : (B : DatedBook) (xs : List ℕ) → read_end B xs ≡ if (ended xs) (return B xs) (refuse 9 xs)
unfolding read_end ended
read_end_is B xs = go (ltb (length xs) 8) (all_zero xs)
  where
    go : (b c : Bool) → if b (if c (return B xs) (refuse 9 xs)) (refuse 9 xs) ≡ if (if b c false) (return B xs) (refuse 9 xs)
    go true c = refl
    go false c = refl

-- The rules and the end

abbrev with_rules : List Operator → List DatedRule → DatedBook
with_rules ops rs = record { operators = ops; rules = rs }

tail_rules : {bytes : List ℕ} {at m p : ℕ} → Got bytes at 8 m p → (dated : Bool) (ops : List Operator) →
    read_tail dated ops (bits_at bytes at) ≡ (repeat m (read_rule_of dated ops) >>= (λ rs. read_end (with_rules ops rs))) (bits_at bytes p)
unfolding read_tail
tail_rules {bytes} {at} {m} {p} g dated ops = bind_return (field 8) _ (bits_at bytes at) (bits_at bytes p) m g.is

module _ {bytes : List ℕ} {at n : ℕ} {dated : Bool} {operators rules : List ℕ} where
  pub tail_out : {e : Refusal} → field 8 (bits_at bytes at) ≡ refused (number e) → TailAt bytes at dated n operators rules (Err e)
  unfolding read_tail
  tail_out h = record { is = λ ops t. bind_refused (field 8) _ (bits_at bytes at) _ h }

  module _ {m p : ℕ} (g : Got bytes at 8 m p) where
    pub tail_refused : {k : Refusal} → RulesTaken bytes p dated n operators m rules (Err k) → TailAt bytes at dated n operators rules (Err k)
    tail_refused {k} q = record {
      is = λ ops t. tail_rules g dated ops ∙ bind_refused (repeat m (read_rule_of dated ops)) _ (bits_at bytes p) (number k) (q.are ops t);
    }

    module _ {end : ℕ} (q : RulesTaken bytes p dated n operators m rules (Ok end)) {b : Bool} (e : EndsAt bytes end b) where
      tail_end : (ops : List Operator) (t : AritiesIn ops n operators) → read_tail dated ops (bits_at bytes at) ≡
          if b (return (with_rules ops (q.are ops t).0) (bits_at bytes end)) (refuse 9 (bits_at bytes end))
      tail_end ops t =
          tail_rules g dated ops
          ∙ bind_return (repeat m (read_rule_of dated ops)) _ (bits_at bytes p) (bits_at bytes end) (q.are ops t).0 (q.are ops t).1
          ∙ read_end_is _ (bits_at bytes end) ∙ rw e.is

      pub tail_ends : b ≡ true → TailAt bytes at dated n operators rules (Ok m)
      tail_ends f = record { is = λ ops t. let (rs, are, (count, u)) = q.are ops t in (rs, bits_at bytes end, rw f at (tail_end ops t), count, u) }

      pub tail_goes_on : b ≡ false → TailAt bytes at dated n operators rules (Err Refusal.BookLeftOver)
      unfolding refuse
      tail_goes_on f = record { is = λ ops t. rw f at (tail_end ops t) }

-- The rules that stand

-- of a dated book
pub dated_all : {bytes rules : List ℕ} {day m : ℕ} → length bytes ≤ 65536 → AllRead bytes true day m rules → AllDated bytes rules × (m ≡ length (rules_of bytes))
unfolding dated_book
dated_all {bytes} {rules} {day} {m} l a =
    let D = a.book in
    let same : D ≡ dated_of (any_book bytes) = sym (ap dated_of a.is) in (
      record {
        short = l;
        sides = subst (λ (E : DatedBook). Sides bytes (undated_rules E.rules) rules) same a.rules_in.sides;
        dates = subst (λ (E : DatedBook). Dates bytes E.rules rules) same (a.rules_in.dates refl);
        good = subst GoodDated same (subst GoodAny a.is a.good);
      },
      sym a.count ∙ ap (λ (E : DatedBook). length E.rules) same,
    )

pub dated_kept : {bytes rules rules' : List ℕ} {day m k : ℕ} → AllRead bytes true day m rules → Kept bytes day rules rules' k → StandingKept bytes day k rules'
unfolding dated_book on_day
dated_kept {bytes} {rules} {rules'} {day} {m} {k} a h =
    let d : day_in rules' ≡ day = h.same_day ∙ a.day_is in
    let e : dated_of (any_book bytes) ≡ a.book = ap dated_of a.is in
    let f : book_of bytes rules' ≡ record { operators = a.book.operators; rules = standing day [] a.book.rules } =
    ap₂ on_day d a.is in
    record {
      count = rw f (subst (λ (E : DatedBook). length (standing day [] E.rules) ≡ k) e h.count);
      sides = rw f (subst (λ (E : DatedBook). Sides bytes (standing day [] E.rules) rules') e h.sides);
      good = on_day_good (day_in rules') (any_book bytes) a.good;
      day_is = d;
    }

-- an undated one has them all
pub undated_kept : {bytes rules : List ℕ} {day m : ℕ} → AllRead bytes false day m rules → StandingKept bytes day m rules
unfolding on_day
undated_kept {bytes} {rules} {day} {m} a =
    let f : book_of bytes rules ≡ record { operators = a.book.operators; rules = undated_rules a.book.rules } = ap (on_day (day_in rules)) a.is in
    record {
      count = rw f (length-map a.book.rules (λ r. r.rule) ∙ a.count);
      sides = rw f a.rules_in.sides;
      good = on_day_good (day_in rules) (any_book bytes) a.good;
      day_is = a.day_is;
    }

-- a book of either form has at most 255 rules, and so has what stands of it
few_rules : (dated : Bool) (D : DatedBook) → GoodAny (in_form dated D) → length D.rules < 256
few_rules true D g = g.few_rules
few_rules false D g = omega (arith, length-map D.rules (λ r. r.rule), g.few_rules)

pub kept_few : {bytes rules : List ℕ} {day k : ℕ} → StandingKept bytes day k rules → k < 256
kept_few s = omega (arith, s.count, s.good.few_rules)

-- with their number put, the table is that of the book on the day
count_put : {bytes rules : List ℕ} {day k : ℕ} → StandingKept bytes day k rules → Rules bytes (book_of bytes rules).rules (with_count rules k)
count_put {rules = rules} {k = k} s = record {
  sides = G.count_sides rules k (omega (arith, s.good.few_rules)) s.sides;
  counted = G.count_is rules k s.sides.long ∙ sym s.count;
}

-- The whole book

module _ (bytes : List ℕ) {dated : Bool} {at : ℕ} (form : dated ≡ is_dated bytes) (starts : at ≡ begins dated) where
  book_parts : read_any bytes ≡ answer_of dated (read_parts dated (bits_at bytes at))
  book_parts = any_parts bytes dated (sym form) ∙ ap (λ (k : ℕ). answer_of dated (read_parts dated (bits_at bytes k))) (sym starts)

  refused_by : {day : ℕ} {k : Refusal} {operators rules : List ℕ} → read_parts dated (bits_at bytes at) ≡ refused (number k) → BookAt bytes day operators rules (Err k)
  unfolding then
  refused_by h = record { is = book_parts ∙ ap (answer_of dated) h }

  pub count_out : {day : ℕ} {e : Refusal} {operators rules : List ℕ} → field 8 (bits_at bytes at) ≡ refused (number e) → BookAt bytes day operators rules (Err e)
  unfolding read_count
  count_out h = refused_by (bind_refused read_count _ (bits_at bytes at) _ (bind_refused (field 8) _ (bits_at bytes at) _ h))

  module _ {n p : ℕ} (g : Got bytes at 8 n p) where
    count_is : read_count (bits_at bytes at) ≡ if (eqb n 0) (refuse 2) (return n) (bits_at bytes p)
    unfolding read_count
    count_is = bind_return (field 8) _ (bits_at bytes at) (bits_at bytes p) n g.is

    pub count_zero : {day : ℕ} {operators rules : List ℕ} → n ≡ 0 → BookAt bytes day operators rules (Err Refusal.NoOperator)
    unfolding refuse
    count_zero e = refused_by (bind_refused read_count _ (bits_at bytes at) 2 (count_is ∙ rw (eqb_true n 0 e)))

    module _ (some : n ≡ 0 → ⊥) where
      book_operators : read_parts dated (bits_at bytes at) ≡ (repeat n read_operator >>= read_tail dated) (bits_at bytes p)
      book_operators = bind_return read_count _ (bits_at bytes at) (bits_at bytes p) n (count_is ∙ rw (eqb_false n 0 some))

      pub operators_refused : {day : ℕ} {k : Refusal} {operators rules : List ℕ} → OperatorsTaken bytes p n operators (Err k) →
          BookAt bytes day operators rules (Err k)
      operators_refused {k = k} q = refused_by (book_operators ∙ bind_refused (repeat n read_operator) (read_tail dated) (bits_at bytes p) (number k) q.are)

      module _ {operators : List ℕ} {next : ℕ} (q : OperatorsTaken bytes p n operators (Ok next)) where
        abbrev ops : List Operator
        ops = q.are.0

        book_tail : read_parts dated (bits_at bytes at) ≡ read_tail dated ops (bits_at bytes next)
        book_tail = book_operators ∙ bind_return (repeat n read_operator) (read_tail dated) (bits_at bytes p) (bits_at bytes next) ops q.are.1

        arities : AritiesIn ops n operators
        arities = arities_of q.are.2.0 q.are.2.1

        pub tail_refuses : {day : ℕ} {k : Refusal} {rules : List ℕ} → TailAt bytes next dated n operators rules (Err k) → BookAt bytes day operators rules (Err k)
        tail_refuses t = refused_by (book_tail ∙ t.is ops arities)

        -- the book is accepted: it is the one that the bytes are
        module _ {m : ℕ} {rules : List ℕ} (t : TailAt bytes next dated n operators rules (Ok m)) where
          abbrev B : DatedBook
          B = with_rules ops (t.is ops arities).0

          accepts : read_any bytes ≡ accepted (in_form dated B)
          unfolding then return
          accepts = book_parts ∙ ap (answer_of dated) (book_tail ∙ (t.is ops arities).2)

          same : any_book bytes ≡ in_form dated B
          same = ap accepted_book accepts

          pub all_read : {rules' : List ℕ} {day : ℕ} → rules' ≡ with_day rules day → AllRead bytes dated day m rules'
          all_read {rules'} {day} e =
              let i = (t.is ops arities).4 in
              let g : GoodAny (in_form dated B) = read_any_good bytes (in_form dated B) accepts in
              rw e (record {
                book = B;
                is = same;
                good = subst GoodAny (sym same) g;
                count = (t.is ops arities).3;
                rules_in = day_put day (few_rules dated B g) i;
                day_is = G.day_is rules day i.sides.long;
              })

          pub book_is : {rules₁ rules₂ : List ℕ} {day k : ℕ} → StandingKept bytes day k rules₁ → rules₂ ≡ with_count rules₁ k →
              BookAt bytes day operators rules₂ (Ok n)
          book_is {rules₁} {rules₂} {day} {k} s h =
              let d : day_in rules₂ ≡ day_in rules₁ = ap day_in h ∙ G.count_day rules₁ k in
              let e : book_of bytes rules₂ ≡ book_of bytes rules₁ = ap (λ (d : ℕ). on_day d (any_book bytes)) d in
              let o : (book_of bytes rules₂).operators ≡ ops =
              ap (λ (A : AnyBook). (on_day (day_in rules₂) A).operators) same ∙ form_operators (day_in rules₂) dated B in
              record {
                is = (
                  record {
                    read = accepts ∙ ap accepted (sym same);
                    tables = record {
                      operators_in = rw o q.are.2.1;
                      rules_in = rw e (rw h (count_put s));
                      good = rw e s.good;
                    };
                  },
                  d ∙ s.day_is,
                  rw o (sym q.are.2.0),
                );
              }
