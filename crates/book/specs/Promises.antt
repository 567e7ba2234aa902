-- What the answers mean, in the paper's terms: a position stands for the book's bits from there on. Promises of functions inside. Assumes nothing.
use Rattle.std.specs.Prelude.{Ok, Err, Bool, true, false, List, [], ◌∷◌, ◌++◌, map, ◌≡◌, ℕ, ◌+◌, ltb, length}
use Rattle.paper.specs.Result.{Result, refused, Read, Reader, if, return, ◌>>=◌, repeat}
use Rattle.paper.specs.Bits.{field}
use Rattle.paper.specs.Book.{Operator, Rule}
use Rattle.paper.specs.Reader.{read_operator, read_rule, all_zero, read_end}
use Rattle.paper.specs.Dated.{DatedRule, DatedBook, AnyBook, read_dated_rule, read_any}
use Rattle.paper.specs.WellFormed.{GoodBook, GoodAny}
use Rattle.tables.specs.Layout.{day_in}
use Rattle.tables.specs.Tables.{any_book, book_of, Operators, Sides, TablesOf}
use Rattle.side.specs.Promises.{AritiesIn, bits_at}
use Rattle.standing.specs.Dates.{Dates}
use Rattle.std.specs.Prelude.{Result as Answer}
use Rattle.refusal.specs.declared.Refusal.{Refusal}
use Rattle.refusal.specs.Numbers.{number}

-- the paper's reader answers as the code does; P holds of what is read
abbrev pub PartIs : {A : Type 0} → List ℕ → Result (Read A) → (A → Type 0) → Answer ℕ Refusal → Type 0
PartIs {A} bytes x P (Ok next) = (a : A) × (x ≡ return a (bits_at bytes next)) × P a
PartIs bytes x P (Err k) = x ≡ refused (number k)

-- OPERATORS

-- operator o, which the table takes behind those that it holds
pub record OperatorTaken (bytes : List ℕ) (at o : ℕ) (operators operators' : List ℕ) (r : Answer ℕ Refusal) : Type 0 where
  pub is : PartIs bytes (read_operator (bits_at bytes at))
      (λ op. (ops : List Operator) → length ops ≡ o → Operators ops operators → Operators (ops ++ (op ∷ [])) operators') r

-- n operators
pub record OperatorsTaken (bytes : List ℕ) (at n : ℕ) (operators : List ℕ) (r : Answer ℕ Refusal) : Type 0 where
  pub are : PartIs bytes (repeat n read_operator (bits_at bytes at)) (λ ops. (length ops ≡ n) × Operators ops operators) r

-- RULES

-- a rule of a book of either form; what an undated one has is taken as of day 0
unfoldable pub read_rule_of : Bool → List Operator → Reader DatedRule
unfolding return ◌>>=◌ read_rule read_dated_rule
read_rule_of true ops = read_dated_rule ops
read_rule_of false ops = do
  rule ← read_rule ops
  return (record { day = 0; rule = rule })

-- the position behind the day, which a dated book has before a rule
abbrev pub DayIs : Bool → List ℕ → ℕ → Answer ℕ Refusal → Type 0
DayIs true bytes at (Ok next) = (day : ℕ) × (field 16 (bits_at bytes at) ≡ return day (bits_at bytes next)) × (next ≡ at + 16)
DayIs true bytes at (Err k) = field 16 (bits_at bytes at) ≡ refused (number k)
DayIs false bytes at (Ok next) = next ≡ at
DayIs false bytes at (Err k) = ⊥

pub record DayPassed (bytes : List ℕ) (at : ℕ) (dated : Bool) (r : Answer ℕ Refusal) : Type 0 where
  pub is : DayIs dated bytes at r

abbrev pub undated_rules : List DatedRule → List Rule
undated_rules rs = map (λ r. r.rule) rs

-- the table says where the rules' sides stand, and their days where they have them
pub record RulesIn (dated : Bool) (bytes : List ℕ) (rs : List DatedRule) (rules : List ℕ) : Type 0 where
  pub sides : Sides bytes (undated_rules rs) rules
  pub dates : dated ≡ true → Dates bytes rs rules

-- rule i, which the table takes behind those that it holds
pub record RuleTaken (bytes : List ℕ) (at : ℕ) (dated : Bool) (n : ℕ) (operators : List ℕ) (i : ℕ) (rules rules' : List ℕ) (r : Answer ℕ Refusal) : Type 0 where
  pub is : (ops : List Operator) → AritiesIn ops n operators → PartIs bytes (read_rule_of dated ops (bits_at bytes at))
      (λ rule. (rs : List DatedRule) → length rs ≡ i → RulesIn dated bytes rs rules → RulesIn dated bytes (rs ++ (rule ∷ [])) rules') r

-- m rules
pub record RulesTaken (bytes : List ℕ) (at : ℕ) (dated : Bool) (n : ℕ) (operators : List ℕ) (m : ℕ) (rules : List ℕ) (r : Answer ℕ Refusal) : Type 0 where
  pub are : (ops : List Operator) → AritiesIn ops n operators →
      PartIs bytes (repeat m (read_rule_of dated ops) (bits_at bytes at)) (λ rs. (length rs ≡ m) × RulesIn dated bytes rs rules) r

-- THE END

-- nothing is left but padding bits of 0
unfoldable pub ended : List ℕ → Bool
unfolding all_zero
ended xs = if (ltb (length xs) 8) (all_zero xs) false

pub record EndsAt (bytes : List ℕ) (at : ℕ) (r : Bool) : Type 0 where
  pub is : r ≡ ended (bits_at bytes at)

-- the reader behind the operators
unfoldable pub read_tail : Bool → List Operator → Reader DatedBook
unfolding field ◌>>=◌ repeat read_rule_of read_end
read_tail dated ops = do
  m ← field 8
  rs ← repeat m (read_rule_of dated ops)
  read_end (record { operators = ops; rules = rs })

abbrev pub TailIs : Bool → List Operator → List ℕ → ℕ → List ℕ → Answer ℕ Refusal → Type 0
TailIs dated ops bytes at rules (Ok m) =
    (rs : List DatedRule) × (left : List ℕ) × (read_tail dated ops (bits_at bytes at) ≡ return (record { operators = ops; rules = rs }) left)
    × (length rs ≡ m) × RulesIn dated bytes rs rules
TailIs dated ops bytes at rules (Err k) = read_tail dated ops (bits_at bytes at) ≡ refused (number k)

pub record TailAt (bytes : List ℕ) (at : ℕ) (dated : Bool) (n : ℕ) (operators rules : List ℕ) (r : Answer ℕ Refusal) : Type 0 where
  pub is : (ops : List Operator) → AritiesIn ops n operators → TailIs dated ops bytes at rules r

-- THE WHOLE BOOK

-- where a book begins behind the byte that says its form
abbrev pub begins : Bool → ℕ
begins true = 8
begins false = 0

-- the book of either form that was read
abbrev pub in_form : Bool → DatedBook → AnyBook
in_form true D = AnyBook.dated D
in_form false D = AnyBook.undated (record { operators = D.operators; rules = undated_rules D.rules })

-- the bytes are a book, and the table has all its rules, m of them, and the day
pub record AllRead (bytes : List ℕ) (dated : Bool) (day m : ℕ) (rules : List ℕ) : Type 0 where
  pub book : DatedBook
  pub is : any_book bytes ≡ in_form dated book
  pub good : GoodAny (any_book bytes)
  pub count : length book.rules ≡ m
  pub rules_in : RulesIn dated bytes book.rules rules
  pub day_is : day_in rules ≡ day

-- the table has the rules of the book that the bytes are on the day, m of them
pub record StandingKept (bytes : List ℕ) (day m : ℕ) (rules : List ℕ) : Type 0 where
  pub count : length (book_of bytes rules).rules ≡ m
  pub sides : Sides bytes (book_of bytes rules).rules rules
  pub good : GoodBook (book_of bytes rules)
  pub day_is : day_in rules ≡ day

-- a book that is read has its tables on the day and n operators
abbrev pub BookIs : List ℕ → ℕ → List ℕ → List ℕ → Answer ℕ Refusal → Type 0
BookIs bytes day operators rules (Ok n) =
    TablesOf bytes operators rules × (day_in rules ≡ day) × (n ≡ length (book_of bytes rules).operators)
BookIs bytes day operators rules (Err k) = read_any bytes ≡ refused (number k)

pub record BookAt (bytes : List ℕ) (day : ℕ) (operators rules : List ℕ) (r : Answer ℕ Refusal) : Type 0 where
  pub is : BookIs bytes day operators rules r
