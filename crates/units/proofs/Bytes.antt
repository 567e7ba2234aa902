-- What three bytes decode to, as the code makes them and tests them. Assumes nothing.
use mathlib.Core.Path.{◌≡◌, refl, sym, ap, ap₂, ◌∙◌}
use mathlib.Core.Bool.{Bool, true, false}
use Prim.Native.Nat.{ℕ, zero, suc, ◌+◌, ◌*◌, ◌-◌, ◌/◌, ◌%◌, ◌≤◌, ◌<◌, pred}
use native.Mathlib.Omega.{arith}
use lib.Dec.{ltb, eqb}
use borrow.Author.Tests.{lt-ltb, le-ltb, le-leb, lt-leb, ne_eqb}
use Rattle.flat.specs.Symbols.{shift}
use Rattle.flat.specs.Machine.{Frame, lower, is_zero, shift_frame}
use Rattle.units.specs.Frames.{pick, decode}
use Rattle.units.specs.Stacks.{Below}

module _ (kind low high : ℕ) where
  job_of : kind < 32 → decode kind low high ≡ Frame.job (low + high % 4 * 256) kind (high / 4)
  unfolding decode
  job_of h = rw (lt-ltb kind 32 h)

  exit_of : 32 ≤ kind → kind < 40 → decode kind low high ≡ Frame.exit (kind - 32) (low + high * 256)
  unfolding decode
  exit_of h l = rw (le-ltb kind 32 h, lt-ltb kind 40 l)

  pub sleep_of : kind ≡ 40 → decode kind low high ≡ Frame.sleep
  unfolding decode
  sleep_of e = rw e

  pub bingo_of : 40 ≤ kind → (kind ≡ 40 → ⊥) → decode kind low high ≡ Frame.bingo
  unfolding decode
  bingo_of h n = let l : 32 ≤ kind = omega arith in rw (le-ltb kind 32 l, le-ltb kind 40 h, ne_eqb kind 40 n)

-- the frame of a kind and a word, which is the low byte and 256 times the high one
abbrev coded : ℕ → ℕ → Frame
coded kind word = decode kind (word % 256) (word / 256)

pub job_word : (kind word : ℕ) → kind < 32 → coded kind word ≡ Frame.job (word % 1024) kind (word / 1024)
job_word kind word h =
    let x : word % 256 + word / 256 % 4 * 256 ≡ word % 1024 = omega arith in
    let y : word / 256 / 4 ≡ word / 1024 = omega arith in
    job_of kind (word % 256) (word / 256) h ∙ ap₂ (λ (a c : ℕ). Frame.job a kind c) x y

pub exit_word : (kind word : ℕ) → 32 ≤ kind → kind < 40 → coded kind word ≡ Frame.exit (kind - 32) word
exit_word kind word h l =
    let x : word % 256 + word / 256 * 256 ≡ word = omega arith in
    exit_of kind (word % 256) (word / 256) h l ∙ ap (Frame.exit (kind - 32)) x

-- what the code writes for a job and for an EXIT
pub job_bytes : (offset order count : ℕ) → offset < 1024 → order < 32 → coded order (offset + count * 1024) ≡ Frame.job offset order count
job_bytes offset order count h l =
    let x : (offset + count * 1024) % 1024 ≡ offset = omega arith in
    let y : (offset + count * 1024) / 1024 ≡ count = omega arith in
    job_word order (offset + count * 1024) l ∙ ap₂ (λ (a c : ℕ). Frame.job a order c) x y

pub exit_bytes : (unit index : ℕ) → unit < 8 → coded (unit + 32) index ≡ Frame.exit unit index
exit_bytes unit index h =
    let x : unit + 32 - 32 ≡ unit = omega arith in
    exit_word (unit + 32) index (omega arith) (omega arith) ∙ ap (λ (v : ℕ). Frame.exit v index) x

-- a frame that is no job
Still : Frame → Type 0
Still (Frame.job a k c) = ⊥
Still (Frame.exit v i) = Unit {0}
Still Frame.sleep = Unit {0}
Still Frame.bingo = Unit {0}

still : (kind low high : ℕ) → 32 ≤ kind → Still (decode kind low high)
unfolding decode Still
still kind low high h = rw (le-ltb kind 32 h) (go (ltb kind 40) (eqb kind 40))
  where
    go : (b c : Bool) → Still (pick b (Frame.exit (kind - 32) (low + high * 256)) (pick c Frame.sleep Frame.bingo))
    go true c = tt
    go false true = tt
    go false false = tt

lower_still : (f : Frame) → Still f → f ≡ lower f
unfolding lower Still
lower_still (Frame.job a k c) z = absurd z
lower_still (Frame.exit v i) z = refl
lower_still Frame.sleep z = refl
lower_still Frame.bingo z = refl

zero_still : (f : Frame) → Still f → is_zero f ≡ false
unfolding is_zero Still
zero_still (Frame.job a k c) z = absurd z
zero_still (Frame.exit v i) z = refl
zero_still Frame.sleep z = refl
zero_still Frame.bingo z = refl

shift_still : (a e n : ℕ) (f : Frame) → Still f → f ≡ shift_frame a e n f
unfolding shift_frame Still
shift_still a e n (Frame.job x k c) z = absurd z
shift_still a e n (Frame.exit v i) z = refl
shift_still a e n Frame.sleep z = refl
shift_still a e n Frame.bingo z = refl

module _ (kind word : ℕ) where
  pub lower_job : kind < 32 → 1024 ≤ word → coded kind (word - 1024) ≡ lower (coded kind word)
  unfolding lower
  lower_job h l =
      let x : (word - 1024) % 1024 ≡ word % 1024 = omega arith in
      let y : (word - 1024) / 1024 ≡ pred (word / 1024) = omega arith in
      job_word kind (word - 1024) h ∙ ap₂ (λ (a c : ℕ). Frame.job a kind c) x y ∙ ap lower (sym (job_word kind word h))

  pub lower_zero : kind < 32 → word < 1024 → coded kind word ≡ lower (coded kind word)
  unfolding lower
  lower_zero h l =
      let y : word / 1024 ≡ pred (word / 1024) = omega arith in
      job_word kind word h ∙ ap (Frame.job (word % 1024) kind) y ∙ ap lower (sym (job_word kind word h))

  pub lower_other : 32 ≤ kind → coded kind word ≡ lower (coded kind word)
  lower_other h = lower_still (coded kind word) (still kind (word % 256) (word / 256) h)

module _ (kind low high : ℕ) where
  pub zero_job : kind < 32 → is_zero (decode kind low high) ≡ ltb high 4
  unfolding is_zero
  zero_job h = rw (job_of kind low high h) (go (high / 4) refl)
    where
      go : (c : ℕ) → c ≡ high / 4 → is_zero (Frame.job (low + high % 4 * 256) kind c) ≡ ltb high 4
      go zero e = sym (lt-ltb high 4 (omega arith))
      go (suc c) e = sym (le-ltb high 4 (omega arith))

  pub zero_other : 32 ≤ kind → is_zero (decode kind low high) ≡ false
  zero_other h = zero_still (decode kind low high) (still kind low high h)

module _ (kind word a e n : ℕ) where
  shift_of : kind < 32 → shift_frame a e n (coded kind word) ≡ Frame.job (shift a e n (word % 1024)) kind (word / 1024)
  unfolding shift_frame
  shift_of k = ap (shift_frame a e n) (job_word kind word k)

  pub moved_other : 32 ≤ kind → coded kind word ≡ shift_frame a e n (coded kind word)
  moved_other k = shift_still a e n (coded kind word) (still kind (word % 256) (word / 256) k)

  pub moved_before : kind < 32 → word % 1024 < e → coded kind word ≡ shift_frame a e n (coded kind word)
  unfolding shift
  moved_before k l =
      let s : shift a e n (word % 1024) ≡ word % 1024 = rw (lt-leb e (word % 1024) l, shift) in
      job_word kind word k ∙ ap (λ (o : ℕ). Frame.job o kind (word / 1024)) (sym s) ∙ sym (shift_of k)

  -- the moved offset has room, and takes the place of the old one
  module _ (k : kind < 32) (l : e ≤ word % 1024) (b : Below 1024 (shift_frame a e n (coded kind word))) where
    goes_to : shift a e n (word % 1024) ≡ a + n + (word % 1024 - e)
    unfolding shift
    goes_to = rw (le-leb e (word % 1024) l, shift)

    pub moved_room : a + n + (word % 1024 - e) < 1024
    moved_room = let m : shift a e n (word % 1024) < 1024 = rw (shift_of k) at b in rw goes_to at m

    pub moved_behind : coded kind (a + n + (word % 1024 - e) + word / 1024 * 1024) ≡ shift_frame a e n (coded kind word)
    moved_behind =
        job_bytes (a + n + (word % 1024 - e)) kind (word / 1024) moved_room k
        ∙ ap (λ (o : ℕ). Frame.job o kind (word / 1024)) (sym goes_to)
        ∙ sym (shift_of k)
