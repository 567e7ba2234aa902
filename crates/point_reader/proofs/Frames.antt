-- Frames: what the reader of one answers, by what its fields answer. Assumes nothing.
use mathlib.Core.List.{List}
use mathlib.Core.Path.{◌≡◌, refl, sym, ap, ◌∙◌, subst}
use Prim.Native.Nat.{ℕ, zero, suc}
use native.Mathlib.Omega.{arith}
use Rattle.std.specs.Prelude.{Option, Some, None}
use Rattle.point_reader.specs.declared.Taken.{Taken}
use Rattle.paper.specs.Result.{Result, refused, Read, Reader, return, ◌>>=◌}
use Rattle.paper.specs.Bits.{field}
use Rattle.paper.proofs.Readers.{bind_return}
use Rattle.flat.specs.Machine as F
use Rattle.flat.specs.Form.{read_job, read_exit, read_kind, read_frame}
use Rattle.bits.proofs.Reading.{Got}
use Rattle.units.specs.declared.frames.Frame.{Frame}
use Rattle.side.specs.Promises.{bits_at}
use Rattle.point_reader.specs.Loading.{Lacks}
use Rattle.point_reader.specs.Promises.{Any, FrameIs, JobTaken, ExitTaken, FrameTaken}
use Rattle.point_reader.proofs.Lacking.{refused_lacks, first_none, second_lacks}

-- JOBS

abbrev with_count : ℕ → ℕ → Reader F.Frame
with_count a k = field 3 >>= (λ c. return (F.Frame.job a k c))

abbrev with_next : ℕ → Reader F.Frame
with_next a = field 4 >>= with_count a

job_is : (xs : List ℕ) → read_job xs ≡ (field 10 >>= with_next) xs
unfolding read_job
job_is xs = refl

module _ {bytes : List ℕ} {at : ℕ} where
  job_lacks : Lacks Any ((field 10 >>= with_next) (bits_at bytes at)) → JobTaken bytes at None
  job_lacks l = record { is = λ r e. l r (sym (job_is (bits_at bytes at)) ∙ e) }

  pub offset_out : field 10 (bits_at bytes at) ≡ refused 1 → JobTaken bytes at None
  offset_out e = job_lacks (first_none (field 10) with_next (bits_at bytes at) Any (refused_lacks Any e))

  module _ {a p : ℕ} (e : Got bytes at 10 a p) where
    pub next_out : field 4 (bits_at bytes p) ≡ refused 1 → JobTaken bytes at None
    next_out f =
        job_lacks (second_lacks (field 10) with_next (bits_at bytes at) Any a (bits_at bytes p) e.is
        (first_none (field 4) (with_count a) (bits_at bytes p) Any (refused_lacks Any f)))

    module _ {k q : ℕ} (f : Got bytes p 4 k q) where
      pub count_out : field 3 (bits_at bytes q) ≡ refused 1 → JobTaken bytes at None
      count_out g =
          job_lacks (second_lacks (field 10) with_next (bits_at bytes at) Any a (bits_at bytes p) e.is
          (second_lacks (field 4) (with_count a) (bits_at bytes p) Any k (bits_at bytes q) f.is
          (first_none (field 3) (λ c. return (F.Frame.job a k c)) (bits_at bytes q) Any (refused_lacks Any g))))

      pub job_read : {c end : ℕ} → Got bytes q 3 c end → JobTaken bytes at (Some (record { value = Frame.Job (record { offset = a; next = k; count = c }); next = end }))
      job_read {c} {end} g = record {
        is = (
          job_is (bits_at bytes at)
              ∙ bind_return (field 10) with_next (bits_at bytes at) (bits_at bytes p) a e.is
              ∙ bind_return (field 4) (with_count a) (bits_at bytes p) (bits_at bytes q) k f.is
              ∙ bind_return (field 3) (λ c. return (F.Frame.job a k c)) (bits_at bytes q) (bits_at bytes end) c g.is,
          (let s = e.small in omega (arith, s), let s = f.small in omega (arith, s), let s = g.small in omega (arith, s)),
        );
      }

-- EXITS

abbrev with_index : ℕ → Reader F.Frame
with_index w = field 11 >>= (λ i. return (F.Frame.exit w i))

exit_is : (xs : List ℕ) → read_exit xs ≡ (field 3 >>= with_index) xs
unfolding read_exit
exit_is xs = refl

module _ {bytes : List ℕ} {at : ℕ} where
  exit_lacks : Lacks Any ((field 3 >>= with_index) (bits_at bytes at)) → ExitTaken bytes at None
  exit_lacks l = record { is = λ r e. l r (sym (exit_is (bits_at bytes at)) ∙ e) }

  pub unit_out : field 3 (bits_at bytes at) ≡ refused 1 → ExitTaken bytes at None
  unit_out e = exit_lacks (first_none (field 3) with_index (bits_at bytes at) Any (refused_lacks Any e))

  module _ {w p : ℕ} (e : Got bytes at 3 w p) where
    pub index_out : field 11 (bits_at bytes p) ≡ refused 1 → ExitTaken bytes at None
    index_out f =
        exit_lacks (second_lacks (field 3) with_index (bits_at bytes at) Any w (bits_at bytes p) e.is
        (first_none (field 11) (λ i. return (F.Frame.exit w i)) (bits_at bytes p) Any (refused_lacks Any f)))

    pub exit_read : {i end : ℕ} → Got bytes p 11 i end → ExitTaken bytes at (Some (record { value = Frame.Exit (record { unit = w; index = i }); next = end }))
    exit_read {i} {end} f = record {
      is = (
        exit_is (bits_at bytes at)
            ∙ bind_return (field 3) with_index (bits_at bytes at) (bits_at bytes p) w e.is
            ∙ bind_return (field 11) (λ i. return (F.Frame.exit w i)) (bits_at bytes p) (bits_at bytes end) i f.is,
        (let s = e.small in omega (arith, s), let s = f.small in omega (arith, s)),
      );
    }

-- FRAMES

frame_is : (xs : List ℕ) → read_frame xs ≡ (field 2 >>= read_kind) xs
unfolding read_frame
frame_is xs = refl

kind_job : (xs : List ℕ) → read_kind 0 xs ≡ read_job xs
unfolding read_kind
kind_job xs = refl

kind_exit : (xs : List ℕ) → read_kind 1 xs ≡ read_exit xs
unfolding read_kind
kind_exit xs = refl

kind_sleep : (xs : List ℕ) → read_kind 2 xs ≡ return F.Frame.sleep xs
unfolding read_kind
kind_sleep xs = refl

kind_bingo : (k : ℕ) (xs : List ℕ) → (k ≡ 0 → ⊥) → (k ≡ 1 → ⊥) → (k ≡ 2 → ⊥) → read_kind k xs ≡ return F.Frame.bingo xs
unfolding read_kind
kind_bingo zero xs a b c = absurd (a refl)
kind_bingo (suc zero) xs a b c = absurd (b refl)
kind_bingo (suc (suc zero)) xs a b c = absurd (c refl)
kind_bingo (suc (suc (suc k))) xs a b c = refl

-- an answer is another's
frame_as : (bytes : List ℕ) (x y : Result (Read F.Frame)) (r : Option (Taken Frame)) → x ≡ y → FrameIs bytes y r → FrameIs bytes x r
frame_as bytes x y r e f = subst (λ (z : Result (Read F.Frame)). FrameIs bytes z r) (sym e) f

module _ {bytes : List ℕ} {at : ℕ} where
  pub kind_out : field 2 (bits_at bytes at) ≡ refused 1 → FrameTaken bytes at None
  kind_out e = record { is = λ r f. first_none (field 2) read_kind (bits_at bytes at) Any (refused_lacks Any e) r (sym (frame_is (bits_at bytes at)) ∙ f) }

  module _ {k p : ℕ} (e : Got bytes at 2 k p) where
    of_kind : (j : ℕ) → k ≡ j → read_frame (bits_at bytes at) ≡ read_kind j (bits_at bytes p)
    of_kind j z =
        frame_is (bits_at bytes at) ∙ bind_return (field 2) read_kind (bits_at bytes at) (bits_at bytes p) k e.is
        ∙ ap (λ (i : ℕ). read_kind i (bits_at bytes p)) z

    pub frame_job : {r : Option (Taken Frame)} → k ≡ 0 → JobTaken bytes p r → FrameTaken bytes at r
    frame_job {r} z j =
        record { is = frame_as bytes (read_frame (bits_at bytes at)) (read_job (bits_at bytes p)) r (of_kind 0 z ∙ kind_job (bits_at bytes p)) j.is }

    pub frame_exit : {r : Option (Taken Frame)} → k ≡ 1 → ExitTaken bytes p r → FrameTaken bytes at r
    frame_exit {r} z j =
        record { is = frame_as bytes (read_frame (bits_at bytes at)) (read_exit (bits_at bytes p)) r (of_kind 1 z ∙ kind_exit (bits_at bytes p)) j.is }

    pub frame_sleep : k ≡ 2 → FrameTaken bytes at (Some (record { value = Frame.Sleep; next = p }))
    frame_sleep z = record { is = (of_kind 2 z ∙ kind_sleep (bits_at bytes p), tt) }

    pub frame_bingo : (k ≡ 0 → ⊥) → (k ≡ 1 → ⊥) → (k ≡ 2 → ⊥) → FrameTaken bytes at (Some (record { value = Frame.Bingo; next = p }))
    frame_bingo a b c = record { is = (of_kind k refl ∙ kind_bingo k (bits_at bytes p) a b c, tt) }
