-- The lines up to a position are done: at the start, one line on, and where the loop stops. Assumes nothing.
use mathlib.Core.List.{List, [], ◌∷◌, ◌++◌, append_assoc, append-nil}
use mathlib.Core.Path.{◌≡◌, refl, sym, ap, ap₂, ◌∙◌, subst}
use Prim.Native.Nat.{ℕ, ◌+◌, ◌-◌, ◌*◌, ◌≤◌, ◌<◌}
use native.Mathlib.Omega.{arith}
use lib.ListN.{length, take, drop, length-append, length-drop, drop_of_length-le}
use lib.Seq.{append_snoc, length-take-le}
use borrow.Author.Tests.{le-leb, lt-leb, eq-eqb, ne_eqb, lt-ltb, le-ltb}
use Rattle.std.proofs.Common.{Ok, Err}
use Rattle.paper.specs.Result.{Result, accepted}
use Rattle.paper.specs.Sound.{All}
use Rattle.paper.specs.Page.{LineReader}
use Rattle.paper.specs.Writer.{concat}
use Rattle.paper.proofs.Lists.{all_append}
use Rattle.whole.specs.declared.Limits.{Limits}
use Rattle.records.specs.Record.{longest}
use Rattle.batch.specs.Lines.{lines_of, taken, Stop, done, stop_of}
use Rattle.batch.specs.Spec as B
use Rattle.batch.specs.Promises.{Open, GoesOn, record_in, RanBy, LineDone, Upto, those, AllDone}
use Rattle.batch.specs.declared.Stop as S
use Rattle.stream.proofs.Puts.{put_none, put_as, put_both}
use Rattle.batch.proofs.Splitting.{lines_empty}

-- WHICH LINES ARE DONE

module _ (line_record : List ℕ → List ℕ) (left : ℕ) where
  done_next : (l : List ℕ) (ls : List (List ℕ)) → longest ≤ left → done line_record left (l ∷ ls) ≡ l ∷ done line_record (left - length (line_record l)) ls
  unfolding done
  done_next l ls h = rw (le-leb longest left h)

  done_none : done line_record left [] ≡ []
  unfolding done
  done_none = refl

  done_full : (ls : List (List ℕ)) → left < longest → done line_record left ls ≡ []
  unfolding done
  done_full [] h = refl
  done_full (l ∷ ls) h = rw (lt-leb longest left h)

concat_one : (f : List ℕ → List ℕ) (ls : List (List ℕ)) (l : List ℕ) → concat f ls ++ f l ≡ concat f (ls ++ (l ∷ []))
unfolding concat
concat_one f [] l = sym (append-nil (f l))
concat_one f (m ∷ ls) l = append_assoc (f m) (concat f ls) (f l) ∙ ap (λ (xs : List ℕ). f m ++ xs) (concat_one f ls l)

taken_one : (ls : List (List ℕ)) (l : List ℕ) → taken (ls ++ (l ∷ [])) ≡ taken ls + (2 + length l)
unfolding taken
taken_one [] l = omega arith
taken_one (m ∷ ls) l = let e = taken_one ls l in omega arith

-- each takes two bytes at least
few_lines : (ls : List (List ℕ)) → 2 * length ls ≤ taken ls
unfolding taken
few_lines [] = omega arith
few_lines (l ∷ ls) = let h = few_lines ls in omega arith

-- WHY NO MORE

module _ (xs : List ℕ) (ls : List (List ℕ)) where
  ends : taken ls ≡ length xs → stop_of xs ls ≡ Stop.end
  unfolding stop_of
  ends e = rw (eq-eqb (taken ls) (length xs) e)

  cuts : taken ls < length xs → length (lines_of xs) ≤ length ls → stop_of xs ls ≡ Stop.cut
  unfolding stop_of
  cuts h k = rw (ne_eqb (taken ls) (length xs) (λ e. omega arith), le-ltb (length ls) (length (lines_of xs)) k)

  stays : taken ls < length xs → length ls < length (lines_of xs) → stop_of xs ls ≡ Stop.room
  unfolding stop_of
  stays h k = rw (ne_eqb (taken ls) (length xs) (λ e. omega arith), lt-ltb (length ls) (length (lines_of xs)) k)

-- THE LOOP

-- an open book, with a work area of the same length
pub open_as : {book : List ℕ} {n : ℕ} {operators net : List ℕ} {l : Limits} {work work' : ℕ} → work' ≡ work → Open book n operators net l work → Open book n operators net l work'
open_as {book} {n} {operators} {net} {l} e = subst (λ (k : ℕ). Open book n operators net l k) (sym e)

module _ {read : LineReader} {book net : List ℕ} {l : Limits} {schedule : List ℕ} {work : ℕ} {lines answers₀ : List ℕ} where
  pub none_yet : Upto read book net l schedule work lines answers₀ answers₀ 0 0 0
  unfolding concat taken
  none_yet = record {
    front = [];
    lines_are = refl;
    done_are = ap (λ (k : ℕ). done (record_in read book net l schedule work) k (lines_of lines)) (omega arith);
    counted = refl;
    taken_are = refl;
    inside = omega arith;
    written = put_none 0 answers₀ (omega arith);
    ran = tt;
  }

  module _ {answers : List ℕ} {count at next : ℕ} (u : Upto read book net l schedule work lines answers₀ answers count at next) where
    -- so the lines' count is a number of the machine
    pub few : 2 * count ≤ at
    few = omega (arith, few_lines u.front, u.counted, u.taken_are)

    -- by a work area of the same length, whatever it holds
    pub one_more : {work' : ℕ} {answers' : List ℕ} {next' : ℕ} (end : ℕ) → GoesOn lines at (length answers - next) (Ok end) → work' ≡ work →
        LineDone read book net l schedule work' (take (end - (at + 2)) (drop (at + 2) lines)) answers answers' next next' →
        Upto read book net l schedule work lines answers₀ answers' (count + 1) end next'
    one_more {answers' = answers'} {next' = next'} end g same done' =
        let d = subst (λ (k : ℕ). LineDone read book net l schedule k (take (end - (at + 2)) (drop (at + 2) lines)) answers answers' next next') same done' in
        let f : List ℕ → List ℕ = record_in read book net l schedule work in
        let line : List ℕ = take (end - (at + 2)) (drop (at + 2) lines) in
        let ls : List (List ℕ) = lines_of (drop end lines) in
        let e : length line ≡ end - (at + 2) =
        length-take-le (end - (at + 2)) (drop (at + 2) lines) (omega (arith, length-drop (at + 2) lines, g.0, g.1)) in
        let room : longest ≤ length answers₀ - next = omega (arith, g.2, u.written.long) in
        let less : length answers₀ - next - length (f line) ≡ length answers₀ - next' = omega (arith, d.written.ends) in
        record {
          front = u.front ++ (line ∷ []);
          lines_are = u.lines_are ∙ ap (λ (ys : List (List ℕ)). u.front ++ ys) g.3 ∙ sym (append_snoc u.front line ls);
          done_are =
              u.done_are
              ∙ ap (λ (ys : List (List ℕ)). u.front ++ ys)
              (ap (done f (length answers₀ - next)) g.3 ∙ done_next f (length answers₀ - next) line ls room
              ∙ ap (λ (k : ℕ). line ∷ done f k ls) less)
              ∙ sym (append_snoc u.front line (done f (length answers₀ - next') ls));
          counted = length-append u.front (line ∷ []) ∙ ap (λ (k : ℕ). k + 1) u.counted;
          taken_are = omega (arith, taken_one u.front line, u.taken_are, g.0);
          inside = g.1;
          written = put_as (concat_one f u.front line) (put_both u.written d.written);
          ran = all_append (RanBy read book net l schedule work) u.front (line ∷ []) u.ran (d.ran, tt);
        }

    abbrev Stopped : S.Stop → Type 0
    Stopped s = AllDone read book net l schedule work lines answers₀ answers (record { lines = count; read = at; written = next; stop = s })

    stopped_with : (s : S.Stop) → done (record_in read book net l schedule work) (length answers₀ - next) (lines_of (drop at lines)) ≡ [] →
        stop_of lines u.front ≡ B.stop s → Stopped s
    stopped_with s e h =
        let f : List ℕ → List ℕ = record_in read book net l schedule work in
        let z : u.front ≡ those read book net l schedule work lines (length answers₀) =
        sym (u.done_are ∙ ap (λ (ys : List (List ℕ)). u.front ++ ys) e ∙ append-nil u.front) in
        let n : next ≡ length (concat f u.front) = omega (arith, u.written.ends) in
        let value : ℕ → ℕ → ℕ → Stop → Result B.Values = λ a b c t. accepted (record { lines = a; read = b; written = c; stop = t }) in
        record {
          told =
              subst (λ (ls : List (List ℕ)). value count at next (B.stop s) ≡ value (length ls) (taken ls) (length (concat f ls)) (stop_of lines ls)) z
              (ap₂ (λ (a b : ℕ). value a b next (B.stop s)) (sym u.counted) (sym u.taken_are)
              ∙ ap₂ (value (length u.front) (taken u.front)) n (sym h));
          written =
              subst (λ (ls : List (List ℕ)). answers ≡ concat f ls ++ drop (length (concat f ls)) answers₀) z
              (u.written.is ∙ ap (λ (k : ℕ). concat f u.front ++ drop k answers₀) n);
          ran = subst (All (RanBy read book net l schedule work)) z u.ran;
        }

    pub stopped : (s : S.Stop) → GoesOn lines at (length answers - next) (Err s) → Stopped s
    stopped S.Stop.End g =
        let e : lines_of (drop at lines) ≡ [] = ap lines_of (drop_of_length-le lines {i = at} (omega (arith, g))) ∙ lines_empty in
        stopped_with S.Stop.End (ap (done (record_in read book net l schedule work) (length answers₀ - next)) e ∙ done_none _ _)
        (ends lines u.front (u.taken_are ∙ g))
    stopped S.Stop.Cut g =
        stopped_with S.Stop.Cut (ap (done (record_in read book net l schedule work) (length answers₀ - next)) g.1 ∙ done_none _ _)
        (cuts lines u.front (omega (arith, g.0, u.taken_are)) (omega (arith, ap length (u.lines_are ∙ ap (λ (ys : List (List ℕ)). u.front ++ ys) g.1 ∙ append-nil u.front))))
    stopped S.Stop.Room g =
        stopped_with S.Stop.Room (done_full _ _ _ (omega (arith, g.1, u.written.long)))
        (stays lines u.front (omega (arith, g.0, u.taken_are))
        (omega (arith, ap length u.lines_are, length-append u.front (lines_of (drop at lines)), g.2)))
