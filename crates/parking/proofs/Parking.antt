-- A run with a name and a resumption: what becomes of the buffer. Assumes nothing.
use mathlib.Core.List.{List, [], ◌∷◌, flatten as concat}
use mathlib.Core.Logic.{◌≢◌}
use mathlib.Core.Option.{Option, none, some}
use mathlib.Core.Path.{◌≡◌, refl, sym, ◌∙◌, ap, subst}
use Prim.Native.Nat.{ℕ, ◌^◌, ◌<◌}
use native.Mathlib.Omega.{arith}
use lib.ListN.{get_or}
use lib.Seq.{get_or-set_same}
use Rattle.paper.specs.Result.{accepted}
use Rattle.paper.specs.Tree.{preorder}
use Rattle.paper.specs.Book.{Book}
use Rattle.paper.specs.Dated.{on_day}
use Rattle.paper.specs.Line.{read_line}
use Rattle.paper.specs.Text.{read_text}
use Rattle.paper.specs.Machine.{Ending, Limits}
use Rattle.paper.specs.Run.{Answer}
use Rattle.paper.specs.Page.{Request, Lengths, LineReader}
use Rattle.paper.proofs.Books.{good_book_sound}
use Rattle.paper.proofs.Dated.{day_good}
use Rattle.paper.proofs.Line.{line_correct}
use Rattle.paper.proofs.Text.{text_line}
use Rattle.flat.specs.Machine.{flat_start}
use Rattle.flat.specs.Run.{FlatAnswer, flatten}
use Rattle.flat.specs.Parts.{Parked, part, from, parts, resume}
use Rattle.flat.proofs.Form.{Counted, parts_counted}
use Rattle.flat.proofs.Parts.{line_parts}
use Rattle.flat.proofs.Points.{saved_point}
use Rattle.flat.proofs.Steps.{good_settled}
use Rattle.parking.specs.Form.{Point, limits, write_point, Slot, read_slot}
use Rattle.parking.specs.Points.{read_slots, put, point_of, After, as_point, begun, behind, park_by}
use Rattle.parking.specs.Change11.{Reads, Only, Parks}
use Rattle.parking.proofs.Slots.{Open, good_slots, Place, place_at, find_is}
use Rattle.parking.proofs.Form.{Held, written_length, written_read}
use Rattle.parking.proofs.Endings.{resume_cut, parked_cut}
use Rattle.parking.proofs.Checks.{Ready, only_none, only_put, slots_put, put_good, Ran, park_accepted, park_answer}

pub line_reads : Reads read_line
line_reads B line t e = let (c, p, l, a) = line_correct B line t e in subst (λ (xs : List ℕ). read_line B xs ≡ accepted t) (sym p) e

pub text_reads : Reads read_text
text_reads B text t e = text_line B text t e

module _ (B : Book) (L : Limits) where
  pub parts_cons : (us : List ℕ) (uss : List (List ℕ)) (P Q R : Parked) → part B L us P ≡ some Q → parts B L uss Q ≡ some R → parts B L (us ∷ uss) P ≡ some R
  unfolding parts from
  parts_cons us uss P Q R e f = ap (from (parts B L uss)) e ∙ f

  pub parts_one : (us : List ℕ) (P Q : Parked) → part B L us P ≡ some Q → parts B L (us ∷ []) P ≡ some Q
  unfolding parts
  parts_one us P Q e = parts_cons us [] P Q Q e refl

-- A POINT PUT IN A NAME'S SLOT

module _ (name points : List ℕ) (r : Ready name points) (k : ℕ) (p : Place name (read_slots points) k) (P : Point) (h : Held P) (n : name ≡ P.name) where
  opens : Open name (read_slot (write_point P))
  opens = subst (Open name) (sym (written_read P h)) n

  pub point_only : Only k name points (put k (write_point P) points)
  point_only = only_put name points r k p (write_point P) (written_length P h) opens

  -- is found there
  pub point_found : point_of name (put k (write_point P) points) ≡ some (record { at = k; point = P })
  point_found =
      find_is name (read_slots (put k (write_point P) points)) k P (put_good name points r k p (write_point P) (written_length P h) opens)
      (ap (λ (ss : List Slot). get_or ss k Slot.free) (slots_put name points r k p (write_point P) (written_length P h) opens)
      ∙ get_or-set_same (read_slots points) k (read_slot (write_point P)) Slot.free p.inside ∙ written_read P h) n

-- A RUN WITH A NAME

module _ (read : LineReader) (reads : Reads read) (published : Lengths) (q : Request) (lb : q.budget < 2 ^ 32) (name points : List ℕ) (x : After Answer) (r : Ran read published q name points x) where
  abbrev B : Book
  B = on_day q.day r.given

  abbrev L : Limits
  L = limits q.budget

  abbrev saved_as : Parked → Point
  saved_as = as_point name q.book q.day q.budget

  spot : Place name (read_slots points) r.at
  spot = place_at name (read_slots points) r.at (good_slots (read_slots points) r.ready.good) r.place_is

  -- "Every point that a run saved keeps them all"
  pub saved_held : (Q : Parked) → part B L q.schedule (begun B q.units r.term) ≡ some Q → Held (saved_as Q)
  saved_held Q e =
      let es = parts_one B L q.schedule (begun B q.units r.term) Q e in
      let start : Counted (begun B q.units r.term) = unfold flat_start in record { entries = omega arith; granted = omega arith; kept = omega arith } in
      record {
        some_name = r.ready.some_name;
        short_name = r.ready.short_name;
        given = r.given;
        book_read = r.book_read;
        rules =
            saved_point q.book (preorder r.term) r.given q.day r.term r.book_read (reads B q.line r.term r.line_read) q.budget q.units r.few_units
            (q.schedule ∷ []) Q es;
        budget = lb;
        counted = parts_counted B L (q.schedule ∷ []) (begun B q.units r.term) Q start es;
      }

  -- the answer's ending is that of the run on lists
  same_ending : (resume B L q.schedule (begun B q.units r.term)).ending ≡ x.answer.ending
  unfolding flatten concat
  same_ending =
      let g = day_good q.book r.given r.book_read q.day in
      let (c, p, l, a) = line_correct B (preorder r.term) r.term (reads B q.line r.term r.line_read) in
      ap (λ (z : FlatAnswer). z.ending) (line_parts B (good_book_sound B g) (good_settled B g) L q.units r.term c [] q.schedule (begun B q.units r.term) (unfold parts in refl))
      ∙ sym (ap (λ (z : Answer). z.ending) r.answer_is)

  abbrev behind_it : Option Parked → List ℕ
  behind_it = behind r.at saved_as points points

  pub park_only : Only r.at name points x.points
  park_only = subst (Only r.at name points) (sym r.points_is) (go (part B L q.schedule (begun B q.units r.term)) refl)
    where
      go : (o : Option Parked) → part B L q.schedule (begun B q.units r.term) ≡ o → Only r.at name points (behind_it o)
      go none e = unfold behind in only_none name points r.ready r.at spot
      go (some Q) e = unfold behind in point_only name points r.ready r.at spot (saved_as Q) (saved_held Q e) refl

  -- "A new run that isn't cut leaves that buffer unchanged"
  not_cut_unchanged : x.answer.ending ≢ Ending.cut → x.points ≡ points
  not_cut_unchanged d = r.points_is ∙ go (part B L q.schedule (begun B q.units r.term)) refl
    where
      go : (o : Option Parked) → part B L q.schedule (begun B q.units r.term) ≡ o → behind_it o ≡ points
      go none e = unfold behind in refl
      go (some Q) e = absurd (d (sym same_ending ∙ parked_cut B L q.schedule (begun B q.units r.term) Q e))

  -- "if it ends cut it is saved under it"
  pub record SavedCut : Type 0 where
    pub parked : Parked
    pub is_part : part B L q.schedule (begun B q.units r.term) ≡ some parked
    pub held : Held (saved_as parked)
    pub there : point_of name x.points ≡ some (record { at = r.at; point = saved_as parked })

  pub cut_saved : x.answer.ending ≡ Ending.cut → SavedCut
  cut_saved c =
      let (Q, e) = resume_cut B L q.schedule (begun B q.units r.term) (same_ending ∙ c) in
      let h = saved_held Q e in
      let is : x.points ≡ put r.at (write_point (saved_as Q)) points = r.points_is ∙ ap behind_it e ∙ (unfold behind in refl) in
      record {
        parked = Q;
        is_part = e;
        held = h;
        there = ap (point_of name) is ∙ point_found name points r.ready r.at spot (saved_as Q) h refl;
      }

-- WHAT CHANGE 11 SAYS OF IT
pub parks : (read : LineReader) → Reads read → (published : Lengths) (q : Request) → q.budget < 2 ^ 32 → (name points : List ℕ) (x : After Answer) →
    park_by read published q name points ≡ accepted x → Parks read published q name points x
parks read reads published q lb name points x e =
    let r = park_accepted read published q name points x e in
    record {
      answers = park_answer read published q name points x r;
      given = r.given;
      term = r.term;
      book_read = r.book_read;
      line_read = r.line_read;
      at = r.at;
      only = park_only read reads published q lb name points x r;
      saved = λ c. let s = cut_saved read reads published q lb name points x r c in (s.parked, s.is_part, s.there);
      unchanged = not_cut_unchanged read reads published q lb name points x r;
    }
