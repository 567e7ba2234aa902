-- A run in parts is the run over the parts' entries one after the other: its answer and its points; and what holds throughout a run holds of its point.
-- Assumes nothing.
use mathlib.Core.List.{List, [], ◌∷◌, ◌++◌, flatten, append-nil}
use mathlib.Core.Option.{Option, none, some, none-ne-some, some-injective}
use mathlib.Core.Path.{◌≡◌, refl, sym, ◌∙◌, ap, subst}
use Prim.Native.Nat.{ℕ, suc, ◌+◌}
use native.Mathlib.Omega.{arith}
use lib.ListN.{length}
use Rattle.paper.specs.Book.{Book}
use Rattle.paper.specs.Machine.{State, Ending, Outcome, going, ended, Limits, Grant, in_force, entry_by}
use Rattle.paper.specs.Run.{Answer, after, run_from_by, run_from, Moment, on, moments_from_by}
use Rattle.paper.specs.Parts.{unless_ended, from_point, parked_by, parked_parts_by, parked, parked_parts}
use Rattle.paper.specs.Sound.{All, Sound}
use Rattle.paper.specs.Demand3.{Throughout}
use Rattle.paper.specs.Idle.{Queued, OnlyIdle}
use Rattle.paper.proofs.Entry.{entry_next_by}
use Rattle.paper.proofs.Ghost.{Ghost}
use Rattle.paper.proofs.HonestGhost.{HonestGhost}
use Rattle.paper.proofs.Invariant.{Inv, Next, n_going}
use Rattle.paper.proofs.Queue.{QueuedAfter, entry_queued}
use Rattle.paper.proofs.View.{Block}

module _ (G : Grant) (B : Book) (L : Limits) where
  -- Change 11: "A run parked after k entries and resumed with the rest ends exactly like the unbroken one, counts included"
  pub parked_run_by : (us vs : List ℕ) (n : ℕ) (s s' : State) → parked_by G B L us s ≡ some s' →
      run_from_by G B L (n + length us) vs s' ≡ run_from_by G B L n (us ++ vs) s
  unfolding parked_by run_from_by
  parked_run_by [] vs n s s' e =
      let z : n + 0 ≡ n = omega arith in
      ap (λ (m : ℕ). run_from_by G B L m vs s') z ∙ ap (run_from_by G B L n vs) (sym (some-injective _ _ e))
  parked_run_by (u ∷ us) vs n s s' e = go (entry_by G B L u s) e (parked_run_by us vs (suc n))
    where
      go : (x : Outcome) → unless_ended (parked_by G B L us) x ≡ some s' →
          ((s₁ s₂ : State) → parked_by G B L us s₁ ≡ some s₂ → run_from_by G B L (suc n + length us) vs s₂ ≡ run_from_by G B L (suc n) (us ++ vs) s₁) →
          run_from_by G B L (n + suc (length us)) vs s' ≡ after n (run_from_by G B L (suc n) (us ++ vs)) x
      go (going ev s₁) e h =
          let z : n + suc (length us) ≡ suc n + length us = omega arith in
          unfold unless_ended after in ap (λ (m : ℕ). run_from_by G B L m vs s') z ∙ h s₁ s' e
      go (ended en s₁) e h = unfold unless_ended in absurd (none-ne-some _ e)

  -- what is parked was cut
  pub parked_cut_by : (us : List ℕ) (n : ℕ) (s s' : State) → parked_by G B L us s ≡ some s' → (run_from_by G B L n us s).ending ≡ Ending.cut
  parked_cut_by us n s s' e =
      ap (λ (vs : List ℕ). (run_from_by G B L n vs s).ending) (sym (append-nil us))
      ∙ ap (λ (A : Answer). A.ending) (sym (parked_run_by us [] n s s' e))
      ∙ (unfold run_from_by in refl)

  -- one part after another
  pub parked_append_by : (us vs : List ℕ) (s : State) → parked_by G B L (us ++ vs) s ≡ from_point none (parked_by G B L vs) (parked_by G B L us s)
  unfolding parked_by from_point
  parked_append_by [] vs s = refl
  parked_append_by (u ∷ us) vs s = go (entry_by G B L u s) (parked_append_by us vs)
    where
      go : (x : Outcome) → ((s : State) → parked_by G B L (us ++ vs) s ≡ from_point none (parked_by G B L vs) (parked_by G B L us s)) →
          unless_ended (parked_by G B L (us ++ vs)) x ≡ from_point none (parked_by G B L vs) (unless_ended (parked_by G B L us) x)
      go (going ev s₁) h = unfold unless_ended in h s₁
      go (ended e s₁) h = unfold unless_ended in refl

  -- for any number of parts
  pub parts_parked_by : (parts : List (List ℕ)) (s : State) → parked_parts_by G B L parts s ≡ parked_by G B L (flatten parts) s
  unfolding parked_parts_by flatten parked_by
  parts_parked_by [] s = refl
  parts_parked_by (us ∷ parts) s = go (parked_by G B L us s) (parts_parked_by parts) ∙ sym (parked_append_by us (flatten parts) s)
    where
      go : (x : Option State) → ((s : State) → parked_parts_by G B L parts s ≡ parked_by G B L (flatten parts) s) →
          from_point none (parked_parts_by G B L parts) x ≡ from_point none (parked_by G B L (flatten parts)) x
      go none h = unfold from_point in refl
      go (some s₁) h = unfold from_point in h s₁

  pub parts_run_by : (parts : List (List ℕ)) (vs : List ℕ) (n : ℕ) (s s' : State) → parked_parts_by G B L parts s ≡ some s' →
      run_from_by G B L (n + length (flatten parts)) vs s' ≡ run_from_by G B L n (flatten parts ++ vs) s
  parts_run_by parts vs n s s' e = parked_run_by (flatten parts) vs n s s' (sym (parts_parked_by parts s) ∙ e)

  -- a point is one of the run's states
  pub parked_holds_by : (P : State → Type 0) (us : List ℕ) (s s' : State) → Throughout P s (moments_from_by G B L us s) → parked_by G B L us s ≡ some s' → P s'
  unfolding parked_by moments_from_by
  parked_holds_by P [] s s' h e = subst P (some-injective _ _ e) h.0
  parked_holds_by P (u ∷ us) s s' h e = go (entry_by G B L u s) h.1 e (parked_holds_by P us)
    where
      go : (x : Outcome) → All (λ (m : Moment). P m.state) (on (moments_from_by G B L us) x) → unless_ended (parked_by G B L us) x ≡ some s' →
          ((s₁ s₂ : State) → Throughout P s₁ (moments_from_by G B L us s₁) → parked_by G B L us s₁ ≡ some s₂ → P s₂) → P s'
      go (going ev s₁) a e k = unfold unless_ended on in k s₁ s' (a.0, a.1) e
      go (ended en s₁) a e k = unfold unless_ended in absurd (none-ne-some _ e)

-- THE INVARIANT of a point, from the ghost term D: it is kept over a run that is parked, and so are true marks
abbrev pub ParkedInv : Book → Limits → Ghost → State → Type 0
ParkedInv B L D s = (D' : Ghost) × (bs' : List Block) × Inv B L s D' bs' × Queued s × (HonestGhost B D → HonestGhost B D')

module _ (G : Grant) (only : OnlyIdle G) (B : Book) (L : Limits) (sound : Sound B) where
  pub parked_inv_by : (us : List ℕ) (s s' : State) (D : Ghost) (bs : List Block) → Inv B L s D bs → Queued s → parked_by G B L us s ≡ some s' → ParkedInv B L D s'
  unfolding parked_by
  parked_inv_by [] s s' D bs inv qd e = subst (λ (z : State). ParkedInv B L D z) (some-injective _ _ e) (D, bs, inv, qd, λ hn. hn)
  parked_inv_by (u ∷ us) s s' D bs inv qd e =
      go (entry_by G B L u s) (entry_next_by G only B L sound s qd u D bs inv) (entry_queued G B L u s qd) e (parked_inv_by us)
    where
      go : (x : Outcome) → Next B L u s D bs x → QueuedAfter x → unless_ended (parked_by G B L us) x ≡ some s' →
          ((s₁ s₂ : State) (D₁ : Ghost) (bs₁ : List Block) → Inv B L s₁ D₁ bs₁ → Queued s₁ → parked_by G B L us s₁ ≡ some s₂ → ParkedInv B L D₁ s₂) → ParkedInv B L D s'
      go (going ev s₁) (n_going D₁ bs₁ inv₁ hn sh cn mv ln sw) q e k =
          let (D', bs', inv', qd', h) = k s₁ s' D₁ bs₁ inv₁ q (unfold unless_ended in e) in (D', bs', inv', qd', λ x. h (hn x))
      go (ended en s₁) n q e k = unfold unless_ended in absurd (none-ne-some _ e)

-- BY THE RULE IN FORCE
pub parked_run : (B : Book) (L : Limits) (us vs : List ℕ) (n : ℕ) (s s' : State) → parked B L us s ≡ some s' →
    run_from B L (n + length us) vs s' ≡ run_from B L n (us ++ vs) s
unfolding parked run_from
parked_run = parked_run_by in_force

pub parts_run : (B : Book) (L : Limits) (parts : List (List ℕ)) (vs : List ℕ) (n : ℕ) (s s' : State) → parked_parts B L parts s ≡ some s' →
    run_from B L (n + length (flatten parts)) vs s' ≡ run_from B L n (flatten parts ++ vs) s
unfolding parked_parts run_from
parts_run = parts_run_by in_force
