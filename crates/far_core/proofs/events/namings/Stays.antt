-- What the form of naming Stays owes.
use Rattle.std.proofs.Common.{inl, inr, ◌≡◌, ◌≢◌, ℕ, true, false, refl, sym, ap, ◌∙◌, Some, None}
use Rattle.std.proofs.lemmas.Bool.{false≢true}
use Rattle.far_word.specs.declared.mark.Marks.{Marks}
use Rattle.far_word.specs.declared.pointer.Place.{Place}
use Rattle.far_word.specs.declared.pointer.PtrWord.TheVariants.{Free, Near}
use Rattle.far_word.specs.Pointer.{read_of}
use Rattle.far_events.specs.declared.naming.Naming.TheVariants.{Stays}
use Rattle.far_events.specs.events.Naming.{unmarked}
use Rattle.far_events.specs.state.Law.{Law, HasEvac, in_use}
use Rattle.far_events.specs.state.State.{State, put}
use Rattle.far_core.specs.world.Steps as world
use Rattle.far_core.specs.world.WorldOf.{world_of, object_of}
use Rattle.far_events.proofs.Cells.{Remarked, unused}
use Rattle.far_core.proofs.Frames.{law_with_cell_marks}
use Rattle.far_core.proofs.Marking.{unmarks_world}
use Rattle.far_core.proofs.NamingOwed.{IsMade, NamingOwed}
use Rattle.far_events.proofs.Put.{put_same}
use Rattle.far_events.proofs.Quieting.{quiet_unheld}
use Rattle.far_events.specs.events.Quiet.{has_move}
use Rattle.far_core.proofs.Touching.{one_cell, touched}

module _ (s : State) (p new len ds : ℕ) (place : Place) (m : Marks) (made : IsMade s p new Stays)
    (near : read_of (s.cell p) ≡ Some (Near len ds place m)) (kept : m.dropped ≡ false) (moved : m.moved ≡ true) (unwanted : m.evac ≡ false) (says : read_of new ≡ Some (Near len ds place (unmarked m.dirty))) where
  remarked : Remarked (read_of (s.cell p)) (read_of new)
  remarked = rw (near, says) (record { same = refl; kept = λ _. kept; clean = λ e. e })

  used : s.cell p ≢ 0
  used z = (let odd : Some Free ≡ Some (Near len ds place m) = sym unused ∙ ap read_of (sym z) ∙ near in cc)

  unheld : s.held p ≡ None
  unheld = quiet_unheld s made.law p (inl (ap has_move near ∙ moved))

  -- it had no EVAC, so its log isn't in the round
  out : HasEvac s.round (read_of new)
  out n d at k is inside =
      let both : Some (Near len ds place (unmarked m.dirty)) ≡ Some (Near n d at k) = sym says ∙ is in
      let there : place ≡ at = cc in
      absurd (false≢true (sym unwanted ∙ made.law.rounds.round_evac p len ds place m near (ap (λ (x : Place). s.round x.log) there ∙ inside)))

  pub keeps_stay : Law record s { cell = put s.cell p new }
  keeps_stay = law_with_cell_marks s made.law p new made.fits remarked out used
      (λ at h. let odd : None ≡ Some at = sym unheld ∙ h in absurd cc) (λ _. ap in_use says)

  objects : (f g : ℕ → ℕ) (q : ℕ) → object_of f g q (read_of new) ≡ object_of f g q (read_of (s.cell p))
  objects f g q = rw (says, near, kept) refl

  pub stay_unmarks : world.Unmarks (world_of s) p (world_of record s { cell = put s.cell p new })
  stay_unmarks = unmarks_world s p new objects (rw (says, near, kept) refl)

module _ (p new : ℕ) where
  pub stays_owed : NamingOwed p new Stays
  stays_owed = record {
    keeps = λ s made. let n = made.naming in keeps_stay s p new n.0 n.1 n.2 n.3 made n.4 n.5 n.6 n.7 n.8;
    does = λ s made. let n = made.naming in stay_unmarks s p new n.0 n.1 n.2 n.3 made n.4 n.5 n.6 n.7 n.8;
    within = λ s. touched (one_cell s.epoch s.scope s.cell s.word s.copying.word p new) (λ k a b. refl) (λ q a. refl) (λ q a b. refl);
    names = λ s. put_same s.cell p new p refl;
    reports = λ s law. refl;
    causes = λ old says. inr (old, new, refl);
  }
