-- What the steps of a round leave.
use Rattle.std.proofs.Common.{◌≡◌, ◌≢◌, ℕ, false, refl, sym, ap, subst, ◌∙◌, Result, Ok, Err}
use Rattle.std.specs.Prelude.{IfOk, IfErr, List}
use Rattle.far_word.specs.Pointer.{read_of}
use Rattle.far_word.specs.declared.refused.Refused.{Refused}
use Rattle.far_events.specs.events.Naming.{is_dropped}
use Rattle.far_events.specs.state.Law.{Law}
use Rattle.far_events.specs.state.State.{State}
use Rattle.far_events.proofs.Cells.{unused}
use Rattle.far_evac.specs.declared.phase.Phase.{Phase}
use Rattle.far_evac.specs.declared.phase.Phase.TheVariants.{Idle, Marking, Waiting, Evacuating}
use Rattle.far_evac.specs.Choosing.{after_aborting, after_selecting}
use Rattle.far_evac.specs.EvacOf.{EvacOf, moment_alone}
use Rattle.far_evac.specs.Moment.{Moment, Tally}
use Rattle.far_evac.specs.MomentLaw.{MomentLaw}
use Rattle.far_evac.specs.Owned.{KeepsObjects}
use Rattle.far_evac.specs.Turns.{Halts, Turned, begun_turns, turn_size, turned}
use Rattle.far_evac.proofs.KeptObjects.{objects_none}
use Rattle.far_evac.proofs.KeptTurns.{aborting_objects, marking_objects, polling_objects, selecting_objects}
use Rattle.far_evac.proofs.LeadingWalks.{walking_objects}
use Rattle.far_hand.specs.declared.plain.Plain.{Plain}
use Rattle.far_private.specs.Objects.{state_in}
use Rattle.far_private.specs.Steps.{Keeps}
use Rattle.far_private.proofs.Keeping.{keeps_none, round_keeps}

-- ---- a free cell stays free
free_on : (s t : State) → KeepsObjects s t → (p : ℕ) → s.cell p ≡ 0 → t.cell p ≡ 0
free_on s t k p e = (k.free p (ap (λ w. is_dropped (read_of w)) e ∙ ap is_dropped unused)).1 e

pub kept : (s t : State) → KeepsObjects s t → Keeps s t
kept s t k = round_keeps s t (free_on s t k) k

module _ {D : Type 0} (old new : EvacOf Plain D) where
  same_keeps : new ≡ old → Keeps (state_in old) (state_in new)
  same_keeps e = subst (λ (x : EvacOf Plain D). Keeps (state_in old) (state_in x)) (sym e) (keeps_none (state_in old))

  by_moment : (t : Moment) → moment_alone new ≡ t → KeepsObjects (state_in old) t.core → Keeps (state_in old) (state_in new)
  by_moment t e k = kept (state_in old) (state_in new) (subst (KeepsObjects (state_in old)) (sym (ap (λ (m : Moment). m.core) e)) k)

  -- logs were chosen
  pub selects : (logs : List ℕ) → moment_alone new ≡ after_selecting (moment_alone old) logs → Keeps (state_in old) (state_in new)
  selects logs e = by_moment (after_selecting (moment_alone old) logs) e (selecting_objects (moment_alone old) logs)

  pub unchanged : new ≡ old → Keeps (state_in old) (state_in new)
  unchanged = same_keeps

  module _ (law : Law (state_in old)) (moment : MomentLaw (moment_alone old)) (alone : old.copying ≡ false) where
    -- a turn was made
    turned_objects : (phase : Phase) → old.phase ≡ phase → KeepsObjects (state_in old) (turned (begun_turns (moment_alone old)) phase).moment.core
    turned_objects Idle e = objects_none (state_in old)
    turned_objects Marking e = marking_objects (moment_alone old) turn_size law moment e
    turned_objects Waiting e = polling_objects (moment_alone old)
    turned_objects Evacuating e = (walking_objects (moment_alone old) turn_size law moment alone e).answer

    pub turns : (t : Turned) → turned (begun_turns (moment_alone old)) old.phase ≡ t → t.moment ≡ moment_alone new → Keeps (state_in old) (state_in new)
    turns t e is = by_moment t.moment (sym is) (subst (λ (x : Turned). KeepsObjects (state_in old) x.moment.core) e (turned_objects old.phase refl))

    -- or was refused in its midst
    pub halts : (tally : Tally) → old.phase ≡ Evacuating → Halts (moment_alone old) turn_size (moment_alone new) tally → Keeps (state_in old) (state_in new)
    halts tally e (k, less, is, counts) = by_moment _ is (walking_objects (moment_alone old) k law moment alone e).midst

    -- the round was given up
    pub gives_up : moment_alone new ≡ after_aborting (moment_alone old) → Keeps (state_in old) (state_in new)
    gives_up e = by_moment (after_aborting (moment_alone old)) e (aborting_objects (moment_alone old) law moment)

    pub ends : (result : Result (Unit {0}) Refused) → IfOk result (λ _. moment_alone new ≡ after_aborting (moment_alone old)) → IfErr result (λ _. new ≡ old) → Keeps (state_in old) (state_in new)
    ends (Ok done) e same = gives_up e
    ends (Err why) e same = same_keeps same

phase_cases : (p : Phase) (P : Type 0) → (p ≡ Idle → P) → (p ≢ Idle → P) → P
phase_cases Idle P here there = here refl
phase_cases Marking P here there = there (λ e. let odd : Marking ≡ Idle = e in cc)
phase_cases Waiting P here there = there (λ e. let odd : Waiting ≡ Idle = e in cc)
phase_cases Evacuating P here there = there (λ e. let odd : Evacuating ≡ Idle = e in cc)

-- whatever a turn that was refused found
pub refused_turn : {D : Type 0} (old new : EvacOf Plain D) → Law (state_in old) → MomentLaw (moment_alone old) → old.copying ≡ false → (old.phase ≡ Idle → new ≡ old) →
    (old.phase ≢ Idle → old.phase ≡ Evacuating) → (old.phase ≢ Idle → (tally : Tally) × Halts (moment_alone old) turn_size (moment_alone new) tally) → Keeps (state_in old) (state_in new)
refused_turn old new law moment alone idle leaving stops = phase_cases old.phase (Keeps (state_in old) (state_in new)) (λ e. unchanged old new (idle e))
    (λ ne. let (tally, h) = stops ne in halts old new law moment alone tally (leaving ne) h)
