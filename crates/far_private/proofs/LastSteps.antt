-- The steps of a call's last round: marking, a look at the owners, and leaving.
use Rattle.std.proofs.Common.{◌≡◌, ℕ, ◌<◌, ◌≤◌, sym, ap, subst, ◌∙◌, false, List, Result, Ok, Err}
use Rattle.std.specs.Prelude.{IfErr, IfOk}
use Rattle.far_word.specs.declared.refused.Refused.{Refused}
use Rattle.far_word.specs.declared.refused.Refused.TheVariants as refusals
use Rattle.far_events.specs.state.Law.{Law}
use Rattle.far_events.specs.state.State.{State}
use Rattle.far_device.specs.declared.fault.DeviceFault.{DeviceFault}
use Rattle.far_hand.specs.declared.plain.Plain.{Plain}
use Rattle.far_evac.specs.declared.phase.Phase.TheVariants.{Evacuating, Idle, Marking, Waiting}
use Rattle.far_evac.specs.Asked.{IsRefusedWrite}
use Rattle.far_evac.specs.EvacOf.{EvacOf, moment_alone}
use Rattle.far_evac.specs.Marking.{after_marking}
use Rattle.far_evac.specs.Moment.{Moment, Tally}
use Rattle.far_evac.specs.MomentLaw.{MomentLaw}
use Rattle.far_evac.specs.Owned.{KeepsObjects}
use Rattle.far_evac.specs.RoundSteps.{with_clear_below}
use Rattle.far_evac.specs.Waiting.{after_polling}
use Rattle.far_evac.specs.Walk.{ended, walked}
use Rattle.far_evac.proofs.KeptTurns.{marking_objects, polling_objects}
use Rattle.far_evac.proofs.LeadingWalks.{walking_objects}
use Rattle.far_evac.proofs.Marks.{marking_frame}
use Rattle.far_private.specs.Causes.{IsNotTaken}
use Rattle.far_private.specs.LastRound.{AreEmptied, IsCold, SameLogs}
use Rattle.far_private.specs.Objects.{Objects, Settled, objects_of, state_in}
use Rattle.far_private.specs.Steps.{Keeps}
use Rattle.far_private.proofs.LastRounds.{marked_cold, marked_logs, marking_ends, polling_ends, walk_empties, walk_ends}
use Rattle.far_private.proofs.Rounds.{kept}
use Rattle.far_private.proofs.Stuck.{write_refused}

-- a call that belongs to the phase isn't refused
pub as_told : {A P Q : Type 0} (r : Result A Refused) → IfOk r (λ _. P) → IfErr r (λ why. (why ≡ refusals.Phase) × (Q → ⊥)) → Q → P
as_told (Ok x) p unlike q = p
as_told (Err why) p unlike q = absurd (unlike.1 q)

pub poll_told : {A P Q : Type 0} (R : A → Type 0) (r : Result A Refused) → IfOk r (λ x. P × R x) → IfErr r (λ why. (why ≡ refusals.Phase) × (Q → ⊥)) → Q → P
poll_told R (Ok x) p unlike q = p.0
poll_told R (Err why) p unlike q = absurd (unlike.1 q)

module _ {D : Type 0} (old new : EvacOf Plain D) where
  by_core : (t : Moment) → moment_alone new ≡ t → KeepsObjects (state_in old) t.core → Keeps (state_in old) (state_in new)
  by_core t e k = kept (state_in old) (state_in new) (subst (KeepsObjects (state_in old)) (sym (ap (λ (m : Moment). m.core) e)) k)

  logs_by : (t : Moment) → moment_alone new ≡ t → SameLogs (state_in old) t.core → SameLogs (state_in old) (state_in new)
  logs_by t e k = subst (SameLogs (state_in old)) (sym (ap (λ (m : Moment). m.core) e)) k

  -- ---- marking
  module _ (law : Law (state_in old)) (moment : MomentLaw (moment_alone old)) (n : ℕ) (many : 32768 ≤ n) (marks : old.phase ≡ Marking) (is : moment_alone new ≡ after_marking (moment_alone old) n) where
    pub marks_keeps : Keeps (state_in old) (state_in new)
    marks_keeps = by_core (after_marking (moment_alone old) n) is (marking_objects (moment_alone old) n law moment marks)

    pub marks_phase : new.phase ≡ Waiting
    marks_phase = ap (λ (m : Moment). m.phase) (is ∙ marking_ends (moment_alone old) law moment n many)

    pub marks_held : new.collection ≡ old.collection
    marks_held = ap (λ (m : Moment). m.collection) (is ∙ marking_frame (moment_alone old) n)

    pub marks_logs : SameLogs (state_in old) (state_in new)
    marks_logs = logs_by (after_marking (moment_alone old) n) is (marked_logs (moment_alone old) n)

    pub marks_cold : IsCold (state_in old) old.collection → IsCold (state_in new) old.collection
    marks_cold cold = subst (λ (s : State). IsCold s old.collection) (sym (ap (λ (m : Moment). m.core) is)) (marked_cold (moment_alone old) n old.collection law cold)

  -- ---- a look at the owners
  module _ (settled : Settled (state_in old)) (is : moment_alone new ≡ after_polling (moment_alone old)) where
    pub polls_keeps : Keeps (state_in old) (state_in new)
    polls_keeps = by_core (after_polling (moment_alone old)) is (polling_objects (moment_alone old))

    polls_so : moment_alone new ≡ record (moment_alone old) { core = with_clear_below (state_in old) (state_in old).mutators; phase = Evacuating }
    polls_so = is ∙ polling_ends (moment_alone old) settled.closed

    pub polls_phase : new.phase ≡ Evacuating
    polls_phase = ap (λ (m : Moment). m.phase) polls_so

    pub polls_held : new.collection ≡ old.collection
    polls_held = ap (λ (m : Moment). m.collection) polls_so

    pub polls_cells : (state_in new).cell ≡ (state_in old).cell
    polls_cells = ap (λ (m : Moment). m.core.cell) polls_so

    pub polls_logs : SameLogs (state_in old) (state_in new)
    polls_logs = record { logs = ap (λ (m : Moment). m.core.logs) polls_so; kinds = λ l. ap (λ (m : Moment). m.core.kind l) polls_so }

  -- ---- all leave
  module _ (law : Law (state_in old)) (moment : MomentLaw (moment_alone old)) (alone : old.copying ≡ false) (leaves : old.phase ≡ Evacuating) where
    pub leaves_keeps : (n : ℕ) → moment_alone new ≡ ended (walked (moment_alone old) n) → Keeps (state_in old) (state_in new)
    leaves_keeps n is = by_core (ended (walked (moment_alone old) n)) is (walking_objects (moment_alone old) n law moment alone leaves).answer

    pub leaves_empty : (n : ℕ) → 32768 < n → moment_alone new ≡ ended (walked (moment_alone old) n) → IsCold (state_in old) old.collection → AreEmptied (state_in old) old.collection (state_in new)
    leaves_empty n many is cold = subst (AreEmptied (state_in old) old.collection) (sym (ap (λ (m : Moment). m.core) is)) (walk_empties (moment_alone old) law moment alone leaves n many cold)

    pub leaves_idle : (n : ℕ) → 32768 < n → moment_alone new ≡ ended (walked (moment_alone old) n) → new.phase ≡ Idle
    leaves_idle n many is = ap (λ (m : Moment). m.phase) is ∙ walk_ends (moment_alone old) law moment alone leaves n many

    -- or the device refuses a write
    pub stops_keeps : (k : ℕ) → moment_alone new ≡ (walked (moment_alone old) k).moment → Keeps (state_in old) (state_in new)
    stops_keeps k is = by_core (walked (moment_alone old) k).moment is (walking_objects (moment_alone old) k law moment alone leaves).midst

    pub stops_taken : (k : ℕ) → moment_alone new ≡ (walked (moment_alone old) k).moment → (writes : D → ℕ → List ℕ → Result (Unit {0}) DeviceFault → D → Type 0) (lets_go : D → ℕ → D → Type 0) (tally : Tally) (why : Refused) (before after : D) →
        Law (state_in new) → IsRefusedWrite (Unit {0}) D writes lets_go (moment_alone old) (moment_alone new) tally why before after → IsNotTaken D writes (objects_of (state_in old)).object
    stops_taken k is writes lets_go tally why before after then r =
        subst (λ (o : Objects). IsNotTaken D writes o.object) (stops_keeps k is).objects (write_refused writes lets_go (moment_alone old) (moment_alone new) tally why before after then r)
