-- What the calls of a round leave of what owners have: all of it.
use Rattle.std.proofs.Common.{ℕ, ◌^◌, ◌<◌, true, Option, Some, None, [], ◌∷◌, ap, sym, refl, ◌∙◌}
use Rattle.std.specs.Prelude.{fold}
use Rattle.far_events.specs.state.Law.{Law}
use Rattle.far_events.specs.state.State.{State}
use Rattle.far_evac.specs.declared.phase.Phase.{Phase}
use Rattle.far_evac.specs.declared.phase.Phase.TheVariants.{Evacuating}
use Rattle.far_evac.specs.Live.{live_among}
use Rattle.far_evac.specs.Marking.{after_marking}
use Rattle.far_evac.specs.Moment.{Moment}
use Rattle.far_evac.specs.Owned.{AbortingKeepsObjects, KeepsObjects, MarkingKeepsObjects, PollingKeepsObjects, RoundKeepsObjects, SelectingKeepsObjects, TurnsKeepObjects}
use Rattle.far_evac.specs.RoundSteps.{unmarked, with_clear_below}
use Rattle.far_evac.specs.Turns.{turns_made}
use Rattle.far_evac.specs.Waiting.{first_open, polled_to}
use Rattle.far_evac.proofs.KeptObjects.{evac_objects, objects_more, objects_none, round_objects}
use Rattle.far_evac.proofs.Leading.{aborting}
use Rattle.far_evac.proofs.LeadingMarks.{marking}
use Rattle.far_evac.proofs.LeadingWalks.{walking_objects}
use Rattle.far_evac.specs.Walk.{walked}
use Rattle.far_evac.proofs.Marks.{clears_cells, is_given_up, is_marked, marking_frame}
use Rattle.far_evac.proofs.TurnSteps.{KeepsTurns, round_kept_exactly, turns_kept_exactly}

pub selecting_objects : SelectingKeepsObjects
selecting_objects m [] = objects_none m.core
selecting_objects m (l ∷ ls) = objects_none m.core

looked_objects : (m : Moment) (k : ℕ) (phase : Phase) → KeepsObjects m.core (record m { core = with_clear_below m.core k; phase = phase }).core
looked_objects m k phase = round_objects m.core (with_clear_below m.core k) refl

polled_objects : (m : Moment) (o : Option ℕ) → KeepsObjects m.core (polled_to m o).core
polled_objects m None = looked_objects m m.core.mutators Evacuating
polled_objects m (Some k) = looked_objects m k m.phase

pub polling_objects : PollingKeepsObjects
polling_objects m = polled_objects m (first_open m.core)

-- ---- cells and the round alone change
abbrev marks_framed : State → State → State
marks_framed s t = record s { cell = t.cell; epoch = t.epoch; round = t.round; round_epoch = t.round_epoch; clear = t.clear }

fits : (s : State) → Law s → (p : ℕ) → s.cell p < 2 ^ 64
fits s law p = (law.cells.cell_read p).0

pub marking_objects : MarkingKeepsObjects
marking_objects m n law moment marks =
    evac_objects m.core (after_marking m n).core (ap (λ (u : Moment). u.core) (marking_frame m n)) (fits m.core law) (fits (after_marking m n).core (marking m n law moment marks).law) (is_marked m n (fits m.core law)).same

pub aborting_objects : AbortingKeepsObjects
aborting_objects m law moment =
    let t = fold unmarked m.core (live_among m.core m.collection) in
    let is = clears_cells (live_among m.core m.collection) m.core in
    evac_objects m.core t (is ∙ sym (ap (marks_framed m.core) is)) (fits m.core law) (fits t (aborting m law moment).law) (is_given_up m (fits m.core law)).same

-- ---- turn after turn
keeps_objects : (s : State) → KeepsTurns true (λ m tally. KeepsObjects s m.core)
keeps_objects s = record {
  learns = tt;
  beside = tt;
  marks = λ m n tally lawful is h. objects_more s m.core (after_marking m n).core h (marking_objects m n lawful.0 lawful.1 is);
  looks = λ m k phase tally lawful is h. objects_more s m.core (with_clear_below m.core k) h (looked_objects m k phase);
  walks = λ m n tally law moment alone is h. objects_more s m.core (walked m n).moment.core h (walking_objects m n law moment alone is).midst;
  ends = λ m tally h. h;
}

pub turns_objects : TurnsKeepObjects
turns_objects m n law moment alone runs = turns_kept_exactly (λ t tally. KeepsObjects m.core t.core) (keeps_objects m.core) m n law moment alone runs (objects_none m.core)

pub whole_objects : RoundKeepsObjects
whole_objects m logs turns end t law moment alone idle left once of_order is =
    round_kept_exactly (λ u. KeepsObjects m.core u.core) (λ u n law moment alone runs h. objects_more m.core u.core (turns_made u n).moment.core h (turns_objects u n law moment alone runs))
    m logs turns end t law moment alone idle left once of_order is (selecting_objects m logs)
