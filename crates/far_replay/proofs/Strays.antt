-- Through each command an object that lies in a log of the core's round lies in one of the collection set.
use Rattle.std.proofs.Common.{◌≡◌, Bool, true, not, None, List, [], ◌∷◌, sym, subst, refl, false}
use Rattle.far_word.specs.declared.refused.Refused.{Refused as Refusal}
use Rattle.far_word.specs.declared.refused.Refused.TheVariants.{Phase as WrongPhase, StillOpen}
use Rattle.far_events.specs.declared.event.Event.{Event}
use Rattle.far_events.specs.declared.event.Kind.{Kind}
use Rattle.far_events.specs.declared.event.Kind.TheVariants as kinds
use Rattle.far_events.specs.events.Step.{Fits, step_of}
use Rattle.far_events.specs.state.Law.{Law}
use Rattle.far_events.specs.state.State.{State}
use Rattle.far_core.proofs.Keeps.{step_keeps}
use Rattle.far_evac.specs.Census.{kind_named}
use Rattle.far_evac.specs.declared.census.LogKind.TheVariants.{Chosen}
use Rattle.far_evac.specs.MomentLaw.{MomentLaw}
use Rattle.far_evac.specs.Strays.{NoneComes, NoneStrays}
use Rattle.far_evac.proofs.Comers.{Brings, brings_more, none_same, step_brings}
use Rattle.far_evac.proofs.Strays.{aborting_none, callers_none, marking_none, polling_none, round_none, selecting_none, walking_none}
use Rattle.far_text.specs.Command.{Abort, Command, Evacuate, Evacuator, Mark, Round, Select, Step, Wait}
use Rattle.std.specs.List.{AllByRecursion as Each}
use Rattle.far_events.specs.events.Ranges.{after_events}
use Rattle.far_replay.specs.Events.{IsNoStep}
use Rattle.far_replay.specs.Moment.{Moment}
use Rattle.far_replay.specs.Rounds.{after_round, choice_causes, chosen_by, given_by, is_evacuating, logs_given, refused_step, round_told, rows_in, step_effect}
use Rattle.far_replay.specs.Turn.{effect, refusal}
use Rattle.far_replay.proofs.RoundChoices.{policy_chooses}
use Rattle.far_replay.proofs.RoundLeads.{begins, by_outcome, evacuating_is, is_round, none_first}
use Rattle.far_replay.proofs.ToldRounds.{aside, told_effect}

-- ---- a step of the evacuator
module _ (now : Moment) (law : Law now.core) (moment : MomentLaw now) (alone : now.copying ≡ false) (none : NoneStrays now) where
  refused_strays : (step : Step) (why : Refusal) → NoneStrays (refused_step now step why)
  refused_strays Wait (StillOpen mutator epoch) = polling_none now none
  refused_strays step why = none

  made_strays : (step : Step) → refusal now (Evacuator step) ≡ None → NoneStrays (step_effect now step)
  made_strays (Select choice most) e =
      let given = given_by choice (rows_in now) most in
      let may = begins now (choice_causes given) e in
      selecting_none now (logs_given given) moment may.0.idle none
  made_strays (Mark count) e = marking_none now count law none
  made_strays Wait e = polling_none now none
  made_strays (Evacuate count) e = walking_none now count law moment alone (evacuating_is now.phase (none_first (not (is_evacuating now.phase)) WrongPhase [] e).0)
  made_strays Abort e = aborting_none now law none
  made_strays (Round policy most turns) e =
      let logs = chosen_by policy (rows_in now) most in
      let may = begins now [] e in
      let chosen = policy_chooses now policy most moment in
      round_none now logs turns (round_told now logs turns) (after_round now logs turns) law moment alone may.0.idle may.0.left chosen.once chosen.of_order (is_round now logs turns) none

pub step_strays : (now : Moment) (step : Step) → Law now.core → MomentLaw now → now.copying ≡ false → NoneStrays now → NoneStrays (effect now (Evacuator step))
step_strays now step law moment alone none = by_outcome NoneStrays now step (λ why _. refused_strays now law moment alone none step why) (made_strays now law moment alone none step)

-- ---- any other command
rows_bring : (s : State) (e : Event) (es : List Event) → Law s → Each Fits (e ∷ es) → Brings s (after_events s (e ∷ es))
rows_bring s e [] law fits = step_brings s e law
rows_bring s e (f ∷ es) law fits = let t = (step_of s e).0 in brings_more s t (after_events t (f ∷ es)) (step_brings s e law) (rows_bring t f es (step_keeps s e law fits.0) fits.1)

comes_none : (s : State) (es : List Event) → Law s → Each Fits es → (after_events s es).epoch ≡ s.epoch → NoneComes s (after_events s es)
comes_none s [] law fits same = none_same s
comes_none s (e ∷ es) law fits same = (rows_bring s e es law fits).none same

pub told_strays : (now : Moment) (c : Command) (es : List Event) → IsNoStep c → Law now.core → Each Fits es → after_events now.core es ≡ (effect now c).core → NoneStrays now → NoneStrays (effect now c)
told_strays now c es told law fits ends none =
    let same : (effect now c).core.epoch ≡ now.core.epoch = (aside now c told law).epoch in
    let comes : (effect now c).core.epoch ≡ now.core.epoch → NoneComes now.core (effect now c).core = subst (λ (t : State). t.epoch ≡ now.core.epoch → NoneComes now.core t) ends (comes_none now.core es law fits) in
    subst NoneStrays (sym (told_effect now c told)) (callers_none now (effect now c).core (comes same) none)

-- ---- which logs are called chosen
pub chosen_held : (held : Bool) (kind : Kind) → kind_named held kind ≡ Chosen → held ≡ true
chosen_held held kinds.Free e = absurd cc
chosen_held true kinds.Sealed e = refl
chosen_held _ _ e = absurd cc
