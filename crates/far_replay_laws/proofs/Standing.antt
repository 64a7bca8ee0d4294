-- A command that is no step of the evacuator leaves the round.
use Rattle.std.proofs.Common.{◌≡◌, ℕ, Bool, true, ap, sym, refl, subst}
use Rattle.far_events.specs.state.State.{State}
use Rattle.far_book.specs.book.SealedLogs.{KeepsSealed}
use Rattle.far_evac.specs.Callers.{StepsAside}
use Rattle.far_evac.specs.MomentLaw.{MomentLaw}
use Rattle.far_evac.specs.RoundSteps.{among}
use Rattle.far_text.specs.Command.{Command, Mutator, Book, Evacuator}
use Rattle.far_replay.specs.Answers.{Commanded, Served, IsMoment}
use Rattle.far_replay.proofs.Outcomes.{by_outcome}
use Rattle.far_replay.specs.Events.{IsNoStep}
use Rattle.far_replay.specs.Moment.{Moment, with_core, as_if_stored}
use Rattle.far_reply.specs.Reply.{Reply}
use Rattle.far_replay_laws.specs.Stands.{RoundStands, Stands}
use Rattle.far_replay_laws.specs.Steps.{IsChosen}
use Rattle.far_replay.specs.Turn.{effect}
use Rattle.far_replay.proofs.Lasting.{Lasts, moment_lasts, misled_before}
use Rattle.far_replay_laws.proofs.SealedAside.{sealed_aside}
use Rattle.far_replay_laws.proofs.StepsTell.{chosen_by_both, held_by}
use Rattle.far_replay.proofs.ToldRounds.{aside, told_effect}
use Rattle.far_replay_laws.proofs.Misleading.{as_misled}

module _ (now : Moment) (t : State) (moment : MomentLaw now) (left : StepsAside now.core t) (logs : KeepsSealed now.core t) where
  abbrev next : Moment
  next = with_core now t

  still_chosen : (l : ℕ) → IsChosen now l → IsChosen next l
  still_chosen l h =
      let held : among now.collection l ≡ true = held_by (among now.collection l) (now.core.kind l) h in
      chosen_by_both (among now.collection l) (t.kind l) held (left.stay l (moment.sealed l held))

  was_chosen : (l : ℕ) → IsChosen next l → IsChosen now l
  was_chosen l h =
      let held : among now.collection l ≡ true = held_by (among now.collection l) (t.kind l) h in
      chosen_by_both (among now.collection l) (now.core.kind l) held (moment.sealed l held)

  round_stands : RoundStands now next
  round_stands = record {
    phase = refl;
    collection = refl;
    chosen = λ l. (was_chosen l, still_chosen l);
    logs = λ l. ap (λ (f : ℕ → Bool). f l) left.round;
    epoch = left.round_epoch;
    heap = left.epoch;
    seen = λ m. ap (λ (f : ℕ → Bool). f m) left.clear;
    none_comes = λ p len ds place marks chosen near.
        logs.near p len ds place marks near (moment.sealed place.log (held_by (among now.collection place.log) (now.core.kind place.log) chosen));
  }

told_stands : (now : Moment) (c : Command) → IsNoStep c → Lasts now → RoundStands now (effect now c)
told_stands now c told lasts =
    subst (RoundStands now) (sym (told_effect now c told)) (round_stands now (effect now c).core lasts.round (aside now c told lasts.law) (sealed_aside now c told lasts.law))

stands_by : (now : Moment) (c : Command) → Lasts now → Stands now c (effect now c)
stands_by now (Mutator m request) lasts = told_stands now (Mutator m request) tt lasts
stands_by now (Book inquiry) lasts = told_stands now (Book inquiry) tt lasts
stands_by now (Evacuator step) lasts = tt

served_stands : (now : Moment) (c : Command) (r : Reply) (later : Moment) → Lasts now → Served now c r later → Stands now c later
served_stands now c r later lasts h = subst (Stands now c) (sym h.moment) (stands_by now c lasts)

stands_as_if : (now later : Moment) (p : ℕ) (row : ℕ → ℕ) → RoundStands (as_if_stored now p row) (as_if_stored later p row) → RoundStands now later
stands_as_if now later p row x = record {
  phase = x.phase;
  collection = x.collection;
  chosen = x.chosen;
  logs = x.logs;
  epoch = x.epoch;
  heap = x.heap;
  seen = x.seen;
  none_comes = x.none_comes;
}

pub stands : (now : Moment) (c : Command) (r : Reply) (later : Moment) → Lasts now → Commanded now c r later → Stands now c later
stands now c r later lasts h = by_outcome now r later (λ d. Stands now d later)
    (λ d h. served_stands now d r later lasts h)
    (λ why m p how h. served_stands now _ _ later lasts h.tried)
    (λ why objects count h. tt)
    (λ why turns objects policy most count h. tt)
    (λ row m p d asks h. as_misled row now r later m p (λ now c r later. Stands now c later) (λ from bytes. stands_as_if now later p row) (λ from len bytes. stands_as_if now later p row) (stands_as_if now later p row)
    d asks h (served_stands (as_if_stored now p row) d r (as_if_stored later p row) (misled_before row now d p r later lasts h) h.served))
    c h

pub rounds_stand : (now : Moment) (c : Command) (r : Reply) (later : Moment) → IsMoment now → Commanded now c r later → Stands now c later
rounds_stand now c r later is h = stands now c r later (moment_lasts now is) h
