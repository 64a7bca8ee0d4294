-- Where a reply says that memory was refused.
use Rattle.std.proofs.Common.{◌≡◌, ◌≢◌, ◌∙◌, refl, subst, sym}
use Rattle.far_word.specs.declared.refused.Refused.{Refused as Refusal}
use Rattle.far_word.specs.declared.refused.Refused.TheVariants.{Memory}
use Rattle.far_evac.specs.declared.answers.Progress.{Progress}
use Rattle.far_text.specs.Command.{Command, Evacuate, Round}
use Rattle.far_replay.specs.Answers.{Commanded, IsMoment, Refuses}
use Rattle.far_replay.specs.Commanded.{KeepsFar}
use Rattle.far_replay.specs.Moment.{Moment, as_if_stored}
use Rattle.far_reply.specs.Reply.{Reply, Halted, Refused}
use Rattle.far_replay.proofs.Outcomes.{by_outcome}
use Rattle.far_replay_laws.specs.FromOutside.{HaltsThere, MemoryIsRefusedThere}
use Rattle.far_replay_laws.specs.Steps.{TellsStep}
use Rattle.far_replay_laws.proofs.Failures.{served_unhalted}
use Rattle.far_replay_laws.proofs.FarRefusals.{served_never}
use Rattle.far_replay_laws.proofs.TurnsTell.{steps_told}

halted_no : (why cause : Refusal) (progress : Progress) → Refused cause ≢ Halted why progress
halted_no why cause progress e = cc

halted_is : (why cause : Refusal) (progress : Progress) → Halted why progress ≢ Refused cause
halted_is why cause progress e = cc

halts_there : (now : Moment) (c : Command) (r : Reply) (next : Moment) (progress : Progress) → IsMoment now → Commanded now c r next → r ≡ Halted Memory progress → HaltsThere now c next
halts_there now c r next progress is h e = by_outcome now r next (λ d. HaltsThere now d next)
    (λ d h. absurd (served_unhalted now d r next Memory progress h e))
    (λ why m p how h. absurd (halted_no Memory why progress (sym h.reply ∙ e)))
    (λ why objects count h.
    let x = subst (λ q. TellsStep now (Evacuate count) q next) e (steps_told now (Evacuate count) r next is (Refuses why 0 objects, h)) in
    let time = x.time (halted_is Memory _ progress) in
    (time, x.phase ∙ time))
    (λ why turns objects policy most count h.
    let x = subst (λ q. TellsStep now (Round policy most count) q next) e (steps_told now (Round policy most count) r next is (Refuses why turns objects, h)) in
    (x.time (halted_is Memory _ progress), x.phase))
    (λ row m p d asks h. absurd (served_unhalted (as_if_stored now p row) d r (as_if_stored next p row) Memory progress h.served e))
    c h

-- without counts it is never refused: what is served isn't refused so, and no object stays far for want of memory
refusals_alike : (a b : Refusal) → Refused a ≡ Refused b → a ≡ b
refusals_alike a b e = cc

kept_never : (why : Refusal) (r : Reply) → KeepsFar why → r ≡ Refused why → r ≢ Refused Memory
kept_never why r keeps is e = subst KeepsFar (refusals_alike why Memory (sym is ∙ e)) keeps

never_refused : (now : Moment) (c : Command) (r : Reply) (next : Moment) → Commanded now c r next → r ≢ Refused Memory
never_refused now c r next h e = by_outcome now r next (λ d. ⊥)
    (λ d h. served_never now d r next Memory h e tt)
    (λ why m p how h. kept_never why r h.cause h.reply e)
    (λ why objects count h. halted_is why Memory _ (sym h.reply ∙ e))
    (λ why turns objects policy most count h. halted_is why Memory _ (sym h.reply ∙ e))
    (λ row m p d asks h. h.answered Memory e)
    c h

pub memory_is_refused_there : MemoryIsRefusedThere
memory_is_refused_there now c (Refused Memory) next is h = never_refused now c (Refused Memory) next h refl
memory_is_refused_there now c (Halted Memory progress) next is h = halts_there now c (Halted Memory progress) next progress is h refl
memory_is_refused_there now c r next is h = tt
