-- A command was made: served, or refused in its midst.
use Rattle.std.proofs.Common.{◌≡◌, ◌≢◌, ◌⊎◌, inl, inr, ℕ, Bool, true, false, Some, None, List, [], ◌∷◌, length, refl, sym, ap, subst, ◌∙◌}
use Rattle.far_word.specs.declared.refused.Refused.{Refused as Refusal}
use Rattle.far_word.specs.declared.refused.Refused.TheVariants.{Closed, Device, Memory, NoRoom, NotHeld, Range}
use Rattle.far_events.specs.state.Law.{Law}
use Rattle.far_hand.specs.declared.plain.Plain.{Plain}
use Rattle.far_evac.specs.declared.answers.EvacFault.{EvacFault}
use Rattle.far_evac.specs.EvacOf.{EvacOf}
use Rattle.far_text.specs.Command.{Command, Evacuator, Mutator, On, Use, Reads, Writes, Request, Step}
use Rattle.far_text.specs.Written.{WritesBytes}
use Rattle.far_alone.specs.Between.{Between}
use Rattle.far_replay.specs.Commanded.{AsksFor, Lacks, Refuses, Served, Serves, Stopped, StopsSo}
use Rattle.far_replay.specs.Far.{HoldsBy, ToldBy, far_in}
use Rattle.far_replay.specs.Interpreter.{stopper_of}
use Rattle.far_alone.specs.Dereference.{has_no_room}
use Rattle.far_events.specs.events.Ranges.{after_events}
use Rattle.far_replay.specs.Events.{events_for}
use Rattle.far_replay.specs.Moment.{FarSide, KeepsRound, Moment, moment_in, state_in}
use Rattle.far_replay.specs.Outcome.{IsOutside}
use Rattle.far_reply.specs.Reply.{Reply, Halted, Refused}
use Rattle.far_replay.specs.Spent.{Makes, SpentBy}
use Rattle.far_replay.specs.Turn.{access_causes, effect, first_cause, refusal, refused_effect, reply_to, turn_effect, turn_reply, unless}
use Rattle.far_replay.proofs.Joining.{made_whole}
use Rattle.far_replay.proofs.Spending.{any_turn, spent_same}
use Rattle.far_replay.proofs.Told.{hold_still, refused_told}

-- it was served
pub made_served : (old new : EvacOf Plain FarSide) (c : Command) (r : Reply) → moment_in new ≡ effect (moment_in old) c → r ≡ reply_to (moment_in old) c → SpentBy Serves old new →
    HoldsBy c (state_in old) (state_in new) (far_in old) (far_in new) → ToldBy Serves (moment_in old) c (far_in old) → Makes old c r new
made_served old new c r moment reply spent holds told = (Serves, record { commanded = record { reply = reply; moment = moment }; spent = spent; holds = holds; told = told })

-- a request that was kept, by its events
pub request_made : (old new : EvacOf Plain FarSide) (m : ℕ) (kept r : Request) (told : Reply) → r ≡ kept → WritesBytes (Mutator m r) → Law (state_in old) → Between (state_in old) →
    state_in new ≡ after_events (state_in old) (events_for (moment_in old) (Mutator m r)) → new.book.order ≡ (effect (moment_in old) (Mutator m r)).order → KeepsRound old new →
    told ≡ reply_to (moment_in old) (Mutator m r) → SpentBy Serves old new → HoldsBy (Mutator m r) (state_in old) (state_in new) (far_in old) (far_in new) → ((k p : ℕ) → AsksFor k p (Mutator m r) → ⊥) →
    Makes old (Mutator m kept) told new
request_made old new m kept r told same small law between state order round reply spent holds silent =
    subst (λ q. Makes old (Mutator m q) told new) same
    (made_served old new (Mutator m r) told (made_whole (moment_in old) (moment_in new) (Mutator m r) tt law between small state order round.0 round.1 round.2) reply spent
    holds (λ k p asks far allowed. absurd (silent k p asks)))

-- ---- a step that is refused
-- from outside, or not
outside_or : (why : Refusal) → IsOutside why ⊎ ¬ IsOutside why
outside_or Memory = inl (inl refl)
outside_or Device = inl (inr refl)
outside_or why = inr (λ either. elim either [
  | inl memory ↦ cc
  | inr failed ↦ cc
])

-- it isn't
pub allowed_served : (now next : Moment) (c : Command) (r : Reply) → refusal now c ≡ None → next ≡ turn_effect now c → r ≡ turn_reply now c → Served now c r next
allowed_served now next c r allowed moment reply = record {
  reply = reply ∙ ap (λ o. unless o Refused (turn_reply now c)) (sym allowed);
  moment = moment ∙ ap (λ o. unless o (refused_effect now c) (turn_effect now c)) (sym allowed);
}

-- before it began
pub refused_served : (now next : Moment) (c : Command) (why : Refusal) → refusal now c ≡ Some why → refused_effect now c why ≡ now → next ≡ now → Served now c (Refused why) next
refused_served now next c why cause leaves same = record {
  reply = ap (λ o. unless o Refused (turn_reply now c)) (sym cause);
  moment = same ∙ sym leaves ∙ ap (λ o. unless o (refused_effect now c) (turn_effect now c)) (sym cause);
}

-- or in its midst. It asks for no object
module _ (old new : EvacOf Plain FarSide) (step : Step) (holds : HoldsBy (Evacuator step) (state_in old) (state_in new) (far_in old) (far_in new)) where
  pub step_served : (r : Reply) → Served (moment_in old) (Evacuator step) r (moment_in new) → SpentBy Serves old new → Makes old (Evacuator step) r new
  step_served r served spent = (Serves, record { commanded = served; spent = spent; holds = holds; told = λ m p asks. absurd asks })

  stopper_stops : (why : Refusal) (r : Reply) → IsOutside why → StopsSo why (moment_in old) (Evacuator step) r (moment_in new) → SpentBy (stopper_of why) old new → Makes old (Evacuator step) r new
  stopper_stops why r (inl memory) (turns, objects, stopped) spent = (
    Lacks turns objects,
    record {
      commanded = subst (λ w. Stopped w turns objects (moment_in old) (Evacuator step) r (moment_in new)) memory stopped;
      spent = subst (λ w. SpentBy (stopper_of w) old new) memory spent;
      holds = holds;
      told = tt;
    },
  )
  stopper_stops why r (inr failed) (turns, objects, stopped) spent = (
    Refuses Device turns objects,
    record {
      commanded = subst (λ w. Stopped w turns objects (moment_in old) (Evacuator step) r (moment_in new)) failed stopped;
      spent = any_turn Device turns objects old new (subst (λ w. SpentBy (stopper_of w) old new) failed spent);
      holds = holds;
      told = tt;
    },
  )

  -- where it is refused otherwise nothing is spent
  stopper_serves : (why : Refusal) → ¬ IsOutside why → SpentBy (stopper_of why) old new → SpentBy Serves old new
  stopper_serves Memory other spent = absurd (other (inl refl))
  stopper_serves Device other spent = absurd (other (inr refl))
  stopper_serves why other spent = spent

  pub step_refused : (r : Reply) (fault : EvacFault) → (IsOutside fault.why → r ≡ Halted fault.why fault.so_far) → (¬ IsOutside fault.why → r ≡ Refused fault.why) → SpentBy (stopper_of fault.why) old new →
      (IsOutside fault.why → StopsSo fault.why (moment_in old) (Evacuator step) (Halted fault.why fault.so_far) (moment_in new)) → (¬ IsOutside fault.why → Served (moment_in old) (Evacuator step) (Refused fault.why) (moment_in new)) →
      Makes old (Evacuator step) r new
  step_refused r fault halted refused spent stops served = elim (outside_or fault.why) [
    | inl either ↦ subst (λ x. Makes old (Evacuator step) x new) (sym (halted either)) (stopper_stops fault.why (Halted fault.why fault.so_far) either (stops either) spent)
    | inr other ↦ subst (λ x. Makes old (Evacuator step) x new) (sym (refused other)) (step_served (Refused fault.why) (served other) (stopper_serves fault.why other spent))
  ]

-- ---- a step that asks for nothing of the device
pub aside_made : (old new : EvacOf Plain FarSide) (step : Step) → HoldsBy (Evacuator step) (state_in old) (state_in new) (far_in old) (far_in new) → (r : Reply) →
    moment_in new ≡ effect (moment_in old) (Evacuator step) → r ≡ reply_to (moment_in old) (Evacuator step) → new.book.device ≡ old.book.device → Makes old (Evacuator step) r new
aside_made old new step holds r moment reply device = step_served old new step holds r (record { reply = reply; moment = moment }) (spent_same old new device)

-- ---- a range that may not be reached
named : (why cause : Refusal) → Some why ≡ Some cause → cause ≡ why
named why cause e = cc

barred : (a b c d : Bool) (rest : List (Bool × Refusal)) (why : Refusal) → Some why ≡ first_cause ((a, Range) ∷ (b, Closed) ∷ (c, NotHeld) ∷ (d, Range) ∷ []) →
    (first_cause ((a, Range) ∷ (b, Closed) ∷ (c, NotHeld) ∷ (d, Range) ∷ rest) ≡ Some why) × (why ≢ NoRoom)
barred true b c d rest why e = (sym e, λ room. let odd : Range ≡ NoRoom = named why Range e ∙ room in absurd cc)
barred false true c d rest why e = (sym e, λ room. let odd : Closed ≡ NoRoom = named why Closed e ∙ room in absurd cc)
barred false false true d rest why e = (sym e, λ room. let odd : NotHeld ≡ NoRoom = named why NotHeld e ∙ room in absurd cc)
barred false false false true rest why e = (sym e, λ room. let odd : Range ≡ NoRoom = named why Range e ∙ room in absurd cc)
barred false false false false rest why e = absurd cc

leaves_all : (now : Moment) (m p : ℕ) (how : Use) (why : Refusal) → why ≢ NoRoom → refused_effect now (Mutator m (On p how)) why ≡ now
leaves_all now m p how NoRoom other = absurd (other refl)
leaves_all now m p how why other = refl

nothing_made : (old : EvacOf Plain FarSide) (c : Command) (why : Refusal) → refusal (moment_in old) c ≡ Some why → refused_effect (moment_in old) c why ≡ moment_in old → Makes old c (Refused why) old
nothing_made old c why cause leaves =
    let now : Moment = moment_in old in
    made_served old old c (Refused why) (sym leaves ∙ ap (λ o. unless o (refused_effect now c) (turn_effect now c)) (sym cause)) (ap (λ o. unless o Refused (turn_reply now c)) (sym cause)) (λ lie n few. few)
    (hold_still c (state_in old) (far_in old)) (refused_told now c (far_in old) why cause)

pub write_barred : (old : EvacOf Plain FarSide) (m p from : ℕ) (bytes : List ℕ) (why : Refusal) → Some why ≡ first_cause (access_causes (moment_in old) m p from (length bytes)) → Makes old (Mutator m (On p (Writes from bytes))) (Refused why) old
write_barred old m p from bytes why e =
    let x = barred _ _ _ _ ((has_no_room (state_in old) m p, NoRoom) ∷ []) why e in
    nothing_made old (Mutator m (On p (Writes from bytes))) why x.0 (leaves_all (moment_in old) m p (Writes from bytes) why x.1)

pub read_barred : (old : EvacOf Plain FarSide) (m p from len : ℕ) (why : Refusal) → Some why ≡ first_cause (access_causes (moment_in old) m p from len) → Makes old (Mutator m (On p (Reads from len))) (Refused why) old
read_barred old m p from len why e =
    let x = barred _ _ _ _ ((has_no_room (state_in old) m p, NoRoom) ∷ []) why e in
    nothing_made old (Mutator m (On p (Reads from len))) why x.0 (leaves_all (moment_in old) m p (Reads from len) why x.1)
