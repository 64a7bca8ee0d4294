-- Where memory is refused, or the device fails, in the midst of a step, what stands is what a lesser step leaves, which isn't done.
use Rattle.std.proofs.Common.{◌≡◌, ◌≢◌, ◌⊎◌, inl, inr, ℕ, ◌<◌, zero, suc, Bool, true, false, cond, not, List, [], ◌∷◌, Option, Some, None, Result, Ok, Err, refl, sym, ap, subst, ◌∙◌}
use Rattle.std.specs.Prelude.{IfErr}
use Rattle.std.proofs.lemmas.Bool.{false≢true}
use Rattle.far_word.specs.declared.refused.Refused.{Refused as Refusal}
use Rattle.far_word.specs.declared.refused.Refused.TheVariants.{BadChoice, Device, Memory, Phase as WrongPhase, EpochsSpent}
use Rattle.far_word.specs.Pointer.{read_of}
use Rattle.far_events.specs.state.Law.{is_dirty}
use Rattle.far_device.specs.declared.fault.DeviceFault.{DeviceFault}
use Rattle.far_policy.specs.Choice.{IsBadChoice}
use Rattle.far_evac.specs.declared.answers.EvacFault.{EvacFault}
use Rattle.far_evac.specs.declared.answers.Progress.{Progress}
use Rattle.far_evac.specs.declared.answers.RoundEnd.{RoundEnd}
use Rattle.far_evac.specs.declared.answers.RoundEnd.TheVariants.{Done, Limit}
use Rattle.far_evac.specs.declared.phase.Phase.{Phase}
use Rattle.far_evac.specs.declared.phase.Phase.TheVariants.{Idle, Evacuating}
use Rattle.far_evac.specs.AnyHand.{StopsAt}
use Rattle.far_evac.specs.Asked.{IsRefusedWrite}
use Rattle.far_evac.specs.Choosing.{after_selecting, is_spent}
use Rattle.far_evac.specs.Moment.{Moment, Tally, nothing, plus, progress_of, tally_of}
use Rattle.far_evac.specs.MomentLaw.{is_idle}
use Rattle.far_evac.specs.Refusals.{unselectable}
use Rattle.far_evac.specs.Turns.{HaltsTurns, Turned, turned, turns_made}
use Rattle.far_evac.specs.Walk.{Walked, is_done, walked, way_of}
use Rattle.far_text.specs.Command.{Command, Evacuate, Evacuator, Policy, Round}
use Rattle.far_replay.specs.Commanded.{KeepsNear, Served, StopsAtWrite, StopsLeaving, StopsRound, StopsSo}
use Rattle.far_replay.specs.Outcome.{IsOutside}
use Rattle.far_reply.specs.Reply.{Ended, Evacuated, Halted, Refused}
use Rattle.far_replay.specs.Rounds.{after_round, chosen_by, is_evacuating, round_told, rows_in}
use Rattle.far_replay.specs.Turn.{refusal, refused_effect, turn_effect, turn_reply, unless, first_cause}

-- ---- an evacuation of fewer objects
-- where it stands isn't done, since the walk that stopped wasn't
still_open : (m t : Moment) (n : ℕ) (tally : Tally) → StopsAt m n t tally → (w : Walked) → t ≡ w.moment → is_done w ≡ false
still_open m t n tally (k, v, walks, before, unended, knows, counts) w is =
    let same : w.moment.collection ≡ v.moment.collection = ap (λ (x : Moment). x.collection) (sym is) ∙ ap (λ (x : Moment). x.collection) knows.rest in
    ap (λ held. is_done (record w { moment = record w.moment { collection = held } })) same ∙ unended

module _ (now : Moment) (phase : now.phase ≡ Evacuating) (k : ℕ) (undone : is_done (walked now k) ≡ false) where
  abbrev stops : Command
  stops = Evacuator (Evacuate k)

  abbrev so_far : Progress
  so_far = progress_of (walked now k).tally (is_done (walked now k))

  allowed : refusal now stops ≡ None
  allowed = ap (λ p. first_cause ((not (is_evacuating p), WrongPhase) ∷ [])) phase

  left : Served now stops (Evacuated so_far) (walked now k).moment
  left = record {
    reply = ap (λ o. unless o Refused (turn_reply now stops)) (sym allowed);
    moment = ap (λ b. cond b (record (walked now k).moment { phase = Idle }) (walked now k).moment) (sym undone) ∙ ap (λ o. unless o (refused_effect now stops) (turn_effect now stops)) (sym allowed);
  }

-- where a write was refused an object is to be written
pub to_write : (D : Type 0) (writes : D → ℕ → List ℕ → Result (Unit {0}) DeviceFault → D → Type 0) (lets_go : D → ℕ → D → Type 0) (m t : Moment) (tally : Tally) (why : Refusal) (d e : D) →
    IsRefusedWrite (Unit {0}) D writes lets_go m t tally why d e → StopsAtWrite t
to_write D writes lets_go m t tally why d e h =
    let same : t ≡ h.stood.moment = h.exact tt in
    subst StopsAtWrite (sym same) record {
      next = h.next;
      rest = h.rest;
      first = h.is;
      goes = ap (λ w. way_of h.stood.moment.core (read_of w)) (sym (h.owed.exact tt)) ∙ h.owed.goes;
      owed = ap (λ (x : Moment). is_dirty (read_of (x.core.cell h.next))) (sym same) ∙ h.owed.dirty;
    }

-- what is refused so leaves an object near
keeps_near : (why : Refusal) → IsOutside why → KeepsNear why
keeps_near why (inl memory) = subst KeepsNear (sym memory) tt
keeps_near why (inr failed) = subst KeepsNear (sym failed) tt

-- an evacuation of so many
pub leaving_stops : (why : Refusal) → KeepsNear why → (now t : Moment) (count : ℕ) (so_far : Progress) → now.phase ≡ Evacuating → StopsAt now count t (tally_of so_far) → StopsAtWrite t →
    (k : ℕ) × (k < count) × (t ≡ (walked now k).moment) × (so_far ≡ progress_of (walked now k).tally false) → StopsSo why now (Evacuator (Evacuate count)) (Halted why so_far) t
leaving_stops why keeps now t count so_far phase stops write (k, before, is, counts) =
    let undone : is_done (walked now k) ≡ false = still_open now t count (tally_of so_far) stops (walked now k) is in
    let made : StopsLeaving why k now count (Halted why so_far) t = record {
      cause = keeps;
      before = before;
      progress = progress_of (walked now k).tally (is_done (walked now k));
      left = subst (Served now (Evacuator (Evacuate k)) (Evacuated (progress_of (walked now k).tally (is_done (walked now k))))) (sym is) (left now phase k undone);
      unfinished = undone;
      at = write;
      reply = ap (Halted why) (counts ∙ ap (progress_of (walked now k).tally) (sym undone));
    } in
    (0, k, made)

phase_inside : ¬ IsOutside WrongPhase
phase_inside (inl e) = cc
phase_inside (inr e) = cc

pub evacuating_or : (p : Phase) → (p ≡ Evacuating) ⊎ (p ≢ Evacuating)
evacuating_or Evacuating = inl refl
evacuating_or _ = inr (λ e. cc)

pub evacuate_stops : (now t : Moment) (count : ℕ) (fault : EvacFault) → (now.phase ≢ Evacuating → fault.why ≡ WrongPhase) → (now.phase ≡ Evacuating → StopsAt now count t (tally_of fault.so_far)) → (now.phase ≡ Evacuating → StopsAtWrite t) →
    (now.phase ≡ Evacuating → (k : ℕ) × (k < count) × (t ≡ (walked now k).moment) × (fault.so_far ≡ progress_of (walked now k).tally false)) →
    IsOutside fault.why → StopsSo fault.why now (Evacuator (Evacuate count)) (Halted fault.why fault.so_far) t
evacuate_stops now t count fault barred stops write exact either = elim (evacuating_or now.phase) [
  | inl phase ↦ leaving_stops fault.why (keeps_near fault.why either) now t count fault.so_far phase (stops phase) (write phase) (exact phase)
  | inr other ↦ absurd (phase_inside (subst IsOutside (barred other) either))
]

-- one that isn't refused is in its phase
pub evacuate_allowed : (now : Moment) (count : ℕ) → now.phase ≡ Evacuating → refusal now (Evacuator (Evacuate count)) ≡ None
evacuate_allowed now count phase = ap (λ p. first_cause ((not (is_evacuating p), WrongPhase) ∷ [])) phase

-- one that is refused otherwise is out of its phase, and nothing has changed
not_evacuating : (p : Phase) → p ≢ Evacuating → is_evacuating p ≡ false
not_evacuating Evacuating other = absurd (other refl)
not_evacuating _ other = refl

pub evacuate_barred : (now t : Moment) (count : ℕ) (why : Refusal) → (now.phase ≢ Evacuating → (why ≡ WrongPhase) × (t ≡ now)) → (now.phase ≡ Evacuating → (why ≡ Memory) ⊎ (why ≡ Device)) → ¬ IsOutside why →
    Served now (Evacuator (Evacuate count)) (Refused why) t
evacuate_barred now t count why barred outside other = elim (evacuating_or now.phase) [
  | inl phase ↦ absurd (other (outside phase))
  | inr wrong ↦ (let (is, same) = barred wrong in
      subst (λ w. Served now (Evacuator (Evacuate count)) (Refused w) t) (sym is) record {
        reply = ap (λ b. unless (first_cause ((not b, WrongPhase) ∷ [])) Refused (turn_reply now (Evacuator (Evacuate count)))) (sym (not_evacuating now.phase wrong));
        moment = same ∙ ap (λ b. unless (first_cause ((not b, WrongPhase) ∷ [])) (refused_effect now (Evacuator (Evacuate count))) (turn_effect now (Evacuator (Evacuate count)))) (sym (not_evacuating now.phase wrong));
      })
]

-- ---- a round of fewer turns
abbrev barring : Bool → Bool → Option Refusal
barring idle spent = cond idle (cond spent (Some EpochsSpent) None) (Some WrongPhase)

unbarred : (idle spent : Bool) → barring idle spent ≡ None → (idle ≡ true) × (first_cause ((not idle, WrongPhase) ∷ (spent, EpochsSpent) ∷ []) ≡ None)
unbarred true false e = (refl, refl)
unbarred _ _ e = absurd cc

pub idle_is : (p : Phase) → is_idle p ≡ true → p ≡ Idle
idle_is Idle e = refl
idle_is _ e = absurd (false≢true e)

-- no turn is made where no round runs
idle_turns : (m : Moment) → m.phase ≡ Idle → (n : ℕ) → turns_made m n ≡ turns_made m 0
idle_turns m idle zero = refl
idle_turns m idle (suc n) =
    ap (λ (r : Turned). cond r.over r (turned r r.moment.phase)) (idle_turns m idle n) ∙ ap (turned (turns_made m 0)) idle

module _ (now t : Moment) (policy : Policy) (most turns : ℕ) (so_far : Progress) (why : Refusal) (keeps : KeepsNear why) (free : unselectable now ≡ None) (u : Moment) (many : ℕ) (counted : Tally) (stops : StopsAt u many t counted) (write : StopsAtWrite t) where
  abbrev stands : List ℕ → ℕ → Turned
  stands logs n = turns_made (after_selecting now logs) n

  phase_idle : now.phase ≡ Idle
  phase_idle = idle_is now.phase (unbarred (is_idle now.phase) (is_spent now.core) free).0

  turned_so : (logs : List ℕ) (n : ℕ) → (stands logs n).over ≡ false → (stands logs n).moment.phase ≡ Evacuating →
      (Ended (Limit Evacuating) ≡ Ended (round_told now logs n)) × ((stands logs n).moment ≡ after_round now logs n)
  turned_so [] n over phase =
      let odd : Idle ≡ Evacuating = sym phase_idle ∙ ap (λ (r : Turned). r.moment.phase) (sym (idle_turns now phase_idle n)) ∙ phase in absurd cc
  turned_so (l ∷ ls) n over phase =
      (ap (λ p. Ended (Limit p)) (sym phase) ∙ ap (λ b. Ended (cond b (Done (progress_of (stands (l ∷ ls) n).tally true)) (Limit (stands (l ∷ ls) n).moment.phase))) (sym over), refl)

  pub round_stops : (logs : List ℕ) → logs ≡ chosen_by policy (rows_in now) most → HaltsTurns (after_selecting now logs) turns so_far t → StopsSo why now (Evacuator (Round policy most turns)) (Halted why so_far) t
  round_stops logs is (n, tally, before, over, phase, (k, within, at, counts), sum) =
      let stood : Moment = (stands logs n).moment in
      let c : Command = Evacuator (Round policy most n) in
      let allowed : refusal now c ≡ None = (unbarred (is_idle now.phase) (is_spent now.core) free).1 in
      let undone : is_done (walked stood k) ≡ false = still_open u t many counted stops (walked stood k) at in
      let so = turned_so logs n over phase in
      let made : StopsRound why n k now policy most turns (Halted why so_far) t = record {
        cause = keeps;
        before = before;
        stood = stood;
        turned = record {
          reply = so.0 ∙ ap (λ ls. Ended (round_told now ls n)) is ∙ ap (λ o. unless o Refused (turn_reply now c)) (sym allowed);
          moment = so.1 ∙ ap (λ ls. after_round now ls n) is ∙ ap (λ o. unless o (refused_effect now c) (turn_effect now c)) (sym allowed);
        };
        within = within;
        progress = progress_of (walked stood k).tally (is_done (walked stood k));
        left = subst (Served stood (Evacuator (Evacuate k)) (Evacuated (progress_of (walked stood k).tally (is_done (walked stood k))))) (sym at) (left stood phase k undone);
        unfinished = undone;
        at = write;
        reply = ap (Halted why) (sum ∙ ap (λ (x : Tally). progress_of (plus (stands logs n).tally x) false) counts
            ∙ ap (λ ls. progress_of (plus (stands ls n).tally (walked stood k).tally) false) is);
      } in
      (n, k, made)

abbrev Alike : Result RoundEnd EvacFault → Result RoundEnd EvacFault → Type 0
Alike a b = a ≡ b

never_memory : (idle spent : Bool) → barring idle spent ≡ Some Memory → ⊥
never_memory true true e = cc
never_memory _ _ e = cc

never_device : (idle spent : Bool) → barring idle spent ≡ Some Device → ⊥
never_device true true e = cc
never_device _ _ e = cc

pub never_barred : (m : Moment) (why : Refusal) → unselectable m ≡ Some why → ¬ IsOutside why
never_barred m why e (inl memory) = never_memory (is_idle m.phase) (is_spent m.core) (e ∙ ap Some memory)
never_barred m why e (inr failed) = never_device (is_idle m.phase) (is_spent m.core) (e ∙ ap Some failed)

pub why_same : (a b : EvacFault) → Alike (Err a) (Err b) → a.why ≡ b.why
why_same a b e = cc

-- one that is refused before it began isn't refused from outside
pub never_first : (fault : EvacFault) → IsBadChoice fault.why → ¬ IsOutside fault.why
never_first fault bad (inl memory) = let odd : Memory ≡ BadChoice bad.0 = sym memory ∙ bad.1 in cc
never_first fault bad (inr failed) = let odd : Device ≡ BadChoice bad.0 = sym failed ∙ bad.1 in cc

-- somewhere it stopped, where it wasn't done and an object is to be written
abbrev pub StopsSomewhere : Moment → Type 0
StopsSomewhere t = (u : Moment) × (many : ℕ) × (counted : Tally) × StopsAt u many t counted × StopsAtWrite t

module _ (now t : Moment) (policy : Policy) (most turns : ℕ) (Gives : List ℕ → Type 0) (given : (logs : List ℕ) → Gives logs → logs ≡ chosen_by policy (rows_in now) most)
    (Asked : List ℕ → EvacFault → Type 0) (stands : (logs : List ℕ) (fault : EvacFault) → Asked logs fault → StopsSomewhere t) where
  -- it began, and stopped
  abbrev Broken : EvacFault → Type 0
  Broken fault = (logs : List ℕ) × Gives logs × ((fault.why ≡ Memory) ⊎ (fault.why ≡ Device)) × HaltsTurns (after_selecting now logs) turns fault.so_far t × Asked logs fault

  broken_stops : (fault : EvacFault) → unselectable now ≡ None → Broken fault → StopsSo fault.why now (Evacuator (Round policy most turns)) (Halted fault.why fault.so_far) t
  broken_stops fault free (logs, gives, why, halts, asked) =
      let (u, many, counted, stops, write) = stands logs fault asked in
      round_stops now t policy most turns fault.so_far fault.why (keeps_near fault.why why) free u many counted stops write logs (given logs gives) halts

  -- or not
  pub round_breaks : (First : EvacFault → Type 0) → ((fault : EvacFault) → First fault → ¬ IsOutside fault.why) → (r : Result RoundEnd EvacFault) →
      ((why : Refusal) → unselectable now ≡ Some why → r ≡ Err (record { so_far = progress_of nothing false; why = why })) →
      (unselectable now ≡ None → IfErr r (λ fault. First fault ⊎ Broken fault)) →
      IfErr r (λ fault. IsOutside fault.why → StopsSo fault.why now (Evacuator (Round policy most turns)) (Halted fault.why fault.so_far) t)
  round_breaks First never (Ok end) barred refused = tt
  round_breaks First never (Err fault) barred refused = λ either.
      elim (unselectable now) as (λ o. unselectable now ≡ o → StopsSo fault.why now (Evacuator (Round policy most turns)) (Halted fault.why fault.so_far) t) [
        | Some why ↦ λ is.
            let same : fault.why ≡ why = why_same fault (record { so_far = progress_of nothing false; why = why }) (barred why is) in
            absurd (never_barred now fault.why (is ∙ ap Some (sym same)) either)
        | None ↦ λ free. elim (refused free) [
          | inl first ↦ absurd (never fault first either)
          | inr broken ↦ broken_stops fault free broken
        ]
      ] refl
