-- How far a step of the evacuator has come that is refused in its midst.
use Rattle.std.proofs.Common.{◌≡◌, ◌≢◌, ℕ, ◌<◌, Bool, true, false, cond, not, arith, Option, Some, None, List, [], ◌∷◌, ap, sym, refl, ◌∙◌, subst}
use Rattle.far_word.specs.declared.refused.Refused.{Refused as Refusal}
use Rattle.far_word.specs.declared.refused.Refused.TheVariants.{Phase as WrongPhase}
use Rattle.far_events.specs.state.Law.{Law}
use Rattle.far_book.proofs.region.Owns.{own_law}
use Rattle.far_evac.specs.AnyHand.{KnowsMoment}
use Rattle.far_evac.specs.AnyTurns.{StopsRound as StopsSo, TurnsMade, sum_of}
use Rattle.far_evac.specs.Choosing.{after_selecting}
use Rattle.far_evac.specs.Leading.{Leads}
use Rattle.far_evac.specs.Moment.{Tally, plus, progress_of, tally_of}
use Rattle.far_evac.specs.MomentLaw.{MomentLaw}
use Rattle.far_evac.specs.Turns.{Turned, round_end, turn_size, turns_made}
use Rattle.far_evac.specs.Walk.{is_done, walked}
use Rattle.far_evac.specs.declared.answers.Progress.{Progress}
use Rattle.far_evac.specs.declared.answers.RoundEnd.{RoundEnd}
use Rattle.far_evac.specs.declared.answers.RoundEnd.TheVariants as ends
use Rattle.far_evac.specs.declared.phase.Phase.{Phase}
use Rattle.far_evac.specs.declared.phase.Phase.TheVariants.{Evacuating, Idle}
use Rattle.far_evac.proofs.Leading.{selecting}
use Rattle.far_evac.proofs.LeadingTurns.{turns_lead}
use Rattle.far_evac.proofs.BesideKept.{alone_so}
use Rattle.far_evac.proofs.Rounds.{turns_are}
use Rattle.far_evac.proofs.TurnSteps.{turns_alone}
use Rattle.far_evac.proofs.Walks.{moment_same, walk_is}
use Rattle.far_text.specs.Command.{Command, Evacuator, Evacuate, Policy, Round}
use Rattle.far_replay.specs.Answers.{Served}
use Rattle.far_replay.specs.Moment.{Moment}
use Rattle.far_reply.specs.Reply.{Reply, Ended, Evacuated, Refused}
use Rattle.far_replay.specs.Rounds.{after_round, chosen_by, is_evacuating, round_told, rows_in}
use Rattle.far_replay.specs.Turn.{refusal, refused_effect, turn_effect, turn_reply, unless}
use Rattle.far_replay.proofs.RoundChoices.{policy_chooses}
use Rattle.far_replay.proofs.RoundLeads.{begins, evacuating_is, made_leads, none_first}

-- a reply that is no refusal tells that there was none
told_by : (o : Option Refusal) (x q : Reply) → ((why : Refusal) → q ≢ Refused why) → q ≡ unless o Refused x → (o ≡ None) × (q ≡ x)
told_by None x q none e = (refl, e)
told_by (Some why) x q none e = absurd (none why e)

evacuated_no : (progress : Progress) (why : Refusal) → Evacuated progress ≢ Refused why
evacuated_no progress why e = cc

ended_no : (end : RoundEnd) (why : Refusal) → Ended end ≢ Refused why
ended_no end why e = cc

pub same_progress : (p q : Progress) → Evacuated p ≡ Evacuated q → p ≡ q
same_progress p q e = cc

same_end : (p q : RoundEnd) → Ended p ≡ Ended q → p ≡ q
same_end p q e = cc

-- ---- objects of which fewer have left than were asked for
pub record LeftSome (now : Moment) (objects : ℕ) (progress : Progress) (next : Moment) : Type 0 where
  pub may : refusal now (Evacuator (Evacuate objects)) ≡ None
  pub leaves : now.phase ≡ Evacuating
  pub told : progress ≡ progress_of (walked now objects).tally (is_done (walked now objects))
  pub goes : is_done (walked now objects) ≡ false
  pub stands : next ≡ (walked now objects).moment

pub left_some : (now : Moment) (objects : ℕ) (progress : Progress) (next : Moment) → Served now (Evacuator (Evacuate objects)) (Evacuated progress) next → progress.done ≡ false → LeftSome now objects progress next
left_some now objects progress next h unfinished =
    let c : Command = Evacuator (Evacuate objects) in
    let w = walked now objects in
    let both = told_by (refusal now c) (turn_reply now c) (Evacuated progress) (evacuated_no progress) h.reply in
    let told : progress ≡ progress_of w.tally (is_done w) = same_progress progress (progress_of w.tally (is_done w)) both.1 in
    let goes : is_done w ≡ false = sym (ap (λ (p : Progress). p.done) told) ∙ unfinished in
    record {
      may = both.0;
      leaves = evacuating_is now.phase (none_first (not (is_evacuating now.phase)) WrongPhase [] both.0).0;
      told = told;
      goes = goes;
      stands = h.moment ∙ ap (λ o. unless o (refused_effect now c) (turn_effect now c)) both.0 ∙ ap (λ b. cond b (record w.moment { phase = Idle }) w.moment) goes;
    }

-- ---- turns, after which objects leave
pub record Stood (now : Moment) (policy : Policy) (most turns : ℕ) (stood : Moment) : Type 0 where
  pub may : refusal now (Evacuator (Round policy most turns)) ≡ None
  pub log : ℕ
  pub logs : List ℕ
  pub chosen : chosen_by policy (rows_in now) most ≡ log ∷ logs
  pub goes : (turns_made (after_selecting now (log ∷ logs)) turns).over ≡ false
  pub leaves : (turns_made (after_selecting now (log ∷ logs)) turns).moment.phase ≡ Evacuating
  pub stands : stood ≡ (turns_made (after_selecting now (log ∷ logs)) turns).moment

limit_of : (r : Turned) (phase : Phase) → ends.Limit phase ≡ round_end r → (r.over ≡ false) × (r.moment.phase ≡ phase)
limit_of r phase e = by_over r.over refl where
  phases_alike : (a b : Phase) → ends.Limit a ≡ ends.Limit b → b ≡ a
  phases_alike a b e = cc

  by_over : (b : Bool) → r.over ≡ b → (r.over ≡ false) × (r.moment.phase ≡ phase)
  by_over true is = let odd : ends.Limit phase ≡ ends.Done (progress_of r.tally true) = e ∙ ap (λ b. cond b (ends.Done (progress_of r.tally true)) (ends.Limit r.moment.phase)) is in absurd cc
  by_over false is = (is, phases_alike phase r.moment.phase (e ∙ ap (λ b. cond b (ends.Done (progress_of r.tally true)) (ends.Limit r.moment.phase)) is))

pub stood_so : (now : Moment) (policy : Policy) (most turns : ℕ) (stood : Moment) → Served now (Evacuator (Round policy most turns)) (Ended (ends.Limit Evacuating)) stood → Stood now policy most turns stood
stood_so now policy most turns stood h =
    let c : Command = Evacuator (Round policy most turns) in
    let logs = chosen_by policy (rows_in now) most in
    let both = told_by (refusal now c) (turn_reply now c) (Ended (ends.Limit Evacuating)) (ended_no (ends.Limit Evacuating)) h.reply in
    by_logs logs refl both.0 (same_end (ends.Limit Evacuating) (round_told now logs turns) both.1) (h.moment ∙ ap (λ o. unless o (refused_effect now c) (turn_effect now c)) both.0)
  where
    by_logs : (logs : List ℕ) → chosen_by policy (rows_in now) most ≡ logs → refusal now (Evacuator (Round policy most turns)) ≡ None →
        ends.Limit Evacuating ≡ round_told now logs turns → stood ≡ after_round now logs turns → Stood now policy most turns stood
    by_logs [] is may end at = absurd cc
    by_logs (l ∷ ls) is may end at =
        let h = limit_of (turns_made (after_selecting now (l ∷ ls)) turns) Evacuating end in
        record { may = may; log = l; logs = ls; chosen = is; goes = h.0; leaves = h.1; stands = at }

-- ---- a round that isn't refused begins
pub starts : (now : Moment) → Law now.core → MomentLaw now → now.copying ≡ false → (policy : Policy) (most turns : ℕ) → refusal now (Evacuator (Round policy most turns)) ≡ None → (logs : List ℕ) → chosen_by policy (rows_in now) most ≡ logs →
    Leads now (after_selecting now logs)
starts now law moment alone policy most turns may logs e =
    let fit = begins now [] may in
    let chosen = policy_chooses now policy most moment in
    subst (λ (xs : List ℕ). Leads now (after_selecting now xs)) e (selecting now (chosen_by policy (rows_in now) most) law moment fit.0.idle fit.0.left chosen.once chosen.of_order)

-- ---- a round that was stopped, as the evacuator tells it over any hand
module _ (now : Moment) (law : Law now.core) (moment : MomentLaw now) (alone : now.copying ≡ false) (policy : Policy) (most turns : ℕ) (stood : Moment) (h : Stood now policy most turns stood) where
  abbrev began : Moment
  began = after_selecting now (h.log ∷ h.logs)

  pub begun : Leads now began
  begun = starts now law moment alone policy most turns h.may (h.log ∷ h.logs) h.chosen

  pub turns_led : Leads began stood
  turns_led = subst (λ (x : Moment). Leads began x) (sym h.stands) (turns_lead began turns begun.law begun.moment alone refl)

  pub stopped_so : (count objects : ℕ) (progress : Progress) (next : Moment) → turns < count → objects < turn_size → LeftSome stood objects progress next →
      StopsSo now (h.log ∷ h.logs) count (progress_of (plus (turns_made began turns).tally (tally_of progress)) false) next
  stopped_so count objects progress next few within left =
      let made = turns_are began begun.law begun.moment alone refl turns in
      let walk = walk_is stood objects in
      let w = walked stood objects in
      let lawful = turns_led in (
        made.tallies,
        stood,
        w.tally,
        subst (λ (x : Moment). TurnsMade began made.tallies false x) (sym h.stands) (subst (λ b. TurnsMade began made.tallies b (turns_made began turns).moment) h.goes made.made),
        omega (arith, made.most, few),
        ap (λ (x : Moment). x.phase) h.stands ∙ h.leaves,
        alone_so (ap (λ (x : Moment). x.copying) h.stands ∙ turns_alone began alone made.tallies (turns_made began turns).over (turns_made began turns).moment made.made)
            (walk.0, w, walk.1.walks, omega (arith, walk.1.most, within), left.goes, subst (KnowsMoment w.moment) (sym left.stands) (moment_same w.moment), refl),
        ap (λ (t : Tally). progress_of (plus t (tally_of progress)) false) (sym made.sum) ∙ ap (λ (p : Progress). progress_of (plus (sum_of made.tallies) (tally_of p)) false) left.told,
        (own_law stood.core lawful.law, lawful.moment),
      )

pub left_led : (now : Moment) → Law now.core → MomentLaw now → now.copying ≡ false → (objects : ℕ) (progress : Progress) (next : Moment) → LeftSome now objects progress next → Leads now next
left_led now law moment alone objects progress next h =
    let w = walked now objects in
    subst (λ (x : Moment). Leads now x) (ap (λ b. cond b (record w.moment { phase = Idle }) w.moment) h.goes ∙ sym h.stands) (made_leads now law moment alone (Evacuate objects) h.may)
