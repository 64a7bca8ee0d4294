-- What the evacuator's steps tell, and their refusals, are told in full by their lines.
use Rattle.std.proofs.Common.{◌≡◌, ℕ, ◌+◌, ◌<◌, ◌≤◌, ◌^◌, Bool, true, false, refl, sym, subst, ap, ◌∙◌, arith, not, Option, Some, None, List, [], ◌∷◌, length, filter, eqb}
use Rattle.std.specs.List.{find, range_with_len}
use Rattle.std.proofs.Math.Nat.{min-le_right}
use Rattle.std.proofs.lemmas.Bool.{cond_both, eq-eqb}
use Rattle.std.proofs.lemmas.List.{length-take}
use Rattle.std.proofs.lemmas.List.Sums.{length-filter, count_by-le-length}
use Rattle.hex.specs.Hex.{IsBytes}
use Rattle.far_word.specs.declared.refused.Refused.TheVariants.{Phase as WrongPhase}
use Rattle.far_word.specs.Pointer.{read_of}
use Rattle.far_events.specs.state.Law.{Law}
use Rattle.far_book.proofs.region.Owns.{own_law}
use Rattle.far_book.specs.book.Dealing.{has_evac}
use Rattle.far_evac.specs.declared.answers.Polled.{Polled}
use Rattle.far_evac.specs.declared.answers.Polled.TheVariants as polls
use Rattle.far_evac.specs.declared.answers.Progress.{Progress}
use Rattle.far_evac.specs.declared.answers.RoundEnd.TheVariants as ends
use Rattle.far_evac.specs.AnyHand.{Polls}
use Rattle.far_evac.specs.Choosing.{after_selecting}
use Rattle.far_evac.specs.Leading.{Leads}
use Rattle.far_evac.specs.Live.{lacking, live_among}
use Rattle.far_evac.specs.Marking.{leaves_some, newly_marked, waiting_for}
use Rattle.far_evac.specs.Moment.{Moment, Tally, nothing, plus, progress_of, tally_of}
use Rattle.far_evac.specs.MomentLaw.{MomentLaw, has_risen, is_idle}
use Rattle.far_evac.specs.RoundSteps.{among}
use Rattle.far_evac.specs.Turning.{GoesOn, IsBounded, IsWithin}
use Rattle.far_evac.specs.Turns.{Turned, round_end, turned, turns_made}
use Rattle.far_evac.specs.Waiting.{after_polling, polled}
use Rattle.far_evac.specs.Walk.{is_done, walked}
use Rattle.far_evac.proofs.Bools.{or_left, or_right}
use Rattle.far_evac.proofs.Bounds.{starts_within, turn_goes_on, walk_bounded}
use Rattle.far_evac.proofs.LeadingTurns.{through_turns, turn_leads}
use Rattle.far_evac.proofs.Readiness.{risen_is_ready}
use Rattle.far_evac.proofs.Rounds.{polls_is, turn_is_allowed}
use Rattle.far_evac.proofs.Walks.{walk_is}
use Rattle.far_policy.specs.Scripted.{is_bad, judged}
use Rattle.far_text.specs.Command.{By, Script, Policy, Step, Select, Mark, Wait, Evacuate, Round, Evacuator}
use Rattle.far_text.specs.Written.{ChoosesFew}
use Rattle.far_replay_laws.specs.Headline.{IsToldInFull, IsRefusalToldInFull, IsWaitToldInFull, AreToldAsNumbers, IsProgressToldInFull, IsEndToldInFull}
use Rattle.far_replay.specs.Rounds.{choice_causes, chosen_by, given_by, is_evacuating, logs_given, round_told, rows_in, step_causes, step_reply, wait_causes}
use Rattle.far_replay.specs.Turn.{refusal}
use Rattle.far_replay_laws.proofs.Refusals.{EachCause}
use Rattle.far_replay_laws.proofs.Stops.{LeftSome, Stood, begun, starts, turns_led}
use Rattle.far_replay.proofs.RoundChoices.{Chooses}
use Rattle.far_replay.proofs.RoundLeads.{begins, chooses, evacuating_is, none_first}
use Rattle.far_replay_laws.proofs.StepsTell.{sealed_used}

pub filter_shorter : (f : ℕ → Bool) (xs : List ℕ) → length (filter f xs) ≤ length xs
filter_shorter f xs = omega (arith, length-filter f xs, count_by-le-length f xs)

-- a tally is small
plain_tally : (tally : Tally) (done : Bool) → IsBounded tally → IsProgressToldInFull (progress_of tally done)
plain_tally tally done h = record { moved = omega (arith, h.objects); far = omega (arith, h.objects); dropped = omega (arith, h.objects); freed = omega (arith, h.logs) }

-- counted after nothing, it is the same
bounded_alone : (tally : Tally) → IsBounded (plus nothing tally) → IsBounded tally
bounded_alone tally h = record { objects = omega (arith, h.objects); logs = omega (arith, h.logs) }

-- ---- logs
told_logs : (logs : List ℕ) → ((l : ℕ) → among logs l ≡ true → l < 2 ^ 64) → AreToldAsNumbers logs
told_logs [] h = tt
told_logs (l ∷ ls) h = (h l (or_left (eqb l l) (among ls l) (eq-eqb l l refl)), told_logs ls (λ k there. h k (or_right (eqb k l) (among ls k) there)))

-- ---- refusals
-- a script's logs are bytes
plain_judged : (logs : List ℕ) (o : Option ℕ) → IsBytes logs → EachCause IsRefusalToldInFull (choice_causes (judged logs o))
plain_judged logs None bytes = tt
plain_judged logs (Some k) bytes = (omega (arith, bytes k), tt)

module _ (now : Moment) (law : Law now.core) where
  plain_wait : (o : Polled) → Polls now (after_polling now) o → EachCause IsRefusalToldInFull (wait_causes o)
  plain_wait polls.Clear h = tt
  plain_wait (polls.StillOpen k epoch) h = ((omega (arith, h.owner, law.shape.few_mutators), omega (arith, h.older, law.rounds.own_epoch, law.scopes.epoch_below)), tt)

  pub plain_step_causes : (step : Step) → ChoosesFew step → EachCause IsRefusalToldInFull (step_causes now step)
  plain_step_causes (Select (By policy) most) bytes = (tt, (tt, tt))
  plain_step_causes (Select (Script logs) most) bytes = (tt, (tt, plain_judged logs (find (is_bad (rows_in now) most logs) (range_with_len 0 (length logs))) bytes.0))
  plain_step_causes Wait bytes = (tt, plain_wait (polled now.core) (polls_is now))
  plain_step_causes (Round policy most turns) bytes = (tt, (tt, tt))
  plain_step_causes _ bytes = (tt, tt)

-- ---- rounds: no sum of turns is too large
turns_go_on : (m : Moment) → Law m.core → MomentLaw m → m.copying ≡ false → is_idle m.phase ≡ false → (n : ℕ) → let r = turns_made m n in GoesOn r.moment r.tally r.over
turns_go_on m law moment alone runs = through_turns (λ n r. GoesOn r.moment r.tally r.over) m law moment alone runs
    record { bounded = record { objects = omega arith; logs = omega arith }; more = λ _. (starts_within m (own_law m.core law) moment, runs) } (λ n r over h. h)
    (λ n r law moment alone goes h.
    let t = turned r r.moment.phase in
    let leads = turn_leads r law moment alone r.moment.phase refl in
    let (within, on) = h.more goes in
    let (tally, turn, sum) = turn_is_allowed r alone goes on in
    subst (λ total. GoesOn t.moment total t.over) (sym sum) (turn_goes_on r.moment t.moment (own_law r.moment.core law) moment (own_law t.moment.core leads.law) leads.moment alone r.tally tally t.over within turn))

plain_end : (r : Turned) → IsBounded r.tally → IsEndToldInFull (round_end r)
plain_end r few = cond_both r.over (ends.Done (progress_of r.tally true)) (ends.Limit r.moment.phase) IsEndToldInFull (λ _. (plain_tally r.tally true few, refl)) (λ _. tt)

plain_round : (now : Moment) (logs : List ℕ) (turns : ℕ) → now.copying ≡ false → Leads now (after_selecting now logs) → IsEndToldInFull (round_told now logs turns)
plain_round now [] turns alone begun = tt
plain_round now (l ∷ ls) turns alone begun =
    let m = after_selecting now (l ∷ ls) in
    plain_end (turns_made m turns) (turns_go_on m begun.law begun.moment (begun.copying ∙ alone) refl turns).bounded

-- ---- a round that was stopped: its turns, and what was done in the last one
pub plain_stop : (now : Moment) → Law now.core → MomentLaw now → now.copying ≡ false → (policy : Policy) (most turns : ℕ) (stood : Moment) (h : Stood now policy most turns stood) (objects : ℕ) (progress : Progress) (next : Moment) → LeftSome stood objects progress next →
    IsProgressToldInFull (progress_of (plus (turns_made (after_selecting now (chosen_by policy (rows_in now) most)) turns).tally (tally_of progress)) false)
plain_stop now law moment alone policy most turns stood h objects progress next left =
    let m = after_selecting now (h.log ∷ h.logs) in
    let r = turns_made m turns in
    let led = turns_led now law moment alone policy most turns stood h in
    let on = turns_go_on m (begun now law moment alone policy most turns stood h).law (begun now law moment alone policy most turns stood h).moment alone refl turns in
    let walks = walk_is stood objects in
    let within : IsWithin stood r.tally = subst (λ (x : Moment). IsWithin x r.tally) (sym h.stands) (on.more h.goes).0 in
    let ready = risen_is_ready stood (own_law stood.core led.law) led.moment (ap has_risen left.leaves) in
    let bounded = walk_bounded stood r.tally within ready walks.0 (walked stood objects) walks.1.walks in
    subst (λ (xs : List ℕ). IsProgressToldInFull (progress_of (plus (turns_made (after_selecting now xs) turns).tally (tally_of progress)) false)) (sym h.chosen)
    (subst (λ (p : Progress). IsProgressToldInFull (progress_of (plus r.tally (tally_of p)) false)) (sym left.told) (plain_tally (plus r.tally (walked stood objects).tally) false bounded))

-- ---- steps
module _ (now : Moment) (law : Law now.core) (moment : MomentLaw now) (alone : now.copying ≡ false) where
  log_small : (l : ℕ) → among now.order l ≡ true → l < 2 ^ 64
  log_small l there = omega (arith, law.logs.log_range l (sealed_used (now.core.kind l) (sym (moment.order l) ∙ there)), law.shape.few_logs)

  within : IsWithin now nothing
  within = starts_within now (own_law now.core law) moment

  plain_chosen : (logs : List ℕ) → Chooses now logs → AreToldAsNumbers logs
  plain_chosen logs chosen = told_logs logs (λ l there. log_small l (chosen.of_order l there))

  few_marked : (count : ℕ) → length (newly_marked now count) < 2 ^ 64
  few_marked count =
      let all = filter_shorter (λ p. not (has_evac (read_of (now.core.cell p)))) (live_among now.core now.collection) in
      let some : length (newly_marked now count) ≤ length (lacking now.core now.collection) = subst (λ n. n ≤ length (lacking now.core now.collection)) (sym (length-take count (lacking now.core now.collection))) (min-le_right _ _) in
      omega (arith, all, some, within.objects)

  plain_waiting : (count : ℕ) → IsWaitToldInFull (waiting_for now count)
  plain_waiting count = cond_both (leaves_some now count) None (Some (now.core.epoch + 1)) IsWaitToldInFull (λ _. tt) (λ _. omega (arith, law.scopes.epoch_below))

  pub plain_step : (step : Step) → refusal now (Evacuator step) ≡ None → IsToldInFull (step_reply now step)
  plain_step (Select choice most) e =
      let given = given_by choice (rows_in now) most in
      let may = begins now (choice_causes given) e in
      plain_chosen (logs_given given) (chooses now given choice most moment refl may.1)
  plain_step (Mark count) e = (few_marked count, plain_waiting count)
  plain_step (Evacuate count) e =
      let w = walked now count in
      let walks = walk_is now count in
      let leaves = evacuating_is now.phase (none_first (not (is_evacuating now.phase)) WrongPhase [] e).0 in
      let ready = risen_is_ready now (own_law now.core law) moment (ap has_risen leaves) in
      plain_tally w.tally (is_done w) (bounded_alone w.tally (walk_bounded now nothing within ready walks.0 w walks.1.walks))
  plain_step (Round policy most turns) e =
      let logs = chosen_by policy (rows_in now) most in
      plain_round now logs turns alone (starts now law moment alone policy most turns e logs refl)
  plain_step _ e = tt
