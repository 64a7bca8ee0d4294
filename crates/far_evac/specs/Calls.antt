-- What calls of the evacuator promise that a heap hands on, each in one record. A record speaks of the evacuator before and after the call, of the call's arguments and of its answer,
-- over the relations of any hand, any device and any policy.
use Rattle.std.specs.Prelude.{◌≡◌, ◌≢◌, ◌⊎◌, ◌<◌, ℕ, Bool, false, Option, Some, None, List, map, Result, Ok, Err, IfOk, IfErr}
use Rattle.far_log.specs.declared.row.LogRow.{LogRow}
use Rattle.far_word.specs.declared.refused.Refused.{Refused}
use Rattle.far_word.specs.declared.refused.Refused.TheVariants as refusals
use Rattle.far_events.specs.declared.event.Event.{Event}
use Rattle.far_events.specs.declared.event.Reply.{Reply}
use Rattle.far_events.specs.state.State.{State}
use Rattle.far_device.specs.declared.fault.DeviceFault.{DeviceFault}
use Rattle.far_device.specs.Following.{Follows, none_of}
use Rattle.far_hand.specs.Came.{Came, only}
use Rattle.far_hand.specs.MayBe.{NoneViews}
use Rattle.far_policy.specs.Choice.{IsBadChoice, IsChoice}
use Rattle.far_book.specs.book.Rows.{row_of}
use Rattle.far_evac.specs.declared.answers.EvacFault.{EvacFault}
use Rattle.far_evac.specs.declared.answers.Marked.{Marked}
use Rattle.far_evac.specs.declared.answers.Polled.{Polled}
use Rattle.far_evac.specs.declared.answers.Polled.TheVariants.{Clear}
use Rattle.far_evac.specs.declared.answers.Progress.{Progress}
use Rattle.far_evac.specs.declared.census.Census.{Census}
use Rattle.far_evac.specs.declared.phase.Phase.TheVariants.{Evacuating, Idle, Marking, Waiting}
use Rattle.far_evac.specs.AnyHand.{Audits, MarksSome, Polls}
use Rattle.far_evac.specs.AnyTurns.{AsksInTurn, TurnsTo}
use Rattle.far_evac.specs.Asked.{asked_of}
use Rattle.far_evac.specs.ByCopying.{AsksBy, EvacuatesBy, GivesUpBy, RefusesBy, StopsBy, asked_live}
use Rattle.far_evac.specs.Census.{Sees}
use Rattle.far_evac.specs.Choosing.{after_aborting, after_selecting}
use Rattle.far_evac.specs.EvacOf.{EvacOf, moment}
use Rattle.far_evac.specs.Failing.{fails}
use Rattle.far_evac.specs.Listing.{ListsEach}
use Rattle.far_evac.specs.Marking.{after_marking}
use Rattle.far_evac.specs.Moment.{Tally, nothing, progress_of, tally_of}
use Rattle.far_evac.specs.MomentLaw.{is_idle}
use Rattle.far_evac.specs.Refusals.{unselectable}
use Rattle.far_evac.specs.RoundSteps.{among}
use Rattle.far_evac.specs.Turning.{IsBoundedBy, told_in}
use Rattle.far_evac.specs.Turns.{Halts, begun_turns, turn_size, turned}
use Rattle.far_evac.specs.Waiting.{Looks, SawOpen, after_polling, polled}
use Rattle.far_evac.specs.Walk.{ended, is_done, walked}

module _ {N D : Type 0} (still : Type 0) (view : N → State) (makes : N → Event → Reply → N → Type 0) where
  -- a policy was asked for logs, and a round of those that it named began
  pub record SelectsLogs {P : Type 0} (policy_gives : P → List LogRow → ℕ → Result (List ℕ) Refused → P → Type 0) (old new : EvacOf N D) (policy later : P) (most : ℕ) (result : Result (List ℕ) Refused) : Type 0 where
    -- the hand was called, and nothing else put in its place
    pub came : Came makes old.book.near new.book.near
    -- whether copies may be offered stays
    pub copying : new.copying ≡ old.copying
    pub begun : IfOk result (λ chosen. moment view new ≡ after_selecting (moment view old) chosen)
    pub book : IfOk result (λ _. new.book ≡ old.book)
    -- the policy was handed what each sealed log has, and its choice is one
    pub gives : IfOk result (λ chosen. policy_gives policy (map (row_of (view old.book.near)) old.book.order) most (Ok chosen) later)
    pub chosen : IfOk result (λ chosen. IsChoice (map (row_of (view old.book.near)) old.book.order) most chosen)
    pub device : new.book.device ≡ old.book.device
    -- refused: nothing has changed but the policy, and that only where it was asked
    pub unchanged : IfErr result (λ _. new ≡ old)
    pub barred : (why : Refused) → unselectable (moment view old) ≡ Some why → (result ≡ Err why) × (later ≡ policy)
    pub why : IfErr result (λ why. (unselectable (moment view old) ≡ Some why)
        ⊎ (IsBadChoice why × policy_gives policy (map (row_of (view old.book.near)) old.book.order) most (Err why) later))
    pub refused : IfErr result (λ why. unselectable (moment view old) ≡ None → policy_gives policy (map (row_of (view old.book.near)) old.book.order) most (Err why) later)

  -- the first n live objects of the chosen logs that lacked EVAC have it, or all
  pub record MarksObjects (old new : EvacOf N D) (n : ℕ) (result : Result Marked Refused) : Type 0 where
    pub came : Came makes old.book.near new.book.near
    pub copying : new.copying ≡ old.copying
    -- marks may have been found meanwhile; over a hand that is still none were
    pub marks : IfOk result (λ marked. MarksSome (moment view old) (moment view new) n marked.count marked.waiting)
    pub exact : still → IfOk result (λ _. moment view new ≡ after_marking (moment view old) n)
    pub device : new.book.device ≡ old.book.device
    -- refused exactly where the round isn't marking, and nothing has changed
    pub marking : IfOk result (λ _. old.phase ≡ Marking)
    pub refused : IfErr result (λ why. (why ≡ refusals.Phase) × (old.phase ≢ Marking))
    pub unchanged : IfErr result (λ _. new ≡ old)

  -- the scopes of owners who weren't seen clear were looked at
  pub record PollsOwners (may_be : N → State → Type 0) (old new : EvacOf N D) (result : Result Polled Refused) : Type 0 where
    pub came : Came makes old.book.near new.book.near
    pub copying : new.copying ≡ old.copying
    -- by looks alone
    pub looks : Came (only Looks makes) old.book.near new.book.near
    pub polls : IfOk result (λ answer. Polls (moment view old) (moment view new) answer)
    pub exact : still → IfOk result (λ answer. (moment view new ≡ after_polling (moment view old)) × (answer ≡ polled (view old.book.near)))
    -- where all are clear, nobody views anything in the chosen logs; else a scope was seen open
    pub unviewed : IfOk result (λ answer. answer ≡ Clear → (x : State) → may_be new.book.near x → NoneViews (among new.collection) x)
    pub saw : IfOk result (SawOpen (may_be new.book.near))
    pub device : new.book.device ≡ old.book.device
    -- refused exactly where the round isn't waiting, and nothing has changed
    pub waiting : IfOk result (λ _. old.phase ≡ Waiting)
    pub refused : IfErr result (λ why. (why ≡ refusals.Phase) × (old.phase ≢ Waiting))
    pub unchanged : IfErr result (λ _. new ≡ old)

  -- it was told where each undropped object is, and what each log is and has
  pub record TakesCensus (old new : EvacOf N D) (result : Result Census Refused) : Type 0 where
    pub came : Came makes old.book.near new.book.near
    pub copying : new.copying ≡ old.copying
    -- by looks at cells alone
    pub sees : Came (only Sees makes) old.book.near new.book.near
    -- marks may have been found meanwhile, and nothing else has changed; over a hand that is still nothing has
    pub lists : IfOk result (λ census. Audits (moment view old) (moment view new) census.homes.items census.logs.items)
    pub each : IfOk result (λ census. ListsEach (moment view new) census.homes.items census.logs.items)
    pub exact : still → moment view new ≡ moment view old
    pub device : new.book.device ≡ old.book.device
    -- a refusal is want of memory
    pub refused : IfErr result (λ why. why ≡ refusals.Memory)
    pub unchanged : IfErr result (λ _. new ≡ old)

  -- the round was given up: what lives in the collection set has lost EVAC
  pub record GivesRoundUp (old new : EvacOf N D) (result : Result (Unit {0}) Refused) : Type 0 where
    pub came : Came makes old.book.near new.book.near
    pub copying : new.copying ≡ old.copying
    pub gives_up : IfOk result (λ _. GivesUpBy (moment view old) (moment view new))
    pub exact : still → IfOk result (λ _. moment view new ≡ after_aborting (moment view old))
    pub device : new.book.device ≡ old.book.device
    -- refused exactly where no round is running, and nothing has changed
    pub running : IfOk result (λ _. old.phase ≢ Idle)
    pub refused : IfErr result (λ why. (why ≡ refusals.Phase) × (old.phase ≡ Idle))
    pub unchanged : IfErr result (λ _. new ≡ old)

  module _ (contents : D → ℕ → Option (List ℕ)) (is_honest : D → Bool) (faults : D → ℕ) (fails_at_most : D → ℕ → Type 0)
      (writes : D → ℕ → List ℕ → Result (Unit {0}) DeviceFault → D → Type 0) (lets_go : D → ℕ → D → Type 0) where
    -- the first n live objects of the collection set left, or all
    pub record DealsWithObjects (old new : EvacOf N D) (n : ℕ) (result : Result Progress EvacFault) : Type 0 where
      pub came : Came makes old.book.near new.book.near
      pub copying : new.copying ≡ old.copying
      -- each as a word says that was found in its cell; over a hand that is still, the word that was there
      pub walks : IfOk result (λ progress. EvacuatesBy (moment view old) n (moment view new) (tally_of progress) progress.done)
      pub exact : still → IfOk result (λ progress. (moment view new ≡ ended (walked (moment view old) n)) × (progress ≡ progress_of (walked (moment view old) n).tally (is_done (walked (moment view old) n))))
      -- the round is over exactly where the answer says so, and stands still at a refusal
      pub evacuating : IfOk result (λ _. old.phase ≡ Evacuating)
      pub goes_on : IfOk result (λ progress. is_idle new.phase ≡ progress.done)
      pub stays : IfErr result (λ _. new.phase ≡ old.phase)
      pub bounded : IsBoundedBy old.copying (told_in result)
      -- where objects don't leave now nothing is done
      pub barred : old.phase ≢ Evacuating → IfErr result (λ fault. (fault.why ≡ refusals.Phase) × (fault.so_far ≡ progress_of nothing false) × (new ≡ old))
      -- else a refusal is the device's, at an object that is as before; what was done before it stays
      pub stops : old.phase ≡ Evacuating → IfErr result (λ fault. StopsBy (moment view old) n (moment view new) (tally_of fault.so_far))
      pub stops_exact : still → old.phase ≡ Evacuating → IfErr result (λ fault. (k : ℕ) × (k < n)
          × (moment view new ≡ (walked (moment view old) k).moment) × (fault.so_far ≡ progress_of (walked (moment view old) k).tally false))
      pub why : old.phase ≡ Evacuating → IfErr result (λ fault. (fault.why ≡ refusals.Memory) ⊎ (fault.why ≡ refusals.Device))
      -- what the device was asked, and what that left of it
      pub asked : IfOk result (λ progress. AsksBy still D writes lets_go contents (moment view old) n (moment view new) (tally_of progress) old.book.device new.book.device)
      pub refused : old.phase ≡ Evacuating → IfErr result (λ fault. RefusesBy still D writes lets_go contents (moment view old) n (moment view new) (tally_of fault.so_far) fault.why old.book.device new.book.device)
      pub follows : Follows contents is_honest faults fails_at_most (none_of (asked_live (moment view old) (asked_of result))) (fails result) old.book.device new.book.device

    -- one step of the round was made, by its phase
    pub record MakesTurn (old new : EvacOf N D) (result : Result Progress EvacFault) : Type 0 where
      pub came : Came makes old.book.near new.book.near
      pub copying : new.copying ≡ old.copying
      pub turns : IfOk result (λ progress. TurnsTo (moment view old) old.phase (tally_of progress) progress.done (moment view new))
      pub exact : still → IfOk result (λ progress. turned (begun_turns (moment view old)) old.phase ≡ record { moment = moment view new; tally = tally_of progress; over = progress.done })
      -- the round is over exactly where the answer says so, and stands still at a refusal
      pub running : IfOk result (λ _. old.phase ≢ Idle)
      pub goes_on : IfOk result (λ progress. is_idle new.phase ≡ progress.done)
      pub stays : IfErr result (λ _. new.phase ≡ old.phase)
      pub bounded : IsBoundedBy old.copying (told_in result)
      -- where no round is running nothing is done
      pub barred : old.phase ≡ Idle → IfErr result (λ fault. (fault.why ≡ refusals.Phase) × (fault.so_far ≡ progress_of nothing false) × (new ≡ old))
      -- else a refusal is the device's, at an object that was to leave and is as before; what was done before it stays
      pub stops : old.phase ≢ Idle → IfErr result (λ fault. (old.phase ≡ Evacuating) × StopsBy (moment view old) turn_size (moment view new) (tally_of fault.so_far))
      pub halts : still → old.phase ≢ Idle → IfErr result (λ fault. (tally : Tally) × Halts (moment view old) turn_size (moment view new) tally × (fault.so_far ≡ progress_of tally false))
      pub why : old.phase ≢ Idle → IfErr result (λ fault. (fault.why ≡ refusals.Memory) ⊎ (fault.why ≡ refusals.Device))
      -- what the device was asked, and what that left of it
      pub asked : IfOk result (λ progress. AsksInTurn still D writes lets_go contents (moment view old) old.phase (moment view new) (tally_of progress) old.book.device new.book.device)
      pub refused : old.phase ≢ Idle → IfErr result (λ fault. RefusesBy still D writes lets_go contents (moment view old) turn_size (moment view new) (tally_of fault.so_far) fault.why old.book.device new.book.device)
      pub follows : Follows contents is_honest faults fails_at_most (none_of (asked_live (moment view old) (asked_of result))) (fails result) old.book.device new.book.device
