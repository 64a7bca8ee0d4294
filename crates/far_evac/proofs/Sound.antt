-- What leaves true what is true of an evacuator.
use Rattle.std.proofs.Common.{◌≡◌, ℕ, Bool, List}
use Rattle.far_events.specs.events.Ranges.{after_events, stores}
use Rattle.far_events.specs.state.Law.{Law}
use Rattle.far_events.specs.state.State.{State}
use Rattle.far_hand.specs.Others.{OthersChange}
use Rattle.far_book.specs.book.Own.{own_part}
use Rattle.far_book.specs.book.SealedLogs.{KeepsSealed}
use Rattle.far_evac.specs.declared.round.Round.{Round}
use Rattle.far_evac.specs.AnyHand.{Knows}
use Rattle.far_evac.specs.Standing.{InRound, IsSound, collection_in}
use Rattle.far_evac.proofs.Framed.{framed}
use Rattle.far_evac.proofs.HeldJobs.{KeepsJobs, jobs_kept, jobs_more, knows_jobs, keeps_named, keeps_others, keeps_stored}
use Rattle.far_evac.proofs.Keeping.{round_called, round_found, round_of_owners, round_stored}

module _ {still : Type 0} (s t : State) {copying : Bool} (r : Round) (sound : IsSound still s copying r) where
  pub sound_kept : InRound t r → KeepsJobs s t → IsSound still t copying r
  sound_kept round keeps = record { round = round; jobs = jobs_kept s t copying keeps r.phase (collection_in r) sound.jobs; exact = sound.exact }

  -- marks were found alone
  pub sound_found : Knows s t → IsSound still t copying r
  sound_found known = sound_kept (round_found s t r sound.round known) (knows_jobs s t known)

  -- owners had a turn
  pub sound_of_owners : OthersChange s t → IsSound still t copying r
  sound_of_owners change = sound_kept (round_of_owners s t r sound.round change) (keeps_others s t change)

  -- words were stored
  pub sound_stored : (m p first : ℕ) (words : List ℕ) → t ≡ after_events s (stores m p first words) → IsSound still t copying r
  sound_stored m p first words is = sound_kept (round_stored s t r m p first words sound.round is) (keeps_stored s t m p first words is)

  -- one call of the book that makes this of a state, as far as it is known
  pub sound_called : (made : State) → Law (own_part s) → KeepsSealed s made → made ≡ framed s made → Knows made t → IsSound still t copying r
  sound_called made law keeps frame known =
      sound_kept (round_called s made t r sound.round keeps known) (jobs_more s made t (keeps_named s made law keeps frame) (knows_jobs made t known))
