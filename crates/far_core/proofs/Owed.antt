-- What each event owes.
use Rattle.std.proofs.Common.{◌≡◌, ◌≢◌, ℕ, true}
use Rattle.far_events.specs.declared.event.Event.{Event}
use Rattle.far_events.specs.declared.event.Reply.{Reply}
use Rattle.far_events.specs.declared.event.Reply.TheVariants.{Refused, Done, Epoch, Word, Held}
use Rattle.far_word.specs.declared.pointer.Place.{Place}
use Rattle.far_core.specs.world.Happens.{Happens}
use Rattle.far_events.specs.state.Law.{Law}
use Rattle.far_core.specs.laws.Leaves.{PartBy, WordBy}
use Rattle.far_events.specs.events.Legal.{Legal}
use Rattle.far_events.specs.state.State.{State}
use Rattle.far_events.specs.events.Step.{is_legal, after, answer, touches, change_of, Fits}
use Rattle.far_events.specs.events.Touch.{Touches}
use Rattle.far_events.specs.events.Reports.{Reports}
use Rattle.far_core.specs.laws.Worlds.{Caused}
use Rattle.far_core.specs.world.WorldOf.{world_of}

pub record Owed (e : Event) : Type 0 where
  pub fact : (s : State) → Law s → is_legal s e ≡ true → Legal s e
  pub test : (s : State) → Legal s e → is_legal s e ≡ true
  pub keeps : (s : State) → Law s → Fits e → Legal s e → Law (after s e)
  pub does : (s : State) → Law s → Fits e → Legal s e → Happens (world_of s) e (answer s e) (world_of (after s e))
  pub within : (s : State) → Touches s (touches s e) (after s e)
  pub part : (s : State) → is_legal s e ≡ true → PartBy e (touches s e).part
  pub word : (s : State) → is_legal s e ≡ true → WordBy s e (touches s e).word
  pub reports : (s : State) → Law s → Legal s e → Reports s e (answer s e) (after s e)
  pub silent : (s t : State) → ¬ Reports s e Refused t
  pub answers : (s : State) → answer s e ≢ Refused
  pub causes : (r : Reply) → Caused e (change_of e r)

-- what holds of each reply
pub replies : (P : Reply → Type 0) → P Refused → P Done → ((n : ℕ) → P (Epoch n)) → ((x : ℕ) → P (Word x)) → ((place : Place) → P (Held place)) → (r : Reply) → P r
replies P a b c d e Refused = a
replies P a b c d e Done = b
replies P a b c d e (Epoch n) = c n
replies P a b c d e (Word x) = d x
replies P a b c d e (Held place) = e place
