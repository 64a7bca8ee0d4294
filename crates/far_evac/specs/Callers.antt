-- What callers do between two calls of a round: owners' events, and calls of the book that are none of the round's. They leave the round alone.
use Rattle.std.specs.Prelude.{◌≡◌, ◌≢◌, ◌⊎◌, ℕ, ◌<◌, ◌≤◌, true, false, Bool, Some}
use Rattle.far_word.specs.declared.pointer.Place.{Place}
use Rattle.far_word.specs.declared.sizes.TheConstants.{LONGEST}
use Rattle.far_word.specs.Pointer.{read_of}
use Rattle.far_word.specs.Sizes.{size_of}
use Rattle.far_events.specs.declared.event.Kind.TheVariants.{Sealed}
use Rattle.far_events.specs.events.Naming.{is_dropped}
use Rattle.far_events.specs.state.Law.{Law}
use Rattle.far_core.specs.state.Room.{room}
use Rattle.far_events.specs.state.State.{State}
use Rattle.far_hand.specs.Masked.{AllFindJobs}
use Rattle.far_hand.specs.Others.{OthersChange}
use Rattle.far_book.specs.book.Ages.{SealsBehind}
use Rattle.far_book.specs.book.Dealing.{goal, moved_now, order_moved}
use Rattle.far_hand.specs.Quiet.{IsQuietNear}
use Rattle.far_book.specs.book.Effects.{fetched, order_after, placed, retired}
use Rattle.far_book.specs.book.Fetching.{IsFar, room_for}
use Rattle.far_evac.specs.Moment.{Moment, with_core}
use Rattle.far_evac.specs.MomentLaw.{MomentLaw}
use Rattle.far_evac.specs.Strays.{NoneComes}

-- from s to t the round is left alone: its logs, its epoch and who was seen clear stay, and each sealed log stays sealed. Copiers may have gone on with jobs, and nobody has offered or emptied
-- one. Another log may have been opened; then the one that was open is sealed, and no third log has changed its kind
pub record StepsAside (s t : State) : Type 0 where
  pub mutators : t.mutators ≡ s.mutators
  pub logs : t.logs ≡ s.logs
  pub epoch : t.epoch ≡ s.epoch
  pub round : t.round ≡ s.round
  pub round_epoch : t.round_epoch ≡ s.round_epoch
  pub clear : t.clear ≡ s.clear
  pub jobs : AllFindJobs s.copying.word t.copying.word
  pub since : t.copying.since ≡ s.copying.since
  pub stay : (l : ℕ) → s.kind l ≡ Sealed → t.kind l ≡ Sealed
  pub others : (l : ℕ) → l ≢ s.current → l ≢ t.current → t.kind l ≡ s.kind l
  pub shut : t.current ≢ s.current → t.kind s.current ≡ Sealed

-- such a step keeps what is true between two calls; where copies may be offered, if nothing comes to lie in a log of the round
abbrev pub StepsKeep : Type 0
StepsKeep = (m : Moment) (t : State) → Law m.core → MomentLaw m → Law t → StepsAside m.core t → (m.copying ≡ true → NoneComes m.core t) → MomentLaw (with_core m t)

-- two such steps are one, unless both open another log
abbrev pub StepsJoin : Type 0
StepsJoin = (s t u : State) → StepsAside s t → StepsAside t u → (t.current ≡ s.current) ⊎ (u.current ≡ t.current) → StepsAside s u

-- ---- which steps are such
-- no log changes its kind, and the round and the jobs stay
abbrev pub StillStepsAside : Type 0
StillStepsAside = (s t : State) → t.mutators ≡ s.mutators → t.logs ≡ s.logs → t.epoch ≡ s.epoch → t.round ≡ s.round → t.round_epoch ≡ s.round_epoch → t.clear ≡ s.clear → t.copying ≡ s.copying →
    t.kind ≡ s.kind → t.current ≡ s.current → StepsAside s t

-- whatever owners do
abbrev pub OwnersStepAside : Type 0
OwnersStepAside = (s t : State) → OthersChange s t → StepsAside s t

-- a new object is placed where room is
abbrev pub PlacingStepsAside : Type 0
PlacingStepsAside = (s : State) (p len ds : ℕ) (place : Place) (reserve : Bool) → Law s → s.cell p ≡ 0 → 0 < len → len ≤ LONGEST → ds < 256 → room s (size_of len) reserve ≡ Some place →
    StepsAside s (placed s p len ds place)

-- a quiet near object moves, or stays
abbrev pub MovingStepsAside : Type 0
MovingStepsAside = (s : State) (p : ℕ) (place : Place) → Law s → IsQuietNear s p → is_dropped (read_of (s.cell p)) ≡ false → goal s p ≡ Some place → StepsAside s (moved_now s p place)

-- a far object comes near
abbrev pub FetchingStepsAside : Type 0
FetchingStepsAside = (s : State) (p : ℕ) (place : Place) (row : ℕ → ℕ) → Law s → IsFar s p → is_dropped (read_of (s.cell p)) ≡ false → room_for s p ≡ Some place → StepsAside s (fetched s p place row)

-- a dropped object is retired
abbrev pub RetiringStepsAside : Type 0
RetiringStepsAside = (s : State) (p : ℕ) → is_dropped (read_of (s.cell p)) ≡ true → StepsAside s (retired s p)

-- ---- the sealed logs after such steps, oldest first, as the book's calls keep them
-- after two steps they are as after one, unless both open another log
abbrev pub CoresJoin : Type 0
CoresJoin = (m : Moment) (t u : State) → (t.current ≡ m.core.current) ⊎ (u.current ≡ t.current) → with_core (with_core m t) u ≡ with_core m u

-- what was sealed in a step stands behind those that were sealed before, which stay in their order
abbrev pub CallersSealBehind : Type 0
CallersSealBehind = (m : Moment) (t : State) → Law m.core → Law t → StepsAside m.core t → SealsBehind m.core t m.order (with_core m t).order

abbrev pub StillOrder : Type 0
StillOrder = (m : Moment) (t : State) → t.current ≡ m.core.current → with_core m t ≡ record m { core = t }

abbrev pub PlacingOrder : Type 0
PlacingOrder = (m : Moment) (p len ds : ℕ) (place : Place) (reserve : Bool) → Law m.core → m.core.cell p ≡ 0 → 0 < len → len ≤ LONGEST → ds < 256 → room m.core (size_of len) reserve ≡ Some place →
    (with_core m (placed m.core p len ds place)).order ≡ order_after m.core m.order place

abbrev pub MovingOrder : Type 0
MovingOrder = (m : Moment) (p : ℕ) (place : Place) → Law m.core → IsQuietNear m.core p → is_dropped (read_of (m.core.cell p)) ≡ false → goal m.core p ≡ Some place →
    (with_core m (moved_now m.core p place)).order ≡ order_moved m.core p m.order place

abbrev pub FetchingOrder : Type 0
FetchingOrder = (m : Moment) (p : ℕ) (place : Place) (row : ℕ → ℕ) → Law m.core → IsFar m.core p → is_dropped (read_of (m.core.cell p)) ≡ false → room_for m.core p ≡ Some place →
    (with_core m (fetched m.core p place row)).order ≡ order_after m.core m.order place

abbrev pub RetiringOrder : Type 0
RetiringOrder = (m : Moment) (p : ℕ) → is_dropped (read_of (m.core.cell p)) ≡ true → (with_core m (retired m.core p)).order ≡ m.order
