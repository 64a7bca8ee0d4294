-- What giving back means: a log that is counted as given back is free then, and has no bytes, live or dead.
use Rattle.std.specs.Prelude.{◌≡◌, ℕ, ◌+◌, zero, false, take, drop}
use Rattle.std.specs.List.{AllByRecursion}
use Rattle.far_events.specs.declared.event.Kind.TheVariants.{Free}
use Rattle.far_core.specs.laws.Observed.{dead_bytes, live_bytes}
use Rattle.far_events.specs.state.State.{State}
use Rattle.far_evac.specs.AnyHand.{DealsFirst, WalksTo}
use Rattle.far_evac.specs.Moment.{Moment}
use Rattle.far_evac.specs.Walk.{Walked, begun}

pub record IsEmptied (s : State) (l : ℕ) : Type 0 where
  pub free : s.kind l ≡ Free
  pub tail : s.tail l ≡ 0
  pub live : live_bytes s l ≡ 0
  pub dead : dead_bytes s l ≡ 0
  pub round : s.round l ≡ false

-- from u to t as many logs as are counted, in front of the collection set, have left it, and each is emptied; no epoch is spent on them
pub record EmptiesLogs (u t : Walked) : Type 0 where
  pub count : ℕ
  pub counted : t.tally.freed ≡ u.tally.freed + count
  pub collection : t.moment.collection ≡ drop count u.moment.collection
  pub emptied : AllByRecursion (IsEmptied t.moment.core) (take count u.moment.collection)
  pub epoch : t.moment.core.epoch ≡ u.moment.core.epoch

-- where a walk begins, and with each object that is dealt with over any hand
pub record GivingBackEmpties (m : Moment) (u t : Walked) (word : ℕ) : Type 0 where
  pub first : WalksTo m zero t → EmptiesLogs (begun m) t
  pub each : DealsFirst false u word t → EmptiesLogs u t

abbrev pub LogsComeBackEmpty : Type 0
LogsComeBackEmpty = (m : Moment) (u t : Walked) (word : ℕ) → GivingBackEmpties m u t word
