-- What a round means for objects and views; and in numerals, which logs a set has, and when a scope shows its owner clear.
use Rattle.std.specs.Prelude.{◌≡◌, ◌⊎◌, ℕ, ◌+◌, ◌*◌, ◌/◌, ◌^◌, ◌<◌, ◌≤◌, ◌↔◌, ◌==◌, ◌||◌, true, false, nat_le, Some, bit_or}
use Rattle.far_word.specs.declared.sizes.TheConstants.{CELLS}
use Rattle.far_word.specs.Scope.{scope_of}
use Rattle.far_events.specs.declared.event.Kind.TheVariants.{Sealed}
use Rattle.far_events.specs.events.Advance.{is_among}
use Rattle.far_events.specs.events.Look.{shows_clear, ShowsClear}
use Rattle.far_events.specs.state.State.{State}
use Rattle.far_core.specs.world.World.{Object, Group}
use Rattle.far_core.specs.world.WorldOf.{world_of}

-- the round's logs are sealed and so held, and each object that lies there is marked. An owner that was seen clear views none of them,
-- nor does one whose scope is open at the epoch or later. A scope word is 0, or 2e + 1 for an epoch e that isn't above the epoch, and no
-- owner remembers one above it
pub record RoundStands (s : State) : Type 0 where
  pub shut : (l : ℕ) → s.round l ≡ true → s.kind l ≡ Sealed
  pub held : (l : ℕ) → s.round l ≡ true → (world_of s).group l ≡ true
  pub marked : (p l : ℕ) (o : Object) → (world_of s).object p ≡ Some o → o.home ≡ Group l → s.round l ≡ true → (world_of s).marked p ≡ true
  pub seen : (p l : ℕ) (o : Object) → (world_of s).viewed p ≡ true → (world_of s).object p ≡ Some o → o.home ≡ Group l → s.clear (p / CELLS) ≡ true → s.round l ≡ false
  pub late : (p l e : ℕ) (o : Object) → (world_of s).viewed p ≡ true → (world_of s).object p ≡ Some o → o.home ≡ Group l →
      s.scope (p / CELLS) ≡ 2 * e + 1 → s.epoch ≤ e → s.round l ≡ false
  pub scopes : (m : ℕ) → (s.scope m ≡ 0) ⊎ ((e : ℕ) × (s.scope m ≡ 2 * e + 1) × (e ≤ s.epoch))
  pub remembers : (m e : ℕ) → s.remembered m ≡ Some e → e ≤ s.epoch

-- a closed scope shows its owner clear, and one that is open at an epoch where that is this one or later; no other word does
abbrev pub ScopesShow : Type 0
ScopesShow = (epoch : ℕ) → (shows_clear epoch (scope_of 0) ≡ true)
    × ((e : ℕ) → e < 2 ^ 62 → shows_clear epoch (scope_of (2 * e + 1)) ≡ nat_le epoch e)
    × ((w : ℕ) → ShowsClear epoch w ↔ ((w ≡ 0) ⊎ ((e : ℕ) × (e < 2 ^ 62) × (w ≡ 2 * e + 1) × (epoch ≤ e))))

-- the set of log l alone is the number 2 ^ l
abbrev pub OneLogIsABit : Type 0
OneLogIsABit = (l k : ℕ) → l < 64 → is_among (2 ^ l) k ≡ (k == l)

-- the logs of two sets together are those of their bits together
abbrev pub SetsAreJoined : Type 0
SetsAreJoined = (a b l : ℕ) → is_among (bit_or a b) l ≡ (is_among a l || is_among b l)

abbrev pub NoLogIsZero : Type 0
NoLogIsZero = (l : ℕ) → is_among 0 l ≡ false

-- 5 is the set of log 0 and log 2
abbrev pub FiveIsTwoLogs : Type 0
FiveIsTwoLogs = (is_among 5 0 ≡ true) × (is_among 5 1 ≡ false) × (is_among 5 2 ≡ true) × (is_among 5 61 ≡ false) × (is_among 5 63 ≡ false)
