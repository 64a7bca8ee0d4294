-- How many heaps of how many logs a plan comes to.
use Rattle.std.specs.Prelude.{◌≡◌, ◌⊎◌, ℕ, ◌+◌, ◌*◌, ◌/◌, ◌<◌, ◌≤◌, max}
use Rattle.far_word.specs.Sizes.{size_of}
use Rattle.far_word.specs.declared.sizes.TheConstants.{LONGEST, MOST_LOGS, POINTERS}
use Rattle.far_pool.specs.declared.plan.Layout.{Layout}
use Rattle.far_pool.specs.declared.plan.Plan.{Plan}
use Rattle.far_pool.specs.declared.plan.TheConstants.{LOG, MOST_HEAPS, MOST_OBJECTS}
use Rattle.far_pool.specs.declared.plan.Unplanned.{Unplanned}
use Rattle.far_pool.specs.declared.plan.Unplanned.TheVariants.{Length, Near, Objects}

-- the fewest heaps that have so many pointers, one at least
abbrev pub heaps_for : ℕ → ℕ
heaps_for objects = max 1 ((objects + 2047) / 2048)

-- two logs for rounds, and as many as eight objects of such a length fill
abbrev pub least_logs : ℕ → ℕ
least_logs typical = 2 + (size_of typical + 63) / 64

abbrev pub least_near : Plan → ℕ
least_near p = heaps_for p.objects * least_logs p.typical * LOG

-- most of its objects have a length that an object may have
abbrev pub HasLength : Plan → Type 0
HasLength p = (0 < p.typical) × (p.typical ≤ LONGEST)

-- a plan is so laid out: its numbers are in range; there are pointers for all its objects, and no more bytes of logs than it has; a heap has room for a few objects
pub record IsLaid (p : Plan) (l : Layout) : Type 0 where
  pub length : HasLength p
  pub range : p.objects ≤ MOST_OBJECTS
  pub enough : least_near p ≤ p.near
  pub objects : p.objects ≤ l.heaps * POINTERS
  pub near : l.heaps * l.logs * LOG ≤ p.near
  pub least : least_logs p.typical ≤ l.logs
  -- one is open, one is for rounds, and one can be emptied
  pub three : 3 ≤ l.logs
  pub most : l.logs ≤ MOST_LOGS
  pub heaps : 0 < l.heaps
  pub most_heaps : l.heaps ≤ MOST_HEAPS
  -- as few as have pointers for all, or all that so many bytes fill
  pub few : (l.heaps ≡ heaps_for p.objects) ⊎ (l.heaps * MOST_LOGS * LOG ≤ p.near)
  -- a log more for each heap would be too much, or a heap has as many as it may, and one more would be too much
  pub full : ((l.logs < MOST_LOGS) × (p.near < l.heaps * (l.logs + 1) * LOG)) ⊎ ((l.logs ≡ MOST_LOGS) × ((p.near < (l.heaps + 1) * MOST_LOGS * LOG) ⊎ (l.heaps ≡ MOST_HEAPS)))

-- why it isn't: the first of three causes
abbrev pub IsUnplanned : Plan → Unplanned → Type 0
IsUnplanned p Length = (p.typical ≡ 0) ⊎ (LONGEST < p.typical)
IsUnplanned p (Objects most) = HasLength p × (most ≡ MOST_OBJECTS) × (MOST_OBJECTS < p.objects)
IsUnplanned p (Near least) = HasLength p × (p.objects ≤ MOST_OBJECTS) × (least ≡ least_near p) × (p.near < least)

-- a plan has one layout, or none and one cause
pub record PlansAreDecided : Type 0 where
  pub one : (p : Plan) (l m : Layout) → IsLaid p l → IsLaid p m → l ≡ m
  pub one_cause : (p : Plan) (v w : Unplanned) → IsUnplanned p v → IsUnplanned p w → v ≡ w
  pub either : (p : Plan) (l : Layout) (why : Unplanned) → IsLaid p l → IsUnplanned p why → ⊥
