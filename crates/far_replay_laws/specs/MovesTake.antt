-- What a step that deals with objects takes of the logs, by the moments before and after: the room of those that came, and no more.
use Rattle.std.specs.Prelude.{◌≡◌, ◌≢◌, ◌↔◌, ◌⊎◌, ℕ, ◌+◌, ◌<◌, eqb, List, Contains}
use Rattle.std.specs.List.{IsDistinct, sum_by, range_with_len}
use Rattle.far_word.specs.declared.sizes.TheConstants.{LOG_BYTES}
use Rattle.far_word.specs.Pointer.{read_of}
use Rattle.far_events.specs.declared.event.Kind.TheVariants as kinds
use Rattle.far_core.specs.laws.Observed.{live_bytes, dead_bytes, unused_bytes}
use Rattle.far_events.specs.state.State.{State}
use Rattle.far_evac.specs.TakesRoom.{bytes_near}
use Rattle.far_replay.specs.Moment.{Moment}
use Rattle.far_replay_laws.specs.Steps.{IsChosen, IsRetired, IsSentFar, LiesIn}

-- the objects that have a property, each counted once, take so many bytes in s
abbrev pub TakeBytes : State → (ℕ → Type 0) → ℕ → Type 0
TakeBytes s P n = (ps : List ℕ) × (sum_by (λ p. bytes_near (read_of (s.cell p))) ps ≡ n) × IsDistinct eqb ps × ((p : ℕ) → Contains ps p ↔ P p)

-- an object came to a log from another; or left it
abbrev pub Comes : State → State → ℕ → ℕ → Type 0
Comes s t l p = LiesIn t p l × ((k : ℕ) × LiesIn s p k × (k ≢ l))

abbrev pub Leaves : State → State → ℕ → ℕ → Type 0
Leaves s t l p = LiesIn s p l × ¬ LiesIn t p l

-- a log that no round holds: its dead bytes stay. Its live bytes rise, and its unused ones fall, by the objects that came; none comes to a sealed log, and one that was free is opened
-- only where one came
pub record RoomAside (s t : State) (l : ℕ) : Type 0 where
  pub came : ℕ
  pub bytes : TakeBytes t (Comes s t l) came
  pub live : live_bytes t l ≡ live_bytes s l + came
  pub dead : dead_bytes t l ≡ dead_bytes s l
  pub unused : unused_bytes t l + came ≡ unused_bytes s l
  pub sealed : s.kind l ≡ kinds.Sealed → (t.kind l ≡ kinds.Sealed) × (came ≡ 0)
  pub opened : s.kind l ≡ kinds.Free → t.kind l ≢ kinds.Free → 0 < came
  pub used : s.kind l ≢ kinds.Free → t.kind l ≢ kinds.Free

-- one that is still chosen: what left it is dead
pub record RoomLeft (s t : State) (l : ℕ) : Type 0 where
  pub left : ℕ
  pub bytes : TakeBytes s (Leaves s t l) left
  pub live : live_bytes t l + left ≡ live_bytes s l
  pub dead : dead_bytes t l ≡ dead_bytes s l + left
  pub unused : unused_bytes t l ≡ unused_bytes s l

-- one that was given back: all that was live left it, and it has what came since; where nothing came it is free
pub record RoomBack (s t : State) (l : ℕ) : Type 0 where
  pub came : ℕ
  pub bytes : TakeBytes t (Comes s t l) came
  pub left : TakeBytes s (Leaves s t l) (live_bytes s l)
  pub live : live_bytes t l ≡ came
  pub dead : dead_bytes t l ≡ 0
  pub unused : unused_bytes t l + came ≡ LOG_BYTES
  pub free : came ≡ 0 → t.kind l ≡ kinds.Free

-- the live bytes of all logs together fall by the objects that went far or were retired
pub record RoomOfAll (s t : State) : Type 0 where
  pub gone : ℕ
  pub bytes : TakeBytes s (λ p. IsSentFar s t p ⊎ IsRetired s t p) gone
  pub live : sum_by (live_bytes t) (range_with_len 0 t.logs) + gone ≡ sum_by (live_bytes s) (range_with_len 0 s.logs)

-- of logs that a round takes these, objects have left, and no others were touched
pub record MovesTake (now : Moment) (Held : ℕ → Type 0) (after : Moment) : Type 0 where
  pub aside : (l : ℕ) → ¬ Held l → RoomAside now.core after.core l
  pub left : (l : ℕ) → Held l → IsChosen after l → RoomLeft now.core after.core l
  pub back : (l : ℕ) → Held l → ¬ IsChosen after l → RoomBack now.core after.core l
  pub all : RoomOfAll now.core after.core
