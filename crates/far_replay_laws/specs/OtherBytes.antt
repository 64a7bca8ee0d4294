-- A command that is given other bytes of its object than were stored, since the device lies: its object has these bytes then, and all others keep theirs.
use Rattle.std.specs.Prelude.{◌≡◌, ◌≢◌, ℕ, ◌+◌, Bool, true, false, Some, List, ◌∷◌, length, slice_range}
use Rattle.far_word.specs.Bytes.{bytes_of}
use Rattle.far_core.specs.world.WorldOf.{world_of}
use Rattle.far_text.specs.Command.{Command, On, Reads, Writes, Mutator}
use Rattle.far_text.specs.Written.{WritesBytes}
use Rattle.far_alone.specs.Own.{bytes_in_world}
use Rattle.far_replay.specs.Answers.{CommandedBy, IsMoment, Outside, Serves, Refuses, Gives, Lacks}
use Rattle.far_replay.specs.Commanded.{AsksFor, LiesFar}
use Rattle.far_replay.specs.Moment.{Moment}
use Rattle.far_alone.specs.Objects.{with_range}
use Rattle.far_reply.specs.Reply.{Reply, Done, Data}

-- what a command makes of its object's bytes: a write has its own in their range
abbrev pub bytes_made : Command → List ℕ → List ℕ
bytes_made (Mutator m (On p (Writes from new))) bytes = with_range bytes from new
bytes_made c bytes = bytes

-- it is answered as if its object had these bytes
abbrev pub TellsBytes : Command → Reply → List ℕ → Type 0
TellsBytes (Mutator m (On p (Reads from len))) r bytes = r ≡ Data (slice_range bytes from (from + len))
TellsBytes (Mutator m (On p how)) r bytes = r ≡ Done
TellsBytes c r bytes = ⊥

-- the device may lie, and the object that the command asks for was far; it is viewed then, and has the bytes of these words, as many as it had, with what the command writes. Every
-- other object keeps its bytes, and what is stored stays
pub record ChangesObject (row : ℕ → ℕ) (m p : ℕ) (now : Moment) (c : Command) (r : Reply) (after : Moment) : Type 0 where
  pub asks : AsksFor m p c
  pub lies : now.core.honest ≡ false
  pub far : LiesFar now.core p
  pub old : List ℕ
  pub had : bytes_in_world ((world_of now.core).object p) ≡ Some old
  pub has : bytes_in_world ((world_of after.core).object p) ≡ Some (bytes_made c (bytes_of row (length old)))
  pub told : TellsBytes c r (bytes_of row (length old))
  pub viewed : (world_of after.core).viewed p ≡ true
  pub others : (q : ℕ) → q ≢ p → bytes_in_world ((world_of after.core).object q) ≡ bytes_in_world ((world_of now.core).object q)
  pub stored : after.core.stored p ≡ now.core.stored p

abbrev pub IsGiven : (ℕ → ℕ) → Moment → Command → Reply → Moment → Type 0
IsGiven row now c r after = (m p : ℕ) × ChangesObject row m p now c r after

-- so it is with each command of a list that was given other bytes
abbrev pub GivenBy : Outside → Moment → Command → Reply → Moment → Type 0
GivenBy Serves now c r after = Unit {0}
GivenBy (Refuses why turns objects) now c r after = Unit {0}
GivenBy (Gives row inverts) now c r after = IsGiven row now c r after
GivenBy (Lacks turns objects) now c r after = Unit {0}

abbrev pub AllGiven : List Outside → Moment → List Command → List Reply → List Moment → Type 0
AllGiven (o ∷ os) now (c ∷ cs) (r ∷ rs) (after ∷ moments) = GivenBy o now c r after × AllGiven os after cs rs moments
AllGiven os now cs rs moments = Unit {0}

-- ---- the law
abbrev pub LiesChangeOneObject : Type 0
LiesChangeOneObject = (row : ℕ → ℕ) (inverts : Bool) (now : Moment) (c : Command) (r : Reply) (after : Moment) → IsMoment now → WritesBytes c → CommandedBy (Gives row inverts) now c r after → IsGiven row now c r after
