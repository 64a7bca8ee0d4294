-- What one command comes to: it is served; or what is outside the heap, its device or the memory that there is, refuses it in its midst, or gives it other bytes than were stored; and the run goes on.
use Rattle.std.specs.Prelude.{◌≡◌, ◌≢◌, ℕ, ◌<◌, Bool, true, false, Some, None, IsSome, List, ◌∷◌}
use Rattle.far_word.specs.declared.mark.Marks.{Marks}
use Rattle.far_word.specs.declared.pointer.PtrWord.TheVariants.{Far}
use Rattle.far_word.specs.declared.refused.Refused.{Refused as Refusal}
use Rattle.far_word.specs.declared.refused.Refused.TheVariants.{Damaged, Device, Marked, Memory}
use Rattle.far_word.specs.Pointer.{read_of}
use Rattle.far_events.specs.state.Law.{IsStored, is_dirty}
use Rattle.far_events.specs.state.State.{State}
use Rattle.far_evac.specs.declared.answers.Progress.{Progress}
use Rattle.far_evac.specs.declared.answers.RoundEnd.TheVariants.{Limit}
use Rattle.far_evac.specs.declared.phase.Phase.TheVariants.{Evacuating}
use Rattle.far_evac.specs.Choosing.{after_selecting}
use Rattle.far_evac.specs.Live.{live_among}
use Rattle.far_evac.specs.Moment.{plus, progress_of, tally_of}
use Rattle.far_evac.specs.Turns.{turn_size, turns_made}
use Rattle.far_evac.specs.Walk.{Goes, way_of}
use Rattle.far_text.specs.Command.{Command, On, Try, Mutator, Evacuator, Evacuate, Policy, Round}
use Rattle.far_replay.specs.Moment.{Moment, as_if_stored}
use Rattle.far_reply.specs.Reply.{Reply, Ended, Evacuated, Halted, Refused}
use Rattle.far_replay.specs.Rounds.{chosen_by, rows_in}
use Rattle.far_replay.specs.Turn.{effect, refusal, reply_to}

-- ---- it is served: its reply and the next moment hang on the moment before alone
pub record Served (now : Moment) (c : Command) (r : Reply) (after : Moment) : Type 0 where
  pub reply : r ≡ reply_to now c
  pub moment : after ≡ effect now c

-- ---- it is refused in its midst
-- what the outside made of a command: all that was asked; or it refused something, for this reason, after so many turns of a round and after so many objects; or it gave
-- these words of a far object, whatever was stored, and they are what the device holds, or that inverted; or it refused memory, after so many turns of a round and after so many objects
pub data Outside : Type 0 where
  Serves : Outside
  Refuses : (why : Refusal) (turns objects : ℕ) → Outside
  Gives : (row : ℕ → ℕ) (inverts : Bool) → Outside
  Lacks : (turns objects : ℕ) → Outside

-- why an object isn't brought: the device failed, or gave another number of bytes; memory it never lacks, since it reads into room that the heap has. Why one doesn't leave: memory was
-- refused, or the device failed
abbrev pub KeepsFar : Refusal → Type 0
KeepsFar Device = Unit {0}
KeepsFar Damaged = Unit {0}
KeepsFar why = ⊥

abbrev pub KeepsNear : Refusal → Type 0
KeepsNear Device = Unit {0}
KeepsNear Memory = Unit {0}
KeepsNear why = ⊥

abbrev pub LiesFar : State → ℕ → Type 0
LiesFar s p = (len ds : ℕ) × (marks : Marks) × (read_of (s.cell p) ≡ Some (Far len ds marks))

-- a command that is to reach a far object, for which there is room, is left with what a try of that object leaves, which finds it far
pub record Unbrought (why : Refusal) (now : Moment) (c : Command) (m p : ℕ) (r : Reply) (after : Moment) : Type 0 where
  pub cause : KeepsFar why
  pub allowed : refusal now c ≡ None
  pub far : LiesFar now.core p
  pub tried : Served now (Mutator m (Try p)) (Refused (Marked (now.core.cell p))) after
  pub reply : r ≡ Refused why

-- of the objects that are left the first is to go far, and has DIRTY: it is to be written
pub record StopsAtWrite (t : Moment) : Type 0 where
  pub next : ℕ
  pub rest : List ℕ
  pub first : live_among t.core t.collection ≡ next ∷ rest
  pub goes : way_of t.core (read_of (t.core.cell next)) ≡ Goes
  pub owed : is_dirty (read_of (t.core.cell next)) ≡ true

-- an evacuation is left with what one of fewer objects leaves, which isn't done, where an object is to be written, and tells what that would
pub record StopsLeaving (why : Refusal) (objects : ℕ) (now : Moment) (count : ℕ) (r : Reply) (after : Moment) : Type 0 where
  pub cause : KeepsNear why
  pub before : objects < count
  pub progress : Progress
  pub left : Served now (Evacuator (Evacuate objects)) (Evacuated progress) after
  pub unfinished : progress.done ≡ false
  pub at : StopsAtWrite after
  pub reply : r ≡ Halted why progress

-- a round is left with what one of fewer turns leaves, after which objects leave, and then an evacuation of fewer objects than a turn deals with, which isn't done, where an object is to be written; it tells what
-- all turns did
pub record StopsRound (why : Refusal) (turns objects : ℕ) (now : Moment) (policy : Policy) (most count : ℕ) (r : Reply) (after : Moment) : Type 0 where
  pub cause : KeepsNear why
  pub before : turns < count
  pub stood : Moment
  pub turned : Served now (Evacuator (Round policy most turns)) (Ended (Limit Evacuating)) stood
  pub within : objects < turn_size
  pub progress : Progress
  pub left : Served stood (Evacuator (Evacuate objects)) (Evacuated progress) after
  pub unfinished : progress.done ≡ false
  pub at : StopsAtWrite after
  pub reply : r ≡ Halted why (progress_of (plus (turns_made (after_selecting now (chosen_by policy (rows_in now) most)) turns).tally (tally_of progress)) false)

-- a command is refused so. No other command asks the outside for anything
abbrev pub Stopped : Refusal → ℕ → ℕ → Moment → Command → Reply → Moment → Type 0
Stopped why turns objects now (Mutator m (On p how)) r after = Unbrought why now (Mutator m (On p how)) m p r after
Stopped why turns objects now (Evacuator (Evacuate count)) r after = StopsLeaving why objects now count r after
Stopped why turns objects now (Evacuator (Round policy most count)) r after = StopsRound why turns objects now policy most count r after
Stopped why turns objects now c r after = ⊥

-- so it is, at some turn and after some objects
abbrev pub StopsSo : Refusal → Moment → Command → Reply → Moment → Type 0
StopsSo why now c r after = (turns objects : ℕ) × Stopped why turns objects now c r after

-- ---- it is given other words of a far object
-- a command that reaches a far object is served as if these words were stored of it, which are as many as it has; the object is viewed then. What is stored is told to nobody, and
-- stays
pub record Misled (row : ℕ → ℕ) (now : Moment) (c : Command) (p : ℕ) (r : Reply) (after : Moment) : Type 0 where
  pub lies : now.core.honest ≡ false
  pub far : LiesFar now.core p
  pub fits : IsStored row far.0
  pub served : Served (as_if_stored now p row) c r (as_if_stored after p row)
  pub answered : (why : Refusal) → r ≢ Refused why
  pub viewed : IsSome (after.core.held p)
  pub kept : after.core.stored p ≡ now.core.stored p

-- a command of mutator m writes, reads or views the object of pointer p, whether m views that object already or not
abbrev pub AsksFor : ℕ → ℕ → Command → Type 0
AsksFor m p (Mutator k (On q how)) = (k ≡ m) × (q ≡ p)
AsksFor m p c = ⊥

-- no other command does
abbrev pub MisledBy : (ℕ → ℕ) → Moment → Command → Reply → Moment → Type 0
MisledBy row now (Mutator m (On p how)) r after = Misled row now (Mutator m (On p how)) p r after
MisledBy row now c r after = ⊥

-- ---- any of these
abbrev pub CommandedBy : Outside → Moment → Command → Reply → Moment → Type 0
CommandedBy Serves now c r after = Served now c r after
CommandedBy (Refuses why turns objects) now c r after = Stopped why turns objects now c r after
CommandedBy (Gives row inverts) now c r after = MisledBy row now c r after
CommandedBy (Lacks turns objects) now c r after = Stopped Memory turns objects now c r after

-- one command, from a moment to the next, with its reply, whatever the outside made of it
abbrev pub Commanded : Moment → Command → Reply → Moment → Type 0
Commanded now c r after = (o : Outside) × CommandedBy o now c r after
