-- What a refusal of the device, or of memory, is about: a far object that has room to come to, and stays far, or objects that leave; and how often the device refuses, and how often it gives other bytes.
use Rattle.std.specs.Prelude.{◌≡◌, ℕ, suc, ◌+◌, ◌≤◌, ◌==◌, Bool, true, false, Ok, Option, Some, None, List, [], ◌∷◌, ◌++◌}
use Rattle.std.specs.List.{flat_map}
use Rattle.far_word.specs.declared.mark.Marks.{Marks}
use Rattle.far_word.specs.declared.pointer.Place.{Place}
use Rattle.far_word.specs.declared.pointer.PtrWord.TheVariants.{Far}
use Rattle.far_word.specs.declared.refused.Refused.{Refused as Refusal}
use Rattle.far_word.specs.declared.refused.Refused.TheVariants.{Damaged, Device as Failed, Memory}
use Rattle.far_word.specs.Pointer.{read_of}
use Rattle.far_word.specs.Sizes.{size_of}
use Rattle.far_core.specs.state.Room.{room}
use Rattle.far_events.specs.state.Shape.{is_shape}
use Rattle.far_events.specs.state.State.{State}
use Rattle.far_evac.specs.declared.phase.Phase.TheVariants.{Idle, Evacuating}
use Rattle.far_text.specs.Command.{Command, Device, Flawed, Fail, Flip, Short, Heap, On, Mutator, Evacuator, Evacuate, Round}
use Rattle.far_text.specs.Grammar.{trace_of}
use Rattle.far_replay.specs.Answers.{AnsweredBy, Answers, Commanded, IsMoment, Outside, Serves, Refuses, Gives, Lacks, first_moment, is_true, opened, shape_of}
use Rattle.far_replay.specs.Commanded.{KeepsFar, LiesFar}
use Rattle.far_replay.specs.Moment.{Moment}
use Rattle.far_reply.specs.Reply.{Reply, Halted, Refused, reply_text}
use Rattle.far_replay_laws.specs.Lying.{LiesOnce}

-- the object that a command is to reach is far
abbrev pub IsFarFor : State → Command → Type 0
IsFarFor s (Mutator m (On p how)) = LiesFar s p
IsFarFor s c = ⊥

-- there is a place to which a far object would come: in the open log, or in a free one, but not the last
abbrev pub ComesSomewhere : State → ℕ → Type 0
ComesSomewhere s p = (len ds : ℕ) (marks : Marks) → read_of (s.cell p) ≡ Some (Far len ds marks) → (place : Place) × (room s (size_of len) true ≡ Some place)

-- there is one for the object that a command is to reach
abbrev pub HasRoomFor : State → Command → Type 0
HasRoomFor s (Mutator m (On p how)) = ComesSomewhere s p
HasRoomFor s c = ⊥

-- a command is refused as the device failed, or gave another number of bytes, only where its object is far before and after it, and there was room for it
abbrev pub DeviceRefusesFar : Type 0
DeviceRefusesFar = (now : Moment) (c : Command) (r : Reply) (after : Moment) (why : Refusal) → IsMoment now → Commanded now c r after → r ≡ Refused why → KeepsFar why →
    IsFarFor now.core c × IsFarFor after.core c × HasRoomFor now.core c

-- a reply says that memory was refused only with counts: of an evacuation in its phase, in which it stays; and of a round that had chosen its logs, and after which objects leave
abbrev pub HaltsThere : Moment → Command → Moment → Type 0
HaltsThere now (Evacuator (Evacuate count)) after = (now.phase ≡ Evacuating) × (after.phase ≡ Evacuating)
HaltsThere now (Evacuator (Round policy most turns)) after = (now.phase ≡ Idle) × (after.phase ≡ Evacuating)
HaltsThere now c after = ⊥

abbrev pub LacksThere : Moment → Command → Reply → Moment → Type 0
LacksThere now c (Refused Memory) after = ⊥
LacksThere now c (Halted Memory progress) after = HaltsThere now c after
LacksThere now c r after = Unit {0}

abbrev pub MemoryIsRefusedThere : Type 0
MemoryIsRefusedThere = (now : Moment) (c : Command) (r : Reply) (after : Moment) → IsMoment now → Commanded now c r after → LacksThere now c r after

-- ---- how often it comes
-- one call of a device is said to fail; or to give a byte too few
abbrev pub to_fail : Option Device → ℕ
to_fail (Some (Flawed Fail (suc call))) = 1
to_fail device = 0

abbrev pub to_damage : Option Device → ℕ
to_damage (Some (Flawed Short (suc call))) = 1
to_damage device = 0

-- and one read to give each byte inverted
abbrev pub to_lie : Option Device → ℕ
to_lie (Some (Flawed Flip (suc call))) = 1
to_lie device = 0

-- a reply says that the device failed
abbrev pub says_failed : Reply → Bool
says_failed (Refused Failed) = true
says_failed (Halted Failed progress) = true
says_failed r = false

-- and that it gave another number of bytes
abbrev pub says_damaged : Reply → Bool
says_damaged (Refused Damaged) = true
says_damaged (Halted Damaged progress) = true
says_damaged r = false

-- and that memory was refused
abbrev pub says_lacking : Reply → Bool
says_lacking (Refused Memory) = true
says_lacking (Halted Memory progress) = true
says_lacking r = false

-- none of these replies says that memory was refused
abbrev pub NoneLacks : List Reply → Type 0
NoneLacks [] = Unit {0}
NoneLacks (r ∷ rs) = (says_lacking r ≡ false) × NoneLacks rs

abbrev pub one_if : Bool → ℕ
one_if true = 1
one_if false = 0

abbrev pub failures : List Reply → ℕ
failures [] = 0
failures (r ∷ rs) = one_if (says_failed r) + failures rs

abbrev pub damages : List Reply → ℕ
damages [] = 0
damages (r ∷ rs) = one_if (says_damaged r) + damages rs

-- how many commands were given words by a device that may lie, also if they are the object's own
abbrev pub lies : List Outside → ℕ
lies [] = 0
lies (Serves ∷ os) = lies os
lies (Refuses why turns objects ∷ os) = lies os
lies (Gives row inverts ∷ os) = 1 + lies os
lies (Lacks turns objects ∷ os) = lies os

-- no more replies say that the device failed, or gave another number of bytes, than it is said to; each once at most
pub record FailsAsSaid (device : Option Device) (replies : List Reply) : Type 0 where
  pub failed : failures replies ≤ to_fail device
  pub damaged : damages replies ≤ to_damage device
  pub once : to_fail device + to_damage device ≤ 1

-- what is read of a device is what was stored: it isn't said to give other bytes
abbrev pub gives_stored : Option Device → Bool
gives_stored device = to_lie device == 0

-- where what is read of a device is always what was written, no command is given other bytes. From its first moment on no more commands are given inverted ones than it is said to invert, and
-- then the next of the same object, unwritten since, what the device owes it; all others are given their objects' own
pub record LiesAsSaid (device : Option Device) (outside : List Outside) (now : Moment) (cs : List Command) (moments : List Moment) : Type 0 where
  pub lied : is_true device ≡ true → lies outside ≡ 0
  pub once : LiesOnce (to_lie device) None now outside cs moments
  pub few : to_lie device ≤ 1

-- the output of a text that is read as a heap in range and commands is lines of replies, which say so
abbrev pub FlawsAreSaid : Type 0
FlawsAreSaid = (text output : List ℕ) (logs mutators epoch : ℕ) (device : Option Device) (cs : List Command) → Answers text output → trace_of text ≡ Ok (Heap logs mutators epoch device cs) →
    is_shape (shape_of logs mutators epoch) ≡ true → (outside : List Outside) × (replies : List Reply) × (moments : List Moment) × AnsweredBy outside (first_moment logs mutators epoch (is_true device)) cs replies moments
    × (output ≡ flat_map reply_text (opened device ++ replies)) × FailsAsSaid device replies × LiesAsSaid device outside (first_moment logs mutators epoch (is_true device)) cs moments
