-- What steps of the evacuator leave of objects: each is what it was, and lies where it lay, but for those of the chosen logs, which may leave them. Those that haven't left stay as they were.
use Rattle.std.specs.Prelude.{◌≡◌, ◌⊎◌, ℕ, true, false, Option, Some, None, List, Contains}
use Rattle.far_word.specs.declared.mark.Marks.{Marks}
use Rattle.far_word.specs.declared.pointer.PtrWord.{PtrWord}
use Rattle.far_word.specs.declared.pointer.PtrWord.TheVariants.{Free, Near, Far}
use Rattle.far_word.specs.Pointer.{read_of}
use Rattle.far_events.specs.state.State.{State}
use Rattle.far_core.specs.world.World.{Object}
use Rattle.far_core.specs.world.WorldOf.{world_of}
use Rattle.far_text.specs.Command.{Command, Evacuator, By, Step, Select, Mark, Wait, Evacuate, Abort, Round}
use Rattle.far_replay.specs.Answers.{Commanded, IsMoment, Served}
use Rattle.far_replay.specs.Moment.{Moment}
use Rattle.far_reply.specs.Reply.{Reply, Done, Selected, Marked, Evacuated, Ended, Halted}
use Rattle.far_replay_laws.specs.Along.{AllAlong}
use Rattle.far_replay_laws.specs.Stands.{Stands}
use Rattle.far_replay_laws.specs.Steps.{IsChosen, LiesIn}

-- ---- each object
-- the same owner, data structure and bytes, wherever it is; and none where there was none
abbrev pub IsAnywhere : Option Object → Option Object → Type 0
IsAnywhere None None = Unit {0}
IsAnywhere (Some o) (Some x) = (x.owner ≡ o.owner) × (x.ds ≡ o.ds) × (x.bytes ≡ o.bytes)
IsAnywhere _ _ = ⊥

-- a pointer's object stays where it lies: its cell has the word that it had, so the same place and marks; its bytes are the same, and so are the words stored for it
pub record StaysPut (s t : State) (p : ℕ) : Type 0 where
  pub cell : t.cell p ≡ s.cell p
  pub object : (world_of t).object p ≡ (world_of s).object p
  pub stored : (i : ℕ) → t.stored p i ≡ s.stored p i

-- the logs whose objects a step deals with: none; those that are chosen; or those that a round would choose, as `select` tells them
abbrev pub DealsWith : Moment → Step → ℕ → Type 0
DealsWith now (Select choice most) l = ⊥
DealsWith now (Mark count) l = IsChosen now l
DealsWith now Wait l = ⊥
DealsWith now (Evacuate count) l = IsChosen now l
DealsWith now Abort l = IsChosen now l
DealsWith now (Round policy most turns) l = (logs : List ℕ) × (chosen : Moment) × Served now (Evacuator (Select (By policy) most)) (Selected logs) chosen × Contains logs l

-- ---- where no object leaves
-- what becomes of an object's marks: some that are marked get EVAC, some that are given up lose it, and nothing else changes
abbrev pub MarksBy : Step → Reply → Marks → Marks → Type 0
MarksBy (Mark count) (Marked marked waiting) a b = (b ≡ a) ⊎ (b ≡ record a { evac = true })
MarksBy Abort Done a b = (b ≡ a) ⊎ (b ≡ record a { evac = false })
MarksBy step r a b = b ≡ a

-- a cell names the same object at the same place, with such marks
abbrev pub CellBy : (Marks → Marks → Type 0) → Option PtrWord → Option PtrWord → Type 0
CellBy Keeps None None = Unit {0}
CellBy Keeps (Some Free) (Some Free) = Unit {0}
CellBy Keeps (Some (Near len ds place a)) (Some (Near n d at b)) = (n ≡ len) × (d ≡ ds) × (at ≡ place) × Keeps a b
CellBy Keeps (Some (Far len ds a)) (Some (Far n d b)) = (n ≡ len) × (d ≡ ds) × Keeps a b
CellBy Keeps _ _ = ⊥

-- each object stays where it lies, with its bytes. But for those marks and the round nothing has changed: no word of a log, no stored word, no log and no view
pub record AllStayPut (s : State) (step : Step) (r : Reply) (t : State) : Type 0 where
  pub cells : (p : ℕ) → CellBy (MarksBy step r) (read_of (s.cell p)) (read_of (t.cell p))
  pub objects : (p : ℕ) → (world_of t).object p ≡ (world_of s).object p
  pub rest : t ≡ record s { cell = t.cell; epoch = t.epoch; round = t.round; round_epoch = t.round_epoch; clear = t.clear }

-- ---- where objects may leave
-- marks are those that were, or EVAC was set beside them
abbrev pub GainsNoneButEvac : Marks → Marks → Type 0
GainsNoneButEvac a b = (b ≡ a) ⊎ (b ≡ record a { evac = true })

-- an object stays where it lies, with its bytes, under the marks that it had or EVAC beside them; and so do the words that are stored for its pointer
pub record StaysMarked (s t : State) (p : ℕ) : Type 0 where
  pub cell : CellBy GainsNoneButEvac (read_of (s.cell p)) (read_of (t.cell p))
  pub object : (world_of t).object p ≡ (world_of s).object p
  pub stored : (i : ℕ) → t.stored p i ≡ s.stored p i

-- an object that lies then in the log where it lay wasn't dealt with; what owners have done stays
pub record SomeStay (Stays : State → State → ℕ → Type 0) (s t : State) : Type 0 where
  pub unreached : (p l : ℕ) → LiesIn s p l → LiesIn t p l → Stays s t p
  pub used : t.used ≡ s.used
  pub held : t.held ≡ s.held
  pub scope : t.scope ≡ s.scope
  pub remembered : t.remembered ≡ s.remembered

-- objects may leave by an evacuation and by a round, also by one that is refused in its midst, and by no other step. What an evacuation hasn't reached stays under its very
-- word; a round marks objects before
-- it deals with them
abbrev pub LeavesRest : Moment → Step → Reply → Moment → Type 0
LeavesRest now (Evacuate count) (Evacuated progress) after = SomeStay StaysPut now.core after.core
LeavesRest now (Round policy most turns) (Ended end) after = SomeStay StaysMarked now.core after.core
LeavesRest now (Evacuate count) (Halted why progress) after = SomeStay StaysPut now.core after.core
LeavesRest now (Round policy most turns) (Halted why progress) after = SomeStay StaysMarked now.core after.core
LeavesRest now step r after = AllStayPut now.core step r after.core

-- ---- all together
pub record StepLeaves (now : Moment) (step : Step) (r : Reply) (after : Moment) : Type 0 where
  pub objects : (p : ℕ) → IsAnywhere ((world_of now.core).object p) ((world_of after.core).object p)
  pub others : (p : ℕ) → ((l : ℕ) → DealsWith now step l → ¬ LiesIn now.core p l) → StaysPut now.core after.core p
  pub rest : LeavesRest now step r after

-- what a command leaves: a step all this, and any other the round
abbrev pub Leaves : Moment → Command → Reply → Moment → Type 0
Leaves now (Evacuator step) r after = StepLeaves now step r after
Leaves now c r after = Stands now c after

abbrev pub AllLeave : Moment → List Command → List Reply → List Moment → Type 0
AllLeave = AllAlong Leaves

abbrev pub StepsLeave : Type 0
StepsLeave = (now : Moment) (step : Step) (r : Reply) (after : Moment) → IsMoment now → Commanded now (Evacuator step) r after → StepLeaves now step r after
