-- What a trace program's outputs say: the laws over whole texts and whole lists of commands.
use Rattle.std.specs.Prelude.{◌≡◌, ◌≢◌, ◌↔◌, ℕ, ◌+◌, ◌*◌, ◌/◌, ◌^◌, ◌<◌, ◌≤◌, ◌||◌, ◌⊎◌, Bool, true, false, sum, codes, decimal, Option, Some, None, Ok, List, [], ◌∷◌, length, replicate, slice_index, map, All, Contains, ◌++◌, Result}
use Rattle.std.specs.Bool.{MatchBool}
use Rattle.std.specs.List.{flat_map, range_with_len}
use Rattle.hex.specs.Hex.{IsBytes}
use Rattle.far_word.specs.declared.mark.Mark.TheVariants.{Hot}
use Rattle.far_word.specs.declared.mark.Marks.{Marks}
use Rattle.far_word.specs.declared.pointer.Place.{Place}
use Rattle.far_word.specs.declared.pointer.PtrWord.{PtrWord}
use Rattle.far_word.specs.declared.pointer.PtrWord.TheVariants as pointer
use Rattle.far_word.specs.declared.refused.Refused.{Refused as Refusal}
use Rattle.far_word.specs.declared.refused.Refused.TheVariants.{NoRoom, NoPointer, Length, Closed, AlreadyOpen, NotHeld, Range, Held, Device, Damaged, Marked as MarkFound, Shape, Syntax, BadChoice, StillOpen, Phase as WrongPhase, EpochsSpent}
use Rattle.far_word.specs.declared.sizes.TheConstants.{CELLS, LOG_WORDS, LONGEST}
use Rattle.far_word.specs.Pointer.{read_of, with_mark}
use Rattle.far_word.specs.Sizes.{size_of}
use Rattle.far_events.specs.declared.event.Event.{Event}
use Rattle.far_events.specs.events.Step.{is_opened}
use Rattle.far_events.specs.state.Law.{IsStored, Law}
use Rattle.far_core.specs.laws.Observed.{live_bytes, dead_bytes, unused_bytes, HasOnePlace, NamesOnce, OneLive}
use Rattle.far_core.specs.state.Room.{room}
use Rattle.far_events.specs.state.Shape.{is_shape}
use Rattle.far_events.specs.state.State.{State, put}
use Rattle.far_core.specs.world.World.{Object, Group, FarSide}
use Rattle.far_core.specs.world.WorldOf.{world_of}
use Rattle.far_book.specs.book.Reached.{IsOfBook}
use Rattle.far_book.specs.declared.home.Home.{Home}
use Rattle.far_book.specs.declared.home.Home.TheVariants.{Near, Far}
use Rattle.far_evac.specs.Census.{kind_in}
use Rattle.far_evac.specs.declared.answers.Progress.{Progress}
use Rattle.far_evac.specs.declared.answers.RoundEnd.{RoundEnd}
use Rattle.far_evac.specs.declared.answers.RoundEnd.TheVariants as ends
use Rattle.far_replay.specs.Alone.{Alone, KnowsBy, Learns}
use Rattle.far_alone.specs.Own.{Own, nothing}
use Rattle.far_replay.specs.Answers.{Answered, AnsweredBy, Answers, Commanded, IsMoment, IsOutput, Outside, Served, ByDevice, shape_of, first_moment, opened, flaws, is_true, lie_of}
use Rattle.far_text.specs.Command.{Command, Heap, CommandLine, New, Open, On, Reads, Writes, Views, Close, Where, Drop, Try, Epoch, Logs as AsksLogs, Log, Audit, Mutator, Book, Evacuator, By, Script, Select, Mark, Wait, Evacuate, Abort, Round, Device as SaidDevice, Trace}
use Rattle.far_text.specs.Grammar.{trace_of}
use Rattle.far_replay.specs.Commanded.{AsksFor, KeepsNear, LiesFar}
use Rattle.far_replay.specs.Moment.{Moment, as_if_stored}
use Rattle.far_events.specs.events.Ranges.{after_events}
use Rattle.far_alone.specs.EventRows.{AllPass, AllSucceed, AllComeToPass, AtHand}
use Rattle.far_replay.specs.Events.{events_for, IsNoStep}
use Rattle.far_replay_laws.specs.FromOutside.{FailsAsSaid, LiesAsSaid, NoneLacks, gives_stored}
use Rattle.far_replay_laws.specs.HowMany.{IsHowMany}
use Rattle.far_replay_laws.specs.Left.{AllLeave}
use Rattle.far_replay_laws.specs.Listed.{AllCounted}
use Rattle.far_alone.specs.Objects.{with_range, uses}
use Rattle.far_replay_laws.specs.OtherBytes.{AllGiven}
use Rattle.far_text.specs.Says.{Says}
use Rattle.far_replay.specs.Stays.{MayMark, MaySee, Stays}
use Rattle.far_replay_laws.specs.MovesTake.{MovesTake}
use Rattle.far_replay_laws.specs.Steps.{AllTold, IsChosen, Takes}
use Rattle.far_text.specs.Written.{WritesBytes, AllWriteBytes}
use Rattle.far_reply.specs.declared.reply.Counts.{Counts}
use Rattle.far_reply.specs.declared.reply.LogLine.{LogLine}
use Rattle.far_reply.specs.Reply.{Reply, Done, Pointer, Data, Logs, Lies, Audited, EpochRead, Selected, Marked, Clear, Evacuated, Ended, Refused, Halted, reply_text}
use Rattle.far_replay.specs.Changes.{LogStays, StayThrough, EndsObject, ViewsObject}
use Rattle.far_replay.specs.Lawful.{Lawful}
use Rattle.far_replay.specs.Taking.{TakesNone, TakesSpan, DereferenceTakes, DereferenceLacks, DropTakes}

-- the object that a command reads, writes, views or tries, if there is one, may be dereferenced at once
abbrev pub IsAtHandFor : Moment → Command → Type 0
IsAtHandFor now (Mutator m (On p how)) = now.core.cell p ≢ 0 → AtHand now.core p
IsAtHandFor now (Mutator m (Try p)) = now.core.cell p ≢ 0 → AtHand now.core p
IsAtHandFor now c = Unit {0}

-- the command whose events carry a command out, by its reply: where the object of a read, a write or a view isn't brought, by the device, a try of it
abbrev pub carried_as : Command → Reply → Command
carried_as (Mutator m (On p how)) (Refused Device) = Mutator m (Try p)
carried_as (Mutator m (On p how)) (Refused Damaged) = Mutator m (Try p)
carried_as c r = c

-- these are a command's events; or, where the device may lie, those that it has in a moment in which other words, as many, are stored of the far object that it asks for
abbrev pub TellsEvents : Moment → Command → List Event → Type 0
TellsEvents now c events =
    (events ≡ events_for now c)
    ⊎ ((now.core.honest ≡ false) × ((m p : ℕ) × AsksFor m p c × (far : LiesFar now.core p) × (row : ℕ → ℕ) × IsStored row far.0 × (events ≡ events_for (as_if_stored now p row) c)))

-- events lead from a moment to the next: each is legal, none is refused, each keeps the law and agreement, and through them the logs in which views rest stay. A mutator's are told
-- one by one; where its command's object is at hand a pin gives a view, and a naming wins. A step of the evacuator makes none of an owner
pub record Reaches (now : Moment) (c : Command) (r : Reply) (after : Moment) : Type 0 where
  pub events : List Event
  pub told : IsNoStep c → TellsEvents now (carried_as c r) events
  pub of_book : ¬ IsNoStep c → All IsOfBook events
  pub ends : after.core ≡ after_events now.core events
  pub pass : AllPass now.core events
  pub succeed : AllSucceed now.core events
  pub come : IsNoStep c → IsAtHandFor now c → AllComeToPass now.core events
  pub stay : StayThrough now.core events

-- through each command of a list, by one row of events; and in the last moment no view rests in a free log
abbrev pub LogsStay : Moment → List Command → List Reply → List Moment → Type 0
LogsStay now [] rs moments = LogStays now.core now.core
LogsStay now (c ∷ cs) (r ∷ rs) (after ∷ moments) = Reaches now c r after × LogsStay after cs rs moments
LogsStay now (c ∷ cs) rs moments = ⊥

-- each object that is in use has one place, each log's bytes are 4,096, and no two cells name one place
abbrev pub IsWhole : State → Type 0
IsWhole t = ((p : ℕ) → HasOnePlace t p) × ((l : ℕ) → live_bytes t l + dead_bytes t l + unused_bytes t l ≡ 8 * LOG_WORDS) × NamesOnce t

-- the refusals that a command may have where its object is at hand: none for want of memory, none of a device, none that tells a mark
abbrev pub MayRefuse : Command → Refusal → Type 0
MayRefuse (Mutator m (New len ds)) Range = Unit {0}
MayRefuse (Mutator m (New len ds)) Length = Unit {0}
MayRefuse (Mutator m (New len ds)) NoPointer = Unit {0}
MayRefuse (Mutator m (New len ds)) NoRoom = Unit {0}
MayRefuse (Mutator m Open) Range = Unit {0}
MayRefuse (Mutator m Open) AlreadyOpen = Unit {0}
MayRefuse (Mutator m Close) Range = Unit {0}
MayRefuse (Mutator m Close) Closed = Unit {0}
MayRefuse (Mutator m (On p how)) Range = Unit {0}
MayRefuse (Mutator m (On p how)) Closed = Unit {0}
MayRefuse (Mutator m (On p how)) NotHeld = Unit {0}
MayRefuse (Mutator m (Where p)) Range = Unit {0}
MayRefuse (Mutator m (Where p)) NotHeld = Unit {0}
MayRefuse (Mutator m (Drop p)) Range = Unit {0}
MayRefuse (Mutator m (Drop p)) NotHeld = Unit {0}
MayRefuse (Mutator m (Drop p)) Held = Unit {0}
MayRefuse (Mutator m (Try p)) Range = Unit {0}
MayRefuse (Mutator m (Try p)) Closed = Unit {0}
MayRefuse (Mutator m (Try p)) NotHeld = Unit {0}
MayRefuse (Mutator m Epoch) Range = Unit {0}
MayRefuse (Mutator m Epoch) AlreadyOpen = Unit {0}
MayRefuse (Book (Log l)) Range = Unit {0}
MayRefuse (Evacuator (Select choice most)) WrongPhase = Unit {0}
MayRefuse (Evacuator (Select choice most)) EpochsSpent = Unit {0}
MayRefuse (Evacuator (Select (Script logs) most)) (BadChoice log) = Unit {0}
MayRefuse (Evacuator (Mark count)) WrongPhase = Unit {0}
MayRefuse (Evacuator Wait) WrongPhase = Unit {0}
MayRefuse (Evacuator Wait) (StillOpen mutator epoch) = Unit {0}
MayRefuse (Evacuator (Evacuate count)) WrongPhase = Unit {0}
MayRefuse (Evacuator Abort) WrongPhase = Unit {0}
MayRefuse (Evacuator (Round policy most turns)) WrongPhase = Unit {0}
MayRefuse (Evacuator (Round policy most turns)) EpochsSpent = Unit {0}
MayRefuse c why = ⊥

-- a line tells a log's kind and its live, dead and unused bytes, which make 4,096
pub record TellsLog (now : Moment) (line : LogLine) : Type 0 where
  pub kind : line.kind ≡ kind_in now line.log
  pub live : line.live ≡ live_bytes now.core line.log
  pub dead : line.dead ≡ dead_bytes now.core line.log
  pub unused : line.unused ≡ unused_bytes now.core line.log
  pub whole : line.live + line.dead + line.unused ≡ 8 * LOG_WORDS

-- the logs are told: one line for each, by number
abbrev pub TellsAll : Moment → Reply → Type 0
TellsAll now (Logs lines) = (map (λ line. line.log) lines ≡ range_with_len 0 now.core.logs) × ((line : LogLine) → Contains lines line → TellsLog now line)
TellsAll now _ = ⊥

-- what is told of a pointer's object is so: the cell says it; near, it has one span, at the place that is told, and in the world it is in that log; far, it is on the far side
abbrev pub TellsHome : State → ℕ → Home → Type 0
TellsHome s p (Near place marks) = (len ds : ℕ) × (o : Object) × (read_of (s.cell p) ≡ Some (pointer.Near len ds place marks)) × OneLive s p len ds place
    × ((world_of s).object p ≡ Some o) × (o.home ≡ Group place.log)
TellsHome s p (Far marks) = (len ds : ℕ) × (o : Object) × (read_of (s.cell p) ≡ Some (pointer.Far len ds marks)) × ((world_of s).object p ≡ Some o) × (o.home ≡ FarSide)

-- a number has an object in a group; or one on the far side
abbrev pub IsNearObject : State → ℕ → Type 0
IsNearObject s p = (o : Object) × (group : ℕ) × ((world_of s).object p ≡ Some o) × (o.home ≡ Group group)

abbrev pub IsFarObject : State → ℕ → Type 0
IsFarObject s p = (o : Object) × ((world_of s).object p ≡ Some o) × (o.home ≡ FarSide)

-- the counts are of what there is: each object is near or far, and is counted so; and what each log tells of its live bytes
pub record CountsAll (now : Moment) (counts : Counts) : Type 0 where
  pub near : IsHowMany (IsNearObject now.core) counts.near
  pub far : IsHowMany (IsFarObject now.core) counts.far
  pub live : (lines : List LogLine) (after : Moment) → Served now (Book AsksLogs) (Logs lines) after → counts.live ≡ sum (map (λ line. line.live) lines)

-- a mutator views nothing any more, and all others view what they did
pub record ViewsNothing (s t : State) (m : ℕ) : Type 0 where
  pub none : (q : ℕ) → q / CELLS ≡ m → t.held q ≡ None
  pub others : (q : ℕ) → q / CELLS ≢ m → t.held q ≡ s.held q

-- what a command with its reply does to the views
abbrev pub ViewsAfter : State → Command → Reply → State → Type 0
ViewsAfter s (Mutator m (On p how)) (Refused why) t = t.held ≡ s.held
ViewsAfter s (Mutator m (On p (Reads from len))) (Data bytes) t = ViewsObject s t p
ViewsAfter s (Mutator m (On p (Writes from bytes))) Done t = ViewsObject s t p
ViewsAfter s (Mutator m (On p Views)) Done t = ViewsObject s t p
ViewsAfter s (Mutator m (Try p)) Done t = ViewsObject s t p
ViewsAfter s (Mutator m Close) Done t = ViewsNothing s t m
ViewsAfter s c r t = t.held ≡ s.held

-- what a command that is no step takes of the logs: a new object its span; a dereference what it takes to bring its object; anything else nothing
abbrev pub CommandTakes : State → Command → Reply → State → Type 0
CommandTakes s (Mutator m (New len ds)) (Pointer p) t = TakesSpan s len None true t
CommandTakes s (Mutator m (On p how)) (Refused NoRoom) t = DereferenceLacks s p t
CommandTakes s (Mutator m (On p (Reads from len))) (Data bytes) t = DereferenceTakes s p t
CommandTakes s (Mutator m (On p (Writes from bytes))) Done t = DereferenceTakes s p t
CommandTakes s (Mutator m (On p Views)) Done t = DereferenceTakes s p t
CommandTakes s (Mutator m (Drop p)) Done t = DropTakes s (read_of (s.cell p)) t
CommandTakes s c r t = TakesNone s t

-- what any command with its reply takes of them: `evacuate` the room of what moves out of the logs that are chosen, a round that of what moves out of those that its policy takes; other steps nothing
abbrev pub TakesRoom : Moment → Command → Reply → Moment → Type 0
TakesRoom now (Evacuator (Evacuate count)) (Evacuated progress) after = MovesTake now (IsChosen now) after
TakesRoom now (Evacuator (Round policy most turns)) (Ended end) after = (logs : List ℕ) × Takes now (By policy) most logs × MovesTake now (Contains logs) after
TakesRoom now (Evacuator (Evacuate count)) (Halted why progress) after = MovesTake now (IsChosen now) after
TakesRoom now (Evacuator (Round policy most turns)) (Halted why progress) after = (logs : List ℕ) × Takes now (By policy) most logs × MovesTake now (Contains logs) after
TakesRoom now c r after = CommandTakes now.core c r after.core

-- a cell has HOT, on what it said before
abbrev pub IsHotAfter : State → State → ℕ → Type 0
IsHotAfter s t p = (v : PtrWord) → read_of (s.cell p) ≡ Some v → read_of (t.cell p) ≡ Some (with_mark Hot v)

-- the line has the mutator's number
abbrev pub IsSaidBy : ℕ → Command → Type 0
IsSaidBy m (Mutator k request) = m ≡ k
IsSaidBy m (Book inquiry) = ⊥
IsSaidBy m (Evacuator step) = ⊥

-- a reply that its lines tell in full: its numbers have 64 bits, and its bytes are bytes
pub record IsLineToldInFull (line : LogLine) : Type 0 where
  pub log : line.log < 2 ^ 64
  pub live : line.live < 2 ^ 64
  pub dead : line.dead < 2 ^ 64
  pub unused : line.unused < 2 ^ 64

abbrev pub AreToldInFull : List LogLine → Type 0
AreToldInFull [] = Unit {0}
AreToldInFull (line ∷ lines) = IsLineToldInFull line × AreToldInFull lines

abbrev pub IsRefusalToldInFull : Refusal → Type 0
IsRefusalToldInFull (MarkFound word) = word < 2 ^ 64
IsRefusalToldInFull (BadChoice log) = log < 2 ^ 64
IsRefusalToldInFull (StillOpen mutator epoch) = (mutator < 2 ^ 64) × (epoch < 2 ^ 64)
IsRefusalToldInFull (Syntax line) = line < 2 ^ 64
IsRefusalToldInFull why = Unit {0}

abbrev pub IsHomeToldInFull : Home → Type 0
IsHomeToldInFull (Near place marks) = (place.log < 2 ^ 64) × (place.at < 2 ^ 64)
IsHomeToldInFull (Far marks) = Unit {0}

abbrev pub AreCountsToldInFull : Counts → Type 0
AreCountsToldInFull counts = (counts.near < 2 ^ 64) × (counts.far < 2 ^ 64) × (counts.live < 2 ^ 64)

abbrev pub IsWaitToldInFull : Option ℕ → Type 0
IsWaitToldInFull None = Unit {0}
IsWaitToldInFull (Some epoch) = epoch < 2 ^ 64

abbrev pub AreToldAsNumbers : List ℕ → Type 0
AreToldAsNumbers [] = Unit {0}
AreToldAsNumbers (log ∷ logs) = (log < 2 ^ 64) × AreToldAsNumbers logs

pub record IsProgressToldInFull (progress : Progress) : Type 0 where
  pub moved : progress.moved < 2 ^ 64
  pub far : progress.far < 2 ^ 64
  pub dropped : progress.dropped < 2 ^ 64
  pub freed : progress.freed < 2 ^ 64

-- a round that is done says so
abbrev pub IsEndToldInFull : RoundEnd → Type 0
IsEndToldInFull (ends.Done progress) = IsProgressToldInFull progress × (progress.done ≡ true)
IsEndToldInFull ends.Nothing = Unit {0}
IsEndToldInFull (ends.Limit phase) = Unit {0}

abbrev pub IsToldInFull : Reply → Type 0
IsToldInFull Done = Unit {0}
IsToldInFull (Pointer pointer) = pointer < 2 ^ 64
IsToldInFull (Data bytes) = IsBytes bytes
IsToldInFull (Logs lines) = AreToldInFull lines
IsToldInFull (Lies home) = IsHomeToldInFull home
IsToldInFull (Audited counts) = AreCountsToldInFull counts
IsToldInFull (EpochRead epoch) = epoch < 2 ^ 64
IsToldInFull (Selected logs) = AreToldAsNumbers logs
IsToldInFull (Marked count waiting) = (count < 2 ^ 64) × IsWaitToldInFull waiting
IsToldInFull Clear = Unit {0}
IsToldInFull (Evacuated progress) = IsProgressToldInFull progress
IsToldInFull (Ended end) = IsEndToldInFull end
IsToldInFull (Refused why) = IsRefusalToldInFull why
IsToldInFull (Halted why progress) = KeepsNear why × IsProgressToldInFull progress × (progress.done ≡ false)

-- ---- the laws
-- a name after which the number of a log, or of objects, stands
abbrev pub CountsOthers : List ℕ → Type 0
CountsOthers name = (name ≡ codes "log") ⊎ (name ≡ codes "mark") ⊎ (name ≡ codes "evacuate")

-- among lines that say commands, a line says a mutator's exactly where the word after its name is the mutator's number, but for `log`, after which a log's number stands, and
-- for `mark` and `evacuate`, after which it says of how many objects
abbrev pub LinesAreNumbered : Type 0
LinesAreNumbered = (words : List (List ℕ)) (c : Command) (m : ℕ) → m < 2 ^ 64 → Says words (CommandLine c) →
    (IsSaidBy m c → (name : List ℕ) × (rest : List (List ℕ)) × (words ≡ name ∷ decimal m ∷ rest) × ¬ CountsOthers name)
    × ((name : List ℕ) (rest : List (List ℕ)) → words ≡ name ∷ decimal m ∷ rest → ¬ CountsOthers name → IsSaidBy m c)

-- what an output says, from its text on: where the text is read as a heap in range and commands, there are the replies and the moments of this output; the lines tell
-- the replies in full; each moment has the law, and in it objects are whole; the logs in which views rest stay; the replies to each mutator's lines are what its own
-- lines alone say; each step of the evacuator tells what has happened, and leaves objects elsewhere, and any other command leaves the round; each audit counts a
-- list of all objects and logs; the device fails, and lies, no more often than it is said to; and where it gave other bytes of an object, the object has these then, and all others
-- keep theirs
pub record IsSound (logs mutators epoch : ℕ) (device : Option SaidDevice) (cs : List Command) (output : List ℕ) : Type 0 where
  pub replies : List Reply
  pub moments : List Moment
  pub bytes : AllWriteBytes cs
  pub outside : List Outside
  pub made : AnsweredBy outside (first_moment logs mutators epoch (is_true device)) cs replies moments
  pub answered : Answered (first_moment logs mutators epoch (is_true device)) cs replies moments
  pub printed_so : output ≡ flat_map reply_text (opened device ++ replies)
  pub plain : All IsToldInFull replies
  pub lawful : All Lawful (first_moment logs mutators epoch (is_true device) ∷ moments)
  pub whole : All (λ (now : Moment). IsWhole now.core) (first_moment logs mutators epoch (is_true device) ∷ moments)
  pub stay : LogsStay (first_moment logs mutators epoch (is_true device)) cs replies moments
  pub alone : (m : ℕ) → m < mutators → Alone (gives_stored device) m nothing cs replies
  pub told : AllTold (first_moment logs mutators epoch (is_true device)) cs replies moments
  pub left : AllLeave (first_moment logs mutators epoch (is_true device)) cs replies moments
  pub counted : AllCounted (first_moment logs mutators epoch (is_true device)) cs replies moments
  pub fails : FailsAsSaid device replies
  pub lies : LiesAsSaid device outside (first_moment logs mutators epoch (is_true device)) cs moments
  pub given : AllGiven outside (first_moment logs mutators epoch (is_true device)) cs replies moments

abbrev pub OutputsAreSound : Type 0
OutputsAreSound = (text output : List ℕ) (logs mutators epoch : ℕ) (device : Option SaidDevice) (cs : List Command) → Answers text output → trace_of text ≡ Ok (Heap logs mutators epoch device cs) →
    is_shape (shape_of logs mutators epoch) ≡ true → IsSound logs mutators epoch device cs output

-- an output of what a text is read as, in which no reply says that memory was refused
abbrev pub IsAmple : Result Trace ℕ → List ℕ → Type 0
IsAmple (Ok (Heap logs mutators epoch device cs)) output =
    MatchBool (is_shape (shape_of logs mutators epoch))
    ((outside : List Outside) × (replies : List Reply) × (moments : List Moment) × ByDevice (lie_of device) (flaws device) outside (first_moment logs mutators epoch (is_true device)) cs moments
    × AnsweredBy outside (first_moment logs mutators epoch (is_true device)) cs replies moments
    × (output ≡ flat_map reply_text (opened device ++ replies)) × NoneLacks replies)
    (output ≡ reply_text (Refused Shape))
IsAmple read output = IsOutput read output

-- each text has such an output
abbrev pub EachTextIsAnswered : Type 0
EachTextIsAnswered = (text : List ℕ) → (output : List ℕ) × Answers text output × IsAmple (trace_of text) output

-- no device is said that is to fail or to lie
abbrev pub HasNoFlaw : Result Trace ℕ → Type 0
HasNoFlaw (Ok (Heap logs mutators epoch device cs)) = flaws device ≡ 0
HasNoFlaw read = Unit {0}

-- an output of commands of which the outside made this
abbrev pub IsMadeBy : List Outside → ℕ → ℕ → ℕ → Option SaidDevice → List Command → List ℕ → Type 0
IsMadeBy outside logs mutators epoch device cs output = (replies : List Reply) × (moments : List Moment) × AnsweredBy outside (first_moment logs mutators epoch (is_true device)) cs replies moments
    × (output ≡ flat_map reply_text (opened device ++ replies))

-- two outputs of one text are equal in which no reply says that memory was refused, where no device is said that is to fail or to lie
abbrev pub OneOutput : Type 0
OneOutput = (text a b : List ℕ) → HasNoFlaw (trace_of text) → IsAmple (trace_of text) a → IsAmple (trace_of text) b → a ≡ b

-- and whatever the outside refuses or gives, two are equal for which it made the same of each command
abbrev pub OutsideDecidesOutput : Type 0
OutsideDecidesOutput = (outside : List Outside) (logs mutators epoch : ℕ) (device : Option SaidDevice) (cs : List Command) (a b : List ℕ) →
    IsMadeBy outside logs mutators epoch device cs a → IsMadeBy outside logs mutators epoch device cs b → a ≡ b

-- whatever the outside makes of each command, its commands have one list of replies and one of moments
abbrev pub OutsideDecides : Type 0
OutsideDecides = (outside : List Outside) (now : Moment) (cs : List Command) (rs qs : List Reply) (ts us : List Moment) → AnsweredBy outside now cs rs ts → AnsweredBy outside now cs qs us → (rs ≡ qs) × (ts ≡ us)

-- what the commands of a text write is bytes
abbrev pub TextsWriteBytes : Type 0
TextsWriteBytes = (text : List ℕ) (logs mutators epoch : ℕ) (device : Option SaidDevice) (cs : List Command) → trace_of text ≡ Ok (Heap logs mutators epoch device cs) → AllWriteBytes cs

-- what lasts: each moment after a heap and commands has the law, and what it names is used
abbrev pub MomentsLast : Type 0
MomentsLast = (now : Moment) (cs : List Command) (rs : List Reply) (moments : List Moment) → IsMoment now → AllWriteBytes cs → Answered now cs rs moments → All Lawful (now ∷ moments)

-- each command is carried out by its events
abbrev pub EventsReach : Type 0
EventsReach = (now : Moment) (c : Command) (r : Reply) (after : Moment) → IsMoment now → WritesBytes c → Commanded now c r after → Reaches now c r after

-- a refused command leaves objects, bytes, places and all else as they were, but for marks that it may add to its object's cell, and whom a refused wait has seen clear
abbrev pub RefusalsStay : Type 0
RefusalsStay = (now : Moment) (c : Command) (r : Reply) (after : Moment) (why : Refusal) → Law now.core → Commanded now c r after → r ≡ Refused why → Stays c why now after

-- a refusal that comes before any pin leaves all, but for that of a wait since a scope is open
abbrev pub RefusalsChangeNothing : Type 0
RefusalsChangeNothing = (now : Moment) (c : Command) (r : Reply) (after : Moment) (why : Refusal) → ((p : ℕ) → ¬ MayMark c why p) → ¬ MaySee c why → Commanded now c r after → r ≡ Refused why → after ≡ now

-- a line of a mutator that the heap hasn't is refused 8
abbrev pub UnknownMutatorsAreRefused : Type 0
UnknownMutatorsAreRefused = (now : Moment) (c : Command) (r : Reply) (after : Moment) (m : ℕ) → IsSaidBy m c → now.core.mutators ≤ m → Commanded now c r after → r ≡ Refused Range

-- what `logs` tells
abbrev pub LogsAreTold : Type 0
LogsAreTold = (now : Moment) (r : Reply) (after : Moment) → Law now.core → Commanded now (Book AsksLogs) r after → TellsAll now r

-- what `where` answers
abbrev pub AnswersWhere : Moment → ℕ → ℕ → Reply → Type 0
AnswersWhere now m p r =
    (uses now.core m p ≡ true → (home : Home) × (r ≡ Lies home) × TellsHome now.core p home) × (uses now.core m p ≢ true → r ≡ Refused NotHeld)

-- `where` of a pointer that the mutator uses tells its object's place, and of any other is refused 7
abbrev pub WhereTells : Type 0
WhereTells = (now : Moment) (m p : ℕ) (r : Reply) (after : Moment) → Law now.core → m < now.core.mutators → Commanded now (Mutator m (Where p)) r after → AnswersWhere now m p r

-- what `epoch` answers, and what the mutator remembers then
abbrev pub AnswersEpoch : Moment → ℕ → Reply → Moment → Type 0
AnswersEpoch now m r after =
    (is_opened now.core m ≡ true → r ≡ Refused AlreadyOpen)
    × (is_opened now.core m ≡ false → (r ≡ EpochRead now.core.epoch) × (after.core ≡ record now.core { remembered = put now.core.remembered m (Some now.core.epoch) }))

-- `epoch` of a mutator whose scope is open is refused 6; of any other it tells the heap's epoch, which the mutator remembers, and all else stays
abbrev pub EpochsAreTold : Type 0
EpochsAreTold = (now : Moment) (m : ℕ) (r : Reply) (after : Moment) → m < now.core.mutators → Commanded now (Mutator m Epoch) r after → AnswersEpoch now m r after

-- at which epoch a closed scope opens
abbrev pub OpensAt : Moment → ℕ → Reply → Moment → Type 0
OpensAt now m r after =
    (r ≡ Done) × ((e : ℕ) → now.core.remembered m ≡ Some e → after.core.scope m ≡ 2 * e + 1) × (now.core.remembered m ≡ None → after.core.scope m ≡ 2 * now.core.epoch + 1)

-- a scope opens at the epoch that its mutator remembers, or else at the heap's
abbrev pub ScopesOpenAtEpochs : Type 0
ScopesOpenAtEpochs = (now : Moment) (m : ℕ) (r : Reply) (after : Moment) → m < now.core.mutators → is_opened now.core m ≡ false → Commanded now (Mutator m Open) r after → OpensAt now m r after

-- a close forgets the epoch that its mutator remembers
abbrev pub ClosesForget : Type 0
ClosesForget = (now : Moment) (m : ℕ) (after : Moment) → Commanded now (Mutator m Close) Done after → after.core.remembered m ≡ None

-- what `log` answers
abbrev pub AnswersLog : Moment → ℕ → Reply → Type 0
AnswersLog now l r =
    (l < now.core.logs → (lines : List LogLine) (later : Moment) → Served now (Book AsksLogs) (Logs lines) later → (line : LogLine) × (r ≡ Logs (line ∷ [])) × (line.log ≡ l) × Contains lines line)
    × (now.core.logs ≤ l → r ≡ Refused Range)

-- `log` of a log of the heap tells the line that `logs` has for it, and of any other is refused 8
abbrev pub LogTellsItsLine : Type 0
LogTellsItsLine = (now : Moment) (l : ℕ) (r : Reply) (after : Moment) → Commanded now (Book (Log l)) r after → AnswersLog now l r

-- `audit` counts each object, near and far, and the bytes that `logs` tells
abbrev pub AuditCounts : Type 0
AuditCounts = (now : Moment) (r : Reply) (after : Moment) → IsMoment now → Commanded now (Book Audit) r after → (counts : Counts) × (r ≡ Audited counts) × CountsAll now counts

-- what `drop` answers and does
abbrev pub AnswersDrop : Moment → ℕ → ℕ → Reply → Moment → Type 0
AnswersDrop now m p r after =
    (uses now.core m p ≢ true → r ≡ Refused NotHeld)
    × (uses now.core m p ≡ true → (world_of now.core).viewed p ≡ true → r ≡ Refused Held)
    × (uses now.core m p ≡ true → (world_of now.core).viewed p ≡ false → (r ≡ Done) × EndsObject now.core after.core p)

-- a drop of a pointer that the mutator doesn't use is refused 7; else, where the mutator views its object, 9, and else the object is ended
abbrev pub DropEndsObject : Type 0
DropEndsObject = (now : Moment) (m p : ℕ) (r : Reply) (after : Moment) → Law now.core → m < now.core.mutators → Commanded now (Mutator m (Drop p)) r after → AnswersDrop now m p r after

-- objects stay whole through commands
abbrev pub ObjectsStayWhole : Type 0
ObjectsStayWhole = (now : Moment) (cs : List Command) (rs : List Reply) (moments : List Moment) → IsMoment now → AllWriteBytes cs → Answered now cs rs moments →
    All (λ (x : Moment). IsWhole x.core) (now ∷ moments)

-- the logs in which views rest stay
abbrev pub ViewedLogsStay : Type 0
ViewedLogsStay = (now : Moment) (cs : List Command) (rs : List Reply) (moments : List Moment) → IsMoment now → AllWriteBytes cs → Answered now cs rs moments → LogsStay now cs rs moments

-- the replies to one mutator's lines are what its own lines alone say; where the device may lie, an object that it doesn't view may have other bytes when it asks for them
abbrev pub MutatorsAreAlone : Type 0
MutatorsAreAlone = (logs mutators epoch m : ℕ) (device : Option SaidDevice) (cs : List Command) (rs : List Reply) (moments : List Moment) → is_shape (shape_of logs mutators epoch) ≡ true → m < mutators → AllWriteBytes cs →
    Answered (first_moment logs mutators epoch (is_true device)) cs rs moments → Alone (is_true device) m nothing cs rs

-- after each command a mutator knows what the heap says of it; a command of others changes nothing of that
abbrev pub MutatorsLearn : Type 0
MutatorsLearn = (now : Moment) (c : Command) (r : Reply) (after : Moment) (m : ℕ) → IsMoment now → WritesBytes c → m < now.core.mutators → Commanded now c r after → Learns now.core m c r after.core

-- where its object is at hand, a command is refused so alone
abbrev pub NearRefusals : Type 0
NearRefusals = (now : Moment) (c : Command) (r : Reply) (after : Moment) (why : Refusal) → Law now.core → IsAtHandFor now c → Commanded now c r after → r ≡ Refused why → MayRefuse c why

-- a heap in range begins with the numbers on its line, over a device that tells what was written or may not, with the law, so that the laws above hold from its first moment on, and
-- with nothing in it
abbrev pub BeginsLawful : ℕ → ℕ → ℕ → Bool → Moment → Type 0
BeginsLawful logs mutators epoch honest now =
    (now.core.logs ≡ logs) × (now.core.mutators ≡ mutators) × (now.core.epoch ≡ epoch) × (now.core.honest ≡ honest) × Lawful now × IsWhole now.core
    × ((p : ℕ) → now.core.cell p ≡ 0) × ((l : ℕ) → now.core.tail l ≡ 0)

abbrev pub HeapsBeginLawful : Type 0
HeapsBeginLawful = (logs mutators epoch : ℕ) (honest : Bool) → is_shape (shape_of logs mutators epoch) ≡ true → BeginsLawful logs mutators epoch honest (first_moment logs mutators epoch honest)

-- the shapes that a heap line may say, in numerals
abbrev pub ShapesAre : Type 0
ShapesAre = (logs mutators epoch : ℕ) → (is_shape (shape_of logs mutators epoch) ≡ true) ↔ ((2 ≤ logs) × (logs ≤ 64) × (1 ≤ mutators) × (mutators ≤ 8) × (epoch < 2 ^ 62))

-- a mutator's lowest cell that is 0
abbrev pub IsLowest : Moment → ℕ → ℕ → Type 0
IsLowest now m p =
    (m * CELLS ≤ p) × (p < m * CELLS + CELLS) × (now.core.cell p ≡ 0) × ((q : ℕ) → m * CELLS ≤ q → q < p → now.core.cell q ≢ 0)

-- a new object's pointer is its owner's lowest cell that is 0
abbrev pub NewTakesTheLowest : Type 0
NewTakesTheLowest = (now : Moment) (m len ds p : ℕ) (after : Moment) → Commanded now (Mutator m (New len ds)) (Pointer p) after → IsLowest now m p

-- refused 3 only where none of the owner's cells is 0, and 2 only where there is no room
abbrev pub NoneIsLeft : Type 0
NoneIsLeft = (now : Moment) (m len ds : ℕ) (after : Moment) →
    (Commanded now (Mutator m (New len ds)) (Refused NoPointer) after → (q : ℕ) → m * CELLS ≤ q → q < m * CELLS + CELLS → now.core.cell q ≢ 0)
    × (Commanded now (Mutator m (New len ds)) (Refused NoRoom) after → room now.core (size_of len) true ≡ None)

-- what `new` in range answers
abbrev pub AnswersNew : Moment → ℕ → ℕ → Reply → Type 0
AnswersNew now m len r =
    (((q : ℕ) → m * CELLS ≤ q → q < m * CELLS + CELLS → now.core.cell q ≢ 0) → r ≡ Refused NoPointer)
    × ((q : ℕ) → m * CELLS ≤ q → q < m * CELLS + CELLS → now.core.cell q ≡ 0 →
    (room now.core (size_of len) true ≡ None → r ≡ Refused NoRoom) × ((place : Place) → room now.core (size_of len) true ≡ Some place → (p : ℕ) × (r ≡ Pointer p)))

-- a new object in range is refused 3 exactly where each of the owner's cells is taken, else 2 exactly where there is no room, and else made
abbrev pub NewIsMade : Type 0
NewIsMade = (now : Moment) (m len ds : ℕ) (r : Reply) (after : Moment) → m < now.core.mutators → ds < 256 → 0 < len → len ≤ LONGEST → Commanded now (Mutator m (New len ds)) r after → AnswersNew now m len r

-- what any command takes of the logs is what `TakesRoom` says: a new object and one that is brought for a view their span, steps that move objects the room of those that came
abbrev pub CommandsTakeRoom : Type 0
CommandsTakeRoom = (now : Moment) (c : Command) (r : Reply) (after : Moment) → IsMoment now → Commanded now c r after → TakesRoom now c r after

-- what `try` answers and does
abbrev pub AnswersTry : Moment → ℕ → ℕ → Reply → Moment → Type 0
AnswersTry now m p r after =
    ((world_of now.core).viewed p ≡ true → (r ≡ Done) × (after ≡ now))
    × ((world_of now.core).viewed p ≡ false → IsHotAfter now.core after.core p
    × (((len ds : ℕ) (place : Place) (marks : Marks) → read_of (now.core.cell p) ≡ Some (pointer.Near len ds place marks) → (marks.evac || marks.moved || marks.dropped) ≡ false → r ≡ Done)
    × (((len ds : ℕ) (place : Place) (marks : Marks) → read_of (now.core.cell p) ≡ Some (pointer.Near len ds place marks) → (marks.evac || marks.moved || marks.dropped) ≡ true) →
    r ≡ Refused (MarkFound (now.core.cell p)))))

-- a try of an object that its mutator uses, in its open scope, views it where it was viewed already, or its cell is near with none of EVAC, MOVE and DROP; else it is
-- refused 14 with the cell's word as it was. Unless it was viewed already, the cell has HOT from then on, whatever the answer
abbrev pub TriesAreAnswered : Type 0
TriesAreAnswered = (now : Moment) (m p : ℕ) (r : Reply) (after : Moment) → Law now.core → m < now.core.mutators → is_opened now.core m ≡ true → uses now.core m p ≡ true →
    Commanded now (Mutator m (Try p)) r after → AnswersTry now m p r after

-- what is read, written, viewed or tried is viewed until its mutator closes its scope; nothing else makes a view or takes one away
abbrev pub ViewsLast : Type 0
ViewsLast = (now : Moment) (c : Command) (r : Reply) (after : Moment) → IsMoment now → WritesBytes c → Commanded now c r after → ViewsAfter now.core c r after.core

-- a write changes the bytes of its range to the new ones, and no others
abbrev pub WritesChangeTheirRange : Type 0
WritesChangeTheirRange = (bytes new : List ℕ) (from : ℕ) → from + length new ≤ length bytes →
    (length (with_range bytes from new) ≡ length bytes)
    × ((k : ℕ) → k < from → slice_index (with_range bytes from new) k ≡ slice_index bytes k)
    × ((k : ℕ) → k < length new → slice_index (with_range bytes from new) (from + k) ≡ slice_index new k)
    × ((k : ℕ) → from + length new ≤ k → slice_index (with_range bytes from new) k ≡ slice_index bytes k)

-- of replies that are a mutator's alone, the reply to a line with its number says what it then knows, and the others say nothing of it
abbrev pub OwnLinesCount : Type 0
OwnLinesCount = (honest : Bool) (m : ℕ) (o : Own) (c : Command) (r : Reply) (cs : List Command) (rs : List Reply) → Alone honest m o (c ∷ cs) (r ∷ rs) →
    (IsSaidBy m c → (q : Own) × KnowsBy honest m o c r q × Alone honest m q cs rs) × (¬ IsSaidBy m c → Alone honest m o cs rs)

-- what `new` makes
abbrev pub MakesObject : Moment → ℕ → ℕ → ℕ → ℕ → Moment → Type 0
MakesObject now m len ds p after =
    (place : Place) × (room now.core (size_of len) true ≡ Some place)
    × ((world_of after.core).object ≡ put (world_of now.core).object p (Some record { owner = m; ds = ds; bytes = replicate len 0; home = Group place.log }))

-- a new object has its owner, its data structure and so many zeros, in the log of the place that room says; all other objects stay
abbrev pub NewMakesItsObject : Type 0
NewMakesItsObject = (now : Moment) (m len ds p : ℕ) (after : Moment) → IsMoment now → Commanded now (Mutator m (New len ds)) (Pointer p) after → MakesObject now m len ds p after
