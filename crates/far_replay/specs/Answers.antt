-- What is written for a text.
use Rattle.std.specs.Prelude.{◌≡◌, ◌⊎◌, ℕ, zero, suc, Bool, true, false, Option, Some, None, List, [], ◌∷◌, ◌++◌, Result, Ok, Err, if◌then◌else◌}
use Rattle.std.specs.Bool.{MatchBool}
use Rattle.std.specs.List.{flat_map}
use Rattle.std.specs.Io.KnownBytes.{Appends, Keeps}
use Rattle.far_word.specs.declared.refused.Refused.TheVariants.{Damaged, Device as Failed, Memory, Shape, Syntax}
use Rattle.far_events.specs.declared.shape.Shape.{Shape as Size}
use Rattle.far_events.specs.state.Opening.{opening}
use Rattle.far_events.specs.state.Shape.{is_shape}
use Rattle.far_device.specs.Liar.{is_honest}
use Rattle.far_device.specs.declared.liar.Lie.{Lie}
use Rattle.far_device.specs.declared.liar.Lie.TheVariants.{Never, Short as Shortens, Flip as Inverts}
use Rattle.far_word.specs.Pointer.{read_of}
use Rattle.far_text.specs.Command.{Command, Device, Flawed, Short, Flip, Trace, Nothing, Heap}
use Rattle.far_text.specs.Grammar.{trace_of}
pub use Rattle.far_replay.specs.Commanded.{Commanded, CommandedBy, Outside, Serves, Refuses, Gives, Lacks, Served, Stopped, Unbrought, StopsLeaving, StopsRound, Misled, MisledBy}
use Rattle.far_replay.specs.Far.{FarBytes, HoldsBy, ToldBy}
use Rattle.far_replay.specs.Moment.{KeptBack, Moment, as_if_stored, moment_of}
use Rattle.far_reply.specs.Reply.{Reply, Done, Refused, reply_text}
use Rattle.far_replay.specs.declared.running.End.{End}
use Rattle.far_replay.specs.declared.running.End.TheVariants.{Ran, Refused as Turned}
use Rattle.far_replay.specs.declared.running.RunFault.{RunFault}
use Rattle.far_replay.specs.declared.running.RunFault.TheVariants as faults
use Rattle.far_reply.specs.Stream.{AppendsFront, AppendsPart}
use Rattle.far_text.specs.Written.{WritesBytes}

-- one reply a command, and a list of moments, each after its command from the one before
abbrev pub Answered : Moment → List Command → List Reply → List Moment → Type 0
Answered now [] [] [] = Unit {0}
Answered now (c ∷ cs) (r ∷ rs) (after ∷ moments) = Commanded now c r after × Answered after cs rs moments
Answered now _ _ _ = ⊥

-- the same, where this was made of each command by the outside
abbrev pub AnsweredBy : List Outside → Moment → List Command → List Reply → List Moment → Type 0
AnsweredBy [] now [] [] [] = Unit {0}
AnsweredBy (o ∷ os) now (c ∷ cs) (r ∷ rs) (after ∷ moments) = CommandedBy o now c r after × AnsweredBy os after cs rs moments
AnsweredBy _ now _ _ _ = ⊥

-- what a command comes to by the flaw of a device. One that doesn't lie fails: the command is refused so. One that gives a byte too few has it refused as damaged; one that inverts
-- bytes gives others
abbrev pub IsFlaw : Lie → Outside → Type 0
IsFlaw Never (Refuses why turns objects) = why ≡ Failed
IsFlaw Shortens (Refuses why turns objects) = why ≡ Damaged
IsFlaw Inverts (Gives row inverts) = Unit {0}
IsFlaw lie o = ⊥

-- no more than so many commands come to that; each other one is served, refused memory, or given what the device holds as it is
abbrev pub FlawedAtMost : Lie → ℕ → List Outside → Type 0
FlawedAtMost lie n [] = Unit {0}
FlawedAtMost lie n (Serves ∷ os) = FlawedAtMost lie n os
FlawedAtMost lie n (Lacks turns objects ∷ os) = FlawedAtMost lie n os
FlawedAtMost lie zero (Refuses why turns objects ∷ os) = ⊥
FlawedAtMost lie (suc n) (Refuses why turns objects ∷ os) = IsFlaw lie (Refuses why turns objects) × FlawedAtMost lie n os
FlawedAtMost lie n (Gives row false ∷ os) = FlawedAtMost lie n os
FlawedAtMost lie zero (Gives row true ∷ os) = ⊥
FlawedAtMost lie (suc n) (Gives row true ∷ os) = IsFlaw lie (Gives row true) × FlawedAtMost lie n os

-- from what a device held on: each command leaves there what it may, and is told of that
abbrev pub FarAlong : FarBytes → Moment → List Outside → List Command → List Moment → Type 0
FarAlong held now [] [] [] = Unit {0}
FarAlong held now (o ∷ os) (c ∷ cs) (after ∷ moments) = (later : FarBytes) × HoldsBy c now.core after.core held later × ToldBy o now c held × FarAlong later after os cs moments
FarAlong held now os cs moments = ⊥

-- it gave words of an object
abbrev pub gives_some : List Outside → Bool
gives_some [] = false
gives_some (Gives row inverts ∷ os) = true
gives_some (o ∷ os) = gives_some os

-- what a device made of commands: no more than so many of them come to its flaw. If it gave words, it told them of bytes that it held since some before the first command
pub record ByDevice (lie : Lie) (n : ℕ) (outside : List Outside) (now : Moment) (cs : List Command) (moments : List Moment) : Type 0 where
  pub few : FlawedAtMost lie n outside
  pub along : gives_some outside ≡ true → (held : FarBytes) × FarAlong held now outside cs moments

-- what a heap's device tells in one read, in place of the bytes
abbrev pub lie_of : Option Device → Lie
lie_of (Some (Flawed Short (suc call))) = Shortens
lie_of (Some (Flawed Flip (suc call))) = Inverts
lie_of device = Never

-- whether what is read of it is always what was written
abbrev pub is_true : Option Device → Bool
is_true device = is_honest (lie_of device) true

-- how many of its calls have its flaw
abbrev pub flaws : Option Device → ℕ
flaws None = 0
flaws (Some (Flawed flaw zero)) = 0
flaws (Some (Flawed flaw (suc call))) = 1

-- the replies before those of commands: to the heap, and to its device if it is said
abbrev pub opened : Option Device → List Reply
opened None = Done ∷ []
opened (Some device) = Done ∷ Done ∷ []

-- the shape that a heap line says
abbrev pub shape_of : ℕ → ℕ → ℕ → Size
shape_of logs mutators epoch = record { logs = logs; mutators = mutators; epoch = epoch }

-- the first moment of a heap, whose device tells what was written or may not
abbrev pub first_moment : ℕ → ℕ → ℕ → Bool → Moment
first_moment logs mutators epoch honest = moment_of (opening (shape_of logs mutators epoch) honest)

-- a moment to which a heap in range comes by commands; and also one whose device isn't honest, and which has other words stored of an object in use, as many as it has where the device is to
-- hold bytes of it: to whoever reads what a lying device gives they are
pub data IsMoment : Moment → Type 0 where
  Begins : {x : Moment} (logs mutators epoch : ℕ) (honest : Bool) → is_shape (shape_of logs mutators epoch) ≡ true → x ≡ first_moment logs mutators epoch honest → IsMoment x
  Comes : {x : Moment} (now : Moment) (c : Command) (r : Reply) → IsMoment now → WritesBytes c → Served now c r x → IsMoment x
  Stores : {x : Moment} (now : Moment) (p : ℕ) (row : ℕ → ℕ) → IsMoment now → now.core.honest ≡ false → now.core.used p ≡ true → KeptBack row (read_of (now.core.cell p)) → x ≡ as_if_stored now p row → IsMoment x

-- the output of what a text is read as: off the grammar that refusal alone; for nothing nothing; for a heap out of range its
-- refusal alone; else `ok`, another for its device if it is said, and the lines of the replies, from the heap's first moment on; one command at most comes to what the device's flaw makes of it, any may be refused memory, and any may be given what the device holds
abbrev pub IsOutput : Result Trace ℕ → List ℕ → Type 0
IsOutput (Err line) output = output ≡ reply_text (Refused (Syntax line))
IsOutput (Ok Nothing) output = output ≡ []
IsOutput (Ok (Heap logs mutators epoch device commands)) output =
    MatchBool (is_shape (shape_of logs mutators epoch))
    ((outside : List Outside) × (replies : List Reply) × (moments : List Moment) × ByDevice (lie_of device) (flaws device) outside (first_moment logs mutators epoch (is_true device)) commands moments
    × AnsweredBy outside (first_moment logs mutators epoch (is_true device)) commands replies moments
    × (output ≡ flat_map reply_text (opened device ++ replies)))
    (output ≡ reply_text (Refused Shape))

-- how a text ends that is read so: `Ran` for nothing and for a heap in range
abbrev pub end_of : Result Trace ℕ → End
end_of (Ok Nothing) = Ran
end_of (Ok (Heap logs mutators epoch device commands)) = if is_shape (shape_of logs mutators epoch) then Ran else Turned
end_of (Err line) = Turned

-- what was written is the output of what was read
abbrev pub WritesOutput : Option (List ℕ) → Option (List ℕ) → Result Trace ℕ → Type 0
WritesOutput old new read = (output : List ℕ) × IsOutput read output × Appends old new output

-- a heap of this shape may be refused memory
abbrev pub MayMakeHeap : Result Trace ℕ → Type 0
MayMakeHeap (Ok (Heap logs mutators epoch device commands)) = is_shape (shape_of logs mutators epoch) ≡ true
MayMakeHeap _ = ⊥

-- what a fault leaves: a failed write, a proper prefix of the output; out of memory before the first command, nothing, or where there is a heap a prefix of the one line that says so;
-- a failed read, nothing
abbrev pub LeavesBehind : RunFault → Option (List ℕ) → Option (List ℕ) → Result Trace ℕ → Type 0
LeavesBehind faults.Write old new read = (output : List ℕ) × IsOutput read output × AppendsPart old new output
LeavesBehind faults.Memory old new read =
    Keeps old new ⊎ (MayMakeHeap read × AppendsFront old new (reply_text (Refused Memory)))
LeavesBehind faults.Read old new read = Keeps old new

-- this is the output for the text
abbrev pub Answers : List ℕ → List ℕ → Type 0
Answers text output = IsOutput (trace_of text) output

-- what was written is the output for the text
abbrev pub WritesAnswer : Option (List ℕ) → Option (List ℕ) → List ℕ → Type 0
WritesAnswer old new text = WritesOutput old new (trace_of text)

-- what a fault leaves of it
abbrev pub Leaves : RunFault → Option (List ℕ) → Option (List ℕ) → List ℕ → Type 0
Leaves fault old new text = LeavesBehind fault old new (trace_of text)
