-- What stands in the records of commands.
use Rattle.std.specs.Prelude.{ℕ, ◌+◌, ◌*◌, ◌≤◌, ◌^◌, List, [], ◌∷◌, slice_range}
use Rattle.far_text.specs.Command.{Command, Mutator, Book, New, Open, On, Reads, Writes, Views, Close, Where, Drop, Try, Epoch, Logs, Log, Audit, Evacuator, By, Script, Step, Select, Mark, Wait, Evacuate, Abort, Round, as_policy}
use Rattle.far_text.specs.declared.command.TheConstants.{MOST_CHOSEN}
use Rattle.far_text.specs.declared.number.Number.{Number}
use Rattle.far_text.specs.declared.commands.Record.{Record}
use Rattle.far_text.specs.declared.commands.Record.TheVariants.{New as NewRecord, Open as OpenRecord, Write as WriteRecord, Read as ReadRecord, Close as CloseRecord, Where as WhereRecord, Drop as DropRecord, View as ViewRecord, Try as TryRecord, Epoch as EpochRecord, Logs as LogsRecord, Log as LogRecord, Audit as AuditRecord, Evacuator as EvacuatorRecord}
use Rattle.far_text.specs.declared.steps.StepRecord.{StepRecord}
use Rattle.far_text.specs.declared.steps.StepRecord.TheVariants.{Select as SelectRecord, Script as ScriptRecord, Mark as MarkRecord, Wait as WaitRecord, Evacuate as EvacuateRecord, Abort as AbortRecord, Round as RoundRecord}

abbrev pub number_in : Number → ℕ
number_in n = n.high * 2 ^ 32 + n.low

-- the step of a record, where these are the bytes of all writes and scripts
abbrev pub step_in : List ℕ → StepRecord → Step
step_in bytes (SelectRecord policy most) = Select (By (as_policy policy)) most
step_in bytes (ScriptRecord most start count) = Select (Script (slice_range bytes start (start + count))) most
step_in bytes (MarkRecord count) = Mark (number_in count)
step_in bytes WaitRecord = Wait
step_in bytes (EvacuateRecord count) = Evacuate (number_in count)
step_in bytes AbortRecord = Abort
step_in bytes (RoundRecord policy most turns) = Round (as_policy policy) most (number_in turns)

-- the command of a record, where these are the bytes of all writes and scripts
abbrev pub command_in : List ℕ → Record → Command
command_in bytes (NewRecord mutator len structure) = Mutator (number_in mutator) (New (number_in len) (number_in structure))
command_in bytes (OpenRecord mutator) = Mutator (number_in mutator) Open
command_in bytes (WriteRecord mutator pointer from start count) =
    Mutator (number_in mutator) (On (number_in pointer) (Writes (number_in from) (slice_range bytes start (start + count))))
command_in bytes (ReadRecord mutator pointer from len) = Mutator (number_in mutator) (On (number_in pointer) (Reads (number_in from) (number_in len)))
command_in bytes (CloseRecord mutator) = Mutator (number_in mutator) Close
command_in bytes (WhereRecord mutator pointer) = Mutator (number_in mutator) (Where (number_in pointer))
command_in bytes (DropRecord mutator pointer) = Mutator (number_in mutator) (Drop (number_in pointer))
command_in bytes (ViewRecord mutator pointer) = Mutator (number_in mutator) (On (number_in pointer) Views)
command_in bytes (TryRecord mutator pointer) = Mutator (number_in mutator) (Try (number_in pointer))
command_in bytes (EpochRecord mutator) = Mutator (number_in mutator) Epoch
command_in bytes LogsRecord = Book Logs
command_in bytes (LogRecord log) = Book (Log (number_in log))
command_in bytes AuditRecord = Book Audit
command_in bytes (EvacuatorRecord step) = Evacuator (step_in bytes step)

-- the logs of a script are some of so many bytes, and a step chooses no more logs than may be chosen
abbrev pub IsStepWithin : ℕ → StepRecord → Type 0
IsStepWithin most (SelectRecord policy chosen) = chosen ≤ MOST_CHOSEN
IsStepWithin most (ScriptRecord chosen start count) = (start + count ≤ most) × (chosen ≤ MOST_CHOSEN)
IsStepWithin most (RoundRecord policy chosen turns) = chosen ≤ MOST_CHOSEN
IsStepWithin most other = Unit {0}

-- the bytes of a write or a script are some of so many
abbrev pub IsWithin : ℕ → Record → Type 0
IsWithin most (WriteRecord mutator pointer from start count) = start + count ≤ most
IsWithin most (EvacuatorRecord step) = IsStepWithin most step
IsWithin most other = Unit {0}

abbrev pub AreWithin : ℕ → List Record → Type 0
AreWithin most [] = Unit {0}
AreWithin most (one ∷ others) = IsWithin most one × AreWithin most others
