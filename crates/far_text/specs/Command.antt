-- What a trace says: nothing, or a heap, what its device does wrong, and commands: the requests of a mutator, the inquiries of the book, and the steps of the evacuator; with the bytes of a write as they are stored.
use Rattle.std.specs.Prelude.{ℕ, List, Option}
use Rattle.far_text.specs.declared.command.Choice.{Choice as SpelledChoice}
use Rattle.far_text.specs.declared.command.Choice.TheVariants.{By as SpelledBy, Script as SpelledScript}
use Rattle.far_text.specs.declared.command.Command.{Command as Spelled}
use Rattle.far_text.specs.declared.command.Command.TheVariants.{Mutator as SpelledMutator, Book as SpelledBook, Evacuator as SpelledEvacuator}
use Rattle.far_text.specs.declared.command.Device.{Device as SpelledDevice}
use Rattle.far_text.specs.declared.command.Flaw.{Flaw as SpelledFlaw}
use Rattle.far_text.specs.declared.command.Flaw.TheVariants.{Fail as SpelledFail, Short as SpelledShort, Flip as SpelledFlip}
use Rattle.far_text.specs.declared.command.Inquiry.{Inquiry as SpelledInquiry}
use Rattle.far_text.specs.declared.command.Inquiry.TheVariants.{Logs as SpelledLogs, Log as SpelledLog, Audit as SpelledAudit}
use Rattle.far_text.specs.declared.command.Policy.{Policy as SpelledPolicy}
use Rattle.far_text.specs.declared.command.Policy.TheVariants.{Oldest as SpelledOldest, LeastLive as SpelledLeastLive}
use Rattle.far_text.specs.declared.command.Request.{Request as SpelledRequest}
use Rattle.far_text.specs.declared.command.Request.TheVariants.{New as SpelledNew, Open as SpelledOpen, Write as SpelledWrite, Read as SpelledRead, Close as SpelledClose, Where as SpelledWhere, Drop as SpelledDrop, View as SpelledView, Try as SpelledTry, Epoch as SpelledEpoch}
use Rattle.far_text.specs.declared.command.Step.{Step as SpelledStep}
use Rattle.far_text.specs.declared.command.Step.TheVariants.{Select as SpelledSelect, Mark as SpelledMark, Wait as SpelledWait, Evacuate as SpelledEvacuate, Abort as SpelledAbort, Round as SpelledRound}

-- what a mutator does with an object that is brought to it
pub data Use : Type 0 where
  Reads : (from len : ℕ) → Use
  Writes : (from : ℕ) (bytes : List ℕ) → Use
  Views : Use

-- what a mutator asks for
pub data Request : Type 0 where
  New : (len structure : ℕ) → Request
  Open : Request
  On : (pointer : ℕ) (how : Use) → Request
  Close : Request
  Where : (pointer : ℕ) → Request
  Drop : (pointer : ℕ) → Request
  Try : (pointer : ℕ) → Request
  Epoch : Request

-- what the book is asked
pub data Inquiry : Type 0 where
  Logs : Inquiry
  Log : (log : ℕ) → Inquiry
  Audit : Inquiry

-- which logs a round is to empty first: those that were sealed first, or those with the fewest live bytes
pub data Policy : Type 0 where
  Oldest : Policy
  LeastLive : Policy

-- how logs are chosen: by a policy, or as a script names them
pub data Choice : Type 0 where
  By : (policy : Policy) → Choice
  Script : (logs : List ℕ) → Choice

-- what the evacuator is asked for
pub data Step : Type 0 where
  Select : (choice : Choice) (most : ℕ) → Step
  Mark : (count : ℕ) → Step
  Wait : Step
  Evacuate : (count : ℕ) → Step
  Abort : Step
  Round : (policy : Policy) (most turns : ℕ) → Step

pub data Command : Type 0 where
  Mutator : (mutator : ℕ) (request : Request) → Command
  Book : (inquiry : Inquiry) → Command
  Evacuator : (step : Step) → Command

-- what is wrong in one call of a heap's device: it fails; or it lies, in a read that gives a byte less, or each byte inverted
pub data Flaw : Type 0 where
  Fail : Flaw
  Short : Flaw
  Flip : Flaw

-- a heap's device: what is wrong, and in which of the calls that are counted for that flaw, from 1; 0 is none
pub data Device : Type 0 where
  Flawed : (flaw : Flaw) (call : ℕ) → Device

-- what the words of a line say
pub data Entry : Type 0 where
  HeapLine : (logs mutators epoch : ℕ) → Entry
  DeviceLine : (device : Device) → Entry
  CommandLine : (command : Command) → Entry

-- what a text says
pub data Trace : Type 0 where
  Nothing : Trace
  Heap : (logs mutators epoch : ℕ) (device : Option Device) (commands : List Command) → Trace

-- what is asked so
abbrev pub as_request : SpelledRequest → Request
as_request (SpelledNew len structure) = New len structure
as_request SpelledOpen = Open
as_request (SpelledWrite pointer from bytes) = On pointer (Writes from bytes.now)
as_request (SpelledRead pointer from len) = On pointer (Reads from len)
as_request SpelledClose = Close
as_request (SpelledWhere pointer) = Where pointer
as_request (SpelledDrop pointer) = Drop pointer
as_request (SpelledView pointer) = On pointer Views
as_request (SpelledTry pointer) = Try pointer
as_request SpelledEpoch = Epoch

abbrev pub as_inquiry : SpelledInquiry → Inquiry
as_inquiry SpelledLogs = Logs
as_inquiry (SpelledLog log) = Log log
as_inquiry SpelledAudit = Audit

abbrev pub as_policy : SpelledPolicy → Policy
as_policy SpelledOldest = Oldest
as_policy SpelledLeastLive = LeastLive

abbrev pub as_flaw : SpelledFlaw → Flaw
as_flaw SpelledFail = Fail
as_flaw SpelledShort = Short
as_flaw SpelledFlip = Flip

abbrev pub as_device : SpelledDevice → Device
as_device device = Flawed (as_flaw device.flaw) device.call

abbrev pub as_choice : SpelledChoice → Choice
as_choice (SpelledBy policy) = By (as_policy policy)
as_choice (SpelledScript logs) = Script logs.now

abbrev pub as_step : SpelledStep → Step
as_step (SpelledSelect choice most) = Select (as_choice choice) most
as_step (SpelledMark count) = Mark count
as_step SpelledWait = Wait
as_step (SpelledEvacuate count) = Evacuate count
as_step SpelledAbort = Abort
as_step (SpelledRound policy most turns) = Round (as_policy policy) most turns

abbrev pub as_command : Spelled → Command
as_command (SpelledMutator mutator request) = Mutator mutator (as_request request)
as_command (SpelledBook inquiry) = Book (as_inquiry inquiry)
as_command (SpelledEvacuator step) = Evacuator (as_step step)
