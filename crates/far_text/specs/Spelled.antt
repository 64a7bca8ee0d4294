-- What the words of a line spell as they are read, the bytes of a write still in hex, and the logs of a script still printed: nothing, where these are no bytes, or no logs.
use Rattle.std.specs.Prelude.{Option, Some}
use Rattle.std.specs.Option.{option_map}
use Rattle.far_text.specs.Command.{Command, Entry, HeapLine, DeviceLine, CommandLine, Mutator, Book, Request, On, Writes, Evacuator, Choice, By, Script, Step, Select, Round, as_device, as_inquiry, as_policy, as_request, as_step}
use Rattle.far_text.specs.Cursor.{words_in}
use Rattle.far_text.specs.Grammar.{bytes_in, logs_of, limited, Line, Skipped, saying}
use Rattle.far_text.specs.declared.command.Choice.{Choice as SpelledChoice}
use Rattle.far_text.specs.declared.command.Choice.TheVariants.{By as SpelledBy, Script as SpelledScript}
use Rattle.far_text.specs.declared.command.Command.{Command as SpelledCommand}
use Rattle.far_text.specs.declared.command.Command.TheVariants.{Mutator as SpelledMutator, Book as SpelledBook, Evacuator as SpelledEvacuator}
use Rattle.far_text.specs.declared.command.Entry.{Entry as SpelledEntry}
use Rattle.far_text.specs.declared.command.Entry.TheVariants.{Heap as SpelledHeapLine, Device as SpelledDeviceLine, Command as SpelledCommandLine}
use Rattle.far_text.specs.declared.command.Request.{Request as SpelledRequest}
use Rattle.far_text.specs.declared.command.Request.TheVariants.{Write as SpelledWrite}
use Rattle.far_text.specs.declared.command.Step.{Step as SpelledStep}
use Rattle.far_text.specs.declared.command.Step.TheVariants.{Select as SpelledSelect, Round as SpelledRound}
use Rattle.far_text.specs.declared.line.Line.{Line as SpelledLine}
use Rattle.far_text.specs.declared.line.Line.TheVariants.{Skipped as SpelledSkipped, Said as SpelledSaid}

abbrev pub request_spelled : SpelledRequest → Option Request
request_spelled (SpelledWrite pointer from word) = option_map (λ bytes. On pointer (Writes from bytes)) (bytes_in word.now)
request_spelled request = Some (as_request request)

abbrev pub choice_spelled : SpelledChoice → Option Choice
choice_spelled (SpelledBy policy) = Some (By (as_policy policy))
choice_spelled (SpelledScript words) = option_map Script (logs_of (words_in words.now))

abbrev pub step_spelled : SpelledStep → Option Step
step_spelled (SpelledSelect choice most) = limited most (option_map (λ choice. Select choice most) (choice_spelled choice))
step_spelled (SpelledRound policy most turns) = limited most (Some (Round (as_policy policy) most turns))
step_spelled step = Some (as_step step)

abbrev pub command_spelled : SpelledCommand → Option Command
command_spelled (SpelledMutator mutator request) = option_map (Mutator mutator) (request_spelled request)
command_spelled (SpelledBook inquiry) = Some (Book (as_inquiry inquiry))
command_spelled (SpelledEvacuator step) = option_map Evacuator (step_spelled step)

abbrev pub entry_spelled : SpelledEntry → Option Entry
entry_spelled (SpelledHeapLine logs mutators epoch) = Some (HeapLine logs mutators epoch)
entry_spelled (SpelledDeviceLine device) = Some (DeviceLine (as_device device))
entry_spelled (SpelledCommandLine command) = option_map CommandLine (command_spelled command)

-- the line that is spelled so
abbrev pub as_line : SpelledLine → Line
as_line SpelledSkipped = Skipped
as_line (SpelledSaid entry) = saying (entry_spelled entry)
