-- How a text is read whose commands are split among threads: after the lines of the heap and of its device each line says a command that one of them runs.
use Rattle.std.specs.Prelude.{ℕ, ◌+◌, nat_lt, Result, Ok, Err, Option, Some, None, List, [], ◌∷◌, length, if◌then◌else◌}
use Rattle.far_text.specs.Command.{Command, HeapLine, DeviceLine, Device, CommandLine}
use Rattle.far_text.specs.Grammar.{Line, Skipped, Saying, Bad, line_of, lines_of, beside}
use Rattle.far_text.specs.HeapSought.{Found, NoHeap, HeapAt, heap_sought}
use Rattle.far_text.specs.Threads.{has_thread}
use Rattle.far_text.specs.declared.text.TheConstants.{LONGEST_TEXT}

-- what such a text says: nothing, or a heap, its device if that is said, and commands, each beside its line's number
pub data SplitTrace : Type 0 where
  NothingSplit : SplitTrace
  SplitHeap : (logs mutators epoch : ℕ) (device : Option Device) (lines : List (ℕ × Command)) → SplitTrace

-- a command that one of the threads of so many mutators, or of the book, runs
abbrev pub threaded : ℕ → Command → Option Command
threaded mutators command = if has_thread mutators command then Some command else None

abbrev pub onto_lines : ℕ × Command → Result (List (ℕ × Command)) ℕ → Result (List (ℕ × Command)) ℕ
onto_lines line (Ok lines) = Ok (line ∷ lines)
onto_lines line (Err number) = Err number

-- a command beside its line's number, in front of those of later lines, if it has a thread
abbrev pub threaded_onto : ℕ → Option Command → Result (List (ℕ × Command)) ℕ → Result (List (ℕ × Command)) ℕ
threaded_onto number (Some command) later = onto_lines (number, command) later
threaded_onto number None later = Err number

-- what a line after the heap's makes of what the lines after it are read as
abbrev pub split_command : ℕ → ℕ → Line → Result (List (ℕ × Command)) ℕ → Result (List (ℕ × Command)) ℕ
split_command mutators number Skipped later = later
split_command mutators number (Saying (HeapLine logs more epoch)) later = Err number
split_command mutators number (Saying (DeviceLine device)) later = Err number
split_command mutators number (Saying (CommandLine command)) later = threaded_onto number (threaded mutators command) later
split_command mutators number Bad later = Err number

-- the commands of the lines from this number on, or the number of the first that says none, or one without a thread
abbrev pub split_commands : ℕ → ℕ → List (List ℕ) → Result (List (ℕ × Command)) ℕ
split_commands mutators number [] = Ok []
split_commands mutators number (line ∷ lines) = split_command mutators number (line_of line) (split_commands mutators (number + 1) lines)

abbrev pub with_lines : ℕ → ℕ → ℕ → Option Device → Result (List (ℕ × Command)) ℕ → Result SplitTrace ℕ
with_lines logs mutators epoch device (Ok lines) = Ok (SplitHeap logs mutators epoch device lines)
with_lines logs mutators epoch device (Err number) = Err number

-- what the lines after a heap's say, the device's first if it is said
abbrev pub split_after : ℕ → ℕ → ℕ → Option Device × ℕ × List (List ℕ) → Result SplitTrace ℕ
split_after logs mutators epoch after = with_lines logs mutators epoch after.0 (split_commands mutators after.1 after.2)

-- what the lines say, by what is found of a heap
abbrev pub split_from : Result Found ℕ → Result SplitTrace ℕ
split_from (Ok NoHeap) = Ok NothingSplit
split_from (Ok (HeapAt logs mutators epoch number after)) = split_after logs mutators epoch (beside (number + 1) after)
split_from (Err number) = Err number

-- what a text says, or the number of its first line that isn't read so, 0 where it is too long
abbrev pub split_of : List ℕ → Result SplitTrace ℕ
split_of text = if nat_lt LONGEST_TEXT (length text) then Err 0 else split_from (heap_sought 1 (lines_of text))
