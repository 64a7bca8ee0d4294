-- What a text was read as.
use Rattle.std.specs.Prelude.{List, [], ◌∷◌, ◌++◌, Option, Some, None}
use Rattle.std.specs.Option.{option_map}
use Rattle.far_text.specs.Command.{Command, HeapLine, DeviceLine, CommandLine, Trace, Nothing, Heap, as_device}
use Rattle.far_text.specs.Grammar.{Line, Skipped, Saying, Bad}
use Rattle.far_text.specs.declared.text.Trace.{Trace as ParsedTrace}
use Rattle.far_text.specs.declared.text.Trace.TheVariants.{Nothing as ParsedNothing, Heap as ParsedHeap}

abbrev pub as_trace : ParsedTrace → Trace
as_trace ParsedNothing = Nothing
as_trace (ParsedHeap logs mutators epoch device commands) = Heap logs mutators epoch (option_map as_device device) commands

-- the commands so far, and that of a line after the heap's; None where it is off the grammar there
abbrev pub with_line : List Command → Line → Option (List Command)
with_line commands Skipped = Some commands
with_line commands (Saying (HeapLine logs mutators epoch)) = None
with_line commands (Saying (DeviceLine device)) = None
with_line commands (Saying (CommandLine command)) = Some (commands ++ command ∷ [])
with_line commands Bad = None
