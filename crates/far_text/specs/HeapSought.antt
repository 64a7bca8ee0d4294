-- Where the heap's line stands in a text: the first line that says anything.
use Rattle.std.specs.Prelude.{ℕ, ◌+◌, Result, Ok, Err, List, [], ◌∷◌}
use Rattle.far_text.specs.Command.{HeapLine, DeviceLine, CommandLine}
use Rattle.far_text.specs.Grammar.{Line, Skipped, Saying, Bad, line_of}

-- no line says anything; or this line says a heap, and these stand after it
pub data Found : Type 0 where
  NoHeap : Found
  HeapAt : (logs mutators epoch number : ℕ) (after : List (List ℕ)) → Found

-- what a line makes of what is found after it
abbrev pub found_at : ℕ → Line → List (List ℕ) → Result Found ℕ → Result Found ℕ
found_at number Skipped after later = later
found_at number (Saying (HeapLine logs mutators epoch)) after later = Ok (HeapAt logs mutators epoch number after)
found_at number (Saying (DeviceLine device)) after later = Err number
found_at number (Saying (CommandLine command)) after later = Err number
found_at number Bad after later = Err number

-- the heap's line among the lines from this number on, or the number of the first that says anything else
abbrev pub heap_sought : ℕ → List (List ℕ) → Result Found ℕ
heap_sought number [] = Ok NoHeap
heap_sought number (line ∷ lines) = found_at number (line_of line) lines (heap_sought (number + 1) lines)
