-- What a whole text says: its lines in order, each passed over, the heap's, its device's, or a command; and which line is the first that says nothing.
use Rattle.std.specs.Prelude.{◌≡◌, ◌⊎◌, ◌↔◌, ℕ, ◌+◌, ◌<◌, ◌≤◌, ◌==◌, not, true, Ok, Err, List, [], ◌∷◌, ◌++◌, Option, Some, None, length, slice_index}
use Rattle.std.specs.List.{join_with_byte, list_all}
use Rattle.far_text.specs.Command.{Command, Device, Entry, HeapLine, DeviceLine, CommandLine, Trace, Nothing, Heap}
use Rattle.far_text.specs.Grammar.{line_words, lines_of, trace_of}
use Rattle.far_text.specs.Says.{Says}
use Rattle.far_text.specs.declared.hex_word.TheConstants.{LONGEST_LINE}
use Rattle.far_text.specs.declared.text.TheConstants.{LONGEST_TEXT}

-- an empty line, or a comment: ASCII, and not too long
abbrev pub IsPassed : List ℕ → Type 0
IsPassed line = (length line ≤ LONGEST_LINE) × ((k : ℕ) → k < length line → slice_index line k < 128) × ((line ≡ []) ⊎ ((rest : List ℕ) × (line ≡ 35 ∷ rest)))

-- a line that says a heap, a device or a command, not too long
abbrev pub Speaks : List ℕ → Entry → Type 0
Speaks line e = (length line ≤ LONGEST_LINE) × Says (line_words line) e

-- these lines say these commands and no others, in order
abbrev pub LinesSay : List (List ℕ) → List Command → Type 0
LinesSay [] [] = Unit {0}
LinesSay [] (c ∷ cs) = ⊥
LinesSay (line ∷ lines) cs =
    (IsPassed line × LinesSay lines cs)
    ⊎ ((c : Command) × (later : List Command) × (cs ≡ c ∷ later) × Speaks line (CommandLine c) × LinesSay lines later)

-- of the lines after the heap's, those from which on commands stand: all, where none says a device; else one says it, those before it say nothing, and these stand after it
abbrev pub Beside : Option Device → List (List ℕ) → List (List ℕ) → Type 0
Beside None rest more = more ≡ rest
Beside (Some device) rest more = (between : List (List ℕ)) × (line : List ℕ) × (rest ≡ between ++ line ∷ more) × LinesSay between [] × Speaks line (DeviceLine device)

-- these lines say nothing; or one says the heap, those before it say nothing, and those after it say its device, if that is said, and then the commands
abbrev pub LinesAre : List (List ℕ) → Trace → Type 0
LinesAre lines Nothing = LinesSay lines []
LinesAre lines (Heap logs mutators epoch device cs) = (front : List (List ℕ)) × (line : List ℕ) × (rest more : List (List ℕ)) × (lines ≡ front ++ line ∷ rest)
    × LinesSay front [] × Speaks line (HeapLine logs mutators epoch) × Beside device rest more × LinesSay more cs

-- a text that is not too long and whose lines say this
abbrev pub TextSays : List ℕ → Trace → Type 0
TextSays text t = (length text ≤ LONGEST_TEXT) × LinesAre (lines_of text) t

-- a line says a device where one may stand: after the heap's line, where nothing else was said
abbrev pub MaySayDevice : Option Device → List Command → List ℕ → Type 0
MaySayDevice None [] line = (device : Device) × Speaks line (DeviceLine device)
MaySayDevice device cs line = ⊥

-- a line that is neither passed over nor says what may stand here: the heap where nothing was said, after it a command, or first its device
abbrev pub SaysNothing : Trace → List ℕ → Type 0
SaysNothing Nothing line = (¬ IsPassed line) × ((logs mutators epoch : ℕ) → ¬ Speaks line (HeapLine logs mutators epoch))
SaysNothing (Heap logs mutators epoch device cs) line = (¬ IsPassed line) × ((c : Command) → ¬ Speaks line (CommandLine c)) × (¬ MaySayDevice device cs line)

-- line n of these, counted from a number on, is the first that says nothing
abbrev pub FirstBad : ℕ → List (List ℕ) → ℕ → Type 0
FirstBad number lines n = (front : List (List ℕ)) × (bad : List ℕ) × (rest : List (List ℕ)) × (t : Trace)
    × (lines ≡ front ++ bad ∷ rest) × (n ≡ number + length front) × LinesAre front t × SaysNothing t bad

-- ---- the laws
-- a text is read as something exactly where it says it
abbrev pub TextsAreRead : Type 0
TextsAreRead = (text : List ℕ) (t : Trace) → TextSays text t ↔ (trace_of text ≡ Ok t)

-- else it is too long, or line n is the first that says nothing
abbrev pub FirstBadLines : Type 0
FirstBadLines = (text : List ℕ) (n : ℕ) → trace_of text ≡ Err n → ((n ≡ 0) × (LONGEST_TEXT < length text)) ⊎ ((length text ≤ LONGEST_TEXT) × FirstBad 1 (lines_of text) n)

-- none of the parts has this byte
abbrev pub HaveNone : ℕ → List (List ℕ) → Type 0
HaveNone byte parts = list_all (list_all (λ b. not (b == byte))) parts ≡ true

-- lines have no newline, and joined by newlines they are the text; words have no space, and joined by spaces they are the line
abbrev pub CutsJoin : Type 0
CutsJoin = (bytes : List ℕ) → HaveNone 10 (lines_of bytes) × (join_with_byte 10 (lines_of bytes) ≡ bytes) × HaveNone 32 (line_words bytes) × (join_with_byte 32 (line_words bytes) ≡ bytes)
