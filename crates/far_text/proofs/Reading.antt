-- Commands read so far, in front of those that the rest of the text says.
use Rattle.std.proofs.Common.{◌≡◌, ℕ, ◌+◌, ◌≤◌, ◌==◌, suc, nat_lt, List, [], ◌∷◌, ◌++◌, length, length-append, map, Option, Some, None, Result, Ok, Err, false, sym, ◌∙◌, ap, refl, append_assoc, arith}
use Rattle.std.proofs.lemmas.Bool.{lt-leb}
use Rattle.std.proofs.lemmas.List.Sums.{count_by-le-length}
use Rattle.std.proofs.lemmas.List.Splits.{length-slice_split}
use Rattle.far_text.specs.declared.text.TheConstants.{LONGEST_TEXT}
use Rattle.far_text.specs.declared.text.ParseError.{ParseError}
use Rattle.far_text.specs.declared.text.ParseError.TheVariants.{Memory, Syntax}
use Rattle.std.specs.Option.{option_map}
use Rattle.std.proofs.lemmas.Option.{none-some, same_Some}
use Rattle.far_text.specs.Command.{Command, HeapLine, DeviceLine, CommandLine, Trace, Nothing}
use Rattle.far_text.specs.Cursor.{first_line, lines_after_first}
use Rattle.far_text.specs.Grammar.{Line, Skipped, Saying, Bad, Sought, NoDevice, DeviceAt, stands, beside, device_at, device_sought, saying, onto, line_of, lines_of, read_after, read_command, read_commands, read_heap, read_lines, trace_of, IsFault}
use Rattle.far_text.specs.Parsed.{with_line}
use Rattle.far_text.specs.HeapSought.{Found, NoHeap, HeapAt, found_at, heap_sought}
use Rattle.far_text.proofs.Cuts.{split_some}

abbrev pub onto_all : List Command → Result (List Command) ℕ → Result (List Command) ℕ
onto_all front (Ok commands) = Ok (front ++ commands)
onto_all front (Err number) = Err number

pub onto_one_more : (front : List Command) (command : Command) (rest : Result (List Command) ℕ) → onto_all (front ++ command ∷ []) rest ≡ onto_all front (onto command rest)
onto_one_more front command (Ok commands) = ap Ok (append_assoc front (command ∷ []) commands)
onto_one_more front command (Err number) = refl

pub few_lines : (text : List ℕ) → length (lines_of text) ≤ length text + 1
few_lines text = omega (arith, length-slice_split (λ b. b == 10) text, count_by-le-length (λ b. b == 10) text)

within : (most n : ℕ) → n ≤ most → nat_lt most n ≡ false
within most n h = lt-leb (suc most) n (omega arith)

-- a text with a line of this kind first, after the heap
pub after_line : (number : ℕ) (text : List ℕ) (line : Line) (lines : List (List ℕ)) → line ≡ line_of (first_line text) → lines ≡ lines_after_first text
    → read_commands number (lines_of text) ≡ read_command number line (read_commands (number + 1) lines)
after_line number text line lines is same = ap (read_commands number) (split_some (λ b. b == 10) text) ∙ rw (is, same) refl

-- and where the heap's line is sought
pub after_sought : (number : ℕ) (text : List ℕ) (line : Line) (lines : List (List ℕ)) → line ≡ line_of (first_line text) → lines ≡ lines_after_first text
    → heap_sought number (lines_of text) ≡ found_at number line lines (heap_sought (number + 1) lines)
after_sought number text line lines is same = ap (heap_sought number) (split_some (λ b. b == 10) text) ∙ rw (is, same) refl

-- and where its device's is
pub after_device : (number : ℕ) (text : List ℕ) (line : Line) (lines : List (List ℕ)) → line ≡ line_of (first_line text) → lines ≡ lines_after_first text
    → device_sought number (lines_of text) ≡ device_at number line lines (device_sought (number + 1) lines)
after_device number text line lines is same = ap (device_sought number) (split_some (λ b. b == 10) text) ∙ rw (is, same) refl

-- lines in which the same device is found, and the same commands are read
same_stands : (logs mutators epoch number number' : ℕ) (lines lines' : List (List ℕ)) (found found' : Sought) → found ≡ found' → read_commands number lines ≡ read_commands number' lines'
    → read_after logs mutators epoch (stands number lines found) ≡ read_after logs mutators epoch (stands number' lines' found')
same_stands logs mutators epoch number number' lines lines' NoDevice found' same commands = rw (← same, commands) refl
same_stands logs mutators epoch number number' lines lines' (DeviceAt device at after) found' same commands = rw (← same) refl

pub skipped : (logs mutators epoch number number' : ℕ) (lines lines' : List (List ℕ)) → device_sought number lines ≡ device_sought number' lines' → read_commands number lines ≡ read_commands number' lines'
    → read_after logs mutators epoch (beside number lines) ≡ read_after logs mutators epoch (beside number' lines')
skipped logs mutators epoch number number' lines lines' found commands =
    same_stands logs mutators epoch number number' lines lines' (device_sought number lines) (device_sought number' lines') found commands

-- a text, by what is found of a heap in it
abbrev pub trace_from : Result Found ℕ → Result Trace ℕ
trace_from (Ok NoHeap) = Ok Nothing
trace_from (Ok (HeapAt logs mutators epoch number after)) = read_after logs mutators epoch (beside (number + 1) after)
trace_from (Err number) = Err number

-- what a line makes of what is found after it, it makes of what is read after it
found_first : (number : ℕ) (line : Line) (lines : List (List ℕ)) (found : Result Found ℕ) (later : Result Trace ℕ) → later ≡ trace_from found
    → read_heap number line later (beside (number + 1) lines) ≡ trace_from (found_at number line lines found)
found_first number Skipped lines found later e = e
found_first number (Saying (HeapLine logs mutators epoch)) lines found later e = refl
found_first number (Saying (DeviceLine device)) lines found later e = refl
found_first number (Saying (CommandLine c)) lines found later e = refl
found_first number Bad lines found later e = refl

pub lines_from_sought : (number : ℕ) (lines : List (List ℕ)) → read_lines number lines ≡ trace_from (heap_sought number lines)
lines_from_sought number [] = refl
lines_from_sought number (line ∷ lines) = found_first number (line_of line) lines (heap_sought (number + 1) lines) (read_lines (number + 1) lines) (lines_from_sought (number + 1) lines)

-- a text that is not too long
pub text_from_sought : (text : List ℕ) → length text ≤ LONGEST_TEXT → trace_of text ≡ trace_from (heap_sought 1 (lines_of text))
text_from_sought text h = rw (within LONGEST_TEXT (length text) h) (lines_from_sought 1 (lines_of text))

-- a fault of what is read first is one of all that is made of it
pub fault_of : {X Y : Type 0} (e : ParseError) (make : Result X ℕ → Result Y ℕ) → ((n : ℕ) → make (Err n) ≡ Err n) → (read : Result X ℕ) → IsFault e read → IsFault e (make read)
fault_of Memory make errs read h = tt
fault_of (Syntax n) make errs read h = ap make h ∙ errs n

-- fewer lines stand after the first
pub fewer_lines : (text : List ℕ) (lines : List (List ℕ)) → lines ≡ lines_after_first text → length (lines_of text) ≡ length lines + 1
fewer_lines text lines e = let all = ap length (split_some (λ b. b == 10) text) in let rest = ap length e in omega arith

pub map_append : {A B : Type 0} (f : A → B) (xs ys : List A) → map f (xs ++ ys) ≡ map f xs ++ map f ys
map_append f [] ys = refl
map_append f (x ∷ xs) ys = ap (λ l. f x ∷ l) (map_append f xs ys)

-- no command stands before the heap
pub none_first : (command : Option Command) (number : ℕ) (lines : List (List ℕ)) (later : Result Found ℕ) → found_at number (saying (option_map CommandLine command)) lines later ≡ Err number
none_first None number lines later = refl
none_first (Some c) number lines later = refl

-- a line that was read
pub line_added : (old new : List Command) (line : Line) → with_line old line ≡ Some new →
    (number : ℕ) (later : Result (List Command) ℕ) → onto_all new later ≡ onto_all old (read_command number line later)
line_added old new Skipped e number later = ap (λ cs. onto_all cs later) (sym (same_Some old new e))
line_added old new (Saying (HeapLine logs mutators epoch)) e number later = absurd (none-some new e)
line_added old new (Saying (DeviceLine device)) e number later = absurd (none-some new e)
line_added old new (Saying (CommandLine c)) e number later = ap (λ cs. onto_all cs later) (sym (same_Some (old ++ c ∷ []) new e)) ∙ onto_one_more old c later
line_added old new Bad e number later = absurd (none-some new e)

-- one that was not
pub line_refused : (old : List Command) (line : Line) → with_line old line ≡ None → (number : ℕ) (later : Result (List Command) ℕ) → read_command number line later ≡ Err number
line_refused old Skipped e number later = absurd (none-some old (sym e))
line_refused old (Saying (HeapLine logs mutators epoch)) e number later = refl
line_refused old (Saying (DeviceLine device)) e number later = refl
line_refused old (Saying (CommandLine c)) e number later = absurd (none-some (old ++ c ∷ []) (sym e))
line_refused old Bad e number later = refl

-- a command is one more
pub one_longer : (old new : List Command) (command : Option Command) → option_map (λ c. old ++ c ∷ []) command ≡ Some new → length new ≡ length old + 1
one_longer old new None e = absurd (none-some new e)
one_longer old new (Some c) e = let same = ap length (same_Some (old ++ c ∷ []) new e) in omega (arith, length-append old (c ∷ []))

-- a line adds one at most
pub no_longer : (old new : List Command) (line : Line) → with_line old line ≡ Some new → length new ≤ length old + 1
no_longer old new Skipped e = let same = ap length (same_Some old new e) in omega arith
no_longer old new (Saying (HeapLine logs mutators epoch)) e = absurd (none-some new e)
no_longer old new (Saying (DeviceLine device)) e = absurd (none-some new e)
no_longer old new (Saying (CommandLine c)) e = let same = ap length (same_Some (old ++ c ∷ []) new e) in omega (arith, length-append old (c ∷ []))
no_longer old new Bad e = absurd (none-some new e)
