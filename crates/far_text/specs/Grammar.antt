-- The grammar of a trace: what its words, its lines and its text say.
use Rattle.std.specs.Prelude.{◌≡◌, ℕ, Bool, ◌&&◌, ◌^◌, nat_lt, nat_le, ◌==◌, ◌+◌, true, Result, Ok, Err, List, [], ◌∷◌, length, codes, decimal, zero, suc, Option, Some, None, if◌then◌else◌}
use Rattle.std.specs.Str.{bytes_eq}
use Rattle.std.specs.Str.Parse.{digits_value}
use Rattle.std.specs.List.{slice_split, list_all}
use Rattle.std.specs.Option.{option_map, option_and_then}
use Rattle.far_text.specs.Command.{Command, Entry, HeapLine, DeviceLine, Device, Flawed, Flaw, Fail, Short, Flip, CommandLine, Trace, Nothing, Heap, New, Open, On, Reads, Writes, Views, Close, Where, Drop, Try, Epoch, Logs, Log, Audit, Mutator, Book, Evacuator, Policy, Oldest, LeastLive, By, Script, Step, Select, Mark, Wait, Evacuate, Abort, Round}
use Rattle.far_text.specs.HexWord.{is_hex_word, hex_bytes}
use Rattle.far_text.specs.declared.command.TheConstants.{MOST_CHOSEN, LOG_NAMES}
use Rattle.far_text.specs.declared.hex_word.TheConstants.{LONGEST_LINE, LONGEST_BYTES}
use Rattle.far_text.specs.declared.text.TheConstants.{LONGEST_TEXT}
use Rattle.far_text.specs.declared.text.ParseError.{ParseError}
use Rattle.far_text.specs.declared.text.ParseError.TheVariants.{Memory, Syntax}

-- the number that a word prints, below 2^64
unfoldable pub number_of : List ℕ → Option ℕ
number_of word =
    if bytes_eq word (decimal (digits_value 10 word)) && nat_lt (digits_value 10 word) (2 ^ 64) then Some (digits_value 10 word) else None

-- the bytes that a word spells in hex
abbrev pub bytes_in : List ℕ → Option (List ℕ)
bytes_in word = if is_hex_word word then Some (hex_bytes word) else None

infixl 10 ◌>>=◌
abbrev pub ◌>>=◌ : {A B : Type 0} → Option A → (A → Option B) → Option B
(Some x) >>= f = f x
None >>= f = None

-- the number that the first word prints, and the words after it
abbrev pub next_number : List (List ℕ) → Option (ℕ × List (List ℕ))
next_number [] = None
next_number (word ∷ words) = number_of word >>= λ n. Some (n, words)

-- the bytes that a word spells, where it is the last one
abbrev pub last_bytes : List (List ℕ) → Option (List ℕ)
last_bytes (word ∷ []) = bytes_in word
last_bytes words = None

-- the entry, where no words are left
abbrev pub entry_at_end : List (List ℕ) → Entry → Option Entry
entry_at_end [] entry = Some entry
entry_at_end (word ∷ words) entry = None

-- ---- what stands after a line's name
-- what is made of n numbers
abbrev pub From : ℕ → Type 0 → Type 0
From zero X = X
From (suc n) X = ℕ → From n X

-- so many numbers and no more; or so many, and one more or none, which stands for the number that is named here; or so many, a word in hex, and no more; or a word,
-- and what it makes of those after it
pub data Operands : Type 0 where
  Numbers : (n : ℕ) (make : From n Entry) → Operands
  NumbersAndOneOr : (n missing : ℕ) (make : From n (ℕ → Entry)) → Operands
  NumbersAndBytes : (n : ℕ) (make : From n (List ℕ → Entry)) → Operands
  WordThen : (make : List ℕ → List (List ℕ) → Option Entry) → Operands

-- what is made of n numbers and of the words after them
abbrev pub numbers_then : {X : Type 0} → (n : ℕ) → From n X → (X → List (List ℕ) → Option Entry) → List (List ℕ) → Option Entry
numbers_then zero make rest words = rest make words
numbers_then (suc n) make rest words = next_number words >>= λ first. numbers_then n (make first.0) rest first.1

-- what is made of one number and no more, or, where no words are left, of the one that is missing
abbrev pub one_or : ℕ → (ℕ → Entry) → List (List ℕ) → Option Entry
one_or missing make [] = Some (make missing)
one_or missing make (word ∷ words) = next_number (word ∷ words) >>= λ first. entry_at_end first.1 (make first.0)

-- what n numbers and no more make, if they make anything
abbrev pub perhaps : (n : ℕ) → From n (Option Entry) → List (List ℕ) → Option Entry
perhaps n make words = numbers_then n make (λ entry after. option_and_then (entry_at_end after) entry) words

-- what a word makes of those after it
abbrev pub word_then : (List ℕ → List (List ℕ) → Option Entry) → List (List ℕ) → Option Entry
word_then make [] = None
word_then make (word ∷ words) = make word words

abbrev pub entry_from : Operands → List (List ℕ) → Option Entry
entry_from (Numbers n make) words = numbers_then n make (λ entry after. entry_at_end after entry) words
entry_from (NumbersAndOneOr n missing make) words = numbers_then n make (one_or missing) words
entry_from (NumbersAndBytes n make) words = numbers_then n make (λ entry after. last_bytes after >>= λ bytes. Some (entry bytes)) words
entry_from (WordThen make) words = word_then make words

-- ---- the lines by their names
-- a mutator's number stands before what it asks for
abbrev pub asks_read : From 4 Entry
asks_read m p from len = CommandLine (Mutator m (On p (Reads from len)))

abbrev pub asks_write : From 3 (List ℕ → Entry)
asks_write m p from bytes = CommandLine (Mutator m (On p (Writes from bytes)))

abbrev pub asks_open : From 1 Entry
asks_open m = CommandLine (Mutator m Open)

abbrev pub asks_close : From 1 Entry
asks_close m = CommandLine (Mutator m Close)

abbrev pub asks_new : From 3 Entry
asks_new m len structure = CommandLine (Mutator m (New len structure))

abbrev pub asks_where : From 2 Entry
asks_where m p = CommandLine (Mutator m (Where p))

abbrev pub asks_drop : From 2 Entry
asks_drop m p = CommandLine (Mutator m (Drop p))

abbrev pub asks_view : From 2 Entry
asks_view m p = CommandLine (Mutator m (On p Views))

abbrev pub asks_try : From 2 Entry
asks_try m p = CommandLine (Mutator m (Try p))

-- a heap's first epoch, if it is said, stands last
abbrev pub says_heap : From 2 (ℕ → Entry)
says_heap logs mutators = λ epoch. HeapLine logs mutators epoch

abbrev pub asks_epoch : From 1 Entry
asks_epoch m = CommandLine (Mutator m Epoch)

abbrev pub asks_log : From 1 Entry
asks_log log = CommandLine (Book (Log log))

-- what is wrong in a call of the device, as a word names it
abbrev pub flaw_of : List ℕ → Option Flaw
flaw_of word =
    if bytes_eq word (codes "fail") then Some Fail else (if bytes_eq word (codes "short") then Some Short else (if bytes_eq word (codes "flip") then Some Flip else None))

abbrev pub says_device : Flaw → From 1 (Option Entry)
says_device flaw call = Some (DeviceLine (Flawed flaw call))

abbrev pub device_by : List ℕ → List (List ℕ) → Option Entry
device_by word words = flaw_of word >>= λ flaw. perhaps 1 (says_device flaw) words

-- ---- the steps of the evacuator
-- the policy that a word names
abbrev pub policy_of : List ℕ → Option Policy
policy_of word = if bytes_eq word (codes "oldest") then Some Oldest else (if bytes_eq word (codes "leastlive") then Some LeastLive else None)

-- the log that a word prints
abbrev pub log_of : List ℕ → Option ℕ
log_of word = number_of word >>= λ n. if nat_lt n LOG_NAMES then Some n else None

-- the logs that words print, each of them
abbrev pub each_log : List (List ℕ) → Option (List ℕ)
each_log [] = Some []
each_log (word ∷ words) = log_of word >>= λ log. option_map (λ logs. log ∷ logs) (each_log words)

-- the logs of a script: one at least, and no more than a line has room for
abbrev pub logs_of : List (List ℕ) → Option (List ℕ)
logs_of [] = None
logs_of (word ∷ words) = if nat_le (length (word ∷ words)) LONGEST_BYTES then each_log (word ∷ words) else None

-- a step, where it chooses no more logs than may be chosen
abbrev pub limited : ℕ → Option Step → Option Step
limited most step = if nat_le most MOST_CHOSEN then step else None

abbrev pub step_line : Option Step → Option Entry
step_line step = option_map CommandLine (option_map Evacuator step)

abbrev pub asks_mark : From 1 Entry
asks_mark count = CommandLine (Evacuator (Mark count))

abbrev pub asks_evacuate : From 1 Entry
asks_evacuate count = CommandLine (Evacuator (Evacuate count))

abbrev pub asks_select : Policy → From 1 (Option Entry)
asks_select policy most = step_line (limited most (Some (Select (By policy) most)))

abbrev pub asks_round : Policy → From 2 (Option Entry)
asks_round policy most turns = step_line (limited most (Some (Round policy most turns)))

abbrev pub asks_script : List (List ℕ) → Option Entry
asks_script words = next_number words >>= λ first. step_line (limited first.0 (option_map (λ choice. Select choice first.0) (option_map Script (logs_of first.1))))

-- the word names a policy, or says that a script stands after it
abbrev pub select_by : List ℕ → List (List ℕ) → Option Entry
select_by word words = if bytes_eq word (codes "script") then asks_script words else (policy_of word >>= λ policy. perhaps 1 (asks_select policy) words)

abbrev pub round_by : List ℕ → List (List ℕ) → Option Entry
round_by word words = policy_of word >>= λ policy. perhaps 2 (asks_round policy) words

abbrev pub steps : List (List ℕ × Operands)
steps =
    (codes "select", WordThen select_by)
    ∷ (codes "mark", Numbers 1 asks_mark)
    ∷ (codes "wait", Numbers 0 (CommandLine (Evacuator Wait)))
    ∷ (codes "evacuate", Numbers 1 asks_evacuate)
    ∷ (codes "abort", Numbers 0 (CommandLine (Evacuator Abort)))
    ∷ (codes "round", WordThen round_by)
    ∷ []

-- ---- all lines
abbrev pub table : List (List ℕ × Operands)
table =
    (codes "read", Numbers 4 asks_read)
    ∷ (codes "write", NumbersAndBytes 3 asks_write)
    ∷ (codes "open", Numbers 1 asks_open)
    ∷ (codes "close", Numbers 1 asks_close)
    ∷ (codes "new", Numbers 3 asks_new)
    ∷ (codes "heap", NumbersAndOneOr 2 0 says_heap)
    ∷ (codes "logs", Numbers 0 (CommandLine (Book Logs)))
    ∷ (codes "where", Numbers 2 asks_where)
    ∷ (codes "drop", Numbers 2 asks_drop)
    ∷ (codes "view", Numbers 2 asks_view)
    ∷ (codes "try", Numbers 2 asks_try)
    ∷ (codes "epoch", Numbers 1 asks_epoch)
    ∷ (codes "log", Numbers 1 asks_log)
    ∷ (codes "audit", Numbers 0 (CommandLine (Book Audit)))
    ∷ (codes "device", WordThen device_by)
    ∷ steps

-- the entry of this name in a table, by the words after the name
abbrev pub found_in : List (List ℕ × Operands) → List ℕ → List (List ℕ) → Option Entry
found_in [] name words = None
found_in (row ∷ rows) name words = if bytes_eq name row.0 then entry_from row.1 words else found_in rows name words

-- what the words say
abbrev pub entry_of : List (List ℕ) → Option Entry
entry_of [] = None
entry_of (name ∷ words) = found_in table name words

-- the words of a line, between single spaces
abbrev pub line_words : List ℕ → List (List ℕ)
line_words line = slice_split (λ b. b == 32) line

-- not too long, and each byte ASCII
abbrev pub is_plain : List ℕ → Bool
is_plain line = nat_le (length line) LONGEST_LINE && list_all (λ b. nat_lt b 128) line

-- empty, or a comment
abbrev pub is_skipped : List ℕ → Bool
is_skipped [] = true
is_skipped (b ∷ _) = b == 35

-- what a line may be
pub data Line : Type 0 where
  Skipped : Line
  Saying : (entry : Entry) → Line
  Bad : Line

abbrev pub saying : Option Entry → Line
saying None = Bad
saying (Some entry) = Saying entry

-- what a line says on its own
unfoldable pub line_of : List ℕ → Line
line_of line =
    if is_plain line then (if is_skipped line then Skipped else saying (entry_of (line_words line))) else Bad

abbrev pub onto : Command → Result (List Command) ℕ → Result (List Command) ℕ
onto command (Ok commands) = Ok (command ∷ commands)
onto command (Err number) = Err number

-- what a line after the heap's makes of what the lines after it are read as: it is a command, or passed over
abbrev pub read_command : ℕ → Line → Result (List Command) ℕ → Result (List Command) ℕ
read_command number Skipped later = later
read_command number (Saying (HeapLine logs mutators epoch)) later = Err number
read_command number (Saying (DeviceLine device)) later = Err number
read_command number (Saying (CommandLine command)) later = onto command later
read_command number Bad later = Err number

-- the commands of the lines from this number on, or the number of the first that is off the grammar
abbrev pub read_commands : ℕ → List (List ℕ) → Result (List Command) ℕ
read_commands number [] = Ok []
read_commands number (line ∷ lines) = read_command number (line_of line) (read_commands (number + 1) lines)

-- ---- the device's line, directly the first after the heap's that says something
-- these lines say no device first; or this line says one, and these stand after it
pub data Sought : Type 0 where
  NoDevice : Sought
  DeviceAt : (device : Device) (number : ℕ) (after : List (List ℕ)) → Sought

-- what a line makes of what is found after it
abbrev pub device_at : ℕ → Line → List (List ℕ) → Sought → Sought
device_at number Skipped after later = later
device_at number (Saying (HeapLine logs mutators epoch)) after later = NoDevice
device_at number (Saying (DeviceLine device)) after later = DeviceAt device number after
device_at number (Saying (CommandLine command)) after later = NoDevice
device_at number Bad after later = NoDevice

abbrev pub device_sought : ℕ → List (List ℕ) → Sought
device_sought number [] = NoDevice
device_sought number (line ∷ lines) = device_at number (line_of line) lines (device_sought (number + 1) lines)

-- the device that is said first, if one is, the number of the line from which on commands stand, and the lines from there on
abbrev pub stands : ℕ → List (List ℕ) → Sought → Option Device × ℕ × List (List ℕ)
stands number lines NoDevice = (None, number, lines)
stands number lines (DeviceAt device at after) = (Some device, at + 1, after)

abbrev pub beside : ℕ → List (List ℕ) → Option Device × ℕ × List (List ℕ)
beside number lines = stands number lines (device_sought number lines)

abbrev pub with_heap : ℕ → ℕ → ℕ → Option Device → Result (List Command) ℕ → Result Trace ℕ
with_heap logs mutators epoch device (Ok commands) = Ok (Heap logs mutators epoch device commands)
with_heap logs mutators epoch device (Err number) = Err number

-- what the lines after a heap's say, the device's first if it is said
abbrev pub read_after : ℕ → ℕ → ℕ → Option Device × ℕ × List (List ℕ) → Result Trace ℕ
read_after logs mutators epoch after = with_heap logs mutators epoch after.0 (read_commands after.1 after.2)

-- what a line before any command makes of what the lines after it are read as, before a heap and after one: it is the heap's, or passed over
abbrev pub read_heap : ℕ → Line → Result Trace ℕ → Option Device × ℕ × List (List ℕ) → Result Trace ℕ
read_heap number Skipped same after = same
read_heap number (Saying (HeapLine logs mutators epoch)) same after = read_after logs mutators epoch after
read_heap number (Saying (DeviceLine device)) same after = Err number
read_heap number (Saying (CommandLine command)) same after = Err number
read_heap number Bad same after = Err number

-- what the lines from this number on say, with nothing said before them
abbrev pub read_lines : ℕ → List (List ℕ) → Result Trace ℕ
read_lines number [] = Ok Nothing
read_lines number (line ∷ lines) = read_heap number (line_of line) (read_lines (number + 1) lines) (beside (number + 1) lines)

-- a text as its lines; what follows a last newline is one more line, which is empty
abbrev pub lines_of : List ℕ → List (List ℕ)
lines_of text = slice_split (λ b. b == 10) text

-- what a text says, or the number of its first line off the grammar, 0 where it is too long
abbrev pub trace_of : List ℕ → Result Trace ℕ
trace_of text = if nat_lt LONGEST_TEXT (length text) then Err 0 else read_lines 1 (lines_of text)

-- an error is out of memory, or what reading gives
abbrev pub IsFault : {X : Type 0} → ParseError → Result X ℕ → Type 0
IsFault Memory read = Unit {0}
IsFault (Syntax number) read = read ≡ Err number
