-- A text is read as what its lines say.
use Rattle.std.proofs.Common.{◌≢◌, ◌≡◌, ◌⊎◌, inl, inr, ℕ, ◌<◌, ◌≤◌, ◌+◌, ◌==◌, ◌&&◌, suc, zero, nat_lt, nat_le, Bool, true, false, cond, not, List, [], ◌∷◌, ◌++◌, length, get_or, length-append, append_assoc, Option, Some, None, Result, Ok, Err, sym, ◌∙◌, ap, refl, subst, arith}
use Rattle.std.specs.Prelude.{◌↔◌}
use Rattle.std.specs.List.{list_all, join_with_byte, slice_split, onto_first}
use Rattle.std.proofs.lemmas.Bool.{and_parts, le-leb, lt-leb, cond_both}
use Rattle.std.proofs.lemmas.Bool.Decides.{nat_tests}
use Rattle.std.proofs.lemmas.List.Splits.{join_with_byte-slice_split}
use Rattle.hex.proofs.HexLemmas.{decode_of-ok}
use Rattle.far_text.specs.declared.hex_word.TheConstants.{LONGEST_LINE}
use Rattle.far_text.specs.declared.text.TheConstants.{LONGEST_TEXT}
use Rattle.far_text.specs.Command.{Command, Device, Entry, HeapLine, DeviceLine, CommandLine, Trace, Nothing, Heap, On, Writes, Mutator, Evacuator, By, Script, Select, Round}
use Rattle.far_text.specs.Grammar.{Line, Skipped, Saying, Bad, line_of, lines_of, line_words, is_plain, is_skipped, saying, entry_of, trace_of, onto, Sought, NoDevice, DeviceAt, device_at, device_sought, stands, beside, with_heap, read_after, read_command, read_commands, read_heap, read_lines}
use Rattle.far_text.specs.TraceText.{Beside, IsPassed, Speaks, LinesSay, LinesAre, TextSays, FirstBad, HaveNone, MaySayDevice}
use Rattle.far_text.specs.Says.{Says}
use Rattle.far_text.specs.Written.{WritesBytes, AllWriteBytes}
use Rattle.far_text.proofs.Cuts.{split_on}
use Rattle.far_text.proofs.LineLemmas.{is_ascii, ascii_list, entry_ascii}
use Rattle.far_text.proofs.SaysLemmas.{said_is_read, read_is_said}

-- ---- one line
-- what a line says is what its words are read as
at_saying : (o : Option Entry) (c : Entry) → saying o ≡ Saying c → o ≡ Some c
at_saying None c e = absurd cc
at_saying (Some d) c e = let same : d ≡ c = cc in ap Some same

-- each byte of a list of ASCII
each_ascii : (xs : List ℕ) → list_all is_ascii xs ≡ true → (k : ℕ) → k < length xs → get_or xs k 0 < 128
each_ascii [] e k less = absurd (omega arith)
each_ascii (x ∷ xs) e zero less = let h = and_parts (is_ascii x) (list_all is_ascii xs) e in let first : nat_lt x 128 ≡ true = h.0 in grind (arith, nat_tests)
each_ascii (x ∷ xs) e (suc k) less = each_ascii xs (and_parts (is_ascii x) (list_all is_ascii xs) e).1 k (omega arith)

-- a plain line
plain_parts : (line : List ℕ) → is_plain line ≡ true → (length line ≤ LONGEST_LINE) × ((k : ℕ) → k < length line → get_or line k 0 < 128)
plain_parts line e =
    let h = and_parts (nat_le (length line) LONGEST_LINE) (list_all is_ascii line) e in
    let short : nat_le (length line) LONGEST_LINE ≡ true = h.0 in
    (grind (arith, nat_tests), each_ascii line h.1)

is_plain_line : (line : List ℕ) → length line ≤ LONGEST_LINE → list_all is_ascii line ≡ true → is_plain line ≡ true
is_plain_line line short ascii = let fits = le-leb (length line) LONGEST_LINE short in rw (fits, ascii) refl

begins : (line : List ℕ) → is_skipped line ≡ true → (line ≡ []) ⊎ ((rest : List ℕ) × (line ≡ 35 ∷ rest))
begins [] e = inl refl
begins (b ∷ rest) e = let same : b ≡ 35 = grind (arith, nat_tests) in inr (rest, ap (λ x. x ∷ rest) same)

skipped : (line : List ℕ) → (line ≡ []) ⊎ ((rest : List ℕ) × (line ≡ 35 ∷ rest)) → is_skipped line ≡ true
skipped line (inl e) = ap is_skipped e
skipped line (inr h) = ap is_skipped h.1

-- words that say a command don't begin with a #
hash_says : (rest : List ℕ) (c : Entry) → entry_of (line_words (35 ∷ rest)) ≢ Some c
hash_says rest c e =
    let none : entry_of (line_words (35 ∷ rest)) ≡ None = ap entry_of (split_on (λ b. b == 32) 35 rest refl) in
    let odd : None ≡ Some c = sym none ∙ e in cc

not_skipped : (line : List ℕ) (c : Entry) → entry_of (line_words line) ≡ Some c → is_skipped line ≡ false
not_skipped [] c e = absurd cc
not_skipped (b ∷ rest) c e =
    elim (b == 35) as (λ t. (b == 35) ≡ t → t ≡ false) [
      | true ↦ λ h. let same : b ≡ 35 = grind (arith, nat_tests) in absurd (hash_says rest c (subst (λ x. entry_of (line_words (x ∷ rest)) ≡ Some c) same e))
      | false ↦ λ h. refl
    ] refl

pub passed_is : (line : List ℕ) → IsPassed line → line_of line ≡ Skipped
unfolding line_of
passed_is line h = rw (is_plain_line line h.0 (ascii_list line h.1), skipped line h.2) refl

pub is_passed : (line : List ℕ) → line_of line ≡ Skipped → IsPassed line
unfolding line_of
is_passed line = cond_both (is_plain line) (cond (is_skipped line) Skipped (saying (entry_of (line_words line)))) Bad (λ (x : Line). x ≡ Skipped → IsPassed line)
    (λ plain. cond_both (is_skipped line) Skipped (saying (entry_of (line_words line))) (λ (x : Line). x ≡ Skipped → IsPassed line)
    (λ skips _. let h = plain_parts line plain in (h.0, h.1, begins line skips)) (λ _ e. absurd (not_silent (entry_of (line_words line)) e)))
    (λ _ e. absurd cc)
  where
    not_silent : (o : Option Entry) → saying o ≢ Skipped
    not_silent None e = cc
    not_silent (Some c) e = cc

pub speaks_is : (line : List ℕ) (c : Entry) → Speaks line c → line_of line ≡ Saying c
unfolding line_of
speaks_is line c h =
    let e = said_is_read (line_words line) c h.1 in
    rw (is_plain_line line h.0 (entry_ascii line c e), not_skipped line c e, e) refl

pub is_speaks : (line : List ℕ) (c : Entry) → line_of line ≡ Saying c → Speaks line c
unfolding line_of
is_speaks line c = cond_both (is_plain line) (cond (is_skipped line) Skipped (saying (entry_of (line_words line)))) Bad (λ (x : Line). x ≡ Saying c → Speaks line c)
    (λ plain. cond_both (is_skipped line) Skipped (saying (entry_of (line_words line))) (λ (x : Line). x ≡ Saying c → Speaks line c)
    (λ _ e. absurd cc) (λ _ e. ((plain_parts line plain).0, read_is_said (line_words line) c (at_saying (entry_of (line_words line)) c e))))
    (λ _ e. absurd cc)

-- ---- lines in order
onto_ok : (c : Command) (later : Result (List Command) ℕ) (cs : List Command) → onto c later ≡ Ok cs → (ds : List Command) × (cs ≡ c ∷ ds) × (later ≡ Ok ds)
onto_ok c (Ok ds) cs e = (ds, cc, refl)
onto_ok c (Err n) cs e = absurd cc

onto_err : (c : Command) (later : Result (List Command) ℕ) (n : ℕ) → onto c later ≡ Err n → later ≡ Err n
onto_err c (Ok ds) n e = absurd cc
onto_err c (Err m) n e = let same : m ≡ n = cc in ap Err same

heap_ok : (logs mutators epoch : ℕ) (device : Option Device) (later : Result (List Command) ℕ) (t : Trace) → with_heap logs mutators epoch device later ≡ Ok t →
    (cs : List Command) × (t ≡ Heap logs mutators epoch device cs) × (later ≡ Ok cs)
heap_ok logs mutators epoch device (Ok cs) t e = (cs, cc, refl)
heap_ok logs mutators epoch device (Err n) t e = absurd cc

heap_err : (logs mutators epoch : ℕ) (device : Option Device) (later : Result (List Command) ℕ) (n : ℕ) → with_heap logs mutators epoch device later ≡ Err n → later ≡ Err n
heap_err logs mutators epoch device (Ok cs) n e = absurd cc
heap_err logs mutators epoch device (Err m) n e = let same : m ≡ n = cc in ap Err same

-- the commands that lines say are read
said_commands : (number : ℕ) (lines : List (List ℕ)) (cs : List Command) → LinesSay lines cs → read_commands number lines ≡ Ok cs
said_commands number [] [] h = refl
said_commands number [] (c ∷ cs) h = absurd h
said_commands number (line ∷ lines) cs (inl h) =
    ap (λ l. read_command number l (read_commands (number + 1) lines)) (passed_is line h.0) ∙ said_commands (number + 1) lines cs h.1
said_commands number (line ∷ lines) cs (inr h) =
    ap (λ l. read_command number l (read_commands (number + 1) lines)) (speaks_is line (CommandLine h.0) h.3)
    ∙ ap (onto h.0) (said_commands (number + 1) lines h.1 h.4) ∙ ap Ok (sym h.2)

-- lines that say commands say no device first
sought_none : (number : ℕ) (lines : List (List ℕ)) (cs : List Command) → LinesSay lines cs → device_sought number lines ≡ NoDevice
sought_none number [] cs h = refl
sought_none number (line ∷ lines) cs (inl h) = ap (λ l. device_at number l lines (device_sought (number + 1) lines)) (passed_is line h.0) ∙ sought_none (number + 1) lines cs h.1
sought_none number (line ∷ lines) cs (inr h) = ap (λ l. device_at number l lines (device_sought (number + 1) lines)) (speaks_is line (CommandLine h.0) h.3)

-- a device's line after lines that say nothing
pub sought_device : (number : ℕ) (between : List (List ℕ)) (line : List ℕ) (more : List (List ℕ)) (device : Device) → LinesSay between [] → Speaks line (DeviceLine device) →
    device_sought number (between ++ line ∷ more) ≡ DeviceAt device (number + length between) more
sought_device number [] line more device h speaks =
    let at : number ≡ number + 0 = omega arith in
    ap (λ l. device_at number l more (device_sought (number + 1) more)) (speaks_is line (DeviceLine device) speaks) ∙ ap (λ k. DeviceAt device k more) at
sought_device number (first ∷ between) line more device (inl h) speaks =
    let at : number + 1 + length between ≡ number + suc (length between) = omega arith in
    ap (λ l. device_at number l (between ++ line ∷ more) (device_sought (number + 1) (between ++ line ∷ more))) (passed_is first h.0)
    ∙ sought_device (number + 1) between line more device h.1 speaks ∙ ap (λ k. DeviceAt device k more) at
sought_device number (first ∷ between) line more device (inr h) speaks = let odd : [] ≡ h.0 ∷ h.1 = h.2 in absurd cc

-- where commands stand
pub beside_is : (number : ℕ) (rest more : List (List ℕ)) (device : Option Device) (cs : List Command) → Beside device rest more → LinesSay more cs →
    (first : ℕ) × (number + length rest ≡ first + length more) × (beside number rest ≡ (device, first, more))
beside_is number rest more None cs is says =
    let here : LinesSay rest cs = subst (λ ls. LinesSay ls cs) is says in
    let same = ap length is in
    (number, omega (arith, same), ap (stands number rest) (sought_none number rest cs here) ∙ ap (λ ls. (None, number, ls)) (sym is))
beside_is number rest more (Some device) cs (between, line, whole, none, speaks) says =
    let all = ap length whole in
    let sum = length-append between (line ∷ more) in (
      number + length between + 1,
      omega (arith, all, sum),
      ap (beside number) whole ∙ ap (stands number (between ++ line ∷ more)) (sought_device number between line more device none speaks),
    )

-- what is found of a device, the lines say
abbrev DeviceIs : ℕ → List (List ℕ) → Sought → Type 0
DeviceIs number lines NoDevice = Unit {0}
DeviceIs number lines (DeviceAt device n after) = (between : List (List ℕ)) × (line : List ℕ) × (lines ≡ between ++ line ∷ after) × (n ≡ number + length between)
    × LinesSay between [] × Speaks line (DeviceLine device)

device_behind : (number : ℕ) (line : List ℕ) (lines : List (List ℕ)) (s : Sought) → IsPassed line → DeviceIs (number + 1) lines s → DeviceIs number (line ∷ lines) s
device_behind number line lines NoDevice passed h = tt
device_behind number line lines (DeviceAt device n after) passed (between, at, whole, is, none, speaks) =
    (line ∷ between, at, ap (λ ls. line ∷ ls) whole, omega (arith, is), inl (passed, none), speaks)

device_line : (number : ℕ) (line : List ℕ) (lines : List (List ℕ)) (l : Line) → line_of line ≡ l → DeviceIs (number + 1) lines (device_sought (number + 1) lines) →
    DeviceIs number (line ∷ lines) (device_at number l lines (device_sought (number + 1) lines))
device_line number line lines Skipped is rest = device_behind number line lines (device_sought (number + 1) lines) (is_passed line is) rest
device_line number line lines (Saying (HeapLine logs mutators epoch)) is rest = tt
device_line number line lines (Saying (DeviceLine device)) is rest = ([], line, refl, omega arith, tt, is_speaks line (DeviceLine device) is)
device_line number line lines (Saying (CommandLine c)) is rest = tt
device_line number line lines Bad is rest = tt

device_is : (number : ℕ) (lines : List (List ℕ)) → DeviceIs number lines (device_sought number lines)
device_is number [] = tt
device_is number (line ∷ lines) = device_line number line lines (line_of line) refl (device_is (number + 1) lines)

stands_beside : (number : ℕ) (rest : List (List ℕ)) (s : Sought) → DeviceIs number rest s →
    Beside (stands number rest s).0 rest (stands number rest s).2 × (number + length rest ≡ (stands number rest s).1 + length (stands number rest s).2)
stands_beside number rest NoDevice h = (refl, refl)
stands_beside number rest (DeviceAt device n after) (between, line, whole, at, none, speaks) =
    let all = ap length whole in
    let sum = length-append between (line ∷ after) in
    ((between, line, whole, none, speaks), omega (arith, at, all, sum))

pub is_beside : (number : ℕ) (rest : List (List ℕ)) → Beside (beside number rest).0 rest (beside number rest).2 × (number + length rest ≡ (beside number rest).1 + length (beside number rest).2)
is_beside number rest = stands_beside number rest (device_sought number rest) (device_is number rest)

-- the lines before one that says nothing, from the heap's on
abbrev pub BadBeside : ℕ → List (List ℕ) → Option Device → List (List ℕ) → List ℕ → List (List ℕ) → List Command → ℕ → Type 0
BadBeside number rest device front bad more cs n = (before : List (List ℕ)) × (rest ≡ before ++ bad ∷ more) × (n ≡ number + length before) × Beside device before front × (¬ MaySayDevice device cs bad)

no_device : (number : ℕ) (rest front : List (List ℕ)) (bad : List ℕ) (more : List (List ℕ)) (cs : List Command) → device_sought number rest ≡ NoDevice → rest ≡ front ++ bad ∷ more → LinesSay front cs → ¬ MaySayDevice None cs bad
no_device number rest front bad more [] none whole says (device, speaks) =
    let odd : NoDevice ≡ DeviceAt device (number + length front) more = sym none ∙ ap (device_sought number) whole ∙ sought_device number front bad more device says speaks in cc
no_device number rest front bad more (c ∷ cs) none whole says odd = odd

bad_stands : (number : ℕ) (rest front : List (List ℕ)) (bad : List ℕ) (more : List (List ℕ)) (cs : List Command) (n : ℕ) (s : Sought) → device_sought number rest ≡ s → DeviceIs number rest s →
    (stands number rest s).2 ≡ front ++ bad ∷ more → n ≡ (stands number rest s).1 + length front → LinesSay front cs → BadBeside number rest (stands number rest s).0 front bad more cs n
bad_stands number rest front bad more cs n NoDevice is h whole at says = (front, whole, at, refl, no_device number rest front bad more cs is whole says)
bad_stands number rest front bad more cs n (DeviceAt device k after) is (between, line, all, found, none, speaks) whole at says =
    let sum = length-append between (line ∷ front) in (
      between ++ line ∷ front,
      all ∙ ap (λ ls. between ++ line ∷ ls) whole ∙ sym (append_assoc between (line ∷ front) (bad ∷ more)),
      omega (arith, at, found, sum),
      (between, line, refl, none, speaks),
      λ odd. odd,
    )

pub bad_beside : (number : ℕ) (rest front : List (List ℕ)) (bad : List ℕ) (more : List (List ℕ)) (cs : List Command) (n : ℕ) → (beside number rest).2 ≡ front ++ bad ∷ more →
    n ≡ (beside number rest).1 + length front → LinesSay front cs → BadBeside number rest (beside number rest).0 front bad more cs n
bad_beside number rest front bad more cs n = bad_stands number rest front bad more cs n (device_sought number rest) refl (device_is number rest)

-- lines that say nothing
said_nothing : (number : ℕ) (lines : List (List ℕ)) → LinesSay lines [] → read_lines number lines ≡ Ok Nothing
said_nothing number [] h = refl
said_nothing number (line ∷ lines) (inl h) =
    ap (λ l. read_heap number l (read_lines (number + 1) lines) (beside (number + 1) lines)) (passed_is line h.0) ∙ said_nothing (number + 1) lines h.1
said_nothing number (line ∷ lines) (inr h) = let odd : [] ≡ h.0 ∷ h.1 = h.2 in absurd cc

-- a heap's line after them
said_heap : (number : ℕ) (front : List (List ℕ)) (line : List ℕ) (rest more : List (List ℕ)) (logs mutators epoch : ℕ) (device : Option Device) (cs : List Command) → LinesSay front [] →
    Speaks line (HeapLine logs mutators epoch) → Beside device rest more → LinesSay more cs → read_lines number (front ++ line ∷ rest) ≡ Ok (Heap logs mutators epoch device cs)
said_heap number [] line rest more logs mutators epoch device cs h speaks by says =
    let (first, sum, stands) = beside_is (number + 1) rest more device cs by says in
    ap (λ l. read_heap number l (read_lines (number + 1) rest) (beside (number + 1) rest)) (speaks_is line (HeapLine logs mutators epoch) speaks)
    ∙ ap (read_after logs mutators epoch) stands ∙ ap (with_heap logs mutators epoch device) (said_commands first more cs says)
said_heap number (first ∷ front) line rest more logs mutators epoch device cs (inl h) speaks by says =
    ap (λ l. read_heap number l (read_lines (number + 1) (front ++ line ∷ rest)) (beside (number + 1) (front ++ line ∷ rest))) (passed_is first h.0)
    ∙ said_heap (number + 1) front line rest more logs mutators epoch device cs h.1 speaks by says
said_heap number (first ∷ front) line rest more logs mutators epoch device cs (inr h) speaks by says = let odd : [] ≡ h.0 ∷ h.1 = h.2 in absurd cc

-- what lines say is read
said_lines : (number : ℕ) (lines : List (List ℕ)) (t : Trace) → LinesAre lines t → read_lines number lines ≡ Ok t
said_lines number lines Nothing h = said_nothing number lines h
said_lines number lines (Heap logs mutators epoch device cs) (front, line, rest, more, whole, none, speaks, by, says) =
    ap (read_lines number) whole ∙ said_heap number front line rest more logs mutators epoch device cs none speaks by says

-- the commands that are read of lines, they say
command_said : (number : ℕ) (line : List ℕ) (lines : List (List ℕ)) (cs : List Command) (l : Line) → line_of line ≡ l →
    ((ds : List Command) → read_commands (number + 1) lines ≡ Ok ds → LinesSay lines ds) →
    read_command number l (read_commands (number + 1) lines) ≡ Ok cs → LinesSay (line ∷ lines) cs
command_said number line lines cs Skipped is rest e = inl (is_passed line is, rest cs e)
command_said number line lines cs (Saying (HeapLine logs mutators epoch)) is rest e = absurd cc
command_said number line lines cs (Saying (DeviceLine device)) is rest e = absurd cc
command_said number line lines cs (Saying (CommandLine c)) is rest e =
    let x = onto_ok c (read_commands (number + 1) lines) cs e in inr (c, x.0, x.1, is_speaks line (CommandLine c) is, rest x.0 x.2)
command_said number line lines cs Bad is rest e = absurd cc

pub commands_said : (number : ℕ) (lines : List (List ℕ)) (cs : List Command) → read_commands number lines ≡ Ok cs → LinesSay lines cs
commands_said number [] [] e = tt
commands_said number [] (c ∷ cs) e = absurd cc
commands_said number (line ∷ lines) cs e = command_said number line lines cs (line_of line) refl (λ ds h. commands_said (number + 1) lines ds h) e

-- one line more in front, passed over
passed_front : (line : List ℕ) (lines : List (List ℕ)) (t : Trace) → IsPassed line → LinesAre lines t → LinesAre (line ∷ lines) t
passed_front line lines Nothing passed h = inl (passed, h)
passed_front line lines (Heap logs mutators epoch device cs) passed (front, at, rest, more, whole, none, speaks, by, says) =
    (line ∷ front, at, rest, more, ap (λ ls. line ∷ ls) whole, inl (passed, none), speaks, by, says)

-- what is read of lines, they say
line_said : (number : ℕ) (line : List ℕ) (lines : List (List ℕ)) (t : Trace) (l : Line) → line_of line ≡ l →
    ((u : Trace) → read_lines (number + 1) lines ≡ Ok u → LinesAre lines u) →
    read_heap number l (read_lines (number + 1) lines) (beside (number + 1) lines) ≡ Ok t → LinesAre (line ∷ lines) t
line_said number line lines t Skipped is rest e = passed_front line lines t (is_passed line is) (rest t e)
line_said number line lines t (Saying (HeapLine logs mutators epoch)) is rest e =
    let first = (beside (number + 1) lines).1 in
    let more = (beside (number + 1) lines).2 in
    let x = heap_ok logs mutators epoch (beside (number + 1) lines).0 (read_commands first more) t e in
    subst (LinesAre (line ∷ lines)) (sym x.1)
    ([], line, lines, more, refl, tt, is_speaks line (HeapLine logs mutators epoch) is, (is_beside (number + 1) lines).0, commands_said first more x.0 x.2)
line_said number line lines t (Saying (DeviceLine device)) is rest e = absurd cc
line_said number line lines t (Saying (CommandLine c)) is rest e = absurd cc
line_said number line lines t Bad is rest e = absurd cc

lines_said : (number : ℕ) (lines : List (List ℕ)) (t : Trace) → read_lines number lines ≡ Ok t → LinesAre lines t
lines_said number [] Nothing e = tt
lines_said number [] (Heap logs mutators epoch device cs) e = absurd cc
lines_said number (line ∷ lines) t e = line_said number line lines t (line_of line) refl (λ u h. lines_said (number + 1) lines u h) e

-- ---- whole texts
pub texts_read : (text : List ℕ) (t : Trace) → TextSays text t ↔ (trace_of text ≡ Ok t)
texts_read text t = (
  (λ h. let short : nat_lt LONGEST_TEXT (length text) ≡ false = lt_false LONGEST_TEXT (length text) h.0 in
      ap (λ b. cond b (Err 0) (read_lines 1 (lines_of text))) short ∙ said_lines 1 (lines_of text) t h.1),
  cond_both (nat_lt LONGEST_TEXT (length text)) (Err 0) (read_lines 1 (lines_of text)) (λ (x : Result Trace ℕ). x ≡ Ok t → TextSays text t)
      (λ _ e. absurd cc) (λ within e. (lt_within LONGEST_TEXT (length text) within, lines_said 1 (lines_of text) t e)),
)
  where
    lt_false : (most n : ℕ) → n ≤ most → nat_lt most n ≡ false
    lt_false most n h = lt-leb (suc most) n (omega arith)

    lt_within : (most n : ℕ) → nat_lt most n ≡ false → n ≤ most
    lt_within most n e = grind (arith, nat_tests)

-- ---- the first bad line
-- among the lines after the heap's
abbrev BadAfter : ℕ → List (List ℕ) → ℕ → Type 0
BadAfter number lines n = (front : List (List ℕ)) × (bad : List ℕ) × (rest : List (List ℕ)) × (cs : List Command)
    × (lines ≡ front ++ bad ∷ rest) × (n ≡ number + length front) × LinesSay front cs × (¬ IsPassed bad) × ((c : Command) → ¬ Speaks bad (CommandLine c))

pub not_passed : (line : List ℕ) (l : Line) → line_of line ≡ l → l ≢ Skipped → ¬ IsPassed line
not_passed line l is other p = other (sym is ∙ passed_is line p)

bad_command : (number : ℕ) (line : List ℕ) (lines : List (List ℕ)) (n : ℕ) (l : Line) → line_of line ≡ l →
    (read_commands (number + 1) lines ≡ Err n → BadAfter (number + 1) lines n) →
    read_command number l (read_commands (number + 1) lines) ≡ Err n → BadAfter number (line ∷ lines) n
bad_command number line lines n Skipped is rest e =
    let (front, bad, more, cs, whole, at, says, unpassed, unsaid) = rest e in
    (line ∷ front, bad, more, cs, ap (λ ls. line ∷ ls) whole, omega (arith, at), inl (is_passed line is, says), unpassed, unsaid)
bad_command number line lines n (Saying (HeapLine logs mutators epoch)) is rest e =
    let at : number ≡ n = cc in (
      [],
      line,
      lines,
      [],
      refl,
      omega (arith, at),
      tt,
      not_passed line (Saying (HeapLine logs mutators epoch)) is (λ odd. cc),
      λ c s. let odd : Saying (HeapLine logs mutators epoch) ≡ Saying (CommandLine c) = sym is ∙ speaks_is line (CommandLine c) s in cc,
    )
bad_command number line lines n (Saying (DeviceLine device)) is rest e =
    let at : number ≡ n = cc in (
      [],
      line,
      lines,
      [],
      refl,
      omega (arith, at),
      tt,
      not_passed line (Saying (DeviceLine device)) is (λ odd. cc),
      λ c s. let odd : Saying (DeviceLine device) ≡ Saying (CommandLine c) = sym is ∙ speaks_is line (CommandLine c) s in cc,
    )
bad_command number line lines n (Saying (CommandLine c)) is rest e =
    let (front, bad, more, cs, whole, at, says, unpassed, unsaid) = rest (onto_err c (read_commands (number + 1) lines) n e) in
    (line ∷ front, bad, more, c ∷ cs, ap (λ ls. line ∷ ls) whole, omega (arith, at), inr (c, cs, refl, is_speaks line (CommandLine c) is, says), unpassed, unsaid)
bad_command number line lines n Bad is rest e =
    let at : number ≡ n = cc in
    ([], line, lines, [], refl, omega (arith, at), tt, not_passed line Bad is (λ odd. cc), λ c s. let odd : Bad ≡ Saying (CommandLine c) = sym is ∙ speaks_is line (CommandLine c) s in cc)

bad_commands : (number : ℕ) (lines : List (List ℕ)) (n : ℕ) → read_commands number lines ≡ Err n → BadAfter number lines n
bad_commands number [] n e = absurd cc
bad_commands number (line ∷ lines) n e = bad_command number line lines n (line_of line) refl (λ h. bad_commands (number + 1) lines n h) e

bad_line : (number : ℕ) (line : List ℕ) (lines : List (List ℕ)) (n : ℕ) (l : Line) → line_of line ≡ l →
    (read_lines (number + 1) lines ≡ Err n → FirstBad (number + 1) lines n) →
    read_heap number l (read_lines (number + 1) lines) (beside (number + 1) lines) ≡ Err n → FirstBad number (line ∷ lines) n
bad_line number line lines n Skipped is rest e =
    let (front, bad, more, t, whole, at, says, nothing) = rest e in
    (line ∷ front, bad, more, t, ap (λ ls. line ∷ ls) whole, omega (arith, at), passed_front line front t (is_passed line is) says, nothing)
bad_line number line lines n (Saying (HeapLine logs mutators epoch)) is rest e =
    let device = (beside (number + 1) lines).0 in
    let first = (beside (number + 1) lines).1 in
    let after = (beside (number + 1) lines).2 in
    let (front, bad, more, cs, whole, at, says, unpassed, unsaid) = bad_commands first after n (heap_err logs mutators epoch device (read_commands first after) n e) in
    let (before, all, from, by, undeviced) = bad_beside (number + 1) lines front bad more cs n whole at says in (
      line ∷ before,
      bad,
      more,
      Heap logs mutators epoch device cs,
      ap (λ ls. line ∷ ls) all,
      omega (arith, from),
      ([], line, before, front, refl, tt, is_speaks line (HeapLine logs mutators epoch) is, by, says),
      (unpassed, unsaid, undeviced),
    )
bad_line number line lines n (Saying (DeviceLine device)) is rest e =
    let at : number ≡ n = cc in (
      [],
      line,
      lines,
      Nothing,
      refl,
      omega (arith, at),
      tt,
      (
        not_passed line (Saying (DeviceLine device)) is (λ odd. cc),
        λ logs mutators epoch s. let odd : Saying (DeviceLine device) ≡ Saying (HeapLine logs mutators epoch) = sym is ∙ speaks_is line (HeapLine logs mutators epoch) s in cc,
      ),
    )
bad_line number line lines n (Saying (CommandLine c)) is rest e =
    let at : number ≡ n = cc in (
      [],
      line,
      lines,
      Nothing,
      refl,
      omega (arith, at),
      tt,
      (
        not_passed line (Saying (CommandLine c)) is (λ odd. cc),
        λ logs mutators epoch s. let odd : Saying (CommandLine c) ≡ Saying (HeapLine logs mutators epoch) = sym is ∙ speaks_is line (HeapLine logs mutators epoch) s in cc,
      ),
    )
bad_line number line lines n Bad is rest e =
    let at : number ≡ n = cc in
    ([], line, lines, Nothing, refl, omega (arith, at), tt, (not_passed line Bad is (λ odd. cc), λ logs mutators epoch s. let odd : Bad ≡ Saying (HeapLine logs mutators epoch) = sym is ∙ speaks_is line (HeapLine logs mutators epoch) s in cc))

bad_first : (number : ℕ) (lines : List (List ℕ)) (n : ℕ) → read_lines number lines ≡ Err n → FirstBad number lines n
bad_first number [] n e = absurd cc
bad_first number (line ∷ lines) n e = bad_line number line lines n (line_of line) refl (λ h. bad_first (number + 1) lines n h) e

pub first_bad : (text : List ℕ) (n : ℕ) → trace_of text ≡ Err n → ((n ≡ 0) × (LONGEST_TEXT < length text)) ⊎ ((length text ≤ LONGEST_TEXT) × FirstBad 1 (lines_of text) n)
first_bad text n = cond_both (nat_lt LONGEST_TEXT (length text)) (Err 0) (read_lines 1 (lines_of text))
    (λ (x : Result Trace ℕ). x ≡ Err n → ((n ≡ 0) × (LONGEST_TEXT < length text)) ⊎ ((length text ≤ LONGEST_TEXT) × FirstBad 1 (lines_of text) n))
    (λ long e. inl (cc, past LONGEST_TEXT (length text) long)) (λ within e. inr (inside LONGEST_TEXT (length text) within, bad_first 1 (lines_of text) n e))
  where
    past : (most n : ℕ) → nat_lt most n ≡ true → most < n
    past most n e = grind (arith, nat_tests)

    inside : (most n : ℕ) → nat_lt most n ≡ false → n ≤ most
    inside most n e = grind (arith, nat_tests)

-- ---- bytes
-- what words say to write is bytes
words_write : (words : List (List ℕ)) (c : Command) → Says words (CommandLine c) → WritesBytes c
words_write words (Mutator m (On p (Writes from bytes))) h = (decode_of-ok h.0 bytes h.5.0).3
words_write words (Evacuator (Select (By policy) most)) h = h.1
words_write words (Evacuator (Select (Script logs) most)) h = (h.2.0, h.1)
words_write words (Evacuator (Round policy most turns)) h = h.1
words_write words c h = tt

lines_write : (lines : List (List ℕ)) (cs : List Command) → LinesSay lines cs → AllWriteBytes cs
lines_write [] [] h = tt
lines_write [] (c ∷ cs) h = absurd h
lines_write (line ∷ lines) cs (inl h) = lines_write lines cs h.1
lines_write (line ∷ lines) cs (inr h) = subst AllWriteBytes (sym h.2) (words_write (line_words line) h.0 h.3.1, lines_write lines h.1 h.4)

pub texts_write : (text : List ℕ) (logs mutators epoch : ℕ) (device : Option Device) (cs : List Command) → trace_of text ≡ Ok (Heap logs mutators epoch device cs) → AllWriteBytes cs
texts_write text logs mutators epoch device cs e = let x = (texts_read text (Heap logs mutators epoch device cs)).1 e in lines_write x.1.3 cs x.1.8

-- ---- cuts
-- the parts of a cut have no byte that cuts
first_uncut : (p : ℕ → Bool) (x : ℕ) (parts : List (List ℕ)) → p x ≡ false → list_all (list_all (λ b. not (p b))) parts ≡ true → list_all (list_all (λ b. not (p b))) (onto_first x parts) ≡ true
first_uncut p x [] e h = rw e refl
first_uncut p x (part ∷ parts) e h = ap (λ b. (not b && list_all (λ b. not (p b)) part) && list_all (list_all (λ b. not (p b))) parts) e ∙ h

uncut : (p : ℕ → Bool) (xs : List ℕ) → list_all (list_all (λ b. not (p b))) (slice_split p xs) ≡ true
uncut p [] = refl
uncut p (x ∷ xs) = cond_both (p x) ([] ∷ slice_split p xs) (onto_first x (slice_split p xs)) (λ (parts : List (List ℕ)). list_all (list_all (λ b. not (p b))) parts ≡ true)
    (λ _. uncut p xs) (λ e. first_uncut p x (slice_split p xs) e (uncut p xs))

pub cuts : (bytes : List ℕ) → HaveNone 10 (lines_of bytes) × (join_with_byte 10 (lines_of bytes) ≡ bytes) × HaveNone 32 (line_words bytes) × (join_with_byte 32 (line_words bytes) ≡ bytes)
cuts bytes = (uncut (λ b. b == 10) bytes, join_with_byte-slice_split 10 bytes, uncut (λ b. b == 32) bytes, join_with_byte-slice_split 32 bytes)
