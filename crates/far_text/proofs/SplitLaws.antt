-- A text whose commands are split among threads is read as what its lines say, and each command has one thread.
use Rattle.std.proofs.Common.{◌≢◌, ◌≡◌, ◌⊎◌, inl, inr, ℕ, ◌<◌, ◌≤◌, ◌+◌, suc, nat_lt, true, false, cond, List, [], ◌∷◌, ◌++◌, length, map, Option, Some, None, Result, Ok, Err, sym, ◌∙◌, ap, refl, subst, arith, append_assoc, length-append, eq-eqb}
use Rattle.std.specs.Prelude.{◌↔◌}
use Rattle.std.proofs.lemmas.Bool.{and_parts, le-leb, lt-leb, cond_both}
use Rattle.std.proofs.lemmas.Bool.Decides.{nat_tests}
use Rattle.far_text.specs.declared.text.TheConstants.{LONGEST_TEXT}
use Rattle.far_text.specs.Command.{Command, Device, HeapLine, DeviceLine, CommandLine, Heap, Request, Where, Epoch, Mutator, Book, Evacuator, Select, Mark, Wait, Evacuate, Abort, Round}
use Rattle.far_text.specs.Grammar.{Line, Skipped, Saying, Bad, beside, line_of, lines_of, trace_of}
use Rattle.far_text.specs.HeapSought.{Found, NoHeap, HeapAt, found_at, heap_sought}
use Rattle.far_text.specs.Split.{SplitTrace, NothingSplit, SplitHeap, threaded, onto_lines, threaded_onto, split_command, split_commands, with_lines, split_after, split_from, split_of}
use Rattle.far_text.specs.SplitText.{HasThread, LinesSplit, LinesAreSplit, TextSaysSplit, CantBeSplit, FirstUnsplit, AreOwn, IsThread, IsThreads, HasItsOwn, plain}
use Rattle.far_text.specs.Threads.{Thread, OfMutator, OfBook, has_thread, is_own, is_of, lines_in}
use Rattle.far_text.specs.TraceText.{IsPassed, LinesSay, Speaks}
use Rattle.far_text.proofs.TextLaws.{bad_beside, beside_is, is_beside, passed_is, is_passed, speaks_is, is_speaks, not_passed, texts_read}

-- ---- threads
own_from : (request : Request) → ((p : ℕ) → request ≢ Where p) → request ≢ Epoch → is_own request ≡ true
own_from (Where p) here now = absurd (here p refl)
own_from Epoch here now = absurd (now refl)
own_from request here now = refl

own_where : (request : Request) → is_own request ≡ true → (p : ℕ) → request ≢ Where p
own_where request own p odd = let no : true ≡ false = sym own ∙ ap is_own odd in cc

own_epoch : (request : Request) → is_own request ≡ true → request ≢ Epoch
own_epoch request own odd = let no : true ≡ false = sym own ∙ ap is_own odd in cc

below : (m mutators : ℕ) → nat_lt m mutators ≡ true → m < mutators
below m mutators e = grind (arith, nat_tests)

thread_said : (mutators : ℕ) (c : Command) → HasThread mutators c → has_thread mutators c ≡ true
thread_said mutators c (inl (m, request, is, lt, here, now)) =
    let less : nat_lt m mutators ≡ true = le-leb (suc m) mutators lt in
    ap (has_thread mutators) is ∙ rw (own_from request here now, less) refl
thread_said mutators c (inr (inl (inquiry, is))) = ap (has_thread mutators) is
thread_said mutators c (inr (inr (policy, most, turns, is))) = ap (has_thread mutators) is

thread_is : (mutators : ℕ) (c : Command) → has_thread mutators c ≡ true → HasThread mutators c
thread_is mutators (Mutator m request) e =
    let h = and_parts (is_own request) (nat_lt m mutators) e in
    inl (m, request, refl, below m mutators h.1, own_where request h.0, own_epoch request h.0)
thread_is mutators (Book inquiry) e = inr (inl (inquiry, refl))
thread_is mutators (Evacuator (Round policy most turns)) e = inr (inr (policy, most, turns, refl))
thread_is mutators (Evacuator step) e = absurd cc

threaded_some : (mutators : ℕ) (c : Command) → HasThread mutators c → threaded mutators c ≡ Some c
threaded_some mutators c has = rw (thread_said mutators c has) refl

-- whose a command is
mutators_alone : (m : ℕ) (request : Request) (other : Thread) → is_of other (Mutator m request) ≡ true → other ≡ OfMutator m
mutators_alone m request (OfMutator k) e = let same : k ≡ m = grind (arith, nat_tests) in ap OfMutator same
mutators_alone m request OfBook e = absurd cc

pub one_thread : (mutators : ℕ) (c : Command) → HasThread mutators c
    → (thread : Thread) × IsThread mutators thread × (is_of thread c ≡ true) × ((other : Thread) → is_of other c ≡ true → other ≡ thread)
one_thread mutators c (inl (m, request, is, lt, here, now)) =
    (OfMutator m, lt, ap (is_of (OfMutator m)) is ∙ eq-eqb m m refl, λ other e. mutators_alone m request other (sym (ap (is_of other) is) ∙ e))
one_thread mutators c (inr (inl (inquiry, is))) = (OfBook, tt, ap (is_of OfBook) is, λ other e. alone other (sym (ap (is_of other) is) ∙ e))
  where
    alone : (other : Thread) → is_of other (Book inquiry) ≡ true → other ≡ OfBook
    alone (OfMutator m) e = absurd cc
    alone OfBook e = refl
one_thread mutators c (inr (inr (policy, most, turns, is))) = (OfBook, tt, ap (is_of OfBook) is, λ other e. alone other (sym (ap (is_of other) is) ∙ e))
  where
    alone : (other : Thread) → is_of other (Evacuator (Round policy most turns)) ≡ true → other ≡ OfBook
    alone (OfMutator m) e = absurd cc
    alone OfBook e = refl

-- a command is a thread's by what it says
is_threads : (thread : Thread) (c : Command) → is_of thread c ≡ true → IsThreads thread c
is_threads (OfMutator m) (Mutator n request) e = let same : n ≡ m = grind (arith, nat_tests) in (request, ap (λ k. Mutator k request) same)
is_threads (OfMutator m) (Book inquiry) e = absurd cc
is_threads (OfMutator m) (Evacuator step) e = absurd cc
is_threads OfBook (Mutator m request) e = absurd cc
is_threads OfBook (Book inquiry) e = inl (inquiry, refl)
is_threads OfBook (Evacuator (Round policy most turns)) e = inr (policy, most, turns, refl)
is_threads OfBook (Evacuator (Select choice most)) e = absurd cc
is_threads OfBook (Evacuator (Mark count)) e = absurd cc
is_threads OfBook (Evacuator Wait) e = absurd cc
is_threads OfBook (Evacuator (Evacuate count)) e = absurd cc
is_threads OfBook (Evacuator Abort) e = absurd cc

no_threads : (thread : Thread) (c : Command) → is_of thread c ≡ false → ¬ IsThreads thread c
no_threads (OfMutator m) c e (request, is) = let odd : false ≡ true = sym e ∙ ap (is_of (OfMutator m)) is ∙ eq-eqb m m refl in absurd cc
no_threads OfBook c e (inl (inquiry, is)) = let odd : false ≡ true = sym e ∙ ap (is_of OfBook) is in absurd cc
no_threads OfBook c e (inr (policy, most, turns, is)) = let odd : false ≡ true = sym e ∙ ap (is_of OfBook) is in absurd cc

pub threads_are : (thread : Thread) (lines : List (ℕ × Command)) → HasItsOwn thread lines (lines_in thread lines)
threads_are thread [] = refl
threads_are thread ((number, c) ∷ lines) =
    let rest = threads_are thread lines in
    cond_both (is_of thread c) ((number, c) ∷ lines_in thread lines) (lines_in thread lines) (HasItsOwn thread ((number, c) ∷ lines))
    (λ own. inl (is_threads thread c own, lines_in thread lines, refl, rest)) (λ other. inr (no_threads thread c other, rest))

-- ---- the lines after the heap's
lines_ok : (line : ℕ × Command) (later : Result (List (ℕ × Command)) ℕ) (said : List (ℕ × Command)) → onto_lines line later ≡ Ok said → (more : List (ℕ × Command)) × (said ≡ line ∷ more) × (later ≡ Ok more)
lines_ok line (Ok more) said e = (more, cc, refl)
lines_ok line (Err n) said e = absurd cc

lines_err : (line : ℕ × Command) (later : Result (List (ℕ × Command)) ℕ) (n : ℕ) → onto_lines line later ≡ Err n → later ≡ Err n
lines_err line (Ok more) n e = absurd cc
lines_err line (Err m) n e = let same : m ≡ n = cc in ap Err same

said_split : (mutators number : ℕ) (lines : List (List ℕ)) (said : List (ℕ × Command)) → LinesSplit mutators number lines said → split_commands mutators number lines ≡ Ok said
said_split mutators number [] [] h = refl
said_split mutators number [] (one ∷ others) h = absurd h
said_split mutators number (line ∷ lines) said (inl h) =
    ap (λ l. split_command mutators number l (split_commands mutators (number + 1) lines)) (passed_is line h.0) ∙ said_split mutators (number + 1) lines said h.1
said_split mutators number (line ∷ lines) said (inr (c, later, is, speaks, has, says)) =
    ap (λ l. split_command mutators number l (split_commands mutators (number + 1) lines)) (speaks_is line (CommandLine c) speaks)
    ∙ ap (λ o. threaded_onto number o (split_commands mutators (number + 1) lines)) (threaded_some mutators c has)
    ∙ ap (onto_lines (number, c)) (said_split mutators (number + 1) lines later says) ∙ ap Ok (sym is)

module _ (mutators number : ℕ) (line : List ℕ) (lines : List (List ℕ)) where
  abbrev later : Result (List (ℕ × Command)) ℕ
  later = split_commands mutators (number + 1) lines

  line_split : (said : List (ℕ × Command)) (l : Line) → line_of line ≡ l →
      ((more : List (ℕ × Command)) → later ≡ Ok more → LinesSplit mutators (number + 1) lines more) →
      split_command mutators number l later ≡ Ok said → LinesSplit mutators number (line ∷ lines) said
  line_split said Skipped is rest e = inl (is_passed line is, rest said e)
  line_split said (Saying (HeapLine logs more epoch)) is rest e = absurd cc
  line_split said (Saying (DeviceLine device)) is rest e = absurd cc
  line_split said (Saying (CommandLine c)) is rest e =
      cond_both (has_thread mutators c) (Some c) None (λ (o : Option Command). threaded_onto number o later ≡ Ok said → LinesSplit mutators number (line ∷ lines) said)
      (λ has f. let x = lines_ok (number, c) later said f in inr (c, x.0, x.1, is_speaks line (CommandLine c) is, thread_is mutators c has, rest x.0 x.2))
      (λ _ f. absurd cc) e
  line_split said Bad is rest e = absurd cc

split_said : (mutators number : ℕ) (lines : List (List ℕ)) (said : List (ℕ × Command)) → split_commands mutators number lines ≡ Ok said → LinesSplit mutators number lines said
split_said mutators number [] [] e = tt
split_said mutators number [] (one ∷ others) e = absurd cc
split_said mutators number (line ∷ lines) said e = line_split mutators number line lines said (line_of line) refl (λ more h. split_said mutators (number + 1) lines more h) e

-- without their numbers the commands are what the lines say
plainly_said : (mutators number : ℕ) (lines : List (List ℕ)) (said : List (ℕ × Command)) → LinesSplit mutators number lines said → LinesSay lines (map (λ (line : ℕ × Command). line.1) said)
plainly_said mutators number [] [] h = tt
plainly_said mutators number [] (one ∷ others) h = absurd h
plainly_said mutators number (line ∷ lines) said (inl h) = inl (h.0, plainly_said mutators (number + 1) lines said h.1)
plainly_said mutators number (line ∷ lines) said (inr (c, later, is, speaks, has, says)) =
    inr (c, map (λ (line : ℕ × Command). line.1) later, ap (map (λ (line : ℕ × Command). line.1)) is, speaks, plainly_said mutators (number + 1) lines later says)

-- each is of a thread
own_lines : (mutators number : ℕ) (lines : List (List ℕ)) (said : List (ℕ × Command)) (thread : Thread) → LinesSplit mutators number lines said → AreOwn mutators thread (lines_in thread said)
own_lines mutators number [] [] thread h = tt
own_lines mutators number [] (one ∷ others) thread h = absurd h
own_lines mutators number (line ∷ lines) said thread (inl h) = own_lines mutators (number + 1) lines said thread h.1
own_lines mutators number (line ∷ lines) said thread (inr (c, later, is, speaks, has, says)) =
    let rest = own_lines mutators (number + 1) lines later thread says in
    subst (λ ls. AreOwn mutators thread (lines_in thread ls)) (sym is)
    (cond_both (is_of thread c) ((number, c) ∷ lines_in thread later) (lines_in thread later) (AreOwn mutators thread) (λ own. (own, has, rest)) (λ _. rest))

-- ---- the heap's line
sought_nothing : (number : ℕ) (lines : List (List ℕ)) → LinesSay lines [] → heap_sought number lines ≡ Ok NoHeap
sought_nothing number [] h = refl
sought_nothing number (line ∷ lines) (inl h) = ap (λ l. found_at number l lines (heap_sought (number + 1) lines)) (passed_is line h.0) ∙ sought_nothing (number + 1) lines h.1
sought_nothing number (line ∷ lines) (inr h) = let odd : [] ≡ h.0 ∷ h.1 = h.2 in absurd cc

sought_heap : (number : ℕ) (front : List (List ℕ)) (line : List ℕ) (rest : List (List ℕ)) (logs mutators epoch : ℕ) → LinesSay front [] → Speaks line (HeapLine logs mutators epoch) →
    heap_sought number (front ++ line ∷ rest) ≡ Ok (HeapAt logs mutators epoch (number + length front) rest)
sought_heap number [] line rest logs mutators epoch h speaks =
    let at : number ≡ number + 0 = omega arith in
    ap (λ l. found_at number l rest (heap_sought (number + 1) rest)) (speaks_is line (HeapLine logs mutators epoch) speaks) ∙ ap (λ k. Ok (HeapAt logs mutators epoch k rest)) at
sought_heap number (first ∷ front) line rest logs mutators epoch (inl h) speaks =
    let at : number + 1 + length front ≡ number + suc (length front) = omega arith in
    ap (λ l. found_at number l (front ++ line ∷ rest) (heap_sought (number + 1) (front ++ line ∷ rest))) (passed_is first h.0)
    ∙ sought_heap (number + 1) front line rest logs mutators epoch h.1 speaks ∙ ap (λ k. Ok (HeapAt logs mutators epoch k rest)) at
sought_heap number (first ∷ front) line rest logs mutators epoch (inr h) speaks = let odd : [] ≡ h.0 ∷ h.1 = h.2 in absurd cc

-- what is found of a heap, the lines say
abbrev FoundIs : ℕ → List (List ℕ) → Found → Type 0
FoundIs number lines NoHeap = LinesSay lines []
FoundIs number lines (HeapAt logs mutators epoch n after) = (front : List (List ℕ)) × (line : List ℕ) × (lines ≡ front ++ line ∷ after) × (n ≡ number + length front)
    × LinesSay front [] × Speaks line (HeapLine logs mutators epoch)

found_after : (number : ℕ) (line : List ℕ) (lines : List (List ℕ)) (f : Found) → IsPassed line → FoundIs (number + 1) lines f → FoundIs number (line ∷ lines) f
found_after number line lines NoHeap passed h = inl (passed, h)
found_after number line lines (HeapAt logs mutators epoch n after) passed (front, at, whole, is, none, speaks) =
    (line ∷ front, at, ap (λ ls. line ∷ ls) whole, omega (arith, is), inl (passed, none), speaks)

found_line : (number : ℕ) (line : List ℕ) (lines : List (List ℕ)) (f : Found) (l : Line) → line_of line ≡ l →
    (heap_sought (number + 1) lines ≡ Ok f → FoundIs (number + 1) lines f) → found_at number l lines (heap_sought (number + 1) lines) ≡ Ok f → FoundIs number (line ∷ lines) f
found_line number line lines f Skipped is rest e = found_after number line lines f (is_passed line is) (rest e)
found_line number line lines f (Saying (HeapLine logs mutators epoch)) is rest e =
    let same : HeapAt logs mutators epoch number lines ≡ f = cc in
    subst (FoundIs number (line ∷ lines)) same ([], line, refl, omega arith, tt, is_speaks line (HeapLine logs mutators epoch) is)
found_line number line lines f (Saying (DeviceLine device)) is rest e = absurd cc
found_line number line lines f (Saying (CommandLine c)) is rest e = absurd cc
found_line number line lines f Bad is rest e = absurd cc

found_said : (number : ℕ) (lines : List (List ℕ)) (f : Found) → heap_sought number lines ≡ Ok f → FoundIs number lines f
found_said number [] f e = let same : NoHeap ≡ f = cc in subst (FoundIs number []) same tt
found_said number (line ∷ lines) f e = found_line number line lines f (line_of line) refl (λ h. found_said (number + 1) lines f h) e

-- ---- whole texts
with_ok : (logs mutators epoch : ℕ) (device : Option Device) (later : Result (List (ℕ × Command)) ℕ) (t : SplitTrace) → with_lines logs mutators epoch device later ≡ Ok t →
    (said : List (ℕ × Command)) × (SplitHeap logs mutators epoch device said ≡ t) × (later ≡ Ok said)
with_ok logs mutators epoch device (Ok said) t e = (said, cc, refl)
with_ok logs mutators epoch device (Err n) t e = absurd cc

with_err : (logs mutators epoch : ℕ) (device : Option Device) (later : Result (List (ℕ × Command)) ℕ) (n : ℕ) → with_lines logs mutators epoch device later ≡ Err n → later ≡ Err n
with_err logs mutators epoch device (Ok said) n e = absurd cc
with_err logs mutators epoch device (Err m) n e = let same : m ≡ n = cc in ap Err same

said_all : (number : ℕ) (lines : List (List ℕ)) (t : SplitTrace) → LinesAreSplit number lines t → split_from (heap_sought number lines) ≡ Ok t
said_all number lines NothingSplit h = ap split_from (sought_nothing number lines h)
said_all number lines (SplitHeap logs mutators epoch device said) (front, line, rest, more, whole, none, speaks, by, first, sum, says) =
    let (k, total, stands) = beside_is (number + length front + 1) rest more device (map (λ (line : ℕ × Command). line.1) said) by (plainly_said mutators first more said says) in
    let all = ap length whole in
    let parts = length-append front (line ∷ rest) in
    let at : k ≡ first = omega (arith, sum, total, all, parts) in
    ap (λ ls. split_from (heap_sought number ls)) whole
    ∙ ap split_from (sought_heap number front line rest logs mutators epoch none speaks)
    ∙ ap (split_after logs mutators epoch) stands
    ∙ ap (λ j. with_lines logs mutators epoch device (split_commands mutators j more)) at
    ∙ ap (with_lines logs mutators epoch device) (said_split mutators first more said says)

heap_split : (number : ℕ) (lines : List (List ℕ)) (logs mutators epoch n : ℕ) (after : List (List ℕ)) (said : List (ℕ × Command)) → FoundIs number lines (HeapAt logs mutators epoch n after)
    → split_commands mutators (beside (n + 1) after).1 (beside (n + 1) after).2 ≡ Ok said → LinesAreSplit number lines (SplitHeap logs mutators epoch (beside (n + 1) after).0 said)
heap_split number lines logs mutators epoch n after said (front, line, whole, is, none, speaks) e =
    let first = (beside (n + 1) after).1 in
    let more = (beside (n + 1) after).2 in
    let by = is_beside (n + 1) after in
    let all = ap length whole in
    let parts = length-append front (line ∷ after) in
    (front, line, after, more, whole, none, speaks, by.0, first, omega (arith, by.1, is, all, parts), split_said mutators first more said e)

all_said : (number : ℕ) (lines : List (List ℕ)) (t : SplitTrace) (found : Result Found ℕ) → heap_sought number lines ≡ found → split_from found ≡ Ok t → LinesAreSplit number lines t
all_said number lines t (Ok NoHeap) is e = let same : NothingSplit ≡ t = cc in subst (LinesAreSplit number lines) same (found_said number lines NoHeap is)
all_said number lines t (Ok (HeapAt logs mutators epoch n after)) is e =
    let (said, same, reads) = with_ok logs mutators epoch (beside (n + 1) after).0 (split_commands mutators (beside (n + 1) after).1 (beside (n + 1) after).2) t e in
    subst (LinesAreSplit number lines) same (heap_split number lines logs mutators epoch n after said (found_said number lines (HeapAt logs mutators epoch n after) is) reads)
all_said number lines t (Err n) is e = absurd cc

lt_false : (most n : ℕ) → n ≤ most → nat_lt most n ≡ false
lt_false most n h = lt-leb (suc most) n (omega arith)

inside : (most n : ℕ) → nat_lt most n ≡ false → n ≤ most
inside most n e = grind (arith, nat_tests)

past : (most n : ℕ) → nat_lt most n ≡ true → most < n
past most n e = grind (arith, nat_tests)

pub splits_read : (text : List ℕ) (t : SplitTrace) → TextSaysSplit text t ↔ (split_of text ≡ Ok t)
splits_read text t = (
  (λ h. let short : nat_lt LONGEST_TEXT (length text) ≡ false = lt_false LONGEST_TEXT (length text) h.0 in
      ap (λ b. cond b (Err 0) (split_from (heap_sought 1 (lines_of text)))) short ∙ said_all 1 (lines_of text) t h.1),
  cond_both (nat_lt LONGEST_TEXT (length text)) (Err 0) (split_from (heap_sought 1 (lines_of text))) (λ (x : Result SplitTrace ℕ). x ≡ Ok t → TextSaysSplit text t)
      (λ _ e. absurd cc) (λ within e. (inside LONGEST_TEXT (length text) within, all_said 1 (lines_of text) t (heap_sought 1 (lines_of text)) refl e)),
)

pub splits_are_traces : (text : List ℕ) (logs mutators epoch : ℕ) (device : Option Device) (said : List (ℕ × Command))
    → split_of text ≡ Ok (SplitHeap logs mutators epoch device said) → trace_of text ≡ Ok (Heap logs mutators epoch device (map (λ (line : ℕ × Command). line.1) said))
splits_are_traces text logs mutators epoch device said e =
    let (short, (front, line, rest, more, whole, none, speaks, by, first, sum, says)) = (splits_read text (SplitHeap logs mutators epoch device said)).1 e in
    (texts_read text (Heap logs mutators epoch device (map (λ (line : ℕ × Command). line.1) said))).0
    (short, (front, line, rest, more, whole, none, speaks, by, plainly_said mutators first more said says))

pub threads_run_their_own : (text : List ℕ) (logs mutators epoch : ℕ) (device : Option Device) (said : List (ℕ × Command)) (thread : Thread)
    → split_of text ≡ Ok (SplitHeap logs mutators epoch device said) → AreOwn mutators thread (lines_in thread said)
threads_run_their_own text logs mutators epoch device said thread e =
    let (short, (front, line, rest, more, whole, none, speaks, by, first, sum, says)) = (splits_read text (SplitHeap logs mutators epoch device said)).1 e in
    own_lines mutators first more said thread says

-- ---- the first line that can't be split
-- among the lines after the heap's
abbrev UnsplitAfter : ℕ → ℕ → List (List ℕ) → ℕ → Type 0
UnsplitAfter mutators number lines n = (front : List (List ℕ)) × (bad : List ℕ) × (rest : List (List ℕ)) × (said : List (ℕ × Command))
    × (lines ≡ front ++ bad ∷ rest) × (n ≡ number + length front) × LinesSplit mutators number front said × (¬ IsPassed bad) × ((c : Command) → HasThread mutators c → ¬ Speaks bad (CommandLine c))

-- a line that says another thing says no command
says_other : (line : List ℕ) (l : Line) (c : Command) → line_of line ≡ l → l ≢ Saying (CommandLine c) → ¬ Speaks line (CommandLine c)
says_other line l c is other speaks = other (sym is ∙ speaks_is line (CommandLine c) speaks)

-- nor one that says a command without a thread one with a thread
no_thread : (mutators : ℕ) (c d : Command) → has_thread mutators c ≡ false → HasThread mutators d → Saying (CommandLine c) ≢ Saying (CommandLine d)
no_thread mutators c d none has odd =
    let same : c ≡ d = cc in
    let both : false ≡ true = sym none ∙ ap (has_thread mutators) same ∙ thread_said mutators d has in cc

module _ (mutators number : ℕ) (line : List ℕ) (lines : List (List ℕ)) (n : ℕ) where
  abbrev after : Result (List (ℕ × Command)) ℕ
  after = split_commands mutators (number + 1) lines

  -- it is this one
  here : (l : Line) → line_of line ≡ l → l ≢ Skipped → ((c : Command) → HasThread mutators c → l ≢ Saying (CommandLine c)) → number ≡ n → UnsplitAfter mutators number (line ∷ lines) n
  here l is unskipped unsaid at = ([], line, lines, [], refl, omega (arith, at), tt, not_passed line l is unskipped, λ c has. says_other line l c is (unsaid c has))

  unsplit_command : (l : Line) → line_of line ≡ l → (after ≡ Err n → UnsplitAfter mutators (number + 1) lines n) → split_command mutators number l after ≡ Err n → UnsplitAfter mutators number (line ∷ lines) n
  unsplit_command Skipped is rest e =
      let (front, bad, more, said, whole, at, says, unpassed, unsaid) = rest e in
      (line ∷ front, bad, more, said, ap (λ ls. line ∷ ls) whole, omega (arith, at), inl (is_passed line is, says), unpassed, unsaid)
  unsplit_command (Saying (HeapLine logs others epoch)) is rest e = here (Saying (HeapLine logs others epoch)) is (λ odd. cc) (λ c has odd. cc) cc
  unsplit_command (Saying (DeviceLine device)) is rest e = here (Saying (DeviceLine device)) is (λ odd. cc) (λ c has odd. cc) cc
  unsplit_command (Saying (CommandLine c)) is rest e =
      cond_both (has_thread mutators c) (Some c) None (λ (o : Option Command). threaded_onto number o after ≡ Err n → UnsplitAfter mutators number (line ∷ lines) n)
      (λ has f. let (front, bad, more, said, whole, at, says, unpassed, unsaid) = rest (lines_err (number, c) after n f) in
      (line ∷ front, bad, more, (number, c) ∷ said, ap (λ ls. line ∷ ls) whole, omega (arith, at), inr (c, said, refl, is_speaks line (CommandLine c) is, thread_is mutators c has, says), unpassed, unsaid))
      (λ none f. here (Saying (CommandLine c)) is (λ odd. cc) (λ d has. no_thread mutators c d none has) cc) e
  unsplit_command Bad is rest e = here Bad is (λ odd. cc) (λ c has odd. cc) cc

unsplit_commands : (mutators number : ℕ) (lines : List (List ℕ)) (n : ℕ) → split_commands mutators number lines ≡ Err n → UnsplitAfter mutators number lines n
unsplit_commands mutators number [] n e = absurd cc
unsplit_commands mutators number (line ∷ lines) n e = unsplit_command mutators number line lines n (line_of line) refl (λ h. unsplit_commands mutators (number + 1) lines n h) e

-- as far as the heap's line
abbrev UnsoughtBy : ℕ → List (List ℕ) → ℕ → Type 0
UnsoughtBy number lines n = (front : List (List ℕ)) × (bad : List ℕ) × (rest : List (List ℕ)) × (lines ≡ front ++ bad ∷ rest) × (n ≡ number + length front) × LinesSay front [] × CantBeSplit NothingSplit bad

unsought_line : (number : ℕ) (line : List ℕ) (lines : List (List ℕ)) (n : ℕ) (l : Line) → line_of line ≡ l →
    (heap_sought (number + 1) lines ≡ Err n → UnsoughtBy (number + 1) lines n) → found_at number l lines (heap_sought (number + 1) lines) ≡ Err n → UnsoughtBy number (line ∷ lines) n
unsought_line number line lines n Skipped is rest e =
    let (front, bad, more, whole, at, none, nothing) = rest e in
    (line ∷ front, bad, more, ap (λ ls. line ∷ ls) whole, omega (arith, at), inl (is_passed line is, none), nothing)
unsought_line number line lines n (Saying (HeapLine logs mutators epoch)) is rest e = absurd cc
unsought_line number line lines n (Saying (DeviceLine device)) is rest e =
    let at : number ≡ n = cc in (
      [],
      line,
      lines,
      refl,
      omega (arith, at),
      tt,
      (
        not_passed line (Saying (DeviceLine device)) is (λ odd. cc),
        λ logs mutators epoch s. let odd : Saying (DeviceLine device) ≡ Saying (HeapLine logs mutators epoch) = sym is ∙ speaks_is line (HeapLine logs mutators epoch) s in cc,
      ),
    )
unsought_line number line lines n (Saying (CommandLine c)) is rest e =
    let at : number ≡ n = cc in (
      [],
      line,
      lines,
      refl,
      omega (arith, at),
      tt,
      (
        not_passed line (Saying (CommandLine c)) is (λ odd. cc),
        λ logs mutators epoch s. let odd : Saying (CommandLine c) ≡ Saying (HeapLine logs mutators epoch) = sym is ∙ speaks_is line (HeapLine logs mutators epoch) s in cc,
      ),
    )
unsought_line number line lines n Bad is rest e =
    let at : number ≡ n = cc in (
      [],
      line,
      lines,
      refl,
      omega (arith, at),
      tt,
      (
        not_passed line Bad is (λ odd. cc),
        λ logs mutators epoch s. let odd : Bad ≡ Saying (HeapLine logs mutators epoch) = sym is ∙ speaks_is line (HeapLine logs mutators epoch) s in cc,
      ),
    )

unsought : (number : ℕ) (lines : List (List ℕ)) (n : ℕ) → heap_sought number lines ≡ Err n → UnsoughtBy number lines n
unsought number [] n e = absurd cc
unsought number (line ∷ lines) n e = unsought_line number line lines n (line_of line) refl (λ h. unsought (number + 1) lines n h) e

-- after it
unsplit_heap : (number : ℕ) (lines : List (List ℕ)) (logs mutators epoch k : ℕ) (after : List (List ℕ)) (n : ℕ) → FoundIs number lines (HeapAt logs mutators epoch k after)
    → UnsplitAfter mutators (beside (k + 1) after).1 (beside (k + 1) after).2 n → FirstUnsplit number lines n
unsplit_heap number lines logs mutators epoch k after n (before, line, whole, is, none, speaks) (front, bad, rest, said, later, at, says, unpassed, unsaid) =
    let first = (beside (k + 1) after).1 in
    let (between, all, from, by, undeviced) = bad_beside (k + 1) after front bad rest (plain said) n later at (plainly_said mutators first front said says) in
    let sum = length-append before (line ∷ between) in (
      before ++ line ∷ between,
      bad,
      rest,
      SplitHeap logs mutators epoch (beside (k + 1) after).0 said,
      whole ∙ ap (λ ls. before ++ line ∷ ls) all ∙ sym (append_assoc before (line ∷ between) (bad ∷ rest)),
      omega (arith, from, is, sum),
      (before, line, between, front, refl, none, speaks, by, first, omega (arith, at, from, is, sum), says),
      (unpassed, unsaid, undeviced),
    )

unsplit_from : (number : ℕ) (lines : List (List ℕ)) (n : ℕ) (found : Result Found ℕ) → heap_sought number lines ≡ found → split_from found ≡ Err n → FirstUnsplit number lines n
unsplit_from number lines n (Ok NoHeap) is e = absurd cc
unsplit_from number lines n (Ok (HeapAt logs mutators epoch k after)) is e =
    unsplit_heap number lines logs mutators epoch k after n (found_said number lines (HeapAt logs mutators epoch k after) is)
    (unsplit_commands mutators (beside (k + 1) after).1 (beside (k + 1) after).2 n
    (with_err logs mutators epoch (beside (k + 1) after).0 (split_commands mutators (beside (k + 1) after).1 (beside (k + 1) after).2) n e))
unsplit_from number lines n (Err m) is e =
    let same : m ≡ n = cc in
    let (front, bad, rest, whole, at, none, nothing) = unsought number lines n (is ∙ ap Err same) in
    (front, bad, rest, NothingSplit, whole, at, none, nothing)

pub first_unsplit : (text : List ℕ) (n : ℕ) → split_of text ≡ Err n → ((n ≡ 0) × (LONGEST_TEXT < length text)) ⊎ ((length text ≤ LONGEST_TEXT) × FirstUnsplit 1 (lines_of text) n)
first_unsplit text n = cond_both (nat_lt LONGEST_TEXT (length text)) (Err 0) (split_from (heap_sought 1 (lines_of text)))
    (λ (x : Result SplitTrace ℕ). x ≡ Err n → ((n ≡ 0) × (LONGEST_TEXT < length text)) ⊎ ((length text ≤ LONGEST_TEXT) × FirstUnsplit 1 (lines_of text) n))
    (λ long e. inl (cc, past LONGEST_TEXT (length text) long))
    (λ within e. inr (inside LONGEST_TEXT (length text) within, unsplit_from 1 (lines_of text) n (heap_sought 1 (lines_of text)) refl e))
