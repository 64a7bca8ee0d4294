-- What a whole text says whose commands are split among threads, line by line; which line is the first that can't be; and that each command has one thread.
use Rattle.std.specs.Prelude.{◌≡◌, ◌≢◌, ◌⊎◌, ◌↔◌, ℕ, ◌+◌, ◌<◌, ◌≤◌, true, Ok, Err, List, [], ◌∷◌, ◌++◌, Option, length, map}
use Rattle.far_text.specs.Command.{Command, Device, HeapLine, CommandLine, Heap, Request, Where, Epoch, Inquiry, Policy, Mutator, Book, Evacuator, Round}
use Rattle.far_text.specs.Grammar.{lines_of, trace_of}
use Rattle.far_text.specs.Split.{SplitTrace, NothingSplit, SplitHeap, split_of}
use Rattle.far_text.specs.Threads.{Thread, OfMutator, OfBook, is_of, lines_in}
use Rattle.far_text.specs.TraceText.{Beside, IsPassed, LinesSay, MaySayDevice, Speaks}
use Rattle.far_text.specs.declared.text.TheConstants.{LONGEST_TEXT}

-- a mutator of so many asks for something else than where an object is, or the epoch
abbrev pub IsMutators : ℕ → Command → Type 0
IsMutators mutators c = (m : ℕ) × (request : Request) × (c ≡ Mutator m request) × (m < mutators) × ((p : ℕ) → request ≢ Where p) × (request ≢ Epoch)

-- the book is asked, or a whole round is made
abbrev pub IsBooks : Command → Type 0
IsBooks c = ((inquiry : Inquiry) × (c ≡ Book inquiry)) ⊎ ((policy : Policy) × (most turns : ℕ) × (c ≡ Evacuator (Round policy most turns)))

-- one of the threads of so many mutators, or of the book, runs the command
abbrev pub HasThread : ℕ → Command → Type 0
HasThread mutators c = IsMutators mutators c ⊎ IsBooks c

-- these lines, counted from a number on, say these commands and no others, in order, each with a thread, and each beside the number of its line
abbrev pub LinesSplit : ℕ → ℕ → List (List ℕ) → List (ℕ × Command) → Type 0
LinesSplit mutators number [] [] = Unit {0}
LinesSplit mutators number [] (one ∷ others) = ⊥
LinesSplit mutators number (line ∷ lines) said =
    (IsPassed line × LinesSplit mutators (number + 1) lines said)
    ⊎ ((c : Command) × (later : List (ℕ × Command)) × (said ≡ (number, c) ∷ later) × Speaks line (CommandLine c) × HasThread mutators c × LinesSplit mutators (number + 1) lines later)

-- these lines, counted from a number on, say nothing; or one says the heap, those before it say nothing, and those after it say its device, if that is said, and then the commands
abbrev pub LinesAreSplit : ℕ → List (List ℕ) → SplitTrace → Type 0
LinesAreSplit number lines NothingSplit = LinesSay lines []
LinesAreSplit number lines (SplitHeap logs mutators epoch device said) = (front : List (List ℕ)) × (line : List ℕ) × (rest more : List (List ℕ)) × (lines ≡ front ++ line ∷ rest)
    × LinesSay front [] × Speaks line (HeapLine logs mutators epoch) × Beside device rest more × (first : ℕ) × (number + length lines ≡ first + length more) × LinesSplit mutators first more said

-- a text that is not too long and whose lines say this
abbrev pub TextSaysSplit : List ℕ → SplitTrace → Type 0
TextSaysSplit text t = (length text ≤ LONGEST_TEXT) × LinesAreSplit 1 (lines_of text) t

-- these commands, without the numbers of their lines
abbrev pub plain : List (ℕ × Command) → List Command
plain said = map (λ (line : ℕ × Command). line.1) said

-- a line that is neither passed over nor says what may stand here: the heap where nothing was said, after it a command with a thread, or first its device
abbrev pub CantBeSplit : SplitTrace → List ℕ → Type 0
CantBeSplit NothingSplit line = (¬ IsPassed line) × ((logs mutators epoch : ℕ) → ¬ Speaks line (HeapLine logs mutators epoch))
CantBeSplit (SplitHeap logs mutators epoch device said) line = (¬ IsPassed line) × ((c : Command) → HasThread mutators c → ¬ Speaks line (CommandLine c)) × (¬ MaySayDevice device (plain said) line)

-- line n of these, counted from a number on, is the first of that kind
abbrev pub FirstUnsplit : ℕ → List (List ℕ) → ℕ → Type 0
FirstUnsplit number lines n = (front : List (List ℕ)) × (bad : List ℕ) × (rest : List (List ℕ)) × (t : SplitTrace)
    × (lines ≡ front ++ bad ∷ rest) × (n ≡ number + length front) × LinesAreSplit number front t × CantBeSplit t bad

-- ---- the laws
-- a text is read as something exactly where it says it
abbrev pub SplitsAreRead : Type 0
SplitsAreRead = (text : List ℕ) (t : SplitTrace) → TextSaysSplit text t ↔ (split_of text ≡ Ok t)

-- else it is too long, or line n is the first that can't be split
abbrev pub FirstUnsplitLines : Type 0
FirstUnsplitLines = (text : List ℕ) (n : ℕ) → split_of text ≡ Err n → ((n ≡ 0) × (LONGEST_TEXT < length text)) ⊎ ((length text ≤ LONGEST_TEXT) × FirstUnsplit 1 (lines_of text) n)

-- the commands are those of the text where it isn't split
abbrev pub SplitsAreTraces : Type 0
SplitsAreTraces = (text : List ℕ) (logs mutators epoch : ℕ) (device : Option Device) (said : List (ℕ × Command))
    → split_of text ≡ Ok (SplitHeap logs mutators epoch device said) → trace_of text ≡ Ok (Heap logs mutators epoch device (plain said))

-- these lines are a thread's own, each with a command that one of the threads runs
abbrev pub AreOwn : ℕ → Thread → List (ℕ × Command) → Type 0
AreOwn mutators thread [] = Unit {0}
AreOwn mutators thread (line ∷ lines) = (is_of thread line.1 ≡ true) × HasThread mutators line.1 × AreOwn mutators thread lines

-- a thread runs its own lines alone
abbrev pub ThreadsRunTheirOwn : Type 0
ThreadsRunTheirOwn = (text : List ℕ) (logs mutators epoch : ℕ) (device : Option Device) (said : List (ℕ × Command)) (thread : Thread)
    → split_of text ≡ Ok (SplitHeap logs mutators epoch device said) → AreOwn mutators thread (lines_in thread said)

-- the threads of so many mutators, and of the book
abbrev pub IsThread : ℕ → Thread → Type 0
IsThread mutators (OfMutator m) = m < mutators
IsThread mutators OfBook = Unit {0}

-- a command that has a thread is one thread's
abbrev pub ThreadsShareNone : Type 0
ThreadsShareNone = (mutators : ℕ) (c : Command) → HasThread mutators c
    → (thread : Thread) × IsThread mutators thread × (is_of thread c ≡ true) × ((other : Thread) → is_of other c ≡ true → other ≡ thread)

-- it is a command of this mutator's, whatever it asks for; or of the book's
abbrev pub IsThreads : Thread → Command → Type 0
IsThreads (OfMutator m) c = (request : Request) × (c ≡ Mutator m request)
IsThreads OfBook c = IsBooks c

-- a thread has of these lines each that is its own, in order, and no other
abbrev pub HasItsOwn : Thread → List (ℕ × Command) → List (ℕ × Command) → Type 0
HasItsOwn thread [] own = own ≡ []
HasItsOwn thread (line ∷ lines) own = (IsThreads thread line.1 × (later : List (ℕ × Command)) × (own ≡ line ∷ later) × HasItsOwn thread lines later) ⊎ ((¬ IsThreads thread line.1) × HasItsOwn thread lines own)

-- a mutator's thread has exactly its commands, the book's exactly the book's
abbrev pub ThreadsAre : Type 0
ThreadsAre = (thread : Thread) (lines : List (ℕ × Command)) → HasItsOwn thread lines (lines_in thread lines)
