-- Which commands of a trace may run in threads, one for each mutator and one for the book, and which of them are each thread's.
use Rattle.std.specs.Prelude.{ℕ, Bool, true, false, ◌&&◌, ◌==◌, nat_lt, List, filter}
use Rattle.far_text.specs.Command.{Command, Mutator, Book, Evacuator, Request, Where, Epoch, Step, Round}
use Rattle.far_text.specs.declared.threads.Thread.{Thread as SpelledThread}
use Rattle.far_text.specs.declared.threads.Thread.TheVariants.{Mutator as SpelledMutator, Book as SpelledBook}

-- the thread of a mutator, by its number, or of the book
pub data Thread : Type 0 where
  OfMutator : (mutator : ℕ) → Thread
  OfBook : Thread

abbrev pub as_thread : SpelledThread → Thread
as_thread (SpelledMutator mutator) = OfMutator mutator
as_thread SpelledBook = OfBook

-- what a mutator may ask for in its thread: all but where an object is, and the epoch
abbrev pub is_own : Request → Bool
is_own (Where pointer) = false
is_own Epoch = false
is_own request = true

-- what the book's thread may ask of the evacuator: whole rounds
abbrev pub is_round : Step → Bool
is_round (Round policy most turns) = true
is_round step = false

-- whether one of the threads of so many mutators, or of the book, runs the command
abbrev pub has_thread : ℕ → Command → Bool
has_thread mutators (Mutator m request) = is_own request && nat_lt m mutators
has_thread mutators (Book inquiry) = true
has_thread mutators (Evacuator step) = is_round step

-- whether the command is this thread's
abbrev pub is_of : Thread → Command → Bool
is_of (OfMutator m) (Mutator n request) = n == m
is_of (OfMutator m) (Book inquiry) = false
is_of (OfMutator m) (Evacuator step) = false
is_of OfBook (Mutator m request) = false
is_of OfBook (Book inquiry) = true
is_of OfBook (Evacuator step) = is_round step

-- of all commands, each beside its line's number, those of a thread, in order
abbrev pub lines_in : Thread → List (ℕ × Command) → List (ℕ × Command)
lines_in thread lines = filter (λ (line : ℕ × Command). is_of thread line.1) lines
