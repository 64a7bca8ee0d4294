-- What the book has written down of a state, and how that changes.
use Rattle.std.specs.Prelude.{◌≡◌, ◌≢◌, ℕ, ◌+◌, ◌*◌, ◌/◌, ◌%◌, ◌<◌, ◌≤◌, ◌==◌, ◌&&◌, ◌||◌, Bool, true, false, not, eqb, nat_lt, Option, Some, None, [], ◌∷◌, ◌++◌, length, slice_index_or, if◌then◌else◌}
use Rattle.std.specs.List.{IsDistinct, list_any}
use Rattle.std.specs.Vec.{vec_len}
use Rattle.far_word.specs.declared.pointer.Place.{Place}
use Rattle.far_word.specs.declared.pointer.PtrWord.{PtrWord}
use Rattle.far_word.specs.declared.sizes.TheConstants.{CELLS, LOG_WORDS, MOST_LOGS}
use Rattle.far_word.specs.Pointer.{read_of}
use Rattle.far_events.specs.events.Naming.{is_dropped}
use Rattle.far_events.specs.events.Mark.{is_sealed}
use Rattle.far_core.specs.laws.Observed.{live_bytes}
use Rattle.far_events.specs.state.Law.{Law}
use Rattle.far_core.specs.state.Room.{is_free}
use Rattle.far_events.specs.state.State.{State}
use Rattle.far_book.specs.declared.ledger.Filled.{Filled}
use Rattle.far_book.specs.declared.ledger.Ledger.{Ledger}
use Rattle.far_book.specs.declared.ledger.TheConstants.{SETS}
use Rattle.far_hand.specs.Finds.{body_of}
use Rattle.far_book.specs.book.Jobs.{NotesJobs}
use Rattle.far_book.specs.book.NumberSet.{has}

-- what is written down of a log
abbrev pub filled_of : Ledger → ℕ → Filled
filled_of ledger l = slice_index_or ledger.filled.items l record { tail = 0; live = 0 }

-- a pointer's cell is written down as free
abbrev pub is_noted_free : Ledger → ℕ → Bool
is_noted_free ledger p = has (slice_index_or ledger.free_cells.items (p / 64) record { word = 0 }) (p % 64)

-- a ledger is right about a state, which keeps the law
pub record Notes (s : State) (ledger : Ledger) : Type 0 where
  pub law : Law s
  -- the open log, and which logs are free
  pub current : ledger.current ≡ s.current
  pub free : (l : ℕ) → l < 64 → has ledger.free_logs l ≡ (nat_lt l s.logs && is_free (s.kind l))
  -- of each log its tail, and the bytes that its live spans take
  pub logs : vec_len ledger.filled ≡ s.logs
  pub tails : (l : ℕ) → l < s.logs → (filled_of ledger l).tail ≡ s.tail l
  pub lives : (l : ℕ) → l < s.logs → (filled_of ledger l).live ≡ live_bytes s l
  -- the sealed logs, each once
  pub sealed : (l : ℕ) → list_any (eqb l) ledger.order ≡ is_sealed (s.kind l)
  pub once : IsDistinct eqb ledger.order
  -- which cells are free
  pub cells : vec_len ledger.free_cells ≡ SETS * s.mutators
  pub cell : (p : ℕ) → p < CELLS * s.mutators → is_noted_free ledger p ≡ (s.cell p == 0)
  -- the jobs
  pub jobs : NotesJobs s.round_epoch s.round s.copying ledger.jobs

-- it is right about a state that has this log
abbrev pub KnowsLog : State → Ledger → ℕ → Type 0
KnowsLog s ledger l = Notes s ledger × (l < s.logs)

-- the lowest of a mutator's cells that are free, where there is one
abbrev pub IsLowestFree : State → ℕ → Option ℕ → Type 0
IsLowestFree s m None = (p : ℕ) → p / CELLS ≡ m → s.cell p ≢ 0
IsLowestFree s m (Some p) = (p / CELLS ≡ m) × (s.cell p ≡ 0) × ((q : ℕ) → q / CELLS ≡ m → q < p → s.cell q ≢ 0)

-- ---- changes
-- a span may be written down as taken: there is its log, with room for it, and room for one sealed log more; the open log isn't free
pub record MayTake (ledger : Ledger) (p size : ℕ) (place : Place) : Type 0 where
  pub few : place.log < 64
  pub log : place.log < vec_len ledger.filled
  pub tail : (filled_of ledger place.log).tail + size ≤ LOG_WORDS
  pub live : (filled_of ledger place.log).live ≤ 8 * (filled_of ledger place.log).tail
  pub order : place.log ≢ ledger.current → length ledger.order < MOST_LOGS
  pub taken : has ledger.free_logs ledger.current ≡ false
  pub cell : p / 64 < vec_len ledger.free_cells

-- an object may be retired: its cell has DROP, and says this of it but for its owner's marks
pub record MayRetire (s : State) (p : ℕ) (was : PtrWord) : Type 0 where
  pub pointer : p < CELLS * s.mutators
  pub dropped : is_dropped (read_of (s.cell p)) ≡ true
  pub is : body_of (Some was) ≡ body_of (read_of (s.cell p))

-- a log is the open one; one that was open before is sealed, the youngest
pub record Opens (old new : Ledger) (log : ℕ) : Type 0 where
  pub current : new.current ≡ log
  pub free : (l : ℕ) → l < 64 → has new.free_logs l ≡ (not (l == log) && has old.free_logs l)
  pub order : new.order ≡ (if log == old.current then old.order else old.order ++ old.current ∷ [])
  pub rest : new ≡ record old { current = new.current; free_logs = new.free_logs; order = new.order }

-- a span is taken: its log is the open one, ends later and has more live bytes; a log that was open is sealed, the youngest;
-- the cell isn't free
pub record Takes (old new : Ledger) (p size : ℕ) (place : Place) : Type 0 where
  pub current : new.current ≡ place.log
  pub free : (l : ℕ) → l < 64 → has new.free_logs l ≡ (not (l == place.log) && has old.free_logs l)
  pub order : new.order ≡ (if place.log == old.current then old.order else old.order ++ old.current ∷ [])
  pub logs : vec_len new.filled ≡ vec_len old.filled
  pub here : filled_of new place.log ≡ record { tail = (filled_of old place.log).tail + size; live = (filled_of old place.log).live + 8 * size }
  pub there : (l : ℕ) → l ≢ place.log → filled_of new l ≡ filled_of old l
  pub cells : vec_len new.free_cells ≡ vec_len old.free_cells
  pub cell : (q : ℕ) → is_noted_free new q ≡ (not (q == p) && is_noted_free old q)
  pub jobs : new.jobs ≡ old.jobs

-- a live span may be written down as taken, for a pointer that has one
pub record MayTakeAgain (ledger : Ledger) (size : ℕ) (place : Place) : Type 0 where
  pub few : place.log < 64
  pub log : place.log < vec_len ledger.filled
  pub tail : (filled_of ledger place.log).tail + size ≤ LOG_WORDS
  pub live : (filled_of ledger place.log).live ≤ 8 * (filled_of ledger place.log).tail
  pub order : place.log ≢ ledger.current → length ledger.order < MOST_LOGS
  pub taken : has ledger.free_logs ledger.current ≡ false

-- a live span is taken: its log is the open one, ends later and has more live bytes; a log that was open is sealed, the youngest
pub record TakesAgain (old new : Ledger) (size : ℕ) (place : Place) : Type 0 where
  pub current : new.current ≡ place.log
  pub free : (l : ℕ) → l < 64 → has new.free_logs l ≡ (not (l == place.log) && has old.free_logs l)
  pub order : new.order ≡ (if place.log == old.current then old.order else old.order ++ old.current ∷ [])
  pub logs : vec_len new.filled ≡ vec_len old.filled
  pub here : filled_of new place.log ≡ record { tail = (filled_of old place.log).tail + size; live = (filled_of old place.log).live + 8 * size }
  pub there : (l : ℕ) → l ≢ place.log → filled_of new l ≡ filled_of old l
  pub rest : new ≡ record old { current = new.current; free_logs = new.free_logs; order = new.order; filled = new.filled }

-- a dead span may be written down as taken
pub record MayBegin (ledger : Ledger) (size : ℕ) (place : Place) : Type 0 where
  pub few : place.log < 64
  pub log : place.log < vec_len ledger.filled
  pub tail : (filled_of ledger place.log).tail + size ≤ LOG_WORDS
  pub order : place.log ≢ ledger.current → length ledger.order < MOST_LOGS
  pub taken : has ledger.free_logs ledger.current ≡ false

-- a dead span is taken: its log is the open one, and ends later; a log that was open is sealed, the youngest
pub record Begins (old new : Ledger) (size : ℕ) (place : Place) : Type 0 where
  pub opens : Opens old (record new { filled = old.filled }) place.log
  pub logs : vec_len new.filled ≡ vec_len old.filled
  pub here : filled_of new place.log ≡ record { tail = (filled_of old place.log).tail + size; live = (filled_of old place.log).live }
  pub there : (l : ℕ) → l ≢ place.log → filled_of new l ≡ filled_of old l

-- a live span of a log is dead, and nothing else changes
pub record Loses (old new : Ledger) (log size : ℕ) : Type 0 where
  pub here : (filled_of new log).live + 8 * size ≡ (filled_of old log).live
  pub tail : (filled_of new log).tail ≡ (filled_of old log).tail
  pub there : (l : ℕ) → l ≢ log → filled_of new l ≡ filled_of old l
  pub logs : vec_len new.filled ≡ vec_len old.filled
  pub rest : new ≡ record old { filled = new.filled }

-- an object is live in another log, in a span of the same size
pub record Passes (old new : Ledger) (from to size : ℕ) : Type 0 where
  pub less : (filled_of new from).live + 8 * size ≡ (filled_of old from).live
  pub more : (filled_of new to).live ≡ (filled_of old to).live + 8 * size
  pub tails : (l : ℕ) → (filled_of new l).tail ≡ (filled_of old l).tail
  pub there : (l : ℕ) → l ≢ from → l ≢ to → filled_of new l ≡ filled_of old l
  pub logs : vec_len new.filled ≡ vec_len old.filled
  pub rest : new ≡ record old { filled = new.filled }

-- a cell is free, and nothing else changes
pub record Frees (old new : Ledger) (p : ℕ) : Type 0 where
  pub cell : (q : ℕ) → is_noted_free new q ≡ ((q == p) || is_noted_free old q)
  pub cells : vec_len new.free_cells ≡ vec_len old.free_cells
  pub rest : new ≡ record old { free_cells = new.free_cells }
