-- The state that a core's memory has.
use Rattle.std.specs.Prelude.{ℕ, ◌+◌, ◌*◌, ◌/◌, ◌%◌, false, cond, nat_lt, None, Some, slice_index, slice_index_or}
use Rattle.std.specs.Vec.{vec_len}
use Rattle.far_word.specs.declared.sizes.TheConstants.{LOG_WORDS}
use Rattle.far_word.specs.declared.pointer.Place.{Place}
use Rattle.far_events.specs.declared.event.Kind.TheVariants.{Free}
use Rattle.far_events.specs.declared.memory.Memory.{Memory}
use Rattle.far_events.specs.declared.memory.jobs.Jobs.{Jobs}
use Rattle.far_events.specs.state.Bits.{bit_in}
use Rattle.far_events.specs.state.State.{Copying, State}
use Rattle.far_events.specs.state.Stored.{stored_by}
use Rattle.far_events.specs.state.Words.{word_in}

-- the words that a copier has read and written lie in a row of a log's length
unfoldable pub copying_of : Jobs → Copying
copying_of c = record {
  has_copiers = c.has_copiers;
  word = λ j. slice_index c.words j;
  since = λ j. slice_index c.since j;
  named = λ j. slice_index_or c.named j false;
  task = λ k. slice_index_or c.tasks k None;
  length = λ k. slice_index_or c.lengths k None;
  read = λ k i. cond (nat_lt i LOG_WORDS) (slice_index_or c.read.items (k * LOG_WORDS + i) None) None;
  written = λ k i. cond (nat_lt i LOG_WORDS) (slice_index_or c.written.items (k * LOG_WORDS + i) false) false;
}

-- the place of a word of the logs, by its number
abbrev pub place_in : ℕ → Place
place_in n = record { log = n / LOG_WORDS; at = n % LOG_WORDS }

unfoldable pub state_of : Memory → State
state_of c = record {
  mutators = vec_len c.scopes;
  logs = vec_len c.tails;
  honest = c.honest;
  epoch = c.epoch;
  scope = λ m. slice_index c.scopes.items m;
  cell = λ p. slice_index c.cells.items p;
  word = word_in c.words;
  remembered = λ m. slice_index_or c.remembered.items m None;
  used = λ p. slice_index_or c.used.items p false;
  held = λ p. cond (bit_in c.held p) (Some (place_in (slice_index c.places.items p))) None;
  soiled = bit_in c.soiled;
  kind = λ l. slice_index_or c.kinds.items l Free;
  tail = λ l. slice_index c.tails.items l;
  current = c.current;
  starts = bit_in c.starts;
  round = λ l. slice_index_or c.round.items l false;
  round_epoch = c.round_epoch;
  clear = λ m. slice_index_or c.clear.items m false;
  stored = stored_by c.stored.items;
  copying = copying_of c.jobs;
}
