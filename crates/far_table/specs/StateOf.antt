-- The words and all views are a state of the core.
use Rattle.std.specs.Prelude.{ℕ, ◌/◌, Bool, false, true, Option, Some, None, List, [], is_some}
use Rattle.far_word.specs.declared.pointer.Place.{Place}
use Rattle.far_word.specs.declared.sizes.TheConstants.{CELLS}
use Rattle.far_events.specs.declared.event.Kind.TheVariants.{Free}
use Rattle.far_events.specs.events.Advance.{is_among}
use Rattle.far_events.specs.state.State.{Copying, State}
use Rattle.far_hand.specs.Known.{unknown}
use Rattle.far_table.specs.View.{BookView, CopierView, OtherViews, OwnerView}
use Rattle.far_table.specs.Layout.{epoch_in, scope_in, cell_in, job_in, word_in}
use Rattle.far_table.specs.Rows.{over}
use Rattle.far_table.specs.CopierViews.{copier_at, words_read, words_written}
use Rattle.far_table.specs.Views.{held_at, owner_at, soiled_at, uses}

-- ---- what owners know
abbrev pub remembered_by : List OwnerView → ℕ → Option ℕ
remembered_by os m = (owner_at os m).epoch

abbrev pub used_by : List OwnerView → ℕ → Bool
used_by os p = uses (owner_at os (p / CELLS)) p

abbrev pub held_by : List OwnerView → ℕ → Option Place
held_by os p = held_at (owner_at os (p / CELLS)) p

abbrev pub soiled_by : List OwnerView → ℕ → Bool
soiled_by os p = soiled_at (owner_at os (p / CELLS)) p

-- ---- what the book knows
abbrev pub head_at : BookView → ℕ → Option ℕ
head_at b = over b.heads (λ _. None)

abbrev pub head_or : Option ℕ → ℕ → ℕ
head_or None other = other
head_or (Some head) other = head

-- a header, a word that is known, or a number that no word is
abbrev pub known_word : BookView → ℕ → ℕ
known_word b a = head_or (head_at b a) (over b.known unknown a)

abbrev pub stored_word : BookView → ℕ → ℕ → ℕ
stored_word b p = over (over b.stored (λ _. []) p) (λ _. 0)

-- how often the book has taken MOVE away from a pointer's cell
abbrev pub taken_at : BookView → ℕ → ℕ
taken_at b = over b.taken (λ _. 0)

-- how often it has retired a pointer's object
abbrev pub retired_at : BookView → ℕ → ℕ
retired_at b = over b.retired (λ _. 0)

-- how often it has taken HOT away from a pointer's cell
abbrev pub cooled_at : BookView → ℕ → ℕ
cooled_at b = over b.cooled (λ _. 0)

-- how often its namings of a pointer have left DIRTY, and how often they have found it
abbrev pub stained_at : BookView → ℕ → ℕ
stained_at b = over b.stained (λ _. 0)

abbrev pub cleaned_at : BookView → ℕ → ℕ
cleaned_at b = over b.cleaned (λ _. 0)

-- the jobs: it knows nothing of what copiers do but by the jobs' words
abbrev pub jobs_known : BookView → Copying
jobs_known b = record {
  has_copiers = true;
  word = over b.jobs (λ _. 0);
  since = over b.since (λ _. 0);
  named = over b.named (λ _. false);
  task = λ _. None;
  length = λ _. None;
  read = λ _ _. None;
  written = λ _ _. false;
}

-- ---- what copiers know
-- the jobs' words, what the book knows of jobs, and what copiers know
abbrev pub copying_of : List ℕ → BookView → List CopierView → Copying
copying_of ws b cs = record (jobs_known b) {
  word = job_in ws;
  task = λ c. (copier_at cs c).task;
  length = λ c. (copier_at cs c).length;
  read = λ c. words_read (copier_at cs c);
  written = λ c. words_written (copier_at cs c);
}

-- ---- all together
-- the book's view as a state: what it knows of the words, and of what others do nothing
abbrev pub book_state : BookView → State
book_state b = record {
  mutators = b.mutators;
  logs = b.logs;
  honest = b.honest;
  epoch = b.epoch;
  scope = λ _. 0;
  cell = over b.cells (λ _. 0);
  word = known_word b;
  remembered = λ _. None;
  used = λ _. false;
  held = λ _. None;
  soiled = λ _. false;
  kind = over b.kinds (λ _. Free);
  tail = over b.tails (λ _. 0);
  current = b.current;
  starts = λ a. is_some (head_at b a);
  round = over b.round (is_among b.chosen);
  round_epoch = b.epoch;
  clear = over b.clear (λ _. false);
  stored = stored_word b;
  copying = jobs_known b;
}

-- the state that the words, the book's view and all others' are
abbrev pub state_of : List ℕ → BookView → OtherViews → State
state_of ws b os = record (book_state b) {
  epoch = epoch_in ws;
  scope = scope_in ws;
  cell = cell_in ws;
  word = word_in ws;
  remembered = remembered_by os.owners;
  used = used_by os.owners;
  held = held_by os.owners;
  soiled = soiled_by os.owners;
  copying = copying_of ws b os.copiers;
}
