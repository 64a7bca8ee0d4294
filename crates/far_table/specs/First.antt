-- The words and the views of a core that is shared, before any step.
use Rattle.std.specs.Prelude.{◌≡◌, ℕ, ◌*◌, ◌<◌, Bool, cond, Option, Some, None, List, [], ◌++◌, length, map, slice_index}
use Rattle.std.specs.List.{range_with_len}
use Rattle.far_word.specs.Bytes.{packed_word}
use Rattle.far_word.specs.declared.scope.ScopeWord.{ScopeWord}
use Rattle.far_word.specs.declared.scope.ScopeWord.TheVariants as scoped
use Rattle.far_word.specs.declared.sizes.TheConstants.{CELLS, JOBS, LOG_WORDS, MOST_COPIERS, MOST_LOGS, MOST_MUTATORS, POINTERS}
use Rattle.far_word.specs.Scope.{scope_of}
use Rattle.far_word.specs.Sizes.{words_for}
use Rattle.far_events.specs.state.State.{State}
use Rattle.far_core.specs.world.World.{Object}
use Rattle.far_core.specs.world.WorldOf.{world_of}
use Rattle.far_table.specs.View.{BookView, CopierView, ObjectView, OtherViews, OwnerView, AsCopier, AsOwner, roles}
use Rattle.far_table.specs.Layout.{table_words, cell_at, data_at, epoch_in, job_at, scope_at}
use Rattle.far_table.specs.Views.{dirts, drops, hots, moves}

-- the words are those of the state, each at its place. A word of nobody may be any
pub record IsTableOf (ws : List ℕ) (s : State) : Type 0 where
  pub wide : length ws ≡ table_words s.logs
  pub epoch : epoch_in ws ≡ s.epoch
  pub scopes : (m : ℕ) → m < MOST_MUTATORS → slice_index ws (scope_at m) ≡ s.scope m
  pub cells : (p : ℕ) → p < POINTERS → slice_index ws (cell_at p) ≡ s.cell p
  pub words : (a : ℕ) → a < s.logs * LOG_WORDS → slice_index ws (data_at a) ≡ s.word a
  pub jobs : (j : ℕ) → j < JOBS → slice_index ws (job_at j) ≡ s.copying.word j

-- rows for so many numbers from one on. No proof writes them out, since there is one of headers for each word of the logs: FirstViews says what they make
unfoldable pub rows_from : {X : Type 0} → ℕ → ℕ → (ℕ → X) → List (ℕ × X)
rows_from low n f = map (λ k. (k, f k)) (range_with_len low n)

-- the epoch at which a scope is open
abbrev pub open_epoch : Option ScopeWord → Option ℕ
open_epoch None = None
open_epoch (Some scoped.Closed) = None
open_epoch (Some (scoped.Open e)) = Some e

-- an object of the world as its owner knows it
abbrev pub seen : Object → ObjectView
seen object = record {
  len = length object.bytes;
  ds = object.ds;
  words = rows_from 0 (words_for (length object.bytes)) (packed_word object.bytes);
}

abbrev pub seen_object : Option Object → Option ObjectView
seen_object None = None
seen_object (Some object) = Some (seen object)

-- an owner's view: what the core says of it. MOVE counts as set once, where it stands, and so do DROP and HOT; DIRTY
-- as never, since the book's view counts it; and what it holds is by no pin on the table
abbrev pub first_owner : State → Bool → ℕ → OwnerView
first_owner s honest m = record {
  number = m;
  honest = honest;
  logs = s.logs;
  epoch = s.remembered m;
  open_at = open_epoch (scope_of (s.scope m));
  objects = rows_from (CELLS * m) CELLS (λ p. cond (s.used p) (seen_object ((world_of s).object p)) None);
  held = rows_from (CELLS * m) CELLS s.held;
  asked = rows_from (CELLS * m) CELLS (λ p. moves (s.cell p));
  dropped = rows_from (CELLS * m) CELLS (λ p. drops (s.cell p));
  heated = rows_from (CELLS * m) CELLS (λ p. hots (s.cell p));
  dirtied = [];
  pinned = [];
  soiled = rows_from (CELLS * m) CELLS s.soiled;
  found = [];
}

abbrev pub first_owners : State → Bool → List OwnerView
first_owners s honest = map (first_owner s honest) (range_with_len 0 s.mutators)

-- a copier's view: what the core says of it
abbrev pub first_copier : State → ℕ → CopierView
first_copier s c = record {
  number = c;
  logs = s.logs;
  task = s.copying.task c;
  length = s.copying.length c;
  read = rows_from 0 LOG_WORDS (s.copying.read c);
  written = rows_from 0 LOG_WORDS (s.copying.written c);
  seen = [];
}

abbrev pub first_copiers : State → List CopierView
first_copiers s = map (first_copier s) (range_with_len 0 MOST_COPIERS)

abbrev pub first_others : State → Bool → OtherViews
first_others s honest = record { owners = first_owners s honest; copiers = first_copiers s }

-- the book's view: the core's state, of whose words it knows the headers alone. DIRTY counts as left once by a naming, where it stands
abbrev pub first_book : State → Bool → BookView
first_book s honest = record {
  mutators = s.mutators;
  logs = s.logs;
  honest = honest;
  epoch = s.epoch;
  cells = rows_from 0 POINTERS s.cell;
  kinds = rows_from 0 MOST_LOGS s.kind;
  tails = rows_from 0 MOST_LOGS s.tail;
  current = s.current;
  heads = rows_from 0 (MOST_LOGS * LOG_WORDS) (λ a. cond (s.starts a) (Some (s.word a)) None);
  known = [];
  chosen = 0;
  round = rows_from 0 MOST_LOGS s.round;
  clear = rows_from 0 MOST_MUTATORS s.clear;
  stored = rows_from 0 POINTERS (λ p. rows_from 0 LOG_WORDS (s.stored p));
  taken = [];
  retired = [];
  cooled = [];
  stained = rows_from 0 POINTERS (λ p. dirts (s.cell p));
  cleaned = [];
  jobs = rows_from 0 JOBS s.copying.word;
  since = rows_from 0 JOBS s.copying.since;
  named = rows_from 0 JOBS s.copying.named;
  rest = roles (first_others s honest);
}

-- the book's view while so many copiers from this one on have no seat, and no owner has one
abbrev pub unseated : State → Bool → ℕ → ℕ → BookView
unseated s honest low n = record (first_book s honest) { rest = map AsCopier (map (first_copier s) (range_with_len low n)) ++ map AsOwner (first_owners s honest) }

-- while so many owners from this one on have none
abbrev pub waiting : State → Bool → ℕ → ℕ → BookView
waiting s honest low n = record (first_book s honest) { rest = map AsOwner (map (first_owner s honest) (range_with_len low n)) }
