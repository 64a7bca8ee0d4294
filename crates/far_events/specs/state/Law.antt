-- What is true of every state: how spans fill the logs, what pointers name, what views rest on.
use Rattle.std.specs.Prelude.{◌≡◌, ◌≢◌, ℕ, ◌+◌, ◌-◌, ◌*◌, ◌/◌, ◌%◌, ◌^◌, ◌<◌, ◌≤◌, Bool, true, false, cond, Option, Some, None, IsSome, ◌||◌, not}
use Rattle.far_word.specs.declared.mark.Marks.{Marks}
use Rattle.far_word.specs.declared.header.HeadWord.{HeadWord}
use Rattle.far_word.specs.declared.pointer.Place.{Place}
use Rattle.far_word.specs.declared.pointer.PtrWord.{PtrWord}
use Rattle.far_word.specs.declared.pointer.PtrWord.TheVariants as pointer
use Rattle.far_word.specs.declared.pointer.PtrWord.TheVariants.{Near, Far}
use Rattle.far_word.specs.declared.scope.ScopeWord.TheVariants as scoped
use Rattle.far_word.specs.declared.sizes.TheConstants.{CELLS, EPOCH_END, LEAST_LOGS, LEAST_MUTATORS, LOG_WORDS, LONGEST, MOST_LOGS, MOST_MUTATORS}
use Rattle.far_word.specs.Header.{head_of, head_word}
use Rattle.far_word.specs.Pointer.{read_of}
use Rattle.far_word.specs.Scope.{scope_of}
use Rattle.far_word.specs.Sizes.{size_of, words_for}
pub use Rattle.far_log.specs.Spans.{head_len, len_in}
use Rattle.far_events.specs.declared.event.Kind.{Kind}
use Rattle.far_events.specs.declared.event.Kind.TheVariants.{Free, Open, Sealed}
use Rattle.far_events.specs.state.Jobs.{CopyLaw}
use Rattle.far_events.specs.state.State.{State, addr}

-- a span of this length stands at a: it ends at its log's tail or before it, no other span begins in it, and the next follows it
pub record SpanAt (tail : ℕ → ℕ) (starts : ℕ → Bool) (a len : ℕ) : Type 0 where
  pub some : 0 < len
  pub most : len ≤ LONGEST
  pub fits : a % LOG_WORDS + size_of len ≤ tail (a / LOG_WORDS)
  pub alone : (k : ℕ) → 0 < k → k < size_of len → starts (a + k) ≡ false
  pub next : a % LOG_WORDS + size_of len < tail (a / LOG_WORDS) → starts (a + size_of len) ≡ true

-- the data words of a span have zeros after the last byte
abbrev pub Padded : (ℕ → ℕ) → ℕ → ℕ → Type 0
Padded word a len = (i : ℕ) → i < words_for len → word (a + 1 + i) < 2 ^ (8 * (len - 8 * i))

-- the header at a place stands for pointer p with this length and data structure
pub record Heads (word : ℕ → ℕ) (starts : ℕ → Bool) (p len ds : ℕ) (place : Place) : Type 0 where
  pub placed : starts (addr place) ≡ true
  pub head : word (addr place) ≡ head_word p len ds

-- where a cell says near, the span at its place names it back
abbrev pub NamesBack : (ℕ → ℕ) → (ℕ → Bool) → ℕ → Option PtrWord → Type 0
NamesBack word starts p cell = (len ds : ℕ) (place : Place) (m : Marks) → cell ≡ Some (Near len ds place m) → Heads word starts p len ds place

-- the place that an owner may go on holding: near with neither MOVE nor DROP
abbrev pub held_place : Option PtrWord → Option Place
held_place None = None
held_place (Some pointer.Free) = None
held_place (Some (Near len ds place m)) = cond (m.moved || m.dropped) None (Some place)
held_place (Some (Far len ds m)) = None

-- used, and not dropped
abbrev pub in_use : Option PtrWord → Bool
in_use None = false
in_use (Some pointer.Free) = false
in_use (Some (Near len ds place m)) = not m.dropped
in_use (Some (Far len ds m)) = not m.dropped

-- the data words at a place are 0
abbrev pub Blank : (ℕ → ℕ) → ℕ → Place → Type 0
Blank word len place = (i : ℕ) → i < words_for len → word (addr place + 1 + i) ≡ 0

-- stored words of an object of this length: words of 64 bits, with zeros after the last byte
abbrev pub IsStored : (ℕ → ℕ) → ℕ → Type 0
IsStored stored len = (i : ℕ) → i < words_for len → (stored i < 2 ^ 64) × (stored i < 2 ^ (8 * (len - 8 * i)))

-- where a cell says far, words of its length are stored
abbrev pub StoresBack : (ℕ → ℕ) → Option PtrWord → Type 0
StoresBack stored cell = (len ds : ℕ) (m : Marks) → cell ≡ Some (Far len ds m) → IsStored stored len

-- an object that no owner has used yet holds zeros, near or far
pub record IsBlank (word stored : ℕ → ℕ) (cell : Option PtrWord) : Type 0 where
  pub near : (len ds : ℕ) (place : Place) (m : Marks) → cell ≡ Some (Near len ds place m) → m.dropped ≡ false → Blank word len place
  pub far : (len ds : ℕ) (m : Marks) → cell ≡ Some (Far len ds m) → m.dropped ≡ false → (i : ℕ) → i < words_for len → stored i ≡ 0

-- a near cell with DIRTY
abbrev pub is_dirty : Option PtrWord → Bool
is_dirty None = false
is_dirty (Some pointer.Free) = false
is_dirty (Some (Near len ds place m)) = m.dirty
is_dirty (Some (Far len ds m)) = false

-- of a near object without DIRTY words of its length are stored; where the far side is honest, they are its own
pub record IsClean (honest : Bool) (word stored : ℕ → ℕ) (cell : Option PtrWord) : Type 0 where
  pub back : (len ds : ℕ) (place : Place) (m : Marks) → cell ≡ Some (Near len ds place m) → m.dirty ≡ false → IsStored stored len
  pub same : honest ≡ true → (len ds : ℕ) (place : Place) (m : Marks) → cell ≡ Some (Near len ds place m) → m.dirty ≡ false → (i : ℕ) → i < words_for len → stored i ≡ word (addr place + 1 + i)

-- Each part of the law speaks of the functions that it reads, and of no others.

-- 2 to 64 logs, 1 to 8 mutators
pub record IsShape (mutators logs : ℕ) : Type 0 where
  pub two_logs : LEAST_LOGS ≤ logs
  pub few_logs : logs ≤ MOST_LOGS
  pub some_mutators : LEAST_MUTATORS ≤ mutators
  pub few_mutators : mutators ≤ MOST_MUTATORS

-- each cell is on the layout; a near one is named back by the span at its place, with DROP too, since a dropped cell keeps its span until it is
-- retired; of a far one words are stored
pub record CellLaw (mutators : ℕ) (cell word : ℕ → ℕ) (starts : ℕ → Bool) (stored : ℕ → ℕ → ℕ) : Type 0 where
  pub cell_read : (p : ℕ) → (cell p < 2 ^ 64) × IsSome (read_of (cell p))
  pub cell_range : (p : ℕ) → cell p ≢ 0 → p < CELLS * mutators
  pub cell_near : (p : ℕ) → NamesBack word starts p (read_of (cell p))
  pub cell_far : (p : ℕ) → StoresBack (stored p) (read_of (cell p))

-- the spans of a log follow each other from its word 0 to its tail, with headers and padding, dead ones too
pub record SpanLaw (mutators : ℕ) (tail word : ℕ → ℕ) (starts : ℕ → Bool) : Type 0 where
  pub word_fits : (a : ℕ) → word a < 2 ^ 64
  pub first_span : (l : ℕ) → 0 < tail l → starts (l * LOG_WORDS) ≡ true
  pub span : (a : ℕ) → starts a ≡ true → SpanAt tail starts a (head_len (word a))
  pub span_header : (a : ℕ) (h : HeadWord) → starts a ≡ true → head_of (word a) ≡ Some h → h.pointer < CELLS * mutators
  pub span_padding : (a : ℕ) → starts a ≡ true → Padded word a (head_len (word a))

-- a free log has tail 0, exactly one log is open, and what isn't free is a log of the heap
pub record LogLaw (logs : ℕ) (kind : ℕ → Kind) (tail : ℕ → ℕ) (current : ℕ) : Type 0 where
  pub tail_end : (l : ℕ) → tail l ≤ LOG_WORDS
  pub free_tail : (l : ℕ) → kind l ≡ Free → tail l ≡ 0
  pub log_range : (l : ℕ) → kind l ≢ Free → l < logs
  pub is_open : kind current ≡ Open
  pub one_open : (l : ℕ) → kind l ≡ Open → l ≡ current

-- each scope word is on the layout, and only mutators' aren't 0; no open or remembered epoch is above the epoch, and only
-- mutators remember one
pub record ScopeLaw (mutators epoch : ℕ) (scope : ℕ → ℕ) (remembered : ℕ → Option ℕ) : Type 0 where
  pub scope_read : (m : ℕ) → IsSome (scope_of (scope m))
  pub scope_range : (m : ℕ) → scope m ≢ 0 → m < mutators
  pub epoch_below : epoch < EPOCH_END
  pub open_bound : (m e : ℕ) → scope_of (scope m) ≡ Some (scoped.Open e) → e ≤ epoch
  pub remembered_bound : (m e : ℕ) → remembered m ≡ Some e → e ≤ epoch
  pub remembered_range : (m e : ℕ) → remembered m ≡ Some e → m < mutators

-- a view rests on a near word with neither MOVE nor DROP, under an open scope, of a used cell; a used cell isn't dropped
pub record ViewLaw (cell scope : ℕ → ℕ) (used : ℕ → Bool) (held : ℕ → Option Place) : Type 0 where
  pub held_open : (p : ℕ) → IsSome (held p) → scope (p / CELLS) ≢ 0
  pub held_names : (p : ℕ) (place : Place) → held p ≡ Some place → held_place (read_of (cell p)) ≡ Some place
  pub held_used : (p : ℕ) → IsSome (held p) → used p ≡ true
  pub used_cell : (p : ℕ) → used p ≡ true → in_use (read_of (cell p)) ≡ true

-- what an owner has soiled it holds, and its cell has DIRTY
pub record SoilLaw (cell : ℕ → ℕ) (held : ℕ → Option Place) (soiled : ℕ → Bool) : Type 0 where
  pub soiled_held : (p : ℕ) → soiled p ≡ true → IsSome (held p)
  pub soiled_dirty : (p : ℕ) → soiled p ≡ true → is_dirty (read_of (cell p)) ≡ true

-- each near object without DIRTY is stored
abbrev pub CleanLaw : Bool → (ℕ → ℕ) → (ℕ → ℕ) → (ℕ → ℕ → ℕ) → Type 0
CleanLaw honest cell word stored = (p : ℕ) → IsClean honest word (stored p) (read_of (cell p))

-- where the far side is honest, an object that its owner doesn't use yet holds zeros
abbrev pub BlankLaw : Bool → (ℕ → ℕ) → (ℕ → ℕ) → (ℕ → ℕ → ℕ) → (ℕ → Bool) → Type 0
BlankLaw honest cell word stored used = honest ≡ true → (p : ℕ) → used p ≡ false → IsBlank word (stored p) (read_of (cell p))

-- a cell that says near has EVAC, if its log is among these, with DROP too
abbrev pub HasEvac : (ℕ → Bool) → Option PtrWord → Type 0
HasEvac logs cell = (len ds : ℕ) (place : Place) (m : Marks) → cell ≡ Some (Near len ds place m) → logs place.log ≡ true → m.evac ≡ true

-- the logs of the round are sealed, and whatever lies there has EVAC, so that no new view comes to rest on it; the round's
-- epoch is the epoch
pub record RoundLaw (epoch : ℕ) (kind : ℕ → Kind) (cell : ℕ → ℕ) (round : ℕ → Bool) (round_epoch : ℕ) : Type 0 where
  pub round_sealed : (l : ℕ) → round l ≡ true → kind l ≡ Sealed
  pub round_evac : (p : ℕ) → HasEvac round (read_of (cell p))
  pub own_epoch : round_epoch ≡ epoch

-- who was seen clear in the round, or is open at its epoch or later, views nothing in its logs
pub record ClearLaw (scope : ℕ → ℕ) (held : ℕ → Option Place) (round : ℕ → Bool) (round_epoch : ℕ) (clear : ℕ → Bool) : Type 0 where
  pub clear_unviewed : (p : ℕ) (place : Place) → held p ≡ Some place → clear (p / CELLS) ≡ true → round place.log ≡ false
  pub late_unviewed : (p e : ℕ) (place : Place) → held p ≡ Some place → scope_of (scope (p / CELLS)) ≡ Some (scoped.Open e) → round_epoch ≤ e → round place.log ≡ false

-- what every event keeps. It is a ghost field of `Core`, so it is so of every core at every moment
pub record Law (s : State) : Type 0 where
  pub shape : IsShape s.mutators s.logs
  pub cells : CellLaw s.mutators s.cell s.word s.starts s.stored
  pub spans : SpanLaw s.mutators s.tail s.word s.starts
  pub logs : LogLaw s.logs s.kind s.tail s.current
  pub scopes : ScopeLaw s.mutators s.epoch s.scope s.remembered
  pub views : ViewLaw s.cell s.scope s.used s.held
  pub rounds : RoundLaw s.epoch s.kind s.cell s.round s.round_epoch
  pub clears : ClearLaw s.scope s.held s.round s.round_epoch s.clear
  pub unadopted : BlankLaw s.honest s.cell s.word s.stored s.used
  pub copies : CopyLaw s.cell s.word s.starts s.round s.round_epoch s.clear s.copying
  pub soils : SoilLaw s.cell s.held s.soiled
  pub cleans : CleanLaw s.honest s.cell s.word s.stored
