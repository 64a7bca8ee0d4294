-- What stands past the ends of a heap: nothing, so that a state is what it says of its own owners, pointers and logs.
use Rattle.std.specs.Prelude.{◌≡◌, ◌⊎◌, ℕ, ◌*◌, ◌<◌, ◌≤◌, false, None}
use Rattle.far_word.specs.declared.sizes.TheConstants.{CELLS, JOBS, LOG_WORDS, MOST_COPIERS}
use Rattle.far_events.specs.declared.event.Kind.TheVariants.{Free}
use Rattle.far_events.specs.state.State.{State}

-- past the last log no word is other than 0, no span begins, and each log is free, with tail 0, outside the round; past the last owner each
-- scope is closed, no epoch is remembered, and nobody was seen clear; past the last pointer each cell is 0, unused, not held and not soiled, and its
-- stored words are 0, as all are past the length of a log; past the last job there is none, and past the last copier none has a job, has read
-- a length, or has read or written a word, nor has any past the length of a log
pub record HasNothingPast (s : State) : Type 0 where
  pub words : (a : ℕ) → LOG_WORDS * s.logs ≤ a → s.word a ≡ 0
  pub spans : (a : ℕ) → LOG_WORDS * s.logs ≤ a → s.starts a ≡ false
  pub kinds : (l : ℕ) → s.logs ≤ l → s.kind l ≡ Free
  pub tails : (l : ℕ) → s.logs ≤ l → s.tail l ≡ 0
  pub rounds : (l : ℕ) → s.logs ≤ l → s.round l ≡ false
  pub scopes : (m : ℕ) → s.mutators ≤ m → s.scope m ≡ 0
  pub epochs : (m : ℕ) → s.mutators ≤ m → s.remembered m ≡ None
  pub clears : (m : ℕ) → s.mutators ≤ m → s.clear m ≡ false
  pub cells : (p : ℕ) → CELLS * s.mutators ≤ p → s.cell p ≡ 0
  pub uses : (p : ℕ) → CELLS * s.mutators ≤ p → s.used p ≡ false
  pub holds : (p : ℕ) → CELLS * s.mutators ≤ p → s.held p ≡ None
  pub soils : (p : ℕ) → CELLS * s.mutators ≤ p → s.soiled p ≡ false
  pub stores : (p i : ℕ) → CELLS * s.mutators ≤ p → s.stored p i ≡ 0
  pub rows : (p i : ℕ) → LOG_WORDS ≤ i → s.stored p i ≡ 0
  pub jobs : (j : ℕ) → JOBS ≤ j → (s.copying.word j ≡ 0) × (s.copying.since j ≡ 0) × (s.copying.named j ≡ false)
  pub tasks : (c : ℕ) → MOST_COPIERS ≤ c → (s.copying.task c ≡ None) × (s.copying.length c ≡ None)
  pub copies : (c i : ℕ) → (MOST_COPIERS ≤ c) ⊎ (LOG_WORDS ≤ i) → (s.copying.read c i ≡ None) × (s.copying.written c i ≡ false)

-- two states have the same shape, epochs and open log, and say the same of each owner, pointer, log and word that the shape has
pub record IsSameWithin (s t : State) : Type 0 where
  pub mutators : s.mutators ≡ t.mutators
  pub logs : s.logs ≡ t.logs
  pub honesty : s.honest ≡ t.honest
  pub epoch : s.epoch ≡ t.epoch
  pub round_epoch : s.round_epoch ≡ t.round_epoch
  pub current : s.current ≡ t.current
  pub words : (a : ℕ) → a < LOG_WORDS * s.logs → s.word a ≡ t.word a
  pub spans : (a : ℕ) → a < LOG_WORDS * s.logs → s.starts a ≡ t.starts a
  pub kinds : (l : ℕ) → l < s.logs → s.kind l ≡ t.kind l
  pub tails : (l : ℕ) → l < s.logs → s.tail l ≡ t.tail l
  pub rounds : (l : ℕ) → l < s.logs → s.round l ≡ t.round l
  pub scopes : (m : ℕ) → m < s.mutators → s.scope m ≡ t.scope m
  pub epochs : (m : ℕ) → m < s.mutators → s.remembered m ≡ t.remembered m
  pub clears : (m : ℕ) → m < s.mutators → s.clear m ≡ t.clear m
  pub cells : (p : ℕ) → p < CELLS * s.mutators → s.cell p ≡ t.cell p
  pub uses : (p : ℕ) → p < CELLS * s.mutators → s.used p ≡ t.used p
  pub holds : (p : ℕ) → p < CELLS * s.mutators → s.held p ≡ t.held p
  pub soils : (p : ℕ) → p < CELLS * s.mutators → s.soiled p ≡ t.soiled p
  pub stores : (p i : ℕ) → p < CELLS * s.mutators → i < LOG_WORDS → s.stored p i ≡ t.stored p i
  pub copying : s.copying ≡ t.copying

-- a state is what it says within its shape: no other with nothing past its ends says the same there
abbrev pub IsWhatIsWithin : State → Type 0
IsWhatIsWithin s = (t : State) → HasNothingPast t → IsSameWithin s t → s ≡ t
