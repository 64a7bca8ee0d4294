-- What an event may touch: one shared word at most, and a part of one view.
use Rattle.std.specs.Prelude.{◌≡◌, ◌≢◌, ℕ, ◌/◌, Option, Some}
use Rattle.far_word.specs.declared.sizes.TheConstants.{CELLS}
use Rattle.far_events.specs.state.State.{Copying, State}

-- a shared word
pub data Spot : Type 0 where
  EpochAt : Spot
  ScopeAt : ℕ → Spot
  CellAt : ℕ → Spot
  WordAt : ℕ → Spot
  JobAt : ℕ → Spot

-- a part of a view: what an owner remembers; a cell that it uses; a place that it holds; an object that it soils; what it
-- remembers and all that it holds and has soiled; the book's view; and a copier's view
pub data Part : Type 0 where
  NoPart : Part
  Remembers : ℕ → Part
  Uses : ℕ → Part
  Rests : ℕ → Part
  Soils : ℕ → Part
  LetsGo : ℕ → Part
  BookView : Part
  CopierAt : ℕ → Part

pub record Touch : Type 0 where
  pub word : Option Spot
  pub part : Part

-- the word at a spot
abbrev pub spot_word : ℕ → (ℕ → ℕ) → (ℕ → ℕ) → (ℕ → ℕ) → (ℕ → ℕ) → Spot → ℕ
spot_word epoch scope cell word job EpochAt = epoch
spot_word epoch scope cell word job (ScopeAt m) = scope m
spot_word epoch scope cell word job (CellAt p) = cell p
spot_word epoch scope cell word job (WordAt a) = word a
spot_word epoch scope cell word job (JobAt j) = job j

abbrev pub shared_word : State → Spot → ℕ
shared_word s a = spot_word s.epoch s.scope s.cell s.word s.copying.word a

-- a copier knows what it knew
pub record SameCopier (c : ℕ) (k n : Copying) : Type 0 where
  pub task : n.task c ≡ k.task c
  pub length : n.length c ≡ k.length c
  pub read : n.read c ≡ k.read c
  pub written : n.written c ≡ k.written c

-- from s to t nothing changes but what is touched
pub record Touches (s : State) (x : Touch) (t : State) : Type 0 where
  pub words : (a : Spot) → x.word ≢ Some a → shared_word t a ≡ shared_word s a
  pub remembered : (m : ℕ) → x.part ≢ Remembers m → x.part ≢ LetsGo m → t.remembered m ≡ s.remembered m
  pub used : (p : ℕ) → x.part ≢ Uses p → t.used p ≡ s.used p
  pub held : (p : ℕ) → x.part ≢ Rests p → x.part ≢ LetsGo (p / CELLS) → t.held p ≡ s.held p
  pub soiled : (p : ℕ) → x.part ≢ Soils p → x.part ≢ LetsGo (p / CELLS) → t.soiled p ≡ s.soiled p
  pub book : x.part ≢ BookView → (t.kind ≡ s.kind) × (t.tail ≡ s.tail) × (t.current ≡ s.current) × (t.starts ≡ s.starts) × (t.round ≡ s.round) × (t.round_epoch ≡ s.round_epoch) × (t.clear ≡ s.clear) × (t.stored ≡ s.stored)
      × (t.copying.since ≡ s.copying.since) × (t.copying.named ≡ s.copying.named)
  pub copiers : (c : ℕ) → x.part ≢ CopierAt c → SameCopier c s.copying t.copying
  pub rest : (t.mutators ≡ s.mutators) × (t.logs ≡ s.logs) × (t.honest ≡ s.honest) × (t.copying.has_copiers ≡ s.copying.has_copiers)
