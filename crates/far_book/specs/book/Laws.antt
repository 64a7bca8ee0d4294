-- That the effects of the book's calls are reached by legal events, keep the law of the core, and make one step of the world; and
-- what they are in the subject's words.
use Rattle.std.specs.Prelude.{◌≡◌, ◌≢◌, ◌⊎◌, ℕ, ◌+◌, ◌*◌, ◌<◌, ◌≤◌, true, false, Some, []}
use Rattle.far_word.specs.declared.mark.Marks.{Marks}
use Rattle.far_word.specs.declared.pointer.Place.{Place}
use Rattle.far_word.specs.declared.pointer.PtrWord.TheVariants.{Near, Far}
use Rattle.far_word.specs.declared.sizes.TheConstants.{CELLS, LONGEST}
use Rattle.far_word.specs.Header.{head_word}
use Rattle.far_word.specs.Pointer.{read_of}
use Rattle.far_word.specs.Sizes.{size_of, words_for}
use Rattle.far_events.specs.declared.event.Kind.TheVariants.{Free, Open, Sealed}
use Rattle.far_events.specs.events.Copies.{Alike, data_at}
use Rattle.far_events.specs.events.Get.{IsUncopied, IsVacant}
use Rattle.far_events.specs.events.Naming.{is_dropped, no_marks, unmarked}
use Rattle.far_events.specs.events.Quiet.{is_quiet}
use Rattle.far_events.specs.state.Law.{Law, Blank, IsStored, is_dirty}
use Rattle.far_core.specs.state.Room.{room}
use Rattle.far_events.specs.state.Spans.{spans_of}
use Rattle.far_events.specs.state.State.{State, addr}
use Rattle.far_core.specs.world.Changes.{Step}
use Rattle.far_events.specs.events.Changes.{GoesFar, Makes, ComesNear, Moves, Releases, Unmarks}
use Rattle.far_core.specs.world.WorldOf.{world_of}
use Rattle.far_book.specs.book.Effects.{evicted, placed, retired, fetched, moved, stayed}
use Rattle.far_book.specs.book.Reached.{Reached}
use Rattle.far_book.specs.book.Releasing.{released}

-- from s to t p has got an object: its cell says near, at the place, with the length and the data structure and without marks but DIRTY; its
-- header stands there, and zeros behind it; its log is the open one, and ends later by the object's size. All other cells, words
-- and tails stay, and no log but the one that was open changes its kind: that is sealed
pub record IsPlaced (s t : State) (p len ds : ℕ) (place : Place) : Type 0 where
  pub cell : read_of (t.cell p) ≡ Some (Near len ds place (unmarked true))
  pub cells : (q : ℕ) → q ≢ p → t.cell q ≡ s.cell q
  pub header : t.word (addr place) ≡ head_word p len ds
  pub zeros : Blank t.word len place
  pub words : (a : ℕ) → (a < addr place) ⊎ (addr place + size_of len ≤ a) → t.word a ≡ s.word a
  pub tail : t.tail place.log ≡ s.tail place.log + size_of len
  pub tails : (l : ℕ) → l ≢ place.log → t.tail l ≡ s.tail l
  pub opens : t.kind place.log ≡ Open
  pub seals : (l : ℕ) → l ≢ place.log → s.kind l ≡ Open → t.kind l ≡ Sealed
  pub kinds : (l : ℕ) → l ≢ place.log → s.kind l ≢ Open → t.kind l ≡ s.kind l

-- from s to t p's cell has become free; all other cells, all words, and the tail and the kind of each log stay
pub record IsFreed (s t : State) (p : ℕ) : Type 0 where
  pub cell : t.cell p ≡ 0
  pub cells : (q : ℕ) → q ≢ p → t.cell q ≡ s.cell q
  pub words : (a : ℕ) → t.word a ≡ s.word a
  pub tails : (l : ℕ) → t.tail l ≡ s.tail l
  pub kinds : (l : ℕ) → t.kind l ≡ s.kind l

-- from s to t p's object has gone to a place: its cell says near there, without marks but DIRTY, as it was; a header stands there, and its data words as they stood at
-- the old place; the log is the open one, and ends later by the object's size. All other cells, words and tails stay, the words at the old place too,
-- and no log but the one that was open changes its kind: that is sealed
pub record IsMoved (s t : State) (p len ds : ℕ) (from to : Place) : Type 0 where
  pub cell : read_of (t.cell p) ≡ Some (Near len ds to (unmarked (is_dirty (read_of (s.cell p)))))
  pub cells : (q : ℕ) → q ≢ p → t.cell q ≡ s.cell q
  pub header : t.word (addr to) ≡ head_word p len ds
  pub copy : Alike (data_at t.word to) (data_at s.word from) (words_for len)
  pub words : (a : ℕ) → (a < addr to) ⊎ (addr to + size_of len ≤ a) → t.word a ≡ s.word a
  pub tail : t.tail to.log ≡ s.tail to.log + size_of len
  pub tails : (l : ℕ) → l ≢ to.log → t.tail l ≡ s.tail l
  pub opens : t.kind to.log ≡ Open
  pub seals : (l : ℕ) → l ≢ to.log → s.kind l ≡ Open → t.kind l ≡ Sealed
  pub kinds : (l : ℕ) → l ≢ to.log → s.kind l ≢ Open → t.kind l ≡ s.kind l

-- from s to t p's cell has lost its marks but DIRTY; all other cells, all words, and the tail and the kind of each log stay
pub record IsUnmarked (s t : State) (p len ds : ℕ) (place : Place) : Type 0 where
  pub cell : read_of (t.cell p) ≡ Some (Near len ds place (unmarked (is_dirty (read_of (s.cell p)))))
  pub cells : (q : ℕ) → q ≢ p → t.cell q ≡ s.cell q
  pub words : (a : ℕ) → t.word a ≡ s.word a
  pub tails : (l : ℕ) → t.tail l ≡ s.tail l
  pub kinds : (l : ℕ) → t.kind l ≡ s.kind l

-- a new object, for a free cell of the heap, where room is: in the world it is made, and nothing else changes
abbrev pub PlacingIsLegal : Type 0
PlacingIsLegal = (s : State) (p len ds : ℕ) (place : Place) → Law s → p < CELLS * s.mutators → s.cell p ≡ 0 → 0 < len → len ≤ LONGEST → ds < 256 →
    room s (size_of len) true ≡ Some place →
    Reached s (placed s p len ds place) × Law (placed s p len ds place) × Step (Makes p len ds place.log) (world_of s) (world_of (placed s p len ds place))
    × IsPlaced s (placed s p len ds place) p len ds place

-- a dropped object, which is none of the world's already
abbrev pub RetiringIsLegal : Type 0
RetiringIsLegal = (s : State) (p : ℕ) → Law s → p < CELLS * s.mutators → is_dropped (read_of (s.cell p)) ≡ true →
    Reached s (retired s p) × Law (retired s p) × (world_of (retired s p) ≡ world_of s) × IsFreed s (retired s p) p

-- from s to t p's object has gone far: its cell says far, with its length and data structure and without marks; stored for it are the words
-- that it had, and of every other pointer those that were. All other cells, all words, and the tail and the kind of each log stay
pub record IsEvicted (s t : State) (p len ds : ℕ) (place : Place) : Type 0 where
  pub cell : read_of (t.cell p) ≡ Some (Far len ds no_marks)
  pub cells : (q : ℕ) → q ≢ p → t.cell q ≡ s.cell q
  pub stored : (i : ℕ) → i < words_for len → t.stored p i ≡ s.word (addr place + 1 + i)
  pub others : (q : ℕ) → q ≢ p → t.stored q ≡ s.stored q
  pub words : (a : ℕ) → t.word a ≡ s.word a
  pub tails : (l : ℕ) → t.tail l ≡ s.tail l
  pub kinds : (l : ℕ) → t.kind l ≡ s.kind l

-- a quiet near object with EVAC, not dropped: in the world it goes far, and nothing else changes
abbrev pub EvictingIsLegal : Type 0
EvictingIsLegal = (s : State) (p len ds : ℕ) (place : Place) (marks : Marks) → Law s → p < CELLS * s.mutators → read_of (s.cell p) ≡ Some (Near len ds place marks) →
    is_quiet s.round s.clear p place marks ≡ true → marks.evac ≡ true → marks.dropped ≡ false →
    Reached s (evicted s p) × Law (evicted s p) × Step (GoesFar p) (world_of s) (world_of (evicted s p)) × IsEvicted s (evicted s p) p len ds place

-- from s to t p's object has come to a place: its cell says near, there, with the length and the data structure and without marks; its header
-- stands there, and a row of words behind it; its log is the open one, and ends later by the object's size. All other cells, words
-- and tails stay, and no log but the one that was open changes its kind: that is sealed
pub record IsCome (s t : State) (p len ds : ℕ) (place : Place) (row : ℕ → ℕ) : Type 0 where
  pub cell : read_of (t.cell p) ≡ Some (Near len ds place no_marks)
  pub cells : (q : ℕ) → q ≢ p → t.cell q ≡ s.cell q
  pub header : t.word (addr place) ≡ head_word p len ds
  pub bytes : Alike (data_at t.word place) row (words_for len)
  pub words : (a : ℕ) → (a < addr place) ⊎ (addr place + size_of len ≤ a) → t.word a ≡ s.word a
  pub tail : t.tail place.log ≡ s.tail place.log + size_of len
  pub tails : (l : ℕ) → l ≢ place.log → t.tail l ≡ s.tail l
  pub opens : t.kind place.log ≡ Open
  pub seals : (l : ℕ) → l ≢ place.log → s.kind l ≡ Open → t.kind l ≡ Sealed
  pub kinds : (l : ℕ) → l ≢ place.log → s.kind l ≢ Open → t.kind l ≡ s.kind l

-- a far object that isn't dropped, where room is, with words of its length: in the world it comes near, and nothing else changes. Where the far side
-- is honest they are those stored
abbrev pub FetchingIsLegal : Type 0
FetchingIsLegal = (s : State) (p len ds : ℕ) (marks : Marks) (place : Place) (row : ℕ → ℕ) → Law s → read_of (s.cell p) ≡ Some (Far len ds marks) → marks.dropped ≡ false →
    room s (size_of len) true ≡ Some place → IsStored row len → (s.honest ≡ true → Alike row (s.stored p) (words_for len)) →
    Reached s (fetched s p place row) × Law (fetched s p place row) × Step (ComesNear p place.log) (world_of s) (world_of (fetched s p place row))
    × IsCome s (fetched s p place row) p len ds place row

-- a near object that is quiet and has EVAC, to a place where room is, the last free log too: in the world it goes to another group
abbrev pub MovingIsLegal : Type 0
MovingIsLegal = (s : State) (p len ds : ℕ) (from to : Place) (marks : Marks) → Law s → read_of (s.cell p) ≡ Some (Near len ds from marks) → is_quiet s.round s.clear p from marks ≡ true →
    marks.dropped ≡ false → marks.evac ≡ true → room s (size_of len) false ≡ Some to →
    Reached s (moved s p to) × Law (moved s p to) × Step (Moves p to.log) (world_of s) (world_of (moved s p to)) × IsMoved s (moved s p to) p len ds from to

-- a near object that has MOVE and no EVAC: in the world it is marked no more
abbrev pub StayingIsLegal : Type 0
StayingIsLegal = (s : State) (p len ds : ℕ) (place : Place) (marks : Marks) → Law s → read_of (s.cell p) ≡ Some (Near len ds place marks) → marks.moved ≡ true → marks.dropped ≡ false → marks.evac ≡ false →
    Reached s (stayed s p) × Law (stayed s p) × Step (Unmarks p) (world_of s) (world_of (stayed s p)) × IsUnmarked s (stayed s p) p len ds place

-- from s to t a log has been given back: it is free and empty, has no spans, and is out of the round. The kind, the tail and the
-- spans of all other logs stay, and whether the round has them; and so does all else: cells, words and stored words, the open log, the epoch,
-- who was seen clear in the round, and what owners have
pub record IsReleased (s t : State) (l : ℕ) : Type 0 where
  pub kind : t.kind l ≡ Free
  pub tail : t.tail l ≡ 0
  pub round : t.round l ≡ false
  pub empty : spans_of t l ≡ []
  pub kinds : (k : ℕ) → k ≢ l → t.kind k ≡ s.kind k
  pub tails : (k : ℕ) → k ≢ l → t.tail k ≡ s.tail k
  pub rounds : (k : ℕ) → k ≢ l → t.round k ≡ s.round k
  pub spans : (k : ℕ) → k ≢ l → spans_of t k ≡ spans_of s k
  pub rest : t ≡ record s { kind = t.kind; tail = t.tail; starts = t.starts; round = t.round }

-- a sealed log in which no object lies, dropped or not, and which no job reads or writes: in the world its group is given back, and nothing else changes
abbrev pub ReleasingIsLegal : Type 0
ReleasingIsLegal = (s : State) (l : ℕ) → Law s → s.kind l ≡ Sealed → IsVacant s l → IsUncopied s.copying l →
    Reached s (released s l) × Law (released s l) × Step (Releases l) (world_of s) (world_of (released s l)) × IsReleased s (released s l) l
