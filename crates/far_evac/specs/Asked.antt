-- What a walk asked of the device, object after object; and under which keys the device has what it had.
use Rattle.std.specs.Prelude.{◌≡◌, ◌+◌, ℕ, zero, suc, Bool, true, false, List, [], ◌∷◌, take, Option, Result, Ok, Err}
use Rattle.far_word.specs.declared.refused.Refused.{Refused}
use Rattle.far_word.specs.Pointer.{read_of}
use Rattle.far_device.specs.declared.fault.DeviceFault.{DeviceFault}
use Rattle.far_device.specs.Following.{none_of}
use Rattle.far_events.specs.state.Law.{is_dirty}
use Rattle.far_events.specs.state.State.{State}
use Rattle.far_hand.specs.Finds.{Finds}
use Rattle.far_book.specs.book.Asking.{AsksToEvict}
use Rattle.far_evac.specs.declared.answers.EvacFault.{EvacFault}
use Rattle.far_evac.specs.declared.answers.Progress.{Progress}
use Rattle.far_evac.specs.AnyHand.{DealsFirst, KnowsMoment, KnowsWalked}
use Rattle.far_evac.specs.Live.{live_among}
use Rattle.far_evac.specs.Moment.{Moment, Tally, objects_in, tally_of}
use Rattle.far_evac.specs.Walk.{Drops, Goes, Moves, Walked, Way, begun, dealt_first, ended, left, settled, way_of}

-- the first live objects of the collection set, so many
abbrev pub first_live : Moment → ℕ → List ℕ
first_live m k = take k (live_among m.core m.collection)

-- how many of them the device may have been asked about: those that were dealt with, and the one that was refused
abbrev pub asked_of : Result Progress EvacFault → ℕ
asked_of (Ok progress) = objects_in (tally_of progress)
asked_of (Err fault) = objects_in (tally_of fault.so_far) + 1

-- the same of a walk, which has counted so much
abbrev pub asked_by : Tally → Result Bool Refused → ℕ
asked_by tally (Ok over) = objects_in tally
asked_by tally (Err why) = objects_in tally + 1

-- under every key but theirs is what was there
abbrev pub KeepsKeys : List ℕ → (ℕ → Option (List ℕ)) → (ℕ → Option (List ℕ)) → Type 0
KeepsKeys objects old new = (p : ℕ) → none_of objects p → new p ≡ old p

-- if an object has no DIRTY, nothing was asked
abbrev pub SparesClean : (D : Type 0) → State → ℕ → D → D → Type 0
SparesClean D s p old new = is_dirty (read_of (s.cell p)) ≡ false → new ≡ old

module _ (D : Type 0) (writes : D → ℕ → List ℕ → Result (Unit {0}) DeviceFault → D → Type 0) (lets_go : D → ℕ → D → Type 0) where
  -- an object left its log so: nothing was asked where it moved; it went far by one write of its bytes, which was done, or without a call, if it had no DIRTY; where it was retired its key was let go of,
  -- after at most one such write
  abbrev pub AsksSo : State → ℕ → Way → D → D → Type 0
  AsksSo s p Drops old new = AsksToEvict D writes lets_go s p (Ok false) old new
  AsksSo s p (Moves place) old new = new ≡ old
  AsksSo s p Goes old new = AsksToEvict D writes lets_go s p (Ok true) old new

  -- this was asked for the first of those that are left, by the way in which it is dealt with
  abbrev pub AsksFirst : Walked → ℕ → List ℕ → D → D → Type 0
  AsksFirst w word [] old new = ⊥
  AsksFirst w word (p ∷ ps) old new = AsksSo w.moment.core p (way_of w.moment.core (read_of word)) old new

  -- the same, as its cell says: nothing was asked for one without DIRTY that went far
  abbrev pub AsksExactly : State → ℕ → D → D → Type 0
  AsksExactly s p old new = AsksSo s p (way_of s (read_of (s.cell p))) old new × (way_of s (read_of (s.cell p)) ≡ Goes → SparesClean D s p old new)

  abbrev pub AsksAsKnown : Walked → List ℕ → D → D → Type 0
  AsksAsKnown w [] old new = ⊥
  AsksAsKnown w (p ∷ ps) old new = AsksExactly w.moment.core p old new

-- where no word changes but by the walk, each object is dealt with as its cell says, and asks for that
module _ (still : Type 0) (D : Type 0) (writes : D → ℕ → List ℕ → Result (Unit {0}) DeviceFault → D → Type 0) (lets_go : D → ℕ → D → Type 0) where
  abbrev pub DealsAsking : Walked → ℕ → Walked → D → D → Type 0
  DealsAsking u word t old new = AsksFirst D writes lets_go u word (left u) old new × (still → (t ≡ dealt_first u (left u)) × AsksAsKnown D writes lets_go u (left u) old new)

  -- so many objects are dealt with, each as a word says that was found in its cell, and this is asked on the way
  abbrev pub WalksAsking : Moment → ℕ → Walked → D → D → Type 0
  WalksAsking m zero t old new = KnowsWalked (settled (begun m)) t × (new ≡ old) × (still → t ≡ settled (begun m))
  WalksAsking m (suc k) t old new = (u : Walked) × (word : ℕ) × (between : D) × WalksAsking m k u old between × DealsFirst false u word t × DealsAsking u word t between new

  -- a walk dealt with as many objects as it has counted, each in the way in which it is counted, and ended at t
  abbrev pub AsksOnItsWay : Moment → Moment → Tally → D → D → Type 0
  AsksOnItsWay m t tally old new = (w : Walked) × WalksAsking m (objects_in tally) w old new × (t ≡ ended w) × (tally ≡ w.tally)

-- from s to t an object was to go far as a word says that was found in its cell, and had DIRTY, as it was found last: there was something to write. Where no word changes but by the walk
-- that word is its cell's
pub record IsToBeWritten (still : Type 0) (s t : State) (p : ℕ) : Type 0 where
  pub word : ℕ
  pub found : Finds (s.cell p) word
  pub goes : way_of s (read_of word) ≡ Goes
  pub dirty : is_dirty (read_of (t.cell p)) ≡ true
  pub exact : still → word ≡ s.cell p

-- a walk was refused: it had dealt with as many objects as it has counted, and asked for them; then it asked for one write of the bytes of the next one, which was
-- refused so, and t is where it stopped
pub record IsRefusedWrite (still : Type 0) (D : Type 0) (writes : D → ℕ → List ℕ → Result (Unit {0}) DeviceFault → D → Type 0) (lets_go : D → ℕ → D → Type 0) (m t : Moment) (tally : Tally) (why : Refused) (old new : D) : Type 0 where
  pub stood : Walked
  pub between : D
  pub walks : WalksAsking still D writes lets_go m (objects_in tally) stood old between
  pub counts : tally ≡ stood.tally
  pub next : ℕ
  pub rest : List ℕ
  pub is : left stood ≡ next ∷ rest
  pub write : AsksToEvict D writes lets_go stood.moment.core next (Err why) between new
  pub owed : IsToBeWritten still stood.moment.core t.core next
  pub stops : KnowsMoment stood.moment t
  pub exact : still → t ≡ stood.moment
