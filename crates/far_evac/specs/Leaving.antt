-- What one step of a walk makes of the core and of the order of the sealed logs, and where the walk stands then.
use Rattle.std.specs.Prelude.{◌≡◌, ℕ, ◌+◌, Bool, true, false, ◌||◌, Option, Some, None, List, Result}
use Rattle.far_word.specs.declared.pointer.Place.{Place}
use Rattle.far_word.specs.declared.pointer.PtrWord.{PtrWord}
use Rattle.far_word.specs.declared.pointer.PtrWord.TheVariants as pointer
use Rattle.far_word.specs.declared.pointer.PtrWord.TheVariants.{Free, Near}
use Rattle.far_word.specs.Pointer.{read_of}
use Rattle.far_device.specs.declared.fault.DeviceFault.{DeviceFault}
use Rattle.far_events.specs.events.Naming.{is_dropped}
use Rattle.far_events.specs.state.State.{State}
use Rattle.far_hand.specs.Finds.{Finds}
use Rattle.far_book.specs.book.Effects.{evicted, moved, order_after, with_free_cell}
use Rattle.far_evac.specs.declared.answers.Progress.{Progress}
use Rattle.far_evac.specs.declared.evac.evacuating.Fate.{Fate}
use Rattle.far_evac.specs.declared.evac.evacuating.Fate.TheVariants.{Dropped, Far, Moved}
use Rattle.far_evac.specs.declared.phase.Phase.TheVariants.{Evacuating}
use Rattle.far_evac.specs.AnyHand.{Knows}
use Rattle.far_evac.specs.Asked.{AsksSo}
use Rattle.far_evac.specs.EvacOf.{EvacOf, moment}
use Rattle.far_evac.specs.Moment.{Tally, tally_of}
use Rattle.far_evac.specs.Walk.{Walked, Way, Drops, Goes, Moves, way_of}

-- where a walk stands, and what it has counted; its round may be over by now
abbrev pub standing : {N D : Type 0} → (N → State) → EvacOf N D → Progress → Walked
standing view e progress = record { moment = record (moment view e) { phase = Evacuating }; tally = tally_of progress }

-- what an object's way makes of the core, and of the order of the sealed logs, and how it is counted
abbrev pub core_by : State → ℕ → Way → State
core_by s p Drops = with_free_cell s p
core_by s p (Moves place) = moved s p place
core_by s p Goes = evicted s p

abbrev pub order_by : State → List ℕ → Way → List ℕ
order_by s order Drops = order
order_by s order (Moves place) = order_after s order place
order_by s order Goes = order

abbrev pub fate_by : Way → Fate
fate_by Drops = Dropped
fate_by (Moves place) = Moved
fate_by Goes = Far

-- one that was to move is elsewhere, or was found dropped
abbrev pub near_fate : Option Place → Fate
near_fate None = Dropped
near_fate (Some place) = Moved

abbrev pub counted_as : Tally → Fate → Tally
counted_as tally Moved = record tally { moved = tally.moved + 1 }
counted_as tally Far = record tally { far = tally.far + 1 }
counted_as tally Dropped = record tally { dropped = tally.dropped + 1 }

-- what a cell says of an object that doesn't go far at once: it is hot, or dropped
abbrev pub goes_near : Option PtrWord → Bool
goes_near None = false
goes_near (Some Free) = false
goes_near (Some (Near len ds place marks)) = marks.dropped || marks.hot
goes_near (Some (pointer.Far len ds marks)) = false

-- from s to t an object went far; or a word with DROP was found in its cell, and it was retired
abbrev pub GoesAway : State → State → ℕ → Fate → Type 0
GoesAway s t p Moved = ⊥
GoesAway s t p Far = Knows (evicted s p) t
GoesAway s t p Dropped = (word : ℕ) × Finds (s.cell p) word × (is_dropped (read_of word) ≡ true) × Knows (with_free_cell s p) t

-- from s to t an object left its log, as a word says that was found in its cell
pub record LeavesBy (s : State) (order : List ℕ) (t : State) (after : List ℕ) (p : ℕ) (fate : Fate) : Type 0 where
  pub word : ℕ
  pub found : Finds (s.cell p) word
  pub core : Knows (core_by s p (way_of s (read_of word))) t
  pub sealed : after ≡ order_by s order (way_of s (read_of word))
  pub is : fate ≡ fate_by (way_of s (read_of word))

-- the same, where no word changes but by this
pub record LeavesAs (s : State) (order : List ℕ) (t : State) (after : List ℕ) (p word : ℕ) (fate : Fate) : Type 0 where
  pub core : t ≡ core_by s p (way_of s (read_of word))
  pub sealed : after ≡ order_by s order (way_of s (read_of word))
  pub is : fate ≡ fate_by (way_of s (read_of word))

-- what it asked of the device, by how it is counted
abbrev pub AsksAs : (D : Type 0) (writes : D → ℕ → List ℕ → Result (Unit {0}) DeviceFault → D → Type 0) (lets_go : D → ℕ → D → Type 0) → State → ℕ → Fate → D → D → Type 0
AsksAs D writes lets_go s p fate old new = (way : Way) × (fate ≡ fate_by way) × AsksSo D writes lets_go s p way old new
