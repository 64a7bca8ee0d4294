-- What a refused command leaves as it was: all but two marks of one cell, which it may have added, and whom a wait has seen clear.
use Rattle.std.specs.Prelude.{◌≡◌, ◌⊎◌, ◌↔◌, ℕ, ◌<◌, true, Option, Some, None}
use Rattle.far_word.specs.declared.mark.Marks.{Marks}
use Rattle.far_word.specs.declared.pointer.PtrWord.{PtrWord}
use Rattle.far_word.specs.declared.pointer.PtrWord.TheVariants.{Free, Near, Far}
use Rattle.far_word.specs.declared.refused.Refused.{Refused as Refusal}
use Rattle.far_word.specs.declared.refused.Refused.TheVariants.{NoRoom, Device, Damaged, Marked, StillOpen}
use Rattle.far_word.specs.Pointer.{read_of}
use Rattle.far_core.specs.world.WorldOf.{world_of}
use Rattle.far_text.specs.Command.{Command, On, Try, Wait, Mutator, Evacuator}
use Rattle.far_replay.specs.Moment.{Moment}

-- HOT and MOVE may have been added; EVAC, DROP and DIRTY are as they were
pub record MayGain (a b : Marks) : Type 0 where
  pub hot : a.hot ≡ true → b.hot ≡ true
  pub moved : a.moved ≡ true → b.moved ≡ true
  pub evac : b.evac ≡ a.evac
  pub dropped : b.dropped ≡ a.dropped
  pub dirty : b.dirty ≡ a.dirty

-- so it is with the marks of a cell, which names the same object at the same place
abbrev pub CellStays : Option PtrWord → Option PtrWord → Type 0
CellStays None None = Unit {0}
CellStays (Some Free) (Some Free) = Unit {0}
CellStays (Some (Near len ds place a)) (Some (Near n d at b)) = (n ≡ len) × (d ≡ ds) × (at ≡ place) × MayGain a b
CellStays (Some (Far len ds a)) (Some (Far n d b)) = (n ≡ len) × (d ≡ ds) × MayGain a b
CellStays _ _ = ⊥

-- the cell whose marks a refused line may add to: that of the object it reads, writes or views, and only where the refusal came after the pin
abbrev pub MayMark : Command → Refusal → ℕ → Type 0
MayMark (Mutator m (On p how)) NoRoom q = q ≡ p
MayMark (Mutator m (On p how)) Device q = q ≡ p
MayMark (Mutator m (On p how)) Damaged q = q ≡ p
MayMark (Mutator m (Try p)) (Marked word) q = q ≡ p
MayMark c why q = ⊥

-- a wait that is refused since a mutator's scope is open has seen clear those before it, and looked no further
abbrev pub MaySee : Command → Refusal → Type 0
MaySee (Evacuator Wait) (StillOpen mutator epoch) = Unit {0}
MaySee c why = ⊥

abbrev pub Sees : Command → Refusal → ℕ → Type 0
Sees (Evacuator Wait) (StillOpen mutator epoch) m = m < mutator
Sees c why m = ⊥

-- objects, bytes and places are as before, and so is all else of the core but for marks in that cell, and whom a wait has seen clear. A round stands where it stood
pub record Stays (c : Command) (why : Refusal) (now next : Moment) : Type 0 where
  pub objects : (world_of next.core).object ≡ (world_of now.core).object
  pub cells : (p : ℕ) → CellStays (read_of (now.core.cell p)) (read_of (next.core.cell p))
  pub unmarked : (p : ℕ) → ¬ MayMark c why p → next.core.cell p ≡ now.core.cell p
  pub seen : ¬ MaySee c why → next.core.clear ≡ now.core.clear
  pub clear : (m : ℕ) → (next.core.clear m ≡ true) ↔ ((now.core.clear m ≡ true) ⊎ Sees c why m)
  pub rest : next.core ≡ record now.core { cell = next.core.cell; clear = next.core.clear }
  pub round : (next.order ≡ now.order) × (next.phase ≡ now.phase) × (next.collection ≡ now.collection)
