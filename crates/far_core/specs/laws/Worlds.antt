-- What holds of the objects of a core's world, and of every step that a world makes.
use Rattle.std.specs.Prelude.{◌≡◌, ◌≢◌, ◌⊎◌, ℕ, ◌*◌, ◌/◌, ◌<◌, ◌≤◌, true, false, Option, Some, None, length, slice_index}
use Rattle.far_word.specs.declared.mark.Mark.TheVariants.{Moved, Dropped}
use Rattle.far_word.specs.declared.mark.Marks.{Marks}
use Rattle.far_word.specs.declared.pointer.Place.{Place}
use Rattle.far_word.specs.declared.pointer.PtrWord.TheVariants.{Near, Far}
use Rattle.far_word.specs.declared.sizes.TheConstants.{CELLS, LONGEST, POINTERS}
use Rattle.far_word.specs.Bytes.{packed_word}
use Rattle.far_word.specs.Pointer.{read_of}
use Rattle.far_word.specs.Rows.{no_marks}
use Rattle.far_events.specs.declared.event.Event.{Event}
use Rattle.far_events.specs.declared.event.Event.TheVariants.{Open, Pin, Load, Store, Close, Name, Mark, Ask, Get, Clear, Offer}
use Rattle.far_events.specs.declared.event.Reply.{Reply}
use Rattle.far_events.specs.declared.event.Reply.TheVariants.{Word}
use Rattle.far_events.specs.events.Changes.{Change}
use Rattle.far_core.specs.world.Changes.{Step}
use Rattle.far_events.specs.events.Changes as change
use Rattle.far_events.specs.events.Step.{change_of}
use Rattle.far_core.specs.world.Happens.{Happens}
use Rattle.far_core.specs.world.World.{World, Object, Group}

-- an object has a number of the largest heap's, that number's owner and 1 to 4,088 bytes; if it is near, its group is held
pub record ObjectStands (w : World) (p : ℕ) (o : Object) : Type 0 where
  pub number : p < POINTERS
  pub owner : o.owner ≡ p / CELLS
  pub structure : o.ds < 256
  pub some : 0 < length o.bytes
  pub most : length o.bytes ≤ LONGEST
  pub small : (k : ℕ) → slice_index o.bytes k < 256
  pub held : (g : ℕ) → o.home ≡ Group g → w.group g ≡ true

abbrev pub ObjectsStand : World → Type 0
ObjectsStand w = (p : ℕ) (o : Object) → w.object p ≡ Some o → ObjectStands w p o

-- the object is there still, wherever it is, with its owner, its data structure and its bytes
abbrev pub HasSameBytes : Object → Option Object → Type 0
HasSameBytes o found = (u : Object) × (found ≡ Some u) × (u.owner ≡ o.owner) × (u.ds ≡ o.ds) × (u.bytes ≡ o.bytes)

-- the same, but for the bytes, which are as many
abbrev pub HasSameLength : Object → Option Object → Type 0
HasSameLength o found = (u : Object) × (found ≡ Some u) × (u.owner ≡ o.owner) × (u.ds ≡ o.ds) × (length u.bytes ≡ length o.bytes)

-- what every step keeps, where it is known of each object whether its owner writes its bytes, drops it, closes its scope
-- or views it in this step, or it is fetched. Honesty stays as it is, and no group is given back in which an object lies. An object that
-- its owner views stays where it is, with as many bytes, and with those bytes, but for its owner's writes. In an honest world
-- any object, near or far, keeps its bytes, but for its owner's writes, until its owner drops it. So does any object beside a far side that
-- isn't honest, if it was near or isn't fetched: in any world a fetch of a far object alone puts other bytes, as many as there were. A view
-- ends as its owner closes alone, and begins as its owner views it alone: an object near and unmarked, under an open scope
pub record Keeps (w v : World) (written dropped fetched closed seen : ℕ → Type 0) : Type 0 where
  pub honesty : v.honest ≡ w.honest
  pub groups : (p g : ℕ) (o : Object) → w.object p ≡ Some o → o.home ≡ Group g → w.group g ≡ true → v.group g ≡ true
  pub bytes : (p : ℕ) (o : Object) → w.viewed p ≡ true → w.object p ≡ Some o → ¬ written p → v.object p ≡ Some o
  pub rests : (p : ℕ) (o : Object) → w.viewed p ≡ true → w.object p ≡ Some o →
      (u : Object) × (v.object p ≡ Some u) × (u.owner ≡ o.owner) × (u.ds ≡ o.ds) × (u.home ≡ o.home) × (length u.bytes ≡ length o.bytes)
  pub unchanged : (p : ℕ) (o : Object) → w.honest ≡ true → w.object p ≡ Some o → ¬ written p → ¬ dropped p → HasSameBytes o (v.object p)
  pub unfetched : (p : ℕ) (o : Object) → w.object p ≡ Some o → ¬ written p → ¬ dropped p → ¬ fetched p → HasSameBytes o (v.object p)
  pub near : (p g : ℕ) (o : Object) → w.object p ≡ Some o → o.home ≡ Group g → ¬ written p → ¬ dropped p → HasSameBytes o (v.object p)
  pub lengths : (p : ℕ) (o : Object) → w.object p ≡ Some o → ¬ dropped p → HasSameLength o (v.object p)
  pub views : (p : ℕ) → w.viewed p ≡ true → ¬ closed p → v.viewed p ≡ true
  pub new_views : (p : ℕ) → v.viewed p ≡ true → ¬ seen p → w.viewed p ≡ true
  pub begins : (p : ℕ) → w.viewed p ≡ false → v.viewed p ≡ true →
      (w.opened (p / CELLS) ≡ true) × (w.marked p ≡ false) × ((o : Object) × (g : ℕ) × (w.object p ≡ Some o) × (o.home ≡ Group g))

abbrev pub ChangeKeeps : World → Change → World → Type 0
ChangeKeeps w c v = Keeps w v
    (λ p. (i : ℕ) × (x : ℕ) × (c ≡ change.Writes (p / CELLS) p i x))
    (λ p. c ≡ change.Drops (p / CELLS) p)
    (λ p. (g : ℕ) × (c ≡ change.ComesNear p g))
    (λ p. c ≡ change.Closes (p / CELLS))
    (λ p. c ≡ change.Views (p / CELLS) p)

abbrev pub ChangesKeep : Type 0
ChangesKeep = (w v : World) (c : Change) → Step c w v → ChangeKeeps w c v

-- the words of a fetch: the old one says far, the new one near, of an object with the same length and data structure
abbrev pub IsFetch : ℕ → ℕ → Type 0
IsFetch old new = (len ds : ℕ) × (m : Marks) × (place : Place) × (read_of old ≡ Some (Far len ds m)) × (read_of new ≡ Some (Near len ds place no_marks))

-- which event makes a change
abbrev pub Causes : Event → Change → Type 0
Causes e change.Stays = Unit {0}
Causes e (change.Opens m) = e ≡ Open m
Causes e (change.Closes m) = e ≡ Close m
Causes e (change.Views m p) = e ≡ Pin m p
Causes e (change.Reads m p i x) = e ≡ Load m p i
Causes e (change.Writes m p i x) = e ≡ Store m p i x
Causes e (change.Makes p len ds g) = (old new : ℕ) × (e ≡ Name p old new)
Causes e (change.Moves p g) = (old new : ℕ) × (e ≡ Name p old new)
Causes e (change.ComesNear p g) = (old new : ℕ) × (e ≡ Name p old new) × IsFetch old new
Causes e (change.Marks p) = (e ≡ Mark p) ⊎ ((m : ℕ) × (e ≡ Ask m p Moved))
Causes e (change.Unmarks p) = (e ≡ Clear p) ⊎ ((old new : ℕ) × (e ≡ Name p old new))
Causes e (change.GoesFar p) = (old new : ℕ) × (e ≡ Name p old new)
Causes e (change.Drops m p) = e ≡ Ask m p Dropped
Causes e (change.Releases g) = (at : ℕ) × (e ≡ Get g at true)
Causes e (change.Holds g) = (j p : ℕ) × (to : Place) × (e ≡ Offer j p to) × (to.log ≡ g)

abbrev pub Caused : Event → Option Change → Type 0
Caused e None = Unit {0}
Caused e (Some c) = Causes e c

abbrev pub EventsCause : Type 0
EventsCause = (e : Event) (r : Reply) → Caused e (change_of e r)

-- a change is determined, but for the bytes that a far side gives back that isn't honest
abbrev pub Sure : World → Change → Type 0
Sure w (change.ComesNear p g) = w.honest ≡ true
Sure w c = Unit {0}

abbrev pub SureOf : World → Option Change → Type 0
SureOf w None = Unit {0}
SureOf w (Some c) = Sure w c

abbrev pub ChangesAreOne : Type 0
ChangesAreOne = (w v u : World) (c : Change) → Sure w c → Step c w v → Step c w u → v ≡ u

-- where the far side isn't honest, one coming near leads to different worlds
abbrev pub LyingIsOpen : Type 0
LyingIsOpen = (w v u : World) × (p g : ℕ) × (w.honest ≡ false) × Step (change.ComesNear p g) w v × Step (change.ComesNear p g) w u × (v ≢ u)

-- the same of an event: its owner's store, its owner's request for dropping, a fetch, its owner's close and pin
abbrev pub StepKeeps : World → Event → World → Type 0
StepKeeps w e v = Keeps w v
    (λ p. (i : ℕ) × (x : ℕ) × (e ≡ Store (p / CELLS) p i x))
    (λ p. e ≡ Ask (p / CELLS) p Dropped)
    (λ p. (old new : ℕ) × (e ≡ Name p old new) × IsFetch old new)
    (λ p. e ≡ Close (p / CELLS))
    (λ p. e ≡ Pin (p / CELLS) p)

abbrev pub StepsKeep : Type 0
StepsKeep = (w v : World) (e : Event) (r : Reply) → Happens w e r v → StepKeeps w e v

-- a word that is loaded is word i of an object of its owner's, which its owner views
abbrev pub LoadsRead : Type 0
LoadsRead = (w v : World) (m p i x : ℕ) → Happens w (Load m p i) (Word x) v →
    (w.viewed p ≡ true) × (p / CELLS ≡ m) × ((o : Object) × (w.object p ≡ Some o) × (8 * i < length o.bytes) × (x ≡ packed_word o.bytes i))

-- an event and its reply make one step
abbrev pub StepsAreOne : Type 0
StepsAreOne = (w v u : World) (e : Event) (r : Reply) → SureOf w (change_of e r) → Happens w e r v → Happens w e r u → v ≡ u
