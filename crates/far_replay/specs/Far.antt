-- What the device of a heap holds between two commands.
use Rattle.std.specs.Prelude.{◌≡◌, ◌⊎◌, ℕ, Bool, true, false, Option, Some, None, List, map}
use Rattle.far_word.specs.declared.mark.Marks.{Marks}
use Rattle.far_word.specs.declared.pointer.PtrWord.TheVariants.{Far}
use Rattle.far_word.specs.Bytes.{bytes_of}
use Rattle.far_word.specs.Pointer.{read_of}
use Rattle.far_events.specs.state.Law.{is_dirty}
use Rattle.far_events.specs.state.State.{State}
use Rattle.hex.specs.Hex.{IsBytes}
use Rattle.far_device.specs.Liar.{inverted}
use Rattle.far_device.specs.Mem.{bytes_at}
use Rattle.far_book.specs.book.FarSide.{kept_len}
use Rattle.far_hand.specs.declared.plain.Plain.{Plain}
use Rattle.far_evac.specs.EvacOf.{EvacOf}
use Rattle.far_text.specs.Command.{Command, Drop, Evacuate, Evacuator, Mutator, Round}
use Rattle.far_replay.specs.Commanded.{AsksFor, LiesFar, Outside, Serves, Gives}
use Rattle.far_replay.specs.Moment.{FarSide, Moment}
use Rattle.far_replay.specs.Turn.{refusal}

-- the bytes under each key
abbrev pub FarBytes : Type 0
FarBytes = ℕ → Option (List ℕ)

abbrev pub far_of : FarSide → FarBytes
far_of device p = bytes_at device.inner.inner p

abbrev pub far_in : EvacOf Plain FarSide → FarBytes
far_in evac = far_of evac.book.device

-- it holds the same under each key
abbrev pub HoldsSame : EvacOf Plain FarSide → EvacOf Plain FarSide → Type 0
HoldsSame old new = (q : ℕ) → far_in new q ≡ far_in old q

-- an object that had DIRTY is far, and what is stored of it was written
abbrev pub WentFar : State → State → FarBytes → ℕ → Type 0
WentFar s t now p = (is_dirty (read_of (s.cell p)) ≡ true) × (len ds : ℕ) × (m : Marks) × (read_of (t.cell p) ≡ Some (Far len ds m)) × (now p ≡ Some (bytes_of (t.stored p) len))

-- once objects have left from s on: of what the device is to hold under a key it held the same, and was to hold as many bytes; or the object had DIRTY, went far, and was written
abbrev pub HoldsAs : State → State → FarBytes → FarBytes → ℕ → Type 0
HoldsAs s t held now p = (len : ℕ) → kept_len (read_of (t.cell p)) ≡ Some len → ((now p ≡ held p) × (kept_len (read_of (s.cell p)) ≡ Some len)) ⊎ WentFar s t now p

-- so it is after a command by which objects may leave; any other leaves under each key what was there, but a drop, which does so where bytes are to be held
abbrev pub HoldsBy : Command → State → State → FarBytes → FarBytes → Type 0
HoldsBy (Evacuator (Evacuate count)) s t held now = (p : ℕ) → HoldsAs s t held now p
HoldsBy (Evacuator (Round policy most turns)) s t held now = (p : ℕ) → HoldsAs s t held now p
HoldsBy (Mutator m (Drop q)) s t held now = (p len : ℕ) → kept_len (read_of (t.cell p)) ≡ Some len → now p ≡ held p
HoldsBy c s t held now = (p : ℕ) → now p ≡ held p

-- what a device told of what it holds: that, which are bytes, or, where it inverts, each byte of it inverted
abbrev pub IsTold : Bool → Option (List ℕ) → List ℕ → Type 0
IsTold false held bytes = (own : List ℕ) × (held ≡ Some own) × (IsBytes own → bytes ≡ own)
IsTold true held bytes = (own : List ℕ) × (held ≡ Some own) × (bytes ≡ map inverted own)

-- a command that asks for a far object, and isn't refused, is served with what is stored only where the far side is honest; what it is given else was told of what the device holds
abbrev pub ToldBy : Outside → Moment → Command → FarBytes → Type 0
ToldBy Serves now c held = (m p : ℕ) → AsksFor m p c → LiesFar now.core p → refusal now c ≡ None → now.core.honest ≡ true
ToldBy (Gives row inverts) now c held = (m p : ℕ) → AsksFor m p c → (far : LiesFar now.core p) → IsTold inverts (held p) (bytes_of row far.0)
ToldBy o now c held = Unit {0}
