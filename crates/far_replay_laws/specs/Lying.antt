-- What a device that inverts one read tells over a run: one command is given inverted bytes of its object; the next that asks for the same object, if it wasn't written since, is given what was stored before.
use Rattle.std.specs.Prelude.{◌≡◌, ◌≢◌, ◌⊎◌, ℕ, suc, Option, Some, None, List, [], ◌∷◌, length, map}
use Rattle.far_word.specs.Bytes.{bytes_of}
use Rattle.far_word.specs.Pointer.{read_of}
use Rattle.far_book.specs.book.FarSide.{kept_len}
use Rattle.far_core.specs.world.WorldOf.{world_of}
use Rattle.far_device.specs.Liar.{inverted}
use Rattle.far_text.specs.Command.{Command}
use Rattle.far_alone.specs.Own.{bytes_in_world}
use Rattle.far_replay.specs.Answers.{Outside, Serves, Refuses, Gives, Lacks}
use Rattle.far_replay.specs.Commanded.{AsksFor}
use Rattle.far_replay.specs.Far.{FarBytes}
use Rattle.far_replay.specs.Moment.{Moment}

-- the bytes of a pointer's object
abbrev pub bytes_in : Moment → ℕ → Option (List ℕ)
bytes_in now p = bytes_in_world ((world_of now.core).object p)

-- the device is to hold bytes under a pointer's key: the object is far, or near without DIRTY
abbrev pub IsKept : Moment → ℕ → Type 0
IsKept now p = (len : ℕ) × (kept_len (read_of (now.core.cell p)) ≡ Some len)

-- what a command was given of an object with these bytes, while so many reads may yet be inverted, and the device owes an object its bytes, if one: they are its own, if none are owed to it; or inverted, for the one
-- lie, and are owed to it since; or its own are inverted, since they were owed to it
abbrev pub GivenOf : ℕ → Option ℕ → ℕ → List ℕ → List ℕ → ℕ → Option ℕ → Type 0
GivenOf n owed p own bytes less owes =
    ((bytes ≡ own) × (owed ≢ Some p) × (less ≡ n) × (owes ≡ owed))
    ⊎ (((bytes ≡ map inverted own) × (n ≡ suc less) × (owed ≡ None) × (owes ≡ Some p))
    ⊎ ((own ≡ map inverted bytes) × (less ≡ n) × (owed ≡ Some p) × (owes ≡ None)))

-- what is owed to an object is so as long as the device is to hold its bytes: until it is written, or is gone
abbrev pub if_kept : ℕ → Option ℕ → Option ℕ
if_kept p None = None
if_kept p (Some len) = Some p

abbrev pub owed_in : Moment → Option ℕ → Option ℕ
owed_in now None = None
owed_in now (Some p) = if_kept p (kept_len (read_of (now.core.cell p)))

-- so it is with each command of a run that was given words
abbrev pub LiesOnce : ℕ → Option ℕ → Moment → List Outside → List Command → List Moment → Type 0
LiesOnce n owed now (Gives row inverts ∷ os) (c ∷ cs) (after ∷ moments) = (m p less : ℕ) × (owes : Option ℕ) × (own : List ℕ) × AsksFor m p c × (bytes_in now p ≡ Some own)
    × GivenOf n (owed_in now owed) p own (bytes_of row (length own)) less owes × LiesOnce less owes after os cs moments
LiesOnce n owed now (o ∷ os) (c ∷ cs) (after ∷ moments) = LiesOnce n (owed_in now owed) after os cs moments
LiesOnce n owed now os cs moments = Unit {0}

-- ---- what a step keeps
-- of each object that the device is to hold after a command it held the same, and was to hold some, and the object has the bytes that it had; or it was to hold none, and holds the object's
abbrev pub KeepsHeld : Moment → FarBytes → Moment → FarBytes → Type 0
KeepsHeld now held after later = (p : ℕ) → IsKept after p → ((later p ≡ held p) × IsKept now p × (bytes_in after p ≡ bytes_in now p)) ⊎ ((¬ IsKept now p) × (later p ≡ bytes_in after p))
