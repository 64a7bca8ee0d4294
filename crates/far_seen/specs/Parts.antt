-- A near index and far objects as a set of lines.
use Rattle.std.specs.Prelude.{◌≡◌, ℕ, ◌<◌, ◌≤◌, true, Option, Some, None, List, [], ◌∷◌, ◌++◌, length}
use Rattle.std.specs.Option.{option_to_list}
use Rattle.std.specs.FinSet as set
use Rattle.std.specs.declared.hash.DefaultHasher.{DefaultHasher}
use Rattle.far_objects.specs.Far.{Far}
use Rattle.far_index.specs.declared.slot.Slot.{Slot}
use Rattle.far_index.specs.declared.slot.Slot.TheVariants.{Empty, Gone, Full}
use Rattle.far_index.specs.Slots.{slot_at, Reached}
use Rattle.far_index.specs.Tags.{tag_of}
use Rattle.far_seen.specs.declared.near.Near.{Near}
use Rattle.far_seen.specs.Lines.{LineSet, Lines}

-- what objects hold, by their numbers
abbrev pub Bytes : Type 0
Bytes = ℕ → Option (List ℕ)

-- the line of a slot
abbrev pub line_in : Bytes → Slot → Option (List ℕ)
line_in bytes Empty = None
line_in bytes Gone = None
line_in bytes (Full tag number) = bytes number

abbrev pub line_at : Bytes → List Slot → ℕ → Option (List ℕ)
line_at bytes slots i = line_in bytes (slot_at slots i)

-- the stamp of a slot's line: the slot's tag, and how long the object is
abbrev pub stamp_at : ℕ → Option ℕ → Option (List ℕ)
stamp_at tag None = None
stamp_at tag (Some n) = Some (tag ∷ n ∷ [])

abbrev pub stamp_in : (ℕ → Option ℕ) → Slot → Option (List ℕ)
stamp_in sizes Empty = None
stamp_in sizes Gone = None
stamp_in sizes (Full tag number) = stamp_at tag (sizes number)

-- what slots say
abbrev pub all_in : (Slot → Option (List ℕ)) → List Slot → List (List ℕ)
all_in says [] = []
all_in says (s ∷ ss) = option_to_list (says s) ++ all_in says ss

abbrev pub set_in : (Slot → Option (List ℕ)) → List Slot → LineSet
set_in says slots = set.from_list (all_in says slots)

-- some slot has the line
abbrev pub Has : Bytes → List Slot → List ℕ → Type 0
Has bytes slots line = (i : ℕ) × (line_at bytes slots i ≡ Some line)

-- some slot has a line of the stamp
abbrev pub HasStamp : (ℕ → Option ℕ) → List Slot → List ℕ → Type 0
HasStamp sizes slots stamp = (i : ℕ) × (stamp_in sizes (slot_at slots i) ≡ Some stamp)

pub record Plain : Type 0 where
  pub far : Far
  pub seed : DefaultHasher
  pub slots : List Slot
  pub buckets : ℕ
  pub count : ℕ

abbrev pub plain : Far → Near → Plain
plain far near = record { far = far; seed = near.seed; slots = near.slots; buckets = near.buckets; count = near.count }

abbrev pub lines_of : Plain → Lines
lines_of p = record { honest = p.far.honest; lines = set_in (line_in p.far.bytes) p.slots; seed = p.seed; stamps = set_in (stamp_in p.far.sizes) p.slots }

-- each slot's number has an object, and no other slot has that; where the worker is honest, it is a line that has the slot's tag, and no
-- two lines are the same
pub record Sound (p : Plain) : Type 0 where
  pub some : 0 < p.buckets
  pub fits : p.buckets ≤ length p.slots
  pub reached : Reached p.buckets p.slots
  pub apart : (i j t u number : ℕ) → slot_at p.slots i ≡ Full t number → slot_at p.slots j ≡ Full u number → i ≡ j
  pub held : (j tag number : ℕ) → slot_at p.slots j ≡ Full tag number → (n : ℕ) × (p.far.sizes number ≡ Some n)
  pub tagged : p.far.honest ≡ true → (j tag number : ℕ) (line : List ℕ) → slot_at p.slots j ≡ Full tag number → p.far.bytes number ≡ Some line → tag ≡ tag_of p.seed line
  pub distinct : p.far.honest ≡ true → (i j : ℕ) (line : List ℕ) → line_at p.far.bytes p.slots i ≡ Some line → line_at p.far.bytes p.slots j ≡ Some line → i ≡ j
  pub counted : p.far.honest ≡ true → p.count ≡ set.len (lines_of p).lines
