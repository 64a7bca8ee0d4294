-- Values in blocks, as objects by number.
use Rattle.std.specs.Prelude.{◌≡◌, ℕ, ◌+◌, ◌*◌, ◌/◌, ◌%◌, ◌<◌, ◌≤◌, ◌&&◌, nat_lt, Bool, true, false, cond, Option, Some, None, List, [], length, take, drop, slice_index_or}
use Rattle.far_objects.specs.declared.objects.TheConstants.{MOST}
use Rattle.far_objects.specs.Far.{Drops, Far, Makes, Others}
use Rattle.far_packed.specs.declared.near.Near.{Near}
use Rattle.far_packed.specs.declared.near.Place.{Place}
use Rattle.far_packed.specs.declared.near.Place.TheVariants.{Open, Sealed, Free}
use Rattle.far_packed.specs.declared.near.Slot.{Slot}
use Rattle.far_packed.specs.declared.near.TheConstants.{MOST_BLOCKS, SLOTS}

-- what lies near: where each value lies, by its number; where each block is; which is filled, with how many values and what bytes
pub record Table : Type 0 where
  pub slots : List Slot
  pub places : List Place
  pub current : ℕ
  pub used : ℕ
  pub buffer : List ℕ

abbrev pub table : Near → Table
table near = record { slots = near.slots.items; places = near.places.items; current = near.current; used = near.used; buffer = near.buffer.items }

abbrev pub slot_at : Table → ℕ → Slot
slot_at t h = slice_index_or t.slots h record { from = 0; len = 0 }

abbrev pub len_of : Table → ℕ → ℕ
len_of t h = (slot_at t h).len

abbrev pub from_of : Table → ℕ → ℕ
from_of t h = (slot_at t h).from

abbrev pub place_at : List Place → ℕ → Place
place_at places b = slice_index_or places b (Free 0)

abbrev pub is_open : Place → Bool
is_open Open = true
is_open (Sealed n) = false
is_open (Free n) = false

abbrev pub is_free : Place → Bool
is_free Open = false
is_free (Sealed n) = false
is_free (Free n) = true

-- ---- the values
abbrev pub some_len : ℕ → Option ℕ
some_len n = cond (nat_lt 0 n) (Some n) None

abbrev pub block_bytes : Far → List ℕ → Place → Option (List ℕ)
block_bytes far buffer Open = Some buffer
block_bytes far buffer (Sealed n) = far.bytes n
block_bytes far buffer (Free n) = None

abbrev pub piece : ℕ → ℕ → Option (List ℕ) → Option (List ℕ)
piece from len None = None
piece from len (Some xs) = Some (take len (drop from xs))

-- what is known of a value: nothing where the worker isn't honest
abbrev pub shown : Bool → Slot → Option (List ℕ) → Option (List ℕ)
shown honest slot bytes = cond (honest && nat_lt 0 slot.len) (piece slot.from slot.len bytes) None

abbrev pub bytes_of : Far → Table → ℕ → Option (List ℕ)
bytes_of far t h = shown far.honest (slot_at t h) (block_bytes far t.buffer (place_at t.places (h / SLOTS)))

-- a worker's objects and what lies near, as values by number
abbrev pub far_of : Far → Table → Far
far_of far t = record {
  honest = far.honest;
  sizes = λ h. some_len (len_of t h);
  bytes = λ h. bytes_of far t h;
}

-- ---- what always holds
-- how many bytes an object has; 0: there is none
abbrev pub or_zero : Option ℕ → ℕ
or_zero None = 0
or_zero (Some n) = n

abbrev pub block_len : Far → List ℕ → Place → ℕ
block_len far buffer Open = length buffer
block_len far buffer (Sealed n) = or_zero (far.sizes n)
block_len far buffer (Free n) = 0

-- each block has its slots, one is filled, none has another's object; values of a block lie in order, and those to come after them
pub record Shaped (t : Table) : Type 0 where
  pub room : SLOTS * length t.places ≤ length t.slots
  pub few : length t.places ≤ MOST_BLOCKS
  pub current : t.current < length t.places
  pub open_is : is_open (place_at t.places t.current) ≡ true
  pub alone : (b : ℕ) → is_open (place_at t.places b) ≡ true → b ≡ t.current
  pub apart : (b c n : ℕ) → place_at t.places b ≡ Sealed n → place_at t.places c ≡ Sealed n → b ≡ c
  pub ordered : (h k : ℕ) → h < k → h / SLOTS ≡ k / SLOTS → 0 < len_of t h → 0 < len_of t k → from_of t h + len_of t h ≤ from_of t k
  pub live : (h : ℕ) → 0 < len_of t h → h / SLOTS < length t.places
  pub used : t.used ≤ SLOTS
  pub unused : (h : ℕ) → h / SLOTS ≡ t.current → t.used ≤ h % SLOTS → len_of t h ≡ 0
  pub filled : 0 < t.used → 0 < length t.buffer
  pub most : length t.buffer ≤ MOST

-- each value lies in its block, and each sealed block is there
pub record Held (far : Far) (t : Table) : Type 0 where
  pub fits : (h : ℕ) → 0 < len_of t h → from_of t h + len_of t h ≤ block_len far t.buffer (place_at t.places (h / SLOTS))
  pub there : (b n : ℕ) → place_at t.places b ≡ Sealed n → 0 < or_zero (far.sizes n)

pub record Sound (far : Far) (t : Table) : Type 0 where
  pub shaped : Shaped t
  pub held : Held far t

-- ---- what steps need and do
-- a value of so many bytes fits into the block that is filled
pub record HasRoom (t : Table) (n : ℕ) : Type 0 where
  pub slot : t.used < SLOTS
  pub bytes : length t.buffer + n ≤ MOST

-- a block has no value
abbrev pub IsEmpty : Table → ℕ → Type 0
IsEmpty t b = (h : ℕ) → h / SLOTS ≡ b → len_of t h ≡ 0

-- a step on what lies near alone that changes no value, whatever the worker has
pub record Stays (old new : Table) : Type 0 where
  pub shaped : Shaped new
  pub held : (far : Far) → Held far old → Held far new
  pub same : (far : Far) → Held far old → far_of far new ≡ far_of far old

-- the block that was filled became the worker's object of this number, and another one is filled
pub record Begins (number : ℕ) (old new : Table) : Type 0 where
  pub shaped : (far : Far) → Held far old → Shaped new
  pub used : new.used ≡ 0
  pub buffer : new.buffer ≡ []
  pub held : (far later : Far) → Held far old → Makes number old.buffer far later → Held later new
  pub same : (far later : Far) → Held far old → Makes number old.buffer far later → far_of later new ≡ far_of far old

-- the block that is filled has other bytes
abbrev pub with_buffer : Table → List ℕ → Table
with_buffer t bytes = record { slots = t.slots; places = t.places; current = t.current; used = t.used; buffer = bytes }

-- a value was put into the block that is filled
pub record Appends (h : ℕ) (xs : List ℕ) (old new : Table) : Type 0 where
  pub shaped : (far : Far) → Held far old → Shaped new
  pub held : (far : Far) → Held far old → Held far new
  pub makes : (far : Far) → Held far old → Makes h xs (far_of far old) (far_of far new)

-- a value was taken away
pub record Clears (h : ℕ) (old new : Table) : Type 0 where
  pub shaped : Shaped new
  pub places : new.places ≡ old.places
  pub held : (far : Far) → Held far old → Held far new
  pub drops : (far : Far) → Drops h (far_of far old) (far_of far new)

-- a block that was the worker's object of this number is free
pub record Frees (number : ℕ) (old new : Table) : Type 0 where
  pub shaped : Shaped new
  pub held : (far later : Far) → Held far old → Others number far later → Held later new
  pub same : (far later : Far) → Held far old → Others number far later → far_of later new ≡ far_of far old
