-- What a user of a private heap knows of it, and what its calls make of that.
use Rattle.std.specs.Prelude.{◌≡◌, ℕ, ◌+◌, ◌<◌, ◌≤◌, ◌&&◌, nat_lt, nat_le, Bool, true, false, Option, Some, None, is_some, IsSome, List, length, replicate, slice_index, slice_index_or, slice_set, if◌then◌else◌}
use Rattle.std.specs.Option.{option_map}
use Rattle.far_word.specs.declared.refused.Refused.{Refused}
use Rattle.far_word.specs.declared.refused.Refused.TheVariants.{Damaged, Device, EpochsSpent, Length, Memory, NoPointer, NoRoom, NotHeld, Range}
use Rattle.far_word.specs.declared.sizes.TheConstants.{LONGEST, POINTERS}
use Rattle.far_private.specs.Objects.{Object, bytes_of, known, len_of, rewritten}

-- whether the far side is honest; of how many logs it was made; and the object of each of the 2,048 pointers, none where the pointer is free
pub record Heap : Type 0 where
  pub honest : Bool
  pub logs : ℕ
  pub objects : List (Option Object)

-- the object of a pointer; a number that is none of the heap's pointers has none
abbrev pub object : Heap → ℕ → Option Object
object h p = slice_index_or h.objects p None

abbrev pub has : Heap → ℕ → Bool
has h p = is_some (object h p)

-- its bytes, where they are known: the far side is honest
abbrev pub bytes_in : Heap → ℕ → Option (List ℕ)
bytes_in h p = bytes_of (object h p)

-- how many it has, none where there is no object
abbrev pub len_in : Heap → ℕ → ℕ
len_in h p = len_of (object h p)

abbrev pub size_of : Option Object → Option ℕ
size_of None = None
size_of (Some x) = Some x.len

abbrev pub structure_of : Option Object → Option ℕ
structure_of None = None
structure_of (Some x) = Some x.ds

-- ---- what calls make of it
abbrev pub with_object : ℕ → Option Object → Heap → Heap
with_object p x h = record h { objects = slice_set h.objects p x }

-- an object of these bytes
abbrev pub object_with : Bool → ℕ → List ℕ → Object
object_with honest ds bytes = record { len = length bytes; ds = ds; bytes = known honest bytes }

abbrev pub with_made : ℕ → ℕ → List ℕ → Heap → Heap
with_made p ds bytes h = with_object p (Some (object_with h.honest ds bytes)) h

-- one of so many zeros
abbrev pub new_object : Bool → ℕ → ℕ → Object
new_object honest len ds = record { len = len; ds = ds; bytes = known honest (replicate len 0) }

abbrev pub with_new : ℕ → ℕ → ℕ → Heap → Heap
with_new p len ds h = with_object p (Some (new_object h.honest len ds)) h

abbrev pub without : ℕ → Heap → Heap
without p h = with_object p None h

-- bytes of an object are others from one on
abbrev pub with_written : ℕ → ℕ → List ℕ → Heap → Heap
with_written p from bytes h = with_object p (option_map (rewritten from bytes) (object h p)) h

-- ---- of how many logs a heap may be
abbrev pub is_logs : ℕ → Bool
is_logs logs = nat_le 2 logs && nat_le logs 64

-- ---- when an access is refused before anything is done: the pointer has no object; or the range is empty, or passes the object's end
abbrev pub access_refusal : Heap → ℕ → ℕ → ℕ → Option Refused
access_refusal h p from count = if has h p then (if nat_lt 0 count && nat_le (from + count) (len_in h p) then None else Some Range) else Some NotHeld

-- what may refuse an access that nothing bars before. When each comes isn't said here; Damaged never does over an honest far side
abbrev pub IsOutside : Bool → Refused → Type 0
IsOutside honest Memory = Unit {0}
IsOutside honest NoRoom = Unit {0}
IsOutside honest EpochsSpent = Unit {0}
IsOutside honest Device = Unit {0}
IsOutside honest Damaged = honest ≡ false
IsOutside honest why = ⊥

-- why an access was refused, by what refuses it before anything is done
abbrev pub IsWhyNoAccess : Bool → Option Refused → Refused → Type 0
IsWhyNoAccess honest o NotHeld = o ≡ Some NotHeld
IsWhyNoAccess honest o Range = o ≡ Some Range
IsWhyNoAccess honest o why = (o ≡ None) × IsOutside honest why

-- ---- when no object is made
abbrev pub is_length : ℕ → Bool
is_length len = nat_lt 0 len && nat_le len LONGEST

abbrev pub IsFull : Heap → Type 0
IsFull h = (p : ℕ) → p < POINTERS → IsSome (object h p)

abbrev pub HasFree : Heap → Type 0
HasFree h = (p : ℕ) × (p < POINTERS) × (object h p ≡ None)

-- why none was made: its length is none that an object has; or each pointer has an object; or there was no room, of which IsNotTaken says more
abbrev pub IsWhyNoObject : Heap → ℕ → Refused → Type 0
IsWhyNoObject h len Length = is_length len ≡ false
IsWhyNoObject h len NoPointer = (is_length len ≡ true) × IsFull h
IsWhyNoObject h len NoRoom = (is_length len ≡ true) × HasFree h
IsWhyNoObject h len EpochsSpent = (is_length len ≡ true) × HasFree h
IsWhyNoObject h len why = ⊥

-- ---- what holds between any two calls
-- the bytes are as many as the object has, and each is a byte
pub record AreOf (len : ℕ) (bytes : List ℕ) : Type 0 where
  pub many : length bytes ≡ len
  pub small : (k : ℕ) → slice_index bytes k < 256

-- they are known where the far side is honest, and only there
abbrev pub IsKnownAs : Bool → Object → Type 0
IsKnownAs true x = (bytes : List ℕ) × (x.bytes ≡ Some bytes) × AreOf x.len bytes
IsKnownAs false x = x.bytes ≡ None

pub record IsWellObject (honest : Bool) (x : Object) : Type 0 where
  pub some : 0 < x.len
  pub most : x.len ≤ LONGEST
  pub structure : x.ds < 256
  pub known : IsKnownAs honest x

abbrev pub IsWell : Bool → Option Object → Type 0
IsWell honest None = Unit {0}
IsWell honest (Some x) = IsWellObject honest x

pub record HeapLaw (h : Heap) : Type 0 where
  pub many : length h.objects ≡ POINTERS
  pub well : (p : ℕ) → IsWell h.honest (object h p)
  pub outside : (p : ℕ) → POINTERS ≤ p → object h p ≡ None
