-- What a private heap has, to a contract.
use Rattle.std.specs.Prelude.{◌≡◌, ◌≢◌, ℕ, ◌+◌, ◌&&◌, ◌<◌, nat_lt, nat_le, Bool, true, false, Option, Some, None, is_some, List, length, replicate, if◌then◌else◌, IfSome, slice_range}
use Rattle.far_word.specs.declared.refused.Refused.{Refused}
use Rattle.far_word.specs.declared.refused.Refused.TheVariants.{NotHeld, Range}
use Rattle.far_core.specs.state.CoreState.{core_state}
use Rattle.far_events.specs.state.State.{State, put}
use Rattle.far_core.specs.world.World.{Object as Thing}
use Rattle.far_core.specs.world.WorldOf.{world_of}
use Rattle.far_hand.specs.declared.plain.Plain.{Plain}
use Rattle.far_evac.specs.EvacOf.{EvacOf}
use Rattle.far_alone.specs.Objects.{with_range}
use Rattle.std.specs.Option.{option_map}

-- an object: how many bytes it has, of which data structure it is, and which bytes, unless the far side may give others than it was given
pub record Object : Type 0 where
  pub len : ℕ
  pub ds : ℕ
  pub bytes : Option (List ℕ)

-- whether the far side is honest; how many logs there are; and the object of each pointer, none where the pointer is free
pub record Objects : Type 0 where
  pub honest : Bool
  pub logs : ℕ
  pub object : ℕ → Option Object

abbrev pub known : Bool → List ℕ → Option (List ℕ)
known true bytes = Some bytes
known false bytes = None

abbrev pub seen : Bool → Option Thing → Option Object
seen honest None = None
seen honest (Some o) = Some record { len = length o.bytes; ds = o.ds; bytes = known honest o.bytes }

-- those of a state
abbrev pub objects_of : State → Objects
objects_of s = record { honest = s.honest; logs = s.logs; object = λ p. seen s.honest ((world_of s).object p) }

-- the state of the core that an evacuator's book has in its hand
abbrev pub state_in : {D : Type 0} → EvacOf Plain D → State
state_in evac = core_state evac.book.near.core

abbrev pub objects_in : {D : Type 0} → EvacOf Plain D → Objects
objects_in evac = objects_of (state_in evac)

-- a state between two calls: it has all eight owners, each pointer that is named is used, and no owner has a scope or remembers an epoch
pub record Settled (s : State) : Type 0 where
  pub mutators : s.mutators ≡ 8
  pub named : (p : ℕ) → s.cell p ≢ 0 → s.used p ≡ true
  pub closed : (m : ℕ) → s.scope m ≡ 0
  pub fresh : (m : ℕ) → s.remembered m ≡ None

-- a pointer of the heap whose cell is free
pub record IsFree (s : State) (p : ℕ) : Type 0 where
  pub inside : p < 2048
  pub free : s.cell p ≡ 0

-- no cell of the heap is free
abbrev pub IsFull : State → Type 0
IsFull s = (p : ℕ) → p < 2048 → s.cell p ≢ 0

-- ---- what calls make of it
abbrev pub len_of : Option Object → ℕ
len_of None = 0
len_of (Some x) = x.len

abbrev pub bytes_of : Option Object → Option (List ℕ)
bytes_of None = None
bytes_of (Some x) = x.bytes

abbrev pub len_in : Objects → ℕ → ℕ
len_in o p = len_of (o.object p)

abbrev pub bytes_in : Objects → ℕ → Option (List ℕ)
bytes_in o p = bytes_of (o.object p)

-- a new object of zeros
abbrev pub with_new : ℕ → ℕ → ℕ → Objects → Objects
with_new p len ds o = record o { object = put o.object p (Some record { len = len; ds = ds; bytes = known o.honest (replicate len 0) }) }

abbrev pub without : ℕ → Objects → Objects
without p o = record o { object = put o.object p None }

-- bytes of an object are others from here on
abbrev pub rewritten : ℕ → List ℕ → Object → Object
rewritten from new x = record { len = x.len; ds = x.ds; bytes = option_map (λ bytes. with_range bytes from new) x.bytes }

abbrev pub with_written : ℕ → ℕ → List ℕ → Objects → Objects
with_written p from new o = record o { object = put o.object p (option_map (rewritten from new) (o.object p)) }

-- a new object whose first bytes are these, and the others 0
abbrev pub with_filled : ℕ → ℕ → ℕ → List ℕ → Objects → Objects
with_filled p len ds bytes o = with_written p 0 bytes (with_new p len ds o)

-- ---- when an access is refused before anything is done: the pointer has no object; or the range is empty, or passes the object's end
abbrev pub access_refusal : Objects → ℕ → ℕ → ℕ → Option Refused
access_refusal o p from count = if is_some (o.object p) then (if nat_lt 0 count && nat_le (from + count) (len_in o p) then None else Some Range) else Some NotHeld

-- what was read is a range of the object's bytes, where these are known
abbrev pub IsRead : Objects → ℕ → ℕ → ℕ → List ℕ → Type 0
IsRead o p from count out = IfSome (bytes_in o p) (λ bytes. out ≡ slice_range bytes from (from + count))
