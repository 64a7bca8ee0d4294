-- A worker's calls, one after the other, and which byte a read finds by them alone.
use Rattle.std.specs.Prelude.{◌≡◌, ◌≢◌, ◌⊎◌, ℕ, ◌+◌, ◌-◌, ◌<◌, ◌≤◌, true, Some, None, List, [], ◌∷◌, ◌++◌, length, slice_index}
use Rattle.far_private.specs.Heap.{object_with}
use Rattle.far_pool.specs.declared.handle.Handle.{Handle}
use Rattle.far_pool.specs.Pool.{Changes, NextGeneration, Pool, at, bytes_at, has, len_at}
use Rattle.far_pool.specs.Pool.{Makes as Made, Writes as Written}

-- what a call did, by the handle: it made an object of these bytes for a data structure, dropped it, or wrote bytes from one on; an update is a write of what
-- the change made. To read, to add a heap and to be refused does nothing
pub data Call : Type 0 where
  Makes : Handle → List ℕ → ℕ → Call
  Drops : Handle → Call
  Writes : Handle → ℕ → List ℕ → Call

-- as the contracts of alloc, drop_object and write say
abbrev pub Calls : Call → Pool → Pool → Type 0
Calls (Makes h bytes ds) w v = Made h (object_with w.honest ds bytes) w v
Calls (Drops h) w v = (has w h ≡ true) × Changes h None w v × NextGeneration h w v
Calls (Writes h from bytes) w v = (from + length bytes ≤ len_at w h) × Written h from bytes w v

abbrev pub Called : Pool → List Call → Pool → Type 0
Called w [] v = w ≡ v
Called w (c ∷ cs) v = (mid : Pool) × Calls c w mid × Called mid cs v

-- a call says what byte k of a handle's object is from then on
abbrev pub SaysByte : Call → Handle → ℕ → ℕ → Type 0
SaysByte (Makes g bytes ds) h k b = (g ≡ h) × (k < length bytes) × (slice_index bytes k ≡ b)
SaysByte (Drops g) h k b = ⊥
SaysByte (Writes g from bytes) h k b = (g ≡ h) × (from ≤ k) × (k < from + length bytes) × (slice_index bytes (k - from) ≡ b)

-- or says nothing of it
abbrev pub LeavesByte : Call → Handle → ℕ → Type 0
LeavesByte (Makes g bytes ds) h k = g ≢ h
LeavesByte (Drops g) h k = g ≢ h
LeavesByte (Writes g from bytes) h k = (g ≢ h) ⊎ ((g ≡ h) × ((k < from) ⊎ (from + length bytes ≤ k)))

abbrev pub LeaveByte : List Call → Handle → ℕ → Type 0
LeaveByte [] h k = Unit {0}
LeaveByte (c ∷ cs) h k = LeavesByte c h k × LeaveByte cs h k

-- of all calls, the last that said anything of it said that it is b
pub record LastSays (calls : List Call) (h : Handle) (k b : ℕ) : Type 0 where
  pub before : List Call
  pub call : Call
  pub later : List Call
  pub are : calls ≡ before ++ call ∷ later
  pub says : SaysByte call h k b
  pub leave : LeaveByte later h k

-- a worker that had no object, all its far sides being honest, made these calls: each byte of its objects is what they said of it last
abbrev pub ReadsGiveLastWrites : Type 0
ReadsGiveLastWrites = (calls : List Call) (w v : Pool) (h : Handle) (k b : ℕ) → ((g : Handle) → at w g ≡ None) → w.honest ≡ true → Called w calls v → LastSays calls h k b →
    (bytes : List ℕ) × (bytes_at v h ≡ Some bytes) × (slice_index bytes k ≡ b) × (k < length bytes)

-- ---- objects apart
abbrev pub handle_of : Call → Handle
handle_of (Makes g bytes ds) = g
handle_of (Drops g) = g
handle_of (Writes g from bytes) = g

abbrev pub NameOthers : List Call → Handle → Type 0
NameOthers [] h = Unit {0}
NameOthers (c ∷ cs) h = (handle_of c ≢ h) × NameOthers cs h

-- what is under a handle that no call names is as before, over any far side
abbrev pub OthersStay : Type 0
OthersStay = (calls : List Call) (w v : Pool) (h : Handle) → Called w calls v → NameOthers calls h → at v h ≡ at w h
