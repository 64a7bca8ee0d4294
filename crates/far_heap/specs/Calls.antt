-- A mutator's own calls, one after the other, and which byte a read finds by them alone, whatever other threads do meanwhile.
use Rattle.std.specs.Prelude.{◌≡◌, ◌≢◌, ◌⊎◌, ℕ, ◌+◌, ◌-◌, ◌<◌, ◌≤◌, true, Some, List, [], ◌∷◌, ◌++◌, length, slice_index}
use Rattle.atomic_table.specs.Seated.{TableId}
use Rattle.far_heap.specs.Mine.{Mine, adopting, asking, bytes_in, closing, dropping, len_in, newcomer, opening, owns, viewing, writing}

-- what a call did: it opened or closed the scope, asked so many times for an object to be moved, viewed one, made one of so many bytes and a data structure, dropped
-- one, or wrote bytes from one on. To try, to read, and to be refused does nothing, but that `view` may have asked
pub data Call : Type 0 where
  Opens : Call
  Closes : Call
  Asks : ℕ → ℕ → Call
  Views : ℕ → Call
  Makes : ℕ → ℕ → ℕ → Call
  Drops : ℕ → Call
  Writes : ℕ → ℕ → List ℕ → Call

abbrev pub after_call : Call → Mine → Mine
after_call Opens m = opening m
after_call Closes m = closing m
after_call (Asks p n) m = asking p n m
after_call (Views p) m = viewing p m
after_call (Makes p len ds) m = adopting p len ds m
after_call (Drops p) m = dropping p m
after_call (Writes p from bytes) m = writing p from bytes m

-- what holds where it was done: pointers are the mutator's own, and bytes are written within an object
abbrev pub MayCall : Call → Mine → Type 0
MayCall Opens m = Unit {0}
MayCall Closes m = Unit {0}
MayCall (Asks p n) m = Unit {0}
MayCall (Views p) m = Unit {0}
MayCall (Makes p len ds) m = owns m p ≡ true
MayCall (Drops p) m = owns m p ≡ true
MayCall (Writes p from bytes) m = (owns m p ≡ true) × (from + length bytes ≤ len_in m p)

-- these calls lead from one mutator to another
abbrev pub Called : Mine → List Call → Mine → Type 0
Called m [] n = m ≡ n
Called m (c ∷ cs) n = MayCall c m × Called (after_call c m) cs n

-- ---- byte k of pointer p
-- a call says what it is from then on: the call wrote it, or made the object, whose bytes are 0
abbrev pub SaysByte : Call → ℕ → ℕ → ℕ → Type 0
SaysByte Opens p k b = ⊥
SaysByte Closes p k b = ⊥
SaysByte (Asks q n) p k b = ⊥
SaysByte (Views q) p k b = ⊥
SaysByte (Makes q len ds) p k b = (q ≡ p) × (k < len) × (b ≡ 0)
SaysByte (Drops q) p k b = ⊥
SaysByte (Writes q from bytes) p k b = (q ≡ p) × (from ≤ k) × (k < from + length bytes) × (slice_index bytes (k - from) ≡ b)

-- or says nothing of it
abbrev pub LeavesByte : Call → ℕ → ℕ → Type 0
LeavesByte Opens p k = Unit {0}
LeavesByte Closes p k = Unit {0}
LeavesByte (Asks q n) p k = Unit {0}
LeavesByte (Views q) p k = Unit {0}
LeavesByte (Makes q len ds) p k = q ≢ p
LeavesByte (Drops q) p k = q ≢ p
LeavesByte (Writes q from bytes) p k = (q ≢ p) ⊎ (k < from) ⊎ (from + length bytes ≤ k)

abbrev pub LeaveByte : List Call → ℕ → ℕ → Type 0
LeaveByte [] p k = Unit {0}
LeaveByte (c ∷ cs) p k = LeavesByte c p k × LeaveByte cs p k

-- of all calls, the last that said anything of it said that it is b
pub record LastSays (calls : List Call) (p k b : ℕ) : Type 0 where
  pub before : List Call
  pub call : Call
  pub later : List Call
  pub are : calls ≡ before ++ call ∷ later
  pub says : SaysByte call p k b
  pub leave : LeaveByte later p k

-- a mutator of a new heap made these calls: where the far side is honest, each byte of its objects is what they said of it last. So it reads what it wrote
-- last, and 0 where it hasn't written
abbrev pub ReadsGiveLastWrites : Type 0
ReadsGiveLastWrites = (table : TableId) (number : ℕ) (calls : List Call) (m : Mine) (p k b : ℕ) → Called (newcomer table number true) calls m → LastSays calls p k b →
    (bytes : List ℕ) × (bytes_in m p ≡ Some bytes) × (slice_index bytes k ≡ b) × (k < length bytes)
