-- What a mutator of the heap knows of itself, and how one of its requests is answered.
use Rattle.std.specs.Prelude.{◌≡◌, ◌⊎◌, ℕ, ◌+◌, ◌<◌, ◌≤◌, Bool, true, false, Option, Some, None, List, length}
use Rattle.far_word.specs.declared.refused.Refused.{Refused}
use Rattle.far_word.specs.declared.refused.Refused.TheVariants.{Length, NotHeld, Range}
use Rattle.far_word.specs.declared.sizes.TheConstants.{LONGEST}
use Rattle.far_heap.specs.HeapId.{HeapId}
use Rattle.far_heap.specs.Mine.{Mine, Object, len_in, object_of, uses, views}
use Rattle.far_text.specs.Command.{Mutator, Request, Close, On, Try}
use Rattle.far_alone.specs.Own.{Own}
use Rattle.far_reply.specs.Reply.{IsShort, Reply, Logs}
use Rattle.far_split.specs.Here.{KnowsHere, TellsOfHeap}
use Rattle.far_split.specs.declared.access.Access.{Access}
use Rattle.far_split.specs.declared.slot.Slot.{Slot}
use Rattle.far_split.specs.declared.slot.Slot.TheVariants.{Closed, Open}

-- the bytes of an object: as many as it has, and those that are known of it, which are all over an honest far side
abbrev pub HasBytes : Bool → Option Object → Option (List ℕ) → Type 0
HasBytes honest None bytes = bytes ≡ None
HasBytes honest (Some x) bytes = (all : List ℕ) × (bytes ≡ Some all) × (length all ≡ x.len) × (honest ≡ true → x.bytes ≡ Some all)

-- as the plain program's mutator knows it: its open flag, its objects' bytes, and what it views. Over a far side that may lie any bytes are, as many as there are
pub record IsOwn (m : Mine) (o : Own) : Type 0 where
  pub opened : o.opened ≡ m.opened
  pub viewed : (p : ℕ) → o.viewed p ≡ views m p
  pub object : (p : ℕ) → HasBytes m.honest (object_of m p) (o.object p)

-- the mutator whose scope is closed or open
abbrev pub mine_in : {K : Type 0} → Slot K → Mine
mine_in (Closed mutator) = mutator
mine_in (Open scope) = scope

-- it tells nothing of logs
abbrev pub TellsNoLogs : Reply → Type 0
TellsNoLogs (Logs lines) = ⊥
TellsNoLogs r = Unit {0}

-- a request that wants an open scope
abbrev pub needs_scope : Request → Bool
needs_scope Close = true
needs_scope (On p how) = true
needs_scope (Try p) = true
needs_scope request = false

-- a mutator that knows this is told a reply, and knows that then; and what the reply tells of the heap
pub record Learns (heap : HeapId) (m : Mine) (o : Own) (request : Request) (r : Reply) (n : Mine) : Type 0 where
  pub own : Own
  pub is : IsOwn n own
  pub knows : KnowsHere m.honest m.number o (Mutator m.number request) r own
  pub tells : TellsOfHeap heap m.number o (Mutator m.number request) r

-- a request of the mutator was answered so on its heap, whatever it knew of bytes, with no more bytes than an object has, and it is the same mutator of the same heap
pub record Answers (heap : HeapId) (m : Mine) (request : Request) (r : Reply) (n : Mine) : Type 0 where
  pub learns : (o : Own) → IsOwn m o → Learns heap m o request r n
  pub short : IsShort r
  pub logless : TellsNoLogs r
  pub number : n.number ≡ m.number
  pub honest : n.honest ≡ m.honest

-- ---- what is asked for, as it is before the heap is asked
-- some bytes of an object that the mutator uses
abbrev pub IsReached : Mine → ℕ → ℕ → ℕ → Access → Type 0
IsReached m p from count a = (a.pointer ≡ p) × (a.from ≡ from) × (a.count ≡ count) × (uses m p ≡ true) × (0 < count) × (from + count ≤ len_in m p)

abbrev pub IsUnreached : Mine → ℕ → ℕ → ℕ → Refused → Type 0
IsUnreached m p from count NotHeld = uses m p ≡ false
IsUnreached m p from count Range = (uses m p ≡ true) × ((count ≡ 0) ⊎ (len_in m p < from + count))
IsUnreached m p from count why = ⊥

-- sizes that an object may have: its length and its data structure
abbrev pub AreSizes : ℕ → ℕ → ℕ × ℕ → Type 0
AreSizes len ds sizes = (sizes.0 ≡ len) × (sizes.1 ≡ ds) × (ds < 256) × (0 < len) × (len ≤ LONGEST)

abbrev pub AreNoSizes : ℕ → ℕ → Refused → Type 0
AreNoSizes len ds Range = 256 ≤ ds
AreNoSizes len ds Length = (ds < 256) × ((len ≡ 0) ⊎ (LONGEST < len))
AreNoSizes len ds why = ⊥
