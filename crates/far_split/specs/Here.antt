-- The replies to one mutator's own lines, on a heap that others use beside it.
use Rattle.std.specs.Prelude.{◌≡◌, ℕ, ◌⊎◌, Bool, true, false, Some, List, [], ◌∷◌, length, map}
use Rattle.far_word.specs.Pointer.{read_of}
use Rattle.far_word.specs.declared.refused.Refused.{Refused as Refusal}
use Rattle.far_word.specs.declared.refused.Refused.TheVariants.{Damaged, Device, Marked, NoPointer, NoRoom}
use Rattle.far_events.specs.state.State.{put}
use Rattle.far_heap.specs.BookHad.{BookHad, HasRoom, IsAnswered, LacksRoom, NoneFree, Unbrought}
use Rattle.far_heap.specs.HeapId.{HeapId}
use Rattle.far_heap.specs.Mine.{IsSlow}
use Rattle.far_text.specs.Command.{Command, Mutator, New, On, Try}
use Rattle.far_replay.specs.Alone.{Alone, Knows, is_by, speaker}
use Rattle.far_alone.specs.Own.{Own}
use Rattle.far_replay.specs.Commanded.{AsksFor}
use Rattle.far_reply.specs.Reply.{Reply, Pointer, Refused}
use Rattle.far_split.specs.FarSides.{FarReads, FarSide}

-- the reply doesn't say that the far side gave another number of bytes
abbrev pub IsUndamaged : Reply → Type 0
IsUndamaged (Refused Damaged) = ⊥
IsUndamaged r = Unit {0}

-- where the far side may lie, a mutator may be given other bytes of an object that it asks for, as many as it has; also while it views the object, unlike a mutator of the plain
-- program, which views what it was given first. Of the heap's words it is known then how long objects are and which are viewed, and no more: which word is a known one's hangs on
-- the far side's honesty
pub record IsGivenOthers (m : ℕ) (o : Own) (c : Command) (r : Reply) (q : Own) : Type 0 where
  pub p : ℕ
  pub asks : AsksFor m p c
  pub old : List ℕ
  pub new : List ℕ
  pub had : o.object p ≡ Some old
  pub long : length new ≡ length old
  pub knows : Knows m (record o { object = put o.object p (Some new) }) c r q

-- a command of the mutator m with its reply takes what it knows from o to q, on a heap whose far side is honest or may lie: by its own lines. Over an honest far side no bytes are
-- damaged; over one that may lie they may be, which is in Knows, or others be given
abbrev pub KnowsHere : Bool → ℕ → Own → Command → Reply → Own → Type 0
KnowsHere true m o c r q = Knows m o c r q × IsUndamaged r
KnowsHere false m o c r q = Knows m o c r q ⊎ IsGivenOthers m o c r q

-- the replies to the mutator's own lines, from what it knows on
abbrev pub AloneHere : Bool → ℕ → Own → List Command → List Reply → Type 0
AloneHere honest m o [] [] = Unit {0}
AloneHere honest m o (c ∷ cs) (r ∷ rs) = (q : Own) × KnowsHere honest m o c r q × AloneHere honest m q cs rs
AloneHere honest m o _ _ = ⊥

-- a word on which no view may rest, of an object with these bytes: it has their length, and is far, or near with EVAC or MOVE
abbrev pub IsWordOf : List ℕ → ℕ → Type 0
IsWordOf all word = (ds : ℕ) × IsSlow (length all) ds (read_of word)

-- why an object wasn't brought: what was so of the heap's book while its lock was held, and what the device answered to its one read, where that was asked
abbrev pub IsToldOf : HeapId → ℕ → Refusal → Type 0
IsToldOf heap p why = BookHad FarSide heap (Unbrought p why) × IsAnswered FarSide heap FarReads p why

-- what a reply tells of the heap, beside what the mutator knows: what was so of its book while its lock was held. A new object has the lowest of the mutator's pointers
-- whose cell was free; it is refused 3 where none was, 2 where one was and there was no room for it. An object isn't brought where there was no room, or there was and the
-- device answered its one read by a failure, or with another number of bytes. What 14 tells is a word of the object
abbrev pub TellsOfHeap : HeapId → ℕ → Own → Command → Reply → Type 0
TellsOfHeap heap m o (Mutator _ (New len ds)) (Pointer p) = BookHad FarSide heap (HasRoom m len p)
TellsOfHeap heap m o (Mutator _ (New len ds)) (Refused NoPointer) = BookHad FarSide heap (NoneFree m)
TellsOfHeap heap m o (Mutator _ (New len ds)) (Refused NoRoom) = BookHad FarSide heap (LacksRoom m len)
TellsOfHeap heap m o (Mutator _ (On p how)) (Refused NoRoom) = IsToldOf heap p NoRoom
TellsOfHeap heap m o (Mutator _ (On p how)) (Refused Device) = IsToldOf heap p Device
TellsOfHeap heap m o (Mutator _ (On p how)) (Refused Damaged) = IsToldOf heap p Damaged
TellsOfHeap heap m o (Mutator _ (Try p)) (Refused (Marked word)) = (all : List ℕ) × (o.object p ≡ Some all) × IsWordOf all word
TellsOfHeap heap m o c r = Unit {0}

-- the replies to the mutator's own lines, with what they tell of the heap
abbrev pub AloneOn : HeapId → ℕ → Own → List Command → List Reply → Type 0
AloneOn heap m o [] [] = Unit {0}
AloneOn heap m o (c ∷ cs) (r ∷ rs) = (q : Own) × KnowsHere heap.honest m o c r q × TellsOfHeap heap m o c r × AloneOn heap m q cs rs
AloneOn heap m o _ _ = ⊥

-- what these lines say
abbrev pub commands_of : List (ℕ × Command) → List Command
commands_of lines = map (λ (line : ℕ × Command). line.1) lines

-- ---- the law of a mutator that is alone is this one, over an honest far side
-- the lines are the mutator's own
abbrev pub AreBy : ℕ → List Command → Type 0
AreBy m [] = Unit {0}
AreBy m (c ∷ cs) = (is_by m (speaker c) ≡ true) × AreBy m cs

abbrev pub AreUndamaged : List Reply → Type 0
AreUndamaged [] = Unit {0}
AreUndamaged (r ∷ rs) = IsUndamaged r × AreUndamaged rs

-- what is allowed of a mutator that is alone is allowed here, of an honest far side where none is damaged, and of one that may lie
abbrev pub AloneIsAloneHere : Type 0
AloneIsAloneHere = (honest : Bool) (m : ℕ) (o : Own) (cs : List Command) (rs : List Reply) → AreBy m cs → (honest ≡ true → AreUndamaged rs) → Alone honest m o cs rs → AloneHere honest m o cs rs

-- and over an honest far side what is allowed here is allowed of a mutator that is alone
abbrev pub AloneHereIsAlone : Type 0
AloneHereIsAlone = (m : ℕ) (o : Own) (cs : List Command) (rs : List Reply) → AreBy m cs → AloneHere true m o cs rs → Alone true m o cs rs

-- what is allowed on a heap is allowed here
abbrev pub AloneOnIsAloneHere : Type 0
AloneOnIsAloneHere = (heap : HeapId) (m : ℕ) (o : Own) (cs : List Command) (rs : List Reply) → AloneOn heap m o cs rs → AloneHere heap.honest m o cs rs

-- an honest far side allows nothing that one doesn't which may lie
abbrev pub HonestIsAllowed : Type 0
HonestIsAllowed = (m : ℕ) (o : Own) (cs : List Command) (rs : List Reply) → AloneHere true m o cs rs → AloneHere false m o cs rs
