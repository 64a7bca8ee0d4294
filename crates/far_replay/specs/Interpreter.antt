-- The words that the interpreter's own contracts need.
use Rattle.std.specs.Prelude.{◌≡◌, ℕ, ◌+◌, ◌/◌, ◌<◌, ◌≤◌, Bool, false, true, Option, Some, None, IsSome, Result, Ok, Err, IfOk, IfErr}
use Rattle.far_word.specs.declared.refused.Refused.{Refused as Refusal}
use Rattle.far_word.specs.declared.mark.Marks.{Marks}
use Rattle.far_word.specs.declared.sizes.TheConstants.{CELLS, LONGEST}
use Rattle.far_word.specs.Bytes.{bytes_of}
use Rattle.far_word.specs.declared.pointer.PtrWord.TheVariants.{Far}
use Rattle.far_word.specs.Pointer.{read_of}
use Rattle.far_events.specs.state.State.{State}
use Rattle.far_evac.specs.EvacOf.{EvacOf}
use Rattle.far_evac.specs.declared.answers.EvacFault.{EvacFault}
use Rattle.far_hand.specs.declared.plain.Plain.{Plain}
use Rattle.far_events.specs.events.Step.{data_len, is_opened}
use Rattle.far_replay.specs.declared.turn.Access.{Access}
use Rattle.far_replay.specs.Outcome.{reply_by}
use Rattle.far_reply.specs.Reply.{Reply}
use Rattle.far_replay.specs.declared.outcome.Outcome.{Outcome}
use Rattle.far_replay.specs.declared.outcome.Scratch.{Scratch}
use Rattle.far_word.specs.declared.refused.Refused.TheVariants.{Damaged, Device, Memory}
use Rattle.far_alone.specs.Dereference.{RefusesBringing, asked_for, come, comes_to, dereferenced, has_no_room, order_come, order_dereferenced, says_near}
use Rattle.far_alone.specs.Effects.{with_view}
use Rattle.far_events.specs.state.Law.{StoresBack}
use Rattle.far_replay.specs.Commanded.{KeepsFar, Outside, Serves, Refuses, Gives, Lacks}
use Rattle.far_replay.specs.Far.{FarBytes, HoldsSame, IsTold, far_in}
use Rattle.far_replay.specs.Moment.{FarSide, KeepsRound, state_in, with_stored}
use Rattle.far_replay.specs.Spent.{SpentBy}
use Rattle.far_alone.specs.Objects.{object_len}

-- why a call was refused, if it was
abbrev pub refused_in : {X : Type 0} → Result X Refusal → Option Refusal
refused_in (Ok x) = None
refused_in (Err why) = Some why

-- an access is of the numbers that were said, all in range
pub record IsAccess (s : State) (mutator pointer from count : ℕ) (a : Access) : Type 0 where
  pub owner : a.owner ≡ mutator
  pub pointed : a.pointer ≡ pointer
  pub starts : a.from ≡ from
  pub counts : a.count ≡ count
  pub some : 0 < count
  pub inside : from + count ≤ object_len s pointer
  pub most : object_len s pointer ≤ LONGEST
  pub own : pointer / CELLS ≡ mutator
  pub used : s.used pointer ≡ true
  pub opened : is_opened s mutator ≡ true

-- the range of an access lies in an object that its owner holds
pub record IsViewed (s : State) (a : Access) : Type 0 where
  pub own : a.pointer / CELLS ≡ a.owner
  pub held : IsSome (s.held a.pointer)
  pub some : 0 < a.count
  pub inside : a.from + a.count ≤ data_len s a.pointer
  pub most : a.from + a.count ≤ LONGEST

-- the outcome tells the reply, whatever stands in the buffers
abbrev pub StandsFor : Outcome → Reply → Type 0
StandsFor outcome reply = (scratch : Scratch) → reply_by scratch outcome ≡ reply

-- ---- the words of an object that is brought
-- those that the outside gave of it: what was stored, or others
abbrev pub words_by : Outside → State → ℕ → ℕ → ℕ
words_by Serves s p = s.stored p
words_by (Refuses why turns objects) s p = s.stored p
words_by (Gives row inverts) s p = row
words_by (Lacks turns objects) s p = s.stored p

-- so a device told of a far object, by what it holds under its key
abbrev pub TellsOf : Bool → (ℕ → ℕ) → State → FarBytes → ℕ → Type 0
TellsOf inverts row s held p = (len ds : ℕ) (marks : Marks) → read_of (s.cell p) ≡ Some (Far len ds marks) → IsTold inverts (held p) (bytes_of row len)

-- of an object that isn't near those that were stored only where the far side is honest; others only of a far object, as many as it has, where the far side isn't honest, and they are what the
-- device told of what it holds
abbrev pub MayGive : Outside → State → FarBytes → ℕ → Type 0
MayGive Serves s held p = says_near (read_of (s.cell p)) ≡ false → s.honest ≡ true
MayGive (Refuses why turns objects) s held p = ⊥
MayGive (Lacks turns objects) s held p = ⊥
MayGive (Gives row inverts) s held p = (s.honest ≡ false) × (says_near (read_of (s.cell p)) ≡ false) × StoresBack row (read_of (s.cell p)) × TellsOf inverts row s held p

-- the state as if those were stored
abbrev pub as_given : Outside → State → ℕ → State → State
as_given o s p t = with_stored t p (words_by o s p)

-- an object that its owner asks for has come to where a view may rest, with the words that were given; what is stored has stayed
pub record Comes (old new : EvacOf Plain FarSide) (m p : ℕ) (o : Outside) : Type 0 where
  pub given : MayGive o (state_in old) (far_in old) p
  pub state : as_given o (state_in old) p (state_in new) ≡ come (asked_for (as_given o (state_in old) p (state_in old)) m p) p
  pub room : IsSome (comes_to (asked_for (as_given o (state_in old) p (state_in old)) m p) p)
  pub order : new.book.order ≡ order_come (asked_for (as_given o (state_in old) p (state_in old)) m p) old.book.order p
  pub stored : (state_in new).stored ≡ (state_in old).stored
  pub spent : SpentBy o old new

-- what the outside made of a command that it refused so
abbrev pub refuser : Refusal → Outside
refuser Device = Refuses Device 0 0
refuser Damaged = Refuses Damaged 0 0
refuser why = Serves

-- an object that its owner asks for comes so; or it is refused a place, or refused by what is outside the heap, and nothing has changed but that it was asked for
pub record Brings (old new : EvacOf Plain FarSide) (m p : ℕ) (result : Result (Unit {0}) Refusal) : Type 0 where
  pub comes : IfOk result (λ _. (o : Outside) × Comes old new m p o)
  pub refused : IfErr result (λ why. RefusesBringing (asked_for (state_in old) m p) p why (state_in new))
  pub shut : IfErr result (λ _. new.book.order ≡ old.book.order)
  pub round : KeepsRound old new
  pub spent : IfErr result (λ why. SpentBy (refuser why) old new)
  pub same : HoldsSame old new

-- it is dereferenced so, with the words that were given
pub record Dereferences (old new : EvacOf Plain FarSide) (m p : ℕ) (o : Outside) : Type 0 where
  pub given : MayGive o (state_in old) (far_in old) p
  pub state : as_given o (state_in old) p (state_in new) ≡ dereferenced (as_given o (state_in old) p (state_in old)) m p
  pub room : has_no_room (as_given o (state_in old) p (state_in old)) m p ≡ false
  pub order : new.book.order ≡ order_dereferenced (as_given o (state_in old) p (state_in old)) old.book.order m p
  pub stored : (state_in new).stored ≡ (state_in old).stored
  pub spent : SpentBy o old new

-- from a pin on that gave no view
pub record Views (old new : EvacOf Plain FarSide) (m p : ℕ) (o : Outside) : Type 0 where
  pub given : MayGive o (state_in old) (far_in old) p
  pub state : as_given o (state_in old) p (state_in new) ≡ with_view (come (asked_for (as_given o (state_in old) p (state_in old)) m p) p) p
  pub room : IsSome (comes_to (asked_for (as_given o (state_in old) p (state_in old)) m p) p)
  pub order : new.book.order ≡ order_come (asked_for (as_given o (state_in old) p (state_in old)) m p) old.book.order p
  pub stored : (state_in new).stored ≡ (state_in old).stored
  pub spent : SpentBy o old new

-- it comes near and is viewed there; or it is refused as above, and then a reason that far objects alone have is of a far one
pub record BringsToView (old new : EvacOf Plain FarSide) (m p : ℕ) (result : Result (Unit {0}) Refusal) : Type 0 where
  pub done : IfOk result (λ _. (o : Outside) × Views old new m p o)
  pub refused : IfErr result (λ why. RefusesBringing (asked_for (state_in old) m p) p why (state_in new))
  pub shut : IfErr result (λ _. new.book.order ≡ old.book.order)
  pub round : KeepsRound old new
  pub spent : IfErr result (λ why. SpentBy (refuser why) old new)
  pub same : HoldsSame old new
  pub far : IfErr result (λ why. KeepsFar why → says_near (read_of ((state_in old).cell p)) ≡ false)

-- what the outside made of a step that the evacuator answered so
abbrev pub stopper_of : Refusal → Outside
stopper_of Device = Refuses Device 0 0
stopper_of Memory = Lacks 0 0
stopper_of why = Serves

abbrev pub stopper : {A : Type 0} → Result A EvacFault → Outside
stopper (Ok x) = Serves
stopper (Err fault) = stopper_of fault.why
