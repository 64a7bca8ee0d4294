-- What a user is told of a heap without room.
use Rattle.std.proofs.Common.{◌≡◌, ℕ, ◌≤◌, true, Option, Some, None, List, Result, Ok, Err, refl, sym, ap, subst, ◌∙◌}
use Rattle.std.specs.Prelude.{IfErr}
use Rattle.far_word.specs.declared.refused.Refused.{Refused}
use Rattle.far_word.specs.declared.refused.Refused.TheVariants.{EpochsSpent, NoRoom}
use Rattle.far_events.specs.state.State.{State}
use Rattle.far_device.specs.declared.fault.DeviceFault.{DeviceFault}
use Rattle.far_private.specs.Causes.{IsNotTaken, IsStuck, IsWant}
use Rattle.far_private.specs.Heap.{HasFree, Heap, IsWhyNoObject, is_length, object}
use Rattle.far_private.specs.HeapOf.{heap_of}
use Rattle.far_private.specs.Objects.{Objects, objects_of}
use Rattle.far_private.proofs.HeapTies.{EndsThere, object_so}

module _ {D : Type 0} (writes : D → ℕ → List ℕ → Result (Unit {0}) DeviceFault → D → Type 0) (s : State) (v : Heap) (is : heap_of (objects_of s) ≡ v) (ends : EndsThere (objects_of s)) where
  taken_so : IsNotTaken D writes (objects_of s).object → IsNotTaken D writes (object v)
  taken_so x = record { pointer = x.pointer; is = x.is; found = object_so (objects_of s) v is ends x.pointer ∙ x.found; bytes = x.bytes; long = x.long; own = x.own; before = x.before; fault = x.fault; after = x.after; refused = x.refused }

  stuck_so : (why : Refused) → IsStuck D writes s why → why ≡ NoRoom → 3 ≤ v.logs → IsNotTaken D writes (object v)
  stuck_so why stuck e many = taken_so (subst (IsStuck D writes s) e stuck (subst (λ (h : Heap). 3 ≤ h.logs) (sym is) many))

  pub room_so : {A : Type 0} (r : Result A Refused) → IfErr r (λ why. IsStuck D writes s why) → r ≡ Err NoRoom → 3 ≤ v.logs → IsNotTaken D writes (object v)
  room_so (Ok x) stuck e = absurd cc
  room_so (Err why) stuck e = let same : why ≡ NoRoom = cc in stuck_so why stuck same

-- an object isn't made for want of room where a pointer is free
pub want_why : (v : Heap) (len : ℕ) → is_length len ≡ true → HasFree v → (why : Refused) → IsWant why → IsWhyNoObject v len why
want_why v len long free NoRoom want = (long, free)
want_why v len long free EpochsSpent want = (long, free)
want_why v len long free _ want = absurd want
