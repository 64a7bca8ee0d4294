-- What it is to send an object's words to the device, which precedes that its cell says far.
use Rattle.std.specs.Prelude.{◌≡◌, ◌⊎◌, ℕ, Bool, Option, Some, List, Result, IfErr, OnOk}
use Rattle.far_word.specs.declared.pointer.Place.{Place}
use Rattle.far_word.specs.declared.refused.Refused.{Refused}
use Rattle.far_word.specs.declared.refused.Refused.TheVariants.{Memory, Device}
use Rattle.far_word.specs.Bytes.{bytes_of}
use Rattle.far_events.specs.declared.event.Event.{Event}
use Rattle.far_events.specs.declared.event.Reply.{Reply}
use Rattle.far_events.specs.events.Copies.{data_at}
use Rattle.far_events.specs.state.Law.{IsStored}
use Rattle.far_events.specs.state.State.{State}
use Rattle.far_device.specs.declared.fault.DeviceFault.{DeviceFault}
use Rattle.far_device.specs.Following.{Follows, other_than}
use Rattle.far_hand.specs.Came.{Came, only}
use Rattle.far_book.specs.book.Asking.{answer_of}
use Rattle.far_book.specs.book.BookOf.{BookOf}
use Rattle.far_book.specs.book.Dealing.{Leaves, is_failure}
use Rattle.far_book.specs.book.Only.{Reads}

-- from one book to another p's words were read where they lie, and one write of its bytes was asked of the device, which holds them then or refused. Nothing else has changed
pub record Sends {N D : Type 0} (still : Type 0) (view : N → State) (makes : N → Event → Reply → N → Type 0) (writes : D → ℕ → List ℕ → Result (Unit {0}) DeviceFault → D → Type 0)
    (contents : D → ℕ → Option (List ℕ)) (is_honest : D → Bool) (faults : D → ℕ) (fails_at_most : D → ℕ → Type 0) (old new : BookOf N D) (p len : ℕ) (place : Place)
    (result : Result (Unit {0}) Refused) : Type 0 where
  pub kept : Leaves (view old.near) (view new.near)
  pub exact : still → view new.near ≡ view old.near
  pub reads : Came (only (Reads place.log) makes) old.near new.near
  pub words : IsStored (data_at (view new.near).word place) len
  pub held : OnOk result (contents new.device p ≡ Some (bytes_of (data_at (view new.near).word place) len))
  pub refused : IfErr result (λ why. (why ≡ Memory) ⊎ (why ≡ Device))
  pub called : writes old.device p (bytes_of (data_at (view new.near).word place) len) (answer_of result) new.device
  pub order : new.order ≡ old.order
  pub follows : Follows contents is_honest faults fails_at_most (other_than p) (is_failure result) old.device new.device
