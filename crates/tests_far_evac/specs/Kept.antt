-- A word of an object, wherever the object lies.
use Rattle.std.specs.Prelude.{◌≡◌, ℕ, Bool, true, false, Some}
use Rattle.far_word.specs.Bytes.{packed_word}
use Rattle.far_events.specs.declared.event.Event.{Event}
use Rattle.far_events.specs.declared.event.Event.TheVariants.{ReadEpoch, Open, Pin, Close}
use Rattle.far_events.specs.state.State.{State}
use Rattle.far_core.specs.world.World.{Object}
use Rattle.far_core.specs.world.WorldOf.{world_of}

-- word i of the pointer's object is x
abbrev pub HasWord : State → ℕ → ℕ → ℕ → Type 0
HasWord s p i x = (o : Object) × ((world_of s).object p ≡ Some o) × (packed_word o.bytes i ≡ x)

-- each word of each object is what it was, and so is whether the far side is honest
pub record KeepsWords (s t : State) : Type 0 where
  pub honest : (world_of t).honest ≡ (world_of s).honest
  pub words : (p i x : ℕ) → HasWord s p i x → HasWord t p i x

-- an owner reads the epoch, opens its scope, views an object or closes its scope
abbrev pub is_of_scope : Event → Bool
is_of_scope (ReadEpoch m) = true
is_of_scope (Open m) = true
is_of_scope (Pin m p) = true
is_of_scope (Close m) = true
is_of_scope e = false
