-- What an access that may be made is refused for.
use Rattle.std.proofs.Common.{ℕ, Bool, List, Result, Ok, Err, inl, inr, ap, subst}
use Rattle.std.specs.Prelude.{IfErr}
use Rattle.far_word.specs.declared.refused.Refused.{Refused}
use Rattle.far_word.specs.declared.refused.Refused.TheVariants.{Damaged, Device, EpochsSpent, Memory, NoRoom}
use Rattle.far_events.specs.state.State.{State}
use Rattle.far_device.specs.declared.fault.DeviceFault.{DeviceFault}
use Rattle.far_private.specs.Causes.{IsWant, StaysAway, StaysFar, WhyFar}
use Rattle.far_private.specs.Heap.{IsOutside}
use Rattle.far_private.specs.Objects.{Objects}
use Rattle.far_private.specs.Steps.{Keeps}

-- what is refused for want of room
want_outside : (honest : Bool) (why : Refused) → IsWant why → IsOutside honest why
want_outside honest NoRoom want = tt
want_outside honest EpochsSpent want = tt
want_outside honest _ want = absurd want

module _ {D : Type 0} (reads : D → ℕ → Result (List ℕ) DeviceFault → D → Type 0) (s : State) (p : ℕ) (device : D) where
  why_outside : (why : Refused) → WhyFar D reads s p device why → IsOutside s.honest why
  why_outside Memory h = tt
  why_outside NoRoom h = tt
  why_outside EpochsSpent h = tt
  why_outside Device h = tt
  why_outside Damaged h = h.0
  why_outside _ h = absurd h

  -- a far object that doesn't come
  pub far_outside : (why : Refused) → StaysFar D reads s p device why → IsOutside s.honest why
  far_outside why h = why_outside why h.cause

  -- or a near one that can't be moved
  pub away_outside : (why : Refused) → StaysAway D reads s p device why → IsOutside s.honest why
  away_outside why (inl far) = far_outside why far
  away_outside why (inr crowded) = want_outside s.honest why crowded.is

-- what is told after calls that callers don't see holds as the heap stood before
pub outside_before : (s t : State) → Keeps s t → (why : Refused) → IsOutside t.honest why → IsOutside s.honest why
outside_before s t keeps why = subst (λ b. IsOutside b why) (ap (λ (o : Objects). o.honest) keeps.objects)

-- an answer's cause is another's
pub err_map : {A : Type 0} {P Q : Refused → Type 0} (r : Result A Refused) → ((why : Refused) → P why → Q why) → IfErr r P → IfErr r Q
err_map (Ok x) f h = tt
err_map (Err why) f h = f why h
