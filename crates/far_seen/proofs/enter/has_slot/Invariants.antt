use Rattle.std.proofs.Common.{◌≢◌, ℕ, ◌<◌}
use Rattle.far_index.specs.declared.slot.Slot.TheVariants.{Full}
use Rattle.far_index.specs.Slots.{slot_at}
use Rattle.far_seen.proofs.enter.has_slot.Given as goal

abbrev pub invariant-loop-at : goal.invariant-loop-at
invariant-loop-at l = (j : ℕ) → j < l.at → slot_at l.near.slots j ≢ Full l.tag l.place
