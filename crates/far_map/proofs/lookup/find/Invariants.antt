use Rattle.std.proofs.Common.{◌≡◌, ◌≢◌, ℕ, ◌<◌, ◌≤◌, true, Some}
use Rattle.far_index.specs.declared.slot.Slot.TheVariants.{Empty}
use Rattle.far_index.specs.Slots.{slot_at}
use Rattle.far_map.specs.Slots.{key_at}
use Rattle.far_map.proofs.lookup.find.Given as goal

abbrev pub invariant-loop-place : goal.invariant-loop-place
invariant-loop-place g l = record {
  far : g.O.Objects.far l.parts.worker ≡ g.O.Objects.far l.fn.parts.worker;
  near : l.parts.near ≡ l.fn.parts.near;
  none : (g.O.Objects.far l.fn.parts.worker).honest ≡ true → (j : ℕ) → l.home ≤ j → j < l.place → (slot_at l.fn.parts.near.slots j ≢ Empty) × (key_at (g.O.Objects.far l.fn.parts.worker).bytes l.fn.parts.near.slots j ≢ Some l.key);
}
