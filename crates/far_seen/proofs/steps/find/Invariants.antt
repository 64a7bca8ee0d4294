use Rattle.std.proofs.Common.{◌≡◌, ◌≢◌, ℕ, ◌<◌, ◌≤◌, true, Some}
use Rattle.far_index.specs.declared.slot.Slot.TheVariants.{Empty}
use Rattle.far_index.specs.Slots.{slot_at}
use Rattle.far_seen.specs.Parts.{line_at}
use Rattle.far_seen.specs.Stored.{with_longs}
use Rattle.far_seen.proofs.steps.find.Given as goal

abbrev pub invariant-loop-place : goal.invariant-loop-place
invariant-loop-place g l = record {
  far : g.O.Objects.far l.parts.store.worker ≡ g.O.Objects.far l.fn.parts.store.worker;
  longs : l.parts.store.longs ≡ l.fn.parts.store.longs;
  near : l.parts.near ≡ l.fn.parts.near;
  none : (g.O.Objects.far l.fn.parts.store.worker).honest ≡ true → (j : ℕ) → l.home ≤ j → j < l.place → (slot_at l.fn.parts.near.slots j ≢ Empty)
      × (line_at (with_longs (g.O.Objects.far l.fn.parts.store.worker) l.fn.parts.store.longs.items).bytes l.fn.parts.near.slots j ≢ Some l.line);
}
