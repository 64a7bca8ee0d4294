use Rattle.std.proofs.Common.{◌≡◌, ◌≢◌, ℕ, ◌<◌, ◌≤◌, true, Some}
use Rattle.far_index.specs.declared.slot.Slot.TheVariants.{Empty}
use Rattle.far_index.specs.Slots.{slot_at}
use Rattle.far_seen.specs.Listed.{all_of}
use Rattle.far_seen.specs.Parts.{line_at}
use Rattle.far_seen.proofs.enter.find_line.Given as goal

abbrev pub invariant-loop-at : goal.invariant-loop-at
invariant-loop-at g l = record {
  far : g.O.Objects.far l.store.worker ≡ g.O.Objects.far l.fn.store.worker;
  longs : l.store.longs ≡ l.fn.store.longs;
  none : (g.O.Objects.far l.fn.store.worker).honest ≡ true → (j : ℕ) → l.home ≤ j → j < l.at → (slot_at l.near.slots j ≢ Empty)
      × (line_at (all_of (g.O.Objects.far l.fn.store.worker) l.fn.store.longs.items l.numbers).bytes l.near.slots j ≢ Some l.line);
}
