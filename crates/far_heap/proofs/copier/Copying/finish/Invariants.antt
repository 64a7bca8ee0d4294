use Rattle.std.proofs.Common.{◌≡◌, ◌-◌, ℕ}
use Rattle.far_table.specs.CopySeats.{IsJobOf}
use Rattle.far_heap.specs.Copiers.{CopiedOn, copied_by}
use Rattle.far_heap.proofs.copier.Copying.finish.Given as goal

-- so many words were copied
abbrev pub invariant-loop : goal.invariant-loop
invariant-loop g l =
    (l.seat.table ≡ l.fn.self.seat.table) × IsJobOf l.job l.seat.view
    × ((n : ℕ) × (l.job ≡ copied_by n l.fn.self.job) × CopiedOn n l.fn.self.job l.fn.self.seat.view l.seat.view)

abbrev pub decreases-loop : goal.decreases-loop
decreases-loop g l = l.job.words - l.job.copied
