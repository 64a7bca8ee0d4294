use Rattle.std.proofs.Common.{◌≡◌, ◌≤◌}
use Rattle.far_word.specs.declared.sizes.TheConstants.{JOBS}
use Rattle.far_table.specs.CopySeats.{MissedFirst}
use Rattle.far_table.proofs.copy_seat.CopySeat.claim.Given as goal

abbrev pub invariant-loop-number : goal.invariant-loop-number
invariant-loop-number g l = (l.self.table ≡ l.fn.self.table) × (l.number ≤ JOBS) × MissedFirst l.number l.fn.self.view l.self.view
