use Rattle.std.proofs.Common.{◌≡◌, ◌≤◌, length, take}
use Rattle.far_policy.specs.declared.chosen.TheConstants.{MOST_CHOSEN}
use Rattle.far_policy.specs.Logs.{logs_of}
use Rattle.far_policy.proofs.oldest.take_first.Given as goal

abbrev pub invariant-loop-row : goal.invariant-loop-row
invariant-loop-row l = (l.out ≡ logs_of (take l.row-index l.row-items)) × (length l.row-items ≤ MOST_CHOSEN)
