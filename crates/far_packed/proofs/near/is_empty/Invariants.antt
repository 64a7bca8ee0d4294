use Rattle.std.proofs.Common.{◌≡◌, ℕ, ◌<◌, ◌≤◌, ◌*◌}
use Rattle.far_packed.specs.declared.near.TheConstants.{SLOTS}
use Rattle.far_packed.specs.Blocks.{len_of, table}
use Rattle.far_packed.proofs.near.is_empty.Given as goal

abbrev pub invariant-loop-at : goal.invariant-loop-at
invariant-loop-at l = (h : ℕ) → l.block * SLOTS ≤ h → h < l.at → len_of (table l.near) h ≡ 0
