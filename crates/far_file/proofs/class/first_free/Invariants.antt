use Rattle.std.proofs.Common.{◌<◌, ℕ}
use Rattle.std.specs.List.{slice_get}
use Rattle.far_file.specs.Free.{IsOwned}
use Rattle.far_file.proofs.class.first_free.Given as goal

abbrev pub invariant-loop-slot : goal.invariant-loop-slot
invariant-loop-slot l = (s : ℕ) → s < l.slot → IsOwned (slice_get l.owners s)
