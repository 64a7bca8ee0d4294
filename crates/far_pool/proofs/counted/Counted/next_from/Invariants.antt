use Rattle.std.proofs.Common.{◌≡◌, ◌<◌, ◌≤◌, ℕ, None}
use Rattle.std.specs.Prelude.{slice_index_or}
use Rattle.far_pool.proofs.counted.Counted.next_from.Given as goal

abbrev pub invariant-loop-pointer : goal.invariant-loop-pointer
invariant-loop-pointer g l = (l.from ≤ l.pointer) × ((q : ℕ) → l.from ≤ q → q < l.pointer → slice_index_or l.self.objects q None ≡ None)
