use Rattle.std.proofs.Common.{◌≡◌, ◌≤◌, map, vec_len, vec_capacity}
use Rattle.std.specs.List.{range_with_len}
use Rattle.far_core.specs.state.CoreState.{core_state}
use Rattle.tests_far_table.specs.Fits.{known_of}
use Rattle.tests_far_table.proofs.tests.all_known.Given as goal

abbrev pub invariant-loop-number : goal.invariant-loop-number
invariant-loop-number l = (l.all.items ≡ map (known_of (core_state l.fn.core)) (range_with_len 0 l.number)) × (vec_len l.all ≡ l.number) × (l.mutators ≤ vec_capacity l.all) × (l.mutators ≤ 8)
