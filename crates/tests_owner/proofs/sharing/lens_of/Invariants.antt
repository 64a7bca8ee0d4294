use Rattle.std.proofs.Common.{◌≡◌, ◌≤◌, map, vec_len, vec_capacity}
use Rattle.std.specs.List.{range_with_len}
use Rattle.far_word.specs.declared.sizes.TheConstants.{CELLS}
use Rattle.far_core.specs.state.CoreState.{core_state}
use Rattle.tests_owner.specs.Used.{used_len}
use Rattle.tests_owner.proofs.sharing.lens_of.Given as goal

abbrev pub invariant-loop-pointer : goal.invariant-loop-pointer
invariant-loop-pointer l = (l.lens.items ≡ map (used_len (core_state l.core)) (range_with_len 0 l.pointer)) × (vec_len l.lens ≡ l.pointer) × (CELLS ≤ vec_capacity l.lens)
