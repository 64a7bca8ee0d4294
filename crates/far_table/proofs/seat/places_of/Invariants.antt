use Rattle.std.proofs.Common.{◌≡◌, ◌+◌, ◌*◌, ◌≤◌, map, vec_len, vec_capacity}
use Rattle.std.specs.List.{range_with_len}
use Rattle.far_word.specs.declared.sizes.TheConstants.{CELLS}
use Rattle.far_core.specs.state.CoreState.{core_state}
use Rattle.far_table.specs.Seats.{data_begin}
use Rattle.far_table.proofs.seat.places_of.Given as goal

abbrev pub invariant-loop-cell : goal.invariant-loop-cell
invariant-loop-cell l = (l.places.items ≡ map (λ k. data_begin ((core_state l.fn.core).held (CELLS * l.fn.number + k))) (range_with_len 0 l.cell)) × (vec_len l.places ≡ l.cell) × (CELLS ≤ vec_capacity l.places)
