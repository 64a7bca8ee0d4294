use Rattle.std.proofs.Common.{◌≡◌, ◌-◌, ◌≤◌, vec_len, vec_capacity}
use Rattle.std.specs.Arc.{arc_value}
use Rattle.far_word.specs.declared.sizes.TheConstants.{MOST_COPIERS}
use Rattle.far_core.specs.state.CoreState.{core_state}
use Rattle.far_table.specs.View.{Book}
use Rattle.far_table.specs.First.{first_copier, unseated}
use Rattle.far_table.specs.Stands.{CopierSeats, IsDealer}
use Rattle.far_table.proofs.start.deal_copiers.Given as goal

abbrev pub invariant-loop-number : goal.invariant-loop-number
invariant-loop-number g l =
    IsDealer l.seat (arc_value l.table).shared.table_id (core_state l.fn.plan.core).logs
    × (l.seat.me.0 ≡ Book (unseated (core_state l.fn.plan.core) (g.D.Device.honest l.fn.plan.device.value) l.number (MOST_COPIERS - l.number)))
    × (l.copiers.items ≡ CopierSeats (arc_value l.table).shared.table_id (first_copier (core_state l.fn.plan.core)) l.number)
    × (vec_len l.copiers ≡ l.number) × (MOST_COPIERS ≤ vec_capacity l.copiers)
