use Rattle.std.proofs.Common.{◌≡◌, ◌-◌, ◌≤◌, vec_len, vec_capacity}
use Rattle.std.specs.Arc.{arc_value}
use Rattle.far_core.specs.state.CoreState.{core_state}
use Rattle.far_table.specs.View.{Book}
use Rattle.far_table.specs.First.{first_owner, waiting}
use Rattle.far_table.specs.Stands.{IsDealer, Seats}
use Rattle.far_table.proofs.start.deal_all.Given as goal

abbrev pub invariant-loop-number : goal.invariant-loop-number
invariant-loop-number g l =
    IsDealer l.seat (arc_value l.table).shared.table_id (core_state l.fn.plan.core).logs
    × (l.seat.me.0 ≡ Book (waiting (core_state l.fn.plan.core) (g.D.Device.honest l.fn.plan.device.value) l.number ((core_state l.fn.plan.core).mutators - l.number)))
    × (l.owners.items ≡ Seats (arc_value l.table).shared.table_id (first_owner (core_state l.fn.plan.core) (g.D.Device.honest l.fn.plan.device.value)) l.number)
    × (vec_len l.owners ≡ l.number) × (l.mutators ≤ vec_capacity l.owners)
