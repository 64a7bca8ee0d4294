use Rattle.std.proofs.Common.{◌≡◌, true, take, vec_len, vec_capacity, length, List}
use Rattle.std.specs.Prelude.{map}
use Rattle.far_core.specs.state.Kept.{keeps_stored, tells_all}
use Rattle.far_core.specs.state.CoreState.{core_state}
use Rattle.far_core.specs.world.Runs.{Leads, Runs}
use Rattle.far_events.specs.state.State.{State}
use Rattle.far_core.specs.world.WorldOf.{world_of}
use Rattle.far_core.proofs.machine.Core.run.Given as goal

abbrev pub invariant-loop-event : goal.invariant-loop-event
invariant-loop-event l = record {
  room : vec_capacity l.replies ≡ length l.events;
  count : vec_len l.replies ≡ l.event-index;
  kept : keeps_stored l.self ≡ keeps_stored l.fn.self;
  leads : tells_all l.fn.self l.events ≡ true → (states : List State) × Leads (core_state l.fn.self) (take l.event-index l.events) l.replies.items states (core_state l.self)
      × Runs (world_of (core_state l.fn.self)) (take l.event-index l.events) l.replies.items (map world_of states);
}
