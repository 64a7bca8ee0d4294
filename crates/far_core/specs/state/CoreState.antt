-- The state of a core.
use Rattle.far_core.specs.declared.machine.Core.{Core}
use Rattle.far_events.specs.state.Memory.{state_of}
use Rattle.far_events.specs.state.State.{State}

abbrev pub core_state : Core → State
core_state c = state_of c.memory
