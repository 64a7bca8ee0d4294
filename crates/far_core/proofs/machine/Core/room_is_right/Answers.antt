use Rattle.far_events.specs.state.Memory.{state_of}
use Rattle.far_core.proofs.RoomLaws.{room_right}
use Rattle.far_core.proofs.machine.Core.room_is_right.Goals as goal

pub returns : goal.returns
returns c = room_right (state_of c.args.self.now.memory) c.args.self.now.law
