use Rattle.far_events.specs.state.Memory.{state_of}
use Rattle.far_events.proofs.NewObjects.{object_made}
use Rattle.far_events.proofs.memory.Memory.place_with.Goals as goal

pub returns : goal.returns
returns c = object_made (state_of c.args.self.now) (state_of c.write_object.new.self) (state_of c.take.new.self) (state_of c.use_cell.new.self) c.args.head.pointer c.args.head.len c.args.head.ds c.args.place c.args.bytes.now _
    c.write_object.ensures c.made_word-word.ensures c.take.ensures c.use_cell.ensures
