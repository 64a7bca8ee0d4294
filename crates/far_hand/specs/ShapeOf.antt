-- How large a state is, and its epoch.
use Rattle.far_events.specs.declared.shape.Shape.{Shape}
use Rattle.far_events.specs.state.State.{State}

abbrev pub shape_of : State → Shape
shape_of s = record { logs = s.logs; mutators = s.mutators; epoch = s.epoch }
