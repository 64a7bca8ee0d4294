-- What the world does at an event with its reply.
use Rattle.far_events.specs.declared.event.Event.{Event}
use Rattle.far_events.specs.declared.event.Reply.{Reply}
use Rattle.far_core.specs.world.Changes.{StepOf}
use Rattle.far_events.specs.events.Step.{change_of}
use Rattle.far_core.specs.world.World.{World}

abbrev pub Happens : World → Event → Reply → World → Type 0
Happens w e r v = StepOf (change_of e r) w v
