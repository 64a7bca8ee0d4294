use Rattle.std.proofs.Common.{◌∙◌, sym}
use Rattle.far_events.proofs.memory.Memory.held.Goals as goal

pub held_place-requires : goal.held_place-requires
held_place-requires c = sym c.is_held.ensures ∙ c.if-not-is_held.false

pub returns : goal.returns
returns c = sym c.held_place.ensures
