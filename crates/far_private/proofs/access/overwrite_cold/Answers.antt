use Rattle.std.proofs.Common.{◌∙◌}
use Rattle.far_private.specs.Objects.{state_in}
use Rattle.far_private.proofs.Keeping.{settled_on}
use Rattle.far_private.proofs.access.overwrite_cold.Goals as goal

pub returns : goal.returns
returns g c = record { settled = settled_on (state_in c.overwrite.new.evac) (state_in c.cool.new.evac) c.overwrite.ensures.settled c.cool.ensures.keeps; written = c.cool.ensures.keeps.objects ∙ c.overwrite.ensures.written; idle = λ e. c.cool.ensures.idle (c.overwrite.ensures.idle e) }
