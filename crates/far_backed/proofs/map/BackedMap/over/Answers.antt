use Rattle.far_backed.proofs.Opening.{none_held}
use Rattle.far_backed.proofs.map.BackedMap.over.Goals as goal

pub new-requires-3-clause-none : goal.new-requires-3-clause-none
new-requires-3-clause-none c = none_held c.in-Ok.worker c.in-Ok.ensures.empty

pub new-requires-3-clause-none_long : goal.new-requires-3-clause-none_long
new-requires-3-clause-none_long c = none_held c.in-Ok-new.worker c.in-Ok-new.ensures.empty
