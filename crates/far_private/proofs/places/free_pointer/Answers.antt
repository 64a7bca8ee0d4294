use Rattle.far_private.specs.Objects.{state_in}
use Rattle.far_private.proofs.Placing.{free_told}
use Rattle.far_private.proofs.places.free_pointer.Goals as goal

pub returns : goal.returns
returns g c = free_told (state_in c.args.evac.now) c.args.free.now c.args.evac.now.book.near.core.law c.requires.kept c.lowest.result c.lowest.ensures
