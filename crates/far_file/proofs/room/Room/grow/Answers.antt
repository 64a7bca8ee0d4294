use Rattle.far_file.proofs.Extending.{alike}
use Rattle.far_file.proofs.room.Room.grow.Goals as goal

pub invariant_of-self : goal.invariant_of-self
invariant_of-self c = record { apart = alike c.args.self.now.extents.items c.lengthen.new.extents.items c.args.self.now.below c.lengthen.ensures.same c.args.self.now.apart }
