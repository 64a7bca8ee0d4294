use Rattle.far_file.specs.Owning.{owner_in}
use Rattle.far_file.specs.Row.{entry_in}
use Rattle.far_file.proofs.Keeping.{entries_kept}
use Rattle.far_file.proofs.sealed.SealedDevice.reach.Goals as goal

pub invariant_of-self : goal.invariant_of-self
invariant_of-self g c =
    let device = c.args.self.now in
    record { kept = entries_kept (g.F.Storage.seen device.storage) (g.F.Storage.honest device.storage) (owner_in device.room.classes) device.room.extents.items (entry_in device.row.items) (entry_in c.lengthen.new.row.items) device.kept c.lengthen.ensures.same }
