use Rattle.far_file.specs.Owning.{owner_in}
use Rattle.far_file.specs.Row.{entry_in}
use Rattle.far_file.proofs.Keeping.{taken}
use Rattle.far_file.proofs.sealed.SealedDevice.take.Goals as goal

pub invariant_of-self : goal.invariant_of-self
invariant_of-self g c =
    let device = c.args.self.now in
    let room = c.take.new.self in
    record { kept = taken (g.F.Storage.seen device.storage) (g.F.Storage.honest device.storage) (owner_in device.room.classes) (owner_in room.classes) device.room.extents.items room.extents.items (entry_in device.row.items) device.kept c.take.ensures.owned c.take.ensures.extents }
