use Rattle.std.proofs.Common.{subst, sym}
use Rattle.far_file.specs.Owning.{owner_in}
use Rattle.far_file.specs.Row.{entry_in, AreKept}
use Rattle.far_file.proofs.Keeping.{released}
use Rattle.far_file.proofs.sealed.SealedDevice.release.Goals as goal

pub invariant_of-self : goal.invariant_of-self
invariant_of-self g c =
    let device = c.args.self.now in
    let seen = g.F.Storage.seen device.storage in
    let honest = g.F.Storage.honest device.storage in
    let freed = owner_in c.free.new.self.classes in
    let entry = entry_in device.row.items in
    record {
      kept = subst (λ extents. AreKept seen honest freed extents.items entry) (sym c.free.ensures.extents)
          (released seen honest (owner_in device.room.classes) freed device.room.extents.items entry c.args.class c.args.slot device.kept c.requires.unused c.free.ensures.others);
    }
