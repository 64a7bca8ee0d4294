use Rattle.std.proofs.Common.{◌≡◌, subst, true, length}
use Rattle.far_file.specs.Owning.{owner_in}
use Rattle.far_file.specs.Positions.{KeepsOutside}
use Rattle.far_file.proofs.Choosing.{chosen, has_room}
use Rattle.far_file.specs.Row.{entry_in}
use Rattle.far_file.proofs.Keeping.{put_apart}
use Rattle.far_file.proofs.sealed.SealedDevice.put.Goals as goal

pub invariant_of-self : goal.invariant_of-self
invariant_of-self g c =
    let device = c.args.self.now in
    let old = g.F.Storage.seen device.storage in
    let new = g.F.Storage.seen c.put.new.self in
    let honest = g.F.Storage.honest device.storage in
    let outside = λ (is : honest ≡ true). subst (λ at. KeepsOutside old new at (length c.args.bytes.now)) c.at.ensures (c.put.ensures.others is) in
    record {
      kept = put_apart old new honest (g.F.Storage.honest c.put.new.self) (owner_in device.room.classes) device.room.extents.items device.room.below (entry_in device.row.items) c.args.class c.args.slot (length c.args.bytes.now)
          device.room.apart chosen has_room (λ held. held.fits) c.requires.class c.requires.low c.requires.few c.requires.there c.put.ensures.honest outside c.requires.unused device.kept;
    }
