use Rattle.far_file.specs.declared.place.TheConstants.{SLOT}
use Rattle.std.proofs.Common.{◌≡◌, ◌≤◌, ◌∙◌, ap, subst, sym, Some}
use Rattle.far_file.specs.Entry.{len_in}
use Rattle.far_file.specs.Free.{KeepsOwnedBut}
use Rattle.far_file.specs.Owning.{owner_in}
use Rattle.far_file.specs.Row.{entry_in, known, AreKept}
use Rattle.far_file.specs.Where.{class_in}
use Rattle.far_file.proofs.Keeping.{set_free, set_freed}
use Rattle.far_file.proofs.Slots.{is_known}
use Rattle.far_file.proofs.sealed.SealedDevice.set.Goals as goal

pub invariant_of-self : goal.invariant_of-self
invariant_of-self g c =
    let device = c.args.self.now in
    let seen = g.F.Storage.seen device.storage in
    let honest = g.F.Storage.honest device.storage in
    let owner = owner_in device.room.classes in
    let freed = owner_in c.free.new.self.classes in
    let old = entry_in device.row.items in
    let new = entry_in c.set_entry-was.new.row.items in
    let was = c.set_entry-was.result in
    let few : len_in was ≤ SLOT = subst (λ n. n ≤ SLOT) c.len-len.ensures c.if-len-le-SLOT.true in
    let before : old c.args.id ≡ Some was = sym c.set_entry-was.ensures.was ∙ is_known was few in
    let keeps = subst (λ s. KeepsOwnedBut owner freed (class_in (len_in was)) s) c.slot.ensures (subst (λ k. KeepsOwnedBut owner freed k c.slot.result) (c.class_of.ensures.class ∙ ap class_in c.len-len.ensures) c.free.ensures.others) in
    let kept = set_freed seen honest owner freed device.room.extents.items old new c.args.id (known c.args.held) was device.kept c.requires.kept c.requires.unused c.set_entry-was.ensures.changes before keeps in
    record { kept = subst (λ extents. AreKept seen honest freed extents.items new) (sym c.free.ensures.extents) kept }

pub invariant_of-self-else-len-le-SLOT : goal.invariant_of-self-else-len-le-SLOT
invariant_of-self-else-len-le-SLOT g c =
    let device = c.args.self.now in
    let seen = g.F.Storage.seen device.storage in
    let honest = g.F.Storage.honest device.storage in
    record { kept = set_free seen honest (owner_in device.room.classes) device.room.extents.items (entry_in device.row.items) (entry_in c.set_entry-was.new.row.items) c.args.id (known c.args.held) device.kept c.requires.kept c.set_entry-was.ensures.changes }
