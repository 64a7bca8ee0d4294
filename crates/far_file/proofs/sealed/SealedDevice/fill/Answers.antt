use Rattle.std.proofs.Common.{◌≡◌, ◌∙◌, ◌<◌, ◌≤◌, ap, subst, sym, true, false, length, Some}
use Rattle.std.proofs.lemmas.Bool.{false≢true}
use Rattle.std.specs.Vec.{with_items}
use Rattle.far_file.specs.Entry.{len_in, slot_in}
use Rattle.far_file.specs.Positions.{HoldsAt}
use Rattle.far_file.specs.Row.{bytes_in, bytes_of}
use Rattle.far_file.specs.declared.place.TheConstants.{SLOT, SLOTS}
use Rattle.far_file.specs.Where.{class_in, slot_at}
use Rattle.far_file.proofs.Fetched.{came_back, is_false, known_of, of_found, refilled}
use Rattle.far_file.proofs.sealed.SealedDevice.fill.Given.{Over}
use Rattle.far_file.proofs.sealed.SealedDevice.fill.Goals.{After-fits, After-get}
use Rattle.far_file.proofs.sealed.SealedDevice.fill.Goals as goal

pub class_of-requires : goal.class_of-requires
class_of-requires g c = subst (λ n. n ≤ SLOT) (sym c.len.ensures) (c.args.self.now.kept c.args.id c.in-Some.held.now c.in-Some.ensures.some).few

pub at-at-requires-clause-slot : goal.at-at-requires-clause-slot
at-at-requires-clause-slot g c = subst (λ s. s < SLOTS) (sym c.slot.ensures) (c.args.self.now.kept c.args.id c.in-Some.held.now c.in-Some.ensures.some).low

-- what is under the key
under : (g : Over) (c : After-get g) → bytes_in c.args.self.now.row.items c.args.id ≡ Some c.in-Some.held.now.was.value.items
under g c = ap (λ entry. bytes_of entry) c.in-Some.ensures.some

-- storage that is honest gave what is under the key
by_honest : (g : Over) (c : After-fits g) → g.F.Storage.honest c.args.self.now.storage ≡ true → (with_items c.args.buffer.now c.get.new.buffer).items ≡ c.in-Some.held.now.was.value.items
by_honest g c honest =
    let device = c.args.self.now in
    let held = c.in-Some.held.now in
    let seen = g.F.Storage.seen device.storage in
    let in_it : bytes_in device.row.items c.args.id ≡ Some held.was.value.items = ap (λ entry. bytes_of entry) c.in-Some.ensures.some in
    let long = known_of (bytes_in device.row.items c.args.id) held.was.value.items (λ stored. length stored ≡ c.args.buffer.now.len) in_it c.requires in
    let many = c.get.auto.buffer ∙ c.as_mut_slice.ensures.len in
    let at : slot_at device.room.extents.items (class_in (len_in held)) (slot_in held) ≡ c.at-at.result =
    ap (λ n. slot_at device.room.extents.items (class_in n) (slot_in held)) (sym c.len.ensures) ∙ ap (λ k. slot_at device.room.extents.items k (slot_in held)) (sym c.class_of.ensures.class)
    ∙ ap (λ s. slot_at device.room.extents.items c.class_of.result s) (sym c.slot.ensures) ∙ sym c.at-at.ensures in
    refilled c.args.buffer.now.len c.args.buffer.now.items c.get.new.buffer many
    ∙ came_back seen c.at-at.result c.get.new.buffer held.was.value.items (many ∙ sym long) (c.in_default-get.ensures.got honest)
    (subst (λ k. HoldsAt seen k held.was.value.items) at ((device.kept c.args.id held c.in-Some.ensures.some).stands honest))

pub returns-then-fits-clause-by_storage : goal.returns-then-fits-clause-by_storage
returns-then-fits-clause-by_storage g c = λ honest. of_found (bytes_in c.args.self.now.row.items c.args.id) c.in-Some.held.now.was.value.items (λ stored. (with_items c.args.buffer.now c.get.new.buffer).items ≡ stored)
    (under g (goal.at.returns-then-fits-clause-by_storage g c).After-get) (by_honest g (goal.at.returns-then-fits-clause-by_storage g c).After-fits honest)

pub returns-else-fits-clause-why : goal.returns-else-fits-clause-why
returns-else-fits-clause-why g c =
    let honest = g.F.Storage.honest c.args.self.now.storage in
    let came = by_honest g (goal.at.returns-else-fits-clause-why g c).After-fits in
    of_found (bytes_in c.args.self.now.row.items c.args.id) c.in-Some.held.now.was.value.items (λ stored. honest ≡ false) (under g (goal.at.returns-else-fits-clause-why g c).After-get)
    (is_false honest (λ (is : honest ≡ true). false≢true (c.if-fits.ensures.own (c.in-Some.held.now.sealed (c.args.self.now.kept c.args.id c.in-Some.held.now c.in-Some.ensures.some).few ∙ ap g.L.Seal.digest (sym (c.as_slice.ensures.value ∙ came is))))))
