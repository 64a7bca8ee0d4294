use Rattle.std.proofs.Common.{length, refl, ◌∙◌, ap, get_or-set_same, get_or-set_other, length-set, arith}
use Rattle.far_objects.specs.Far.{Far}
use Rattle.far_index.specs.declared.slot.Slot.TheVariants.{Empty, Full}
use Rattle.far_index.specs.Slots.{slot_at}
use Rattle.far_index.specs.Grown.{Placed}
use Rattle.far_seen.specs.Parts.{plain}
use Rattle.far_seen.specs.Stored.{Keeps, with_longs}
use Rattle.far_seen.proofs.Longs.{all_before, as_was, keeps_before}
use Rattle.far_seen.proofs.Outcomes.{Same, same_sound, same_lines, added_stamps, added_sound, added_set}
use Rattle.far_seen.proofs.steps.add.Given.{Over}
use Rattle.far_seen.proofs.steps.add.Goals.{After-find_place, After-set}
use Rattle.far_seen.proofs.steps.add.Goals as goal

-- all that stands for lines, before
abbrev was : (g : Over) (c : After-find_place g) → Far
was g c = with_longs (g.O.Objects.far c.args.parts.now.store.worker) c.args.parts.now.store.longs.items

-- the index has perhaps a slot more
same : (g : Over) (c : After-find_place g) (far : Far) → Keeps (was g c) far →
    Same (plain (was g c) c.args.parts.now.near)
    record { far = far; seed = c.args.parts.now.near.seed; slots = c.find_place.new.slots; buckets = c.args.parts.now.near.buckets; count = c.args.parts.now.near.count }
same g c far e = record {
  far = e;
  seed = refl;
  slots = c.find_place.ensures.same;
  longer = c.find_place.ensures.longer;
  buckets = refl;
  count = refl;
}

pub returns-in-Err-clause-sound : goal.returns-in-Err-clause-sound
returns-in-Err-clause-sound g c =
    let f = was g (goal.at.returns-in-Err-clause-sound g c).After-find_place in
    same_sound (plain f c.args.parts.now.near) _ c.requires.sound
    (same g (goal.at.returns-in-Err-clause-sound g c).After-find_place f (keeps_before f f (as_was f f refl)))

pub returns-in-Err-clause-err : goal.returns-in-Err-clause-err
returns-in-Err-clause-err g c =
    let f = was g (goal.at.returns-in-Err-clause-err g c).After-find_place in
    same_lines (plain f c.args.parts.now.near) _ c.requires.sound
    (same g (goal.at.returns-in-Err-clause-err g c).After-find_place f (keeps_before f f (as_was f f refl)))

pub returns-in-Err-put_line-clause-sound : goal.returns-in-Err-put_line-clause-sound
returns-in-Err-put_line-clause-sound g c =
    let f = was g (goal.at.returns-in-Err-put_line-clause-sound g c).After-find_place in
    same_sound (plain f c.args.parts.now.near) _ c.requires.sound
    (same g (goal.at.returns-in-Err-put_line-clause-sound g c).After-find_place (with_longs (g.O.Objects.far c.put_line.new.store.worker) c.put_line.new.store.longs.items)
    (all_before (g.O.Objects.far c.args.parts.now.store.worker) (g.O.Objects.far c.put_line.new.store.worker) c.args.parts.now.store.longs.items c.put_line.new.store.longs.items
    c.requires.stored c.in-Err-put_line.ensures.refused c.in-Err-put_line.ensures.longs))

pub returns-in-Err-put_line-clause-err : goal.returns-in-Err-put_line-clause-err
returns-in-Err-put_line-clause-err g c =
    let f = was g (goal.at.returns-in-Err-put_line-clause-err g c).After-find_place in
    same_lines (plain f c.args.parts.now.near) _ c.requires.sound
    (same g (goal.at.returns-in-Err-put_line-clause-err g c).After-find_place (with_longs (g.O.Objects.far c.put_line.new.store.worker) c.put_line.new.store.longs.items)
    (all_before (g.O.Objects.far c.args.parts.now.store.worker) (g.O.Objects.far c.put_line.new.store.worker) c.args.parts.now.store.longs.items c.put_line.new.store.longs.items
    c.requires.stored c.in-Err-put_line.ensures.refused c.in-Err-put_line.ensures.longs))

-- the slot that was found, written
placed : (g : Over) (c : After-set g) → Placed c.args.parts.now.near.buckets c.args.tag c.in-Ok-put_line.number c.args.parts.now.near.slots c.set.new.self
placed g c =
    let place = c.in-Ok.place in
    let new = Full c.args.tag c.in-Ok-put_line.number in
    record {
      place = place;
      longer = omega (arith, c.find_place.ensures.longer, length-set c.find_place.new.slots place new, ap (λ xs. length xs) c.set.ensures);
      free = c.in-Ok.ensures.free;
      slot = ap (λ xs. slot_at xs place) c.set.ensures ∙ get_or-set_same c.find_place.new.slots place new Empty c.in-Ok.ensures.there;
      others = λ j ne. ap (λ xs. slot_at xs j) c.set.ensures ∙ get_or-set_other c.find_place.new.slots place j new Empty ne ∙ c.find_place.ensures.same j;
      low = c.in-Ok.ensures.low;
      full = c.in-Ok.ensures.full;
    }

pub returns-clause-sound : goal.returns-clause-sound
returns-clause-sound g c =
    added_sound (plain (with_longs (g.O.Objects.far c.args.parts.now.store.worker) c.args.parts.now.store.longs.items) c.args.parts.now.near)
    (with_longs (g.O.Objects.far c.put_line.new.store.worker) c.put_line.new.store.longs.items) c.set.new.self c.args.tag c.in-Ok-put_line.number c.args.line.now
    c.requires.sound (placed g (goal.at.returns-clause-sound g c).After-set) c.in-Ok-put_line.ensures.put c.requires.tag c.requires.absent

pub returns-clause-ok : goal.returns-clause-ok
returns-clause-ok g c =
    added_set (plain (with_longs (g.O.Objects.far c.args.parts.now.store.worker) c.args.parts.now.store.longs.items) c.args.parts.now.near)
    (with_longs (g.O.Objects.far c.put_line.new.store.worker) c.put_line.new.store.longs.items) c.set.new.self c.args.tag c.in-Ok-put_line.number c.args.line.now
    c.requires.sound (placed g (goal.at.returns-clause-ok g c).After-set) c.in-Ok-put_line.ensures.put c.requires.tag c.requires.absent

pub returns-clause-stamps : goal.returns-clause-stamps
returns-clause-stamps g c =
    added_stamps (plain (with_longs (g.O.Objects.far c.args.parts.now.store.worker) c.args.parts.now.store.longs.items) c.args.parts.now.near)
    (with_longs (g.O.Objects.far c.put_line.new.store.worker) c.put_line.new.store.longs.items) c.set.new.self c.args.tag c.in-Ok-put_line.number c.args.line.now
    c.requires.sound (placed g (goal.at.returns-clause-stamps g c).After-set) c.in-Ok-put_line.ensures.put c.requires.tag c.requires.absent
