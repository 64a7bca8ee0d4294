use Rattle.std.proofs.Common.{◌≡◌, ℕ, ◌<◌, ◌+◌, ◌++◌, ◌∷◌, [], length, Some, refl, sym, ◌∙◌, ap, subst, get_or-set_same, get_or-set_other, length-set, arith}
use Rattle.far_objects.specs.Far.{Far}
use Rattle.far_index.specs.declared.slot.Slot.TheVariants.{Empty, Full}
use Rattle.far_index.specs.Slots.{slot_at}
use Rattle.far_index.specs.Grown.{Placed}
use Rattle.far_seen.specs.Listed.{Listed, all_of, by_place, stamp_for}
use Rattle.far_seen.specs.Parts.{Plain, Sound, plain}
use Rattle.far_seen.specs.Stored.{Keeps, Put, with_longs}
use Rattle.far_seen.proofs.Listing.{has_size, listed_kept, listed_more, places_same, put_last}
use Rattle.far_seen.proofs.Longs.{all_before, as_was, keeps_before}
use Rattle.far_seen.proofs.Outcomes.{Same, added_sound, same_sound}
use Rattle.far_seen.proofs.Placing.{place_is, stamps_kept}
use Rattle.far_seen.proofs.enter.enter.Given.{Over}
use Rattle.far_seen.proofs.enter.enter.Goals.{After-find_place, After-push_reserved}
use Rattle.far_seen.proofs.enter.enter.Goals as goal

-- what stood for lines
abbrev was : (g : Over) (c : After-find_place g) → Far
was g c = with_longs (g.O.Objects.far c.args.roll.now.store.worker) c.args.roll.now.store.longs.items

-- the index has perhaps a slot more
abbrev grown : (g : Over) (c : After-find_place g) → Far → Plain
grown g c far = record { far = by_place far c.reserve.new.self.items; seed = c.args.roll.now.near.seed; slots = c.find_place.new.slots; buckets = c.args.roll.now.near.buckets; count = c.args.roll.now.near.count }

same : (g : Over) (c : After-find_place g) (far : Far) → Keeps (was g c) far → Same (plain (all_of (g.O.Objects.far c.args.roll.now.store.worker) c.args.roll.now.store.longs.items c.args.roll.now.numbers.items) c.args.roll.now.near) (grown g c far)
same g c far keeps = record {
  far = places_same (was g c) far c.args.roll.now.numbers.items c.reserve.new.self.items keeps c.reserve.ensures.items;
  seed = refl;
  slots = c.find_place.ensures.same;
  longer = c.find_place.ensures.longer;
  buckets = refl;
  count = refl;
}

still_stamped : (g : Over) (c : After-find_place g) (far : Far) → Keeps (was g c) far → (k : ℕ) → k < length c.args.roll.now.numbers.items →
    stamp_for (grown g c far).far.sizes c.find_place.new.slots k ≡ stamp_for (all_of (g.O.Objects.far c.args.roll.now.store.worker) c.args.roll.now.store.longs.items c.args.roll.now.numbers.items).sizes c.args.roll.now.near.slots k
still_stamped g c far keeps k h =
    let p = plain (all_of (g.O.Objects.far c.args.roll.now.store.worker) c.args.roll.now.store.longs.items c.args.roll.now.numbers.items) c.args.roll.now.near in
    let s = same g c far keeps in
    stamps_kept p (grown g c far) c.args.roll.now.numbers.items c.args.roll.now.counts.items c.requires.sound (same_sound p (grown g c far) c.requires.sound s) c.requires.listed s.far.sizes (λ j t k e. (j, s.slots j ∙ e)) k h

still_listed : (g : Over) (c : After-find_place g) → Listed c.find_place.new.slots c.reserve.new.self.items c.reserve-2.new.self.items
still_listed g c =
    subst (λ ns. Listed c.find_place.new.slots ns c.reserve-2.new.self.items) (sym c.reserve.ensures.items)
    (subst (λ cs. Listed c.find_place.new.slots c.args.roll.now.numbers.items cs) (sym c.reserve-2.ensures.items)
    (listed_kept c.args.roll.now.near.slots c.find_place.new.slots c.args.roll.now.numbers.items c.args.roll.now.counts.items c.requires.listed (λ j t k e. (j, c.find_place.ensures.same j ∙ e))))

pub returns-in_default-find_place-clause-sound : goal.returns-in_default-find_place-clause-sound
returns-in_default-find_place-clause-sound g c =
    let a = (goal.at.returns-in_default-find_place-clause-sound g c).After-find_place in
    let f = was g a in
    same_sound (plain (all_of (g.O.Objects.far c.args.roll.now.store.worker) c.args.roll.now.store.longs.items c.args.roll.now.numbers.items) c.args.roll.now.near) _ c.requires.sound
    (same g a f (keeps_before f f (as_was f f refl)))

pub returns-in_default-find_place-clause-listed : goal.returns-in_default-find_place-clause-listed
returns-in_default-find_place-clause-listed g c = still_listed g (goal.at.returns-in_default-find_place-clause-listed g c).After-find_place

pub returns-in_default-find_place-clause-stamps : goal.returns-in_default-find_place-clause-stamps
returns-in_default-find_place-clause-stamps g c = λ k h.
    let a = (goal.at.returns-in_default-find_place-clause-stamps g c).After-find_place in
    still_stamped g a (was g a) (keeps_before (was g a) (was g a) (as_was (was g a) (was g a) refl)) k h

pub returns-in-Err-clause-sound : goal.returns-in-Err-clause-sound
returns-in-Err-clause-sound g c =
    let a = (goal.at.returns-in-Err-clause-sound g c).After-find_place in
    same_sound (plain (all_of (g.O.Objects.far c.args.roll.now.store.worker) c.args.roll.now.store.longs.items c.args.roll.now.numbers.items) c.args.roll.now.near) _ c.requires.sound
    (same g a (with_longs (g.O.Objects.far c.put_line.new.store.worker) c.put_line.new.store.longs.items)
    (all_before (g.O.Objects.far c.args.roll.now.store.worker) (g.O.Objects.far c.put_line.new.store.worker) c.args.roll.now.store.longs.items c.put_line.new.store.longs.items
    c.requires.stored c.in-Err.ensures.refused c.in-Err.ensures.longs))

pub returns-in-Err-clause-listed : goal.returns-in-Err-clause-listed
returns-in-Err-clause-listed g c = still_listed g (goal.at.returns-in-Err-clause-listed g c).After-find_place

pub returns-in-Err-clause-before : goal.returns-in-Err-clause-before
returns-in-Err-clause-before g c = λ k h.
    let a = (goal.at.returns-in-Err-clause-before g c).After-find_place in
    let p = plain (all_of (g.O.Objects.far c.args.roll.now.store.worker) c.args.roll.now.store.longs.items c.args.roll.now.numbers.items) c.args.roll.now.near in
    let size = has_size p c.args.roll.now.numbers.items c.args.roll.now.counts.items c.requires.sound c.requires.listed k h in
    (same g a (with_longs (g.O.Objects.far c.put_line.new.store.worker) c.put_line.new.store.longs.items)
    (all_before (g.O.Objects.far c.args.roll.now.store.worker) (g.O.Objects.far c.put_line.new.store.worker) c.args.roll.now.store.longs.items c.put_line.new.store.longs.items
    c.requires.stored c.in-Err.ensures.refused c.in-Err.ensures.longs)).far.bytes k size.0 size.1

pub returns-in-Err-clause-stamps : goal.returns-in-Err-clause-stamps
returns-in-Err-clause-stamps g c = λ k h.
    still_stamped g (goal.at.returns-in-Err-clause-stamps g c).After-find_place (with_longs (g.O.Objects.far c.put_line.new.store.worker) c.put_line.new.store.longs.items)
    (all_before (g.O.Objects.far c.args.roll.now.store.worker) (g.O.Objects.far c.put_line.new.store.worker) c.args.roll.now.store.longs.items c.put_line.new.store.longs.items
    c.requires.stored c.in-Err.ensures.refused c.in-Err.ensures.longs) k h

-- ---- the line is put
numbers_are : (g : Over) (c : After-push_reserved g) → c.push_reserved.new.self.items ≡ c.args.roll.now.numbers.items ++ c.in-Ok-put_line.number ∷ []
numbers_are g c = c.push_reserved.ensures.items ∙ ap (λ ns. ns ++ c.in-Ok-put_line.number ∷ []) c.reserve.ensures.items

put : (g : Over) (c : After-push_reserved g) → Put (length c.args.roll.now.numbers.items) c.args.line.now
    (all_of (g.O.Objects.far c.args.roll.now.store.worker) c.args.roll.now.store.longs.items c.args.roll.now.numbers.items)
    (all_of (g.O.Objects.far c.put_line.new.store.worker) c.put_line.new.store.longs.items (c.args.roll.now.numbers.items ++ c.in-Ok-put_line.number ∷ []))
put g c = put_last (with_longs (g.O.Objects.far c.args.roll.now.store.worker) c.args.roll.now.store.longs.items) (with_longs (g.O.Objects.far c.put_line.new.store.worker) c.put_line.new.store.longs.items)
    c.args.roll.now.numbers.items c.in-Ok-put_line.number c.args.line.now c.in-Ok-put_line.ensures.put

-- the slot that was found, written
placed : (g : Over) (c : After-push_reserved g) → Placed c.args.roll.now.near.buckets c.args.tag (length c.args.roll.now.numbers.items) c.args.roll.now.near.slots c.set.new.self
placed g c =
    let place = c.in-Ok-find_place.slot in
    let new = Full c.args.tag c.len-place.result in
    let last : c.len-place.result ≡ length c.args.roll.now.numbers.items = omega (arith, c.len-place.ensures, c.args.roll.now.numbers.ok.0) in
    record {
      place = place;
      longer = omega (arith, c.find_place.ensures.longer, length-set c.find_place.new.slots place new, ap (λ xs. length xs) c.set.ensures);
      free = c.in-Ok-find_place.ensures.free;
      slot = ap (λ xs. slot_at xs place) c.set.ensures ∙ get_or-set_same c.find_place.new.slots place new Empty c.in-Ok-find_place.ensures.there ∙ ap (Full c.args.tag) last;
      others = λ j ne. ap (λ xs. slot_at xs j) c.set.ensures ∙ get_or-set_other c.find_place.new.slots place j new Empty ne ∙ c.find_place.ensures.same j;
      low = c.in-Ok-find_place.ensures.low;
      full = c.in-Ok-find_place.ensures.full;
    }

-- all slots and objects now
abbrev now : (g : Over) (c : After-push_reserved g) → Plain
now g c =
    let near = c.args.roll.now.near in
    record { far = (all_of (g.O.Objects.far c.put_line.new.store.worker) c.put_line.new.store.longs.items (c.args.roll.now.numbers.items ++ c.in-Ok-put_line.number ∷ [])); seed = near.seed; slots = c.set.new.self; buckets = near.buckets; count = near.count + 1 }

now_sound : (g : Over) (c : After-push_reserved g) → Sound (now g c)
now_sound g c =
    added_sound (plain (all_of (g.O.Objects.far c.args.roll.now.store.worker) c.args.roll.now.store.longs.items c.args.roll.now.numbers.items) c.args.roll.now.near)
    (all_of (g.O.Objects.far c.put_line.new.store.worker) c.put_line.new.store.longs.items (c.args.roll.now.numbers.items ++ c.in-Ok-put_line.number ∷ [])) c.set.new.self c.args.tag (length c.args.roll.now.numbers.items) c.args.line.now
    c.requires.sound (placed g c) (put g c) c.requires.tag c.requires.absent

pub returns-clause-sound : goal.returns-clause-sound
returns-clause-sound g c =
    let a = (goal.at.returns-clause-sound g c).After-push_reserved in
    let near = c.args.roll.now.near in
    subst (λ ns. Sound record { far = all_of (g.O.Objects.far c.put_line.new.store.worker) c.put_line.new.store.longs.items ns; seed = near.seed; slots = c.set.new.self; buckets = near.buckets; count = near.count + 1 }) (sym (numbers_are g a))
    (now_sound g a)

pub returns-clause-listed : goal.returns-clause-listed
returns-clause-listed g c =
    let a = (goal.at.returns-clause-listed g c).After-push_reserved in
    subst (λ ns. Listed c.set.new.self ns c.push_reserved-2.new.self.items) (sym (numbers_are g a))
    (subst (λ cs. Listed c.set.new.self (c.args.roll.now.numbers.items ++ c.in-Ok-put_line.number ∷ []) cs) (sym (c.push_reserved-2.ensures.items ∙ ap (λ cs. cs ++ 1 ∷ []) c.reserve-2.ensures.items))
    (listed_more c.args.roll.now.near.buckets c.args.tag c.in-Ok-put_line.number c.args.roll.now.near.slots c.set.new.self c.args.roll.now.numbers.items c.args.roll.now.counts.items c.requires.listed (placed g a)))

pub returns-clause-before : goal.returns-clause-before
returns-clause-before g c = λ k h.
    let a = (goal.at.returns-clause-before g c).After-push_reserved in
    let p = plain (all_of (g.O.Objects.far c.args.roll.now.store.worker) c.args.roll.now.store.longs.items c.args.roll.now.numbers.items) c.args.roll.now.near in
    let size = has_size p c.args.roll.now.numbers.items c.args.roll.now.counts.items c.requires.sound c.requires.listed k h in
    ap (λ ns. (all_of (g.O.Objects.far c.put_line.new.store.worker) c.put_line.new.store.longs.items ns).bytes k) (numbers_are g a) ∙ (put g a).keeps.bytes k size.0 size.1

pub returns-clause-last : goal.returns-clause-last
returns-clause-last g c = λ o.
    let a = (goal.at.returns-clause-last g c).After-push_reserved in
    ap (λ ns. (all_of (g.O.Objects.far c.put_line.new.store.worker) c.put_line.new.store.longs.items ns).bytes (length c.args.roll.now.numbers.items)) (numbers_are g a) ∙ (put g a).bytes o

pub returns-clause-stamps : goal.returns-clause-stamps
returns-clause-stamps g c = λ k h.
    let a = (goal.at.returns-clause-stamps g c).After-push_reserved in
    let p = plain (all_of (g.O.Objects.far c.args.roll.now.store.worker) c.args.roll.now.store.longs.items c.args.roll.now.numbers.items) c.args.roll.now.near in
    ap (λ ns. stamp_for (all_of (g.O.Objects.far c.put_line.new.store.worker) c.put_line.new.store.longs.items ns).sizes c.set.new.self k) (numbers_are g a)
    ∙ stamps_kept p (now g a) c.args.roll.now.numbers.items c.args.roll.now.counts.items c.requires.sound (now_sound g a) c.requires.listed (put g a).keeps.sizes
    (λ j t n e. (j, (placed g a).others j (λ same. (placed g a).free t n (sym (ap (slot_at p.slots) same) ∙ e)) ∙ e)) k h

pub returns-clause-stamp : goal.returns-clause-stamp
returns-clause-stamp g c =
    let a = (goal.at.returns-clause-stamp g c).After-push_reserved in
    let last = length c.args.roll.now.numbers.items in
    ap (λ ns. stamp_for (all_of (g.O.Objects.far c.put_line.new.store.worker) c.put_line.new.store.longs.items ns).sizes c.set.new.self last) (numbers_are g a)
    ∙ place_is (now g a) (now_sound g a) (placed g a).place c.args.tag last (length c.args.line.now) (placed g a).slot (put g a).size
    ∙ ap (λ t. Some (t ∷ length c.args.line.now ∷ [])) c.requires.tag
