use Rattle.std.proofs.Common.{◌≡◌, ◌≢◌, ℕ, ◌+◌, cond, Some, length, refl, sym, ◌∙◌, ap, get_or-set_same, get_or-set_other, length-set, arith}
use Rattle.std.specs.Prelude.{is_some}
use Rattle.std.specs.Option.{option_map}
use Rattle.far_index.specs.declared.slot.Slot.TheVariants.{Empty, Full}
use Rattle.far_index.specs.Slots.{slot_at}
use Rattle.far_map.specs.Slots.{key_at}
use Rattle.far_map.specs.Plain.{Plain, plain}
use Rattle.far_map.proofs.Outcomes.{same_sound, same_table, is_absent, no_entry, Put, put_sound, put_entries, unheld, none_is}
use Rattle.far_map.proofs.steps.add.Given.{Over}
use Rattle.far_map.proofs.steps.add.Goals.{After-set}
use Rattle.far_map.proofs.steps.add.Goals as goal

put : (g : Over) (c : After-set g) →
    Put (plain (g.O.Objects.far c.args.parts.now.worker) c.args.parts.now.near)
    record { far = g.O.Objects.far c.alloc.new.self; seed = c.args.parts.now.near.seed; slots = c.set.new.self; buckets = c.args.parts.now.near.buckets; count = c.args.parts.now.near.count + 1 }
    c.in-Ok.place c.args.tag c.in-Ok-alloc.number c.args.key.now c.args.value.now
put g c =
    let p : Plain = plain (g.O.Objects.far c.args.parts.now.worker) c.args.parts.now.near in
    let place = c.in-Ok.place in
    let number = c.in-Ok-alloc.number in
    let new = Full c.args.tag number in
    let made = c.in-Ok-alloc.ensures.made in
    let apart : (j t h : ℕ) → slot_at p.slots j ≡ Full t h → h ≢ number = λ j t h e same. unheld p.far p.slots number j t c.requires.sound.held made.fresh (e ∙ ap (λ k. Full t k) same) in
    record {
      buckets = refl;
      seed = refl;
      longer = omega (arith, c.find_place.ensures.longer, length-set c.find_place.new.slots place new, ap (λ xs. length xs) c.set.ensures);
      honest = made.others.honest;
      fresh = made.fresh;
      held = (length c.args.bytes.now, made.size);
      there = λ o. made.bytes o ∙ ap (λ xs. Some xs) c.requires.bytes;
      sizes = λ j t h ne e. made.others.sizes h (apart j t h e);
      bytes = λ j t h ne e. made.others.bytes h (apart j t h e);
      slots = λ j ne. ap (λ xs. slot_at xs j) c.set.ensures ∙ get_or-set_other c.find_place.new.slots place j new Empty ne ∙ c.find_place.ensures.same j;
      slot = ap (λ xs. slot_at xs place) c.set.ensures ∙ get_or-set_same c.find_place.new.slots place new Empty c.in-Ok.ensures.there;
      tagged = c.requires.tag;
      owned = λ h k ne e. (sym (made.others.sizes h ne) ∙ e, λ t. c.in-Ok.ensures.free t h);
      low = c.in-Ok.ensures.low;
      full = c.in-Ok.ensures.full;
      before = λ h q ne e. none_is q (key_at p.far.bytes p.slots place) (ap (option_map (λ x. x.0)) (no_entry p.far.bytes (slot_at p.slots place) c.in-Ok.ensures.free)) e;
      others = λ h j ne. c.requires.absent h j;
      count = λ h. ap (λ t. cond (is_some t) p.count (p.count + 1)) (sym (is_absent p c.args.key.now (c.requires.absent h)));
    }

pub returns-in-Err-clause-sound : goal.returns-in-Err-clause-sound
returns-in-Err-clause-sound g c =
    let p : Plain = plain (g.O.Objects.far c.args.parts.now.worker) c.args.parts.now.near in
    same_sound p record { far = p.far; seed = p.seed; slots = c.find_place.new.slots; buckets = p.buckets; count = p.count } c.requires.sound
    record { far = refl; seed = refl; slots = c.find_place.ensures.same; longer = c.find_place.ensures.longer; buckets = refl; count = refl }

pub returns-in-Err-clause-err : goal.returns-in-Err-clause-err
returns-in-Err-clause-err g c =
    let p : Plain = plain (g.O.Objects.far c.args.parts.now.worker) c.args.parts.now.near in
    same_table p record { far = p.far; seed = p.seed; slots = c.find_place.new.slots; buckets = p.buckets; count = p.count } c.requires.sound
    record { far = refl; seed = refl; slots = c.find_place.ensures.same; longer = c.find_place.ensures.longer; buckets = refl; count = refl }

pub returns-in-Err-alloc-clause-sound : goal.returns-in-Err-alloc-clause-sound
returns-in-Err-alloc-clause-sound g c =
    let p : Plain = plain (g.O.Objects.far c.args.parts.now.worker) c.args.parts.now.near in
    same_sound p record { far = g.O.Objects.far c.alloc.new.self; seed = p.seed; slots = c.find_place.new.slots; buckets = p.buckets; count = p.count } c.requires.sound
    record { far = c.in-Err-alloc.ensures.refused; seed = refl; slots = c.find_place.ensures.same; longer = c.find_place.ensures.longer; buckets = refl; count = refl }

pub returns-in-Err-alloc-clause-err : goal.returns-in-Err-alloc-clause-err
returns-in-Err-alloc-clause-err g c =
    let p : Plain = plain (g.O.Objects.far c.args.parts.now.worker) c.args.parts.now.near in
    same_table p record { far = g.O.Objects.far c.alloc.new.self; seed = p.seed; slots = c.find_place.new.slots; buckets = p.buckets; count = p.count } c.requires.sound
    record { far = c.in-Err-alloc.ensures.refused; seed = refl; slots = c.find_place.ensures.same; longer = c.find_place.ensures.longer; buckets = refl; count = refl }

pub returns-clause-sound : goal.returns-clause-sound
returns-clause-sound g c = put_sound _ _ c.in-Ok.place c.args.tag c.in-Ok-alloc.number c.args.key.now c.args.value.now c.requires.sound (put g (goal.at.returns-clause-sound g c).After-set)

pub returns-clause-ok : goal.returns-clause-ok
returns-clause-ok g c = put_entries _ _ c.in-Ok.place c.args.tag c.in-Ok-alloc.number c.args.key.now c.args.value.now c.requires.sound (put g (goal.at.returns-clause-ok g c).After-set)
