use Rattle.std.proofs.Common.{◌≡◌, ◌≢◌, ℕ, length, refl, sym, ◌∙◌, ap, get_or-set_same, get_or-set_other, length-set, arith}
use Rattle.std.specs.Option.{option_map}
use Rattle.far_index.specs.declared.slot.Slot.TheVariants.{Empty, Gone, Full}
use Rattle.far_index.specs.Slots.{slot_at}
use Rattle.far_index.proofs.Words.{full_number}
use Rattle.far_map.specs.Slots.{entry_in}
use Rattle.far_map.specs.Plain.{Plain, plain}
use Rattle.far_map.proofs.Outcomes.{Taken, none_size, taken_sound, taken_entries}
use Rattle.far_map.proofs.steps.take_out.Given.{Over}
use Rattle.far_map.proofs.steps.take_out.Goals.{After-saturating_sub-parts}
use Rattle.far_map.proofs.steps.take_out.Goals as goal

taken : (g : Over) (c : After-saturating_sub-parts g) →
    Taken (plain (g.O.Objects.far c.args.parts.now.worker) c.args.parts.now.near)
    record { far = g.O.Objects.far c.let_go.new.worker; seed = c.args.parts.now.near.seed; slots = c.set.new.self; buckets = c.args.parts.now.near.buckets; count = c.saturating_sub-parts.result }
    c.args.at.place c.args.key.now
taken g c =
    let p : Plain = plain (g.O.Objects.far c.args.parts.now.worker) c.args.parts.now.near in
    let place = c.args.at.place in
    let old = c.args.at.number in
    let sound = c.requires.sound in
    let stands = c.requires.stands in
    let gone = c.let_go.ensures in
    let other : (j t h : ℕ) → j ≢ place → slot_at p.slots j ≡ Full t h → h ≢ old = λ j t h ne e same. ne (sound.apart j place t c.args.tag old (e ∙ ap (λ k. Full t k) same) stands.slot) in
    record {
      buckets = refl;
      seed = refl;
      longer = omega (arith, length-set p.slots place Gone, ap (λ xs. length xs) c.set.ensures);
      honest = gone.others.honest;
      sizes = λ j t h ne e. gone.others.sizes h (other j t h ne e);
      bytes = λ j t h ne e. gone.others.bytes h (other j t h ne e);
      slots = λ j ne. ap (λ xs. slot_at xs j) c.set.ensures ∙ get_or-set_other p.slots place j Gone Empty ne;
      slot = ap (λ xs. slot_at xs place) c.set.ensures ∙ get_or-set_same p.slots place Gone Empty stands.within;
      owned = λ h k e.
          let left : h ≢ old = λ same. none_size k ((g.O.Objects.far c.let_go.new.worker).sizes old) gone.gone (ap (g.O.Objects.far c.let_go.new.worker).sizes (sym same) ∙ e) in
          (sym (gone.others.sizes h left) ∙ e, λ t at. left (sym (full_number c.args.tag old t h (sym stands.slot ∙ at))));
      here = λ h. ap (λ s. option_map (λ x. x.0) (entry_in p.far.bytes s)) stands.slot ∙ c.requires.has h;
      count = c.saturating_sub-parts.ensures;
    }

pub returns-clause-sound : goal.returns-clause-sound
returns-clause-sound g c = taken_sound _ _ c.args.at.place c.args.key.now c.requires.sound (taken g (goal.at.returns-clause-sound g c).After-saturating_sub-parts)

pub returns-clause-made : goal.returns-clause-made
returns-clause-made g c = taken_entries _ _ c.args.at.place c.args.key.now c.requires.sound (taken g (goal.at.returns-clause-made g c).After-saturating_sub-parts)
