use Rattle.std.proofs.Common.{◌≡◌, ◌≢◌, ℕ, ◌+◌, true, cond, Some, length, refl, sym, ◌∙◌, ap, get_or-set_same, get_or-set_other, length-set, arith}
use Rattle.std.specs.Option.{option_map}
use Rattle.far_index.specs.declared.slot.Slot.TheVariants.{Empty, Full}
use Rattle.far_index.specs.Slots.{slot_at}
use Rattle.far_index.proofs.Words.{full_number}
use Rattle.far_map.specs.Slots.{entry_in, key_at}
use Rattle.far_map.specs.Plain.{Plain, plain}
use Rattle.far_map.proofs.Outcomes.{is_there, other_key, none_size, Put, put_sound, put_entries, unheld}
use Rattle.far_map.proofs.steps.replace.Given.{Over}
use Rattle.far_map.proofs.steps.replace.Goals.{After-let_go}
use Rattle.far_map.proofs.steps.replace.Goals as goal

put : (g : Over) (c : After-let_go g) →
    Put (plain (g.O.Objects.far c.args.parts.now.worker) c.args.parts.now.near)
    record { far = g.O.Objects.far c.let_go.new.worker; seed = c.args.parts.now.near.seed; slots = c.set.new.self; buckets = c.args.parts.now.near.buckets; count = c.args.parts.now.near.count }
    c.args.at.place c.args.tag c.in-Ok.number c.args.key.now c.args.value.now
put g c =
    let p : Plain = plain (g.O.Objects.far c.args.parts.now.worker) c.args.parts.now.near in
    let place = c.args.at.place in
    let old = c.args.at.number in
    let number = c.in-Ok.number in
    let key = c.args.key.now in
    let sound = c.requires.sound in
    let stands = c.requires.stands in
    let made = c.in-Ok.ensures.made in
    let gone = c.let_go.ensures in
    let new = Full c.args.tag number in
    let here : p.far.honest ≡ true → key_at p.far.bytes p.slots place ≡ Some key = λ h. ap (λ s. option_map (λ x. x.0) (entry_in p.far.bytes s)) stands.slot ∙ c.requires.has h in
    let apart : (j t h : ℕ) → slot_at p.slots j ≡ Full t h → h ≢ number = λ j t h e same. unheld p.far p.slots number j t sound.held made.fresh (e ∙ ap (λ k. Full t k) same) in
    let other : (j t h : ℕ) → j ≢ place → slot_at p.slots j ≡ Full t h → h ≢ old = λ j t h ne e same. ne (sound.apart j place t c.args.tag old (e ∙ ap (λ k. Full t k) same) stands.slot) in
    let stays : number ≢ old = λ e. apart place c.args.tag old stands.slot (sym e) in
    record {
      buckets = refl;
      seed = refl;
      longer = omega (arith, length-set p.slots place new, ap (λ xs. length xs) c.set.ensures);
      honest = gone.others.honest ∙ made.others.honest;
      fresh = made.fresh;
      held = (length c.args.bytes.now, gone.others.sizes number stays ∙ made.size);
      there = λ o. gone.others.bytes number stays ∙ made.bytes o ∙ ap (λ xs. Some xs) c.requires.bytes;
      sizes = λ j t h ne e. gone.others.sizes h (other j t h ne e) ∙ made.others.sizes h (apart j t h e);
      bytes = λ j t h ne e. gone.others.bytes h (other j t h ne e) ∙ made.others.bytes h (apart j t h e);
      slots = λ j ne. ap (λ xs. slot_at xs j) c.set.ensures ∙ get_or-set_other p.slots place j new Empty ne;
      slot = ap (λ xs. slot_at xs place) c.set.ensures ∙ get_or-set_same p.slots place new Empty stands.within;
      tagged = c.requires.tag;
      owned = λ h k ne e.
          let left : h ≢ old = λ same. none_size k ((g.O.Objects.far c.let_go.new.worker).sizes old) gone.gone (ap (g.O.Objects.far c.let_go.new.worker).sizes (sym same) ∙ e) in
          (sym (gone.others.sizes h left ∙ made.others.sizes h ne) ∙ e, λ t at. left (sym (full_number c.args.tag old t h (sym stands.slot ∙ at))));
      low = sound.reached.later place c.args.tag old stands.slot;
      full = λ i low high. sound.reached.through place c.args.tag old i stands.slot low high;
      before = λ h q ne e. ne (other_key q key (key_at p.far.bytes p.slots place) (here h) e);
      others = λ h j ne e. ne (sound.distinct h j place key e (here h));
      count = λ h. ap (λ t. cond t p.count (p.count + 1)) (sym (is_there p place key (sound.distinct h) (here h)));
    }

pub returns-clause-sound : goal.returns-clause-sound
returns-clause-sound g c = put_sound _ _ c.args.at.place c.args.tag c.in-Ok.number c.args.key.now c.args.value.now c.requires.sound (put g (goal.at.returns-clause-sound g c).After-let_go)

pub returns-clause-ok : goal.returns-clause-ok
returns-clause-ok g c = put_entries _ _ c.args.at.place c.args.tag c.in-Ok.number c.args.key.now c.args.value.now c.requires.sound (put g (goal.at.returns-clause-ok g c).After-let_go)
