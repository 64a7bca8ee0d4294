use Rattle.std.proofs.Common.{◌+◌, ◌*◌, ◌∙◌, ℕ, ap, arith, set, Bool, Option}
use Rattle.far_word.specs.declared.pointer.Place.{Place}
use Rattle.far_word.specs.declared.sizes.TheConstants.{LOG_WORDS}
use Rattle.far_events.specs.state.Bits.{bit_in}
use Rattle.far_events.specs.state.Memory.{state_of}
use Rattle.far_events.proofs.HeldRows.{held_by, held_more, number_says}
use Rattle.far_events.proofs.memory.Memory.hold.Goals as goal

pub returns : goal.returns
unfolding state_of
returns c =
    let m = c.args.self.now in
    let n : ℕ = c.args.place.log * LOG_WORDS + c.args.place.at in
    ap (λ (f : ℕ → Bool). record (state_of m) { held = held_by f (set m.places.items c.args.pointer n) }) c.set.ensures.set
    ∙ ap (λ (f : ℕ → Option Place). record (state_of m) { held = f })
    (held_more (bit_in m.held) m.places.items c.args.pointer c.args.place n (number_says c.args.place c.requires.inside) (omega (arith, c.requires.pointer, m.places_sized, m.places.ok.0)))
