use Rattle.std.proofs.Common.{◌∙◌, ap, arith, sym}
use Rattle.far_word.specs.Pointer.{read_of}
use Rattle.far_events.specs.events.Pin.{place_to_view}
use Rattle.far_events.specs.state.Memory.{state_of}
use Rattle.far_events.proofs.Rests.{rests_near}
use Rattle.far_events.proofs.memory.Memory.data_at_rest.Goals as goal

pub returns-clause-within : goal.returns-clause-within
returns-clause-within c =
    omega (arith, c.first_word.ensures, (rests_near (state_of c.args.self.now) c.requires.law c.args.pointer c.in-Some.place (ap (λ w. place_to_view (read_of w)) (sym c.cell_at.ensures) ∙ sym c.place_to_view.ensures ∙ c.in-Some.is)).1)
