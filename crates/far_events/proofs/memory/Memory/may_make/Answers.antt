use Rattle.std.proofs.Common.{sym, ap, ◌∙◌}
use Rattle.far_events.specs.events.Naming.{naming_row}
use Rattle.far_events.specs.state.Memory.{state_of}
use Rattle.far_events.proofs.memory.Memory.may_make.Goals as goal

pub returns-in-Moves : goal.returns-in-Moves
returns-in-Moves c new = c.may_move.ensures new ∙ ap (λ form. (naming_row (state_of c.args.self.now) c.args.pointer new form).test) (sym c.in-Moves.is)

pub returns-in-Fetches : goal.returns-in-Fetches
returns-in-Fetches c new = c.may_fetch.ensures new ∙ ap (λ form. (naming_row (state_of c.args.self.now) c.args.pointer new form).test) (sym c.in-Fetches.is)
