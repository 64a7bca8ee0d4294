use Rattle.std.proofs.Common.{ℕ, ap, Bool}
use Rattle.far_events.specs.state.Memory.{state_of}
use Rattle.far_events.proofs.memory.Memory.soil_cell.Goals as goal

pub returns : goal.returns
unfolding state_of
returns c = ap (λ (f : ℕ → Bool). record (state_of c.args.self.now) { soiled = f }) c.set.ensures.set
