use Rattle.std.proofs.Common.{ℕ, ap, arith}
use Rattle.far_events.specs.state.Memory.{state_of}
use Rattle.far_events.proofs.Items.{item_put}
use Rattle.far_events.proofs.memory.Memory.set_cell.Goals as goal

pub returns : goal.returns
unfolding state_of
returns c = ap (λ (f : ℕ → ℕ). record (state_of c.args.self.now) { cell = f })
    (item_put c.args.self.now.cells.items c.args.pointer c.args.word 0 (omega (arith, c.requires, c.args.self.now.cells_sized, c.args.self.now.cells.ok.0)))
