use Rattle.std.proofs.Common.{ℕ, ap, arith, Bool, false}
use Rattle.far_events.specs.state.Memory.{state_of}
use Rattle.far_events.proofs.Items.{item_put}
use Rattle.far_events.proofs.memory.Memory.stop_using_cell.Goals as goal

pub returns : goal.returns
unfolding state_of
returns c = ap (λ (f : ℕ → Bool). record (state_of c.args.self.now) { used = f })
    (item_put c.args.self.now.used.items c.args.pointer false false (omega (arith, c.requires, c.args.self.now.used_sized, c.args.self.now.used.ok.0)))
