use Rattle.std.proofs.Common.{ℕ, ap, arith}
use Rattle.far_events.specs.state.Memory.{state_of}
use Rattle.far_events.proofs.Items.{item_put}
use Rattle.far_events.proofs.memory.Memory.set_tail.Goals as goal

pub returns : goal.returns
unfolding state_of
returns c = ap (λ (f : ℕ → ℕ). record (state_of c.args.self.now) { tail = f })
    (item_put c.args.self.now.tails.items c.args.log c.args.tail 0 (omega (arith, c.requires, c.args.self.now.tails.ok.0)))
