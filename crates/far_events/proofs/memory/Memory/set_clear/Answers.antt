use Rattle.std.proofs.Common.{ℕ, ap, arith, Bool, false}
use Rattle.far_events.specs.state.Memory.{state_of}
use Rattle.far_events.proofs.Items.{item_put}
use Rattle.far_events.proofs.memory.Memory.set_clear.Goals as goal

pub returns : goal.returns
unfolding state_of
returns c = ap (λ (f : ℕ → Bool). record (state_of c.args.self.now) { clear = f })
    (item_put c.args.self.now.clear.items c.args.owner c.args.clear false (omega (arith, c.requires, c.args.self.now.clear_sized, c.args.self.now.clear.ok.0)))
