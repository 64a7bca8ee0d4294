use Rattle.std.proofs.Common.{ℕ, ap, arith, Option, None}
use Rattle.far_events.specs.state.Memory.{state_of}
use Rattle.far_events.proofs.Items.{item_put}
use Rattle.far_events.proofs.memory.Memory.remember.Goals as goal

pub returns : goal.returns
unfolding state_of
returns c = ap (λ (f : ℕ → Option ℕ). record (state_of c.args.self.now) { remembered = f })
    (item_put c.args.self.now.remembered.items c.args.owner c.args.epoch None (omega (arith, c.requires, c.args.self.now.remembered_sized, c.args.self.now.remembered.ok.0)))
