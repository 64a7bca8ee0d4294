use Rattle.std.proofs.Common.{ℕ, ap, arith}
use Rattle.far_events.specs.state.Memory.{state_of}
use Rattle.far_events.proofs.Items.{item_put}
use Rattle.far_events.proofs.memory.Memory.set_scope.Goals as goal

pub returns : goal.returns
unfolding state_of
returns c = ap (λ (f : ℕ → ℕ). record (state_of c.args.self.now) { scope = f })
    (item_put c.args.self.now.scopes.items c.args.owner c.args.word 0 (omega (arith, c.requires, c.args.self.now.scopes.ok.0)))
