use Rattle.std.proofs.Common.{ℕ, ap, arith, Bool, false}
use Rattle.far_events.specs.state.Memory.{copying_of}
use Rattle.far_events.proofs.Items.{item_put}
use Rattle.far_events.proofs.memory.jobs.Jobs.set_named.Goals as goal

pub returns : goal.returns
unfolding copying_of
returns c = ap (λ (f : ℕ → Bool). record (copying_of c.args.self.now) { named = f })
    (item_put c.args.self.now.named c.args.job c.args.named false (omega (arith, c.requires, c.args.self.now.named_sized)))
