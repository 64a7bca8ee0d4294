use Rattle.std.proofs.Common.{ℕ, ap, arith}
use Rattle.far_events.specs.declared.event.Kind.{Kind}
use Rattle.far_events.specs.declared.event.Kind.TheVariants.{Free}
use Rattle.far_events.specs.state.Memory.{state_of}
use Rattle.far_events.proofs.Items.{item_put}
use Rattle.far_events.proofs.memory.Memory.set_kind.Goals as goal

pub returns : goal.returns
unfolding state_of
returns c = ap (λ (f : ℕ → Kind). record (state_of c.args.self.now) { kind = f })
    (item_put c.args.self.now.kinds.items c.args.log c.args.kind Free (omega (arith, c.requires, c.args.self.now.kinds_sized, c.args.self.now.kinds.ok.0)))
