use Rattle.std.proofs.Common.{sym, ◌∙◌}
use Rattle.far_events.specs.state.Memory.{state_of}
use Rattle.far_events.proofs.events.Advance.{unsealed_at}
use Rattle.far_events.proofs.memory.Memory.all_sealed.Goals as goal

pub returns-then-not-is_sealed_among : goal.returns-then-not-is_sealed_among
returns-then-not-is_sealed_among c = sym (unsealed_at (state_of c.args.self.now) c.args.logs c.args.count c.loop-log.log c.loop-log-test.true (sym c.is_sealed_among.ensures ∙ c.if-not-is_sealed_among.true))
