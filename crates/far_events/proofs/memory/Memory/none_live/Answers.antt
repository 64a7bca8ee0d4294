use Rattle.std.proofs.Common.{sym, ◌∙◌}
use Rattle.far_events.specs.state.Memory.{state_of}
use Rattle.far_events.proofs.events.Get.{live_at}
use Rattle.far_events.proofs.memory.Memory.none_live.Goals as goal

pub returns-then-is_live_at : goal.returns-then-is_live_at
returns-then-is_live_at c = sym (live_at (state_of c.args.self.now) c.args.log c.args.words c.loop-at.at c.loop-at-test.true (sym c.is_live_at.ensures ∙ c.if-is_live_at.true))
