use Rattle.std.proofs.Common.{arith}
use Rattle.far_policy.proofs.Filling.{filled_more, as_many}
use Rattle.far_policy.proofs.chosen.Chosen.push.Goals as goal

pub invariant_of-self : goal.invariant_of-self
invariant_of-self c = filled_more c.self.inside.logs c.self.inside.count c.args.log c.self.invariant (omega (arith, as_many _ _ _ c.self.invariant c.self.view_is))
