use Rattle.std.proofs.Common.{ap}
use Rattle.far_core.specs.state.CoreState.{core_state}
use Rattle.far_events.specs.declared.event.Reply.{Reply}
use Rattle.far_events.specs.state.State.{State}
use Rattle.far_hand.proofs.Told.{others_told}
use Rattle.far_hand.proofs.OthersWork.{made_changes}
use Rattle.far_hand.proofs.beset.turning.step_other.Goals as goal

pub returns-clause-change : goal.returns-clause-change
returns-clause-change c = made_changes (core_state c.args.core.now) (core_state c.step.new.self) c.args.event c.step.result c.args.core.now.law c.requires (c.step.ensures.step (others_told c.args.core.now c.args.event c.requires))

pub returns-clause-made : goal.returns-clause-made
returns-clause-made c = ap (λ (x : State × Reply). x.0) (c.step.ensures.step (others_told c.args.core.now c.args.event c.requires))
