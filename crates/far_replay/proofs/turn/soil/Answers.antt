use Rattle.std.proofs.Common.{◌∙◌, ap, sym}
use Rattle.far_core.specs.declared.machine.Core.{Core}
use Rattle.far_core.specs.state.CoreState.{core_state}
use Rattle.far_replay.specs.Moment.{state_in}
use Rattle.far_alone.proofs.Soiling.{soiled_before}
use Rattle.far_replay.proofs.turn.soil.Goals as goal

pub returns-else-not-is_soiled-clause-state : goal.returns-else-not-is_soiled-clause-state
returns-else-not-is_soiled-clause-state c =
    sym (soiled_before (state_in c.args.evac.now) c.args.evac.now.book.near.core.law c.args.access.pointer
    (ap (λ (x : Core). (core_state x).soiled c.args.access.pointer) (sym c.core_of.ensures) ∙ sym c.is_soiled.ensures ∙ c.if-not-is_soiled.false))
