use Rattle.std.proofs.Common.{◌∙◌, ap}
use Rattle.far_core.specs.declared.machine.Core.{Core}
use Rattle.far_core.specs.state.CoreState.{core_state}
use Rattle.far_private.specs.Objects.{state_in}
use Rattle.far_private.proofs.Told.{used_is}
use Rattle.far_private.proofs.looking.holds.Goals as goal

pub returns : goal.returns
returns g c = c.is_used.ensures ∙ ap (λ (x : Core). (core_state x).used c.args.pointer) c.core_of.ensures ∙ used_is (state_in c.args.evac.now) c.args.evac.now.book.near.core.law c.requires.settled c.args.pointer
