use Rattle.std.proofs.Common.{◌∙◌, ap, sym}
use Rattle.far_core.specs.declared.machine.Core.{Core}
use Rattle.far_core.specs.state.CoreState.{core_state}
use Rattle.far_private.specs.Objects.{state_in}
use Rattle.far_private.proofs.Told.{size_unused, size_used}
use Rattle.far_private.proofs.looking.len_of.Goals as goal

pub returns-then-not-is_used : goal.returns-then-not-is_used
returns-then-not-is_used g c = size_unused (state_in c.args.evac.now) c.args.pointer c.requires.settled (ap (λ (x : Core). (core_state x).used c.args.pointer) (sym c.core_of.ensures) ∙ sym c.is_used.ensures ∙ c.if-not-is_used.true)

pub returns : goal.returns
returns g c = size_used (state_in c.args.evac.now) c.args.evac.now.book.near.core.law c.args.pointer c.used_len.result
    (ap (λ (x : Core). (core_state x).used c.args.pointer) (sym c.core_of.ensures) ∙ sym c.is_used.ensures ∙ c.if-not-is_used.false) c.used_len.ensures.len
