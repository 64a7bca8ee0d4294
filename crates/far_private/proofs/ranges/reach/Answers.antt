use Rattle.std.proofs.Common.{◌∙◌, ap, sym}
use Rattle.far_core.specs.declared.machine.Core.{Core}
use Rattle.far_core.specs.state.CoreState.{core_state}
use Rattle.far_private.specs.Objects.{state_in}
use Rattle.far_private.proofs.Ranging.{refuses_free, refuses_range}
use Rattle.far_private.proofs.ranges.reach.Goals as goal

pub returns-then-not-is_used-clause-refused : goal.returns-then-not-is_used-clause-refused
returns-then-not-is_used-clause-refused g c = refuses_free (state_in c.args.evac.now) c.requires.settled c.args.pointer c.args.from c.args.count
    (ap (λ (x : Core). (core_state x).used c.args.pointer) (sym c.core_of.ensures) ∙ sym c.is_used.ensures ∙ c.if-not-is_used.true)

pub returns-then-not-lies_in-clause-refused : goal.returns-then-not-lies_in-clause-refused
returns-then-not-lies_in-clause-refused g c = refuses_range (state_in c.args.evac.now) c.args.evac.now.book.near.core.law c.args.pointer c.args.from c.args.count c.used_len.result
    (ap (λ (x : Core). (core_state x).used c.args.pointer) (sym c.core_of.ensures) ∙ sym c.is_used.ensures ∙ c.if-not-is_used.false) c.used_len.ensures.len (sym c.lies_in.ensures ∙ c.if-not-lies_in.true)
