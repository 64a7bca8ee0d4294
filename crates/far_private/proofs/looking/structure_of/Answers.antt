use Rattle.std.proofs.Common.{◌≡◌, ◌∙◌, ap, subst, sym, true}
use Rattle.std.specs.Prelude.{IsSome}
use Rattle.far_word.specs.Pointer.{read_of}
use Rattle.far_core.specs.declared.machine.Core.{Core}
use Rattle.far_core.specs.state.CoreState.{core_state}
use Rattle.far_events.specs.state.Law.{in_use}
use Rattle.far_private.specs.Looks.{named_structure}
use Rattle.far_private.specs.Objects.{state_in}
use Rattle.far_private.proofs.Told.{structure_unused, structure_used}
use Rattle.far_private.proofs.looking.structure_of.Goals as goal

pub structure_said-requires-clause-some : goal.structure_said-requires-clause-some
structure_said-requires-clause-some g c =
    subst (λ w. IsSome (read_of w)) (sym (c.cell.ensures ∙ ap (λ (x : Core). (core_state x).cell c.args.pointer) c.core_of-2.ensures)) (c.args.evac.now.book.near.core.law.cells.cell_read c.args.pointer).1

pub structure_said-requires-clause-used : goal.structure_said-requires-clause-used
structure_said-requires-clause-used g c =
    subst (λ w. in_use (read_of w) ≡ true) (sym (c.cell.ensures ∙ ap (λ (x : Core). (core_state x).cell c.args.pointer) c.core_of-2.ensures))
    (c.args.evac.now.book.near.core.law.views.used_cell c.args.pointer (ap (λ (x : Core). (core_state x).used c.args.pointer) (sym c.core_of.ensures) ∙ sym c.is_used.ensures ∙ c.if-not-is_used.false))

pub returns-then-not-is_used : goal.returns-then-not-is_used
returns-then-not-is_used g c = structure_unused (state_in c.args.evac.now) c.args.pointer c.requires.settled (ap (λ (x : Core). (core_state x).used c.args.pointer) (sym c.core_of.ensures) ∙ sym c.is_used.ensures ∙ c.if-not-is_used.true)

pub returns : goal.returns
returns g c = structure_used (state_in c.args.evac.now) c.args.evac.now.book.near.core.law c.args.pointer c.structure_said.result
    (ap (λ (x : Core). (core_state x).used c.args.pointer) (sym c.core_of.ensures) ∙ sym c.is_used.ensures ∙ c.if-not-is_used.false)
    (c.structure_said.ensures ∙ ap (λ w. named_structure (read_of w)) (c.cell.ensures ∙ ap (λ (x : Core). (core_state x).cell c.args.pointer) c.core_of-2.ensures))
