use Rattle.std.proofs.Common.{◌∙◌, sym}
use Rattle.std.proofs.lemmas.Bool.{false≢true}
use Rattle.far_core.specs.state.CoreState.{core_state}
use Rattle.far_core.specs.state.Kept.{tells}
use Rattle.far_events.specs.state.Memory.{state_of}
use Rattle.far_core.proofs.Kept.{rows_stepped, tells_other}
use Rattle.far_core.proofs.Steps.{agrees, happens, happens_told, made, made_only, passes, turned}
use Rattle.far_core.proofs.machine.Core.step.Goals as goal

pub apply-requires-clause-other : goal.apply-requires-clause-other
apply-requires-clause-other c = sym c.is_naming.ensures ∙ c.if-is_naming.false

pub invariant_of-self : goal.invariant_of-self
invariant_of-self c = record {
  law = (passes (state_of c.args.self.now.memory) _ _ c.args.event c.args.self.now.law c.apply.ensures.fits c.apply.ensures.step).law;
  rows_are = rows_stepped c.args.self.now.rows (state_of c.args.self.now.memory) _ _ c.args.event c.apply.ensures.step (sym c.is_naming.ensures ∙ c.if-is_naming.false) c.args.self.now.rows_are;
}

-- of a naming
pub returns-then-is_naming-clause-legal : goal.returns-then-is_naming-clause-legal
returns-then-is_naming-clause-legal c = λ told. made (core_state c.args.self.now) _ _ c.args.event c.args.self.now.law c.step_naming.ensures.fits (c.step_naming.ensures.step told)

pub returns-then-is_naming-clause-refused : goal.returns-then-is_naming-clause-refused
returns-then-is_naming-clause-refused c = λ told. turned (core_state c.args.self.now) _ _ c.args.event c.args.self.now.law c.step_naming.ensures.fits (c.step_naming.ensures.step told)

pub returns-then-is_naming-clause-refused_only : goal.returns-then-is_naming-clause-refused_only
returns-then-is_naming-clause-refused_only c = λ told. made_only (core_state c.args.self.now) _ _ c.args.event c.args.self.now.law c.step_naming.ensures.fits (c.step_naming.ensures.step told)

pub returns-then-is_naming-clause-agrees : goal.returns-then-is_naming-clause-agrees
returns-then-is_naming-clause-agrees c = agrees (core_state c.step_naming.new.self) c.step_naming.new.self.law

pub returns-then-is_naming-clause-world : goal.returns-then-is_naming-clause-world
returns-then-is_naming-clause-world c =
    happens_told (core_state c.args.self.now) _ _ c.args.event c.args.self.now.law (tells c.args.self.now c.args.event) (λ _. c.step_naming.ensures.fits) c.step_naming.ensures.step c.step_naming.ensures.untold

-- of any other event
pub returns-else-is_naming-clause-legal : goal.returns-else-is_naming-clause-legal
returns-else-is_naming-clause-legal c = λ _. made (state_of c.args.self.now.memory) _ _ c.args.event c.args.self.now.law c.apply.ensures.fits c.apply.ensures.step

pub returns-else-is_naming-clause-refused : goal.returns-else-is_naming-clause-refused
returns-else-is_naming-clause-refused c = λ _. turned (state_of c.args.self.now.memory) _ _ c.args.event c.args.self.now.law c.apply.ensures.fits c.apply.ensures.step

pub returns-else-is_naming-clause-refused_only : goal.returns-else-is_naming-clause-refused_only
returns-else-is_naming-clause-refused_only c = λ _. made_only (state_of c.args.self.now.memory) _ _ c.args.event c.args.self.now.law c.apply.ensures.fits c.apply.ensures.step

pub returns-else-is_naming-clause-untold : goal.returns-else-is_naming-clause-untold
returns-else-is_naming-clause-untold c = λ untold. absurd (false≢true (sym untold ∙ tells_other c.args.self.now c.args.event (sym c.is_naming.ensures ∙ c.if-is_naming.false)))

pub returns-else-is_naming-clause-agrees : goal.returns-else-is_naming-clause-agrees
returns-else-is_naming-clause-agrees c = agrees _ (passes (state_of c.args.self.now.memory) _ _ c.args.event c.args.self.now.law c.apply.ensures.fits c.apply.ensures.step).law

pub returns-else-is_naming-clause-world : goal.returns-else-is_naming-clause-world
returns-else-is_naming-clause-world c = happens (state_of c.args.self.now.memory) _ _ c.args.event c.args.self.now.law c.apply.ensures.fits c.apply.ensures.step
