use Rattle.std.proofs.Common.{◌∙◌}
use Rattle.far_events.specs.declared.event.Event.TheVariants.{Name}
use Rattle.far_events.specs.state.Memory.{state_of}
use Rattle.far_core.proofs.Calls.{law_after}
use Rattle.far_events.proofs.Calls.{next_is_after}
use Rattle.far_core.proofs.Kept.{rows_named}
use Rattle.far_core.proofs.Owing.{is_test}
use Rattle.far_core.proofs.machine.Core.name.Goals as goal

pub store_named-requires-clause-legal : goal.store_named-requires-clause-legal
store_named-requires-clause-legal c = is_test (state_of c.args.self.now.memory) (Name c.args.pointer c.args.old c.args.new) c.requires.legal

pub name-requires-clause-legal : goal.name-requires-clause-legal
name-requires-clause-legal c = is_test (state_of c.args.self.now.memory) (Name c.args.pointer c.args.old c.args.new) c.requires.legal

pub invariant_of-self : goal.invariant_of-self
invariant_of-self c = record {
  law = law_after (state_of c.args.self.now.memory) _ (Name c.args.pointer c.args.old c.args.new) c.name.ensures.state c.args.self.now.law c.requires.legal (c.ranges.old.fits, c.ranges.new.fits);
  rows_are = rows_named _ (state_of c.args.self.now.memory) _ (Name c.args.pointer c.args.old c.args.new) c.name.ensures.state c.store_named.ensures.rows;
}

pub returns-clause-state : goal.returns-clause-state
returns-clause-state c = c.name.ensures.state ∙ next_is_after _ _

pub returns-clause-won : goal.returns-clause-won
returns-clause-won c = c.name.ensures.won

pub returns-clause-found : goal.returns-clause-found
returns-clause-found c = c.name.ensures.found

pub returns-clause-kept : goal.returns-clause-kept
returns-clause-kept c = c.store_named.ensures.kept
