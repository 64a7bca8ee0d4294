use Rattle.std.proofs.Common.{◌∙◌, refl}
use Rattle.far_events.specs.declared.event.Event.TheVariants.{Store}
use Rattle.far_events.specs.state.Memory.{state_of}
use Rattle.far_events.proofs.Calls.{next_is_after, soiled_held}
use Rattle.far_core.proofs.Calls.{store_keeps_law}
use Rattle.far_core.proofs.Kept.{rows_after}
use Rattle.far_core.proofs.machine.Core.store.Goals as goal

pub store-requires-clause-held : goal.store-requires-clause-held
store-requires-clause-held c = soiled_held (state_of c.args.self.now.memory) c.args.self.now.law c.args.pointer c.requires.soiled

pub invariant_of-self : goal.invariant_of-self
invariant_of-self c =
    record {
      law = rw c.store.ensures (store_keeps_law (state_of c.args.self.now.memory) c.args.owner c.args.pointer c.args.index c.args.word
          c.args.self.now.law c.requires.own c.requires.soiled c.requires.inside c.requires.padding c.ranges.word.fits);
      rows_are = rows_after c.args.self.now.rows (state_of c.args.self.now.memory) _ (Store c.args.owner c.args.pointer c.args.index c.args.word) c.store.ensures refl c.args.self.now.rows_are;
    }

pub returns-clause-state : goal.returns-clause-state
returns-clause-state c = c.store.ensures ∙ next_is_after _ _
