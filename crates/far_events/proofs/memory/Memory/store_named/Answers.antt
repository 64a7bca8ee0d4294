use Rattle.std.specs.Prelude.{◌*◌}
use Rattle.far_word.specs.declared.sizes.TheConstants.{CELLS}
use Rattle.far_events.specs.declared.event.Event.TheVariants.{Name}
use Rattle.far_events.specs.events.Next.{next_state}
use Rattle.far_events.specs.state.Memory.{state_of}
use Rattle.far_events.specs.state.Stored.{RowsAre}
use Rattle.far_events.proofs.Kept.{some_is}
use Rattle.far_events.proofs.memory.Memory.store_named.Goals as goal

pub store_leaving-requires-clause-rows : goal.store_leaving-requires-clause-rows
store_leaving-requires-clause-rows c = c.requires.rows _ c.in-Some.is

pub returns-in-Some-clause-rows : goal.returns-in-Some-clause-rows
returns-in-Some-clause-rows c = some_is (λ rows. RowsAre (CELLS * (state_of c.args.self.now).mutators) (next_state (state_of c.args.self.now) (Name c.args.pointer c.args.old c.args.new)).stored rows) _ c.store_leaving.ensures
