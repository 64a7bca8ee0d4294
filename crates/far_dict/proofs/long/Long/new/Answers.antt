use Rattle.far_dict.proofs.Moves.{empty_sound}
use Rattle.far_dict.proofs.Tables.{entries_none}
use Rattle.far_dict.proofs.long.Long.new.Goals as goal

pub invariant_of-result : goal.invariant_of-result
invariant_of-result g c = empty_sound (g.O.Objects.far c.args.worker) c.new.result c.new.ensures c.requires.none

pub returns-clause-empty : goal.returns-clause-empty
returns-clause-empty g c = entries_none (g.O.Objects.far c.args.worker) c.new.result c.new.ensures
