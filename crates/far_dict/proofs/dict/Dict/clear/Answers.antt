use Rattle.far_dict.proofs.Union.{apart_empty, both_empty}
use Rattle.far_dict.proofs.dict.Dict.clear.Goals as goal

pub invariant_of-self : goal.invariant_of-self
invariant_of-self g c = apart_empty c.clear.new.self c.clear-2.new.self c.clear-2.ensures.empty

pub returns-clause-empty : goal.returns-clause-empty
returns-clause-empty g c = both_empty c.clear.new.self.entries c.clear-2.new.self.entries c.clear.ensures.empty c.clear-2.ensures.empty
