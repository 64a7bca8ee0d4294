use Rattle.far_dict.proofs.Union.{apart_empty, both_empty}
use Rattle.far_dict.proofs.dict.Dict.new.Goals as goal

pub invariant_of-result : goal.invariant_of-result
invariant_of-result g c = apart_empty c.in-Ok.short c.new-in-Ok.result c.new-in-Ok.ensures.empty

pub returns-in-Ok-clause-empty : goal.returns-in-Ok-clause-empty
returns-in-Ok-clause-empty g c = both_empty c.in-Ok.short.entries c.new-in-Ok.result.entries c.in-Ok.ensures.empty c.new-in-Ok.ensures.empty
