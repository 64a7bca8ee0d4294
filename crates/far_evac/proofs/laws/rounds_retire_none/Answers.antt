use Rattle.far_evac.proofs.laws.rounds_retire_none.Goals as goal
use Rattle.far_evac.proofs.RetiresNone.{turns_retire_none, walk_retires_none}

pub returns : goal.returns
returns c = record { walking = walk_retires_none; turns = turns_retire_none }
