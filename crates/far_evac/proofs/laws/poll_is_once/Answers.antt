use Rattle.far_evac.proofs.laws.poll_is_once.Goals as goal
use Rattle.far_evac.proofs.Named.{wait_is_named}
use Rattle.far_evac.proofs.Polls.{poll_again}

pub returns : goal.returns
returns c = record { once = poll_again; named = wait_is_named }
