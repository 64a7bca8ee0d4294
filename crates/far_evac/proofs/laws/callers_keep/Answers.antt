use Rattle.far_evac.proofs.laws.callers_keep.Goals as goal
use Rattle.far_evac.proofs.StepsAside.{fetching_aside, moving_aside, owners_aside, placing_aside, retiring_aside, steps_join, steps_keep, still_aside}

pub returns : goal.returns
returns c = record {
  keeps = steps_keep;
  joined = steps_join;
  still = still_aside;
  owners = owners_aside;
  placed = placing_aside;
  moved_now = moving_aside;
  fetched = fetching_aside;
  retired = retiring_aside;
}
