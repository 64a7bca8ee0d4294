use Rattle.far_evac.proofs.laws.callers_keep_order.Goals as goal
use Rattle.far_evac.proofs.Ageing.{callers_seal_behind}
use Rattle.far_evac.proofs.StepsAside.{cores_join, fetching_order, moving_order, placing_order, retiring_order, still_order}

pub returns : goal.returns
returns c = record {
  ages = callers_seal_behind;
  joined = cores_join;
  still = still_order;
  placed = placing_order;
  moved_now = moving_order;
  fetched = fetching_order;
  retired = retiring_order;
}
