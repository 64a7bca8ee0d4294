use Rattle.far_evac.proofs.laws.census_is_exact.Goals as goal
use Rattle.far_evac.proofs.Censuses.{census_is}
use Rattle.far_evac.proofs.Listing.{census_lists}

pub returns : goal.returns
returns c = record { exact = census_is; each = census_lists }
