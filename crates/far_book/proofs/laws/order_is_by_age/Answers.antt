use Rattle.far_book.proofs.laws.order_is_by_age.Goals as goal
use Rattle.far_book.proofs.region.Ageing.{fetching_seals, moving_seals, offering_seals, placing_seals}
use Rattle.far_book.proofs.region.ByAge.{without_keeps_ages}

pub returns-clause-placed : goal.returns-clause-placed
returns-clause-placed c = placing_seals

pub returns-clause-fetched : goal.returns-clause-fetched
returns-clause-fetched c = fetching_seals

pub returns-clause-moved : goal.returns-clause-moved
returns-clause-moved c = moving_seals

pub returns-clause-offered : goal.returns-clause-offered
returns-clause-offered c = offering_seals

pub returns-clause-released : goal.returns-clause-released
returns-clause-released c = without_keeps_ages
