use Rattle.far_book.proofs.laws.loads_give_stored.Goals as goal
use Rattle.far_book.proofs.region.Actions.{events_are_actions, loads_give_stored}

pub returns-clause-stored : goal.returns-clause-stored
returns-clause-stored c = loads_give_stored

pub returns-clause-events : goal.returns-clause-events
returns-clause-events c = events_are_actions
