use Rattle.far_book.proofs.laws.jobs_come_and_go.Goals as goal
use Rattle.far_book.proofs.region.JobsEnd.{emptied_are_void, named_are_copies, none_finished, none_offered, offers_are_jobs}

pub returns-clause-offered : goal.returns-clause-offered
returns-clause-offered c = offers_are_jobs

pub returns-clause-named : goal.returns-clause-named
returns-clause-named c = named_are_copies

pub returns-clause-emptied : goal.returns-clause-emptied
returns-clause-emptied c = emptied_are_void

pub returns-clause-collected : goal.returns-clause-collected
returns-clause-collected c = none_finished

pub returns-clause-taken_back : goal.returns-clause-taken_back
returns-clause-taken_back c = none_offered
