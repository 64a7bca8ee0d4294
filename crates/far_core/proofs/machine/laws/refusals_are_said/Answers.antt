use Rattle.far_core.proofs.RefusedCopying.{copying_refused}
use Rattle.far_core.proofs.RefusedEvents.{scopes_refused, pointers_refused, words_refused, logs_refused, rounds_refused, copies_refused}
use Rattle.far_core.proofs.RefusedNamings.{namings_refused}
use Rattle.far_core.proofs.TakingCopies.{taking_refused}
use Rattle.far_core.proofs.machine.laws.refusals_are_said.Goals as goal

pub returns-clause-scopes : goal.returns-clause-scopes
returns-clause-scopes c = scopes_refused

pub returns-clause-pointers : goal.returns-clause-pointers
returns-clause-pointers c = pointers_refused

pub returns-clause-words : goal.returns-clause-words
returns-clause-words c = words_refused

pub returns-clause-logs : goal.returns-clause-logs
returns-clause-logs c = logs_refused

pub returns-clause-rounds : goal.returns-clause-rounds
returns-clause-rounds c = rounds_refused

pub returns-clause-copying : goal.returns-clause-copying
returns-clause-copying c = copying_refused

pub returns-clause-namings : goal.returns-clause-namings
returns-clause-namings c = namings_refused

pub returns-clause-copies : goal.returns-clause-copies
returns-clause-copies c = copies_refused

pub returns-clause-taking : goal.returns-clause-taking
returns-clause-taking c = taking_refused
